-- An index of definitions, one more at a time.
use Rattle.std.proofs.Common.{◌≡◌, ℕ, zero, suc, ◌+◌, ◌<◌, List, [], ◌∷◌, ◌++◌, length, map, take, slice_get, get_or, Some, sym, ap, subst, ◌∙◌, arith}
use Rattle.std.proofs.lemmas.List.{take_more, map_push}
use Rattle.akl_terms.specs.declared.program.Definition.{Definition}
use Rattle.clause_keys.specs.declared.callee.Callee.{Callee}
use Rattle.clause_keys.specs.Keys.{called_by, AreUnique, Adds, known, next}

taken_place : {A B : Type 0} (f : A → B) (xs : List A) (i n : ℕ) (k : B) → slice_get (map f (take i xs)) n ≡ Some k → (n < i) × (slice_get (map f xs) n ≡ Some k)
taken_place f [] zero n k e = absurd cc
taken_place f [] (suc i) n k e = absurd cc
taken_place f (x ∷ xs) zero n k e = absurd cc
taken_place f (x ∷ xs) (suc i) zero k e = (omega arith, e)
taken_place f (x ∷ xs) (suc i) (suc n) k e = (let h = taken_place f xs i n k e in (omega (arith, h.0), h.1))

mapped_place : {A B : Type 0} (f : A → B) (xs : List A) (i : ℕ) (x : A) → i < length xs → x ≡ get_or xs i x → slice_get (map f xs) i ≡ Some (f x)
mapped_place f [] i x h e = absurd (omega arith)
mapped_place f (y ∷ xs) zero x h e = ap (λ z. Some (f z)) (sym e)
mapped_place f (y ∷ xs) (suc i) x h e = mapped_place f xs i x (omega arith) e

pub definition_more : {callees more : List Callee} {n : ℕ} (ds : List Definition) (i : ℕ) (d : Definition) → AreUnique (map called_by ds) → callees ≡ map called_by (take i ds) → i < length ds → d ≡ get_or ds i d
    → Adds callees (called_by d) more n → more ≡ map called_by (take (i + 1) ds)
definition_more {callees} {more} {n} ds i d u e h f a = by_case more n a
  where
    more_taken : map called_by (take (i + 1) ds) ≡ map called_by (take i ds) ++ called_by d ∷ []
    more_taken = ap (map called_by) (take_more ds i d h) ∙ map_push called_by (take i ds) _ ∙ ap (λ x. map called_by (take i ds) ++ called_by x ∷ []) (sym f)

    by_case : (new : List Callee) (m : ℕ) → Adds callees (called_by d) new m → new ≡ map called_by (take (i + 1) ds)
    by_case new m (known g) = (
        let at = taken_place called_by ds i m (called_by d) (subst (λ (z : List Callee). slice_get z m ≡ Some (called_by d)) e g) in
        let same : m ≡ i = u.one m i (called_by d) at.1 (mapped_place called_by ds i d h f) in
        absurd (omega (arith, at.0)))
    by_case new m (next g) = ap (λ (z : List Callee). z ++ called_by d ∷ []) e ∙ sym more_taken
