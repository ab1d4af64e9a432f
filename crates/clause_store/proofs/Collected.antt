-- What collecting callees keeps.
use Rattle.std.proofs.Common.{◌≡◌, ℕ, zero, suc, ◌+◌, ◌≤◌, ◌-◌, List, [], ◌∷◌, ◌++◌, length, map, slice_get, get_or, Some, ◌⊎◌, inl, inr, sym, ap, subst, ◌∙◌, arith}
use Rattle.std.proofs.lemmas.List.{length-append, append-nil}
use Rattle.akl_terms.proofs.Numbering.{slice_get-front, slice_get-behind, slice_get-one_more}
use Rattle.akl_syntax.specs.Clauses.{Clause}
use Rattle.clause_keys.specs.declared.callee.Callee.{Callee}
use Rattle.clause_keys.specs.Keys.{defined_by, IsAbsent, AreUnique, Adds, known, next, Collects, nothing}
use Rattle.clause_keys.specs.Keys as keys
use Rattle.clause_store.specs.Loaded.{AreOf, no_clauses, other}

-- ---- places in two lists
pub get_further : {A : Type 0} (xs ys : List A) (i : ℕ) → slice_get (xs ++ ys) (length xs + i) ≡ slice_get ys i
get_further [] ys i = let e : 0 + i ≡ i = omega arith in ap (slice_get ys) e
get_further (x ∷ xs) ys i = let e : suc (length xs) + i ≡ suc (length xs + i) = omega arith in ap (slice_get (x ∷ xs ++ ys)) e ∙ get_further xs ys i

pub get_either : {A : Type 0} (xs ys : List A) (i : ℕ) (x : A) → slice_get (xs ++ ys) i ≡ Some x → (slice_get xs i ≡ Some x) ⊎ ((length xs ≤ i) × (slice_get ys (i - length xs) ≡ Some x))
get_either [] ys i x e = let z : i - 0 ≡ i = omega arith in inr (omega arith, ap (slice_get ys) z ∙ e)
get_either (y ∷ xs) ys zero x e = inl e
get_either (y ∷ xs) ys (suc i) x e = elim (get_either xs ys i x e) [
  | inl h ↦ inl h
  | inr h ↦ let z : suc i - suc (length xs) ≡ i - length xs = omega arith in inr (omega (arith, h.0), ap (slice_get ys) z ∙ h.1)
]

pub place_is : {A : Type 0} (xs : List A) (i : ℕ) (x : A) → slice_get xs i ≡ Some x → get_or xs i x ≡ x
place_is [] i x h = absurd cc
place_is (z ∷ xs) zero x h = cc
place_is (z ∷ xs) (suc i) x h = place_is xs i x h

-- ---- one that is added
pub adds_there : {old new : List Callee} {k : Callee} {d : ℕ} → Adds old k new d → slice_get new d ≡ Some k
adds_there (known e) = e
adds_there {old} {k = k} (next a) = slice_get-behind old k

pub adds_stays : {old new : List Callee} {k : Callee} {d : ℕ} → Adds old k new d → (i : ℕ) (x : Callee) → slice_get old i ≡ Some x → slice_get new i ≡ Some x
adds_stays (known e) i x h = h
adds_stays {old} {k = k} (next a) i x h = slice_get-front old (k ∷ []) i x h

adds_unique : {old new : List Callee} {k : Callee} {d : ℕ} → AreUnique old → Adds old k new d → AreUnique new
adds_unique u (known e) = u
adds_unique {old} {k = k} u (next a) = record { one = λ i j x p q. both_places i j x (slice_get-one_more old k i x p) (slice_get-one_more old k j x q) }
  where
    both_places : (i j : ℕ) (x : Callee) → (slice_get old i ≡ Some x) ⊎ ((i ≡ length old) × (x ≡ k)) → (slice_get old j ≡ Some x) ⊎ ((j ≡ length old) × (x ≡ k)) → i ≡ j
    both_places i j x (inl p) (inl q) = u.one i j x p q
    both_places i j x (inl p) (inr q) = absurd (a.absent i (p ∙ ap Some q.1))
    both_places i j x (inr p) (inl q) = absurd (a.absent j (q ∙ ap Some p.1))
    both_places i j x (inr p) (inr q) = p.0 ∙ sym q.0

adds_length : {old new : List Callee} {k : Callee} {d : ℕ} → Adds old k new d → length new ≤ length old + 1
adds_length (known e) = omega arith
adds_length {old} {k = k} (next a) = omega (arith, length-append old (k ∷ []))

-- ---- all that clauses define
pub collects_stays : {old all : List Callee} {cs : List Clause} → Collects old cs all → (i : ℕ) (x : Callee) → slice_get old i ≡ Some x → slice_get all i ≡ Some x
collects_stays nothing i x h = h
collects_stays (keys.next a p) i x h = collects_stays p i x (adds_stays a i x h)

pub collects_more : {old mid new : List Callee} {cs : List Clause} {d : ℕ} (c : Clause) → Collects old cs mid → Adds mid (defined_by c) new d → Collects old (cs ++ c ∷ []) new
collects_more c nothing a = keys.next a nothing
collects_more c (keys.next b p) a = keys.next b (collects_more c p a)

pub collects_unique : {old all : List Callee} {cs : List Clause} → AreUnique old → Collects old cs all → AreUnique all
collects_unique u nothing = u
collects_unique u (keys.next a p) = collects_unique (adds_unique u a) p

pub collects_length : {old all : List Callee} {cs : List Clause} → Collects old cs all → length all ≤ length old + length cs
collects_length nothing = omega arith
collects_length (keys.next a p) = omega (arith, adds_length a, collects_length p)

-- what is at no place is defined by no clause
pub none_of : {old all : List Callee} {cs : List Clause} {k : Callee} → Collects old cs all → IsAbsent all k → AreOf k cs []
none_of nothing a = no_clauses
none_of {k = k} (keys.next {d = d} b p) a = other (λ e. a.absent d (collects_stays p d k (adds_there b ∙ ap Some e))) (none_of p a)

-- the first of these, or one of the others
first_or : (all ks : List Callee) {c k : Callee} (d : ℕ) → slice_get all d ≡ Some c → ((n : ℕ) → slice_get ks n ≡ Some k → (j : ℕ) × (slice_get all j ≡ Some k))
    → (n : ℕ) → slice_get (c ∷ ks) n ≡ Some k → (j : ℕ) × (slice_get all j ≡ Some k)
first_or all ks d t f zero h = (d, t ∙ h)
first_or all ks d t f (suc n) h = f n h

-- each that was known, and each that a clause defines, has a place
pub collects_each : {old all : List Callee} {cs : List Clause} → Collects old cs all → (i : ℕ) (k : Callee) → slice_get (old ++ map defined_by cs) i ≡ Some k → (j : ℕ) × (slice_get all j ≡ Some k)
collects_each {old} nothing i k e = (i, subst (λ (z : List Callee). slice_get z i ≡ Some k) (append-nil old) e)
collects_each {old} (keys.next {more = more} {c = c} {cs = cs} {d = d} a p) i k e = elim (get_either old (defined_by c ∷ map defined_by cs) i k e) [
  | inl h ↦ (i, collects_stays p i k (adds_stays a i k h))
  | inr h ↦ first_or _ (map defined_by cs) d (collects_stays p d (defined_by c) (adds_there a)) (λ n f. collects_each p (length more + n) k (get_further more (map defined_by cs) n ∙ f)) (i - length old) h.1
]

-- what some clauses define, and then others behind them
pub collects_both : {old mid all : List Callee} {cs ds : List Clause} → Collects old cs mid → Collects mid ds all → Collects old (cs ++ ds) all
collects_both nothing q = q
collects_both (keys.next a p) q = keys.next a (collects_both p q)
