-- Where in a list what is put in comes to stand.
use Rattle.std.proofs.Common.{◌≡◌, ℕ, suc, ◌+◌, ◌-◌, ◌<◌, ◌≤◌, List, [], ◌∷◌, ◌++◌, length, take, drop, drop-cons, add-one, Bool, true, false, if◌then◌else◌, refl, sym, ap, subst, ◌∙◌, slice_index_or, arith}
use Rattle.std.specs.Prelude.{nat_lt, not}
use Rattle.std.specs.List.{insert}
use Rattle.std.specs.Ordering.{is_lt, match_ordering, ordering_reverse}
use Rattle.std.specs.declared.cmp.Ordering.{Ordering}
use Rattle.std.specs.declared.cmp.Ordering.TheVariants.{Less, Equal, Greater}
use Rattle.std.proofs.lemmas.Cmp.{tied_itself}
use Rattle.std.proofs.lemmas.List.{length-drop}
use Rattle.akl_terms.specs.declared.name.Name.{Name}
use Rattle.akl_terms.specs.declared.name.Var.{Var}
use Rattle.akl_terms.specs.declared.term.Term.{Term}
use Rattle.akl_terms.specs.Names.{same_name, name_cmp}
use Rattle.akl_terms.proofs.SameNames.{same_name-equal, same_name-refl}
use Rattle.name_map.proofs.NameOrder.{name_total, name_exact}
use Rattle.local_store.specs.Stored.{var_before, joined, named}
use Rattle.local_store.specs.Kept.{front, put_at, place_at, binding_place, frame_place, run_of, AreOf, StartOf}

module _ {A : Type 0} (test : A → Bool) where
  pub front-within : (xs : List A) → front test xs ≤ length xs
  front-within [] = omega arith
  front-within (x ∷ xs) = on (test x) (front-within xs)
    where
      on : (k : Bool) → front test xs ≤ length xs → (if k then suc (front test xs) else 0) ≤ suc (length xs)
      on true h = omega arith
      on false h = omega arith

  -- the element at `i` is looked at, once all before it passed
  module _ (xs : List A) (i : ℕ) (d : A) (more : i < length xs) (here : front test xs ≡ i + front test (drop i xs)) where
    next : front test (drop i xs) ≡ (if test (slice_index_or xs i d) then suc (front test (drop (suc i) xs)) else 0)
    next = ap (front test) (drop-cons xs i d more)

    pub front-passed : test (slice_index_or xs i d) ≡ true → front test xs ≡ (i + 1) + front test (drop (i + 1) xs)
    front-passed e = let n : front test (drop i xs) ≡ suc (front test (drop (suc i) xs)) = next ∙ ap (λ (k : Bool). if k then suc (front test (drop (suc i) xs)) else 0) e in rw add-one (omega arith)

    pub front-reached : test (slice_index_or xs i d) ≡ false → i ≡ front test xs
    front-reached e = let n : front test (drop i xs) ≡ 0 = next ∙ ap (λ (k : Bool). if k then suc (front test (drop (suc i) xs)) else 0) e in omega arith

-- those at the front that bind variables of a frame
pub run-is_of : (n : Name) (bs : List (Var × Term)) → AreOf n (take (run_of bs n) bs)
run-is_of n [] = tt
run-is_of n (b ∷ bs) = on (same_name b.0.frame n) refl (run-is_of n bs)
  where
    on : (k : Bool) → same_name b.0.frame n ≡ k → AreOf n (take (run_of bs n) bs) → AreOf n (take (if k then suc (run_of bs n) else 0) (b ∷ bs))
    on true e h = (same_name-equal b.0.frame n e, h)
    on false e h = tt

-- those behind the first ones
pub run-within : (bs : List (Var × Term)) (n : Name) (first many : ℕ) → first ≤ length bs → many ≡ run_of (drop first bs) n → (many ≤ length (drop first bs)) × (first + many ≤ length bs)
run-within bs n first many h e =
    let within : run_of (drop first bs) n ≤ length (drop first bs) = front-within (λ (b : Var × Term). same_name b.0.frame n) (drop first bs) in
    let left : length (drop first bs) ≡ length bs - first = length-drop first bs in
    (omega (arith, within, e), omega (arith, within, e, left))

pub run-some : (n : Name) (bs : List (Var × Term)) → StartOf n bs → 0 < run_of bs n
run-some n [] h = absurd h
run-some n (b ∷ bs) h = on (same_name b.0.frame n) (ap (λ (m : Name). same_name m n) h ∙ same_name-refl n)
  where
    on : (k : Bool) → k ≡ true → 0 < (if k then suc (run_of bs n) else 0)
    on true e = omega arith
    on false e = cc

pub start-some : (n : Name) (bs : List (Var × Term)) → StartOf n bs → 0 < length bs
start-some n [] h = absurd h
start-some n (b ∷ bs) h = omega arith

pub put-last : (bs : List (ℕ × Term)) (i : ℕ) (t : Term) → place_at bs i ≡ length bs → bs ++ (i, t) ∷ [] ≡ put_at bs i t
put-last [] i t e = refl
put-last (b ∷ bs) i t e = on (nat_lt i b.0) e (put-last bs i t)
  where
    on : (k : Bool) → (if not k then suc (place_at bs i) else 0) ≡ suc (length bs) → (place_at bs i ≡ length bs → bs ++ (i, t) ∷ [] ≡ put_at bs i t)
        → b ∷ bs ++ (i, t) ∷ [] ≡ (if k then (i, t) ∷ b ∷ bs else b ∷ put_at bs i t)
    on true e g = absurd (omega (arith, e))
    on false e g = ap (λ (l : List (ℕ × Term)). b ∷ l) (g (omega (arith, e)))

pub put-here : (bs : List (ℕ × Term)) (i : ℕ) (t : Term) → insert bs (place_at bs i) (i, t) ≡ put_at bs i t
put-here [] i t = refl
put-here (b ∷ bs) i t = on (nat_lt i b.0) (put-here bs i t)
  where
    on : (k : Bool) → insert bs (place_at bs i) (i, t) ≡ put_at bs i t
        → insert (b ∷ bs) (if not k then suc (place_at bs i) else 0) (i, t) ≡ (if k then (i, t) ∷ b ∷ bs else b ∷ put_at bs i t)
    on true g = refl
    on false g = ap (λ (l : List (ℕ × Term)). b ∷ l) g

pub joined-here : (bs : List (Var × Term)) (x : Var) (t : Term) → insert bs (binding_place bs x) (x, t) ≡ joined bs x t
joined-here [] x t = refl
joined-here (b ∷ bs) x t = on (var_before x b.0) (joined-here bs x t)
  where
    on : (k : Bool) → insert bs (binding_place bs x) (x, t) ≡ joined bs x t
        → insert (b ∷ bs) (if not k then suc (binding_place bs x) else 0) (x, t) ≡ (if k then (x, t) ∷ b ∷ bs else b ∷ joined bs x t)
    on true g = refl
    on false g = ap (λ (l : List (Var × Term)). b ∷ l) g

-- a frame that is there, and one that isn't
module _ (n : Name) where
  pub named-there : (ns : List Name) (d : Name) → frame_place ns n < length ns → slice_index_or ns (frame_place ns n) d ≡ n → named ns n ≡ ns
  named-there [] d h e = absurd (omega arith)
  named-there (m ∷ ns) d h e = on (name_cmp n m) refl (named-there ns d) h e
    where
      Here : Ordering → Ordering → Type 0
      Here o r = (if is_lt r then suc (frame_place ns n) else 0) < suc (length ns) → slice_index_or (m ∷ ns) (if is_lt r then suc (frame_place ns n) else 0) d ≡ n
          → match_ordering o (n ∷ m ∷ ns) (m ∷ ns) (m ∷ named ns n) ≡ m ∷ ns

      by : (o : Ordering) → name_cmp n m ≡ o → (frame_place ns n < length ns → slice_index_or ns (frame_place ns n) d ≡ n → named ns n ≡ ns) → Here o (ordering_reverse o)
      by Less q f = λ h e. let z : Equal ≡ Less = sym (tied_itself name_total n) ∙ ap (name_cmp n) (sym e) ∙ q in cc
      by Equal q f = λ h e. refl
      by Greater q f = λ h e. ap (λ (l : List Name). m ∷ l) (f (omega arith) e)

      on : (o : Ordering) → name_cmp n m ≡ o → (frame_place ns n < length ns → slice_index_or ns (frame_place ns n) d ≡ n → named ns n ≡ ns) → Here o (name_cmp m n)
      on o q f = subst (Here o) (sym (name_total.antisymm m n ∙ ap ordering_reverse q)) (by o q f)

  pub named-here : (ns : List Name) → ((d : Name) → frame_place ns n < length ns → slice_index_or ns (frame_place ns n) d ≡ n → ⊥) → insert ns (frame_place ns n) n ≡ named ns n
  named-here [] other = refl
  named-here (m ∷ ns) other = on (name_cmp n m) refl (named-here ns) other
    where
      Here : Ordering → Ordering → Type 0
      Here o r = ((d : Name) → (if is_lt r then suc (frame_place ns n) else 0) < suc (length ns) → slice_index_or (m ∷ ns) (if is_lt r then suc (frame_place ns n) else 0) d ≡ n → ⊥)
          → insert (m ∷ ns) (if is_lt r then suc (frame_place ns n) else 0) n ≡ match_ordering o (n ∷ m ∷ ns) (m ∷ ns) (m ∷ named ns n)

      by : (o : Ordering) → name_cmp n m ≡ o → (((d : Name) → frame_place ns n < length ns → slice_index_or ns (frame_place ns n) d ≡ n → ⊥) → insert ns (frame_place ns n) n ≡ named ns n) → Here o (ordering_reverse o)
      by Less q f = λ no. refl
      by Equal q f = λ no. absurd (no m (omega arith) (sym (name_exact n m q)))
      by Greater q f = λ no. ap (λ (l : List Name). m ∷ l) (f (λ d h e. no d (omega arith) e))

      on : (o : Ordering) → name_cmp n m ≡ o → (((d : Name) → frame_place ns n < length ns → slice_index_or ns (frame_place ns n) d ≡ n → ⊥) → insert ns (frame_place ns n) n ≡ named ns n) → Here o (name_cmp m n)
      on o q f = subst (Here o) (sym (name_total.antisymm m n ∙ ap ordering_reverse q)) (by o q f)
