-- New names for old ones, by their places.
use Rattle.std.proofs.Common.{◌≡◌, ℕ, zero, suc, ◌+◌, ◌<◌, ◌≤◌, List, [], ◌∷◌, length, Bool, true, false, Some, sym, ap, ◌∙◌, subst, ◌⊎◌, inl, inr, refl, arith}
use Rattle.std.specs.Prelude.{if◌then◌else◌, slice_get}
use Rattle.akl_terms.specs.declared.name.Name.{Name}
use Rattle.akl_terms.specs.Names.{same_name, is_before}
use Rattle.akl_terms.proofs.SameNames.{same_name-equal, same_name-refl}
use Rattle.akl_model.specs.Config.{IsIn}
use Rattle.akl_model.specs.Ordered.{IsIncreasing}
use Rattle.akl_model.proofs.Options.{some_value}
use Rattle.table_laws.specs.Copying.{swapping}
use Rattle.box_copies.specs.Swaps.{AreBelow}
use Rattle.box_copies.proofs.Orders.{before_itself, before_in}

abbrev fresh : ℕ → ℕ → Name
fresh w k = record { worker = w; number = k }

pub placed_in : (ns : List Name) (i : ℕ) (n : Name) → slice_get ns i ≡ Some n → IsIn n ns
placed_in [] i n e = cc
placed_in (m ∷ ns) zero n e = inl (sym (some_value e))
placed_in (m ∷ ns) (suc i) n e = inr (placed_in ns i n e)

-- two names that differ
other : (n m : Name) → (n ≡ m → ⊥) → same_name n m ≡ false
other n m differ = on (same_name n m) refl
  where
    on : (t : Bool) → same_name n m ≡ t → t ≡ false
    on true e = absurd (differ (same_name-equal n m e))
    on false e = refl

same : (n m : Name) → n ≡ m → same_name n m ≡ true
same n m e = subst (λ (k : Name). same_name n k ≡ true) e (same_name-refl n)

-- one step of the list
module _ (m : Name) (ns : List Name) (w next : ℕ) (n : Name) where
  first_old : same_name n m ≡ true → swapping (m ∷ ns) w next n ≡ fresh w next
  first_old e = ap (λ (t : Bool). if t then fresh w next else (if same_name n (fresh w next) then m else swapping ns w (next + 1) n)) e

  first_new : same_name n m ≡ false → same_name n (fresh w next) ≡ true → swapping (m ∷ ns) w next n ≡ m
  first_new e f = ap (λ (t : Bool). if t then fresh w next else (if same_name n (fresh w next) then m else swapping ns w (next + 1) n)) e ∙ ap (λ (t : Bool). if t then m else swapping ns w (next + 1) n) f

  later : same_name n m ≡ false → same_name n (fresh w next) ≡ false → swapping (m ∷ ns) w next n ≡ swapping ns w (next + 1) n
  later e f = ap (λ (t : Bool). if t then fresh w next else (if same_name n (fresh w next) then m else swapping ns w (next + 1) n)) e ∙ ap (λ (t : Bool). if t then m else swapping ns w (next + 1) n) f

below_later : (m : Name) (ns : List Name) (w next : ℕ) → AreBelow (m ∷ ns) w next → AreBelow ns w (next + 1)
below_later m ns w next below = λ k i e. let b : k.number < next = below k (inr i) e in omega arith

-- an old name gets the number of its place
pub swapping_at : (ns : List Name) (w next i : ℕ) (n : Name) → AreBelow ns w next → IsIncreasing ns → slice_get ns i ≡ Some n → swapping ns w next n ≡ record { worker = w; number = next + i }
swapping_at [] w next i n below o e = cc
swapping_at (m ∷ ns) w next zero n below o e = first_old m ns w next n (same n m (sym (some_value e))) ∙ ap (λ (k : ℕ). fresh w k) (omega arith)
swapping_at (m ∷ ns) w next (suc i) n below o e =
    let among : IsIn n ns = placed_in ns i n e in
    let behind : n ≡ m → ⊥ = λ q. before_itself m (subst (λ (k : Name). is_before m k ≡ true) q (before_in m n ns o.0 among)) in
    let old : n ≡ fresh w next → ⊥ = λ q. (let b : n.number < next = below n (inr among) (ap (λ (k : Name). k.worker) q) in let c : n.number ≡ next = ap (λ (k : Name). k.number) q in absurd (omega arith)) in
    later m ns w next n (other n m behind) (other n (fresh w next) old) ∙ swapping_at ns w (next + 1) i n (below_later m ns w next below) o.1 e ∙ ap (λ (k : ℕ). fresh w k) (omega arith)

-- a new name that isn't an old one becomes the old one at its place
pub swapping_back : (ns : List Name) (w next i : ℕ) (m n : Name) → (IsIn n ns → ⊥) → n ≡ record { worker = w; number = next + i } → slice_get ns i ≡ Some m → swapping ns w next n ≡ m
swapping_back [] w next i m n away is e = cc
swapping_back (k ∷ ns) w next zero m n away is e =
    first_new k ns w next n (other n k (λ q. away (inl q))) (same n (fresh w next) (is ∙ ap (λ (j : ℕ). fresh w j) (omega arith))) ∙ some_value e
swapping_back (k ∷ ns) w next (suc i) m n away is e =
    let old : n ≡ fresh w next → ⊥ = λ q. (let c : next + suc i ≡ next = ap (λ (j : Name). j.number) (sym is ∙ q) in absurd (omega arith)) in
    later k ns w next n (other n k (λ q. away (inl q))) (other n (fresh w next) old) ∙ swapping_back ns w (next + 1) i m n (λ j. away (inr j)) (is ∙ ap (λ (j : ℕ). fresh w j) (omega arith)) e

-- a name that is neither stays
pub swapping_away : (ns : List Name) (w next : ℕ) (n : Name) → (IsIn n ns → ⊥) → (n.worker ≡ w → (n.number < next) ⊎ (next + length ns ≤ n.number)) → swapping ns w next n ≡ n
swapping_away [] w next n away out = refl
swapping_away (k ∷ ns) w next n away out =
    let old : n ≡ fresh w next → ⊥ = λ q. (let c : n.number ≡ next = ap (λ (j : Name). j.number) q in elim (out (ap (λ (j : Name). j.worker) q)) [ inl b ↦ absurd (omega arith) | inr b ↦ absurd (omega arith) ]) in
    later k ns w next n (other n k (λ q. away (inl q))) (other n (fresh w next) old)
    ∙ swapping_away ns w (next + 1) n (λ j. away (inr j)) (λ q. elim (out q) [ inl b ↦ inl (omega arith) | inr b ↦ inr (omega arith) ])
