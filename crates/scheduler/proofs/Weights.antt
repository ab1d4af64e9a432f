-- How the boxes of open places count when one comes, is closed, or comes later.
use Rattle.std.proofs.Common.{◌≡◌, ℕ, suc, ◌+◌, ◌<◌, Bool, true, false, List, [], ◌∷◌, length, Some, None, refl, sym, ap, ◌∙◌, arith}
use Rattle.std.specs.Prelude.{cond}
use Rattle.std.specs.BTreeMap.{insert_entry}
use Rattle.std.specs.Ordering.{nat_cmp}
use Rattle.akl_terms.specs.declared.name.Name.{Name}
use Rattle.akl_terms.specs.declared.name.Place.{Place}
use Rattle.akl_model.proofs.Options.{some_value}
use Rattle.wake_lists.specs.Open.{Opening, Openings, opening_at, untimed, closed}
use Rattle.wake_lists.proofs.Keys.{token_here}
use Rattle.scheduler.specs.Weights.{weight}
use Rattle.scheduler.proofs.OpeningLists.{some_none, put_at, put_out}
use lib.Dec.{eqb}

-- an open place counts as much as it stands in
pub closed_weight : (t : ℕ) (o : Opening) (os : Openings) → opening_at t os ≡ Some o → weight os ≡ suc (length o.boxes) + weight (closed t os)
closed_weight t o [] e = absurd (some_none e refl)
closed_weight t o (x ∷ xs) e = on (eqb t x.0) e (closed_weight t o xs)
  where
    on : (b : Bool) → cond b (Some x.1) (opening_at t xs) ≡ Some o → (opening_at t xs ≡ Some o → weight xs ≡ suc (length o.boxes) + weight (closed t xs)) → weight (x ∷ xs) ≡ suc (length o.boxes) + weight (cond b xs (x ∷ closed t xs))
    on true f r = ap (λ (q : Opening). suc (length q.boxes) + weight xs) (some_value f)
    on false f r = let w : weight xs ≡ suc (length o.boxes) + weight (closed t xs) = r f in omega (arith, w)

pub closed_lighter : (t : ℕ) (o : Opening) (os : Openings) → opening_at t os ≡ Some o → weight (closed t os) < weight os
closed_lighter t o os e = let w : weight os ≡ suc (length o.boxes) + weight (closed t os) = closed_weight t o os e in omega (arith, w)

pub put_weight : (t : ℕ) (o : Opening) (os : Openings) → opening_at t os ≡ None → weight (insert_entry nat_cmp os t o) ≡ suc (length o.boxes) + weight os
put_weight t o os e = closed_weight t o (insert_entry nat_cmp os t o) (put_at t o os t ∙ ap (λ (b : Bool). cond b (Some o) (opening_at t os)) (token_here t)) ∙ ap (λ (l : Openings). suc (length o.boxes) + weight l) (put_out t o os e)

-- turns don't count
abbrev counted : List (ℕ × Place × List Name) → ℕ
counted [] = 0
counted (e ∷ es) = suc (length e.2) + counted es

weight_is : (os : Openings) → weight os ≡ counted (untimed os)
weight_is [] = refl
weight_is (x ∷ xs) = ap (λ (n : ℕ). suc (length x.1.boxes) + n) (weight_is xs)

pub untimed_weight : (a b : Openings) → untimed b ≡ untimed a → weight b ≡ weight a
untimed_weight a b e = weight_is b ∙ ap counted e ∙ sym (weight_is a)
