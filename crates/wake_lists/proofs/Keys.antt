-- Variables, places, turns and tokens as keys of maps and sets.
use Rattle.std.proofs.Common.{true, ap, ◌≡◌, ℕ, refl, ◌∙◌, arith}
use Rattle.std.proofs.lemmas.Bool.Decides.{nat_tests}
use Rattle.std.specs.Prelude.{◌&&◌, ◌==◌}
use Rattle.std.specs.BTreeMap.{is_at}
use Rattle.std.specs.Ordering.{is_eq, nat_cmp, ordering_then, partial_lt}
use Rattle.std.specs.declared.cmp.Ordering.{Ordering}
use Rattle.std.specs.declared.cmp.Reverse.{Reverse}
use Rattle.akl_terms.specs.declared.name.Name.{Name}
use Rattle.akl_terms.specs.declared.name.Var.{Var}
use Rattle.akl_terms.specs.declared.name.Place.{Place}
use Rattle.akl_terms.specs.contracts.name.VarOrd.TheImpl as variables
use Rattle.akl_terms.specs.contracts.name.PlaceOrd.TheImpl as places
use Rattle.wake_lists.specs.contracts.turn.UrgencyPartialOrd.TheImpl as urgencies
use Rattle.wake_lists.specs.declared.turn.Urgency.{Urgency}
use Rattle.wake_lists.specs.declared.turn.Turn.{Turn}
use Rattle.akl_terms.specs.Names.{same_name, same_var, name_cmp, var_cmp}
use Rattle.wake_lists.specs.Waits.{same_place, is_variable_key}
use Rattle.wake_lists.specs.Queue.{same_turn, same_urgency, is_sooner}
use lib.Dec.{eqb}

nat_is : (x y : ℕ) → is_eq (nat_cmp x y) ≡ (x == y)
nat_is x y = grind (arith, nat_tests)

then_is : (a b : Ordering) → is_eq (ordering_then a b) ≡ (is_eq a && is_eq b)
then_is Ordering.Less b = refl
then_is Ordering.Equal b = refl
then_is Ordering.Greater b = refl

name_is : (m n : Name) → is_eq (name_cmp m n) ≡ same_name m n
name_is m n = then_is (nat_cmp m.worker n.worker) (nat_cmp m.number n.number) ∙ (λ i. nat_is m.worker n.worker i && nat_is m.number n.number i)

pub var_is : (x y : Var) → is_eq (var_cmp x y) ≡ same_var x y
var_is x y = then_is (name_cmp x.frame y.frame) (nat_cmp x.index y.index) ∙ (λ i. name_is x.frame y.frame i && nat_is x.index y.index i)

pub variable_is : (x y : Var) → is_at (variables.cmp-value.it x) y ≡ same_var x y
variable_is x y = var_is x y

pub place_is : (p q : Place) → is_at (places.cmp-value.it p) q ≡ same_place p q
place_is (Place.Goal m) (Place.Goal n) = name_is m n
place_is (Place.Goal m) (Place.Box n) = refl
place_is (Place.Box m) (Place.Goal n) = refl
place_is (Place.Box m) (Place.Box n) = name_is m n

pub token_is : (s t : ℕ) → is_at (nat_cmp s) t ≡ eqb s t
token_is s t = grind (arith, nat_tests)

abbrev pub timed : Urgency → ℕ → Turn
timed a n = record { urgency = a; number = n }

pub sooner_is : (a b : Urgency) → partial_lt urgencies.partial_cmp-value.it a b ≡ is_sooner a b
sooner_is Urgency.Urgent Urgency.Urgent = refl
sooner_is Urgency.Ordinary Urgency.Ordinary = refl
sooner_is Urgency.Late Urgency.Late = refl
sooner_is a b = refl

pub name_back : (m n : Name) → same_name m n ≡ same_name n m
name_back m n = grind (arith, nat_tests)

pub token_equal : (s t : ℕ) → eqb s t ≡ true → s ≡ t
token_equal s t e = grind (arith, nat_tests)

pub token_here : (t : ℕ) → eqb t t ≡ true
token_here t = grind (arith, nat_tests)

pub turn_equal : (u v : Turn) → same_turn u v ≡ true → u ≡ v
turn_equal u v = on u.urgency v.urgency
  where
    numbers : (a : Urgency) → (u.number == v.number) ≡ true → timed a u.number ≡ timed a v.number
    numbers a e = let same : u.number ≡ v.number = grind (arith, nat_tests) in ap (timed a) same

    on : (a b : Urgency) → (same_urgency a b && (u.number == v.number)) ≡ true → timed a u.number ≡ timed b v.number
    on Urgency.Urgent Urgency.Urgent e = numbers Urgency.Urgent e
    on Urgency.Ordinary Urgency.Ordinary e = numbers Urgency.Ordinary e
    on Urgency.Late Urgency.Late e = numbers Urgency.Late e
    on a b e = absurd (cc)

pub turn_here : (u : Turn) → same_turn u u ≡ true
turn_here u = on u.urgency
  where
    on : (a : Urgency) → (same_urgency a a && (u.number == u.number)) ≡ true
    on Urgency.Urgent = token_here u.number
    on Urgency.Ordinary = token_here u.number
    on Urgency.Late = token_here u.number

pub variable_back : (x y : Var) → same_var x y ≡ same_var y x
variable_back x y = grind (arith, nat_tests)

pub place_back : (p q : Place) → same_place p q ≡ same_place q p
place_back (Place.Goal m) (Place.Goal n) = name_back m n
place_back (Place.Goal m) (Place.Box n) = refl
place_back (Place.Box m) (Place.Goal n) = refl
place_back (Place.Box m) (Place.Box n) = name_back m n

-- a key in a map in which the greater ones stand first
abbrev pub key : {K : Type 0} → K → Reverse K
key k = record { 0 = k }

abbrev pub variables_back : Reverse Var → Reverse Var → Ordering
variables_back k l = variables.cmp-value.it l.0 k.0

pub variable_key_is : (k l : Reverse Var) → is_at (variables_back k) l ≡ is_variable_key k.0 l
variable_key_is k l = variable_is l.0 k.0 ∙ variable_back l.0 k.0
