-- Waits by their variables and by their places.
use Rattle.std.proofs.Common.{◌≡◌, Bool, true, false, List, Option, Some, None, refl, sym, ap, ◌∙◌}
use Rattle.std.specs.Prelude.{cond, ◌||◌, ◌&&◌, not}
use Rattle.std.specs.List.{IsDistinct}
use Rattle.std.specs.Global.{Vec}
use Rattle.akl_terms.specs.declared.name.Var.{Var}
use Rattle.akl_terms.specs.declared.name.Place.{Place}
use Rattle.akl_terms.specs.Names.{same_var}
use Rattle.akl_terms.proofs.SameNames.{same_name-equal}
use Rattle.wake_lists.specs.declared.place_map.PlaceMap.{PlaceMap}
use Rattle.wake_lists.specs.PlaceMaps.{value_at, FindsAt}
use Rattle.wake_lists.specs.Waits.{same_place, waits_on, is_variable_in}
use Rattle.wake_lists.specs.KeptWaits.{lists, AreBoth}
use Rattle.wake_lists.proofs.Growing as growing
use Rattle.wake_lists.proofs.Keys.{place_back}
use Rattle.wake_lists.proofs.WaitsKept.{JoinedBy, PartedBy}

pub same_place-equal : (p q : Place) → same_place p q ≡ true → p ≡ q
same_place-equal (Place.Goal m) (Place.Goal n) e = ap Place.Goal (same_name-equal m n e)
same_place-equal (Place.Goal m) (Place.Box n) e = absurd (cc)
same_place-equal (Place.Box m) (Place.Goal n) e = absurd (cc)
same_place-equal (Place.Box m) (Place.Box n) e = ap Place.Box (same_name-equal m n e)

-- under one place something else is kept
found_now : {X : Type 0} (place : Place) (t u : PlaceMap X) (w : Option X) → FindsAt t u place w → (p : Place) → value_at u p ≡ cond (same_place p place) w (value_at t p)
found_now place t u w puts p = puts p ∙ (λ i. cond (place_back place p i) w (value_at t p))

module _ (place : Place) (on : List Var) (old : List (Var × List Place)) (t : PlaceMap (Vec Var)) (both : AreBoth old t) where
  pub kept_both : ((x : Var) → waits_on old place x ≡ false) → (ws : List (Var × List Place)) → JoinedBy place on old ws on → (u : PlaceMap (Vec Var)) (v : Vec Var) → ((x : Var) → is_variable_in x v.items ≡ is_variable_in x on)
      → FindsAt t u place (Some v) → AreBoth ws u
  kept_both none ws joined u v items puts p x = joined p x ∙ by (same_place p place) refl ∙ ap (lists x) (sym (found_now place t u (Some v) puts p))
    where
      by : (s : Bool) → same_place p place ≡ s → (waits_on old p x || (s && is_variable_in x on)) ≡ lists x (cond s (Some v) (value_at t p))
      by true e =
          let nothing : waits_on old p x ≡ false = ap (λ q. waits_on old q x) (same_place-equal p place e) ∙ none x in
          ap (λ (b : Bool). b || is_variable_in x on) nothing ∙ sym (items x)
      by false e = less (waits_on old p x) ∙ both p x
        where
          less : (b : Bool) → (b || false) ≡ b
          less true = refl
          less false = refl

  -- what was joined and then parted is as it was
  pub undone : ((x : Var) → waits_on old place x ≡ false) → (ws new : List (Var × List Place)) → ((p : Place) (x : Var) → (same_place p place && is_variable_in x on) ≡ false → waits_on ws p x ≡ waits_on old p x)
      → PartedBy place on ws new on → (p : Place) (x : Var) → waits_on new p x ≡ waits_on old p x
  undone none ws new others parted =
      growing.undone (λ p. same_place p place) same_var on (waits_on old) (waits_on ws) (waits_on new) (λ p x e. ap (λ q. waits_on old q x) (same_place-equal p place e) ∙ none x) others parted

  pub others_of : (ws : List (Var × List Place)) → JoinedBy place on old ws on → (p : Place) (x : Var) → (same_place p place && is_variable_in x on) ≡ false → waits_on ws p x ≡ waits_on old p x
  others_of ws joined p x e = joined p x ∙ ap (λ (b : Bool). waits_on old p x || b) e ∙ less (waits_on old p x)
    where
      less : (b : Bool) → (b || false) ≡ b
      less true = refl
      less false = refl

  -- the waits of a place go
  module _ (new : List (Var × List Place)) (u : PlaceMap (Vec Var)) (v : Vec Var) (is : value_at t place ≡ Some v) (parted : PartedBy place v.items old new v.items)
      (puts : FindsAt t u place None) where
    pub dropped : (p : Place) (x : Var) → waits_on new p x ≡ (waits_on old p x && not (same_place p place))
    dropped p x = parted p x ∙ by (same_place p place) refl
      where
        none : (b : Bool) → (b && not b) ≡ (b && false)
        none true = refl
        none false = refl

        by : (s : Bool) → same_place p place ≡ s → (waits_on old p x && not (s && is_variable_in x v.items)) ≡ (waits_on old p x && not s)
        by true e =
            let listed_so : waits_on old p x ≡ is_variable_in x v.items = both p x ∙ ap (lists x) (ap (value_at t) (same_place-equal p place e) ∙ is) in
            ap (λ (b : Bool). waits_on old p x && not b) (sym listed_so) ∙ none (waits_on old p x)
        by false e = refl

    pub dropped_both : AreBoth new u
    dropped_both p x = dropped p x ∙ by (same_place p place) ∙ ap (lists x) (sym (found_now place t u None puts p))
      where
        gone : (b : Bool) → (b && false) ≡ false
        gone true = refl
        gone false = refl

        less : (b : Bool) → (b && true) ≡ b
        less true = refl
        less false = refl

        by : (s : Bool) → (waits_on old p x && not s) ≡ lists x (cond s None (value_at t p))
        by true = gone (waits_on old p x)
        by false = less (waits_on old p x) ∙ both p x

  -- where none are kept of a place, it has none
  pub none_kept : value_at t place ≡ None → (p : Place) (x : Var) → waits_on old p x ≡ (waits_on old p x && not (same_place p place))
  none_kept is p x = by (same_place p place) refl
    where
      less : (b : Bool) → b ≡ (b && true)
      less true = refl
      less false = refl

      by : (s : Bool) → same_place p place ≡ s → waits_on old p x ≡ (waits_on old p x && not s)
      by true e =
          let nothing : waits_on old p x ≡ false = both p x ∙ ap (lists x) (ap (value_at t) (same_place-equal p place e) ∙ is) in
          nothing ∙ ap (λ (b : Bool). b && false) (sym nothing)
      by false e = less (waits_on old p x)

  -- the list of a place has the variables on which it waits
  pub listed_so : (v : Vec Var) → value_at t place ≡ Some v → (x : Var) → is_variable_in x v.items ≡ waits_on old place x
  listed_so v is x = sym (both place x ∙ ap (lists x) (is))

-- where a place has no list, none is taken out
pub none_out : {X : Type 0} (place : Place) (t u : PlaceMap X) → value_at t place ≡ None → FindsAt t u place None → (p : Place) → value_at u p ≡ value_at t p
none_out place t u none gone p = found_now place t u None gone p ∙ by (same_place p place) refl
  where
    by : (s : Bool) → same_place p place ≡ s → cond s None (value_at t p) ≡ value_at t p
    by true e = sym none ∙ ap (value_at t) (sym (same_place-equal p place e))
    by false e = refl

-- each list has a variable once, also when that of one place changes
abbrev pub AreOnce : PlaceMap (Vec Var) → Type 0
AreOnce t = (p : Place) (xs : Vec Var) → value_at t p ≡ Some xs → IsDistinct same_var xs.items

pub once_kept : (place : Place) (t u : PlaceMap (Vec Var)) (w : Option (Vec Var)) → AreOnce t → ((xs : Vec Var) → w ≡ Some xs → IsDistinct same_var xs.items)
    → FindsAt t u place w → AreOnce u
once_kept place t u w o n puts p xs e = by (same_place p place) (sym (found_now place t u w puts p) ∙ e)
  where
    by : (s : Bool) → cond s w (value_at t p) ≡ Some xs → IsDistinct same_var xs.items
    by true f = n xs f
    by false f = o p xs f
