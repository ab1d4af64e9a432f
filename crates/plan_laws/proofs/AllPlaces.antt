-- The places of a configuration, listed; and those of a list that are gone in another one.
use Rattle.std.proofs.Common.{◌≡◌, ◌+◌, ◌≤◌, ◌<◌, List, [], ◌∷◌, ◌++◌, Bool, true, false, Option, Some, refl, sym, ap, subst, ◌⊎◌, inl, inr, arith}
use Rattle.std.specs.Prelude.{IsSome}
use Rattle.akl_terms.specs.declared.name.Name.{Name}
use Rattle.akl_terms.specs.declared.name.Place.{Place}
use Rattle.akl_terms.specs.Names.{same_name}
use Rattle.akl_terms.proofs.SameNames.{same_name-equal}
use Rattle.akl_model.specs.Config.{IsIn, Boxes, Config, Found, box_at, home_of}
use Rattle.akl_model.specs.Names.{one_if, times_in}
use Rattle.akl_model.specs.Renaming.{names_of}
use Rattle.akl_model.specs.Wakes.{boxes_around, IsOneOf, IsThere, Wait, Opens, new_goal, new_box, changed_goal, box_of_changed_goal, changed_constraint, changed_goals, holder_of_changed_goals, woken, bound_outside}
use Rattle.akl_model.proofs.Finds.{times, times_of, times_inside, times-names, box_at-some}
use Rattle.akl_model.proofs.NamesKept.{Stand, home-box}
use Rattle.akl_model.proofs.Options.{some_and}
use Rattle.akl_model.proofs.ScopesAlong.{times_path}
use Rattle.constraint_laws.proofs.SameTerms.{Either}
use Rattle.step_laws.specs.Holders.{IsHeldBy}
use Rattle.step_laws.specs.Whereabouts.{Stands}
use Rattle.step_laws.proofs.Decide.{there_or}
use Rattle.step_laws.proofs.GoalEdits.{HasGoal}
use Rattle.step_laws.proofs.Holders.{held_around, holder_there}
use Rattle.step_laws.proofs.There.{there_site, site_there}
use Rattle.step_laws.proofs.Whereabouts.{home_in, held_counted, in_counted}
use Rattle.plan_laws.proofs.Less.{places_of, waits_place, one_of_left, one_of_right}

-- the places of names
places_named : List Name → List Place
places_named [] = []
places_named (n ∷ ns) = Place.Goal n ∷ Place.Box n ∷ places_named ns

named_one : (n : Name) (ns : List Name) → 0 < times_in n ns → IsOneOf (Place.Goal n) (places_named ns) × IsOneOf (Place.Box n) (places_named ns)
unfolding places_named
named_one n [] h = absurd (omega arith)
named_one n (m ∷ ms) h = on (same_name n m) refl h (λ u. named_one n ms u)
  where
    on : (t : Bool) → same_name n m ≡ t → 0 < one_if t + times_in n ms → (0 < times_in n ms → IsOneOf (Place.Goal n) (places_named ms) × IsOneOf (Place.Box n) (places_named ms))
        → IsOneOf (Place.Goal n) (places_named (m ∷ ms)) × IsOneOf (Place.Box n) (places_named (m ∷ ms))
    on true q u f = (inl (ap Place.Goal (same_name-equal n m q)), inr (inl (ap Place.Box (same_name-equal n m q))))
    on false q u f = let v : IsOneOf (Place.Goal n) (places_named ms) × IsOneOf (Place.Box n) (places_named ms) = f (omega arith) in (inr (inr v.0), inr (inr v.1))

pub all_places : Boxes → List Place
all_places roots = places_named (names_of roots)

pub place_listed : (place : Place) (roots : Boxes) → IsThere place roots → IsOneOf place (all_places roots)
unfolding all_places
place_listed (Place.Goal g) roots there =
    let f : (f : Found) × (home_of g roots ≡ Some f) = there_site (Place.Goal g) roots there in
    let y : Stands f.0 roots × HasGoal g f.0.goals = home_in g roots f.0 f.1 in
    (named_one g (names_of roots) (
    let a : 1 ≤ times_inside g f.0.goals = held_counted g y.1.0 f.0.goals y.1.1 in
    let b : times_of g f.0.content + (times_inside g f.0.goals + 0) + times_path g f.0.around ≤ times g roots = in_counted g f.0.around f.0.content f.0.goals roots y.0 in
    let e : times_in g (names_of roots) ≡ times g roots = times-names g roots in
    omega arith)).0
place_listed (Place.Box n) roots there =
    let f : (f : Found) × (box_at n roots ≡ Some f) = there_site (Place.Box n) roots there in
    (named_one n (names_of roots) (
    let a : 1 ≤ times n roots = box_at-some n roots f.0 f.1 in
    let e : times_in n (names_of roots) ≡ times n roots = times-names n roots in
    omega arith)).1

-- what a commit opens is there, or has a kept wait
pub opened_listed : (waits : List Wait) (c d : Config) → Stand d → (place : Place) → Opens waits c d place → IsOneOf place (all_places d.roots ++ places_of waits)
opened_listed waits c d s place o = elim (there place o) [
  | inl h ↦ one_of_left place (all_places d.roots) (places_of waits) (place_listed place d.roots h)
  | inr h ↦ one_of_right place (all_places d.roots) (places_of waits) h
]
  where
    there : (place : Place) → Opens waits c d place → IsThere place d.roots ⊎ IsOneOf place (places_of waits)
    there _ (new_goal {g} {f} e i) = inl (site_there (Place.Goal g) d.roots f i)
    there _ (new_box {n} {f} e i) = inl (site_there (Place.Box n) d.roots f i)
    there _ (changed_goal {g} {f = f} e i x) = inl (site_there (Place.Goal g) d.roots f i)
    there _ (box_of_changed_goal g {f = f} e i x) = inl (site_there (Place.Box f.content.name) d.roots f (home-box g d.roots f s.once i))
    there _ (changed_constraint {n} {f = f} e i x) = inl (site_there (Place.Box n) d.roots f i)
    there _ (changed_goals {n} {f = f} e i x) = inl (site_there (Place.Box n) d.roots f i)
    there _ (holder_of_changed_goals n {g} e i x j) =
        let f : (f : Found) × (box_at n d.roots ≡ Some f) = holder_there d.roots n g j in
        let u : IsHeldBy n g f.0 d.roots = held_around d.roots s.once n g f.0 f.1 j in
        inl (site_there (Place.Goal g) d.roots u.home u.is_home)
    there place (woken n {x} y b) = inr (waits_place place x waits y)
    there place (bound_outside n b o h) = let w : (ns : List Name) × (boxes_around place d.roots ≡ Some ns) × IsIn n ns = some_and (IsIn n) (boxes_around place d.roots) h in inl (subst (λ (o : Option (List Name)). IsSome o) (sym w.1) refl)

-- those of a list that are gone
module _ (roots : Boxes) where
  unless_there : (place : Place) → Either (IsThere place roots) → List Place → List Place
  unless_there place (inl t) qs = qs
  unless_there place (inr n) qs = place ∷ qs

  pub gone_among : List Place → List Place
  gone_among [] = []
  gone_among (q ∷ qs) = unless_there q (there_or q roots) (gone_among qs)

  pub gone_in : (place : Place) (qs : List Place) → (IsThere place roots → ⊥) → IsOneOf place qs → IsOneOf place (gone_among qs)
  unfolding gone_among unless_there
  gone_in place [] n i = absurd i
  gone_in place (q ∷ qs) n i = on (there_or q roots) i (λ j. gone_in place qs n j)
    where
      on : (e : Either (IsThere q roots)) → IsOneOf place (q ∷ qs) → (IsOneOf place qs → IsOneOf place (gone_among qs)) → IsOneOf place (unless_there q e (gone_among qs))
      on (inl t) (inl e) f = absurd (n (subst (λ (u : Place). IsThere u roots) (sym e) t))
      on (inl t) (inr j) f = f j
      on (inr m) (inl e) f = inl e
      on (inr m) (inr j) f = inr (f j)

  pub gone_of : (place : Place) (qs : List Place) → IsOneOf place (gone_among qs) → IsThere place roots → ⊥
  unfolding gone_among unless_there
  gone_of place [] i t = absurd i
  gone_of place (q ∷ qs) i t = on (there_or q roots) i (λ j. gone_of place qs j t)
    where
      on : (e : Either (IsThere q roots)) → IsOneOf place (unless_there q e (gone_among qs)) → (IsOneOf place (gone_among qs) → ⊥) → ⊥
      on (inl u) j f = f j
      on (inr m) (inl e) f = m (subst (λ (u : Place). IsThere u roots) e t)
      on (inr m) (inr j) f = f j
