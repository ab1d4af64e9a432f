-- That a queue is kept as it is to be, when a place comes, goes or gets another turn.
use Rattle.std.proofs.Common.{◌≡◌, ℕ, true, [], Some, None, refl, sym, ap, ◌∙◌, subst, arith}
use Rattle.std.specs.Map.{lookup}
use Rattle.std.specs.Result.{OnOk, OnErr}
use Rattle.std.specs.declared.result.Result.{Result}
use Rattle.std.specs.declared.result.Result.TheVariants.{Ok, Err}
use Rattle.std.proofs.lemmas.Bool.Decides.{nat_tests}
use Rattle.akl_terms.specs.declared.name.Place.{Place}
use Rattle.wake_lists.specs.declared.place_map.PlaceMap.{PlaceMap}
use Rattle.wake_lists.specs.declared.turn.Urgency.{Urgency}
use Rattle.wake_lists.specs.declared.turn.Opened.{Opened}
use Rattle.wake_lists.specs.Waits.{same_place}
use Rattle.wake_lists.specs.Queue.{Places, HasNone, is_place, AreQueued, IsTokenOf, GetsLast}
use Rattle.wake_lists.specs.PlaceMaps.{value_at, FindsAt}
use Rattle.wake_lists.specs.Slots.{Finds}
use Rattle.wake_lists.proofs.Keys.{timed}
use Rattle.wake_lists.proofs.Both.{same_place-equal}
use Rattle.wake_lists.proofs.Leading.{none_some, restored, absent, leads_as, leads_more, leads_fewer, leads_same}
use lib.Dec.{eqb}

place_here : (p : Place) → same_place p p ≡ true
place_here (Place.Goal n) = grind (arith, nat_tests)
place_here (Place.Box n) = grind (arith, nat_tests)

-- nothing is kept
pub none_queued : AreQueued [] (record { goals = []; boxes = [] })
none_queued = record { there = λ t o e. none_some o e; back = λ p t e. none_some t (sym (nothing p) ∙ e) }
  where
    nothing : (p : Place) → value_at {V = ℕ} (record { goals = []; boxes = [] }) p ≡ None
    nothing (Place.Goal n) = refl
    nothing (Place.Box n) = refl

module _ (es : Places) (p : PlaceMap ℕ) (a : AreQueued es p) where
  pub token_is_of : (place : Place) → IsTokenOf es place (value_at p place)
  token_is_of place = record {
    there = λ t o e f. ap (value_at p) (sym f) ∙ a.there t o e;
    back = a.back place;
  }

  pub queued_more : (t : ℕ) (place : Place) → lookup (eqb t) es ≡ None → HasNone (is_place place) es → (u : Urgency) (es2 : Places) → GetsLast es es2 t place u → (p2 : PlaceMap ℕ) → FindsAt p p2 place (Some t) → AreQueued es2 p2
  queued_more t place free closed u es2 g p2 i =
      leads_more same_place same_place-equal place_here (λ o. o.place) _ _ _ _ t (record { place = place; turn = timed u g.number }) a free closed g.put.finds i

  pub queued_fewer : (t : ℕ) (o : Opened) → lookup (eqb t) es ≡ Some o → (es2 : Places) → Finds es es2 t None → (p2 : PlaceMap ℕ) → FindsAt p p2 o.place None → AreQueued es2 p2
  queued_fewer t o is es2 h p2 i =
      leads_fewer same_place same_place-equal place_here (λ o. o.place) _ _ _ _ t o a is h i

  -- a place gets another turn, or all stays
  pub queued_moved : (t : ℕ) (o : Opened) → lookup (eqb t) es ≡ Some o → (u : Urgency) (es2 : Places) {E : Type 0} (r : Result (Unit {0}) E) → OnOk r (GetsLast es es2 t o.place u) → OnErr r (es2 ≡ es) → AreQueued es2 p
  queued_moved t o is u es2 (Ok x) g e = leads_same same_place same_place-equal place_here (λ o. o.place) _ _ _ t o (record { place = o.place; turn = timed u g.number }) a is refl g.put.finds
  queued_moved t o is u es2 (Err x) g e = subst (λ (os : Places). AreQueued os p) (sym e) a

  -- what was put in was taken out
  pub queued_back : (t : ℕ) (place : Place) → HasNone (is_place place) es → (p2 p3 : PlaceMap ℕ) → FindsAt p p2 place (Some t) → FindsAt p2 p3 place None → (es2 : Places) → es2 ≡ es → AreQueued es2 p3
  queued_back t place closed p2 p3 i j es2 e = subst (λ (os : Places). AreQueued os p3) (sym e) (leads_as (λ o. o.place) _ _ _
      (restored same_place same_place-equal place_here _ _ _ place (Some t) (absent same_place same_place-equal place_here (λ o. o.place) _ _ place a closed)
      i j) a)
