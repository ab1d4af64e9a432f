-- Boxes in which something is open, and how they are looked at.
use Rattle.std.proofs.Common.{◌≡◌, ◌<◌, ℕ, zero, suc, Bool, true, false, List, [], ◌∷◌, length, Option, Some, None, refl, sym, ap, ◌∙◌, slice_index_or, arith}
use Rattle.std.specs.Prelude.{is_some, ◌||◌}
use Rattle.std.specs.List.{list_any}
use Rattle.akl_terms.specs.declared.name.Name.{Name}
use Rattle.akl_terms.specs.declared.name.Place.{Place}
use Rattle.wake_lists.specs.declared.turn.Urgency.{Urgency}
use Rattle.wake_lists.specs.Open.{Openings, IsOpen, is_busy}
use Rattle.wake_lists.specs.Waits.{same_place}
use Rattle.scheduler.specs.declared.attention.Attention.{Attention}
use Rattle.scheduler.specs.Attending.{is_open, has_open, urgency_at, box_attention, attention_of}
use Rattle.scheduler.specs.Openings.{AreApart}
use Rattle.scheduler.specs.Resting.{IsAtRest}
use Rattle.scheduler.specs.Schedulers.{SchedulerValue}
use Rattle.scheduler.proofs.CommitFacts.{not_true, or_left, or_right, place_listed, listed_place}
use Rattle.scheduler.proofs.OpenPlaces.{open_places, all_listed}
use Rattle.scheduler.proofs.OpenedMore.{not_open, its_open}
use Rattle.scheduler.specs.Dropping.{is_place_in}

-- one of a list
pub one_open : (os : Openings) (ns : List Name) (k : ℕ) (d : Name) → k < length ns → has_open os (slice_index_or ns k d) ≡ true → list_any (has_open os) ns ≡ true
one_open os [] k d l h = absurd (omega arith)
one_open os (n ∷ ns) zero d l h = or_left (has_open os n) (list_any (has_open os) ns) h
one_open os (n ∷ ns) (suc k) d l h = or_right (has_open os n) (list_any (has_open os) ns) (one_open os ns k d (omega arith) h)

-- a place that has a token
listed_open : (os : Openings) (place : Place) → is_open os place ≡ is_place_in place (open_places os)
listed_open [] place = refl
listed_open (x ∷ xs) place = ap (λ (b : Bool). same_place place x.1.place || b) (listed_open xs place)

pub token_open : (os : Openings) → AreApart os → (place : Place) (r : Option ℕ) → IsOpen os place r → is_some r ≡ is_open os place
token_open os a place None i =
    sym (listed_open os place ∙ not_true (is_place_in place (open_places os)) (λ e. not_open os place i ((all_listed os a).only place (listed_place place (open_places os) e))))
token_open os a place (Some t) i = sym (listed_open os place ∙ place_listed place (open_places os) ((all_listed os a).all place (its_open os place t i)))

-- what is looked at whole is at rest
pub whole_rests : (s : SchedulerValue) (token : ℕ) (place : Place) → attention_of s token place ≡ Attention.Whole → IsAtRest s.openings place
whole_rests s token (Place.Goal g) e n f = let no : Place.Goal g ≡ Place.Box n = f in absurd cc
whole_rests s token (Place.Box m) e n f = ap (λ (k : Name). is_busy k s.openings) (let same : Place.Box m ≡ Place.Box n = f in cc) ∙ on (urgency_at token s.openings) (is_busy m s.openings) e
  where
    on : (u : Option Urgency) (b : Bool) → box_attention u b ≡ Attention.Whole → b ≡ false
    on u false h = refl
    on None true h = cc
    on (Some Urgency.Urgent) true h = cc
    on (Some Urgency.Ordinary) true h = cc
    on (Some Urgency.Late) true h = cc

-- and so is what may wait, which is a goal
pub early_rests : (s : SchedulerValue) (token : ℕ) (place : Place) → attention_of s token place ≡ Attention.Early → IsAtRest s.openings place
early_rests s token (Place.Goal g) e n f = let no : Place.Goal g ≡ Place.Box n = f in absurd cc
early_rests s token (Place.Box m) e n f = on (urgency_at token s.openings) (is_busy m s.openings) e
  where
    on : (u : Option Urgency) (b : Bool) → box_attention u b ≡ Attention.Early → is_busy n s.openings ≡ false
    on None false h = cc
    on None true h = cc
    on (Some Urgency.Urgent) b h = cc
    on (Some Urgency.Ordinary) false h = cc
    on (Some Urgency.Ordinary) true h = cc
    on (Some Urgency.Late) false h = cc
    on (Some Urgency.Late) true h = cc
