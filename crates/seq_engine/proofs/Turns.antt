-- Turns of open places, one after another.
use Rattle.std.proofs.Common.{◌≡◌, ◌<◌, ℕ, ◌+◌, List, length, Some, refl, sym, ◌∙◌, ap, subst}
use Rattle.akl_terms.specs.declared.name.Place.{Place}
use Rattle.akl_model.specs.declared.label.Label.{Label}
use Rattle.akl_model.specs.Config.{Found, site_of}
use Rattle.table_laws.specs.Stamped.{IsTableOf}
use Rattle.box_tree.specs.Tables.{all_rules, TableValue, table_of}
use Rattle.box_tree.specs.Views.{ViewValue, run_of}
use Rattle.box_tree.specs.Plans.{PlanValue}
use Rattle.idle_places.specs.Idling.{IdleValue}
use Rattle.idle_places.specs.Later.{HasNoReason}
use Rattle.place_steps.specs.Seen.{IsSight}
use Rattle.place_steps.specs.declared.next.Next.{Next}
use Rattle.place_steps.specs.Next.{IsFoundIdleBy, IsNext, HasRoom}
use Rattle.wake_lists.specs.Open.{Openings, closed}
use Rattle.scheduler.specs.Schedulers.{SchedulerValue}
use Rattle.scheduler.specs.Resting.{IsAtRest}
use Rattle.scheduler.specs.Weights.{weight}
use Rattle.scheduler.proofs.Weights.{closed_lighter, untimed_weight}
use Rattle.seq_engine.specs.declared.attending.Attended.{Attended}
use Rattle.seq_engine.specs.Runs.{IsPlanNow}
use Rattle.seq_engine.specs.Attending.{IsOpenUnder, HasWaited, HasClosed, IsIdleNow, IsNextNow, HasAttended}
use Rattle.seq_engine.proofs.Plans.{next_now}

pub waits_none : (s : SchedulerValue) → HasWaited s s
waits_none s = record { core = refl; places = refl }

pub waits_more : (s t d : SchedulerValue) → HasWaited s t → HasWaited t d → HasWaited s d
waits_more s t d x y = record { core = y.core ∙ x.core; places = y.places ∙ x.places }

-- what came of a place after others were put behind it
pub attended_after : (s t d : SchedulerValue) (a : Attended) → HasWaited s t → HasAttended t d a → HasAttended s d a
attended_after s t d Attended.Quiet x y = (y.0 ∙ x.core, y.1)
attended_after s t d (Attended.Planned p) x y = (y.0 ∙ x.core, y.1)
attended_after s t d Attended.Closed x y = record { core = y.core ∙ x.core; lighter = subst (λ (n : ℕ). weight d.openings < n) (untimed_weight s.openings t.openings x.places) y.lighter }

-- and so a plan
pub planned_after : (s t d : SchedulerValue) (p : PlanValue) → HasWaited s t → (d.core ≡ t.core) × IsPlanNow d.core p → (d.core ≡ s.core) × IsPlanNow d.core p
planned_after s t d p x y = (y.0 ∙ x.core, y.1)

-- a place that has gone is closed
pub forgotten : (s d : SchedulerValue) (token : ℕ) (place : Place) → IsOpenUnder s token place → d ≡ record s { openings = closed token s.openings } → HasClosed s d
forgotten s d token place o e = record {
  core = ap (λ (x : SchedulerValue). x.core) e;
  lighter = subst (λ (os : Openings). weight os < weight s.openings) (sym (ap (λ (x : SchedulerValue). x.openings) e)) (closed_lighter token o.opening s.openings o.is_open);
}

-- what comes next at an open place is to sleep
abbrev HasNone : TableValue → List Label → Place → Type 0
HasNone t j place = (z : IsTableOf all_rules (run_of t j) (table_of t)) (f : Found) → site_of place z.config.roots ≡ Some f → HasNoReason f

pub idle_now : (s : SchedulerValue) (token : ℕ) (place : Place) (v : ViewValue) (i : IdleValue) → IsOpenUnder s token place → IsAtRest s.openings place → IsSight s.core place 1 v → IsFoundIdleBy v i → IsIdleNow s i
idle_now s token place v i o r x y = record {
  table = y.idle.0 ∙ x.table;
  journal = y.idle.1 ∙ x.journal;
  is_open = record { token = token; opening = o.opening; is_open = o.is_open; of_place = o.of_place ∙ sym (y.idle.2 ∙ x.is_place) };
  at_rest = λ n e. r n (sym (y.idle.2 ∙ x.is_place) ∙ e);
  no_reason = λ e.
      subst (HasNone s.core.table s.core.journal) (sym y.idle.2)
      (subst (λ (j : List Label). HasNone s.core.table j v.place) x.journal (subst (λ (t : TableValue). HasNone t v.journal v.place) x.table (y.no_reason e)));
}

-- and so is what comes next there
pub comes_now : (s : SchedulerValue) (token : ℕ) (place : Place) (v : ViewValue) (n : Next) (left : ℕ) → IsOpenUnder s token place → IsAtRest s.openings place → IsSight s.core place 1 v → IsNext v n → HasRoom left n
    → length s.core.journal + left ≡ s.core.budget → IsNextNow s n
comes_now s token place v (Next.Plan p) left o r x y room e = next_now s.core place v p left x y room e
comes_now s token place v (Next.Idle i) left o r x y room e = idle_now s token place v i o r x y
