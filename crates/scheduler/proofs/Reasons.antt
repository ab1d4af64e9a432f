-- Whether a box has a reason to be ready, by its row and the choices that are kept.
use Rattle.std.proofs.Common.{◌≡◌, Bool, true, false, List, Option, Some, None, refl, sym, ap, subst, ◌∙◌}
use Rattle.akl_terms.specs.declared.name.Name.{Name}
use Rattle.akl_terms.specs.declared.name.Place.{Place}
use Rattle.akl_model.specs.Config.{Found, box_at, site_of}
use Rattle.akl_model.specs.Conditions.{HasFailed}
use Rattle.akl_model.specs.Wakes.{is_candidate}
use Rattle.box_tree.specs.Paths.{sight_in}
use Rattle.box_tree.specs.Plans.{IsRead}
use Rattle.wake_lists.specs.declared.turn.Urgency.{Urgency}
use Rattle.wake_lists.specs.Open.{is_busy}
use Rattle.step_commit.specs.Cores.{TableIn, run_by}
use Rattle.idle_places.specs.Idling.{IdleValue, IsIdle, WatchesGoals, HasWatched}
use Rattle.idle_places.specs.Later.{HasNoReason}
use Rattle.scheduler.specs.declared.splits.Split.{Split}
use Rattle.scheduler.specs.Schedulers.{SchedulerValue}
use Rattle.scheduler.specs.Settled.{HasNoReasonNow, IsSeenEnough}
use Rattle.scheduler.specs.Splits.{has_kept, KeepsSplits}
use Rattle.scheduler.specs.Turns.{urgency_seen}
use Rattle.scheduler.proofs.CommitFacts.{not_both}
use Rattle.scheduler.proofs.Hurrying.{seen_failing, failing_seen}
use Rattle.scheduler.proofs.Outwards.{candidate_same}
use Rattle.scheduler.proofs.SplitsKept.{quiet_enough}

module _ (s : SchedulerValue) (n : Name) where
  pub open_reason : is_busy n s.openings ≡ true → HasNoReasonNow s n → ⊥
  open_reason e r = not_both e r.at_rest

  module _ (kept : List Split) (h : KeepsSplits s kept) where
    pub failing_reason : urgency_seen (sight_in s.core.table (Place.Box n)) ≡ Urgency.Urgent → HasNoReasonNow s n → ⊥
    failing_reason e r =
        let w : (f : Found) × (box_at n h.scheduler.core.table.config.roots ≡ Some f) × HasFailed f.goals = failing_seen s.core h.scheduler.core.table n e in
        (r.no_reason h.scheduler.core.table w.0 w.1).unfailed w.2

    module _ (quiet : is_busy n s.openings ≡ false) where
      kept_same : (t : TableIn s.core) → has_kept n kept ≡ is_candidate (box_at n t.config.roots)
      kept_same t = sym (quiet_enough s kept h n quiet) ∙ candidate_same s.core.table (run_by s.core) t n

      pub split_reason : has_kept n kept ≡ true → HasNoReasonNow s n → ⊥
      split_reason e r = on (box_at n h.scheduler.core.table.config.roots) refl
        where
          on : (o : Option Found) → box_at n h.scheduler.core.table.config.roots ≡ o → ⊥
          on None f = not_both (sym (kept_same h.scheduler.core.table) ∙ e) (ap is_candidate f)
          on (Some g) f = not_both (sym (kept_same h.scheduler.core.table ∙ ap is_candidate f) ∙ e) (r.no_reason h.scheduler.core.table g f).unsplit

      pub no_reason : (urgency_seen (sight_in s.core.table (Place.Box n)) ≡ Urgency.Urgent → ⊥) → has_kept n kept ≡ false → HasNoReasonNow s n
      no_reason unfailed unsplit = record {
        at_rest = quiet;
        no_reason = λ t f e. record {
          unfailed = λ x. unfailed (seen_failing s.core t n f e x);
          unsplit = sym (kept_same t ∙ ap is_candidate e) ∙ unsplit;
        };
      }

-- an idle place that was seen enough
pub seen_reason : (s : SchedulerValue) (v : IdleValue) → IsIdle v → IsSeenEnough s v → v.inside ≡ false → (t : TableIn s.core) (f : Found) → site_of v.place t.config.roots ≡ Some f → HasNoReason f
seen_reason s v i h e t f site =
    let w : WatchesGoals (IsRead v.reads) v.place i.site = subst (λ (b : Bool). HasWatched b (IsRead v.reads) v.on v.place i.site) e i.watches in
    (h e w.name w.is_box).no_reason t f (subst (λ (p : Place). site_of p t.config.roots ≡ Some f) w.is_box site)
