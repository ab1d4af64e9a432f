-- A box without a candidate at which no rule is planned has no reason to be ready.
use Rattle.std.proofs.Common.{◌≡◌, Some, None, refl, sym, ◌∙◌, inl, inr}
use Rattle.akl_terms.specs.declared.name.Place.{Place}
use Rattle.akl_model.specs.declared.label.Rule.{Rule}
use Rattle.akl_model.specs.Config.{Found, site_of}
use Rattle.akl_model.specs.Conditions.{HasFailed}
use Rattle.akl_model.specs.Derivations.{IsReady}
use Rattle.plan_laws.proofs.BoxSleeps.{fail_ready}
use Rattle.table_laws.specs.Stamped.{IsTableOf}
use Rattle.box_tree.specs.Tables.{all_rules, table_of}
use Rattle.box_tree.specs.Views.{ViewValue, run_of}
use Rattle.guard_plan.specs.Planned.{HasNoRule}
use Rattle.idle_places.specs.Idling.{IdleValue}
use Rattle.idle_places.specs.Later.{HasNoReason}
use Rattle.idle_plan.specs.Idling.{IsUnready, IsIdleBy}
use Rattle.idle_plan.proofs.Unready.{unready_box}
use Rattle.place_steps.specs.Seen.{HasCandidate}
use Rattle.place_steps.specs.Next.{IsFoundIdleBy}
use Rattle.place_steps.proofs.Unsplit.{box_there, no_candidate, no_split}

module _ (v : ViewValue) (none : HasNoRule v) (h : HasCandidate v None) where
  pub unready : IsUnready v
  unready = unready_box v none (no_split v h)

  module _ (t : IsTableOf all_rules (run_of v.table v.journal) (table_of v.table)) (f : Found) (e : site_of v.place t.config.roots ≡ Some f) where
    unfailed : HasFailed f.goals → ⊥
    unfailed x =
        let w : (r : IsReady all_rules v.table.program t.config (Place.Box h.name)) × (r.label.rule ≡ Rule.Fail) =
        fail_ready all_rules v.table.program t.config h.name f (inr (inr (inl refl))) (box_there v h t f e) (inr x) (λ u _. u x) in
        none.none t w.0.label w.0.result w.0.applies (w.0.is_place ∙ sym h.is_box) (λ q. let both : Rule.Fail ≡ Rule.Split = sym w.1 ∙ q in cc)

    no_reason : HasNoReason f
    no_reason = record { unfailed = unfailed; unsplit = no_candidate v h t f e }

  pub root_idle : (i : IdleValue) → IsIdleBy v i → IsFoundIdleBy v i
  root_idle i idle = record { idle = idle; no_reason = λ x. no_reason }
