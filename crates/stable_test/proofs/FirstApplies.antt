-- The first label of a right plan applies to what its view unfolds to.
use Rattle.std.proofs.Common.{◌≡◌, List, ◌∷◌, sym, subst}
use Rattle.akl_model.specs.declared.label.Label.{Label}
use Rattle.akl_model.specs.Config.{Config}
use Rattle.akl_model.specs.Derivations.{Applies}
use Rattle.akl_model.proofs.NamesKept.{Stand, replay-stands}
use Rattle.plan_laws.proofs.CallAlternatives.{between}
use Rattle.plan_laws.proofs.Calls.{calling, forked, fork_applies}
use Rattle.table_laws.specs.Stamped.{IsTableOf}
use Rattle.box_tree.specs.Tables.{all_rules, table_of}
use Rattle.box_tree.specs.Views.{run_of}
use Rattle.box_tree.specs.Plans.{PlanValue, IsRightCall, IsRight, of_label, of_call}
use Rattle.box_tree.proofs.AllInForce.{all_in_force}

-- it applies, alone or as the fork of a call
pub record FirstApplies (p : PlanValue) : Type 0 where
  pub table : IsTableOf all_rules (run_of p.table p.journal) (table_of p.table)
  pub result : Config
  pub applies : Applies all_rules p.table.program table.config p.label result

first : {l k : Label} {ls ks : List Label} → l ∷ ls ≡ k ∷ ks → l ≡ k
first e = cc

module _ (p : PlanValue) (r : IsRightCall p) where
  abbrev c : Config
  c = r.table.config

  s : Stand c
  s = replay-stands all_rules p.table.program p.table.query p.journal c r.table.replays

  abbrev forked_to : Config
  forked_to = between (calling all_rules all_in_force p.table.program c s p.label.worker r.goal r.site r.is_home r.calls) (forked all_rules all_in_force p.table.program c s p.label.worker r.goal r.site r.is_home r.calls)

  call_applies : FirstApplies p
  call_applies = record {
    table = r.table;
    result = forked_to;
    applies = subst (λ (l : Label). Applies all_rules p.table.program c l forked_to) (sym (first r.labels)) (fork_applies all_rules all_in_force p.table.program c s p.label.worker r.goal r.site r.is_home r.calls);
  }

pub first_applies : (p : PlanValue) → IsRight p → FirstApplies p
first_applies p (of_label alone none r) = record { table = r.table; result = r.result; applies = r.applies }
first_applies p (of_call r) = call_applies p r
