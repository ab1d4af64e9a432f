-- A plan that nothing made stale, at the configuration of the core: its labels lead on there, its step is what they make, and its variables are enough.
use Rattle.std.proofs.Common.{◌≡◌, ℕ, List, [], ◌++◌, refl, sym, subst}
use Rattle.akl_terms.specs.declared.name.Var.{Var}
use Rattle.akl_terms.specs.declared.program.Program.{Program}
use Rattle.akl_terms.specs.declared.program.Query.{Query}
use Rattle.akl_model.specs.declared.item.Item.{Item}
use Rattle.akl_model.specs.declared.label.Label.{Label}
use Rattle.akl_model.specs.Config.{Config}
use Rattle.step_laws.specs.Bound.{AreBoundIn}
use Rattle.plan_laws.specs.Right.{NoneBy}
use Rattle.table_laws.specs.Rows.{Table}
use Rattle.table_laws.specs.Stamped.{IsTableOf}
use Rattle.table_laws.specs.Steps as laws
use Rattle.table_laws.specs.Added.{with_added}
use Rattle.table_laws.specs.Planned.{Seen, store_of}
use Rattle.box_tree.specs.declared.step.Step.{Step}
use Rattle.box_tree.specs.Tables.{all_rules, table_of, store_at, step_of, step_in}
use Rattle.box_tree.specs.Views.{run_of}
use Rattle.box_tree.specs.Plans.{PlanValue, IsRead, IsRight, of_label, of_call, labels_behind}
use Rattle.step_commit.specs.Cores.{CoreValue, IsCore, MayCommit, IsFresh}
use Rattle.step_commit.proofs.CallsNow.{IsPlannedCall, planned_call, CallsOn, calls_on}
use Rattle.step_commit.proofs.LabelNow.{IsPlannedLabel, planned_label, LeadsNow, label_now}
use Rattle.step_commit.proofs.SeenNow.{seen_now}
use Rattle.step_commit.proofs.Made.{seen_all}
use Rattle.opened_places.specs.Leading.{LeadsTo, by_label, by_call}
use Rattle.opened_places.proofs.Leading.{site_by}
use Rattle.scheduler.proofs.Leading.{IsSilent}

-- the labels lead on to a configuration, the step is what they make, and binds the variables
pub record IsMadeTo (p : Program) (c : Config) (l : Label) (more : List Label) (step : laws.Step) (binds : List Var) (d : Config) : Type 0 where
  pub leads : LeadsTo p c l more step d
  pub silent : IsSilent leads
  pub bound : AreBoundIn c d (site_by p c l more step d leads) binds

pub record IsMadeAt (p : Program) (c : Config) (l : Label) (more : List Label) (step : laws.Step) (binds : List Var) : Type 0 where
  pub result : Config
  pub made : IsMadeTo p c l more step binds result

module _ (p : Program) (q : Query) (journal further : List Label) (S T : Table) (l : Label) (more : List Label) (reads : List Item) (names : ℕ) (binds : List Var)
    (t : IsTableOf all_rules (record { program = p; query = q; journal = journal ++ further }) T) (none : NoneBy l further) where
  label_on : (step : Step) → more ≡ [] → IsPlannedLabel p q journal S l reads names step binds → ((i : Item) → IsRead reads i → Seen all_rules p q journal further i)
      → IsMadeAt p t.config l more (step_of p.templates.nodes (store_at T l.place) step) binds
  label_on step only x seen =
      let w : LeadsNow p q journal further S T l reads names step binds x t = label_now p q journal further S T l reads names step binds x t none seen in
      record { result = w.leads.result; made = record { leads = by_label w.leads.applies w.makes only; silent = tt; bound = w.leads.binds } }

  call_on : (step : Step) (behind : ℕ × ℕ) → IsPlannedCall p q journal S l more reads names step behind binds → ((i : Item) → IsRead reads i → Seen all_rules p q journal further i)
      → IsMadeAt p t.config l more (step_of p.templates.nodes (store_at T l.place) step) binds
  call_on step behind x seen =
      let w : CallsOn p q journal further S T l more reads names step behind binds x t = calls_on p q journal further S T l more reads names step behind binds x t none seen in
      record {
        result = _;
        made = record {
          leads = by_call (record {
            goal = x.goal;
            site = w.site;
            is_home = w.is_home;
            calls = w.again;
            labels = w.labels;
            alternative = x.alternative;
            new = with_added (store_of T w.site.content.name) x.part;
            is_solved = x.is_solved;
            goals = x.goals;
            makes = w.makes;
            step_is = w.step_is;
            result = refl;
          });
          silent = w.tells_nothing;
          bound = w.bound;
        };
      }

module _ (c : CoreValue) (k : IsCore c) (p : PlanValue) (r : IsRight p) (m : MayCommit c p) (f : IsFresh c p) where
  abbrev step : laws.Step
  step = step_in c.table p.label p.step

  seen : (i : Item) → IsRead p.reads i → Seen all_rules c.table.program c.table.query p.journal m.further i
  seen = seen_now c k p m (seen_all c k p r m f)

  on : (t : IsTableOf all_rules (run_of c.table (p.journal ++ m.further)) (table_of c.table)) → IsRight p → IsMadeAt c.table.program t.config p.label p.more step p.binds
  on t (of_label only none one) =
      label_on c.table.program c.table.query p.journal m.further (table_of p.table) (table_of c.table) p.label p.more p.reads p.names p.binds t m.none_by p.step only (planned_label c p one m) seen
  on t (of_call calls) =
      call_on c.table.program c.table.query p.journal m.further (table_of p.table) (table_of c.table) p.label p.more p.reads p.names p.binds t m.none_by p.step (labels_behind p.step) (planned_call c p calls m) seen

  pub made_now : (t : IsTableOf all_rules (run_of c.table c.journal) (table_of c.table)) → IsMadeAt c.table.program t.config p.label p.more step p.binds
  made_now = subst (λ (j : List Label). (t : IsTableOf all_rules (run_of c.table j) (table_of c.table)) → IsMadeAt c.table.program t.config p.label p.more step p.binds) (sym m.front) (λ t. on t r)
