-- A plan of one label that nothing made stale, at a later table: the label leads on there, and its step is what it makes.
use Rattle.std.proofs.Common.{◌≡◌, ℕ, List, ◌++◌, ap, sym, subst, ◌∙◌}
use Rattle.std.specs.Prelude.{IsSome, slice_index}
use Rattle.akl_terms.specs.declared.name.Var.{Var}
use Rattle.akl_terms.specs.declared.program.Program.{Program}
use Rattle.akl_terms.specs.declared.program.Query.{Query}
use Rattle.akl_model.specs.declared.item.Item.{Item}
use Rattle.akl_model.specs.declared.label.Label.{Label}
use Rattle.akl_model.specs.Config.{Config}
use Rattle.akl_model.specs.Derivations.{Applies}
use Rattle.akl_model.proofs.NamesKept.{replay-stands}
use Rattle.step_laws.specs.Bound.{AreBoundIn}
use Rattle.plan_laws.specs.Right.{NoneBy}
use Rattle.table_laws.specs.Rows.{Table}
use Rattle.table_laws.specs.Stamped.{IsTableOf, stamp_in}
use Rattle.table_laws.specs.Steps as laws
use Rattle.table_laws.specs.Steps.{Makes, IsSolvedIn}
use Rattle.table_laws.specs.PartSteps.{MakesPart, ReadsPart, step_over}
use Rattle.table_laws.specs.Planned.{GoesOnTo, Seen, LeadsOn, store_of}
use Rattle.table_laws.proofs.PartSteps as parts
use Rattle.table_laws.proofs.ReadMaps.{reads_part}
use Rattle.box_tree.specs.declared.step.Step.{Step}
use Rattle.box_tree.specs.Plans.{PlanValue, IsRead, IsRightLabel, part_step}
use Rattle.box_tree.specs.Tables.{all_rules, table_of, store_at, step_of}
use Rattle.box_tree.proofs.OverStores.{over_site}
use Rattle.step_commit.specs.Cores.{CoreValue, MayCommit}
use Rattle.step_commit.proofs.Committed.{goes}

-- all that the type of a plan of one label keeps, over a program and a query
pub record IsPlannedLabel (p : Program) (q : Query) (journal : List Label) (S : Table) (l : Label) (reads : List Item) (names : ℕ) (step : Step) (binds : List Var) : Type 0 where
  pub table : IsTableOf all_rules (record { program = p; query = q; journal = journal }) S
  pub result : Config
  pub applies : Applies all_rules p table.config l result
  pub makes : MakesPart p l (slice_index table.config.next l.worker) applies.site (part_step p.templates.nodes step)
  pub solved : IsSolvedIn S applies.site (step_of p.templates.nodes (store_at S l.place) step)
  pub drawn : names ≡ applies.change.drawn
  pub reads_all : ReadsPart (IsRead reads) table.config l applies.site binds (part_step p.templates.nodes step)
  pub bound : AreBoundIn table.config result applies.site binds
  pub there : (i : Item) → IsRead reads i → IsSome (stamp_in S i)

of_plan : (p : PlanValue) → IsRightLabel p → IsPlannedLabel p.table.program p.table.query p.journal (table_of p.table) p.label p.reads p.names p.step p.binds
of_plan p r = record { table = r.table; result = r.result; applies = r.applies; makes = r.makes; solved = r.solved; drawn = r.names; reads_all = r.reads; bound = r.binds; there = r.there }

-- so it is over the program of a core
pub planned_label : (c : CoreValue) (p : PlanValue) → IsRightLabel p → MayCommit c p → IsPlannedLabel c.table.program c.table.query p.journal (table_of p.table) p.label p.reads p.names p.step p.binds
planned_label c p r m = subst (λ (x : Program). IsPlannedLabel x c.table.query p.journal (table_of p.table) p.label p.reads p.names p.step p.binds) m.program
    (subst (λ (y : Query). IsPlannedLabel p.table.program y p.journal (table_of p.table) p.label p.reads p.names p.step p.binds) m.query (of_plan p r))

module _ (p : Program) (q : Query) (journal further : List Label) (S T : Table) (l : Label) (reads : List Item) (names : ℕ) (step : Step) (binds : List Var) (x : IsPlannedLabel p q journal S l reads names step binds)
    (t : IsTableOf all_rules (record { program = p; query = q; journal = journal ++ further }) T) where
  -- what the step makes of the box of its place in the later table
  abbrev pub step_now : laws.Step
  step_now = step_of p.templates.nodes (store_at T l.place) step

  pub record LeadsNow : Type 0 where
    pub leads : LeadsOn x.applies t.config binds
    pub makes : Makes p l (slice_index t.config.next l.worker) leads.applies.site step_now

  module _ (none : NoneBy l further) (seen : (i : Item) → IsRead reads i → Seen all_rules p q journal further i) where
    pub goes_on : GoesOnTo all_rules p q journal further x.table.config l T
    goes_on = record { replays = x.table.replays; table = t; derives = goes p q journal further S T x.table t; none = none }

    pub label_now : LeadsNow
    unfolding goes_on
    label_now =
        let k : _ = parts.part_step all_rules p q journal further x.table.config l T goes_on x.result x.applies binds x.bound (part_step p.templates.nodes step)
        (reads_part (IsRead reads) (Seen all_rules p q journal further) seen x.table.config l x.applies.site binds (part_step p.templates.nodes step) x.reads_all) x.makes in
        record { leads = k.0; makes = subst (Makes p l (slice_index t.config.next l.worker) k.0.applies.site) (same k.0) k.2 }
      where
        same : (k : LeadsOn x.applies t.config binds) → step_over (store_of T x.applies.site.content.name) (part_step p.templates.nodes step) ≡ step_now
        same k = ap (λ (n : _). step_over (store_of T n) (part_step p.templates.nodes step)) (sym k.same_site)
            ∙ over_site T t.config t.unfolds (replay-stands all_rules p q (journal ++ further) t.config t.replays).once p.templates.nodes l.place k.applies.site k.applies.is_site step
