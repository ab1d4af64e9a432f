-- A call at once that nothing made stale leads the run on by all its labels.
use Rattle.std.proofs.Common.{◌≡◌, ℕ, ◌+◌, Bool, List, ◌∷◌, ◌++◌, length, Some, None, sym, ap, subst, ◌∙◌}
use Rattle.akl_terms.specs.declared.name.Name.{Name}
use Rattle.akl_terms.specs.declared.name.Var.{Var}
use Rattle.akl_terms.specs.declared.name.Place.{Place}
use Rattle.akl_terms.specs.declared.program.Program.{Program}
use Rattle.akl_terms.specs.declared.program.Query.{Query}
use Rattle.akl_model.specs.declared.item.Item.{Item}
use Rattle.akl_model.specs.declared.label.Label.{Label}
use Rattle.akl_model.specs.declared.label.Rule.{Rule}
use Rattle.akl_model.specs.Config.{Atom, Found, home_of}
use Rattle.akl_model.specs.Instances.{drawn_by}
use Rattle.akl_model.specs.Wakes.{names_around}
use Rattle.akl_model.proofs.NamesKept.{replay-stands}
use Rattle.local_store.specs.Stored.{Stored}
use Rattle.step_laws.specs.Bound.{AreBoundIn}
use Rattle.plan_laws.specs.Right.{NoneBy}
use Rattle.reading_laws.specs.Seen.{ReadsAt, ByBindings}
use Rattle.plan_laws.specs.AtOnce.{by, IsAtOnce, labels_at_once, at_once}
use Rattle.plan_laws.specs.Wakes.{TellsNothing}
use Rattle.reading_laws.specs.CallsAgain.{IsAtOnceLater}
use Rattle.reading_laws.specs.QuietGuards.{EvaluatesQuietly}
use Rattle.table_laws.specs.Calls.{CallsGoal, told_of_body}
use Rattle.table_laws.specs.Rows.{Table}
use Rattle.table_laws.specs.Stamped.{IsTableOf}
use Rattle.table_laws.specs.Steps.{joins, IsSolvedIn}
use Rattle.table_laws.specs.Added.{Added, with_added}
use Rattle.table_laws.specs.Planned.{GoesOnTo, Seen, store_of}
use Rattle.table_laws.specs.PartSteps.{joins_part, step_over}
use Rattle.table_laws.proofs.ReadMaps.{reads_at, was_by_bindings}
use Rattle.table_laws.specs.Calling.{CallsBy}
use Rattle.table_laws.proofs.CallsLater.{call_later}
use Rattle.box_tree.specs.declared.step.Step.{Step}
use Rattle.box_tree.specs.Tables.{all_rules, table_of, store_at, step_of}
use Rattle.box_tree.specs.Plans.{PlanValue, IsRead, IsRightCall, labels_behind, part_step}
use Rattle.box_tree.proofs.AllInForce.{all_in_force}
use Rattle.box_tree.proofs.OverStores.{over_site}
use Rattle.step_commit.specs.Cores.{CoreValue, MayCommit}
use Rattle.step_commit.proofs.Committed.{goes}

-- all that the type of a call's plan keeps, over a program and a query
pub record IsPlannedCall (p : Program) (q : Query) (journal : List Label) (S : Table) (l : Label) (more : List Label) (reads : List Item) (names : ℕ) (step : Step) (behind : ℕ × ℕ) (binds : List Var) : Type 0 where
  pub table : IsTableOf all_rules (record { program = p; query = q; journal = journal }) S
  pub goal : Name
  pub site : Found
  pub is_home : home_of goal table.config.roots ≡ Some site
  pub calls : IsAtOnce p table.config l.worker goal site
  pub labels : l ∷ more ≡ labels_at_once calls
  pub tells_nothing : TellsNothing calls
  pub alternative : Stored
  pub part : Added
  pub is_solved : Bool
  pub goals : List (Name × Atom)
  pub makes : CallsBy calls alternative part goals
  pub step_is : part_step p.templates.nodes step ≡ joins_part part is_solved goals
  pub behind_is : behind ≡ (told_of_body calls, length calls.body_labels)
  pub solved : IsSolvedIn S site (joins (with_added (store_of S site.content.name) part) is_solved goals)
  pub drawn : names ≡ drawn_by calls.called.clauses + length calls.last.body
  pub bound : AreBoundIn table.config (at_once calls) site binds
  pub reads_call : ReadsAt (IsRead reads) table.config goal site binds
  pub quiet : ByBindings (IsRead reads) table.config goal site binds reads_call → EvaluatesQuietly calls

of_plan : (p : PlanValue) → IsRightCall p → IsPlannedCall p.table.program p.table.query p.journal (table_of p.table) p.label p.more p.reads p.names p.step (labels_behind p.step) p.binds
of_plan p r = record {
  table = r.table;
  goal = r.goal;
  site = r.site;
  is_home = r.is_home;
  calls = r.calls;
  labels = r.labels;
  tells_nothing = r.tells_nothing;
  alternative = r.alternative;
  part = r.part;
  is_solved = r.is_solved;
  goals = r.goals;
  makes = r.makes;
  step_is = r.step;
  behind_is = r.behind;
  solved = r.solved;
  drawn = r.names;
  bound = r.binds;
  reads_call = r.reads;
  quiet = r.quiet;
}

-- so it is over the program of a core
pub planned_call : (c : CoreValue) (p : PlanValue) → IsRightCall p → MayCommit c p → IsPlannedCall c.table.program c.table.query p.journal (table_of p.table) p.label p.more p.reads p.names p.step (labels_behind p.step) p.binds
planned_call c p r m = subst (λ (x : Program). IsPlannedCall x c.table.query p.journal (table_of p.table) p.label p.more p.reads p.names p.step (labels_behind p.step) p.binds) m.program
    (subst (λ (y : Query). IsPlannedCall p.table.program y p.journal (table_of p.table) p.label p.more p.reads p.names p.step (labels_behind p.step) p.binds) m.query (of_plan p r))

pub first_same : (l k : Label) (ls ks : List Label) → l ∷ ls ≡ k ∷ ks → l ≡ k
first_same l k ls ks e = cc

pub rest_same : (l k : Label) (ls ks : List Label) → l ∷ ls ≡ k ∷ ks → ls ≡ ks
rest_same l k ls ks e = cc

module _ (p : Program) (q : Query) (journal further : List Label) (S T : Table) (l : Label) (more : List Label) (reads : List Item) (names : ℕ) (step : Step) (behind : ℕ × ℕ) (binds : List Var) (x : IsPlannedCall p q journal S l more reads names step behind binds)
    (t : IsTableOf all_rules (record { program = p; query = q; journal = journal ++ further }) T) where
  -- the call is one of the later configuration, in a box of the same name under boxes of the same names, and its step is what it makes there
  pub record CallsOn : Type 0 where
    pub site : Found
    pub is_home : home_of x.goal t.config.roots ≡ Some site
    pub again : IsAtOnce p t.config l.worker x.goal site
    pub labels : l ∷ more ≡ labels_at_once again
    pub tells_nothing : TellsNothing again
    pub bound : AreBoundIn t.config (at_once again) site binds
    pub makes : CallsGoal again x.alternative (with_added (store_of T site.content.name) x.part) x.goals
    pub step_is : step_of p.templates.nodes (store_at T l.place) step ≡ joins (with_added (store_of T site.content.name) x.part) x.is_solved x.goals
    pub behind_is : behind ≡ (told_of_body again, length again.body_labels)
    pub drawn : names ≡ drawn_by again.called.clauses + length again.last.body
    pub same_name : site.content.name ≡ x.site.content.name
    pub same_around : names_around site ≡ names_around x.site

  first : l ≡ by l.worker Rule.Fork (Place.Goal x.goal) None
  first = first_same l (by l.worker Rule.Fork (Place.Goal x.goal) None) more _ x.labels

  module _ (none : NoneBy l further) (seen : (i : Item) → IsRead reads i → Seen all_rules p q journal further i) where
    abbrev goes_on : GoesOnTo all_rules p q journal further x.table.config (by l.worker Rule.Fork (Place.Goal x.goal) None) T
    goes_on = record { replays = x.table.replays; table = t; derives = goes p q journal further S T x.table t; none = subst (λ (k : Label). NoneBy k further) first none }

    abbrev reads_later : ReadsAt (Seen all_rules p q journal further) x.table.config x.goal x.site binds
    reads_later = reads_at (IsRead reads) (Seen all_rules p q journal further) seen x.table.config x.goal x.site binds x.reads_call

    pub calls_on : CallsOn
    calls_on =
        let s : _ = call_later all_rules all_in_force p q journal further x.table.config l.worker x.goal T goes_on x.site x.is_home x.calls binds x.bound reads_later
        (λ b. x.quiet (was_by_bindings (IsRead reads) (Seen all_rules p q journal further) seen x.table.config x.goal x.site binds x.reads_call b))
        x.alternative x.part x.goals x.makes in
        let site : Found = s.0 in
        let z : IsAtOnceLater all_rules x.calls t.config site = s.1 in
        let name : site.content.name ≡ x.site.content.name = s.2 in
        record {
          site = site;
          is_home = z.is_home;
          again = z.again;
          labels = x.labels ∙ sym z.same_labels;
          tells_nothing = z.silent x.tells_nothing;
          bound = s.5;
          makes = subst (λ (n : Name). CallsGoal z.again x.alternative (with_added (store_of T n) x.part) x.goals) (sym name) s.6;
          step_is = ap (λ (k : Label). step_of p.templates.nodes (store_at T k.place) step) first
              ∙ sym (over_site T t.config t.unfolds (replay-stands all_rules p q (journal ++ further) t.config t.replays).once p.templates.nodes (Place.Goal x.goal) site z.is_home step)
              ∙ ap (step_over (store_of T site.content.name)) x.step_is;
          behind_is = x.behind_is ∙ (λ i. ((sym s.4) i, length ((sym z.same_body) i)));
          drawn = x.drawn ∙ (λ i. (sym z.same_names) i + length ((sym z.same_last) i).body);
          same_name = name;
          same_around = s.3;
        }
