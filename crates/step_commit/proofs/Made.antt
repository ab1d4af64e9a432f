-- What a commit makes of a core.
use Rattle.std.proofs.Common.{◌≡◌, ℕ, suc, ◌+◌, ◌<◌, ◌≤◌, List, [], ◌∷◌, ◌++◌, length, Option, Some, None, refl, sym, ap, subst, ◌∙◌, ◌⊎◌, inl, inr, arith}
use Rattle.std.proofs.lemmas.List.{length-append}
use Rattle.akl_terms.specs.declared.name.Name.{Name}
use Rattle.akl_terms.specs.declared.name.Place.{Place}
use Rattle.akl_terms.specs.declared.name.Var.{Var}
use Rattle.akl_terms.specs.declared.program.Program.{Program}
use Rattle.akl_terms.specs.declared.program.Query.{Query}
use Rattle.akl_model.specs.declared.item.Item.{Item}
use Rattle.akl_model.specs.declared.label.Rule.{Rule}
use Rattle.akl_model.specs.declared.label.Label.{Label}
use Rattle.akl_model.specs.declared.label.Receipt.{Receipt}
use Rattle.akl_model.specs.Config.{Config, Found, site_of, box_at}
use Rattle.akl_model.proofs.NamesKept.{replay-stands, site-box}
use Rattle.akl_model.specs.Rules.{Change, Reading, change_by}
use Rattle.akl_model.specs.Derivations.{Applies}
use Rattle.table_laws.specs.Rows.{BoxRow}
use Rattle.table_laws.specs.Stamped.{IsTableOf, AreMarked}
use Rattle.table_laws.specs.Steps as laws
use Rattle.table_laws.specs.Steps.{Makes, IsSolvedWhen}
use Rattle.table_laws.specs.Writes.{Leads}
use Rattle.table_laws.proofs.Fresh.{fresh_step}
use Rattle.table_laws.proofs.StepMakes.{step_law}
use Rattle.table_laws.specs.Added.{with_added}
use Rattle.table_laws.specs.Planned.{store_of}
use Rattle.box_tree.specs.declared.step.Step.{Step}
use Rattle.box_tree.specs.Tables.{all_rules, TableValue, table_of, step_in, FitsPlace, MayApply, LeadsBy}
use Rattle.box_tree.specs.Applied.{Applied, KeepsMark}
use Rattle.box_tree.specs.Views.{run_of}
use Rattle.box_tree.specs.Plans.{PlanValue, IsRightLabel, IsRightCall, IsRight, of_label, of_call, labels_behind}
use Rattle.box_tree.proofs.LeadsBy.{leads_alone}
use Rattle.step_commit.specs.Cores.{CoreValue, IsCore, MayCommit, IsFresh, IsStale, Commits, AllWithin, mark_of_store, IsUnchanged, IsFirstStale, IsFirstUnseen, solved_in}
use Rattle.step_commit.specs.Solving.{solved_at}
use Rattle.step_commit.proofs.CallsNow.{IsPlannedCall, planned_call, CallsOn, calls_on}
use Rattle.step_commit.proofs.CallsMade.{call_stores, here, may_call, table_after, marks_after}
use Rattle.step_commit.proofs.Stale.{last_in, looked, unchanged_here, stale, all_within}
use Rattle.step_commit.proofs.Marked.{marked_label}
use Rattle.step_commit.proofs.InOrder.{makes_ordered}
use Rattle.table_laws.specs.StoreMarks.{AreStoresMarked}
use Rattle.reading_laws.specs.Unchanged.{Unchanged}
use Rattle.akl_model.specs.Changes.{by_binding, Changes, by_store}
use Rattle.akl_model.specs.declared.item.Item.{Item}
use Rattle.akl_model.specs.Derivations.{Derives}
use Rattle.box_tree.proofs.LeadsBy.{stores_kept}
use Rattle.step_commit.proofs.StoreMarked.{stores_after, early_after}
use Rattle.step_commit.proofs.StoreLeaves.{store_left}
use Rattle.table_laws.proofs.LastChanges.{last_within}
use Rattle.step_commit.proofs.SeenNow.{seen_now}
use Rattle.step_commit.proofs.SolvedNow.{solved_now, joined_solved}
use Rattle.step_commit.proofs.LabelNow.{IsPlannedLabel, planned_label, LeadsNow, label_now}
use Rattle.constraint_laws.specs.Touched.{IsAmong}

some_none : {A : Type 0} {x : A} → None ≡ Some x → ⊥
some_none e = cc

-- Fail stands at a box
fail_place : (p : Program) (v : Reading) (w n : ℕ) (r : Rule) (place : Place) (a : Option Name) (f : Found) (c : Change) → r ≡ Rule.Fail → change_by p v w n r place a f ≡ Some c → FitsPlace place laws.fails a
fail_place p v w n r (Place.Box m) a f c e i = tt
fail_place p v w n r (Place.Goal g) a f c e i = some_none (subst (λ (x : Rule). change_by p v w n x (Place.Goal g) a f ≡ Some c) e i)

fits_goal : (place : Place) (alternative : Option Name) (g : Name) (step : laws.Step) → place ≡ Place.Goal g → FitsPlace (Place.Goal g) step alternative → FitsPlace place step alternative
fits_goal place alternative g step e f = subst (λ (x : Place). FitsPlace x step alternative) (sym e) f

-- with its alternative
fits_alternative : (place : Place) (alternative : Option Name) (g n : Name) (step : laws.Step) → place ≡ Place.Goal g → alternative ≡ Some n → FitsPlace (Place.Goal g) step (Some n) → FitsPlace place step alternative
fits_alternative place alternative g n step e a f = fits_goal place alternative g step e (subst (FitsPlace (Place.Goal g) step) (sym a) f)

-- at a box
fits_box : (place : Place) (alternative : Option Name) (n a : Name) (step : laws.Step) → place ≡ Place.Box n → alternative ≡ Some a → FitsPlace (Place.Box n) step (Some a) → FitsPlace place step alternative
fits_box place alternative n a step e h f = subst (λ (x : Place). FitsPlace x step alternative) (sym e) (subst (FitsPlace (Place.Box n) step) (sym h) f)

fits : (rules : List Rule) (p : Program) (c : Config) (l : Label) (d : Config) (n : ℕ) (a : Applies rules p c l d) (step : laws.Step) → Makes p l n a.site step → FitsPlace l.place step l.alternative
fits rules p c l d n a (laws.tells new solved) m = fits_goal l.place l.alternative m.0 (laws.tells new solved) m.1 tt
fits rules p c l d n a (laws.forks op news) m = fits_goal l.place l.alternative m.1.0 (laws.forks op news) m.1.1 tt
fits rules p c l d n a laws.cuts m = fits_alternative l.place l.alternative m.1.0 m.1.1 laws.cuts m.1.2 m.1.3 tt
fits rules p c l d n a (laws.joins new solved goals) m = fits_goal l.place l.alternative m.0 (laws.joins new solved goals) m.1 tt
fits rules p c l d n a laws.refutes m = fits_goal l.place l.alternative m.1.0 laws.refutes m.1.1 tt
fits rules p c l d n a laws.confirms m = fits_goal l.place l.alternative m.1.0 laws.confirms m.1.1 tt
fits rules p c l d n a (laws.splits copy copies) m = fits_box l.place l.alternative m.1.0 m.1.1 (laws.splits copy copies) m.1.2 m.1.3 tt
fits rules p c l d n a laws.fails m = fail_place p a.makes.reading l.worker _ l.rule l.place l.alternative a.site a.change m a.makes.change

-- what a plan makes of the table of a core: its step may be made there, and leads to a table of the run that goes on with its labels
record Leading (c : CoreValue) (p : PlanValue) (m : MayCommit c p) : Type 0 where
  may : MayApply c.table p.label p.step
  next : (u : TableValue) → Applied c.table p.label (length p.more) (solved_in c p) p.names p.step p.binds u → IsTableOf all_rules (run_of c.table ((p.journal ++ m.further) ++ p.label ∷ p.more)) (table_of u)
  marks : (u : TableValue) → Applied c.table p.label (length p.more) (solved_in c p) p.names p.step p.binds u → AreMarked all_rules (run_of c.table ((p.journal ++ m.further) ++ p.label ∷ p.more)) (table_of u)
  stores : (u : TableValue) → Applied c.table p.label (length p.more) (solved_in c p) p.names p.step p.binds u → AreStoresMarked all_rules (run_of c.table ((p.journal ++ m.further) ++ p.label ∷ p.more)) (table_of u) (mark_of_store u)

module _ (c : CoreValue) (k : IsCore c) (p : PlanValue) (m : MayCommit c p) (within : AllWithin c.table p.reads (length p.journal)) where
  abbrev step : laws.Step
  step = step_in c.table p.label p.step

  t : IsTableOf all_rules (run_of c.table (p.journal ++ m.further)) (table_of c.table)
  t = subst (λ (j : List Label). IsTableOf all_rules (run_of c.table j) (table_of c.table)) m.front k.table

  marks_before : AreMarked all_rules (run_of c.table (p.journal ++ m.further)) (table_of c.table)
  marks_before = subst (λ (j : List Label). AreMarked all_rules (run_of c.table j) (table_of c.table)) m.front k.marks

  same_length : length (p.journal ++ m.further) ≡ length c.journal
  same_length = ap length (sym m.front)

  module _ (only : p.more ≡ []) (none : labels_behind p.step ≡ (0, 0)) (r : IsRightLabel p) where
    x : IsPlannedLabel c.table.program c.table.query p.journal (table_of p.table) p.label p.reads p.names p.step p.binds
    x = planned_label c p r m

    on : LeadsNow c.table.program c.table.query p.journal m.further (table_of p.table) (table_of c.table) p.label p.reads p.names p.step p.binds x t
    on = label_now c.table.program c.table.query p.journal m.further (table_of p.table) (table_of c.table) p.label p.reads p.names p.step p.binds x t m.none_by (seen_now c k p m within)

    abbrev applies : Applies all_rules c.table.program t.config p.label on.leads.result
    applies = on.leads.applies

    solved : IsSolvedWhen (solved_in c p) (table_of c.table) applies.site step
    solved = subst (λ (n : ℕ). IsSolvedWhen (solved_at (table_of c.table) n (length p.journal) p.label.place p.step) (table_of c.table) applies.site step) same_length
        (solved_now c.table.program c.table.query p.journal m.further (table_of p.table) (table_of c.table) p.label p.reads p.names p.step p.binds x t on m.same_stores)

    leads : (u : TableValue) → Applied c.table p.label (length p.more) (solved_in c p) p.names p.step p.binds u → Leads (table_of c.table) p.label (solved_in c p) p.names step (table_of u)
    leads u a = leads_alone c.table p.label (solved_in c p) p.names (table_of u) p.step none
        (subst (λ (ls : List Label). LeadsBy c.table p.label (length ls) (solved_in c p) p.names p.step (table_of u)) only a.leads)

    made_one : (u : TableValue) → Applied c.table p.label (length p.more) (solved_in c p) p.names p.step p.binds u
        → (x : IsTableOf all_rules (run_of c.table ((p.journal ++ m.further) ++ p.label ∷ [])) (table_of u)) × (x.config ≡ on.leads.result)
    made_one u a = step_law all_rules (run_of c.table (p.journal ++ m.further)) (table_of c.table) (table_of u) p.label on.leads.result t applies step (solved_in c p) on.makes solved
        (subst (λ (n : ℕ). Leads (table_of c.table) p.label (solved_in c p) n step (table_of u)) (x.drawn ∙ sym on.leads.drawn) (leads u a))

    table_one : (u : TableValue) → Applied c.table p.label (length p.more) (solved_in c p) p.names p.step p.binds u → IsTableOf all_rules (run_of c.table ((p.journal ++ m.further) ++ p.label ∷ [])) (table_of u)
    table_one u a = (made_one u a).0

    module _ (u : TableValue) (a : Applied c.table p.label (length p.more) (solved_in c p) p.names p.step p.binds u) where
      one_more : c.table.steps < u.steps
      one_more =
          let e : c.table.steps ≡ length (p.journal ++ m.further) = t.stamped.steps in
          let h : u.steps ≡ length ((p.journal ++ m.further) ++ p.label ∷ []) = (table_one u a).stamped.steps in
          let i : length ((p.journal ++ m.further) ++ p.label ∷ []) ≡ length (p.journal ++ m.further) + 1 = length-append (p.journal ++ m.further) (p.label ∷ []) in
          omega (arith, e, h, i)

      derives_one : Derives all_rules c.table.program t.config (p.label ∷ []) (table_one u a).config
      unfolding table_one made_one
      derives_one = (on.leads.result, applies, sym (made_one u a).1)

      left_one : (n : Name) → KeepsMark c.table p.label p.step u n → Unchanged all_rules c.table.program t.config (p.label ∷ []) (table_one u a).config derives_one (Item.Store n)
      unfolding derives_one table_one made_one
      left_one n kept = (
        subst (λ (d : Config). Changes by_binding t.config d (Item.Store n) → ⊥) (made_one u a).1
            (store_left (run_of c.table (p.journal ++ m.further)) (run_of c.table ((p.journal ++ m.further) ++ p.label ∷ [])) c.table u t (table_one u a) p.label (length p.more) (solved_in c p) p.names p.step n kept a.leads
            (ap (λ (y : Program). y.templates.nodes) a.program)),
        tt,
      )

      stores_one : AreStoresMarked all_rules (run_of c.table ((p.journal ++ m.further) ++ p.label ∷ [])) (table_of u) (mark_of_store u)
      stores_one = stores_after c.table.program c.table.query (p.journal ++ m.further) (p.label ∷ []) c.table u t (table_one u a) derives_one
          (stores_kept c.table p.label (length p.more) (solved_in c p) p.names (table_of u) one_more p.step a.leads) (omega (arith, one_more)) p.label p.step a.stores k.stores_early left_one
          (subst (λ (j : List Label). AreStoresMarked all_rules (run_of c.table j) (table_of c.table) (mark_of_store c.table)) m.front k.stores)

    of_one : Leading c p m
    of_one = record {
      may = record {
        run = run_of c.table (p.journal ++ m.further);
        table = t;
        fits = fits all_rules c.table.program t.config p.label on.leads.result _ applies step on.makes;
        fresh = fresh_step all_rules (run_of c.table (p.journal ++ m.further)) (table_of c.table) p.label on.leads.result t applies step on.makes;
        ordered = makes_ordered all_rules (run_of c.table (p.journal ++ m.further)) (table_of c.table) p.label on.leads.result t applies step on.makes;
      };
      next = λ u a. subst (λ (ls : List Label). IsTableOf all_rules (run_of c.table ((p.journal ++ m.further) ++ p.label ∷ ls)) (table_of u)) (sym only) (table_one u a);
      marks = λ u a. subst (λ (ls : List Label). AreMarked all_rules (run_of c.table ((p.journal ++ m.further) ++ p.label ∷ ls)) (table_of u)) (sym only)
          (marked_label c.table.program c.table.query p.journal m.further (table_of p.table) (table_of c.table) (table_of u) p.label p.more p.reads p.names p.binds t a.marks marks_before p.step x on
          (table_one u a).stamped.steps);
      stores = λ u a. subst (λ (ls : List Label). AreStoresMarked all_rules (run_of c.table ((p.journal ++ m.further) ++ p.label ∷ ls)) (table_of u) (mark_of_store u)) (sym only) (stores_one u a);
    }

  module _ (r : IsRightCall p) where
    y : IsPlannedCall c.table.program c.table.query p.journal (table_of p.table) p.label p.more p.reads p.names p.step (labels_behind p.step) p.binds
    y = planned_call c p r m

    called : CallsOn c.table.program c.table.query p.journal m.further (table_of p.table) (table_of c.table) p.label p.more p.reads p.names p.step (labels_behind p.step) p.binds y t
    called = calls_on c.table.program c.table.query p.journal m.further (table_of p.table) (table_of c.table) p.label p.more p.reads p.names p.step (labels_behind p.step) p.binds y t m.none_by (seen_now c k p m within)

    call_is_solved : IsSolvedWhen (solved_in c p) (table_of c.table) called.site (laws.joins (with_added (store_of (table_of c.table) called.site.content.name) y.part) y.is_solved y.goals)
    call_is_solved =
        let here : p.label.place ≡ Place.Goal y.goal = here c.table p.journal m.further (table_of p.table) p.label p.more p.reads p.names p.step p.binds y t called in
        let box : box_at called.site.content.name t.config.roots ≡ Some called.site =
        site-box (Place.Goal y.goal) t.config.roots called.site (replay-stands all_rules c.table.program c.table.query (p.journal ++ m.further) t.config t.replays).once called.is_home in
        subst (λ (n : ℕ). IsSolvedWhen (solved_at (table_of c.table) n (length p.journal) p.label.place p.step) (table_of c.table) called.site
        (laws.joins (with_added (store_of (table_of c.table) called.site.content.name) y.part) y.is_solved y.goals)) same_length
        (joined_solved c.table.program c.table.query p.journal m.further (table_of p.table) (table_of c.table) y.table t m.same_stores y.site called.site box called.same_name called.same_around p.label.place y.goal here
        (subst (λ (place : Place). site_of place t.config.roots ≡ Some called.site) (sym here) called.is_home) c.table.program.templates.nodes p.step y.part y.is_solved y.goals y.step_is y.solved)

    more_steps : (u : TableValue) → Applied c.table p.label (length p.more) (solved_in c p) p.names p.step p.binds u → c.table.steps < u.steps
    more_steps u a =
        let x : IsTableOf all_rules (run_of c.table ((p.journal ++ m.further) ++ p.label ∷ p.more)) (table_of u) =
        table_after c.table p.journal m.further (table_of p.table) p.label p.more p.reads p.names p.step p.binds y t called (solved_in c p) call_is_solved (table_of u) a.leads in
        let e : c.table.steps ≡ length (p.journal ++ m.further) = t.stamped.steps in
        let h : u.steps ≡ length ((p.journal ++ m.further) ++ p.label ∷ p.more) = x.stamped.steps in
        let i : length ((p.journal ++ m.further) ++ p.label ∷ p.more) ≡ length (p.journal ++ m.further) + length (p.label ∷ p.more) = length-append (p.journal ++ m.further) (p.label ∷ p.more) in
        let j : length (p.label ∷ p.more) ≡ suc (length p.more) = refl in
        omega (arith, e, h, i, j)

    of_several : Leading c p m
    of_several = record {
      may = may_call c.table p.journal m.further (table_of p.table) p.label p.more p.reads p.names p.step p.binds y t called;
      next = λ u a. table_after c.table p.journal m.further (table_of p.table) p.label p.more p.reads p.names p.step p.binds y t called (solved_in c p) call_is_solved (table_of u) a.leads;
      marks = λ u a. marks_after c.table p.journal m.further (table_of p.table) p.label p.more p.reads p.names p.step p.binds y t called (solved_in c p) call_is_solved (table_of u) a.leads a.marks marks_before;
      stores = λ u a. call_stores c.table p.journal m.further (table_of p.table) p.label p.more p.reads p.names p.step p.binds y t called (solved_in c p) call_is_solved u a.leads a.stores k.stores_early (more_steps u a)
          (subst (λ (j : List Label). AreStoresMarked all_rules (run_of c.table j) (table_of c.table) (mark_of_store c.table)) m.front k.stores);
    }

leading : (c : CoreValue) → IsCore c → (p : PlanValue) → IsRight p → (m : MayCommit c p) → AllWithin c.table p.reads (length p.journal) → Leading c p m
leading c k p (of_label only none r) m within = of_one c k p m within only none r
leading c k p (of_call r) m within = of_several c k p m within r

module _ (c : CoreValue) (k : IsCore c) (p : PlanValue) (r : IsRight p) (m : MayCommit c p) (within : AllWithin c.table p.reads (length p.journal)) where
  pub may_apply : MayApply c.table p.label p.step
  may_apply = (leading c k p r m within).may

  module _ (u : TableValue) (a : Applied c.table p.label (length p.more) (solved_in c p) p.names p.step p.binds u) where
    next : IsTableOf all_rules (run_of c.table ((p.journal ++ m.further) ++ p.label ∷ p.more)) (table_of u)
    next = (leading c k p r m within).next u a

    pub core_on : (journal : List Label) → journal ≡ c.journal ++ p.label ∷ p.more → length p.more + length c.journal < c.budget → IsCore (record { table = u; journal = journal; workers = c.workers; budget = c.budget })
    core_on journal e less = subst (λ (j : List Label). IsCore (record { table = u; journal = j; workers = c.workers; budget = c.budget })) (sym (e ∙ ap (λ (j : List Label). j ++ p.label ∷ p.more) m.front)) (record {
      table = subst (λ (q : Query). IsTableOf all_rules (record { program = u.program; query = q; journal = (p.journal ++ m.further) ++ p.label ∷ p.more }) (table_of u)) (sym a.query)
          (subst (λ (y : Program). IsTableOf all_rules (record { program = y; query = c.table.query; journal = (p.journal ++ m.further) ++ p.label ∷ p.more }) (table_of u)) (sym a.program) next);
      marks = subst (λ (q : Query). AreMarked all_rules (record { program = u.program; query = q; journal = (p.journal ++ m.further) ++ p.label ∷ p.more }) (table_of u)) (sym a.query)
          (subst (λ (y : Program). AreMarked all_rules (record { program = y; query = c.table.query; journal = (p.journal ++ m.further) ++ p.label ∷ p.more }) (table_of u)) (sym a.program) ((leading c k p r m within).marks u a));
      early = λ x. on x (a.marks.each x);
      stores = subst (λ (q : Query). AreStoresMarked all_rules (record { program = u.program; query = q; journal = (p.journal ++ m.further) ++ p.label ∷ p.more }) (table_of u) (mark_of_store u)) (sym a.query)
          (subst (λ (y : Program). AreStoresMarked all_rules (record { program = y; query = c.table.query; journal = (p.journal ++ m.further) ++ p.label ∷ p.more }) (table_of u) (mark_of_store u)) (sym a.program) ((leading c k p r m within).stores u a));
      stores_early = early_after c.table u p.label p.step a.stores k.stores_early grows now_within then_within;
      within =
          let i : length ((p.journal ++ m.further) ++ p.label ∷ p.more) ≡ length (p.journal ++ m.further) + length (p.label ∷ p.more) = length-append (p.journal ++ m.further) (p.label ∷ p.more) in
          let j : length c.journal ≡ length (p.journal ++ m.further) = ap length m.front in
          let h : length (p.label ∷ p.more) ≡ suc (length p.more) = refl in
          omega (arith, i, j, h, less);
    })
      where
        long : length c.journal ≤ length ((p.journal ++ m.further) ++ p.label ∷ p.more)
        long =
            let i : length ((p.journal ++ m.further) ++ p.label ∷ p.more) ≡ length (p.journal ++ m.further) + length (p.label ∷ p.more) = length-append (p.journal ++ m.further) (p.label ∷ p.more) in
            let j : length c.journal ≡ length (p.journal ++ m.further) = ap length m.front in
            omega (arith, i, j)

        table_then : IsTableOf all_rules (run_of c.table c.journal) (table_of c.table)
        table_then = k.table

        then_within : (n : Name) (row : BoxRow) → (table_of c.table).box_of n ≡ Some row → row.changed ≤ c.table.steps
        then_within n row e = subst (λ (x : ℕ). row.changed ≤ x) (sym table_then.stamped.steps) (last_within by_store all_rules c.table.program c.table.query c.journal (Item.Store n) row.changed (table_then.stamped.store n row e))

        now_within : (n : Name) (row : BoxRow) → (table_of u).box_of n ≡ Some row → row.changed ≤ u.steps
        now_within n row e = subst (λ (x : ℕ). row.changed ≤ x) (sym next.stamped.steps)
            (last_within by_store all_rules c.table.program c.table.query ((p.journal ++ m.further) ++ p.label ∷ p.more) (Item.Store n) row.changed (next.stamped.store n row e))

        grows : c.table.steps ≤ u.steps
        grows =
            let e : c.table.steps ≡ length c.journal = table_then.stamped.steps in
            let h : u.steps ≡ length ((p.journal ++ m.further) ++ p.label ∷ p.more) = next.stamped.steps in
            omega (arith, e, h, long)

        on : (x : Var) → ((table_of u).mark_of x ≡ u.steps) ⊎ ((IsAmong x p.binds → ⊥) × ((table_of u).mark_of x ≡ (table_of c.table).mark_of x)) → (table_of u).mark_of x ≤ length ((p.journal ++ m.further) ++ p.label ∷ p.more)
        on x (inl e) = let steps : u.steps ≡ length ((p.journal ++ m.further) ++ p.label ∷ p.more) = next.stamped.steps in omega (arith, e, steps)
        on x (inr e) = let same : (table_of u).mark_of x ≡ (table_of c.table).mark_of x = e.1 in let was : (table_of c.table).mark_of x ≤ length c.journal = k.early x in omega (arith, same, was, long)

    pub commits : (journal : List Label) (receipt : Receipt) → journal ≡ c.journal ++ p.label ∷ p.more → receipt ≡ record { at = length c.journal + 1; seen = length p.journal; label = p.label } → length p.more + length c.journal < c.budget
        → Commits c p (record { table = u; journal = journal; workers = c.workers; budget = c.budget }) receipt
    commits journal receipt e f less = record {
      fixed = record { program = a.program; query = a.query; workers = refl; budget = refl };
      journal = e;
      made = a;
      receipt = f;
      fresh = record { unspent = less; unchanged = λ i j. unchanged_here c k p.table p.journal p.reads (looked c p r m) i (within i j) };
    }

-- nothing that was read of the whole journal is stale
pub all_seen : (c : CoreValue) → IsCore c → (p : PlanValue) → length c.journal ≡ length p.journal → length p.more + length c.journal < c.budget → IsFresh c p
all_seen c k p all less = record { unspent = less; unchanged = λ i r. on i }
  where
    on : (i : Item) → IsUnchanged c p.journal i
    on i n y = let h : n ≤ length c.journal = last_in c k i n y in omega (arith, h, all)

-- what is found of the items of a plan
module _ (c : CoreValue) (k : IsCore c) (p : PlanValue) (r : IsRight p) (m : MayCommit c p) where
  pub fresh : length p.more + length c.journal < c.budget → AllWithin c.table p.reads (length p.journal) → IsFresh c p
  fresh less within = record { unspent = less; unchanged = λ i j. unchanged_here c k p.table p.journal p.reads (looked c p r m) i (within i j) }

  pub not_fresh : (item : Item) (stamp : Option ℕ) → IsFirstUnseen c.table p.reads (length p.journal) item stamp → IsStale c p.journal p.reads item stamp
  not_fresh item stamp f = stale c k p.table p.journal p.reads (looked c p r m) item stamp f

  pub seen_all : IsFresh c p → AllWithin c.table p.reads (length p.journal)
  seen_all f = all_within c k p.table p.journal p.reads (looked c p r m) f.unchanged

-- the same over equal tables, items and numbers
pub found_as : (t : TableValue) (xs ys : List Item) (m n : ℕ) (o q : Option (Item × Option ℕ)) → xs ≡ ys → m ≡ n → o ≡ q → IsFirstStale t xs m o → IsFirstStale t ys n q
found_as t xs ys m n o q f g e h = subst (λ (k : ℕ). IsFirstStale t ys k q) g (subst (λ (zs : List Item). IsFirstStale t zs m q) f (subst (λ (w : Option (Item × Option ℕ)). IsFirstStale t xs m w) e h))

pub may_apply_as : (t u : TableValue) (l k : Label) (a b : Step) → t ≡ u → l ≡ k → a ≡ b → MayApply t l a → MayApply u k b
may_apply_as t u l k a b e f g h = subst (λ (x : Step). MayApply u k x) g (subst (λ (x : Label). MayApply u x a) f (subst (λ (x : TableValue). MayApply x l a) e h))

pub applied_as : (t s : TableValue) (l k : Label) (v w : ℕ) (at now : Option ℕ) (m n : ℕ) (a b : Step) (xs ys : List Var) (u : TableValue) → t ≡ s → l ≡ k → v ≡ w → at ≡ now → m ≡ n → a ≡ b → xs ≡ ys
    → Applied t l v at m a xs u → Applied s k w now n b ys u
applied_as t s l k v w at now m n a b xs ys u e f j o g i d h =
    subst (λ (x : List Var). Applied s k w now n b x u) d (subst (λ (x : Step). Applied s k w now n x xs u) i (subst (λ (x : ℕ). Applied s k w now x a xs u) g (subst (λ (x : Option ℕ). Applied s k w x m a xs u) o
    (subst (λ (x : ℕ). Applied s k x at m a xs u) j (subst (λ (x : Label). Applied s x v at m a xs u) f (subst (λ (x : TableValue). Applied x l v at m a xs u) e h))))))
