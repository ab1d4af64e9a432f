-- What the labels of a call make of the table of a core: their step may be made there, and leads to a table of the run that goes on with them, in which marks are right.
use Rattle.std.proofs.Common.{◌≡◌, Some, ℕ, ◌+◌, List, ◌∷◌, ◌++◌, length, map, Option, None, sym, ap, subst, ◌∙◌, ◌⊎◌, ◌<◌, arith}
use Rattle.std.specs.Prelude.{slice_index}
use Rattle.std.proofs.lemmas.List.{length-append}
use Rattle.akl_terms.specs.declared.name.Name.{Name}
use Rattle.akl_terms.specs.declared.name.Place.{Place}
use Rattle.akl_terms.specs.declared.name.Var.{Var}
use Rattle.akl_model.specs.declared.item.Item.{Item}
use Rattle.akl_model.specs.declared.label.Label.{Label}
use Rattle.akl_model.specs.declared.label.Rule.{Rule}
use Rattle.akl_model.specs.Config.{Atom}
use Rattle.akl_model.specs.Instances.{drawn_by}
use Rattle.akl_model.specs.Ordered.{IsIncreasing}
use Rattle.akl_model.specs.Rules.{joining}
use Rattle.akl_model.proofs.NamesKept.{replay-stands}
use Rattle.local_store.specs.Stored.{Stored}
use Rattle.plan_laws.specs.AtOnce.{at_once, labels_at_once, by, IsAtOnce}
use Rattle.table_laws.specs.Calls.{told_of_body, promoted_at, told_at, ended_at, after_call}
use Rattle.table_laws.proofs.CallMarked.{call_marked}
use Rattle.table_laws.proofs.CallStep.{call_step}
use Rattle.table_laws.specs.Marks.{Marks}
use Rattle.table_laws.specs.Rows.{Table}
use Rattle.table_laws.specs.Stamped.{Run, IsTableOf, AreMarked}
use Rattle.table_laws.specs.Steps as laws
use Rattle.table_laws.specs.Steps.{IsSolvedWhen}
use Rattle.table_laws.specs.Writes.{IsTable, IsFresh as IsNewTo, DrawsFresh, solved_when}
use Rattle.table_laws.specs.Added.{with_added}
use Rattle.table_laws.specs.Planned.{store_of}
use Rattle.box_tree.specs.declared.step.Step.{Step}
use Rattle.box_tree.specs.Tables.{all_rules, TableValue, table_of, step_in, FitsPlace, DrawsInOrder, MayApply, Joins, LeadsBy}
use Rattle.box_tree.specs.Views.{run_of}
use Rattle.box_tree.specs.Plans.{labels_behind}
use Rattle.box_tree.proofs.AllInForce.{all_in_force}
use Rattle.box_tree.proofs.LeadsBy.{joined_by}
use Rattle.step_commit.proofs.CallNames.{left_fresh, left_increase}
use Rattle.akl_model.specs.Config.{Config, Held, held_in}
use Rattle.akl_model.specs.Derivations.{Derives}
use Rattle.akl_model.proofs.Options.{some_value}
use Rattle.step_laws.proofs.Whereabouts as places
use Rattle.table_laws.proofs.Insides.{goal_row}
use Rattle.table_laws.specs.Writes.{home_in}
use Rattle.reading_laws.specs.Unchanged.{Unchanged}
use Rattle.plan_laws.proofs.Between.{distinct_of}
use Rattle.plan_laws.proofs.Calls.{at_once_law}
use Rattle.table_laws.proofs.CallStores.{call_leaves}
use Rattle.table_laws.specs.StoreMarks.{AreStoresMarked}
use Rattle.box_tree.specs.Applied.{KeepsMark}
use Rattle.box_tree.proofs.LeadsBy.{stores_kept}
use Rattle.step_commit.specs.Cores.{mark_of_store, AreEarly}
use Rattle.step_commit.proofs.StoreMarked.{mark_at, stores_after}
use Rattle.step_commit.proofs.CallsNow.{IsPlannedCall, CallsOn, first_same, rest_same}

module _ (c : TableValue) (journal further : List Label) (S : Table) (l : Label) (more : List Label) (reads : List Item) (names : ℕ) (step : Step) (binds : List Var)
    (y : IsPlannedCall c.program c.query journal S l more reads names step (labels_behind step) binds) (t : IsTableOf all_rules (run_of c (journal ++ further)) (table_of c))
    (on : CallsOn c.program c.query journal further S (table_of c) l more reads names step (labels_behind step) binds y t) where
  abbrev run : Run
  run = run_of c (journal ++ further)

  abbrev new : Stored
  new = with_added (store_of (table_of c) on.site.content.name) y.part

  abbrev joins_now : laws.Step
  joins_now = laws.joins new y.is_solved y.goals

  abbrev again : IsAtOnce c.program t.config l.worker y.goal on.site
  again = on.again

  abbrev before : List Label
  before = again.sift_labels ++ again.end_labels

  -- its first label is a fork of the goal, and behind it come the others
  first : l ≡ by l.worker Rule.Fork (Place.Goal y.goal) None
  first = first_same l (by l.worker Rule.Fork (Place.Goal y.goal) None) more (before ++ again.body_labels) on.labels

  others : length more ≡ length before + length again.body_labels
  others = ap length (rest_same l (by l.worker Rule.Fork (Place.Goal y.goal) None) more (before ++ again.body_labels) on.labels) ∙ length-append before again.body_labels

  pub here : l.place ≡ Place.Goal y.goal
  here = ap (λ (k : Label). k.place) first

  fits_call : FitsPlace l.place (step_in c l step) l.alternative
  fits_call = subst (λ (s : laws.Step). FitsPlace l.place s l.alternative) (sym on.step_is) (subst (λ (place : Place). FitsPlace place joins_now l.alternative) (sym here) tt)

  fresh_call : DrawsFresh (table_of c) (step_in c l step)
  fresh_call = subst (DrawsFresh (table_of c)) (sym on.step_is) (subst (λ (xs : List (Name × Atom)). IsNewTo (table_of c) (map (λ (z : Name × Atom). z.0) xs)) (sym on.makes.body)
      (left_fresh c.program l.worker (slice_index t.config.next l.worker + drawn_by again.called.clauses + length again.last.body) on.site.around (table_of c) t.config t.unfolds
      (replay-stands all_rules c.program c.query (journal ++ further) t.config t.replays) (joining again.last on.site.content)
      (slice_index t.config.next l.worker + drawn_by again.called.clauses) again.last.body again.body_labels again.after again.goals_left (omega arith) again.body))

  ordered_call : DrawsInOrder (step_in c l step)
  ordered_call = subst DrawsInOrder (sym on.step_is) (subst (λ (xs : List (Name × Atom)). IsIncreasing (map (λ (z : Name × Atom). z.0) xs)) (sym on.makes.body)
      (left_increase c.program l.worker (slice_index t.config.next l.worker + drawn_by again.called.clauses + length again.last.body) on.site.around (joining again.last on.site.content)
      (slice_index t.config.next l.worker + drawn_by again.called.clauses) again.last.body again.body_labels again.after again.goals_left again.body))

  pub may_call : MayApply c l step
  may_call = record { run = run; table = t; fits = fits_call; fresh = fresh_call; ordered = ordered_call }

  module _ (at : Option ℕ) (solved : IsSolvedWhen at (table_of c) on.site joins_now) (U : Table) (leads : LeadsBy c l (length more) at names step U) where
    joins_box : Joins c y.goal new (solved_when at y.is_solved) y.goals (length more) (told_of_body again) (length again.body_labels) l.worker names U
    joins_box = joined_by c l (length more) at names U y.goal step new y.is_solved y.goals (told_of_body again) (length again.body_labels) on.step_is on.behind_is here leads

    its_number : joins_box.promoted ≡ promoted_at again c.steps
    its_number = let e : length more ≡ length before + length again.body_labels = others in let n : joins_box.promoted + length again.body_labels ≡ length more + c.steps + 1 = joins_box.number in omega (arith, e, n)

    after : IsTable U (after_call y.goal new (solved_when at y.is_solved) y.goals l.worker (drawn_by again.called.clauses + length again.last.body) (promoted_at again c.steps) (told_at again c.steps) (ended_at again c.steps) (table_of c))
    after = subst (λ (n : ℕ). IsTable U (after_call y.goal new (solved_when at y.is_solved) y.goals l.worker (drawn_by again.called.clauses + length again.last.body) n (n + told_of_body again) (n + length again.body_labels) (table_of c))) its_number
        (subst (λ (n : ℕ). IsTable U (after_call y.goal new (solved_when at y.is_solved) y.goals l.worker n joins_box.promoted (joins_box.promoted + told_of_body again) (joins_box.promoted + length again.body_labels) (table_of c)))
        on.drawn joins_box.table)

    pub table_after : IsTableOf all_rules (run_of c ((journal ++ further) ++ l ∷ more)) U
    table_after = subst (λ (ls : List Label). IsTableOf all_rules (run_of c ((journal ++ further) ++ ls)) U) (sym on.labels)
        (call_step all_rules all_in_force run (table_of c) U t l.worker y.goal on.site on.is_home again at y.is_solved y.alternative new y.goals on.makes solved after).0

    pub marks_after : Marks binds (table_of c) U → AreMarked all_rules run (table_of c) → AreMarked all_rules (run_of c ((journal ++ further) ++ l ∷ more)) U
    marks_after marks old = subst (λ (ls : List Label). AreMarked all_rules (run_of c ((journal ++ further) ++ ls)) U) (sym on.labels)
        (call_marked all_rules all_in_force run (table_of c) U t l.worker y.goal on.site on.is_home again on.tells_nothing
        (table_after.stamped.steps ∙ ap (λ (ls : List Label). length ((journal ++ further) ++ ls)) on.labels) binds on.bound marks old)

  -- the goal's box keeps its mark
  module _ (at : Option ℕ) (solved : IsSolvedWhen at (table_of c) on.site joins_now) (u : TableValue) (leads : LeadsBy c l (length more) at names step (table_of u))
      (stores : (n : Name) → (mark_at u n ≡ mark_at c n) ⊎ ((mark_at u n ≡ None) ⊎ KeepsMark c l step u n)) (early : AreEarly c) (longer : c.steps < u.steps) where
    made : (x : IsTableOf all_rules (run_of c ((journal ++ further) ++ labels_at_once again)) (table_of u)) × (x.config ≡ at_once again)
    made = call_step all_rules all_in_force run (table_of c) (table_of u) t l.worker y.goal on.site on.is_home again at y.is_solved y.alternative new y.goals on.makes solved (after at solved (table_of u) leads)

    derives : Derives all_rules c.program t.config (labels_at_once again) made.0.config
    derives = subst (λ (d : Config). Derives all_rules c.program t.config (labels_at_once again) d) (sym made.1)
        (at_once_law all_rules all_in_force c.program t.config (distinct_of t.config (replay-stands all_rules c.program c.query (journal ++ further) t.config t.replays)) l.worker y.goal on.site on.is_home again)

    home : (n : Name) → KeepsMark c l step u n → on.site.content.name ≡ n
    home n k =
        let held : (h : Held) × (held_in y.goal on.site.goals ≡ Some h) = (places.home_in y.goal t.config.roots on.site on.is_home).1 in
        let row : _ = goal_row (table_of c) t.config t.unfolds (replay-stands all_rules c.program c.query (journal ++ further) t.config t.replays).once y.goal on.site held.0 on.is_home held.1 in
        let same : y.goal ≡ k.goal = let e : Place.Goal y.goal ≡ Place.Goal k.goal = sym here ∙ k.place in cc in
        some_value (ap Some (sym row.2) ∙ sym (ap home_in row.1) ∙ ap (λ (g : Name). home_in ((table_of c).goal_of g)) same ∙ k.home.home_is)

    unchanged : (n : Name) → KeepsMark c l step u n → Unchanged all_rules c.program t.config (labels_at_once again) made.0.config derives (Item.Store n)
    unchanged n k = subst (λ (m : Name). Unchanged all_rules c.program t.config (labels_at_once again) made.0.config derives (Item.Store m)) (home n k)
        (on_config made.0.config (sym made.1) derives)
      where
        on_config : (d : Config) → at_once again ≡ d → (w : Derives all_rules c.program t.config (labels_at_once again) d) → Unchanged all_rules c.program t.config (labels_at_once again) d w (Item.Store on.site.content.name)
        on_config d e = subst (λ (d : Config). (w : Derives all_rules c.program t.config (labels_at_once again) d) → Unchanged all_rules c.program t.config (labels_at_once again) d w (Item.Store on.site.content.name)) e
            (call_leaves all_rules all_in_force c.program c.query (journal ++ further) t.config t.replays l.worker y.goal on.site on.is_home again)

    pub call_stores : AreStoresMarked all_rules run (table_of c) (mark_of_store c) → AreStoresMarked all_rules (run_of c ((journal ++ further) ++ l ∷ more)) (table_of u) (mark_of_store u)
    call_stores old = subst (λ (ls : List Label). AreStoresMarked all_rules (run_of c ((journal ++ further) ++ ls)) (table_of u) (mark_of_store u)) (sym on.labels)
        (stores_after c.program c.query (journal ++ further) (labels_at_once again) c u t made.0 derives (stores_kept c l (length more) at names (table_of u) longer step leads) (omega (arith, longer)) l step stores early unchanged old)
