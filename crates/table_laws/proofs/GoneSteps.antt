-- Which places go with each step.
use Rattle.std.proofs.Common.{◌≡◌, ℕ, ◌+◌, List, [], Bool, Option, Some, None, refl, sym, ◌∙◌, ap, subst, ◌⊎◌, inl, inr}
use Rattle.std.specs.Prelude.{option_map, slice_index}
use Rattle.akl_terms.specs.declared.name.Name.{Name}
use Rattle.akl_terms.specs.declared.name.Place.{Place}
use Rattle.akl_model.specs.Config.{Operator}
use Rattle.akl_terms.specs.declared.program.Program.{Program}
use Rattle.akl_terms.proofs.SameNames.{same_name-refl}
use Rattle.akl_model.specs.declared.label.Rule.{Rule}
use Rattle.akl_model.specs.declared.label.Label.{Label}
use Rattle.akl_model.specs.Config.{IsIn, Atom, no_goals, without_goal, Config, a_choice, Found, box_at, home_of, site_of}
use Rattle.akl_model.specs.Instances.{with_atoms}
use Rattle.akl_model.specs.Rules.{Reading, Change, becomes, joining, change_by}
use Rattle.akl_model.specs.Changes.{shape_of, box_names, goal_names}
use Rattle.akl_model.specs.Derivations.{Applies}
use Rattle.akl_model.proofs.Options.{map_none}
use Rattle.akl_model.proofs.NamesKept.{Stand, replay-stands, stands_after}
use Rattle.local_store.specs.Stored.{Stored}
use Rattle.table_laws.specs.Rows.{BoxRow, GoalRow, Table}
use Rattle.table_laws.specs.Unfolds.{IsBoxRow, Unfolds, spot_of}
use Rattle.table_laws.specs.Stamped.{Run, followed_by, IsTableOf}
use Rattle.table_laws.specs.Inside.{IsInside}
use Rattle.table_laws.specs.Walks.{alternatives_in, alternatives_of, ListsEach}
use Rattle.table_laws.specs.Steps.{NewBox, Step, tells, forks, fails, cuts, joins, refutes, confirms, splits, JoinsGoal, Makes}
use Rattle.table_laws.specs.Writes.{set, solved_when, home_in, changed_box, told_row, after_tell, new_box_of, new_goal_of, failing_by, forked_row, after_fork, joined_row, home_or, atom_among, after_join, refuted_row, failing_row, after_refute, confirmed_row, after_confirm, IsInsideOne, Leads}
use Rattle.table_laws.specs.Going.{IsGone, OwnGoalGoes, boxes_going, GoesWith, IsOfBoxes}
use Rattle.table_laws.proofs.Sets.{not_some, set_here, set_other, unset_here, unset_other}
use Rattle.table_laws.proofs.Frame.{row_of}
use Rattle.table_laws.proofs.Insides.{goal_row}
use Rattle.table_laws.proofs.StepMakes.{same_table, step_law}
use Rattle.table_laws.proofs.Promoting as promoting
use Rattle.table_laws.proofs.Going.{AreGoing, box_gone, gone_box, goal_gone, gone_goal, RowsGo, by_rows}
use Rattle.table_laws.proofs.GoingRows.{changed_there, box_changed_there, or_there, all_stay, one_goes, all_go}
use Rattle.table_laws.proofs.Failed.{fail_going}
use Rattle.table_laws.proofs.Cut.{cut_going}
use Rattle.table_laws.proofs.SplitRows.{split_going}

same_goal : (place : Place) (g i : Name) → place ≡ Place.Goal g → place ≡ Place.Goal i → i ≡ g
same_goal place g i e f = let q : Place.Goal i ≡ Place.Goal g = sym f ∙ e in cc

not_goal : (place : Place) (g n : Name) → place ≡ Place.Goal g → Place.Box n ≡ place → ⊥
not_goal place g n e f = let q : Place.Box n ≡ Place.Goal g = f ∙ e in cc

-- Fail stands at a box
fail_at : (p : Program) (v : Reading) (w next : ℕ) (r : Rule) (place : Place) (alternative : Option Name) (f : Found) (c : Change) → r ≡ Rule.Fail → change_by p v w next r place alternative f ≡ Some c → (n : Name) × (place ≡ Place.Box n)
fail_at p v w next r (Place.Box n) a f c e i = (n, refl)
fail_at p v w next r (Place.Goal g) a f c e i = absurd (not_some (subst (λ (x : Rule). change_by p v w next x (Place.Goal g) a f ≡ Some c) e i))

module _ (rules : List Rule) (r : Run) (T : Table) (l : Label) (d : Config) (t : IsTableOf rules r T) (a : Applies rules r.program t.config l d) where
  abbrev next : ℕ
  next = slice_index t.config.next l.worker

  abbrev drawn : ℕ
  drawn = a.change.drawn

  s : Stand t.config
  s = replay-stands rules r.program r.query r.journal t.config t.replays

  later : Stand d
  later = stands_after rules r.program t.config l d s a

  -- the goal of the place, where it goes
  abbrev pub Own : Step → Name → Type 0
  Own step i = OwnGoalGoes step × (l.place ≡ Place.Goal i)

  own_there : (i : Name) → l.place ≡ Place.Goal i → (e : Found) × (home_of i t.config.roots ≡ Some e)
  own_there i e = (a.site, subst (λ (x : Place). site_of x t.config.roots ≡ Some a.site) e a.is_site)

  -- by the rows of a table to which the step leads
  module _ (step : Step) (makes : Makes r.program l (slice_index t.config.next l.worker) a.site step) (U : Table) (leads : Leads T l None a.change.drawn step U) where
    led : (u : IsTableOf rules (followed_by r l) U) × (u.config ≡ d)
    led = step_law rules r T U l d t a step None makes tt leads

    now : Unfolds U d
    now = subst (Unfolds U) led.1 led.0.unfolds

    by_next : (names : List Name) → RowsGo T U names (Own step) → ((n : Name) → IsIn n names → (e : Found) × (box_at n t.config.roots ≡ Some e)) → AreGoing T t.config d names (Own step)
    by_next names go outer = by_rows T U t.config d t.unfolds now s.once later.once names (Own step) go outer (λ i x. own_there i x.1)

  at_goal : (step : Step) (U : Table) (g : Name) → l.place ≡ Place.Goal g → Leads T (record l { place = Place.Goal g }) None a.change.drawn step U → Leads T l None a.change.drawn step U
  at_goal step U g e x = subst (λ (p : Place). Leads T (record l { place = p }) None a.change.drawn step U) (sym e) x

  -- the goal goes

  module _ (new : Stored) (solved : Bool) (makes : Makes r.program l (slice_index t.config.next l.worker) a.site (tells new solved)) where
    abbrev told : Table
    told = after_tell makes.0 new (solved_when None solved) l.worker drawn T

    tell_rows : RowsGo T told [] (Own (tells new solved))
    tell_rows = one_goes T told makes.0 (Own (tells new solved)) (tt, makes.1) (λ i x. same_goal l.place makes.0 i makes.1 x.1) (set_here makes.0 makes.0 None T.goal_of (same_name-refl makes.0))
        (λ i v q e. (v, set_other makes.0 i None T.goal_of q ∙ e)) (λ k v e. box_changed_there (home_in (T.goal_of makes.0)) (told_row makes.0 new (solved_when None solved) (T.steps + 1)) T.box_of k v e)

    tell_going : AreGoing T t.config d [] (Own (tells new solved))
    tell_going = by_next (tells new solved) makes told (at_goal (tells new solved) told makes.0 makes.1 (same_table told)) [] tell_rows (λ n i. absurd i)

  module _ (makes : Makes r.program l (slice_index t.config.next l.worker) a.site confirms) where
    abbrev confirmed : Table
    confirmed = after_confirm makes.1.0 T

    confirm_rows : RowsGo T confirmed [] (Own confirms)
    confirm_rows = one_goes T confirmed makes.1.0 (Own confirms) (tt, makes.1.1) (λ i x. same_goal l.place makes.1.0 i makes.1.1 x.1) (set_here makes.1.0 makes.1.0 None T.goal_of (same_name-refl makes.1.0))
        (λ i v q e. (v, set_other makes.1.0 i None T.goal_of q ∙ e)) (λ k v e. box_changed_there (home_in (T.goal_of makes.1.0)) (confirmed_row makes.1.0 (T.steps + 1)) T.box_of k v e)

    confirm_going : AreGoing T t.config d [] (Own confirms)
    confirm_going = by_next confirms makes confirmed (at_goal confirms confirmed makes.1.0 makes.1.1 (same_table confirmed)) [] confirm_rows (λ n i. absurd i)

  -- nothing goes

  module _ (op : Operator) (news : List NewBox) (makes : Makes r.program l (slice_index t.config.next l.worker) a.site (forks op news)) where
    abbrev forked : Table
    forked = after_fork makes.1.0 op news None l.worker drawn T

    fork_rows : RowsGo T forked [] (Own (forks op news))
    fork_rows = all_stay T forked (Own (forks op news)) (λ i x. x.0)
        (λ k v e. let w : (w : BoxRow) × (changed_box (home_in (T.goal_of makes.1.0)) (failing_by makes.1.0 op news) T.box_of k ≡ Some w) = box_changed_there (home_in (T.goal_of makes.1.0)) (failing_by makes.1.0 op news) T.box_of k v e in
        or_there (new_box_of makes.1.0 None (T.steps + 1) news k) (changed_box (home_in (T.goal_of makes.1.0)) (failing_by makes.1.0 op news) T.box_of k) w.0 w.1)
        (λ i v e. let w : (w : GoalRow) × (set makes.1.0 (option_map (forked_row op news (T.steps + 1)) (T.goal_of makes.1.0)) T.goal_of i ≡ Some w) = changed_there makes.1.0 (forked_row op news (T.steps + 1)) T.goal_of i v e in
        or_there (new_goal_of (T.steps + 1) news i) (set makes.1.0 (option_map (forked_row op news (T.steps + 1)) (T.goal_of makes.1.0)) T.goal_of i) w.0 w.1)

    fork_going : AreGoing T t.config d [] (Own (forks op news))
    fork_going = by_next (forks op news) makes forked (at_goal (forks op news) forked makes.1.0 makes.1.1 (same_table forked)) [] fork_rows (λ n i. absurd i)

  module _ (makes : Makes r.program l (slice_index t.config.next l.worker) a.site refutes) where
    abbrev refuted : Table
    refuted = after_refute makes.1.0 T

    refute_rows : RowsGo T refuted [] (Own refutes)
    refute_rows = all_stay T refuted (Own refutes) (λ i x. x.0) (λ k v e. box_changed_there (home_in (T.goal_of makes.1.0)) (failing_row makes.1.0) T.box_of k v e)
        (λ i v e. changed_there makes.1.0 (refuted_row (T.steps + 1)) T.goal_of i v e)

    refute_going : AreGoing T t.config d [] (Own refutes)
    refute_going = by_next refutes makes refuted (at_goal refutes refuted makes.1.0 makes.1.1 (same_table refuted)) [] refute_rows (λ n i. absurd i)

  -- the alternatives and their choice go

  module _ (new : Stored) (solved : Bool) (goals : List (Name × Atom)) (makes : Makes r.program l (slice_index t.config.next l.worker) a.site (joins new solved goals)) where
    abbrev step : Step
    step = joins new solved goals

    abbrev g : Name
    g = makes.0

    abbrev made : JoinsGoal r.program l (slice_index t.config.next l.worker) a.site g new goals
    made = makes.2

    abbrev its_box : BoxRow → BoxRow
    its_box = joined_row g new (solved_when None solved) goals (T.steps + 1)

    abbrev joined : Table
    joined = after_join g new (solved_when None solved) goals l.worker drawn T

    leads : Leads T l None a.change.drawn step joined
    leads = at_goal step joined g makes.1 (same_table joined)

    change : (drawn : ℕ) × (a.change ≡ becomes (joining made.joined a.site.content) (with_atoms l.worker next made.joined.body (without_goal g a.site.goals)) drawn)
    change = promoting.joined_change r.program a.makes.reading next g l a.site a.change made.operator made.alternatives made.joined makes.1 made.held made.origin a.makes.change

    shape : alternatives_of (T.goal_of g) ≡ box_names made.alternatives
    shape =
        let home : home_of g t.config.roots ≡ Some a.site = subst (λ (p : Place). site_of p t.config.roots ≡ Some a.site) makes.1 a.is_site in
        let row : (v : GoalRow) × (T.goal_of g ≡ Some v) × (v.home ≡ a.site.content.name) × (v.shape ≡ shape_of (a_choice made.operator made.alternatives)) =
        goal_row T t.config t.unfolds s.once g a.site (a_choice made.operator made.alternatives) home made.held in
        ap alternatives_of row.1 ∙ ap alternatives_in row.3

    is_alternative : (n : Name) → IsIn n (alternatives_of (T.goal_of g)) → IsIn n (box_names made.alternatives)
    is_alternative n i = subst (IsIn n) shape i

    there : (n : Name) → IsIn n (alternatives_of (T.goal_of g)) → (e : Found) × (box_at n t.config.roots ≡ Some e) × (e.goals ≡ no_goals)
    there n i = (
      promoting.alt_was rules r.program r.query r.journal t.config l d t.replays s a g makes.1 made.operator made.alternatives made.joined made.held made.origin change.0 change.1 n (is_alternative n i),
      promoting.alt_there rules r.program r.query r.journal t.config l d t.replays s a g makes.1 made.operator made.alternatives made.joined made.held made.origin change.0 change.1 n (is_alternative n i),
      refl,
    )

    empty : (n : Name) → IsIn n (alternatives_of (T.goal_of g)) → (row : BoxRow) × (T.box_of n ≡ Some row) × (row.goals ≡ [])
    empty n i =
        let e : (e : Found) × (box_at n t.config.roots ≡ Some e) × (e.goals ≡ no_goals) = there n i in
        let row : (row : BoxRow) × (T.box_of n ≡ Some row) × IsBoxRow T t.config.roots e.0 row = row_of T t.config t.unfolds n e.0 e.1 in
        (row.0, row.1, row.2.goals ∙ ap goal_names e.2)

    choice_goes : joined.goal_of g ≡ None
    choice_goes = map_none spot_of (joined.goal_of g)
        ((now step makes joined leads).goals g ∙ promoting.spot_gone rules r.program r.query r.journal t.config l d t.replays s a g makes.1 made.operator made.alternatives made.joined made.held made.origin change.0 change.1)

    join_rows : RowsGo T joined (alternatives_of (T.goal_of g)) (Own step)
    join_rows = all_go T joined g (Own step) (tt, makes.1) (λ i x. same_goal l.place g i makes.1 x.1) choice_goes
        (λ i v q e. or_there (atom_among (home_or (T.goal_of g) g) (T.steps + 1) goals i) (set g None T.goal_of i) v (set_other g i None T.goal_of q ∙ e)) (alternatives_of (T.goal_of g)) empty
        (λ n i. unset_here (alternatives_of (T.goal_of g)) (changed_box (home_in (T.goal_of g)) its_box T.box_of) n i)
        (λ k v q e. let w : (w : BoxRow) × (changed_box (home_in (T.goal_of g)) its_box T.box_of k ≡ Some w) = box_changed_there (home_in (T.goal_of g)) its_box T.box_of k v e in
        (w.0, unset_other (alternatives_of (T.goal_of g)) (changed_box (home_in (T.goal_of g)) its_box T.box_of) k q ∙ w.1))

    join_going : AreGoing T t.config d (alternatives_of (T.goal_of g)) (Own step)
    join_going = by_next step makes joined leads (alternatives_of (T.goal_of g)) join_rows (λ n i. let e : (e : Found) × (box_at n t.config.roots ≡ Some e) × (e.goals ≡ no_goals) = there n i in (e.0, e.1))

  -- each step
  going : (step : Step) → Makes r.program l (slice_index t.config.next l.worker) a.site step → AreGoing T t.config d (boxes_going T step l.place l.alternative) (Own step)
  going (tells new solved) makes = tell_going new solved makes
  going (forks op news) makes = fork_going op news makes
  going refutes makes = refute_going makes
  going confirms makes = confirm_going makes
  going fails makes =
      let x : (n : Name) × (l.place ≡ Place.Box n) = fail_at r.program a.makes.reading l.worker next l.rule l.place l.alternative a.site a.change makes a.makes.change in
      subst (λ (p : Place). AreGoing T t.config d (boxes_going T fails p l.alternative) (Own fails)) (sym x.1) (fail_going rules r T l d t a x.0 x.1 makes (Own fails) (λ i y. y.0))
  going cuts makes = subst (λ (p : Place). AreGoing T t.config d (boxes_going T cuts p l.alternative) (Own cuts)) (sym makes.1.2)
      (subst (λ (x : Option Name). AreGoing T t.config d (boxes_going T cuts (Place.Goal makes.1.0) x) (Own cuts)) (sym makes.1.3)
      (cut_going rules r T l d t a makes.1.0 makes.1.1 makes.0 makes.1.2 makes.1.3 makes.1.4 (Own cuts) (λ i y. y.0)))
  going (joins new solved goals) makes = subst (λ (p : Place). AreGoing T t.config d (boxes_going T (joins new solved goals) p l.alternative) (Own (joins new solved goals))) (sym makes.1)
      (join_going new solved goals makes)
  going (splits copy copies) makes = subst (λ (p : Place). AreGoing T t.config d (boxes_going T (splits copy copies) p l.alternative) (Own (splits copy copies))) (sym makes.1.2)
      (subst (λ (x : Option Name). AreGoing T t.config d (boxes_going T (splits copy copies) (Place.Box makes.1.0) x) (Own (splits copy copies))) (sym makes.1.3)
      (split_going rules r T l d t a makes.1.0 makes.1.1 copy copies makes.0 makes.1.2 makes.1.3 makes.1.4 (Own (splits copy copies)) (λ i y. y.0)))

  module _ (step : Step) (makes : Makes r.program l (slice_index t.config.next l.worker) a.site step) where
    abbrev tops : List Name
    tops = boxes_going T step l.place l.alternative

    pub are_gone : (place : Place) → (IsGone t.config d place → GoesWith T l step place) × (GoesWith T l step place → IsGone t.config d place)
    are_gone (Place.Box m) = (box_gone T t.config d t.unfolds s.once tops (Own step) (going step makes) m, gone_box T t.config d t.unfolds s.once tops (Own step) (going step makes) m)
    are_gone (Place.Goal g) = (goal_gone T t.config d t.unfolds s.once tops (Own step) (going step makes) g, gone_goal T t.config d t.unfolds s.once tops (Own step) (going step makes) g)

  -- a step whose goal goes stands at a goal
  goal_place : (step : Step) → Makes r.program l (slice_index t.config.next l.worker) a.site step → OwnGoalGoes step → (n : Name) → Place.Box n ≡ l.place → ⊥
  goal_place (tells new solved) makes o n e = not_goal l.place makes.0 n makes.1 e
  goal_place (joins new solved goals) makes o n e = not_goal l.place makes.0 n makes.1 e
  goal_place confirms makes o n e = not_goal l.place makes.1.0 n makes.1.1 e
  goal_place (forks op news) makes o n e = o
  goal_place fails makes o n e = o
  goal_place cuts makes o n e = o
  goal_place refutes makes o n e = o
  goal_place (splits copy copies) makes o n e = o

  -- by a list of the boxes that go
  module _ (step : Step) (makes : Makes r.program l (slice_index t.config.next l.worker) a.site step) (names : List Name) (lists : ListsEach T (boxes_going T step l.place l.alternative) names) where
    pub are_listed : (place : Place) → (IsGone t.config d place → (OwnGoalGoes step × (place ≡ l.place)) ⊎ IsOfBoxes T names place) × ((OwnGoalGoes step × (place ≡ l.place)) ⊎ IsOfBoxes T names place → IsGone t.config d place)
    are_listed (Place.Box m) = (
      λ x. let w : IsInsideOne T (boxes_going T step l.place l.alternative) m = (are_gone step makes (Place.Box m)).0 x in inr (lists.each w.alternative m w.goes w.inside),
      λ x. elim x [
        | inl y ↦ absurd (goal_place step makes y.0 m y.1)
        | inr i ↦ (let w : (n : Name) × IsIn n (boxes_going T step l.place l.alternative) × IsInside T n m = lists.inside m i in (are_gone step makes (Place.Box m)).1 (record { alternative = w.0; goes = w.1; inside = w.2 }))
      ],
    )
    are_listed (Place.Goal g) = (
      λ x. elim ((are_gone step makes (Place.Goal g)).0 x) [
        | inl y ↦ inl (y.0, sym y.1)
        | inr y ↦ inr (y.inside.box, lists.each y.alternative y.inside.box y.goes y.inside.inside, y.inside.goal)
      ],
      λ x. elim x [
        | inl y ↦ (are_gone step makes (Place.Goal g)).1 (inl (y.0, sym y.1))
        | inr (m, i, z) ↦
            let w : (n : Name) × IsIn n (boxes_going T step l.place l.alternative) × IsInside T n m = lists.inside m i in
            (are_gone step makes (Place.Goal g)).1 (inr (record { alternative = w.0; goes = w.1; inside = record { box = m; inside = w.2; goal = z } }))
      ],
    )

pub gone_law : (rules : List Rule) (r : Run) (T : Table) (l : Label) (d : Config) (t : IsTableOf rules r T) (a : Applies rules r.program t.config l d) (step : Step)
    → Makes r.program l (slice_index t.config.next l.worker) a.site step → (place : Place) → (IsGone t.config d place → GoesWith T l step place) × (GoesWith T l step place → IsGone t.config d place)
gone_law rules r T l d t a step makes place = are_gone rules r T l d t a step makes place

pub gone_listed_law : (rules : List Rule) (r : Run) (T : Table) (l : Label) (d : Config) (t : IsTableOf rules r T) (a : Applies rules r.program t.config l d) (step : Step)
    → Makes r.program l (slice_index t.config.next l.worker) a.site step → (names : List Name) → ListsEach T (boxes_going T step l.place l.alternative) names → (place : Place)
    → (IsGone t.config d place → (OwnGoalGoes step × (place ≡ l.place)) ⊎ IsOfBoxes T names place) × ((OwnGoalGoes step × (place ≡ l.place)) ⊎ IsOfBoxes T names place → IsGone t.config d place)
gone_listed_law rules r T l d t a step makes names lists place = are_listed rules r T l d t a step makes names lists place
