-- Fork: the goal becomes a choice, and the new boxes come with their goals.
use Rattle.std.proofs.Common.{false, true, Bool, ◌≡◌, ◌+◌, List, [], ◌∷◌, Some, None, refl, sym, ◌∙◌, ap, subst, inl, inr}
use Rattle.std.specs.Prelude.{if◌then◌else◌}
use Rattle.std.specs.Prelude.{option_map, slice_index}
use Rattle.akl_terms.specs.declared.name.Name.{Name}
use Rattle.akl_terms.specs.declared.name.Place.{Place}
use Rattle.akl_model.specs.Config.{Operator}
use Rattle.akl_model.specs.declared.label.Rule.{Rule}
use Rattle.akl_model.specs.declared.label.Label.{Label}
use Rattle.akl_model.specs.Config.{IsIn, Config, Found, home_of}
use Rattle.akl_model.specs.Derivations.{Applies}
use Rattle.akl_model.specs.Changes.{goals_at, shape_at}
use Rattle.akl_model.proofs.Options.{or_some, left_some}
use Rattle.table_laws.specs.Rows.{BoxRow, GoalRow, Table}
use Rattle.table_laws.specs.Unfolds.{Unfolds}
use Rattle.table_laws.specs.Stamped.{Run, IsTableOf}
use Rattle.table_laws.specs.Steps.{NewBox, forks, Makes}
use Rattle.table_laws.specs.Writes.{IsFresh, set, changed_box, home_in, new_box_of, new_goal_of, names_drawn, after_fork, failing_by, fails_empty, forked_row}
use Rattle.table_laws.proofs.Fresh.{fresh_step}
use Rattle.opened_places.specs.declared.around.Around.{Around}
use Rattle.opened_places.proofs.ListedPlaces.{new_places, listed}
use Rattle.opened_places.specs.Exact.{IsAround, AreExactly}
use Rattle.opened_places.proofs.Members.{part_boxes, part_goals, box_named, goal_named, new_parts, new_parts_places, new_parts_names, either_some, new_box_in, in_new_box, new_goal_in, in_new_goal}
use Rattle.opened_places.proofs.SetRows.{some_none, set_itself, replaced_none, changed_none, kept_part}
use Rattle.opened_places.proofs.AtSite as site
use Rattle.opened_places.proofs.AtRows as rows
use Rattle.opened_places.proofs.GoalTurns as turns
use Rattle.opened_places.proofs.GoalTurns.{Comes, no_holders}
use Rattle.opened_places.proofs.RowSteps.{same_table, comes, its_row, same_goals, next_unfolds, at_place}

module _ (rules : List Rule) (r : Run) (T : Table) (l : Label) (d : Config) (t : IsTableOf rules r T) (a : Applies rules r.program t.config l d)
    (op : Operator) (news : List NewBox) (makes : Makes r.program l (slice_index t.config.next l.worker) a.site (forks op news)) where
  abbrev g : Name
  g = makes.1.0

  abbrev pub U : Table
  U = after_fork makes.1.0 op news None l.worker a.change.drawn T

  pub v : Unfolds U d
  v = next_unfolds rules r T l d t a (forks op news) U makes (at_place rules r T l d t a (forks op news) U makes.1.0 makes.1.1 (same_table U))

  fresh : IsFresh T (names_drawn news)
  fresh = fresh_step rules r T l d t a (forks op news) makes

  drawn_box : (m : Name) → IsIn m (part_boxes (new_parts news)) → IsIn m (names_drawn news)
  drawn_box m i = subst (IsIn m) (sym (new_parts_names news)) (box_named m (new_parts news) i)

  drawn_goal : (m : Name) → IsIn m (part_goals (new_parts news)) → IsIn m (names_drawn news)
  drawn_goal m i = subst (IsIn m) (sym (new_parts_names news)) (goal_named m (new_parts news) i)

  keeps : (w : BoxRow) → (failing_by makes.1.0 op news w).goals ≡ w.goals
  keeps w = on news
    where
      either : (b : Bool) → (if b then record w { failing = Some makes.1.0 } else w).goals ≡ w.goals
      either true = refl
      either false = refl

      on : (ns : List NewBox) → (failing_by makes.1.0 op ns w).goals ≡ w.goals
      on [] = either (fails_empty op)
      on (n ∷ ns) = refl

  coming : Comes t.config d (part_boxes (new_parts news)) (part_goals (new_parts news))
  coming = comes T U t.config d t.unfolds v (site.before rules r.program r.query r.journal t.config l d t.replays a) (site.afterwards rules r.program r.query r.journal t.config l d t.replays a) (part_boxes (new_parts news)) (part_goals (new_parts news))
      (λ m w i j. elim (or_some (new_box_of g None (T.steps + 1) news m) (changed_box (home_in (T.goal_of g)) (failing_by g op news) T.box_of m) w j) [
        | inl e ↦ new_box_in g None (T.steps + 1) news m w e
        | inr e ↦ absurd (some_none (changed_none (home_in (T.goal_of g)) (failing_by g op news) T.box_of m i) e.1)
      ])
      (λ m i.
      let w : (w : BoxRow) × (new_box_of g None (T.steps + 1) news m ≡ Some w) = in_new_box g None (T.steps + 1) news m i in
      (fresh.no_box m (drawn_box m i), (w.0, left_some (new_box_of g None (T.steps + 1) news m) (changed_box (home_in (T.goal_of g)) (failing_by g op news) T.box_of m) w.0 w.1)))
      (λ m w i j. elim (or_some (new_goal_of (T.steps + 1) news m) (set g (option_map (forked_row op news (T.steps + 1)) (T.goal_of g)) T.goal_of m) w j) [
        | inl e ↦ new_goal_in (T.steps + 1) news m w e
        | inr e ↦ absurd (some_none (replaced_none g (forked_row op news (T.steps + 1)) T.goal_of m i) e.1)
      ])
      (λ m i.
      let w : (w : GoalRow) × (new_goal_of (T.steps + 1) news m ≡ Some w) = in_new_goal (T.steps + 1) news m i in
      (fresh.no_goal m (drawn_goal m i), (w.0, left_some (new_goal_of (T.steps + 1) news m) (set g (option_map (forked_row op news (T.steps + 1)) (T.goal_of g)) T.goal_of m) w.0 w.1)))

  there : (f : Found) × (home_of makes.1.0 d.roots ≡ Some f)
  there =
      let w : (row : GoalRow) × (T.goal_of makes.1.0 ≡ Some row) = its_row rules r T U l d t a v makes.1.0 makes.1.1 in
      let here : set makes.1.0 (option_map (forked_row op news (T.steps + 1)) (T.goal_of makes.1.0)) T.goal_of makes.1.0 ≡ Some (forked_row op news (T.steps + 1) w.0) =
      set_itself makes.1.0 (option_map (forked_row op news (T.steps + 1)) (T.goal_of makes.1.0)) T.goal_of ∙ ap (option_map (forked_row op news (T.steps + 1))) w.1 in
      let y : (y : GoalRow) × (U.goal_of makes.1.0 ≡ Some y) =
      either_some (new_goal_of (T.steps + 1) news makes.1.0) (set makes.1.0 (option_map (forked_row op news (T.steps + 1)) (T.goal_of makes.1.0)) T.goal_of makes.1.0) (inr (forked_row op news (T.steps + 1) w.0, here)) in
      let f : (f : Found) × (home_of makes.1.0 d.roots ≡ Some f) × (shape_at makes.1.0 d.roots ≡ Some y.0.shape) = rows.row_home U d v makes.1.0 y.0 y.1 in
      (f.0, f.1)

  same : goals_at a.site.content.name t.config.roots ≡ goals_at a.site.content.name d.roots
  same = same_goals rules r T U l d t a v makes.1.0 makes.1.1 (λ w y i j.
      elim (or_some (new_box_of g None (T.steps + 1) news a.site.content.name) (changed_box (home_in (T.goal_of g)) (failing_by g op news) T.box_of a.site.content.name) y j) [
        | inl e ↦ absurd (some_none (fresh.no_box a.site.content.name (drawn_box a.site.content.name (new_box_in g None (T.steps + 1) news a.site.content.name y e))) i)
        | inr e ↦ kept_part (λ (q : BoxRow). q.goals) (home_in (T.goal_of g)) (failing_by g op news) T.box_of a.site.content.name w y keeps i e.1
      ])

  pub forked : (x : Around) (k : IsAround T l x) → AreExactly t.config d (listed l.place x (forks op news))
  forked x k = subst (λ (p : Place). AreExactly t.config d (p ∷ Place.Box x.home ∷ new_places news)) (sym makes.1.1)
      (subst (λ (ps : List Place). AreExactly t.config d (Place.Goal makes.1.0 ∷ Place.Box x.home ∷ ps)) (sym (new_parts_places news))
      (turns.exactly rules r T l d t a x k makes.1.0 (site.its_goal rules r.program r.query r.journal t.config l d t.replays a makes.1.0 makes.1.1)
      (site.at_goal rules r.program r.query r.journal t.config l d t.replays a makes.1.0 makes.1.1) there same []
      (no_holders t a (site.not_replaced rules r.program r.query r.journal t.config l d t.replays a makes.1.0 makes.1.1)) (new_parts news) coming))
