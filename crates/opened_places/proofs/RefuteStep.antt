-- Refute: the goal becomes `fail`.
use Rattle.std.proofs.Common.{◌≡◌, ◌+◌, List, [], ◌∷◌, Some, refl, sym, ◌∙◌, ap, subst}
use Rattle.std.specs.Prelude.{option_map, slice_index}
use Rattle.akl_terms.specs.declared.name.Name.{Name}
use Rattle.akl_terms.specs.declared.name.Place.{Place}
use Rattle.akl_model.specs.declared.label.Rule.{Rule}
use Rattle.akl_model.specs.declared.label.Label.{Label}
use Rattle.akl_model.specs.Config.{Config, Found, home_of}
use Rattle.akl_model.specs.Derivations.{Applies}
use Rattle.akl_model.specs.Changes.{goals_at, shape_at}
use Rattle.table_laws.specs.Rows.{BoxRow, GoalRow, Table}
use Rattle.table_laws.specs.Unfolds.{Unfolds}
use Rattle.table_laws.specs.Stamped.{Run, IsTableOf}
use Rattle.table_laws.specs.Steps.{refutes, Makes}
use Rattle.table_laws.specs.Writes.{home_in, after_refute, failing_row, refuted_row}
use Rattle.opened_places.specs.declared.around.Around.{Around}
use Rattle.opened_places.proofs.ListedPlaces.{listed}
use Rattle.opened_places.specs.Exact.{IsAround, AreExactly}
use Rattle.opened_places.proofs.SetRows.{set_itself, replaced_none, changed_none, kept_part}
use Rattle.opened_places.proofs.AtSite as site
use Rattle.opened_places.proofs.AtRows as rows
use Rattle.opened_places.proofs.GoalTurns as turns
use Rattle.opened_places.proofs.GoalTurns.{no_holders}
use Rattle.opened_places.proofs.RowSteps.{same_table, nothing_comes, its_row, same_goals, next_unfolds, at_place}

module _ (rules : List Rule) (r : Run) (T : Table) (l : Label) (d : Config) (t : IsTableOf rules r T) (a : Applies rules r.program t.config l d) (x : Around) (k : IsAround T l x)
    (makes : Makes r.program l (slice_index t.config.next l.worker) a.site refutes) where
  abbrev g : Name
  g = makes.1.0

  abbrev U : Table
  U = after_refute makes.1.0 T

  v : Unfolds U d
  v = next_unfolds rules r T l d t a refutes U makes (at_place rules r T l d t a refutes U makes.1.0 makes.1.1 (same_table U))

  there : (f : Found) × (home_of makes.1.0 d.roots ≡ Some f)
  there =
      let w : (row : GoalRow) × (T.goal_of makes.1.0 ≡ Some row) = its_row rules r T U l d t a v makes.1.0 makes.1.1 in
      let f : (f : Found) × (home_of makes.1.0 d.roots ≡ Some f) × (shape_at makes.1.0 d.roots ≡ Some (refuted_row (T.steps + 1) w.0).shape) = rows.row_home U d v makes.1.0 (refuted_row (T.steps + 1) w.0)
      (set_itself makes.1.0 (option_map (refuted_row (T.steps + 1)) (T.goal_of makes.1.0)) T.goal_of ∙ ap (option_map (refuted_row (T.steps + 1))) w.1) in
      (f.0, f.1)

  same : goals_at a.site.content.name t.config.roots ≡ goals_at a.site.content.name d.roots
  same = same_goals rules r T U l d t a v makes.1.0 makes.1.1 (λ w y i j. kept_part (λ (q : BoxRow). q.goals) (home_in (T.goal_of makes.1.0)) (failing_row makes.1.0) T.box_of a.site.content.name w y (λ q. refl) i j)

  pub refuted : AreExactly t.config d (listed l.place x refutes)
  refuted = subst (λ (p : Place). AreExactly t.config d (p ∷ Place.Box x.home ∷ [])) (sym makes.1.1)
      (turns.exactly rules r T l d t a x k g (site.its_goal rules r.program r.query r.journal t.config l d t.replays a g makes.1.1) (site.at_goal rules r.program r.query r.journal t.config l d t.replays a g makes.1.1)
      there same [] (no_holders t a (site.not_replaced rules r.program r.query r.journal t.config l d t.replays a g makes.1.1)) []
      (nothing_comes T U t.config d t.unfolds v (site.before rules r.program r.query r.journal t.config l d t.replays a) (site.afterwards rules r.program r.query r.journal t.config l d t.replays a) (λ m i. changed_none (home_in (T.goal_of g)) (failing_row g) T.box_of m i) (λ i j. replaced_none g (refuted_row (T.steps + 1)) T.goal_of i j)))
