-- What goes by a table's rows where a choice has lost alternatives.
use Rattle.std.proofs.Common.{◌≡◌, List, Some, None, sym, subst, inl, inr}
use Rattle.akl_terms.specs.declared.name.Name.{Name}
use Rattle.akl_model.specs.Config.{Operator}
use Rattle.akl_terms.specs.declared.program.Program.{Program}
use Rattle.akl_terms.specs.declared.program.Query.{Query}
use Rattle.akl_model.specs.declared.label.Rule.{Rule}
use Rattle.akl_model.specs.declared.label.Label.{Label}
use Rattle.akl_model.specs.Config.{IsIn, Boxes, box, Config, a_choice, held_in, with_content, Found, box_at, home_of}
use Rattle.akl_model.specs.Rules.{kept_by}
use Rattle.akl_model.specs.Derivations.{Applies, Replays}
use Rattle.akl_model.specs.Changes.{box_names}
use Rattle.akl_model.proofs.Options.{none_where}
use Rattle.akl_model.proofs.NamesKept.{Stand, replay-stands}
use Rattle.step_laws.specs.ChangedItems.{goal_of}
use Rattle.step_laws.specs.Holders.{IsAlternativeAt}
use Rattle.table_laws.specs.Rows.{Table}
use Rattle.table_laws.specs.Unfolds.{Unfolds}
use Rattle.table_laws.specs.Writes.{names_cut, IsInsideOne, IsGoalInsideOne}
use Rattle.table_laws.proofs.Insides.{inside, not_inside, not_inside_none, goal_inside, not_goal_inside, not_goal_inside_none}
use Rattle.table_laws.proofs.Going.{GoesIf, AreGoing}
use Rattle.table_laws.proofs.Cutting as cutting

module _ (rules : List Rule) (p : Program) (q : Query) (journal : List Label) (c : Config) (l : Label) (d : Config) (replays : Replays rules p q journal c) (m : Applies rules p c l d) (g n : Name) (v o : Operator)
    (bs copy : Boxes) (at_goal : goal_of l.place l.alternative m.site ≡ Some g) (held : held_in g m.site.goals ≡ Some (a_choice v bs))
    (is_change : m.change.boxes ≡ box m.site.content (with_content g (a_choice v (kept_by o n bs)) m.site.goals) copy)
    (T : Table) (u : Unfolds T c) (names : List Name) (are_cut : names ≡ names_cut o n (box_names bs)) where
  s : Stand c
  s = replay-stands rules p q journal c replays

  abbrev IsUnderCut : Found → Type 0
  IsUnderCut e = cutting.IsUnderCut rules p q journal c l d replays m g n v o bs copy at_goal held is_change e

  goes : (k : Name) → IsIn k names → IsIn k (names_cut o n (box_names bs))
  goes k i = subst (IsIn k) are_cut i

  alternative : (k : Name) → IsIn k names → IsAlternativeAt k g m.site c.roots
  alternative k i = cutting.alternative rules p q journal c l d replays m g n v o bs copy at_goal held is_change k (goes k i)

  pub is_cut : (k : Name) (e : Found) → box_at k c.roots ≡ Some e → IsUnderCut e → IsInsideOne T names k
  is_cut k e i x = record { alternative = x.one; goes = subst (IsIn x.one) (sym are_cut) x.goes; inside = inside T c u s.once x.one k e i x.down }

  pub not_cut : (k : Name) (e f : Found) → box_at k c.roots ≡ Some e → box_at k d.roots ≡ Some f → IsInsideOne T names k → ⊥
  not_cut k e f i j x =
      let w : IsAlternativeAt x.alternative g m.site c.roots = alternative x.alternative x.goes in
      not_inside T c u s.once x.alternative k w.found e w.is_found i
      (cutting.apart rules p q journal c l d replays m g n v o bs copy at_goal held is_change k e f i j x.alternative (goes x.alternative x.goes)) x.inside

  pub not_cut_none : (k : Name) → box_at k c.roots ≡ None → IsInsideOne T names k → ⊥
  not_cut_none k i x = let w : IsAlternativeAt x.alternative g m.site c.roots = alternative x.alternative x.goes in not_inside_none T c u s.once x.alternative k w.found w.is_found i x.inside

  pub is_goal_cut : (i : Name) (e : Found) → home_of i c.roots ≡ Some e → IsUnderCut e → IsGoalInsideOne T names i
  is_goal_cut i e h x = record { alternative = x.one; goes = subst (IsIn x.one) (sym are_cut) x.goes; inside = goal_inside T c u s.once x.one i e h x.down }

  pub not_goal_cut : (i : Name) (e f : Found) → home_of i c.roots ≡ Some e → home_of i d.roots ≡ Some f → IsGoalInsideOne T names i → ⊥
  not_goal_cut i e f y z x =
      let w : IsAlternativeAt x.alternative g m.site c.roots = alternative x.alternative x.goes in
      not_goal_inside T c u s.once x.alternative i w.found e w.is_found y
      (cutting.home_apart rules p q journal c l d replays m g n v o bs copy at_goal held is_change i e f y z x.alternative (goes x.alternative x.goes)) x.inside

  pub not_goal_cut_none : (i : Name) → home_of i c.roots ≡ None → IsGoalInsideOne T names i → ⊥
  not_goal_cut_none i h x = let w : IsAlternativeAt x.alternative g m.site c.roots = alternative x.alternative x.goes in not_goal_inside_none T c u s.once x.alternative i w.found w.is_found h x.inside

  -- so these boxes go with all inside them, and no others
  box_goes : (k : Name) (e : Found) → box_at k c.roots ≡ Some e → GoesIf (IsInsideOne T names k) (box_at k d.roots)
  box_goes k e i = elim (cutting.stays_or rules p q journal c l d replays m g n v o bs copy at_goal held is_change k e i) [
    | inl w ↦ inr (not_cut k e w.0 i w.1, w)
    | inr x ↦ inl (is_cut k e i x, none_where (box_at k d.roots) (λ f j. cutting.apart rules p q journal c l d replays m g n v o bs copy at_goal held is_change k e f i j x.one x.goes x.down))
  ]

  pub cut_away : (Own : Name → Type 0) → ((i : Name) → Own i → ⊥) → AreGoing T c d names Own
  cut_away Own none = record {
    box = box_goes;
    goal = λ i e h. elim (cutting.home_or rules p q journal c l d replays m g n v o bs copy at_goal held is_change i e h) [
      | inl w ↦ inr (λ z. elim z [ inl y ↦ none i y | inr y ↦ not_goal_cut i e w.0 h w.1 y ], w)
      | inr x ↦ inl (inr (is_goal_cut i e h x), none_where (home_of i d.roots) (λ f j. cutting.home_apart rules p q journal c l d replays m g n v o bs copy at_goal held is_change i e f h j x.one x.goes x.down))
    ];
    outer_there = λ k i. let w : IsAlternativeAt k g m.site c.roots = alternative k i in (w.found, w.is_found);
    own_there = λ i x. absurd (none i x);
  }
