-- A choice loses alternatives, with all that stands in them.
use Rattle.std.proofs.Common.{◌≡◌, ℕ, ◌+◌, List, Option, Some, None, refl, sym, ap, subst, ◌∙◌}
use Rattle.std.specs.Prelude.{option_map, slice_index}
use Rattle.std.specs.Map.{lookup}
use Rattle.akl_terms.specs.declared.name.Name.{Name}
use Rattle.akl_terms.specs.declared.name.Place.{Place}
use Rattle.akl_model.specs.Config.{Operator}
use Rattle.box_tree.specs.declared.entries.HeldOp.{HeldOp}
use Rattle.akl_terms.specs.Names.{same_name}
use Rattle.akl_model.specs.Changes.{Shape, of_choice}
use Rattle.akl_model.proofs.Options.{some_value}
use Rattle.table_laws.specs.Rows.{GoalRow}
use Rattle.table_laws.specs.Walks.{alternatives_of, ListsEach, Drops}
use Rattle.table_laws.specs.Writes.{set, names_kept, names_cut, cut_from, cut_row, Cuts}
use Rattle.table_laws.proofs.Drops.{cut_goal, cuts_by_drops}
use Rattle.box_tree.specs.declared.entries.Held.{Held}
use Rattle.box_tree.specs.declared.entries.GoalEntry.{GoalEntry}
use Rattle.box_tree.specs.declared.view.Sight.{Sight}
use Rattle.box_tree.specs.Tables.{TableValue, table_of, op_held, goal_row, shape_held}
use Rattle.box_tree.specs.Edits.{SetsGoals, choice_row}
use Rattle.box_tree.specs.Drops.{DropsBoxes}
use Rattle.box_tree.specs.Paths.{sight_held, sight_in}
use Rattle.box_tree.proofs.Removed.{drops_as}

-- the row of a choice that is seen
pub record IsChoiceRow (n : Name) (op : Operator) (number : ℕ) (kept : List Name) (o : Option GoalRow) : Type 0 where
  pub cut : kept ≡ names_kept op n (alternatives_of o) → option_map (choice_row op kept number) o ≡ option_map (cut_row n number) o
  pub gone : names_cut op n (alternatives_of o) ≡ cut_from n o

module _ (t : TableValue) (g n home : Name) (held_op : HeldOp) (number : ℕ) (kept : List Name) where
  abbrev op : Operator
  op = op_held t.program.templates.nodes held_op

  pub choice_seen : sight_in t (Place.Goal g) ≡ Some (home, Sight.Choice held_op) → IsChoiceRow n op number kept ((table_of t).goal_of g)
  choice_seen e = on (lookup (same_name g) t.goals) e
    where
      of_shape : (e : GoalEntry) (names : List Name) → shape_held t.program.templates.nodes e.held ≡ of_choice op names → IsChoiceRow n op number kept (Some (goal_row t.program.templates.nodes e))
      of_shape e names q =
          let row : goal_row t.program.templates.nodes e ≡ record { home = e.home; shape = of_choice op names; changed = e.changed } = ap (λ (s : Shape). record { home = e.home; shape = s; changed = e.changed }) q in
          subst (λ (r : GoalRow). IsChoiceRow n op number kept (Some r)) (sym row)
          (record { cut = λ k. ap (λ (ns : List Name). Some (choice_row op ns number (record { home = e.home; shape = of_choice op names; changed = e.changed }))) k; gone = refl })

      of_held : (e : GoalEntry) (h : Held) → e.held ≡ h → sight_held h ≡ Sight.Choice held_op → IsChoiceRow n op number kept (Some (goal_row t.program.templates.nodes e))
      of_held e (Held.Atom a) i q = cc
      of_held e (Held.Choice o names since) i q = let same : o ≡ held_op = cc in of_shape e names.items (ap (shape_held t.program.templates.nodes) i ∙ ap (λ (x : HeldOp). of_choice (op_held t.program.templates.nodes x) names.items) same)

      on : (o : Option GoalEntry) → option_map {U = Name × Sight} (λ (e : GoalEntry). (e.home, sight_held e.held)) o ≡ Some (home, Sight.Choice held_op) → IsChoiceRow n op number kept (option_map (goal_row t.program.templates.nodes) o)
      on None q = cc
      on (Some e) q = of_held e e.held refl (ap (λ (p : Name × Sight). p.1) (some_value q))

  module _ (u v : TableValue) (gone inside : List Name) where
    pub cut_made : number ≡ t.steps + 1 → sight_in t (Place.Goal g) ≡ Some (home, Sight.Choice held_op) → kept ≡ names_kept op n (alternatives_of ((table_of t).goal_of g)) → gone ≡ names_cut op n (alternatives_of ((table_of t).goal_of g))
        → ListsEach (table_of t) gone inside → SetsGoals t u (set g (option_map (choice_row op kept number) ((table_of t).goal_of g)) (table_of t).goal_of) → DropsBoxes u v inside
        → Cuts (table_of t) (table_of (record v { steps = number })) g n
    cut_made nb e k q lists x y = cuts_by_drops (table_of t) (table_of (record v { steps = number })) g n inside (subst (λ (ns : List Name). ListsEach (table_of t) ns inside) (q ∙ seen.gone) lists) drops
        (ap (λ (w : TableValue). w.program.templates.nodes) rest) (ap (λ (w : TableValue). w.roots) rest) (ap (λ (w : TableValue). w.roots_changed) rest) (λ w. ap (λ (z : TableValue). slice_index z.next w) rest) nb
      where
        seen : IsChoiceRow n op number kept ((table_of t).goal_of g)
        seen = choice_seen e

        rest : v ≡ record t { boxes = v.boxes; goals = v.goals }
        rest = y.rest ∙ ap (λ (w : TableValue). record w { boxes = v.boxes; goals = v.goals }) x.rest

        drops : Drops (cut_goal g n (table_of t)) (table_of (record v { steps = number })) inside
        drops = drops_as (table_of u) (cut_goal g n (table_of t)) (table_of (record v { steps = number })) inside (λ m. ap (λ (w : TableValue). (table_of w).box_of m) x.rest)
            (λ m. x.rows m ∙ ap (λ (r : Option GoalRow). set g r (table_of t).goal_of m) (seen.cut k ∙ ap (λ (j : ℕ). option_map (cut_row n j) ((table_of t).goal_of g)) nb))
            (record { box_goes = y.rows.box_goes; goal_goes = y.rows.goal_goes; box_stays = y.rows.box_stays; goal_stays = y.rows.goal_stays })

    pub cut_rest : SetsGoals t u (set g (option_map (choice_row op kept number) ((table_of t).goal_of g)) (table_of t).goal_of) → DropsBoxes u v inside → v ≡ record t { boxes = v.boxes; goals = v.goals }
    cut_rest x y = y.rest ∙ ap (λ (w : TableValue). record w { boxes = v.boxes; goals = v.goals }) x.rest
