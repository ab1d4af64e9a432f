-- What a change of one map makes of a table.
use Rattle.std.proofs.Common.{◌≡◌, ℕ, List, Option, Some, None, refl, ap, ◌∙◌}
use Rattle.std.specs.Prelude.{option_map}
use Rattle.std.specs.Option.{option_or}
use Rattle.std.specs.Map.{lookup}
use Rattle.std.specs.Set.{remove_key}
use Rattle.std.specs.BTreeMap.{is_at}
use Rattle.std.specs.BTreeSet.{BTreeSet}
use Rattle.akl_terms.specs.declared.name.Name.{Name}
use Rattle.akl_terms.specs.declared.term.Node.{Node}
use Rattle.akl_terms.specs.contracts.name.NameOrd.TheImpl.{cmp-value}
use Rattle.akl_terms.specs.Names.{same_name}
use Rattle.akl_model.specs.Config.{with_names}
use Rattle.local_store.specs.Parts.{with_part}
use Rattle.name_map.specs.Entries.{Finds}
use Rattle.table_laws.specs.Rows.{BoxRow, GoalRow}
use Rattle.table_laws.specs.Writes.{set, less_name, changed_box}
use Rattle.box_tree.specs.declared.entries.BoxEntry.{BoxEntry}
use Rattle.box_tree.specs.declared.entries.GoalEntry.{GoalEntry}
use Rattle.box_tree.specs.declared.telling.Told.{Told}
use Rattle.box_tree.specs.Tables.{TableValue, table_of, box_row, goal_row}
use Rattle.box_tree.specs.Edits.{SetsBoxes, SetsGoals, part_row, joins_row}
use Rattle.box_tree.proofs.Maps.{updated, written, unwritten, removed_is}

module _ (t : TableValue) where
  module _ (n : Name) (boxes : List (Name × BoxEntry)) where
    -- an entry is put, or goes where there is none
    pub sets_box : (w : Option BoxEntry) → Finds t.boxes boxes n w → SetsBoxes t (record t { boxes = boxes }) (set n (option_map (box_row t.program.templates.nodes) w) (table_of t).box_of)
    sets_box w finds = record { rows = updated (box_row t.program.templates.nodes) n t.boxes boxes w finds; rest = refl }

    -- an entry is written through
    pub writes_box : (change : BoxRow → BoxRow) (old new : BoxEntry) → lookup (same_name n) t.boxes ≡ Some old → Finds t.boxes boxes n (Some new)
        → box_row t.program.templates.nodes new ≡ change (box_row t.program.templates.nodes old)
        → SetsBoxes t (record t { boxes = boxes }) (changed_box (Some n) change (table_of t).box_of)
    writes_box change old new here finds row = record { rows = written (box_row t.program.templates.nodes) n t.boxes boxes change old new here finds row; rest = refl }

    pub writes_no_box : (change : BoxRow → BoxRow) → lookup (same_name n) t.boxes ≡ None → boxes ≡ t.boxes
        → SetsBoxes t (record t { boxes = boxes }) (changed_box (Some n) change (table_of t).box_of)
    writes_no_box change none same = record { rows = unwritten (box_row t.program.templates.nodes) n t.boxes boxes change none same; rest = refl }

  module _ (g : Name) (goals : List (Name × GoalEntry)) where
    pub sets_goal : (w : Option GoalEntry) → Finds t.goals goals g w → SetsGoals t (record t { goals = goals }) (set g (option_map (goal_row t.program.templates.nodes) w) (table_of t).goal_of)
    sets_goal w finds = record { rows = updated (goal_row t.program.templates.nodes) g t.goals goals w finds; rest = refl }

    pub writes_goal : (change : GoalRow → GoalRow) (old new : GoalEntry) → lookup (same_name g) t.goals ≡ Some old → Finds t.goals goals g (Some new)
        → goal_row t.program.templates.nodes new ≡ change (goal_row t.program.templates.nodes old)
        → SetsGoals t (record t { goals = goals }) (set g (option_map change ((table_of t).goal_of g)) (table_of t).goal_of)
    writes_goal change old new here finds row = record { rows = written (goal_row t.program.templates.nodes) g t.goals goals change old new here finds row; rest = refl }

    pub writes_no_goal : (change : GoalRow → GoalRow) → lookup (same_name g) t.goals ≡ None → goals ≡ t.goals
        → SetsGoals t (record t { goals = goals }) (set g (option_map change ((table_of t).goal_of g)) (table_of t).goal_of)
    writes_no_goal change none same = record { rows = unwritten (goal_row t.program.templates.nodes) g t.goals goals change none same; rest = refl }

  pub sets_nothing : SetsBoxes t t (changed_box None (λ r. r) (table_of t).box_of)
  sets_nothing = record { rows = λ m. refl; rest = refl }

-- an entry that is told, and loses a goal
module _ (nodes : List Node) (g : Name) (told : Told) (number : ℕ) (old now : BoxEntry) (goals : BTreeSet Name) (loses : goals.keys ≡ remove_key (is_at (cmp-value.it g)) now.goals.keys) where
  pub told_entry : now ≡ record old { store = with_part old.store told.part; changed = told.number; solved_at = told.solved_at }
      → box_row nodes (record now { goals = goals; goals_changed = number }) ≡ part_row g told number (box_row nodes old)
  told_entry is =
      let keys : goals.keys ≡ less_name g old.goals.keys = loses ∙ removed_is g now.goals.keys ∙ ap (λ (e : BoxEntry). less_name g e.goals.keys) is in
      ap (λ (e : BoxEntry). box_row nodes (record e { goals = goals; goals_changed = number })) is
      ∙ ap (λ (ks : List Name). record (box_row nodes (record old { store = with_part old.store told.part; changed = told.number; solved_at = told.solved_at; goals_changed = number })) { goals = ks }) keys

  -- the same where it got goals too
  pub joined_entry : (names : List Name) (failing : Option Name)
      → now ≡ record old { store = with_part old.store told.part; changed = told.number; solved_at = told.solved_at; goals = now.goals; failing = option_or old.failing failing }
      → now.goals.keys ≡ with_names names old.goals.keys → box_row nodes (record now { goals = goals; goals_changed = number }) ≡ joins_row g names failing told number (box_row nodes old)
  joined_entry names failing is named =
      let keys : goals.keys ≡ less_name g (with_names names old.goals.keys) = loses ∙ removed_is g now.goals.keys ∙ ap (less_name g) named in
      ap (λ (e : BoxEntry). box_row nodes (record e { goals = goals; goals_changed = number })) is
      ∙ ap (λ (ks : List Name). record (box_row nodes (record old { store = with_part old.store told.part; changed = told.number; solved_at = told.solved_at; failing = option_or old.failing failing; goals_changed = number })) { goals = ks }) keys
