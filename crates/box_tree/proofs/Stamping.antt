-- The stamps of what a table has.
use Rattle.std.proofs.Common.{◌≡◌, Some, refl}
use Rattle.std.specs.Map.{lookup}
use Rattle.akl_terms.specs.declared.name.Name.{Name}
use Rattle.akl_terms.specs.Names.{same_name}
use Rattle.akl_model.specs.declared.item.Item.{Item}
use Rattle.table_laws.specs.Stamped.{stamp_in}
use Rattle.box_tree.specs.declared.entries.BoxEntry.{BoxEntry}
use Rattle.box_tree.specs.declared.entries.GoalEntry.{GoalEntry}
use Rattle.box_tree.specs.StoreMarks.{store_mark}
use Rattle.box_tree.specs.Tables.{TableValue, table_of, stamp_of}

module _ (t : TableValue) (n : Name) where
  pub store_stamp : (e : BoxEntry) → lookup (same_name n) t.boxes ≡ Some e → Some (store_mark t.marks n e.changed) ≡ stamp_of t (Item.Store n)
  store_stamp e i = rw i refl

  pub goals_stamp : (e : BoxEntry) → lookup (same_name n) t.boxes ≡ Some e → Some e.goals_changed ≡ stamp_in (table_of t) (Item.Goals n)
  goals_stamp e i = rw i refl

  pub goal_stamp : (e : GoalEntry) → lookup (same_name n) t.goals ≡ Some e → Some e.changed ≡ stamp_in (table_of t) (Item.Goal n)
  goal_stamp e i = rw i refl
