-- The way from a box out to its root box.
use Rattle.std.specs.Prelude.{◌≡◌, List, [], ◌∷◌, ◌++◌, Option, Some}
use Rattle.akl_terms.specs.declared.name.Name.{Name}
use Rattle.table_laws.specs.Rows.{BoxRow, Table, store_in, stores_along}
use Rattle.box_tree.specs.declared.way.Way.{Way}
use Rattle.box_tree.specs.Paths.{outside_of, IsPath, solving_in}

-- the first box is passed, of which this is the row
pub record Begins (n : Name) (row : BoxRow) (w : Way) : Type 0 where
  pub path : w.path.items ≡ n ∷ []
  pub stores : w.stores.items ≡ row.store ∷ []
  pub solving : w.solving ≡ solving_in (Some row)

-- a box is passed, and this is the box around it
pub record Passes (T : Table) (n : Name) (before : Way) (outside : Option Name) (now : Way) : Type 0 where
  pub path : now.path.items ≡ before.path.items ++ n ∷ []
  pub stores : now.stores.items ≡ before.stores.items ++ store_in (T.box_of n) ∷ []
  pub solving : now.solving ≡ solving_in (T.box_of n)
  pub around : outside ≡ outside_of T n

-- the boxes down to a box, outermost first, with their stores, and when that of the outermost was solved and last changed
pub record IsWay (T : Table) (n : Name) (w : Way) : Type 0 where
  pub path : IsPath T n w.path.items
  pub stores : w.stores.items ≡ stores_along T w.path.items
  pub outermost : (m : Name) (ms : List Name) → w.path.items ≡ m ∷ ms → w.solving ≡ solving_in (T.box_of m)
