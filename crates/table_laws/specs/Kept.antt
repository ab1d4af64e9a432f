-- The stores that a table keeps of another.
use Rattle.std.specs.Prelude.{◌≡◌, ℕ, ◌≤◌, Option, Some, ◌⊎◌}
use Rattle.akl_terms.specs.declared.name.Name.{Name}
use Rattle.table_laws.specs.Rows.{BoxRow, Table, store_in}

-- the row that there was had this store, with the number of the label that had changed it
abbrev pub HadStore : Option BoxRow → BoxRow → Type 0
HadStore was row = (old : BoxRow) × (was ≡ Some old) × (old.store ≡ row.store) × (old.changed ≡ row.changed)

-- the row's store came with the label of this number, or it was there
abbrev pub IsNewOrWas : ℕ → Option BoxRow → BoxRow → Type 0
IsNewOrWas number was row = (row.changed ≡ number) ⊎ HadStore was row

-- each store of the second table came with the label of this number, or the first one has it
abbrev pub KeepsStores : ℕ → Table → Table → Type 0
KeepsStores number T U = (n : Name) (row : BoxRow) → U.box_of n ≡ Some row → IsNewOrWas number (T.box_of n) row

-- of each box whose store was changed by none but the first labels, so many as are given, the first table has the very store that the second has
abbrev pub SharesStores : Table → Table → ℕ → Type 0
SharesStores S T seen = (n : Name) (row : BoxRow) → T.box_of n ≡ Some row → row.changed ≤ seen → store_in (S.box_of n) ≡ row.store
