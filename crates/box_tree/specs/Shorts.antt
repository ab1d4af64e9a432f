-- The values of a short list.
use Rattle.std.specs.Prelude.{List, []}
use Rattle.box_tree.specs.declared.short.Kept.{Kept}

-- what a contract sees of a short list
pub record ShortItems (T : Type 0) : Type 0 where
  pub items : List T

-- they are kept in the list, or in an allocation
abbrev pub kept_items : {T : Type 0} → Kept T → List T
kept_items Kept.None = []
kept_items (Kept.One values) = values
kept_items (Kept.Two values) = values
kept_items (Kept.Three values) = values
kept_items (Kept.Allocated values) = values.items
