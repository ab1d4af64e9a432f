-- What is found of the nodes of a graph.
use Rattle.std.specs.Prelude.{ℕ, List, slice_get, get_or, Option, Some, Bool, false}
use Rattle.cycle_marks.specs.declared.search.Mark.{Mark}
use Rattle.cycle_marks.specs.declared.search.Mark.TheVariants.{Done}

-- the mark of each node, and whether each component is a cycle
pub record Marks : Type 0 where
  pub marks : List Mark
  pub cyclic : List Bool

-- the number of a node's component
abbrev pub rank_in : Option Mark → ℕ
rank_in (Some (Done n)) = n
rank_in o = 0

abbrev pub is_cyclic_in : List Bool → Option Mark → Bool
is_cyclic_in cyclic (Some (Done n)) = get_or cyclic n false
is_cyclic_in cyclic o = false

abbrev pub rank_of : Marks → ℕ → ℕ
rank_of m i = rank_in (slice_get m.marks i)

abbrev pub is_cyclic : Marks → ℕ → Bool
is_cyclic m i = is_cyclic_in m.cyclic (slice_get m.marks i)
