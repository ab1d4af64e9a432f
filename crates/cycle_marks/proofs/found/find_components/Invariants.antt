use Rattle.std.proofs.Common.{◌≡◌, ◌<◌, ℕ, [], map}
use Rattle.cycle_marks.specs.Searching.{At, IsSearch}
use Rattle.cycle_marks.specs.declared.search.Mark.TheVariants.{New}
use Rattle.cycle_marks.proofs.found.find_components.Given as goal

abbrev pub invariant-loop-node : goal.invariant-loop-node
invariant-loop-node l = record {
  search : IsSearch (map (λ v. v.items) l.rows) l.search;
  empty : l.search.nodes ≡ [];
  met : (x : ℕ) → x < l.node → At l.search.marks x New → ⊥;
}
