use Rattle.std.proofs.Common.{map}
use Rattle.cycle_marks.specs.Searching.{At, IsSearch, AreOlder, left}
use Rattle.cycle_marks.specs.declared.search.Mark.TheVariants.{New}
use Rattle.cycle_marks.proofs.search.Search.explore.Given as goal

abbrev pub invariant-loop-base : goal.invariant-loop-base
invariant-loop-base l = record {
  search : IsSearch (map (λ v. v.items) l.rows) l.self;
  older : AreOlder l.fn.self l.self;
  met : At l.self.marks l.node New → ⊥;
}

abbrev pub decreases-loop-base : goal.decreases-loop-base
decreases-loop-base l = left l.self
