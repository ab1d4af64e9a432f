use Rattle.std.proofs.Common.{length}
use Rattle.akl_lexemes.proofs.BracketTable.{TableSoFar}
use Rattle.akl_lexemes.proofs.brackets.Brackets.new.Given as goal

abbrev pub invariant-loop-last : goal.invariant-loop-last
invariant-loop-last l = TableSoFar l.fn.lexemes l.rest l.behind.items

abbrev pub decreases-loop-last : goal.decreases-loop-last
decreases-loop-last l = length l.rest
