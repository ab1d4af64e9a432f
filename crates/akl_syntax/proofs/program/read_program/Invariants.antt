use Rattle.std.proofs.Common.{◌-◌, length, map}
use Rattle.akl_syntax.specs.Answers.{clause_view}
use Rattle.akl_syntax.proofs.ReadTurns.{ProgramSoFar}
use Rattle.akl_syntax.proofs.program.read_program.Given as goal

abbrev pub invariant-loop-start : goal.invariant-loop-start
invariant-loop-start l = ProgramSoFar l.fn.bytes (map clause_view l.clauses.items) l.start

abbrev pub decreases-loop-start : goal.decreases-loop-start
decreases-loop-start l = length l.bytes - l.start
