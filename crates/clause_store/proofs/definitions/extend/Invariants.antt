use Rattle.std.proofs.Common.{map, drop, length}
use Rattle.akl_syntax.specs.Answers.{clauses_view}
use Rattle.clause_store.proofs.Defined.{DefinitionsSoFar}
use Rattle.clause_store.proofs.definitions.extend.Given as goal

abbrev pub invariant-loop-group : goal.invariant-loop-group
invariant-loop-group l =
    DefinitionsSoFar l.callees l.fn.templates l.templates l.fn.definitions.items l.definitions.items (clauses_view l.fn.clauses) (drop (length l.fn.callees) l.callees) (map clauses_view l.yielded)
