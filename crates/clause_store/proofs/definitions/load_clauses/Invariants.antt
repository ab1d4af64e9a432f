use Rattle.std.proofs.Common.{map, take}
use Rattle.akl_syntax.specs.Answers.{clause_view}
use Rattle.clause_store.specs.Putting.{AreClausesPut}
use Rattle.clause_store.proofs.definitions.load_clauses.Given as goal

abbrev pub invariant-loop-clause : goal.invariant-loop-clause
invariant-loop-clause l = AreClausesPut l.fn.callees l.fn.templates l.templates (map clause_view (take l.clause-index l.clauses)) l.loaded.items
