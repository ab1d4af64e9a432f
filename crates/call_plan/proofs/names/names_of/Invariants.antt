use Rattle.std.proofs.Common.{◌≡◌, ◌+◌, ◌<◌, drop}
use Rattle.akl_model.specs.Instances.{drawn_by}
use Rattle.call_plan.proofs.names.names_of.Given as goal

abbrev pub invariant-loop-clause : goal.invariant-loop-clause
invariant-loop-clause l = (l.names + drawn_by (drop l.clause-index l.clauses) ≡ drawn_by l.clauses) × (l.names < 4294967296)
