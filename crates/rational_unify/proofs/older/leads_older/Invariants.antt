use Rattle.std.proofs.Common.{take}
use Rattle.rational_unify.specs.Older.{EachOlder}
use Rattle.rational_unify.proofs.older.leads_older.Given as goal

abbrev pub invariant-loop-binding : goal.invariant-loop-binding
invariant-loop-binding l = EachOlder l.templates.nodes (take l.binding-index l.bindings)
