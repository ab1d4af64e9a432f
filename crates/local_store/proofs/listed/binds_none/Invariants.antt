use Rattle.std.proofs.Common.{take}
use Rattle.local_store.specs.Chained.{BindNone}
use Rattle.local_store.proofs.listed.binds_none.Given as goal

abbrev pub invariant-loop-binding : goal.invariant-loop-binding
invariant-loop-binding l = BindNone (take l.binding-index l.bindings) l.frame
