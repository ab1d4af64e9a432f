use Rattle.std.proofs.Common.{◌≡◌, None, take}
use Rattle.rational_unify.specs.Known.{found_in}
use Rattle.local_store.proofs.listed.first_in.Given as goal

abbrev pub invariant-loop-binding : goal.invariant-loop-binding
invariant-loop-binding l = found_in (take l.binding-index l.bindings) l.variable ≡ None
