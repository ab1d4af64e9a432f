use Rattle.std.proofs.Common.{◌≡◌, ◌++◌, drop}
use Rattle.akl_lift.specs.Lifting.{hidden_from}
use Rattle.akl_lift.proofs.locals.hidden_names.Given as given

abbrev pub invariant-loop-index : given.invariant-loop-index
invariant-loop-index l = l.found.items ++ hidden_from l.locals l.index (drop l.index l.names) ≡ hidden_from l.locals 0 l.names
