use Rattle.std.proofs.Common.{◌≡◌, ◌++◌, drop}
use Rattle.akl_lift.proofs.clauses.copied.Given as given

abbrev pub invariant-loop-text : given.invariant-loop-text
invariant-loop-text l = l.found.items ++ drop l.text-index l.texts ≡ l.texts
