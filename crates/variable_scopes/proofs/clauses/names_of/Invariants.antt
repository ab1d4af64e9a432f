use Rattle.std.proofs.Common.{◌≡◌, ◌++◌, map, drop}
use Rattle.variable_scopes.specs.Scoped.{name_of}
use Rattle.variable_scopes.proofs.clauses.names_of.Given as given

abbrev pub invariant-loop-spelling : given.invariant-loop-spelling
invariant-loop-spelling l = l.found.items ++ map (name_of l.names) (drop l.spelling-index l.spellings) ≡ map (name_of l.names) l.spellings
