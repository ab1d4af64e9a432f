use Rattle.std.proofs.Common.{drop}
use Rattle.variable_scopes.specs.Numbering.{state}
use Rattle.variable_scopes.proofs.Lists.{NumbersGoing}
use Rattle.variable_scopes.proofs.terms.numbered_all.Given as given

abbrev pub invariant-loop-spelling : given.invariant-loop-spelling
invariant-loop-spelling l = NumbersGoing (state l.fn.numbering) l.spellings (state l.numbering) l.found.items (drop l.spelling-index l.spellings)
