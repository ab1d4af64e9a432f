use Rattle.std.proofs.Common.{◌≡◌, ◌++◌, length, drop}
use Rattle.variable_scopes.specs.Numbering.{state, named, AreBelow}
use Rattle.variable_scopes.proofs.numbering.Numbering.named.Given as given

abbrev pub invariant-loop-spelling : given.invariant-loop-spelling
invariant-loop-spelling l =
    (l.found.items ++ named (state l.self) (drop l.spelling-index l.spellings) ≡ named (state l.self) l.spellings) × AreBelow (length l.self.current.items) (drop l.spelling-index l.spellings)
