use Rattle.std.proofs.Common.{◌≡◌, length, drop}
use Rattle.variable_scopes.specs.Numbering.{state, entered, AreBelow}
use Rattle.variable_scopes.proofs.numbering.Numbering.enter.Given as given

abbrev pub invariant-loop-spelling : given.invariant-loop-spelling
invariant-loop-spelling l = (entered (state l.self) (drop l.spelling-index l.spellings) ≡ entered (state l.fn.self) l.spellings) × AreBelow (length l.self.current.items) (drop l.spelling-index l.spellings)
