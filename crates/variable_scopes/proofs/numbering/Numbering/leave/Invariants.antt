use Rattle.std.proofs.Common.{◌≡◌, length, map, drop}
use Rattle.variable_scopes.specs.Numbering.{state, left, AreBelow}
use Rattle.variable_scopes.proofs.numbering.Numbering.leave.Given as given

abbrev pub invariant-loop-name : given.invariant-loop-name
invariant-loop-name l = (left (state l.self) (drop l.name-index l.named) ≡ left (state l.fn.self) l.named) × AreBelow (length l.self.current.items) (map (λ x. x.0) (drop l.name-index l.named))
