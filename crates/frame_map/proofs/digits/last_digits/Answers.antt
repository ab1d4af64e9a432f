use Rattle.std.proofs.Common.{ℕ, ◌-◌, bit_and, ap, ◌∙◌}
use Rattle.std.proofs.lemmas.Nat.{one_shl, and_mask}
use Rattle.frame_map.proofs.digits.last_digits.Goals as goal

pub returns : goal.returns
returns c = ap (λ (m : ℕ). bit_and c.args.number (m - 1)) (one_shl c.args.width 64 c.requires) ∙ and_mask c.args.number c.args.width
