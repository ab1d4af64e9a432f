use Rattle.std.proofs.Common.{◌≡◌, ◌+◌, drop, false}
use Rattle.std.specs.Prelude.{option_map}
use Rattle.akl_text.specs.Computed.{block_len}
use Rattle.akl_text.proofs.layout.block_len.Given as goal

abbrev pub invariant-loop-at : goal.invariant-loop-at
invariant-loop-at l = block_len false l.fn.text ≡ option_map (λ k. l.at + k) (block_len l.after_star (drop l.at l.text))
