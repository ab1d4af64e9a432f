use Rattle.std.proofs.Common.{◌≡◌, ◌<◌, ℕ, true, length}
use Rattle.wake_lists.specs.TokenSets.{is_token_in}
use Rattle.par_workers.specs.Tokens.{IsDealt}
use Rattle.par_workers.proofs.tokens.Tokens.deal.Given as goal

abbrev pub invariant-loop-token : goal.invariant-loop-token
invariant-loop-token l = record {
  count : length l.hands.items ≡ length l.fn.hands.items;
  held : (t : ℕ) → t < l.token → is_token_in t l.self-inside.held.keys ≡ true;
  dealt : (t : ℕ) → t < l.token → IsDealt t l.hands.items;
}
