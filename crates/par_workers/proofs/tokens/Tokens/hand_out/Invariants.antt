use Rattle.std.proofs.Common.{◌≡◌, ◌<◌, ℕ, true, slice_index_or}
use Rattle.wake_lists.specs.TokenSets.{is_token_in}
use Rattle.par_workers.specs.Tokens.{StayAtHand, NewAtHand}
use Rattle.par_workers.proofs.tokens.Tokens.hand_out.Given as goal

abbrev pub invariant-loop-token : goal.invariant-loop-token
invariant-loop-token l = record {
  keeps : (t : ℕ) → is_token_in t l.fn.self.held ≡ true → is_token_in t l.self.held ≡ true;
  held : (i : ℕ) → i < l.token-index → is_token_in (slice_index_or l.opened i 0) l.self.held ≡ true;
  stay : StayAtHand l.fn.own.items l.fn.self.lying l.own.items l.self.lying;
  comes : NewAtHand l.fn.self.held l.self.held l.own.items l.self.lying;
}
