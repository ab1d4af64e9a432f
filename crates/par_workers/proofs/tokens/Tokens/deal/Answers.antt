use Rattle.std.proofs.Common.{◌≡◌, ℕ, true, ◌∙◌}
use Rattle.wake_lists.specs.TokenSets.{is_token_in}
use Rattle.wake_lists.proofs.TokensIn.{set_added}
use Rattle.par_workers.specs.Tokens.{IsDealt}
use Rattle.par_workers.proofs.Held.{keeps_added, has_added, below_next}
use Rattle.par_workers.proofs.tokens.Tokens.deal.Goals as goal

pub loop-token-preserved : goal.loop-token-preserved
loop-token-preserved c =
    let n = c.loop-token.token in
    let before = c.loop-token.self-inside.held in
    let now = c.insert.new.self in
    let adds = set_added before now n c.in_ok-insert.ensures.updates.0 in
    record {
      count = c.deal_one.ensures.count ∙ c.loop-token.invariant.count;
      held = below_next (λ (t : ℕ). is_token_in t now.keys ≡ true) n (λ t h. keeps_added before.keys now.keys n adds t (c.loop-token.invariant.held t h)) (has_added before.keys now.keys n adds);
      dealt = below_next (λ (t : ℕ). IsDealt t c.deal_one.new.hands.items) n (λ t h. c.deal_one.ensures.still t (c.loop-token.invariant.dealt t h)) c.in_ok-deal_one.ensures.dealt;
    }
