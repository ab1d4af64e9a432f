use Rattle.std.proofs.Common.{List, ℕ, ap, ◌∙◌}
use Rattle.std.specs.Prelude.{◌&&◌, ◌==◌, not}
use Rattle.wake_lists.specs.TokenSets.{is_token_in}
use Rattle.wake_lists.proofs.TokensIn.{dropped_both, set_dropped}
use Rattle.wake_lists.proofs.token_set.TokenSet.remove.Goals as goal

pub returns : goal.returns
returns c = λ s.
    dropped_both c.self.inside.short.items c.self.inside.rest.keys c.drop_token.new.tokens.items c.remove.new.self.keys c.args.token c.drop_token.ensures
    (set_dropped c.self.inside.rest c.remove.new.self c.args.token c.remove.ensures.updates.0) s
    ∙ ap (λ (ts : List ℕ). is_token_in s ts && not (s == c.args.token)) c.self.view_is
