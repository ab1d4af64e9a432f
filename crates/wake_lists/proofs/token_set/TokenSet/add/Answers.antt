use Rattle.std.proofs.Common.{List, ℕ, ap, ◌∙◌}
use Rattle.std.specs.Prelude.{◌||◌, ◌==◌}
use Rattle.wake_lists.specs.TokenSets.{is_token_in}
use Rattle.wake_lists.proofs.TokensIn.{added_second, set_added}
use Rattle.wake_lists.proofs.token_set.TokenSet.add.Goals as goal

pub returns-in_ok-insert-clause-added : goal.returns-in_ok-insert-clause-added
returns-in_ok-insert-clause-added c = λ s.
    added_second c.self.inside.short.items c.self.inside.rest.keys c.insert.new.self.keys c.args.token (set_added c.self.inside.rest c.insert.new.self c.args.token c.in_ok-insert.ensures.updates.0) s
    ∙ ap (λ (ts : List ℕ). is_token_in s ts || (s == c.args.token)) c.self.view_is
