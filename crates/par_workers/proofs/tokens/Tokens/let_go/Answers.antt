use Rattle.std.proofs.Common.{subst}
use Rattle.wake_lists.specs.TokenSets.{Drops}
use Rattle.wake_lists.proofs.TokensIn.{set_dropped}
use Rattle.par_workers.specs.Tokens.{TokensValue}
use Rattle.par_workers.proofs.tokens.Tokens.let_go.Goals as goal

pub returns-clause-held : goal.returns-clause-held
returns-clause-held c = subst (λ (v : TokensValue). Drops v.held c.remove.new.self.keys c.args.token) c.self.view_is (set_dropped c.self.inside.held c.remove.new.self c.args.token c.remove.ensures.updates.0)
