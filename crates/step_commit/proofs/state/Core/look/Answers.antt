use Rattle.std.proofs.Common.{◌≡◌, subst}
use Rattle.std.specs.Prelude.{IfOk}
use Rattle.box_tree.specs.Paths.{alternatives_seen}
use Rattle.step_commit.specs.Cores.{CoreValue}
use Rattle.step_commit.proofs.state.Core.look.Goals as goal

pub returns-clause-alternatives : goal.returns-clause-alternatives
returns-clause-alternatives c = subst (λ (k : CoreValue). IfOk c.look.result (λ v. v.alternatives ≡ alternatives_seen k.table v.path c.args.place)) c.self.view_is c.look.ensures.alternatives
