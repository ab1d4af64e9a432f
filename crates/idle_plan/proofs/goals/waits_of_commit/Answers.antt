use Rattle.std.proofs.Common.{List, subst}
use Rattle.std.proofs.lemmas.Result.{IfOk-weaker}
use Rattle.box_tree.specs.declared.view.Alternative.{Alternative}
use Rattle.guard_plan.specs.Noisy.{HasNoise}
use Rattle.idle_plan.proofs.Steps.{by_noise, all_tested}
use Rattle.idle_plan.proofs.goals.waits_of_commit.Goals as goal

pub returns : goal.returns
returns c =
    let nodes = c.args.program.now.templates.nodes in
    let all = subst (λ (l : List Alternative). HasNoise c.args.program.now.templates.nodes c.args.view.now.stores l c.args.noise.now) (all_tested nodes c.args.view.now.stores c.args.view.now.alternatives) c.requires.noise in
    let m = rw (c.chain.ensures.nodes, c.chain.ensures.stores) at c.members_of_all.ensures in
    IfOk-weaker c.members_of_all.result _ _ (λ list h. by_noise nodes c.args.view.now.stores c.args.view.now.alternatives c.args.noise.now list.items all h) m
