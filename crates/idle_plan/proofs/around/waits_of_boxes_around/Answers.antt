use Rattle.std.proofs.Common.{take}
use Rattle.idle_plan.proofs.Answered.{clash_decided}
use Rattle.idle_plan.proofs.Steps.{around_clash}
use Rattle.idle_plan.proofs.around.waits_of_boxes_around.Goals as goal

pub returns-in-Clash : goal.returns-in-Clash
returns-in-Clash c =
    let d = rw (c.in-Clash.is, c.outer.ensures.nodes, c.outer.ensures.stores, c.chain-chain.ensures.nodes, c.chain-chain.ensures.stores) at c.in_ok-consistent.ensures in
    rw c.new-in-Clash.ensures.items (around_clash c.args.program.now.templates.nodes c.args.view.now.stores c.args.count
    (clash_decided c.args.program.now.templates.nodes (take 1 c.args.view.now.stores) c.in-Clash.left c.in-Clash.right d))
