use Rattle.rule_plan.proofs.FailRight.{fails_told, fails_by_clash, consistent_none}
use Rattle.rule_plan.proofs.failing.fail_told.Goals as goal

pub fail_by-requires : goal.fail_by-requires
fail_by-requires c =
    let bad = rw (c.chain-chain.ensures.nodes, c.chain-chain.ensures.stores, c.requires.program) at (c.in_ok-has_clash.ensures c.if-branch.true) in
    fails_told c.args.view.now c.requires.seen c.args.name c.requires.place bad

pub fail_by-requires-in-Clash : goal.fail_by-requires-in-Clash
fail_by-requires-in-Clash c =
    let d = rw (c.in-Clash.is, c.chain-chain.ensures.nodes, c.chain-chain.ensures.stores, c.requires.program) at c.in_ok-consistent.ensures in
    fails_by_clash c.args.view.now c.requires.seen c.args.name c.in-Clash.left c.in-Clash.right c.requires.place d.0 d.1

pub returns-in-Consistent : goal.returns-in-Consistent
returns-in-Consistent c =
    let d = rw (c.in-Consistent.is, c.chain-chain.ensures.nodes, c.chain-chain.ensures.stores, c.requires.program) at c.in_ok-consistent.ensures in
    consistent_none c.args.view.now c.requires.seen c.args.name c.requires.place c.requires.sight d
