use Rattle.call_plan.proofs.HeadSolved.{head_clashes, head_added}
use Rattle.call_plan.proofs.sifting.head_store.Goals as goal

pub returns-in-Clash : goal.returns-in-Clash
returns-in-Clash c = head_clashes c.args.chain.now.nodes c.args.chain.now.stores c.args.arguments c.args.frame c.args.clause.now c.requires c.in-Clash.left c.in-Clash.right
    (rw (c.in-Clash.is, c.templates.ensures.nodes, c.as_slice.ensures, c.in_ok-equations.ensures) at c.in_ok-solved.ensures.solves) tt

pub returns : goal.returns
returns c = rw (c.in_ok-store-in-Added.ensures, c.as_slice-in-Added.ensures)
    (head_added c.args.chain.now.nodes c.args.chain.now.stores c.args.arguments c.args.frame c.args.clause.now c.requires c.in-Added.bindings
    (rw (c.in-Added.is, c.templates.ensures.nodes, c.as_slice.ensures, c.in_ok-equations.ensures) at c.in_ok-solved.ensures.solves) (rw (c.in-Added.is, c.templates.ensures.nodes) at c.in_ok-solved.ensures.older))
