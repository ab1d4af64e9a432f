use Rattle.rational_unify.proofs.Ends.{free-tree, headed-tree}
use Rattle.plain_heads.proofs.Passing.{turn_compared, turn_bound}
use Rattle.plain_heads.proofs.meeting.meet_plainly.Goals as goal

pub may_bind-requires : goal.may_bind-requires
may_bind-requires c = rw c.as_slice.ensures.value c.requires.plain.new

pub returns-in_ok-push-in-Free : goal.returns-in_ok-push-in-Free
returns-in_ok-push-in-Free c =
    let may = rw c.as_slice.ensures.value at (c.may_bind.ensures c.if-not-may_bind.false) in
    let head = rw (c.in-Free.is, c.templates-templates.ensures.nodes) at c.look.ensures.seen in
    rw (c.in_ok-push-in-Free.ensures.items, c.in_ok-make_room-in-Free.ensures)
    (turn_bound c.args.chain.now.nodes c.args.chain.now.stores c.requires.solved c.args.frame c.args.bindings.now.items c.requires.plain c.args.end c.args.head c.in-Free.variable may
    (free-tree c.args.chain.now.nodes c.args.head c.in-Free.variable head) c.requires.at_end (rw c.templates-templates.ensures.nodes at c.look.ensures.arranged))

pub returns-in_default : goal.returns-in_default
returns-in_default c =
    turn_compared c.args.chain.now.nodes c.args.chain.now.stores c.requires.solved c.args.frame c.args.bindings.now.items c.requires.plain c.args.end c.args.head (rw c.templates-templates.ensures.nodes at c.look.ensures.arranged)
    (headed-tree c.args.chain.now.nodes c.args.head c.look.result (rw c.templates-templates.ensures.nodes at c.look.ensures.seen) c.in_default.not-Free) c.compare.result (rw c.templates-templates.ensures.nodes at c.compare.ensures)
