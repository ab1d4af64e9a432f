use Rattle.plain_heads.proofs.Compared.{seen_compared}
use Rattle.plain_heads.proofs.meeting.compare.Goals as goal

pub returns : goal.returns
returns c = seen_compared c.args.templates.now.nodes c.args.left c.args.right c.look.result c.look-2.result c.compare_seen.result c.look.ensures.seen c.look-2.ensures.seen c.compare_seen.ensures
