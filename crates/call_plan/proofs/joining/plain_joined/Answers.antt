use Rattle.call_plan.proofs.PlainJoined.{plain_holds}
use Rattle.call_plan.proofs.joining.plain_joined.Goals as goal

pub returns-clause-joins : goal.returns-clause-joins
returns-clause-joins c = λ path some plain known apart. record {
  holds = plain_holds c.args.templates.now.nodes path c.args.frame c.args.bindings.items plain known apart c.args.op c.in_default.not-Collect;
  joins = c.in_ok-told.ensures.joins path some plain known;
}
