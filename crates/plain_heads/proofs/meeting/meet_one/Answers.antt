use Rattle.std.proofs.lemmas.Result.{IfOk-weaker}
use Rattle.plain_heads.proofs.Passing.{rows_turn}
use Rattle.plain_heads.proofs.meeting.meet_one.Goals as goal

pub returns-in-Some : goal.returns-in-Some
returns-in-Some c = IfOk-weaker c.meet_rows.result _ _
    (λ turn t.
    let rows = rw (c.in-Some.is, c.templates.ensures.nodes) at c.rows_of.ensures in
    rows_turn c.args.chain.now.nodes c.args.chain.now.stores c.requires.solved c.args.frame c.args.bindings.now.items c.requires.plain c.args.end c.args.head rows.arranged c.in-Some.rows.0 c.in-Some.rows.1
    rows c.meet_rows.new.bindings.items turn t)
    c.meet_rows.ensures
