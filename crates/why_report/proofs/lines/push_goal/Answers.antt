use Rattle.std.proofs.lemmas.Result.{on_ok_weaker}
use Rattle.why_report.specs.Waits.{value_of}
use Rattle.why_report.specs.Written.{IsEndText}
use Rattle.why_report.proofs.NamedTexts.{goal_added}
use Rattle.why_report.proofs.lines.push_goal.Goals as goal

pub returns : goal.returns
returns g c =
    let on = rw c.as_slice.ensures.value at c.in_ok-push_variables.ensures in
    on_ok_weaker c.push_text-3.result
    (goal_added (IsEndText c.args.templates.now.nodes (g.W.Lookup.bindings c.args.whole.now) c.args.shown.now) (value_of c.args.waiting.now) c.args.text.now.items c.push_text.new.line.items c.push_name.new.line.items
    c.push_text-2.new.line.items c.push_variables.new.text.items c.push_text-3.new.line.items c.in_ok-push_text.ensures c.in_ok-push_name.ensures c.in_ok-push_text-2.ensures on) c.push_text-3.ensures
