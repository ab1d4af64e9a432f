use Rattle.why_report.specs.Waits.{values}
use Rattle.why_report.specs.Written.{IsEndText}
use Rattle.why_report.proofs.NamedTexts.{lines_begun}
use Rattle.why_report.proofs.lines.lines_of.Goals as goal

pub returns : goal.returns
returns g c = lines_begun (IsEndText c.args.templates.now.nodes (g.W.Lookup.bindings c.args.whole.now) c.args.shown.now) c.args.number (values c.args.waiting.now)
    c.new-text.result.items c.push_text.new.line.items c.push_number.new.line.items c.push_text-2.new.line.items c.push_goals.new.text.items
    c.new-text.ensures.items c.in_ok-push_text.ensures c.in_ok-push_number.ensures c.in_ok-push_text-2.ensures c.in_ok-push_goals.ensures
