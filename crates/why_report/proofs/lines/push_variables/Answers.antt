use Rattle.std.proofs.Common.{◌+◌, take, arith, slice_index_or}
use Rattle.std.proofs.lemmas.Result.{on_ok_weaker}
use Rattle.akl_terms.specs.declared.name.Var.{Var}
use Rattle.rational_unify.proofs.Taking.{take-next, take-all}
use Rattle.why_report.specs.Texts.{IsFurtherText}
use Rattle.why_report.specs.Written.{IsEndText}
use Rattle.why_report.proofs.NamedTexts.{on_first, on_none, further_added, none_added}
use Rattle.why_report.proofs.lines.push_variables.Goals as goal

pub returns-in_default : goal.returns-in_default
returns-in_default g c = on_ok_weaker c.push_text.result
    (on_none (IsEndText c.args.templates.now.nodes (g.W.Lookup.bindings c.args.whole.now) c.args.shown.now) c.args.on.now c.args.text.now.items c.push_text.new.line.items c.in_default.ensures.cases) c.push_text.ensures

pub loop-variable-init : goal.loop-variable-init
loop-variable-init g c = none_added (IsFurtherText (IsEndText c.args.templates.now.nodes (g.W.Lookup.bindings c.args.whole.now) c.args.shown.now)) c.push_variable.new.text.items

pub loop-variable-preserved : goal.loop-variable-preserved
loop-variable-preserved g c =
    let d : Var = record { frame = record { worker = 0; number = 0 }; index = 0 } in
    rw (take-next c.in-Some.others.now c.loop-variable.variable-index (c.loop-variable.variable-index + 1) d c.loop-variable-test.true (omega arith))
    (further_added (IsEndText c.args.templates.now.nodes (g.W.Lookup.bindings c.args.whole.now) c.args.shown.now) (take c.loop-variable.variable-index c.in-Some.others.now)
    (slice_index_or c.in-Some.others.now c.loop-variable.variable-index d) c.push_variable.new.text.items c.loop-variable.text.items c.push_text-in-loop-variable.new.line.items c.push_variable-in-loop-variable.new.text.items
    c.loop-variable.invariant c.in_ok-push_text.ensures c.in_ok-push_variable-2.ensures)

pub returns : goal.returns
returns g c =
    let all = rw (take-all c.in-Some.others.now c.loop-variable.variable-index (omega (arith, c.loop-variable-test.false, c.loop-variable.auto.variable-index-end))) at c.loop-variable.invariant in
    on_first (IsEndText c.args.templates.now.nodes (g.W.Lookup.bindings c.args.whole.now) c.args.shown.now) c.args.on.now c.in-Some.first.now c.in-Some.others.now
    c.args.text.now.items c.push_variable.new.text.items c.loop-variable.text.items c.in-Some.ensures.cases.0 c.in_ok-push_variable.ensures all
