use Rattle.std.proofs.Common.{◌≡◌, Err, rules, subst, sym, arith}
use Rattle.answer_text.specs.declared.lines.AnswerError.TheVariants as variants
use Rattle.answer_lines.specs.Printing.{Moves, Overruns, forest_of}
use Rattle.answer_lines.proofs.Runs.{cycles-more, cycles-long, cycles-end}
use Rattle.answer_lines.proofs.lines.print_cycles.Goals as goal

pub returns-in_err-print_all-clause-long : goal.returns-in_err-print_all-clause-long
returns-in_err-print_all-clause-long c e =
    let x = forest_of c.args.templates.now c.args.graph.now c.args.classes.now in
    let long : c.print_all.result ≡ Err variants.Long = search rules in
    cycles-long x c.args.printer.now c.loop-node.printer c.loop-node.number c.in-Some.node c.loop-node.invariant.none_left (sym c.in-Some.ensures.class) c.loop-node.invariant.before
    (subst (λ s. Overruns x s) c.in_ok-begin_cycle.ensures.begun (c.print_all.ensures.long long))

pub loop-node-preserved : goal.loop-node-preserved
loop-node-preserved c =
    let x = forest_of c.args.templates.now c.args.graph.now c.args.classes.now in
    record {
      before =
          cycles-more x c.args.printer.now c.loop-node.printer c.loop-node.number c.in-Some.node c.loop-node.invariant.none_left (sym c.in-Some.ensures.class) c.loop-node.invariant.before _ c.print_all.new.printer (omega arith)
          (subst (λ s. Moves x s c.print_all.new.printer) c.in_ok-begin_cycle.ensures.begun c.in_ok-print_all.ensures.moves);
      none_left = c.in_ok-print_all.ensures.none_left;
      short = c.in_ok-print_all.ensures.short;
    }

pub returns-clause-ends : goal.returns-clause-ends
returns-clause-ends c =
    cycles-end (forest_of c.args.templates.now c.args.graph.now c.args.classes.now) c.args.printer.now c.loop-node.printer c.loop-node.number c.loop-node.invariant.none_left (sym c.in_default.ensures.class) c.loop-node.invariant.before
