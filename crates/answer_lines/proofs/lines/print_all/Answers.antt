use Rattle.std.proofs.Common.{◌≡◌, ◌≤◌, ◌<◌, length, subst, sym, ap, arith, rules}
use Rattle.answer_lines.specs.Printing.{Moves, forest_of}
use Rattle.answer_lines.proofs.Runs.{moves-none, moves-on, moves-begun, overruns-by}
use Rattle.answer_lines.proofs.lines.print_all.Goals as goal

pub loop-printer-init : goal.loop-printer-init
loop-printer-init c = record { moves = moves-none (forest_of c.args.templates.now c.args.graph.now c.args.classes.now) c.args.printer.now; grows = omega arith }

pub loop-printer-preserved : goal.loop-printer-preserved
loop-printer-preserved c =
    let x = forest_of c.args.templates.now c.args.graph.now c.args.classes.now in
    let same : c.loop-printer.printer.out ≡ c.next_piece.new.self.out = ap (λ s. s.out) c.in-Some.ensures.some in
    let before : length c.args.printer.now.out ≤ length c.loop-printer.printer.out = c.loop-printer.invariant.grows in
    let more : length c.next_piece.new.self.out < length c.begin.new.self.out = c.in_ok-begin.ensures.grows in
    let even : length c.loop-printer.printer.out ≡ length c.next_piece.new.self.out = ap length same in
    record {
      moves = moves-on x _ _ _ c.loop-printer.invariant.moves
          (subst (λ s. Moves x s c.begin.new.self) (sym c.in-Some.ensures.some) (moves-begun x c.in-Some.piece c.next_piece.new.self c.begin.new.self c.in_ok-begin.ensures.begun));
      grows = omega (arith, before, more, even);
    }

pub returns-then-len-gt-LONGEST-clause-long : goal.returns-then-len-gt-LONGEST-clause-long
returns-then-len-gt-LONGEST-clause-long c e = overruns-by (forest_of c.args.templates.now c.args.graph.now c.args.classes.now) c.args.printer.now c.loop-printer.printer c.loop-printer.invariant.moves (search rules)
