use Rattle.std.proofs.Common.{subst, sym}
use Rattle.rational_unify.specs.Known.{end_of}
use Rattle.answer_text.specs.Pieces.{Moves}
use Rattle.answer_text.proofs.Goes.{begins-moves}
use Rattle.answer_text.proofs.Whole.{Moves-trans}
use Rattle.answer_text.proofs.lines.print_all.Goals as goal

pub loop-printer-preserved : goal.loop-printer-preserved
loop-printer-preserved g c =
    Moves-trans _ _ _ _ _ c.loop-printer.invariant
    (subst (λ s. Moves c.args.templates.now (end_of c.args.templates.now.nodes (g.K.Lookup.bindings c.args.form.now)) s c.begin.new.self) (sym c.in-Some.ensures.some)
    (begins-moves c.args.templates.now (end_of c.args.templates.now.nodes (g.K.Lookup.bindings c.args.form.now)) c.in-Some.piece c.next_piece.new.self c.begin.new.self c.in_ok-begin.ensures.begins))
