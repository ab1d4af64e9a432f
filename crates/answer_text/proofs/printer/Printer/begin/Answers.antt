use Rattle.std.proofs.Common.{subst, sym, ◌∙◌, ap}
use Rattle.akl_terms.specs.Template.{IsKnown}
use Rattle.answer_text.specs.Pieces.{IsShort, whole_begun, tail_begun}
use Rattle.answer_text.proofs.Shorts.{arguments_short}
use Rattle.answer_text.proofs.printer.Printer.begin.Goals as goal

pub begin_whole-requires-clause-short : goal.begin_whole-requires-clause-short
begin_whole-requires-clause-short g c = subst IsShort (sym c.look-seen.ensures.seen) (arguments_short _ c.look-seen.ensures.arranged c.look-seen.ensures.small _)

pub begin_tail-requires-clause-short : goal.begin_tail-requires-clause-short
begin_tail-requires-clause-short g c = subst IsShort (sym c.look-seen-in-Tail.ensures.seen) (arguments_short _ c.look-seen-in-Tail.ensures.arranged c.look-seen-in-Tail.ensures.small _)

pub returns-in_ok-begin_whole-in-Whole-clause-begins : goal.returns-in_ok-begin_whole-in-Whole-clause-begins
returns-in_ok-begin_whole-in-Whole-clause-begins g c =
    rw c.in-Whole.is (
      record {
        end = c.chain_end.result;
        goes = c.chain_end.ensures;
        arranged = c.look-seen.ensures.arranged;
        known = subst (IsKnown c.args.templates.now) c.look-seen.ensures.seen c.look-seen.ensures.known;
      },
      c.in_ok-begin_whole-in-Whole.ensures.begun ∙ ap (λ v. whole_begun c.args.templates.now v c.args.self.now) c.look-seen.ensures.seen,
    )

pub returns-in_ok-begin_tail-in-Tail-clause-begins : goal.returns-in_ok-begin_tail-in-Tail-clause-begins
returns-in_ok-begin_tail-in-Tail-clause-begins g c =
    rw c.in-Tail.is (
      record {
        end = c.chain_end-in-Tail.result;
        goes = c.chain_end-in-Tail.ensures;
        arranged = c.look-seen-in-Tail.ensures.arranged;
        known = subst (IsKnown c.args.templates.now) c.look-seen-in-Tail.ensures.seen c.look-seen-in-Tail.ensures.known;
      },
      c.in_ok-begin_tail-in-Tail.ensures.begun ∙ ap (λ v. tail_begun c.args.templates.now c.in-Tail.term v c.args.self.now) c.look-seen-in-Tail.ensures.seen,
    )
