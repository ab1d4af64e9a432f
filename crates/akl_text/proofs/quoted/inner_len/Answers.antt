use Rattle.std.proofs.Common.{sym, ◌∙◌}
use Rattle.std.proofs.lemmas.Bool.{ne_eqb, eq-eqb}
use Rattle.akl_text.proofs.QuotedEnds.{past_escape, past_plain, at_close, at_refused}
use Rattle.akl_text.proofs.quoted.inner_len.Goals as goal

pub loop-at-preserved-then-is_escape : goal.loop-at-preserved-then-is_escape
loop-at-preserved-then-is_escape c = c.loop-at.invariant ∙ past_escape _ _ c.byte_at.result c.loop-at-test.true c.byte_at.ensures (sym c.if-is_escape.ensures)

pub loop-at-preserved : goal.loop-at-preserved
loop-at-preserved c = c.loop-at.invariant ∙ past_plain _ _ c.byte_at.result c.loop-at-test.true c.byte_at.ensures (sym c.if-is_escape.ensures) (sym c.if-is_plain.ensures)

pub returns-then-first-eq39-clause-value : goal.returns-then-first-eq39-clause-value
returns-then-first-eq39-clause-value c =
    sym (c.loop-at.invariant ∙ at_close _ _ c.byte_at.result c.loop-at-test.true c.byte_at.ensures (sym c.if-is_escape.ensures) (sym c.if-is_plain.ensures) (eq-eqb _ _ c.if-first-eq39.true))

pub returns-else-first-eq39-clause-value : goal.returns-else-first-eq39-clause-value
returns-else-first-eq39-clause-value c =
    sym (c.loop-at.invariant ∙ at_refused _ _ c.byte_at.result c.loop-at-test.true c.byte_at.ensures (sym c.if-is_escape.ensures) (sym c.if-is_plain.ensures) (ne_eqb _ _ c.if-first-eq39.false))
