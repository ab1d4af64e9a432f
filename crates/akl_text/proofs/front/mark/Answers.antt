use Rattle.std.proofs.Common.{refl, sym, ◌∙◌}
use Rattle.akl_text.specs.Computed.{mark_at}
use Rattle.akl_text.proofs.Rests.{rest_whole}
use Rattle.akl_text.proofs.front.mark.Goals as goal

pub returns-in-40 : goal.returns-in-40
unfolding mark_at
returns-in-40 c = rw (sym c.byte_at.ensures ∙ c.in-40.is, sym c.opens_call.ensures ∙ c.if-opens_call.true) refl

pub returns-in-40-2 : goal.returns-in-40-2
unfolding mark_at
returns-in-40-2 c = rw (sym c.byte_at.ensures ∙ c.in-40.is, sym c.opens_call.ensures ∙ c.if-opens_call.false) refl

pub returns-in-46 : goal.returns-in-46
unfolding mark_at
returns-in-46 c = rw (sym c.byte_at.ensures ∙ c.in-46.is, sym (rw (rest_whole 1 c.args.text.now) at c.ends_clause.ensures) ∙ c.if-ends_clause.true) refl

pub returns-in_ok-quoted_len-in-39 : goal.returns-in_ok-quoted_len-in-39
unfolding mark_at
returns-in_ok-quoted_len-in-39 c = rw (sym c.byte_at.ensures ∙ c.in-39.is, ← rw (rest_whole 1 c.args.text.now) at c.in_ok-quoted_len-in-39.ensures.value) refl

pub returns-in_err-quoted_len-in-39 : goal.returns-in_err-quoted_len-in-39
unfolding mark_at
returns-in_err-quoted_len-in-39 c = rw (sym c.byte_at.ensures ∙ c.in-39.is, ← rw (rest_whole 1 c.args.text.now) at c.in_err-quoted_len-in-39.ensures.value) c.from_residual.ensures
