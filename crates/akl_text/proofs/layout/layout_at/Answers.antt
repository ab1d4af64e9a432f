use Rattle.std.proofs.Common.{◌≡◌, ◌+◌, Some, true, refl, sym, ap, ◌∙◌}
use Rattle.std.specs.Prelude.{slice_index}
use Rattle.akl_text.specs.Bytes.{is_blank}
use Rattle.akl_text.specs.Computed.{layout_at}
use Rattle.akl_text.proofs.Rests.{rest_whole}
use Rattle.akl_text.proofs.layout.layout_at.Goals as goal

pub returns-then-is_blank : goal.returns-then-is_blank
unfolding layout_at
returns-then-is_blank c =
    let blank : is_blank (slice_index c.args.text.now 0) ≡ true = ap is_blank (sym c.byte_at-first.ensures) ∙ sym c.is_blank.ensures ∙ c.if-is_blank.true in
    rw blank refl

pub returns-then-first-eq37 : goal.returns-then-first-eq37
unfolding layout_at
returns-then-first-eq37 c = rw (sym c.byte_at-first.ensures ∙ c.if-first-eq37.true) (ap (λ n. Some (1 + n)) (rw (rest_whole 1 c.args.text.now) at c.line_len.ensures.value))

pub returns-in_err-block_len : goal.returns-in_err-block_len
unfolding layout_at
returns-in_err-block_len c =
    rw (sym c.byte_at-first.ensures ∙ c.if-first-eq47.true, sym c.byte_at.ensures ∙ c.if-byte_at-eq42.true, ← rw (rest_whole 2 c.args.text.now) at c.in_err-block_len.ensures.value) c.from_residual.ensures

pub returns-then-byte_at-eq42 : goal.returns-then-byte_at-eq42
unfolding layout_at
returns-then-byte_at-eq42 c =
    rw (sym c.byte_at-first.ensures ∙ c.if-first-eq47.true, sym c.byte_at.ensures ∙ c.if-byte_at-eq42.true, ← rw (rest_whole 2 c.args.text.now) at c.in_ok-block_len.ensures.value) refl
