use Rattle.std.proofs.Common.{◌<◌, length, rules, arith, ℕ, length-append, ◌≡◌}
use Rattle.std.specs.Fmt.{signed_decimal}
use Rattle.answer_text.proofs.Growing.{signed_decimal-some}
use Rattle.answer_lines.proofs.printer.Printer.print_integer.Goals as goal

pub returns-clause-grows : goal.returns-clause-grows
returns-clause-grows c =
    let some : 0 < length (signed_decimal c.args.value) = signed_decimal-some c.args.value in
    let text : c.as_bytes.result.now ≡ signed_decimal c.args.value = search rules in
    rw (← c.self.view_is, c.in_ok-extend_from_slice.ensures.items, text) (omega (arith, some, length-append {A = ℕ}))
