use Rattle.std.proofs.Common.{option_copied, sym, ap, ◌∙◌}
use Rattle.name_map.proofs.Within.{no_chunk, at_chunk, no_page, at_page, no_slot, at_slot}
use Rattle.name_map.proofs.numbers.Numbers.get.Goals as goal

pub returns-in_err-chunk : goal.returns-in_err-chunk
returns-in_err-chunk g c = ap option_copied c.from_residual.ensures ∙ sym (no_chunk c.args.number c.chunk_of.result c.chunk_of.ensures c.args.self.now c.deref.result.now c.deref.ensures.value c.in_err-chunk.ensures.lookup.3)

pub returns-in_err-page : goal.returns-in_err-page
returns-in_err-page g c = ap option_copied c.from_residual-in_err-page.ensures
    ∙ sym (at_chunk c.args.number c.chunk_of.result c.chunk_of.ensures c.args.self.now c.deref.result.now c.in_ok-chunk.chunk.now c.deref.ensures.value c.in_ok-chunk.ensures.lookup.3.0 c.in_ok-chunk.ensures.lookup.3.1
    ∙ no_page c.args.number c.page_of.result c.page_of.ensures c.in_ok-chunk.chunk.now c.deref-2.result.now c.deref-2.ensures.value c.in_err-page.ensures.lookup.3)

pub returns-in_err-get : goal.returns-in_err-get
returns-in_err-get g c = ap option_copied c.from_residual-in_err-get.ensures
    ∙ sym (at_chunk c.args.number c.chunk_of.result c.chunk_of.ensures c.args.self.now c.deref.result.now c.in_ok-chunk.chunk.now c.deref.ensures.value c.in_ok-chunk.ensures.lookup.3.0 c.in_ok-chunk.ensures.lookup.3.1
    ∙ at_page c.args.number c.page_of.result c.page_of.ensures c.in_ok-chunk.chunk.now c.deref-2.result.now c.in_ok-page.page.now c.deref-2.ensures.value c.in_ok-page.ensures.lookup.3.0 c.in_ok-page.ensures.lookup.3.1
    ∙ no_slot c.args.number c.slot_of.result c.slot_of.ensures c.in_ok-page.page.now c.deref-3.result.now c.deref-3.ensures.value c.in_err-get.ensures.lookup.3)

pub returns : goal.returns
returns g c = c.as_ref.ensures.value
    ∙ sym (at_chunk c.args.number c.chunk_of.result c.chunk_of.ensures c.args.self.now c.deref.result.now c.in_ok-chunk.chunk.now c.deref.ensures.value c.in_ok-chunk.ensures.lookup.3.0 c.in_ok-chunk.ensures.lookup.3.1
    ∙ at_page c.args.number c.page_of.result c.page_of.ensures c.in_ok-chunk.chunk.now c.deref-2.result.now c.in_ok-page.page.now c.deref-2.ensures.value c.in_ok-page.ensures.lookup.3.0 c.in_ok-page.ensures.lookup.3.1
    ∙ at_slot c.args.number c.slot_of.result c.slot_of.ensures c.in_ok-page.page.now c.deref-3.result.now c.in_ok-get.field-0.now c.deref-3.ensures.value c.in_ok-get.ensures.lookup.3.0 c.in_ok-get.ensures.lookup.3.1)
