use Rattle.std.proofs.Common.{◌/◌, ◌%◌, Option, refl, sym, ap, ◌∙◌}
use Rattle.std.specs.Prelude.{if◌then◌else◌}
use Rattle.name_map.specs.Pages.{in_page, in_chunk, in_numbers}
use Rattle.name_map.proofs.Within.{within_kept, none_put, no_chunk, at_chunk, no_page, at_page, no_slot, at_slot, slots_put, pages_put, chunks_put}
use Rattle.name_map.proofs.numbers.Numbers.take.Goals as goal
use lib.Dec.{eqb}

pub returns-in_err-chunk-clause-was : goal.returns-in_err-chunk-clause-was
returns-in_err-chunk-clause-was g c = c.from_residual.ensures ∙ sym (no_chunk c.args.number c.chunk_of.result c.chunk_of.ensures c.args.self.now c.args.self.now.chunks.items refl c.in_err-chunk.ensures.item.3)

pub returns-in_err-chunk-clause-gone : goal.returns-in_err-chunk-clause-gone
returns-in_err-chunk-clause-gone g c = none_put c.args.self.now c.args.number _ (no_chunk c.args.number c.chunk_of.result c.chunk_of.ensures c.args.self.now c.args.self.now.chunks.items refl c.in_err-chunk.ensures.item.3) (λ n. refl)

pub returns-in_err-page-clause-was : goal.returns-in_err-page-clause-was
returns-in_err-page-clause-was g c = c.from_residual-in_err-page.ensures ∙ sym (at_chunk c.args.number c.chunk_of.result c.chunk_of.ensures c.args.self.now c.args.self.now.chunks.items c.in_ok-chunk.chunk.now refl c.in_ok-chunk.ensures.item.3.0 c.in_ok-chunk.ensures.item.3.1 ∙ no_page c.args.number c.page_of.result c.page_of.ensures c.in_ok-chunk.chunk.now c.in_ok-chunk.chunk.now.pages.items refl c.in_err-page.ensures.item.3)

pub returns-in_err-page-clause-gone : goal.returns-in_err-page-clause-gone
returns-in_err-page-clause-gone g c = none_put c.args.self.now c.args.number _ (at_chunk c.args.number c.chunk_of.result c.chunk_of.ensures c.args.self.now c.args.self.now.chunks.items c.in_ok-chunk.chunk.now refl c.in_ok-chunk.ensures.item.3.0 c.in_ok-chunk.ensures.item.3.1 ∙ no_page c.args.number c.page_of.result c.page_of.ensures c.in_ok-chunk.chunk.now c.in_ok-chunk.chunk.now.pages.items refl c.in_err-page.ensures.item.3) (λ n. within_kept (in_chunk n) c.args.self.now.chunks.items c.chunk_of.result (n / 512) c.in_ok-chunk.chunk.now _ c.in_ok-chunk.ensures.item.3.0 c.in_ok-chunk.ensures.item.3.1 refl)

pub returns-in_err-get_mut-clause-was : goal.returns-in_err-get_mut-clause-was
returns-in_err-get_mut-clause-was g c = c.from_residual-in_err-get_mut.ensures ∙ sym (at_chunk c.args.number c.chunk_of.result c.chunk_of.ensures c.args.self.now c.args.self.now.chunks.items c.in_ok-chunk.chunk.now refl c.in_ok-chunk.ensures.item.3.0 c.in_ok-chunk.ensures.item.3.1 ∙ at_page c.args.number c.page_of.result c.page_of.ensures c.in_ok-chunk.chunk.now c.in_ok-chunk.chunk.now.pages.items c.in_ok-page.page.now refl c.in_ok-page.ensures.item.3.0 c.in_ok-page.ensures.item.3.1 ∙ no_slot c.args.number c.slot_of.result c.slot_of.ensures c.in_ok-page.page.now c.in_ok-page.page.now.slots.items refl c.in_err-get_mut.ensures.item.3)

pub returns-in_err-get_mut-clause-gone : goal.returns-in_err-get_mut-clause-gone
returns-in_err-get_mut-clause-gone g c = none_put c.args.self.now c.args.number _ (at_chunk c.args.number c.chunk_of.result c.chunk_of.ensures c.args.self.now c.args.self.now.chunks.items c.in_ok-chunk.chunk.now refl c.in_ok-chunk.ensures.item.3.0 c.in_ok-chunk.ensures.item.3.1 ∙ at_page c.args.number c.page_of.result c.page_of.ensures c.in_ok-chunk.chunk.now c.in_ok-chunk.chunk.now.pages.items c.in_ok-page.page.now refl c.in_ok-page.ensures.item.3.0 c.in_ok-page.ensures.item.3.1 ∙ no_slot c.args.number c.slot_of.result c.slot_of.ensures c.in_ok-page.page.now c.in_ok-page.page.now.slots.items refl c.in_err-get_mut.ensures.item.3) (λ n. within_kept (in_chunk n) c.args.self.now.chunks.items c.chunk_of.result (n / 512) c.in_ok-chunk.chunk.now _ c.in_ok-chunk.ensures.item.3.0 c.in_ok-chunk.ensures.item.3.1 (within_kept (in_page n) c.in_ok-chunk.chunk.now.pages.items c.page_of.result (n / 8 % 64) c.in_ok-page.page.now _ c.in_ok-page.ensures.item.3.0 c.in_ok-page.ensures.item.3.1 refl))

pub returns-clause-was : goal.returns-clause-was
returns-clause-was g c = c.take.ensures.value ∙ sym (at_chunk c.args.number c.chunk_of.result c.chunk_of.ensures c.args.self.now c.args.self.now.chunks.items c.in_ok-chunk.chunk.now refl c.in_ok-chunk.ensures.item.3.0 c.in_ok-chunk.ensures.item.3.1 ∙ at_page c.args.number c.page_of.result c.page_of.ensures c.in_ok-chunk.chunk.now c.in_ok-chunk.chunk.now.pages.items c.in_ok-page.page.now refl c.in_ok-page.ensures.item.3.0 c.in_ok-page.ensures.item.3.1 ∙ at_slot c.args.number c.slot_of.result c.slot_of.ensures c.in_ok-page.page.now c.in_ok-page.page.now.slots.items c.in_ok-get_mut.field-0.now refl c.in_ok-get_mut.ensures.item.3.0 c.in_ok-get_mut.ensures.item.3.1)

pub returns-clause-gone : goal.returns-clause-gone
returns-clause-gone g c = λ n. chunks_put c.args.number c.chunk_of.result c.page_of.result c.slot_of.result c.chunk_of.ensures c.page_of.ensures c.slot_of.ensures _ c.args.self.now.chunks.items c.in_ok-chunk.chunk.now _ c.in_ok-chunk.ensures.item.3.0 c.in_ok-chunk.ensures.item.3.1
    (pages_put c.args.number c.chunk_of.result c.page_of.result c.slot_of.result c.chunk_of.ensures c.page_of.ensures c.slot_of.ensures _ c.in_ok-chunk.chunk.now.pages.items c.in_ok-page.page.now _ c.in_ok-page.ensures.item.3.0 c.in_ok-page.ensures.item.3.1
    (slots_put c.args.number c.chunk_of.result c.page_of.result c.slot_of.result c.chunk_of.ensures c.page_of.ensures c.slot_of.ensures _ c.in_ok-page.page.now.slots.items c.in_ok-get_mut.ensures.item.3.0)) n
    ∙ ap (λ (o : Option g.row.V.Denot). if eqb n c.args.number then o else in_numbers n c.args.self.now) c.take.ensures.after
