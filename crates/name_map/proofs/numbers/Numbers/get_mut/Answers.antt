use Rattle.std.proofs.Common.{◌/◌, ◌%◌, Some, refl, sym, ap, ◌∙◌}
use Rattle.std.specs.Option.{option_copied_mut, ghost_name_of}
use Rattle.name_map.specs.Pages.{in_slot, in_page, in_chunk}
use Rattle.name_map.proofs.Lent.{on_none, on_any}
use Rattle.name_map.proofs.Within.{within_kept, no_chunk, at_chunk, no_page, at_page, no_slot, at_slot, slots_put, pages_put, chunks_put}
use Rattle.name_map.proofs.numbers.Numbers.get_mut.Goals as goal

pub returns-in_err-chunk : goal.returns-in_err-chunk
returns-in_err-chunk g c = (
  (sym (ap ghost_name_of c.from_residual.ensures), (λ w. on_none _ c.from_residual.result c.from_residual.ensures), λ n. refl),
  record { writes_back = tt; value = ap option_copied_mut c.from_residual.ensures ∙ sym (no_chunk c.args.number c.chunk_of.result c.chunk_of.ensures c.args.self.now c.args.self.now.chunks.items refl c.in_err-chunk.ensures.item.3) },
)

pub returns-in_err-page : goal.returns-in_err-page
returns-in_err-page g c = (
  (sym (ap ghost_name_of c.from_residual-in_err-page.ensures), (λ w. on_none _ c.from_residual-in_err-page.result c.from_residual-in_err-page.ensures), λ n. within_kept (in_chunk n) c.args.self.now.chunks.items c.chunk_of.result (n / 512) c.in_ok-chunk.chunk.now _ c.in_ok-chunk.ensures.item.3.0 c.in_ok-chunk.ensures.item.3.1 refl),
  record { writes_back = tt; value = ap option_copied_mut c.from_residual-in_err-page.ensures ∙ sym (at_chunk c.args.number c.chunk_of.result c.chunk_of.ensures c.args.self.now c.args.self.now.chunks.items c.in_ok-chunk.chunk.now refl c.in_ok-chunk.ensures.item.3.0 c.in_ok-chunk.ensures.item.3.1 ∙ no_page c.args.number c.page_of.result c.page_of.ensures c.in_ok-chunk.chunk.now c.in_ok-chunk.chunk.now.pages.items refl c.in_err-page.ensures.item.3) },
)

pub returns-in_err-self : goal.returns-in_err-self
returns-in_err-self g c = (
  (sym (ap ghost_name_of c.from_residual-in_err-self.ensures), (λ w. on_none _ c.from_residual-in_err-self.result c.from_residual-in_err-self.ensures), λ n. within_kept (in_chunk n) c.args.self.now.chunks.items c.chunk_of.result (n / 512) c.in_ok-chunk.chunk.now _ c.in_ok-chunk.ensures.item.3.0 c.in_ok-chunk.ensures.item.3.1 (within_kept (in_page n) c.in_ok-chunk.chunk.now.pages.items c.page_of.result (n / 8 % 64) c.in_ok-page.page.now _ c.in_ok-page.ensures.item.3.0 c.in_ok-page.ensures.item.3.1 refl)),
  record { writes_back = tt; value = ap option_copied_mut c.from_residual-in_err-self.ensures ∙ sym (at_chunk c.args.number c.chunk_of.result c.chunk_of.ensures c.args.self.now c.args.self.now.chunks.items c.in_ok-chunk.chunk.now refl c.in_ok-chunk.ensures.item.3.0 c.in_ok-chunk.ensures.item.3.1 ∙ at_page c.args.number c.page_of.result c.page_of.ensures c.in_ok-chunk.chunk.now c.in_ok-chunk.chunk.now.pages.items c.in_ok-page.page.now refl c.in_ok-page.ensures.item.3.0 c.in_ok-page.ensures.item.3.1 ∙ no_slot c.args.number c.slot_of.result c.slot_of.ensures c.in_ok-page.page.now c.in_ok-page.page.now.slots.items refl c.in_err-self.ensures.item.3) },
)

pub returns : goal.returns
returns g c = (
  (
    refl,
    (λ w. on_any c.as_mut.result (chunks_put c.args.number c.chunk_of.result c.page_of.result c.slot_of.result c.chunk_of.ensures c.page_of.ensures c.slot_of.ensures (Some w) c.args.self.now.chunks.items c.in_ok-chunk.chunk.now _ c.in_ok-chunk.ensures.item.3.0 c.in_ok-chunk.ensures.item.3.1
        (pages_put c.args.number c.chunk_of.result c.page_of.result c.slot_of.result c.chunk_of.ensures c.page_of.ensures c.slot_of.ensures (Some w) c.in_ok-chunk.chunk.now.pages.items c.in_ok-page.page.now _ c.in_ok-page.ensures.item.3.0 c.in_ok-page.ensures.item.3.1
        (slots_put c.args.number c.chunk_of.result c.page_of.result c.slot_of.result c.chunk_of.ensures c.page_of.ensures c.slot_of.ensures (Some w) c.in_ok-page.page.now.slots.items c.in_ok-self.ensures.item.3.0)))),
    λ n. within_kept (in_chunk n) c.args.self.now.chunks.items c.chunk_of.result (n / 512) c.in_ok-chunk.chunk.now _ c.in_ok-chunk.ensures.item.3.0 c.in_ok-chunk.ensures.item.3.1 (within_kept (in_page n) c.in_ok-chunk.chunk.now.pages.items c.page_of.result (n / 8 % 64) c.in_ok-page.page.now _ c.in_ok-page.ensures.item.3.0 c.in_ok-page.ensures.item.3.1 (within_kept in_slot c.in_ok-page.page.now.slots.items c.slot_of.result (n % 8) c.in_ok-self.field-0.now _ c.in_ok-self.ensures.item.3.0 c.in_ok-self.ensures.item.3.1 refl)),
  ),
  record { writes_back = tt; value = c.as_mut.ensures.value ∙ sym (at_chunk c.args.number c.chunk_of.result c.chunk_of.ensures c.args.self.now c.args.self.now.chunks.items c.in_ok-chunk.chunk.now refl c.in_ok-chunk.ensures.item.3.0 c.in_ok-chunk.ensures.item.3.1 ∙ at_page c.args.number c.page_of.result c.page_of.ensures c.in_ok-chunk.chunk.now c.in_ok-chunk.chunk.now.pages.items c.in_ok-page.page.now refl c.in_ok-page.ensures.item.3.0 c.in_ok-page.ensures.item.3.1 ∙ at_slot c.args.number c.slot_of.result c.slot_of.ensures c.in_ok-page.page.now c.in_ok-page.page.now.slots.items c.in_ok-self.field-0.now refl c.in_ok-self.ensures.item.3.0 c.in_ok-self.ensures.item.3.1) },
)
