use Rattle.std.proofs.Common.{◌<◌, ◌/◌, ◌%◌, Some, length, ◌∙◌, arith}
use Rattle.std.proofs.lemmas.List.{get_or_default}
use Rattle.name_map.specs.Pages.{in_page}
use Rattle.name_map.proofs.Lent.{on_ok_map, on_err_map}
use Rattle.name_map.proofs.Within.{within_kept, chunk_puts}
use Rattle.name_map.proofs.page.Chunk.insert.Goals as goal

pub returns-clause-put : goal.returns-clause-put
returns-clause-put g c =
    let pages = c.make_pages.new.pages.items in
    let within : c.page_of.result < length c.make_pages.new.pages.items = omega (arith, c.in_ok-make_pages.ensures.there, c.page_of.ensures) in
    on_ok_map c.insert.result (chunk_puts c.args.number (Some c.args.value) c.page_of.result c.page_of.ensures c.args.self.now pages c.index_mut.result.now c.insert.new.self within (λ d. c.index_mut.ensures.value ∙ get_or_default pages c.page_of.result c.index_mut.result.now d within) c.in_ok-make_pages.ensures.same) c.insert.ensures.put

pub returns-clause-unchanged : goal.returns-clause-unchanged
returns-clause-unchanged g c =
    let pages = c.make_pages.new.pages.items in
    let within : c.page_of.result < length c.make_pages.new.pages.items = omega (arith, c.in_ok-make_pages.ensures.there, c.page_of.ensures) in
    on_err_map c.insert.result (λ same n. within_kept (in_page n) pages c.page_of.result (n / 8 % 64) c.index_mut.result.now c.insert.new.self within (λ d. c.index_mut.ensures.value ∙ get_or_default pages c.page_of.result c.index_mut.result.now d within) (same n) ∙ c.in_ok-make_pages.ensures.same n (n / 8 % 64)) c.insert.ensures.unchanged
