use Rattle.std.proofs.Common.{◌<◌, ◌/◌, Option, Some, length, ap, ◌∙◌, arith}
use Rattle.std.specs.Prelude.{if◌then◌else◌}
use Rattle.std.proofs.lemmas.List.{get_or_default}
use Rattle.name_map.specs.Pages.{in_chunk}
use Rattle.name_map.proofs.Lent.{on_ok_map, on_err_map}
use Rattle.name_map.proofs.Within.{within_kept, numbers_puts}
use Rattle.name_map.proofs.numbers.Numbers.insert.Goals as goal
use lib.Dec.{eqb}

pub returns-clause-put : goal.returns-clause-put
returns-clause-put g c =
    let chunks = c.make_chunks.new.chunks.items in
    let within : c.chunk_of-2.result < length c.make_chunks.new.chunks.items = omega (arith, c.in_ok-make_chunks.ensures.there, c.chunk_of.ensures, c.chunk_of-2.ensures) in
    on_ok_map c.insert.result (λ put n. numbers_puts c.args.number (Some c.args.value) c.chunk_of-2.result c.chunk_of-2.ensures c.begin_page.new.self chunks c.index_mut.result.now c.insert.new.self within (λ d. c.index_mut.ensures.value ∙ get_or_default chunks c.chunk_of-2.result c.index_mut.result.now d within) c.in_ok-make_chunks.ensures.same put n ∙ ap (λ (o : Option g.row.V.Denot). if eqb n c.args.number then Some c.args.value else o) (c.begin_page.ensures n)) c.insert.ensures.put

pub returns-clause-unchanged : goal.returns-clause-unchanged
returns-clause-unchanged g c =
    let chunks = c.make_chunks.new.chunks.items in
    let within : c.chunk_of-2.result < length c.make_chunks.new.chunks.items = omega (arith, c.in_ok-make_chunks.ensures.there, c.chunk_of.ensures, c.chunk_of-2.ensures) in
    on_err_map c.insert.result (λ same n. within_kept (in_chunk n) chunks c.chunk_of-2.result (n / 512) c.index_mut.result.now c.insert.new.self within (λ d. c.index_mut.ensures.value ∙ get_or_default chunks c.chunk_of-2.result c.index_mut.result.now d within) (same n) ∙ c.in_ok-make_chunks.ensures.same n (n / 512) ∙ c.begin_page.ensures n) c.insert.ensures.unchanged
