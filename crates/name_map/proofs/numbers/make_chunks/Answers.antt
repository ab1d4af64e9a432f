use Rattle.std.proofs.Common.{◌/◌, ◌%◌, List, ap, ◌∙◌}
use Rattle.name_map.specs.declared.page.Page.{Page}
use Rattle.name_map.specs.declared.page.Chunk.{Chunk}
use Rattle.name_map.specs.Pages.{within, in_page, in_chunk}
use Rattle.name_map.proofs.Within.{within_push}
use Rattle.name_map.proofs.numbers.make_chunks.Goals as goal

pub loop-alloc-preserved : goal.loop-alloc-preserved
loop-alloc-preserved g c = λ n i. ap (λ (xs : List (Chunk g.row.V.Denot)). within (in_chunk n) xs i) c.in_ok-push.ensures.items
    ∙ within_push (in_chunk n) c.loop-alloc.chunks.items i (record { pages = c.new.result }) (ap (λ (xs : List (Page g.row.V.Denot)). within (in_page n) xs (n / 8 % 64)) c.new.ensures.items) ∙ c.loop-alloc.invariant n i
