use Rattle.std.proofs.Common.{◌/◌, List, ap, ◌∙◌}
use Rattle.name_map.specs.declared.page.Chunk.{Chunk}
use Rattle.name_map.specs.declared.numbers.Numbers.{Numbers}
use Rattle.name_map.specs.Pages.{within, in_chunk, in_numbers, value_at}
use Rattle.name_map.proofs.Within.{within_push}
use Rattle.name_map.proofs.map.make_workers.Goals as goal

pub loop-alloc-preserved : goal.loop-alloc-preserved
loop-alloc-preserved g c = λ m. ap (λ (xs : List (Numbers g.row.V.Denot)). value_at xs m) c.in_ok-push.ensures.items
    ∙ within_push (in_numbers m.number) c.loop-alloc.workers.items m.worker (record { chunks = c.new.result; newest = 0; spare = c.new-in-loop-alloc.result }) (ap (λ (xs : List (Chunk g.row.V.Denot)). within (in_chunk m.number) xs (m.number / 512)) c.new.ensures.items)
    ∙ c.loop-alloc.invariant m
