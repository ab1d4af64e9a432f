use Rattle.std.proofs.Common.{◌%◌, List, Option, ap, ◌∙◌}
use Rattle.name_map.specs.declared.page.Page.{Page}
use Rattle.name_map.specs.Pages.{within, in_slot, in_page}
use Rattle.name_map.proofs.Within.{within_push}
use Rattle.name_map.proofs.page.make_pages.Goals as goal

pub loop-alloc-init : goal.loop-alloc-init
loop-alloc-init g c = λ n i. ap (λ (xs : List (Page g.row.V.Denot)). within (in_page n) xs i) c.in_ok-reserve_exact.ensures.items

pub loop-alloc-preserved : goal.loop-alloc-preserved
loop-alloc-preserved g c = λ n i. ap (λ (xs : List (Page g.row.V.Denot)). within (in_page n) xs i) c.in_ok-push.ensures.items
    ∙ within_push (in_page n) c.loop-alloc.pages.items i (record { slots = c.new.result }) (ap (λ (xs : List (Option g.row.V.Denot)). within in_slot xs (n % 8)) c.new.ensures.items) ∙ c.loop-alloc.invariant n i
