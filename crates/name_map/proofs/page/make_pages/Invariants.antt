use Rattle.std.proofs.Common.{◌≡◌, ℕ, ◌-◌, length}
use Rattle.name_map.specs.Pages.{within, in_page}
use Rattle.name_map.proofs.page.make_pages.Given as goal

abbrev pub invariant-loop-alloc : goal.invariant-loop-alloc
invariant-loop-alloc g l = (n i : ℕ) → within (in_page n) l.pages.items i ≡ within (in_page n) l.fn.pages.items i

abbrev pub decreases-loop-alloc : goal.decreases-loop-alloc
decreases-loop-alloc g l = 64 - length l.pages.items
