use Rattle.std.proofs.Common.{◌/◌}
use Rattle.name_map.specs.Pages.{in_chunk}
use Rattle.name_map.proofs.Within.{within_kept}
use Rattle.name_map.proofs.numbers.Numbers.free_page.Goals as goal

pub returns-in-Some : goal.returns-in-Some
returns-in-Some g c = λ n. within_kept (in_chunk n) c.args.self.now.chunks.items (c.args.page / 64) (n / 512) c.in-Some.chunk.now _ c.in-Some.ensures.item.3.0 c.in-Some.ensures.item.3.1 (c.free_page.ensures n)
