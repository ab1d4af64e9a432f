use Rattle.std.proofs.Common.{◌/◌, ◌%◌}
use Rattle.name_map.specs.Pages.{in_page}
use Rattle.name_map.proofs.Within.{within_kept}
use Rattle.name_map.proofs.page.Chunk.free_one.Goals as goal

pub returns-in-Some : goal.returns-in-Some
returns-in-Some g c = λ n. within_kept (in_page n) c.args.self.now.pages.items c.args.index (n / 8 % 64) c.in-Some.page.now _ c.in-Some.ensures.item.3.0 c.in-Some.ensures.item.3.1 (c.free.ensures n)
