use Rattle.std.proofs.Common.{◌≡◌, true, length, sym, ◌∙◌, rules}
use Rattle.std.specs.Prelude.{◌==◌}
use Rattle.name_map.proofs.Within.{none_in_free, none_in_empty}
use Rattle.name_map.proofs.page.take_spare.Goals as goal

pub returns-then-is_empty : goal.returns-then-is_empty
returns-then-is_empty g c =
    let empty : (length c.args.slots.now.items == 0) ≡ true = search rules in
    λ i. none_in_free c.take.result.items c.take.ensures i ∙ sym (none_in_empty c.args.slots.now.items i empty)
