use Rattle.std.proofs.Common.{◌<◌, Some, length, arith}
use Rattle.name_map.proofs.Within.{page_puts}
use Rattle.name_map.proofs.page.Page.insert.Goals as goal

pub returns-clause-put : goal.returns-clause-put
returns-clause-put g c =
    let within : c.slot_of.result < length c.begin_slots.new.slots.items = omega (arith, c.in_ok-begin_slots.ensures.there, c.slot_of.ensures) in
    page_puts c.args.number (Some c.args.value) c.slot_of.result c.slot_of.ensures c.args.self.now c.begin_slots.new.slots.items within c.in_ok-begin_slots.ensures.same
