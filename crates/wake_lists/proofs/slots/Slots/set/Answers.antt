use Rattle.std.proofs.Common.{true, Some, is_some, sym, ap, ◌∙◌, arith}
use Rattle.wake_lists.proofs.Filled.{found_in, has_slot, counted_at, put_in_slot}
use Rattle.wake_lists.proofs.slots.Slots.set.Goals as goal

pub index_mut-requires : goal.index_mut-requires
index_mut-requires g c =
    let within = has_slot c.self.inside.slots.items c.args.token (rw (← c.self.view_is) at c.requires.there) in
    omega arith

pub invariant_of-self : goal.invariant_of-self
invariant_of-self g c =
    let there = rw (← c.self.view_is) at c.requires.there in
    let within = has_slot c.self.inside.slots.items c.args.token there in
    let counted = counted_at c.self.inside.slots.items c.args.token true (Some c.args.value) (sym (ap is_some (found_in c.self.inside.slots.items c.args.token)) ∙ there) within in
    omega arith

pub returns : goal.returns
returns g c =
    let there = rw (← c.self.view_is) at c.requires.there in
    record {
      put = rw (← c.self.view_is) (put_in_slot c.self.inside.slots.items c.args.token c.args.value (has_slot c.self.inside.slots.items c.args.token there));
    }
