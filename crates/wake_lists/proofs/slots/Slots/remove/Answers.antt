use Rattle.std.proofs.Common.{true, None, is_some, sym, ap, ◌∙◌, add-zero, arith}
use Rattle.std.proofs.lemmas.List.{get_or_past}
use Rattle.wake_lists.proofs.Filled.{found_in, counted_at, taken_from_slot, not_in_slot}
use Rattle.wake_lists.proofs.slots.Slots.remove.Goals as goal

pub returns-in_err-get_mut-clause-was : goal.returns-in_err-get_mut-clause-was
returns-in_err-get_mut-clause-was g c = rw (← c.self.view_is)
    (c.from_residual.ensures ∙ sym (found_in c.self.inside.slots.items c.args.token ∙ get_or_past c.self.inside.slots.items c.args.token None c.in_err-get_mut.ensures.item.3))

pub returns-in_err-get_mut-clause-gone : goal.returns-in_err-get_mut-clause-gone
returns-in_err-get_mut-clause-gone g c = rw (← c.self.view_is) (not_in_slot c.self.inside.slots.items c.args.token c.in_err-get_mut.ensures.item.3)

pub returns-in_err-value-clause-was : goal.returns-in_err-value-clause-was
returns-in_err-value-clause-was g c = rw (← c.self.view_is)
    (c.from_residual-in_err-value.ensures ∙ c.in_err-value.ensures.value ∙ c.in_ok-get_mut.ensures.item.4 (omega arith) None ∙ sym (found_in c.self.inside.slots.items c.args.token))

pub returns-in_err-value-clause-gone : goal.returns-in_err-value-clause-gone
returns-in_err-value-clause-gone g c = rw (← c.self.view_is, c.take.ensures.after) (taken_from_slot c.self.inside.slots.items c.args.token c.in_ok-get_mut.ensures.item.3.0)

pub overflow_sub-self : goal.overflow_sub-self
overflow_sub-self g c =
    let was = ap is_some (sym (c.in_ok-value.ensures.value ∙ c.in_ok-get_mut.ensures.item.4 (omega arith) None)) in
    let counted = counted_at c.self.inside.slots.items c.args.token true None was c.in_ok-get_mut.ensures.item.3.0 in
    omega arith

pub invariant_of-self-2 : goal.invariant_of-self-2
invariant_of-self-2 g c =
    let was = ap is_some (sym (c.in_ok-value.ensures.value ∙ c.in_ok-get_mut.ensures.item.4 (omega arith) None)) in
    let counted = counted_at c.self.inside.slots.items c.args.token true None was c.in_ok-get_mut.ensures.item.3.0 in
    rw c.take.ensures.after (omega arith)

pub returns-clause-was : goal.returns-clause-was
returns-clause-was g c = rw (← c.self.view_is)
    (c.in_ok-value.ensures.value ∙ c.in_ok-get_mut.ensures.item.4 (omega arith) None ∙ sym (found_in c.self.inside.slots.items c.args.token))

pub returns-clause-gone : goal.returns-clause-gone
returns-clause-gone g c = rw (← c.self.view_is, c.take.ensures.after) (taken_from_slot c.self.inside.slots.items c.args.token c.in_ok-get_mut.ensures.item.3.0)

pub returns-clause-count : goal.returns-clause-count
returns-clause-count g c =
    let was = ap is_some (sym (c.in_ok-value.ensures.value ∙ c.in_ok-get_mut.ensures.item.4 (omega arith) None)) in
    rw (← c.self.view_is, c.take.ensures.after) (counted_at c.self.inside.slots.items c.args.token true None was c.in_ok-get_mut.ensures.item.3.0 ∙ add-zero _)
