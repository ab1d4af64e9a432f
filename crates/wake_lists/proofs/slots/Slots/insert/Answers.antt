use Rattle.std.proofs.Common.{ℕ, ◌<◌, true, false, List, length, set, None, Some, is_some, sym, ap, ◌∙◌, arith, subst}
use Rattle.std.proofs.lemmas.List.{get_or_default, length-set}
use Rattle.std.specs.Prelude.{not}
use Rattle.wake_lists.specs.Slots.{filled, IsPut}
use Rattle.wake_lists.proofs.Filled.{counted_at, fewer, put_in_slot}
use Rattle.wake_lists.proofs.slots.Slots.insert.Goals as goal

pub overflow_add-self : goal.overflow_add-self
overflow_add-self g c =
    let within : c.args.token < length c.fill.new.slots.items = omega (arith, c.in_ok-fill.ensures.there) in
    let is = get_or_default c.fill.new.slots.items c.args.token None c.index_mut.result.now within ∙ sym c.index_mut.ensures.value ∙ sym c.replace.ensures.value in
    let counted = counted_at c.fill.new.slots.items c.args.token false (Some c.args.value) (ap is_some is ∙ c.is_none.ensures ∙ ap not c.if-is_none.true) within in
    let before = ap length c.in_ok-fill.ensures.same in
    let most = fewer (set c.fill.new.slots.items c.args.token (Some c.args.value)) in
    let many = length-set c.fill.new.slots.items c.args.token (Some c.args.value) in
    omega arith

pub invariant_of-self-then-is_none : goal.invariant_of-self-then-is_none
invariant_of-self-then-is_none g c =
    let within : c.args.token < length c.fill.new.slots.items = omega (arith, c.in_ok-fill.ensures.there) in
    let is = get_or_default c.fill.new.slots.items c.args.token None c.index_mut.result.now within ∙ sym c.index_mut.ensures.value ∙ sym c.replace.ensures.value in
    let counted = counted_at c.fill.new.slots.items c.args.token false (Some c.args.value) (ap is_some is ∙ c.is_none.ensures ∙ ap not c.if-is_none.true) within in
    let before = ap length c.in_ok-fill.ensures.same in
    rw c.replace.ensures.after (omega arith)

pub invariant_of-self-else-is_none : goal.invariant_of-self-else-is_none
invariant_of-self-else-is_none g c =
    let within : c.args.token < length c.fill.new.slots.items = omega (arith, c.in_ok-fill.ensures.there) in
    let is = get_or_default c.fill.new.slots.items c.args.token None c.index_mut.result.now within ∙ sym c.index_mut.ensures.value ∙ sym c.replace.ensures.value in
    let counted = counted_at c.fill.new.slots.items c.args.token true (Some c.args.value) (ap is_some is ∙ c.is_none.ensures ∙ ap not c.if-is_none.false) within in
    let before = ap length c.in_ok-fill.ensures.same in
    rw c.replace.ensures.after (omega arith)

pub returns-then-is_none-clause-put : goal.returns-then-is_none-clause-put
returns-then-is_none-clause-put g c =
    let within : c.args.token < length c.fill.new.slots.items = omega (arith, c.in_ok-fill.ensures.there) in
    rw c.replace.ensures.after (subst (λ (es : List (ℕ × g.row.V.Denot)). IsPut es (filled (set c.fill.new.slots.items c.args.token (Some c.args.value))) c.args.token c.args.value) (c.in_ok-fill.ensures.same ∙ c.self.view_is)
    (put_in_slot c.fill.new.slots.items c.args.token c.args.value within))

pub returns-else-is_none-clause-put : goal.returns-else-is_none-clause-put
returns-else-is_none-clause-put g c =
    let within : c.args.token < length c.fill.new.slots.items = omega (arith, c.in_ok-fill.ensures.there) in
    rw c.replace.ensures.after (subst (λ (es : List (ℕ × g.row.V.Denot)). IsPut es (filled (set c.fill.new.slots.items c.args.token (Some c.args.value))) c.args.token c.args.value) (c.in_ok-fill.ensures.same ∙ c.self.view_is)
    (put_in_slot c.fill.new.slots.items c.args.token c.args.value within))
