use Rattle.std.proofs.Common.{◌≡◌, refl, ◌∙◌, take, length, arith, ◌+◌}
use Rattle.std.proofs.lemmas.Bool.Decides.{nat_tests}
use Rattle.rational_unify.proofs.FormLaws.{half-starts, half-goes, half-clashes, half-ends, half-whole, bound-told}
use Rattle.rational_unify.proofs.OlderEnds.{EachOlder-at}
use Rattle.rational_unify.proofs.Taking.{nothing, take-next, take-all, get-index, past}
use Rattle.rational_unify.proofs.form.Form.take.Goals as goal

pub loop-binding-init : goal.loop-binding-init
loop-binding-init g c = (refl, rw c.new-pending.ensures.items (half-starts _ _ _ _ c.requires), λ e o. o)

pub loop-binding-preserved : goal.loop-binding-preserved
loop-binding-preserved g c = (
  c.take_one.ensures.known ∙ c.loop-binding.invariant.0,
  rw (take-next c.args.bindings.now c.loop-binding.binding-index (c.loop-binding.binding-index + 1) past c.loop-binding-test.true (omega arith))
      (half-goes c.args.templates.now.nodes (g.K.Lookup.bindings c.args.self.now.known.now) c.args.self.now.added c.loop-binding.self.added c.take_one.new.self.added
      c.loop-binding.pending.items c.take_one.new.pending.items c.args.bindings.now (take c.loop-binding.binding-index c.args.bindings.now) _ _ c.loop-binding.invariant.1
      (bound-told c.args.templates.now.nodes c.args.bindings.now c.loop-binding.binding-index _ (get-index c.args.bindings.now c.loop-binding.binding-index past c.loop-binding-test.true))
      (rw c.loop-binding.invariant.0 at c.in_ok-take_one.ensures.taken)),
  λ e o. rw c.loop-binding.invariant.0 at c.in_ok-take_one.ensures.older
      (EachOlder-at c.args.templates.now.nodes c.args.bindings.now c.loop-binding.binding-index _ e (get-index c.args.bindings.now c.loop-binding.binding-index past c.loop-binding-test.true))
      (c.loop-binding.invariant.2 e o),
)

pub returns-in-Clash-clause-taken : goal.returns-in-Clash-clause-taken
returns-in-Clash-clause-taken g c =
    let all : take c.loop-binding.binding-index c.args.bindings.now ≡ c.args.bindings.now = take-all c.args.bindings.now c.loop-binding.binding-index
    (let a = c.loop-binding.auto.binding-index-end in let b = c.loop-binding-test.false in omega arith) in
    half-clashes c.args.templates.now.nodes (g.K.Lookup.bindings c.args.self.now.known.now) c.args.self.now.added c.loop-binding.self.added c.loop-binding.pending.items c.args.bindings.now
    (rw all at c.loop-binding.invariant.1) c.in-Clash.left c.in-Clash.right
    (rw (c.loop-binding.invariant.0, c.in-Clash.is, c.as_slice.ensures) at c.in_ok-left.ensures.solves)

pub returns-clause-taken : goal.returns-clause-taken
returns-clause-taken g c =
    let all : take c.loop-binding.binding-index c.args.bindings.now ≡ c.args.bindings.now = take-all c.args.bindings.now c.loop-binding.binding-index
    (let a = c.loop-binding.auto.binding-index-end in let b = c.loop-binding-test.false in omega arith) in
    rw (c.in_ok-add-in-Added.ensures.added, c.as_slice-in-Added.ensures)
    (half-ends c.args.templates.now.nodes (g.K.Lookup.bindings c.args.self.now.known.now) c.args.self.now.added c.loop-binding.self.added c.loop-binding.pending.items c.args.bindings.now
    (rw all at c.loop-binding.invariant.1) c.in-Added.more
    (rw (c.loop-binding.invariant.0, c.in-Added.is, c.as_slice.ensures) at c.in_ok-left.ensures.solves))

pub returns-then-is_empty-clause-taken : goal.returns-then-is_empty-clause-taken
returns-then-is_empty-clause-taken g c =
    let all : take c.loop-binding.binding-index c.args.bindings.now ≡ c.args.bindings.now = take-all c.args.bindings.now c.loop-binding.binding-index
    (let a = c.loop-binding.auto.binding-index-end in let b = c.loop-binding-test.false in omega arith) in
    half-whole c.args.templates.now.nodes (g.K.Lookup.bindings c.args.self.now.known.now) c.args.self.now.added c.loop-binding.self.added c.loop-binding.pending.items c.args.bindings.now
    (rw all at c.loop-binding.invariant.1) (nothing c.loop-binding.pending.items empty)
  where
    empty : length c.loop-binding.pending.items ≡ 0
    empty = grind (arith, nat_tests, c.is_empty.ensures, c.if-is_empty.true)
