use Rattle.std.proofs.Common.{◌≡◌, ◌-◌, sym, ap, ◌∙◌, drop, length, arith}
use Rattle.std.proofs.lemmas.List.{drop_all, length-drop}
use Rattle.local_store.proofs.Steps.{drop-one}
use Rattle.local_store.proofs.settling.remove_bindings.Goals as goal

pub returns-then-many-len : goal.returns-then-many-len
returns-then-many-len c = c.clear.ensures.items ∙ sym (drop_all c.args.many c.args.bindings.now.items (omega (arith, c.if-many-len.true, c.len.ensures, c.args.bindings.now.ok)))

pub remove-requires : goal.remove-requires
remove-requires c =
    let long : length c.loop.bindings.items ≡ length c.args.bindings.now.items - c.loop.counter = ap length c.loop.invariant ∙ length-drop c.loop.counter c.args.bindings.now.items in
    omega (arith, long, c.loop-test.true, c.requires, c.loop.bindings.ok)

pub loop-preserved : goal.loop-preserved
loop-preserved c = c.remove.ensures.items ∙ ap (drop 1) c.loop.invariant ∙ drop-one c.loop.counter c.args.bindings.now.items

pub returns : goal.returns
returns c = let n : c.loop.counter ≡ c.args.many = omega (arith, c.loop-test.false, c.loop.auto.counter-end) in c.loop.invariant ∙ ap (λ k. drop k c.args.bindings.now.items) n
