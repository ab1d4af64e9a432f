use Rattle.std.proofs.Common.{◌≡◌, ◌-◌, sym, ap, ◌∙◌, drop, length, arith}
use Rattle.std.proofs.lemmas.List.{drop_all, length-drop}
use Rattle.local_store.proofs.Steps.{drop-one}
use Rattle.local_store.proofs.settling.remove_names.Goals as goal

pub returns-then-many-len : goal.returns-then-many-len
returns-then-many-len c = c.clear.ensures.items ∙ sym (drop_all c.args.many c.args.names.now.items (omega (arith, c.if-many-len.true, c.len.ensures)))

pub remove-requires : goal.remove-requires
remove-requires c =
    let long : length c.loop.names.items ≡ length c.args.names.now.items - c.loop.counter = ap length c.loop.invariant ∙ length-drop c.loop.counter c.args.names.now.items in
    omega (arith, long, c.loop-test.true, c.requires)

pub loop-preserved : goal.loop-preserved
loop-preserved c = c.remove.ensures.items ∙ ap (drop 1) c.loop.invariant ∙ drop-one c.loop.counter c.args.names.now.items

pub returns : goal.returns
returns c = let n : c.loop.counter ≡ c.args.many = omega (arith, c.loop-test.false, c.loop.auto.counter-end) in c.loop.invariant ∙ ap (λ k. drop k c.args.names.now.items) n
