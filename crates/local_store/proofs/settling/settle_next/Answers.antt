use Rattle.std.proofs.Common.{◌+◌, ◌-◌, ◌<◌, ◌≤◌, length, take, drop, sym, ap, subst, ◌∙◌, arith}
use Rattle.std.proofs.lemmas.List.{length-take-le, take_rest}
use Rattle.local_store.specs.Stored.{joins}
use Rattle.local_store.specs.Kept.{bindings_of, run_of, AreOf}
use Rattle.local_store.proofs.Places.{run-some, run-is_of, run-within}
use Rattle.local_store.proofs.Steps.{joins-drop}
use Rattle.local_store.proofs.settling.settle_next.Goals as goal

pub slice_bounds-put-end : goal.slice_bounds-put-end
slice_bounds-put-end c =
    let rest = take_rest c.args.bindings.now c.args.first in
    let within = run-within c.args.bindings.now c.args.frame c.args.first c.run_of-many.result c.requires (c.run_of-many.ensures ∙ ap (λ l. run_of l c.args.frame) rest) in
    sym (length-take-le c.run_of-many.result (take (length c.args.bindings.now - c.args.first) (drop c.args.first c.args.bindings.now)) (subst (λ l. c.run_of-many.result ≤ length l) (sym rest) within.0))

pub put-requires : goal.put-requires
put-requires c =
    subst (λ k. AreOf c.args.frame (take k (take (length c.args.bindings.now - c.args.first) (drop c.args.first c.args.bindings.now)))) (sym c.run_of-many.ensures)
    (run-is_of c.args.frame (take (length c.args.bindings.now - c.args.first) (drop c.args.first c.args.bindings.now)))

pub overflow_add-result : goal.overflow_add-result
overflow_add-result c =
    let many = c.run_of-many.ensures ∙ ap (λ l. run_of l c.args.frame) (take_rest c.args.bindings.now c.args.first) in
    let within : c.args.first + c.run_of-many.result ≤ length c.args.bindings.now = (run-within c.args.bindings.now c.args.frame c.args.first c.run_of-many.result c.requires many).1 in
    omega arith

pub returns-clause-most : goal.returns-clause-most
returns-clause-most c = (run-within c.args.bindings.now c.args.frame c.args.first c.run_of-many.result c.requires (c.run_of-many.ensures ∙ ap (λ l. run_of l c.args.frame) (take_rest c.args.bindings.now c.args.first))).1

pub returns-clause-more : goal.returns-clause-more
returns-clause-more c = λ start.
    let many = c.run_of-many.ensures ∙ ap (λ l. run_of l c.args.frame) (take_rest c.args.bindings.now c.args.first) in
    let some : 0 < c.run_of-many.result = subst (λ k. 0 < k) (sym many) (run-some c.args.frame (drop c.args.first c.args.bindings.now) start) in
    omega (arith, some)

pub returns-clause-bindings : goal.returns-clause-bindings
returns-clause-bindings c =
    ap (λ l. joins l (drop (c.args.first + c.run_of-many.result) c.args.bindings.now))
    (c.in_ok-put.ensures.bindings ∙ ap (λ l. joins (bindings_of c.args.settled.now) (take c.run_of-many.result l)) (take_rest c.args.bindings.now c.args.first))
    ∙ joins-drop (bindings_of c.args.settled.now) c.args.bindings.now c.args.first c.run_of-many.result
