use Rattle.std.proofs.Common.{◌≡◌, length, map, take, ◌∙◌, ap, arith}
use Rattle.std.proofs.lemmas.List.{take_all, length-map}
use Rattle.akl_terms.specs.declared.term.Node.{Node}
use Rattle.clause_store.proofs.VariableNodes.{variables_after}
use Rattle.clause_store.proofs.variables.put_variables.Goals as goal

pub push-requires-2-clause-group : goal.push-requires-2-clause-group
push-requires-2-clause-group c = variables_after c.args.templates.now _ (take c.loop-number.number-index c.args.numbers.now) (c.deref.ensures.value ∙ c.loop-number.invariant)

pub push-requires-2-clause-room : goal.push-requires-2-clause-room
push-requires-2-clause-room c =
    let all : take c.loop-number.number-index c.args.numbers.now ≡ c.args.numbers.now = take_all c.loop-number.number-index c.args.numbers.now (omega (arith, c.loop-number-test.false, c.loop-number.auto.number-index-end)) in
    let group = ap length (c.deref.ensures.value ∙ c.loop-number.invariant ∙ ap (map (λ n. Node.Var n)) all) ∙ length-map c.args.numbers.now (λ n. Node.Var n) in
    omega (arith, group, c.requires)

pub returns-clause-put : goal.returns-clause-put
returns-clause-put c =
    let all : take c.loop-number.number-index c.args.numbers.now ≡ c.args.numbers.now = take_all c.loop-number.number-index c.args.numbers.now (omega (arith, c.loop-number-test.false, c.loop-number.auto.number-index-end)) in
    rw (← c.deref.ensures.value ∙ c.loop-number.invariant ∙ ap (map (λ n. Node.Var n)) all) c.in_ok-first.ensures.nodes
