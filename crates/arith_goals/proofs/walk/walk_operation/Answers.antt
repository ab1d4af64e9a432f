use Rattle.std.proofs.Common.{◌≡◌, Some, None, sym, ◌∙◌, ap, FitsSigned, rules}
use Rattle.std.specs.Int.{w128}
use Rattle.std.proofs.lemmas.Int.{to_z-of_z}
use Rattle.akl_terms.specs.Template.{tree}
use Rattle.arith_goals.specs.declared.walk.Walked.TheVariants.{Is, Waits, Never}
use Rattle.arith_goals.specs.Answers.{at_once}
use Rattle.arith_goals.proofs.Walks.{applied-comes}
use Rattle.arith_goals.proofs.Flat.{operand-comes, operand-ends, left-obstacle, right-obstacle}
use Rattle.arith_goals.proofs.walk.walk_operation.Goals as goal

pub returns-in-Waits-clause-comes : goal.returns-in-Waits-clause-comes
returns-in-Waits-clause-comes g c = λ E f s a.
    let q : at_once c.read_expression.result ≡ Some (Waits c.in-Waits.on) = sym c.at_once.ensures ∙ c.in_ok-value.was ∙ ap Some c.in-Waits.is in
    left-obstacle c.args.templates.now (g.K.Lookup.bindings c.args.known.now) E f s c.args.of a (Waits c.in-Waits.on) (λ z e. cc)
    (operand-comes c.args.templates.now (g.K.Lookup.bindings c.args.known.now) (tree c.args.templates.now.nodes c.args.of.left) c.read_expression.result c.read_expression.ensures (Waits c.in-Waits.on) q E f)

pub returns-in-Waits-clause-end : goal.returns-in-Waits-clause-end
returns-in-Waits-clause-end g c =
    let q : at_once c.read_expression.result ≡ Some (Waits c.in-Waits.on) = sym c.at_once.ensures ∙ c.in_ok-value.was ∙ ap Some c.in-Waits.is in
    operand-ends c.args.templates.now (g.K.Lookup.bindings c.args.known.now) (tree c.args.templates.now.nodes c.args.of.left) c.read_expression.result c.read_expression.ensures (Waits c.in-Waits.on) q c.requires

pub returns-in-Never-clause-comes : goal.returns-in-Never-clause-comes
returns-in-Never-clause-comes g c = λ E f s a.
    let q : at_once c.read_expression.result ≡ Some Never = sym c.at_once.ensures ∙ c.in_ok-value.was ∙ ap Some c.in-Never.is in
    left-obstacle c.args.templates.now (g.K.Lookup.bindings c.args.known.now) E f s c.args.of a Never (λ z e. cc)
    (operand-comes c.args.templates.now (g.K.Lookup.bindings c.args.known.now) (tree c.args.templates.now.nodes c.args.of.left) c.read_expression.result c.read_expression.ensures Never q E f)

pub returns-in-Waits-2-clause-comes : goal.returns-in-Waits-2-clause-comes
returns-in-Waits-2-clause-comes g c = λ E f s a.
    let l : at_once c.read_expression.result ≡ Some (Is c.in-Is.value) = sym c.at_once.ensures ∙ c.in_ok-value.was ∙ ap Some c.in-Is.is in
    let q : at_once c.read_expression-2.result ≡ Some (Waits c.in-Waits-2.on) = sym c.at_once-2.ensures ∙ c.in_ok-value-2.was ∙ ap Some c.in-Waits-2.is in
    right-obstacle c.args.templates.now (g.K.Lookup.bindings c.args.known.now) E f s c.args.of a c.in-Is.value
    (operand-comes c.args.templates.now (g.K.Lookup.bindings c.args.known.now) (tree c.args.templates.now.nodes c.args.of.left) c.read_expression.result c.read_expression.ensures (Is c.in-Is.value) l E f)
    (Waits c.in-Waits-2.on) (λ z e. cc)
    (operand-comes c.args.templates.now (g.K.Lookup.bindings c.args.known.now) (tree c.args.templates.now.nodes c.args.of.right) c.read_expression-2.result c.read_expression-2.ensures (Waits c.in-Waits-2.on) q E f)

pub returns-in-Waits-2-clause-end : goal.returns-in-Waits-2-clause-end
returns-in-Waits-2-clause-end g c =
    let q : at_once c.read_expression-2.result ≡ Some (Waits c.in-Waits-2.on) = sym c.at_once-2.ensures ∙ c.in_ok-value-2.was ∙ ap Some c.in-Waits-2.is in
    operand-ends c.args.templates.now (g.K.Lookup.bindings c.args.known.now) (tree c.args.templates.now.nodes c.args.of.right) c.read_expression-2.result c.read_expression-2.ensures (Waits c.in-Waits-2.on) q c.requires

pub returns-in-Never-2-clause-comes : goal.returns-in-Never-2-clause-comes
returns-in-Never-2-clause-comes g c = λ E f s a.
    let l : at_once c.read_expression.result ≡ Some (Is c.in-Is.value) = sym c.at_once.ensures ∙ c.in_ok-value.was ∙ ap Some c.in-Is.is in
    let q : at_once c.read_expression-2.result ≡ Some Never = sym c.at_once-2.ensures ∙ c.in_ok-value-2.was ∙ ap Some c.in-Never-2.is in
    right-obstacle c.args.templates.now (g.K.Lookup.bindings c.args.known.now) E f s c.args.of a c.in-Is.value
    (operand-comes c.args.templates.now (g.K.Lookup.bindings c.args.known.now) (tree c.args.templates.now.nodes c.args.of.left) c.read_expression.result c.read_expression.ensures (Is c.in-Is.value) l E f)
    Never (λ z e. cc)
    (operand-comes c.args.templates.now (g.K.Lookup.bindings c.args.known.now) (tree c.args.templates.now.nodes c.args.of.right) c.read_expression-2.result c.read_expression-2.ensures Never q E f)

pub returns-in-Some-clause-comes : goal.returns-in-Some-clause-comes
returns-in-Some-clause-comes g c = λ E f s a.
    let l : at_once c.read_expression.result ≡ Some (Is c.in-Is.value) = sym c.at_once.ensures ∙ c.in_ok-value.was ∙ ap Some c.in-Is.is in
    let q : at_once c.read_expression-2.result ≡ Some (Is c.in-Is-2.value) = sym c.at_once-2.ensures ∙ c.in_ok-value-2.was ∙ ap Some c.in-Is-2.is in
    let x : FitsSigned w128 c.in-Is.value = search rules in
    let y : FitsSigned w128 c.in-Is-2.value = search rules in
    let z : FitsSigned w128 c.in-Some.value = search rules in
    let d = rw (to_z-of_z w128 c.in-Is.value x, to_z-of_z w128 c.in-Is-2.value y) at c.calculate.ensures in
    rw (to_z-of_z w128 c.in-Some.value z) (applied-comes c.args.templates.now (g.K.Lookup.bindings c.args.known.now) E f s c.args.of c.in-Is.value c.in-Is-2.value a
    (operand-comes c.args.templates.now (g.K.Lookup.bindings c.args.known.now) (tree c.args.templates.now.nodes c.args.of.left) c.read_expression.result c.read_expression.ensures (Is c.in-Is.value) l E f)
    (operand-comes c.args.templates.now (g.K.Lookup.bindings c.args.known.now) (tree c.args.templates.now.nodes c.args.of.right) c.read_expression-2.result c.read_expression-2.ensures (Is c.in-Is-2.value) q E f)
    (Some c.in-Some.value) (sym d ∙ c.in-Some.is))

pub returns-in-None-clause-comes : goal.returns-in-None-clause-comes
returns-in-None-clause-comes g c = λ E f s a.
    let l : at_once c.read_expression.result ≡ Some (Is c.in-Is.value) = sym c.at_once.ensures ∙ c.in_ok-value.was ∙ ap Some c.in-Is.is in
    let q : at_once c.read_expression-2.result ≡ Some (Is c.in-Is-2.value) = sym c.at_once-2.ensures ∙ c.in_ok-value-2.was ∙ ap Some c.in-Is-2.is in
    let x : FitsSigned w128 c.in-Is.value = search rules in
    let y : FitsSigned w128 c.in-Is-2.value = search rules in
    let d = rw (to_z-of_z w128 c.in-Is.value x, to_z-of_z w128 c.in-Is-2.value y) at c.calculate.ensures in
    applied-comes c.args.templates.now (g.K.Lookup.bindings c.args.known.now) E f s c.args.of c.in-Is.value c.in-Is-2.value a
    (operand-comes c.args.templates.now (g.K.Lookup.bindings c.args.known.now) (tree c.args.templates.now.nodes c.args.of.left) c.read_expression.result c.read_expression.ensures (Is c.in-Is.value) l E f)
    (operand-comes c.args.templates.now (g.K.Lookup.bindings c.args.known.now) (tree c.args.templates.now.nodes c.args.of.right) c.read_expression-2.result c.read_expression-2.ensures (Is c.in-Is-2.value) q E f)
    None (sym d ∙ c.in-None.is)
