use Rattle.std.proofs.Common.{FitsSigned, rules}
use Rattle.std.specs.Int.{w128}
use Rattle.std.proofs.lemmas.Int.{to_z-of_z}
use Rattle.akl_terms.specs.Equal.{IsTold}
use Rattle.akl_terms.specs.Template.{tree}
use Rattle.akl_terms.specs.Arithmetic.{compared, left_side, right_side}
use Rattle.rational_unify.proofs.FormLaws.{form-consistent}
use Rattle.arith_goals.proofs.Comparing.{left-stuck, right-stuck}
use Rattle.arith_goals.proofs.goals.compare.Goals as goal

pub returns-in-Waits-clause-comes : goal.returns-in-Waits-clause-comes
returns-in-Waits-clause-comes g c = λ E f. left_side c.requires.comparison ((rw c.in-Waits.is at c.in_ok-value.ensures.comes) E f)

pub returns-in-Never-clause-comes : goal.returns-in-Never-clause-comes
returns-in-Never-clause-comes g c = λ E f. left-stuck c.args.templates.now.symbols E (tree c.args.templates.now.nodes c.args.left) (tree c.args.templates.now.nodes c.args.right) c.args.test c.requires.comparison
    ((rw c.in-Never.is at c.in_ok-value.ensures.comes) E f)

pub returns-in-Waits-2-clause-comes : goal.returns-in-Waits-2-clause-comes
returns-in-Waits-2-clause-comes g c = λ E f. right_side c.requires.comparison ((rw c.in-Is.is at c.in_ok-value.ensures.comes) E f) ((rw c.in-Waits-2.is at c.in_ok-value-2.ensures.comes) E f)

pub returns-in-Never-2-clause-comes : goal.returns-in-Never-2-clause-comes
returns-in-Never-2-clause-comes g c = λ E f. right-stuck c.args.templates.now.symbols E (tree c.args.templates.now.nodes c.args.left) (tree c.args.templates.now.nodes c.args.right) c.args.test c.requires.comparison
    (form-consistent c.args.templates.now.nodes (g.K.Lookup.bindings c.args.known.now) (IsTold E) f) c.in-Is.value
    ((rw c.in-Is.is at c.in_ok-value.ensures.comes) E f) ((rw c.in-Never-2.is at c.in_ok-value-2.ensures.comes) E f)

pub returns-then-holds-clause-comes : goal.returns-then-holds-clause-comes
returns-then-holds-clause-comes g c = λ E f.
    let x : FitsSigned w128 c.in-Is.value = search rules in
    let y : FitsSigned w128 c.in-Is-2.value = search rules in
    compared ((rw c.in-Is.is at c.in_ok-value.ensures.comes) E f) ((rw c.in-Is-2.is at c.in_ok-value-2.ensures.comes) E f)
    (rw (to_z-of_z w128 c.in-Is.value x, to_z-of_z w128 c.in-Is-2.value y, c.if-holds.true) at c.holds.ensures)

pub returns-else-holds-clause-comes : goal.returns-else-holds-clause-comes
returns-else-holds-clause-comes g c = λ E f.
    let x : FitsSigned w128 c.in-Is.value = search rules in
    let y : FitsSigned w128 c.in-Is-2.value = search rules in
    compared ((rw c.in-Is.is at c.in_ok-value.ensures.comes) E f) ((rw c.in-Is-2.is at c.in_ok-value-2.ensures.comes) E f)
    (rw (to_z-of_z w128 c.in-Is.value x, to_z-of_z w128 c.in-Is-2.value y, c.if-holds.false) at c.holds.ensures)
