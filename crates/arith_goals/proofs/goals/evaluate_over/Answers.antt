use Rattle.std.proofs.Common.{FitsSigned, rules}
use Rattle.std.specs.Int.{w128}
use Rattle.std.proofs.lemmas.Int.{to_z-of_z}
use Rattle.akl_terms.specs.declared.term.Term.TheVariants.{Mol}
use Rattle.akl_terms.specs.Template.{tree}
use Rattle.akl_terms.specs.Arithmetic.{gives, right_of_is}
use Rattle.arith_goals.proofs.Comparing.{is-stuck}
use Rattle.arith_goals.proofs.goals.evaluate_over.Goals as goal

pub returns-in-Is-2-clause-answers : goal.returns-in-Is-2-clause-answers
returns-in-Is-2-clause-answers g c = λ E f.
    let v : FitsSigned w128 c.in-Is-2.value = search rules in
    rw (c.in-Arith.is, c.in-Is.is, to_z-of_z w128 c.in-Is-2.value v) (gives ((rw c.in-Is-2.is at c.in_ok-value-in-Is.ensures.comes) E f))

pub returns-in-Waits-clause-answers : goal.returns-in-Waits-clause-answers
returns-in-Waits-clause-answers g c = λ E f. rw (c.in-Arith.is, c.in-Is.is) (right_of_is ((rw c.in-Waits.is at c.in_ok-value-in-Is.ensures.comes) E f))

pub returns-in-Never-clause-answers : goal.returns-in-Never-clause-answers
returns-in-Never-clause-answers g c = λ E f. rw (c.in-Arith.is, c.in-Is.is) (is-stuck c.args.templates.now.symbols E (tree c.args.templates.now.nodes (Mol c.in-Arith.left c.args.goal.frame))
    (tree c.args.templates.now.nodes (Mol c.in-Arith.right c.args.goal.frame)) ((rw c.in-Never.is at c.in_ok-value-in-Is.ensures.comes) E f))
