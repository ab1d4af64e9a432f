use Rattle.std.proofs.Common.{◌≡◌, ◌<◌, List, ◌∷◌, ◌++◌, length, map, refl, ap, arith}
use Rattle.term_syntax.specs.declared.source.SourceStep.{SourceStep}
use Rattle.term_syntax.proofs.Trees.{tree_step}
use Rattle.term_syntax.specs.Tree.{trees, steps}
use Rattle.term_syntax.specs.View.{tree, step}
use Rattle.term_syntax.specs.Variables.{tree_variables, trees_variables, steps_variables}
use Rattle.variable_scopes.proofs.Turns.{added_turn, added_end}
use Rattle.variable_scopes.proofs.variables.+terms.Goals as goal

operand_more : (x : SourceStep) (xs : List SourceStep) → steps_variables (steps (map step (x ∷ xs))) ≡ tree_variables (tree x.right) ++ steps_variables (steps (map step xs))
operand_more x xs = ap (λ s. steps_variables (steps (s ∷ map step xs))) (tree_step x)

pub add_terms-loop-term-preserved : goal.add_terms-loop-term-preserved
add_terms-loop-term-preserved t c =
    let within : c.loop-term.term-index < length c.args.terms.now = omega (arith, c.loop-term-test.true, c.loop-term.auto.term-index-end) in
    added_turn (λ xs. trees_variables (trees (map tree xs))) (λ x. tree_variables (tree x)) c.args.terms.now c.loop-term.term-index c.term-item.result c.loop-term.found.items _ _ (λ x xs. refl) within c.term-item.is c.in_ok-add_term.ensures
    c.loop-term.invariant

pub add_terms-returns : goal.add_terms-returns
add_terms-returns t c =
    added_end (λ xs. trees_variables (trees (map tree xs))) c.args.terms.now c.loop-term.term-index c.loop-term.found.items _ refl (omega (arith, c.loop-term-test.false, c.loop-term.auto.term-index-end)) c.loop-term.invariant

pub add_steps-loop-step-preserved : goal.add_steps-loop-step-preserved
add_steps-loop-step-preserved t c =
    let within : c.loop-step.step-index < length c.args.operands.now = omega (arith, c.loop-step-test.true, c.loop-step.auto.step-index-end) in
    added_turn (λ xs. steps_variables (steps (map step xs))) (λ x. tree_variables (tree x.right)) c.args.operands.now c.loop-step.step-index c.step-item.result c.loop-step.found.items _ _ operand_more within c.step-item.is c.in_ok-add_term.ensures
    c.loop-step.invariant

pub add_steps-returns : goal.add_steps-returns
add_steps-returns t c =
    added_end (λ xs. steps_variables (steps (map step xs))) c.args.operands.now c.loop-step.step-index c.loop-step.found.items _ refl (omega (arith, c.loop-step-test.false, c.loop-step.auto.step-index-end)) c.loop-step.invariant
