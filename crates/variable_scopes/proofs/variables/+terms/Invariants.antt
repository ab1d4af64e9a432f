use Rattle.std.proofs.Common.{◌≡◌, ◌++◌, map, drop}
use Rattle.term_syntax.specs.Tree.{trees, steps}
use Rattle.term_syntax.specs.View.{tree, step}
use Rattle.term_syntax.specs.Variables.{trees_variables, steps_variables}
use Rattle.variable_scopes.proofs.variables.+terms.Given as given

abbrev pub invariant-add_terms-loop-term : given.invariant-add_terms-loop-term
invariant-add_terms-loop-term l =
    l.found.items ++ trees_variables (trees (map tree (drop l.term-index l.terms))) ≡ l.fn.found.items ++ trees_variables (trees (map tree l.terms))

abbrev pub invariant-add_steps-loop-step : given.invariant-add_steps-loop-step
invariant-add_steps-loop-step l =
    l.found.items ++ steps_variables (steps (map step (drop l.step-index l.operands))) ≡ l.fn.found.items ++ steps_variables (steps (map step l.operands))
