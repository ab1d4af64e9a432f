use Rattle.std.proofs.Common.{◌≡◌, map, drop}
use Rattle.term_syntax.specs.Tree.{trees, steps}
use Rattle.term_syntax.specs.View.{tree, step}
use Rattle.clause_checks.specs.Rows.{first_wide_in_terms, first_wide_in_steps}
use Rattle.clause_checks.proofs.arguments.+terms.Given as given

abbrev pub invariant-first_wide_in_terms-loop-term : given.invariant-first_wide_in_terms-loop-term
invariant-first_wide_in_terms-loop-term l = first_wide_in_terms (trees (map tree (drop l.term-index l.terms))) ≡ first_wide_in_terms (trees (map tree l.terms))

abbrev pub invariant-first_wide_in_steps-loop-step : given.invariant-first_wide_in_steps-loop-step
invariant-first_wide_in_steps-loop-step l = first_wide_in_steps (steps (map step (drop l.step-index l.operands))) ≡ first_wide_in_steps (steps (map step l.operands))
