use Rattle.std.proofs.Common.{◌+◌, ◌*◌, map, drop}
use Rattle.term_syntax.specs.Sizes.{tree_size, trees_size, tail_size, steps_size}
use Rattle.term_syntax.specs.Tree.{trees, steps}
use Rattle.term_syntax.specs.View.{tree, step, tail_view}
use Rattle.variable_scopes.specs.Numbering.{state}
use Rattle.variable_scopes.proofs.Lists.{TermsGoing, StepsGoing}
use Rattle.variable_scopes.proofs.terms.+terms.Given as given

abbrev pub invariant-numbered_terms-loop-term : given.invariant-numbered_terms-loop-term
invariant-numbered_terms-loop-term l = TermsGoing (state l.fn.numbering) l.terms (state l.numbering) l.found.items (drop l.term-index l.terms)

abbrev pub invariant-numbered_steps-loop-step : given.invariant-numbered_steps-loop-step
invariant-numbered_steps-loop-step l = StepsGoing (state l.fn.numbering) l.operands (state l.numbering) l.found.items (drop l.step-index l.operands)

abbrev pub decreases-numbered_term : given.decreases-numbered_term
decreases-numbered_term l = 2 * tree_size (tree l.term.now)

abbrev pub decreases-numbered_terms : given.decreases-numbered_terms
decreases-numbered_terms l = 2 * trees_size (trees (map tree l.terms.now)) + 1

abbrev pub decreases-numbered_tail : given.decreases-numbered_tail
decreases-numbered_tail l = 2 * tail_size (tail_view l.tail.now) + 1

abbrev pub decreases-numbered_steps : given.decreases-numbered_steps
decreases-numbered_steps l = 2 * steps_size (steps (map step l.operands.now)) + 1
