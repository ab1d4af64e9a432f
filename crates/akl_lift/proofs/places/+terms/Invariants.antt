use Rattle.std.proofs.Common.{◌≡◌, ◌++◌, map, drop}
use Rattle.term_syntax.specs.View.{tree, step}
use Rattle.akl_lift.specs.Places.{placed_tree}
use Rattle.akl_lift.proofs.Placed.{placed_step}
use Rattle.akl_lift.proofs.places.+terms.Given as given

abbrev pub invariant-placed_terms-loop-term : given.invariant-placed_terms-loop-term
invariant-placed_terms-loop-term l =
    map tree l.found.items ++ map (placed_tree l.order) (map tree (drop l.term-index l.terms)) ≡ map (placed_tree l.order) (map tree l.terms)

abbrev pub invariant-placed_steps-loop-step : given.invariant-placed_steps-loop-step
invariant-placed_steps-loop-step l =
    map step l.found.items ++ map (placed_step l.order) (map step (drop l.step-index l.operands)) ≡ map (placed_step l.order) (map step l.operands)
