use Rattle.std.proofs.Common.{map, sym}
use Rattle.std.proofs.lemmas.List.{length-map}
use Rattle.term_syntax.specs.View.{tree}
use Rattle.clause_checks.proofs.Counting.{count_trees}
use Rattle.clause_checks.proofs.arguments.+terms.Goals as goal

pub first_wide_in_arguments-returns-in-Some : goal.first_wide_in_arguments-returns-in-Some
first_wide_in_arguments-returns-in-Some t c = rw (count_trees (map tree c.args.arguments.now), length-map, sym c.in-Some.ensures)

pub first_wide_in_arguments-returns : goal.first_wide_in_arguments-returns
first_wide_in_arguments-returns t c = rw (count_trees (map tree c.args.arguments.now), length-map, sym c.in_default.ensures) c.first_wide_in_terms.ensures
