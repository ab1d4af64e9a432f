use Rattle.std.proofs.Common.{◌≡◌, length, arith}
use Rattle.std.proofs.lemmas.List.{length-map}
use Rattle.akl_syntax.proofs.PartTurns.{goal_choice}
use Rattle.clause_checks.proofs.Counting.{parts_counted}
use Rattle.clause_checks.proofs.choices.too_many_parts.Goals as goal

pub returns-in-Choice : goal.returns-in-Choice
returns-in-Choice c =
    let e : c.len.result ≡ length c.in-Choice.parts.items = omega arith in
    rw (c.in-Choice.is, goal_choice c.in-Choice.parts, parts_counted, length-map, c.above.ensures, e)
