use Rattle.constraint_laws.proofs.StandsGrow.{same_told_stands, stands_with_more, stands_after_more, stands_over, stands_within}
use Rattle.constraint_laws.proofs.laws.standing_grows.Goals as goal

pub returns : goal.returns
returns c = record { members = same_told_stands; behind = stands_with_more; before = stands_after_more; over = stands_over; within = stands_within }
