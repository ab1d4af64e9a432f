-- A part of a term has parts one level deeper.
use Rattle.akl_steps.proofs.terms.+push_part.Given as goal

abbrev pub decreases-push_part : goal.decreases-push_part
decreases-push_part l = l.depth
