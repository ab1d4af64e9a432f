use Rattle.akl_run.proofs.ReadTexts.{as_program, program_small}
use Rattle.akl_run.proofs.names.program_clauses.Goals as goal

pub lift-requires : goal.lift-requires
lift-requires c = program_small (as_program c.in-Ok.ensures.reads c.in_ok-clauses.ensures)
