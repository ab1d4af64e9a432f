use Rattle.std.proofs.Common.{arith}
use Rattle.akl_run.proofs.ReadTexts.{as_query, query_small}
use Rattle.akl_run.proofs.names.query_names.Goals as goal

pub lift_query-requires : goal.lift_query-requires
lift_query-requires c = omega (arith, query_small (as_query c.in-Ok.ensures.reads c.in_ok-asked.ensures), c.requires)
