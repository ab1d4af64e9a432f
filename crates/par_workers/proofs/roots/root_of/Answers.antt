use Rattle.par_workers.proofs.Outside.{way_of_box}
use Rattle.par_workers.proofs.roots.root_of.Goals as goal

pub outermost-requires : goal.outermost-requires
outermost-requires c = way_of_box c.core.result.now c.table-table.result.now c.table-table.ensures.core c.table-table.ensures.table c.in_ok-home-in-Goal.home

pub outermost-requires-in-Box : goal.outermost-requires-in-Box
outermost-requires-in-Box c = way_of_box c.core.result.now c.table-table.result.now c.table-table.ensures.core c.table-table.ensures.table c.in-Box.name
