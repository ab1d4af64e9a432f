use Rattle.step_commit.proofs.Committed.{new_core}
use Rattle.step_commit.proofs.state.Core.new.Goals as goal

-- src/state.rt:54:9
pub invariant_of-result : goal.invariant_of-result
invariant_of-result c = new_core c.in_ok-table.table c.args.program.now c.args.query.now c.args.workers c.args.budget c.in_ok-journal.journal.items c.in_ok-table.ensures.program c.in_ok-table.ensures.query c.in_ok-table.ensures.started c.in_ok-table.ensures.marks c.in_ok-table.ensures.stores c.in_ok-journal.ensures.items
