use Rattle.clause_store.proofs.Growing.{interned}
use Rattle.clause_store.proofs.Loads.{cell_put}
use Rattle.clause_store.proofs.program.put_cell.Goals as goal

pub returns : goal.returns
returns c = cell_put (interned _ _ _ _ c.in_ok-cell.ensures.ok) (interned _ _ _ _ c.in_ok-empty.ensures.ok) c.in_ok-first.ensures.first c.in_ok-first.ensures.nodes c.in_ok-push.ensures.nodes
