use Rattle.std.proofs.Common.{◌^◌, ◌-◌}
use Rattle.tree_models.proofs.CellLines.{AreFirstLines}
use Rattle.tree_models.proofs.text.push_cells.Given as goal

abbrev pub invariant-loop-place : goal.invariant-loop-place
invariant-loop-place l = AreFirstLines l.templates.symbols l.cells l.shown l.fn.out.items l.out.items l.place l.end

abbrev pub decreases-loop-place : goal.decreases-loop-place
decreases-loop-place l = 2 ^ 64 - l.place
