use Rattle.std.proofs.Common.{◌≡◌, map, take}
use Rattle.akl_terms.specs.declared.program.ShownTerm.{ShownTerm}
use Rattle.tree_models.specs.declared.starts.Start.{Start}
use Rattle.tree_models.proofs.starts.shown_starts.Given as goal

abbrev pub invariant-loop-line : goal.invariant-loop-line
invariant-loop-line l = l.list.items ≡ map (λ (s : ShownTerm). Start.Term s.term) (take l.line-index l.shown)
