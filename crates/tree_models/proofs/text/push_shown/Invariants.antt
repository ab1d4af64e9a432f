use Rattle.std.proofs.Common.{◌≡◌, ◌++◌, map, take}
use Rattle.akl_terms.specs.declared.program.ShownTerm.{ShownTerm}
use Rattle.tree_models.specs.Texts.{shown_lines}
use Rattle.tree_models.proofs.text.push_shown.Given as goal

abbrev pub invariant-loop-k : goal.invariant-loop-k
invariant-loop-k l = l.out.items ≡ l.fn.out.items ++ shown_lines (map (λ (s : ShownTerm). s.name) (take l.k l.shown)) (take l.k l.places)
