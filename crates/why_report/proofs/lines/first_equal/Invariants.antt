use Rattle.std.proofs.Common.{◌≡◌, take}
use Rattle.std.specs.List.{AllByRecursion}
use Rattle.akl_terms.specs.Template.{tree}
use Rattle.akl_terms.specs.Tree.{variable}
use Rattle.rational_unify.specs.Known.{end_of}
use Rattle.why_report.proofs.lines.first_equal.Given as goal

abbrev pub invariant-loop-term : goal.invariant-loop-term
invariant-loop-term g l = AllByRecursion (λ s. end_of l.templates.nodes (g.W.Lookup.bindings l.whole) (tree l.templates.nodes s.term) ≡ variable l.end → ⊥) (take l.term-index l.shown)
