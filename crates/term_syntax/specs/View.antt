-- What a source term stands for.
use Rattle.std.specs.Prelude.{Option, Some, None}
use Rattle.term_syntax.specs.Tree.{Tree, Step, Tail, variable, integer, compound, list, chain, trees, steps, no_tail, tail}
use Rattle.std.specs.declared.boxed.Box.{Box}
use Rattle.std.specs.declared.alloc.Global.{Global}
use Rattle.term_syntax.specs.declared.source.SourceTerm.{SourceTerm}
use Rattle.term_syntax.specs.declared.source.SourceStep.{SourceStep}
use Rattle.term_syntax.specs.declared.source.SourceTerm.TheOpen.{SourceTerm-F, SourceStep-F}
use Rattle.term_syntax.specs.declared.source.SourceTerm.TheOpen as open_terms
use Rattle.term_syntax.specs.declared.source.SourceTerm.TheFolds.{fold-SourceTerm, fold-SourceStep}

abbrev pub term_step : SourceTerm-F Tree Step → Tree
term_step (open_terms.Var n) = variable n
term_step (open_terms.Int z) = integer z
term_step (open_terms.Struct s args) = compound s (trees args.items)
term_step (open_terms.List items None) = list (trees items.items) no_tail
term_step (open_terms.List items (Some b)) = list (trees items.items) (tail b.value)
term_step (open_terms.Chain b rest) = chain b.value (steps rest.items)

abbrev pub step_step : SourceStep-F Tree Step → Step
step_step s = record { symbol = s.symbol; right = s.right }

abbrev pub tree : SourceTerm → Tree
tree = fold-SourceTerm Tree Step term_step step_step

abbrev pub step : SourceStep → Step
step = fold-SourceStep Tree Step term_step step_step

abbrev pub tail_view : Option (Box SourceTerm Global) → Tail
tail_view None = no_tail
tail_view (Some b) = tail (tree b.value)
