-- What the constructors of a source term stand for.
use Rattle.std.proofs.Common.{◌≡◌, ℕ, ℤ, List, map, Option, Some, None, sym, ap, ◌∙◌, Vec, Box, Global}
use Rattle.term_syntax.specs.declared.source.SourceTerm.{SourceTerm}
use Rattle.term_syntax.specs.declared.source.SourceStep.{SourceStep, is-SourceStep'}
use Rattle.term_syntax.specs.declared.source.SourceTerm.TheVariants as written
use Rattle.term_syntax.specs.declared.source.SourceTerm.TheOpen as open_terms
use Rattle.term_syntax.specs.declared.source.SourceTerm.TheFolds.{fold-roll-SourceTerm, fold-roll-SourceStep}
use Rattle.term_syntax.specs.Tree.{Tree, Step, variable, integer, compound, list, chain, trees, steps}
use Rattle.term_syntax.specs.View.{tree, step, tail_view, term_step, step_step}

pub tree_var : (n : ℕ) → tree (written.Var n) ≡ variable n
tree_var n = ap tree (sym (written.rolls-Var n)) ∙ fold-roll-SourceTerm Tree Step term_step step_step (open_terms.Var n)

pub tree_int : (z : ℤ) → tree (written.Int z) ≡ integer z
tree_int z = ap tree (sym (written.rolls-Int z)) ∙ fold-roll-SourceTerm Tree Step term_step step_step (open_terms.Int z)

pub tree_struct : (s : List ℕ) (v : Vec SourceTerm Global) → tree (written.Struct s v) ≡ compound s (trees (map tree v.items))
tree_struct s v = ap tree (sym (written.rolls-Struct s v)) ∙ fold-roll-SourceTerm Tree Step term_step step_step (open_terms.Struct s v)

pub tree_list : (v : Vec SourceTerm Global) (o : Option (Box SourceTerm Global)) → tree (written.List v o) ≡ list (trees (map tree v.items)) (tail_view o)
tree_list v None = ap tree (sym (written.rolls-List v None)) ∙ fold-roll-SourceTerm Tree Step term_step step_step (open_terms.List v None)
tree_list v (Some b) = ap tree (sym (written.rolls-List v (Some b))) ∙ fold-roll-SourceTerm Tree Step term_step step_step (open_terms.List v (Some b))

pub tree_chain : (b : Box SourceTerm Global) (v : Vec SourceStep Global) → tree (written.Chain b v) ≡ chain (tree b.value) (steps (map step v.items))
tree_chain b v = ap tree (sym (written.rolls-Chain b v)) ∙ fold-roll-SourceTerm Tree Step term_step step_step (open_terms.Chain b v)

pub tree_step : (s : SourceStep) → step s ≡ record { symbol = s.symbol; right = tree s.right }
tree_step s = ap step (is-SourceStep' s) ∙ fold-roll-SourceStep Tree Step term_step step_step (record { symbol = s.symbol; right = s.right })
