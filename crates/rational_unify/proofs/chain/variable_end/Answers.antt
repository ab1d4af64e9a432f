use Rattle.std.proofs.Common.{sym, subst}
use Rattle.akl_terms.specs.Tree.{Tree}
use Rattle.rational_unify.specs.Shortened.{IsVariableOf}
use Rattle.rational_unify.proofs.Ends.{end-bound}
use Rattle.rational_unify.proofs.chain.variable_end.Goals as goal

pub returns-in-Some : goal.returns-in-Some
returns-in-Some g c = subst (λ (t : Tree). IsVariableOf t c.end_variable.result) (sym (end-bound _ _ _ _ c.requires (sym c.in-Some.ensures))) c.end_variable.ensures
