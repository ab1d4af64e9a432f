use Rattle.std.proofs.Common.{◌≡◌, Option, Some, None, List, refl, sym, ◌∙◌, ap, subst}
use Rattle.std.specs.Prelude.{IfSome}
use Rattle.std.specs.Map.{lookup}
use Rattle.akl_terms.specs.declared.term.Equation.{Equation}
use Rattle.rational_unify.specs.declared.compared.Standing.{Standing}
use Rattle.rational_unify.specs.Indexes.{StandsIn, same_node, entries_in}
use Rattle.rational_unify.proofs.compared.Compared.standing.Goals as goal

of_some : (o : Option Standing) (P : Standing → Type 0) → ((s : Standing) → o ≡ Some s → P s) → IfSome o P
of_some None P f = tt
of_some (Some s) P f = f s refl

pub returns-in-Some : goal.returns-in-Some
returns-in-Some c = of_some c.copied.result (StandsIn c.args.self.now c.args.term)
    (λ s e. subst (λ (l : List Equation). StandsIn l c.args.term s) c.self.view_is
    (rw c.in-Mol.is (c.self.invariant.each (record { node = c.in-Mol.node; frame = c.in-Mol.frame }) s (ap (λ o. lookup (same_node (record { node = c.in-Mol.node; frame = c.in-Mol.frame })) (entries_in o)) c.in-Some.is ∙ sym (c.copied.ensures ∙ c.get.ensures.value) ∙ e))))
