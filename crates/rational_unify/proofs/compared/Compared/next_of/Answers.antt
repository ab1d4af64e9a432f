use Rattle.std.proofs.Common.{◌∙◌, inr, subst, List}
use Rattle.std.proofs.lemmas.Option.{IfSome_then}
use Rattle.akl_terms.specs.declared.term.Equation.{Equation}
use Rattle.rational_unify.specs.Indexes.{IsOf}
use Rattle.rational_unify.specs.declared.added.TheConstants.{FEW}
use Rattle.rational_unify.proofs.Indexing.{IsOf-take}
use Rattle.rational_unify.proofs.compared.Compared.next_of.Goals as goal

pub returns-then-pairs-le-FEW : goal.returns-then-pairs-le-FEW
returns-then-pairs-le-FEW c = IfSome_then c.left_of.result c.left_of.ensures
    (λ u m. inr (subst (λ (l : List Equation). IsOf (record { left = u; right = c.args.term }) l) (c.as_slice-pairs.ensures ∙ c.self.view_is) m))

pub returns-in-Some : goal.returns-in-Some
returns-in-Some c = inr (subst (λ (l : List Equation). IsOf (record { left = c.in-Some.next; right = c.args.term }) l) (c.as_slice-pairs.ensures ∙ c.self.view_is)
    (IsOf-take FEW c.as_slice-pairs.result.now (record { left = c.in-Some.next; right = c.args.term }) c.in-Some.ensures))
