use Rattle.std.proofs.Common.{rules, ◌≡◌, slice_index_or, subst}
use Rattle.akl_terms.specs.declared.term.Term.{Term}
use Rattle.akl_terms.specs.declared.term.Term.TheVariants.{Mol}
use Rattle.akl_terms.specs.declared.term.Equation.{Equation}
use Rattle.rational_unify.specs.Indexes.{IsOf}
use Rattle.rational_unify.proofs.Indexing.{IsOf-index}
use Rattle.rational_unify.proofs.compared.left_of.Goals as goal

abbrev no_pair : Equation
no_pair = record { left = Mol 0 (record { worker = 0; number = 0 }); right = Mol 0 (record { worker = 0; number = 0 }) }

pub returns-then-eq : goal.returns-then-eq
returns-then-eq c =
    let e : (slice_index_or c.args.pairs.now c.loop-pair.pair-index no_pair).right ≡ c.args.term = search rules in
    subst (λ (t : Term). IsOf (record { left = (slice_index_or c.args.pairs.now c.loop-pair.pair-index no_pair).left; right = t }) c.args.pairs.now) e
    (IsOf-index c.args.pairs.now c.loop-pair.pair-index no_pair c.loop-pair-test.true)
