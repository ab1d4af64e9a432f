-- The bindings that are found of their variables.
use Rattle.std.proofs.Common.{◌≡◌, ℕ, zero, suc, ◌<◌, List, [], ◌∷◌, length, slice_index_or, arith}
use Rattle.akl_terms.specs.declared.name.Var.{Var}
use Rattle.akl_terms.specs.declared.term.Node.{Node}
use Rattle.akl_terms.specs.declared.term.Term.{Term}
use Rattle.akl_terms.specs.Tree.{variable}
use Rattle.akl_terms.specs.Template.{tree}
use Rattle.rational_unify.specs.Known.{IsSolved, end_of}
use Rattle.rational_unify.proofs.Ends.{end-bound}
use Rattle.rational_unify.proofs.Taking.{past}
use Rattle.local_store.specs.Bound.{AreFound}

-- the chain of each variable that they bind ends where its term's does
pub end-at : (nodes : List Node) (whole bs : List (Var × Term)) (i : ℕ) → IsSolved nodes whole → AreFound whole bs → i < length bs
    → end_of nodes whole (variable (slice_index_or bs i past).0) ≡ end_of nodes whole (tree nodes (slice_index_or bs i past).1)
end-at nodes whole [] i s f l = absurd (omega arith)
end-at nodes whole (b ∷ bs) zero s f l = end-bound nodes whole b.0 b.1 s f.0
end-at nodes whole (b ∷ bs) (suc i) s f l = end-at nodes whole bs i s f.1 (omega arith)
