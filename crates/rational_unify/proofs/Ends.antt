-- What stands at the ends of chains.
use Rattle.std.proofs.Common.{◌≡◌, List, Some, refl, sym, ◌∙◌, ap}
use Rattle.std.specs.Prelude.{option_map}
use Rattle.akl_terms.specs.declared.name.Var.{Var}
use Rattle.akl_terms.specs.declared.term.Node.{Node}
use Rattle.akl_terms.specs.declared.term.Term.{Term}
use Rattle.akl_terms.specs.declared.term.Seen.{Seen}
use Rattle.akl_terms.specs.declared.term.Seen.TheVariants.{Free}
use Rattle.akl_terms.specs.Tree.{variable, Head, head_of, integer_head, port_head, symbol_head}
use Rattle.akl_terms.specs.Template.{tree, seen_of, tree_seen}
use Rattle.rational_unify.specs.Known.{found_in, bound_in, IsSolved, end_of}
use Rattle.rational_unify.proofs.Walks.{walk-bound}
use Rattle.rational_unify.proofs.Chains.{tree_of_seen}
use Rattle.rational_unify.proofs.Heads.{head_of_seen, head_seen}
use Rattle.std.proofs.Common.{length}

-- the chain of a bound variable
pub end-bound : (nodes : List Node) (bs : List (Var × Term)) (x : Var) (t : Term) → IsSolved nodes bs → found_in bs x ≡ Some t → end_of nodes bs (variable x) ≡ end_of nodes bs (tree nodes t)
end-bound nodes bs x t h e = walk-bound (bound_in nodes bs) (length bs) x (tree nodes t) h.ends (ap (option_map (tree nodes)) e)

pub free-tree : (nodes : List Node) (t : Term) (y : Var) → Free y ≡ seen_of nodes t → tree nodes t ≡ variable y
free-tree nodes t y e = (tree_of_seen nodes t).1 ∙ ap (tree_seen (tree_of_seen nodes t).0) (sym e)

headed_seen : (s : Seen) → ((x : Var) → s ≡ Free x → ⊥) → (h : Head) × (head_seen s ≡ Some h)
headed_seen (Free x) n = absurd (n x refl)
headed_seen (Seen.Int z) n = (integer_head z, refl)
headed_seen (Seen.Port p) n = (port_head p, refl)
headed_seen (Seen.Struct s i k f) n = (symbol_head s k, refl)

pub headed-tree : (nodes : List Node) (t : Term) (s : Seen) → s ≡ seen_of nodes t → ((x : Var) → s ≡ Free x → ⊥) → (h : Head) × (head_of (tree nodes t) ≡ Some h)
headed-tree nodes t s e n = let w : (h : Head) × (head_seen s ≡ Some h) = headed_seen s n in
    (w.0, head_of_seen nodes t ∙ ap head_seen (sym e) ∙ w.1)
