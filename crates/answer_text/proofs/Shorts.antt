-- The numbers of argument nodes.
use Rattle.std.proofs.Common.{◌≡◌, ◌+◌, ◌<◌, ◌≤◌, ◌^◌, List, length, Option, Some, None, refl, arith}
use Rattle.std.specs.Prelude.{slice_get}
use Rattle.std.proofs.lemmas.Option.{slice_get_within}
use Rattle.akl_terms.specs.declared.term.Node.{Node}
use Rattle.akl_terms.specs.declared.term.Term.{Term}
use Rattle.akl_terms.specs.declared.term.Term.TheVariants.{Mol}
use Rattle.akl_terms.specs.Template.{IsArranged, seen_of, seen_node}
use Rattle.answer_text.specs.Pieces.{IsShort}

-- arguments are nodes, and there are fewer than 2 ^ 32 of these
pub arguments_short : (nodes : List Node) → IsArranged nodes → length nodes < 2 ^ 32 → (t : Term) → IsShort (seen_of nodes t)
arguments_short nodes h small (Term.Int z) = tt
arguments_short nodes h small (Term.Port p) = tt
arguments_short nodes h small (Mol i f) = on (slice_get nodes i) refl
  where
    on : (o : Option Node) → slice_get nodes i ≡ o → IsShort (seen_node f o)
    on None e = tt
    on (Some (Node.Var x)) e = tt
    on (Some (Node.Int z)) e = tt
    on (Some (Node.Struct s first n)) e =
        let before : first + n ≤ i = h.each i (Node.Struct s first n) e in
        let within : i < length nodes = slice_get_within nodes i (Node.Struct s first n) e in
        omega (arith, before, within, small)
