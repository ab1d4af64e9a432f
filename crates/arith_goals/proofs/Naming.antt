-- Operations by the texts of their symbols, and what a term that is no expression begins with.
use Rattle.std.proofs.Common.{◌≡◌, ℕ, ℤ, ◌+◌, List, Option, Some, None, refl, sym, ◌∙◌, ap, arith}
use Rattle.std.specs.Prelude.{slice_get, option_and_then}
use Rattle.akl_terms.specs.declared.name.Name.{Name}
use Rattle.akl_terms.specs.declared.term.Term.{Term}
use Rattle.akl_terms.specs.declared.term.Term.TheVariants.{Mol}
use Rattle.akl_terms.specs.declared.term.Node.{Node}
use Rattle.akl_terms.specs.declared.term.Seen.{Seen}
use Rattle.akl_terms.specs.Tree.{integer, port_head, symbol_head}
use Rattle.akl_terms.specs.Template.{Template, IsArranged, tree, seen_of, seen_node, tree_seen}
use Rattle.akl_terms.specs.Arithmetic.{Operation, operation_named, operation_of, binary}
use Rattle.akl_terms.proofs.Unfolding.{tree-struct}
use Rattle.rational_unify.proofs.Chains.{tree_of_seen}
use Rattle.rational_unify.proofs.Heads.{head_of_seen, head_seen}
use Rattle.arith_goals.specs.declared.operation.Operation as code
use Rattle.arith_goals.specs.Operations.{meaning}
use Rattle.arith_goals.specs.Expressions.{IsApplication, IsOther}

pub operation_is : (symbols : List (List ℕ)) (f : ℕ) (text : List ℕ) (o : Option Operation) → slice_get symbols f ≡ Some text → operation_named text ≡ o → o ≡ operation_of symbols f
unfolding operation_of
operation_is symbols f text o e k = sym (ap (option_and_then operation_named) e ∙ k)

pub integer-seen : (t : Template) (s : Term) (z : ℤ) → Seen.Int z ≡ seen_of t.nodes s → tree t.nodes s ≡ integer z
integer-seen t s z e = (tree_of_seen t.nodes s).1 ∙ ap (tree_seen (tree_of_seen t.nodes s).0) (sym e)

-- a port
pub port-other : (t : Template) (s : Term) (p : Name) → Seen.Port p ≡ seen_of t.nodes s → IsOther t (tree t.nodes s)
port-other t s p e = record {
  head = port_head p;
  is_head = head_of_seen t.nodes s ∙ ap head_seen (sym e);
  no_integer = λ z k. cc;
  no_operation = λ f o i k. cc;
}

-- a symbol without two arguments
pub count-other : (t : Template) (s : Term) (c i n : ℕ) (f : Name) → Seen.Struct c i n f ≡ seen_of t.nodes s → (n ≡ 2 → ⊥) → IsOther t (tree t.nodes s)
count-other t s c i n f e d = record {
  head = symbol_head c n;
  is_head = head_of_seen t.nodes s ∙ ap head_seen (sym e);
  no_integer = λ z k. cc;
  no_operation = λ g o j k. d (let h : symbol_head c n ≡ symbol_head g 2 = k in cc);
}

-- a symbol that names no operation
pub symbol-other : (t : Template) (s : Term) (c i n : ℕ) (f : Name) → seen_of t.nodes s ≡ Seen.Struct c i n f → operation_of t.symbols c ≡ None → IsOther t (tree t.nodes s)
symbol-other t s c i n f e d = record {
  head = symbol_head c n;
  is_head = head_of_seen t.nodes s ∙ ap head_seen e;
  no_integer = λ z k. cc;
  no_operation = λ g o j k. absurd (none g o j k);
}
  where
    none : (g : ℕ) (o : Operation) → operation_of t.symbols g ≡ Some o → symbol_head c n ≡ symbol_head g 2 → ⊥
    none g o j k =
        let p : c ≡ g = cc in
        let q : None ≡ Some o = sym d ∙ ap (operation_of t.symbols) p ∙ j in
        cc

pub application-seen : (t : Template) (node c i : ℕ) (f : Name) (o : code.Operation) → IsArranged t.nodes → ((g : Name) × (seen_of t.nodes (Mol node f) ≡ Seen.Struct c i 2 g))
    → operation_of t.symbols c ≡ Some (meaning o)
    → IsApplication t (tree t.nodes (Mol node f)) (record { place = record { node = node; frame = f }; operation = o; left = Mol i f; right = Mol (i + 1) f })
application-seen t node c i f o h w e = record {
  symbol = c;
  named = e;
  applied = tree-struct t.nodes h (Mol node f) c i 2 f seen ∙ ap (λ (k : ℕ). binary c (tree t.nodes (Mol i f)) (tree t.nodes (Mol k f))) (omega arith);
  place = refl;
}
  where
    frames : (n : Option Node) → seen_node f n ≡ Seen.Struct c i 2 w.0 → w.0 ≡ f
    frames None q = cc
    frames (Some (Node.Var v)) q = cc
    frames (Some (Node.Int v)) q = cc
    frames (Some (Node.Struct a b m)) q = cc

    seen : seen_of t.nodes (Mol node f) ≡ Seen.Struct c i 2 f
    seen = w.1 ∙ ap (Seen.Struct c i 2) (frames (slice_get t.nodes node) w.1)
