-- A clash that is seen at once.
use Rattle.std.proofs.Common.{◌≡◌, ◌≤◌, Bool, true, false, not, List, [], ◌∷◌, length, slice_index_or, Some, refl, sym, ap, subst, inl, inr, arith}
use Rattle.std.proofs.lemmas.Bool.Decides.{nat_tests}
use Rattle.std.specs.Ordering.{int_eq}
use Rattle.akl_terms.specs.declared.name.Var.{Var}
use Rattle.akl_terms.specs.declared.term.Node.{Node}
use Rattle.akl_terms.specs.declared.term.Term.{Term}
use Rattle.akl_terms.specs.declared.term.Seen.{Seen}
use Rattle.akl_terms.specs.declared.term.Seen.TheVariants.{Free}
use Rattle.akl_terms.specs.Names.{same_name, same_var}
use Rattle.akl_terms.specs.Tree.{Tree, variable, Head, integer_head, port_head, symbol_head}
use Rattle.akl_terms.specs.Equal.{IsTold, EqualBy, told, turned, joined, IsConsistentBy}
use Rattle.akl_terms.specs.Decided.{DifferInHead}
use Rattle.akl_terms.specs.Template.{tree, seen_of}
use Rattle.akl_terms.proofs.SameNames.{same_name-refl, same_var-equal}
use Rattle.rational_unify.specs.Solving.{bindings_in}
use Rattle.rational_unify.proofs.Heads.{head_seen, differ}
use Rattle.local_store.specs.Stored.{Stored}
use Rattle.local_store.specs.Chained.{bindings_from, innermost, around, ToldBy}
use Rattle.local_store.proofs.Layers.{from-innermost, bindings-left}
use Rattle.rule_plan.specs.Clashes.{differ_in_head}

heads : (a b : Seen) → differ_in_head a b ≡ true → (g : Head) × (h : Head) × (head_seen a ≡ Some g) × (head_seen b ≡ Some h) × (g ≡ h → ⊥)
heads (Free x) b e = cc
heads (Seen.Int m) (Free x) e = cc
heads (Seen.Int m) (Seen.Int n) e = (integer_head m, integer_head n, refl, refl, λ d. let mn : m ≡ n = cc in let z : int_eq m m ≡ true = grind (arith, nat_tests) in cc)
heads (Seen.Int m) (Seen.Port p) e = (integer_head m, port_head p, refl, refl, λ d. cc)
heads (Seen.Int m) (Seen.Struct c i n f) e = (integer_head m, symbol_head c n, refl, refl, λ d. cc)
heads (Seen.Port p) (Free x) e = cc
heads (Seen.Port p) (Seen.Int m) e = (port_head p, integer_head m, refl, refl, λ d. cc)
heads (Seen.Port p) (Seen.Port q) e = (port_head p, port_head q, refl, refl, λ d. let pq : p ≡ q = cc in let z : same_name p p ≡ true = same_name-refl p in cc)
heads (Seen.Port p) (Seen.Struct c i n f) e = (port_head p, symbol_head c n, refl, refl, λ d. cc)
heads (Seen.Struct c i n f) (Free x) e = cc
heads (Seen.Struct c i n f) (Seen.Int m) e = (symbol_head c n, integer_head m, refl, refl, λ d. cc)
heads (Seen.Struct c i n f) (Seen.Port p) e = (symbol_head c n, port_head p, refl, refl, λ d. cc)
heads (Seen.Struct c i n f) (Seen.Struct d j m g) e = (symbol_head c n, symbol_head d m, refl, refl, λ q. let cd : c ≡ d = cc in let nm : n ≡ m = cc in grind (arith, nat_tests))

differ_at : (nodes : List Node) (s t : Term) (a b : Seen) → a ≡ seen_of nodes s → b ≡ seen_of nodes t → differ_in_head a b ≡ true → DifferInHead (tree nodes s) (tree nodes t)
differ_at nodes s t a b p q e = let w = heads a b e in differ nodes s t a b w.0 w.1 p q w.2 w.3 w.4

-- a variable that the innermost store binds twice
module _ (nodes : List Node) (ss : List Stored) (x y : Var) (l r : Term) (rest : List (Var × Term)) (own : (innermost ss).bindings ≡ (x, l) ∷ (y, r) ∷ rest) (one : x ≡ y) where
  there : (s t : Tree) → IsTold (bindings_in nodes ((x, l) ∷ (y, r) ∷ rest)) s t → ToldBy nodes ss s t
  there s t m = subst (λ (b : List (Var × Term)). IsTold (bindings_in nodes b) s t) (sym (from-innermost ss))
      (bindings-left nodes (innermost ss).bindings (bindings_from (around ss)) s t (subst (λ (b : List (Var × Term)). IsTold (bindings_in nodes b) s t) (sym own) m))

  equal : EqualBy (ToldBy nodes ss) (tree nodes l) (tree nodes r)
  equal = joined (turned (told (there (variable x) (tree nodes l) (inl (refl, refl))))) (told (there (variable x) (tree nodes r) (inr (inl (ap variable one, refl)))))

  pub seen_clash : (a b : Seen) → a ≡ seen_of nodes l → b ≡ seen_of nodes r → differ_in_head a b ≡ true → IsConsistentBy (ToldBy nodes ss) → ⊥
  seen_clash a b p q e c = let d : DifferInHead (tree nodes l) (tree nodes r) = differ_at nodes l r a b p q e in d.differ (c.heads equal d.is_left d.is_right)

one_var : (x y : Var) → false ≡ not (same_var x y) → x ≡ y
one_var x y e = same_var-equal x y (on (same_var x y) e)
  where
    on : (t : Bool) → false ≡ not t → t ≡ true
    on true q = refl
    on false q = cc

-- the first two bindings of a list
pub clash_at : (nodes : List Node) (ss : List Stored) (items : List (Var × Term)) (d : Var × Term) (a b : Seen) → 2 ≤ length items → (innermost ss).bindings ≡ items
    → false ≡ not (same_var (slice_index_or items 0 d).0 (slice_index_or items 1 d).0) → a ≡ seen_of nodes (slice_index_or items 0 d).1 → b ≡ seen_of nodes (slice_index_or items 1 d).1
    → differ_in_head a b ≡ true → IsConsistentBy (ToldBy nodes ss) → ⊥
clash_at nodes ss [] d a b l own one p q e = absurd (omega arith)
clash_at nodes ss (f ∷ []) d a b l own one p q e = absurd (omega arith)
clash_at nodes ss (f ∷ s ∷ rest) d a b l own one p q e = seen_clash nodes ss f.0 s.0 f.1 s.1 rest own (one_var f.0 s.0 one) a b p q e
