-- The graph of X = f(X) is worked out.
use Rattle.std.proofs.Common.{◌≡◌, ℕ, zero, suc, List, [], ◌∷◌, refl, sym, ◌∙◌, ap, subst, inl, arith, Some, Bool, cond}
use Rattle.std.specs.Prelude.{slice_get, codes}
use Rattle.akl_terms.specs.declared.name.Var.{Var}
use Rattle.akl_terms.proofs.SameNames.{same_var-refl}
use Rattle.akl_terms.specs.Tree.{Tree, Trees, variable, symbol, none, more, arguments}
use Rattle.answer_text.specs.Graph.{Stands, IsChild}
use Rattle.answer_text.specs.BuiltGraph.{at_node, Passes, one_step}
use Rattle.answer_text.specs.Examples.{loop_end, loop_graph, LoopGraphLaw}

module _ (x : Var) where
  abbrev loop : Tree
  loop = symbol 0 (more (variable x) none)

  node : (i : ℕ) (t : Tree) → Stands (loop_graph x) i t → (i ≡ 0) × (t ≡ loop)
  node zero t p = (refl, let e : loop ≡ t = cc in sym e)
  node (suc i) t p = cc

  child : (i k j : ℕ) → IsChild (loop_graph x) i k j → (k ≡ 0) × (j ≡ 0)
  child zero k j (js, e, d) = at k (let m : 0 ∷ [] ≡ js = cc in subst (λ (y : List ℕ). slice_get y k ≡ Some j) (sym m) d)
    where
      at : (k : ℕ) → slice_get (0 ∷ []) k ≡ Some j → (k ≡ 0) × (j ≡ 0)
      at zero d = (refl, let m : (0 ≡ j) = cc in sym m)
      at (suc k) d = cc
  child (suc i) k j (js, e, d) = cc

  argument : (k : ℕ) (a : Tree) → slice_get (arguments loop) k ≡ Some a → (k ≡ 0) × (a ≡ variable x)
  argument zero a p = (refl, let e : variable x ≡ a = cc in sym e)
  argument (suc k) a p = cc

  goes : loop_end x (variable x) ≡ loop
  goes = ap (λ (b : Bool). cond b loop (variable x)) (same_var-refl x)

  stands : Stands (loop_graph x) 0 (loop_end x (variable x))
  stands = ap (λ (t : Tree). Some t) (sym goes)

  below : (i k : ℕ) (t a : Tree) → Stands (loop_graph x) i t → slice_get (arguments t) k ≡ Some a → (j : ℕ) × IsChild (loop_graph x) i k j × Stands (loop_graph x) j (loop_end x a)
  below i k t a p q =
      let n : (i ≡ 0) × (t ≡ loop) = node i t p in
      let w : (k ≡ 0) × (a ≡ variable x) = argument k a (subst (λ (u : Tree). slice_get (arguments u) k ≡ Some a) n.1 q) in (
        0,
        subst (λ (m : ℕ). IsChild (loop_graph x) m k 0) (sym n.0) (subst (λ (m : ℕ). IsChild (loop_graph x) 0 m 0) (sym w.0) (0 ∷ [], refl, refl)),
        subst (λ (u : Tree). Stands (loop_graph x) 0 (loop_end x u)) (sym w.1) stands,
      )

  above : (i k j : ℕ) (t : Tree) → Stands (loop_graph x) i t → IsChild (loop_graph x) i k j → (a : Tree) × (slice_get (arguments t) k ≡ Some a) × Stands (loop_graph x) j (loop_end x a)
  above i k j t p q =
      let n : (i ≡ 0) × (t ≡ loop) = node i t p in
      let w : (k ≡ 0) × (j ≡ 0) = child i k j q in (
        variable x,
        subst (λ (u : Tree). slice_get (arguments u) k ≡ Some (variable x)) (sym n.1) (subst (λ (m : ℕ). slice_get (arguments loop) m ≡ Some (variable x)) (sym w.0) refl),
        subst (λ (m : ℕ). Stands (loop_graph x) m (loop_end x (variable x))) (sym w.1) stands,
      )

  alike : (i j : ℕ) (s t : Tree) → Stands (loop_graph x) i s → Stands (loop_graph x) j t → (i ≡ j) × (s ≡ t)
  alike i j s t p q = ((node i s p).0 ∙ sym (node j t q).0, (node i s p).1 ∙ sym (node j t q).1)

  name : (i f : ℕ) (ts : Trees) → Stands (loop_graph x) i (symbol f ts) → (name : List ℕ) × (slice_get (codes "f" ∷ []) f ≡ Some name)
  name i f ts p = let e : symbol f ts ≡ loop = (node i (symbol f ts) p).1 in let z : f ≡ 0 = cc in (codes "f", ap (slice_get (codes "f" ∷ [])) z)

  back : (i : ℕ) (t : Tree) → Stands (loop_graph x) i t → Passes (loop_graph x) (at_node (0 ∷ [])) (at_node (0 ∷ []) i) (at_node (0 ∷ []) i)
  back zero t p = one_step {i = 0} {j = 0} {t = loop} 0 refl (0 ∷ [], refl, refl)
  back (suc i) t p = cc

pub loop_worked_out : LoopGraphLaw
loop_worked_out x = record {
  built = record {
    end = λ i t p. (loop x, (node x i t p).1);
    argument = below x;
    child = above x;
    one = λ i j s t p q e. inl (alike x i j s t p q).1;
    other = λ i j s t p q e. ap (at_node (0 ∷ [])) (alike x i j s t p q).0;
  };
  coarsest = record {
    top = λ i j s t p q e. e;
    children = λ i j k p q s t a b e l m. ap (at_node (0 ∷ [])) ((child x i k p l).1 ∙ sym (child x j k q m).1);
    differ = λ i j s t p q d. absurd (d (ap (at_node (0 ∷ [])) (alike x i j s t p q).0));
  };
  certified = record { down = λ i k j w. omega arith; strict = λ i k j e w. cc; back = λ i t p e. back x i t p };
  names = record { name = name x };
}
