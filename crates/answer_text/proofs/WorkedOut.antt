-- A graph that is worked out in code is decided under each equations that its terms represent.
use Rattle.std.proofs.Common.{◌≡◌, ℕ, Bool, List, [], ◌∷◌, refl, sym, ◌∙◌, ap, subst, inl, inr, Some}
use Rattle.std.specs.Prelude.{slice_get, ◌⊎◌}
use Rattle.akl_terms.specs.Tree.{Tree, variable, integer, port, symbol, Head, integer_head, port_head, symbol_head, head_of, arguments}
use Rattle.akl_terms.specs.Equal.{Equations, Equal, same, joined}
use Rattle.akl_terms.specs.declared.name.Var.{Var}
use Rattle.answer_text.specs.Classes.{Represents}
use Rattle.answer_text.specs.Printed.{IsFree}
use Rattle.answer_text.specs.Graph.{Graph, Stands, IsChild, IsGraphOf, IsStable, IsFair, IsDecided, AreThere}
use Rattle.answer_text.specs.BuiltGraph.{at_node, BeginAlike, IsBuilt, AreBuilt, IsWorkedOut}
use Rattle.answer_text.specs.Laws.{RepresentedTextLaw}
use Rattle.answer_text.proofs.Coarsest.{AreTops, coarsest, passes}
use Rattle.answer_text.proofs.AnswerThere.{text_there}

-- a variable, or a head
open_or_headed : (t : Tree) → ((x : Var) × (t ≡ variable x)) ⊎ ((h : Head) × (head_of t ≡ Some h))
open_or_headed (variable x) = inl (x, refl)
open_or_headed (integer z) = inr (integer_head z, refl)
open_or_headed (port p) = inr (port_head p, refl)
open_or_headed (symbol f ts) = inr (symbol_head f _, refl)

module _ (go : Tree → Tree) (g : Graph) (tops : List ℕ) (b : IsBuilt go g tops) (E : Equations) (r : Represents E go) where
  -- a node that is a variable is an unstructured class
  free-node : (i : ℕ) (t : Tree) (x : Var) → Stands g i t → t ≡ variable x → IsFree E t
  free-node i t x p e =
      let z : (s : Tree) × (t ≡ go s) = b.end i t p in
      let f : IsFree E z.0 = r.free z.0 x (sym z.1 ∙ e) in
      let q : Equal E z.0 t = subst (λ (y : Tree). Equal E z.0 y) (sym z.1) (r.equal z.0) in
      record { free = λ u h m i. f.free u h (joined q m) i }

  -- a variable of a node stands for itself
  itself : (i : ℕ) (t : Tree) (x : Var) → Stands g i t → t ≡ variable x → go t ≡ variable x
  itself i t x p e =
      let z : (s : Tree) × (t ≡ go s) = b.end i t p in
      ap go e ∙ r.stays z.0 x (sym z.1 ∙ e)

  pub graph : IsGraphOf E g
  graph = record {
    ends = λ i t p. from i t p (open_or_headed t);
    argument = λ i k t a p q. let z : (j : ℕ) × IsChild g i k j × Stands g j (go a) = b.argument i k t a p q in (z.0, z.1, go a, z.2, r.equal a);
    child = λ i k j t p q. let z : (a : Tree) × (slice_get (arguments t) k ≡ Some a) × Stands g j (go a) = b.child i k j t p q in (z.0, z.1, go z.0, z.2, r.equal z.0);
  }
    where
      from : (i : ℕ) (t : Tree) → Stands g i t → ((x : Var) × (t ≡ variable x)) ⊎ ((h : Head) × (head_of t ≡ Some h)) → IsFree E t ⊎ ((h : Head) × (head_of t ≡ Some h))
      from i t p (inl x) = inl (free-node i t x.0 p x.1)
      from i t p (inr h) = inr h

  are-tops : AreTops E g tops
  are-tops = record {
    one = λ i j s t p q e. one i j s t p q (b.one i j s t p q e) (open_or_headed s);
    other = λ i j s t p q d m. d (b.other i j s t p q (other i j s t p q m (open_or_headed s) (open_or_headed t)));
  }
    where
      one : (i j : ℕ) (s t : Tree) → Stands g i s → Stands g j t → BeginAlike s t → ((x : Var) × (s ≡ variable x)) ⊎ ((h : Head) × (head_of s ≡ Some h)) → (IsFree E s × Equal E s t) ⊎ ((h : Head) × (head_of s ≡ Some h) × (head_of t ≡ Some h))
      one i j s t p q (inr h) y = inr h
      one i j s t p q (inl e) (inl x) = inl (free-node i s x.0 p x.1, subst (λ (y : Tree). Equal E s y) e same)
      one i j s t p q (inl e) (inr h) = inr (h.0, h.1, ap head_of (sym e) ∙ h.1)

      other : (i j : ℕ) (s t : Tree) → Stands g i s → Stands g j t → (IsFree E s × Equal E s t) ⊎ ((h : Head) × (head_of s ≡ Some h) × (head_of t ≡ Some h))
          → ((x : Var) × (s ≡ variable x)) ⊎ ((h : Head) × (head_of s ≡ Some h)) → ((x : Var) × (t ≡ variable x)) ⊎ ((h : Head) × (head_of t ≡ Some h)) → BeginAlike s t
      other i j s t p q (inr h) y z = inr h
      other i j s t p q (inl m) (inl x) (inl y) = let o : x.0 ≡ y.0 = r.one s t x.0 y.0 (itself i s x.0 p x.1) (itself j t y.0 q y.1) m.1 in inl (x.1 ∙ ap (λ (v : Var). variable v) o ∙ sym y.1)
      other i j s t p q (inl m) (inr h) z = absurd (m.0.free s h.0 same h.1)
      other i j s t p q (inl m) (inl x) (inr h) = absurd (m.0.free t h.0 m.1 h.1)

  are-there : (shown : List (List ℕ × Tree)) → AreBuilt go g shown → AreThere E g shown
  are-there [] a = tt
  are-there ((name, t) ∷ shown) a = ((a.0.0, go t, a.0.1, r.equal t), are-there shown a.1)

-- the graph is decided
pub decided : (symbols : List (List ℕ)) (go : Tree → Tree) (g : Graph) (tops blocks : List ℕ) (rank : ℕ → ℕ) (marked : ℕ → Bool) → IsWorkedOut symbols go g tops blocks rank marked → (E : Equations) → Represents E go
    → IsDecided symbols E g (at_node blocks) (λ i. rank (at_node blocks i)) (λ i. marked (at_node blocks i))
decided symbols go g tops blocks rank marked o E r =
    let y : IsGraphOf E g × AreTops E g tops = (graph go g tops o.built E r, are-tops go g tops o.built E r) in
    let z : IsStable E g (at_node blocks) × IsFair E g (at_node blocks) = coarsest E g tops blocks r.consistent y.0 y.1 o.coarsest in
    record {
      graph = y.0;
      stable = z.0;
      fair = z.1;
      ranked = record {
        one = λ i j e. ap rank e;
        down = o.certified.down;
        strict = o.certified.strict;
        back = λ i t p e. passes E g (at_node blocks) r.consistent y.0 z.0 i t p (o.certified.back i t p e);
      };
      names = o.names;
    }

pub represented_text : RepresentedTextLaw
represented_text symbols go g tops blocks rank marked shown o a E r =
    text_there symbols E g (at_node blocks) (λ i. rank (at_node blocks i)) (λ i. marked (at_node blocks i)) shown r.consistent (decided symbols go g tops blocks rank marked o E r) (are-there go g tops o.built E r shown a)
