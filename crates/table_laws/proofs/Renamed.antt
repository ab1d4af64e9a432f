-- What follows from equations follows from them under other names, where names are swapped.
use Rattle.std.proofs.Common.{◌≡◌, ℕ, zero, suc, List, [], ◌∷◌, ◌++◌, length, map, Some, refl, sym, ◌∙◌, ap, subst, inl, inr}
use Rattle.std.specs.Prelude.{slice_get}
use Rattle.akl_terms.specs.declared.name.Name.{Name}
use Rattle.akl_terms.specs.Tree.{Tree, Trees, variable, integer, port, symbol, none, more, list_of, Head, integer_head, port_head, symbol_head, head_of, arguments}
use Rattle.akl_terms.specs.Equal.{Equations, IsTold, told, same, turned, joined, inside, Equal, IsConsistent}
use Rattle.akl_terms.specs.Solved.{SameIn, IsUnstructured}
use Rattle.akl_terms.specs.Standing.{StandFor}
use Rattle.akl_model.specs.Renaming.{renamed_tree, renamed_trees, renamed_equation}

module _ (f : Name → Name) where
  -- the heads and arguments of terms

  list_renamed : (ts : Trees) → list_of (renamed_trees f ts) ≡ map (renamed_tree f) (list_of ts)
  list_renamed none = refl
  list_renamed (more t ts) = ap (λ (x : List Tree). renamed_tree f t ∷ x) (list_renamed ts)

  length_renamed : (ts : List Tree) → length (map (renamed_tree f) ts) ≡ length ts
  length_renamed [] = refl
  length_renamed (t ∷ ts) = ap suc (length_renamed ts)

  abbrev renamed_head : Head → Head
  renamed_head (integer_head z) = integer_head z
  renamed_head (port_head p) = port_head (f p)
  renamed_head (symbol_head s n) = symbol_head s n

  head_renamed : (t : Tree) (h : Head) → head_of t ≡ Some h → head_of (renamed_tree f t) ≡ Some (renamed_head h)
  head_renamed (variable x) h e = cc
  head_renamed (integer z) h e = on h e
    where
      on : (h : Head) → Some (integer_head z) ≡ Some h → Some (integer_head z) ≡ Some (renamed_head h)
      on (integer_head y) e = e
      on (port_head p) e = cc
      on (symbol_head s n) e = cc
  head_renamed (port p) h e = on h e
    where
      on : (h : Head) → Some (port_head p) ≡ Some h → Some (port_head (f p)) ≡ Some (renamed_head h)
      on (integer_head y) e = cc
      on (port_head q) e = let i : p ≡ q = cc in ap (λ (x : Name). Some (port_head (f x))) i
      on (symbol_head s n) e = cc
  head_renamed (symbol s ts) h e = on h e
    where
      on : (h : Head) → Some (symbol_head s (length (list_of ts))) ≡ Some h → Some (symbol_head s (length (list_of (renamed_trees f ts)))) ≡ Some (renamed_head h)
      on (integer_head y) e = cc
      on (port_head q) e = cc
      on (symbol_head r n) e = ap (λ (x : ℕ). Some (symbol_head s x)) (ap length (list_renamed ts) ∙ length_renamed (list_of ts)) ∙ e

  arguments_renamed : (t : Tree) → arguments (renamed_tree f t) ≡ map (renamed_tree f) (arguments t)
  arguments_renamed (variable x) = refl
  arguments_renamed (integer z) = refl
  arguments_renamed (port p) = refl
  arguments_renamed (symbol s ts) = list_renamed ts

  at_renamed : (ts : List Tree) (k : ℕ) (a : Tree) → slice_get ts k ≡ Some a → slice_get (map (renamed_tree f) ts) k ≡ Some (renamed_tree f a)
  at_renamed [] k a e = cc
  at_renamed (t ∷ ts) zero a e = let i : t ≡ a = cc in ap (λ (x : Tree). Some (renamed_tree f x)) i
  at_renamed (t ∷ ts) (suc k) a e = at_renamed ts k a e

  at_was : (ts : List Tree) (k : ℕ) (a : Tree) → slice_get (map (renamed_tree f) ts) k ≡ Some a → (b : Tree) × (slice_get ts k ≡ Some b) × (renamed_tree f b ≡ a)
  at_was [] k a e = cc
  at_was (t ∷ ts) zero a e = (t, refl, cc)
  at_was (t ∷ ts) (suc k) a e = at_was ts k a e

  -- equality

  pub told_renamed : (E : Equations) (s t : Tree) → IsTold E s t → IsTold (map (renamed_equation f) E) (renamed_tree f s) (renamed_tree f t)
  told_renamed [] s t m = m
  told_renamed (e ∷ E) s t (inl m) = inl (ap (renamed_tree f) m.0, ap (renamed_tree f) m.1)
  told_renamed (e ∷ E) s t (inr m) = inr (told_renamed E s t m)

  pub equal_renamed : (E : Equations) {s t : Tree} → Equal E s t → Equal (map (renamed_equation f) E) (renamed_tree f s) (renamed_tree f t)
  equal_renamed E (told {s} {t} m) = told (told_renamed E s t m)
  equal_renamed E same = same
  equal_renamed E (turned p) = turned (equal_renamed E p)
  equal_renamed E (joined p q) = joined (equal_renamed E p) (equal_renamed E q)
  equal_renamed E (inside {s} {t} {a} {b} {h} at p hs ht is_a is_b) = inside {h = renamed_head h} at (equal_renamed E p) (head_renamed s h hs) (head_renamed t h ht)
      (ap (λ (x : List Tree). slice_get x at) (arguments_renamed s) ∙ at_renamed (arguments s) at a is_a)
      (ap (λ (x : List Tree). slice_get x at) (arguments_renamed t) ∙ at_renamed (arguments t) at b is_b)

  pub equations_append : (E F : Equations) → map (renamed_equation f) (E ++ F) ≡ map (renamed_equation f) E ++ map (renamed_equation f) F
  equations_append [] F = refl
  equations_append (e ∷ E) F = ap (λ (x : Equations). renamed_equation f e ∷ x) (equations_append E F)

  -- where each name comes back
  module _ (twice : (n : Name) → f (f n) ≡ n) where
    mutual
      pub tree_twice : (t : Tree) → renamed_tree f (renamed_tree f t) ≡ t
      tree_twice (variable x) = ap (λ (n : Name). variable (record { frame = n; index = x.index })) (twice x.frame)
      tree_twice (integer z) = refl
      tree_twice (port p) = ap port (twice p)
      tree_twice (symbol s ts) = ap (symbol s) (trees_twice ts)

      trees_twice : (ts : Trees) → renamed_trees f (renamed_trees f ts) ≡ ts
      trees_twice none = refl
      trees_twice (more t ts) = λ i. more (tree_twice t i) (trees_twice ts i)

    pub equations_twice : (E : Equations) → map (renamed_equation f) (map (renamed_equation f) E) ≡ E
    equations_twice [] = refl
    equations_twice (e ∷ E) = λ i. record { left = tree_twice e.left i; right = tree_twice e.right i } ∷ equations_twice E i

    equal_back : (E : Equations) {s t : Tree} → Equal (map (renamed_equation f) E) s t → Equal E (renamed_tree f s) (renamed_tree f t)
    equal_back E {s} {t} p = subst (λ (F : Equations). Equal F (renamed_tree f s) (renamed_tree f t)) (equations_twice E) (equal_renamed (map (renamed_equation f) E) p)

    head_back : (g h : Head) → renamed_head g ≡ renamed_head h → g ≡ h
    head_back (integer_head y) (integer_head z) e = e
    head_back (integer_head y) (port_head p) e = cc
    head_back (integer_head y) (symbol_head s n) e = cc
    head_back (port_head p) (integer_head z) e = cc
    head_back (port_head p) (port_head q) e = let i : f p ≡ f q = cc in ap port_head (sym (twice p) ∙ ap f i ∙ twice q)
    head_back (port_head p) (symbol_head s n) e = cc
    head_back (symbol_head r m) (integer_head z) e = cc
    head_back (symbol_head r m) (port_head p) e = cc
    head_back (symbol_head r m) (symbol_head s n) e = e

    consistent_renamed : (E : Equations) → IsConsistent E → IsConsistent (map (renamed_equation f) E)
    consistent_renamed E c = record { heads = λ {s} {t} {g} {h} p hs ht. head_back g h (c.heads (equal_back E p) (head_renamed s g hs) (head_renamed t h ht)) }

    consistent_back : (E : Equations) → IsConsistent (map (renamed_equation f) E) → IsConsistent E
    consistent_back E c = subst IsConsistent (equations_twice E) (consistent_renamed (map (renamed_equation f) E) c)

    unstructured_renamed : (E : Equations) (s : Tree) → IsUnstructured (IsTold E) s → IsUnstructured (IsTold (map (renamed_equation f) E)) (renamed_tree f s)
    unstructured_renamed E s n u h p e = n (renamed_tree f u) (renamed_head h) (subst (λ (x : Tree). Equal E x (renamed_tree f u)) (tree_twice s) (equal_back E p)) (head_renamed u h e)

    -- the same trees

    same_renamed : (E : Equations) (n : ℕ) (s t : Tree) → SameIn (IsTold E) n s t → SameIn (IsTold (map (renamed_equation f) E)) n (renamed_tree f s) (renamed_tree f t)
    same_renamed E zero s t x = tt
    same_renamed E (suc n) s t (inl (p, q)) = inl (equal_renamed E p, unstructured_renamed E s q)
    same_renamed E (suc n) s t (inr (u, v, h, p, q, hu, hv, each)) = inr (
      renamed_tree f u,
      renamed_tree f v,
      renamed_head h,
      equal_renamed E p,
      equal_renamed E q,
      head_renamed u h hu,
      head_renamed v h hv,
      λ k a b x y.
          let w : (a : Tree) × (slice_get (arguments u) k ≡ Some a) × _ = at_was (arguments u) k a (ap (λ (ts : List Tree). slice_get ts k) (sym (arguments_renamed u)) ∙ x) in
          let z : (b : Tree) × (slice_get (arguments v) k ≡ Some b) × _ = at_was (arguments v) k b (ap (λ (ts : List Tree). slice_get ts k) (sym (arguments_renamed v)) ∙ y) in
          subst (λ (c : Tree). SameIn (IsTold (map (renamed_equation f) E)) n c b) w.2 (subst (λ (c : Tree). SameIn (IsTold (map (renamed_equation f) E)) n (renamed_tree f w.0) c) z.2 (same_renamed E n w.0 z.0 (each k w.0 z.0 w.1 z.1))),
    )

    same_back : (E : Equations) (n : ℕ) (s t : Tree) → SameIn (IsTold (map (renamed_equation f) E)) n s t → SameIn (IsTold E) n (renamed_tree f s) (renamed_tree f t)
    same_back E n s t x = subst (λ (F : Equations). SameIn (IsTold F) n (renamed_tree f s) (renamed_tree f t)) (equations_twice E) (same_renamed (map (renamed_equation f) E) n s t x)

    same_again : (E : Equations) (n : ℕ) (s t : Tree) → SameIn (IsTold E) n (renamed_tree f s) (renamed_tree f t) → SameIn (IsTold (map (renamed_equation f) E)) n s t
    same_again E n s t x = subst (λ (a : Tree). SameIn (IsTold (map (renamed_equation f) E)) n a t) (tree_twice s)
        (subst (λ (b : Tree). SameIn (IsTold (map (renamed_equation f) E)) n (renamed_tree f (renamed_tree f s)) b) (tree_twice t) (same_renamed E n (renamed_tree f s) (renamed_tree f t) x))

    -- equations that stand for others do so under other names
    pub stands_renamed : (E F : Equations) → StandFor (IsTold E) (IsTold F) → StandFor (IsTold (map (renamed_equation f) E)) (IsTold (map (renamed_equation f) F))
    stands_renamed E F x = record {
      to = λ c. consistent_renamed F (x.to (consistent_back E c));
      back = λ c. consistent_renamed E (x.back (consistent_back F c));
      same_to = λ c s t y n. same_again F n s t (x.same_to (consistent_back E c) (renamed_tree f s) (renamed_tree f t) (λ k. same_back E k s t (y k)) n);
      same_back = λ c s t y n. same_again E n s t (x.same_back (consistent_back E c) (renamed_tree f s) (renamed_tree f t) (λ k. same_back F k s t (y k)) n);
    }
