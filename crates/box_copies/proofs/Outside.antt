-- Where equations stay as they are under other names, so does each variable that a solved form of them binds.
use Rattle.std.proofs.Common.{◌≡◌, ℕ, zero, suc, ◌<◌, List, [], ◌∷◌, map, length, Some, None, refl, sym, ap, subst, ◌∙◌, ◌⊎◌, inl, inr, arith}
use Rattle.std.specs.Prelude.{option_map, slice_get}
use Rattle.akl_terms.specs.declared.name.Name.{Name}
use Rattle.akl_terms.specs.declared.name.Var.{Var}
use Rattle.akl_terms.specs.declared.term.Node.{Node}
use Rattle.akl_terms.specs.declared.term.Term.{Term}
use Rattle.akl_terms.specs.Tree.{Tree, Trees, variable, integer, port, symbol, none, more, list_of, arguments, head_of}
use Rattle.akl_terms.specs.Equal.{Equation, Equations, IsTold, EqualBy, told, same, turned, joined, inside}
use Rattle.akl_terms.specs.Solved.{bound, SameIn, steps}
use Rattle.akl_terms.specs.Standing.{StandFor}
use Rattle.akl_terms.specs.Template.{tree}
use Rattle.akl_terms.proofs.Arguments.{same_value}
use Rattle.akl_model.specs.Renaming.{renamed_tree, renamed_trees, renamed_equation}
use Rattle.constraint_laws.proofs.SameTrees.{equal_same}
use Rattle.rational_unify.specs.Known.{found_in, bound_in}
use Rattle.rational_unify.specs.Solving.{bindings_in}
use Rattle.rational_unify.specs.Forms.{IsFormOf}
use Rattle.rational_unify.proofs.FormLaws.{form-consistent}
use Rattle.rational_unify.proofs.Walks.{bound_falls}
use Rattle.local_store.proofs.Parts.{bound-told}

module _ (f : Name → Name) where
  abbrev pub IsFixed : Tree → Type 0
  IsFixed t = renamed_tree f t ≡ t

  told_fixed : (E : Equations) → map (renamed_equation f) E ≡ E → (s t : Tree) → IsTold E s t → IsFixed s × IsFixed t
  told_fixed [] stays s t m = absurd m
  told_fixed (e ∷ E) stays s t (inl m) = let one : renamed_equation f e ≡ e = cc in (subst IsFixed (sym m.0) (ap (λ (d : Equation). d.left) one), subst IsFixed (sym m.1) (ap (λ (d : Equation). d.right) one))
  told_fixed (e ∷ E) stays s t (inr m) = let rest : map (renamed_equation f) E ≡ E = cc in told_fixed E rest s t m

  trees_fixed : (ts : Trees) → renamed_trees f ts ≡ ts → (k : ℕ) (a : Tree) → slice_get (list_of ts) k ≡ Some a → IsFixed a
  trees_fixed none stays k a e = cc
  trees_fixed (more t ts) stays zero a e = let one : renamed_tree f t ≡ t = cc in subst IsFixed (same_value refl e) one
  trees_fixed (more t ts) stays (suc k) a e = let rest : renamed_trees f ts ≡ ts = cc in trees_fixed ts rest k a e

  argument_fixed : (s : Tree) → IsFixed s → (k : ℕ) (a : Tree) → slice_get (arguments s) k ≡ Some a → IsFixed a
  argument_fixed (variable x) stays k a e = cc
  argument_fixed (integer z) stays k a e = cc
  argument_fixed (port p) stays k a e = cc
  argument_fixed (symbol g ts) stays k a e = let all : renamed_trees f ts ≡ ts = cc in trees_fixed ts all k a e

  -- equal terms are one, or both stay as they are
  equal_fixed : (E : Equations) → map (renamed_equation f) E ≡ E → {s t : Tree} → EqualBy (IsTold E) s t → (s ≡ t) ⊎ (IsFixed s × IsFixed t)
  equal_fixed E stays (told {s} {t} m) = inr (told_fixed E stays s t m)
  equal_fixed E stays same = inl refl
  equal_fixed E stays (turned p) = elim (equal_fixed E stays p) [ inl e ↦ inl (sym e) | inr w ↦ inr (w.1, w.0) ]
  equal_fixed E stays (joined {s} {t} {u} p q) = elim (equal_fixed E stays p) [
    | inl e ↦ elim (equal_fixed E stays q) [ inl g ↦ inl (e ∙ g) | inr w ↦ inr (subst IsFixed (sym e) w.0, w.1) ]
    | inr v ↦ elim (equal_fixed E stays q) [ inl g ↦ inr (v.0, subst IsFixed g v.1) | inr w ↦ inr (v.0, w.1) ]
  ]
  equal_fixed E stays (inside {s} {t} {a} {b} {h} at p hs ht is_a is_b) = elim (equal_fixed E stays p) [
    | inl e ↦ inl (same_value is_a (ap (λ (x : Tree). slice_get (arguments x) at) e ∙ is_b))
    | inr w ↦ inr (argument_fixed s w.0 at a is_a, argument_fixed t w.1 at b is_b)
  ]

  frame_fixed : (x : Var) → IsFixed (variable x) → f x.frame ≡ x.frame
  frame_fixed x e = let one : record { frame = f x.frame; index = x.index } ≡ x = cc in ap (λ (y : Var). y.frame) one

  -- a solved form of equations that stand for these binds variables alone whose frames stay
  pub bound_fixed : (E : Equations) → map (renamed_equation f) E ≡ E → (nodes : List Node) (bs : List (Var × Term)) → IsFormOf nodes bs (IsTold (bindings_in nodes bs)) → StandFor (IsTold (bindings_in nodes bs)) (IsTold E)
      → (x : Var) (t : Term) → found_in bs x ≡ Some t → f x.frame ≡ x.frame
  bound_fixed E stays nodes bs form stands x t e =
      on (stands.same_to (form-consistent nodes bs (IsTold (bindings_in nodes bs)) form) (variable x) (tree nodes t)
      (λ n. equal_same (bindings_in nodes bs) n (variable x) (tree nodes t) (told (bound-told nodes bs (variable x) (tree nodes t) (bound look)))) 1)
    where
      look : bound_in nodes bs x ≡ Some (tree nodes t)
      look = ap (option_map (tree nodes)) e

      by : (u : Tree) → (variable x ≡ u → ⊥) → (variable x ≡ u) ⊎ (IsFixed (variable x) × IsFixed u) → f x.frame ≡ x.frame
      by u n (inl q) = absurd (n q)
      by u n (inr w) = frame_fixed x w.0

      itself : variable x ≡ tree nodes t → ⊥
      itself q =
          let less : steps (suc (length bs)) (bound_in nodes bs) (tree nodes t) < steps (suc (length bs)) (bound_in nodes bs) (variable x) = bound_falls (bound_in nodes bs) (length bs) x (tree nodes t) form.solved.ends look in
          let one : steps (suc (length bs)) (bound_in nodes bs) (variable x) ≡ steps (suc (length bs)) (bound_in nodes bs) (tree nodes t) = ap (steps (suc (length bs)) (bound_in nodes bs)) q in
          omega arith

      on : SameIn (IsTold E) 1 (variable x) (tree nodes t) → f x.frame ≡ x.frame
      on (inl w) = by (tree nodes t) itself (equal_fixed E stays w.0)
      on (inr w) = by w.0 (λ q. let h : None ≡ Some w.2 = ap head_of q ∙ w.5 in cc) (equal_fixed E stays w.3)
