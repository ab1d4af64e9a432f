-- Steps on a path of boxes bind no reached variable in the innermost.
use Rattle.std.proofs.Common.{◌≡◌, List, [], ◌∷◌, ◌++◌, refl, ◌∙◌, ap, subst, ◌⊎◌, inl, inr, Some, None, append_assoc}
use Rattle.akl_terms.specs.declared.name.Name.{Name}
use Rattle.akl_terms.specs.declared.name.Var.{Var}
use Rattle.akl_terms.specs.Tree.{Tree, Trees, none, more, variable, integer, port, symbol, Head, head_of}
use Rattle.akl_terms.specs.Equal.{Equations, Equal, told, IsConsistent, IsStructured}
use Rattle.akl_terms.specs.Touching.{IsLocal}
use Rattle.akl_terms.proofs.EqualLaws.{Equal-follows, Follows-trans, IsTold-left, IsTold-right, IsTold-either}
use Rattle.reading_laws.specs.Closed.{Spares}
use Rattle.reading_laws.proofs.Inner.{Within}
use Rattle.constraint_laws.specs.Growth.{IsOver, AreOver, TellsOver}
use Rattle.constraint_laws.proofs.Decided.{kept_by}
use Rattle.constraint_laws.proofs.Grown.{over_kept}
use Rattle.constraint_laws.proofs.Beside.{left_follows}
use Rattle.constraint_laws.proofs.Inward.{bound_outer}

mutual
  pub over_wider : (P Q : Var → Type 0) → ((x : Var) → P x → Q x) → (t : Tree) → IsOver P t → IsOver Q t
  over_wider P Q f (variable x) h = f x h
  over_wider P Q f (integer z) h = tt
  over_wider P Q f (port q) h = tt
  over_wider P Q f (symbol g ts) h = all_wider P Q f ts h

  all_wider : (P Q : Var → Type 0) → ((x : Var) → P x → Q x) → (ts : Trees) → AreOver P ts → AreOver Q ts
  all_wider P Q f none h = tt
  all_wider P Q f (more t ts) h = (over_wider P Q f t h.0, all_wider P Q f ts h.1)

pub tells_wider : (P Q : Var → Type 0) → ((x : Var) → P x → Q x) → (E : Equations) → TellsOver P E → TellsOver Q E
tells_wider P Q f E o = record { each = λ s t m. let h : IsOver P s × IsOver P t = o.each s t m in (over_wider P Q f s h.0, over_wider P Q f t h.1) }

pub tells_both : (P : Var → Type 0) (E F : Equations) → TellsOver P E → TellsOver P F → TellsOver P (E ++ F)
tells_both P E F o u = record { each = λ s t m. elim (IsTold-either E F s t m) [ inl x ↦ o.each s t x | inr y ↦ u.each s t y ] }

pub spares_fewer : (P Q : Var → Type 0) → ((x : Var) → P x → Q x) → (E G : Equations) → Spares Q E G → Spares P E G
spares_fewer P Q f E G s = record { grows = s.grows; consistent = s.consistent; unbound = λ x r b. s.unbound x (f x r) b }

-- what doesn't occur is unstructured
pub foreign_unstructured : (P : Var → Type 0) (E : Equations) → TellsOver P E → (x : Var) → (P x → ⊥) → IsStructured E x → ⊥
foreign_unstructured P E o x n w = head w.0 w.1 w.2 w.3
  where
    head : (t : Tree) (h : Head) → Equal E (variable x) t → head_of t ≡ Some h → ⊥
    head t h e i = elim (kept_by (over_kept P E o) e) [ inl r ↦ (let k : None ≡ Some h = ap head_of r ∙ i in absurd cc) | inr p ↦ n p.0 ]

-- more around: what is over the variables stands further in
pub within_more : (R : Var → Type 0) (E G A B C : Equations) → Within R E G A B → TellsOver R C → IsConsistent (A ++ C) → Within R E G (A ++ C) (B ++ C)
within_more R E G A B C w o c = record {
  spares = w.spares;
  closed = w.closed;
  to_inner = Follows-trans w.to_inner (left_follows A C);
  inner_grows = record { each = λ {s} {t} m. elim (IsTold-either A C s t m) [ inl x ↦ Equal-follows (left_follows B C) (w.inner_grows.each x) | inr y ↦ told (IsTold-right B C s t y) ] };
  grown_inner = Follows-trans w.grown_inner (left_follows B C);
  parts = λ s t m. elim (IsTold-either B C s t m) [
    | inl x ↦ elim (w.parts s t x) [ inl y ↦ inl y | inr (y, a, b) ↦ inr (IsTold-left A C s t y, a, b) ]
    | inr y ↦ let h : IsOver R s × IsOver R t = o.each s t y in inr (IsTold-right A C s t y, h.0, h.1)
  ];
  consistent = c;
}

pub nil_right : (E : Equations) → E ++ [] ≡ E
nil_right [] = refl
nil_right (e ∷ es) = ap (λ (xs : Equations). e ∷ xs) (nil_right es)

pub regroup_two : (R : Var → Type 0) (A B C D X Y : Equations) → Spares R ((A ++ C) ++ X) ((B ++ D) ++ Y) → Spares R (A ++ (C ++ X)) (B ++ (D ++ Y))
regroup_two R A B C D X Y s = subst (λ (Z : Equations). Spares R Z (B ++ (D ++ Y))) (append_assoc A C X) (subst (Spares R ((A ++ C) ++ X)) (append_assoc B D Y) s)

pub regroup : (R : Var → Type 0) (A B C D X : Equations) → Spares R ((A ++ C) ++ X) ((B ++ D) ++ X) → Spares R (A ++ (C ++ X)) (B ++ (D ++ X))
regroup R A B C D X s = regroup_two R A B C D X X s

-- a step in a box, seen from the boxes further in
module _ (R : Var → Type 0) (F : List Name) (E G : Equations) where
  abbrev Seen : Var → Type 0
  Seen x = R x ⊎ (IsLocal F x → ⊥)

  -- all variables that don't occur are seen
  pub seen_spares : TellsOver (IsLocal F) G → Spares R E G → Spares Seen E G
  seen_spares o s = record { grows = s.grows; consistent = s.consistent; unbound = λ x r b. elim r [ inl h ↦ s.unbound x h b | inr h ↦ h (bound_outer (IsLocal F) E G o x b) ] }

pub spares_itself : (R : Var → Type 0) (E : Equations) → IsConsistent E → Spares R E E
spares_itself R E c = record { grows = record { each = told }; consistent = c; unbound = λ x r b. elim b.told [ inl w ↦ b.unstructured w | inr w ↦ w.2 w.1 ] }
