-- A store is quiet under others exactly where the equations are for which they stand.
use Rattle.std.proofs.Common.{◌≡◌, ◌-◌, List, [], ◌∷◌, ◌++◌, length, drop, Some, None, sym, ◌∙◌, ap, subst, inl, inr, append-nil}
use Rattle.akl_terms.specs.declared.name.Name.{Name}
use Rattle.akl_terms.specs.declared.name.Var.{Var}
use Rattle.akl_terms.specs.declared.term.Node.{Node}
use Rattle.akl_terms.specs.declared.term.Term.{Term}
use Rattle.akl_terms.specs.Tree.{Tree, variable, head_of}
use Rattle.akl_terms.specs.Equal.{Equations, IsTold, Equal, told, IsConsistent, IsConsistentBy, IsStructured, IsQuiet}
use Rattle.akl_terms.specs.Solved.{SameTree}
use Rattle.akl_terms.specs.Standing.{StandFor}
use Rattle.akl_terms.specs.Touching.{IsLocal, IsOutside}
use Rattle.akl_terms.proofs.EqualLaws.{IsTold-left, IsTold-right, IsTold-either}
use Rattle.akl_terms.proofs.StandingLaws.{StandFor-follows, StandFor-back, StandFor-on}
use Rattle.constraint_laws.specs.Growth.{TellsOver}
use Rattle.constraint_laws.proofs.Decided.{kept_by}
use Rattle.constraint_laws.proofs.Grown.{over_kept}
use Rattle.constraint_laws.proofs.QuietStands.{quiet_stands}
use Rattle.constraint_laws.proofs.SameTrees.{equal_same, same_variable}
use Rattle.rational_unify.specs.Solving.{bindings_in}
use Rattle.local_store.specs.Stored.{Stored}
use Rattle.local_store.specs.Chained.{bindings_from, ToldBy}
use Rattle.local_store.proofs.Layers.{from-last, bindings-either, bindings-left, bindings-right}
use Rattle.entail_test.specs.Asked.{frames_from, KeepsApart}
use Rattle.table_laws.specs.Rows.{told_in}
use Rattle.guard_plan.specs.Guards.{IsQuietInside, KeepsApartInside}
use Rattle.table_laws.proofs.StoreChains.{told_stands, around_push}
use Rattle.guard_plan.proofs.Chains.{take_push, drop_push}

-- equations that stand for others over variables from outside keep the variables of these frames apart
pub keeps_apart : (F E : Equations) (frames outer : List Name) → ((y : Var) → IsLocal frames y → IsLocal outer y) → TellsOver (IsOutside outer) E → StandFor (IsTold F) (IsTold E) → IsConsistent F → KeepsApart frames F
keeps_apart F E frames outer among over stands c = record { each = λ x y outside local equal. absurd (at x y outside (among y local) local equal) }
  where
    unbound : (y : Var) → IsLocal outer y → IsStructured E y → ⊥
    unbound y local (t, h, equal, head) = elim (kept_by (over_kept (IsOutside outer) E over) equal) [
      | inl r ↦ let z : None ≡ Some h = ap head_of r ∙ head in cc
      | inr r ↦ r.0 local
    ]

    same_var_at : (x y : Var) → variable x ≡ variable y → y ≡ x
    same_var_at x y e = cc

    at : (x y : Var) → IsOutside frames x → IsLocal outer y → IsLocal frames y → Equal F (variable x) (variable y) → ⊥
    at x y outside away local equal =
        let same : SameTree (IsTold E) (variable x) (variable y) = stands.same_to c (variable x) (variable y) (λ n. equal_same F n (variable x) (variable y) equal) in
        let now : Equal E (variable x) (variable y) = same_variable E (variable x) y (unbound y away) same in
        elim (kept_by (over_kept (IsOutside outer) E over) now) [
          | inl r ↦ outside (subst (IsLocal frames) (same_var_at x y r) local)
          | inr r ↦ r.1 away
        ]

-- a path of stores and one more: the path stands for E, and with the one for E and its own equations
module _ (nodes : List Node) (path : List Stored) (s : Stored) (E own : Equations) (e : StandFor (IsTold (told_in nodes path)) (IsTold E)) (w : StandFor (IsTold (told_in nodes (path ++ s ∷ []))) (IsTold (E ++ own))) where
  abbrev outer : Equations
  outer = bindings_in nodes (bindings_from path)

  abbrev inner : Equations
  inner = bindings_in nodes s.bindings

  environment : StandFor (IsTold (bindings_in nodes (bindings_from path))) (IsTold E)
  environment = StandFor-on (told_stands nodes path) e

  last : bindings_from (path ++ s ∷ []) ≡ s.bindings ++ bindings_from path
  last = from-last path s

  apart : (a b : Tree) → ToldBy nodes (path ++ s ∷ []) a b → IsTold (bindings_in nodes (bindings_from path) ++ bindings_in nodes s.bindings) a b
  apart a b m = elim (bindings-either nodes s.bindings (bindings_from path) a b (subst (λ (l : List (Var × Term)). IsTold (bindings_in nodes l) a b) last m)) [
    | inl x ↦ IsTold-right (bindings_in nodes (bindings_from path)) (bindings_in nodes s.bindings) a b x
    | inr x ↦ IsTold-left (bindings_in nodes (bindings_from path)) (bindings_in nodes s.bindings) a b x
  ]

  together : (a b : Tree) → IsTold (bindings_in nodes (bindings_from path) ++ bindings_in nodes s.bindings) a b → ToldBy nodes (path ++ s ∷ []) a b
  together a b m = subst (λ (l : List (Var × Term)). IsTold (bindings_in nodes l) a b) (sym last) (elim (IsTold-either (bindings_in nodes (bindings_from path)) (bindings_in nodes s.bindings) a b m) [
    | inl x ↦ bindings-right nodes s.bindings (bindings_from path) a b x
    | inr x ↦ bindings-left nodes s.bindings (bindings_from path) a b x
  ])

  whole : StandFor (IsTold (E ++ own)) (IsTold (bindings_in nodes (bindings_from path) ++ bindings_in nodes s.bindings))
  whole = StandFor-on (StandFor-back w) (StandFor-on (StandFor-back (told_stands nodes (path ++ s ∷ []))) (StandFor-follows (λ a b m. told (apart a b m)) (λ a b m. told (together a b m))))

  itself : (A : Equations) → StandFor (IsTold A) (IsTold A)
  itself A = StandFor-follows (λ a b m. told m) (λ a b m. told m)

  abbrev Shown : List Stored → List Stored → Type 0
  Shown outside box = IsQuiet (bindings_in nodes (bindings_from outside)) (IsLocal (frames_from box)) (bindings_in nodes (bindings_from box))

  frames : frames_from (s ∷ []) ≡ s.frames
  frames = append-nil s.frames

  from_shown : IsQuietInside nodes (path ++ s ∷ []) → IsQuiet (bindings_in nodes (bindings_from path)) (IsLocal s.frames) (bindings_in nodes s.bindings)
  from_shown q = subst (λ (l : List Name). IsQuiet (bindings_in nodes (bindings_from path)) (IsLocal l) (bindings_in nodes s.bindings)) frames
      (subst (λ (b : List Stored). Shown path b) (drop_push path s) (subst (λ (o : List Stored). Shown o (drop (length (path ++ s ∷ []) - 1) (path ++ s ∷ []))) (take_push path s) q))

  to_shown : IsQuiet (bindings_in nodes (bindings_from path)) (IsLocal s.frames) (bindings_in nodes s.bindings) → IsQuietInside nodes (path ++ s ∷ [])
  to_shown q = subst (λ (o : List Stored). Shown o (drop (length (path ++ s ∷ []) - 1) (path ++ s ∷ []))) (sym (take_push path s))
      (subst (λ (b : List Stored). Shown path b) (sym (drop_push path s)) (subst (λ (l : List Name). IsQuiet (bindings_in nodes (bindings_from path)) (IsLocal l) (bindings_in nodes s.bindings)) (sym frames) q))

  pub quiet_box : IsQuietInside nodes (path ++ s ∷ []) → IsQuiet E (IsLocal s.frames) own
  quiet_box q = (quiet_stands E own outer (outer ++ inner) s.frames (StandFor-back environment) whole).1 ((quiet_stands outer inner outer (outer ++ inner) s.frames (itself outer) (itself (outer ++ inner))).0 (from_shown q))

  pub quiet_store : IsQuiet E (IsLocal s.frames) own → IsQuietInside nodes (path ++ s ∷ [])
  quiet_store q = to_shown ((quiet_stands outer inner outer (outer ++ inner) s.frames (itself outer) (itself (outer ++ inner))).1 ((quiet_stands E own outer (outer ++ inner) s.frames (StandFor-back environment) whole).0 q))

  pub keeps_inside : (frames : List Name) → ((y : Var) → IsLocal s.frames y → IsLocal frames y) → TellsOver (IsOutside frames) E → KeepsApartInside nodes (path ++ s ∷ [])
  keeps_inside frames among over c = subst (λ (o : List Stored). KeepsApart (frames_from (drop (length (path ++ s ∷ []) - 1) (path ++ s ∷ []))) (bindings_in nodes (bindings_from o))) (sym (take_push path s))
      (subst (λ (b : List Stored). KeepsApart (frames_from b) outer) (sym (drop_push path s)) (subst (λ (l : List Name). KeepsApart l outer) (sym (append-nil s.frames))
      (keeps_apart outer E s.frames frames among over environment (subst (λ (o : List Stored). IsConsistentBy (ToldBy nodes o)) (around_push path s) c))))

  pub consistent_box : IsConsistentBy (ToldBy nodes (path ++ s ∷ [])) → IsConsistent (E ++ own)
  consistent_box c = w.to ((told_stands nodes (path ++ s ∷ [])).to c)

  pub consistent_store : IsConsistent (E ++ own) → IsConsistentBy (ToldBy nodes (path ++ s ∷ []))
  consistent_store c = (told_stands nodes (path ++ s ∷ [])).back (w.back c)
