-- Solved forms of one layer over another.
use Rattle.std.proofs.Common.{◌≡◌, ℕ, zero, suc, List, [], ◌∷◌, ◌++◌, length, Option, Some, None, Bool, true, false, cond, if◌then◌else◌, refl, sym, ap, subst, ◌∙◌, ◌⊎◌, inl, inr, arith, ◌+◌, append_assoc, append-nil, take, drop, slice_index_or, ◌<◌}
use Rattle.std.specs.Prelude.{option_map, find, slice_get}
use Rattle.akl_terms.specs.declared.name.Var.{Var}
use Rattle.akl_terms.specs.declared.term.Node.{Node}
use Rattle.akl_terms.specs.declared.term.Term.{Term}
use Rattle.akl_terms.specs.declared.term.Equation as code
use Rattle.akl_terms.specs.Tree.{Tree, Head, head_of, arguments}
use Rattle.akl_terms.specs.Equal.{IsTold, EqualBy, told, IsConsistentBy}
use Rattle.akl_terms.specs.Solved.{Bindings, IsBound, SameTo, SameTree, Agree, EndsWithin, walk}
use Rattle.akl_terms.specs.Template.{tree}
use Rattle.akl_terms.proofs.EqualLaws.{EqualBy-follows}
use Rattle.akl_terms.specs.Names.{same_var}
use Rattle.rational_unify.specs.Known.{found_in, bound_in, IsSolved, end_of}
use Rattle.rational_unify.specs.Solving.{bindings_in, equations_in, Tells, BindNew, IsSolution}
use Rattle.rational_unify.specs.Older.{LeadOlder}
use Rattle.rational_unify.specs.Forms.{IsFormOf, TellsBindings, Takes, IsClashOfBindings}
use Rattle.local_store.specs.Stored.{Stored, var_before, joined, joins}
use Rattle.akl_terms.specs.Standing.{StandFor}
use Rattle.local_store.specs.Chained.{bindings_from, innermost, around}
use Rattle.akl_terms.proofs.SameNames.{same_var-equal, same_var-refl}
use Rattle.rational_unify.proofs.Chains.{found-first, found-second, found-none, BindNew-bound}
use Rattle.rational_unify.proofs.Taking.{take-next}
use Rattle.rational_unify.proofs.Walks.{walk-extends, Extends, EndsWithin-leads}
use Rattle.rational_unify.proofs.Same.{Bound-same}
use Rattle.rational_unify.proofs.Stands.{SameIn-to, SameTo-in}
use Rattle.rational_unify.proofs.FormLaws.{bound-either, form-leads, form-holds, form-follows, form-stays, form-consistent}

-- a solved form that has more bindings
module _ (nodes : List Node) (bs more : List (Var × Term)) (h : IsSolved nodes (bs ++ more)) where
  extends : Extends (bound_in nodes bs) (bound_in nodes (bs ++ more))
  extends = record { kept = λ y t e. at y t e (found_in bs y) refl }
    where
      at : (y : Var) (t : Tree) → bound_in nodes bs y ≡ Some t → (w : Option Term) → found_in bs y ≡ w → bound_in nodes (bs ++ more) y ≡ Some t
      at y t e None q = let z : None ≡ Some t = sym (ap (option_map (tree nodes)) q) ∙ e in cc
      at y t e (Some v) q = ap (option_map (tree nodes)) (found-first bs more y v q) ∙ sym (ap (option_map (tree nodes)) q) ∙ e

  pub end-extends : (t : Tree) → end_of nodes (bs ++ more) t ≡ end_of nodes (bs ++ more) (end_of nodes bs t)
  end-extends t = walk-extends (bound_in nodes bs) (bound_in nodes (bs ++ more)) (length (bs ++ more)) (suc (length bs)) extends h.ends t

  stays : (t : Tree) (g : Head) → head_of t ≡ Some g → end_of nodes (bs ++ more) t ≡ t
  stays t g e = (EndsWithin-leads (bound_in nodes (bs ++ more)) (length (bs ++ more)) h.ends).other e

  -- the same tree stays the same tree
  pub same-grows : (n : ℕ) (s t : Tree) → SameTo (end_of nodes bs) n s t → SameTo (end_of nodes (bs ++ more)) n s t
  same-grows zero s t m = tt
  same-grows (suc n) s t m = on m (λ a b. same-grows n a b)
    where
      on : Agree (SameTo (end_of nodes bs) n) (end_of nodes bs s) (end_of nodes bs t) → ((a b : Tree) → SameTo (end_of nodes bs) n a b → SameTo (end_of nodes (bs ++ more)) n a b)
          → Agree (SameTo (end_of nodes (bs ++ more)) n) (end_of nodes (bs ++ more) s) (end_of nodes (bs ++ more) t)
      on (inl e) f = inl (end-extends s ∙ ap (end_of nodes (bs ++ more)) e ∙ sym (end-extends t))
      on (inr w) f = inr (
        w.0,
        ap head_of es ∙ w.1,
        ap head_of et ∙ w.2,
        λ k a b p q. f a b (w.3 k a b (sym (ap (λ (x : Tree). slice_get (arguments x) k) es) ∙ p) (sym (ap (λ (x : Tree). slice_get (arguments x) k) et) ∙ q)),
      )
        where
          es : end_of nodes (bs ++ more) s ≡ end_of nodes bs s
          es = end-extends s ∙ stays (end_of nodes bs s) w.0 w.1

          et : end_of nodes (bs ++ more) t ≡ end_of nodes bs t
          et = end-extends t ∙ stays (end_of nodes bs t) w.0 w.2

-- a solved form of what R tells, and with more bindings one of the bound ones and S, is one of both
pub form-join : (nodes : List Node) (bs more : List (Var × Term)) (R S T : Tree → Tree → Type 0) → IsFormOf nodes bs R → IsFormOf nodes (bs ++ more) S
    → ((s t : Tree) → S s t → IsBound (bound_in nodes bs) s t ⊎ T s t) → ((s t : Tree) → T s t → S s t) → IsFormOf nodes (bs ++ more) (λ s t. R s t ⊎ T s t)
form-join nodes bs more R S T f g either back = record {
  solved = g.solved;
  follow = λ s t m. EqualBy-follows (λ a b e. elim (either a b e) [ inl x ↦ EqualBy-follows (λ c d y. told (inl y)) (f.follow a b x) | inr y ↦ told (inr y) ]) (g.follow s t m);
  hold = λ s t m n. elim m [ inl x ↦ same-grows nodes bs more g.solved n s t (f.hold s t x n) | inr y ↦ g.hold s t (back s t y) n ];
}

-- of what tells the same
pub form-as : (nodes : List Node) (bs : List (Var × Term)) (R S : Tree → Tree → Type 0) → IsFormOf nodes bs R → ((s t : Tree) → R s t → S s t) → ((s t : Tree) → S s t → R s t) → IsFormOf nodes bs S
form-as nodes bs R S f to back = record {
  solved = f.solved;
  follow = λ s t m. EqualBy-follows (λ a b e. told (to a b e)) (f.follow s t m);
  hold = λ s t m n. f.hold s t (back s t m) n;
}

-- what is added to a solved form for equations
module _ (nodes : List Node) (bs : List (Var × Term)) (es : List code.Equation) (more : List (Var × Term)) (R : Tree → Tree → Type 0) (f : IsFormOf nodes bs R) (s : IsSolution nodes bs es more) where
  solution-form : IsFormOf nodes (bs ++ more) (Tells nodes bs es)
  solution-form = record {
    solved = s.solved;
    follow = λ a b m. elim (bound-either nodes bs more a b m) [ inl x ↦ told (inl x) | inr y ↦ s.follow a b y ];
    hold = λ a b m n. s.hold a b (told m) n;
  }

  pub form-equations : IsFormOf nodes (bs ++ more) (λ a b. R a b ⊎ IsTold (equations_in nodes es) a b)
  form-equations = form-join nodes bs more R (Tells nodes bs es) (IsTold (equations_in nodes es)) f solution-form (λ a b m. m) (λ a b m. inr m)

  pub form-added : IsFormOf nodes (bs ++ more) (λ a b. R a b ⊎ IsTold (bindings_in nodes more) a b)
  form-added = record {
    solved = s.solved;
    follow = λ a b m. elim (bound-either nodes bs more a b m) [ inl x ↦ EqualBy-follows (λ c d y. told (inl y)) (f.follow a b x) | inr y ↦ told (inr y) ];
    hold = λ a b m n. elim m [
      | inl x ↦ same-grows nodes bs more s.solved n a b (f.hold a b x n)
      | inr y ↦ Bound-same (bound_in nodes (bs ++ more)) (end_of nodes (bs ++ more)) (form-leads nodes (bs ++ more) (λ a b. R a b ⊎ IsTold (equations_in nodes es) a b) form-equations) n a b (BindNew-bound nodes bs more a b s.fresh y)
    ];
  }

-- two that have one solved form stand for each other
module _ (nodes : List Node) (bs : List (Var × Term)) (R S : Tree → Tree → Type 0) (f : IsFormOf nodes bs R) (g : IsFormOf nodes bs S) where
  one_way : (R S : Tree → Tree → Type 0) → IsFormOf nodes bs R → IsFormOf nodes bs S → (s t : Tree) → SameTree R s t → SameTree S s t
  one_way R S f g s t m = λ n.
      SameTo-in S (end_of nodes bs) (form-stays nodes bs S g) (form-holds nodes bs S g) (form-follows nodes bs S g) n s t
      (SameIn-to R (end_of nodes bs) (form-stays nodes bs R f) (form-holds nodes bs R f) (form-follows nodes bs R f) n s t (m n))

  pub forms-stand : StandFor R S
  forms-stand = record {
    to = λ c. form-consistent nodes bs S g;
    back = λ c. form-consistent nodes bs R f;
    same_to = λ c s t m. one_way R S f g s t m;
    same_back = λ c s t m. one_way S R g f s t m;
  }

-- where both are inconsistent
pub inconsistent-stand : (R S : Tree → Tree → Type 0) → (IsConsistentBy R → ⊥) → (IsConsistentBy S → ⊥) → StandFor R S
inconsistent-stand R S r s = record { to = λ c. absurd (r c); back = λ c. absurd (s c); same_to = λ c a b m. absurd (r c); same_back = λ c a b m. absurd (r c) }

-- other lists in which the same is found
module _ (bs cs : List (Var × Term)) (same : (y : Var) → found_in bs y ≡ found_in cs y) where
  pub found-append-as : (more : List (Var × Term)) (y : Var) → found_in (bs ++ more) y ≡ found_in (cs ++ more) y
  found-append-as more y = on (found_in bs y) refl
    where
      on : (o : Option Term) → found_in bs y ≡ o → found_in (bs ++ more) y ≡ found_in (cs ++ more) y
      on None e = found-second bs more y e ∙ sym (found-second cs more y (sym (same y) ∙ e))
      on (Some t) e = found-first bs more y t e ∙ sym (found-first cs more y t (sym (same y) ∙ e))

pub BindNew-as : (bs cs : List (Var × Term)) → ((y : Var) → found_in bs y ≡ found_in cs y) → (more : List (Var × Term)) → BindNew bs more → BindNew cs more
BindNew-as bs cs same [] h = tt
BindNew-as bs cs same (b ∷ more) h = (sym (same b.0) ∙ h.0, BindNew-as (bs ++ b ∷ []) (cs ++ b ∷ []) (found-append-as bs cs same (b ∷ [])) more h.1)

abbrev FormBy : (Tree → Tree → Type 0) → ℕ → Bindings → Type 0
FormBy R n look = EndsWithin n look × ((s t : Tree) → IsBound look s t → EqualBy R s t) × ((s t : Tree) → R s t → (k : ℕ) → SameTo (walk (suc n) look) k s t)

pub form-reorder : (nodes : List Node) (bs cs : List (Var × Term)) (R : Tree → Tree → Type 0) → ((y : Var) → found_in bs y ≡ found_in cs y) → length bs ≡ length cs → IsFormOf nodes bs R → IsFormOf nodes cs R
form-reorder nodes bs cs R same l f = record { solved = record { ends = w.0 }; follow = w.1; hold = w.2 }
  where
    looks : bound_in nodes bs ≡ bound_in nodes cs
    looks = λ i x. option_map (tree nodes) (same x i)

    w : FormBy R (length cs) (bound_in nodes cs)
    w = subst (λ (n : ℕ). FormBy R n (bound_in nodes cs)) l (subst (λ (k : Bindings). FormBy R (length bs) k) looks (f.solved.ends, f.follow, f.hold))

-- they lead to older variables where the others do
pub older-reorder : (nodes : List Node) (bs cs : List (Var × Term)) → ((y : Var) → found_in bs y ≡ found_in cs y) → LeadOlder nodes bs → LeadOlder nodes cs
older-reorder nodes bs cs same h = record { each = λ x y t e v. h.each x y t (same x ∙ e) v }

-- a binding in its place
joined-length : (b : List (Var × Term)) (x : Var) (t : Term) → length (joined b x t) ≡ suc (length b)
joined-length [] x t = refl
joined-length (c ∷ b) x t = on (var_before x c.0) (joined-length b x t)
  where
    on : (k : Bool) → length (joined b x t) ≡ suc (length b) → length (if k then ((x, t) ∷ c ∷ b) else (c ∷ joined b x t)) ≡ suc (suc (length b))
    on true h = refl
    on false h = ap suc h

joined-other : (b : List (Var × Term)) (x : Var) (t : Term) (y : Var) → same_var x y ≡ false → found_in (joined b x t) y ≡ found_in b y
joined-other [] x t y e = rw e refl
joined-other (c ∷ b) x t y e = on (var_before x c.0) (joined-other b x t y e)
  where
    behind : (k : Bool) → found_in (joined b x t) y ≡ found_in b y
        → option_map (λ (p : Var × Term). p.1) (cond k (Some c) (find (λ p. same_var p.0 y) (joined b x t))) ≡ option_map (λ (p : Var × Term). p.1) (cond k (Some c) (find (λ p. same_var p.0 y) b))
    behind true h = refl
    behind false h = h

    on : (k : Bool) → found_in (joined b x t) y ≡ found_in b y → found_in (if k then ((x, t) ∷ c ∷ b) else (c ∷ joined b x t)) y ≡ found_in (c ∷ b) y
    on true h = rw e refl
    on false h = behind (same_var c.0 y) h

joined-new : (b : List (Var × Term)) (x : Var) (t : Term) → found_in b x ≡ None → found_in (joined b x t) x ≡ Some t
joined-new [] x t e = rw (same_var-refl x) refl
joined-new (c ∷ b) x t e = on (var_before x c.0) (same_var c.0 x) refl e (joined-new b x t)
  where
    on : (k l : Bool) → same_var c.0 x ≡ l → option_map (λ (p : Var × Term). p.1) (cond l (Some c) (find (λ p. same_var p.0 x) b)) ≡ None → (found_in b x ≡ None → found_in (joined b x t) x ≡ Some t)
        → found_in (if k then ((x, t) ∷ c ∷ b) else (c ∷ joined b x t)) x ≡ Some t
    on k true q e f = cc
    on true false q e f = rw (same_var-refl x) refl
    on false false q e f = rw q (f e)

joined-found : (b o : List (Var × Term)) (x : Var) (t : Term) (y : Var) → found_in (b ++ o) x ≡ None → found_in (joined b x t ++ o) y ≡ found_in ((b ++ o) ++ (x, t) ∷ []) y
joined-found b o x t y e = on (same_var x y) refl
  where
    on : (k : Bool) → same_var x y ≡ k → found_in (joined b x t ++ o) y ≡ found_in ((b ++ o) ++ (x, t) ∷ []) y
    on true q =
        let z : x ≡ y = same_var-equal x y q in
        subst (λ (w : Var). found_in (joined b x t ++ o) w ≡ found_in ((b ++ o) ++ (x, t) ∷ []) w) z
        (found-first (joined b x t) o x t (joined-new b x t (found-none b o x e).0) ∙ sym (found-second (b ++ o) ((x, t) ∷ []) x e ∙ rw (same_var-refl x) refl))
    on false q = at (found_in (b ++ o) y) refl
      where
        front : found_in (joined b x t ++ o) y ≡ found_in (b ++ o) y
        front = by (found_in b y) refl
          where
            by : (r : Option Term) → found_in b y ≡ r → found_in (joined b x t ++ o) y ≡ found_in (b ++ o) y
            by None p = found-second (joined b x t) o y (joined-other b x t y q ∙ p) ∙ sym (found-second b o y p)
            by (Some u) p = found-first (joined b x t) o y u (joined-other b x t y q ∙ p) ∙ sym (found-first b o y u p)

        at : (r : Option Term) → found_in (b ++ o) y ≡ r → found_in (joined b x t ++ o) y ≡ found_in ((b ++ o) ++ (x, t) ∷ []) y
        at None p = front ∙ p ∙ sym (found-second (b ++ o) ((x, t) ∷ []) y p ∙ rw q refl)
        at (Some u) p = front ∙ p ∙ sym (found-first (b ++ o) ((x, t) ∷ []) y u p)

-- new bindings in their places
pub joins-found : (b o more : List (Var × Term)) → BindNew (b ++ o) more → (y : Var) → found_in (joins b more ++ o) y ≡ found_in ((b ++ o) ++ more) y
joins-found b o [] h y = ap (λ (l : List (Var × Term)). found_in l y) (sym (append-nil (b ++ o)))
joins-found b o ((x, t) ∷ more) h y =
    joins-found (joined b x t) o more (BindNew-as ((b ++ o) ++ (x, t) ∷ []) (joined b x t ++ o) (λ z. sym (joined-found b o x t z h.0)) more h.1) y
    ∙ found-append-as (joined b x t ++ o) ((b ++ o) ++ (x, t) ∷ []) (λ z. joined-found b o x t z h.0) more y
    ∙ ap (λ (l : List (Var × Term)). found_in l y) (append_assoc (b ++ o) ((x, t) ∷ []) more)

pub joins-length : (b more : List (Var × Term)) → length (joins b more) ≡ length b + length more
joins-length b [] = omega arith
joins-length b ((x, t) ∷ more) =
    let h : length (joins (joined b x t) more) ≡ length (joined b x t) + length more = joins-length (joined b x t) more in
    let g : length (joined b x t) ≡ suc (length b) = joined-length b x t in
    omega arith

joined-told : (nodes : List Node) (b : List (Var × Term)) (x : Var) (u : Term) (s t : Tree) → IsTold (bindings_in nodes (joined b x u)) s t → IsTold (bindings_in nodes b) s t ⊎ IsTold (bindings_in nodes ((x, u) ∷ [])) s t
joined-told nodes [] x u s t m = inr m
joined-told nodes (c ∷ b) x u s t m = on (var_before x c.0) m (joined-told nodes b x u s t)
  where
    Either : Type 0
    Either = IsTold (bindings_in nodes (c ∷ b)) s t ⊎ IsTold (bindings_in nodes ((x, u) ∷ [])) s t

    on : (k : Bool) → IsTold (bindings_in nodes (if k then ((x, u) ∷ c ∷ b) else (c ∷ joined b x u))) s t
        → (IsTold (bindings_in nodes (joined b x u)) s t → IsTold (bindings_in nodes b) s t ⊎ IsTold (bindings_in nodes ((x, u) ∷ [])) s t)
        → IsTold (bindings_in nodes (c ∷ b)) s t ⊎ IsTold (bindings_in nodes ((x, u) ∷ [])) s t
    on true (inl e) f = inr (inl e)
    on true (inr m) f = inl m
    on false (inl e) f = inl (inl e)
    on false (inr m) f = elim (f m) [ inl a ↦ inl (inr a) | inr b ↦ inr b ]

told-joined : (nodes : List Node) (b : List (Var × Term)) (x : Var) (u : Term) (s t : Tree) → IsTold (bindings_in nodes b) s t ⊎ IsTold (bindings_in nodes ((x, u) ∷ [])) s t → IsTold (bindings_in nodes (joined b x u)) s t
told-joined nodes [] x u s t (inl m) = absurd m
told-joined nodes [] x u s t (inr m) = m
told-joined nodes (c ∷ b) x u s t m = on (var_before x c.0) m (told-joined nodes b x u s t)
  where
    on : (k : Bool) → IsTold (bindings_in nodes (c ∷ b)) s t ⊎ IsTold (bindings_in nodes ((x, u) ∷ [])) s t
        → (IsTold (bindings_in nodes b) s t ⊎ IsTold (bindings_in nodes ((x, u) ∷ [])) s t → IsTold (bindings_in nodes (joined b x u)) s t)
        → IsTold (bindings_in nodes (if k then ((x, u) ∷ c ∷ b) else (c ∷ joined b x u))) s t
    on true (inl m) f = inr m
    on true (inr (inl e)) f = inl e
    on true (inr (inr m)) f = absurd m
    on false (inl (inl e)) f = inl e
    on false (inl (inr m)) f = inr (f (inl m))
    on false (inr m) f = inr (f (inr m))

pub joins-told : (nodes : List Node) (b more : List (Var × Term)) (s t : Tree) → IsTold (bindings_in nodes (joins b more)) s t → IsTold (bindings_in nodes b) s t ⊎ IsTold (bindings_in nodes more) s t
joins-told nodes b [] s t m = inl m
joins-told nodes b ((x, u) ∷ more) s t m = elim (joins-told nodes (joined b x u) more s t m) [
  | inl a ↦ first (joined-told nodes b x u s t a)
  | inr c ↦ inr (inr c)
]
  where
    first : IsTold (bindings_in nodes b) s t ⊎ IsTold (bindings_in nodes ((x, u) ∷ [])) s t → IsTold (bindings_in nodes b) s t ⊎ IsTold (bindings_in nodes ((x, u) ∷ more)) s t
    first (inl a) = inl a
    first (inr (inl e)) = inr (inl e)
    first (inr (inr c)) = absurd c

pub told-joins : (nodes : List Node) (b more : List (Var × Term)) (s t : Tree) → IsTold (bindings_in nodes b) s t ⊎ IsTold (bindings_in nodes more) s t → IsTold (bindings_in nodes (joins b more)) s t
told-joins nodes b [] s t (inl m) = m
told-joins nodes b [] s t (inr m) = absurd m
told-joins nodes b ((x, u) ∷ more) s t (inl m) = told-joins nodes (joined b x u) more s t (inl (told-joined nodes b x u s t (inl m)))
told-joins nodes b ((x, u) ∷ more) s t (inr (inl e)) = told-joins nodes (joined b x u) more s t (inl (told-joined nodes b x u s t (inr (inl e))))
told-joins nodes b ((x, u) ∷ more) s t (inr (inr m)) = told-joins nodes (joined b x u) more s t (inr m)

-- the bindings of the innermost store stand first
pub from-last : (ss : List Stored) (s : Stored) → bindings_from (ss ++ s ∷ []) ≡ s.bindings ++ bindings_from ss
from-last [] s = sym (append-nil s.bindings)
from-last (r ∷ ss) s = ap (λ (l : List (Var × Term)). l ++ r.bindings) (from-last ss s) ∙ append_assoc s.bindings (bindings_from ss) r.bindings

pub from-innermost : (ss : List Stored) → bindings_from ss ≡ (innermost ss).bindings ++ bindings_from (around ss)
from-innermost [] = refl
from-innermost (s ∷ []) = sym (append-nil s.bindings)
from-innermost (s ∷ t ∷ ss) = ap (λ (l : List (Var × Term)). l ++ s.bindings) (from-innermost (t ∷ ss)) ∙ append_assoc (innermost (t ∷ ss)).bindings (bindings_from (around (t ∷ ss))) s.bindings

BindNew-both : (known bs cs : List (Var × Term)) → BindNew known bs → BindNew (known ++ bs) cs → BindNew known (bs ++ cs)
BindNew-both known [] cs a b = subst (λ (l : List (Var × Term)). BindNew l cs) (append-nil known) b
BindNew-both known (x ∷ bs) cs a b = (a.0, BindNew-both (known ++ x ∷ []) bs cs a.1 (subst (λ (l : List (Var × Term)). BindNew l cs) (sym (append_assoc known (x ∷ []) bs)) b))

pub bindings-either : (nodes : List Node) (ps qs : List (Var × Term)) (s t : Tree) → IsTold (bindings_in nodes (ps ++ qs)) s t → IsTold (bindings_in nodes ps) s t ⊎ IsTold (bindings_in nodes qs) s t
bindings-either nodes [] qs s t m = inr m
bindings-either nodes (p ∷ ps) qs s t (inl e) = inl (inl e)
bindings-either nodes (p ∷ ps) qs s t (inr m) = elim (bindings-either nodes ps qs s t m) [ inl x ↦ inl (inr x) | inr y ↦ inr y ]

pub bindings-left : (nodes : List Node) (ps qs : List (Var × Term)) (s t : Tree) → IsTold (bindings_in nodes ps) s t → IsTold (bindings_in nodes (ps ++ qs)) s t
bindings-left nodes [] qs s t m = absurd m
bindings-left nodes (p ∷ ps) qs s t (inl e) = inl e
bindings-left nodes (p ∷ ps) qs s t (inr m) = inr (bindings-left nodes ps qs s t m)

pub bindings-right : (nodes : List Node) (ps qs : List (Var × Term)) (s t : Tree) → IsTold (bindings_in nodes qs) s t → IsTold (bindings_in nodes (ps ++ qs)) s t
bindings-right nodes [] qs s t m = m
bindings-right nodes (p ∷ ps) qs s t m = inr (bindings-right nodes ps qs s t m)

-- nothing is taken in
pub takes-none : (nodes : List Node) (known old : List (Var × Term)) → IsSolved nodes (known ++ old) → Takes nodes known old old []
takes-none nodes known old h = record {
  more = [];
  added = sym (append-nil old);
  fresh = tt;
  form = record {
    solved = h;
    follow = λ s t m. told (inl m);
    hold = λ s t m n. elim m [ inl x ↦ Bound-same (bound_in nodes (known ++ old)) (end_of nodes (known ++ old)) (EndsWithin-leads (bound_in nodes (known ++ old)) (length (known ++ old)) h.ends) n s t x | inr y ↦ absurd y ];
  };
}

-- one list after another
pub takes-join : (nodes : List Node) (known old mid new ls bs : List (Var × Term)) → Takes nodes known old mid ls → Takes nodes known mid new bs → Takes nodes known old new (bs ++ ls)
takes-join nodes known old mid new ls bs f g = record {
  more = f.more ++ g.more;
  added = g.added ∙ ap (λ (l : List (Var × Term)). l ++ g.more) f.added ∙ append_assoc old f.more g.more;
  fresh = BindNew-both (known ++ old) f.more g.more f.fresh (subst (λ (l : List (Var × Term)). BindNew l g.more) (ap (λ (l : List (Var × Term)). known ++ l) f.added ∙ sym (append_assoc known old f.more)) g.fresh);
  form = form-as nodes (known ++ new) (λ s t. TellsBindings nodes (known ++ old) ls s t ⊎ IsTold (bindings_in nodes bs) s t) (TellsBindings nodes (known ++ old) (bs ++ ls))
      (subst (λ (l : List (Var × Term)). IsFormOf nodes l (λ s t. TellsBindings nodes (known ++ old) ls s t ⊎ IsTold (bindings_in nodes bs) s t)) (sym again)
      (form-join nodes (known ++ mid) g.more (TellsBindings nodes (known ++ old) ls) (TellsBindings nodes (known ++ mid) bs) (IsTold (bindings_in nodes bs)) f.form
      (subst (λ (l : List (Var × Term)). IsFormOf nodes l (TellsBindings nodes (known ++ mid) bs)) again g.form) (λ s t m. m) (λ s t m. inr m)))
      (λ s t m. elim m [ inl x ↦ elim x [ inl y ↦ inl y | inr y ↦ inr (bindings-right nodes bs ls s t y) ] | inr x ↦ inr (bindings-left nodes bs ls s t x) ])
      (λ s t m. elim m [ inl x ↦ inl (inl x) | inr x ↦ elim (bindings-either nodes bs ls s t x) [ inl y ↦ inr y | inr y ↦ inl (inr y) ] ]);
}
  where
    again : known ++ new ≡ (known ++ mid) ++ g.more
    again = ap (λ (l : List (Var × Term)). known ++ l) g.added ∙ sym (append_assoc known mid g.more)

pub takes-clash : (nodes : List Node) (known old mid ls bs : List (Var × Term)) (left right : Term) → Takes nodes known old mid ls → IsClashOfBindings nodes (known ++ mid) bs left right
    → IsClashOfBindings nodes (known ++ old) (bs ++ ls) left right
takes-clash nodes known old mid ls bs left right f c = record {
  equal = EqualBy-follows (λ s t m. elim m [
    | inl x ↦ EqualBy-follows (λ a b n. elim n [ inl y ↦ told (inl y) | inr y ↦ told (inr (bindings-right nodes bs ls a b y)) ]) (f.form.follow s t x)
    | inr x ↦ told (inr (bindings-left nodes bs ls s t x))
  ]) c.equal;
  differ = c.differ;
}

pub clash-more : (nodes : List Node) (known bs cs : List (Var × Term)) (left right : Term) → ((s t : Tree) → IsTold (bindings_in nodes bs) s t → IsTold (bindings_in nodes cs) s t)
    → IsClashOfBindings nodes known bs left right → IsClashOfBindings nodes known cs left right
clash-more nodes known bs cs left right f c = record { equal = EqualBy-follows (λ s t m. elim m [ inl x ↦ told (inl x) | inr x ↦ told (inr (f s t x)) ]) c.equal; differ = c.differ }

-- the outer stores of a chain and the others
pub told-split : (nodes : List Node) (ss : List Stored) (k : ℕ) (s t : Tree) → IsTold (bindings_in nodes (bindings_from ss)) s t
    → IsTold (bindings_in nodes (bindings_from (take k ss))) s t ⊎ IsTold (bindings_in nodes (bindings_from (drop k ss))) s t
told-split nodes ss zero s t m = inr m
told-split nodes [] (suc k) s t m = inl m
told-split nodes (r ∷ ss) (suc k) s t m = elim (bindings-either nodes (bindings_from ss) r.bindings s t m) [
  | inl x ↦ elim (told-split nodes ss k s t x) [ inl y ↦ inl (bindings-left nodes (bindings_from (take k ss)) r.bindings s t y) | inr y ↦ inr y ]
  | inr x ↦ inl (bindings-right nodes (bindings_from (take k ss)) r.bindings s t x)
]

pub told-take : (nodes : List Node) (ss : List Stored) (k : ℕ) (s t : Tree) → IsTold (bindings_in nodes (bindings_from (take k ss))) s t → IsTold (bindings_in nodes (bindings_from ss)) s t
told-take nodes ss zero s t m = absurd m
told-take nodes [] (suc k) s t m = m
told-take nodes (r ∷ ss) (suc k) s t m = elim (bindings-either nodes (bindings_from (take k ss)) r.bindings s t m) [
  | inl x ↦ bindings-left nodes (bindings_from ss) r.bindings s t (told-take nodes ss k s t x)
  | inr x ↦ bindings-right nodes (bindings_from ss) r.bindings s t x
]

pub told-drop : (nodes : List Node) (ss : List Stored) (k : ℕ) (s t : Tree) → IsTold (bindings_in nodes (bindings_from (drop k ss))) s t → IsTold (bindings_in nodes (bindings_from ss)) s t
told-drop nodes ss zero s t m = m
told-drop nodes [] (suc k) s t m = m
told-drop nodes (r ∷ ss) (suc k) s t m = bindings-left nodes (bindings_from ss) r.bindings s t (told-drop nodes ss k s t m)

-- a solved form of the outer stores, with the others taken in
pub chain-form : (nodes : List Node) (ss : List Stored) (k : ℕ) (bs new : List (Var × Term)) → IsFormOf nodes bs (IsTold (bindings_in nodes (bindings_from (take k ss)))) → Takes nodes bs [] new (bindings_from (drop k ss))
    → IsFormOf nodes (bs ++ new) (IsTold (bindings_in nodes (bindings_from ss)))
chain-form nodes ss k bs new f t = form-as nodes (bs ++ new) (λ a b. IsTold (bindings_in nodes (bindings_from (take k ss))) a b ⊎ IsTold (bindings_in nodes (bindings_from (drop k ss))) a b) (IsTold (bindings_in nodes (bindings_from ss)))
    (form-join nodes bs new (IsTold (bindings_in nodes (bindings_from (take k ss)))) (TellsBindings nodes (bs ++ []) (bindings_from (drop k ss))) (IsTold (bindings_in nodes (bindings_from (drop k ss)))) f t.form
    (λ a b m. elim m [ inl x ↦ inl (subst (λ (l : List (Var × Term)). IsBound (bound_in nodes l) a b) (append-nil bs) x) | inr x ↦ inr x ]) (λ a b m. inr m))
    (λ a b m. elim m [ inl x ↦ told-take nodes ss k a b x | inr x ↦ told-drop nodes ss k a b x ])
    (told-split nodes ss k)

pub chain-clash : (nodes : List Node) (ss : List Stored) (k : ℕ) (bs : List (Var × Term)) (left right : Term) → IsFormOf nodes bs (IsTold (bindings_in nodes (bindings_from (take k ss))))
    → IsClashOfBindings nodes (bs ++ []) (bindings_from (drop k ss)) left right → EqualBy (IsTold (bindings_in nodes (bindings_from ss))) (tree nodes left) (tree nodes right)
chain-clash nodes ss k bs left right f c = EqualBy-follows (λ a b m. elim m [
  | inl x ↦ EqualBy-follows (λ d e y. told (told-take nodes ss k d e y)) (f.follow a b (subst (λ (l : List (Var × Term)). IsBound (bound_in nodes l) a b) (append-nil bs) x))
  | inr x ↦ told (told-drop nodes ss k a b x)
]) c.equal

-- one store after another
pub takes-store : (nodes : List Node) (known old mid new : List (Var × Term)) (ss : List Stored) (i : ℕ) (d s : Stored) → i < length ss → s ≡ slice_index_or ss i d
    → Takes nodes known old mid (bindings_from (take i ss)) → Takes nodes known mid new s.bindings → Takes nodes known old new (bindings_from (take (i + 1) ss))
takes-store nodes known old mid new ss i d s l e f g = subst (Takes nodes known old new)
    (sym (ap bindings_from (take-next ss i (i + 1) d l (omega arith) ∙ ap (λ (r : Stored). take i ss ++ r ∷ []) (sym e)) ∙ from-last (take i ss) s))
    (takes-join nodes known old mid new (bindings_from (take i ss)) s.bindings f g)

pub store-clash : (nodes : List Node) (known old mid : List (Var × Term)) (ss : List Stored) (i : ℕ) (d s : Stored) (left right : Term) → i < length ss → s ≡ slice_index_or ss i d
    → Takes nodes known old mid (bindings_from (take i ss)) → IsClashOfBindings nodes (known ++ mid) s.bindings left right → IsClashOfBindings nodes (known ++ old) (bindings_from ss) left right
store-clash nodes known old mid ss i d s left right l e f c = clash-more nodes (known ++ old) (s.bindings ++ bindings_from (take i ss)) (bindings_from ss) left right
    (λ a b m. told-take nodes ss (i + 1) a b (subst (λ (k : List (Var × Term)). IsTold (bindings_in nodes k) a b)
    (sym (ap bindings_from (take-next ss i (i + 1) d l (omega arith) ∙ ap (λ (r : Stored). take i ss ++ r ∷ []) (sym e)) ∙ from-last (take i ss) s)) m))
    (takes-clash nodes known old mid (bindings_from (take i ss)) s.bindings left right f c)
