-- Solved forms of what is told, and how they grow.
use Rattle.std.proofs.Common.{◌≡◌, ◌≢◌, ℕ, zero, suc, List, [], ◌∷◌, ◌++◌, length, Option, Some, None, Bool, true, false, cond, refl, sym, ◌∙◌, ap, subst, ◌⊎◌, inl, inr, append_assoc, append-nil}
use Rattle.std.specs.Prelude.{option_map, find, slice_get}
use Rattle.akl_terms.specs.declared.name.Var.{Var}
use Rattle.akl_terms.specs.declared.term.Node.{Node}
use Rattle.akl_terms.specs.declared.term.Term.{Term}
use Rattle.akl_terms.specs.declared.term.Equation as code
use Rattle.akl_terms.specs.declared.term.Seen.{Seen}
use Rattle.akl_terms.specs.declared.term.Seen.TheVariants.{Free}
use Rattle.akl_terms.specs.Tree.{Tree, variable, Head, head_of}
use Rattle.akl_terms.specs.Equal.{IsTold, EqualBy, told, turned, joined, IsConsistentBy}
use Rattle.akl_terms.specs.Solved.{IsBound, bound, SameTo, Leads, EndsWithin}
use Rattle.akl_terms.specs.Template.{tree, seen_of}
use Rattle.akl_terms.proofs.EqualLaws.{EqualBy-follows}
use Rattle.akl_terms.specs.Names.{same_var}
use Rattle.rational_unify.specs.Known.{found_in, bound_in, IsSolved, end_of}
use Rattle.rational_unify.specs.Solving.{bindings_in, equations_in, Tells, BindNew, IsSolution, IsClashOf}
use Rattle.rational_unify.specs.Forms.{IsFormOf, TellsBindings, Takes, IsClashOfBindings, OneTaken, made_equation, made_binding, made_nothing}
use Rattle.akl_terms.proofs.Arguments.{same_value}
use Rattle.rational_unify.proofs.Same.{Equal-same, Same-consistent}
use Rattle.rational_unify.proofs.Walks.{walk-equal, walk-free, IsFree, Adds, Adds-ends, EndsWithin-leads}
use Rattle.akl_terms.proofs.SameNames.{same_var-equal, same_var-refl}
use Rattle.rational_unify.proofs.Chains.{found-first, found-second, one_more-adds, BindNew-push}
use Rattle.rational_unify.proofs.Turns.{none-solved, length-push, equations-left, equations-right, equations-either}
use Rattle.rational_unify.proofs.Ends.{free-tree, headed-tree}

-- a term that isn't this variable
pub other_variable : (nodes : List Node) (t : Term) (y x : Var) → Free y ≡ seen_of nodes t → false ≡ same_var y x → tree nodes t ≢ variable x
other_variable nodes t y x e d p =
    let q : variable y ≡ variable x = sym (free-tree nodes t y e) ∙ p in
    let r : y ≡ x = cc in
    let s : false ≡ same_var x x = subst (λ (z : Var). false ≡ same_var z x) r d in
    let w : same_var x x ≡ true = same_var-refl x in
    cc

pub headed_other : (nodes : List Node) (t : Term) (s : Seen) (x : Var) → s ≡ seen_of nodes t → ((y : Var) → s ≡ Free y → ⊥) → tree nodes t ≢ variable x
headed_other nodes t s x e n p =
    let w : (h : Head) × (head_of (tree nodes t) ≡ Some h) = headed-tree nodes t s e n in
    let q : None ≡ Some w.0 = sym (ap head_of p) ∙ w.1 in
    cc

-- what a list of both binds
pub bound-either : (nodes : List Node) (bs cs : List (Var × Term)) (s t : Tree) → IsBound (bound_in nodes (bs ++ cs)) s t → IsBound (bound_in nodes bs) s t ⊎ IsTold (bindings_in nodes cs) s t
bound-either nodes bs cs s t (bound {x = x} {t = u} e) = on (found_in bs x) refl
  where
    last : (cs : List (Var × Term)) → option_map (tree nodes) (found_in cs x) ≡ Some u → IsTold (bindings_in nodes cs) (variable x) u
    last [] q = cc
    last (c ∷ cs) q = at (same_var c.0 x) refl q (last cs)
      where
        at : (k : Bool) → same_var c.0 x ≡ k → option_map (tree nodes) (option_map (λ (p : Var × Term). p.1) (cond k (Some c) (find (λ p. same_var p.0 x) cs))) ≡ Some u
            → (option_map (tree nodes) (found_in cs x) ≡ Some u → IsTold (bindings_in nodes cs) (variable x) u) → IsTold (bindings_in nodes (c ∷ cs)) (variable x) u
        at true e q f = inl (ap variable (sym (same_var-equal c.0 x e)), sym (same_value refl q))
        at false e q f = inr (f q)

    on : (o : Option Term) → found_in bs x ≡ o → IsBound (bound_in nodes bs) (variable x) u ⊎ IsTold (bindings_in nodes cs) (variable x) u
    on None p = inr (last cs (sym (ap (option_map (tree nodes)) (found-second bs cs x p)) ∙ e))
    on (Some v) p = inl (bound (ap (option_map (tree nodes)) p ∙ sym (ap (option_map (tree nodes)) (found-first bs cs x v p)) ∙ e))

pub bound-first : (nodes : List Node) (bs cs : List (Var × Term)) (s t : Tree) → IsBound (bound_in nodes bs) s t → IsBound (bound_in nodes (bs ++ cs)) s t
bound-first nodes bs cs s t (bound {x = x} {t = u} e) = on (found_in bs x) refl
  where
    on : (o : Option Term) → found_in bs x ≡ o → IsBound (bound_in nodes (bs ++ cs)) (variable x) u
    on None p = let z : None ≡ Some u = sym (ap (option_map (tree nodes)) p) ∙ e in cc
    on (Some v) p = bound (ap (option_map (tree nodes)) (found-first bs cs x v p) ∙ sym (ap (option_map (tree nodes)) p) ∙ e)

-- one more binding
module _ (nodes : List Node) (cs : List (Var × Term)) (x : Var) (u : Term) (t : Tree) (h : IsSolved nodes cs) (f : found_in cs x ≡ None) (e : tree nodes u ≡ end_of nodes cs t)
    (other : tree nodes u ≢ variable x) where
  is_free : IsFree (bound_in nodes cs) (tree nodes u)
  is_free = subst (IsFree (bound_in nodes cs)) (sym e) (walk-free (bound_in nodes cs) (length cs) t (h.ends t))

  one_more : Adds (bound_in nodes cs) (bound_in nodes (cs ++ (x, u) ∷ [])) x (tree nodes u)
  one_more = one_more-adds nodes cs x u f is_free other

  pub one_more-solved : IsSolved nodes (cs ++ (x, u) ∷ [])
  one_more-solved = record {
    ends = subst (λ (n : ℕ). EndsWithin n (bound_in nodes (cs ++ (x, u) ∷ []))) (sym (length-push cs (x, u)))
        (Adds-ends (bound_in nodes cs) (bound_in nodes (cs ++ (x, u) ∷ [])) x (tree nodes u) (length cs) one_more h.ends);
  }

  pub one_more-bound : IsBound (bound_in nodes (cs ++ (x, u) ∷ [])) (variable x) (tree nodes u)
  one_more-bound = bound one_more.now

-- a solved form of what R tells
module _ (nodes : List Node) (bs : List (Var × Term)) (R : Tree → Tree → Type 0) (h : IsFormOf nodes bs R) where
  pub form-leads : Leads (bound_in nodes bs) (end_of nodes bs)
  form-leads = EndsWithin-leads (bound_in nodes bs) (length bs) h.solved.ends

  pub form-holds : (s t : Tree) → EqualBy R s t → (n : ℕ) → SameTo (end_of nodes bs) n s t
  form-holds s t e n = Equal-same (bound_in nodes bs) (end_of nodes bs) form-leads (λ n a b m. h.hold a b m n) n e

  pub form-follows : (t : Tree) → EqualBy R t (end_of nodes bs t)
  form-follows t = EqualBy-follows h.follow (walk-equal (bound_in nodes bs) (suc (length bs)) t)

  pub form-stays : (t : Tree) (g : Head) → head_of t ≡ Some g → end_of nodes bs t ≡ t
  form-stays t g e = form-leads.other e

  pub form-consistent : IsConsistentBy R
  form-consistent = Same-consistent (bound_in nodes bs) (end_of nodes bs) form-leads (λ n a b m. h.hold a b m n)

-- bindings that are partly taken in: those that are done follow from the bound ones and the equations that wait
pub record IsHalf (nodes : List Node) (known old cur : List (Var × Term)) (pending : List code.Equation) (all done : List (Var × Term)) : Type 0 where
  pub more : List (Var × Term)
  pub added : cur ≡ old ++ more
  pub fresh : BindNew (known ++ old) more
  pub solved : IsSolved nodes (known ++ cur)
  pub follow : (s t : Tree) → IsBound (bound_in nodes (known ++ cur)) s t → EqualBy (TellsBindings nodes (known ++ old) all) s t
  pub waiting : (s t : Tree) → IsTold (equations_in nodes pending) s t → EqualBy (TellsBindings nodes (known ++ old) all) s t
  pub kept : (s t : Tree) → IsBound (bound_in nodes (known ++ old)) s t → IsBound (bound_in nodes (known ++ cur)) s t
  pub covers : (s t : Tree) → IsTold (bindings_in nodes done) s t → EqualBy (Tells nodes (known ++ cur) pending) s t

pub half-starts : (nodes : List Node) (known old all : List (Var × Term)) → IsSolved nodes (known ++ old) → IsHalf nodes known old old [] all []
half-starts nodes known old all h = record {
  more = [];
  added = sym (append-nil old);
  fresh = tt;
  solved = h;
  follow = λ s t m. told (inl m);
  waiting = λ s t m. absurd m;
  kept = λ s t m. m;
  covers = λ s t m. absurd m;
}

bindings-either : (nodes : List Node) (ps qs : List (Var × Term)) (s t : Tree) → IsTold (bindings_in nodes (ps ++ qs)) s t → IsTold (bindings_in nodes ps) s t ⊎ IsTold (bindings_in nodes qs) s t
bindings-either nodes [] qs s t m = inr m
bindings-either nodes (p ∷ ps) qs s t (inl e) = inl (inl e)
bindings-either nodes (p ∷ ps) qs s t (inr m) = elim (bindings-either nodes ps qs s t m) [ inl x ↦ inl (inr x) | inr y ↦ inr y ]

module _ (nodes : List Node) (known old cur cur' : List (Var × Term)) (pending pending' : List code.Equation) (all done : List (Var × Term)) (x : Var) (t : Term)
    (h : IsHalf nodes known old cur pending all done) (is_told : IsTold (bindings_in nodes all) (variable x) (tree nodes t)) where
  abbrev R : Tree → Tree → Type 0
  R = TellsBindings nodes (known ++ old) all

  -- what was covered stays covered, and the new binding is
  covered : {S : Tree → Tree → Type 0} → ((a b : Tree) → Tells nodes (known ++ cur) pending a b → EqualBy S a b) → EqualBy S (variable x) (tree nodes t)
      → (a b : Tree) → IsTold (bindings_in nodes (done ++ (x, t) ∷ [])) a b → EqualBy S a b
  covered {S} f e a b m = elim (bindings-either nodes done ((x, t) ∷ []) a b m) [ inl o ↦ EqualBy-follows f (h.covers a b o) | inr o ↦ one o ]
    where
      one : IsTold (bindings_in nodes ((x, t) ∷ [])) a b → EqualBy S a b
      one (inl p) = subst (λ (k : Tree). EqualBy S k b) (sym p.0) (subst (λ (k : Tree). EqualBy S (variable x) k) (sym p.1) e)
      one (inr p) = absurd p

  ends_in : {S : Tree → Tree → Type 0} → ((a b : Tree) → IsBound (bound_in nodes (known ++ cur)) a b → EqualBy S a b) → EqualBy S (tree nodes t) (end_of nodes (known ++ cur) (tree nodes t))
  ends_in f = EqualBy-follows f (walk-equal (bound_in nodes (known ++ cur)) (suc (length (known ++ cur))) (tree nodes t))

  to : (C : List (Var × Term)) (P : List code.Equation) → IsHalf nodes known old C P all (done ++ (x, t) ∷ []) → cur' ≡ C → pending' ≡ P → IsHalf nodes known old cur' pending' all (done ++ (x, t) ∷ [])
  to C P k p q = rw (p, q) k

  on_equation : (u : Term) → found_in (known ++ cur) x ≡ Some u → IsHalf nodes known old cur (pending ++ record { left = u; right = t } ∷ []) all (done ++ (x, t) ∷ [])
  on_equation u f = record {
    more = h.more;
    added = h.added;
    fresh = h.fresh;
    solved = h.solved;
    follow = h.follow;
    waiting = λ a b m. elim (equations-either nodes pending (record { left = u; right = t } ∷ []) a b m) [ inl o ↦ h.waiting a b o | inr o ↦ one a b o ];
    kept = h.kept;
    covers = covered
        (λ a b m. elim m [ inl o ↦ told (inl o) | inr o ↦ told (inr (equations-left nodes pending (record { left = u; right = t } ∷ []) a b o)) ])
        (joined (told (inl here)) (told (inr (equations-right nodes pending (record { left = u; right = t } ∷ []) (tree nodes u) (tree nodes t) (inl (refl, refl))))));
  }
    where
      here : IsBound (bound_in nodes (known ++ cur)) (variable x) (tree nodes u)
      here = bound (ap (option_map (tree nodes)) f)

      one : (a b : Tree) → IsTold (equations_in nodes (record { left = u; right = t } ∷ [])) a b → EqualBy R a b
      one a b (inl p) = subst (λ (k : Tree). EqualBy R k b) (sym p.0) (subst (λ (k : Tree). EqualBy R (tree nodes u) k) (sym p.1)
          (joined (turned (h.follow (variable x) (tree nodes u) here)) (told (inr is_told))))
      one a b (inr p) = absurd p

  on_nothing : end_of nodes (known ++ cur) (tree nodes t) ≡ variable x → IsHalf nodes known old cur pending all (done ++ (x, t) ∷ [])
  on_nothing e = record {
    more = h.more;
    added = h.added;
    fresh = h.fresh;
    solved = h.solved;
    follow = h.follow;
    waiting = h.waiting;
    kept = h.kept;
    covers = covered (λ a b m. told m) (turned (subst (λ (k : Tree). EqualBy (Tells nodes (known ++ cur) pending) (tree nodes t) k) e (ends_in (λ a b m. told (inl m)))));
  }

  on_binding : (u : Term) → found_in (known ++ cur) x ≡ None → tree nodes u ≡ end_of nodes (known ++ cur) (tree nodes t) → tree nodes u ≢ variable x
      → IsHalf nodes known old (cur ++ (x, u) ∷ []) pending all (done ++ (x, t) ∷ [])
  on_binding u f e n = record {
    more = h.more ++ (x, u) ∷ [];
    added = ap (λ (l : List (Var × Term)). l ++ (x, u) ∷ []) h.added ∙ append_assoc old h.more ((x, u) ∷ []);
    fresh = BindNew-push (known ++ old) h.more x u h.fresh
        (subst (λ (l : List (Var × Term)). found_in l x ≡ None) (ap (λ (l : List (Var × Term)). known ++ l) h.added ∙ sym (append_assoc known old h.more)) f);
    solved = subst (IsSolved nodes) again (one_more-solved nodes (known ++ cur) x u (tree nodes t) h.solved f e n);
    follow = λ a b m. elim (bound-either nodes (known ++ cur) ((x, u) ∷ []) a b (subst (λ (l : List (Var × Term)). IsBound (bound_in nodes l) a b) (sym again) m)) [ inl o ↦ h.follow a b o | inr o ↦ one a b o ];
    waiting = h.waiting;
    kept = λ a b m. more_bound a b (h.kept a b m);
    covers = covered (λ a b m. elim m [ inl o ↦ told (inl (more_bound a b o)) | inr o ↦ told (inr o) ])
        (joined (told (inl (subst (λ (l : List (Var × Term)). IsBound (bound_in nodes l) (variable x) (tree nodes u)) again (one_more-bound nodes (known ++ cur) x u (tree nodes t) h.solved f e n))))
        (turned (subst (λ (k : Tree). EqualBy (Tells nodes (known ++ (cur ++ (x, u) ∷ [])) pending) (tree nodes t) k) (sym e) (ends_in (λ a b m. told (inl (more_bound a b m)))))));
  }
    where
      again : (known ++ cur) ++ (x, u) ∷ [] ≡ known ++ (cur ++ (x, u) ∷ [])
      again = append_assoc known cur ((x, u) ∷ [])

      more_bound : (a b : Tree) → IsBound (bound_in nodes (known ++ cur)) a b → IsBound (bound_in nodes (known ++ (cur ++ (x, u) ∷ []))) a b
      more_bound a b m = subst (λ (l : List (Var × Term)). IsBound (bound_in nodes l) a b) again (bound-first nodes (known ++ cur) ((x, u) ∷ []) a b m)

      one : (a b : Tree) → IsTold (bindings_in nodes ((x, u) ∷ [])) a b → EqualBy R a b
      one a b (inl p) = subst (λ (k : Tree). EqualBy R k b) (sym p.0) (subst (λ (k : Tree). EqualBy R (variable x) k) (sym (p.1 ∙ e))
          (joined (told (inr is_told)) (ends_in h.follow)))
      one a b (inr p) = absurd p

  pub half-goes : OneTaken nodes (known ++ cur) cur cur' pending pending' x t → IsHalf nodes known old cur' pending' all (done ++ (x, t) ∷ [])
  half-goes (made_equation u f p q) = to cur (pending ++ record { left = u; right = t } ∷ []) (on_equation u f) p q
  half-goes (made_binding u f e n p q) = to (cur ++ (x, u) ∷ []) pending (on_binding u f e n) p q
  half-goes (made_nothing e p q) = to cur pending (on_nothing e) p q

-- all are done, and the equations that wait are solved
module _ (nodes : List Node) (known old cur : List (Var × Term)) (pending : List code.Equation) (all : List (Var × Term)) (h : IsHalf nodes known old cur pending all all) where
  follows : (s t : Tree) → Tells nodes (known ++ cur) pending s t → EqualBy (TellsBindings nodes (known ++ old) all) s t
  follows s t (inl m) = h.follow s t m
  follows s t (inr m) = h.waiting s t m

  pub half-clashes : (left right : Term) → IsClashOf nodes (known ++ cur) pending left right → IsClashOfBindings nodes (known ++ old) all left right
  half-clashes left right c = record { equal = EqualBy-follows follows c.equal; differ = c.differ }

  BindNew-both : (known bs cs : List (Var × Term)) → BindNew known bs → BindNew (known ++ bs) cs → BindNew known (bs ++ cs)
  BindNew-both known [] cs a b = subst (λ (l : List (Var × Term)). BindNew l cs) (append-nil known) b
  BindNew-both known (x ∷ bs) cs a b = (a.0, BindNew-both (known ++ x ∷ []) bs cs a.1 (subst (λ (l : List (Var × Term)). BindNew l cs) (sym (append_assoc known (x ∷ []) bs)) b))

  pub half-ends : (more : List (Var × Term)) → IsSolution nodes (known ++ cur) pending more → Takes nodes known old (cur ++ more) all
  half-ends more s = record {
    more = h.more ++ more;
    added = ap (λ (l : List (Var × Term)). l ++ more) h.added ∙ append_assoc old h.more more;
    fresh = BindNew-both (known ++ old) h.more more h.fresh (subst (λ (l : List (Var × Term)). BindNew l more) (ap (λ (l : List (Var × Term)). known ++ l) h.added ∙ sym (append_assoc known old h.more)) s.fresh);
    form = subst (λ (l : List (Var × Term)). IsFormOf nodes l (TellsBindings nodes (known ++ old) all)) (append_assoc known cur more) (record {
      solved = s.solved;
      follow = λ a b m. elim (bound-either nodes (known ++ cur) more a b m) [ inl o ↦ h.follow a b o | inr o ↦ EqualBy-follows follows (s.follow a b o) ];
      hold = λ a b m n. elim m [ inl o ↦ s.hold a b (told (inl (h.kept a b o))) n | inr o ↦ s.hold a b (h.covers a b o) n ];
    });
  }

-- where no equation waits, all is taken in
pub half-whole : (nodes : List Node) (known old cur : List (Var × Term)) (pending : List code.Equation) (all : List (Var × Term)) → IsHalf nodes known old cur pending all all → pending ≡ [] → Takes nodes known old cur all
half-whole nodes known old cur pending all h e = subst (λ (l : List (Var × Term)). Takes nodes known old l all) (append-nil cur)
    (half-ends nodes known old cur pending all h [] (subst (λ (es : List code.Equation). IsSolution nodes (known ++ cur) es []) (sym e) (none-solved nodes (known ++ cur) h.solved)))

pub bound-told : (nodes : List Node) (bs : List (Var × Term)) (i : ℕ) (b : Var × Term) → slice_get bs i ≡ Some b → IsTold (bindings_in nodes bs) (variable b.0) (tree nodes b.1)
bound-told nodes [] i b e = cc
bound-told nodes (c ∷ bs) zero b e = inl (ap (λ (p : Var × Term). variable p.0) (sym (same_value refl e)), ap (λ (p : Var × Term). tree nodes p.1) (sym (same_value refl e)))
bound-told nodes (c ∷ bs) (suc i) b e = inr (bound-told nodes bs i b e)
