-- The added bindings show every class that may be noisy, where no inner variable stands in the environment.
use Rattle.std.proofs.Common.{◌≡◌, List, [], ◌∷◌, ◌++◌, length, Option, Some, None, Bool, true, false, cond, refl, sym, ap, subst, ◌∙◌, ◌⊎◌, inl, inr}
use Rattle.std.proofs.Common.{arith}
use Rattle.std.proofs.lemmas.Bool.Decides.{nat_tests}
use Rattle.std.specs.Prelude.{option_map, find, ◌||◌}
use Rattle.std.specs.List.{AllByRecursion}
use Rattle.akl_terms.specs.declared.name.Name.{Name}
use Rattle.akl_terms.specs.declared.name.Var.{Var}
use Rattle.akl_terms.specs.declared.term.Node.{Node}
use Rattle.akl_terms.specs.declared.term.Term.{Term}
use Rattle.akl_terms.specs.Tree.{Tree, variable}
use Rattle.akl_terms.specs.Equal.{Equations, IsTold, Equal, IsStructured}
use Rattle.akl_terms.specs.Touching.{IsLocal, IsOutside}
use Rattle.rational_unify.specs.Known.{found_in, bound_in, end_of}
use Rattle.akl_terms.specs.Names.{same_name, same_var}
use Rattle.rational_unify.specs.Forms.{IsFormOf}
use Rattle.rational_unify.specs.Shortened.{IsEndOf}
use Rattle.rational_unify.proofs.Walks.{IsFree, walk-free}
use Rattle.akl_terms.proofs.SameNames.{same_var-equal}
use Rattle.rational_unify.proofs.Chains.{found-second, free_found}
use Rattle.rational_unify.proofs.FormLaws.{form-follows}
use Rattle.local_store.specs.Stored.{Stored, is_named}
use Rattle.constraint_laws.specs.Touched.{IsAmong}
use Rattle.entail_test.specs.Classes.{IsNoisyEnd, Suffices}
use Rattle.entail_test.specs.Asked.{KeepsApart, AreCandidates, frames_from, named_in}
use Rattle.constraint_laws.specs.Growth.{IsOver}
use Rattle.local_store.proofs.Among.{among-either, among-left, among-right}
use Rattle.local_store.proofs.FormEnds.{end-free, no_head, unstructured}
use Rattle.constraint_laws.specs.Growth.{TellsOver}
use Rattle.constraint_laws.proofs.Grown.{over_kept}
use Rattle.constraint_laws.proofs.Decided.{kept_by}

-- where no inner variable stands in the environment
pub apart-over : (E : Equations) (inner : List Name) → TellsOver (IsOutside inner) E → KeepsApart inner E
apart-over E inner h = record { each = λ x y o l e. on x y o l (kept_by (over_kept (IsOutside inner) E h) e) }
  where
    on : (x y : Var) → IsOutside inner x → IsLocal inner y → (variable x ≡ variable y) ⊎ (IsOver (IsOutside inner) (variable x) × IsOver (IsOutside inner) (variable y)) → IsStructured E x
    on x y o l (inl p) = let r : x ≡ y = cc in absurd (subst (IsOutside inner) r o l)
    on x y o l (inr p) = absurd (p.1 l)

-- the chain of a variable from outside ends in one from outside
pub ends-outside : (nodes : List Node) (known : List (Var × Term)) (E : Equations) (inner : List Name) → IsFormOf nodes known (IsTold E) → KeepsApart inner E
    → (x y : Var) → IsOutside inner x → end_of nodes known (variable x) ≡ variable y → IsOutside inner y
ends-outside nodes known E inner f s x y o e l = unstructured nodes known E f x y e
    (s.each x y o l (subst (λ (t : Tree). Equal E (variable x) t) e (form-follows nodes known (IsTold E) f (variable x))))

all-found : (Q : (Var × Term) → Type 0) (bs : List (Var × Term)) (x : Var) (t : Term) → AllByRecursion Q bs → found_in bs x ≡ Some t → (b : Var × Term) × (b.0 ≡ x) × Q b
all-found Q [] x t h e = cc
all-found Q (b ∷ bs) x t h e = on (same_var b.0 x) refl e (λ f. all-found Q bs x t h.1 f)
  where
    on : (k : Bool) → same_var b.0 x ≡ k → option_map (λ (p : Var × Term). p.1) (cond k (Some b) (find (λ p. same_var p.0 x) bs)) ≡ Some t
        → (found_in bs x ≡ Some t → (c : Var × Term) × (c.0 ≡ x) × Q c) → (c : Var × Term) × (c.0 ≡ x) × Q c
    on true q e f = (b, same_var-equal b.0 x q, h.0)
    on false q e f = f e

module _ (nodes : List Node) (known added : List (Var × Term)) (R W : Tree → Tree → Type 0) (inner : List Name) (candidates : List Var) (fE : IsFormOf nodes known R) (fW : IsFormOf nodes (known ++ added) W)
    (extends : (t : Tree) → end_of nodes (known ++ added) t ≡ end_of nodes (known ++ added) (end_of nodes known t))
    (ends : (x y : Var) → IsOutside inner x → end_of nodes known (variable x) ≡ variable y → IsOutside inner y)
    (k : AreCandidates nodes (known ++ added) inner added candidates) where
  unbound : (x r : Var) → end_of nodes known (variable x) ≡ variable r → found_in known r ≡ None
  unbound x r e = free_found nodes known r (subst (IsFree (bound_in nodes known)) e (walk-free (bound_in nodes known) (length known) (variable x) (fE.solved.ends (variable x))))

  -- an end that is not bound by what is added is its own end
  stays_end : (x r : Var) → end_of nodes known (variable x) ≡ variable r → found_in added r ≡ None → end_of nodes (known ++ added) (variable x) ≡ variable r
  stays_end x r e n = extends (variable x) ∙ ap (end_of nodes (known ++ added)) e ∙ end-free nodes (known ++ added) r (found-second known added r (unbound x r e) ∙ n)

  abbrev Shown : (Var × Term) → Type 0
  Shown b = IsOutside inner b.0 → IsAmong b.0 candidates × ((y : Var) → IsOutside inner y → end_of nodes (known ++ added) (variable b.0) ≡ variable y → IsAmong y candidates)

  pub enough : Suffices nodes known (known ++ added) inner candidates
  enough = record { outside = k.outside; enough = λ v r o e n. at v r o e n (found_in added r) refl }
    where
      at : (v r : Var) → IsOutside inner v → end_of nodes known (variable v) ≡ variable r → IsNoisyEnd nodes known (known ++ added) inner v r → (o : Option Term) → found_in added r ≡ o
          → (x : Var) × IsAmong x candidates × (end_of nodes known (variable x) ≡ variable r)
      at v r o e n (Some t) q =
          let w : (b : Var × Term) × (b.0 ≡ r) × Shown b = all-found Shown added r t k.each q in
          let m : IsAmong w.0.0 candidates = (w.2 (subst (IsOutside inner) (sym w.1) (ends v r o e))).0 in
          (r, subst (λ (x : Var). IsAmong x candidates) w.1 m, end-free nodes known r (unbound v r e))
      at v r o e (inl h) None q = absurd (no_head (end_of nodes (known ++ added) (variable v)) r (stays_end v r e q) h)
      at v r o e (inr w) None q = by (found_in added w.1) refl
        where
          last : end_of nodes (known ++ added) (variable w.0) ≡ variable r
          last = w.5 ∙ stays_end v r e q

          by : (p : Option Term) → found_in added w.1 ≡ p → (x : Var) × IsAmong x candidates × (end_of nodes known (variable x) ≡ variable r)
          by None p =
              let z : variable w.1 ≡ variable r = sym (stays_end w.0 w.1 w.3 p) ∙ last in
              absurd (w.4 (cc))
          by (Some t) p =
              let u : (b : Var × Term) × (b.0 ≡ w.1) × Shown b = all-found Shown added w.1 t k.each p in
              let s : end_of nodes (known ++ added) (variable w.1) ≡ variable r = ap (end_of nodes (known ++ added)) (sym w.3) ∙ sym (extends (variable w.0)) ∙ last in
              let m : IsAmong r candidates = (u.2 (subst (IsOutside inner) (sym u.1) (ends w.0 w.1 w.2 w.3))).1 r (ends v r o e) (ap (λ (x : Var). end_of nodes (known ++ added) (variable x)) u.1 ∙ s) in
              (r, m, end-free nodes known r (unbound v r e))

-- frames by name
pub named-append : (fs gs : List Name) (n : Name) → is_named (fs ++ gs) n ≡ (is_named fs n || is_named gs n)
named-append [] gs n = refl
named-append (f ∷ fs) gs n = on (same_name f n) (named-append fs gs n)
  where
    on : (k : Bool) → is_named (fs ++ gs) n ≡ (is_named fs n || is_named gs n) → (k || is_named (fs ++ gs) n) ≡ ((k || is_named fs n) || is_named gs n)
    on true h = refl
    on false h = h

same_name-equal : (a b : Name) → same_name a b ≡ true → a ≡ b
same_name-equal a b e =
    let p : a.worker ≡ b.worker = grind (arith, nat_tests) in
    let q : a.number ≡ b.number = grind (arith, nat_tests) in
    λ i. record { worker = p i; number = q i }

same_name-refl : (a : Name) → same_name a a ≡ true
same_name-refl a = grind (arith, nat_tests)

pub not-named : (fs : List Name) (x : Var) → is_named fs x.frame ≡ false → IsOutside fs x
not-named [] x e l = l
not-named (f ∷ fs) x e l = on (same_name f x.frame) refl e (λ h. not-named fs x h) l
  where
    on : (k : Bool) → same_name f x.frame ≡ k → (k || is_named fs x.frame) ≡ false → (is_named fs x.frame ≡ false → IsOutside fs x) → IsLocal (f ∷ fs) x → ⊥
    on true q e g l = cc
    on false q e g (inl p) = let z : same_name f x.frame ≡ true = ap (λ (n : Name). same_name f n) p ∙ same_name-refl f in cc
    on false q e g (inr l) = g e l

pub is-named : (fs : List Name) (x : Var) → is_named fs x.frame ≡ true → IsLocal fs x
is-named [] x e = cc
is-named (f ∷ fs) x e = on (same_name f x.frame) refl e (λ h. is-named fs x h)
  where
    on : (k : Bool) → same_name f x.frame ≡ k → (k || is_named fs x.frame) ≡ true → (is_named fs x.frame ≡ true → IsLocal fs x) → IsLocal (f ∷ fs) x
    on true q e g = inl (sym (same_name-equal f x.frame q))
    on false q e g = inr (g e)

outside-push : (inner : List Name) (cs : List Var) (y : Var) → ((x : Var) → IsAmong x cs → IsOutside inner x) → IsOutside inner y → (x : Var) → IsAmong x (cs ++ y ∷ []) → IsOutside inner x
outside-push inner cs y h o x m = elim (among-either cs (y ∷ []) x m) [ inl a ↦ h x a | inr b ↦ one b ]
  where
    one : IsAmong x (y ∷ []) → IsOutside inner x
    one (inl e) = subst (IsOutside inner) (sym e) o
    one (inr e) = absurd e

-- candidates one by one
module _ (nodes : List Node) (whole : List (Var × Term)) (inner : List Name) where
  abbrev pub ShownIn : List Var → (Var × Term) → Type 0
  ShownIn candidates b = IsOutside inner b.0 → IsAmong b.0 candidates × ((y : Var) → IsOutside inner y → end_of nodes whole (variable b.0) ≡ variable y → IsAmong y candidates)

  pub candidates-none : AreCandidates nodes whole inner [] []
  candidates-none = record { outside = λ x m. absurd m; each = tt }

  more-shown : (bs : List (Var × Term)) (cs ds : List Var) → AllByRecursion (ShownIn cs) bs → AllByRecursion (ShownIn (cs ++ ds)) bs
  more-shown [] cs ds h = tt
  more-shown (b ∷ bs) cs ds h = (λ o. (among-left cs ds b.0 (h.0 o).0, λ y p e. among-left cs ds y ((h.0 o).1 y p e)), more-shown bs cs ds h.1)

  shown-push : (bs : List (Var × Term)) (cs : List Var) (b : Var × Term) → AllByRecursion (ShownIn cs) bs → ShownIn cs b → AllByRecursion (ShownIn cs) (bs ++ b ∷ [])
  shown-push [] cs b h p = (p, tt)
  shown-push (c ∷ bs) cs b h p = (h.0, shown-push bs cs b h.1 p)

  module _ (bs : List (Var × Term)) (cs : List Var) (h : AreCandidates nodes whole inner bs cs) (b : Var × Term) where
    pub candidates-inner : is_named inner b.0.frame ≡ true → AreCandidates nodes whole inner (bs ++ b ∷ []) cs
    candidates-inner e = record { outside = h.outside; each = shown-push bs cs b h.each (λ o. absurd (o (is-named inner b.0 e))) }

    pub candidates-headed : is_named inner b.0.frame ≡ false → IsEndOf nodes whole b.0 None → AreCandidates nodes whole inner (bs ++ b ∷ []) (cs ++ b.0 ∷ [])
    candidates-headed e n = record {
      outside = λ x m. out x m;
      each = shown-push bs (cs ++ b.0 ∷ []) b (more-shown bs cs (b.0 ∷ []) h.each) (λ o. (among-right cs (b.0 ∷ []) b.0 (inl refl), λ y p q. absurd (no_head (end_of nodes whole (variable b.0)) y q n)));
    }
      where
        out : (x : Var) → IsAmong x (cs ++ b.0 ∷ []) → IsOutside inner x
        out x m = outside-push inner cs b.0 h.outside (not-named inner b.0 e) x m

    pub candidates-inner_end : (y : Var) → is_named inner b.0.frame ≡ false → IsEndOf nodes whole b.0 (Some y) → is_named inner y.frame ≡ true → AreCandidates nodes whole inner (bs ++ b ∷ []) (cs ++ b.0 ∷ [])
    candidates-inner_end y e n i = record {
      outside = λ x m. outside-push inner cs b.0 h.outside (not-named inner b.0 e) x m;
      each = shown-push bs (cs ++ b.0 ∷ []) b (more-shown bs cs (b.0 ∷ []) h.each) (λ o. (
        among-right cs (b.0 ∷ []) b.0 (inl refl),
        λ z p q.
            let r : variable y ≡ variable z = sym n ∙ q in
            let s : y ≡ z = cc in
            absurd (p (subst (IsLocal inner) s (is-named inner y i))),
      ));
    }

    pub candidates-end : (y : Var) → is_named inner b.0.frame ≡ false → IsEndOf nodes whole b.0 (Some y) → is_named inner y.frame ≡ false → AreCandidates nodes whole inner (bs ++ b ∷ []) ((cs ++ b.0 ∷ []) ++ y ∷ [])
    candidates-end y e n i = record {
      outside = λ x m. outside-push inner (cs ++ b.0 ∷ []) y (λ z l. outside-push inner cs b.0 h.outside (not-named inner b.0 e) z l) (not-named inner y i) x m;
      each = shown-push bs ((cs ++ b.0 ∷ []) ++ y ∷ []) b (more-shown bs (cs ++ b.0 ∷ []) (y ∷ []) (more-shown bs cs (b.0 ∷ []) h.each))
          (λ o. (
            among-left (cs ++ b.0 ∷ []) (y ∷ []) b.0 (among-right cs (b.0 ∷ []) b.0 (inl refl)),
            λ z p q.
                let r : variable z ≡ variable y = sym q ∙ n in
                let s : z ≡ y = cc in
                among-right (cs ++ b.0 ∷ []) (y ∷ []) z (inl s),
          ));
    }

-- by the stores that have them
pub named_in-frames : (ss : List Stored) (n : Name) → named_in ss n ≡ is_named (frames_from ss) n
named_in-frames [] n = refl
named_in-frames (s ∷ ss) n = ap (λ (k : Bool). is_named s.frames n || k) (named_in-frames ss n) ∙ sym (named-append s.frames (frames_from ss) n)
