-- What stores that are solved together, and bindings that are added to them, bind.
use Rattle.std.proofs.Common.{◌≡◌, List, [], ◌∷◌, ◌++◌, Option, Some, None, Bool, true, false, cond, refl, sym, ap, ◌∙◌, inl, inr, take}
use Rattle.std.specs.Prelude.{map, filter, find, not, is_some, option_map}
use Rattle.akl_terms.specs.declared.name.Var.{Var}
use Rattle.akl_terms.specs.declared.term.Term.{Term}
use Rattle.akl_terms.specs.Names.{same_var}
use Rattle.akl_terms.proofs.SameNames.{same_var-equal}
use Rattle.constraint_laws.specs.Touched.{IsAmong}
use Rattle.rational_unify.specs.Known.{found_in}
use Rattle.rational_unify.specs.Solving.{BindNew}
use Rattle.rational_unify.proofs.Chains.{found-second, found-none}
use Rattle.local_store.specs.Stored.{Stored}
use Rattle.local_store.specs.Chained.{bindings_from}
use Rattle.local_store.proofs.Among.{among-either, among-left, among-right}
use Rattle.class_members.specs.Listed.{unbound_keys, unbound_inside, inner_keys, candidates_of}

-- a variable that is found is one that is bound
key_among : (bs : List (Var × Term)) (x : Var) (t : Term) → found_in bs x ≡ Some t → IsAmong x (map (λ (b : Var × Term). b.0) bs)
key_among [] x t e = cc
key_among (b ∷ bs) x t e = on (same_var b.0 x) refl e (key_among bs x t)
  where
    on : (k : Bool) → same_var b.0 x ≡ k → option_map (λ (p : Var × Term). p.1) (cond k (Some b) (find (λ p. same_var p.0 x) bs)) ≡ Some t
        → (found_in bs x ≡ Some t → IsAmong x (map (λ (b : Var × Term). b.0) bs)) → IsAmong x (map (λ (b : Var × Term). b.0) (b ∷ bs))
    on true q e f = inl (sym (same_var-equal b.0 x q))
    on false q e f = inr (f e)

-- the first store of a list binds no more than all of them
pub first_unbound : (ss : List Stored) (x : Var) → found_in (bindings_from ss) x ≡ None → found_in (bindings_from (take 1 ss)) x ≡ None
first_unbound [] x e = refl
first_unbound (s ∷ ss) x e = (found-none (bindings_from ss) s.bindings x e).1

module _ (s : Stored) (x : Var) where
  abbrev keys : Bool → (Var × Term) → List (Var × Term) → List Var
  keys k b bs = map (λ (b : Var × Term). b.0) (cond k (b ∷ filter (λ (b : Var × Term). not (is_some (found_in s.bindings b.0))) bs) (filter (λ (b : Var × Term). not (is_some (found_in s.bindings b.0))) bs))

  unbound_among : (bs : List (Var × Term)) (t : Term) → found_in bs x ≡ Some t → found_in s.bindings x ≡ None → IsAmong x (unbound_keys s bs)
  unbound_among [] t e n = cc
  unbound_among (b ∷ bs) t e n = on (same_var b.0 x) refl e (λ f. unbound_among bs t f n)
    where
      later : (k : Bool) → IsAmong x (unbound_keys s bs) → IsAmong x (keys k b bs)
      later true m = inr m
      later false m = m

      on : (k : Bool) → same_var b.0 x ≡ k → option_map (λ (p : Var × Term). p.1) (cond k (Some b) (find (λ p. same_var p.0 x) bs)) ≡ Some t
          → (found_in bs x ≡ Some t → IsAmong x (unbound_keys s bs)) → IsAmong x (unbound_keys s (b ∷ bs))
      on true q e f =
          let p : not (is_some (found_in s.bindings b.0)) ≡ true = ap (λ (o : Option Term). not (is_some o)) (ap (found_in s.bindings) (same_var-equal b.0 x q) ∙ n) in
          rw p (inl (sym (same_var-equal b.0 x q)))
      on false q e f = later (not (is_some (found_in s.bindings b.0))) (f e)

  among_unbound : (bs : List (Var × Term)) → IsAmong x (unbound_keys s bs) → found_in s.bindings x ≡ None
  among_unbound [] m = absurd m
  among_unbound (b ∷ bs) m = on (found_in s.bindings b.0) refl m (among_unbound bs)
    where
      on : (o : Option Term) → found_in s.bindings b.0 ≡ o → IsAmong x (keys (not (is_some o)) b bs) → (IsAmong x (unbound_keys s bs) → found_in s.bindings x ≡ None) → found_in s.bindings x ≡ None
      on None e (inl p) f = ap (found_in s.bindings) p ∙ e
      on None e (inr k) f = f k
      on (Some t) e k f = f k

  inside_among : (ss : List Stored) (t : Term) → found_in (bindings_from ss) x ≡ Some t → found_in s.bindings x ≡ None → IsAmong x (unbound_inside s ss)
  inside_among [] t e n = cc
  inside_among (r ∷ ss) t e n = on (found_in (bindings_from ss) x) refl (λ u q. inside_among ss u q n)
    where
      on : (o : Option Term) → found_in (bindings_from ss) x ≡ o → ((u : Term) → found_in (bindings_from ss) x ≡ Some u → IsAmong x (unbound_inside s ss)) → IsAmong x (unbound_keys s r.bindings ++ unbound_inside s ss)
      on None q f = among-left (unbound_keys s r.bindings) (unbound_inside s ss) x (unbound_among r.bindings t (sym (found-second (bindings_from ss) r.bindings x q) ∙ e) n)
      on (Some u) q f = among-right (unbound_keys s r.bindings) (unbound_inside s ss) x (f u q)

  among_inside : (ss : List Stored) → IsAmong x (unbound_inside s ss) → found_in s.bindings x ≡ None
  among_inside [] m = absurd m
  among_inside (r ∷ ss) m = elim (among-either (unbound_keys s r.bindings) (unbound_inside s ss) x m) [ inl a ↦ among_unbound r.bindings a | inr b ↦ among_inside ss b ]

-- the variable of a new binding had none
new_unbound : (known bs : List (Var × Term)) (x : Var) → BindNew known bs → IsAmong x (map (λ (b : Var × Term). b.0) bs) → found_in known x ≡ None
new_unbound known [] x h m = absurd m
new_unbound known (b ∷ bs) x h (inl p) = ap (found_in known) p ∙ h.0
new_unbound known (b ∷ bs) x h (inr m) = (found-none known (b ∷ []) x (new_unbound (known ++ b ∷ []) bs x h.1 m)).0

-- what is bound, and not by the first store, is a candidate
pub candidate : (ss : List Stored) (added : List (Var × Term)) (x : Var) (t : Term) → found_in (bindings_from ss ++ added) x ≡ Some t → found_in (bindings_from (take 1 ss)) x ≡ None
    → IsAmong x (candidates_of ss added)
candidate ss added x t e n = on (found_in (bindings_from ss) x) refl
  where
    inner : (ss : List Stored) → found_in (bindings_from (take 1 ss)) x ≡ None → (u : Term) → found_in (bindings_from ss) x ≡ Some u → IsAmong x (inner_keys ss)
    inner [] n u q = cc
    inner (s ∷ rest) n u q = by (found_in (bindings_from rest) x) refl
      where
        by : (o : Option Term) → found_in (bindings_from rest) x ≡ o → IsAmong x (unbound_inside s rest)
        by None p = let z : None ≡ Some u = sym n ∙ sym (found-second (bindings_from rest) s.bindings x p) ∙ q in cc
        by (Some v) p = inside_among s x rest v p n

    on : (o : Option Term) → found_in (bindings_from ss) x ≡ o → IsAmong x (candidates_of ss added)
    on None q = among-right (inner_keys ss) (map (λ (b : Var × Term). b.0) added) x (key_among added x t (sym (found-second (bindings_from ss) added x q) ∙ e))
    on (Some u) q = among-left (inner_keys ss) (map (λ (b : Var × Term). b.0) added) x (inner ss n u q)

-- and the first store binds no candidate
pub candidate_unbound : (ss : List Stored) (added : List (Var × Term)) (x : Var) → BindNew (bindings_from ss) added → IsAmong x (candidates_of ss added) → found_in (bindings_from (take 1 ss)) x ≡ None
candidate_unbound ss added x h m = elim (among-either (inner_keys ss) (map (λ (b : Var × Term). b.0) added) x m) [
  | inl a ↦ inner ss a
  | inr b ↦ first_unbound ss x (new_unbound (bindings_from ss) added x h b)
]
  where
    inner : (ss : List Stored) → IsAmong x (inner_keys ss) → found_in (bindings_from (take 1 ss)) x ≡ None
    inner [] m = absurd m
    inner (s ∷ rest) m = among_inside s x rest m
