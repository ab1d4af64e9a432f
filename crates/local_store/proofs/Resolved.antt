-- How a chain is made solved, and what is read from it.
use Rattle.std.proofs.Common.{◌≡◌, ℕ, suc, ◌-◌, ◌+◌, List, [], ◌∷◌, ◌++◌, length, take, drop, Some, None, refl, sym, ap, subst, ◌∙◌, ◌⊎◌, inl, inr, arith, append-nil}
use Rattle.akl_terms.specs.declared.name.Var.{Var}
use Rattle.akl_terms.specs.declared.term.Node.{Node}
use Rattle.akl_terms.specs.declared.term.Term.{Term}
use Rattle.akl_terms.specs.declared.term.Seen.{Seen}
use Rattle.akl_terms.specs.declared.term.Seen.TheVariants.{Free}
use Rattle.akl_terms.specs.Tree.{Tree, variable, Head, head_of}
use Rattle.akl_terms.specs.Equal.{IsTold, EqualBy, told, IsConsistentBy}
use Rattle.akl_terms.specs.Decided.{DifferInHead}
use Rattle.akl_terms.specs.Solved.{IsBound, IsUnstructured}
use Rattle.akl_terms.specs.Template.{tree, seen_of}
use Rattle.akl_terms.proofs.EqualLaws.{EqualBy-follows}
use Rattle.rational_unify.specs.Known.{bound_in, IsSolved, end_of}
use Rattle.rational_unify.specs.Solving.{bindings_in, BindNew}
use Rattle.rational_unify.specs.Forms.{IsFormOf, TellsBindings, Takes, IsClashOfBindings}
use Rattle.rational_unify.proofs.Same.{Bound-same}
use Rattle.rational_unify.proofs.Stands.{HasHead, structured-end}
use Rattle.rational_unify.proofs.Walks.{EndsWithin-leads}
use Rattle.rational_unify.proofs.Chains.{BindNew-bound}
use Rattle.rational_unify.proofs.FormLaws.{bound-either, form-holds, form-follows, form-stays, form-consistent}
use Rattle.rational_unify.proofs.Ends.{free-tree, headed-tree}
use Rattle.local_store.specs.Stored.{Stored, joins, unbound, with_bindings}
use Rattle.local_store.specs.Chained.{bindings_from, innermost, around, replaced, ToldBy, IsFormChain, IsSolvedChain}
use Rattle.local_store.specs.Asking.{Resolves}
use Rattle.local_store.proofs.Known.{drop-whole}
use Rattle.local_store.proofs.Layers.{same-grows, form-as, form-join, form-reorder, forms-stand, joins-found, joins-length, joins-told, told-joins, from-last, from-innermost, bindings-either, bindings-left, bindings-right, chain-form, chain-clash}
use Rattle.local_store.proofs.Replaced.{length-append}

-- bindings of variables that have none, added to a solved form, and told
form-more : (nodes : List Node) (bs more : List (Var × Term)) (R : Tree → Tree → Type 0) → IsFormOf nodes bs R → IsSolved nodes (bs ++ more) → BindNew bs more
    → IsFormOf nodes (bs ++ more) (λ a b. R a b ⊎ IsTold (bindings_in nodes more) a b)
form-more nodes bs more R f h n = record {
  solved = h;
  follow = λ a b m. elim (bound-either nodes bs more a b m) [ inl x ↦ EqualBy-follows (λ c d y. told (inl y)) (f.follow a b x) | inr y ↦ told (inr y) ];
  hold = λ a b m k. elim m [
    | inl x ↦ same-grows nodes bs more h k a b (f.hold a b x k)
    | inr y ↦ Bound-same (bound_in nodes (bs ++ more)) (end_of nodes (bs ++ more)) (EndsWithin-leads (bound_in nodes (bs ++ more)) (length (bs ++ more)) h.ends) k a b (BindNew-bound nodes bs more a b n y)
  ];
}

pub around-take : (ss : List Stored) → take (length ss - 1) ss ≡ around ss
around-take [] = refl
around-take (s ∷ []) = refl
around-take (s ∷ t ∷ ss) = next (length (s ∷ t ∷ ss) - 1) (omega arith) (around-take (t ∷ ss))
  where
    next : (n : ℕ) → n ≡ suc (length (t ∷ ss) - 1) → take (length (t ∷ ss) - 1) (t ∷ ss) ≡ around (t ∷ ss) → take n (s ∷ t ∷ ss) ≡ s ∷ around (t ∷ ss)
    next n e h = subst (λ (k : ℕ). take k (s ∷ t ∷ ss) ≡ s ∷ around (t ∷ ss)) (sym e) (ap (λ (l : List Stored). s ∷ l) h)

-- bindings taken in over a solved form of others
module _ (nodes : List Node) (bs all own : List (Var × Term)) (f : IsFormOf nodes bs (IsTold (bindings_in nodes all))) where
  pub joined-form : (added : List (Var × Term)) → Takes nodes bs [] added own → IsFormOf nodes (bs ++ added) (IsTold (bindings_in nodes (own ++ all)))
  joined-form added t = form-as nodes (bs ++ added) (λ a b. IsTold (bindings_in nodes all) a b ⊎ IsTold (bindings_in nodes own) a b) (IsTold (bindings_in nodes (own ++ all)))
      (form-join nodes bs added (IsTold (bindings_in nodes all)) (TellsBindings nodes (bs ++ []) own) (IsTold (bindings_in nodes own)) f t.form
      (λ a b m. elim m [ inl x ↦ inl (subst (λ (l : List (Var × Term)). IsBound (bound_in nodes l) a b) (append-nil bs) x) | inr x ↦ inr x ]) (λ a b m. inr m))
      (λ a b m. elim m [ inl x ↦ bindings-right nodes own all a b x | inr x ↦ bindings-left nodes own all a b x ])
      (λ a b m. elim (bindings-either nodes own all a b m) [ inl x ↦ inr x | inr x ↦ inl x ])

  -- they don't clash where all is consistent
  pub no-clash : (left right : Term) → IsConsistentBy (IsTold (bindings_in nodes (own ++ all))) → IsClashOfBindings nodes (bs ++ []) own left right → ⊥
  no-clash left right c k = k.differ.differ (c.heads (EqualBy-follows (λ a b m. elim m [
    | inl x ↦ EqualBy-follows (λ u v y. told (bindings-right nodes own all u v y)) (f.follow a b (subst (λ (l : List (Var × Term)). IsBound (bound_in nodes l) a b) (append-nil bs) x))
    | inr x ↦ told (bindings-left nodes own all a b x)
  ]) k.equal) k.differ.is_left k.differ.is_right)

module _ (nodes : List Node) (ss : List Stored) (f : IsFormChain nodes (around ss)) where
  abbrev outer : List (Var × Term)
  outer = bindings_from (around ss)

  abbrev inner : List (Var × Term)
  inner = (innermost ss).bindings

  pub resolves : (added : List (Var × Term)) (new : Stored) → Takes nodes outer [] added inner → new ≡ with_bindings (unbound (innermost ss)) added → Resolves nodes ss new
  resolves added new t e = record {
    frames = ap (λ (r : Stored). r.frames) e;
    ports = ap (λ (r : Stored). r.ports) e;
    form = subst (λ (l : List (Var × Term)). IsFormOf nodes l (ToldBy nodes (replaced ss new))) (sym list)
        (form-reorder nodes (outer ++ added) (joins [] added ++ outer) (ToldBy nodes (replaced ss new)) (λ y. sym (joins-found [] outer added fresh y)) long after);
    stands = forms-stand nodes (outer ++ added) (ToldBy nodes ss) (ToldBy nodes (replaced ss new)) before after;
  }
    where
      list : bindings_from (replaced ss new) ≡ joins [] added ++ outer
      list = from-last (around ss) new ∙ ap (λ (r : Stored). r.bindings ++ outer) e

      all : added ≡ t.more
      all = t.added

      fresh : BindNew outer added
      fresh = subst (λ (l : List (Var × Term)). BindNew outer l) (sym all) (subst (λ (l : List (Var × Term)). BindNew l t.more) (append-nil outer) t.fresh)

      long : length (outer ++ added) ≡ length (joins [] added ++ outer)
      long =
          let p : length (outer ++ added) ≡ length outer + length added = length-append outer added in
          let q : length (joins [] added ++ outer) ≡ length (joins [] added) + length outer = length-append (joins [] added) outer in
          let r : length (joins [] added) ≡ length {A = Var × Term} [] + length added = joins-length [] added in
          omega arith

      before : IsFormOf nodes (outer ++ added) (ToldBy nodes ss)
      before = subst (λ (l : List (Var × Term)). IsFormOf nodes (outer ++ added) (IsTold (bindings_in nodes l))) (sym (from-innermost ss)) (joined-form nodes outer outer inner f added t)

      after : IsFormOf nodes (outer ++ added) (ToldBy nodes (replaced ss new))
      after = form-as nodes (outer ++ added) (λ a b. ToldBy nodes (around ss) a b ⊎ IsTold (bindings_in nodes added) a b) (ToldBy nodes (replaced ss new))
          (form-more nodes outer added (ToldBy nodes (around ss)) f before.solved fresh)
          (λ a b m. subst (λ (l : List (Var × Term)). IsTold (bindings_in nodes l) a b) (sym list)
          (elim m [ inl x ↦ bindings-right nodes (joins [] added) outer a b x | inr x ↦ bindings-left nodes (joins [] added) outer a b (told-joins nodes [] added a b (inr x)) ]))
          (λ a b m. elim (bindings-either nodes (joins [] added) outer a b (subst (λ (l : List (Var × Term)). IsTold (bindings_in nodes l) a b) list m)) [
            | inl x ↦ elim (joins-told nodes [] added a b x) [ inl y ↦ absurd y | inr y ↦ inr y ]
            | inr x ↦ inl x
          ])

  -- the innermost store doesn't clash with those around where the chain is consistent
  pub inner-no-clash : (left right : Term) → IsConsistentBy (ToldBy nodes ss) → IsClashOfBindings nodes (outer ++ []) inner left right → ⊥
  inner-no-clash left right c k = no-clash nodes outer outer inner f left right (subst (λ (l : List (Var × Term)). IsConsistentBy (IsTold (bindings_in nodes l))) (from-innermost ss) c) k

module _ (nodes : List Node) (ss : List Stored) (f : IsFormChain nodes ss) (t last : Term) (e : tree nodes last ≡ end_of nodes (bindings_from ss) (tree nodes t)) where
  to_last : EqualBy (ToldBy nodes ss) (tree nodes t) (tree nodes last)
  to_last = subst (λ (k : Tree). EqualBy (ToldBy nodes ss) (tree nodes t) k) (sym e) (form-follows nodes (bindings_from ss) (ToldBy nodes ss) f (tree nodes t))

  pub value-free : (x : Var) → Free x ≡ seen_of nodes last → EqualBy (ToldBy nodes ss) (tree nodes t) (variable x) × IsUnstructured (ToldBy nodes ss) (tree nodes t)
  value-free x s = (
    subst (λ (k : Tree). EqualBy (ToldBy nodes ss) (tree nodes t) k) (free-tree nodes last x s) to_last,
    λ u h d p. no (structured-end (ToldBy nodes ss) (end_of nodes (bindings_from ss))
        (form-stays nodes (bindings_from ss) (ToldBy nodes ss) f) (form-holds nodes (bindings_from ss) (ToldBy nodes ss) f) (form-follows nodes (bindings_from ss) (ToldBy nodes ss) f) (tree nodes t) u h d p),
  )
    where
      no : HasHead (end_of nodes (bindings_from ss) (tree nodes t)) → ⊥
      no h = let z : None ≡ Some h.0 = sym (ap head_of (sym e ∙ free-tree nodes last x s)) ∙ h.1 in cc

  pub value-bound : (s : Seen) → s ≡ seen_of nodes last → ((x : Var) → s ≡ Free x → ⊥) → EqualBy (ToldBy nodes ss) (tree nodes t) (tree nodes last) × ((h : Head) × (head_of (tree nodes last) ≡ Some h))
  value-bound s q n = (to_last, headed-tree nodes last s q n)

-- as far as is known to be solved
module _ (nodes : List Node) (ss : List Stored) (k : ℕ) (f : IsSolvedChain nodes (take k ss)) where
  pub further-consistent : (new : List (Var × Term)) → Takes nodes (bindings_from (take k ss)) [] new (bindings_from (take (length ss - k) (drop k ss))) → IsConsistentBy (ToldBy nodes ss)
  further-consistent new t = form-consistent nodes (bindings_from (take k ss) ++ new) (ToldBy nodes ss)
      (chain-form nodes ss k (bindings_from (take k ss)) new f.form (subst (λ (l : List Stored). Takes nodes (bindings_from (take k ss)) [] new (bindings_from l)) (drop-whole ss k) t))

  pub further-clash : (left right : Term) → IsClashOfBindings nodes (bindings_from (take k ss) ++ []) (bindings_from (take (length ss - k) (drop k ss))) left right
      → EqualBy (ToldBy nodes ss) (tree nodes left) (tree nodes right) × DifferInHead (tree nodes left) (tree nodes right)
  further-clash left right c = (
    chain-clash nodes ss k (bindings_from (take k ss)) left right f.form
        (subst (λ (l : List Stored). IsClashOfBindings nodes (bindings_from (take k ss) ++ []) (bindings_from l) left right) (drop-whole ss k) c),
    c.differ,
  )
