-- What is read from solved forms is what is asked.
use Rattle.std.proofs.Common.{◌≡◌, ℕ, List, [], ◌∷◌, ◌++◌, length, ◌-◌, take, drop, refl, sym, ap, subst, ◌∙◌, ◌⊎◌, inl, inr, append-nil, None, Bool, true, false, zero, suc, ◌<◌, ◌≤◌, slice_index_or, arith}
use Rattle.std.specs.Prelude.{◌==◌}
use Rattle.std.specs.List.{AllByRecursion}
use Rattle.akl_terms.specs.declared.name.Name.{Name}
use Rattle.akl_terms.specs.declared.name.Var.{Var}
use Rattle.akl_terms.specs.declared.term.Node.{Node}
use Rattle.akl_terms.specs.declared.term.Term.{Term}
use Rattle.akl_terms.specs.Tree.{Tree, variable, head_of}
use Rattle.akl_terms.specs.Touching.{IsLocal, IsTied, Touches}
use Rattle.akl_terms.specs.Equal.{Equations, IsTold, Equal, told, IsConsistent, IsStructured, IsQuiet}
use Rattle.akl_terms.specs.Solved.{IsBound}
use Rattle.akl_terms.proofs.EqualLaws.{EqualBy-follows, IsTold-left, IsTold-right, IsTold-either}
use Rattle.rational_unify.specs.Known.{bound_in, end_of}
use Rattle.akl_terms.specs.Names.{same_var}
use Rattle.rational_unify.specs.Forms.{IsFormOf, TellsBindings, Takes, IsClashOfBindings}
use Rattle.rational_unify.specs.Shortened.{IsVariableOf}
use Rattle.rational_unify.proofs.FormLaws.{form-consistent}
use Rattle.rational_unify.proofs.Taking.{drop-next}
use Rattle.rational_unify.proofs.Stands.{HasHead}
use Rattle.akl_terms.proofs.SameNames.{same_var-equal, same_var-refl}
use Rattle.local_store.specs.Stored.{Stored}
use Rattle.local_store.specs.Chained.{bindings_from, IsSolvedChain}
use Rattle.local_store.proofs.Layers.{end-extends, form-join, form-as, chain-form, chain-clash}
use Rattle.local_store.proofs.Known.{drop-whole}
use Rattle.local_store.proofs.Parts.{takes-part, ends-parts, from-split}
use Rattle.entail_test.specs.declared.outside.Outside.{Outside}
use Rattle.entail_test.specs.declared.outside.Outside.TheVariants.{Touched, Clash}
use Rattle.entail_test.specs.Asked.{frames_from, environment_at, own_at, KeepsApart, IsClashAt, DecidesRead, Reads, Shows, ReadsOver, AnswersOver}
use Rattle.entail_test.specs.Touched.{AreTouched}
use Rattle.local_store.proofs.FormEnds.{has_head, unheaded, structured, unstructured, one_class, one_end}
use Rattle.entail_test.proofs.Ends.{are_touched}
use Rattle.entail_test.proofs.Enough.{ShownIn, ends-outside, enough}

-- where nothing is touched all is quiet
module _ (nodes : List Node) (known : List (Var × Term)) (E C : Equations) (inner : List Name) (f : IsFormOf nodes known (IsTold E)) where
  pub quiet-none : IsConsistent (E ++ C) → AreTouched inner E (E ++ C) [] → IsQuiet E (IsLocal inner) C
  quiet-none c t = record { consistent = c; structured = λ x l s. at x l s (has_head (end_of nodes known (variable x))); equal = λ x y lx ly nx ny q. same x y lx ly nx ny q (root x nx) (root y ny) }
    where
      none : (x : Var) → Touches inner E (E ++ C) x → ⊥
      none x m = (t.every x m).1

      at : (x : Var) → (IsLocal inner x → ⊥) → IsStructured (E ++ C) x → HasHead (end_of nodes known (variable x)) ⊎ (head_of (end_of nodes known (variable x)) ≡ None) → IsStructured E x
      at x l s (inl h) = structured nodes known E f x h
      at x l s (inr e) = absurd (none x (record { unbound = record { outside = l; unstructured = unstructured nodes known E f x (unheaded (end_of nodes known (variable x)) e).0 (unheaded (end_of nodes known (variable x)) e).1 }; told = inl s }))

      root : (x : Var) → (IsStructured E x → ⊥) → (r : Var) × (end_of nodes known (variable x) ≡ variable r)
      root x n = elim (has_head (end_of nodes known (variable x))) [ inl h ↦ absurd (n (structured nodes known E f x h)) | inr e ↦ unheaded (end_of nodes known (variable x)) e ]

      same : (x y : Var) → (IsLocal inner x → ⊥) → (IsLocal inner y → ⊥) → (IsStructured E x → ⊥) → (IsStructured E y → ⊥) → Equal (E ++ C) (variable x) (variable y)
          → ((r : Var) × (end_of nodes known (variable x) ≡ variable r)) → ((s : Var) × (end_of nodes known (variable y) ≡ variable s)) → Equal E (variable x) (variable y)
      same x y lx ly nx ny q r s = on (same_var r.0 s.0) refl
        where
          on : (k : Bool) → same_var r.0 s.0 ≡ k → Equal E (variable x) (variable y)
          on true e = one_class nodes known E f x y (r.1 ∙ ap variable (same_var-equal r.0 s.0 e) ∙ sym s.1)
          on false e = absurd (none x (record { unbound = record { outside = lx; unstructured = nx }; told = inr (y, record { other = record { outside = ly; unstructured = ny }; equal = q; apart = apart }) }))
            where
              apart : Equal E (variable x) (variable y) → ⊥
              apart p =
                  let z : variable r.0 ≡ variable s.0 = sym r.1 ∙ one_end nodes known E f x y r.0 r.1 p ∙ s.1 in
                  let w : r.0 ≡ s.0 = cc in
                  let v : same_var r.0 s.0 ≡ true = ap (λ (u : Var). same_var r.0 u) (sym w) ∙ same_var-refl r.0 in
                  cc

-- where something is touched it isn't quiet
pub touched-noisy : (E C : Equations) (inner : List Name) (x : Var) (xs : List Var) → AreTouched inner E (E ++ C) (x ∷ xs) → IsQuiet E (IsLocal inner) C → ⊥
touched-noisy E C inner x xs t q = on (t.each x (inl refl))
  where
    on : Touches inner E (E ++ C) x → ⊥
    on m = by m.told
      where
        by : IsStructured (E ++ C) x ⊎ ((y : Var) × IsTied inner E (E ++ C) x y) → ⊥
        by (inl s) = m.unbound.unstructured (q.structured x m.unbound.outside s)
        by (inr w) = w.1.apart (q.equal x w.0 m.unbound.outside w.1.other.outside m.unbound.unstructured w.1.other.unstructured w.1.equal)

module _ (nodes : List Node) (ss : List Stored) (depth : ℕ) (known : List (Var × Term)) (fE : IsFormOf nodes known (IsTold (environment_at nodes ss depth))) where
  E : Equations
  E = environment_at nodes ss depth

  C : Equations
  C = own_at nodes ss depth

  pub whole-form : (added : List (Var × Term)) → Takes nodes known [] added (bindings_from (drop depth ss)) → IsFormOf nodes (known ++ added) (IsTold (environment_at nodes ss depth ++ own_at nodes ss depth))
  whole-form added t = form-as nodes (known ++ added) (λ a b. IsTold (environment_at nodes ss depth) a b ⊎ IsTold (own_at nodes ss depth) a b) (IsTold (environment_at nodes ss depth ++ own_at nodes ss depth))
      (form-join nodes known added (IsTold (environment_at nodes ss depth)) (TellsBindings nodes (known ++ []) (bindings_from (drop depth ss))) (IsTold (own_at nodes ss depth)) fE t.form
      (λ a b m. elim m [ inl x ↦ inl (subst (λ (l : List (Var × Term)). IsBound (bound_in nodes l) a b) (append-nil known) x) | inr x ↦ inr x ]) (λ a b m. inr m))
      (λ a b m. elim m [ inl x ↦ IsTold-left (environment_at nodes ss depth) (own_at nodes ss depth) a b x | inr x ↦ IsTold-right (environment_at nodes ss depth) (own_at nodes ss depth) a b x ])
      (IsTold-either (environment_at nodes ss depth) (own_at nodes ss depth))

  pub decides-read : (o : Outside) → AnswersOver nodes known (drop depth ss) o → DecidesRead nodes ss depth o
  decides-read (Touched on) r = form-consistent nodes (known ++ r.added) (IsTold (environment_at nodes ss depth ++ own_at nodes ss depth)) (whole-form r.added r.takes)
  decides-read (Clash left right) c = (
    EqualBy-follows (λ a b m. elim m [
      | inl x ↦ EqualBy-follows (λ u v y. told (IsTold-left (environment_at nodes ss depth) (own_at nodes ss depth) u v y)) (fE.follow a b (subst (λ (l : List (Var × Term)). IsBound (bound_in nodes l) a b) (append-nil known) x))
      | inr x ↦ told (IsTold-right (environment_at nodes ss depth) (own_at nodes ss depth) a b x)
    ]) c.equal,
    c.differ,
  )

  pub answers-reads : KeepsApart (frames_from (drop depth ss)) (environment_at nodes ss depth) → (o : Outside) → AnswersOver nodes known (drop depth ss) o → Reads nodes ss depth o
  answers-reads scoped (Touched on) r = (
    decides-read (Touched on) r,
    touched_all,
    λ e. quiet-none nodes known (environment_at nodes ss depth) (own_at nodes ss depth) (frames_from (drop depth ss)) fE (decides-read (Touched on) r)
        (rw e at touched_all),
  )
    where
      fW : IsFormOf nodes (known ++ r.added) (IsTold (environment_at nodes ss depth ++ own_at nodes ss depth))
      fW = whole-form r.added r.takes

      touched_all : AreTouched (frames_from (drop depth ss)) (environment_at nodes ss depth) (environment_at nodes ss depth ++ own_at nodes ss depth) on.items
      touched_all = rw r.shows.noisy (are_touched nodes known (known ++ r.added) (environment_at nodes ss depth) (environment_at nodes ss depth ++ own_at nodes ss depth) (frames_from (drop depth ss)) fE fW
          (end-extends nodes known r.added fW.solved) r.shows.candidates r.shows.classes r.shows.classified
          (enough nodes known r.added (IsTold (environment_at nodes ss depth)) (IsTold (environment_at nodes ss depth ++ own_at nodes ss depth)) (frames_from (drop depth ss)) r.shows.candidates fE fW
          (end-extends nodes known r.added fW.solved) (ends-outside nodes known (environment_at nodes ss depth) (frames_from (drop depth ss)) fE scoped) r.shows.shown))
  answers-reads scoped (Clash left right) c = decides-read (Clash left right) c

module _ (nodes : List Node) (ss : List Stored) (depth k : ℕ) (f : IsSolvedChain nodes (take k (take depth ss))) where
  pub environment-form : (new : List (Var × Term)) → Takes nodes (bindings_from (take k (take depth ss))) [] new (bindings_from (take (length (take depth ss) - k) (drop k (take depth ss))))
      → IsFormOf nodes (bindings_from (take k (take depth ss)) ++ new) (IsTold (environment_at nodes ss depth))
  environment-form new t = chain-form nodes (take depth ss) k (bindings_from (take k (take depth ss))) new f.form
      (subst (λ (l : List Stored). Takes nodes (bindings_from (take k (take depth ss))) [] new (bindings_from l)) (drop-whole (take depth ss) k) t)

  pub environment-clash : (left right : Term) → IsClashOfBindings nodes (bindings_from (take k (take depth ss)) ++ []) (bindings_from (take (length (take depth ss) - k) (drop k (take depth ss)))) left right
      → IsClashAt nodes ss depth left right
  environment-clash left right c = (
    EqualBy-follows (λ a b m. told (IsTold-left (environment_at nodes ss depth) (own_at nodes ss depth) a b m))
        (chain-clash nodes (take depth ss) k (bindings_from (take k (take depth ss))) left right f.form (subst (λ (l : List Stored). IsClashOfBindings nodes (bindings_from (take k (take depth ss)) ++ []) (bindings_from l) left right) (drop-whole (take depth ss) k) c)),
    c.differ,
  )

-- over other bindings whose chains end where those do the same is shown
module _ (nodes : List Node) (known bs cs : List (Var × Term)) (ends : (t : Tree) → end_of nodes bs t ≡ end_of nodes cs t) (inner : List Name) where
  shown-as : (candidates : List Var) (added : List (Var × Term)) → AllByRecursion (ShownIn nodes bs inner candidates) added → AllByRecursion (ShownIn nodes cs inner candidates) added
  shown-as candidates [] h = tt
  shown-as candidates (b ∷ added) h = (λ o. ((h.0 o).0, λ y p e. (h.0 o).1 y p (ends (variable b.0) ∙ e)), shown-as candidates added h.1)

  shows-as : (added : List (Var × Term)) (on : List Var) → Shows nodes known bs inner added on → Shows nodes known cs inner added on
  shows-as added on h = record {
    candidates = h.candidates;
    shown = record { outside = h.shown.outside; each = shown-as h.candidates added h.shown.each };
    classes = h.classes;
    classified = record {
      member = h.classified.member;
      root = h.classified.root;
      end = λ c m. subst (λ (t : Tree). IsVariableOf t c.end) (ends (variable c.member)) (h.classified.end c m);
      covers = h.classified.covers;
      distinct = h.classified.distinct;
    };
    noisy = h.noisy;
  }

-- where the whole chain is known to be solved, the inner stores add their own bindings
pub reads-solved : (nodes : List Node) (ss : List Stored) (depth : ℕ) (on : List Var) → IsSolvedChain nodes ss
    → Shows nodes (bindings_from (take depth ss)) (bindings_from ss) (frames_from (drop depth ss)) (bindings_from (drop depth ss)) on → ReadsOver nodes (bindings_from (take depth ss)) (drop depth ss) on
reads-solved nodes ss depth on f h = record {
  added = bindings_from (drop depth ss);
  takes = takes-part nodes ss (bindings_from (take depth ss)) (bindings_from (drop depth ss)) (from-split ss depth) f;
  shows = shows-as nodes (bindings_from (take depth ss)) (bindings_from ss) (bindings_from (take depth ss) ++ bindings_from (drop depth ss))
      (ends-parts nodes ss (bindings_from (take depth ss)) (bindings_from (drop depth ss)) (from-split ss depth) f) (frames_from (drop depth ss)) (bindings_from (drop depth ss)) on h;
}

-- a list of all bindings of the stores from a place on, with those of the store before it
pub listed-more : (ss : List Stored) (left : ℕ) (d s : Stored) (list new : List (Var × Term)) → 0 < left → left ≤ length ss → s ≡ slice_index_or ss (left - 1) d
    → list ≡ bindings_from (drop left ss) → new ≡ list ++ s.bindings → new ≡ bindings_from (drop (left - 1) ss)
listed-more ss left d s list new more within e h n = n ∙ ap (λ (l : List (Var × Term)). l ++ s.bindings) h
    ∙ sym (ap bindings_from (drop-next ss (left - 1) left d (omega arith) (omega arith) ∙ ap (λ (r : Stored). r ∷ drop left ss) (sym e)))

pub noisy-some : (E C : Equations) (inner : List Name) (xs : List Var) → (length xs ≡ 0 → ⊥) → AreTouched inner E (E ++ C) xs → IsQuiet E (IsLocal inner) C → ⊥
noisy-some E C inner [] n t q = n refl
noisy-some E C inner (x ∷ xs) n t q = touched-noisy E C inner x xs t q

pub not-zero : (n : ℕ) → false ≡ (n == 0) → n ≡ 0 → ⊥
not-zero zero h e = cc
not-zero (suc n) h e = omega arith
