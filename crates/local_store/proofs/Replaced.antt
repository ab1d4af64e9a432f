-- A store that takes what is found for equations.
use Rattle.std.proofs.Common.{◌≡◌, ℕ, List, [], ◌∷◌, ◌++◌, length, refl, sym, ap, subst, ◌∙◌, ◌⊎◌, inl, inr, arith, ◌+◌, ◌-◌, take, drop, Bool, false}
use Rattle.std.specs.Prelude.{IsTrue, ◌↔◌}
use Rattle.std.proofs.lemmas.Bool.{false≢true}
use Rattle.akl_terms.specs.declared.name.Var.{Var}
use Rattle.akl_terms.specs.declared.term.Node.{Node}
use Rattle.akl_terms.specs.declared.term.Term.{Term}
use Rattle.akl_terms.specs.declared.term.Equation as code
use Rattle.akl_terms.specs.Tree.{Tree, variable}
use Rattle.akl_terms.specs.Equal.{Equations, IsTold, EqualBy, told, turned, joined, IsConsistentBy}
use Rattle.akl_terms.specs.Template.{tree}
use Rattle.akl_terms.specs.Decided.{DifferInHead}
use Rattle.akl_terms.proofs.EqualLaws.{EqualBy-follows, IsTold-left, IsTold-right, IsTold-either}
use Rattle.rational_unify.specs.Known.{found_in}
use Rattle.rational_unify.specs.Older.{LeadOlder, KeepsOlder, EachOlder}
use Rattle.rational_unify.specs.Solving.{bindings_in, equations_in, BindNew, IsSolution, IsClashOf}
use Rattle.rational_unify.specs.Forms.{IsFormOf, Takes, IsClashOfBindings}
use Rattle.rational_unify.proofs.FormLaws.{form-consistent}
use Rattle.local_store.specs.Stored.{Stored, joins, with_bindings}
use Rattle.local_store.specs.Chained.{bindings_from, equations_of, innermost, around, replaced, ToldBy, IsFormChain, BindOnce, IsSolvedChain}
use Rattle.local_store.specs.Bound.{AreNewlyBound}
use Rattle.local_store.specs.Parts.{ToldStore}
use Rattle.local_store.specs.Telling.{ToldAlso, Tells, AnswersTold, Adds, added, clash, AddsOver, taken, clashing, clashed, somewhere}
use Rattle.local_store.proofs.Layers.{form-as, form-equations, form-added, forms-stand, inconsistent-stand, form-reorder, older-reorder, joins-found, joins-length, joins-told, told-joins, from-last, from-innermost, bindings-either, bindings-left, bindings-right, chain-form, chain-clash}
use Rattle.local_store.proofs.Once.{once-joins}
use Rattle.local_store.proofs.Known.{drop-whole}
use Rattle.local_store.proofs.EachLeads.{added-older, kept-older}
use Rattle.local_store.proofs.NewlyBound.{none_bound, are_newly_bound}

pub length-append : (xs ys : List (Var × Term)) → length (xs ++ ys) ≡ length xs + length ys
length-append [] ys = omega arith
length-append (x ∷ xs) ys = let h : length (xs ++ ys) ≡ length xs + length ys = length-append xs ys in omega arith

module _ (nodes : List Node) (ss : List Stored) (more : List (Var × Term)) where
  inner : List (Var × Term)
  inner = (innermost ss).bindings

  -- with further bindings in the innermost store
  pub replaced-list : (new : Stored) → bindings_from (replaced ss new) ≡ new.bindings ++ bindings_from (around ss)
  replaced-list new = from-last (around ss) new

  pub replaced-told : (new : Stored) → new.bindings ≡ joins (innermost ss).bindings more → (s t : Tree) → ToldBy nodes (replaced ss new) s t → ToldBy nodes ss s t ⊎ IsTold (bindings_in nodes more) s t
  replaced-told new e s t m = elim (bindings-either nodes (joins (innermost ss).bindings more) (bindings_from (around ss)) s t
      (subst (λ (l : List (Var × Term)). IsTold (bindings_in nodes l) s t) (replaced-list new ∙ ap (λ (l : List (Var × Term)). l ++ bindings_from (around ss)) e) m)) [
        | inl x ↦ elim (joins-told nodes (innermost ss).bindings more s t x) [ inl y ↦ inl (all (bindings-left nodes (innermost ss).bindings (bindings_from (around ss)) s t y)) | inr y ↦ inr y ]
        | inr x ↦ inl (all (bindings-right nodes (innermost ss).bindings (bindings_from (around ss)) s t x))
      ]
    where
      all : IsTold (bindings_in nodes ((innermost ss).bindings ++ bindings_from (around ss))) s t → ToldBy nodes ss s t
      all m = subst (λ (l : List (Var × Term)). IsTold (bindings_in nodes l) s t) (sym (from-innermost ss)) m

  pub told-replaced : (new : Stored) → new.bindings ≡ joins (innermost ss).bindings more → (s t : Tree) → ToldBy nodes ss s t ⊎ IsTold (bindings_in nodes more) s t → ToldBy nodes (replaced ss new) s t
  told-replaced new e s t m = subst (λ (l : List (Var × Term)). IsTold (bindings_in nodes l) s t) (sym (replaced-list new ∙ ap (λ (l : List (Var × Term)). l ++ bindings_from (around ss)) e)) (on m)
    where
      on : ToldBy nodes ss s t ⊎ IsTold (bindings_in nodes more) s t → IsTold (bindings_in nodes (joins (innermost ss).bindings more ++ bindings_from (around ss))) s t
      on (inr y) = bindings-left nodes (joins (innermost ss).bindings more) (bindings_from (around ss)) s t (told-joins nodes (innermost ss).bindings more s t (inr y))
      on (inl x) = elim (bindings-either nodes (innermost ss).bindings (bindings_from (around ss)) s t (subst (λ (l : List (Var × Term)). IsTold (bindings_in nodes l) s t) (from-innermost ss) x)) [
        | inl y ↦ bindings-left nodes (joins (innermost ss).bindings more) (bindings_from (around ss)) s t (told-joins nodes (innermost ss).bindings more s t (inl y))
        | inr y ↦ bindings-right nodes (joins (innermost ss).bindings more) (bindings_from (around ss)) s t y
      ]

-- equations told to a chain, as one list
told-also : (nodes : List Node) (ss : List Stored) (es : List code.Equation) (s t : Tree) → ToldAlso nodes ss es s t → IsTold (equations_of nodes ss ++ equations_in nodes es) s t
told-also nodes ss es s t m = elim m [ inl x ↦ IsTold-left (equations_of nodes ss) (equations_in nodes es) s t x | inr y ↦ IsTold-right (equations_of nodes ss) (equations_in nodes es) s t y ]

-- nothing is bound where they clash
clash-bound : (nodes : List Node) (ss : List Stored) (es : List code.Equation) (left right : Term) → EqualBy (ToldAlso nodes ss es) (tree nodes left) (tree nodes right)
    → DifferInHead (tree nodes left) (tree nodes right) → AreNewlyBound (equations_of nodes ss) (equations_of nodes ss) (equations_of nodes ss ++ equations_in nodes es) []
clash-bound nodes ss es left right e d = none_bound (equations_of nodes ss) (equations_of nodes ss) (equations_of nodes ss ++ equations_in nodes es)
    (λ c. d.differ (c.heads (EqualBy-follows (λ a b m. told (told-also nodes ss es a b m)) e) d.is_left d.is_right))

-- two terms of different heads, made equal
tells-clash : (nodes : List Node) (ss : List Stored) (known : ℕ) (es : List code.Equation) (new : Stored) (left right : Term) → EqualBy (ToldAlso nodes ss es) (tree nodes left) (tree nodes right) → DifferInHead (tree nodes left) (tree nodes right) → new ≡ clashed (innermost ss) left right → Tells nodes ss known es new
tells-clash nodes ss known es new left right q d e = record {
  frames = ap (λ (r : Stored). r.frames) e;
  ports = ap (λ (r : Stored). r.ports) e;
  stands = inconsistent-stand (ToldAlso nodes ss es) (ToldBy nodes (replaced ss new)) bad (λ k. d.differ (k.heads (joined (turned (told (there left (inl (refl, refl))))) (told (there right (inr (inl (refl, refl)))))) d.is_left d.is_right));
  solved = λ l c. absurd (bad c);
}
  where
    both : List (Var × Term)
    both = (somewhere, left) ∷ (somewhere, right) ∷ []

    bad : IsConsistentBy (ToldAlso nodes ss es) → ⊥
    bad k = d.differ (k.heads q d.is_left d.is_right)

    there : (t : Term) → IsTold (bindings_in nodes ((somewhere, left) ∷ (somewhere, right) ∷ [])) (variable somewhere) (tree nodes t) → ToldBy nodes (replaced ss new) (variable somewhere) (tree nodes t)
    there t m = told-replaced nodes ss ((somewhere, left) ∷ (somewhere, right) ∷ []) new (ap (λ (r : Stored). r.bindings) e) (variable somewhere) (tree nodes t) (inr m)

module _ (nodes : List Node) (ss : List Stored) (known : ℕ) (bs : List (Var × Term)) (es : List code.Equation) (new : Stored) (f : IsFormOf nodes bs (ToldBy nodes ss)) (whole : length ss ≡ known → (bs ≡ bindings_from ss) × LeadOlder nodes bs × BindOnce bs) where
  pub tells-added : (more : List (Var × Term)) → IsSolution nodes bs es more → KeepsOlder nodes bs (bs ++ more) → new ≡ with_bindings (innermost ss) more → Tells nodes ss known es new
  tells-added more s keeps e = record {
    frames = ap (λ (r : Stored). r.frames) e;
    ports = ap (λ (r : Stored). r.ports) e;
    stands = forms-stand nodes (bs ++ more) (ToldAlso nodes ss es) (ToldBy nodes (replaced ss new)) (form-equations nodes bs es more (ToldBy nodes ss) f s) form;
    solved = λ l c. record { form = solved (whole l).0; older = older (whole l).0 (keeps (whole l).1); once = once (whole l).0 (whole l).2 };
  }
    where
      is : new.bindings ≡ joins (innermost ss).bindings more
      is = ap (λ (r : Stored). r.bindings) e

      form : IsFormOf nodes (bs ++ more) (ToldBy nodes (replaced ss new))
      form = form-as nodes (bs ++ more) (λ a b. ToldBy nodes ss a b ⊎ IsTold (bindings_in nodes more) a b) (ToldBy nodes (replaced ss new)) (form-added nodes bs es more (ToldBy nodes ss) f s)
          (told-replaced nodes ss more new is) (replaced-told nodes ss more new is)

      b : List (Var × Term)
      b = (innermost ss).bindings

      o : List (Var × Term)
      o = bindings_from (around ss)

      list : bindings_from (replaced ss new) ≡ joins b more ++ o
      list = replaced-list nodes ss more new ∙ ap (λ (l : List (Var × Term)). l ++ o) is

      long : length ((b ++ o) ++ more) ≡ length (joins b more ++ o)
      long =
          let p : length ((b ++ o) ++ more) ≡ length (b ++ o) + length more = length-append (b ++ o) more in
          let r : length (b ++ o) ≡ length b + length o = length-append b o in
          let u : length (joins b more ++ o) ≡ length (joins b more) + length o = length-append (joins b more) o in
          let v : length (joins b more) ≡ length b + length more = joins-length b more in
          omega arith

      found : bs ≡ b ++ o → (y : Var) → found_in ((b ++ o) ++ more) y ≡ found_in (joins b more ++ o) y
      found q y = sym (joins-found b o more (subst (λ (l : List (Var × Term)). BindNew l more) q s.fresh) y)

      solved : bs ≡ bindings_from ss → IsFormChain nodes (replaced ss new)
      solved q = subst (λ (l : List (Var × Term)). IsFormOf nodes l (ToldBy nodes (replaced ss new))) (sym list)
          (form-reorder nodes ((b ++ o) ++ more) (joins b more ++ o) (ToldBy nodes (replaced ss new)) (found (q ∙ from-innermost ss)) long
          (subst (λ (l : List (Var × Term)). IsFormOf nodes (l ++ more) (ToldBy nodes (replaced ss new))) (q ∙ from-innermost ss) form))

      older : bs ≡ bindings_from ss → LeadOlder nodes (bs ++ more) → LeadOlder nodes (bindings_from (replaced ss new))
      older q h = subst (LeadOlder nodes) (sym list)
          (older-reorder nodes ((b ++ o) ++ more) (joins b more ++ o) (found (q ∙ from-innermost ss)) (subst (λ (l : List (Var × Term)). LeadOlder nodes (l ++ more)) (q ∙ from-innermost ss) h))

      once : bs ≡ bindings_from ss → BindOnce bs → BindOnce (bindings_from (replaced ss new))
      once q h = subst BindOnce (sym list) (once-joins b o more (subst (λ (l : List (Var × Term)). BindNew l more) (q ∙ from-innermost ss) s.fresh) (subst BindOnce (q ∙ from-innermost ss) h))

  clash_here : (left right : Term) → IsClashOf nodes bs es left right → EqualBy (ToldAlso nodes ss es) (tree nodes left) (tree nodes right)
  clash_here left right c = EqualBy-follows (λ a b m. elim m [ inl x ↦ EqualBy-follows (λ u v y. told (inl y)) (f.follow a b x) | inr x ↦ told (inr x) ]) c.equal

  pub tells-adds : (t : Bool) (list : List Var) → Adds nodes bs es (innermost ss) new t list → Tells nodes ss known es new
  tells-adds t list (added more s o e i l) = tells-added more s o e
  tells-adds t list (clash left right c e i l) = tells-clash nodes ss known es new left right (clash_here left right c) c.differ e

  -- what is bound
  pub adds-bound : (t : Bool) (list : List Var) → Adds nodes bs es (innermost ss) new t list → AreNewlyBound (equations_of nodes ss) (equations_of nodes ss) (equations_of nodes ss ++ equations_in nodes es) list
  adds-bound t list (added more s o e i l) = subst (AreNewlyBound (equations_of nodes ss) (equations_of nodes ss) (equations_of nodes ss ++ equations_in nodes es)) (sym l)
      (are_newly_bound nodes bs more (equations_of nodes ss) (equations_of nodes ss ++ equations_in nodes es) f
      (form-as nodes (bs ++ more) (ToldAlso nodes ss es) (IsTold (equations_of nodes ss ++ equations_in nodes es)) (form-equations nodes bs es more (ToldBy nodes ss) f s)
      (told-also nodes ss es) (IsTold-either (equations_of nodes ss) (equations_in nodes es))) s.fresh)
  adds-bound t list (clash left right c e i l) = subst (AreNewlyBound (equations_of nodes ss) (equations_of nodes ss) (equations_of nodes ss ++ equations_in nodes es)) (sym l)
      (clash-bound nodes ss es left right (clash_here left right c) c.differ)

  -- where it is consistent, each binding of the store leads to an older variable where each did before
  pub adds-older : (t : Bool) (list : List Var) → Adds nodes bs es (innermost ss) new t list → LeadOlder nodes bs → IsConsistentBy (ToldAlso nodes ss es) → EachOlder nodes (innermost ss).bindings → EachOlder nodes new.bindings
  adds-older t list (added more s o e i l) h c = added-older nodes bs more (innermost ss).bindings new.bindings s.fresh (o h) (ap (λ (r : Stored). r.bindings) e)
  adds-older t list (clash left right k e i l) h c = absurd (k.differ.differ (c.heads (clash_here left right k) k.differ.is_left k.differ.is_right))

  pub adds-kept : (t : Bool) (list : List Var) → Adds nodes bs es (innermost ss) new t list → IsConsistentBy (ToldAlso nodes ss es) → EachOlder nodes new.bindings → EachOlder nodes (innermost ss).bindings
  adds-kept t list (added more s o e i l) c = kept-older nodes more (innermost ss).bindings new.bindings (ap (λ (r : Stored). r.bindings) e)
  adds-kept t list (clash left right k e i l) c = absurd (k.differ.differ (c.heads (clash_here left right k) k.differ.is_left k.differ.is_right))

  -- consistent exactly where it says so
  pub adds-says : (t : Bool) (list : List Var) → Adds nodes bs es (innermost ss) new t list → IsTrue t ↔ IsConsistentBy (ToldAlso nodes ss es)
  adds-says t list (added more s o e i l) = (λ _. form-consistent nodes (bs ++ more) (ToldAlso nodes ss es) (form-equations nodes bs es more (ToldBy nodes ss) f s), λ _. i)
  adds-says t list (clash left right c e i l) = (λ h. absurd (false≢true (sym i ∙ h)), λ k. absurd (c.differ.differ (k.heads (clash_here left right c) c.differ.is_left c.differ.is_right)))

-- the whole answer over a chain that is known to be solved
pub answers-whole : (nodes : List Node) (ss : List Stored) (known : ℕ) (es : List code.Equation) (answer : ToldStore) → IsSolvedChain nodes ss → length ss ≡ known
    → Adds nodes (bindings_from ss) es (innermost ss) answer.store answer.solved answer.bound → AnswersTold nodes ss known es answer
answers-whole nodes ss known es answer f l a =
    let says : IsTrue answer.solved ↔ IsConsistentBy (ToldAlso nodes ss es) = adds-says nodes ss known (bindings_from ss) es answer.store f.form (λ e. (refl, f.older, f.once)) answer.solved answer.bound a in record {
      tells = tells-adds nodes ss known (bindings_from ss) es answer.store f.form (λ e. (refl, f.older, f.once)) answer.solved answer.bound a;
      is_solved = (λ h. (l, says.0 h), λ w. says.1 w.1);
      bound = adds-bound nodes ss known (bindings_from ss) es answer.store f.form (λ e. (refl, f.older, f.once)) answer.solved answer.bound a;
      older = λ c h. adds-older nodes ss known (bindings_from ss) es answer.store f.form (λ e. (refl, f.older, f.once)) answer.solved answer.bound a f.older c;
      kept = adds-kept nodes ss known (bindings_from ss) es answer.store f.form (λ e. (refl, f.older, f.once)) answer.solved answer.bound a;
    }

-- and over one of which only so many outermost stores are, with the others taken in
module _ (nodes : List Node) (ss : List Stored) (known k : ℕ) (es : List code.Equation) (f : IsSolvedChain nodes (take k ss)) (same : k ≡ known) (less : length ss ≡ known → ⊥) where
  abbrev Also : Equations
  Also = equations_of nodes ss ++ equations_in nodes es

  -- what the store and the list that are answered owe
  abbrev Owed : Stored → List Var → Type 0
  Owed s list = Tells nodes ss known es s × AreNewlyBound (equations_of nodes ss) (equations_of nodes ss) Also list
      × (IsConsistentBy (ToldAlso nodes ss es) → EachOlder nodes (bindings_from (drop k ss)) → EachOlder nodes (innermost ss).bindings → EachOlder nodes s.bindings)
      × (IsConsistentBy (ToldAlso nodes ss es) → EachOlder nodes s.bindings → EachOlder nodes (innermost ss).bindings)

  further-added : (s : Stored) (list : List Var) (new : List (Var × Term)) → Takes nodes (bindings_from (take k ss)) [] new (bindings_from (drop k ss))
      → (LeadOlder nodes (bindings_from (take k ss)) → EachOlder nodes (bindings_from (drop k ss)) → LeadOlder nodes (bindings_from (take k ss) ++ new))
      → (solved : Bool) → Adds nodes (bindings_from (take k ss) ++ new) es (innermost ss) s solved list → Owed s list
  further-added s list new t o solved a = (
    tells-adds nodes ss known (bindings_from (take k ss) ++ new) es s form (λ e. absurd (less e)) solved list a,
    adds-bound nodes ss known (bindings_from (take k ss) ++ new) es s form (λ e. absurd (less e)) solved list a,
    λ c h. adds-older nodes ss known (bindings_from (take k ss) ++ new) es s form (λ e. absurd (less e)) solved list a (o f.older h) c,
    adds-kept nodes ss known (bindings_from (take k ss) ++ new) es s form (λ e. absurd (less e)) solved list a,
  )
    where
      form : IsFormOf nodes (bindings_from (take k ss) ++ new) (ToldBy nodes ss)
      form = chain-form nodes ss k (bindings_from (take k ss)) new f.form t

  further-clashed : (s : Stored) (left right : Term) → IsClashOfBindings nodes (bindings_from (take k ss) ++ []) (bindings_from (drop k ss)) left right → s ≡ clashed (innermost ss) left right → Owed s []
  further-clashed s left right c e = (
    tells-clash nodes ss known es s left right equal c.differ e,
    clash-bound nodes ss es left right equal c.differ,
    λ k h. absurd (c.differ.differ (k.heads equal c.differ.is_left c.differ.is_right)),
    λ k. absurd (c.differ.differ (k.heads equal c.differ.is_left c.differ.is_right)),
  )
    where
      equal : EqualBy (ToldAlso nodes ss es) (tree nodes left) (tree nodes right)
      equal = EqualBy-follows (λ a b m. told (inl m)) (chain-clash nodes ss k (bindings_from (take k ss)) left right f.form c)

  further-adds : (s : Stored) (list : List Var) → AddsOver nodes (bindings_from (take k ss)) (drop k ss) es (innermost ss) s list → Owed s list
  further-adds s list (taken new t o solved a) = further-added s list new t o solved a
  further-adds s list (clashing left right c e l) = subst (Owed s) (sym l) (further-clashed s left right c e)

  pub answers-further : (answer : ToldStore) → answer.solved ≡ false → AddsOver nodes (bindings_from (take k ss)) (take (length ss - k) (drop k ss)) es (innermost ss) answer.store answer.bound
      → AnswersTold nodes ss known es answer
  answers-further answer e a = record { tells = owed.0; is_solved = (λ h. absurd (false≢true (sym e ∙ h)), λ w. absurd (less w.0)); bound = owed.1; older = further; kept = owed.3 }
    where
      owed : Owed answer.store answer.bound
      owed = further-adds answer.store answer.bound
          (subst (λ (l : List Stored). AddsOver nodes (bindings_from (take k ss)) l es (innermost ss) answer.store answer.bound) (drop-whole ss k) a)

      further : IsConsistentBy (ToldAlso nodes ss es) → EachOlder nodes (bindings_from (drop known ss)) → EachOlder nodes (innermost ss).bindings → EachOlder nodes answer.store.bindings
      further c h = owed.2 c (subst (λ (j : ℕ). EachOlder nodes (bindings_from (drop j ss))) (sym same) h)
