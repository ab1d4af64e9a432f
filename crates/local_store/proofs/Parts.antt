-- A solved chain in two parts: the one, as it stands, is what is taken in over the other.
use Rattle.std.proofs.Common.{◌≡◌, ℕ, zero, suc, ◌+◌, List, [], ◌∷◌, ◌++◌, length, take, drop, refl, sym, ap, subst, ◌∙◌, inl, inr, arith, append_assoc, append-nil}
use Rattle.std.specs.Prelude.{option_map}
use Rattle.akl_terms.specs.declared.name.Var.{Var}
use Rattle.akl_terms.specs.declared.term.Node.{Node}
use Rattle.akl_terms.specs.declared.term.Term.{Term}
use Rattle.akl_terms.specs.Tree.{Tree, variable}
use Rattle.akl_terms.specs.Equal.{IsTold}
use Rattle.akl_terms.specs.Solved.{Bindings, IsBound, bound, walk}
use Rattle.akl_terms.specs.Template.{tree}
use Rattle.rational_unify.specs.Known.{found_in, bound_in, end_of}
use Rattle.rational_unify.specs.Solving.{bindings_in, BindNew}
use Rattle.rational_unify.specs.Older.{LeadOlder, EachOlder}
use Rattle.rational_unify.specs.Forms.{TellsBindings, Takes}
use Rattle.rational_unify.proofs.Chains.{BindNew-found, BindNew-bound}
use Rattle.rational_unify.proofs.FormLaws.{bound-either}
use Rattle.local_store.specs.Stored.{Stored}
use Rattle.local_store.specs.Chained.{bindings_from, BindOnce, IsSolvedChain}
use Rattle.local_store.specs.Bound.{AreFound, bound_by, variable_in}
use Rattle.local_store.proofs.Layers.{form-as, form-reorder, older-reorder, bindings-either, bindings-left, bindings-right}
use Rattle.local_store.proofs.Once.{new-once, once-second, once-found}
use Rattle.local_store.proofs.EachLeads.{each-older}
use Rattle.local_store.proofs.Replaced.{length-append}

-- what a list binds is told by it
pub bound-told : (nodes : List Node) (bs : List (Var × Term)) (s t : Tree) → IsBound (bound_in nodes bs) s t → IsTold (bindings_in nodes bs) s t
bound-told nodes bs s t m = elim (bound-either nodes [] bs s t m) [ inl x ↦ absurd (none x) | inr y ↦ y ]
  where
    none : {s t : Tree} → IsBound (bound_in nodes []) s t → ⊥
    none (bound e) = cc

pub ends-reorder : (nodes : List Node) (bs cs : List (Var × Term)) → ((y : Var) → found_in bs y ≡ found_in cs y) → length bs ≡ length cs → (t : Tree) → end_of nodes bs t ≡ end_of nodes cs t
ends-reorder nodes bs cs same l t = ap (λ (n : ℕ). walk (suc n) (bound_in nodes bs) t) l ∙ ap (λ (look : Bindings). walk (suc (length cs)) look t) looks
  where
    looks : bound_in nodes bs ≡ bound_in nodes cs
    looks = λ i x. option_map (tree nodes) (same x i)

bound_by-as : (nodes : List Node) (bs cs : List (Var × Term)) → ((t : Tree) → end_of nodes bs t ≡ end_of nodes cs t) → (list : List (Var × Term)) → bound_by nodes bs list ≡ bound_by nodes cs list
bound_by-as nodes bs cs same [] = refl
bound_by-as nodes bs cs same (b ∷ list) =
    ap (λ (t : Tree). b.0 ∷ variable_in t ++ bound_by nodes bs list) (same (variable b.0)) ∙ ap (λ (l : List Var). b.0 ∷ variable_in (end_of nodes cs (variable b.0)) ++ l) (bound_by-as nodes bs cs same list)

-- a solved chain in two parts
module _ (nodes : List Node) (ss : List Stored) (outer inner : List (Var × Term)) (split : bindings_from ss ≡ inner ++ outer) (f : IsSolvedChain nodes ss) where
  once : BindOnce (inner ++ outer)
  once = subst BindOnce split f.once

  new : BindNew outer inner
  new = new-once outer inner once

  found : (x : Var) → found_in (bindings_from ss) x ≡ found_in (outer ++ inner) x
  found x = ap (λ (l : List (Var × Term)). found_in l x) split ∙ once-found inner outer once x

  long : length (bindings_from ss) ≡ length (outer ++ inner)
  long =
      let e : length (bindings_from ss) ≡ length (inner ++ outer) = ap (λ (l : List (Var × Term)). length l) split in
      let p : length (inner ++ outer) ≡ length inner + length outer = length-append inner outer in
      let q : length (outer ++ inner) ≡ length outer + length inner = length-append outer inner in
      omega arith

  outer-bound : (s t : Tree) → IsTold (bindings_in nodes outer) s t → IsBound (bound_in nodes outer) s t
  outer-bound s t m = BindNew-bound nodes [] outer s t (new-once [] outer (subst BindOnce (sym (append-nil outer)) (once-second inner outer once))) m

  pub takes-part : Takes nodes outer [] inner inner
  takes-part = record {
    more = inner;
    added = refl;
    fresh = subst (λ (l : List (Var × Term)). BindNew l inner) (sym (append-nil outer)) new;
    form = form-as nodes (outer ++ inner) (IsTold (bindings_in nodes (bindings_from ss))) (TellsBindings nodes (outer ++ []) inner)
        (form-reorder nodes (bindings_from ss) (outer ++ inner) (IsTold (bindings_in nodes (bindings_from ss))) found long f.form)
        (λ s t m. elim (bindings-either nodes inner outer s t (subst (λ (l : List (Var × Term)). IsTold (bindings_in nodes l) s t) split m)) [
          | inl x ↦ inr x
          | inr x ↦ inl (subst (λ (l : List (Var × Term)). IsBound (bound_in nodes l) s t) (sym (append-nil outer)) (outer-bound s t x))
        ])
        (λ s t m. subst (λ (l : List (Var × Term)). IsTold (bindings_in nodes l) s t) (sym split) (elim m [
          | inl x ↦ bindings-right nodes inner outer s t (bound-told nodes outer s t (subst (λ (l : List (Var × Term)). IsBound (bound_in nodes l) s t) (append-nil outer) x))
          | inr x ↦ bindings-left nodes inner outer s t x
        ]));
  }

  -- each of them is found
  pub part-found : AreFound (bindings_from ss) inner
  part-found = all inner (BindNew-found outer inner new)
    where
      all : (bs : List (Var × Term)) → AreFound (outer ++ inner) bs → AreFound (bindings_from ss) bs
      all [] h = tt
      all (b ∷ bs) h = (found b.0 ∙ h.0, all bs h.1)

  pub part-older : EachOlder nodes inner
  part-older = each-older nodes (bindings_from ss) inner f.older part-found

  -- and with the parts the other way round it is as it was
  pub older-parts : LeadOlder nodes (outer ++ inner)
  older-parts = older-reorder nodes (bindings_from ss) (outer ++ inner) found f.older

  pub ends-parts : (t : Tree) → end_of nodes (bindings_from ss) t ≡ end_of nodes (outer ++ inner) t
  ends-parts = ends-reorder nodes (bindings_from ss) (outer ++ inner) found long

  pub bound-parts : (list : List (Var × Term)) → bound_by nodes (bindings_from ss) list ≡ bound_by nodes (outer ++ inner) list
  bound-parts = bound_by-as nodes (bindings_from ss) (outer ++ inner) ends-parts

-- the outer stores of a chain and the others
pub from-split : (ss : List Stored) (k : ℕ) → bindings_from ss ≡ bindings_from (drop k ss) ++ bindings_from (take k ss)
from-split ss zero = sym (append-nil (bindings_from ss))
from-split [] (suc k) = refl
from-split (s ∷ ss) (suc k) = ap (λ (l : List (Var × Term)). l ++ s.bindings) (from-split ss k) ∙ append_assoc (bindings_from (drop k ss)) (bindings_from (take k ss)) s.bindings
