-- The store of plain bindings, and the one that they join.
use Rattle.std.proofs.Common.{◌≡◌, ◌+◌, ◌<◌, List, [], ◌∷◌, ◌++◌, length, true, None, refl, sym, ap, subst, ◌∙◌, arith}
use Rattle.std.specs.List.{AllByRecursion}
use Rattle.akl_terms.specs.declared.name.Name.{Name}
use Rattle.akl_terms.specs.declared.name.Var.{Var}
use Rattle.akl_terms.specs.declared.term.Node.{Node}
use Rattle.akl_terms.specs.declared.term.Term.{Term}
use Rattle.akl_terms.specs.Tree.{Tree, variable, integer, port, symbol}
use Rattle.akl_terms.specs.Template.{tree}
use Rattle.rational_unify.specs.Known.{found_in, end_of}
use Rattle.rational_unify.specs.Solving.{BindNew}
use Rattle.rational_unify.proofs.Chains.{found-second, found-none}
use Rattle.rational_unify.proofs.Ends.{end-bound}
use Rattle.local_store.specs.declared.part.Part.{Part}
use Rattle.local_store.specs.declared.telling.ToldPart.{ToldPart}
use Rattle.local_store.specs.Parts.{ToldStore, all_ports, with_part, told_over}
use Rattle.local_store.specs.Stored.{Stored, all_named, joins, with_frame, with_bindings}
use Rattle.local_store.specs.Chained.{bindings_from, innermost, around, BindOnce, IsSolvedChain, IsKnown}
use Rattle.local_store.specs.Bound.{AreFound, bound_by, variable_in}
use Rattle.local_store.specs.Promoting.{named_too, AnswersPromoted}
use Rattle.local_store.proofs.InOrder.{joins-in_order}
use Rattle.local_store.proofs.Joining.{innermost-found, joins-innermost, promotes-chain}
use Rattle.local_store.proofs.Known.{whole-known}
use Rattle.local_store.proofs.Layers.{joins-found, from-last, from-innermost}
use Rattle.local_store.proofs.Once.{new-once}
use Rattle.plain_heads.specs.Joined.{own_store, listed, AreFree, KeepsBound, JoinsPlainly}
use Rattle.plain_heads.specs.Plain.{ArePlain, IsFurther}
use Rattle.plain_heads.proofs.Orders.{other_frame, all_unbound}
use Rattle.plain_heads.proofs.Passing.{stays}

-- one more store inside of all others
pub long_last : (ss : List Stored) (s : Stored) → length (ss ++ s ∷ []) ≡ length ss + 1
long_last [] s = omega arith
long_last (t ∷ ss) s = let h : length (ss ++ s ∷ []) ≡ length ss + 1 = long_last ss s in omega arith

innermost_last : (ss : List Stored) (s : Stored) → innermost (ss ++ s ∷ []) ≡ s
innermost_last [] s = refl
innermost_last (t ∷ []) s = refl
innermost_last (t ∷ u ∷ ss) s = innermost_last (u ∷ ss) s

around_last : (ss : List Stored) (s : Stored) → around (ss ++ s ∷ []) ≡ ss
around_last [] s = refl
around_last (t ∷ []) s = refl
around_last (t ∷ u ∷ ss) s = ap (λ (l : List Stored). t ∷ l) (around_last (u ∷ ss) s)

pub all_both : {A : Type 0} (P : A → Type 0) (xs ys : List A) → AllByRecursion P xs → AllByRecursion P ys → AllByRecursion P (xs ++ ys)
all_both P [] ys h k = k
all_both P (x ∷ xs) ys h k = (h.0, all_both P xs ys h.1 k)

module _ (nodes : List Node) (path : List Stored) (frame : Name) (bs : List (Var × Term)) (plain : ArePlain nodes (bindings_from path) frame bs) where
  variable_free : (t : Tree) → ((x : Var) → t ≡ variable x → found_in (bindings_from path) x ≡ None) → AreFree (bindings_from path) (variable_in t)
  variable_free (variable x) h = (h x refl, tt)
  variable_free (integer z) h = tt
  variable_free (port p) h = tt
  variable_free (symbol f ts) h = tt

  -- what they bind or make equal is bound to nothing around them
  pub listed_free : AreFree (bindings_from path) (listed nodes bs)
  listed_free = all bs (all_unbound (bindings_from path) bs frame plain.own plain.new) plain.further
    where
      all : (cs : List (Var × Term)) → AllByRecursion (λ (b : Var × Term). found_in (bindings_from path) b.0 ≡ None) cs → AllByRecursion (λ (b : Var × Term). IsFurther nodes (bindings_from path) frame b.1) cs
          → AreFree (bindings_from path) (listed nodes cs)
      all [] h k = tt
      all (c ∷ cs) h k = (
        h.0,
        all_both (λ (x : Var). found_in (bindings_from path) x ≡ None) (variable_in (tree nodes c.1)) (listed nodes cs) (variable_free (tree nodes c.1) (λ x e. (k.0 x e).0)) (all cs h.1 k.1),
      )

  abbrev pub whole : List Stored
  whole = path ++ own_store frame bs ∷ []

  -- their store has them as they stand
  pub own_bindings : (own_store frame bs).bindings ≡ bs
  own_bindings = joins-in_order bs plain.ordered

  module _ (k : IsKnown nodes (path ++ own_store frame bs ∷ []) (length path + 1)) where
    pub solved : IsSolvedChain nodes (path ++ own_store frame bs ∷ [])
    solved = whole-known nodes whole (length path + 1) k (sym (long_last path (own_store frame bs)))

    innermost_is : (innermost whole).bindings ≡ bs
    innermost_is = ap (λ (s : Stored). s.bindings) (innermost_last path (own_store frame bs)) ∙ own_bindings

    free : (t : Term) → IsFurther nodes (bindings_from path) frame t → (x : Var) → tree nodes t ≡ variable x → found_in (bindings_from whole) x ≡ None
    free t f x e = ap (λ (l : List (Var × Term)). found_in l x) (from-last path (own_store frame bs) ∙ ap (λ (l : List (Var × Term)). l ++ bindings_from path) own_bindings)
        ∙ found-second bs (bindings_from path) x (other_frame bs frame x plain.own (f x e).1) ∙ (f x e).0

    ends : (cs : List (Var × Term)) → AreFound (bindings_from whole) cs → AllByRecursion (λ (b : Var × Term). IsFurther nodes (bindings_from path) frame b.1) cs → bound_by nodes (bindings_from whole) cs ≡ listed nodes cs
    ends [] h f = refl
    ends (c ∷ cs) h f =
        let e : end_of nodes (bindings_from whole) (variable c.0) ≡ tree nodes c.1 = end-bound nodes (bindings_from whole) c.0 c.1 solved.form.solved h.0 ∙ stays nodes (bindings_from whole) (tree nodes c.1) (free c.1 f.0) in
        ap (λ (t : Tree). c.0 ∷ variable_in t ++ bound_by nodes (bindings_from whole) cs) e ∙ ap (λ (l : List Var). c.0 ∷ variable_in (tree nodes c.1) ++ l) (ends cs h.1 f.1)

    bound_is : bound_by nodes (bindings_from whole) (innermost whole).bindings ≡ listed nodes bs
    bound_is = ap (bound_by nodes (bindings_from whole)) innermost_is
        ∙ ends bs (subst (AreFound (bindings_from whole)) innermost_is (innermost-found nodes whole (length path + 1) (sym (long_last path (own_store frame bs))) k)) plain.further

    new_bindings : BindNew ((innermost path).bindings ++ bindings_from (around path)) bs
    new_bindings = subst (λ (l : List (Var × Term)). BindNew l bs) (from-innermost path)
        (new-once (bindings_from path) bs (subst BindOnce (from-last path (own_store frame bs) ∙ ap (λ (l : List (Var × Term)). l ++ bindings_from path) own_bindings) solved.once))

    pub kept_bound : (store : Stored) → store ≡ with_bindings (with_frame (innermost path) frame) bs → KeepsBound path store
    kept_bound store is x e =
        let outer : List (Var × Term) = bindings_from (around path) in
        let a : found_in (joins (innermost path).bindings bs ++ outer) x ≡ None = ap (λ (s : Stored). found_in (s.bindings ++ outer) x) (sym is) ∙ ap (λ (l : List (Var × Term)). found_in l x) (sym (from-last (around path) store)) ∙ e in
        ap (λ (l : List (Var × Term)). found_in l x) (from-innermost path) ∙ (found-none ((innermost path).bindings ++ outer) bs x (sym (joins-found (innermost path).bindings outer bs new_bindings x) ∙ a)).0

    names : named_too (innermost (around whole)) (innermost whole) ≡ with_frame (innermost path) frame
    names = ap (λ (s : Stored). named_too (innermost (around whole)) s) (innermost_last path (own_store frame bs)) ∙ ap (λ (ss : List Stored). with_frame (innermost ss) frame) (around_last path (own_store frame bs))

    pub answers : 0 < length path → (answer : ToldStore) → answer.store ≡ with_bindings (with_frame (innermost path) frame) bs → answer.solved ≡ true → answer.bound ≡ listed nodes bs
        → AnswersPromoted nodes (path ++ own_store frame bs ∷ []) (length path + 1) answer
    answers some answer store told bound =
        let long : length whole ≡ length path + 1 = long_last path (own_store frame bs) in
        promotes-chain nodes whole (length path + 1) answer (omega arith)
        (joins-innermost nodes whole (length path + 1) (sym (long_last path (own_store frame bs))) k (named_too (innermost (around whole)) (innermost whole)) answer (omega arith)
        (store ∙ ap (λ (s : Stored). with_bindings s bs) (sym names) ∙ ap (λ (l : List (Var × Term)). with_bindings (named_too (innermost (around whole)) (innermost whole)) l) (sym innermost_is)) told
        (bound ∙ sym bound_is))

-- a part of one frame and bindings
part_store : (s : Stored) (p : Part) (frame : Name) (bs : List (Var × Term)) → p.frames.items ≡ frame ∷ [] → p.ports.items ≡ [] → p.bindings.items ≡ bs → with_part s p ≡ with_bindings (with_frame s frame) bs
part_store s p frame bs f q b =
    ap (λ (ns : List Name). record { frames = all_named s.frames ns; bindings = joins s.bindings p.bindings.items; ports = all_ports s.ports p.ports.items }) f
    ∙ ap (λ (ps : List (Name × Term)). record { frames = all_named s.frames (frame ∷ []); bindings = joins s.bindings p.bindings.items; ports = all_ports s.ports ps }) q
    ∙ ap (with_bindings (with_frame s frame)) b

pub joins_plainly : (nodes : List Node) (frame : Name) (bs : List (Var × Term)) (told : ToldPart) → told.part.frames.items ≡ frame ∷ [] → told.part.ports.items ≡ [] → told.part.bindings.items ≡ bs → told.solved ≡ true
    → told.bound.items ≡ listed nodes bs → (path : List Stored) → 0 < length path → ArePlain nodes (bindings_from path) frame bs → IsKnown nodes (path ++ own_store frame bs ∷ []) (length path + 1)
    → JoinsPlainly nodes path frame bs (told_over (innermost path) told)
joins_plainly nodes frame bs told f q b solved bound path some plain known =
    let store : with_part (innermost path) told.part ≡ with_bindings (with_frame (innermost path) frame) bs = part_store (innermost path) told.part frame bs f q b in
    record {
      promoted = answers nodes path frame bs plain known some (told_over (innermost path) told) store solved bound;
      free = subst (AreFree (bindings_from path)) (sym bound) (listed_free nodes path frame bs plain);
      kept = kept_bound nodes path frame bs plain known (with_part (innermost path) told.part) store;
    }
