-- The innermost store joins the one around it.
use Rattle.std.proofs.Common.{◌≡◌, ℕ, suc, ◌+◌, ◌-◌, ◌<◌, ◌≤◌, slice_index_or, Option, Some, None, List, [], ◌∷◌, ◌++◌, length, min, refl, sym, ap, subst, ◌∙◌, ◌⊎◌, inl, inr, arith, append-nil, true, false}
use Rattle.std.specs.Prelude.{IsSome, IsTrue, ◌↔◌}
use Rattle.std.proofs.lemmas.Bool.{false≢true}
use Rattle.akl_terms.specs.declared.name.Name.{Name}
use Rattle.akl_terms.specs.declared.name.Var.{Var}
use Rattle.akl_terms.specs.declared.term.Node.{Node}
use Rattle.akl_terms.specs.declared.term.Term.{Term}
use Rattle.akl_terms.specs.Tree.{Tree}
use Rattle.akl_terms.specs.Equal.{IsTold, EqualBy, told, IsConsistentBy}
use Rattle.akl_terms.specs.Decided.{DifferInHead}
use Rattle.akl_terms.specs.Template.{tree}
use Rattle.akl_terms.proofs.EqualLaws.{EqualBy-follows}
use Rattle.akl_terms.proofs.StandingLaws.{StandFor-follows, StandFor-on}
use Rattle.rational_unify.specs.Known.{found_in}
use Rattle.rational_unify.specs.Solving.{bindings_in, BindNew}
use Rattle.rational_unify.specs.Older.{LeadOlder, EachOlder}
use Rattle.rational_unify.specs.Forms.{IsFormOf, Takes, IsClashOfBindings}
use Rattle.rational_unify.proofs.FormLaws.{form-consistent}
use Rattle.rational_unify.proofs.Taking.{get-index}
use Rattle.local_store.specs.Parts.{ToldStore}
use Rattle.local_store.specs.Stored.{Stored, with_frame, joins, unbound, with_bindings}
use Rattle.local_store.specs.Chained.{bindings_from, equations_of, innermost, around, replaced, ToldBy, IsFormChain, BindOnce, IsSolvedChain, IsKnown}
use Rattle.local_store.specs.Bound.{AreNewlyBound, AreFound, bound_by, BindsOver, taken, clashes}
use Rattle.local_store.specs.Asking.{Resolves}
use Rattle.local_store.specs.Promoting.{with_frames, named_too, Joins, found, clashing, JoinsChain, over_solved, as_they_stand, AnswersPromoted}
use Rattle.local_store.proofs.Once.{once-joins}
use Rattle.local_store.proofs.Known.{innermost-last, whole-known}
use Rattle.local_store.proofs.Layers.{form-as, form-reorder, older-reorder, joins-found, joins-length, joins-told, told-joins, from-last, from-innermost, bindings-either, bindings-left, bindings-right}
use Rattle.local_store.proofs.Replaced.{length-append, replaced-told, told-replaced}
use Rattle.local_store.proofs.Resolved.{around-take, resolves, joined-form, no-clash, inner-no-clash}
use Rattle.local_store.proofs.NewlyBound.{none_bound, are_newly_bound}
use Rattle.local_store.proofs.Parts.{takes-part, part-found, bound-parts, part-older, older-parts}

-- frames, from the last to the first
pub frames-push : (s : Stored) (ns : List Name) (n : Name) → with_frames s (ns ++ n ∷ []) ≡ with_frames (with_frame s n) ns
frames-push s [] n = refl
frames-push s (m ∷ ns) n = ap (λ (r : Stored). with_frame r m) (frames-push s ns n)

-- a list from which nothing can be taken is empty
pub drained : {A : Type 0} (xs : List A) (n : ℕ) (o : Option A) → length xs ≡ n → ((x : A) → o ≡ Some x → ⊥) → (0 < n → IsSome o) → xs ≡ []
drained [] n o l empty more = refl
drained {A} (x ∷ xs) n o l empty more = absurd (on o empty (more (omega arith)))
  where
    on : (o : Option A) → ((x : A) → o ≡ Some x → ⊥) → IsSome o → ⊥
    on None f e = let z : false ≡ true = e in cc
    on (Some y) f e = f y refl

pub fresh-all : (nodes : List Node) (known added bs : List (Var × Term)) → Takes nodes known [] added bs → BindNew known added
fresh-all nodes known added bs t = subst (λ (l : List (Var × Term)). BindNew known l) (sym t.added) (subst (λ (l : List (Var × Term)). BindNew l t.more) (append-nil known) t.fresh)

pub around-length : (ss : List Stored) → length (around ss) ≡ length ss - 1
around-length [] = omega arith
around-length (s ∷ []) = omega arith
around-length (s ∷ t ∷ ss) = let h : length (around (t ∷ ss)) ≡ length (t ∷ ss) - 1 = around-length (t ∷ ss) in omega arith

-- nothing is bound where others clash
pub clash-more-bound : (nodes : List Node) (all own : List (Var × Term)) (left right : Term) → EqualBy (IsTold (bindings_in nodes all)) (tree nodes left) (tree nodes right)
    → DifferInHead (tree nodes left) (tree nodes right) → AreNewlyBound (bindings_in nodes all) (bindings_in nodes all) (bindings_in nodes (own ++ all)) []
clash-more-bound nodes all own left right e d = none_bound (bindings_in nodes all) (bindings_in nodes all) (bindings_in nodes (own ++ all))
    (λ c. d.differ (c.heads (EqualBy-follows (λ a b m. told (bindings-right nodes own all a b m)) e) d.is_left d.is_right))

-- what bindings bind over a solved form of others
pub binds-more : (nodes : List Node) (bs all own : List (Var × Term)) → IsFormOf nodes bs (IsTold (bindings_in nodes all)) → (list : List Var) → BindsOver nodes bs own list
    → AreNewlyBound (bindings_in nodes all) (bindings_in nodes all) (bindings_in nodes (own ++ all)) list
binds-more nodes bs all own f list (taken more t e) = subst (AreNewlyBound (bindings_in nodes all) (bindings_in nodes all) (bindings_in nodes (own ++ all))) (sym e)
    (are_newly_bound nodes bs more (bindings_in nodes all) (bindings_in nodes (own ++ all)) f (joined-form nodes bs all own f more t) (fresh-all nodes bs more own t))
binds-more nodes bs all own f list (clashes left right k e) = subst (AreNewlyBound (bindings_in nodes all) (bindings_in nodes all) (bindings_in nodes (own ++ all))) (sym e)
    (none_bound (bindings_in nodes all) (bindings_in nodes all) (bindings_in nodes (own ++ all)) (λ c. no-clash nodes bs all own f left right c k))

module _ (nodes : List Node) (ss : List Stored) where
  abbrev outer : List (Var × Term)
  outer = bindings_from (around ss)

  abbrev inner : List (Var × Term)
  inner = (innermost ss).bindings

  -- the bindings of the store around
  abbrev beside : List (Var × Term)
  beside = (innermost (around ss)).bindings

  -- and of those around it
  abbrev further : List (Var × Term)
  further = bindings_from (around (around ss))

  Told : List (Var × Term) → Tree → Tree → Type 0
  Told bs s t = IsTold (bindings_in nodes bs) s t

  joined-bindings : (more : List (Var × Term)) (new : Stored) → new ≡ with_bindings (named_too (innermost (around ss)) (innermost ss)) more → new.bindings ≡ joins beside more
  joined-bindings more new e = ap (λ (r : Stored). r.bindings) e

  all-split : (s t : Tree) → ToldBy nodes ss s t → ToldBy nodes (around ss) s t ⊎ IsTold (bindings_in nodes inner) s t
  all-split s t m = elim (bindings-either nodes inner outer s t (subst (λ (l : List (Var × Term)). IsTold (bindings_in nodes l) s t) (from-innermost ss) m)) [ inl x ↦ inr x | inr x ↦ inl x ]

  all-joined : (s t : Tree) → ToldBy nodes (around ss) s t ⊎ IsTold (bindings_in nodes inner) s t → ToldBy nodes ss s t
  all-joined s t m = subst (λ (l : List (Var × Term)). IsTold (bindings_in nodes l) s t) (sym (from-innermost ss)) (elim m [ inl x ↦ bindings-right nodes inner outer s t x | inr x ↦ bindings-left nodes inner outer s t x ])

  -- all bindings of the innermost store, as they stand
  pub promotes-all : (known : ℕ) (t : ToldStore) → t.store ≡ with_bindings (named_too (innermost (around ss)) (innermost ss)) inner → (length ss ≤ known + 1 → IsConsistentBy (ToldBy nodes ss) → ⊥)
      → t.solved ≡ false → AreNewlyBound (equations_of nodes (around ss)) (equations_of nodes (around ss)) (equations_of nodes ss) t.bound → AnswersPromoted nodes ss known t
  promotes-all known t e bad f b = record {
    promotes = record {
      frames = ap (λ (r : Stored). r.frames) e;
      ports = ap (λ (r : Stored). r.ports) e;
      stands = StandFor-follows (λ a b m. told (told-replaced nodes (around ss) inner t.store (joined-bindings inner t.store e) a b (all-split a b m)))
          (λ a b m. told (all-joined a b (replaced-told nodes (around ss) inner t.store (joined-bindings inner t.store e) a b m)));
      solved = λ l c _. absurd (bad l c);
    };
    is_solved = (λ h. absurd (false≢true (sym f ∙ h)), λ w. absurd (bad w.0 w.1));
    bound = b;
  }

  -- what the innermost store's bindings bind over a form of those around
  pub around-bound : (bs : List (Var × Term)) → IsFormOf nodes bs (ToldBy nodes (around ss)) → (list : List Var) → BindsOver nodes bs inner list
      → AreNewlyBound (equations_of nodes (around ss)) (equations_of nodes (around ss)) (equations_of nodes ss) list
  around-bound bs f list b = subst (λ (l : List (Var × Term)). AreNewlyBound (equations_of nodes (around ss)) (equations_of nodes (around ss)) (bindings_in nodes l) list) (sym (from-innermost ss))
      (binds-more nodes bs outer inner f list b)

  pub promotes-clash : (known : ℕ) (t : ToldStore) → IsFormChain nodes (around ss) → (left right : Term) → IsClashOfBindings nodes (outer ++ []) inner left right
      → t.store ≡ with_bindings (named_too (innermost (around ss)) (innermost ss)) inner → t.solved ≡ false → t.bound ≡ [] → AnswersPromoted nodes ss known t
  promotes-clash known t f left right k e s b = promotes-all known t e (λ l c. inner-no-clash nodes ss f left right c k) s (around-bound outer f t.bound (clashes left right k b))

  -- what was found for them over the others
  module _ (f : IsSolvedChain nodes (around ss)) (added : List (Var × Term)) (t : Takes nodes outer [] added inner) (answer : ToldStore)
      (e : answer.store ≡ with_bindings (named_too (innermost (around ss)) (innermost ss)) added) where
    abbrev new : Stored
    new = answer.store

    abbrev apart : Stored
    apart = with_bindings (unbound (innermost ss)) added

    solution : Resolves nodes ss apart
    solution = resolves nodes ss f.form added apart t refl

    apart-list : bindings_from (replaced ss apart) ≡ joins [] added ++ outer
    apart-list = from-last (around ss) apart

    list : bindings_from (replaced (around ss) new) ≡ joins beside added ++ further
    list = from-last (around (around ss)) new ∙ ap (λ (l : List (Var × Term)). l ++ further) (joined-bindings added new e)

    from-apart : (s t : Tree) → ToldBy nodes (replaced ss apart) s t → ToldBy nodes (replaced (around ss) new) s t
    from-apart s t m = told-replaced nodes (around ss) added new (joined-bindings added new e) s t
        (elim (bindings-either nodes (joins [] added) outer s t (subst (λ (l : List (Var × Term)). IsTold (bindings_in nodes l) s t) apart-list m)) [
          | inl x ↦ elim (joins-told nodes [] added s t x) [ inl y ↦ absurd y | inr y ↦ inr y ]
          | inr x ↦ inl x
        ])

    to-apart : (s t : Tree) → ToldBy nodes (replaced (around ss) new) s t → ToldBy nodes (replaced ss apart) s t
    to-apart s t m = subst (λ (l : List (Var × Term)). IsTold (bindings_in nodes l) s t) (sym apart-list)
        (elim (replaced-told nodes (around ss) added new (joined-bindings added new e) s t m) [
          | inl x ↦ bindings-right nodes (joins [] added) outer s t x
          | inr x ↦ bindings-left nodes (joins [] added) outer s t (told-joins nodes [] added s t (inr x))
        ])

    fresh : BindNew outer added
    fresh = fresh-all nodes outer added inner t

    split : outer ≡ beside ++ further
    split = from-innermost (around ss)

    long : length (joins [] added ++ outer) ≡ length (joins beside added ++ further)
    long =
        let p : length (joins [] added ++ outer) ≡ length (joins [] added) + length outer = length-append (joins [] added) outer in
        let q : length (joins [] added) ≡ length {A = Var × Term} [] + length added = joins-length [] added in
        let r : length outer ≡ length (beside ++ further) = ap (λ (l : List (Var × Term)). length l) split in
        let u : length (beside ++ further) ≡ length beside + length further = length-append beside further in
        let v : length (joins beside added ++ further) ≡ length (joins beside added) + length further = length-append (joins beside added) further in
        let w : length (joins beside added) ≡ length beside + length added = joins-length beside added in
        omega arith

    -- the same is found in the joined store as over the others
    found_joined : (y : Var) → found_in (outer ++ added) y ≡ found_in (joins beside added ++ further) y
    found_joined y = ap (λ (l : List (Var × Term)). found_in (l ++ added) y) split
        ∙ sym (joins-found beside further added (subst (λ (l : List (Var × Term)). BindNew l added) split fresh) y)

    form-chain : IsFormChain nodes (replaced (around ss) new)
    form-chain = subst (λ (l : List (Var × Term)). IsFormOf nodes l (ToldBy nodes (replaced (around ss) new))) (sym list)
        (form-reorder nodes (joins [] added ++ outer) (joins beside added ++ further) (ToldBy nodes (replaced (around ss) new))
        (λ y. joins-found [] outer added fresh y ∙ found_joined y) long
        (form-as nodes (joins [] added ++ outer) (ToldBy nodes (replaced ss apart)) (ToldBy nodes (replaced (around ss) new))
        (subst (λ (l : List (Var × Term)). IsFormOf nodes l (ToldBy nodes (replaced ss apart))) apart-list solution.form) from-apart to-apart))

    older-chain : LeadOlder nodes (outer ++ added) → LeadOlder nodes (bindings_from (replaced (around ss) new))
    older-chain h = subst (LeadOlder nodes) (sym list) (older-reorder nodes (outer ++ added) (joins beside added ++ further) found_joined h)

    once-chain : BindOnce (bindings_from (replaced (around ss) new))
    once-chain = subst BindOnce (sym list) (once-joins beside further added (subst (λ (l : List (Var × Term)). BindNew l added) split fresh) (subst BindOnce split f.once))

    pub promotes-added : (known : ℕ) → length ss ≤ known + 1 → (LeadOlder nodes outer → EachOlder nodes inner → LeadOlder nodes (outer ++ added)) → IsTrue answer.solved ↔ EachOlder nodes inner → answer.bound ≡ bound_by nodes (outer ++ added) added → AnswersPromoted nodes ss known answer
    promotes-added known l o h b = record {
      promotes = record {
        frames = ap (λ (r : Stored). r.frames) e;
        ports = ap (λ (r : Stored). r.ports) e;
        stands = StandFor-on solution.stands (StandFor-follows (λ s t m. told (from-apart s t m)) (λ s t m. told (to-apart s t m)));
        solved = λ _ c each. record { form = form-chain; older = older-chain (o f.older each); once = once-chain };
      };
      is_solved = (λ is. (l, solution.stands.back (form-consistent nodes (bindings_from (replaced ss apart)) (ToldBy nodes (replaced ss apart)) solution.form), h.0 is), λ w. h.1 w.2);
      bound = around-bound outer f.form answer.bound (taken added t b);
    }

  pub promotes-joined : (known : ℕ) (t : ToldStore) → IsSolvedChain nodes (around ss) → length ss ≤ known + 1
      → Joins nodes (bindings_from (around ss)) (innermost ss).bindings (named_too (innermost (around ss)) (innermost ss)) t.store t.solved t.bound → AnswersPromoted nodes ss known t
  promotes-joined known t f l (found more k o e h b) = promotes-added f more k t e known l o h b
  promotes-joined known t f l (clashing left right k e h b) = promotes-clash known t f.form left right k e h b

  pub promotes-chain : (known : ℕ) (t : ToldStore) → 1 < length ss → JoinsChain nodes (around ss) (min (length ss - 1) known) inner (named_too (innermost (around ss)) (innermost ss)) t → AnswersPromoted nodes ss known t
  promotes-chain known t l (over_solved e f j) =
      let long : length (around ss) ≡ length ss - 1 = around-length ss in
      promotes-joined known t f (omega arith) j
  promotes-chain known t l (as_they_stand e s f b) = promotes-all known t s (λ enough k. less enough) f
      (subst (λ (bs : List (Var × Term)). AreNewlyBound (equations_of nodes (around ss)) (equations_of nodes (around ss)) (bindings_in nodes bs) t.bound) (sym (from-innermost ss)) b)
    where
      less : length ss ≤ known + 1 → ⊥
      less enough = let long : length (around ss) ≡ length ss - 1 = around-length ss in e (omega arith)

-- where the whole chain is known to be solved, the bindings of the innermost store are found in it, and are what is found for them over the others
module _ (nodes : List Node) (ss : List Stored) (known : ℕ) (all : known ≡ length ss) (k : IsKnown nodes ss known) where
  abbrev own : List (Var × Term)
  own = (innermost ss).bindings

  abbrev others : List (Var × Term)
  others = bindings_from (around ss)

  whole : IsSolvedChain nodes ss
  whole = whole-known nodes ss known k all

  pub innermost-found : AreFound (bindings_from ss) (innermost ss).bindings
  innermost-found = part-found nodes ss others own (from-innermost ss) whole

  pub joins-innermost : (old : Stored) (answer : ToldStore) → 0 < length ss → answer.store ≡ with_bindings old (innermost ss).bindings → answer.solved ≡ true
      → answer.bound ≡ bound_by nodes (bindings_from ss) (innermost ss).bindings → JoinsChain nodes (around ss) (min (length ss - 1) known) (innermost ss).bindings old answer
  joins-innermost old answer some store solved bound = over_solved (let long : length (around ss) ≡ length ss - 1 = around-length ss in omega arith)
      (subst (IsSolvedChain nodes) (around-take ss) (k.each (length ss - 1) (omega arith)))
      (found own (takes-part nodes ss others own (from-innermost ss) whole) (λ _ _. older-parts nodes ss others own (from-innermost ss) whole) store
      (λ _. part-older nodes ss others own (from-innermost ss) whole, λ _. solved) (bound ∙ bound-parts nodes ss others own (from-innermost ss) whole own))

-- the stores by their places
pub innermost-index : (ss : List Stored) (d s : Stored) → 0 < length ss → s ≡ slice_index_or ss (length ss - 1) d → innermost ss ≡ s
innermost-index ss d s l e = innermost-last ss s (get-index ss (length ss - 1) d (omega arith) ∙ ap Some (sym e))

pub beside-index : (ss : List Stored) (d s : Stored) → 1 < length ss → s ≡ slice_index_or ss (length ss - 1 - 1) d → innermost (around ss) ≡ s
beside-index [] d s l e = absurd (omega arith)
beside-index (r ∷ []) d s l e = absurd (omega arith)
beside-index (r ∷ t ∷ []) d s l e = sym e
beside-index (r ∷ t ∷ u ∷ ss) d s l e = beside-index (t ∷ u ∷ ss) d s (omega arith) (e ∙ at (length (r ∷ t ∷ u ∷ ss) - 1 - 1) (length (t ∷ u ∷ ss) - 1 - 1) (omega arith))
  where
    at : (m n : ℕ) → m ≡ suc n → slice_index_or (r ∷ t ∷ u ∷ ss) m d ≡ slice_index_or (t ∷ u ∷ ss) n d
    at m n q = ap (λ (k : ℕ). slice_index_or (r ∷ t ∷ u ∷ ss) k d) q
