-- What the store of an alternative stands for, over the stores around it.
use Rattle.std.proofs.Common.{◌≡◌, ℕ, zero, suc, ◌+◌, ◌≤◌, List, [], ◌∷◌, ◌++◌, length, take, true, refl, sym, ◌∙◌, ap, subst, ◌⊎◌, inl, inr, append-nil, arith}
use Rattle.akl_terms.specs.declared.name.Name.{Name}
use Rattle.akl_terms.specs.declared.term.Node.{Node}
use Rattle.akl_terms.specs.declared.term.Equation as code
use Rattle.akl_terms.specs.declared.program.Clause.{Clause}
use Rattle.akl_terms.specs.Equal.{Equations, IsTold, EqualBy, told, IsConsistent}
use Rattle.akl_terms.specs.Standing.{StandFor}
use Rattle.akl_terms.specs.Tree.{Tree}
use Rattle.akl_terms.proofs.EqualLaws.{IsTold-left, IsTold-right, IsTold-either}
use Rattle.akl_terms.proofs.StandingLaws.{StandFor-follows, StandFor-back, StandFor-on}
use Rattle.akl_model.specs.Instances.{terms_from, head_equations}
use Rattle.constraint_laws.proofs.StandsGrow.{stands_with_more}
use Rattle.rational_unify.specs.Solving.{bindings_in, equations_in}
use Rattle.local_store.specs.Stored.{Stored}
use Rattle.local_store.specs.Chained.{IsSolvedChain, IsKnown}
use Rattle.local_store.specs.Telling.{ToldAlso}
use Rattle.table_laws.specs.Rows.{told_in}
use Rattle.table_laws.proofs.Stores.{told_join}
use Rattle.table_laws.proofs.StoreChains.{from_told, to_told, around_push, innermost_push}
use Rattle.guard_plan.proofs.Chains.{long_push}
use Rattle.rule_plan.specs.Made.{store_with, IsNewStore}
use Rattle.rule_plan.proofs.Framed.{take_front}
use Rattle.rule_plan.proofs.NewBoxes.{heads_stand}
use Rattle.rule_plan.proofs.Storing.{tells_stands, around_exchanged}
use Rattle.call_plan.specs.declared.heads.Arguments.{Arguments}
use Rattle.call_plan.specs.Sifted.{head_codes, Clashes}

-- a store with a frame alone, innermost, tells nothing
told_frame : (nodes : List Node) (path : List Stored) (frame : Name) → told_in nodes (path ++ store_with frame ∷ []) ≡ told_in nodes path
told_frame nodes path frame = told_join nodes path (store_with frame ∷ []) ∙ append-nil (told_in nodes path)

-- what stores stand for with further equations, as one list
also_stands : (nodes : List Node) (ss : List Stored) (es : List code.Equation) → StandFor (ToldAlso nodes ss es) (IsTold (told_in nodes ss ++ equations_in nodes es))
also_stands nodes ss es = StandFor-follows together apart
  where
    together : (a b : Tree) → ToldAlso nodes ss es a b → EqualBy (IsTold (told_in nodes ss ++ equations_in nodes es)) a b
    together a b m = elim m [
      | inl x ↦ told (IsTold-left (told_in nodes ss) (equations_in nodes es) a b (from_told nodes ss a b x))
      | inr y ↦ told (IsTold-right (told_in nodes ss) (equations_in nodes es) a b y)
    ]

    apart : (a b : Tree) → IsTold (told_in nodes ss ++ equations_in nodes es) a b → EqualBy (ToldAlso nodes ss es) a b
    apart a b m = elim (IsTold-either (told_in nodes ss) (equations_in nodes es) a b m) [ inl x ↦ told (inl (to_told nodes ss a b x)) | inr y ↦ told (inr y) ]

module _ (nodes : List Node) (path : List Stored) (W : Equations) (stands : StandFor (IsTold (told_in nodes path)) (IsTold W)) (a : Arguments) (frame : Name) (c : Clause) where
  abbrev pub own : Equations
  own = head_equations (terms_from nodes a.frame a.first a.count) (terms_from nodes frame c.first c.count)

  head_told : StandFor (ToldAlso nodes (path ++ store_with frame ∷ []) (head_codes a frame c)) (IsTold (W ++ own))
  head_told = StandFor-on (subst (λ (E : Equations). StandFor (ToldAlso nodes (path ++ store_with frame ∷ []) (head_codes a frame c)) (IsTold (E ++ equations_in nodes (head_codes a frame c)))) (told_frame nodes path frame)
      (also_stands nodes (path ++ store_with frame ∷ []) (head_codes a frame c)))
      (StandFor-on (stands_with_more (told_in nodes path) W (equations_in nodes (head_codes a frame c)) stands) (heads_stand nodes W a.frame a.first a.count frame c.first c.count))

  -- where the head clashes, all together is inconsistent
  pub clash_fails : Clashes nodes path a frame c → IsConsistent (W ++ own) → ⊥
  clash_fails n k = n (head_told.back k)

  -- else the store of the alternative stands for the head, over any form of what is told around
  module _ (known : ℕ) (store : Stored) (h : IsNewStore nodes path known frame (head_codes a frame c) store true) where
    tells : StandFor (IsTold (told_in nodes path ++ equations_in nodes (head_codes a frame c))) (IsTold (told_in nodes path ++ bindings_in nodes store.bindings))
    tells = subst (λ (E : Equations). StandFor (IsTold (E ++ equations_in nodes (head_codes a frame c))) (IsTold (told_in nodes path ++ bindings_in nodes store.bindings))) (told_frame nodes path frame)
        (subst (λ (ss : List Stored). StandFor (IsTold (told_in nodes (path ++ store_with frame ∷ []) ++ equations_in nodes (head_codes a frame c))) (IsTold (told_in nodes ss ++ bindings_in nodes store.bindings)))
        (around_push path (store_with frame)) (tells_stands nodes (path ++ store_with frame ∷ []) (known + 1) (head_codes a frame c) store h.tells))

    pub head_stands : (D : Equations) → StandFor (IsTold D) (IsTold W) → StandFor (IsTold (D ++ bindings_in nodes store.bindings)) (IsTold (W ++ own))
    head_stands D d = StandFor-on
        (around_exchanged D (told_in nodes path) (told_in nodes path) W (bindings_in nodes store.bindings) (equations_in nodes (head_codes a frame c)) (StandFor-on d (StandFor-back stands)) stands tells)
        (heads_stand nodes W a.frame a.first a.count frame c.first c.count)

    pub all_stand : StandFor (IsTold (told_in nodes (path ++ store ∷ []))) (IsTold (W ++ own))
    all_stand = subst (λ (E : Equations). StandFor (IsTold E) (IsTold (W ++ own)))
        (sym (told_join nodes path (store ∷ []) ∙ ap (λ (E : Equations). told_in nodes path ++ E) (append-nil (bindings_in nodes store.bindings)))) (head_stands (told_in nodes path) stands)

    pub all_consistent : IsConsistent (W ++ own)
    all_consistent = head_told.to (h.is_solved.0 refl).1

    pub store_frames : store.frames ≡ frame ∷ []
    store_frames = h.tells.frames ∙ ap (λ (s : Stored). s.frames) (innermost_push path (store_with frame))

    pub store_ports : store.ports ≡ []
    store_ports = h.tells.ports ∙ ap (λ (s : Stored). s.ports) (innermost_push path (store_with frame))

-- and the chain is solved with it
pub store_solved : (nodes : List Node) (path : List Stored) (a : Arguments) (frame : Name) (c : Clause) (known : ℕ) (store : Stored) → IsNewStore nodes path known frame (head_codes a frame c) store true → IsSolvedChain nodes (path ++ store ∷ [])
store_solved nodes path a frame c known store h =
    let k : _ = h.is_solved.0 refl in
    subst (λ (ss : List Stored). IsSolvedChain nodes (ss ++ store ∷ [])) (around_push path (store_with frame))
    (h.tells.solved (let l : length (path ++ store_with frame ∷ []) ≡ length path + 1 = long_push path (store_with frame) in let q : known ≡ length path = k.0 in omega arith) k.1)

-- a chain that is known to be solved with one more store is known to be

take_all : (k : ℕ) (ss : List Stored) → length ss ≤ k → take k ss ≡ ss
take_all zero [] h = refl
take_all zero (s ∷ ss) h = absurd (omega arith)
take_all (suc k) [] h = refl
take_all (suc k) (s ∷ ss) h = ap (λ (l : List Stored). s ∷ l) (take_all k ss (omega arith))

within_or : (k n : ℕ) → (k ≤ n) ⊎ (n + 1 ≤ k)
within_or zero n = inl (omega arith)
within_or (suc k) zero = inr (omega arith)
within_or (suc k) (suc n) = elim (within_or k n) [ inl a ↦ inl (let u : k ≤ n = a in omega arith) | inr a ↦ inr (let u : n + 1 ≤ k = a in omega arith) ]

pub known_push : (nodes : List Node) (path : List Stored) (s : Stored) → IsKnown nodes path (length path) → IsSolvedChain nodes (path ++ s ∷ []) → IsKnown nodes (path ++ s ∷ []) (length path + 1)
known_push nodes path s h c = record {
  within = let l : length (path ++ s ∷ []) ≡ length path + 1 = long_push path s in omega arith;
  each = λ k q. elim (within_or k (length path)) [
    | inl l ↦ subst (IsSolvedChain nodes) (sym (take_front k path (s ∷ []) l)) (h.each k l)
    | inr l ↦ subst (IsSolvedChain nodes) (sym (take_all k (path ++ s ∷ []) (let e : length (path ++ s ∷ []) ≡ length path + 1 = long_push path s in let u : length path + 1 ≤ k = l in omega arith))) c
  ];
}

-- and the others are solved without it
pub front_solved : (nodes : List Node) (path : List Stored) (s : Stored) → IsKnown nodes (path ++ s ∷ []) (length path + 1) → IsSolvedChain nodes path
front_solved nodes path s k = subst (IsSolvedChain nodes) (take_front (length path) path (s ∷ []) (omega arith) ∙ take_all (length path) path (omega arith)) (k.each (length path) (omega arith))
