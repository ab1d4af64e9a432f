-- A chain with one more store: what is told before a depth, what is told in all, and the frames from the depth on.
use Rattle.std.proofs.Common.{◌≡◌, ℕ, zero, suc, ◌+◌, ◌≤◌, arith, ℤ, List, [], ◌∷◌, ◌++◌, length, take, drop, refl, sym, ◌∙◌, ap, subst, ◌⊎◌, inl, inr, append_assoc}
use Rattle.std.proofs.lemmas.List.{take_all}
use Rattle.akl_terms.specs.declared.name.Var.{Var}
use Rattle.akl_terms.specs.declared.term.Node.{Node}
use Rattle.akl_terms.specs.declared.term.Term.{Term}
use Rattle.akl_terms.specs.Tree.{Tree, variable, integer}
use Rattle.akl_terms.specs.Equal.{IsTold, told}
use Rattle.akl_terms.specs.Touching.{IsLocal}
use Rattle.akl_terms.specs.Standing.{StandFor}
use Rattle.akl_terms.proofs.EqualLaws.{IsTold-left, IsTold-right, IsTold-either}
use Rattle.akl_terms.proofs.StandingLaws.{StandFor-follows}
use Rattle.akl_model.proofs.QuietGrows.{IsLocal-left, IsLocal-right}
use Rattle.rational_unify.specs.Solving.{bindings_in}
use Rattle.rational_unify.specs.Forms.{IsFormOf}
use Rattle.rational_unify.specs.Older.{LeadOlder}
use Rattle.local_store.specs.Stored.{Stored, joined, with_binding}
use Rattle.local_store.specs.Chained.{bindings_from, ToldBy, BindOnce, IsSolvedChain, IsKnown}
use Rattle.local_store.proofs.Layers.{from-last, bindings-either, bindings-left, bindings-right, told-split, told-take, told-drop}
use Rattle.guard_plan.proofs.Chains.{long_push}
use Rattle.entail_test.specs.Asked.{frames_from, environment_at, own_at, whole_at}
use Rattle.stable_test.proofs.OneBinding.{TellsAlso}
use Rattle.stable_test.proofs.EachInside.{local_either}

front_taken : (A B : List Stored) → take (length A) (A ++ B) ≡ A
front_taken [] B = refl
front_taken (r ∷ A) B = ap (λ (l : List Stored). r ∷ l) (front_taken A B)

front_dropped : (A B : List Stored) → drop (length A) (A ++ B) ≡ B
front_dropped [] B = refl
front_dropped (r ∷ A) B = front_dropped A B

pub taken : (A M : List Stored) (s : Stored) → take (length A) ((A ++ M) ++ s ∷ []) ≡ A
taken A M s = ap (take (length A)) (append_assoc A M (s ∷ [])) ∙ front_taken A (M ++ s ∷ [])

pub dropped : (A M : List Stored) (s : Stored) → drop (length A) ((A ++ M) ++ s ∷ []) ≡ M ++ s ∷ []
dropped A M s = ap (drop (length A)) (append_assoc A M (s ∷ [])) ∙ front_dropped A (M ++ s ∷ [])

-- a further store changes nothing before it
pub take_front : (ss ts : List Stored) (k : ℕ) → k ≤ length ss → take k (ss ++ ts) ≡ take k ss
take_front ss ts zero h = refl
take_front [] ts (suc k) h = absurd (omega arith)
take_front (s ∷ ss) ts (suc k) h = ap (λ (l : List Stored). s ∷ l) (take_front ss ts k (omega arith))

pub known_more : (nodes : List Node) (ss : List Stored) (s : Stored) (known : ℕ) → IsKnown nodes ss known → IsKnown nodes (ss ++ s ∷ []) known
known_more nodes ss s known h = record {
  within = let l : length (ss ++ s ∷ []) ≡ length ss + 1 = long_push ss s in let x : known ≤ length ss = h.within in omega arith;
  each = λ k q. subst (IsSolvedChain nodes) (sym (take_front ss (s ∷ []) k (let x : known ≤ length ss = h.within in omega arith))) (h.each k q);
}

one_more : (k n : ℕ) → k ≤ n + 1 → (k ≤ n) ⊎ (k ≡ n + 1)
one_more zero n h = inl (omega arith)
one_more (suc zero) zero h = inr refl
one_more (suc (suc k)) zero h = absurd (omega arith)
one_more (suc k) (suc n) h = elim (one_more k n (omega arith)) [ inl l ↦ inl (omega arith) | inr e ↦ inr (let q : k ≡ n + 1 = e in omega arith) ]

same_solved : (nodes : List Node) (ss ts : List Stored) → bindings_from ss ≡ bindings_from ts → IsSolvedChain nodes ss → IsSolvedChain nodes ts
same_solved nodes ss ts e h = record {
  form = subst (λ (bs : List (Var × Term)). IsFormOf nodes bs (IsTold (bindings_in nodes bs))) e h.form;
  older = subst (LeadOlder nodes) e h.older;
  once = subst BindOnce e h.once;
}

-- one that binds nothing leaves all solved
pub known_unbound : (nodes : List Node) (ss : List Stored) (s : Stored) → s.bindings ≡ [] → IsKnown nodes ss (length ss) → IsKnown nodes (ss ++ s ∷ []) (length ss + 1)
known_unbound nodes ss s none h = record {
  within = let l : length (ss ++ s ∷ []) ≡ length ss + 1 = long_push ss s in omega arith;
  each = λ k q. elim (one_more k (length ss) q) [
    | inl l ↦ subst (IsSolvedChain nodes) (sym (take_front ss (s ∷ []) k l)) (h.each k l)
    | inr e ↦ subst (IsSolvedChain nodes) (sym (ap (λ (j : ℕ). take j (ss ++ s ∷ [])) (e ∙ sym (long_push ss s)) ∙ take_all (length (ss ++ s ∷ [])) (ss ++ s ∷ []) (omega arith)))
        (same_solved nodes ss (ss ++ s ∷ []) (sym (from-last ss s ∙ ap (λ (bs : List (Var × Term)). bs ++ bindings_from ss) none)) (subst (IsSolvedChain nodes) (take_all (length ss) ss (omega arith)) (h.each (length ss) (omega arith))))
  ];
}

pub known_fewer : (nodes : List Node) (ss : List Stored) (m n : ℕ) → m ≤ n → IsKnown nodes ss n → IsKnown nodes ss m
known_fewer nodes ss m n l h = record { within = let x : n ≤ length ss = h.within in omega arith; each = λ k q. h.each k (omega arith) }

frames_either : (M N : List Stored) (x : Var) → IsLocal (frames_from (M ++ N)) x → IsLocal (frames_from M) x ⊎ IsLocal (frames_from N) x
frames_either [] N x l = inr l
frames_either (r ∷ M) N x l = elim (local_either r.frames (frames_from (M ++ N)) x l) [
  | inl i ↦ inl (IsLocal-left r.frames (frames_from M) x i)
  | inr i ↦ elim (frames_either M N x i) [ inl j ↦ inl (IsLocal-right r.frames (frames_from M) x j) | inr j ↦ inr j ]
]

frames_last : (M N : List Stored) (x : Var) → IsLocal (frames_from N) x → IsLocal (frames_from (M ++ N)) x
frames_last [] N x l = l
frames_last (r ∷ M) N x l = IsLocal-right r.frames (frames_from (M ++ N)) x (frames_last M N x l)

-- the frames from the depth on are those of the path there and of the last store
pub further_frame : (A M : List Stored) (s : Stored) (x : Var) → IsLocal (frames_from (drop (length A) ((A ++ M) ++ s ∷ []))) x → IsLocal (frames_from M) x ⊎ IsLocal s.frames x
further_frame A M s x l = elim (frames_either M (s ∷ []) x (subst (λ (ss : List Stored). IsLocal (frames_from ss) x) (dropped A M s) l)) [
  | inl i ↦ inl i
  | inr i ↦ elim (local_either s.frames [] x i) [ inl j ↦ inr j | inr j ↦ absurd j ]
]

pub last_frame : (A M : List Stored) (s : Stored) (x : Var) → IsLocal s.frames x → IsLocal (frames_from (drop (length A) ((A ++ M) ++ s ∷ []))) x
last_frame A M s x l = subst (λ (ss : List Stored). IsLocal (frames_from ss) x) (sym (dropped A M s)) (frames_last M (s ∷ []) x (IsLocal-left s.frames [] x l))

-- what all tell is what the path tells, and the bindings of the last store
module _ (nodes : List Node) (ss : List Stored) (s : Stored) (depth : ℕ) where
  pub told_whole : (a b : Tree) → IsTold (whole_at nodes (ss ++ s ∷ []) depth) a b → ToldBy nodes ss a b ⊎ IsTold (bindings_in nodes s.bindings) a b
  told_whole a b m = elim (bindings-either nodes s.bindings (bindings_from ss) a b (subst (λ (l : List (Var × Term)). IsTold (bindings_in nodes l) a b) (from-last ss s) all)) [ inl x ↦ inr x | inr x ↦ inl x ]
    where
      all : ToldBy nodes (ss ++ s ∷ []) a b
      all = elim (IsTold-either (environment_at nodes (ss ++ s ∷ []) depth) (own_at nodes (ss ++ s ∷ []) depth) a b m) [
        | inl x ↦ told-take nodes (ss ++ s ∷ []) depth a b x
        | inr x ↦ told-drop nodes (ss ++ s ∷ []) depth a b x
      ]

  pub whole_told : (a b : Tree) → ToldBy nodes ss a b ⊎ IsTold (bindings_in nodes s.bindings) a b → IsTold (whole_at nodes (ss ++ s ∷ []) depth) a b
  whole_told a b m = elim (told-split nodes (ss ++ s ∷ []) depth a b all) [
    | inl x ↦ IsTold-left (environment_at nodes (ss ++ s ∷ []) depth) (own_at nodes (ss ++ s ∷ []) depth) a b x
    | inr x ↦ IsTold-right (environment_at nodes (ss ++ s ∷ []) depth) (own_at nodes (ss ++ s ∷ []) depth) a b x
  ]
    where
      all : ToldBy nodes (ss ++ s ∷ []) a b
      all = subst (λ (l : List (Var × Term)). IsTold (bindings_in nodes l) a b) (sym (from-last ss s)) (elim m [
        | inl x ↦ bindings-right nodes s.bindings (bindings_from ss) a b x
        | inr x ↦ bindings-left nodes s.bindings (bindings_from ss) a b x
      ])

  -- a last store without bindings adds nothing
  pub whole_same : s.bindings ≡ [] → StandFor (ToldBy nodes ss) (IsTold (whole_at nodes (ss ++ s ∷ []) depth))
  whole_same e = StandFor-follows (λ a b m. told (whole_told a b (inl m))) (λ a b m. elim (told_whole a b m) [
    | inl x ↦ told x
    | inr x ↦ absurd (subst (λ (l : List (Var × Term)). IsTold (bindings_in nodes l) a b) e x)
  ])

-- and with one binding, to an integer, one equation
pub whole_bound : (nodes : List Node) (ss : List Stored) (s : Stored) (depth : ℕ) (on : Var) (z : ℤ) → s.bindings ≡ []
    → TellsAlso (bindings_in nodes (bindings_from ss)) (whole_at nodes (ss ++ with_binding s on (Term.Int z) ∷ []) depth) on z
whole_bound nodes ss s depth on z e = record {
  keeps = λ a b m. whole_told nodes ss (with_binding s on (Term.Int z)) depth a b (inl m);
  binds = whole_told nodes ss (with_binding s on (Term.Int z)) depth (variable on) (integer z) (inr (subst (λ (l : List (Var × Term)). IsTold (bindings_in nodes (joined l on (Term.Int z))) (variable on) (integer z)) (sym e) (inl (refl, refl))));
  either = λ a b m. elim (told_whole nodes ss (with_binding s on (Term.Int z)) depth a b m) [
    | inl x ↦ inl x
    | inr x ↦ elim (subst (λ (l : List (Var × Term)). IsTold (bindings_in nodes (joined l on (Term.Int z))) a b) e x) [ inl y ↦ inr y | inr y ↦ absurd y ]
  ];
}
