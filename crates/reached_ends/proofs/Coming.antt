-- What comes on a walk is led to by what came before, or by what is put in.
use Rattle.std.proofs.Common.{◌≡◌, ℕ, zero, suc, ◌+◌, ◌<◌, List, [], ◌∷◌, ◌++◌, Some, refl, sym, subst, ◌⊎◌, inl, inr, arith, length, get_or}
use Rattle.akl_terms.specs.declared.name.Name.{Name}
use Rattle.akl_terms.specs.declared.name.Var.{Var}
use Rattle.akl_terms.specs.declared.term.Node.{Node}
use Rattle.akl_terms.specs.declared.term.Term.{Term}
use Rattle.akl_terms.specs.declared.term.Term.TheVariants.{Mol}
use Rattle.akl_terms.specs.Template.{tree, trees_from}
use Rattle.akl_terms.specs.Tree.{Tree}
use Rattle.constraint_laws.specs.Touched.{IsAmong}
use Rattle.rational_unify.specs.Known.{found_in}
use Rattle.local_store.specs.Stored.{Stored}
use Rattle.reached_ends.specs.declared.walk.Walk.{Walk}
use Rattle.reached_ends.specs.Leading.{StandsIn, StandsAmong, StandsInBindings, StandsInStores, LeadsTo, itself, bound}
use Rattle.reached_ends.specs.Walks.{Waits, State, state_of, Comes, ComesFrom}
use Rattle.reached_ends.proofs.Going.{among_or_last, waits_before, waits_last, waits_or_last, Spreads}

module _ (nodes : List Node) (root : List (Var × Term)) where
  leads_on : (x y z : Var) → LeadsTo nodes root x y → LeadsTo nodes root y z → LeadsTo nodes root x z
  leads_on x y z a itself = a
  leads_on x y z a (bound {y = v} t b e s) = bound t (leads_on x y v a b) e s

  -- one after another, of more variables, and where all came before
  pub from_on : (P : Var → Type 0) (a b c : State) → ComesFrom nodes root P a b → ComesFrom nodes root P b c → ComesFrom nodes root P a c
  from_on P a b c f g y k =
      let w : (x : Var) × (Comes nodes b x ⊎ P x) × LeadsTo nodes root x y = g y k in
      elim w.1 [
        | inl m ↦ (let v : (x : Var) × (Comes nodes a x ⊎ P x) × LeadsTo nodes root x w.0 = f w.0 m in (v.0, v.1, leads_on v.0 w.0 y v.2 w.2))
        | inr m ↦ (w.0, inr m, w.2)
      ]

  pub from_more : (P Q : Var → Type 0) (a b : State) → ((x : Var) → P x → Q x) → ComesFrom nodes root P a b → ComesFrom nodes root Q a b
  from_more P Q a b h f y k =
      let w : (x : Var) × (Comes nodes a x ⊎ P x) × LeadsTo nodes root x y = f y k in
      (w.0, elim w.1 [ inl m ↦ inl m | inr p ↦ inr (h w.0 p) ], w.2)

  pub from_before : (P : Var → Type 0) (a b : State) → ((x : Var) → Comes nodes b x → Comes nodes a x) → ComesFrom nodes root P a b
  from_before P a b h y k = (y, inl (h y k), itself)

  -- a variable that is reached, and what it is bound to
  pub from_bound : (a b : State) (y : Var) (t : Term) → found_in root y ≡ Some t → b.reached ≡ a.reached ++ y ∷ [] → b.waiting ≡ a.waiting ++ t ∷ [] → ComesFrom nodes root (λ x. x ≡ y) a b
  from_bound a b y t e r w x (inl m) = elim (among_or_last a.reached y x (subst (IsAmong x) r m)) [ inl k ↦ (x, inl (inl k), itself) | inr q ↦ (x, inr q, itself) ]
  from_bound a b y t e r w x (inr k) = elim (waits_or_last nodes a.waiting t x (subst (λ (ts : List Term). Waits nodes ts x) w k)) [
    | inl j ↦ (x, inl (inr j), itself)
    | inr s ↦ (y, inr refl, bound t itself e s)
  ]

  pub from_end : (a b : State) (y : Var) → b.reached ≡ a.reached ++ y ∷ [] → b.waiting ≡ a.waiting → ComesFrom nodes root (λ x. x ≡ y) a b
  from_end a b y r w x (inl m) = elim (among_or_last a.reached y x (subst (IsAmong x) r m)) [ inl k ↦ (x, inl (inl k), itself) | inr q ↦ (x, inr q, itself) ]
  from_end a b y r w x (inr k) = (x, inl (inr (subst (λ (ts : List Term). Waits nodes ts x) w k)), itself)

  -- a term that waits, and one that is taken from those that wait
  pub from_push : (a b : State) (t : Term) → b.reached ≡ a.reached → b.waiting ≡ a.waiting ++ t ∷ [] → ComesFrom nodes root (λ x. StandsIn x (tree nodes t)) a b
  from_push a b t r w x (inl m) = (x, inl (inl (subst (IsAmong x) r m)), itself)
  from_push a b t r w x (inr k) = elim (waits_or_last nodes a.waiting t x (subst (λ (ts : List Term). Waits nodes ts x) w k)) [
    | inl j ↦ (x, inl (inr j), itself)
    | inr s ↦ (x, inr s, itself)
  ]

  pub from_taken : (a mid b : State) (t : Term) → mid.reached ≡ a.reached → a.waiting ≡ mid.waiting ++ t ∷ [] → ComesFrom nodes root (λ x. StandsIn x (tree nodes t)) mid b → ComesFrom nodes root (λ x. ⊥) a b
  from_taken a mid b t r w f y k =
      let v : (x : Var) × (Comes nodes mid x ⊎ StandsIn x (tree nodes t)) × LeadsTo nodes root x y = f y k in
      (v.0, inl (came v.0 v.1), v.2)
    where
      waited : (x : Var) → Waits nodes (mid.waiting ++ t ∷ []) x → Comes nodes a x
      waited x h = inr (subst (λ (ts : List Term). Waits nodes ts x) (sym w) h)

      came : (x : Var) → Comes nodes mid x ⊎ StandsIn x (tree nodes t) → Comes nodes a x
      came x (inl (inl m)) = inl (subst (IsAmong x) r m)
      came x (inl (inr h)) = waited x (waits_before nodes mid.waiting (t ∷ []) x h)
      came x (inr s) = waited x (waits_last nodes mid.waiting t x s)

-- neighbouring nodes that wait
among_nodes : (go : ℕ → Tree) (first count k : ℕ) (x : Var) → k < count → StandsIn x (go (first + k)) → StandsAmong x (trees_from go first count)
among_nodes go first zero k x l s = absurd (omega arith)
among_nodes go first (suc count) zero x l s = inl (subst (λ (n : ℕ). StandsIn x (go n)) (omega arith) s)
among_nodes go first (suc count) (suc k) x l s = inr (among_nodes go (suc first) count k x (omega arith) (subst (λ (n : ℕ). StandsIn x (go n)) (omega arith) s))

pub spread_from : (old new : Walk) (first count : ℕ) (frame : Name) → Spreads old new first count frame count → (nodes : List Node) (root : List (Var × Term))
    → ComesFrom nodes root (λ x. StandsAmong x (trees_from (λ k. tree nodes (Mol k frame)) first count)) (state_of old) (state_of new)
spread_from old new first count frame s nodes root x (inl m) = (x, inl (inl (subst (IsAmong x) s.reached m)), itself)
spread_from old new first count frame s nodes root x (inr h) = elim (s.only nodes x h) [
  | inl j ↦ (x, inl (inr j), itself)
  | inr j ↦ (x, inr (among_nodes (λ k. tree nodes (Mol k frame)) first count j.0 x j.1 j.2), itself)
]

-- by place, what stands in a binding, and in a store
pub bound_at : (nodes : List Node) (bs : List (Var × Term)) (i : ℕ) (d : Var × Term) → i < length bs → (x : Var) → (x ≡ (get_or bs i d).0) ⊎ StandsIn x (tree nodes (get_or bs i d).1) → StandsInBindings nodes bs x
bound_at nodes [] i d l x h = absurd (omega arith)
bound_at nodes (b ∷ bs) zero d l x (inl e) = inl e
bound_at nodes (b ∷ bs) zero d l x (inr s) = inr (inl s)
bound_at nodes (b ∷ bs) (suc i) d l x h = inr (inr (bound_at nodes bs i d (omega arith) x h))

pub stored_at : (nodes : List Node) (ss : List Stored) (i : ℕ) (d : Stored) → i < length ss → (x : Var) → StandsInBindings nodes (get_or ss i d).bindings x → StandsInStores nodes ss x
stored_at nodes [] i d l x h = absurd (omega arith)
stored_at nodes (s ∷ ss) zero d l x h = inl h
stored_at nodes (s ∷ ss) (suc i) d l x h = inr (stored_at nodes ss i d (omega arith) x h)
