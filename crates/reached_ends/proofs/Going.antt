-- Steps of a walk over variables, one after another.
use Rattle.std.proofs.Common.{◌≡◌, ℕ, ℤ, zero, suc, ◌+◌, ◌≤◌, ◌<◌, List, [], ◌∷◌, ◌++◌, length, take, get_or, Bool, true, false, Some, None, refl, sym, ◌∙◌, ap, subst, ◌⊎◌, inl, inr, arith, length-append}
use Rattle.std.specs.Prelude.{◌||◌}
use Rattle.std.specs.List.{AllByRecursion, list_any}
use Rattle.std.specs.Prelude.{Result, Ok, Err, IfOk}
use Rattle.akl_terms.specs.Template.{IsArranged}
use Rattle.akl_terms.proofs.Unfolding.{tree-struct}
use Rattle.akl_terms.specs.declared.name.Name.{Name}
use Rattle.akl_terms.specs.declared.name.Var.{Var}
use Rattle.akl_terms.specs.declared.term.Node.{Node}
use Rattle.akl_terms.specs.declared.term.Term.{Term}
use Rattle.akl_terms.specs.declared.term.Term.TheVariants.{Mol}
use Rattle.akl_terms.specs.declared.term.Seen.{Seen}
use Rattle.akl_terms.specs.Names.{same_var}
use Rattle.akl_terms.proofs.SameNames.{same_var-equal}
use Rattle.akl_terms.specs.Template.{tree, trees_from, seen_of, tree_seen, tree_at}
use Rattle.akl_terms.specs.Tree.{Tree, Trees, none, more, variable, integer, port, symbol}
use Rattle.constraint_laws.specs.Growth.{IsOver, AreOver}
use Rattle.constraint_laws.specs.Touched.{IsAmong}
use Rattle.rational_unify.specs.Known.{found_in}
use Rattle.local_store.specs.Stored.{Stored}
use Rattle.reached_ends.specs.declared.walk.Walk.{Walk}
use Rattle.reached_ends.specs.Reached.{AreBoundOver, AreReached}
use Rattle.reached_ends.specs.Leading.{StandsIn, StandsAmong, StandsInStores, LeadsTo, IsLedTo}
use Rattle.reached_ends.specs.Walks.{Waits, State, state_of, waiting_too, weight, Comes, ComesFrom, Goes}

-- lists with one more element

pub among_before : (xs ys : List Var) (x : Var) → IsAmong x xs → IsAmong x (xs ++ ys)
among_before [] ys x m = absurd m
among_before (y ∷ xs) ys x (inl e) = inl e
among_before (y ∷ xs) ys x (inr m) = inr (among_before xs ys x m)

pub among_last : (xs : List Var) (x : Var) → IsAmong x (xs ++ x ∷ [])
among_last [] x = inl refl
among_last (y ∷ xs) x = inr (among_last xs x)

pub among_or_last : (xs : List Var) (y x : Var) → IsAmong x (xs ++ y ∷ []) → IsAmong x xs ⊎ (x ≡ y)
among_or_last [] y x (inl e) = inr e
among_or_last [] y x (inr m) = absurd m
among_or_last (z ∷ xs) y x (inl e) = inl (inl e)
among_or_last (z ∷ xs) y x (inr m) = elim (among_or_last xs y x m) [ inl k ↦ inl (inr k) | inr e ↦ inr e ]

module _ (nodes : List Node) where
  pub waits_before : (ts us : List Term) (x : Var) → Waits nodes ts x → Waits nodes (ts ++ us) x
  waits_before [] us x w = absurd w
  waits_before (t ∷ ts) us x (inl s) = inl s
  waits_before (t ∷ ts) us x (inr w) = inr (waits_before ts us x w)

  pub waits_last : (ts : List Term) (t : Term) (x : Var) → StandsIn x (tree nodes t) → Waits nodes (ts ++ t ∷ []) x
  waits_last [] t x s = inl s
  waits_last (u ∷ ts) t x s = inr (waits_last ts t x s)

  pub waits_or_last : (ts : List Term) (t : Term) (x : Var) → Waits nodes (ts ++ t ∷ []) x → Waits nodes ts x ⊎ StandsIn x (tree nodes t)
  waits_or_last [] t x (inl s) = inr s
  waits_or_last [] t x (inr w) = absurd w
  waits_or_last (u ∷ ts) t x (inl s) = inl (inl s)
  waits_or_last (u ∷ ts) t x (inr w) = elim (waits_or_last ts t x w) [ inl k ↦ inl (inr k) | inr s ↦ inr s ]

  -- variables of neighbouring nodes
  pub of_one : (go : ℕ → Tree) (first count : ℕ) (x : Var) → StandsAmong x (trees_from go first count) → (k : ℕ) × (k < count) × StandsIn x (go (first + k))
  of_one go first zero x s = absurd s
  of_one go first (suc count) x (inl s) = (zero, omega arith, subst (λ (n : ℕ). StandsIn x (go n)) (omega arith) s)
  of_one go first (suc count) x (inr s) =
      let w : (k : ℕ) × (k < count) × StandsIn x (go (suc first + k)) = of_one go (suc first) count x s in
      let l : w.0 < count = w.1 in
      (suc w.0, omega arith, subst (λ (n : ℕ). StandsIn x (go n)) (omega arith) w.2)

-- a tree is over variables that have each of its own
mutual
  pub over_each : (P : Var → Type 0) (t : Tree) → ((x : Var) → StandsIn x t → P x) → IsOver P t
  over_each P (variable x) h = h x refl
  over_each P (integer z) h = tt
  over_each P (port p) h = tt
  over_each P (symbol f ts) h = all_over_each P ts h

  all_over_each : (P : Var → Type 0) (ts : Trees) → ((x : Var) → StandsAmong x ts → P x) → AreOver P ts
  all_over_each P none h = tt
  all_over_each P (more t ts) h = (over_each P t (λ x s. h x (inl s)), all_over_each P ts (λ x s. h x (inr s)))

module _ (nodes : List Node) (root : List (Var × Term)) where
  -- nowhere, and on
  pub rests : (a : State) → Goes nodes root a a
  rests a = record { comes = λ x k. k; reached = λ x m. m; kept = λ x m. m; bound = λ x m. inl m; unbound = λ x m. inl m; ends = λ z m. inl m }

  pub goes_on : (a b c : State) → Goes nodes root a b → Goes nodes root b c → Goes nodes root a c
  goes_on a b c g h = record {
    comes = λ x k. h.comes x (g.comes x k);
    reached = λ x m. h.reached x (g.reached x m);
    kept = λ x m. h.kept x (g.kept x m);
    bound = λ x m. elim (h.bound x m) [
      | inl n ↦ elim (g.bound x n) [ inl k ↦ inl k | inr k ↦ inr (λ t e y s. h.comes y (k t e y s)) ]
      | inr k ↦ inr k
    ];
    unbound = λ x m. elim (h.unbound x m) [
      | inl n ↦ elim (g.unbound x n) [ inl k ↦ inl k | inr k ↦ inr (λ e. h.kept x (k e)) ]
      | inr k ↦ inr k
    ];
    ends = λ z m. elim (h.ends z m) [
      | inl n ↦ elim (g.ends z n) [ inl k ↦ inl k | inr k ↦ inr (h.reached z k.0, k.1) ]
      | inr k ↦ inr k
    ];
  }

  -- a term that waits too, whose variables come
  pub covers : (a b : State) (t : Term) → Goes nodes root a b → ((x : Var) → StandsIn x (tree nodes t) → Comes nodes b x) → Goes nodes root (waiting_too t a) b
  covers a b t g h = record { comes = come; reached = g.reached; kept = g.kept; bound = g.bound; unbound = g.unbound; ends = g.ends }
    where
      come : (x : Var) → Comes nodes (waiting_too t a) x → Comes nodes b x
      come x (inl m) = g.comes x (inl m)
      come x (inr (inl s)) = h x s
      come x (inr (inr w)) = g.comes x (inr w)

  -- terms that wait in another order, or more of them
  pub waits_more : (a b : State) → a.reached ≡ b.reached → a.ends ≡ b.ends → ((x : Var) → Waits nodes a.waiting x → Waits nodes b.waiting x) → Goes nodes root a b
  waits_more a b r e h = record {
    comes = come;
    reached = λ x m. subst (IsAmong x) r m;
    kept = λ x m. subst (IsAmong x) e m;
    bound = λ x m. inl (subst (IsAmong x) (sym r) m);
    unbound = λ x m. inl (subst (IsAmong x) (sym r) m);
    ends = λ z m. inl (subst (IsAmong z) (sym e) m);
  }
    where
      come : (x : Var) → Comes nodes a x → Comes nodes b x
      come x (inl m) = inl (subst (IsAmong x) r m)
      come x (inr w) = inr (h x w)

  -- a variable that is reached: what it is bound to waits, or it is an end
  pub reaches_bound : (a b : State) (y : Var) (t : Term) → found_in root y ≡ Some t → b.reached ≡ a.reached ++ y ∷ [] → b.ends ≡ a.ends → b.waiting ≡ a.waiting ++ t ∷ [] → Goes nodes root a b
  reaches_bound a b y t e r s w = record {
    comes = come;
    reached = λ x m. subst (IsAmong x) (sym r) (among_before a.reached (y ∷ []) x m);
    kept = λ x m. subst (IsAmong x) (sym s) m;
    bound = λ x m. elim (among_or_last a.reached y x (subst (IsAmong x) r m)) [
      | inl k ↦ inl k
      | inr q ↦ inr (λ u f z k. inr (subst (λ (ts : List Term). Waits nodes ts z) (sym w) (waits_last nodes a.waiting t z (subst (λ (v : Term). StandsIn z (tree nodes v)) (one x u q f) k))))
    ];
    unbound = λ x m. elim (among_or_last a.reached y x (subst (IsAmong x) r m)) [ inl k ↦ inl k | inr q ↦ inr (λ f. absurd (bound_none x q f)) ];
    ends = λ z m. inl (subst (IsAmong z) s m);
  }
    where
      come : (x : Var) → Comes nodes a x → Comes nodes b x
      come x (inl m) = inl (subst (IsAmong x) (sym r) (among_before a.reached (y ∷ []) x m))
      come x (inr k) = inr (subst (λ (ts : List Term). Waits nodes ts x) (sym w) (waits_before nodes a.waiting (t ∷ []) x k))

      one : (x : Var) (u : Term) → x ≡ y → found_in root x ≡ Some u → u ≡ t
      one x u q f = let k : found_in root x ≡ found_in root y = ap (found_in root) q in cc

      bound_none : (x : Var) → x ≡ y → found_in root x ≡ None → ⊥
      bound_none x q f = let k : found_in root x ≡ found_in root y = ap (found_in root) q in cc

  pub reaches_end : (a b : State) (y : Var) → found_in root y ≡ None → b.reached ≡ a.reached ++ y ∷ [] → b.ends ≡ a.ends ++ y ∷ [] → b.waiting ≡ a.waiting → Goes nodes root a b
  reaches_end a b y e r s w = record {
    comes = come;
    reached = λ x m. subst (IsAmong x) (sym r) (among_before a.reached (y ∷ []) x m);
    kept = λ x m. subst (IsAmong x) (sym s) (among_before a.ends (y ∷ []) x m);
    bound = λ x m. elim (among_or_last a.reached y x (subst (IsAmong x) r m)) [ inl k ↦ inl k | inr q ↦ inr (λ u f z k. absurd (unbound_some x u q f)) ];
    unbound = λ x m. elim (among_or_last a.reached y x (subst (IsAmong x) r m)) [
      | inl k ↦ inl k
      | inr q ↦ inr (λ f. subst (IsAmong x) (sym s) (subst (λ (z : Var). IsAmong x (a.ends ++ z ∷ [])) q (among_last a.ends x)))
    ];
    ends = λ z m. elim (among_or_last a.ends y z (subst (IsAmong z) s m)) [
      | inl k ↦ inl k
      | inr q ↦ inr (subst (IsAmong z) (sym r) (subst (λ (u : Var). IsAmong z (a.reached ++ u ∷ [])) q (among_last a.reached z)), ap (found_in root) q ∙ e)
    ];
  }
    where
      come : (x : Var) → Comes nodes a x → Comes nodes b x
      come x (inl m) = inl (subst (IsAmong x) (sym r) (among_before a.reached (y ∷ []) x m))
      come x (inr k) = inr (subst (λ (ts : List Term). Waits nodes ts x) (sym w) k)

      unbound_some : (x : Var) (u : Term) → x ≡ y → found_in root x ≡ Some u → ⊥
      unbound_some x u q f = let k : found_in root x ≡ found_in root y = ap (found_in root) q in cc

-- among a list that has an equal one
pub any_among : (xs : List Var) (x : Var) → list_any (λ y. same_var y x) xs ≡ true → IsAmong x xs
any_among [] x e = cc
any_among (y ∷ xs) x e = on (same_var y x) refl e (any_among xs x)
  where
    on : (b : Bool) → same_var y x ≡ b → (b || list_any (λ z. same_var z x) xs) ≡ true → (list_any (λ z. same_var z x) xs ≡ true → IsAmong x xs) → IsAmong x (y ∷ xs)
    on true q e f = inl (sym (same_var-equal y x q))
    on false q e f = inr (f e)

-- the tree of a term by what it begins with
pub tree_free : (nodes : List Node) (t : Term) (y : Var) → seen_of nodes t ≡ Seen.Free y → tree nodes t ≡ variable y
tree_free nodes (Mol i f) y e = ap (tree_seen (tree_at i nodes f)) e
tree_free nodes (Term.Int z) y e = cc
tree_free nodes (Term.Port q) y e = cc

pub tree_int : (nodes : List Node) (t : Term) (z : ℤ) → seen_of nodes t ≡ Seen.Int z → tree nodes t ≡ integer z
tree_int nodes (Mol i f) z e = ap (tree_seen (tree_at i nodes f)) e
tree_int nodes (Term.Int y) z e = cc
tree_int nodes (Term.Port q) z e = cc

pub tree_port : (nodes : List Node) (t : Term) (q : Name) → seen_of nodes t ≡ Seen.Port q → tree nodes t ≡ port q
tree_port nodes (Mol i f) q e = ap (tree_seen (tree_at i nodes f)) e
tree_port nodes (Term.Int y) q e = cc
tree_port nodes (Term.Port r) q e = cc

-- so many neighbouring nodes wait
pub record Spreads (old new : Walk) (first count : ℕ) (frame : Name) (index : ℕ) : Type 0 where
  pub reached : new.reached.items ≡ old.reached.items
  pub ends : new.ends.items ≡ old.ends.items
  pub waits : (nodes : List Node) (x : Var) → Waits nodes old.waiting.items x → Waits nodes new.waiting.items x
  pub comes : (nodes : List Node) (k : ℕ) → k < index → (x : Var) → StandsIn x (tree nodes (Mol (first + k) frame)) → Waits nodes new.waiting.items x
  pub only : (nodes : List Node) (x : Var) → Waits nodes new.waiting.items x → Waits nodes old.waiting.items x ⊎ ((k : ℕ) × (k < index) × StandsIn x (tree nodes (Mol (first + k) frame)))
  pub long : length new.waiting.items ≡ length old.waiting.items + index
  pub left : new.left + count ≡ old.left

pub spreads_more : (old mid new : Walk) (first count : ℕ) (frame : Name) (index node : ℕ) → Spreads old mid first count frame index → node ≡ first + index → new.reached.items ≡ mid.reached.items → new.ends.items ≡ mid.ends.items
    → new.waiting.items ≡ mid.waiting.items ++ Mol node frame ∷ [] → new.left ≡ mid.left → Spreads old new first count frame (index + 1)
spreads_more old mid new first count frame index node s is r e w l = record {
  reached = r ∙ s.reached;
  ends = e ∙ s.ends;
  waits = λ nodes x k. subst (λ (ts : List Term). Waits nodes ts x) (sym w) (waits_before nodes mid.waiting.items (Mol node frame ∷ []) x (s.waits nodes x k));
  comes = come;
  only = λ nodes x h. elim (waits_or_last nodes mid.waiting.items (Mol node frame) x (subst (λ (ts : List Term). Waits nodes ts x) w h)) [
    | inl k ↦ elim (s.only nodes x k) [ inl m ↦ inl m | inr m ↦ (let l : m.0 < index = m.1 in inr (m.0, omega arith, m.2)) ]
    | inr i ↦ inr (index, omega arith, subst (λ (n : ℕ). StandsIn x (tree nodes (Mol n frame))) is i)
  ];
  long = let a : length new.waiting.items ≡ length (mid.waiting.items ++ Mol node frame ∷ []) = ap (λ (ts : List Term). length ts) w in
      let b : length (mid.waiting.items ++ Mol node frame ∷ []) ≡ length mid.waiting.items + 1 = length-append mid.waiting.items (Mol node frame ∷ []) in
      let k : length mid.waiting.items ≡ length old.waiting.items + index = s.long in
      omega arith;
  left = ap (λ (n : ℕ). n + count) l ∙ s.left;
}
  where
    come : (nodes : List Node) (k : ℕ) → k < index + 1 → (x : Var) → StandsIn x (tree nodes (Mol (first + k) frame)) → Waits nodes new.waiting.items x
    come nodes k h x i = subst (λ (ts : List Term). Waits nodes ts x) (sym w) (elim (below_or k index h) [
      | inl j ↦ waits_before nodes mid.waiting.items (Mol node frame ∷ []) x (s.comes nodes k j x i)
      | inr q ↦ waits_last nodes mid.waiting.items (Mol node frame) x (subst (λ (n : ℕ). StandsIn x (tree nodes (Mol n frame))) (ap (λ (m : ℕ). first + m) q ∙ sym is) i)
    ])
      where
        below_or : (k index : ℕ) → k < index + 1 → (k < index) ⊎ (k ≡ index)
        below_or zero zero h = inr refl
        below_or zero (suc i) h = inl (omega arith)
        below_or (suc k) zero h = absurd (omega arith)
        below_or (suc k) (suc i) h = elim (below_or k i (omega arith)) [ inl j ↦ inl (omega arith) | inr q ↦ inr (ap suc q) ]

pub spread_goes : (old new : Walk) (first count : ℕ) (frame : Name) → Spreads old new first count frame count → (nodes : List Node) (root : List (Var × Term)) → Goes nodes root (state_of old) (state_of new)
spread_goes old new first count frame s nodes root = waits_more nodes root (state_of old) (state_of new) (sym s.reached) (sym s.ends) (s.waits nodes)

pub spread_comes : (old new : Walk) (first count : ℕ) (frame : Name) → Spreads old new first count frame count → (nodes : List Node) (x : Var) → StandsAmong x (trees_from (λ k. tree nodes (Mol k frame)) first count) → Comes nodes (state_of new) x
spread_comes old new first count frame s nodes x i =
    let w : (k : ℕ) × (k < count) × StandsIn x (tree nodes (Mol (first + k) frame)) = of_one nodes (λ k. tree nodes (Mol k frame)) first count x i in
    inr (s.comes nodes w.0 w.1 x w.2)

pub spread_weight : (old new : Walk) (first count : ℕ) (frame : Name) → Spreads old new first count frame count → weight new ≤ weight old
spread_weight old new first count frame s = let a : length new.waiting.items ≡ length old.waiting.items + count = s.long in let b : new.left + count ≡ old.left = s.left in omega arith

-- two facts of one result
pub both_ok : {A E : Type 0} (r : Result A E) (P Q R : A → Type 0) → IfOk r P → IfOk r Q → ((a : A) → P a → Q a → R a) → IfOk r R
both_ok (Ok a) P Q R p q f = f a p q
both_ok (Err e) P Q R p q f = tt

-- a term of neighbouring nodes, where these wait
pub struct_stands : (nodes : List Node) → IsArranged nodes → (t : Term) (s first count : ℕ) (frame : Name) → seen_of nodes t ≡ Seen.Struct s first count frame → (x : Var) → StandsIn x (tree nodes t) → StandsAmong x (trees_from (λ k. tree nodes (Mol k frame)) first count)
struct_stands nodes arranged t s first count frame e x i = subst (StandsIn x) (tree-struct nodes arranged t s first count frame e) i

pub stands_struct : (nodes : List Node) → IsArranged nodes → (t : Term) (s first count : ℕ) (frame : Name) → seen_of nodes t ≡ Seen.Struct s first count frame → (x : Var) → StandsAmong x (trees_from (λ k. tree nodes (Mol k frame)) first count) → StandsIn x (tree nodes t)
stands_struct nodes arranged t s first count frame e x i = subst (StandsIn x) (sym (tree-struct nodes arranged t s first count frame e)) i

-- a term that was taken from those that wait
pub taken : (nodes : List Node) (root : List (Var × Term)) (a mid : State) (t : Term) → mid.reached ≡ a.reached → mid.ends ≡ a.ends → a.waiting ≡ mid.waiting ++ t ∷ [] → Goes nodes root a (waiting_too t mid)
taken nodes root a mid t r e w = waits_more nodes root a (waiting_too t mid) (sym r) (sym e) (λ x k. elim (waits_or_last nodes mid.waiting t x (subst (λ (ts : List Term). Waits nodes ts x) w k)) [ inl j ↦ inr j | inr s ↦ inl s ])

-- each of these bindings is of a variable that was reached, and leads to variables that come
abbrev pub AreComing : List Node → State → List (Var × Term) → Type 0
AreComing nodes a bs = AllByRecursion (λ (b : Var × Term). IsAmong b.0 a.reached × ((y : Var) → StandsIn y (tree nodes b.1) → Comes nodes a y)) bs

pub coming_on : (nodes : List Node) (root : List (Var × Term)) (a b : State) → Goes nodes root a b → (bs : List (Var × Term)) → AreComing nodes a bs → AreComing nodes b bs
coming_on nodes root a b g [] h = tt
coming_on nodes root a b g (x ∷ bs) h = ((g.reached x.0 h.0.0, λ y s. g.comes y (h.0.1 y s)), coming_on nodes root a b g bs h.1)

pub coming_more : (nodes : List Node) (a : State) (bs : List (Var × Term)) (i : ℕ) (d : Var × Term) → i < length bs → AreComing nodes a (take i bs) → IsAmong (get_or bs i d).0 a.reached
    → ((y : Var) → StandsIn y (tree nodes (get_or bs i d).1) → Comes nodes a y) → AreComing nodes a (take (suc i) bs)
coming_more nodes a [] i d l h m c = absurd (omega arith)
coming_more nodes a (b ∷ bs) zero d l h m c = ((m, c), tt)
coming_more nodes a (b ∷ bs) (suc i) d l h m c = (h.0, coming_more nodes a bs i d (omega arith) h.1 m c)

take_all : (bs : List (Var × Term)) (n : ℕ) → length bs ≤ n → take n bs ≡ bs
take_all [] zero h = refl
take_all [] (suc n) h = refl
take_all (b ∷ bs) zero h = absurd (omega arith)
take_all (b ∷ bs) (suc n) h = ap (λ (l : List (Var × Term)). b ∷ l) (take_all bs n (omega arith))

-- where nothing waits, they are over what was reached
pub coming_over : (nodes : List Node) (a : State) → a.waiting ≡ [] → (bs : List (Var × Term)) → AreComing nodes a bs → AreBoundOver nodes a.reached bs
coming_over nodes a w [] h = tt
coming_over nodes a w (b ∷ bs) h = ((h.0.0, over_each (λ x. IsAmong x a.reached) (tree nodes b.1) (λ y s. come y (h.0.1 y s))), coming_over nodes a w bs h.1)
  where
    come : (y : Var) → Comes nodes a y → IsAmong y a.reached
    come y (inl m) = m
    come y (inr k) = absurd (subst (λ (ts : List Term). Waits nodes ts y) w k)

pub all_coming : (nodes : List Node) (a : State) (bs cs : List (Var × Term)) (n : ℕ) → bs ≡ cs → length bs ≤ n → AreComing nodes a (take n bs) → AreComing nodes a cs
all_coming nodes a bs cs n e l h = subst (AreComing nodes a) (take_all bs n l ∙ e) h

-- over more variables
module _ (xs ys : List Var) (f : (x : Var) → IsAmong x xs → IsAmong x ys) where
  mutual
    tree_more : (t : Tree) → IsOver (λ x. IsAmong x xs) t → IsOver (λ x. IsAmong x ys) t
    tree_more (variable x) m = f x m
    tree_more (integer z) m = tt
    tree_more (port p) m = tt
    tree_more (symbol g ts) m = trees_more ts m

    trees_more : (ts : Trees) → AreOver (λ x. IsAmong x xs) ts → AreOver (λ x. IsAmong x ys) ts
    trees_more none m = tt
    trees_more (more t ts) m = (tree_more t m.0, trees_more ts m.1)

over_more : (nodes : List Node) (xs ys : List Var) → ((x : Var) → IsAmong x xs → IsAmong x ys) → (bs : List (Var × Term)) → AreBoundOver nodes xs bs → AreBoundOver nodes ys bs
over_more nodes xs ys f [] h = tt
over_more nodes xs ys f (b ∷ bs) h = ((f b.0 h.0.0, tree_more xs ys f (tree nodes b.1) h.0.1), over_more nodes xs ys f bs h.1)

pub stores_more : (nodes : List Node) (xs ys : List Var) → ((x : Var) → IsAmong x xs → IsAmong x ys) → (ss : List Stored) → AllByRecursion (λ (s : Stored). AreBoundOver nodes xs s.bindings) ss
    → AllByRecursion (λ (s : Stored). AreBoundOver nodes ys s.bindings) ss
stores_more nodes xs ys f [] h = tt
stores_more nodes xs ys f (s ∷ ss) h = (over_more nodes xs ys f s.bindings h.0, stores_more nodes xs ys f ss h.1)

pub stores_next : (nodes : List Node) (xs : List Var) (ss : List Stored) (i : ℕ) (d : Stored) → i < length ss → AllByRecursion (λ (s : Stored). AreBoundOver nodes xs s.bindings) (take i ss) → AreBoundOver nodes xs (get_or ss i d).bindings
    → AllByRecursion (λ (s : Stored). AreBoundOver nodes xs s.bindings) (take (suc i) ss)
stores_next nodes xs [] i d l h m = absurd (omega arith)
stores_next nodes xs (s ∷ ss) zero d l h m = (m, tt)
stores_next nodes xs (s ∷ ss) (suc i) d l h m = (h.0, stores_next nodes xs ss i d (omega arith) h.1 m)

take_stores : (ss : List Stored) (n : ℕ) → length ss ≤ n → take n ss ≡ ss
take_stores [] zero h = refl
take_stores [] (suc n) h = refl
take_stores (s ∷ ss) zero h = absurd (omega arith)
take_stores (s ∷ ss) (suc n) h = ap (λ (l : List Stored). s ∷ l) (take_stores ss n (omega arith))

-- a walk from nowhere that has nothing left, over all stores
pub reached_all : (nodes : List Node) (root : Stored) (inner : List Stored) (start a : State) (n : ℕ) → start.reached ≡ [] → start.ends ≡ [] → start.waiting ≡ [] → Goes nodes root.bindings start a
    → ComesFrom nodes root.bindings (StandsInStores nodes inner) start a → a.waiting ≡ [] → length inner ≤ n → AllByRecursion (λ (s : Stored). AreBoundOver nodes a.reached s.bindings) (take n inner) → AreReached nodes root inner a.ends
reached_all nodes root inner start a n r e v g f w l h = record {
  reached = a.reached;
  bound = subst (AllByRecursion (λ (s : Stored). AreBoundOver nodes a.reached s.bindings)) (take_stores inner n l) h;
  closed = λ x m t f. over_each (λ y. IsAmong y a.reached) (tree nodes t) (λ y s. elim (g.bound x m) [
    | inl k ↦ absurd (subst (IsAmong x) r k)
    | inr k ↦ come y (k t f y s)
  ]);
  ended = λ x m f. elim (g.unbound x m) [ inl k ↦ absurd (subst (IsAmong x) r k) | inr k ↦ k f ];
  unbound = unbound;
  led = λ z m. led z (f z (inl (unbound z m).0));
}
  where
    come : (y : Var) → Comes nodes a y → IsAmong y a.reached
    come y (inl m) = m
    come y (inr k) = absurd (subst (λ (ts : List Term). Waits nodes ts y) w k)

    unbound : (z : Var) → IsAmong z a.ends → IsAmong z a.reached × (found_in root.bindings z ≡ None)
    unbound z m = elim (g.ends z m) [ inl k ↦ absurd (subst (IsAmong z) e k) | inr k ↦ k ]

    nowhere : (x : Var) → Comes nodes start x → ⊥
    nowhere x (inl m) = subst (IsAmong x) r m
    nowhere x (inr k) = subst (λ (ts : List Term). Waits nodes ts x) v k

    led : (z : Var) → (x : Var) × (Comes nodes start x ⊎ StandsInStores nodes inner x) × LeadsTo nodes root.bindings x z → IsLedTo nodes (root ∷ inner) z
    led z k = (k.0, elim k.1 [ inl m ↦ absurd (nowhere k.0 m) | inr s ↦ s ], k.2)
