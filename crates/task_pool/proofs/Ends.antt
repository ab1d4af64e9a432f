-- The hands of a pool taken apart, and what is left in each deque.
use Rattle.std.proofs.Common.{◌≡◌, ℕ, zero, suc, ◌+◌, ◌<◌, ◌≤◌, List, [], ◌∷◌, ◌++◌, length, map, drop, slice_get, Some, All, refl, ap, sym, ◌∙◌, subst, ne_eqb, ⊎_elim, arith}
use Rattle.std.proofs.lemmas.Bool.{cases_lt}
use Rattle.std.proofs.lemmas.List.{length-map}
use Rattle.std.proofs.lemmas.Option.{none-some, slice_get_within}
use Rattle.std.specs.Global.{Global}
use Rattle.crossbeam_deque.specs.declared.handles.Worker.{Worker}
use Rattle.crossbeam_deque.specs.Handles.{worker_deque, worker_view}
use Rattle.task_pool.specs.declared.hand.Hand.TheInside.{Inside}
use Rattle.task_pool.specs.declared.view.View.{View}
use Rattle.task_pool.specs.declared.way.Way.{Way}
use Rattle.task_pool.specs.Departures.{Departure, taken_by}
use Rattle.task_pool.specs.Hands.{standing_of, IsHand}
use Rattle.task_pool.proofs.Keeps.{all_first, all_rest, counted_first}
use Rattle.task_pool.specs.Kept.{IsTrueOf, count_of}
use Rattle.task_pool.specs.Owners.{IsOwned, IsNextWay, accounts_from, next_taken}
use Rattle.task_pool.specs.Places.{DequeId, Place, Standing, places_from, IsPool}
use Rattle.task_pool.specs.Views.{of_owner, account}
use Rattle.task_pool.specs.Ways.{deque_of, taken_through, IsWayOf}
use Rattle.task_pool.proofs.Gathers.{get_mapped}

pub same_some : {X : Type 0} (x y : X) → Some x ≡ Some y → x ≡ y
same_some x y e = cc

-- the parts of a hand
pub record Apart {P : Type 0} (h : Standing) (d : Worker ℕ Global View P) (ways : List (Way P)) : Type 0 where
  pub owned : IsOwned (of_owner h.calls h.pushed (length h.place.pool)) d
  pub own : slice_get h.place.pool h.place.number ≡ Some (worker_deque d)
  pub into : map deque_of ways ≡ h.place.pool
  pub of_hand : All (IsWayOf h.place.number) ways
  pub taken : map taken_through ways ≡ h.taken

module _ {P : Type 0} where
  pub apart : (i : Inside P) (h : Standing) → standing_of i ≡ h → IsHand i → Apart h i.deque i.ways.items
  apart i h is hand =
      let count : i.ways.len ≡ length (map deque_of i.ways.items) = i.ways.ok.0 ∙ sym (length-map i.ways.items deque_of) in
      subst (λ (s : Standing). Apart s i.deque i.ways.items) is
      (record {
        owned = record { fifo = hand.fifo; port = hand.port; view = hand.owner ∙ ap (of_owner (worker_view i.deque).calls (worker_view i.deque).pushed) count };
        own = hand.own;
        into = refl;
        of_hand = hand.ways;
        taken = refl;
      })

  abbrev pub Aparts : List Standing → List (Worker ℕ Global View P) → List (List (Way P)) → Type 0
  Aparts [] [] [] = Unit {0}
  Aparts [] [] (w ∷ ws) = ⊥
  Aparts [] (d ∷ ds) ws = ⊥
  Aparts (h ∷ hs) [] ws = ⊥
  Aparts (h ∷ hs) (d ∷ ds) [] = ⊥
  Aparts (h ∷ hs) (d ∷ ds) (w ∷ ws) = Apart h d w × Aparts hs ds ws

  pub aparts_more : (hs : List Standing) (ds : List (Worker ℕ Global View P)) (ws : List (List (Way P))) (h : Standing) (d : Worker ℕ Global View P) (w : List (Way P)) → Aparts hs ds ws → Apart h d w → Aparts (hs ++ h ∷ []) (ds ++ d ∷ []) (ws ++ w ∷ [])
  aparts_more [] [] [] h d w a one = (one, tt)
  aparts_more [] [] (w' ∷ ws) h d w a one = absurd a
  aparts_more [] (d' ∷ ds) ws h d w a one = absurd a
  aparts_more (h' ∷ hs) [] ws h d w a one = absurd a
  aparts_more (h' ∷ hs) (d' ∷ ds) [] h d w a one = absurd a
  aparts_more (h' ∷ hs) (d' ∷ ds) (w' ∷ ws) h d w a one = (a.0, aparts_more hs ds ws h d w a.1 one)

  pub aparts_count : (hs : List Standing) (ds : List (Worker ℕ Global View P)) (ws : List (List (Way P))) → Aparts hs ds ws → (length ds ≡ length hs) × (length ws ≡ length hs)
  aparts_count [] [] [] a = (refl, refl)
  aparts_count [] [] (w ∷ ws) a = absurd a
  aparts_count [] (d ∷ ds) ws a = absurd a
  aparts_count (h ∷ hs) [] ws a = absurd a
  aparts_count (h ∷ hs) (d ∷ ds) [] a = absurd a
  aparts_count (h ∷ hs) (d ∷ ds) (w ∷ ws) a = let r = aparts_count hs ds ws a.1 in (ap suc r.0, ap suc r.1)

  pub record ApartAt (hs : List Standing) (ds : List (Worker ℕ Global View P)) (ws : List (List (Way P))) (k : ℕ) : Type 0 where
    pub hand : Standing
    pub deque : Worker ℕ Global View P
    pub row : List (Way P)
    pub hand_at : slice_get hs k ≡ Some hand
    pub deque_at : slice_get ds k ≡ Some deque
    pub row_at : slice_get ws k ≡ Some row
    pub parts : Apart hand deque row

  pub aparts_at : (hs : List Standing) (ds : List (Worker ℕ Global View P)) (ws : List (List (Way P))) (k : ℕ) → Aparts hs ds ws → k < length hs → ApartAt hs ds ws k
  aparts_at [] ds ws k a l = absurd (omega arith)
  aparts_at (h ∷ hs) [] ws k a l = absurd a
  aparts_at (h ∷ hs) (d ∷ ds) [] k a l = absurd a
  aparts_at (h ∷ hs) (d ∷ ds) (w ∷ ws) zero a l = record { hand = h; deque = d; row = w; hand_at = refl; deque_at = refl; row_at = refl; parts = a.0 }
  aparts_at (h ∷ hs) (d ∷ ds) (w ∷ ws) (suc k) a l =
      let r = aparts_at hs ds ws k a.1 (omega arith) in
      record { hand = r.hand; deque = r.deque; row = r.row; hand_at = r.hand_at; deque_at = r.deque_at; row_at = r.row_at; parts = r.parts }

  pub next_at : (ws : List (Way P)) (j number : ℕ) (id : DequeId) → slice_get (map deque_of ws) j ≡ Some id → All (IsWayOf number) ws → IsNextWay number id (drop j ws)
  next_at [] j number id e h = absurd (none-some id e)
  next_at (w ∷ ws) zero number id e h = (w, ws, refl, all_first (IsWayOf number) w ws h, same_some (deque_of w) id e)
  next_at (w ∷ ws) (suc j) number id e h = next_at ws j number id e (all_rest (IsWayOf number) w ws h)

  pub taken_at : (ws : List (Way P)) (j : ℕ) (id : DequeId) → slice_get (map deque_of ws) j ≡ Some id → slice_get (map taken_through ws) j ≡ Some (next_taken (drop j ws))
  taken_at [] j id e = absurd (none-some id e)
  taken_at (w ∷ ws) zero id e = refl
  taken_at (w ∷ ws) (suc j) id e = taken_at ws j id e

pub places_at : (pool : List DequeId) (m n k : ℕ) (p : Place) → slice_get (places_from pool m n) k ≡ Some p → p ≡ record { pool = pool; number = m + k }
places_at pool m zero k p e = absurd (none-some p e)
places_at pool m (suc n) zero p e = let z : m ≡ m + 0 = omega arith in sym (same_some (record { pool = pool; number = m }) p e) ∙ ap (λ (i : ℕ). record { pool = pool; number = i }) z
places_at pool m (suc n) (suc k) p e = let z : (m + 1) + k ≡ m + suc k = omega arith in places_at pool (m + 1) n k p e ∙ ap (λ (i : ℕ). record { pool = pool; number = i }) z

pub places_count : (pool : List DequeId) (m n : ℕ) → length (places_from pool m n) ≡ n
places_count pool m zero = refl
places_count pool m (suc n) = ap suc (places_count pool (m + 1) n)

pub place_of : (hands : List Standing) (p : IsPool hands) (k : ℕ) (h : Standing) → slice_get hands k ≡ Some h → h.place ≡ record { pool = p.0; number = k }
place_of hands p k h e =
    let z : 0 + k ≡ k = omega arith in
    places_at p.0 0 (length p.0) k h.place (ap (λ ps. slice_get ps k) (sym p.1) ∙ get_mapped (λ (s : Standing). s.place) hands k h e) ∙ ap (λ (i : ℕ). record { pool = p.0; number = i }) z

pub pool_count : (hands : List Standing) (p : IsPool hands) → length hands ≡ length p.0
pool_count hands p = sym (length-map hands (λ (s : Standing). s.place)) ∙ ap (λ ps. length ps) p.1 ∙ places_count p.0 0 (length p.0)

count_below : (m : ℕ) (lists : List (List ℕ)) (k : ℕ) → k < m → count_of k (accounts_from m lists) ≡ 0
count_below m [] k l = refl
count_below m (x ∷ xs) k l = let h = count_below (m + 1) xs k (omega arith) in rw (ne_eqb m k (λ e. absurd (omega arith))) (omega arith)

pub count_from : (m : ℕ) (lists : List (List ℕ)) (k : ℕ) → m ≤ k → k < m + length lists → count_of k (accounts_from m lists) ≡ 1
count_from m [] k low high = absurd (omega arith)
count_from m (x ∷ xs) k low high = ⊎_elim
    (λ (h : m < k). let r = count_from (m + 1) xs k (omega arith) (omega arith) in rw (ne_eqb m k (λ e. absurd (omega arith))) (omega arith))
    (λ (h : k ≤ m). let e : m ≡ k = omega arith in let r = count_below (m + 1) xs k (omega arith) in counted_first k (account m x) (accounts_from (m + 1) xs) e ∙ ap (λ (i : ℕ). 1 + i) r)
    (cases_lt m k)

pub account_true : (gone : List Departure) (m : ℕ) (lists : List (List ℕ)) (k : ℕ) (x : List ℕ) → All (IsTrueOf gone) (accounts_from m lists) → slice_get lists k ≡ Some x → x ≡ taken_by (m + k) gone
account_true gone m [] k x h e = absurd (none-some x e)
account_true gone m (y ∷ ys) zero x h e =
    let z : m ≡ m + 0 = omega arith in
    sym (same_some y x e) ∙ all_first (IsTrueOf gone) (account m y) (accounts_from (m + 1) ys) h ∙ ap (λ (i : ℕ). taken_by i gone) z
account_true gone m (y ∷ ys) (suc k) x h e =
    let z : (m + 1) + k ≡ m + suc k = omega arith in
    account_true gone (m + 1) ys k x (all_rest (IsTrueOf gone) (account m y) (accounts_from (m + 1) ys) h) e ∙ ap (λ (i : ℕ). taken_by i gone) z

-- each hand has a list for each hand of the pool
pub full_taken : {P : Type 0} (hands : List Standing) (p : IsPool hands) (ds : List (Worker ℕ Global View P)) (rows : List (List (Way P))) → Aparts hands ds rows → (k : ℕ) (h : Standing) → slice_get hands k ≡ Some h → length h.taken ≡ length hands
full_taken hands p ds rows a k h e =
    let o = aparts_at hands ds rows k a (slice_get_within hands k h e) in
    let same : o.hand ≡ h = same_some o.hand h (sym o.hand_at ∙ e) in
    ap (λ (s : Standing). length s.taken) (sym same) ∙ ap (λ l. length l) (sym o.parts.taken) ∙ length-map o.row taken_through ∙ sym (length-map o.row deque_of)
    ∙ ap (λ l. length l) (o.parts.into ∙ ap (λ (q : Place). q.pool) (place_of hands p k o.hand o.hand_at)) ∙ sym (pool_count hands p)
