-- A deque and the ways of its hand make a hand.
use Rattle.std.proofs.Common.{◌≡◌, ℕ, zero, suc, ◌+◌, List, [], ◌∷◌, ◌++◌, length, replicate, slice_get, Some, All, Vec, refl, ap, sym, ◌∙◌, subst, arith}
use Rattle.std.proofs.lemmas.List.{length-map}
use Rattle.std.proofs.lemmas.Option.{none-some}
use Rattle.std.specs.Global.{Global}
use Rattle.std.specs.Vec.Iter.{into_iter_items, into_iter_len}
use Rattle.std.specs.declared.vec.IntoIter.{IntoIter}
use Rattle.crossbeam_deque.specs.declared.handles.Worker.{Worker}
use Rattle.crossbeam_deque.specs.Handles.{worker_deque, worker_view}
use Rattle.task_pool.specs.declared.hand.Hand.TheInside.{Inside}
use Rattle.task_pool.specs.declared.view.View.{View}
use Rattle.task_pool.specs.declared.way.Way.{Way}
use Rattle.task_pool.specs.Hands.{standing_of, IsHand}
use Rattle.task_pool.proofs.Keeps.{all_first, all_rest}
use Rattle.task_pool.specs.Owners.{IsFresh, AreFreshWays}
use Rattle.task_pool.specs.Places.{DequeId, first_room, places_from}
use Rattle.task_pool.specs.Views.{of_owner}
use Rattle.task_pool.specs.Ways.{deque_of}

pub at_seam : {X : Type 0} (xs : List X) (y : X) (ys zs : List X) → xs ++ y ∷ ys ≡ zs → slice_get zs (length xs) ≡ Some y
at_seam xs y ys zs e = ap (λ l. slice_get l (length xs)) (sym e) ∙ at xs
  where
    at : (ws : List _) → slice_get (ws ++ y ∷ ys) (length ws) ≡ Some y
    at [] = refl
    at (w ∷ ws) = at ws

pub all_at : {X : Type 0} (P : X → Type 0) (xs : List X) (k : ℕ) (x : X) → All P xs → slice_get xs k ≡ Some x → P x
all_at P [] k x h e = absurd (none-some x e)
all_at P (y ∷ ys) zero x h e = let s : y ≡ x = cc in subst P s (all_first P y ys h)
all_at P (y ∷ ys) (suc k) x h e = all_at P ys k x (all_rest P y ys h) e

pub places_snoc : (pool : List DequeId) (m n : ℕ) → places_from pool m (n + 1) ≡ places_from pool m n ++ record { pool = pool; number = m + n } ∷ []
places_snoc pool m zero = let z : m ≡ m + 0 = omega arith in ap (λ (k : ℕ). record { pool = pool; number = k } ∷ []) z
places_snoc pool m (suc n) =
    let z : (m + 1) + n ≡ m + suc n = omega arith in
    let one : suc n + 1 ≡ suc (n + 1) = omega arith in
    ap (λ (k : ℕ). places_from pool m k) one
    ∙ ap (λ ps. record { pool = pool; number = m } ∷ ps) (places_snoc pool (m + 1) n ∙ ap (λ (k : ℕ). places_from pool (m + 1) n ++ record { pool = pool; number = k } ∷ []) z)

no_length : {X : Type 0} (xs : List X) → 0 ≡ length xs → xs ≡ []
no_length [] h = refl
no_length (x ∷ xs) h = absurd (omega arith)

pub none_to_come : {X : Type 0} (it : IntoIter X Global) → into_iter_len it ≡ 0 → into_iter_items it ≡ []
none_to_come it e = no_length (into_iter_items it) (sym e ∙ it.rest.ok.0)

-- what holds of each element at its place holds with one more at the end
pub one_more_at : {X : Type 0} (Q : ℕ → X → Type 0) (xs : List X) (y : X) → ((k : ℕ) (x : X) → slice_get xs k ≡ Some x → Q k x) → Q (length xs) y → (k : ℕ) (x : X) → slice_get (xs ++ y ∷ []) k ≡ Some x → Q k x
one_more_at Q [] y h q zero x e = let s : y ≡ x = cc in subst (Q zero) s q
one_more_at Q [] y h q (suc k) x e = absurd (none-some x e)
one_more_at Q (z ∷ zs) y h q zero x e = h zero x e
one_more_at Q (z ∷ zs) y h q (suc k) x e = one_more_at (λ j. Q (suc j)) zs y (λ j. h (suc j)) q k x e

module _ {P : Type 0} (d : Worker ℕ Global View P) (ways : Vec (Way P) Global) (ids : List DequeId) (number room : ℕ) where
  abbrev pub begun : Inside P
  begun = record { number = number; deque = d; ways = ways; room = room; pushes = 0 }

  pub is_hand : IsFresh (length ids) d → slice_get ids number ≡ Some (worker_deque d) → AreFreshWays number ids ways.items → room ≡ first_room → IsHand begun
  is_hand fresh at row is =
      let count : length ids ≡ ways.len = ap (λ l. length l) (sym row.into) ∙ length-map ways.items deque_of ∙ sym ways.ok.0 in
      let view : worker_view d ≡ of_owner 0 [] ways.len = fresh.owned.view ∙ ap (of_owner 0 []) count in
      let pushed : (worker_view d).pushed ≡ [] = ap (λ (v : View). v.pushed) view in
      let pushed' : [] ≡ (worker_view d).pushed = sym pushed in
      let calls : 0 ≡ (worker_view d).calls = sym (ap (λ (v : View). v.calls) view) in
      let index = fresh.index in
      let capacity = fresh.capacity in
      record {
        own = subst (λ (l : List DequeId). slice_get l number ≡ Some (worker_deque d)) (sym row.into) at;
        fifo = fresh.owned.fifo;
        port = fresh.owned.port;
        owner = view ∙ (λ i. of_owner (calls i) (pushed' i) ways.len);
        ways = row.of_hand;
        pushes = sym (ap (λ l. length l) pushed);
        index = omega arith;
        room = omega arith;
        some_room = omega arith;
      }

  pub begins_at : AreFreshWays number ids ways.items → (standing_of begun).place ≡ record { pool = ids; number = number }
  begins_at row = ap (λ l. record { pool = l; number = number }) row.into

  pub begins_empty : IsFresh (length ids) d → AreFreshWays number ids ways.items → ((standing_of begun).calls ≡ 0) × ((standing_of begun).pushed ≡ []) × ((standing_of begun).taken ≡ replicate (length ids) [])
  begins_empty fresh row = (ap (λ (v : View). v.calls) fresh.owned.view, ap (λ (v : View). v.pushed) fresh.owned.view, row.empty)
