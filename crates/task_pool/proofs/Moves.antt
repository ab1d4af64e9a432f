-- A hand after a call of `take`: its owner has counted the call, and its ways have moved on.
use Rattle.std.proofs.Common.{◌≡◌, ◌≢◌, ℕ, zero, suc, ◌+◌, ◌<◌, List, [], ◌∷◌, map, slice_get, Some, Option, None, IfNone, All, length, ap, sym, ◌∙◌, subst, refl, arith}
use Rattle.std.proofs.lemmas.List.{with_items_is, length-map}
use Rattle.std.proofs.lemmas.Option.{none-some}
use Rattle.std.specs.Global.{Global}
use Rattle.std.specs.Vec.{with_items}
use Rattle.crossbeam_deque.specs.declared.handles.Worker.{Worker}
use Rattle.crossbeam_deque.specs.Handles.{worker_deque, worker_view, worker_index, SameWorker}
use Rattle.task_pool.specs.declared.hand.Hand.TheInside.{Inside}
use Rattle.task_pool.specs.declared.view.View.{View}
use Rattle.task_pool.specs.declared.way.Way.{Way}
use Rattle.task_pool.specs.Hands.{standing_of, IsHand}
use Rattle.task_pool.specs.Looks.{OwnSeenEmpty, HasTaken, HasFoundNone}
use Rattle.task_pool.specs.Places.{Standing, DequeId}
use Rattle.task_pool.specs.Steps.{OwnerSaw, SeenEmpty}
use Rattle.task_pool.specs.Views.{of_owner, of_hand, one_call}
use Rattle.task_pool.specs.Ways.{deque_of, view_of, taken_through, IsWayOf, appended}
use Rattle.task_pool.proofs.Keeps.{all_first, all_rest}

pub if_none : {X : Type 0} (o : Option X) {P Q : Type 0} → (P → Q) → IfNone o P → IfNone o Q
if_none None f h = f h
if_none (Some x) f h = h

pub if_none_both : {X : Type 0} (o : Option X) {P Q R : Type 0} → (P → Q → R) → IfNone o P → IfNone o Q → IfNone o R
if_none_both None f h k = f h k
if_none_both (Some x) f h k = h

-- what holds of each way's view holds of the hand's view by what it took there
pub each_view : {P : Type 0} (Q : ℕ → View → Type 0) (number : ℕ) (ws : List (Way P)) → All (IsWayOf number) ws → ((k : ℕ) (v : View) → slice_get (map view_of ws) k ≡ Some v → Q k v)
    → (k : ℕ) (taken : List ℕ) → slice_get (map taken_through ws) k ≡ Some taken → Q k (of_hand number taken)
each_view Q number [] ways h k taken at = absurd (none-some taken at)
each_view Q number (w ∷ ws) ways h zero taken at =
    let same : taken_through w ≡ taken = cc in
    subst (Q zero) ((all_first (IsWayOf number) w ws ways).2 ∙ ap (of_hand number) same) (h zero (view_of w) refl)
each_view Q number (w ∷ ws) ways h (suc k) taken at =
    each_view (λ j. Q (suc j)) number ws (all_rest (IsWayOf number) w ws ways) (λ j v. h (suc j) v) k taken at

module _ {P : Type 0} (h : Inside P) (d : Worker ℕ Global View P) (ws : List (Way P)) (full : length ws ≡ h.ways.len) (same : map deque_of ws ≡ map deque_of h.ways.items) (worker : SameWorker h.deque d)
    (call : worker_view d ≡ one_call (worker_view h.deque)) where
  abbrev pub moved : Inside P
  moved = record { number = h.number; deque = d; ways = with_items h.ways ws; room = h.room; pushes = h.pushes }

  all_moved : (with_items h.ways ws).items ≡ ws
  all_moved = with_items_is h.ways ws full

  same_deques : map deque_of (with_items h.ways ws).items ≡ map deque_of h.ways.items
  same_deques = ap (map deque_of) all_moved ∙ same

  calls : (worker_view d).calls ≡ (worker_view h.deque).calls + 1
  calls = ap (λ (v : View). v.calls) call

  pushed : (worker_view d).pushed ≡ (worker_view h.deque).pushed
  pushed = ap (λ (v : View). v.pushed) call

  pub keeps : worker_index d ≡ worker_index h.deque → All (IsWayOf h.number) ws → IsHand h → IsHand moved
  keeps at ways hand =
      let calls' = sym calls in
      let pushed' = sym pushed in record {
        own = subst (λ (ds : List DequeId). slice_get ds h.number ≡ Some (worker_deque d)) (sym same_deques) (hand.own ∙ ap (λ (id : DequeId). Some id) (sym worker.0));
        fifo = worker.1 ∙ hand.fifo;
        port = worker.2 ∙ hand.port;
        owner = call ∙ ap one_call hand.owner ∙ (λ i. of_owner (calls' i) (pushed' i) h.ways.len);
        ways = subst (All (IsWayOf h.number)) (sym all_moved) ways;
        pushes = hand.pushes ∙ ap (λ l. length l) pushed';
        index = (let i = hand.index in omega arith);
        room = (let r = hand.room in let c = worker.3 in omega arith);
        some_room = hand.some_room;
      }

  stands : (taken : List (List ℕ)) → map taken_through ws ≡ taken → standing_of moved ≡ record (standing_of h) { calls = (standing_of h).calls + 1; taken = taken }
  stands taken e =
      let t = ap (map taken_through) all_moved ∙ e in
      λ i. record { place = record { pool = same_deques i; number = h.number }; room = h.room; calls = calls i; pushed = pushed i; taken = t i }

  saw : (holds : List ℕ → List View → Type 0) → IsHand moved → OwnerSaw holds (worker_view d) [] → OwnSeenEmpty holds (standing_of moved)
  saw holds hand own =
      let ways = with_items h.ways ws in
      let count : ways.len ≡ length (map taken_through ways.items) = ways.ok.0 ∙ sym (length-map ways.items taken_through) in
      subst (λ (v : View). OwnerSaw holds v []) (hand.owner ∙ ap (of_owner (worker_view d).calls (worker_view d).pushed) count) own

  pub took : (holds : List ℕ → List View → Type 0) → IsHand moved → (now : Standing) → standing_of h ≡ now → (k token : ℕ) → k < length h.ways.items
      → map taken_through ws ≡ appended k token (map taken_through h.ways.items) → (k ≢ h.number → OwnerSaw holds (worker_view d) []) → HasTaken holds k token now (standing_of moved)
  took holds hand now is k token l e own =
      let n : length now.taken ≡ length h.ways.items = ap (λ (s : Standing). length s.taken) (sym is) ∙ length-map h.ways.items taken_through in
      let number : now.place.number ≡ h.number = ap (λ (s : Standing). s.place.number) (sym is) in
      record {
        within = omega arith;
        now_is = stands (appended k token (map taken_through h.ways.items)) e ∙ ap (λ (s : Standing). record s { calls = s.calls + 1; taken = appended k token s.taken }) is;
        own_first = λ other. saw holds hand (own (λ s. other (s ∙ sym number)));
      }

  pub found_none : (holds : List ℕ → List View → Type 0) → IsHand h → IsHand moved → (now : Standing) → standing_of h ≡ now → map taken_through ws ≡ map taken_through h.ways.items
      → OwnerSaw holds (worker_view d) [] → ((k : ℕ) (v : View) → k ≢ h.number → slice_get (map view_of h.ways.items) k ≡ Some v → SeenEmpty holds v) → HasFoundNone holds now (standing_of moved)
  found_none holds was hand now is e own others = record {
    now_is = stands (map taken_through h.ways.items) e ∙ ap (λ (s : Standing). record s { calls = s.calls + 1 }) is;
    own = saw holds hand own;
    others = λ k taken other at.
        each_view (λ j v. j ≢ h.number → SeenEmpty holds v) h.number h.ways.items was.ways (λ j v here apart. others j v apart here) k taken
        (ap (λ ts. slice_get ts k) (sym (ap (map taken_through) all_moved ∙ e)) ∙ at) other;
  }

  pub same_place : (now : Standing) → standing_of h ≡ now → (standing_of moved).place ≡ now.place
  same_place now is = ap (λ ds. record { pool = ds; number = h.number }) same_deques ∙ ap (λ (s : Standing). s.place) is
