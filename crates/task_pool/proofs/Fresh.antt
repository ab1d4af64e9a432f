-- A new deque. A deque from which one more pass was made, and the way with that pass.
use Rattle.std.proofs.Common.{◌≡◌, ℕ, zero, suc, ◌+◌, ◌/◌, ◌^◌, ◌<◌, ◌≤◌, [], refl, ap, sym, ◌∙◌, subst, arith}
use Rattle.std.specs.Global.{Global}
use Rattle.std.specs.Int.{IsNextPowerOfTwo}
use Rattle.crossbeam_deque.specs.declared.handles.Worker.{Worker}
use Rattle.crossbeam_deque.specs.Handles.{worker_deque, worker_view, worker_capacity, worker_index, worker_flavor, worker_port, stealer_deque, stealer_flavor, view, IsPassOf, SameWorker}
use Rattle.task_pool.specs.declared.view.View.{View}
use Rattle.task_pool.specs.declared.way.Way.{Way}
use Rattle.task_pool.specs.Owners.{IsFresh}
use Rattle.task_pool.specs.Places.{first_room}
use Rattle.task_pool.specs.Views.{newcomer, of_next, one_more, of_hand, taken_of}
use Rattle.task_pool.specs.Ways.{IsWayOf}

positive : (k : ℕ) → 0 < 2 ^ k
positive zero = omega arith
positive (suc k) = let h = positive k in omega arith

power : (k : ℕ) → first_room ≤ 2 ^ k → 2 ^ k / 2 < first_room → 2 ^ k ≡ first_room
power zero low high = absurd (omega arith)
power (suc zero) low high = absurd (omega arith)
power (suc (suc zero)) low high = absurd (omega arith)
power (suc (suc (suc zero))) low high = absurd (omega arith)
power (suc (suc (suc (suc zero)))) low high = absurd (omega arith)
power (suc (suc (suc (suc (suc zero))))) low high = absurd (omega arith)
power (suc (suc (suc (suc (suc (suc zero)))))) low high = refl
power (suc (suc (suc (suc (suc (suc (suc k))))))) low high =
    let some : 0 < 2 ^ k = positive k in
    absurd (omega arith)

-- the capacity that was asked for is a power of two, and so that of the deque
pub made_with : (capacity : ℕ) → IsNextPowerOfTwo first_room capacity → capacity ≡ first_room
made_with capacity next =
    let is = next.0.1 in
    is ∙ power next.0.0 (subst (λ (n : ℕ). first_room ≤ n) is next.1) (subst (λ (n : ℕ). n / 2 < first_room) is next.2)

module _ {P : Type 0} where
  pub new_deque : (d : Worker ℕ Global View P) → worker_flavor d ≡ 0 → worker_port d ≡ 0 → worker_index d ≡ 0 → worker_view d ≡ newcomer → worker_capacity d ≡ first_room → IsFresh 0 d
  new_deque d fifo port index is capacity = record {
    owned = record { fifo = fifo; port = port; view = is };
    index = index;
    capacity = omega arith;
  }

  pub fresh_after : (n : ℕ) (d e : Worker ℕ Global View P) → IsFresh n d → SameWorker d e → worker_index e ≡ worker_index d → worker_view e ≡ one_more (worker_view d) → IsFresh (n + 1) e
  fresh_after n d e fresh same index is = record {
    owned = record { fifo = same.1 ∙ fresh.owned.fifo; port = same.2 ∙ fresh.owned.port; view = is ∙ ap one_more fresh.owned.view };
    index = index ∙ fresh.index;
    capacity = let c = fresh.capacity in let s = same.3 in omega arith;
  }

  pub new_way : (n : ℕ) (d : Worker ℕ Global View P) (w : Way P) → IsFresh n d → stealer_deque w.stealer ≡ worker_deque d → stealer_flavor w.stealer ≡ worker_flavor d → IsPassOf (worker_deque d) w.pass → view w.pass ≡ of_next (worker_view d) → IsWayOf n w
  new_way n d w fresh into flavor pass is =
      let e : view w.pass ≡ of_hand n [] = is ∙ ap of_next fresh.owned.view in (
        subst (λ (id : (ℕ × ℕ) × Global). IsPassOf id w.pass) (sym into) pass,
        flavor ∙ fresh.owned.fifo,
        e ∙ ap (of_hand n) (sym (ap taken_of e)),
      )
