-- What a way's steps tell.
use Rattle.std.proofs.Common.{◌≡◌, ℕ, List, [], ◌∷◌, ◌++◌, ap, sym, ◌∙◌, arith}
use Rattle.crossbeam_deque.specs.Tasks.{FindsFew}
use Rattle.task_pool.specs.declared.view.View.{View}
use Rattle.task_pool.specs.Steps.{SeenEmpty}
use Rattle.task_pool.specs.Views.{of_hand, taken_of, after_take}

pub finds : (holds : List ℕ → List View → Type 0) (most port : ℕ) (v : View) → most ≡ 0 → FindsFew holds most port v (SeenEmpty holds v)
finds holds most port v none [] views few h at = (views, port, h, at)
finds holds most port v none (x ∷ xs) views few h at = absurd (omega arith)

-- a hand's view after it took tokens is the hand's, with these at the end
pub took : (number : ℕ) (v w : View) (ts : List ℕ) → v ≡ of_hand number (taken_of v) → w ≡ after_take v ts → (w ≡ of_hand number (taken_of w)) × (taken_of w ≡ taken_of v ++ ts)
took number v w ts mine is =
    let e : w ≡ of_hand number (taken_of v ++ ts) = is ∙ ap (λ u. after_take u ts) mine in
    (e ∙ ap (of_hand number) (sym (ap taken_of e)), ap taken_of e)
