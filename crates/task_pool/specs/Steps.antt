-- What a rule has to keep, and what a look at a deque tells.
use Rattle.std.specs.Prelude.{◌≡◌, ℕ, List, [], ◌∷◌}
use mathlib.Core.Option.{some}
use lib.ListN.{get_elem?}
use Rattle.crossbeam_deque.specs.Tasks.{Pushes, Takes, Forks}
use Rattle.task_pool.specs.declared.view.Account.{Account}
use Rattle.task_pool.specs.declared.view.View.{View}
use Rattle.task_pool.specs.Views.{after_push, after_take, one_call, spent}

module _ (holds : List ℕ → List View → Type 0) where
  -- the owner, whose port is 0, may push
  abbrev pub PushesKeep : Type 0
  PushesKeep = (v : View) (tokens : List ℕ) → Pushes holds 0 v tokens (λ w. w ≡ after_push v tokens)

  -- each pass that has an account may take the first token
  abbrev pub TakesKeep : Type 0
  TakesKeep =
      (port : ℕ) (v : View) (first : Account) (rest : List Account) → v.accounts ≡ first ∷ rest
      → Takes holds port v 1 (λ tokens w. w ≡ after_take v tokens)

  -- the owner may count one more call, and a pass that knows nothing comes of it
  abbrev pub CallsKeep : Type 0
  CallsKeep = (v : View) → Forks holds 0 v (one_call v) spent

  -- there was a moment at which the deque held these tokens and its owner had this view
  abbrev pub OwnerSaw : View → List ℕ → Type 0
  OwnerSaw v tokens = (views : List View) × holds tokens views × (get_elem? views 0 ≡ some v)

  -- there was a moment at which the deque was empty and a pass had this view
  abbrev pub SeenEmpty : View → Type 0
  SeenEmpty v = (views : List View) × (port : ℕ) × holds [] views × (get_elem? views port ≡ some v)
