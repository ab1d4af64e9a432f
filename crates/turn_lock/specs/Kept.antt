-- What holds of the lock between any two steps. No promise rests on it: the proofs keep it.
use Rattle.std.specs.Prelude.{◌≡◌, ◌≢◌, ℕ, ◌+◌, ◌≤◌, ◌⊎◌, List, [], ◌∷◌, All, length, Option, Some, None}
use mathlib.Core.Option.{Option as Place, some, none}
use lib.ListN.{get_elem?}
use Rattle.atomic_table.specs.Table.{State}
use Rattle.turn_lock.specs.declared.view.Joined.{Joined}
use Rattle.turn_lock.specs.declared.view.Standing.{Standing}
use Rattle.turn_lock.specs.declared.view.Stage.TheVariants.{Serving}
use Rattle.turn_lock.specs.Histories.{GoesOnWithout}

module _ {F E : Type 0} where
  -- the passes that were joined
  abbrev pub spent_count : List (Option (Standing F E)) → ℕ
  spent_count [] = 0
  spent_count (None ∷ vs) = spent_count vs + 1
  spent_count (Some s ∷ vs) = spent_count vs

  -- no pass but the one at this place has the turn
  abbrev pub NoneElseServed : ℕ → List (Option (Standing F E)) → Type 0
  NoneElseServed place views = (other : ℕ) (s : Standing F E) → get_elem? views other ≡ some (Some s) → s.stage ≡ Serving → other ≡ place

  abbrev pub NoneServed : List (Option (Standing F E)) → Type 0
  NoneServed views = (place : ℕ) (s : Standing F E) → get_elem? views place ≡ some (Some s) → s.stage ≢ Serving

  -- exactly one pass has the turn
  abbrev pub OneServed : List (Option (Standing F E)) → Type 0
  OneServed views = (place : ℕ) × (s : Standing F E) × (get_elem? views place ≡ some (Some s)) × (s.stage ≡ Serving) × NoneElseServed place views

module _ {F E : Type 0} (maker : E → ℕ) where
  -- a pass that was joined: every entry past what it had seen is another's
  abbrev pub JoinedFits : List E → List (Option (Standing F E)) → ℕ → List E → Type 0
  JoinedFits log views place seen = (get_elem? views place ≡ some None) × GoesOnWithout maker place seen log

  -- the first pass knows how many others there are, and has seen all that those made which were joined
  abbrev pub FirstFits : List E → List (Option (Standing F E)) → Standing F E → Type 0
  FirstFits log views s =
      (length views ≡ s.view.split_count + 1)
      × (spent_count views ≡ length s.view.joined)
      × All (λ e. maker e ≤ s.view.split_count) log
      × ((place : ℕ) → get_elem? views place ≡ some None → GoesOnWithout maker place s.view.seen log)
      × All (λ (j : Joined E). JoinedFits log views j.number j.seen) s.view.joined

module _ {F E : Type 0} (maker : E → ℕ) (start : F) where
  -- a pass that was not joined has its place's number, every entry past what it has seen is another's, and one that has the turn has seen the whole history
  abbrev pub Fits : List E → ℕ → Standing F E → Type 0
  Fits log place s = (s.view.number ≡ place) × (s.view.fixed ≡ start) × GoesOnWithout maker place s.view.seen log × (s.stage ≡ Serving → s.view.seen ≡ log)

module _ {T F E : Type 0} (fixed : T → F) (history : T → List E) (start : F) where
  -- the word is 0, the value is in the slot and no pass has the turn; or the word is another number, the slot is out and one pass has the turn
  abbrev pub Home : ℕ → List E → List (Place (Option T)) → List (Option (Standing F E)) → Type 0
  Home word log homes views =
      ((word ≡ 0) × (y : T) × (homes ≡ some (Some y) ∷ []) × NoneServed views × (history y ≡ log) × (fixed y ≡ start))
      ⊎ ((word ≢ 0) × OneServed views × (homes ≡ none ∷ []))

module _ {T F E : Type 0} (fixed : T → F) (history : T → List E) (maker : E → ℕ) (start : F) where
  -- the log is the history of the value, or what the pass that has it out has seen
  pub record Kept (s : State (Option T) (Option (Standing F E))) : Type 0 where
    pub log : List E
    pub word : ℕ
    pub words : s.words ≡ word ∷ []
    pub first : (t : Standing F E) × (get_elem? s.views 0 ≡ some (Some t))
    pub top : (t : Standing F E) → get_elem? s.views 0 ≡ some (Some t) → FirstFits maker log s.views t
    pub each : (place : ℕ) (t : Standing F E) → get_elem? s.views place ≡ some (Some t) → Fits maker start log place t
    pub home : Home fixed history start word log s.homes s.views
