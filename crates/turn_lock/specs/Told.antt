-- What each step of the lock tells. A number is what the step found in its word.
use Rattle.std.specs.Prelude.{◌≡◌, ◌≢◌, ℕ, ◌+◌, [], ◌∷◌, List, Option, Some, None}
use Rattle.atomic_table.specs.Table.{Step}
use Rattle.turn_lock.specs.declared.view.Standing.{Standing}
use Rattle.turn_lock.specs.declared.view.Stage.TheVariants.{Idle, Serving}
use Rattle.turn_lock.specs.Histories.{GoesOnWithout}
use Rattle.turn_lock.specs.Known.{Held, idle, shown}
use Rattle.turn_lock.specs.Views.{newcomer, with_joined}

module _ {T F E : Type 0} where
  -- the pass has the value y, whose history begins with what it had seen and goes on with nothing of its own
  abbrev pub Took : (T → F) → (T → List E) → (E → ℕ) → Standing F E → T → Held T F E → Type 0
  Took fixed history maker s y m = (fixed y ≡ s.view.fixed) × GoesOnWithout maker s.view.number s.view.seen (history y) × (m ≡ (Some (shown s (history y) Serving), (0, Some y) ∷ []))

  -- where 0 was found, a pass without a turn takes the value
  abbrev pub Tried : (T → F) → (T → List E) → (E → ℕ) → Held T F E → ℕ → Held T F E → Type 0
  Tried fixed history maker m found m' = (s : Standing F E) → m ≡ (Some s, []) → s.stage ≡ Idle → (found ≢ 0 → m' ≡ m) × (found ≡ 0 → (y : T) × Took fixed history maker s y m')

  -- the pass puts the value y back, whose history it has then seen
  abbrev pub left : (T → List E) → Step (Option T) → Held T F E → ℕ → Held T F E → Type 0
  left history step m found m' = (s : Standing F E) (y : T) → m ≡ (Some s, (0, Some y) ∷ []) → m' ≡ (Some (shown s (history y) Idle), [])

module _ {F E : Type 0} where
  -- the first pass after another was split from it
  abbrev pub split_from : Option (Standing F E) → Option (Standing F E)
  split_from None = None
  split_from (Some s) = Some (record s { view = record s.view { split_count = s.view.split_count + 1 } })

  -- the pass that was split from it
  abbrev pub newly_split : Option (Standing F E) → Option (Standing F E)
  newly_split None = None
  newly_split (Some s) = Some (idle (newcomer (s.view.split_count + 1) s.view.fixed s.view.seen))

  -- the first pass after another was joined to it
  abbrev pub merged : Option (Standing F E) → Option (Standing F E) → Option (Standing F E)
  merged (Some s) (Some t) = Some (record s { view = with_joined s.view t.view })
  merged v w = v
