-- What a pass knows and holds between its steps, as its seat at the table carries it.
use Rattle.std.specs.Prelude.{◌≡◌, ℕ, ◌==◌, Bool, true, false, List, [], ◌∷◌, Option, Some, None}
use Rattle.std.proofs.Common.{true≢false, sym}
use Rattle.atomic_table.specs.Table.{Me}
use Rattle.turn_lock.specs.declared.view.View.{View}
use Rattle.turn_lock.specs.declared.view.Standing.{Standing}
use Rattle.turn_lock.specs.declared.view.Stage.{Stage}
use Rattle.turn_lock.specs.declared.view.Stage.TheVariants.{Idle, Serving}
use Rattle.turn_lock.specs.Histories.{GoesOnWithout}

-- a view, `None` where the pass was joined, and the slots that are out
abbrev pub Held : Type 0 → Type 0 → Type 0 → Type 0
Held T F E = Me (Option T) (Option (Standing F E))

-- no slot is out with an idle pass, and with one whose turn it is the only slot, which is empty
abbrev pub fits_slots : {T : Type 0} → Stage → List (ℕ × Option T) → Bool
fits_slots Idle [] = true
fits_slots Serving ((place, None) ∷ []) = place == 0
fits_slots _ _ = false

module _ {F E : Type 0} where
  abbrev pub idle : View F E → Standing F E
  idle v = record { view = v; stage = Idle }

  abbrev pub shown : Standing F E → List E → Stage → Standing F E
  shown s seen stage = record { view = record s.view { seen = seen }; stage = stage }

module _ {T F E : Type 0} where
  -- what holds of a pass between two calls: it was not joined, and its slots fit its stage
  abbrev pub is_whole : Held T F E → Bool
  is_whole (None, slots) = false
  is_whole (Some s, slots) = fits_slots s.stage slots

  abbrev pub standing_of : (m : Held T F E) → is_whole m ≡ true → Standing F E
  standing_of (None, slots) whole = absurd (true≢false (sym whole))
  standing_of (Some s, slots) whole = s

  -- a seat that has no turn
  abbrev pub Idles : Held T F E → Type 0
  Idles m = (s : Standing F E) × (m ≡ (Some s, [])) × (s.stage ≡ Idle)

  -- the seat has the turn and its slot is empty, since the value y was taken out
  abbrev pub Serves : (T → F) → (T → List E) → (E → ℕ) → Held T F E → T → Held T F E → Type 0
  Serves fixed history maker old y new = (s : Standing F E) → old.0 ≡ Some s → (fixed y ≡ s.view.fixed) × GoesOnWithout maker s.view.number s.view.seen (history y) × (new ≡ (Some (shown s (history y) Serving), (0, None) ∷ []))
