-- What contracts say of a pass, a turn and a lock.
use Rattle.std.specs.Prelude.{◌≡◌}
use Rattle.turn_lock.specs.declared.booked.Booked.{Ghosts}
use Rattle.turn_lock.specs.declared.lock.TurnLock.{TurnLock}
use Rattle.turn_lock.specs.declared.lock.Pass.{Pass}
use Rattle.turn_lock.specs.declared.lock.Turn.{Turn}
use Rattle.turn_lock.specs.declared.view.View.{View}
use Rattle.turn_lock.specs.declared.view.Stage.TheVariants.{Idle, Serving}
use Rattle.turn_lock.specs.Known.{standing_of}

-- the fixed part of the value that the lock was made with
abbrev pub fixed_part : {T F E : Type 0} → (T → F) → TurnLock T F E → F
fixed_part fixed l = fixed l.table.shared.key.value

module _ {T F E : Type 0} {booked : Ghosts T F E} where
  -- what the pass knows
  abbrev pub view : Pass T F E booked → View F E
  view p = (standing_of p.seat.me p.whole).view

  abbrev pub HasNoTurn : Pass T F E booked → Type 0
  HasNoTurn p = (standing_of p.seat.me p.whole).stage ≡ Idle

  -- the pass has the turn: there is but one, so a turn carries nothing that tells whose it is
  abbrev pub HasTurn : Pass T F E booked → Turn → Type 0
  HasTurn p _ = (standing_of p.seat.me p.whole).stage ≡ Serving

  -- the pass is one of this lock, and knows its fixed part
  abbrev pub IsPassOf : TurnLock T F E → Pass T F E booked → Type 0
  IsPassOf l p = (p.seat.table_id ≡ l.table.shared.table_id) × ((view p).fixed ≡ fixed_part booked.fixed l)
