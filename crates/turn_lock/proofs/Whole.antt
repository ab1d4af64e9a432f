-- What a pass knows and holds between two calls.
use Rattle.std.proofs.Common.{◌≡◌, ℕ, true, true≢false, List, [], ◌∷◌, Some, None, Option, sym, refl, ap, ◌∙◌, arith}
use Rattle.atomic_table.specs.Table.{rest}
use Rattle.turn_lock.specs.declared.view.Standing.{Standing}
use Rattle.turn_lock.specs.declared.view.Stage.{Stage}
use Rattle.turn_lock.specs.declared.view.Stage.TheVariants.{Idle, Serving}
use Rattle.turn_lock.specs.Known.{Held, fits_slots, is_whole, standing_of}
use Rattle.turn_lock.proofs.Places.{Some-injective}

module _ {T : Type 0} where
  no_slots : (stage : Stage) (slots : List (ℕ × Option T)) → fits_slots stage slots ≡ true → stage ≡ Idle → slots ≡ []
  no_slots Idle [] fits is = refl
  no_slots Idle (x ∷ xs) fits is = absurd (true≢false (sym fits))
  no_slots Serving slots fits is = absurd (cc is)

  one_slot : (stage : Stage) (slots : List (ℕ × Option T)) → fits_slots stage slots ≡ true → stage ≡ Serving → slots ≡ (0, None) ∷ []
  one_slot Idle slots fits is = absurd (cc is)
  one_slot Serving [] fits is = absurd (true≢false (sym fits))
  one_slot Serving ((place, None) ∷ []) fits is = let zero_is : place ≡ 0 = grind (arith, fits) in ap (λ (n : ℕ). (n, None) ∷ []) zero_is
  one_slot Serving ((place, None) ∷ y ∷ ys) fits is = absurd (true≢false (sym fits))
  one_slot Serving ((place, Some x) ∷ ys) fits is = absurd (true≢false (sym fits))

module _ {T F E : Type 0} where
  pub standing_is : (m : Held T F E) (whole : is_whole m ≡ true) (s : Standing F E) → m.0 ≡ Some s → standing_of m whole ≡ s
  standing_is (None, slots) whole s e = absurd (true≢false (sym whole))
  standing_is (Some t, slots) whole s e = Some-injective t s e

  -- a pass that has no turn holds nothing
  pub holds_nothing : (m : Held T F E) (whole : is_whole m ≡ true) → (standing_of m whole).stage ≡ Idle → m ≡ (Some (standing_of m whole), [])
  holds_nothing (None, slots) whole is = absurd (true≢false (sym whole))
  holds_nothing (Some s, slots) whole is = ap (λ (xs : List (ℕ × Option T)). (Some s, xs)) (no_slots s.stage slots whole is)

  -- a pass that has the turn holds the slot, from which the value was taken
  pub holds_slot : (m : Held T F E) (whole : is_whole m ≡ true) → (standing_of m whole).stage ≡ Serving → m ≡ (Some (standing_of m whole), (0, None) ∷ [])
  holds_slot (None, slots) whole is = absurd (true≢false (sym whole))
  holds_slot (Some s, slots) whole is = ap (λ (xs : List (ℕ × Option T)). (Some s, xs)) (one_slot s.stage slots whole is)

  -- the slot with a value again, which a pass that has the turn holds
  pub holds_value : (m : Held T F E) (whole : is_whole m ≡ true) (mid : Held T F E) (y : T) → (standing_of m whole).stage ≡ Serving → mid ≡ (m.0, (0, Some y) ∷ rest m.1) → mid ≡ (Some (standing_of m whole), (0, Some y) ∷ [])
  holds_value m whole mid y turn is = is ∙ ap (λ (h : Held T F E). (h.0, (0, Some y) ∷ rest h.1)) (holds_slot m whole turn)
