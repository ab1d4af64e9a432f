-- A pass that tries keeps the rule, and takes the value where the word is 0.
use Rattle.std.proofs.Common.{◌≡◌, ◌≢◌, ℕ, ◌==◌, ⊎_elim, inr, List, [], ◌∷◌, set, get_or, Some, None, Option, sym, refl, ap, ◌∙◌, subst, arith}
use Rattle.atomic_table.specs.Table.{State, keeps, takes, rest, Allows}
use Rattle.atomic_table.proofs.Lists.{set_again, set_here, exchanged}
use lib.ListN.{get_elem?}
use mathlib.Core.Option.{Option as Place, some, none}
use prog.Atomic.{either}
use Rattle.turn_lock.specs.declared.view.Standing.{Standing}
use Rattle.turn_lock.specs.declared.view.Stage.TheVariants.{Serving}
use Rattle.turn_lock.specs.Histories.{GoesOnWithout}
use Rattle.turn_lock.specs.Known.{Held, shown}
use Rattle.turn_lock.specs.Kept.{NoneServed, OneServed, Fits, Kept}
use Rattle.turn_lock.specs.Told.{Took, Tried}
use Rattle.turn_lock.proofs.Changes.{first-set}
use Rattle.turn_lock.proofs.Firsts.{first_fits-seen, top-set}
use Rattle.turn_lock.proofs.Goings.{goes_on-refl}
use Rattle.turn_lock.proofs.Places.{at_below, Some-injective}
use Rattle.turn_lock.proofs.Standings.{each_set}

one_not_zero : ◌≢◌ {A = ℕ} 1 0
one_not_zero e = omega arith

two_not_zero : ◌≢◌ {A = ℕ} 2 0
two_not_zero e = omega arith

module _ {T F E : Type 0} (fixed : T → F) (history : T → List E) (maker : E → ℕ) (start : F) where
  abbrev Rule : State (Option T) (Option (Standing F E)) → Type 0
  Rule = Kept fixed history maker start

  -- the word as a step leaves it
  word_after : (state : State (Option T) (Option (Standing F E))) (r : Rule state) (n : ℕ) → set state.words 0 n ≡ n ∷ []
  word_after state r n = ap (λ (ws : List ℕ). set ws 0 n) r.words

  -- where the value is out, one number other than 0 follows on another
  stays_out : (place : ℕ) (v : Option (Standing F E)) (n : ℕ) (state : State (Option T) (Option (Standing F E))) → n ≢ 0 → get_elem? state.views place ≡ some v → (r : Rule state) → OneServed state.views → state.homes ≡ none ∷ []
      → Rule record { words = set state.words 0 n; homes = state.homes; views = set state.views place v }
  stays_out place v n state some_number at r one homes =
      subst (λ (vs : List (Option (Standing F E))). Rule record { words = set state.words 0 n; homes = state.homes; views = vs }) (sym (set_again state.views place v at))
      (record { log = r.log; word = n; words = word_after state r n; first = r.first; top = r.top; each = r.each; home = inr (some_number, one, homes) })

  takes_value : (place : ℕ) (s : Standing F E) (n : ℕ) (state : State (Option T) (Option (Standing F E))) (r : Rule state) → n ≢ 0 → get_elem? state.views place ≡ some (Some s) → NoneServed state.views
      → (y : T) → state.homes ≡ some (Some y) ∷ [] → history y ≡ r.log
      → Rule record { words = set state.words 0 n; homes = set state.homes 0 none; views = set state.views place (Some (shown s (history y) Serving)) }
  takes_value place s n state r some_number at none_yet y homes log_is =
      let vs : List (Option (Standing F E)) = state.views in
      let w : Standing F E = shown s (history y) Serving in
      record {
        log = r.log;
        word = n;
        words = word_after state r n;
        first = first-set vs place s w at r.first;
        top = top-set maker r.log vs place s w at (λ z. first_fits-seen maker r.log vs s (history y) Serving (sym log_is) (r.top s (subst (λ (k : ℕ). get_elem? vs k ≡ some (Some s)) z at))) r.top;
        each = let f = r.each place s at in each_set (Fits maker start r.log) vs place w
            (f.0, f.1, subst (λ (l : List E). GoesOnWithout maker place l r.log) (sym log_is) (goes_on-refl maker place r.log), (λ _. log_is))
            (λ j u _ e. r.each j u e);
        home = inr (
          some_number,
          (place, w, set_here vs place (Some w) (at_below vs place (Some s) at), refl, each_set (λ j u. u.stage ≡ Serving → j ≡ place) vs place w (λ _. refl) (λ j u _ e served. absurd (none_yet j u e served))),
          ap (λ (hs : List (Place (Option T))). set hs 0 none) homes,
        );
      }

  tries_idle : (slots place : ℕ) (s : Standing F E) (f : ℕ → ℕ) → ((n : ℕ) → f n ≢ 0) → Allows Rule slots place (Some s, []) 0 f (Tried fixed history maker (Some s, []))
  tries_idle slots place s f never state r long at small =
      let found : ℕ = get_or state.words 0 0 in
      let found_is : found ≡ r.word = ap (λ (ws : List ℕ). get_or ws 0 0) r.words in
      let mine = r.each place s at in
      let before : Held T F E = (Some s, []) in
      ⊎_elim
      (λ (h : (r.word ≡ 0) × (y : T) × (state.homes ≡ some (Some y) ∷ []) × NoneServed state.views × (history y ≡ r.log) × (fixed y ≡ start)).
      let y : T = h.1 in
      let after : Held T F E = (Some (shown s (history y) Serving), (0, Some y) ∷ []) in (
        Some (shown s (history y) Serving),
        takes 0 (Some y),
        ap (λ (hs : List (Place (Option T))). get_elem? hs 0) h.2,
        takes_value place s (f found) state r (never found) at h.3 y h.2 h.4,
        λ t e _. subst (λ (z : Standing F E). (found ≢ 0 → after ≡ before) × (found ≡ 0 → (x : T) × Took fixed history maker z x after)) (Some-injective s t (ap (λ (m : Held T F E). m.0) e))
            ((λ ne. absurd (ne (found_is ∙ h.0))), λ _. (y, (h.5 ∙ sym mine.1, subst (λ (z : ℕ × List E). GoesOnWithout maker z.0 s.view.seen z.1) (λ i. (sym mine.0 i, sym h.4 i)) mine.2, refl))),
      ))
      (λ (h : (r.word ≢ 0) × OneServed state.views × (state.homes ≡ none ∷ [])). (
        Some s,
        keeps,
        tt,
        stays_out place (Some s) (f found) state (never found) at r h.1 h.2,
        λ t _ _. ((λ _. refl), λ hit. absurd (h.0 (sym found_is ∙ hit))),
      ))
      r.home

  -- a step that never leaves 0
  tries : (slots place : ℕ) (me : Held T F E) (s : Standing F E) (f : ℕ → ℕ) → me ≡ (Some s, []) → ((n : ℕ) → f n ≢ 0) → Allows Rule slots place me 0 f (Tried fixed history maker me)
  tries slots place me s f is never = subst (λ (m : Held T F E). Allows Rule slots place m 0 f (Tried fixed history maker m)) (sym is) (tries_idle slots place s f never)

  pub swaps : (slots place : ℕ) (me : Held T F E) (s : Standing F E) → me ≡ (Some s, []) → Allows Rule slots place me 0 (λ _. 2) (Tried fixed history maker me)
  swaps slots place me s is = tries slots place me s (λ _. 2) is (λ _. two_not_zero)

  pub compares : (slots place : ℕ) (me : Held T F E) (s : Standing F E) → me ≡ (Some s, []) → Allows Rule slots place me 0 (λ n. either (n == 0) 1 n) (Tried fixed history maker me)
  compares slots place me s is = tries slots place me s (λ n. either (n == 0) 1 n) is (λ n. exchanged n 0 1 (λ m. m ≢ 0) (λ _. one_not_zero) (λ ne. ne))

  first_value : Option T → List (ℕ × Option T) → Option T
  first_value v [] = v
  first_value v (x ∷ xs) = x.1

  -- what was in the slot when the value was taken
  pub was_there : (mid : Held T F E) (s : Standing F E) (y : T) (r : Option T) → Took fixed history maker s y mid → mid.1 ≡ (0, r) ∷ rest mid.1 → r ≡ Some y
  unfolding first_value
  was_there mid s y r took front = ap (first_value r) (sym front ∙ ap (λ (m : Held T F E). m.1) took.2)

  -- what is known once the value was taken out of the slot
  pub serves : (old mid new : Held T F E) (s : Standing F E) (v : T) (r : Option T) → old ≡ (Some s, []) → ((y : T) × Took fixed history maker s y mid)
      → mid.1 ≡ (0, r) ∷ rest mid.1 → r ≡ Some v → new ≡ (mid.0, (0, None) ∷ rest mid.1) → (t : Standing F E) → old.0 ≡ Some t
      → (fixed v ≡ t.view.fixed) × GoesOnWithout maker t.view.number t.view.seen (history v) × (new ≡ (Some (shown t (history v) Serving), (0, None) ∷ []))
  serves old mid new s v r was took front is after t e =
      let same : s ≡ t = Some-injective s t (sym (ap (λ (m : Held T F E). m.0) was) ∙ e) in
      let mids = took.1.2 in
      let y : took.0 ≡ v = Some-injective took.0 v (sym (was_there mid s took.0 r took.1 front) ∙ is) in
      subst (λ (z : Standing F E × T). (fixed z.1 ≡ z.0.view.fixed) × GoesOnWithout maker z.0.view.number z.0.view.seen (history z.1) × (new ≡ (Some (shown z.0 (history z.1) Serving), (0, None) ∷ [])))
      (λ i. (same i, y i))
      (took.1.0, took.1.1, after ∙ ap (λ (m : Held T F E). (m.0, (0, None) ∷ rest m.1)) mids)
