-- What a change of one view leaves as it was: there is a first pass, and the value is where it was.
use Rattle.std.proofs.Common.{◌≡◌, ◌≢◌, ℕ, inl, inr, ⊎_elim, List, [], ◌∷◌, ◌++◌, set, Some, None, Option, sym, ap, ◌∙◌, subst}
use Rattle.atomic_table.proofs.Lists.{set_here, set_else, at_longer}
use lib.ListN.{get_elem?}
use mathlib.Core.Logic.{dite}
use mathlib.Core.Option.{Option as Place, some, none}
use native.Mathlib.Decide.{ℕ_discrete}
use Rattle.turn_lock.specs.declared.view.Standing.{Standing}
use Rattle.turn_lock.specs.declared.view.Stage.TheVariants.{Serving}
use Rattle.turn_lock.specs.Kept.{NoneElseServed, NoneServed, OneServed, Home}
use Rattle.turn_lock.proofs.Places.{at_below}
use Rattle.turn_lock.proofs.Standings.{each_set, each_push, live_before, same_place}

module _ {F E : Type 0} where
  pub first-set : (vs : List (Option (Standing F E))) (place : ℕ) (s w : Standing F E) → get_elem? vs place ≡ some (Some s) → (t : Standing F E) × (get_elem? vs 0 ≡ some (Some t)) → (t : Standing F E) × (get_elem? (set vs place (Some w)) 0 ≡ some (Some t))
  first-set vs place s w at first = dite (ℕ_discrete 0 place)
      (λ (e : 0 ≡ place). (w, subst (λ (n : ℕ). get_elem? (set vs place (Some w)) n ≡ some (Some w)) (sym e) (set_here vs place (Some w) (at_below vs place (Some s) at))))
      (λ ne. (first.0, set_else vs place 0 (Some w) ne ∙ first.1))

  -- the turn stays with the pass that has it where the view of one without a turn changes
  one_served-set : (vs : List (Option (Standing F E))) (place : ℕ) (s : Standing F E) (v : Option (Standing F E)) → get_elem? vs place ≡ some (Some s) → s.stage ≢ Serving → (o : OneServed vs) → NoneElseServed o.0 (set vs place v) → OneServed (set vs place v)
  one_served-set vs place s v at not o alone = (
    o.0,
    o.1,
    set_else vs place o.0 v (λ e. not (ap (λ (t : Standing F E). t.stage) (sym (same_place vs o.0 place o.1 s e o.2 at)) ∙ o.3)) ∙ o.2,
    o.3,
    alone,
  )

module _ {T F E : Type 0} (fixed : T → F) (history : T → List E) (start : F) where
  served-home : (word : ℕ) (log : List E) (homes : List (Place (Option T))) (vs ws : List (Option (Standing F E))) → (NoneServed vs → NoneServed ws) → (OneServed vs → OneServed ws) → Home fixed history start word log homes vs → Home fixed history start word log homes ws
  served-home word log homes vs ws none_left one_left h = ⊎_elim
      (λ (in_slot : (word ≡ 0) × (y : T) × (homes ≡ some (Some y) ∷ []) × NoneServed vs × (history y ≡ log) × (fixed y ≡ start)). inl (in_slot.0, in_slot.1, in_slot.2, none_left in_slot.3, in_slot.4, in_slot.5))
      (λ (out : (word ≢ 0) × OneServed vs × (homes ≡ none ∷ [])). inr (out.0, one_left out.1, out.2))
      h

  pub home-set : (word : ℕ) (log : List E) (homes : List (Place (Option T))) (vs : List (Option (Standing F E))) (place : ℕ) (s w : Standing F E) → get_elem? vs place ≡ some (Some s) → s.stage ≢ Serving → w.stage ≢ Serving
      → Home fixed history start word log homes vs → Home fixed history start word log homes (set vs place (Some w))
  home-set word log homes vs place s w at before after = served-home word log homes vs (set vs place (Some w))
      (λ h. each_set (λ _ u. u.stage ≢ Serving) vs place w after (λ j u _ e. h j u e))
      (λ o. one_served-set vs place s (Some w) at before o (each_set (λ j u. u.stage ≡ Serving → j ≡ o.0) vs place w (λ is. absurd (after is)) (λ j u _ e. o.4 j u e)))

  pub home-push : (word : ℕ) (log : List E) (homes : List (Place (Option T))) (vs : List (Option (Standing F E))) (w : Standing F E) → w.stage ≢ Serving → Home fixed history start word log homes vs → Home fixed history start word log homes (vs ++ Some w ∷ [])
  home-push word log homes vs w not = served-home word log homes vs (vs ++ Some w ∷ [])
      (λ h. each_push (λ _ u. u.stage ≢ Serving) vs w not h)
      (λ o. (o.0, o.1, at_longer vs (Some w ∷ []) o.0 (Some o.1) o.2, o.3, each_push (λ j u. u.stage ≡ Serving → j ≡ o.0) vs w (λ is. absurd (not is)) o.4))

  pub home-spend : (word : ℕ) (log : List E) (homes : List (Place (Option T))) (vs : List (Option (Standing F E))) (o : ℕ) (s : Standing F E) → get_elem? vs o ≡ some (Some s) → s.stage ≢ Serving → Home fixed history start word log homes vs → Home fixed history start word log homes (set vs o None)
  home-spend word log homes vs o s at not = served-home word log homes vs (set vs o None)
      (λ h j u e. h j u (live_before vs o j u e).1)
      (λ one. one_served-set vs o s None at not one (λ j u e. one.4 j u (live_before vs o j u e).1))
