-- What the first pass knows of the others stays true where another view changes.
use Rattle.std.proofs.Common.{◌≡◌, ℕ, ◌≤◌, List, ◌++◌, All, Some, Option, set, refl, ◌∙◌, length-set, subst, arith}
use Rattle.std.proofs.lemmas.List.Elements.{All-append, All-weaker}
use Rattle.atomic_table.proofs.Lists.{set_else}
use lib.ListN.{get_elem?}
use mathlib.Core.Option.{some}
use Rattle.turn_lock.specs.declared.view.Joined.{Joined}
use Rattle.turn_lock.specs.declared.view.Standing.{Standing}
use Rattle.turn_lock.specs.declared.view.Stage.{Stage}
use Rattle.turn_lock.specs.Histories.{GoesOnWithout}
use Rattle.turn_lock.specs.Known.{shown}
use Rattle.turn_lock.specs.Kept.{JoinedFits, FirstFits}
use Rattle.turn_lock.proofs.Standings.{each_set, spent_count-set_live, spent_before, apart_from_spent}
use Rattle.turn_lock.proofs.Goings.{goes_on-refl, goes_on-append}

module _ {F E : Type 0} (maker : E → ℕ) where
  pub first_fits-set : (log : List E) (vs : List (Option (Standing F E))) (place : ℕ) (s w t : Standing F E) → get_elem? vs place ≡ some (Some s) → FirstFits maker log vs t → FirstFits maker log (set vs place (Some w)) t
  first_fits-set log vs place s w t at f = (
    length-set vs place (Some w) ∙ f.0,
    spent_count-set_live vs place s w at ∙ f.1,
    f.2,
    λ p e. f.3 p (spent_before vs place p w e),
    All-weaker
        (λ (j : Joined E). JoinedFits maker log vs j.number j.seen)
        (λ (j : Joined E). JoinedFits maker log (set vs place (Some w)) j.number j.seen)
        (λ j h. (set_else vs place j.number (Some w) (apart_from_spent vs j.number place s h.0 at) ∙ h.0, h.1))
        t.view.joined
        f.4,
  )

  -- entries of a pass that was not joined follow
  pub joined_fit-append : (log more : List E) (vs : List (Option (Standing F E))) (place : ℕ) (s : Standing F E) (joined : List (Joined E)) → get_elem? vs place ≡ some (Some s) → All (λ e. maker e ≡ place) more
      → All (λ (j : Joined E). JoinedFits maker log vs j.number j.seen) joined → All (λ (j : Joined E). JoinedFits maker (log ++ more) vs j.number j.seen) joined
  joined_fit-append log more vs place s joined at of h =
      All-weaker
      (λ (j : Joined E). JoinedFits maker log vs j.number j.seen)
      (λ (j : Joined E). JoinedFits maker (log ++ more) vs j.number j.seen)
      (λ j f. (f.0, goes_on-append maker j.number place j.seen log more (apart_from_spent vs j.number place s f.0 at) of f.1))
      joined
      h

  pub first_fits-append : (log more : List E) (vs : List (Option (Standing F E))) (place : ℕ) (s t : Standing F E) → get_elem? vs place ≡ some (Some s) → place ≤ t.view.split_count → All (λ e. maker e ≡ place) more
      → FirstFits maker log vs t → FirstFits maker (log ++ more) vs t
  first_fits-append log more vs place s t at le of f = (
    f.0,
    f.1,
    All-append (λ e. maker e ≤ t.view.split_count) log more f.2 (All-weaker (λ e. maker e ≡ place) (λ e. maker e ≤ t.view.split_count) (λ x is. omega arith) more of),
    λ p e. goes_on-append maker p place t.view.seen log more (apart_from_spent vs p place s e at) of (f.3 p e),
    joined_fit-append log more vs place s t.view.joined at of f.4,
  )

  -- the first pass has seen the whole history
  pub first_fits-seen : (log : List E) (vs : List (Option (Standing F E))) (t : Standing F E) (seen : List E) (stage : Stage) → log ≡ seen → FirstFits maker log vs t → FirstFits maker log vs (shown t seen stage)
  first_fits-seen log vs t seen stage is f = (f.0, f.1, f.2, (λ p _. subst (λ l. GoesOnWithout maker p l log) is (goes_on-refl maker p log)), f.4)

  -- what the first pass knows, after one view changed
  pub top-set : (log : List E) (vs : List (Option (Standing F E))) (place : ℕ) (s w : Standing F E) → get_elem? vs place ≡ some (Some s) → (place ≡ 0 → FirstFits maker log vs w)
      → ((t : Standing F E) → get_elem? vs 0 ≡ some (Some t) → FirstFits maker log vs t)
      → (t : Standing F E) → get_elem? (set vs place (Some w)) 0 ≡ some (Some t) → FirstFits maker log (set vs place (Some w)) t
  top-set log vs place s w at mine others t e =
      first_fits-set log vs place s w t at (each_set (λ j u. j ≡ 0 → FirstFits maker log vs u) vs place w mine (λ j u _ old z. others u (subst (λ n. get_elem? vs n ≡ some (Some u)) z old)) 0 t e refl)
