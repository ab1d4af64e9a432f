-- The end of a turn keeps the rule.
use Rattle.std.proofs.Common.{◌≡◌, ◌≢◌, ℕ, ◌+◌, ◌<◌, inl, ⊎_elim, List, [], ◌∷◌, ◌++◌, All, length, set, Some, None, Option, sym, refl, ap, ◌∙◌, subst, arith}
use Rattle.atomic_table.specs.Table.{State, step, gives, Allows}
use lib.ListN.{get_elem?}
use mathlib.Core.Option.{Option as Place, some, none}
use Rattle.turn_lock.specs.declared.view.Standing.{Standing}
use Rattle.turn_lock.specs.declared.view.Stage.TheVariants.{Idle, Serving}
use Rattle.turn_lock.specs.Histories.{GoesOnBy, GoesOnWithout}
use Rattle.turn_lock.specs.Known.{Held, shown}
use Rattle.turn_lock.specs.Kept.{NoneElseServed, NoneServed, OneServed, FirstFits, Fits, Kept}
use Rattle.turn_lock.specs.Told.{left}
use Rattle.turn_lock.proofs.Changes.{first-set}
use Rattle.turn_lock.proofs.Firsts.{first_fits-append, first_fits-seen, top-set}
use Rattle.turn_lock.proofs.Goings.{goes_on-refl, goes_on-append}
use Rattle.turn_lock.proofs.Places.{at_below}
use Rattle.turn_lock.proofs.Standings.{each_set}

abbrev standing_value : {T F E : Type 0} → Standing F E × T → Held T F E → Standing F E × T
standing_value z (None, slots) = z
standing_value z (Some s, []) = z
standing_value z (Some s, (place, None) ∷ slots) = z
standing_value z (Some s, (place, Some y) ∷ slots) = (s, y)

module _ {T F E : Type 0} (fixed : T → F) (history : T → List E) (maker : E → ℕ) (start : F) where
  abbrev Rule : State (Option T) (Option (Standing F E)) → Type 0
  Rule = Kept fixed history maker start

  -- where a pass has the turn, the slot is out and no other has it
  is_out : (place : ℕ) (s : Standing F E) (state : State (Option T) (Option (Standing F E))) (r : Rule state) → s.stage ≡ Serving → get_elem? state.views place ≡ some (Some s) → NoneElseServed place state.views × (state.homes ≡ none ∷ [])
  is_out place s state r serving at = ⊎_elim
      (λ (h : (r.word ≡ 0) × (z : T) × (state.homes ≡ some (Some z) ∷ []) × NoneServed state.views × (history z ≡ r.log) × (fixed z ≡ start)). absurd (h.3 place s at serving))
      (λ (h : (r.word ≢ 0) × OneServed state.views × (state.homes ≡ none ∷ [])). let one = h.1 in ((λ j u there served. one.4 j u there served ∙ sym (one.4 place s at serving)), h.2))
      r.home

  leaves_serving : (slots place : ℕ) (s : Standing F E) (y : T) → s.stage ≡ Serving → fixed y ≡ s.view.fixed → GoesOnBy maker s.view.number s.view.seen (history y)
      → Allows Rule slots place (Some s, (0, Some y) ∷ []) 0 (λ _. 0) (left history (step slots 0 0 0 none) (Some s, (0, Some y) ∷ []))
  leaves_serving slots place s y serving same_fixed grown state r long at small =
      let vs : List (Option (Standing F E)) = state.views in
      let w : Standing F E = shown s (history y) Idle in
      let out = is_out place s state r serving at in
      let mine = r.each place s at in
      let more : List E = grown.0 in
      let log : List E = r.log ++ more in
      let log_is : log ≡ history y = ap (λ (l : List E). l ++ more) (sym (mine.3 serving)) ∙ sym grown.1 in
      let of : All (λ e. maker e ≡ place) more = subst (λ (n : ℕ). All (λ e. maker e ≡ n) more) mine.0 grown.2 in
      let inside : place < length vs = at_below vs place (Some s) at in
      let top : (t : Standing F E) → get_elem? vs 0 ≡ some (Some t) → FirstFits maker log vs t = λ t e. let f = r.top t e in let size : length vs ≡ t.view.split_count + 1 = f.0 in
      first_fits-append maker r.log more vs place s t at (omega arith) of f in (
        Some w,
        gives,
        tt,
        record {
          log = log;
          word = 0;
          words = ap (λ (ws : List ℕ). set ws 0 0) r.words;
          first = first-set vs place s w at r.first;
          top = top-set maker log vs place s w at (λ z. first_fits-seen maker log vs s (history y) Idle log_is (top s (subst (λ (n : ℕ). get_elem? vs n ≡ some (Some s)) z at))) top;
          each = each_set (Fits maker start log) vs place w
              (mine.0, mine.1, subst (λ (l : List E). GoesOnWithout maker place l log) log_is (goes_on-refl maker place log), (λ is. absurd (cc is)))
              (λ j u ne there. let f = r.each j u there in (f.0, f.1, goes_on-append maker j place u.view.seen r.log more ne of f.2, λ is. absurd (ne (out.0 j u there is))));
          home = inl (
            refl,
            y,
            ap (λ (hs : List (Place (Option T))). set hs 0 (some (Some y))) out.1,
            each_set (λ _ u. u.stage ≢ Serving) vs place w (λ is. cc is) (λ j u ne there is. ne (out.0 j u there is)),
            sym log_is,
            same_fixed ∙ mine.1,
          );
        },
        λ t z e. let same : Held T F E → Standing F E × T = standing_value (s, y) in
            let is = ap same e in
            λ i. (Some (shown (is i).0 (history (is i).1) Idle), []),
      )

  pub leaves : (slots place : ℕ) (me : Held T F E) (s : Standing F E) (y : T) → me ≡ (Some s, (0, Some y) ∷ []) → s.stage ≡ Serving → fixed y ≡ s.view.fixed → GoesOnBy maker s.view.number s.view.seen (history y)
      → Allows Rule slots place me 0 (λ _. 0) (left history (step slots 0 0 0 none) me)
  leaves slots place me s y is serving same_fixed grown = subst (λ (m : Held T F E). Allows Rule slots place m 0 (λ _. 0) (left history (step slots 0 0 0 none) m)) (sym is) (leaves_serving slots place s y serving same_fixed grown)
