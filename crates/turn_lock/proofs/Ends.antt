-- How the rule begins, and what is left where every other pass was joined.
use Rattle.std.proofs.Common.{◌≡◌, ◌≢◌, ℕ, ◌+◌, ◌<◌, ◌≤◌, inl, ⊎_elim, true, List, [], ◌∷◌, All, length, Some, None, Option, sym, refl, ap, ◌∙◌, subst, arith}
use Rattle.std.proofs.lemmas.List.Elements.{All-nil, All-weaker}
use Rattle.atomic_table.specs.Table.{State, opening, Final, Seen}
use lib.ListN.{get_elem?}
use mathlib.Core.Logic.{dite}
use mathlib.Core.Option.{Option as Place, some, none, some-injective}
use native.Mathlib.Decide.{ℕ_discrete}
use Rattle.turn_lock.specs.declared.view.Joined.{Joined}
use Rattle.turn_lock.specs.declared.view.View.{View}
use Rattle.turn_lock.specs.declared.view.Standing.{Standing}
use Rattle.turn_lock.specs.declared.view.Stage.TheVariants.{Idle}
use Rattle.turn_lock.specs.Histories.{GoesOnWithout}
use Rattle.turn_lock.specs.Known.{Held, idle, is_whole, standing_of}
use Rattle.turn_lock.specs.Views.{newcomer}
use Rattle.turn_lock.specs.Kept.{NoneServed, OneServed, JoinedFits, FirstFits, Fits, Kept}
use Rattle.turn_lock.proofs.Goings.{goes_on-refl, all_seen}
use Rattle.turn_lock.proofs.Places.{at_below, only_one, Some-injective, Some-ne-None}
use Rattle.turn_lock.proofs.Standings.{others_spent, same_place}
use Rattle.turn_lock.proofs.Whole.{holds_nothing}

-- what the value is that a lock gives once the first pass knows so much
pub record IsGivenBy {T F E : Type 0} (fixed : T → F) (history : T → List E) (maker : E → ℕ) (start : F) (v : View F E) (y : T) : Type 0 where
  pub fixed_is : fixed y ≡ start
  pub seen_all : history y ≡ v.seen
  pub joined : All (λ (j : Joined E). GoesOnWithout maker j.number j.seen (history y)) v.joined
  pub made : All (λ e. maker e ≤ v.split_count) (history y)

module _ {T F E : Type 0} (fixed : T → F) (history : T → List E) (maker : E → ℕ) where
  pub begins : (v : T) → history v ≡ [] → Kept fixed history maker (fixed v) (opening (0 ∷ []) (Some v ∷ []) (Some (idle (newcomer 0 (fixed v) []))))
  begins v empty =
      let n : Standing F E = idle (newcomer 0 (fixed v) []) in
      let at : (place : ℕ) (s : Standing F E) → get_elem? (Some n ∷ []) place ≡ some (Some s) → (0 ≡ place) × (n ≡ s) = λ place s e. let o = only_one (Some n) (Some s) place e in (sym o.0, Some-injective n s o.1) in
      record {
        log = [];
        word = 0;
        words = refl;
        first = (n, refl);
        top = λ t e. subst (FirstFits maker [] (Some n ∷ [])) (at 0 t e).1
            (omega arith, refl, All-nil (λ e. maker e ≤ 0), (λ p e. absurd (Some-ne-None n (only_one (Some n) None p e).1)), All-nil (λ (j : Joined E). JoinedFits maker [] (Some n ∷ []) j.number j.seen));
        each = λ place s e. subst (λ (z : ℕ × Standing F E). Fits maker (fixed v) [] z.0 z.1) (λ i. ((at place s e).0 i, (at place s e).1 i)) (refl, refl, goes_on-refl maker 0 [], (λ is. absurd (cc is)));
        home = inl (refl, v, refl, (λ place s e is. cc (ap (λ (z : Standing F E). z.stage) (at place s e).1 ∙ is)), empty, refl);
      }

  -- the value is in the slot, and its history is what the first pass has seen
  closes : (start : F) (state : State (Option T) (Option (Standing F E))) → Kept fixed history maker start state → (place : ℕ) (s : Standing F E) → get_elem? state.views place ≡ some (Some s) → s.view.number ≡ 0 → s.stage ≡ Idle → length s.view.joined ≡ s.view.split_count
      → (y : T) × (get_elem? state.homes 0 ≡ some (some (Some y))) × IsGivenBy fixed history maker start s.view y
  closes start state r place s at first still all =
      let vs : List (Option (Standing F E)) = state.views in
      let mine = r.each place s at in
      let zero_is : place ≡ 0 = sym mine.0 ∙ first in
      let here : get_elem? vs 0 ≡ some (Some s) = subst (λ (n : ℕ). get_elem? vs n ≡ some (Some s)) zero_is at in
      let f = r.top s here in
      let size : length vs ≡ s.view.split_count + 1 = f.0 in let spent = f.1 in
      let gone : (p : ℕ) → 0 < p → p < length vs → get_elem? vs p ≡ some None = others_spent vs s here (omega arith) in
      let own : GoesOnWithout maker 0 s.view.seen r.log = subst (λ (n : ℕ). GoesOnWithout maker n s.view.seen r.log) zero_is mine.2 in
      let whole : r.log ≡ s.view.seen = all_seen maker s.view.split_count s.view.seen r.log f.2 own (λ p l m. f.3 p (gone p l (omega arith))) in
      ⊎_elim
      (λ (h : (r.word ≡ 0) × (y : T) × (state.homes ≡ some (Some y) ∷ []) × NoneServed vs × (history y ≡ r.log) × (fixed y ≡ start)). (
        h.1,
        ap (λ (hs : List (Place (Option T))). get_elem? hs 0) h.2,
        record {
          fixed_is = h.5;
          seen_all = h.4 ∙ whole;
          joined = All-weaker
              (λ (j : Joined E). JoinedFits maker r.log vs j.number j.seen)
              (λ (j : Joined E). GoesOnWithout maker j.number j.seen (history h.1))
              (λ j g. subst (GoesOnWithout maker j.number j.seen) (sym h.4) g.1)
              s.view.joined
              f.4;
          made = subst (λ (log : List E). All (λ e. maker e ≤ s.view.split_count) log) (sym h.4) f.2;
        },
      ))
      (λ (h : (r.word ≢ 0) × OneServed vs × (state.homes ≡ none ∷ [])).
      let o = h.1 in
      absurd (dite (ℕ_discrete 0 o.0)
      (λ is. cc (sym still ∙ ap (λ (x : Standing F E). x.stage) (same_place vs 0 o.0 s o.1 is here o.2) ∙ o.3))
      (λ ne. let i : ℕ = o.0 in let l : i < length vs = at_below vs i (Some o.1) o.2 in Some-ne-None o.1 (some-injective (Some o.1) None (sym o.2 ∙ gone i (omega arith) l)))))
      r.home

  -- what is in the slot once the lock is closed with the first pass
  pub closed_slot : (start : F) (words : List ℕ) (slots : List (Option T)) (slot : Option T) (place : ℕ) (m : Held T F E) (whole : is_whole m ≡ true) → let s = standing_of m whole in Final (Seen (Kept fixed history maker start) place m.0) words slots → get_elem? slots 0 ≡ some slot
      → s.view.number ≡ 0 → s.stage ≡ Idle → length s.view.joined ≡ s.view.split_count
      → (y : T) × (slot ≡ Some y) × IsGivenBy fixed history maker start s.view y
  closed_slot start words slots slot place m whole ended at first no_turn all =
      let free = holds_nothing m whole no_turn in
      let got = closes start ended.0 ended.1.0 place (standing_of m whole) (ended.1.1 ∙ ap (λ (h : Held T F E). some h.0) free) first no_turn all in
      (got.0, some-injective slot (Some got.0) (sym at ∙ ended.4 0 (Some got.0) got.1), got.2)

  pub closed_value : (start : F) (words : List ℕ) (slots : List (Option T)) (slot : Option T) (v : T) (place : ℕ) (m : Held T F E) (whole : is_whole m ≡ true) → let s = standing_of m whole in Final (Seen (Kept fixed history maker start) place m.0) words slots → get_elem? slots 0 ≡ some slot
      → s.view.number ≡ 0 → s.stage ≡ Idle → length s.view.joined ≡ s.view.split_count → slot ≡ Some v
      → IsGivenBy fixed history maker start s.view v
  closed_value start words slots slot v place m whole ended at first no_turn all is =
      let got = closed_slot start words slots slot place m whole ended at first no_turn all in
      let view = (standing_of m whole).view in
      subst (IsGivenBy fixed history maker start view) (Some-injective got.0 v (sym got.1 ∙ is)) got.2
