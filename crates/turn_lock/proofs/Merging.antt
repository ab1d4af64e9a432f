-- A pass that is joined to the first keeps the rule.
use Rattle.std.proofs.Common.{◌≡◌, ◌≢◌, ℕ, ◌+◌, List, [], ◌∷◌, length, set, Some, None, Option, sym, refl, ◌∙◌, subst, arith, length-set, length-append}
use Rattle.std.proofs.lemmas.List.Elements.{All-weaker, All-push}
use Rattle.atomic_table.specs.Table.{Joins}
use Rattle.atomic_table.proofs.Lists.{set_here, set_else}
use lib.ListN.{get_elem?}
use mathlib.Core.Logic.{dite}
use mathlib.Core.Option.{some}
use native.Mathlib.Decide.{ℕ_discrete}
use Rattle.turn_lock.specs.declared.view.Joined.{Joined}
use Rattle.turn_lock.specs.declared.view.Standing.{Standing}
use Rattle.turn_lock.specs.declared.view.Stage.TheVariants.{Idle, Serving}
use Rattle.turn_lock.specs.Histories.{GoesOnWithout}
use Rattle.turn_lock.specs.Views.{with_joined}
use Rattle.turn_lock.specs.Kept.{spent_count, JoinedFits, FirstFits, Fits, Kept}
use Rattle.turn_lock.specs.Told.{merged}
use Rattle.turn_lock.proofs.Changes.{first-set, home-set, home-spend}
use Rattle.turn_lock.proofs.Firsts.{first_fits-set}
use Rattle.turn_lock.proofs.Goings.{goes_on-longer}
use Rattle.turn_lock.proofs.Places.{at_below}
use Rattle.turn_lock.proofs.Standings.{spent_count-set_spent, each_set, live_before}

module _ {F E : Type 0} (maker : E → ℕ) where
  -- the first pass has seen the longer, and counts the other among those joined
  first_fits-merge : (log : List E) (vs : List (Option (Standing F E))) (s t : Standing F E) (place other : ℕ) → GoesOnWithout maker place s.view.seen log → get_elem? vs other ≡ some (Some t) → t.view.number ≡ other → GoesOnWithout maker other t.view.seen log
      → FirstFits maker log vs s → FirstFits maker log (set vs other None) (record s { view = with_joined s.view t.view })
  first_fits-merge log vs s t place other mine there is theirs f =
      let v = with_joined s.view t.view in
      let spent : get_elem? (set vs other None) other ≡ some None = set_here vs other None (at_below vs other (Some t) there) in
      let count : spent_count (set vs other None) ≡ spent_count vs + 1 = spent_count-set_spent vs other t there in
      let long : length v.joined ≡ length s.view.joined + 1 = length-append s.view.joined (record { number = t.view.number; seen = t.view.seen } ∷ []) in
      let was : spent_count vs ≡ length s.view.joined = f.1 in (
        length-set vs other None ∙ f.0,
        omega arith,
        f.2,
        λ p h. dite (ℕ_discrete p other)
            (λ at. subst (λ (k : ℕ). GoesOnWithout maker k v.seen log) (sym at) (goes_on-longer maker place other s.view.seen t.view.seen log mine theirs).1)
            (λ ne. (goes_on-longer maker p other s.view.seen t.view.seen log (f.3 p (sym (set_else vs other p None ne) ∙ h)) theirs).0),
        All-push (λ (j : Joined E). JoinedFits maker log (set vs other None) j.number j.seen) s.view.joined (record { number = t.view.number; seen = t.view.seen })
            (All-weaker
            (λ (j : Joined E). JoinedFits maker log vs j.number j.seen)
            (λ (j : Joined E). JoinedFits maker log (set vs other None) j.number j.seen)
            (λ j h. (dite (ℕ_discrete j.number other) (λ at. subst (λ (k : ℕ). get_elem? (set vs other None) k ≡ some None) (sym at) spent) (λ ne. set_else vs other j.number None ne ∙ h.0), h.1))
            s.view.joined
            f.4)
            (subst (λ (k : ℕ). get_elem? (set vs other None) k ≡ some None) (sym is) spent, subst (λ (k : ℕ). GoesOnWithout maker k t.view.seen log) (sym is) theirs),
      )

module _ {T F E : Type 0} (fixed : T → F) (history : T → List E) (maker : E → ℕ) (start : F) where
  pub joins : (place : ℕ) (s : Standing F E) (other : ℕ) (t : Standing F E) → s.view.number ≡ 0 → s.stage ≡ Idle → t.stage ≡ Idle → Joins (Kept fixed history maker start) place (Some s) other (Some t) (merged (Some s) (Some t)) None
  joins place s other t first still still_other state r at apart there =
      let vs : List (Option (Standing F E)) = state.views in
      let mine = r.each place s at in
      let zero_is : place ≡ 0 = sym mine.0 ∙ first in
      let w : Standing F E = record s { view = with_joined s.view t.view } in
      let ls : List (Option (Standing F E)) = set vs place (Some w) in
      let was : get_elem? vs other ≡ some (Some t) = sym (set_else vs place other (Some w) apart) ∙ there in
      let theirs = r.each other t was in
      let f = r.top s (subst (λ (k : ℕ). get_elem? vs k ≡ some (Some s)) zero_is at) in
      let both = goes_on-longer maker place other s.view.seen t.view.seen r.log mine.2 theirs.2 in
      let not : s.stage ≢ Serving = λ is. cc (sym still ∙ is) in
      let begin = first-set vs place s w at r.first in
      record {
        log = r.log;
        word = r.word;
        words = r.words;
        first = (begin.0, set_else ls other 0 None (λ z. apart (sym z ∙ sym zero_is)) ∙ begin.1);
        top = λ u h. each_set (λ j u. j ≡ 0 → FirstFits maker r.log (set ls other None) u) vs place w
            (λ _. first_fits-merge maker r.log ls s t place other mine.2 there theirs.0 theirs.2 (first_fits-set maker r.log vs place s w s at f))
            (λ j u ne _ z. absurd (ne (z ∙ sym zero_is))) 0 u (live_before ls other 0 u h).1 refl;
        each = λ j u h. each_set (Fits maker start r.log) vs place w
            (mine.0, mine.1, both.0, (λ is. absurd (not is)))
            (λ j u _ e. r.each j u e) j u (live_before ls other j u h).1;
        home = home-spend fixed history start r.word r.log state.homes ls other t there (λ is. cc (sym still_other ∙ is)) (home-set fixed history start r.word r.log state.homes vs place s w at not not r.home);
      }
