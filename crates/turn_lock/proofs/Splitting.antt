-- A pass that is split from the first keeps the rule.
use Rattle.std.proofs.Common.{◌≡◌, ◌≢◌, ℕ, ◌+◌, ◌≤◌, ⊎_elim, List, [], ◌∷◌, ◌++◌, length, set, Some, None, Option, sym, refl, ◌∙◌, subst, arith, length-set, length-append}
use Rattle.std.proofs.lemmas.List.Elements.{All-weaker}
use Rattle.atomic_table.specs.Table.{Splits}
use Rattle.atomic_table.proofs.Lists.{at_longer}
use lib.ListN.{get_elem?}
use mathlib.Core.Option.{some}
use Rattle.turn_lock.specs.declared.view.Joined.{Joined}
use Rattle.turn_lock.specs.declared.view.Standing.{Standing}
use Rattle.turn_lock.specs.declared.view.Stage.TheVariants.{Idle, Serving}
use Rattle.turn_lock.specs.Histories.{GoesOnWithout}
use Rattle.turn_lock.specs.Known.{idle}
use Rattle.turn_lock.specs.Views.{newcomer}
use Rattle.turn_lock.specs.Kept.{JoinedFits, FirstFits, Fits, Kept}
use Rattle.turn_lock.specs.Told.{split_from, newly_split}
use Rattle.turn_lock.proofs.Changes.{first-set, home-set, home-push}
use Rattle.turn_lock.proofs.Firsts.{first_fits-set}
use Rattle.turn_lock.proofs.Places.{at_pushed, Some-ne-None}
use Rattle.turn_lock.proofs.Goings.{goes_on-newcomer}
use Rattle.turn_lock.proofs.Standings.{spent_count-push, each_set, each_push}

module _ {F E : Type 0} (maker : E → ℕ) where
  first_fits-push : (log : List E) (vs : List (Option (Standing F E))) (s w n : Standing F E) → w.view ≡ record s.view { split_count = s.view.split_count + 1 } → FirstFits maker log vs s → FirstFits maker log (vs ++ Some n ∷ []) w
  first_fits-push log vs s w n is f =
      let size : length vs ≡ s.view.split_count + 1 = f.0 in
      let long : length (vs ++ Some n ∷ []) ≡ length vs + 1 = length-append vs (Some n ∷ []) in
      subst (λ v. FirstFits maker log (vs ++ Some n ∷ []) (record w { view = v })) (sym is) (
        omega arith,
        spent_count-push vs n ∙ f.1,
        All-weaker (λ e. maker e ≤ s.view.split_count) (λ e. maker e ≤ s.view.split_count + 1) (λ x le. let le' : maker x ≤ s.view.split_count = le in omega arith) log f.2,
        λ p e. f.3 p (⊎_elim (λ (h : get_elem? vs p ≡ some None). h) (λ (h : (p ≡ length vs) × (Some n ≡ None)). absurd (Some-ne-None n h.1)) (at_pushed vs (Some n) None p e)),
        All-weaker
            (λ (j : Joined E). JoinedFits maker log vs j.number j.seen)
            (λ (j : Joined E). JoinedFits maker log (vs ++ Some n ∷ []) j.number j.seen)
            (λ j h. (at_longer vs (Some n ∷ []) j.number None h.0, h.1))
            s.view.joined
            f.4,
      )

module _ {T F E : Type 0} (fixed : T → F) (history : T → List E) (maker : E → ℕ) (start : F) where
  pub splits : (place : ℕ) (s : Standing F E) → s.view.number ≡ 0 → s.stage ≡ Idle → Splits (Kept fixed history maker start) place (Some s) (split_from (Some s)) (newly_split (Some s))
  splits place s first still state r at =
      let vs : List (Option (Standing F E)) = state.views in
      let mine = r.each place s at in
      let zero_is : place ≡ 0 = sym mine.0 ∙ first in
      let w : Standing F E = record s { view = record s.view { split_count = s.view.split_count + 1 } } in
      let n : Standing F E = idle (newcomer (s.view.split_count + 1) s.view.fixed s.view.seen) in
      let ls : List (Option (Standing F E)) = set vs place (Some w) in
      let f = r.top s (subst (λ (k : ℕ). get_elem? vs k ≡ some (Some s)) zero_is at) in
      let size : length ls ≡ s.view.split_count + 1 = length-set vs place (Some w) ∙ f.0 in
      let not : s.stage ≢ Serving = λ is. cc (sym still ∙ is) in
      let begin = first-set vs place s w at r.first in
      record {
        log = r.log;
        word = r.word;
        words = r.words;
        first = (begin.0, at_longer ls (Some n ∷ []) 0 (Some begin.0) begin.1);
        top = λ t e. each_push (λ j u. j ≡ 0 → FirstFits maker r.log (ls ++ Some n ∷ []) u) ls n (λ z. absurd (omega arith))
            (each_set (λ j u. j ≡ 0 → FirstFits maker r.log (ls ++ Some n ∷ []) u) vs place w
            (λ _. first_fits-push maker r.log ls s w n refl (first_fits-set maker r.log vs place s w s at f))
            (λ j u ne _ z. absurd (ne (z ∙ sym zero_is)))) 0 t e refl;
        each = each_push (Fits maker start r.log) ls n
            (sym size, mine.1, subst (λ (k : ℕ). GoesOnWithout maker k s.view.seen r.log) (sym size) (goes_on-newcomer maker s.view.split_count s.view.seen r.log f.2 place mine.2), (λ is. absurd (cc is)))
            (each_set (Fits maker start r.log) vs place w mine (λ j u _ e. r.each j u e));
        home = home-push fixed history start r.word r.log state.homes ls n (λ is. cc is) (home-set fixed history start r.word r.log state.homes vs place s w at not not r.home);
      }
