-- When open places come doesn't count for what a scheduler is, nor for what a commit makes of it.
use Rattle.std.proofs.Common.{◌≡◌, ℕ, Bool, true, false, List, [], ◌∷◌, Option, Some, None, refl, sym, ap, subst, ◌∙◌, ◌⊎◌}
use Rattle.std.specs.Prelude.{cond, option_map, ⊤, Result, Ok, Err, IfOk, IfErr}
use Rattle.akl_terms.specs.declared.name.Name.{Name}
use Rattle.akl_terms.specs.declared.name.Place.{Place}
use Rattle.akl_model.specs.Config.{Config}
use Rattle.akl_model.specs.Wakes.{StandsIn, IsThere, boxes_around}
use Rattle.akl_model.proofs.Options.{map_some, map_none}
use Rattle.step_laws.specs.Likeness.{IsOld}
use Rattle.box_tree.specs.Plans.{PlanValue}
use Rattle.wake_lists.specs.Open.{Opening, Openings, opening_at, untimed}
use Rattle.wake_lists.specs.Standing.{is_in}
use Rattle.step_commit.specs.Cores.{Commits}
use Rattle.scheduler.specs.declared.committing.Committed.{Committed}
use Rattle.scheduler.specs.Openings.{IsOpenAt, AreOpenPlaces, AreApart, AreStandingIn, IsNumberIn, LeadsTo, AreNewTokens, KeepsTokens, name_at}
use Rattle.scheduler.specs.Schedulers.{SchedulerValue, IsScheduler}
use Rattle.scheduler.specs.Committed.{IsOpenAndKept, CommitsAndOpens, CommitsWithTurns, SuspectsAreUrgent}
use lib.Dec.{eqb}

-- an opening without its turn
abbrev Standing : Type 0
Standing = Place × List Name

abbrev bare : Opening → Standing
bare o = (o.place, o.boxes)

abbrev bare_at : ℕ → List (ℕ × Place × List Name) → Option Standing
bare_at t [] = None
bare_at t (e ∷ es) = cond (eqb t e.0) (Some (e.1, e.2)) (bare_at t es)

bare_is : (t : ℕ) (os : Openings) → option_map bare (opening_at t os) ≡ bare_at t (untimed os)
bare_is t [] = refl
bare_is t (x ∷ xs) = on (eqb t x.0) (bare_is t xs)
  where
    on : (b : Bool) → option_map bare (opening_at t xs) ≡ bare_at t (untimed xs) → option_map bare (cond b (Some x.1) (opening_at t xs)) ≡ cond b (Some (bare x.1)) (bare_at t (untimed xs))
    on true r = refl
    on false r = r

module _ (a b : Openings) (same : untimed b ≡ untimed a) where
  bare_same : (t : ℕ) → option_map bare (opening_at t b) ≡ option_map bare (opening_at t a)
  bare_same t = bare_is t b ∙ ap (bare_at t) same ∙ sym (bare_is t a)

  -- what is open under a token was so, in the same boxes
  record Was (t : ℕ) (o : Opening) : Type 0 where
    was : Opening
    is_was : opening_at t a ≡ Some was
    of_place : was.place ≡ o.place
    of_boxes : was.boxes ≡ o.boxes

  was_so : (t : ℕ) (o : Opening) → opening_at t b ≡ Some o → Was t o
  was_so t o e =
      let w : (p : Opening) × (opening_at t a ≡ Some p) × (bare p ≡ bare o) = map_some bare (opening_at t a) (bare o) (sym (bare_same t) ∙ ap (option_map bare) e) in
      record { was = w.0; is_was = w.1; of_place = ap (λ (s : Standing). s.0) w.2; of_boxes = ap (λ (s : Standing). s.1) w.2 }

  pub untimed_open : (place : Place) → IsOpenAt b place → IsOpenAt a place
  untimed_open place w = let x : Was w.token w.opening = was_so w.token w.opening w.is_open in record { token = w.token; opening = x.was; is_open = x.is_was; of_place = x.of_place ∙ w.of_place }

  pub untimed_standing : (c : Config) → AreStandingIn c a → AreStandingIn c b
  untimed_standing c s = record {
    around = λ t o n e h. let x : Was t o = was_so t o e in ap (is_in n) (sym x.of_boxes) ∙ s.around t x.was n x.is_was (subst (StandsIn n c.roots) (sym x.of_place) h);
    only = λ t o n e h. let x : Was t o = was_so t o e in subst (StandsIn n c.roots) x.of_place (s.only t x.was n x.is_was (ap (is_in n) x.of_boxes ∙ h));
    listed = λ t o e h.
        let x : Was t o = was_so t o e in
        ap (λ (p : Place). boxes_around p c.roots) (sym x.of_place) ∙ s.listed t x.was x.is_was (subst (λ (p : Place). IsThere p c.roots) (sym x.of_place) h) ∙ ap Some x.of_boxes;
    drawn = λ t o e. let x : Was t o = was_so t o e in subst (λ (p : Place). IsOld c (name_at p)) x.of_place (s.drawn t x.was x.is_was);
  }

-- no token stands twice
abbrev AreBareApart : List (ℕ × Place × List Name) → Type 0
AreBareApart [] = ⊤
AreBareApart (e ∷ es) = (bare_at e.0 es ≡ None) × AreBareApart es

bare_apart : (os : Openings) → AreApart os → AreBareApart (untimed os)
bare_apart [] a = tt
bare_apart (x ∷ xs) a = (sym (bare_is x.0 xs) ∙ ap (option_map bare) a.0, bare_apart xs a.1)

apart_bare : (os : Openings) → AreBareApart (untimed os) → AreApart os
apart_bare [] a = tt
apart_bare (x ∷ xs) a = (map_none bare (opening_at x.0 xs) (bare_is x.0 xs ∙ a.0), apart_bare xs a.1)

pub untimed_apart : (a b : Openings) → untimed b ≡ untimed a → AreApart a → AreApart b
untimed_apart a b e h = apart_bare b (subst AreBareApart (sym e) (bare_apart a h))

pub untimed_places : (a b : Openings) → untimed b ≡ untimed a → (now : List Place) → AreOpenPlaces a now → AreOpenPlaces b now
untimed_places a b e now h = record { all = λ place w. h.all place (untimed_open a b e place w); only = λ place i. untimed_open b a (sym e) place (h.only place i) }

pub untimed_scheduler : (s : SchedulerValue) → IsScheduler s → (os : Openings) → untimed os ≡ untimed s.openings → IsScheduler (record s { openings = os })
untimed_scheduler s h os e = record {
  core = h.core;
  now = h.now;
  are_open = untimed_places s.openings os e h.now h.are_open;
  kept = h.kept;
  listed = h.listed;
  run = h.run;
  waits = h.waits;
  apart = untimed_apart s.openings os e h.apart;
  standing = untimed_standing s.openings os e h.core.table.config h.standing;
}

-- where only turns may change, or nothing does
pub untimed_either : {E : Type 0} (r : Result (Unit {0}) E) (a b : Openings) → IfOk r (λ x. untimed b ≡ untimed a) → IfErr r (λ x. b ≡ a) → untimed b ≡ untimed a
untimed_either (Ok x) a b h k = h
untimed_either (Err x) a b h k = ap untimed k

untimed_tokens : (before a b : Openings) → untimed b ≡ untimed a → (ts : List ℕ) → AreNewTokens before a ts → AreNewTokens before b ts
untimed_tokens before a b e ts h = record {
  new = λ t i.
      let w : (o : Opening) × (opening_at t a ≡ Some o) × (IsOpenAt before o.place → ⊥) = h.new t i in
      let x : Was b a (sym e) t w.0 = was_so b a (sym e) t w.0 w.1 in
      (x.was, x.is_was, λ z. w.2 (subst (IsOpenAt before) x.of_place z));
  all = λ t o i n. let x : Was a b e t o = was_so a b e t o i in h.all t x.was x.is_was (λ z. n (subst (IsOpenAt before) x.of_place z));
  once = h.once;
}

pub untimed_keeps : (before a b : Openings) (ts : List ℕ) → untimed b ≡ untimed a → KeepsTokens before a ts → KeepsTokens before b ts
untimed_keeps before a b ts e h = record {
  each = λ t o i w.
      let y : LeadsTo a t o.place = h.each t o i (untimed_open a b e o.place w) in
      let x : Was b a (sym e) t y.0 = was_so b a (sym e) t y.0 y.1 in
      (x.was, x.is_was, x.of_place ∙ y.2);
  only = λ t o i. let x : Was a b e t o = was_so a b e t o i in subst (λ (place : Place). LeadsTo before t place ⊎ IsNumberIn t ts) x.of_place (h.only t x.was x.is_was);
}

commits_untimed : (s : SchedulerValue) (p : PlanValue) (d : SchedulerValue) (r q : Committed) → CommitsWithTurns ⊤ s p d r → (os : Openings) → untimed os ≡ untimed d.openings → q.receipt ≡ r.receipt → q.opened ≡ r.opened
    → SuspectsAreUrgent s (record d { openings = os }) p → CommitsAndOpens s p (record d { openings = os }) q
commits_untimed s p d r q h os e f g u = record {
  commits = subst (Commits s.core p d.core) (sym f) h.commits;
  follows = λ t u before kept a w.
      let x : IsOpenAndKept s d p t u before kept = h.follows t u before kept a w in
      record {
        is_open = λ place. (λ i. (x.is_open place).0 (untimed_open d.openings os e place i), λ i. untimed_open os d.openings (sym e) place ((x.is_open place).1 i));
        waits = x.waits;
      };
  keeps = subst (KeepsTokens s.openings os) (sym (ap (λ z. z.items) g)) (untimed_keeps s.openings d.openings os r.opened.items e h.keeps);
  tokens = untimed_tokens s.openings d.openings os e q.opened.items (subst (λ (ts : List ℕ). AreNewTokens s.openings d.openings ts) (sym (ap (λ v. v.items) g)) h.tokens);
  turns = u;
}

pub untimed_commits : (s : SchedulerValue) (p : PlanValue) (d e : SchedulerValue) (r q : Committed) → CommitsWithTurns ⊤ s p d r → untimed e.openings ≡ untimed d.openings → e.core ≡ d.core → e.waits ≡ d.waits → q.receipt ≡ r.receipt → q.opened ≡ r.opened
    → SuspectsAreUrgent s e p → CommitsAndOpens s p e q
untimed_commits s p d e r q h x y z f g u = subst (λ (v : SchedulerValue). CommitsAndOpens s p v q) same (commits_untimed s p d r q h e.openings x f g (subst (λ (v : SchedulerValue). SuspectsAreUrgent s v p) (sym same) u))
  where
    same : record d { openings = e.openings } ≡ e
    same = λ i. record { core = sym y i; openings = e.openings; waits = sym z i }
