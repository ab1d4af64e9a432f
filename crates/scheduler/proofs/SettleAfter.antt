-- What is open after a settle, and how it stands.
use Rattle.std.proofs.Common.{◌≡◌, ℕ, suc, ◌+◌, ◌<◌, Bool, true, false, List, [], ◌∷◌, length, Option, Some, None, refl, sym, ap, subst, ◌∙◌, ◌⊎◌, inl, inr, arith}
use Rattle.akl_model.proofs.Options.{some_value}
use Rattle.std.proofs.lemmas.List.{length-append}
use Rattle.std.specs.Prelude.{cond, option_map, ◌||◌, is_some, IsSome}
use Rattle.std.specs.BTreeMap.{insert_entry}
use Rattle.std.specs.Ordering.{nat_cmp}
use Rattle.akl_terms.specs.declared.name.Name.{Name}
use Rattle.akl_terms.specs.declared.name.Place.{Place}
use Rattle.akl_model.specs.declared.label.Label.{Label}
use Rattle.akl_model.specs.Config.{IsIn, Config, Found, box_at}
use Rattle.akl_model.specs.Wakes.{names_around, boxes_around, StandsIn, IsAt, IsOneOf, IsThere, nearest, SettleOpens, IsOpenAfterSettle}
use Rattle.akl_model.proofs.NamesKept.{Stand, box-itself, replay-stands}
use Rattle.step_laws.specs.Likeness.{IsOld}
use Rattle.step_laws.proofs.There.{there_site}
use Rattle.step_laws.proofs.Whereabouts.{found_in}
use Rattle.step_laws.proofs.Deeper.{Over, over, one_box}
use Rattle.plan_laws.proofs.IdlePlaces.{settle_out}
use Rattle.wake_lists.specs.Open.{Opening, Openings, opening_at, IsOpen, closed, is_busy}
use Rattle.wake_lists.specs.Standing.{is_in}
use Rattle.wake_lists.proofs.Keys.{token_equal, token_here}
use Rattle.table_laws.specs.Stamped.{IsTableOf}
use Rattle.box_tree.specs.Tables.{all_rules, TableValue, table_of}
use Rattle.box_tree.specs.Views.{run_of}
use Rattle.scheduler.specs.Openings.{IsOpenAt, AreOpenPlaces, AreOthersOpen, AreApart, AreStandingIn, name_at}
use Rattle.scheduler.specs.Settling.{OpensCandidate, opened_box}
use Rattle.scheduler.specs.Nearest.{is_used, IsQuietCandidate}
use Rattle.scheduler.specs.Weights.{weight}
use Rattle.scheduler.proofs.DroppedWaits.{Waiting}
use Rattle.scheduler.specs.Dropping.{DropsWaits}
use Rattle.scheduler.proofs.OpeningLists.{some_none, put_at, put_apart, out_at, out_apart}
use Rattle.scheduler.proofs.Outwards.{found_is, none_is}
use Rattle.scheduler.proofs.Weights.{closed_weight, closed_lighter, put_weight}
use Rattle.scheduler.proofs.OpenAfter.{in_names, names_in, some_and, and_some}
use Rattle.scheduler.proofs.CommitFacts.{not_true, not_both, or_true, or_left, or_right, stands_there}
use Rattle.scheduler.proofs.Starting.{drawn_there}
use lib.Dec.{eqb}

-- what is open under a token of the rest
further_on : (x : ℕ × Opening) (xs : Openings) (t : ℕ) (o : Opening) → opening_at x.0 xs ≡ None → opening_at t xs ≡ Some o → opening_at t (x ∷ xs) ≡ Some o
further_on x xs t o n f = by (eqb t x.0) refl
  where
    by : (b : Bool) → eqb t x.0 ≡ b → cond b (Some x.1) (opening_at t xs) ≡ Some o
    by true g = absurd (some_none f (ap (λ (k : ℕ). opening_at k xs) (token_equal t x.0 g) ∙ n))
    by false g = f

-- what is open in a box
pub busy_some : (n : Name) (os : Openings) → AreApart os → is_busy n os ≡ true → (t : ℕ) × (o : Opening) × (opening_at t os ≡ Some o) × (is_in n o.boxes ≡ true)
busy_some n [] a e = cc
busy_some n (x ∷ xs) a e = on (or_true (is_in n x.1.boxes) (is_busy n xs) e) (busy_some n xs a.1)
  where
    on : (is_in n x.1.boxes ≡ true) ⊎ (is_busy n xs ≡ true) → (is_busy n xs ≡ true → (t : ℕ) × (o : Opening) × (opening_at t xs ≡ Some o) × (is_in n o.boxes ≡ true))
        → (t : ℕ) × (o : Opening) × (opening_at t (x ∷ xs) ≡ Some o) × (is_in n o.boxes ≡ true)
    on (inl f) r = (x.0, x.1, ap (λ (b : Bool). cond b (Some x.1) (opening_at x.0 xs)) (token_here x.0), f)
    on (inr f) r =
        let w : (t : ℕ) × (o : Opening) × (opening_at t xs ≡ Some o) × (is_in n o.boxes ≡ true) = r f in
        (w.0, w.1, further_on x xs w.0 w.1 a.0 w.2, w.3)

pub some_busy : (n : Name) (os : Openings) (t : ℕ) (o : Opening) → opening_at t os ≡ Some o → is_in n o.boxes ≡ true → is_busy n os ≡ true
some_busy n [] t o e i = absurd (some_none e refl)
some_busy n (x ∷ xs) t o e i = on (eqb t x.0) e (λ f. some_busy n xs t o f i)
  where
    on : (b : Bool) → cond b (Some x.1) (opening_at t xs) ≡ Some o → (opening_at t xs ≡ Some o → is_busy n xs ≡ true) → (is_in n x.1.boxes || is_busy n xs) ≡ true
    on true f r = or_left (is_in n x.1.boxes) (is_busy n xs) (let same : x.1 ≡ o = cc in ap (λ (q : Opening). is_in n q.boxes) same ∙ i)
    on false f r = or_right (is_in n x.1.boxes) (is_busy n xs) (r f)

-- a box doesn't stand in itself
not_in_itself : (c : Config) → Stand c → (n : Name) → StandsIn n c.roots (Place.Box n) → ⊥
not_in_itself c s n h =
    let f : (f : Found) × (box_at n c.roots ≡ Some f) = there_site (Place.Box n) c.roots (stands_there n c.roots (Place.Box n) h) in
    let i : IsIn n (names_around f.0) = some_and n (boxes_around (Place.Box n) c.roots) (names_around f.0) (ap (option_map names_around) f.1) h in
    let o : Over n f.0 c.roots = over n f.0 c.roots (found_in n c.roots f.0 f.1) i in
    let same : o.outer ≡ f.0 = one_box c.roots s.once o.outer f.0 o.stands (found_in n c.roots f.0 f.1) (sym o.named ∙ box-itself n c.roots f.0 f.1) in
    let long : length f.0.around ≡ length o.outer.around + length (o.outer.content ∷ o.rest) = ap length o.path ∙ length-append o.outer.around (o.outer.content ∷ o.rest) in
    let alike : length o.outer.around ≡ length f.0.around = ap (λ (g : Found). length g.around) same in
    omega (arith, long, alike)

-- a place with its waits, in a configuration of the table
module _ (v : TableValue) (journal : List Label) (table : IsTableOf all_rules (run_of v journal) (table_of v)) (place : Place) (os : Openings) (before : List Place) (are : AreOpenPlaces os before)
    (standing : AreStandingIn table.config os) (apart : AreApart os) (own : ℕ) (token : IsOpen os place (Some own)) (still : List Place) (others : AreOthersOpen os place still) where
  abbrev c : Config
  c = table.config

  s : Stand c
  s = replay-stands all_rules v.program v.query journal c table.replays

  -- the nearest box is around the place, in fewer boxes
  abbrev IsFurther : Name → Type 0
  IsFurther n = (ns : List Name) × (ms : List Name) × (boxes_around place c.roots ≡ Some ns) × (boxes_around (Place.Box n) c.roots ≡ Some ms) × (length ms < length ns) × StandsIn n c.roots place

  out_there : (n : Name) → nearest place c.roots ≡ Some n → IsFurther n
  out_there n e = settle_out all_rules v.program v.query journal c table.replays place [] n (record { is_nearest = e; idle = λ o i. absurd i })

  near : (n : Name) → nearest place c.roots ≡ Some n → StandsIn n c.roots place × IsThere (Place.Box n) c.roots
  near n e = let w : IsFurther n = out_there n e in (w.5, ap is_some w.3)

  pub not_own : (n : Name) → nearest place c.roots ≡ Some n → Place.Box n ≡ place → ⊥
  not_own n e f = not_in_itself c s n (subst (λ (p : Place). StandsIn n c.roots p) (sym f) (near n e).0)

  own_is : (o : Opening) × (opening_at own os ≡ Some o) × (o.place ≡ place)
  own_is = token.back own refl

  -- what is open besides it keeps its token
  other_token : (t : ℕ) (o : Opening) → opening_at t os ≡ Some o → (o.place ≡ place → ⊥) → eqb t own ≡ false
  other_token t o e n = on (eqb t own) refl
    where
      on : (b : Bool) → eqb t own ≡ b → b ≡ false
      on true f = absurd (n (ap (λ (q : Opening). q.place) (some_value (sym e ∙ ap (λ (k : ℕ). opening_at k os) (token_equal t own f) ∙ own_is.1)) ∙ own_is.2))
      on false f = refl

  token_other : (t : ℕ) (o : Opening) → opening_at t os ≡ Some o → eqb t own ≡ false → o.place ≡ place → ⊥
  token_other t o e f g = not_both (ap (λ (k : ℕ). eqb k own) (sym (some_value (token.there t o e g))) ∙ token_here own) f

  abbrev rest : Openings
  rest = closed own os

  rest_from : (t : ℕ) (o : Opening) → opening_at t rest ≡ Some o → (opening_at t os ≡ Some o) × (eqb t own ≡ false)
  rest_from t o e = on (eqb t own) refl (sym (out_at own os apart t) ∙ e)
    where
      on : (b : Bool) → eqb t own ≡ b → cond b None (opening_at t os) ≡ Some o → (opening_at t os ≡ Some o) × (b ≡ false)
      on true f g = absurd (some_none g refl)
      on false f g = (g, refl)

  rest_to : (t : ℕ) (o : Opening) → opening_at t os ≡ Some o → eqb t own ≡ false → opening_at t rest ≡ Some o
  rest_to t o e f = out_at own os apart t ∙ ap (λ (b : Bool). cond b None (opening_at t os)) f ∙ e

  rest_open : (other : Place) → IsOpenAt rest other → IsOneOf other still
  rest_open other w =
      let x : (opening_at w.token os ≡ Some w.opening) × (eqb w.token own ≡ false) = rest_from w.token w.opening w.is_open in
      others.all other (record { token = w.token; opening = w.opening; is_open = x.0; of_place = w.of_place }) (λ e. token_other w.token w.opening x.0 x.1 (w.of_place ∙ e))

  open_rest : (other : Place) → IsOneOf other still → IsOpenAt rest other
  open_rest other i =
      let w : IsOpenAt os other = others.only other i in
      record { token = w.token; opening = w.opening; is_open = rest_to w.token w.opening w.is_open (other_token w.token w.opening w.is_open (λ e. others.besides (subst (λ (p : Place). IsOneOf p still) (sym w.of_place ∙ e) i))); of_place = w.of_place }

  rest_stands : AreStandingIn c rest
  rest_stands = record {
    around = λ t o n e h. standing.around t o n (rest_from t o e).0 h;
    only = λ t o n e h. standing.only t o n (rest_from t o e).0 h;
    listed = λ t o e h. standing.listed t o (rest_from t o e).0 h;
    drawn = λ t o e. standing.drawn t o (rest_from t o e).0;
  }

  -- what a settle leaves: nothing comes, or the nearest box, where nothing is open in it
  pub data Leaves (w1 : Waiting) (now : Openings) (w2 : Waiting) (result : Option ℕ) : Type 0 where
    closes : now ≡ rest → ((n : Name) → SettleOpens still c place n → ⊥) → DropsWaits w1 [] w2 → result ≡ None → Leaves w1 now w2 result
    opens : (n : Name) (t : ℕ) (o : Opening) → SettleOpens still c place n → opening_at t os ≡ None → o.place ≡ Place.Box n → boxes_around (Place.Box n) c.roots ≡ Some o.boxes
        → ((k : ℕ) → opening_at k now ≡ cond (eqb k t) (Some o) (opening_at k rest)) → AreApart now → DropsWaits w1 (Place.Box n ∷ []) w2 → result ≡ Some t → Leaves w1 now w2 result

  -- one that is open already
  open_already : (n : Name) → IsOpenAt os (Place.Box n) → nearest place c.roots ≡ Some n → (m : Name) → SettleOpens still c place m → ⊥
  open_already n w e m o =
      let same : n ≡ m = some_value (sym e ∙ o.is_nearest) in
      let x : StandsIn n c.roots place × IsThere (Place.Box n) c.roots = near n e in
      let k : (g : Found) × (box_at n c.roots ≡ Some g) = there_site (Place.Box n) c.roots x.1 in
      o.idle (Place.Box n) (others.all (Place.Box n) w (not_own n e)) (subst (λ (z : Name). IsAt z c.roots (Place.Box n)) same (inl (refl, ap is_some k.1)))

  -- something else is open in a box that stands in the nearest one
  in_use : (k : Name) → is_used os own k ≡ true → (n : Name) → ((other : Place) → StandsIn k c.roots other → StandsIn n c.roots other) → SettleOpens still c place n → ⊥
  in_use k b n further so =
      let w : (t : ℕ) × (q : Opening) × (opening_at t rest ≡ Some q) × (is_in k q.boxes ≡ true) = busy_some k rest (out_apart own os apart) b in
      so.idle w.1.place (rest_open w.1.place (record { token = w.0; opening = w.1; is_open = w.2; of_place = refl }))
      (inr (further w.1.place (standing.only w.0 w.1 k (rest_from w.0 w.1 w.2).0 w.3)))

  nothing_found : (r : Option Name) → IsQuietCandidate v os own place r → r ≡ None → (n : Name) → SettleOpens still c place n → ⊥
  nothing_found r q e n so =
      let w : (k : Name) × (is_used os own k ≡ true) × ((other : Place) → StandsIn k c.roots other → StandsIn n c.roots other) = none_is v (run_of v journal) table os own place r q e n so.is_nearest in
      in_use w.0 w.1 n w.2 so

  -- one that comes
  module _ (n : Name) (t : ℕ) (o : Opening) (is_near : nearest place c.roots ≡ Some n) (un : IsOpenAt os (Place.Box n) → ⊥) (free : opening_at t os ≡ None) (of_box : o.place ≡ Place.Box n)
      (around : boxes_around (Place.Box n) c.roots ≡ Some o.boxes) where
    abbrev mid : Openings
    mid = insert_entry nat_cmp os t o

    mid_apart : AreApart mid
    mid_apart = put_apart t o os free apart

    abbrev with_it : Openings
    with_it = closed own mid

    with_apart : AreApart with_it
    with_apart = out_apart own mid mid_apart

    other_tokens : own ≡ t → ⊥
    other_tokens e = some_none own_is.1 (ap (λ (k : ℕ). opening_at k os) e ∙ free)

    not_token : eqb t own ≡ false
    not_token = not_true (eqb t own) (λ e. other_tokens (sym (token_equal t own e)))

    with_at : (k : ℕ) → opening_at k with_it ≡ cond (eqb k t) (Some o) (opening_at k rest)
    with_at k = out_at own mid mid_apart k ∙ ap (cond (eqb k own) None) (put_at t o os k) ∙ on (eqb k t) refl ∙ ap (cond (eqb k t) (Some o)) (sym (out_at own os apart k))
      where
        on : (b : Bool) → eqb k t ≡ b → cond (eqb k own) None (cond b (Some o) (opening_at k os)) ≡ cond b (Some o) (cond (eqb k own) None (opening_at k os))
        on true e = ap (λ (b : Bool). cond b None (Some o)) (ap (λ (j : ℕ). eqb j own) (token_equal k t e) ∙ not_token)
        on false e = refl

    -- nothing else is open in it
    unused : is_used os own n ≡ false → SettleOpens still c place n
    unused b = record { is_nearest = is_near; idle = λ other i at. on other i at }
      where
        on : (other : Place) → IsOneOf other still → IsAt n c.roots other → ⊥
        on other i (inl e) = un (subst (IsOpenAt os) e.0 (others.only other i))
        on other i (inr h) =
            let w : IsOpenAt rest other = open_rest other i in
            not_both (some_busy n rest w.token w.opening w.is_open (rest_stands.around w.token w.opening n w.is_open (subst (StandsIn n c.roots) (sym w.of_place) h))) b

    -- it stands in fewer boxes than the place
    comes_lighter : weight with_it < weight os
    comes_lighter =
        let w : IsFurther n = out_there n is_near in
        let fewer : length w.1 < length w.0 = w.4 in
        let its : w.1 ≡ o.boxes = some_value (sym w.3 ∙ around) in
        let there : boxes_around own_is.0.place c.roots ≡ Some w.0 = ap (λ (p : Place). boxes_around p c.roots) own_is.2 ∙ w.2 in
        let owns : w.0 ≡ own_is.0.boxes = some_value (sym there ∙ standing.listed own own_is.0 own_is.1 (ap is_some there)) in
        let own_there : opening_at own mid ≡ Some own_is.0 = put_at t o os own ∙ ap (λ (b : Bool). cond b (Some o) (opening_at own os)) (not_true (eqb own t) (λ e. other_tokens (token_equal own t e))) ∙ own_is.1 in
        let less : weight mid ≡ suc (length own_is.0.boxes) + weight with_it = closed_weight own own_is.0 mid own_there in
        let more : weight mid ≡ suc (length o.boxes) + weight os = put_weight t o os free in
        let a : length w.1 ≡ length o.boxes = ap length its in
        let b : length w.0 ≡ length own_is.0.boxes = ap length owns in
        omega (arith, fewer, less, more, a, b)

  module _ (r : Option Name) (middle : Openings) (found : Option ℕ) (quiet : IsQuietCandidate v os own place r) where
    -- what is found is the nearest box, and nothing else is open in it
    is_found : (n : Name) → r ≡ Some n → (nearest place c.roots ≡ Some n) × (is_used os own n ≡ false)
    is_found n e = found_is v (run_of v journal) table os own place r quiet n e

    is_there : (n : Name) → r ≡ Some n → boxes_around (Place.Box n) c.roots ≡ None → ⊥
    is_there n e none = let some : IsSome (boxes_around (Place.Box n) c.roots) = (near n (is_found n e).0).1 in not_both some (ap is_some none)

    nothing_came : (w1 w2 : Waiting) → middle ≡ os → found ≡ None → opened_box r found ≡ [] → ((n : Name) → SettleOpens still c place n → ⊥) → DropsWaits w1 (opened_box r found) w2 → Leaves w1 (closed own middle) w2 found
    nothing_came w1 w2 m f b shut d = closes (ap (closed own) m) shut (subst (λ (ps : List Place). DropsWaits w1 ps w2) b d) f

    nothing_opened : (q : Option Name) (f : Option ℕ) → f ≡ None → opened_box q f ≡ []
    nothing_opened None f e = refl
    nothing_opened (Some n) None e = refl
    nothing_opened (Some n) (Some t) e = absurd (some_none refl e)

    pub leaves : (w1 w2 : Waiting) → OpensCandidate v os r middle found → DropsWaits w1 (opened_box r found) w2 → Leaves w1 (closed own middle) w2 found
    leaves w1 w2 (OpensCandidate.no_box e m f) d = nothing_came w1 w2 m f (nothing_opened r found f) (λ n o. nothing_found r quiet e n o) d
    leaves w1 w2 (OpensCandidate.was_open n e w m f) d = nothing_came w1 w2 m f (nothing_opened r found f) (open_already n w (is_found n e).0) d
    leaves w1 w2 (OpensCandidate.isnt_there n e a m f) d = absurd (is_there n e (a (run_of v journal) table))
    leaves w1 w2 (OpensCandidate.comes n t o e un free of_box a m f) d =
        let x : (nearest place c.roots ≡ Some n) × (is_used os own n ≡ false) = is_found n e in
        let around : boxes_around (Place.Box n) c.roots ≡ Some o.boxes = a (run_of v journal) table in
        let same : closed own middle ≡ with_it n t o x.0 un free of_box around = ap (closed own) m in
        let one : opened_box r found ≡ Place.Box n ∷ [] = λ i. opened_box (e i) (f i) in
        opens n t o (unused n t o x.0 un free of_box around x.1) free of_box around (λ k. ap (opening_at k) same ∙ with_at n t o x.0 un free of_box around k) (subst AreApart (sym same) (with_apart n t o x.0 un free of_box around))
        (subst (λ (ps : List Place). DropsWaits w1 ps w2) one d) f

    same_lighter : middle ≡ os → weight (closed own middle) < weight os
    same_lighter m = subst (λ (l : Openings). weight (closed own l) < weight os) (sym m) (closed_lighter own own_is.0 os own_is.1)

    -- the own place counted more than what comes
    pub lighter : OpensCandidate v os r middle found → weight (closed own middle) < weight os
    lighter (OpensCandidate.no_box e m f) = same_lighter m
    lighter (OpensCandidate.was_open n e w m f) = same_lighter m
    lighter (OpensCandidate.isnt_there n e a m f) = same_lighter m
    lighter (OpensCandidate.comes n t o e un free of_box a m f) =
        subst (λ (l : Openings). weight (closed own l) < weight os) (sym m) (comes_lighter n t o (is_found n e).0 un free of_box (a (run_of v journal) table))

  -- what is open then
  module _ (w1 : Waiting) (now : Openings) (w2 : Waiting) (result : Option ℕ) (x : Leaves w1 now w2 result) where
    pub open_is : (other : Place) → IsOpenAt now other → IsOpenAfterSettle still c place other
    open_is other w = on x
      where
        on : Leaves w1 now w2 result → IsOpenAfterSettle still c place other
        on (closes e shut f g) = IsOpenAfterSettle.stays (rest_open other (subst (λ (z : Openings). IsOpenAt z other) e w))
        on (opens n t o so free of_box around at apart_now drops g) = by (eqb w.token t) refl (sym (at w.token) ∙ w.is_open)
          where
            by : (b : Bool) → eqb w.token t ≡ b → cond b (Some o) (opening_at w.token rest) ≡ Some w.opening → IsOpenAfterSettle still c place other
            by true e f = subst (IsOpenAfterSettle still c place) (sym of_box ∙ ap (λ (q : Opening). q.place) (some_value f) ∙ w.of_place) (IsOpenAfterSettle.opened so)
            by false e f = IsOpenAfterSettle.stays (rest_open other (record { token = w.token; opening = w.opening; is_open = f; of_place = w.of_place }))

    pub open_all : (other : Place) → IsOpenAfterSettle still c place other → IsOpenAt now other
    open_all other (IsOpenAfterSettle.stays i) = on x (open_rest other i)
      where
        on : Leaves w1 now w2 result → IsOpenAt rest other → IsOpenAt now other
        on (closes e shut f g) w = subst (λ (z : Openings). IsOpenAt z other) (sym e) w
        on (opens n t o so free of_box around at apart_now drops g) w = record { token = w.token; opening = w.opening; is_open = at w.token ∙ by (eqb w.token t) refl; of_place = w.of_place }
          where
            by : (b : Bool) → eqb w.token t ≡ b → cond b (Some o) (opening_at w.token rest) ≡ Some w.opening
            by true e = absurd (some_none (rest_from w.token w.opening w.is_open).0 (ap (λ (j : ℕ). opening_at j os) (token_equal w.token t e) ∙ free))
            by false e = w.is_open
    open_all _ (IsOpenAfterSettle.opened {n = m} so) = on x
      where
        on : Leaves w1 now w2 result → IsOpenAt now (Place.Box m)
        on (closes e shut f g) = absurd (shut m so)
        on (opens n t o so2 free of_box around at apart_now drops g) = record {
          token = t;
          opening = o;
          is_open = at t ∙ ap (λ (b : Bool). cond b (Some o) (opening_at t rest)) (token_here t);
          of_place = of_box ∙ ap Place.Box (some_value (sym so2.is_nearest ∙ so.is_nearest));
        }

    pub now_apart : AreApart now
    now_apart = on x
      where
        on : Leaves w1 now w2 result → AreApart now
        on (closes e shut f g) = subst AreApart (sym e) (out_apart own os apart)
        on (opens n t o so free of_box around at apart_now drops g) = apart_now

    pub now_stands : AreStandingIn c now
    now_stands = on x
      where
        on : Leaves w1 now w2 result → AreStandingIn c now
        on (closes e shut f g) = subst (AreStandingIn c) (sym e) rest_stands
        on (opens n t o so free of_box around at apart_now drops g) = record {
          around = λ k q m e h. elim (either k q e) [
            | inl z ↦ subst (λ (y : Opening). is_in m y.boxes ≡ true) z (names_in m o.boxes (some_and m (boxes_around (Place.Box n) c.roots) o.boxes around (subst (StandsIn m c.roots) (sym (ap (λ (y : Opening). y.place) z) ∙ of_box) h)))
            | inr z ↦ rest_stands.around k q m z h
          ];
          only = λ k q m e h. elim (either k q e) [
            | inl z ↦ subst (StandsIn m c.roots) (sym of_box ∙ ap (λ (y : Opening). y.place) z) (and_some m (boxes_around (Place.Box n) c.roots) o.boxes around (in_names m o.boxes (ap (λ (y : Opening). is_in m y.boxes) z ∙ h)))
            | inr z ↦ rest_stands.only k q m z h
          ];
          listed = λ k q e h. elim (either k q e) [
            | inl z ↦ subst (λ (y : Opening). boxes_around y.place c.roots ≡ Some y.boxes) z (ap (λ (p : Place). boxes_around p c.roots) of_box ∙ around)
            | inr z ↦ rest_stands.listed k q z h
          ];
          drawn = λ k q e. elim (either k q e) [
            | inl z ↦ subst (λ (y : Place). IsOld c (name_at y)) (sym of_box ∙ ap (λ (y : Opening). y.place) z) (drawn_there c s (Place.Box n) (ap is_some around))
            | inr z ↦ rest_stands.drawn k q z
          ];
        }
          where
            either : (k : ℕ) (q : Opening) → opening_at k now ≡ Some q → (o ≡ q) ⊎ (opening_at k rest ≡ Some q)
            either k q e = by (eqb k t) (sym (at k) ∙ e)
              where
                by : (b : Bool) → cond b (Some o) (opening_at k rest) ≡ Some q → (o ≡ q) ⊎ (opening_at k rest ≡ Some q)
                by true f = inl (some_value f)
                by false f = inr f
