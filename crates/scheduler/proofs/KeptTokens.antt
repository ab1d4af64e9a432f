-- Places that stay open keep their tokens, when others are opened, one is closed, or boxes leave.
use Rattle.std.proofs.Common.{◌≡◌, ℕ, Bool, true, false, List, [], Option, Some, None, refl, sym, ap, subst, ◌∙◌, ◌⊎◌, inl, inr}
use Rattle.std.specs.Prelude.{cond, if◌then◌else◌, option_map}
use Rattle.std.specs.BTreeMap.{insert_entry}
use Rattle.std.specs.Ordering.{nat_cmp}
use Rattle.akl_terms.specs.declared.name.Name.{Name}
use Rattle.akl_terms.specs.declared.name.Place.{Place}
use Rattle.akl_model.proofs.Options.{some_value, map_some}
use Rattle.box_tree.specs.Tables.{TableValue}
use Rattle.wake_lists.specs.Open.{Opening, Openings, opening_at, IsOpen, closed, after_leave}
use Rattle.wake_lists.proofs.Keys.{token_equal, token_here}
use Rattle.opened_places.specs.Placed.{PlacedValue}
use Rattle.scheduler.specs.Openings.{IsOpenAt, AreApart, IsNumberIn, token_list, LeadsTo, KeepsTokens}
use Rattle.scheduler.specs.Opening.{AreOpened}
use Rattle.scheduler.specs.Dropping.{is_place_in, boxes_among, closed_one, after_going}
use Rattle.scheduler.specs.Settling.{OpensCandidate}
use Rattle.scheduler.proofs.OpeningLists.{some_none, put_at, put_apart, out_at, leave_at, leave_apart, without_all, same_after}
use lib.Dec.{eqb}

-- what was open stays under its token, and what comes wasn't open, under these tokens
pub record Grows (before now : Openings) (ts : List ℕ) : Type 0 where
  pub stays : (t : ℕ) (o : Opening) → opening_at t before ≡ Some o → LeadsTo now t o.place
  pub back : (t : ℕ) (o : Opening) → opening_at t now ≡ Some o → IsOpenAt before o.place → LeadsTo before t o.place
  pub only : (t : ℕ) (o : Opening) → opening_at t now ≡ Some o → LeadsTo before t o.place ⊎ IsNumberIn t ts

pub grown_keeps : (before now : Openings) (ts : List ℕ) → Grows before now ts → KeepsTokens before now ts
grown_keeps before now ts g = record { each = λ t o e w. g.stays t o e; only = g.only }

-- and so it is where all stay as they were
pub same_keeps : (os : Openings) → KeepsTokens os os []
same_keeps os = record { each = λ t o e w. (o, e, refl); only = λ t o e. inl (o, e, refl) }

-- then what has the token of one place is closed
module _ (before mid : Openings) (ts : List ℕ) (g : Grows before mid ts) (apart : AreApart mid) (own : ℕ) (place : Place) (token : IsOpen before place (Some own)) where
  closed_at : (t : ℕ) → opening_at t (closed own mid) ≡ cond (eqb t own) None (opening_at t mid)
  closed_at t = out_at own mid apart t

  -- its place isn't open any more
  shut : IsOpenAt (closed own mid) place → ⊥
  shut w = on (eqb w.token own) refl (sym (closed_at w.token) ∙ w.is_open)
    where
      on : (b : Bool) → eqb w.token own ≡ b → cond b None (opening_at w.token mid) ≡ Some w.opening → ⊥
      on true f e = some_none e refl
      on false f e =
          let old : (o : Opening) × (opening_at own before ≡ Some o) × (o.place ≡ place) = token.back own refl in
          let x : LeadsTo before w.token w.opening.place = g.back w.token w.opening e (record { token = own; opening = old.0; is_open = old.1; of_place = old.2 ∙ sym w.of_place }) in
          let same : own ≡ w.token = some_value (token.there w.token x.0 x.1 (x.2 ∙ w.of_place)) in
          let here : eqb w.token own ≡ true = ap (eqb w.token) same ∙ token_here w.token in
          let no : true ≡ false = sym here ∙ f in cc

  pub closing_keeps : KeepsTokens before (closed own mid) ts
  closing_keeps = record { each = λ t o e w. on t o e w (eqb t own) refl; only = λ t o e. left t o (eqb t own) (sym (closed_at t) ∙ e) }
    where
      left : (t : ℕ) (o : Opening) (b : Bool) → cond b None (opening_at t mid) ≡ Some o → LeadsTo before t o.place ⊎ IsNumberIn t ts
      left t o true e = absurd (some_none e refl)
      left t o false e = g.only t o e

      on : (t : ℕ) (o : Opening) → opening_at t before ≡ Some o → IsOpenAt (closed own mid) o.place → (b : Bool) → eqb t own ≡ b → LeadsTo (closed own mid) t o.place
      on t o e w true f =
          let old : (o : Opening) × (opening_at own before ≡ Some o) × (o.place ≡ place) = token.back own refl in
          let same : o ≡ old.0 = some_value (sym e ∙ ap (λ (k : ℕ). opening_at k before) (token_equal t own f) ∙ old.1) in
          absurd (shut (subst (IsOpenAt (closed own mid)) (ap (λ (q : Opening). q.place) same ∙ old.2) w))
      on t o e w false f =
          let x : LeadsTo mid t o.place = g.stays t o e in
          (x.0, closed_at t ∙ ap (λ (b : Bool). cond b None (opening_at t mid)) f ∙ x.1, x.2)

-- places are opened, and boxes leave
module _ (before : Openings) (ps : List PlacedValue) (mid : Openings) (ts : List ℕ) (r : AreOpened before ps mid ts) (ns : List Name) where
  abbrev left : Openings
  left = after_leave ns mid

  opened_stays : (t : ℕ) (o : Opening) → opening_at t before ≡ Some o → LeadsTo left t o.place
  opened_stays t o e = (without_all ns o, leave_at ns mid t ∙ ap (option_map (without_all ns)) (r.stays t o e), same_after ns o)

  opened_back : (t : ℕ) (o : Opening) → opening_at t left ≡ Some o → IsOpenAt before o.place → LeadsTo before t o.place
  opened_back t o e w =
      let v : (p : Opening) × (opening_at t mid ≡ Some p) × (without_all ns p ≡ o) = map_some (without_all ns) (opening_at t mid) o (sym (leave_at ns mid t) ∙ e) in
      let same : v.0.place ≡ o.place = sym (same_after ns v.0) ∙ ap (λ (q : Opening). q.place) v.2 in
      elim (r.each t v.0 v.1) [
        | inl f ↦ (v.0, f, same)
        | inr n ↦ absurd (n.unopened (subst (IsOpenAt before) (sym same) w))
      ]

  opened_only : (t : ℕ) (o : Opening) → opening_at t left ≡ Some o → LeadsTo before t o.place ⊎ IsNumberIn t ts
  opened_only t o e =
      let v : (p : Opening) × (opening_at t mid ≡ Some p) × (without_all ns p ≡ o) = map_some (without_all ns) (opening_at t mid) o (sym (leave_at ns mid t) ∙ e) in
      let same : v.0.place ≡ o.place = sym (same_after ns v.0) ∙ ap (λ (q : Opening). q.place) v.2 in
      elim (r.each t v.0 v.1) [ inl f ↦ inl (v.0, f, same) | inr n ↦ inr n.listed ]

  opened_grows : Grows before left ts
  opened_grows = record { stays = opened_stays; back = opened_back; only = opened_only }

-- so it is after a commit, and after a settle
module _ (before : Openings) (ps : List PlacedValue) (mid : Openings) (ts : List ℕ) (r : AreOpened before ps mid ts) (apart : AreApart before) (place : Place) (gone : List Place) where
  abbrev after : Openings
  after = after_leave (boxes_among gone) mid

  grows : Grows before after ts
  grows = opened_grows before ps mid ts r (boxes_among gone)

  pub going_keeps : (own : Option ℕ) → IsOpen before place own → KeepsTokens before (after_going own place gone mid) ts
  going_keeps own token = on (is_place_in place gone) own token
    where
      on : (b : Bool) (o : Option ℕ) → IsOpen before place o → KeepsTokens before (if b then closed_one o after else after) ts
      on true None k = grown_keeps before after ts grows
      on true (Some t) k = closing_keeps before after ts grows (leave_apart (boxes_among gone) mid (r.apart apart)) t place k
      on false o k = grown_keeps before after ts grows

module _ (v : TableValue) (before : Openings) (apart : AreApart before) where
  same_grows : (mid : Openings) (ts : List ℕ) → mid ≡ before → Grows before mid ts × AreApart mid
  same_grows mid ts m = (
    subst (λ (os : Openings). Grows before os ts) (sym m) (record { stays = λ t o e. (o, e, refl); back = λ t o e w. (o, e, refl); only = λ t o e. inl (o, e, refl) }),
    subst AreApart (sym m) apart,
  )

  candidate_grows : (near : Option Name) (mid : Openings) (found : Option ℕ) → OpensCandidate v before near mid found → Grows before mid (token_list found) × AreApart mid
  candidate_grows near mid found (OpensCandidate.no_box e m f) = same_grows mid (token_list found) m
  candidate_grows near mid found (OpensCandidate.was_open n e w m f) = same_grows mid (token_list found) m
  candidate_grows near mid found (OpensCandidate.isnt_there n e a m f) = same_grows mid (token_list found) m
  candidate_grows near mid found (OpensCandidate.comes n t o e un free of_box a m f) = (subst (λ (os : Openings). Grows before os (token_list found)) (sym m) (record { stays = stays; back = back; only = only }), subst AreApart (sym m) (put_apart t o before free apart))
    where
      stays : (s : ℕ) (q : Opening) → opening_at s before ≡ Some q → LeadsTo (insert_entry nat_cmp before t o) s q.place
      stays s q g = (q, put_at t o before s ∙ on (eqb s t) refl, refl)
        where
          on : (b : Bool) → eqb s t ≡ b → cond b (Some o) (opening_at s before) ≡ Some q
          on true h = absurd (some_none g (ap (λ (k : ℕ). opening_at k before) (token_equal s t h) ∙ free))
          on false h = g

      back : (s : ℕ) (q : Opening) → opening_at s (insert_entry nat_cmp before t o) ≡ Some q → IsOpenAt before q.place → LeadsTo before s q.place
      back s q g w = on (eqb s t) (sym (put_at t o before s) ∙ g)
        where
          on : (b : Bool) → cond b (Some o) (opening_at s before) ≡ Some q → LeadsTo before s q.place
          on true h = absurd (un (subst (IsOpenAt before) (ap (λ (x : Opening). x.place) (sym (some_value h)) ∙ of_box) w))
          on false h = (q, h, refl)

      only : (s : ℕ) (q : Opening) → opening_at s (insert_entry nat_cmp before t o) ≡ Some q → LeadsTo before s q.place ⊎ IsNumberIn s (token_list found)
      only s q g = on (eqb s t) refl (sym (put_at t o before s) ∙ g)
        where
          on : (b : Bool) → eqb s t ≡ b → cond b (Some o) (opening_at s before) ≡ Some q → LeadsTo before s q.place ⊎ IsNumberIn s (token_list found)
          on true k h = inr (subst (λ (r : Option ℕ). IsNumberIn s (token_list r)) (sym f) (inl (token_equal s t k)))
          on false k h = inl (q, h, refl)

  pub settle_keeps : (near : Option Name) (mid : Openings) (found : Option ℕ) → OpensCandidate v before near mid found → (own : ℕ) (place : Place) → IsOpen before place (Some own) → KeepsTokens before (closed own mid) (token_list found)
  settle_keeps near mid found o own place token = let w : Grows before mid (token_list found) × AreApart mid = candidate_grows near mid found o in closing_keeps before mid (token_list found) w.0 w.1 own place token
