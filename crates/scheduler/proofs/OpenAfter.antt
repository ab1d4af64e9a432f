-- What is open after a commit, and how it stands.
use Rattle.std.proofs.Common.{◌≡◌, ℕ, Bool, true, false, List, [], ◌∷◌, Option, Some, None, refl, sym, ap, subst, ◌∙◌, ◌⊎◌, inl, inr}
use Rattle.scheduler.proofs.PlacedThose.{of_placed}
use Rattle.akl_model.proofs.Options.{some_value}
use Rattle.std.specs.Prelude.{cond, if◌then◌else◌, option_map, IsSomeAnd, is_some}
use Rattle.akl_terms.specs.declared.name.Name.{Name}
use Rattle.akl_terms.specs.declared.name.Place.{Place}
use Rattle.akl_terms.specs.Names.{same_name}
use Rattle.akl_terms.proofs.SameNames.{same_name-equal}
use Rattle.akl_model.specs.declared.label.Label.{Label}
use Rattle.akl_model.specs.Config.{IsIn, Config}
use Rattle.akl_model.specs.Wakes.{boxes_around, StandsIn, Wait, IsOneOf, IsThere, Opens, IsOpenAfterCommit}
use Rattle.step_laws.specs.Likeness.{IsOld}
use Rattle.constraint_laws.proofs.SameTerms.{Either}
use Rattle.step_laws.proofs.Decide.{there_or}
use Rattle.wake_lists.specs.Open.{Opening, Openings, opening_at, IsOpen, after_leave}
use Rattle.wake_lists.specs.Standing.{is_in}
use Rattle.wake_lists.specs.Waits.{same_place}
use Rattle.wake_lists.proofs.Keys.{token_equal, token_here}
use Rattle.wake_lists.proofs.Both.{same_place-equal}
use Rattle.opened_places.specs.Placed.{PlacedValue, placed, places_of}
use Rattle.scheduler.specs.Openings.{IsOpenAt, AreOpenPlaces, AreApart, AreStandingIn, AreNewTokens, IsNumberIn, name_at}
use Rattle.scheduler.specs.Opening.{IsNewOpening, AreOpened}
use Rattle.scheduler.specs.Effects.{StandsNow, stands, goes}
use Rattle.scheduler.specs.Dropping.{is_place_in, boxes_among, closed_one, closed_among, after_going}
use Rattle.scheduler.proofs.OpeningLists.{some_none, out_at, out_apart, leave_at, leave_apart, without_all, same_after, leaves_from, without_none, without_some, without_less}
use Rattle.scheduler.proofs.CommitFacts.{not_true, CommitFacts, not_both, or_true, or_left, or_right, place_itself, listed_place, place_listed, box_among, among_box, stands_there}
use lib.Dec.{eqb}

-- the token isn't the one that is closed
abbrev pub IsLeft : Option ℕ → Place → List Place → ℕ → Type 0
IsLeft own place gone t = own ≡ Some t → is_place_in place gone ≡ true → ⊥

module _ (place : Place) (gone : List Place) (os : Openings) (apart : AreApart os) where
  one_from : (own : Option ℕ) (t : ℕ) (q : Opening) → opening_at t (closed_one own os) ≡ Some q → (opening_at t os ≡ Some q) × (own ≡ Some t → ⊥)
  one_from None t q e = (e, λ n. cc)
  one_from (Some s) t q e = on (eqb t s) refl (sym (out_at s os apart t) ∙ e)
    where
      on : (b : Bool) → eqb t s ≡ b → cond b None (opening_at t os) ≡ Some q → (opening_at t os ≡ Some q) × (Some s ≡ Some t → ⊥)
      on true f g = absurd (some_none g refl)
      on false f g = (g, λ n. not_both (let same : s ≡ t = cc in ap (eqb t) same ∙ token_here t) f)

  one_to : (own : Option ℕ) (t : ℕ) (q : Opening) → opening_at t os ≡ Some q → (own ≡ Some t → ⊥) → opening_at t (closed_one own os) ≡ Some q
  one_to None t q e n = e
  one_to (Some s) t q e n = out_at s os apart t ∙ on (eqb t s) refl
    where
      on : (b : Bool) → eqb t s ≡ b → cond b None (opening_at t os) ≡ Some q
      on true f = absurd (n (ap Some (sym (token_equal t s f))))
      on false f = e

  pub among_from : (own : Option ℕ) (t : ℕ) (q : Opening) → opening_at t (closed_among own place gone os) ≡ Some q → (opening_at t os ≡ Some q) × IsLeft own place gone t
  among_from own t q e = on (is_place_in place gone) refl e
    where
      on : (b : Bool) → is_place_in place gone ≡ b → opening_at t (if b then closed_one own os else os) ≡ Some q → (opening_at t os ≡ Some q) × IsLeft own place gone t
      on true f g = let w : (opening_at t os ≡ Some q) × (own ≡ Some t → ⊥) = one_from own t q g in (w.0, λ n i. w.1 n)
      on false f g = (g, λ n i. not_both i f)

  pub among_to : (own : Option ℕ) (t : ℕ) (q : Opening) → opening_at t os ≡ Some q → IsLeft own place gone t → opening_at t (closed_among own place gone os) ≡ Some q
  among_to own t q e n = on (is_place_in place gone) refl
    where
      on : (b : Bool) → is_place_in place gone ≡ b → opening_at t (if b then closed_one own os else os) ≡ Some q
      on true f = one_to own t q e (λ m. n m f)
      on false f = e

  pub among_apart : (own : Option ℕ) → AreApart (closed_among own place gone os)
  among_apart own = on (is_place_in place gone) own
    where
      on : (b : Bool) (o : Option ℕ) → AreApart (if b then closed_one o os else os)
      on true None = apart
      on true (Some s) = out_apart s os apart
      on false o = apart

map_some_of : (ns : List Name) (o : Option Opening) (q : Opening) → option_map (without_all ns) o ≡ Some q → (p : Opening) × (o ≡ Some p) × (without_all ns p ≡ q)
map_some_of ns None q e = absurd (some_none e refl)
map_some_of ns (Some p) q e = (p, refl, let f : Some (without_all ns p) ≡ Some q = e in cc)

pub in_names : (n : Name) (ns : List Name) → is_in n ns ≡ true → IsIn n ns
in_names n [] e = cc
in_names n (m ∷ ms) e = elim (or_true (same_name n m) (is_in n ms) e) [ inl f ↦ inl (same_name-equal n m f) | inr g ↦ inr (in_names n ms g) ]

pub names_in : (n : Name) (ns : List Name) → IsIn n ns → is_in n ns ≡ true
names_in n [] i = absurd i
names_in n (m ∷ ms) (inl e) = or_left (same_name n m) (is_in n ms) (ap (same_name n) (sym e) ∙ place_itself (Place.Box n))
names_in n (m ∷ ms) (inr i) = or_right (same_name n m) (is_in n ms) (names_in n ms i)

-- what stands in just these boxes
pub some_and : (n : Name) (o : Option (List Name)) (ns : List Name) → o ≡ Some ns → IsSomeAnd o (IsIn n) → IsIn n ns
some_and n o ns e h = subst (λ (x : Option (List Name)). IsSomeAnd x (IsIn n)) e h

pub and_some : (n : Name) (o : Option (List Name)) (ns : List Name) → o ≡ Some ns → IsIn n ns → IsSomeAnd o (IsIn n)
and_some n o ns e h = subst (λ (x : Option (List Name)). IsSomeAnd x (IsIn n)) (sym e) h

module _ (c d : Config) (l : Label) (before : List Place) (kept : List Wait) (ps : List PlacedValue) (gone : List Place) (f : CommitFacts c d l.place before kept ps gone)
    (os : Openings) (are : AreOpenPlaces os before) (standing : AreStandingIn c os) (apart : AreApart os) (mid : Openings) (ts : List ℕ) (r : AreOpened os ps mid ts) (own : Option ℕ) (token : IsOpen os l.place own) where
  abbrev names : List Name
  names = boxes_among gone

  abbrev left : Openings
  left = after_leave names mid

  abbrev now : Openings
  now = after_going own l.place gone mid

  left_apart : AreApart left
  left_apart = leave_apart names mid (r.apart apart)

  -- what is open afterwards was opened or was open, and isn't the own place that went
  record IsFrom (t : ℕ) (q : Opening) : Type 0 where
    was : Opening
    is_was : opening_at t mid ≡ Some was
    now_is : without_all names was ≡ q
    not_own : IsLeft own l.place gone t

  from : (t : ℕ) (q : Opening) → opening_at t now ≡ Some q → IsFrom t q
  from t q e =
      let w : (opening_at t left ≡ Some q) × IsLeft own l.place gone t = among_from l.place gone left left_apart own t q e in
      let v : (p : Opening) × (opening_at t mid ≡ Some p) × (without_all names p ≡ q) = map_some_of names (opening_at t mid) q (sym (leave_at names mid t) ∙ w.0) in
      record { was = v.0; is_was = v.1; now_is = v.2; not_own = w.1 }

  to : (t : ℕ) (p : Opening) → opening_at t mid ≡ Some p → IsLeft own l.place gone t → opening_at t now ≡ Some (without_all names p)
  to t p e n = among_to l.place gone left left_apart own t (without_all names p) (leave_at names mid t ∙ ap (option_map (without_all names)) e) n

  pub now_apart : AreApart now
  now_apart = among_apart l.place gone left left_apart own

  same_place_now : (t : ℕ) (q : Opening) (w : IsFrom t q) → w.was.place ≡ q.place
  same_place_now t q w = sym (same_after names w.was) ∙ ap (λ (o : Opening). o.place) w.now_is

  -- the own place, where it was open, goes or stays
  own_token : (t : ℕ) (o : Opening) → opening_at t os ≡ Some o → o.place ≡ l.place → own ≡ Some t
  own_token t o e g = token.there t o e g

  own_stays : (t : ℕ) (o : Opening) → opening_at t os ≡ Some o → o.place ≡ l.place → IsLeft own l.place gone t → IsThere l.place d.roots
  own_stays t o e g n = elim (there_or l.place d.roots) [ inl h ↦ h | inr m ↦ absurd (n (own_token t o e g) (place_listed l.place gone (f.gone_listed l.place f.own_there m))) ]

  token_was : (t : ℕ) → own ≡ Some t → (o : Opening) × (opening_at t os ≡ Some o) × (o.place ≡ l.place)
  token_was t e = token.back t e

  -- what is open is so after the commit
  pub after_is : (place : Place) → IsOpenAt now place → IsOpenAfterCommit before kept l c d place
  after_is place w = on (r.each w.token x.was x.is_was)
    where
      x : IsFrom w.token w.opening
      x = from w.token w.opening w.is_open

      place_is : x.was.place ≡ place
      place_is = same_place_now w.token w.opening x ∙ w.of_place

      on : (opening_at w.token os ≡ Some x.was) ⊎ IsNewOpening os ps ts w.token x.was → IsOpenAfterCommit before kept l c d place
      on (inl e) = IsOpenAfterCommit.stays (are.all place (record { token = w.token; opening = x.was; is_open = e; of_place = place_is }))
          (λ g. subst (λ (p : Place). IsThere p d.roots) (sym g) (own_stays w.token x.was e (place_is ∙ g) x.not_own))
      on (inr n) = IsOpenAfterCommit.opened (f.effects.opened place (subst (λ (p : Place). IsOneOf p (places_of ps)) place_is (of_placed (placed x.was.place x.was.boxes) ps n.is_placed)))

  pub after_all : (place : Place) → IsOpenAfterCommit before kept l c d place → IsOpenAt now place
  after_all place (IsOpenAfterCommit.stays i h) =
      let w : IsOpenAt os place = are.only place i in
      record {
        token = w.token;
        opening = without_all names w.opening;
        is_open = to w.token w.opening (r.stays w.token w.opening w.is_open) (λ e g. not_gone w e (listed_place l.place gone g));
        of_place = same_after names w.opening ∙ w.of_place;
      }
    where
      not_gone : (w : IsOpenAt os place) → own ≡ Some w.token → IsOneOf l.place gone → ⊥
      not_gone w e g =
          let b : (o : Opening) × (opening_at w.token os ≡ Some o) × (o.place ≡ l.place) = token_was w.token e in
          let same : b.0 ≡ w.opening = some_value (sym b.1 ∙ w.is_open) in
          let is : place ≡ l.place = sym w.of_place ∙ ap (λ (o : Opening). o.place) (sym same) ∙ b.2 in
          f.is_gone l.place g (subst (λ (p : Place). IsThere p d.roots) is (h is))
  after_all place (IsOpenAfterCommit.opened o) =
      let w : IsOpenAt mid place = r.all place (f.effects.listed place o) in
      record {
        token = w.token;
        opening = without_all names w.opening;
        is_open = to w.token w.opening w.is_open (λ e g. not_gone w e (listed_place l.place gone g));
        of_place = same_after names w.opening ∙ w.of_place;
      }
    where
      not_gone : (w : IsOpenAt mid place) → own ≡ Some w.token → IsOneOf l.place gone → ⊥
      not_gone w e g =
          let b : (o : Opening) × (opening_at w.token os ≡ Some o) × (o.place ≡ l.place) = token_was w.token e in
          let same : b.0 ≡ w.opening = some_value (sym (r.stays w.token b.0 b.1) ∙ w.is_open) in
          let is : place ≡ l.place = sym w.of_place ∙ ap (λ (o : Opening). o.place) (sym same) ∙ b.2 in
          f.unopened l.place (are.all l.place (record { token = w.token; opening = b.0; is_open = b.1; of_place = b.2 })) (f.is_gone l.place g) (subst (Opens kept c d) is o)

  pub new_tokens : AreNewTokens os now ts
  new_tokens = record {
    new = λ t i. came t i;
    all = λ t q e n. came_all t q e n;
    once = r.once;
  }
    where
      came : (t : ℕ) → IsNumberIn t ts → (o : Opening) × (opening_at t now ≡ Some o) × (IsOpenAt os o.place → ⊥)
      came t i = on (opening_at t mid) refl (r.new t i).1
        where
          on : (o : Option Opening) → opening_at t mid ≡ o → is_some o ≡ true → (o : Opening) × (opening_at t now ≡ Some o) × (IsOpenAt os o.place → ⊥)
          on None e g = cc
          on (Some q) e g = elim (r.each t q e) [
            | inl h ↦ absurd (some_none h (r.new t i).0)
            | inr n ↦ (
              without_all names q,
              to t q e (λ m k. some_none (token_was t m).1 (r.new t i).0),
              λ w. n.unopened (record { token = w.token; opening = w.opening; is_open = w.is_open; of_place = w.of_place ∙ same_after names q }),
            )
          ]

      came_all : (t : ℕ) (q : Opening) → opening_at t now ≡ Some q → (IsOpenAt os q.place → ⊥) → IsNumberIn t ts
      came_all t q e n = let x : IsFrom t q = from t q e in
          elim (r.each t x.was x.is_was) [ inl h ↦ absurd (n (record { token = t; opening = x.was; is_open = h; of_place = same_place_now t q x })) | inr m ↦ m.listed ]

  -- how one stands
  record IsStandingSo (q : Opening) : Type 0 where
    around : (n : Name) → StandsIn n d.roots q.place → is_in n q.boxes ≡ true
    only : (n : Name) → is_in n q.boxes ≡ true → StandsIn n d.roots q.place
    listed : IsThere q.place d.roots → boxes_around q.place d.roots ≡ Some q.boxes

  -- one that is there stands on
  stands_on : (o q : Opening) → without_all names o ≡ q → IsThere o.place d.roots → IsStandingSo o → IsStandingSo q
  stands_on o q e h s = subst IsStandingSo (sym (without_none names o (λ n i. not_true (leaves_from n o) (stays n i))) ∙ e) s
    where
      stays : (n : Name) → IsIn n names → leaves_from n o ≡ true → ⊥
      stays n i g = elim (or_true (same_place (Place.Box n) o.place) (is_in n o.boxes) g) [
        | inl k ↦ f.is_gone (Place.Box n) (among_box n gone i) (subst (λ (p : Place). IsThere p d.roots) (sym (same_place-equal (Place.Box n) o.place k)) h)
        | inr k ↦ f.is_gone (Place.Box n) (among_box n gone i) (f.within n o.place (s.only n k))
      ]

  -- and one that isn't stands in none
  stands_nowhere : (q : Opening) → (IsThere q.place d.roots → ⊥) → ((n : Name) → is_in n q.boxes ≡ true → ⊥) → IsStandingSo q
  stands_nowhere q m none = record { around = λ n h. absurd (m (stands_there n d.roots q.place h)); only = λ n i. absurd (none n i); listed = λ h. absurd (m h) }

  emptied : (o q : Opening) → without_all names o ≡ q → (n : Name) → IsOneOf (Place.Box n) gone → leaves_from n o ≡ true → (k : Name) → is_in k q.boxes ≡ true → ⊥
  emptied o q e n i g k h = not_both h (ap (λ (ns : List Name). is_in k ns) (ap (λ (p : Opening). p.boxes) (sym e) ∙ without_some names o n (box_among n gone i) g))

  -- one that goes with a box that goes
  goes_empty : (o q : Opening) → without_all names o ≡ q → (place : Place) → o.place ≡ place → IsOneOf place gone → ((g : Name) → place ≡ Place.Goal g → place ≡ l.place → ⊥)
      → ((n : Name) → StandsIn n c.roots place → is_in n o.boxes ≡ true) → (k : Name) → is_in k q.boxes ≡ true → ⊥
  goes_empty o q e (Place.Box m) p i other s = emptied o q e m i (or_left (same_place (Place.Box m) o.place) (is_in m o.boxes) (ap (same_place (Place.Box m)) p ∙ place_itself (Place.Box m)))
  goes_empty o q e (Place.Goal g) p i other s = λ k h. elim (f.gone_within g i) [
    | inl own_is ↦ other g refl own_is
    | inr w ↦ emptied o q e w.0 w.1 (or_right (same_place (Place.Box w.0) o.place) (is_in w.0 o.boxes) (s w.0 w.2)) k h
  ]

  was_open_so : (t : ℕ) (o q : Opening) → opening_at t os ≡ Some o → without_all names o ≡ q → IsLeft own l.place gone t → IsStandingSo q
  was_open_so t o q e g n = on (there_or o.place d.roots) (there_or o.place c.roots)
    where
      place_is : q.place ≡ o.place
      place_is = ap (λ (p : Opening). p.place) (sym g) ∙ same_after names o

      gone_now : (IsThere o.place d.roots → ⊥) → IsThere q.place d.roots → ⊥
      gone_now m h = m (subst (λ (p : Place). IsThere p d.roots) place_is h)

      fewer : (k : Name) → is_in k q.boxes ≡ true → is_in k o.boxes ≡ true
      fewer k h = without_less names o k (ap (λ (p : Opening). is_in k p.boxes) g ∙ h)

      on : Either (IsThere o.place d.roots) → Either (IsThere o.place c.roots) → IsStandingSo q
      on (inl h) z =
          let same : boxes_around o.place c.roots ≡ boxes_around o.place d.roots = f.still o.place (f.old o.place (standing.drawn t o e) h) h in
          stands_on o q g h (record {
            around = λ k i. standing.around t o k e (subst (λ (x : Option (List Name)). IsSomeAnd x (IsIn k)) (sym same) i);
            only = λ k i. subst (λ (x : Option (List Name)). IsSomeAnd x (IsIn k)) same (standing.only t o k e i);
            listed = λ i. sym same ∙ standing.listed t o e (ap is_some same ∙ i);
          })
      on (inr m) (inr z) = stands_nowhere q (gone_now m) (λ k h. z (stands_there k c.roots o.place (standing.only t o k e (fewer k h))))
      on (inr m) (inl h) = stands_nowhere q (gone_now m) (goes_empty o q g o.place refl (f.gone_listed o.place h m) (λ i j is. m (subst (λ (p : Place). IsThere p d.roots) (sym is) (own_stays t o e is n))) (λ k i. standing.around t o k e i))

  is_new_so : (t : ℕ) (o q : Opening) → IsNewOpening os ps ts t o → without_all names o ≡ q → StandsNow c d (placed o.place o.boxes) → IsStandingSo q
  is_new_so t o q n g (stands h) = stands_on o q g (stands_by h) (record {
    around = λ k i. names_in k o.boxes (some_and k (boxes_around o.place d.roots) o.boxes h i);
    only = λ k i. and_some k (boxes_around o.place d.roots) o.boxes h (in_names k o.boxes i);
    listed = λ i. h;
  })
    where
      stands_by : boxes_around o.place d.roots ≡ Some o.boxes → IsThere o.place d.roots
      stands_by e = ap is_some e
  is_new_so t o q n g (goes m h) = stands_nowhere q (λ k. m (subst (λ (p : Place). IsThere p d.roots) (ap (λ (p : Opening). p.place) (sym g) ∙ same_after names o) k))
      (goes_empty o q g o.place refl (f.gone_listed o.place (ap is_some h) m) (λ i j is. n.unopened (its (are.only l.place (f.own_open i (sym is ∙ j))) is))
      (λ k i. names_in k o.boxes (some_and k (boxes_around o.place c.roots) o.boxes h i)))
    where
      its : IsOpenAt os l.place → o.place ≡ l.place → IsOpenAt os o.place
      its w is = record { token = w.token; opening = w.opening; is_open = w.is_open; of_place = w.of_place ∙ sym is }

  one_stands : (t : ℕ) (q : Opening) → opening_at t now ≡ Some q → IsStandingSo q
  one_stands t q e =
      let x : IsFrom t q = from t q e in
      elim (r.each t x.was x.is_was) [ inl h ↦ was_open_so t x.was q h x.now_is x.not_own | inr n ↦ is_new_so t x.was q n x.now_is (f.effects.around (placed x.was.place x.was.boxes) n.is_placed) ]

  one_drawn : (t : ℕ) (q : Opening) → opening_at t now ≡ Some q → IsOld d (name_at q.place)
  one_drawn t q e =
      let x : IsFrom t q = from t q e in
      subst (λ (p : Place). IsOld d (name_at p)) (same_place_now t q x) (elim (r.each t x.was x.is_was) [
        | inl h ↦ f.grows (name_at x.was.place) (standing.drawn t x.was h)
        | inr n ↦ by x.was (f.effects.around (placed x.was.place x.was.boxes) n.is_placed)
      ])
    where
      by : (o : Opening) → StandsNow c d (placed o.place o.boxes) → IsOld d (name_at o.place)
      by o (stands h) = f.drawn o.place (ap is_some h)
      by o (goes m h) = f.grows (name_at o.place) (f.was_drawn o.place (ap is_some h))

  pub standing_after : AreStandingIn d now
  standing_after = record {
    around = λ t q n e h. (one_stands t q e).around n h;
    only = λ t q n e h. (one_stands t q e).only n h;
    listed = λ t q e h. (one_stands t q e).listed h;
    drawn = one_drawn;
  }
