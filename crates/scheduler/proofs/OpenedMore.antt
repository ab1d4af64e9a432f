-- One more place is opened, and none of them.
use Rattle.std.proofs.Common.{◌≡◌, ℕ, ◌+◌, ◌<◌, length, take, get_or, Bool, true, false, List, [], ◌∷◌, ◌++◌, Option, Some, None, refl, sym, ap, subst, ◌∙◌, ◌⊎◌, inl, inr}
use Rattle.std.specs.Prelude.{cond, is_some, IsSome}
use Rattle.std.proofs.lemmas.List.{take_more}
use Rattle.std.specs.BTreeMap.{insert_entry}
use Rattle.std.specs.Ordering.{nat_cmp}
use Rattle.akl_terms.specs.declared.name.Place.{Place}
use Rattle.akl_model.specs.Wakes.{IsOneOf}
use Rattle.akl_terms.specs.declared.name.Name.{Name}
use Rattle.wake_lists.specs.Open.{Opening, Openings, opening_at, IsOpen, IsOpened, IsLeastToken, closed}
use Rattle.wake_lists.specs.declared.turn.Urgency.{Urgency}
use Rattle.wake_lists.proofs.Keys.{token_equal, token_here}
use Rattle.opened_places.specs.Placed.{PlacedValue, placed, places_of}
use Rattle.scheduler.specs.Openings.{IsOpenAt, IsNumberIn, IsEachOnce, AreOpenOnce}
use Rattle.scheduler.specs.Opening.{IsPlacedIn, closed_back, IsNewOpening, AreOpened, IsOpenedBy, was_open, is_new}
use Rattle.scheduler.proofs.OpeningLists.{some_none, put_at, put_out, put_apart, back_end}
use Rattle.scheduler.proofs.FirstTokens.{first_more}
use lib.Dec.{eqb}

-- members of longer lists
placed_left : (p : PlacedValue) (ps qs : List PlacedValue) → IsPlacedIn p ps → IsPlacedIn p (ps ++ qs)
placed_left p [] qs i = absurd i
placed_left p (r ∷ rs) qs (inl e) = inl e
placed_left p (r ∷ rs) qs (inr i) = inr (placed_left p rs qs i)

placed_end : (p : PlacedValue) (ps : List PlacedValue) → IsPlacedIn p (ps ++ p ∷ [])
placed_end p [] = inl refl
placed_end p (r ∷ rs) = inr (placed_end p rs)

number_left : (t : ℕ) (ts us : List ℕ) → IsNumberIn t ts → IsNumberIn t (ts ++ us)
number_left t [] us i = absurd i
number_left t (s ∷ ss) us (inl e) = inl e
number_left t (s ∷ ss) us (inr i) = inr (number_left t ss us i)

number_end : (t : ℕ) (ts : List ℕ) → IsNumberIn t (ts ++ t ∷ [])
number_end t [] = inl refl
number_end t (s ∷ ss) = inr (number_end t ss)

number_either : (s t : ℕ) (ts : List ℕ) → IsNumberIn s (ts ++ t ∷ []) → IsNumberIn s ts ⊎ (s ≡ t)
number_either s t [] (inl e) = inr e
number_either s t [] (inr i) = absurd i
number_either s t (r ∷ rs) (inl e) = inl (inl e)
number_either s t (r ∷ rs) (inr i) = elim (number_either s t rs i) [ inl j ↦ inl (inr j) | inr e ↦ inr e ]

once_end : (ts : List ℕ) (t : ℕ) → IsEachOnce ts → (IsNumberIn t ts → ⊥) → IsEachOnce (ts ++ t ∷ [])
once_end [] t o n = (λ i. i, tt)
once_end (s ∷ ss) t o n = (λ i. elim (number_either s t ss i) [ inl j ↦ o.0 j | inr e ↦ n (inl (sym e)) ], once_end ss t o.1 (λ i. n (inr i)))

pub place_either : (place : Place) (ps : List PlacedValue) (p : PlacedValue) → IsOneOf place (places_of (ps ++ p ∷ [])) → IsOneOf place (places_of ps) ⊎ (place ≡ p.place)
place_either place [] p (inl e) = inr e
place_either place [] p (inr i) = absurd i
place_either place (q ∷ qs) p (inl e) = inl (inl e)
place_either place (q ∷ qs) p (inr i) = elim (place_either place qs p i) [ inl j ↦ inl (inr j) | inr e ↦ inr e ]

is_some_of : (o : Option Opening) → IsSome o → (q : Opening) × (o ≡ Some q)
is_some_of None e = cc
is_some_of (Some q) e = (q, refl)

same_value : {A : Type 0} {a b : A} {o : Option A} → o ≡ Some a → o ≡ Some b → a ≡ b
same_value e f = let g : Some _ ≡ Some _ = sym e ∙ f in cc

-- nothing is opened yet
pub opened_none : (os : Openings) (ps : List PlacedValue) (ts : List ℕ) → ps ≡ [] → ts ≡ [] → AreOpened os ps os ts
opened_none os ps ts e f = subst (λ (qs : List PlacedValue). AreOpened os qs os ts) (sym e) (subst (AreOpened os [] os) (sym f) (record {
  stays = λ t o h. h;
  each = λ t o h. inl h;
  all = λ place i. absurd i;
  new = λ t i. absurd i;
  once = tt;
  apart = λ a. a;
  first = λ a. a;
  places_once = λ a. a;
  undone = refl;
}))

module _ (before cur : Openings) (ps : List PlacedValue) (p : PlacedValue) (ts : List ℕ) (r : AreOpened before ps cur ts) where
  wider : (more : List ℕ) (t : ℕ) (o : Opening) → IsNewOpening before ps ts t o → IsNewOpening before (ps ++ p ∷ []) (ts ++ more) t o
  wider more t o n = record { unused = n.unused; unopened = n.unopened; is_placed = placed_left (placed o.place o.boxes) ps (p ∷ []) n.is_placed; listed = number_left t ts more n.listed }

  was : IsOpenAt cur p.place → AreOpened before (ps ++ p ∷ []) cur ts
  was w = record {
    stays = r.stays;
    each = λ t o h. elim (r.each t o h) [ inl e ↦ inl e | inr n ↦ inr (record { unused = n.unused; unopened = n.unopened; is_placed = placed_left (placed o.place o.boxes) ps (p ∷ []) n.is_placed; listed = n.listed }) ];
    all = λ place i. elim (place_either place ps p i) [ inl j ↦ r.all place j | inr e ↦ record { token = w.token; opening = w.opening; is_open = w.is_open; of_place = w.of_place ∙ sym e } ];
    new = r.new;
    once = r.once;
    apart = r.apart;
    first = r.first;
    places_once = r.places_once;
    undone = r.undone;
  }

  module _ (t : ℕ) (o : Opening) (un : IsOpenAt cur p.place → ⊥) (least : IsLeastToken cur t) (same : placed o.place o.boxes ≡ p) where
    abbrev now : Openings
    now = insert_entry nat_cmp cur t o

    free : opening_at t cur ≡ None
    free = least.free

    place_is : o.place ≡ p.place
    place_is = ap (λ (q : PlacedValue). q.place) same

    here : opening_at t now ≡ Some o
    here = put_at t o cur t ∙ ap (λ (b : Bool). cond b (Some o) (opening_at t cur)) (token_here t)

    still : (s : ℕ) (q : Opening) → opening_at s cur ≡ Some q → opening_at s now ≡ Some q
    still s q h = put_at t o cur s ∙ on (eqb s t) refl
      where
        on : (b : Bool) → eqb s t ≡ b → cond b (Some o) (opening_at s cur) ≡ Some q
        on true e = absurd (some_none h (ap (λ (k : ℕ). opening_at k cur) (token_equal s t e) ∙ free))
        on false e = h

    still_open : (place : Place) → IsOpenAt cur place → IsOpenAt now place
    still_open place w = record { token = w.token; opening = w.opening; is_open = still w.token w.opening w.is_open; of_place = w.of_place }

    unused : opening_at t before ≡ None
    unused = on (opening_at t before) refl
      where
        on : (w : Option Opening) → opening_at t before ≡ w → w ≡ None
        on None e = refl
        on (Some q) e = absurd (some_none (r.stays t q e) free)

    unopened : IsOpenAt before o.place → ⊥
    unopened w = un (record { token = w.token; opening = w.opening; is_open = r.stays w.token w.opening w.is_open; of_place = w.of_place ∙ place_is })

    it_is : IsNewOpening before (ps ++ p ∷ []) (ts ++ t ∷ []) t o
    it_is = record { unused = unused; unopened = unopened; is_placed = subst (λ (q : PlacedValue). IsPlacedIn q (ps ++ p ∷ [])) (sym same) (placed_end p ps); listed = number_end t ts }

    each_now : (s : ℕ) (q : Opening) → opening_at s now ≡ Some q → (opening_at s before ≡ Some q) ⊎ IsNewOpening before (ps ++ p ∷ []) (ts ++ t ∷ []) s q
    each_now s q h = on (eqb s t) refl (sym (put_at t o cur s) ∙ h)
      where
        on : (b : Bool) → eqb s t ≡ b → cond b (Some o) (opening_at s cur) ≡ Some q → (opening_at s before ≡ Some q) ⊎ IsNewOpening before (ps ++ p ∷ []) (ts ++ t ∷ []) s q
        on true e f = inr (subst (λ (k : ℕ). IsNewOpening before (ps ++ p ∷ []) (ts ++ t ∷ []) k q) (sym (token_equal s t e)) (subst (IsNewOpening before (ps ++ p ∷ []) (ts ++ t ∷ []) t) (same_value refl f) it_is))
        on false e f = elim (r.each s q f) [ inl g ↦ inl g | inr n ↦ inr (wider (t ∷ []) s q n) ]

    new_now : (s : ℕ) → IsNumberIn s (ts ++ t ∷ []) → (opening_at s before ≡ None) × IsSome (opening_at s now)
    new_now s i = elim (number_either s t ts i) [
      | inl j ↦ let w : (q : Opening) × (opening_at s cur ≡ Some q) = is_some_of (opening_at s cur) (r.new s j).1 in ((r.new s j).0, ap is_some (still s w.0 w.1))
      | inr e ↦ (ap (λ (k : ℕ). opening_at k before) e ∙ unused, ap is_some (ap (λ (k : ℕ). opening_at k now) e ∙ here))
    ]

    fresh : IsNumberIn t ts → ⊥
    fresh i = let w : (q : Opening) × (opening_at t cur ≡ Some q) = is_some_of (opening_at t cur) (r.new t i).1 in some_none w.1 free

    -- what was open keeps its token to itself
    now_other : (s : ℕ) (q : Opening) → opening_at s now ≡ Some q → eqb s t ≡ false → opening_at s cur ≡ Some q
    now_other s q h e = ap (λ (b : Bool). cond b (Some o) (opening_at s cur)) (sym e) ∙ sym (put_at t o cur s) ∙ h

    now_own : (s : ℕ) (q : Opening) → opening_at s now ≡ Some q → eqb s t ≡ true → o ≡ q
    now_own s q h e = same_value refl (ap (λ (b : Bool). cond b (Some o) (opening_at s cur)) (sym e) ∙ sym (put_at t o cur s) ∙ h)

    not_both_open : (s u : ℕ) (q w : Opening) → opening_at s now ≡ Some q → opening_at u now ≡ Some w → q.place ≡ w.place → eqb s t ≡ true → eqb u t ≡ false → ⊥
    not_both_open s u q w h k e f g = un (record { token = u; opening = w; is_open = now_other u w k g; of_place = sym e ∙ ap (λ (x : Opening). x.place) (sym (now_own s q h f)) ∙ place_is })

    once_now : AreOpenOnce cur → AreOpenOnce now
    once_now a s u q w h k e = on (eqb s t) refl (eqb u t) refl
      where
        on : (b : Bool) → eqb s t ≡ b → (d : Bool) → eqb u t ≡ d → s ≡ u
        on true f true g = token_equal s t f ∙ sym (token_equal u t g)
        on true f false g = absurd (not_both_open s u q w h k e f g)
        on false f true g = absurd (not_both_open u s w q k h (sym e) g f)
        on false f false g = a s u q w (now_other s q h f) (now_other u w k g) e

    came : AreOpened before (ps ++ p ∷ []) now (ts ++ t ∷ [])
    came = record {
      stays = λ s q h. still s q (r.stays s q h);
      each = each_now;
      all = λ place i. elim (place_either place ps p i) [ inl j ↦ still_open place (r.all place j) | inr e ↦ record { token = t; opening = o; is_open = here; of_place = place_is ∙ sym e } ];
      new = new_now;
      once = once_end ts t r.once fresh;
      apart = λ a. put_apart t o cur free (r.apart a);
      first = λ a. first_more cur (r.first a) t least o;
      places_once = λ a. once_now (r.places_once a);
      undone = back_end ts t now ∙ ap (closed_back ts) (put_out t o cur free) ∙ r.undone;
    }

  pub opened_more : (now : Openings) (ts_now : List ℕ) → IsOpenedBy cur ts p now ts_now → AreOpened before (ps ++ p ∷ []) now ts_now
  opened_more then ts_now (was_open w e f) = subst (λ (os : Openings). AreOpened before (ps ++ p ∷ []) os ts_now) (sym e) (subst (AreOpened before (ps ++ p ∷ []) cur) (sym f) (was w))
  opened_more then ts_now (is_new t o un least same e f) = subst (λ (os : Openings). AreOpened before (ps ++ p ∷ []) os ts_now) (sym e)
      (subst (AreOpened before (ps ++ p ∷ []) (insert_entry nat_cmp cur t o)) (sym f) (came t o un least same))

-- a place that isn't open, by its token
pub not_open : (os : Openings) (place : Place) → IsOpen os place None → IsOpenAt os place → ⊥
not_open os place h w = some_none refl (sym (h.there w.token w.opening w.is_open w.of_place))

pub its_open : (os : Openings) (place : Place) (t : ℕ) → IsOpen os place (Some t) → IsOpenAt os place
its_open os place t h = let w : (o : Opening) × (opening_at t os ≡ Some o) × (o.place ≡ place) = h.back t refl in record { token = t; opening = w.0; is_open = w.1; of_place = w.2 }

pub none_of : {A : Type 0} (r : Option A) → is_some r ≡ false → r ≡ None
none_of None e = refl
none_of (Some x) e = cc

-- what opened a place that wasn't open
module _ (before now : Openings) (place : Place) (around : List Name) (t : ℕ) (none : IsOpen before place None) where
  other : (o : Opening) (s : ℕ) → opening_at s before ≡ Some o → o.place ≡ place → ⊥
  other o s e f = not_open before place none (record { token = s; opening = o; is_open = e; of_place = f })

  pub one_back : (how : Urgency) → IsOpened before now place around how t → closed t now ≡ before
  one_back how (IsOpened.was_open o e f h) = absurd (other o t e f)
  one_back how (IsOpened.is_new u n least g last a) = ap (closed t) a ∙ put_out t (record { place = place; turn = u; boxes = around }) before least.free

  pub one_more : (how : Urgency) (p : PlacedValue) (ts ts_now : List ℕ) → place ≡ p.place → around ≡ p.around → ts_now ≡ ts ++ t ∷ [] → IsOpened before now place around how t → IsOpenedBy before ts p now ts_now
  one_more how p ts ts_now i j k (IsOpened.was_open o e f h) = absurd (other o t e f)
  one_more how p ts ts_now i j k (IsOpened.is_new u n least g last a) = is_new t (record { place = place; turn = u; boxes = around }) (λ w. not_open before place none (record { token = w.token; opening = w.opening; is_open = w.is_open; of_place = w.of_place ∙ sym i })) least (λ m. record { place = i m; around = j m }) a k

-- by an index
pub opened_next : (places : List PlacedValue) (i : ℕ) (d p : PlacedValue) (before cur now : Openings) (ts ts_now : List ℕ) → i < length places → p ≡ get_or places i d → AreOpened before (take i places) cur ts → IsOpenedBy cur ts p now ts_now
    → AreOpened before (take (i + 1) places) now ts_now
opened_next places i d p before cur now ts ts_now h e r o = subst (λ (l : List PlacedValue). AreOpened before l now ts_now) (sym (take_more places i d h))
    (opened_more before cur (take i places) (get_or places i d) ts r now ts_now (subst (λ (q : PlacedValue). IsOpenedBy cur ts q now ts_now) e o))
