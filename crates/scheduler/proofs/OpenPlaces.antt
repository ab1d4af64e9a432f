-- Lists of the places that are open.
use Rattle.std.proofs.Common.{◌≡◌, ℕ, Bool, true, false, List, [], ◌∷◌, Some, None, refl, sym, ap, subst, ◌∙◌, inl, inr}
use Rattle.akl_model.proofs.Options.{some_value}
use Rattle.std.specs.Prelude.{cond, if◌then◌else◌}
use Rattle.akl_terms.specs.declared.name.Place.{Place}
use Rattle.akl_model.specs.Wakes.{IsOneOf}
use Rattle.wake_lists.specs.Open.{Opening, Openings, opening_at}
use Rattle.wake_lists.specs.Waits.{same_place}
use Rattle.wake_lists.proofs.Keys.{token_equal, token_here}
use Rattle.wake_lists.proofs.Both.{same_place-equal}
use Rattle.scheduler.specs.Openings.{IsOpenAt, AreOpenPlaces, AreOthersOpen, AreApart}
use Rattle.scheduler.proofs.OpeningLists.{some_none}
use Rattle.scheduler.proofs.CommitFacts.{not_both, place_itself}
use lib.Dec.{eqb}

abbrev pub open_places : Openings → List Place
open_places [] = []
open_places (e ∷ es) = e.1.place ∷ open_places es

listed_open : (os : Openings) (t : ℕ) (o : Opening) → opening_at t os ≡ Some o → IsOneOf o.place (open_places os)
listed_open [] t o e = absurd (some_none e refl)
listed_open (x ∷ xs) t o e = on (eqb t x.0) e (listed_open xs t o)
  where
    on : (b : Bool) → cond b (Some x.1) (opening_at t xs) ≡ Some o → (opening_at t xs ≡ Some o → IsOneOf o.place (open_places xs)) → IsOneOf o.place (open_places (x ∷ xs))
    on true f r = inl (ap (λ (q : Opening). q.place) (sym (some_value f)))
    on false f r = inr (r f)

later_open : (x : ℕ × Opening) (xs : Openings) (place : Place) → opening_at x.0 xs ≡ None → IsOpenAt xs place → IsOpenAt (x ∷ xs) place
later_open x xs place n w = record { token = w.token; opening = w.opening; is_open = on (eqb w.token x.0) refl; of_place = w.of_place }
  where
    on : (b : Bool) → eqb w.token x.0 ≡ b → cond b (Some x.1) (opening_at w.token xs) ≡ Some w.opening
    on true e = absurd (some_none w.is_open (ap (λ (k : ℕ). opening_at k xs) (token_equal w.token x.0 e) ∙ n))
    on false e = w.is_open

open_listed : (os : Openings) → AreApart os → (place : Place) → IsOneOf place (open_places os) → IsOpenAt os place
open_listed [] a place i = absurd i
open_listed (x ∷ xs) a place (inl e) = record { token = x.0; opening = x.1; is_open = ap (λ (b : Bool). cond b (Some x.1) (opening_at x.0 xs)) (token_here x.0); of_place = sym e }
open_listed (x ∷ xs) a place (inr i) = later_open x xs place a.0 (open_listed xs a.1 place i)

pub all_listed : (os : Openings) → AreApart os → AreOpenPlaces os (open_places os)
all_listed os a = record {
  all = λ place w. subst (λ (p : Place). IsOneOf p (open_places os)) w.of_place (listed_open os w.token w.opening w.is_open);
  only = open_listed os a;
}

-- but one
abbrev pub others : Place → List Place → List Place
others own [] = []
others own (p ∷ ps) = if same_place p own then others own ps else p ∷ others own ps

other_in : (own p : Place) (ps : List Place) → IsOneOf p ps → (p ≡ own → ⊥) → IsOneOf p (others own ps)
other_in own p [] i n = absurd i
other_in own p (q ∷ qs) i n = on (same_place q own) refl i (λ j. other_in own p qs j n)
  where
    on : (b : Bool) → same_place q own ≡ b → IsOneOf p (q ∷ qs) → (IsOneOf p qs → IsOneOf p (others own qs)) → IsOneOf p (if b then others own qs else q ∷ others own qs)
    on true e (inl f) r = absurd (n (f ∙ same_place-equal q own e))
    on true e (inr j) r = r j
    on false e (inl f) r = inl f
    on false e (inr j) r = inr (r j)

in_others : (own p : Place) (ps : List Place) → IsOneOf p (others own ps) → IsOneOf p ps × (p ≡ own → ⊥)
in_others own p [] i = absurd i
in_others own p (q ∷ qs) i = on (same_place q own) refl i (in_others own p qs)
  where
    on : (b : Bool) → same_place q own ≡ b → IsOneOf p (if b then others own qs else q ∷ others own qs) → (IsOneOf p (others own qs) → IsOneOf p qs × (p ≡ own → ⊥)) → IsOneOf p (q ∷ qs) × (p ≡ own → ⊥)
    on true e i r = let y : IsOneOf p qs × (p ≡ own → ⊥) = r i in (inr y.0, y.1)
    on false e (inl f) r = (inl f, λ s. not_both (ap (λ (z : Place). same_place z own) (sym f ∙ s) ∙ place_itself own) e)
    on false e (inr j) r = let y : IsOneOf p qs × (p ≡ own → ⊥) = r j in (inr y.0, y.1)

pub others_listed : (os : Openings) (own : Place) (now : List Place) → AreOpenPlaces os now → AreOthersOpen os own (others own now)
others_listed os own now a = record {
  all = λ place w n. other_in own place now (a.all place w) n;
  only = λ place i. a.only place (in_others own place now i).0;
  besides = λ i. (in_others own own now i).1 refl;
}

-- where nothing is open there is no place
pub none_open : (os : Openings) (now : List Place) → AreOpenPlaces os now → os ≡ [] → now ≡ []
none_open os [] a e = refl
none_open os (p ∷ ps) a e = let w : IsOpenAt [] p = subst (λ (z : Openings). IsOpenAt z p) e (a.only p (inl refl)) in absurd (some_none w.is_open refl)
