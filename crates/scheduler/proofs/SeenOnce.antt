-- Places that are listed once, one after another.
use Rattle.std.proofs.Common.{◌≡◌, ℕ, ◌+◌, ◌<◌, ◌≤◌, arith, get_or, take, length, Bool, true, false, List, [], ◌∷◌, ◌++◌, refl, sym, ap, subst, ◌∙◌, inl, inr}
use Rattle.std.proofs.lemmas.List.{take_more}
use Rattle.std.specs.Prelude.{◌||◌, cond, not, if◌then◌else◌}
use Rattle.std.specs.BTreeMap.{is_at}
use Rattle.std.specs.BTreeSet.{BTreeSet, contains}
use Rattle.akl_terms.specs.declared.name.Place.{Place}
use Rattle.akl_terms.specs.contracts.name.PlaceOrd.TheImpl as places
use Rattle.akl_model.specs.Wakes.{IsOneOf}
use Rattle.wake_lists.specs.Waits.{same_place}
use Rattle.wake_lists.proofs.Both.{same_place-equal}
use Rattle.wake_lists.proofs.Keys.{place_is, place_back}
use Rattle.wake_lists.proofs.WaitsKept.{has_is, or_is}
use Rattle.opened_places.proofs.Members.{one_left, one_right, one_either}
use Rattle.scheduler.specs.Dropping.{is_place_in}
use Rattle.scheduler.specs.Once.{IsEachPlaceOnce, AreSameOnce, AddsNew}
use Rattle.scheduler.proofs.CommitFacts.{not_both, listed_place, place_listed}
use Rattle.scheduler.proofs.DroppedWaits.{in_end}

-- a set gets a place
pub set_has : (place : Place) (old new : BTreeSet Place) → ((q : Place) → contains places.cmp-value.it new q ≡ cond (is_at (places.cmp-value.it place) q) true (contains places.cmp-value.it old q)) → (p : Place)
    → is_place_in p new.keys ≡ (same_place place p || is_place_in p old.keys)
set_has place old new u p = sym (has_is p new) ∙ u p ∙ (λ i. cond (place_is place p i) true (has_is p old i)) ∙ or_is (same_place place p) (is_place_in p old.keys)

-- where it wasn't seen
pub not_true : (a b : Bool) → a ≡ not b → a ≡ true → b ≡ false
not_true a true e f = cc
not_true a false e f = refl

pub unseen : (place : Place) (seen : BTreeSet Place) (before : List Place) → contains places.cmp-value.it seen place ≡ false → before ++ place ∷ [] ≡ (if is_place_in place seen.keys then before else before ++ place ∷ [])
unseen place seen before e = ap (λ (b : Bool). if b then before else before ++ place ∷ []) (sym (sym (has_is place seen) ∙ e))

once_end : (ps : List Place) (p : Place) → IsEachPlaceOnce ps → (IsOneOf p ps → ⊥) → IsEachPlaceOnce (ps ++ p ∷ [])
once_end [] p o n = (λ i. absurd i, tt)
once_end (q ∷ qs) p o n = (
  λ i. elim (one_either q qs (p ∷ []) i) [ inl j ↦ o.0 j | inr j ↦ elim j [ inl e ↦ n (inl (sym e)) | inr k ↦ absurd k ] ],
  once_end qs p o.1 (λ i. n (inr i)),
)

pub record IsSeenOnce (places once seen : List Place) : Type 0 where
  pub same : AreSameOnce places once
  pub are_seen : (p : Place) → is_place_in p seen ≡ is_place_in p once

pub none_seen : IsSeenOnce [] [] []
none_seen = record { same = record { all = λ p i. i; only = λ p i. i; is_once = tt }; are_seen = λ p. refl }

module _ (ps once : List Place) (place : Place) (seen seen_now now : List Place) (was : IsSeenOnce ps once seen) (adds : AddsNew place seen once seen_now now) where
  were : (b : Bool) → is_place_in place seen ≡ b → now ≡ (if b then once else once ++ place ∷ [])
  were b e = adds.comes ∙ ap (λ (c : Bool). if c then once else once ++ place ∷ []) e

  -- it was seen, so it is listed
  again : is_place_in place seen ≡ true → IsSeenOnce (ps ++ place ∷ []) once seen_now
  again e = record {
    same = record {
      all = λ p i. elim (one_either p ps (place ∷ []) i) [
        | inl j ↦ was.same.all p j
        | inr j ↦ elim j [ inl f ↦ subst (λ (q : Place). IsOneOf q once) (sym f) (listed_place place once (sym (was.are_seen place) ∙ e)) | inr k ↦ absurd k ]
      ];
      only = λ p i. one_left p ps (place ∷ []) (was.same.only p i);
      is_once = was.same.is_once;
    };
    are_seen = λ p. adds.is_seen p ∙ absorbed p (same_place place p) refl ∙ was.are_seen p;
  }
    where
      absorbed : (p : Place) (b : Bool) → same_place place p ≡ b → (b || is_place_in p seen) ≡ is_place_in p seen
      absorbed p true f = sym (was.are_seen p ∙ place_listed p once (subst (λ (q : Place). IsOneOf q once) (same_place-equal place p f) (listed_place place once (sym (was.are_seen place) ∙ e))))
      absorbed p false f = refl

  first : is_place_in place seen ≡ false → IsSeenOnce (ps ++ place ∷ []) (once ++ place ∷ []) seen_now
  first e = record {
    same = record {
      all = λ p i. elim (one_either p ps (place ∷ []) i) [ inl j ↦ one_left p once (place ∷ []) (was.same.all p j) | inr j ↦ one_right p once (place ∷ []) j ];
      only = λ p i. elim (one_either p once (place ∷ []) i) [ inl j ↦ one_left p ps (place ∷ []) (was.same.only p j) | inr j ↦ one_right p ps (place ∷ []) j ];
      is_once = once_end once place was.same.is_once (λ i. not_both (place_listed place once i) (sym (was.are_seen place) ∙ e));
    };
    are_seen = λ p. adds.is_seen p ∙ swapped (same_place place p) (is_place_in p seen) ∙ ap (λ (b : Bool). b || same_place place p) (was.are_seen p) ∙ ap (λ (b : Bool). is_place_in p once || b) (place_back place p) ∙ sym (in_end p once place);
  }
    where
      swapped : (a b : Bool) → (a || b) ≡ (b || a)
      swapped true true = refl
      swapped true false = refl
      swapped false true = refl
      swapped false false = refl

  by_seen : (b : Bool) → is_place_in place seen ≡ b → IsSeenOnce (ps ++ place ∷ []) now seen_now
  by_seen true e = subst (λ (l : List Place). IsSeenOnce (ps ++ place ∷ []) l seen_now) (sym (were true e)) (again e)
  by_seen false e = subst (λ (l : List Place). IsSeenOnce (ps ++ place ∷ []) l seen_now) (sym (were false e)) (first e)

  pub seen_more : IsSeenOnce (ps ++ place ∷ []) now seen_now
  seen_more = by_seen (is_place_in place seen) refl

-- by an index
pub seen_next : (ps : List Place) (i : ℕ) (d : Place) (once seen seen_now now : List Place) → i < length ps → IsSeenOnce (take i ps) once seen → AddsNew (get_or ps i d) seen once seen_now now → IsSeenOnce (take (i + 1) ps) now seen_now
seen_next ps i d once seen seen_now now h was adds = subst (λ (l : List Place). IsSeenOnce l now seen_now) (sym (take_more ps i d h)) (seen_more (take i ps) once (get_or ps i d) seen seen_now now was adds)

-- places that are at most one
pub few_once : (ps : List Place) → length ps ≤ 1 → AreSameOnce ps ps
few_once ps le = record { all = λ p i. i; only = λ p i. i; is_once = alone ps le }
  where
    alone : (qs : List Place) → length qs ≤ 1 → IsEachPlaceOnce qs
    alone [] le = tt
    alone (p ∷ []) le = (λ i. absurd i, tt)
    alone (p ∷ q ∷ qs) le = absurd (omega (arith, le))
