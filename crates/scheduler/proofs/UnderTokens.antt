-- The places that are open under tokens.
use Rattle.std.proofs.Common.{◌≡◌, ℕ, ◌+◌, ◌<◌, get_or, take, length, Bool, true, false, List, [], ◌∷◌, ◌++◌, Option, Some, None, refl, sym, ap, subst, ◌∙◌, inl, inr, append_assoc}
use Rattle.std.proofs.lemmas.List.{take_more}
use Rattle.std.specs.Prelude.{◌&&◌, not, option_map, IfSome}
use Rattle.akl_terms.specs.declared.name.Var.{Var}
use Rattle.akl_terms.specs.declared.name.Place.{Place}
use Rattle.akl_model.specs.Wakes.{IsOneOf}
use Rattle.akl_model.proofs.Options.{some_value}
use Rattle.wake_lists.specs.Open.{Opening, Openings, opening_at, IsOpen}
use Rattle.wake_lists.specs.Waits.{same_place, waits_on}
use Rattle.opened_places.specs.Placed.{PlacedValue, placed, places_of}
use Rattle.opened_places.proofs.Members.{one_left, one_right, one_either}
use Rattle.scheduler.specs.Openings.{IsNumberIn, IsOpenAt}
use Rattle.scheduler.specs.Opening.{AreOpened}
use Rattle.scheduler.specs.Dropping.{is_place_in, DropsWaits, place_list, places_under}
use Rattle.scheduler.specs.Counting.{DropBySteps}
use Rattle.scheduler.specs.Schedulers.{SchedulerValue, IsScheduler}
use Rattle.scheduler.proofs.CommitFacts.{not_both, listed_place, place_listed, not_true}
use Rattle.scheduler.proofs.DroppedWaits.{Waiting, dropped_more, silent}
use Rattle.scheduler.proofs.OpeningLists.{some_none}
use Rattle.scheduler.proofs.OpenedMore.{its_open}
use Rattle.scheduler.proofs.PlacedThose.{of_placed}

-- one token more
no_more : (ps : List Place) → ps ++ [] ≡ ps
no_more [] = refl
no_more (p ∷ ps) = ap (λ (qs : List Place). p ∷ qs) (no_more ps)

under_end : (ts : List ℕ) (t : ℕ) (os : Openings) → places_under (ts ++ t ∷ []) os ≡ places_under ts os ++ place_list (opening_at t os)
under_end [] t os = no_more (place_list (opening_at t os))
under_end (s ∷ ss) t os = ap (λ (ps : List Place). place_list (opening_at s os) ++ ps) (under_end ss t os) ∙ sym (append_assoc (place_list (opening_at s os)) (places_under ss os) (place_list (opening_at t os)))

pub under_next : (ts : List ℕ) (i : ℕ) (os : Openings) → i < length ts → places_under (take (i + 1) ts) os ≡ places_under (take i ts) os ++ place_list (opening_at (get_or ts i 0) os)
under_next ts i os h = ap (λ (l : List ℕ). places_under l os) (take_more ts i 0 h) ∙ under_end (take i ts) (get_or ts i 0) os

pub place_listed_by : (o : Option Opening) (q : Place) → Some q ≡ option_map (λ (o : Opening). o.place) o → place_list o ≡ q ∷ []
place_listed_by None q e = cc
place_listed_by (Some o) q e = ap (λ (p : Place). p ∷ []) (sym (some_value e))

pub none_listed_by : (o : Option Opening) → ((q : Place) → Some q ≡ option_map (λ (o : Opening). o.place) o → ⊥) → place_list o ≡ []
none_listed_by None n = refl
none_listed_by (Some o) n = absurd (n o.place refl)

-- the places under tokens, and the tokens of these places
record IsUnder (ts : List ℕ) (os : Openings) (p : Place) : Type 0 where
  token : ℕ
  listed : IsNumberIn token ts
  opening : Opening
  is_open : opening_at token os ≡ Some opening
  of_place : opening.place ≡ p

in_list : (o : Option Opening) (p : Place) → IsOneOf p (place_list o) → (q : Opening) × (o ≡ Some q) × (q.place ≡ p)
in_list None p i = absurd i
in_list (Some q) p (inl e) = (q, refl, sym e)
in_list (Some q) p (inr i) = absurd i

is_under : (ts : List ℕ) (os : Openings) (p : Place) → IsOneOf p (places_under ts os) → IsUnder ts os p
is_under [] os p i = absurd i
is_under (t ∷ ts) os p i = elim (one_either p (place_list (opening_at t os)) (places_under ts os) i) [
  | inl j ↦ let w : (q : Opening) × (opening_at t os ≡ Some q) × (q.place ≡ p) = in_list (opening_at t os) p j in record { token = t; listed = inl refl; opening = w.0; is_open = w.1; of_place = w.2 }
  | inr j ↦ let w : IsUnder ts os p = is_under ts os p j in record { token = w.token; listed = inr w.listed; opening = w.opening; is_open = w.is_open; of_place = w.of_place }
]

under_is : (ts : List ℕ) (os : Openings) (t : ℕ) (o : Opening) → IsNumberIn t ts → opening_at t os ≡ Some o → IsOneOf o.place (places_under ts os)
under_is [] os t o i f = absurd i
under_is (s ∷ ss) os t o (inl e) f = one_left o.place (place_list (opening_at s os)) (places_under ss os)
    (subst (λ (w : Option Opening). IsOneOf o.place (place_list w)) (sym (ap (λ (k : ℕ). opening_at k os) (sym e) ∙ f)) (inl refl))
under_is (s ∷ ss) os t o (inr i) f = one_right o.place (place_list (opening_at s os)) (places_under ss os) (under_is ss os t o i f)

-- what one list has, the other one has
same_in : (p : Place) (ps qs : List Place) → (IsOneOf p ps → IsOneOf p qs) → (IsOneOf p qs → IsOneOf p ps) → is_place_in p ps ≡ is_place_in p qs
same_in p ps qs f g = on (is_place_in p ps) refl
  where
    on : (b : Bool) → is_place_in p ps ≡ b → is_place_in p ps ≡ is_place_in p qs
    on true e = e ∙ sym (place_listed p qs (f (listed_place p ps e)))
    on false e = e ∙ sym (not_true (is_place_in p qs) (λ i. not_both (place_listed p ps (g (listed_place p qs i))) e))

-- the waits of one more
pub dropped_under : (ts : List ℕ) (i : ℕ) (os : Openings) (q : Place) (old mid new : Waiting) → i < length ts → Some q ≡ option_map (λ (o : Opening). o.place) (opening_at (get_or ts i 0) os) → DropsWaits old (places_under (take i ts) os) mid
    → ((p : Place) (x : Var) → waits_on new p x ≡ (waits_on mid p x && not (same_place p q))) → DropsWaits old (places_under (take (i + 1) ts) os) new
dropped_under ts i os q old mid new h e r s = subst (λ (l : List Place). DropsWaits old l new) (sym (under_next ts i os h ∙ ap (λ (l : List Place). places_under (take i ts) os ++ l) (place_listed_by (opening_at (get_or ts i 0) os) q e)))
    (dropped_more old mid new (places_under (take i ts) os) q r s)

-- where a token leads to none
pub under_same : (ts : List ℕ) (i : ℕ) (os : Openings) → i < length ts → ((q : Place) → Some q ≡ option_map (λ (o : Opening). o.place) (opening_at (get_or ts i 0) os) → ⊥) → places_under (take i ts) os ≡ places_under (take (i + 1) ts) os
under_same ts i os h n = sym (under_next ts i os h ∙ ap (λ (l : List Place). places_under (take i ts) os ++ l) (none_listed_by (opening_at (get_or ts i 0) os) n) ∙ no_more (places_under (take i ts) os))

-- of places that are opened together those that weren't open before are under the new tokens; and only these can wait
module _ (s : SchedulerValue) (h : IsScheduler s) (ps : List PlacedValue) (mid : Openings) (ts : List ℕ) (opened : AreOpened s.openings ps mid ts) where
  are_placed : (p : Place) → IsOneOf p (places_under ts mid) → IsOneOf p (places_of ps)
  are_placed p i =
      let w : IsUnder ts mid p = is_under ts mid p i in
      elim (opened.each w.token w.opening w.is_open) [
        | inl e ↦ absurd (some_none e (opened.new w.token w.listed).0)
        | inr n ↦ subst (λ (q : Place). IsOneOf q (places_of ps)) w.of_place (of_placed (placed w.opening.place w.opening.boxes) ps n.is_placed)
      ]

  pub open_silent : (p : Place) → IsOpenAt s.openings p → (x : Var) → waits_on s.waits p x ≡ false
  open_silent p o x = not_true (waits_on s.waits p x) (λ e. h.waits.closed p x (h.listed.all p x e) (h.are_open.all p o))

  waiting_under : (p : Place) (x : Var) → waits_on s.waits p x ≡ true → IsOneOf p (places_of ps) → IsOneOf p (places_under ts mid)
  waiting_under p x e i =
      let o : IsOpenAt mid p = opened.all p i in
      elim (opened.each o.token o.opening o.is_open) [
        | inl f ↦ absurd (not_both e (open_silent p (record { token = o.token; opening = o.opening; is_open = f; of_place = o.of_place }) x))
        | inr n ↦ subst (λ (q : Place). IsOneOf q (places_under ts mid)) o.of_place (under_is ts mid o.token o.opening n.listed o.is_open)
      ]

  pub drops_opened : (now : Waiting) → DropsWaits s.waits (places_under ts mid) now → DropsWaits s.waits (places_of ps) now
  drops_opened now d p x = d p x ∙ on (waits_on s.waits p x) refl
    where
      on : (w : Bool) → waits_on s.waits p x ≡ w → (waits_on s.waits p x && not (is_place_in p (places_under ts mid))) ≡ (waits_on s.waits p x && not (is_place_in p (places_of ps)))
      on true e = ap (λ (c : Bool). waits_on s.waits p x && not c) (same_in p (places_under ts mid) (places_of ps) (are_placed p) (waiting_under p x e))
      on false e = ap (λ (c : Bool). c && not (is_place_in p (places_under ts mid))) e ∙ sym (ap (λ (c : Bool). c && not (is_place_in p (places_of ps))) e)

  pub counts_opened : (n m : ℕ) → DropBySteps s.waits (places_under ts mid) n m → DropBySteps s.waits (places_of ps) n m
  counts_opened n m b = record {
    taken = b.taken;
    waited = b.waited;
    of_places = λ p x i. are_placed p (b.of_places p x i);
    all = λ p x e i. b.all p x e (waiting_under p x e i);
    once = b.once;
    steps = b.steps;
  }

  -- the own place, where it was open, waits on nothing still
  pub own_silent : (now : Waiting) → DropsWaits s.waits (places_under ts mid) now → (place : Place) (own : Option ℕ) → IsOpen s.openings place own → IfSome (option_map (λ _. place) own) (λ (p : Place). (x : Var) → waits_on now p x ≡ false)
  own_silent now d place None token = tt
  own_silent now d place (Some t) token = silent s.waits now (places_under ts mid) place d (open_silent place (its_open s.openings place t token))
