-- One more place waits no more, and one more box leaves.
use Rattle.std.proofs.Common.{◌≡◌, ℕ, ◌+◌, ◌<◌, ◌≤◌, get_or, take, drop, Bool, true, false, List, [], ◌∷◌, ◌++◌, length, refl, sym, ap, subst, ◌∙◌}
use Rattle.std.proofs.lemmas.List.{take_more, at_drop_more}
use Rattle.std.proofs.Math.ListN.{drop_of_length-le}
use Rattle.std.specs.Prelude.{◌||◌, ◌&&◌, not}
use Rattle.akl_terms.specs.declared.name.Name.{Name}
use Rattle.akl_terms.specs.declared.name.Var.{Var}
use Rattle.akl_terms.specs.declared.name.Place.{Place}
use Rattle.wake_lists.specs.Open.{Openings, after_one, after_leave}
use Rattle.wake_lists.specs.Waits.{same_place, waits_on}
use Rattle.wake_lists.proofs.Both.{same_place-equal}
use Rattle.opened_places.specs.Placed.{PlacedValue, places_of}
use Rattle.scheduler.specs.Dropping.{is_place_in, DropsWaits, boxes_among}

abbrev pub Waiting : Type 0
Waiting = List (Var × List Place)

pub or_false : (a : Bool) → (a || false) ≡ a
or_false true = refl
or_false false = refl

pub in_end : (p : Place) (ps : List Place) (q : Place) → is_place_in p (ps ++ q ∷ []) ≡ (is_place_in p ps || same_place p q)
in_end p [] q = or_false (same_place p q)
in_end p (r ∷ rs) q = ap (λ (b : Bool). same_place p r || b) (in_end p rs q) ∙ assoc (same_place p r)
  where
    assoc : (a : Bool) → (a || (is_place_in p rs || same_place p q)) ≡ ((a || is_place_in p rs) || same_place p q)
    assoc true = refl
    assoc false = refl

pub dropped_more : (old mid new : Waiting) (ps : List Place) (q : Place) → DropsWaits old ps mid → ((p : Place) (x : Var) → waits_on new p x ≡ (waits_on mid p x && not (same_place p q))) → DropsWaits old (ps ++ q ∷ []) new
dropped_more old mid new ps q h s p x = s p x ∙ ap (λ (b : Bool). b && not (same_place p q)) (h p x) ∙ both (waits_on old p x) (is_place_in p ps) (same_place p q) ∙ ap (λ (b : Bool). waits_on old p x && not b) (sym (in_end p ps q))
  where
    both : (a b c : Bool) → ((a && not b) && not c) ≡ (a && not (b || c))
    both true true c = refl
    both true false c = refl
    both false b c = refl

-- of a place that didn't wait nothing is to be dropped
pub silent : (old mid : Waiting) (ps : List Place) (q : Place) → DropsWaits old ps mid → ((x : Var) → waits_on old q x ≡ false) → (x : Var) → waits_on mid q x ≡ false
silent old mid ps q h s x = h q x ∙ ap (λ (b : Bool). b && not (is_place_in q ps)) (s x)

pub silent_more : (mid : Waiting) (q : Place) → ((x : Var) → waits_on mid q x ≡ false) → (p : Place) (x : Var) → waits_on mid p x ≡ (waits_on mid p x && not (same_place p q))
silent_more mid q s p x = on (same_place p q) refl
  where
    kept : (a : Bool) → a ≡ (a && not false)
    kept true = refl
    kept false = refl

    none : (a : Bool) → (a && not true) ≡ false
    none true = refl
    none false = refl

    on : (b : Bool) → same_place p q ≡ b → waits_on mid p x ≡ (waits_on mid p x && not b)
    on true e = ap (λ (r : Place). waits_on mid r x) (same_place-equal p q e) ∙ s x ∙ sym (none (waits_on mid p x))
    on false e = kept (waits_on mid p x)

pub places_end : (ps : List PlacedValue) (p : PlacedValue) → places_of (ps ++ p ∷ []) ≡ places_of ps ++ p.place ∷ []
places_end [] p = refl
places_end (q ∷ qs) p = ap (λ (l : List Place). q.place ∷ l) (places_end qs p)

-- by an index
pub dropped_next : (ps : List Place) (i : ℕ) (d : Place) (old mid new : Waiting) → i < length ps → DropsWaits old (take i ps) mid → ((p : Place) (x : Var) → waits_on new p x ≡ (waits_on mid p x && not (same_place p (get_or ps i d))))
    → DropsWaits old (take (i + 1) ps) new
dropped_next ps i d old mid new h r s = subst (λ (l : List Place). DropsWaits old l new) (sym (take_more ps i d h)) (dropped_more old mid new (take i ps) (get_or ps i d) r s)

pub dropped_placed : (ps : List PlacedValue) (i : ℕ) (d : PlacedValue) (q : Place) (old mid new : Waiting) → i < length ps → DropsWaits old (places_of (take i ps)) mid → q ≡ (get_or ps i d).place
    → ((p : Place) (x : Var) → waits_on new p x ≡ (waits_on mid p x && not (same_place p q))) → DropsWaits old (places_of (take (i + 1) ps)) new
dropped_placed ps i d q old mid new h r e s = subst (λ (l : List Place). DropsWaits old l new) (sym (ap places_of (take_more ps i d h) ∙ places_end (take i ps) (get_or ps i d)))
    (dropped_more old mid new (places_of (take i ps)) (get_or ps i d).place r (λ p x. s p x ∙ ap (λ (k : Place). waits_on mid p x && not (same_place p k)) e))

-- boxes leave one after another
pub left_box : (ps : List Place) (i : ℕ) (d : Place) (n : Name) (old mid new : Openings) → i < length ps → get_or ps i d ≡ Place.Box n → after_leave (boxes_among (drop i ps)) mid ≡ after_leave (boxes_among ps) old → new ≡ after_one n mid
    → after_leave (boxes_among (drop (i + 1) ps)) new ≡ after_leave (boxes_among ps) old
left_box ps i d n old mid new h b r e = ap (after_leave (boxes_among (drop (i + 1) ps))) e ∙ sym (ap (λ (k : Place). after_leave (boxes_among (k ∷ drop (i + 1) ps)) mid) b) ∙ sym (at_drop_more (λ l. after_leave (boxes_among l) mid) ps i d h) ∙ r

pub left_goal : (ps : List Place) (i : ℕ) (d : Place) (g : Name) (old mid : Openings) → i < length ps → get_or ps i d ≡ Place.Goal g → after_leave (boxes_among (drop i ps)) mid ≡ after_leave (boxes_among ps) old
    → after_leave (boxes_among (drop (i + 1) ps)) mid ≡ after_leave (boxes_among ps) old
left_goal ps i d g old mid h b r = sym (ap (λ (k : Place). after_leave (boxes_among (k ∷ drop (i + 1) ps)) mid) b) ∙ sym (at_drop_more (λ l. after_leave (boxes_among l) mid) ps i d h) ∙ r

pub left_all : (ps : List Place) (i : ℕ) (old mid : Openings) → length ps ≤ i → after_leave (boxes_among (drop i ps)) mid ≡ after_leave (boxes_among ps) old → mid ≡ after_leave (boxes_among ps) old
left_all ps i old mid h r = ap (λ l. after_leave (boxes_among l) mid) (sym (drop_of_length-le ps h)) ∙ r
