-- Which waits are kept after a commit.
use Rattle.std.proofs.Common.{◌≡◌, Bool, true, false, List, [], ◌∷◌, refl, sym, ap, ◌∙◌, inl, inr}
use Rattle.std.specs.Prelude.{if◌then◌else◌, ◌&&◌, not}
use Rattle.akl_terms.specs.declared.name.Var.{Var}
use Rattle.akl_terms.specs.declared.name.Place.{Place}
use Rattle.akl_model.specs.Config.{Config}
use Rattle.akl_model.specs.Wakes.{Wait, IsKept}
use Rattle.step_laws.proofs.Decide.{there_or}
use Rattle.plan_laws.specs.Kept.{AreLeftByCommit}
use Rattle.wake_lists.specs.Waits.{waits_on}
use Rattle.opened_places.specs.Placed.{PlacedValue, places_of}
use Rattle.scheduler.specs.Openings.{AreListed}
use Rattle.scheduler.specs.Dropping.{is_place_in, DropsWaits}
use Rattle.scheduler.proofs.DroppedWaits.{Waiting}
use Rattle.scheduler.proofs.CommitFacts.{not_true, CommitFacts, not_both, listed_place, place_listed}

-- the waits of other places
abbrev pub kept_but : List Place → List Wait → List Wait
kept_but ps [] = []
kept_but ps (w ∷ ws) = if is_place_in w.place ps then kept_but ps ws else w ∷ kept_but ps ws

pub but_kept : (ps : List Place) (ws : List Wait) (p : Place) (x : Var) → IsKept (kept_but ps ws) p x → IsKept ws p x × (is_place_in p ps ≡ false)
but_kept ps [] p x k = absurd k
but_kept ps (w ∷ ws) p x k = on (is_place_in w.place ps) refl k (but_kept ps ws p x)
  where
    on : (b : Bool) → is_place_in w.place ps ≡ b → IsKept (if b then kept_but ps ws else w ∷ kept_but ps ws) p x → (IsKept (kept_but ps ws) p x → IsKept ws p x × (is_place_in p ps ≡ false))
        → IsKept (w ∷ ws) p x × (is_place_in p ps ≡ false)
    on true e k r = let y : IsKept ws p x × (is_place_in p ps ≡ false) = r k in (inr y.0, y.1)
    on false e (inl s) r = (inl s, ap (λ (q : Place). is_place_in q ps) (sym s.0) ∙ e)
    on false e (inr k) r = let y : IsKept ws p x × (is_place_in p ps ≡ false) = r k in (inr y.0, y.1)

pub kept_still : (ps : List Place) (ws : List Wait) (p : Place) (x : Var) → IsKept ws p x → is_place_in p ps ≡ false → IsKept (kept_but ps ws) p x
kept_still ps [] p x k n = absurd k
kept_still ps (w ∷ ws) p x k n = on (is_place_in w.place ps) refl k (λ j. kept_still ps ws p x j n)
  where
    on : (b : Bool) → is_place_in w.place ps ≡ b → IsKept (w ∷ ws) p x → (IsKept ws p x → IsKept (kept_but ps ws) p x) → IsKept (if b then kept_but ps ws else w ∷ kept_but ps ws) p x
    on true e (inl s) r = absurd (not_both (ap (λ (q : Place). is_place_in q ps) (sym s.0) ∙ e) n)
    on true e (inr k) r = r k
    on false e (inl s) r = inl s
    on false e (inr k) r = inr (r k)

pub listed_but : (ws new : Waiting) (kept : List Wait) (ps : List Place) → AreListed ws kept → DropsWaits ws ps new → AreListed new (kept_but ps kept)
listed_but ws new kept ps a d = record {
  all = λ p x e. let y : (waits_on ws p x ≡ true) × (is_place_in p ps ≡ false) = both (waits_on ws p x) (is_place_in p ps) (sym (d p x) ∙ e) in kept_still ps kept p x (a.all p x y.0) y.1;
  only = λ p x k. let y : IsKept kept p x × (is_place_in p ps ≡ false) = but_kept ps kept p x k in d p x ∙ join (waits_on ws p x) (is_place_in p ps) (a.only p x y.0) y.1;
}
  where
    both : (a b : Bool) → (a && not b) ≡ true → (a ≡ true) × (b ≡ false)
    both true true e = cc
    both true false e = (refl, refl)
    both false b e = cc

    join : (a b : Bool) → a ≡ true → b ≡ false → (a && not b) ≡ true
    join true true e f = cc
    join true false e f = refl
    join false b e f = cc

module _ (c d : Config) (own : Place) (before : List Place) (kept : List Wait) (ps : List PlacedValue) (gone : List Place) (f : CommitFacts c d own before kept ps gone) where
  abbrev pub left : List Wait
  left = kept_but gone (kept_but (places_of ps) kept)

  left_was : (place : Place) (x : Var) → IsKept left place x → IsKept kept place x × ((is_place_in place (places_of ps) ≡ false) × (is_place_in place gone ≡ false))
  left_was place x k =
      let y : IsKept (kept_but (places_of ps) kept) place x × (is_place_in place gone ≡ false) = but_kept gone (kept_but (places_of ps) kept) place x k in
      let z : IsKept kept place x × (is_place_in place (places_of ps) ≡ false) = but_kept (places_of ps) kept place x y.0 in
      (z.0, (z.1, y.1))

  pub left_by : AreLeftByCommit kept c d left
  left_by = record {
    each = λ place x k.
        let y : IsKept kept place x × ((is_place_in place (places_of ps) ≡ false) × (is_place_in place gone ≡ false)) = left_was place x k in
        record {
          kept = y.0;
          unopened = λ o. not_both (place_listed place (places_of ps) (f.effects.listed place o)) y.1.0;
          there = elim (there_or place d.roots) [ inl h ↦ h | inr m ↦ absurd (not_both (place_listed place gone (f.gone_listed place (f.waits.there place x y.0) m)) y.1.1) ];
        };
    all = λ place x k. kept_still gone (kept_but (places_of ps) kept) place x
        (kept_still (places_of ps) kept place x k.kept (not_true (is_place_in place (places_of ps)) (λ e. k.unopened (f.effects.opened place (listed_place place (places_of ps) e)))))
        (not_true (is_place_in place gone) (λ e. f.is_gone place (listed_place place gone e) k.there));
  }
