-- Places that are opened one after another, each once.
use Rattle.std.proofs.Common.{◌≡◌, ℕ, ◌+◌, ◌<◌, zero, suc, get_or, take, length, List, [], ◌∷◌, ◌++◌, refl, sym, subst, ◌∙◌, inl, inr, arith}
use Rattle.std.proofs.lemmas.List.{take_more}
use Rattle.akl_terms.specs.declared.name.Place.{Place}
use Rattle.akl_model.specs.Wakes.{IsOneOf}
use Rattle.wake_lists.specs.Open.{Openings}
use Rattle.opened_places.specs.Placed.{PlacedValue, places_of}
use Rattle.scheduler.specs.Openings.{IsOpenAt}
use Rattle.scheduler.specs.Opening.{IsPlacedIn, AreOpened}
use Rattle.scheduler.specs.Counting.{place_steps, OpensBySteps, was_open, is_new, OpenSomeBySteps}
use Rattle.scheduler.proofs.PlacedThose.{of_placed, one_placed}

placed_left : (p : PlacedValue) (ps qs : List PlacedValue) → IsPlacedIn p ps → IsPlacedIn p (ps ++ qs)
placed_left p [] qs i = absurd i
placed_left p (r ∷ rs) qs (inl e) = inl e
placed_left p (r ∷ rs) qs (inr i) = inr (placed_left p rs qs i)

placed_end : (ps : List PlacedValue) (p : PlacedValue) → IsPlacedIn p (ps ++ p ∷ [])
placed_end [] p = inl refl
placed_end (r ∷ rs) p = inr (placed_end rs p)

placed_within : (p : PlacedValue) (i : ℕ) (ps : List PlacedValue) → IsPlacedIn p (take i ps) → IsPlacedIn p ps
placed_within p zero ps h = absurd h
placed_within p (suc i) [] h = absurd h
placed_within p (suc i) (r ∷ rs) (inl e) = inl e
placed_within p (suc i) (r ∷ rs) (inr h) = inr (placed_within p i rs h)

-- some of the first places are some of all
pub open_within : (ps : List PlacedValue) (i : ℕ) (n m : ℕ) → OpenSomeBySteps (take i ps) n m → OpenSomeBySteps ps n m
open_within ps i n m b = record { some = b.some; among = λ p h. placed_within p i ps (b.among p h); once = b.once; steps = b.steps }

-- a place more, where those before it are open
open_more : (ps : List PlacedValue) (p : PlacedValue) (mid : Openings) (n m k : ℕ) → ((place : Place) → IsOneOf place (places_of ps) → IsOpenAt mid place) → OpenSomeBySteps ps n m → OpensBySteps mid p m k → OpenSomeBySteps (ps ++ p ∷ []) n k
open_more ps p mid n m k opened b (was_open o e) = record { some = b.some; among = λ q i. placed_left q ps (p ∷ []) (b.among q i); once = b.once; steps = e ∙ b.steps }
open_more ps p mid n m k opened b (is_new c e) = record {
  some = p ∷ b.some;
  among = λ q i. elim i [ inl f ↦ subst (λ (r : PlacedValue). IsPlacedIn r (ps ++ p ∷ [])) (sym f) (placed_end ps p) | inr j ↦ placed_left q ps (p ∷ []) (b.among q j) ];
  once = (λ i. c (opened p.place (listed i)), b.once);
  steps = let f : m ≡ n + place_steps b.some = b.steps in omega arith;
}
  where
    listed : IsOneOf p.place (places_of b.some) → IsOneOf p.place (places_of ps)
    listed i =
        let w : (q : PlacedValue) × IsPlacedIn q b.some × (q.place ≡ p.place) = one_placed p.place b.some i in
        subst (λ (z : Place). IsOneOf z (places_of ps)) w.2 (of_placed w.0 ps (b.among w.0 w.1))

pub open_next : (ps : List PlacedValue) (i : ℕ) (d p : PlacedValue) (before mid : Openings) (tokens : List ℕ) (n m k : ℕ) → i < length ps → p ≡ get_or ps i d → AreOpened before (take i ps) mid tokens → OpenSomeBySteps (take i ps) n m
    → OpensBySteps mid p m k → OpenSomeBySteps (take (i + 1) ps) n k
open_next ps i d p before mid tokens n m k h e a b s =
    subst (λ (l : List PlacedValue). OpenSomeBySteps l n k) (sym (take_more ps i d h))
    (subst (λ (r : PlacedValue). OpenSomeBySteps (take i ps ++ r ∷ []) n k) e (open_more (take i ps) p mid n m k a.all b s))
