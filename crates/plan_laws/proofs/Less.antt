-- Lists of places and of waits without a place.
use Rattle.std.proofs.Common.{◌≡◌, List, [], ◌∷◌, ◌++◌, sym, ◌∙◌, ◌⊎◌, inl, inr}
use Rattle.akl_terms.specs.declared.name.Var.{Var}
use Rattle.akl_terms.specs.declared.name.Place.{Place}
use Rattle.akl_model.specs.Wakes.{IsOneOf, Wait, IsKept}
use Rattle.constraint_laws.proofs.SameTerms.{Either}
use Rattle.step_laws.proofs.Decide.{place_or}

pub one_of_left : (place : Place) (xs ys : List Place) → IsOneOf place xs → IsOneOf place (xs ++ ys)
one_of_left place [] ys h = absurd h
one_of_left place (x ∷ xs) ys (inl e) = inl e
one_of_left place (x ∷ xs) ys (inr h) = inr (one_of_left place xs ys h)

pub one_of_right : (place : Place) (xs ys : List Place) → IsOneOf place ys → IsOneOf place (xs ++ ys)
one_of_right place [] ys h = h
one_of_right place (x ∷ xs) ys h = inr (one_of_right place xs ys h)

pub one_of_either : (place : Place) (xs ys : List Place) → IsOneOf place (xs ++ ys) → IsOneOf place xs ⊎ IsOneOf place ys
one_of_either place [] ys h = inr h
one_of_either place (x ∷ xs) ys (inl e) = inl (inl e)
one_of_either place (x ∷ xs) ys (inr h) = elim (one_of_either place xs ys h) [ inl u ↦ inl (inr u) | inr u ↦ inr u ]

-- the places of waits
abbrev pub places_of : List Wait → List Place
places_of [] = []
places_of (w ∷ ws) = w.place ∷ places_of ws

pub waits_place : (place : Place) (x : Var) (ws : List Wait) → IsKept ws place x → IsOneOf place (places_of ws)
waits_place place x [] h = absurd h
waits_place place x (w ∷ ws) (inl e) = inl (sym e.0)
waits_place place x (w ∷ ws) (inr h) = inr (waits_place place x ws h)

module _ (q : Place) where
  place_unless : (r : Place) → Either (r ≡ q) → List Place → List Place
  place_unless r (inl e) rs = rs
  place_unless r (inr n) rs = r ∷ rs

  pub less : List Place → List Place
  less [] = []
  less (r ∷ rs) = place_unless r (place_or r q) (less rs)

  pub less_in : (place : Place) (rs : List Place) → IsOneOf place rs → (place ≡ q) ⊎ IsOneOf place (less rs)
  unfolding less place_unless
  less_in place [] h = absurd h
  less_in place (r ∷ rs) h = on (place_or r q) h (λ u. less_in place rs u)
    where
      on : (e : Either (r ≡ q)) → IsOneOf place (r ∷ rs) → (IsOneOf place rs → (place ≡ q) ⊎ IsOneOf place (less rs)) → (place ≡ q) ⊎ IsOneOf place (place_unless r e (less rs))
      on (inl e) (inl u) f = inl (u ∙ e)
      on (inl e) (inr u) f = f u
      on (inr n) (inl u) f = inr (inl u)
      on (inr n) (inr u) f = elim (f u) [ inl v ↦ inl v | inr v ↦ inr (inr v) ]

  pub less_of : (place : Place) (rs : List Place) → IsOneOf place (less rs) → IsOneOf place rs × (place ≡ q → ⊥)
  unfolding less place_unless
  less_of place [] h = absurd h
  less_of place (r ∷ rs) h = on (place_or r q) h (λ u. less_of place rs u)
    where
      on : (e : Either (r ≡ q)) → IsOneOf place (place_unless r e (less rs)) → (IsOneOf place (less rs) → IsOneOf place rs × (place ≡ q → ⊥)) → IsOneOf place (r ∷ rs) × (place ≡ q → ⊥)
      on (inl e) u f = let v : IsOneOf place rs × (place ≡ q → ⊥) = f u in (inr v.0, v.1)
      on (inr n) (inl u) f = (inl u, λ v. n (sym u ∙ v))
      on (inr n) (inr u) f = let v : IsOneOf place rs × (place ≡ q → ⊥) = f u in (inr v.0, v.1)

  wait_unless : (w : Wait) → Either (w.place ≡ q) → List Wait → List Wait
  wait_unless w (inl e) ws = ws
  wait_unless w (inr n) ws = w ∷ ws

  pub waits_less : List Wait → List Wait
  waits_less [] = []
  waits_less (w ∷ ws) = wait_unless w (place_or w.place q) (waits_less ws)

  pub waits_less_in : (place : Place) (x : Var) (ws : List Wait) → IsKept ws place x → (place ≡ q) ⊎ IsKept (waits_less ws) place x
  unfolding waits_less wait_unless
  waits_less_in place x [] h = absurd h
  waits_less_in place x (w ∷ ws) h = on (place_or w.place q) h (λ u. waits_less_in place x ws u)
    where
      on : (e : Either (w.place ≡ q)) → IsKept (w ∷ ws) place x → (IsKept ws place x → (place ≡ q) ⊎ IsKept (waits_less ws) place x) → (place ≡ q) ⊎ IsKept (wait_unless w e (waits_less ws)) place x
      on (inl e) (inl u) f = inl (sym u.0 ∙ e)
      on (inl e) (inr u) f = f u
      on (inr n) (inl u) f = inr (inl u)
      on (inr n) (inr u) f = elim (f u) [ inl v ↦ inl v | inr v ↦ inr (inr v) ]

  pub waits_less_of : (place : Place) (x : Var) (ws : List Wait) → IsKept (waits_less ws) place x → IsKept ws place x × (place ≡ q → ⊥)
  unfolding waits_less wait_unless
  waits_less_of place x [] h = absurd h
  waits_less_of place x (w ∷ ws) h = on (place_or w.place q) h (λ u. waits_less_of place x ws u)
    where
      on : (e : Either (w.place ≡ q)) → IsKept (wait_unless w e (waits_less ws)) place x → (IsKept (waits_less ws) place x → IsKept ws place x × (place ≡ q → ⊥)) → IsKept (w ∷ ws) place x × (place ≡ q → ⊥)
      on (inl e) u f = let v : IsKept ws place x × (place ≡ q → ⊥) = f u in (inr v.0, v.1)
      on (inr n) (inl u) f = (inl u, λ v. n (u.0 ∙ v))
      on (inr n) (inr u) f = let v : IsKept ws place x × (place ≡ q → ⊥) = f u in (inr v.0, v.1)
