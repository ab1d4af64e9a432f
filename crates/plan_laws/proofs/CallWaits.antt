-- Other waits: what a commit opens where they are kept, and a list of waits without some places.
use Rattle.std.proofs.Common.{List, [], ◌∷◌, ◌≡◌, ◌⊎◌, inl, inr}
use Rattle.akl_terms.specs.declared.name.Var.{Var}
use Rattle.akl_terms.specs.declared.name.Place.{Place}
use Rattle.akl_model.specs.Config.{Config}
use Rattle.akl_model.specs.Wakes.{IsOneOf, Wait, IsKept, Opens, new_goal as opens_goal, new_box as opens_box, changed_goal, box_of_changed_goal, changed_constraint, changed_goals, holder_of_changed_goals, woken, bound_outside}
use Rattle.plan_laws.proofs.Less.{waits_less, waits_less_in, waits_less_of}

-- other waits of a place open it as well, or there is a reason
pub opens_or : (P : Type 0) (waits others : List Wait) (c d : Config) (place : Place) → ((x : Var) → IsKept waits place x → IsKept others place x ⊎ P) → Opens waits c d place → Opens others c d place ⊎ P
opens_or P waits others c d _ h (opens_goal e i) = inl (opens_goal e i)
opens_or P waits others c d _ h (opens_box e i) = inl (opens_box e i)
opens_or P waits others c d _ h (changed_goal e i x) = inl (changed_goal e i x)
opens_or P waits others c d _ h (box_of_changed_goal g e i x) = inl (box_of_changed_goal g e i x)
opens_or P waits others c d _ h (changed_constraint e i x) = inl (changed_constraint e i x)
opens_or P waits others c d _ h (changed_goals e i x) = inl (changed_goals e i x)
opens_or P waits others c d _ h (holder_of_changed_goals n e i x j) = inl (holder_of_changed_goals n e i x j)
opens_or P waits others c d _ h (woken n {x} y b) = elim (h x y) [ inl z ↦ inl (woken n z b) | inr z ↦ inr z ]
opens_or P waits others c d _ h (bound_outside n b o s) = inl (bound_outside n b o s)

pub opens_too : (waits others : List Wait) (c d : Config) (place : Place) → ((x : Var) → IsKept waits place x → IsKept others place x) → Opens waits c d place → Opens others c d place
opens_too waits others c d place h o = elim (opens_or ⊥ waits others c d place (λ x y. inl (h x y)) o) [ inl y ↦ y | inr y ↦ absurd y ]

-- the waits of other places than these
pub waits_beside : List Place → List Wait → List Wait
waits_beside [] ws = ws
waits_beside (q ∷ qs) ws = waits_less q (waits_beside qs ws)

pub beside_in : (place : Place) (x : Var) (qs : List Place) (ws : List Wait) → (IsOneOf place qs → ⊥) → IsKept ws place x → IsKept (waits_beside qs ws) place x
unfolding waits_beside
beside_in place x [] ws n y = y
beside_in place x (q ∷ qs) ws n y = elim (waits_less_in q place x (waits_beside qs ws) (beside_in place x qs ws (λ i. n (inr i)) y)) [ inl e ↦ absurd (n (inl e)) | inr z ↦ z ]

pub beside_of : (place : Place) (x : Var) (qs : List Place) (ws : List Wait) → IsKept (waits_beside qs ws) place x → IsKept ws place x × (IsOneOf place qs → ⊥)
unfolding waits_beside
beside_of place x [] ws y = (y, λ i. i)
beside_of place x (q ∷ qs) ws y =
    let u : IsKept (waits_beside qs ws) place x × (place ≡ q → ⊥) = waits_less_of q place x (waits_beside qs ws) y in
    let v : IsKept ws place x × (IsOneOf place qs → ⊥) = beside_of place x qs ws u.0 in
    (v.0, λ i. elim i [ inl e ↦ u.1 e | inr j ↦ v.1 j ])
