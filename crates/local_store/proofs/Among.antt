-- Variables of lists.
use Rattle.std.proofs.Common.{List, [], ◌∷◌, ◌++◌, ◌⊎◌, inl, inr}
use Rattle.akl_terms.specs.declared.name.Var.{Var}
use Rattle.constraint_laws.specs.Touched.{IsAmong}

pub among-either : (xs ys : List Var) (x : Var) → IsAmong x (xs ++ ys) → IsAmong x xs ⊎ IsAmong x ys
among-either [] ys x m = inr m
among-either (y ∷ xs) ys x (inl e) = inl (inl e)
among-either (y ∷ xs) ys x (inr m) = elim (among-either xs ys x m) [ inl a ↦ inl (inr a) | inr b ↦ inr b ]

pub among-left : (xs ys : List Var) (x : Var) → IsAmong x xs → IsAmong x (xs ++ ys)
among-left [] ys x m = absurd m
among-left (y ∷ xs) ys x (inl e) = inl e
among-left (y ∷ xs) ys x (inr m) = inr (among-left xs ys x m)

pub among-right : (xs ys : List Var) (x : Var) → IsAmong x ys → IsAmong x (xs ++ ys)
among-right [] ys x m = m
among-right (y ∷ xs) ys x m = inr (among-right xs ys x m)
