-- Lists that are gathered, one element of another list after the other.
use Rattle.std.proofs.Common.{◌≡◌, ℕ, ◌+◌, ◌<◌, ◌≤◌, List, [], ◌∷◌, ◌++◌, length, take, get_or, map, sym, ap, ◌∙◌, append_assoc}
use Rattle.std.proofs.lemmas.List.{take_more, take_all, map-append}

pub taken : {A : Type 0} (xs : List A) (i : ℕ) (d x : A) → i < length xs → x ≡ get_or xs i d → take (i + 1) xs ≡ take i xs ++ x ∷ []
taken {A} xs i d x l e = take_more xs i d l ∙ ap (λ (y : A). take i xs ++ y ∷ []) (sym e)

-- the images of the elements so far, behind what was there
module _ {A B : Type 0} (f : A → B) (start : List B) (xs : List A) (i : ℕ) (old : List B) (so_far : old ≡ start ++ map f (take i xs)) where
  pub gathers : (d x : A) (new : List B) → i < length xs → x ≡ get_or xs i d → new ≡ old ++ f x ∷ [] → new ≡ start ++ map f (take (i + 1) xs)
  gathers d x new l e n =
      n ∙ ap (λ (ys : List B). ys ++ f x ∷ []) so_far ∙ append_assoc start (map f (take i xs)) (f x ∷ [])
      ∙ ap (λ (ys : List B). start ++ ys) (sym (map-append f (take i xs) (x ∷ []))) ∙ ap (λ (ys : List A). start ++ map f ys) (sym (taken xs i d x l e))

  pub gathered : length xs ≤ i → old ≡ start ++ map f xs
  gathered l = so_far ∙ ap (λ (ys : List A). start ++ map f ys) (take_all i xs l)
