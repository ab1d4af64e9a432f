-- One more of a list, and all of it.
use Rattle.std.proofs.Common.{◌≡◌, ℕ, ◌+◌, ◌<◌, ◌≤◌, List, [], ◌∷◌, ◌++◌, length, drop, get_or, sym, ap, ◌∙◌, append_assoc}
use Rattle.std.proofs.lemmas.List.{append-nil, drop_more, drop_all}

pub one_dropped : {A : Type 0} (xs : List A) (i : ℕ) (x : A) → i < length xs → x ≡ get_or xs i x → drop i xs ≡ x ∷ drop (i + 1) xs
one_dropped xs i x h e = drop_more xs i x h ∙ ap (λ z. z ∷ drop (i + 1) xs) (sym e)

pub lists_turn : {A : Type 0} (a b whole rest all next : List A) → next ≡ a ++ b → whole ≡ b ++ rest → a ++ whole ≡ all → next ++ rest ≡ all
lists_turn a b whole rest all next e g s = ap (λ xs. xs ++ rest) e ∙ append_assoc a b rest ∙ sym (ap (λ xs. a ++ xs) g) ∙ s

-- what each of a list adds, one more and all
pub added_turn : {A B : Type 0} (f : List A → List B) (g : A → List B) (xs : List A) (i : ℕ) (x : A) (found next all : List B) → ((y : A) (ys : List A) → f (y ∷ ys) ≡ g y ++ f ys) → i < length xs → x ≡ get_or xs i x → next ≡ found ++ g x
    → found ++ f (drop i xs) ≡ all → next ++ f (drop (i + 1) xs) ≡ all
added_turn f g xs i x found next all more h e n s = lists_turn found (g x) (f (drop i xs)) (f (drop (i + 1) xs)) all next n (ap f (one_dropped xs i x h e) ∙ more x (drop (i + 1) xs)) s

pub added_end : {A B : Type 0} (f : List A → List B) (xs : List A) (i : ℕ) (found all : List B) → f [] ≡ [] → length xs ≤ i → found ++ f (drop i xs) ≡ all → found ≡ all
added_end f xs i found all none h s = sym (append-nil found) ∙ sym (ap (λ z. found ++ z) (ap f (drop_all i xs h) ∙ none)) ∙ s
