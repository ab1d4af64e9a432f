-- Lists whose elements are seen by what they stand for: one more, and one set in the place that was kept for it.
use Rattle.std.proofs.Common.{◌≡◌, ℕ, ◌+◌, ◌<◌, ◌≤◌, List, [], ◌∷◌, ◌++◌, length, map, drop, get_or, sym, ap, ◌∙◌, arith, append_assoc, length-append, Result, OnOk}
use Rattle.std.specs.Prelude.{slice_set}
use Rattle.std.proofs.Math.Seq.{set-append_seam}
use Rattle.std.proofs.lemmas.Result.{on_ok_weaker}
use Rattle.std.proofs.lemmas.List.{append-nil, map-set, map_push, length-map, drop_more, drop_all}
use Rattle.akl_lift.proofs.FirstSeen.{one_dropped}

module _ {A B : Type 0} (f : A → B) where
  -- behind the place that was kept, more has come
  kept : (old one two : List A) (p : A) (es : List B) → one ≡ old ++ p ∷ [] → map f two ≡ map f one ++ es → map f two ≡ map f old ++ f p ∷ es
  kept old one two p es e g = g ∙ ap (λ (xs : List A). map f xs ++ es) e ∙ ap (λ (xs : List B). xs ++ es) (map_push f old p) ∙ append_assoc (map f old) (f p ∷ []) es

  pub slot_room : (old one two : List A) (p : A) (es : List B) (at : ℕ) → one ≡ old ++ p ∷ [] → map f two ≡ map f one ++ es → at ≡ length old → at < length two
  slot_room old one two p es at e g h =
      let whole = kept old one two p es e g in
      let a : length (map f two) ≡ length (map f old ++ f p ∷ es) = ap length whole in
      let b : length (map f old ++ f p ∷ es) ≡ length (map f old) + length (f p ∷ es) = length-append (map f old) (f p ∷ es) in
      let c : length (map f two) ≡ length two = length-map two f in
      let d : length (map f old) ≡ length old = length-map old f in
      omega arith

  pub slot_set : (old one two : List A) (p x : A) (es : List B) (at : ℕ) → one ≡ old ++ p ∷ [] → map f two ≡ map f one ++ es → at ≡ length old → map f (slice_set two at x) ≡ map f old ++ f x ∷ es
  slot_set old one two p x es at e g h =
      map-set f two at x ∙ ap (λ (xs : List B). slice_set xs at (f x)) (kept old one two p es e g) ∙ ap (λ (n : ℕ). slice_set (map f old ++ f p ∷ es) n (f x)) (h ∙ sym (length-map old f))
      ∙ set-append_seam (map f old) (f p) es (f x)

  -- one more of what is left
  pub piece_turn : (found : List A) (y : A) (b : B) (whole rest all : List B) → f y ≡ b → whole ≡ b ∷ rest → map f found ++ whole ≡ all → map f (found ++ y ∷ []) ++ rest ≡ all
  piece_turn found y b whole rest all e g s =
      ap (λ (xs : List B). xs ++ rest) (map_push f found y) ∙ append_assoc (map f found) (f y ∷ []) rest ∙ ap (λ (z : B). map f found ++ z ∷ rest) e ∙ sym (ap (λ (xs : List B). map f found ++ xs) g) ∙ s

pub lists_turn : {A : Type 0} (a b whole rest all next : List A) → next ≡ a ++ b → whole ≡ b ++ rest → a ++ whole ≡ all → next ++ rest ≡ all
lists_turn a b whole rest all next e g s = ap (λ xs. xs ++ rest) e ∙ append_assoc a b rest ∙ sym (ap (λ xs. a ++ xs) g) ∙ s

-- what each of a list adds, one more and all
pub added_turn : {A B : Type 0} (f : List A → List B) (g : A → List B) (xs : List A) (i : ℕ) (x : A) (found next all : List B) → ((y : A) (ys : List A) → f (y ∷ ys) ≡ g y ++ f ys) → i < length xs → x ≡ get_or xs i x → next ≡ found ++ g x
    → found ++ f (drop i xs) ≡ all → next ++ f (drop (i + 1) xs) ≡ all
added_turn f g xs i x found next all more h e n s = lists_turn found (g x) (f (drop i xs)) (f (drop (i + 1) xs)) all next n (ap f (one_dropped xs i x h e) ∙ more x (drop (i + 1) xs)) s

pub added_end : {A B : Type 0} (f : List A → List B) (xs : List A) (i : ℕ) (found all : List B) → f [] ≡ [] → length xs ≤ i → found ++ f (drop i xs) ≡ all → found ≡ all
added_end f xs i found all none h s = sym (append-nil found) ∙ sym (ap (λ z. found ++ z) (ap f (drop_all i xs h) ∙ none)) ∙ s

-- what two calls add, one behind the other
pub both_added : {A T E : Type 0} (r : Result T E) (old one two xs ys : List A) → one ≡ old ++ xs → OnOk r (two ≡ one ++ ys) → OnOk r (two ≡ old ++ (xs ++ ys))
both_added {A} r old one two xs ys e f = on_ok_weaker r (λ g. g ∙ ap (λ (zs : List A). zs ++ ys) e ∙ append_assoc old xs ys) f

-- one more of what a function gives
pub map_turn : {A B : Type 0} (f : A → B) (xs : List A) (d : A) (found new all : List B) (y : B) (i : ℕ) → i < length xs → new ≡ found ++ y ∷ [] → y ≡ f (get_or xs i d) → found ++ map f (drop i xs) ≡ all → new ++ map f (drop (i + 1) xs) ≡ all
map_turn f xs d found new all y i h e g s =
    lists_turn found (y ∷ []) (map f (drop i xs)) (map f (drop (i + 1) xs)) all new e (ap (map f) (drop_more xs i d h) ∙ sym (ap (λ z. z ∷ map f (drop (i + 1) xs)) g)) s

pub map_end : {A B : Type 0} (f : A → B) (xs : List A) (found all : List B) (i : ℕ) → length xs ≤ i → found ++ map f (drop i xs) ≡ all → found ≡ all
map_end f xs found all i h s = sym (append-nil found) ∙ sym (ap (λ z. found ++ map f z) (drop_all i xs h)) ∙ s
