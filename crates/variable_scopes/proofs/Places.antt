-- The places of variables among others.
use Rattle.std.proofs.Common.{◌≡◌, ℕ, suc, ◌+◌, ◌<◌, Bool, true, false, cond, List, [], ◌∷◌, ◌++◌, length, Option, Some, None, refl, ap, arith}
use Rattle.std.specs.Prelude.{◌==◌, ◌&&◌, option_map, is_some}
use Rattle.std.proofs.lemmas.Bool.Decides.{nat_tests}
use Rattle.variable_scopes.specs.Variables.{Variable}
use Rattle.variable_scopes.specs.Scoped.{same, place_of, added, first_seen}

pub same_itself : (v : Variable) → same v v ≡ true
same_itself v = grind (arith, nat_tests)

-- variables are not the same where they are local to different goals or have different spellings
pub other_goal : (v w : Variable) → (v.local_to ≡ w.local_to → ⊥) → same v w ≡ false
other_goal v w n = by_test (v.local_to == w.local_to) refl
  where
    by_test : (b : Bool) → (v.local_to == w.local_to) ≡ b → (b && (v.spelling == w.spelling)) ≡ false
    by_test true e = absurd (n (grind (arith, nat_tests, e)))
    by_test false e = refl

pub other_spelling : (v w : Variable) → (v.spelling ≡ w.spelling → ⊥) → same v w ≡ false
other_spelling v w n = by_tests (v.local_to == w.local_to) (v.spelling == w.spelling) refl
  where
    by_tests : (b c : Bool) → (v.spelling == w.spelling) ≡ c → (b && c) ≡ false
    by_tests b true e = absurd (n (grind (arith, nat_tests, e)))
    by_tests true false e = refl
    by_tests false false e = refl

-- ---- behind others
pub place_grows : (v : Variable) (ks ws : List Variable) (m : ℕ) → place_of v ks ≡ Some m → place_of v (ks ++ ws) ≡ Some m
place_grows v [] ws m e = absurd cc
place_grows v (k ∷ ks) ws m e = at_front (same k v) (place_of v ks) (place_of v (ks ++ ws)) (place_grows v ks ws) m e
  where
    at_front : (b : Bool) (x y : Option ℕ) → ((n : ℕ) → x ≡ Some n → y ≡ Some n) → (n : ℕ) → cond b (Some 0) (option_map suc x) ≡ Some n → cond b (Some 0) (option_map suc y) ≡ Some n
    at_front true x y h n e = e
    at_front false None y h n e = absurd cc
    at_front false (Some k) y h n e = rw (h k refl) e

pub place_new : (v : Variable) (ks : List Variable) → place_of v ks ≡ None → place_of v (ks ++ v ∷ []) ≡ Some (length ks)
place_new v [] e = rw (same_itself v) refl
place_new v (k ∷ ks) e = at_front (same k v) (place_of v ks) (place_of v (ks ++ v ∷ [])) (place_new v ks) e
  where
    at_front : (b : Bool) (x y : Option ℕ) → (x ≡ None → y ≡ Some (length ks)) → cond b (Some 0) (option_map suc x) ≡ None → cond b (Some 0) (option_map suc y) ≡ Some (suc (length ks))
    at_front true x y h e = absurd cc
    at_front false None y h e = rw (h refl) refl
    at_front false (Some k) y h e = absurd cc

pub place_other : (v w : Variable) (ks : List Variable) → same w v ≡ false → place_of v (ks ++ w ∷ []) ≡ place_of v ks
place_other v w [] e = rw e refl
place_other v w (k ∷ ks) e = ap (λ (z : Option ℕ). cond (same k v) (Some 0) (option_map suc z)) (place_other v w ks e)

pub place_below : (v : Variable) (ks : List Variable) (m : ℕ) → place_of v ks ≡ Some m → m < length ks
place_below v [] m e = absurd cc
place_below v (k ∷ ks) m e = at_front (same k v) (place_of v ks) (place_below v ks) m e
  where
    at_front : (b : Bool) (x : Option ℕ) → ((n : ℕ) → x ≡ Some n → n < length ks) → (n : ℕ) → cond b (Some 0) (option_map suc x) ≡ Some n → n < suc (length ks)
    at_front true x h n e = let f : 0 ≡ n = cc in omega (arith, f)
    at_front false None h n e = absurd cc
    at_front false (Some k) h n e = let f : suc k ≡ n = cc in omega (arith, f, h k refl)

-- ---- one that was added
pub added_known : (ks : List Variable) (v : Variable) (m : ℕ) → place_of v ks ≡ Some m → added ks v ≡ ks
added_known ks v m e = ap (λ (z : Option ℕ). cond (is_some z) ks (ks ++ v ∷ [])) e

pub added_new : (ks : List Variable) (v : Variable) → place_of v ks ≡ None → added ks v ≡ ks ++ v ∷ []
added_new ks v e = ap (λ (z : Option ℕ). cond (is_some z) ks (ks ++ v ∷ [])) e

pub first_seen-append : (ks vs ws : List Variable) → first_seen ks (vs ++ ws) ≡ first_seen (first_seen ks vs) ws
first_seen-append ks [] ws = refl
first_seen-append ks (v ∷ vs) ws = first_seen-append (added ks v) vs ws
