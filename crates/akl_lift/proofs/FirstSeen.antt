-- Variables by first occurrence, and how often one occurs.
use Rattle.std.proofs.Common.{◌≡◌, ℕ, ◌+◌, ◌<◌, ◌≤◌, Bool, true, false, ◌||◌, cond, List, [], ◌∷◌, ◌++◌, length, map, drop, get_or, refl, sym, ap, ◌∙◌, arith, Vec, Global}
use Rattle.std.specs.Prelude.{◌==◌, nat_lt}
use Rattle.std.specs.List.{list_any, concat}
use Rattle.std.proofs.lemmas.List.{drop_more}
use Rattle.std.proofs.lemmas.List.Folds.{list_any-append}
use Rattle.std.proofs.lemmas.List.Sums.{sum_by-append}
use Rattle.std.proofs.lemmas.Bool.Decides.{nat_tests}
use Rattle.akl_lift.specs.Lifting.{times, seen_from}
use Rattle.akl_lift.specs.Noting.{distinct}

pub one_dropped : {A : Type 0} (xs : List A) (i : ℕ) (x : A) → i < length xs → x ≡ get_or xs i x → drop i xs ≡ x ∷ drop (i + 1) xs
one_dropped xs i x h e = drop_more xs i x h ∙ ap (λ z. z ∷ drop (i + 1) xs) (sym e)

-- the variable is in the list
abbrev pub has : ℕ → List ℕ → Bool
has v ns = list_any (λ n. n == v) ns

-- the variable, unless it is known
abbrev pub added : List ℕ → ℕ → List ℕ
added known x = cond (has x known) known (known ++ x ∷ [])

-- ---- tests
or_true : (b : Bool) → (b || true) ≡ true
or_true true = refl
or_true false = refl

or_false : (b : Bool) → (b || false) ≡ b
or_false true = refl
or_false false = refl

or_swap : (a b c : Bool) → ((a || b) || c) ≡ (a || (b || c))
or_swap true b c = refl
or_swap false b c = refl

-- ---- what is seen
pub seen_from-append : (known xs ys : List ℕ) → seen_from known (xs ++ ys) ≡ seen_from (seen_from known xs) ys
seen_from-append known [] ys = refl
seen_from-append known (x ∷ xs) ys = seen_from-append (added known x) xs ys

-- what is among the known is the same as x, if x is
has_same : (v x : ℕ) (ns : List ℕ) → (x == v) ≡ true → has x ns ≡ has v ns
has_same v x ns e = let same : x ≡ v = grind (arith, nat_tests, e) in ap (λ (z : ℕ). has z ns) same

has-added_known : (v x : ℕ) (known : List ℕ) (b : Bool) → (x == v) ≡ b → has x known ≡ true → has v known ≡ (has v known || b)
has-added_known v x known true e h = sym (has_same v x known e) ∙ h ∙ sym (or_true (has v known))
has-added_known v x known false e h = sym (or_false (has v known))

has-added_if : (v x : ℕ) (known : List ℕ) (b : Bool) → has x known ≡ b → has v (cond b known (known ++ x ∷ [])) ≡ (has v known || (x == v))
has-added_if v x known true h = has-added_known v x known (x == v) refl h
has-added_if v x known false h = list_any-append (λ n. n == v) known (x ∷ []) ∙ ap (λ b. has v known || b) (or_false (x == v))

pub has-added : (v x : ℕ) (known : List ℕ) → has v (added known x) ≡ (has v known || (x == v))
has-added v x known = has-added_if v x known (has x known) refl

pub has-seen_from : (v : ℕ) (known xs : List ℕ) → has v (seen_from known xs) ≡ (has v known || has v xs)
has-seen_from v known [] = sym (or_false (has v known))
has-seen_from v known (x ∷ xs) = has-seen_from v (added known x) xs ∙ ap (λ b. b || has v xs) (has-added v x known) ∙ or_swap (has v known) (x == v) (has v xs)

-- what is known twice over is known once
seen_added : (known ds : List ℕ) (x : ℕ) (b : Bool) → has x ds ≡ b → seen_from known (cond b ds (ds ++ x ∷ [])) ≡ added (seen_from known ds) x
seen_added known ds x true h =
    let there : has x (seen_from known ds) ≡ true = has-seen_from x known ds ∙ ap (λ b. has x known || b) h ∙ or_true (has x known) in
    sym (ap (λ b. cond b (seen_from known ds) (seen_from known ds ++ x ∷ [])) there)
seen_added known ds x false h = seen_from-append known ds (x ∷ [])

seen_twice : (known ds xs : List ℕ) → seen_from known (seen_from ds xs) ≡ seen_from (seen_from known ds) xs
seen_twice known ds [] = refl
seen_twice known ds (x ∷ xs) = seen_twice known (added ds x) xs ∙ ap (λ (ns : List ℕ). seen_from ns xs) (seen_added known ds x (has x ds) refl)

pub seen_from-distinct : (known xs : List ℕ) → seen_from known (distinct xs) ≡ seen_from known xs
seen_from-distinct known xs = seen_twice known [] xs

-- ---- how often
pub times-append : (v : ℕ) (xs ys : List ℕ) → times v (xs ++ ys) ≡ times v xs + times v ys
times-append v xs ys = sum_by-append (λ n. cond (n == v) 1 0) xs ys

pub times-cons : (v x : ℕ) (xs : List ℕ) → times v (x ∷ xs) ≡ cond (x == v) 1 0 + times v xs
times-cons v x xs = let e : 0 + cond (x == v) 1 0 ≡ cond (x == v) 1 0 = omega arith in times-append v (x ∷ []) xs ∙ ap (λ n. n + times v xs) e

times_if : (b : Bool) (n : ℕ) (c : Bool) → nat_lt 0 n ≡ c → nat_lt 0 (cond b 1 0 + n) ≡ (b || c)
times_if true n c h = grind (arith, nat_tests)
times_if false n c h = let e : 0 + n ≡ n = omega arith in ap (nat_lt 0) e ∙ h

pub times-has : (v : ℕ) (xs : List ℕ) → nat_lt 0 (times v xs) ≡ has v xs
times-has v [] = refl
times-has v (x ∷ xs) = ap (nat_lt 0) (times-cons v x xs) ∙ times_if (x == v) (times v xs) (has v xs) (times-has v xs)

none_there : (n : ℕ) (b : Bool) → nat_lt 0 n ≡ b → b ≡ false → n ≡ 0
none_there n b e f = let g : nat_lt 0 n ≡ false = e ∙ f in grind (arith, nat_tests, g)

times_added_same : (v x : ℕ) (known : List ℕ) (b : Bool) → (x == v) ≡ b → has x known ≡ false → times v known ≤ 1 → times v known + cond b 1 0 ≤ 1
times_added_same v x known true e h k =
    let none : times v known ≡ 0 = none_there (times v known) (has v known) (times-has v known) (sym (has_same v x known e) ∙ h) in
    omega arith
times_added_same v x known false e h k = omega arith

times_added_if : (v x : ℕ) (known : List ℕ) (b : Bool) → has x known ≡ b → times v known ≤ 1 → times v (cond b known (known ++ x ∷ [])) ≤ 1
times_added_if v x known true h k = k
times_added_if v x known false h k =
    let one : times v known + cond (x == v) 1 0 ≤ 1 = times_added_same v x known (x == v) refl h k in
    let whole : times v (known ++ x ∷ []) ≡ times v known + (0 + cond (x == v) 1 0) = times-append v known (x ∷ []) in
    omega arith

times-seen_from : (v : ℕ) (known xs : List ℕ) → times v known ≤ 1 → times v (seen_from known xs) ≤ 1
times-seen_from v known [] k = k
times-seen_from v known (x ∷ xs) k = times-seen_from v (added known x) xs (times_added_if v x known (has x known) refl k)

pub times-distinct : (v : ℕ) (xs : List ℕ) → times v (distinct xs) ≤ 1
times-distinct v xs = times-seen_from v [] xs (omega arith)

-- ---- loops
pub seen_turn : (xs known new all : List ℕ) (i : ℕ) → i < length xs → new ≡ added known (get_or xs i 0) → seen_from known (drop i xs) ≡ all → seen_from new (drop (i + 1) xs) ≡ all
seen_turn xs known new all i h e s = ap (λ ys. seen_from ys (drop (i + 1) xs)) e ∙ sym (ap (seen_from known) (drop_more xs i 0 h)) ∙ s

pub lists_seen : (xs : List (Vec ℕ Global)) (known new all : List ℕ) (i : ℕ) (x : Vec ℕ Global) → i < length xs → x ≡ get_or xs i x → new ≡ seen_from known x.items → seen_from known (concat (map (λ v. v.items) (drop i xs))) ≡ all
    → seen_from new (concat (map (λ v. v.items) (drop (i + 1) xs))) ≡ all
lists_seen xs known new all i x h q e s =
    ap (λ ys. seen_from ys (concat (map (λ v. v.items) (drop (i + 1) xs)))) e ∙ sym (seen_from-append known x.items (concat (map (λ v. v.items) (drop (i + 1) xs))))
    ∙ sym (ap (λ (ys : List (Vec ℕ Global)). seen_from known (concat (map (λ v. v.items) ys))) (one_dropped xs i x h q)) ∙ s
