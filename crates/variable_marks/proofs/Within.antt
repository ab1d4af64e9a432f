-- The marks of one frame, as one of them changes.
use Rattle.std.proofs.Common.{◌≡◌, ℕ, suc, ◌+◌, List, [], ◌∷◌, ◌++◌, Option, Some, None, Bool, true, false, cond, length, length-set, set, take_at, refl, sym, ap, ◌∙◌, arith}
use Rattle.std.proofs.lemmas.Bool.Decides.{nat_tests}
use Rattle.std.proofs.lemmas.Iterator.Adapters.{position_from-zero}
use Rattle.std.specs.Prelude.{◌==◌, drop, find, option_map, if◌then◌else◌}
use Rattle.std.specs.List.{position, position_from, refill}
use Rattle.akl_terms.proofs.Arguments.{same_value}
use Rattle.variable_marks.specs.Marks.{number_or, own_mark}

-- the place of the first mark of an index
abbrev place_in : List (ℕ × ℕ) → ℕ → Option ℕ
place_in [] i = None
place_in (m ∷ ms) i = cond (m.0 == i) (Some 0) (option_map suc (place_in ms i))

place_is : (ms : List (ℕ × ℕ)) (i : ℕ) → place_in ms i ≡ position (λ m. m.0 == i) ms
place_is ms i = whole (place_in ms i) ∙ sym (from ms 0) ∙ sym (position_from-zero (λ (m : ℕ × ℕ). m.0 == i) ms)
  where
    whole : (o : Option ℕ) → o ≡ option_map (λ k. 0 + k) o
    whole None = refl
    whole (Some k) = ap Some (omega arith)

    next : (n : ℕ) (b : Bool) (o : Option ℕ) → cond b (Some n) (option_map (λ k. n + 1 + k) o) ≡ option_map (λ k. n + k) (cond b (Some 0) (option_map suc o))
    next n true o = ap Some (omega arith)
    next n false None = refl
    next n false (Some k) = ap Some (omega arith)

    from : (ms : List (ℕ × ℕ)) (n : ℕ) → position_from (λ (m : ℕ × ℕ). m.0 == i) n ms ≡ option_map (λ k. n + k) (place_in ms i)
    from [] n = refl
    from (m ∷ ms) n = ap (cond (m.0 == i) (Some n)) (from ms (n + 1)) ∙ next n (m.0 == i) (place_in ms i)

own_first : (m : ℕ × ℕ) (ms : List (ℕ × ℕ)) (j : ℕ) → own_mark (m ∷ ms) j ≡ cond (m.0 == j) (Some m.1) (own_mark ms j)
own_first m ms j = on (m.0 == j)
  where
    on : (b : Bool) → option_map (λ (m : ℕ × ℕ). m.1) (cond b (Some m) (find (λ (m : ℕ × ℕ). m.0 == j) ms)) ≡ cond b (Some m.1) (own_mark ms j)
    on true = refl
    on false = refl

apart : (a i j : ℕ) → (a == i) ≡ false → (j == i) ≡ true → (a == j) ≡ false
apart a i j e f = grind (arith, nat_tests)

other : (a i j : ℕ) → (a == i) ≡ true → (j == i) ≡ false → (a == j) ≡ false
other a i j e f = grind (arith, nat_tests)

back : (i j : ℕ) → (i == j) ≡ (j == i)
back i j = grind (arith, nat_tests)

module _ (i n : ℕ) where
  -- an index that isn't that of the first mark
  past : (a j : ℕ) (v : ℕ) (o p : Option ℕ) → (a == i) ≡ false → o ≡ (if j == i then Some n else p) → cond (a == j) (Some v) o ≡ (if j == i then Some n else cond (a == j) (Some v) p)
  past a j v o p e f = ap (cond (a == j) (Some v)) f ∙ on (j == i) refl
    where
      on : (b : Bool) → (j == i) ≡ b → cond (a == j) (Some v) (if b then Some n else p) ≡ (if b then Some n else cond (a == j) (Some v) p)
      on true g = ap (λ (c : Bool). cond c (Some v) (Some n)) (apart a i j e g)
      on false g = refl

  own_set : (ms : List (ℕ × ℕ)) (k : ℕ) → place_in ms i ≡ Some k → (j : ℕ) → own_mark (set ms k (i, n)) j ≡ (if j == i then Some n else own_mark ms j)
  own_set [] k e j = absurd (cc)
  own_set (m ∷ ms) k e j = on (m.0 == i) refl (place_in ms i) refl e (λ l g. own_set ms l g j)
    where
      first : (b : Bool) → (j == i) ≡ b → (m.0 == i) ≡ true → cond b (Some n) (own_mark ms j) ≡ (if b then Some n else cond (m.0 == j) (Some m.1) (own_mark ms j))
      first true f g = refl
      first false f g = ap (λ (c : Bool). cond c (Some m.1) (own_mark ms j)) (sym (other m.0 i j g f))

      on : (b : Bool) → (m.0 == i) ≡ b → (o : Option ℕ) → place_in ms i ≡ o → cond b (Some 0) (option_map suc o) ≡ Some k
          → ((l : ℕ) → place_in ms i ≡ Some l → own_mark (set ms l (i, n)) j ≡ (if j == i then Some n else own_mark ms j)) → own_mark (set (m ∷ ms) k (i, n)) j ≡ (if j == i then Some n else own_mark (m ∷ ms) j)
      on true f o g h r =
          ap (λ (l : ℕ). own_mark (set (m ∷ ms) l (i, n)) j) (same_value h refl) ∙ own_first (i, n) ms j ∙ ap (λ (c : Bool). cond c (Some n) (own_mark ms j)) (back i j)
          ∙ first (j == i) refl f ∙ ap (λ (p : Option ℕ). if j == i then Some n else p) (sym (own_first m ms j))
      on false f None g h r = absurd (cc)
      on false f (Some l) g h r =
          ap (λ (l : ℕ). own_mark (set (m ∷ ms) l (i, n)) j) (same_value h refl) ∙ own_first m (set ms l (i, n)) j
          ∙ past m.0 j m.1 (own_mark (set ms l (i, n)) j) (own_mark ms j) f (r l g) ∙ ap (λ (p : Option ℕ). if j == i then Some n else p) (sym (own_first m ms j))

  none_here : (m : ℕ × ℕ) (ms : List (ℕ × ℕ)) → place_in (m ∷ ms) i ≡ None → ((m.0 == i) ≡ false) × (place_in ms i ≡ None)
  none_here m ms e = on (m.0 == i) refl (place_in ms i) refl e
    where
      on : (b : Bool) → (m.0 == i) ≡ b → (o : Option ℕ) → place_in ms i ≡ o → cond b (Some 0) (option_map suc o) ≡ None → ((m.0 == i) ≡ false) × (place_in ms i ≡ None)
      on true f o g h = absurd (cc)
      on false f None g h = (f, g)
      on false f (Some l) g h = absurd (cc)

  own_push : (ms : List (ℕ × ℕ)) → place_in ms i ≡ None → (j : ℕ) → own_mark (ms ++ (i, n) ∷ []) j ≡ (if j == i then Some n else own_mark ms j)
  own_push [] e j = own_first (i, n) [] j ∙ ap (λ (c : Bool). cond c (Some n) None) (back i j)
  own_push (m ∷ ms) e j =
      let h = none_here m ms e in
      own_first m (ms ++ (i, n) ∷ []) j ∙ past m.0 j m.1 (own_mark (ms ++ (i, n) ∷ []) j) (own_mark ms j) h.0 (own_push ms h.1 j) ∙ ap (λ (p : Option ℕ). if j == i then Some n else p) (sym (own_first m ms j))

  own_none : (ms : List (ℕ × ℕ)) → place_in ms i ≡ None → own_mark ms i ≡ None
  own_none [] e = refl
  own_none (m ∷ ms) e = let h = none_here m ms e in own_first m ms i ∙ ap (λ (c : Bool). cond c (Some m.1) (own_mark ms i)) h.0 ∙ own_none ms h.1

  module _ (others : ℕ) (xs few : List (ℕ × ℕ)) (o : Option ℕ) (same : few ≡ xs) (found : o ≡ position (λ m. m.0 == i) few) where
    place : place_in xs i ≡ o
    place = place_is xs i ∙ ap (λ (ms : List (ℕ × ℕ)). position (λ m. m.0 == i) ms) (sym same) ∙ sym found

    or_else : (b : Bool) (p q : Option ℕ) → p ≡ (if b then Some n else q) → number_or others p ≡ (if b then n else number_or others q)
    or_else true p q e = ap (number_or others) e
    or_else false p q e = ap (number_or others) e

    -- a mark of an index that has one of its own
    pub is_set : (slice : List (ℕ × ℕ)) (k : ℕ) → slice ≡ xs → o ≡ Some k → (j : ℕ) → number_or others (own_mark (refill (length xs) xs (set slice k (i, n))) j) ≡ (if j == i then n else number_or others (own_mark xs j))
    is_set slice k e f j =
        let count = ap length e in
        let written = take_at (set slice k (i, n)) (drop (length (set slice k (i, n))) xs) (length xs) (omega (arith, length-set slice k (i, n))) ∙ ap (λ (l : List (ℕ × ℕ)). set l k (i, n)) e in
        or_else (j == i) _ _ (ap (λ (l : List (ℕ × ℕ)). own_mark l j) written ∙ own_set xs k (place ∙ f) j)

    -- one of an index that has none
    pub is_pushed : o ≡ None → (j : ℕ) → number_or others (own_mark (xs ++ (i, n) ∷ []) j) ≡ (if j == i then n else number_or others (own_mark xs j))
    is_pushed f j = or_else (j == i) _ _ (own_push xs (place ∙ f) j)

    -- one that is that of all others
    pub is_others : o ≡ None → n ≡ others → (j : ℕ) → number_or others (own_mark xs j) ≡ (if j == i then n else number_or others (own_mark xs j))
    is_others f e j = on (j == i) refl
      where
        on : (b : Bool) → (j == i) ≡ b → number_or others (own_mark xs j) ≡ (if b then n else number_or others (own_mark xs j))
        on true g =
            let here : j ≡ i = grind (arith, nat_tests) in
            ap (λ (k : ℕ). number_or others (own_mark xs k)) here ∙ ap (number_or others) (own_none xs (place ∙ f)) ∙ sym e
        on false g = refl
