-- A round of refinement keeps a partition, and the last round shows that it is the coarsest.
use Rattle.std.proofs.Common.{◌≡◌, ◌≢◌, ℕ, zero, suc, ◌+◌, ◌-◌, ◌<◌, ◌≤◌, List, [], ◌∷◌, length, map, Some, refl, sym, ◌∙◌, ap, inl, inr, arith, Bool, true, false}
use Rattle.std.specs.Prelude.{◌⊎◌, ◌==◌, slice_get, get_or}
use Rattle.std.proofs.lemmas.Bool.{eqb-true, eqb-false}
use Rattle.std.proofs.lemmas.Option.{slice_get_within, slice_get-get_or, get_or_from_slice_get}
use Rattle.tree_parts.specs.Firsts.{at_node, AreFirsts}
use Rattle.tree_parts.specs.Parts.{IsEntry, AreWithin, AreEven, Differ, by_start, by_entry, IsPartition, IsRefined, block_key, AreKeysBefore}

pub either_nat : (a b : ℕ) → (a ≡ b) ⊎ (a ≢ b)
either_nat a b = test (a == b) refl
  where
    test : (t : Bool) → (a == b) ≡ t → (a ≡ b) ⊎ (a ≢ b)
    test true e = inl (eqb-true a b e)
    test false e = inr (λ d. eqb-false a b e d)

-- a place of two lists at which f tells their elements apart
record AreApart (f : ℕ → ℕ) (xs ys : List ℕ) : Type 0 where
  place : ℕ
  left : ℕ
  right : ℕ
  of_left : slice_get xs place ≡ Some left
  of_right : slice_get ys place ≡ Some right
  apart : f left ≢ f right

same-or-apart : (f : ℕ → ℕ) (xs ys : List ℕ) → length xs ≡ length ys → (map f xs ≡ map f ys) ⊎ AreApart f xs ys
same-or-apart f [] [] l = inl refl
same-or-apart f [] (y ∷ ys) l = absurd (omega (arith, l))
same-or-apart f (x ∷ xs) [] l = absurd (omega (arith, l))
same-or-apart f (x ∷ xs) (y ∷ ys) l = from (either_nat (f x) (f y)) (same-or-apart f xs ys (omega (arith, l)))
  where
    from : (f x ≡ f y) ⊎ (f x ≢ f y) → (map f xs ≡ map f ys) ⊎ AreApart f xs ys → (map f (x ∷ xs) ≡ map f (y ∷ ys)) ⊎ AreApart f (x ∷ xs) (y ∷ ys)
    from (inr d) o = inr (record { place = 0; left = x; right = y; of_left = refl; of_right = refl; apart = d })
    from (inl e) (inr a) = inr (record { place = suc a.place; left = a.left; right = a.right; of_left = a.of_left; of_right = a.of_right; apart = a.apart })
    from (inl e) (inl m) = inl (cc)

same-at : (f : ℕ → ℕ) (xs ys : List ℕ) (k p q : ℕ) → map f xs ≡ map f ys → slice_get xs k ≡ Some p → slice_get ys k ≡ Some q → f p ≡ f q
same-at f [] ys k p q e a b = absurd cc
same-at f (x ∷ xs) [] k p q e a b = absurd cc
same-at f (x ∷ xs) (y ∷ ys) zero p q e a b = let h : f x ≡ f y = cc in let u : x ≡ p = (let o : Some x ≡ Some p = a in cc) in let v : y ≡ q = (let o : Some y ≡ Some q = b in cc) in sym (ap f u) ∙ h ∙ ap f v
same-at f (x ∷ xs) (y ∷ ys) (suc k) p q e a b = same-at f xs ys k p q (let t : map f xs ≡ map f ys = cc in t) a b

-- how far blocks are from each node being one of its own
pub slack : ℕ → List ℕ → ℕ
slack n [] = 0
slack n (x ∷ xs) = (n - x) + slack (suc n) xs

pub slack-falls : (n : ℕ) (xs ys : List ℕ) → length xs ≡ length ys → ((i : ℕ) → i < length xs → at_node xs i ≤ at_node ys i) → ((i : ℕ) → i < length ys → at_node ys i ≤ n + i) → (slack n ys < slack n xs) ⊎ (ys ≡ xs)
unfolding slack
slack-falls n [] [] l h m = inr refl
slack-falls n [] (y ∷ ys) l h m = absurd (omega (arith, l))
slack-falls n (x ∷ xs) [] l h m = absurd (omega (arith, l))
slack-falls n (x ∷ xs) (y ∷ ys) l h m =
    let up : x ≤ y = h 0 (omega arith) in
    let top : y ≤ n + 0 = m 0 (omega arith) in
    from (either_nat x y) (slack-falls (suc n) xs ys (omega (arith, l)) (λ i g. h (suc i) (omega (arith, g))) (λ i g. let z : at_node ys i ≤ n + suc i = m (suc i) (omega (arith, g)) in omega (arith, z))) up top
  where
    from : (x ≡ y) ⊎ (x ≢ y) → (slack (suc n) ys < slack (suc n) xs) ⊎ (ys ≡ xs) → x ≤ y → y ≤ n + 0 → (slack n (y ∷ ys) < slack n (x ∷ xs)) ⊎ (y ∷ ys ≡ x ∷ xs)
    from o (inl s) up top = inl (omega (arith, s, up, top))
    from (inl e) (inr s) up top = inr cc
    from (inr d) (inr s) up top = inl (let z : slack (suc n) ys ≡ slack (suc n) xs = ap (slack (suc n)) s in let w : x < y = less x y up d in omega (arith, z, w, top))
      where
        less : (a b : ℕ) → a ≤ b → a ≢ b → a < b
        less zero zero u v = absurd (v refl)
        less zero (suc b) u v = omega arith
        less (suc a) zero u v = absurd (omega (arith, u))
        less (suc a) (suc b) u v = let w : a < b = less a b (omega (arith, u)) (λ e. v (ap suc e)) in omega (arith, w)

pub differ-turned : {rows : List (List ℕ)} {start : List ℕ} {i j : ℕ} → Differ rows start i j → Differ rows start j i
differ-turned (by_start d) = by_start (λ e. d (sym e))
differ-turned (by_entry k x y d) = by_entry k y x (differ-turned d)

module _ (rows : List (List ℕ)) (start blocks next : List ℕ) (keys : List (List ℕ)) (within : AreWithin rows) (even : AreEven rows start) (p : IsPartition rows start blocks) (k : AreKeysBefore rows blocks keys (length rows)) (f : AreFirsts keys next) where
  abbrev row : ℕ → List ℕ
  row i = get_or rows i []

  size : length next ≡ length rows
  size = f.size ∙ k.size

  in-keys : (i : ℕ) → i < length rows → i < length keys
  in-keys i h = let e : length keys ≡ length rows = k.size in omega (arith, h, e)

  next-before : (i : ℕ) → i < length rows → at_node next i ≤ i
  next-before i h = f.before i (in-keys i h)

  next-within : (i : ℕ) → i < length rows → at_node next i < length rows
  next-within i h = let l : at_node next i ≤ i = next-before i h in omega (arith, l, h)

  same-keys : (i j : ℕ) → i < length rows → j < length rows → at_node next i ≡ at_node next j → block_key blocks i (row i) ≡ block_key blocks j (row j)
  same-keys i j h g e = sym (k.key i h) ∙ sym (f.key i (in-keys i h)) ∙ ap (λ (m : ℕ). get_or keys m []) e ∙ f.key j (in-keys j g) ∙ k.key j g

  next-one : (i j : ℕ) → i < length rows → j < length rows → block_key blocks i (row i) ≡ block_key blocks j (row j) → at_node next i ≡ at_node next j
  next-one i j h g e = f.one i j (in-keys i h) (in-keys j g) (k.key i h ∙ e ∙ sym (k.key j g))

  itself : (i : ℕ) → i < length rows → at_node next (at_node next i) ≡ at_node next i
  itself i h = f.one (at_node next i) i (in-keys (at_node next i) (next-within i h)) (in-keys i h) (f.key i (in-keys i h))

  heads : (i j : ℕ) → i < length rows → j < length rows → at_node next i ≡ at_node next j → at_node blocks i ≡ at_node blocks j
  heads i j h g e = let s : block_key blocks i (row i) ≡ block_key blocks j (row j) = same-keys i j h g e in cc

  row-at : (i : ℕ) → i < length rows → slice_get rows i ≡ Some (row i)
  row-at i h = slice_get-get_or rows i [] h

  differ : (i j : ℕ) → i < length rows → j < length rows → at_node next i ≢ at_node next j → (at_node blocks i ≡ at_node blocks j) ⊎ (at_node blocks i ≢ at_node blocks j) → Differ rows start i j
  differ i j h g d (inr n) = p.differ i j h g n
  differ i j h g d (inl e) = from (same-or-apart (at_node blocks) (row i) (row j) (even i j (row i) (row j) (row-at i h) (row-at j g) (p.finer i j h g e)))
    where
      from : (map (at_node blocks) (row i) ≡ map (at_node blocks) (row j)) ⊎ AreApart (at_node blocks) (row i) (row j) → Differ rows start i j
      from (inl m) = absurd (d (next-one i j h g (let z : block_key blocks i (row i) ≡ block_key blocks j (row j) = cc in z)))
      from (inr a) =
          let x : IsEntry rows i a.place a.left = record { row = row i; of = row-at i h; to = a.of_left } in
          let y : IsEntry rows j a.place a.right = record { row = row j; of = row-at j g; to = a.of_right } in
          by_entry a.place x y (p.differ a.left a.right (within i a.place a.left x) (within j a.place a.right y) a.apart)

  pub next-partition : IsPartition rows start next
  next-partition = record {
    size = size;
    named = record { before = λ i h. next-before i (omega (arith, h, size)); itself = λ i h. itself i (omega (arith, h, size)) };
    finer = λ i j h g e. p.finer i j h g (heads i j h g e);
    differ = λ i j h g d. differ i j h g d (either_nat (at_node blocks i) (at_node blocks j));
  }

  -- a block's first node comes no sooner than before
  rises : (i : ℕ) → i < length rows → at_node blocks i ≤ at_node next i
  rises i h =
      let e : at_node blocks (at_node next i) ≡ at_node blocks i = heads (at_node next i) i (next-within i h) h (itself i h) in
      let s : length blocks ≡ length rows = p.size in
      let w : at_node next i < length rows = next-within i h in
      let l : at_node blocks (at_node next i) ≤ at_node next i = p.named.before (at_node next i) (omega (arith, w, s)) in omega (arith, e, l)

  pub next-falls : (slack 0 next < slack 0 blocks) ⊎ (next ≡ blocks)
  next-falls = let s : length blocks ≡ length rows = p.size in slack-falls 0 blocks next (p.size ∙ sym size) (λ i h. rises i (omega (arith, h, s))) (λ i h. let l : at_node next i ≤ i = next-before i (omega (arith, h, size)) in omega (arith, l))

  row-is : (i place j : ℕ) → (e : IsEntry rows i place j) → slice_get (row i) place ≡ Some j
  row-is i place j e = ap (λ (xs : List ℕ). slice_get xs place) (get_or_from_slice_get rows i e.row [] e.of) ∙ e.to

  pub last-refined : next ≡ blocks → IsRefined rows start blocks
  last-refined same = record {
    partition = p;
    agree = λ i j place x y e a b.
        let h : i < length rows = slice_get_within rows i a.row a.of in
        let g : j < length rows = slice_get_within rows j b.row b.of in
        let n : at_node next i ≡ at_node next j = ap (λ (bs : List ℕ). at_node bs i) same ∙ e ∙ ap (λ (bs : List ℕ). at_node bs j) (sym same) in
        let s : block_key blocks i (row i) ≡ block_key blocks j (row j) = same-keys i j h g n in
        same-at (at_node blocks) (row i) (row j) place x y (let m : map (at_node blocks) (row i) ≡ map (at_node blocks) (row j) = cc in m) (row-is i place x a) (row-is j place y b);
  }
