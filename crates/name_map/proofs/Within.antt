-- What an index leads to, and where a number's value is.
use Rattle.std.proofs.Common.{◌≡◌, ℕ, zero, suc, ◌/◌, ◌%◌, ◌<◌, ◌≤◌, Bool, true, false, List, [], ◌∷◌, ◌++◌, length, get_or, set, Option, Some, None, refl, sym, ap, ◌∙◌, arith}
use Rattle.std.proofs.lemmas.Bool.Decides.{nat_tests}
use Rattle.std.proofs.lemmas.List.{get_or_default}
use Rattle.std.specs.Prelude.{◌&&◌, ◌==◌, if◌then◌else◌}
use Rattle.std.specs.List.{list_all}
use Rattle.name_map.specs.declared.page.Page.{Page}
use Rattle.name_map.specs.declared.page.Chunk.{Chunk}
use Rattle.name_map.specs.declared.numbers.Numbers.{Numbers}
use Rattle.name_map.specs.Free.{is_free}
use Rattle.name_map.specs.Pages.{within, in_slot, in_page, in_chunk, in_numbers, is_bare, PutsInPage, PutsInChunk}
use lib.Dec.{eqb}

above_zero : (j : ℕ) → eqb (suc j) 0 ≡ false
above_zero j = grind (arith, nat_tests)

zero_below : (i : ℕ) → eqb 0 (suc i) ≡ false
zero_below i = grind (arith, nat_tests)

successors : (j i : ℕ) → eqb (suc j) (suc i) ≡ eqb j i
successors j i = grind (arith, nat_tests)

module _ {A B : Type 0} (f : A → Option B) where
  pub within_past : (xs : List A) (i : ℕ) → length xs ≤ i → within f xs i ≡ None
  within_past [] i h = refl
  within_past (x ∷ xs) zero h = absurd (omega arith)
  within_past (x ∷ xs) (suc i) h = within_past xs i (omega arith)

  pub within_at : (xs : List A) (i : ℕ) (x : A) → i < length xs → ((d : A) → x ≡ get_or xs i d) → within f xs i ≡ f x
  within_at [] i x h is = absurd (omega arith)
  within_at (y ∷ xs) zero x h is = ap f (sym (is x))
  within_at (y ∷ xs) (suc i) x h is = within_at xs i x (omega arith) is

  -- one element more that leads to nothing
  pub within_push : (xs : List A) (i : ℕ) (x : A) → f x ≡ None → within f (xs ++ x ∷ []) i ≡ within f xs i
  within_push [] zero x e = e
  within_push [] (suc i) x e = refl
  within_push (y ∷ xs) zero x e = refl
  within_push (y ∷ xs) (suc i) x e = within_push xs i x e

  -- an element that another one replaces, which at a test leads to something else
  pub within_set : (xs : List A) (i j : ℕ) (x y : A) (b : Bool) (w : Option B) → i < length xs → ((d : A) → x ≡ get_or xs i d) → f y ≡ (if b then w else f x)
      → within f (set xs i y) j ≡ (if (eqb j i && b) then w else within f xs j)
  within_set [] i j x y b w h is e = absurd (omega arith)
  within_set (z ∷ xs) zero zero x y b w h is e = e ∙ ap (λ (o : Option B). if b then w else o) (ap f (is x))
  within_set (z ∷ xs) zero (suc j) x y b w h is e = ap (λ (t : Bool). if t && b then w else within f xs j) (sym (above_zero j))
  within_set (z ∷ xs) (suc i) zero x y b w h is e = ap (λ (t : Bool). if t && b then w else f z) (sym (zero_below i))
  within_set (z ∷ xs) (suc i) (suc j) x y b w h is e = within_set xs i j x y b w (omega arith) is e ∙ ap (λ (t : Bool). if t && b then w else within f xs j) (sym (successors j i))

  -- an element that another one replaces, which leads to the same
  pub within_kept : (xs : List A) (i j : ℕ) (x y : A) → i < length xs → ((d : A) → x ≡ get_or xs i d) → f y ≡ f x → within f (set xs i y) j ≡ within f xs j
  within_kept [] i j x y h is e = absurd (omega arith)
  within_kept (z ∷ xs) zero zero x y h is e = e ∙ ap f (is x)
  within_kept (z ∷ xs) zero (suc j) x y h is e = refl
  within_kept (z ∷ xs) (suc i) zero x y h is e = refl
  within_kept (z ∷ xs) (suc i) (suc j) x y h is e = within_kept xs i j x y (omega arith) is e

digits : (n k : ℕ) → (eqb (n / 512) (k / 512) && (eqb (n / 8 % 64) (k / 8 % 64) && (eqb (n % 8) (k % 8) && true))) ≡ eqb n k
digits n k = grind (arith, nat_tests)

same_number : (n k : ℕ) → eqb n k ≡ true → n ≡ k
same_number n k e = grind (arith, nat_tests)

module _ {V : Type 0} where
  -- what all free slots and all bare pages lead to
  pub none_in_free : (xs : List (Option V)) → list_all is_free xs ≡ true → (i : ℕ) → within in_slot xs i ≡ None
  none_in_free [] e i = refl
  none_in_free (None ∷ xs) e zero = refl
  none_in_free (None ∷ xs) e (suc i) = none_in_free xs e i
  none_in_free (Some v ∷ xs) e i = absurd (cc)

  pub none_in_empty : (xs : List (Option V)) (i : ℕ) → (length xs == 0) ≡ true → within in_slot xs i ≡ None
  none_in_empty [] i e = refl
  none_in_empty (x ∷ xs) i e = let none : length (x ∷ xs) ≡ 0 = grind (arith, nat_tests) in absurd (omega arith)

  pub none_in_bare : (xs : List (Page V)) → list_all is_bare xs ≡ true → (n i : ℕ) → within (in_page n) xs i ≡ None
  none_in_bare [] e n i = refl
  none_in_bare (x ∷ xs) e n i = on (is_bare x) refl (none_in_bare xs) e i
    where
      on : (b : Bool) → is_bare x ≡ b → (list_all is_bare xs ≡ true → (m j : ℕ) → within (in_page m) xs j ≡ None) → (b && list_all is_bare xs) ≡ true → (j : ℕ) → within (in_page n) (x ∷ xs) j ≡ None
      on true is rest all zero = none_in_empty x.slots.items (n % 8) is
      on true is rest all (suc j) = rest all n j
      on false is rest all j = absurd (cc)

  -- a number that isn't there is taken out by no change
  pub none_put : (old : Numbers V) (k : ℕ) (new : ℕ → Option V) → in_numbers k old ≡ None → ((n : ℕ) → new n ≡ in_numbers n old) → (n : ℕ) → new n ≡ (if eqb n k then None else in_numbers n old)
  none_put old k new none same n = on (eqb n k) refl
    where
      on : (b : Bool) → eqb n k ≡ b → new n ≡ (if b then None else in_numbers n old)
      on true e = same n ∙ ap (λ (m : ℕ). in_numbers m old) (same_number n k e) ∙ none
      on false e = same n

-- where the value of a number is
module _ {V : Type 0} (k a : ℕ) (chunk_is : a ≡ k / 512) where
  pub no_chunk : (numbers : Numbers V) (xs : List (Chunk V)) → xs ≡ numbers.chunks.items → length xs ≤ a → in_numbers k numbers ≡ None
  no_chunk numbers xs e h = (λ i. within (in_chunk k) (sym e i) (sym chunk_is i)) ∙ within_past (in_chunk k) xs a h

  pub at_chunk : (numbers : Numbers V) (xs : List (Chunk V)) (chunk : Chunk V) → xs ≡ numbers.chunks.items → a < length xs → ((d : Chunk V) → chunk ≡ get_or xs a d) → in_numbers k numbers ≡ in_chunk k chunk
  at_chunk numbers xs chunk e h is = (λ i. within (in_chunk k) (sym e i) (sym chunk_is i)) ∙ within_at (in_chunk k) xs a chunk h is

module _ {V : Type 0} (k b : ℕ) (page_is : b ≡ k / 8 % 64) where
  pub no_page : (chunk : Chunk V) (xs : List (Page V)) → xs ≡ chunk.pages.items → length xs ≤ b → in_chunk k chunk ≡ None
  no_page chunk xs e h = (λ i. within (in_page k) (sym e i) (sym page_is i)) ∙ within_past (in_page k) xs b h

  pub at_page : (chunk : Chunk V) (xs : List (Page V)) (page : Page V) → xs ≡ chunk.pages.items → b < length xs → ((d : Page V) → page ≡ get_or xs b d) → in_chunk k chunk ≡ in_page k page
  at_page chunk xs page e h is = (λ i. within (in_page k) (sym e i) (sym page_is i)) ∙ within_at (in_page k) xs b page h is

module _ {V : Type 0} (k s : ℕ) (slot_is : s ≡ k % 8) where
  pub no_slot : (page : Page V) (xs : List (Option V)) → xs ≡ page.slots.items → length xs ≤ s → in_page k page ≡ None
  no_slot page xs e h = (λ i. within in_slot (sym e i) (sym slot_is i)) ∙ within_past in_slot xs s h

  pub at_slot : (page : Page V) (xs : List (Option V)) (slot : Option V) → xs ≡ page.slots.items → s < length xs → ((d : Option V) → slot ≡ get_or xs s d) → in_page k page ≡ slot
  at_slot page xs slot e h is = (λ i. within in_slot (sym e i) (sym slot_is i)) ∙ within_at in_slot xs s slot h is

module _ {V : Type 0} (k a b s : ℕ) (chunk_is : a ≡ k / 512) (page_is : b ≡ k / 8 % 64) (slot_is : s ≡ k % 8) where
  -- what a change of one slot makes of them
  module _ (w : Option V) where
    pub slots_put : (slots : List (Option V)) → s < length slots → (n : ℕ) → within in_slot (set slots s w) (n % 8) ≡ (if (eqb (n % 8) s && true) then w else within in_slot slots (n % 8))
    slots_put slots h n = within_set in_slot slots s (n % 8) (get_or slots s None) w true w h (λ d. get_or_default slots s None d h) refl

    pub pages_put : (pages : List (Page V)) (page page' : Page V) → b < length pages → ((d : Page V) → page ≡ get_or pages b d)
        → ((n : ℕ) → in_page n page' ≡ (if (eqb (n % 8) s && true) then w else in_page n page))
        → (n : ℕ) → within (in_page n) (set pages b page') (n / 8 % 64) ≡ (if (eqb (n / 8 % 64) b && (eqb (n % 8) s && true)) then w else within (in_page n) pages (n / 8 % 64))
    pages_put pages page page' h is put n = within_set (in_page n) pages b (n / 8 % 64) page page' (eqb (n % 8) s && true) w h is (put n)

    pub chunks_put : (chunks : List (Chunk V)) (chunk chunk' : Chunk V) → a < length chunks → ((d : Chunk V) → chunk ≡ get_or chunks a d)
        → ((n : ℕ) → in_chunk n chunk' ≡ (if (eqb (n / 8 % 64) b && (eqb (n % 8) s && true)) then w else in_chunk n chunk))
        → (n : ℕ) → within (in_chunk n) (set chunks a chunk') (n / 512) ≡ (if eqb n k then w else within (in_chunk n) chunks (n / 512))
    chunks_put chunks chunk chunk' h is put n =
        within_set (in_chunk n) chunks a (n / 512) chunk chunk' (eqb (n / 8 % 64) b && (eqb (n % 8) s && true)) w h is (put n)
        ∙ (λ i. if (eqb (n / 512) (chunk_is i) && (eqb (n / 8 % 64) (page_is i) && (eqb (n % 8) (slot_is i) && true))) then w else within (in_chunk n) chunks (n / 512))
        ∙ ap (λ (t : Bool). if t then w else within (in_chunk n) chunks (n / 512)) (digits n k)

-- the same by the places of the number, where room was made before
module _ {V : Type 0} (k : ℕ) (w : Option V) where
  pub page_puts : (s : ℕ) → s ≡ k % 8 → (old : Page V) (slots : List (Option V)) → s < length slots → ((i : ℕ) → within in_slot slots i ≡ within in_slot old.slots.items i)
      → (n : ℕ) → within in_slot (set slots s w) (n % 8) ≡ (if (eqb (n % 8) (k % 8) && true) then w else in_page n old)
  page_puts s slot_is old slots h same n =
      within_set in_slot slots s (n % 8) (get_or slots s None) w true w h (λ d. get_or_default slots s None d h) refl
      ∙ (λ i. if (eqb (n % 8) (slot_is i) && true) then w else same (n % 8) i)

  pub chunk_puts : (b : ℕ) → b ≡ k / 8 % 64 → (old : Chunk V) (pages : List (Page V)) (page page' : Page V) → b < length pages → ((d : Page V) → page ≡ get_or pages b d)
      → ((n i : ℕ) → within (in_page n) pages i ≡ within (in_page n) old.pages.items i) → PutsInPage page page' k w
      → (n : ℕ) → within (in_page n) (set pages b page') (n / 8 % 64) ≡ (if (eqb (n / 8 % 64) (k / 8 % 64) && (eqb (n % 8) (k % 8) && true)) then w else in_chunk n old)
  chunk_puts b page_is old pages page page' h is same put n =
      within_set (in_page n) pages b (n / 8 % 64) page page' (eqb (n % 8) (k % 8) && true) w h is (put n)
      ∙ (λ i. if (eqb (n / 8 % 64) (page_is i) && (eqb (n % 8) (k % 8) && true)) then w else same n (n / 8 % 64) i)

  pub numbers_puts : (a : ℕ) → a ≡ k / 512 → (old : Numbers V) (chunks : List (Chunk V)) (chunk chunk' : Chunk V) → a < length chunks → ((d : Chunk V) → chunk ≡ get_or chunks a d)
      → ((n i : ℕ) → within (in_chunk n) chunks i ≡ within (in_chunk n) old.chunks.items i) → PutsInChunk chunk chunk' k w
      → (n : ℕ) → within (in_chunk n) (set chunks a chunk') (n / 512) ≡ (if eqb n k then w else in_numbers n old)
  numbers_puts a chunk_is old chunks chunk chunk' h is same put n =
      within_set (in_chunk n) chunks a (n / 512) chunk chunk' (eqb (n / 8 % 64) (k / 8 % 64) && (eqb (n % 8) (k % 8) && true)) w h is (put n)
      ∙ (λ i. if (eqb (n / 512) (chunk_is i) && (eqb (n / 8 % 64) (k / 8 % 64) && (eqb (n % 8) (k % 8) && true))) then w else same n (n / 512) i)
      ∙ ap (λ (t : Bool). if t then w else in_numbers n old) (digits n k)
