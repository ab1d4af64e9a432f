-- Numbers that are taken and given back.
use Rattle.std.specs.Prelude.{◌≡◌, ℕ, ◌<◌, ◌≤◌, List, ◌∷◌, Option, None, Some, ⊤, map, Bool, true, false, ◌&&◌, ◌||◌, ◌==◌, not, nat_lt}
use Rattle.std.specs.List.{list_any, IsDistinct}
use Rattle.std.specs.BinaryHeap.{IsHeap}
use Rattle.std.specs.declared.cmp.Reverse.{Reverse}
use Rattle.std.specs.Ordering.{nat_cmp}
use Rattle.std.specs.declared.cmp.Ordering.{Ordering}
use lib.Dec.{eqb}

-- those that are taken are below the bound, and not among the free ones
pub record Numbers : Type 0 where
  pub bound : ℕ
  pub free : List ℕ

abbrev pub is_taken : Numbers → ℕ → Bool
is_taken s t = nat_lt t s.bound && not (list_any (eqb t) s.free)

-- the least number that isn't taken
pub record IsLeastFree (s : Numbers) (t : ℕ) : Type 0 where
  pub free : is_taken s t ≡ false
  pub least : (k : ℕ) → k < t → is_taken s k ≡ true

-- one number more is taken
abbrev pub Takes : Numbers → Numbers → ℕ → Type 0
Takes s u t = (k : ℕ) → is_taken u k ≡ ((k == t) || is_taken s k)

-- one number is taken no more
abbrev pub GivesBack : Numbers → Numbers → ℕ → Type 0
GivesBack s u t = (k : ℕ) → is_taken u k ≡ (not (k == t) && is_taken s k)

abbrev pub numbers_of : List (Reverse ℕ) → List ℕ
numbers_of rs = map (λ (r : Reverse ℕ). r.0) rs

-- the order of a heap whose greatest element is the least number
abbrev pub least_first : Reverse ℕ → Reverse ℕ → Ordering
least_first x y = nat_cmp y.0 x.0

-- the free numbers are a heap, each once and below the bound, and there is room for all below it
pub record AreKept (bound : ℕ) (free : List (Reverse ℕ)) (capacity : ℕ) : Type 0 where
  pub heap : IsHeap least_first free
  pub distinct : IsDistinct eqb (numbers_of free)
  pub below : (k : ℕ) → list_any (eqb k) (numbers_of free) ≡ true → k < bound
  pub room : bound ≤ capacity

-- one more that is free
abbrev pub with_spare : Option ℕ → Numbers → Numbers
with_spare None s = s
with_spare (Some n) s = record { bound = s.bound; free = n ∷ s.free }

-- a number that is taken, as all below it are
pub record IsLeast (s : Numbers) (n : ℕ) : Type 0 where
  pub taken : is_taken s n ≡ true
  pub least : (k : ℕ) → k < n → is_taken s k ≡ true

abbrev pub IsSpareOf : Option ℕ → Numbers → Type 0
IsSpareOf None s = ⊤
IsSpareOf (Some n) s = IsLeast s n
