-- Where a name's value is: in a page of 8 slots, 64 of which are a chunk, of the chunks of the name's worker.
use Rattle.std.specs.Prelude.{◌≡◌, ℕ, zero, suc, ◌+◌, ◌*◌, ◌/◌, ◌%◌, ◌==◌, ◌&&◌, Bool, true, List, [], ◌∷◌, length, Option, None, Some, if◌then◌else◌}
use lib.Dec.{eqb}
use Rattle.akl_terms.specs.declared.name.Name.{Name}
use Rattle.name_map.specs.declared.page.Page.{Page}
use Rattle.name_map.specs.declared.page.Chunk.{Chunk}
use Rattle.name_map.specs.declared.numbers.Numbers.{Numbers}

-- what the element at an index leads to
abbrev pub within : {A B : Type 0} → (A → Option B) → List A → ℕ → Option B
within f [] i = None
within f (x ∷ xs) zero = f x
within f (x ∷ xs) (suc i) = within f xs i

abbrev pub in_slot : {V : Type 0} → Option V → Option V
in_slot slot = slot

-- the value of a number: of its slot in its page, of its page in its chunk, and of its chunk
abbrev pub in_page : {V : Type 0} → ℕ → Page V → Option V
in_page n page = within in_slot page.slots.items (n % 8)

abbrev pub in_chunk : {V : Type 0} → ℕ → Chunk V → Option V
in_chunk n chunk = within (in_page n) chunk.pages.items (n / 8 % 64)

abbrev pub in_numbers : {V : Type 0} → ℕ → Numbers V → Option V
in_numbers n numbers = within (in_chunk n) numbers.chunks.items (n / 512)

abbrev pub value_at : {V : Type 0} → List (Numbers V) → Name → Option V
value_at workers m = within (in_numbers m.number) workers m.worker

module _ {V : Type 0} where
  -- before other values, that of a name where it has one
  abbrev pub with_value : Option V → ℕ → ℕ → List (Name × V) → List (Name × V)
  with_value None worker number es = es
  with_value (Some v) worker number es = (record { worker = worker; number = number }, v) ∷ es

  -- before other values, those of so many numbers from one on, with their names
  abbrev pub listed : ℕ → ℕ → ℕ → (ℕ → Option V) → List (Name × V) → List (Name × V)
  listed worker first zero f es = es
  listed worker first (suc n) f es = with_value (f first) worker first (listed worker (first + 1) n f es)

  -- the values of each worker's names, from one worker on
  abbrev pub entries_from : ℕ → List (Numbers V) → List (Name × V)
  entries_from worker [] = []
  entries_from worker (numbers ∷ rest) = listed worker 0 (length numbers.chunks.items * 512) (λ n. in_numbers n numbers) (entries_from (worker + 1) rest)

  abbrev pub entries : List (Numbers V) → List (Name × V)
  entries workers = entries_from 0 workers

-- a page without slots
abbrev pub is_bare : {V : Type 0} → Page V → Bool
is_bare page = length page.slots.items == 0

-- every number has the value that it had
abbrev pub Same : {V : Type 0} → Numbers V → Numbers V → Type 0
Same old new = (n : ℕ) → in_numbers n new ≡ in_numbers n old

-- one number has another value, or none
abbrev pub Puts : {V : Type 0} → Numbers V → Numbers V → ℕ → Option V → Type 0
Puts old new k w = (n : ℕ) → in_numbers n new ≡ (if eqb n k then w else in_numbers n old)

-- the same in its chunk, for all numbers with its page and slot, and in its page, for all with its slot
abbrev pub PutsInChunk : {V : Type 0} → Chunk V → Chunk V → ℕ → Option V → Type 0
PutsInChunk old new k w = (n : ℕ) → in_chunk n new ≡ (if (eqb (n / 8 % 64) (k / 8 % 64) && (eqb (n % 8) (k % 8) && true)) then w else in_chunk n old)

abbrev pub PutsInPage : {V : Type 0} → Page V → Page V → ℕ → Option V → Type 0
PutsInPage old new k w = (n : ℕ) → in_page n new ≡ (if (eqb (n % 8) (k % 8) && true) then w else in_page n old)
