-- Which variable each spelling is.
use Rattle.std.specs.Prelude.{ℕ, suc, ◌==◌, List, [], ◌∷◌, ◌++◌, Bool, if◌then◌else◌}
use Rattle.std.specs.List.{list_any}
use Rattle.variable_scopes.specs.Spellings.{Spellings, nothing, spelling, collecting}

-- A variable is a spelling and the collecting goal to which it is local. Collecting goals are numbered from 1 in the
-- order of the text, and 0 stands for none.
pub record Variable : Type 0 where
  pub local_to : ℕ
  pub spelling : ℕ

-- a collecting goal around a place, with the spellings in the term that it collects
pub record Collecting : Type 0 where
  pub number : ℕ
  pub spellings : List ℕ

abbrev pub has : ℕ → List ℕ → Bool
has n ns = list_any (λ m. m == n) ns

-- the innermost of the collecting goals around a place that has the spelling in the term that it collects
abbrev pub binder : List Collecting → ℕ → ℕ
binder [] n = 0
binder (c ∷ around) n = if has n c.spellings then c.number else binder around n

abbrev pub variable_at : List Collecting → ℕ → Variable
variable_at around n = record { local_to = binder around n; spelling = n }

-- the number of the next collecting goal behind spellings, where the next one in them has this number
abbrev pub next_behind : ℕ → Spellings → ℕ
next_behind next nothing = next
next_behind next (spelling n x) = next_behind next x
next_behind next (collecting ns inside x) = next_behind (next_behind (suc next) inside) x

-- The variables of spellings inside of these collecting goals, the innermost of which comes first, where the next
-- collecting goal has this number.
abbrev pub occurring : List Collecting → ℕ → Spellings → List Variable
occurring around next nothing = []
occurring around next (spelling n x) = variable_at around n ∷ occurring around next x
occurring around next (collecting ns inside x) = occurring (record { number = next; spellings = ns } ∷ around) (suc next) inside ++ occurring around (next_behind (suc next) inside) x

-- those of a whole clause or query
abbrev pub variables_of : Spellings → List Variable
variables_of x = occurring [] 1 x
