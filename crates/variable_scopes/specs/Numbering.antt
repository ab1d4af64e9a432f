-- How variables get their numbers one after another, of which the clauses of private functions speak.
use Rattle.std.specs.Prelude.{◌≡◌, ℕ, ◌<◌, List, [], ◌∷◌, ◌++◌, length, map, Option, Some, None, get_or, slice_set, unwrap_or, ⊤}
use Rattle.akl_syntax.specs.Goals.{Part, goals}
use Rattle.akl_syntax.specs.Variables.{goals_variables}
use Rattle.variable_scopes.specs.Spellings.{Spellings, nothing, spelling, collecting, all_of, both}
use Rattle.variable_scopes.specs.declared.numbering.Numbering.{Numbering}

-- for each spelling the number of the variable that it names here, where it has one; and the spelling of each variable
pub record State : Type 0 where
  pub current : List (Option ℕ)
  pub found : List ℕ

abbrev pub state : Numbering → State
state n = record { current = n.current.items; found = n.found.items }

-- the variable that a spelling names here has a number, or gets the next
abbrev pub number : State → ℕ → ℕ
number s n = unwrap_or (get_or s.current n None) (length s.found)

abbrev pub with_next : State → ℕ → State
with_next s n = record { current = slice_set s.current n (Some (length s.found)); found = s.found ++ n ∷ [] }

abbrev pub unless_numbered : Option ℕ → State → State → State
unless_numbered None s t = t
unless_numbered (Some m) s t = s

abbrev pub after_one : State → ℕ → State
after_one s n = unless_numbered (get_or s.current n None) s (with_next s n)

-- these spellings name variables without a number
abbrev pub cleared : List (Option ℕ) → List ℕ → List (Option ℕ)
cleared current [] = current
cleared current (n ∷ ns) = cleared (slice_set current n None) ns

abbrev pub entered : State → List ℕ → State
entered s ns = record { current = cleared s.current ns; found = s.found }

-- what spellings name here, each beside its spelling
abbrev pub named : State → List ℕ → List (ℕ × Option ℕ)
named s ns = map (λ n. (n, get_or s.current n None)) ns

-- these spellings name again what they named
abbrev pub restored : List (Option ℕ) → List (ℕ × Option ℕ) → List (Option ℕ)
restored current [] = current
restored current (x ∷ xs) = restored (slice_set current x.0 x.1) xs

abbrev pub left : State → List (ℕ × Option ℕ) → State
left s xs = record { current = restored s.current xs; found = s.found }

-- behind a collecting goal whose term has these spellings
abbrev pub after_inside : State → List ℕ → State → State
after_inside s ns inside = left inside (named s ns)

abbrev pub after : State → Spellings → State
after s nothing = s
after s (spelling n x) = after (after_one s n) x
after s (collecting ns inside x) = after (after_inside s ns (after (entered s ns) inside)) x

abbrev pub numbers : State → Spellings → List ℕ
numbers s nothing = []
numbers s (spelling n x) = number s n ∷ numbers (after_one s n) x
numbers s (collecting ns inside x) = numbers (entered s ns) inside ++ numbers (after_inside s ns (after (entered s ns) inside)) x

-- every spelling is below a count
abbrev pub AreBelow : ℕ → List ℕ → Type 0
AreBelow m [] = ⊤
AreBelow m (n ∷ ns) = (n < m) × AreBelow m ns

-- from one state to another, spellings have got their numbers
pub record Numbered (s : State) (x : Spellings) (ns : List ℕ) (t : State) : Type 0 where
  pub numbers_are : ns ≡ numbers s x
  pub state_is : t ≡ after s x

abbrev pub Numbers : State → List ℕ → List ℕ → State → Type 0
Numbers s ms ns t = Numbered s (all_of ms) ns t

-- inside of a collecting goal whose term has the spellings ms, and behind it the state of its result
abbrev pub NumbersInside : State → List ℕ → Spellings → List ℕ → State → Type 0
NumbersInside s ms x ns t = Numbered s (collecting ms (both (all_of ms) x) nothing) ns t

abbrev pub part_variables : Part → List ℕ
part_variables p = goals_variables (goals p.guard) ++ goals_variables (goals p.body)
