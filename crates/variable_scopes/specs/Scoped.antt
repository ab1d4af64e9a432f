-- Clauses and queries whose variables go by their scopes.
use Rattle.std.specs.Prelude.{◌≡◌, ℕ, suc, ◌==◌, ◌&&◌, List, [], ◌∷◌, ◌++◌, map, Bool, Option, Some, None, option_map, unwrap_or, is_some, if◌then◌else◌, slice_get, ⊤}
use Rattle.akl_syntax.specs.Clauses.{Clause, Query}
use Rattle.akl_syntax.specs.Variables.{clause_variables, query_variables}
use Rattle.variable_scopes.specs.Shapes.{clause_shape, query_shape}
use Rattle.variable_scopes.specs.Spellings.{clause_spellings, query_spellings}
use Rattle.variable_scopes.specs.Variables.{Variable, variables_of}

abbrev pub same : Variable → Variable → Bool
same v w = (v.local_to == w.local_to) && (v.spelling == w.spelling)

-- the place of a variable among variables
abbrev pub place_of : Variable → List Variable → Option ℕ
place_of v [] = None
place_of v (w ∷ ws) = if same w v then Some 0 else option_map suc (place_of v ws)

abbrev pub added : List Variable → Variable → List Variable
added known v = if is_some (place_of v known) then known else known ++ v ∷ []

-- known variables, and behind them others by first occurrence
abbrev pub first_seen : List Variable → List Variable → List Variable
first_seen known [] = known
first_seen known (v ∷ vs) = first_seen (added known v) vs

abbrev pub distinct : List Variable → List Variable
distinct vs = first_seen [] vs

-- a variable's number is its place by first occurrence
abbrev pub numbers_of : List Variable → List ℕ
numbers_of vs = map (λ v. unwrap_or (place_of v (distinct vs)) 0) vs

abbrev pub name_of : List (List ℕ) → ℕ → List ℕ
name_of names n = unwrap_or (slice_get names n) []

-- the names of the variables, by their numbers
abbrev pub names_of : List (List ℕ) → List Variable → List (List ℕ)
names_of names vs = map (λ v. name_of names v.spelling) (distinct vs)

-- The clause d is c with its variables by their scopes: it differs in the numbers and the names of variables alone.
pub record IsScopedClause (c d : Clause) : Type 0 where
  pub shape : clause_shape d ≡ clause_shape c
  pub variables : clause_variables d ≡ numbers_of (variables_of (clause_spellings c))
  pub names : d.names ≡ names_of c.names (variables_of (clause_spellings c))

abbrev pub AreScoped : List Clause → List Clause → Type 0
AreScoped [] [] = ⊤
AreScoped (c ∷ cs) (d ∷ ds) = IsScopedClause c d × AreScoped cs ds
AreScoped _ _ = ⊥

pub record IsScopedQuery (q r : Query) : Type 0 where
  pub shape : query_shape r ≡ query_shape q
  pub variables : query_variables r ≡ numbers_of (variables_of (query_spellings q))
  pub names : r.names ≡ names_of q.names (variables_of (query_spellings q))
