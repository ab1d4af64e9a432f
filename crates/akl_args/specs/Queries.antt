-- The queries of a batch's text.
use Rattle.std.specs.Prelude.{ℕ, ◌==◌, List, [], ◌∷◌, ◌++◌, if◌then◌else◌}

-- the last query, which no newline ends: an empty one is none
abbrev pub last_query : List ℕ → List (List ℕ)
last_query [] = []
last_query (b ∷ bs) = (b ∷ bs) ∷ []

-- the queries of the bytes to come, behind a query's bytes so far
abbrev pub queries_from : List ℕ → List ℕ → List (List ℕ)
queries_from query [] = last_query query
queries_from query (b ∷ bs) = if b == 10 then query ∷ queries_from [] bs else queries_from (query ++ b ∷ []) bs

-- the parts of a text between newlines; an empty one behind the last newline is none
abbrev pub queries_in : List ℕ → List (List ℕ)
queries_in text = queries_from [] text
