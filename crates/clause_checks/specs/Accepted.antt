-- What holds of clauses and of queries that passed the tests of loading.
use Rattle.std.specs.Prelude.{◌≡◌, ◌≤◌, List, length, map, None}
use Rattle.std.specs.List.{All}
use Rattle.akl_syntax.specs.Goals.{goals}
use Rattle.akl_syntax.specs.Clauses.{Clause, Query}
use Rattle.clause_keys.specs.declared.callee.Callee.{Callee}
use Rattle.clause_keys.specs.Keys.{defined_by}
use Rattle.clause_keys.specs.Conditions.{AreLiftable, IsClauseLiftable}
use Rattle.clause_checks.specs.Rows.{own, first_wide_in_goals, first_wide_in_clause, key_if_reserved}

-- the clauses keep the limits, and can be loaded once they are lifted
pub record AreAccepted (cs : List Clause) : Type 0 where
  pub few : length cs ≤ 10000
  -- of each definition there are at most 256
  pub few_own : (c : Clause) → length (own c cs) ≤ 256
  pub liftable : All (IsClauseLiftable (map defined_by cs)) cs
  -- no atom or term has more than 32 arguments
  pub narrow : All (λ c. first_wide_in_clause c ≡ None) cs
  pub unreserved : All (λ c. key_if_reserved c ≡ None) cs

-- the query keeps the limits, and can be loaded over these callees once it is lifted
pub record IsAccepted (callees : List Callee) (q : Query) : Type 0 where
  pub few : length q.names ≤ 256
  pub liftable : AreLiftable callees (goals q.goals)
  pub narrow : first_wide_in_goals (goals q.goals) ≡ None
