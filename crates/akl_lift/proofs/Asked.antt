-- A query that passed the tests of loading can be loaded once it is lifted.
use Rattle.std.proofs.Common.{◌≡◌, ℕ, ◌+◌, ◌*◌, ◌≤◌, List, ◌++◌, length, map, arith}
use Rattle.std.specs.List.{All, Contains}
use Rattle.std.proofs.lemmas.List.Elements.{Contains-append_left, Contains-append_right}
use Rattle.akl_syntax.specs.Goals.{goals}
use Rattle.akl_syntax.specs.Clauses.{Clause, Query}
use Rattle.akl_syntax.specs.Sizes.{clauses_size, query_size}
use Rattle.akl_syntax.specs.Variables.{query_variables, IsQueryNumbered}
use Rattle.clause_keys.specs.declared.callee.Callee.{Callee}
use Rattle.clause_keys.specs.Keys.{defined_by}
use Rattle.clause_keys.specs.Conditions.{IsLoadable, IsClauseLoadable, AreLiftable, AreUnmixed}
use Rattle.akl_lift.specs.Lifting.{local_in_all, hidden_locals, query_origin, query_order, query_shares, asked_variables, query_without, made_of_query}
use Rattle.akl_lift.specs.Whole.{AreWhole, IsWritten}
use Rattle.akl_lift.proofs.Below.{Below, below_all, below_numbers, length-numbers, Fits, order_fits}
use Rattle.akl_lift.proofs.Hiding.{length-hidden}
use Rattle.akl_lift.proofs.Sized.{goals_paid}
use Rattle.akl_lift.proofs.Loadable.{Among, all_load, goals_definitions}
use Rattle.akl_lift.proofs.Operators.{IsMadeOf, operators_all, goals_made}
use Rattle.akl_lift.proofs.Unmixed.{among_all, same_made_op}

query_fits : (q : Query) → length q.names ≤ 256 → Fits (length q.names) (query_shares (hidden_locals q))
query_fits q h =
    let n = length q.names in
    let few : length (hidden_locals q).names ≡ n = length-hidden (local_in_all (goals q.goals)) 0 q.names in
    let below : Below n (query_order (hidden_locals q)) = below_numbers 0 (length (hidden_locals q).names) n (omega (arith, few)) in
    order_fits n (query_order (hidden_locals q)) (asked_variables (hidden_locals q)) below (omega (arith, length-numbers 0 (length (hidden_locals q).names), few, h))

query_below : (q : Query) → IsQueryNumbered q → Below (length q.names) (query_variables q)
query_below q n = below_all (length q.names) (query_variables q) n.named

-- the query's goals and the clauses that are made of it call what the program defines, or these clauses
pub record LoadsOver (some : List Callee) (next : ℕ) (q : Query) : Type 0 where
  pub goals : All (IsLoadable (some ++ map defined_by (made_of_query next q))) (query_without next q).goals
  pub clauses : All (IsClauseLoadable (some ++ map defined_by (made_of_query next q))) (made_of_query next q)

pub query_loads : (some : List Callee) (next : ℕ) (q : Query) → length q.names ≤ 256 → AreLiftable some (goals q.goals) → AreWhole (goals q.goals) → IsQueryNumbered q → LoadsOver some next q
query_loads some next q h l r m =
    let all = some ++ map defined_by (made_of_query next q) in
    let front : Among some all = λ k x. Contains-append_left some (map defined_by (made_of_query next q)) k x in
    let back : Among (map defined_by (made_of_query next q)) all = λ k x. Contains-append_right some (map defined_by (made_of_query next q)) k x in
    record {
      goals = all_load some all front (length q.names) h (query_origin q) (query_order (hidden_locals q)) (query_shares (hidden_locals q)) next (goals q.goals) l r back;
      clauses = goals_definitions some all front (length q.names) h (query_origin q) (query_shares (hidden_locals q)) next (goals q.goals) l r (query_fits q h) (query_below q m) back;
    }

pub query_paid : (next : ℕ) (q : Query) → IsWritten q → query_size (query_without next q) + clauses_size (made_of_query next q) ≤ 514 * query_size q
query_paid next q w = goals_paid (length q.names) w.few (query_origin q) (query_order (hidden_locals q)) (query_shares (hidden_locals q)) next (goals q.goals) (query_fits q w.few) (query_below q w.numbered) w.read

-- each clause that is made has the number of a choice or a collecting goal of the query, and its operator
pub query_made : (some : List Callee) (next : ℕ) (q : Query) → AreLiftable some (goals q.goals) → All (IsMadeOf (operators_all (goals q.goals)) next) (made_of_query next q)
query_made some next q l = goals_made some (query_origin q) (query_shares (hidden_locals q)) next (goals q.goals) l

pub query_unmixed : (some : List Callee) (next : ℕ) (q : Query) → AreLiftable some (goals q.goals) → AreUnmixed (made_of_query next q)
query_unmixed some next q l = record { same = λ c d x y e. same_made_op (operators_all (goals q.goals)) next c d (found c x) (found d y) e }
  where
    found : (c : Clause) → Contains (made_of_query next q) c → IsMadeOf (operators_all (goals q.goals)) next c
    found c x = among_all (IsMadeOf (operators_all (goals q.goals)) next) (made_of_query next q) c (query_made some next q l) x
