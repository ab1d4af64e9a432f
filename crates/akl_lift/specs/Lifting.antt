-- What lifting gives. Each inline choice becomes a call of the definition with the next number, and each of its parts a clause of this definition; each collecting goal becomes a collecting call of the definition with the next number, which has one clause.
-- In goals and in their parts variables are named by their written numbers; each clause that is made numbers them anew.
use Rattle.std.specs.Prelude.{◌==◌, ℕ, zero, suc, ◌+◌, ◌++◌, ◌&&◌, Bool, true, false, None, Some, List, [], ◌∷◌, map, length, nat_lt, if◌then◌else◌, slice_get, unwrap_or, codes}
use Rattle.std.specs.List.{count_by, filter, list_any, flat_map}
use Rattle.akl_terms.specs.declared.program.Key.{Key}
use Rattle.akl_terms.specs.declared.program.Op.{Op}
use Rattle.akl_terms.specs.declared.program.Op.TheVariants as ops
use Rattle.term_syntax.specs.Tree.{Tree}
use Rattle.term_syntax.specs.Variables.{tree_variables}
use Rattle.akl_syntax.specs.declared.source.Head.TheVariants as heads
use Rattle.akl_syntax.specs.Goals.{Goal, Goals, Parts, call, choice, lifted, collect, lifted_collect, no_goals, more_goals, no_parts, more_parts, goals}
use Rattle.akl_syntax.specs.Clauses.{Clause, Query}
use Rattle.akl_syntax.specs.Variables.{goals_variables, parts_variables, clause_variables, query_variables}
use Rattle.clause_keys.specs.Keys.{key_of}
use Rattle.akl_lift.specs.Places.{place, placed_variable, placed_tree, placed_trees}

-- ---- variables

-- how often a variable stands in a list
abbrev pub times : ℕ → List ℕ → ℕ
times v ns = count_by (λ n. n == v) ns

-- the variable occurs inside of a goal, and more often in its clause: so it occurs outside, too
abbrev pub is_shared : List ℕ → List ℕ → ℕ → Bool
is_shared all inside v = nat_lt 0 (times v inside) && nat_lt (times v inside) (times v all)

-- the variables that occur inside of a goal and also outside, in order of their numbers. The clause's variables have this order; `all` has every occurrence in the clause, and `inside` those inside
abbrev pub shared : List ℕ → List ℕ → List ℕ → List ℕ
shared order all inside = filter (is_shared all inside) order

-- the occurrences inside of a collecting goal, of whose result nothing is inside
abbrev pub collect_variables : Tree → Goals → List ℕ
collect_variables t gs = tree_variables t ++ goals_variables gs

-- the variables behind those that are known, by first occurrence
abbrev pub seen_from : List ℕ → List ℕ → List ℕ
seen_from known [] = known
seen_from known (v ∷ vs) = seen_from (if list_any (λ n. n == v) known then known else known ++ v ∷ []) vs

-- so many numbers, from one on
abbrev pub numbers_from : ℕ → ℕ → List ℕ
numbers_from n zero = []
numbers_from n (suc k) = n ∷ numbers_from (suc n) k

-- ---- how many choices and collecting goals there are, those inside of others too
abbrev mutual
  pub choices_in : Goal → ℕ
  choices_in (call s ts) = 0
  choices_in (lifted n ns) = 0
  choices_in (choice ps) = 1 + choices_in_parts ps
  choices_in (collect t gs r) = 1 + choices_in_all gs
  choices_in (lifted_collect n ns r) = 0

  pub choices_in_all : Goals → ℕ
  choices_in_all no_goals = 0
  choices_in_all (more_goals g gs) = choices_in g + choices_in_all gs

  pub choices_in_parts : Parts → ℕ
  choices_in_parts no_parts = 0
  choices_in_parts (more_parts gs op hs ps) = (choices_in_all gs + choices_in_all hs) + choices_in_parts ps

-- ---- goals

-- A goal without choices and collecting goals, of a clause whose variables have this order. `shares` gives the arguments of what is lifted in this clause, by what occurs inside, and `next` is the number of the first choice or
-- collecting goal in the goal: numbers go by the places of the opening brackets.
abbrev pub without : List ℕ → (List ℕ → List ℕ) → ℕ → Goal → Goal
without order shares next (call s ts) = call s (placed_trees order ts)
without order shares next (lifted n ns) = lifted n (map (place order) ns)
without order shares next (lifted_collect n ns r) = lifted_collect n (map (place order) ns) (placed_tree order r)
without order shares next (choice ps) = lifted next (map (place order) (shares (parts_variables ps)))
without order shares next (collect t gs r) = lifted_collect next (map (place order) (shares (collect_variables t gs))) (placed_tree order r)

abbrev pub without_all : List ℕ → (List ℕ → List ℕ) → ℕ → Goals → List Goal
without_all order shares next no_goals = []
without_all order shares next (more_goals g gs) = without order shares next g ∷ without_all order shares (next + choices_in g) gs

-- ---- clauses that are made

-- the spellings of the written clause's variables, the key of its definition, and its place
pub record Origin : Type 0 where
  pub names : List (List ℕ)
  pub inside : Key
  pub start : ℕ

abbrev pub name_of : List (List ℕ) → ℕ → List ℕ
name_of names v = unwrap_or (slice_get names v) []

-- The variables of a clause that is made, which has these arguments and these occurrences inside, by first occurrence: so its arguments are the variables 0, 1, .. in order.
abbrev pub made_order : List ℕ → List ℕ → List ℕ
made_order args inside = seen_from [] (args ++ inside)

-- the arguments of what is lifted in it
abbrev pub made_shares : List ℕ → List ℕ → List ℕ → List ℕ
made_shares args inside within = shared (made_order args inside) (args ++ inside) within

-- the occurrences in a part's guard and its body
abbrev pub part_variables : Goals → Goals → List ℕ
part_variables gs hs = goals_variables gs ++ goals_variables hs

abbrev pub part_order : List ℕ → Goals → Goals → List ℕ
part_order args gs hs = made_order args (part_variables gs hs)

abbrev pub part_shares : List ℕ → Goals → Goals → List ℕ → List ℕ
part_shares args gs hs within = made_shares args (part_variables gs hs) within

abbrev pub collect_order : List ℕ → Tree → Goals → List ℕ
collect_order args t gs = made_order args (collect_variables t gs)

abbrev pub collect_shares : List ℕ → Tree → Goals → List ℕ → List ℕ
collect_shares args t gs within = made_shares args (collect_variables t gs) within

-- the clause of a definition that a part becomes
abbrev pub part_clause : Origin → ℕ → List ℕ → ℕ → Goals → Op → Goals → Clause
part_clause w number args next gs op hs = record {
  head = heads.Lifted number w.inside;
  arguments = map (placed_variable (part_order args gs hs)) args;
  part = record {
    guard = without_all (part_order args gs hs) (part_shares args gs hs) next gs;
    op = op;
    body = without_all (part_order args gs hs) (part_shares args gs hs) (next + choices_in_all gs) hs;
    is_written = true;
  };
  collected = None;
  names = map (name_of w.names) (part_order args gs hs);
  start = w.start;
}

-- the clause of the definition that a collecting goal becomes: it collects the goal's term
abbrev pub collect_clause : Origin → ℕ → List ℕ → ℕ → Tree → Goals → Clause
collect_clause w number args next t gs = record {
  head = heads.Lifted number w.inside;
  arguments = map (placed_variable (collect_order args t gs)) args;
  part = record { guard = without_all (collect_order args t gs) (collect_shares args t gs) next gs; op = ops.Collect; body = []; is_written = true };
  collected = Some (placed_tree (collect_order args t gs) t);
  names = map (name_of w.names) (collect_order args t gs);
  start = w.start;
}

-- the clauses of one definition, one for each part, in order
abbrev pub part_clauses : Origin → ℕ → List ℕ → ℕ → Parts → List Clause
part_clauses w number args next no_parts = []
part_clauses w number args next (more_parts gs op hs ps) = part_clause w number args next gs op hs ∷ part_clauses w number args (next + (choices_in_all gs + choices_in_all hs)) ps

-- the definitions that are made of the choices and the collecting goals in a goal, in the order of their numbers
abbrev mutual
  pub made : Origin → (List ℕ → List ℕ) → ℕ → Goal → List (List Clause)
  made w shares next (call s ts) = []
  made w shares next (lifted n ns) = []
  made w shares next (lifted_collect n ns r) = []
  made w shares next (choice ps) = part_clauses w next (shares (parts_variables ps)) (next + 1) ps ∷ made_inside w (shares (parts_variables ps)) (next + 1) ps
  made w shares next (collect t gs r) =
      (collect_clause w next (shares (collect_variables t gs)) (next + 1) t gs ∷ []) ∷ made_all w (collect_shares (shares (collect_variables t gs)) t gs) (next + 1) gs

  pub made_all : Origin → (List ℕ → List ℕ) → ℕ → Goals → List (List Clause)
  made_all w shares next no_goals = []
  made_all w shares next (more_goals g gs) = made w shares next g ++ made_all w shares (next + choices_in g) gs

  -- those that are made of the choices in the parts of a choice with these arguments
  pub made_inside : Origin → List ℕ → ℕ → Parts → List (List Clause)
  made_inside w args next no_parts = []
  made_inside w args next (more_parts gs op hs ps) =
      (made_all w (part_shares args gs hs) next gs ++ made_all w (part_shares args gs hs) (next + choices_in_all gs) hs) ++ made_inside w args (next + (choices_in_all gs + choices_in_all hs)) ps

-- those that are made of the choices in a part
abbrev pub made_in_part : Origin → List ℕ → ℕ → Goals → Goals → List (List Clause)
made_in_part w args next gs hs = made_all w (part_shares args gs hs) next gs ++ made_all w (part_shares args gs hs) (next + choices_in_all gs) hs

-- the clauses of definitions, one definition behind the other
abbrev pub joined : List (List Clause) → List Clause
joined ds = flat_map (λ cs. cs) ds

-- ---- programs and queries

abbrev pub clause_choices : Clause → ℕ
clause_choices c = choices_in_all (goals c.part.guard) + choices_in_all (goals c.part.body)

abbrev pub choices_of : List Clause → ℕ
choices_of [] = 0
choices_of (c ∷ cs) = clause_choices c + choices_of cs

-- a written clause keeps the numbers of its variables
abbrev pub clause_order : Clause → List ℕ
clause_order c = numbers_from 0 (length c.names)

-- the arguments of what is lifted in it
abbrev pub clause_shares : Clause → List ℕ → List ℕ
clause_shares c inside = shared (clause_order c) (clause_variables c) inside

abbrev pub clause_origin : Clause → Origin
clause_origin c = record { names = c.names; inside = key_of c.head (length c.arguments); start = c.start }

-- the clause without choices
abbrev pub clause_without : ℕ → Clause → Clause
clause_without next c = record c {
  part = record {
    guard = without_all (clause_order c) (clause_shares c) next (goals c.part.guard);
    op = c.part.op;
    body = without_all (clause_order c) (clause_shares c) (next + choices_in_all (goals c.part.guard)) (goals c.part.body);
    is_written = true;
  };
}

-- the definitions that are made of the choices in a clause
abbrev pub made_of : ℕ → Clause → List (List Clause)
made_of next c =
    made_all (clause_origin c) (clause_shares c) next (goals c.part.guard) ++ made_all (clause_origin c) (clause_shares c) (next + choices_in_all (goals c.part.guard)) (goals c.part.body)

abbrev pub clauses_without : ℕ → List Clause → List Clause
clauses_without next [] = []
clauses_without next (c ∷ cs) = clause_without next c ∷ clauses_without (next + clause_choices c) cs

abbrev pub made_of_all : ℕ → List Clause → List Clause
made_of_all next [] = []
made_of_all next (c ∷ cs) = joined (made_of next c) ++ made_of_all (next + clause_choices c) cs

-- the clauses of a program without choices, and those of the definitions that are made, which are numbered from 0 on, behind them
abbrev pub lifted_clauses : List Clause → List Clause
lifted_clauses cs = clauses_without 0 cs ++ made_of_all 0 cs

-- the variables of the terms that are collected, which are local to their goals
abbrev mutual
  pub local_in : Goal → List ℕ
  local_in (call s ts) = []
  local_in (lifted n ns) = []
  local_in (lifted_collect n ns r) = []
  local_in (choice ps) = local_in_parts ps
  local_in (collect t gs r) = tree_variables t ++ local_in_all gs

  pub local_in_all : Goals → List ℕ
  local_in_all no_goals = []
  local_in_all (more_goals g gs) = local_in g ++ local_in_all gs

  pub local_in_parts : Parts → List ℕ
  local_in_parts no_parts = []
  local_in_parts (more_parts gs op hs ps) = (local_in_all gs ++ local_in_all hs) ++ local_in_parts ps

-- the name of a variable, or an underscore where it is among these
abbrev pub hidden_name : List ℕ → ℕ → List ℕ → List ℕ
hidden_name locals n w = if list_any (λ v. v == n) locals then codes "_" else w

-- so all names, the first of which is that of variable n
abbrev pub hidden_from : List ℕ → ℕ → List (List ℕ) → List (List ℕ)
hidden_from locals n [] = []
hidden_from locals n (w ∷ ws) = hidden_name locals n w ∷ hidden_from locals (n + 1) ws

-- the query, where local variables have no name of their own: they are neither shown nor do they count as occurring outside
abbrev pub hidden_locals : Query → Query
hidden_locals q = record q { names = hidden_from (local_in_all (goals q.goals)) 0 q.names }

-- the name begins with an underscore
abbrev pub is_hidden : List ℕ → Bool
is_hidden [] = false
is_hidden (b ∷ name) = b == 95

-- the variables whose names don't begin with an underscore, the first name being that of variable n
abbrev pub shown_from : ℕ → List (List ℕ) → List ℕ
shown_from n [] = []
shown_from n (w ∷ ws) = if is_hidden w then shown_from (n + 1) ws else n ∷ shown_from (n + 1) ws

-- each of these counts as one more occurrence, outside of all choices and collecting goals
abbrev pub asked_variables : Query → List ℕ
asked_variables q = shown_from 0 q.names ++ query_variables q

abbrev pub query_order : Query → List ℕ
query_order q = numbers_from 0 (length q.names)

abbrev pub query_shares : Query → List ℕ → List ℕ
query_shares q inside = shared (query_order q) (asked_variables q) inside

-- what stands in a query has no key
abbrev pub query_origin : Query → Origin
query_origin q = record { names = q.names; inside = record { symbol = []; arity = 0 }; start = 0 }

abbrev pub query_without : ℕ → Query → Query
query_without next q = record q { names = (hidden_locals q).names; goals = without_all (query_order (hidden_locals q)) (query_shares (hidden_locals q)) next (goals q.goals) }

abbrev pub made_of_query : ℕ → Query → List Clause
made_of_query next q = joined (made_all (query_origin q) (query_shares (hidden_locals q)) next (goals q.goals))
