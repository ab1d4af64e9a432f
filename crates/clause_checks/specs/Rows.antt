-- The tests of loading. Each finds the first place from left to right that breaks it.
use Rattle.std.specs.Prelude.{ℕ, Bool, true, false, not, ◌&&◌, ◌||◌, ◌==◌, nat_le, nat_lt, List, [], ◌∷◌, ◌++◌, length, Option, Some, None, is_some, if◌then◌else◌, bytes_eq}
use Rattle.std.specs.List.{filter, list_any}
use Rattle.std.specs.Option.{option_or}
use Rattle.akl_terms.specs.declared.program.Key.{Key}
use Rattle.akl_terms.specs.declared.program.Op.{Op}
use Rattle.akl_terms.specs.declared.program.Op.TheVariants as ops
use Rattle.akl_syntax.specs.declared.source.Head.{Head}
use Rattle.akl_syntax.specs.declared.source.Head.TheVariants as heads
use Rattle.term_syntax.specs.Tree.{Tree, Trees, Tail, Steps, variable, integer, compound, list, chain, no_trees, more_trees, no_tail, tail, no_steps, more_steps, trees}
use Rattle.akl_syntax.specs.Goals.{Goal, Goals, Parts, call, choice, lifted, collect, lifted_collect, goals, no_goals, more_goals, no_parts, more_parts}
use Rattle.akl_syntax.specs.Clauses.{Clause}
use Rattle.clause_keys.specs.declared.callee.Callee.{Callee}
use Rattle.clause_keys.specs.declared.callee.Callee.TheVariants.{Named, Lifted, Collecting}
use Rattle.clause_keys.specs.Reserved.{reserved_of}
use Rattle.clause_keys.specs.Reserved as keys
use Rattle.clause_keys.specs.Keys.{named, key_of, defined_by}
use Rattle.clause_keys.specs.Conditions.{count, count_parts}
use Rattle.clause_checks.specs.Within.{goals_in}

-- what is found first
abbrev pub first : {X Y : Type 0} → (X → Option Y) → List X → Option Y
first f [] = None
first f (x ∷ xs) = option_or (f x) (first f xs)

-- the number, where it is above the limit
abbrev pub above : ℕ → ℕ → Option ℕ
above limit n = if nat_lt limit n then Some n else None

abbrev pub is_callee : Callee → Callee → Bool
is_callee (Named k) (Named l) = bytes_eq k.symbol l.symbol && k.arity == l.arity
is_callee (Lifted m k) (Lifted n l) = m == n && k == l
is_callee (Collecting m k) (Collecting n l) = m == n && k == l
is_callee _ _ = false

-- the clauses of the clause's definition among some
abbrev pub own : Clause → List Clause → List Clause
own c cs = filter (λ d. is_callee (defined_by c) (defined_by d)) cs

-- each clause, with those before it
abbrev pub with_before : List Clause → List Clause → List (List Clause × Clause)
with_before before [] = []
with_before before (c ∷ cs) = (before, c) ∷ with_before (before ++ c ∷ []) cs

-- ---- clauses of one definition, and parts of one inline choice

-- the clause is the 257th of its definition: how many this has in all
abbrev pub too_many_clauses : List Clause → List Clause × Clause → Option ℕ
too_many_clauses all x = if nat_le 256 (length (own x.1 x.0)) then Some (length (own x.1 all)) else None

abbrev pub too_many_parts : Goal → Option ℕ
too_many_parts (choice ps) = above 256 (count_parts ps)
too_many_parts g = None

abbrev pub first_crowded_in_clause : List Clause → List Clause × Clause → Option ℕ
first_crowded_in_clause all x = option_or (too_many_clauses all x) (first too_many_parts (goals_in x.1))

-- ---- arguments of a term or an atom: the outer one is first

abbrev mutual
  pub first_wide_in_term : Tree → Option ℕ
  first_wide_in_term (variable n) = None
  first_wide_in_term (integer z) = None
  first_wide_in_term (compound s ts) = option_or (above 32 (count ts)) (first_wide_in_terms ts)
  first_wide_in_term (list ts e) = option_or (first_wide_in_terms ts) (first_wide_in_tail e)
  first_wide_in_term (chain t ss) = option_or (first_wide_in_term t) (first_wide_in_steps ss)

  pub first_wide_in_terms : Trees → Option ℕ
  first_wide_in_terms no_trees = None
  first_wide_in_terms (more_trees t ts) = option_or (first_wide_in_term t) (first_wide_in_terms ts)

  pub first_wide_in_tail : Tail → Option ℕ
  first_wide_in_tail no_tail = None
  first_wide_in_tail (tail t) = first_wide_in_term t

  pub first_wide_in_steps : Steps → Option ℕ
  first_wide_in_steps no_steps = None
  first_wide_in_steps (more_steps w t ss) = option_or (first_wide_in_term t) (first_wide_in_steps ss)

abbrev pub first_wide_in_arguments : Trees → Option ℕ
first_wide_in_arguments ts = option_or (above 32 (count ts)) (first_wide_in_terms ts)

-- goals inside of others come in the order of the text; the arguments of a lifted goal aren't written
abbrev mutual
  pub first_wide_in_goal : Goal → Option ℕ
  first_wide_in_goal (call s ts) = first_wide_in_arguments ts
  first_wide_in_goal (choice ps) = first_wide_in_parts ps
  first_wide_in_goal (lifted n ns) = None
  first_wide_in_goal (collect t gs r) = option_or (first_wide_in_term t) (option_or (first_wide_in_goals gs) (first_wide_in_term r))
  first_wide_in_goal (lifted_collect n ns r) = first_wide_in_term r

  pub first_wide_in_goals : Goals → Option ℕ
  first_wide_in_goals no_goals = None
  first_wide_in_goals (more_goals g gs) = option_or (first_wide_in_goal g) (first_wide_in_goals gs)

  pub first_wide_in_parts : Parts → Option ℕ
  first_wide_in_parts no_parts = None
  first_wide_in_parts (more_parts gs op hs ps) = option_or (option_or (first_wide_in_goals gs) (first_wide_in_goals hs)) (first_wide_in_parts ps)

abbrev pub first_wide_in_collected : Option Tree → Option ℕ
first_wide_in_collected None = None
first_wide_in_collected (Some t) = first_wide_in_term t

abbrev pub wide_head_arity : Head → ℕ → Option ℕ
wide_head_arity (heads.Named s) n = above 32 n
wide_head_arity (heads.Lifted number inside) n = None

abbrev pub first_wide_in_clause : Clause → Option ℕ
first_wide_in_clause c =
    option_or (wide_head_arity c.head (length c.arguments))
    (option_or (first_wide_in_terms (trees c.arguments)) (option_or (first_wide_in_collected c.collected) (option_or (first_wide_in_goals (goals c.part.guard)) (first_wide_in_goals (goals c.part.body)))))

-- ---- keys, and reserved heads

abbrev pub key : List ℕ → ℕ → Key
key s n = record { symbol = s; arity = n }

abbrev pub clause_key : Clause → Key
clause_key c = key_of c.head (length c.arguments)

abbrev pub is_reserved : Head → ℕ → Bool
is_reserved (heads.Named s) n = keys.is_reserved s n
is_reserved (heads.Lifted number inside) n = false

abbrev pub key_if_reserved : Clause → Option Key
key_if_reserved c = if is_reserved c.head (length c.arguments) then Some (clause_key c) else None

-- ---- operators of one definition, and of one inline choice

abbrev pub same_op : Op → Op → Bool
same_op ops.Condition ops.Condition = true
same_op ops.Commit ops.Commit = true
same_op ops.Choice ops.Choice = true
same_op ops.Collect ops.Collect = true
same_op _ _ = false

-- an earlier clause of the definition has another operator
abbrev pub mixed_definition : List Clause × Clause → Bool
mixed_definition x = list_any (λ d. not (same_op x.1.part.op d.part.op)) (own x.1 x.0)

-- some part has another operator
abbrev pub mixed_parts : Op → Parts → Bool
mixed_parts op no_parts = false
mixed_parts op (more_parts gs o hs ps) = not (same_op op o) || mixed_parts op ps

abbrev pub mixed_choice : Goal → Bool
mixed_choice (choice (more_parts gs op hs ps)) = mixed_parts op ps
mixed_choice g = false

abbrev pub key_if_mixed : List Clause × Clause → Option Key
key_if_mixed x = if mixed_definition x || list_any mixed_choice (goals_in x.1) then Some (clause_key x.1) else None

-- ---- goals without a definition

abbrev pub is_defined : List Callee → Goal → Bool
is_defined callees (call s ts) = is_some (reserved_of s (count ts)) || list_any (is_callee (named s (count ts))) callees
is_defined callees (lifted n ns) = list_any (is_callee (Lifted n (length ns))) callees
is_defined callees (lifted_collect n ns r) = list_any (is_callee (Collecting n (length ns))) callees
is_defined callees (choice ps) = true
is_defined callees (collect t gs r) = true

-- the key that a refusal names: a lifted definition has no symbol
abbrev pub goal_key : Goal → Key
goal_key (call s ts) = key s (count ts)
goal_key (lifted n ns) = key [] (length ns)
goal_key (lifted_collect n ns r) = key [] (length ns)
goal_key (choice ps) = key [] 0
goal_key (collect t gs r) = key [] 0

abbrev pub key_if_undefined : List Callee → Goal → Option Key
key_if_undefined callees g = if is_defined callees g then None else Some (goal_key g)
