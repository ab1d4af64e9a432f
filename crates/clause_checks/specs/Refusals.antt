-- Why a program or a query isn't loaded: the tests in their order.
use Rattle.std.specs.Prelude.{◌≡◌, ℕ, List, [], length, map, codes, Option, Some, None, option_map, if◌then◌else◌, Result, Ok, Err, ⊤}
use Rattle.std.specs.List.{list_any}
use Rattle.std.specs.Option.{option_or}
use Rattle.akl_terms.specs.declared.program.Program.{Program}
use Rattle.akl_syntax.specs.Goals.{Goal, Goals, goals}
use Rattle.akl_syntax.specs.Clauses.{Clause, Query}
use Rattle.clause_keys.specs.declared.callee.Callee.{Callee}
use Rattle.clause_keys.specs.Keys.{defined_by, called_by}
use Rattle.clause_checks.specs.declared.error.Limit.{Limit}
use Rattle.clause_checks.specs.declared.error.Limit.TheVariants.{Clauses, PerDefinition, Variables, Arity}
use Rattle.clause_checks.specs.declared.error.LoadError.{LoadError}
use Rattle.clause_checks.specs.declared.error.LoadError.TheVariants.{MixedGuards, Undefined, Reserved, TooMany, Memory}
use Rattle.clause_checks.specs.Within.{goals_in, goals_asked}
use Rattle.clause_checks.specs.Rows.{first, above, with_before, too_many_parts, first_crowded_in_clause, first_wide_in_goals, first_wide_in_clause, key_if_reserved, mixed_choice, key_if_mixed, key_if_undefined, key}

abbrev pub too_many : Limit → Option ℕ → Option LoadError
too_many what n = option_map (λ count. TooMany what count) n

-- the tests of clauses, but for that of how many there are
abbrev pub crowded_refusal : List Clause → Option LoadError
crowded_refusal cs = too_many PerDefinition (first (first_crowded_in_clause cs) (with_before [] cs))

abbrev pub variables_refusal : List Clause → Option LoadError
variables_refusal cs = too_many Variables (first (λ c. above 256 (length c.names)) cs)

abbrev pub wide_refusal : List Clause → Option LoadError
wide_refusal cs = too_many Arity (first first_wide_in_clause cs)

abbrev pub reserved_refusal : List Clause → Option LoadError
reserved_refusal cs = option_map Reserved (first key_if_reserved cs)

abbrev pub mixed_refusal : List Clause → Option LoadError
mixed_refusal cs = option_map MixedGuards (first key_if_mixed (with_before [] cs))

-- by what the clauses may call
abbrev pub undefined_refusal : List Callee → List Clause → Option LoadError
undefined_refusal callees cs = option_map Undefined (first (λ c. first (key_if_undefined callees) (goals_in c)) cs)

-- why clauses aren't loaded, of which there aren't too many
unfoldable pub refusal_of_few : List Clause → Option LoadError
refusal_of_few cs =
    option_or (crowded_refusal cs) (option_or (variables_refusal cs) (option_or (wide_refusal cs) (option_or (reserved_refusal cs) (option_or (mixed_refusal cs) (undefined_refusal (map defined_by cs) cs)))))

-- why clauses aren't loaded, where they aren't
unfoldable pub refusal_of : List Clause → Option LoadError
refusal_of cs = option_or (too_many Clauses (above 10000 (length cs))) (refusal_of_few cs)

-- the tests of goals, those inside of others too
abbrev pub parts_refusal : List Goal → Option LoadError
parts_refusal gs = too_many PerDefinition (first too_many_parts gs)

-- of so many variables
abbrev pub names_refusal : ℕ → Option LoadError
names_refusal variables = too_many Variables (above 256 variables)

abbrev pub wide_goals_refusal : Goals → Option LoadError
wide_goals_refusal gs = too_many Arity (first_wide_in_goals gs)

abbrev pub mixed_goals_refusal : List Goal → Option LoadError
mixed_goals_refusal gs = if list_any mixed_choice gs then Some (MixedGuards (key (codes "") 0)) else None

abbrev pub undefined_goals_refusal : List Callee → List Goal → Option LoadError
undefined_goals_refusal callees gs = option_map Undefined (first (key_if_undefined callees) gs)

-- why goals with so many variables aren't loaded over these callees, where they aren't; the second are these and those inside of them
unfoldable pub goals_refusal : List Callee → ℕ → Goals → List Goal → Option LoadError
goals_refusal callees variables asked gs = option_or (parts_refusal gs) (option_or (names_refusal variables) (option_or (wide_goals_refusal asked) (option_or (mixed_goals_refusal gs) (undefined_goals_refusal callees gs))))

-- why a query isn't loaded over a program, where it isn't
unfoldable pub query_refusal_of : Program → Query → Option LoadError
query_refusal_of p q = goals_refusal (map called_by p.definitions) (length q.names) (goals q.goals) (goals_asked q)

-- the answer is this refusal, or none where there is none; want of memory is free
abbrev pub Answers : Option LoadError → Result (Unit {0}) LoadError → Type 0
Answers refusal (Ok _) = refusal ≡ None
Answers refusal (Err (Memory e)) = ⊤
Answers refusal (Err e) = refusal ≡ Some e
