-- The numbers of a whole clause or query are those of its variables.
use Rattle.std.proofs.Common.{◌≡◌, ℕ, ◌<◌, List, [], ◌∷◌, ◌++◌, map, replicate, None, refl, ap, ◌∙◌, arith, inl, inr}
use Rattle.std.proofs.lemmas.List.{get_or-replicate, length-replicate}
use Rattle.akl_lexemes.specs.Occurrences.{Occurs}
use Rattle.term_syntax.specs.Tree.{trees}
use Rattle.term_syntax.specs.Variables.{tree_variables, trees_variables}
use Rattle.akl_syntax.specs.Clauses.{Clause, Query}
use Rattle.akl_syntax.specs.Goals.{Goal, Goals, Parts, call, choice, lifted, collect, lifted_collect, no_goals, more_goals, no_parts, more_parts, goals}
use Rattle.akl_syntax.specs.Variables.{goal_variables, goals_variables, parts_variables, clause_variables, collected_variables, query_variables}
use Rattle.variable_scopes.specs.Numbering.{State, AreBelow, Numbered}
use Rattle.variable_scopes.specs.Scoped.{distinct, numbers_of, name_of, IsScopedClause, IsScopedQuery}
use Rattle.variable_scopes.specs.Shapes.{clause_shape, query_shape}
use Rattle.variable_scopes.specs.Spellings.{Spellings, nothing, spelling, collecting, both, all_of, goal_spellings, goals_spellings, parts_spellings, part_spellings, clause_spellings, query_spellings}
use Rattle.variable_scopes.specs.Variables.{Variable, variables_of}
use Rattle.variable_scopes.proofs.Going.{IsBelow, Goes, goes}
use Rattle.variable_scopes.proofs.Numbers.{below_left, below_right}

-- ---- what is below
all_of_below : (m : ℕ) (ns : List ℕ) → AreBelow m ns → IsBelow m (all_of ns)
all_of_below m [] b = tt
all_of_below m (n ∷ ns) b = (b.0, all_of_below m ns b.1)

both_below : (m : ℕ) (x y : Spellings) → IsBelow m x → IsBelow m y → IsBelow m (both x y)
both_below m nothing y b c = c
both_below m (spelling n x) y b c = (b.0, both_below m x y b.1 c)
both_below m (collecting ns i x) y b c = (b.0, b.1, both_below m x y b.2 c)

mutual
  goal_below : (m : ℕ) (g : Goal) → AreBelow m (goal_variables g) → IsBelow m (goal_spellings g)
  goal_below m (call s ts) b = all_of_below m (trees_variables ts) b
  goal_below m (choice ps) b = parts_below m ps b
  goal_below m (lifted n ns) b = all_of_below m ns b
  goal_below m (collect t gs r) b =
      let front = below_left m (tree_variables t) (goals_variables gs ++ tree_variables r) b in
      let rest = below_right m (tree_variables t) (goals_variables gs ++ tree_variables r) b in (
        front,
        both_below m (all_of (tree_variables t)) (goals_spellings gs) (all_of_below m (tree_variables t) front) (goals_below m gs (below_left m (goals_variables gs) (tree_variables r) rest)),
        all_of_below m (tree_variables r) (below_right m (goals_variables gs) (tree_variables r) rest),
      )
  goal_below m (lifted_collect n ns r) b =
      both_below m (all_of ns) (all_of (tree_variables r)) (all_of_below m ns (below_left m ns (tree_variables r) b)) (all_of_below m (tree_variables r) (below_right m ns (tree_variables r) b))

  goals_below : (m : ℕ) (gs : Goals) → AreBelow m (goals_variables gs) → IsBelow m (goals_spellings gs)
  goals_below m no_goals b = tt
  goals_below m (more_goals g gs) b = both_below m (goal_spellings g) (goals_spellings gs) (goal_below m g (below_left m (goal_variables g) (goals_variables gs) b)) (goals_below m gs (below_right m (goal_variables g) (goals_variables gs) b))

  parts_below : (m : ℕ) (ps : Parts) → AreBelow m (parts_variables ps) → IsBelow m (parts_spellings ps)
  parts_below m no_parts b = tt
  parts_below m (more_parts gs op hs ps) b =
      let front = below_left m (goals_variables gs ++ goals_variables hs) (parts_variables ps) b in
      both_below m (both (goals_spellings gs) (goals_spellings hs)) (parts_spellings ps)
      (both_below m (goals_spellings gs) (goals_spellings hs) (goals_below m gs (below_left m (goals_variables gs) (goals_variables hs) front)) (goals_below m hs (below_right m (goals_variables gs) (goals_variables hs) front)))
      (parts_below m ps (below_right m (goals_variables gs ++ goals_variables hs) (parts_variables ps) b))

clause_below : (m : ℕ) (c : Clause) → AreBelow m (clause_variables c) → IsBelow m (clause_spellings c)
clause_below m c b =
    let args = trees_variables (trees c.arguments) in
    let kept = collected_variables c.collected in
    let gs = goals_variables (goals c.part.guard) in
    let hs = goals_variables (goals c.part.body) in
    let rest = below_right m args (kept ++ (gs ++ hs)) b in
    let part = below_right m kept (gs ++ hs) rest in
    both_below m (all_of args) (both (all_of kept) (part_spellings c.part)) (all_of_below m args (below_left m args (kept ++ (gs ++ hs)) b))
    (both_below m (all_of kept) (part_spellings c.part) (all_of_below m kept (below_left m kept (gs ++ hs) rest))
    (both_below m (goals_spellings (goals c.part.guard)) (goals_spellings (goals c.part.body)) (goals_below m (goals c.part.guard) (below_left m gs hs part)) (goals_below m (goals c.part.body) (below_right m gs hs part))))

pub named_below : (m : ℕ) (ns : List ℕ) → ((n : ℕ) → Occurs n ns → n < m) → AreBelow m ns
named_below m [] h = tt
named_below m (n ∷ ns) h = (h n (inl refl), named_below m ns (λ k o. h k (inr o)))

-- ---- from no variables on
abbrev pub start : ℕ → State
start m = record { current = replicate m None; found = [] }

pub record AllNumbered (x : Spellings) (ns found : List ℕ) : Type 0 where
  pub numbers : ns ≡ numbers_of (variables_of x)
  pub spellings : found ≡ map (λ v. v.spelling) (distinct (variables_of x))

all_numbered : (m : ℕ) (x : Spellings) (ns : List ℕ) (t : State) → IsBelow m x → Numbered (start m) x ns t → AllNumbered x ns t.found
all_numbered m x ns t b n =
    let g : Goes m 1 [] [] (start m) x (distinct (variables_of x)) =
    goes x (record { size = length-replicate m None; found = refl; current = λ k l. get_or-replicate m k None None l }) (record { binders = λ k. omega arith; locals = λ v k e. absurd cc }) b in
    record { numbers = n.numbers_are ∙ g.given (distinct (variables_of x)) (λ v k e. e); spellings = ap (λ (z : State). z.found) n.state_is ∙ g.stands.found }

named_by : (names : List (List ℕ)) (vs : List Variable) → map (name_of names) (map (λ v. v.spelling) vs) ≡ map (λ v. name_of names v.spelling) vs
named_by names [] = refl
named_by names (v ∷ vs) = ap (λ (z : List (List ℕ)). name_of names v.spelling ∷ z) (named_by names vs)

pub clause_scoped : (m : ℕ) (c d : Clause) (t : State) → AreBelow m (clause_variables c) → clause_shape d ≡ clause_shape c → Numbered (start m) (clause_spellings c) (clause_variables d) t → d.names ≡ map (name_of c.names) t.found → IsScopedClause c d
clause_scoped m c d t b s n e =
    let a = all_numbered m (clause_spellings c) (clause_variables d) t (clause_below m c b) n in
    record { shape = s; variables = a.numbers; names = e ∙ ap (map (name_of c.names)) a.spellings ∙ named_by c.names (distinct (variables_of (clause_spellings c))) }

pub query_scoped : (m : ℕ) (q r : Query) (t : State) → AreBelow m (query_variables q) → query_shape r ≡ query_shape q → Numbered (start m) (query_spellings q) (query_variables r) t → r.names ≡ map (name_of q.names) t.found → IsScopedQuery q r
query_scoped m q r t b s n e =
    let a = all_numbered m (query_spellings q) (query_variables r) t (goals_below m (goals q.goals) b) n in
    record { shape = s; variables = a.numbers; names = e ∙ ap (map (name_of q.names)) a.spellings ∙ named_by q.names (distinct (variables_of (query_spellings q))) }
