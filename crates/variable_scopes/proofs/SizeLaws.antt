-- What is scoped is as large as what was read.
use Rattle.std.proofs.Common.{◌≡◌, ℕ, suc, List, [], ◌∷◌, length, map, Option, Some, None, refl, sym, ap, ◌∙◌, arith}
use Rattle.term_syntax.specs.Sizes.{tree_size, trees_size, tail_size, steps_size}
use Rattle.term_syntax.specs.Tree.{Tree, Trees, Tail, Steps, variable, integer, compound, list, chain, no_trees, more_trees, no_tail, tail, no_steps, more_steps, trees}
use Rattle.akl_syntax.specs.Clauses.{Clause, Query}
use Rattle.akl_syntax.specs.Goals.{Goal, Goals, Parts, call, choice, lifted, collect, lifted_collect, no_goals, more_goals, no_parts, more_parts, goals}
use Rattle.akl_syntax.specs.Sizes.{goal_size, goals_size, parts_size, collected_size, clause_size, clauses_size, query_size}
use Rattle.variable_scopes.specs.Scoped.{IsScopedClause, AreScoped, IsScopedQuery}
use Rattle.variable_scopes.specs.Shapes.{numbers_shape, tree_shape, trees_shape, tail_shape, steps_shape, goal_shape, goals_shape, parts_shape, collected_shape, clause_shape}

mutual
  tree_same : (t : Tree) → tree_size (tree_shape t) ≡ tree_size t
  tree_same (variable n) = refl
  tree_same (integer z) = refl
  tree_same (compound s ts) = ap suc (trees_same ts)
  tree_same (list ts e) = omega (arith, trees_same ts, tail_same e)
  tree_same (chain t ss) = omega (arith, tree_same t, steps_same ss)

  trees_same : (ts : Trees) → trees_size (trees_shape ts) ≡ trees_size ts
  trees_same no_trees = refl
  trees_same (more_trees t ts) = omega (arith, tree_same t, trees_same ts)

  tail_same : (e : Tail) → tail_size (tail_shape e) ≡ tail_size e
  tail_same no_tail = refl
  tail_same (tail t) = tree_same t

  steps_same : (ss : Steps) → steps_size (steps_shape ss) ≡ steps_size ss
  steps_same no_steps = refl
  steps_same (more_steps w t ss) = omega (arith, tree_same t, steps_same ss)

length-shape : (ns : List ℕ) → length (numbers_shape ns) ≡ length ns
length-shape [] = refl
length-shape (n ∷ ns) = ap suc (length-shape ns)

mutual
  goal_same : (g : Goal) → goal_size (goal_shape g) ≡ goal_size g
  goal_same (call s ts) = ap suc (trees_same ts)
  goal_same (choice ps) = ap suc (parts_same ps)
  goal_same (lifted n ns) = ap suc (length-shape ns)
  goal_same (collect t gs r) = omega (arith, tree_same t, goals_same gs, tree_same r)
  goal_same (lifted_collect n ns r) = omega (arith, length-shape ns, tree_same r)

  goals_same : (gs : Goals) → goals_size (goals_shape gs) ≡ goals_size gs
  goals_same no_goals = refl
  goals_same (more_goals g gs) = omega (arith, goal_same g, goals_same gs)

  parts_same : (ps : Parts) → parts_size (parts_shape ps) ≡ parts_size ps
  parts_same no_parts = refl
  parts_same (more_parts gs op hs ps) = omega (arith, goals_same gs, goals_same hs, parts_same ps)

shaped_trees : (ts : List Tree) → trees_size (trees (map tree_shape ts)) ≡ trees_size (trees ts)
shaped_trees [] = refl
shaped_trees (t ∷ ts) = omega (arith, tree_same t, shaped_trees ts)

shaped_goals : (gs : List Goal) → goals_size (goals (map goal_shape gs)) ≡ goals_size (goals gs)
shaped_goals [] = refl
shaped_goals (g ∷ gs) = omega (arith, goal_same g, shaped_goals gs)

shaped_collected : (o : Option Tree) → collected_size (collected_shape o) ≡ collected_size o
shaped_collected None = refl
shaped_collected (Some t) = tree_same t

shaped_clause : (c : Clause) → clause_size (clause_shape c) ≡ clause_size c
shaped_clause c = omega (arith, shaped_trees c.arguments, shaped_collected c.collected, shaped_goals c.part.guard, shaped_goals c.part.body)

pub scoped_size : {c d : Clause} → IsScopedClause c d → clause_size d ≡ clause_size c
scoped_size {c} {d} s = sym (shaped_clause d) ∙ ap clause_size s.shape ∙ shaped_clause c

pub all_scoped_size : (cs ds : List Clause) → AreScoped cs ds → clauses_size ds ≡ clauses_size cs
all_scoped_size [] [] s = refl
all_scoped_size [] (d ∷ ds) s = absurd s
all_scoped_size (c ∷ cs) [] s = absurd s
all_scoped_size (c ∷ cs) (d ∷ ds) s = omega (arith, scoped_size s.0, all_scoped_size cs ds s.1)

pub query_scoped_size : {q r : Query} → IsScopedQuery q r → query_size r ≡ query_size q
query_scoped_size {q} {r} s = sym (shaped_goals r.goals) ∙ ap query_size s.shape ∙ shaped_goals q.goals
