-- Whether goals and clauses are whole is told by their shapes, without the numbers of their variables.
use Rattle.std.proofs.Common.{◌≡◌, List, [], ◌∷◌, map, Option, None, Some, sym, ap, subst, ◌∙◌}
use Rattle.term_syntax.specs.Tree.{Tree}
use Rattle.akl_syntax.specs.Goals.{Goal, Goals, Parts, call, choice, lifted, collect, lifted_collect, no_goals, more_goals, no_parts, more_parts, goals}
use Rattle.akl_syntax.specs.Clauses.{Clause, Query}
use Rattle.clause_keys.specs.Conditions.{IsGuard}
use Rattle.akl_lift.specs.Whole.{HasGoal, HasPart, IsWhole, AreWhole, HaveGoals, IsNamed, IsRead, AreRead}
use Rattle.variable_scopes.specs.Scoped.{IsScopedClause, AreScoped, IsScopedQuery}
use Rattle.variable_scopes.specs.Shapes.{goal_shape, goals_shape, parts_shape, collected_shape}
use Rattle.variable_scopes.proofs.Numbered.{scoped_head, scoped_operator}
use Rattle.variable_scopes.proofs.OneForm.{same_goals_shape}

-- ---- from goals to their shapes
goal_to_shape : (gs : Goals) → HasGoal gs → HasGoal (goals_shape gs)
goal_to_shape no_goals h = h
goal_to_shape (more_goals g gs) h = h

part_to_shape : (ps : Parts) → HasPart ps → HasPart (parts_shape ps)
part_to_shape no_parts h = h
part_to_shape (more_parts gs op hs ps) h = h

mutual
  whole_to_shape : (g : Goal) → IsWhole g → IsWhole (goal_shape g)
  whole_to_shape (call s ts) w = tt
  whole_to_shape (choice ps) w = (part_to_shape ps w.0, have_to_shape ps w.1)
  whole_to_shape (lifted n ns) w = tt
  whole_to_shape (collect t gs r) w = all_to_shape gs w
  whole_to_shape (lifted_collect n ns r) w = tt

  all_to_shape : (gs : Goals) → AreWhole gs → AreWhole (goals_shape gs)
  all_to_shape no_goals w = tt
  all_to_shape (more_goals g gs) w = (whole_to_shape g w.0, all_to_shape gs w.1)

  have_to_shape : (ps : Parts) → HaveGoals ps → HaveGoals (parts_shape ps)
  have_to_shape no_parts w = tt
  have_to_shape (more_parts gs op hs ps) w = (goal_to_shape hs w.0, all_to_shape gs w.1, all_to_shape hs w.2, have_to_shape ps w.3, w.4)

-- ---- and back
goal_of_shape : (gs : Goals) → HasGoal (goals_shape gs) → HasGoal gs
goal_of_shape no_goals h = h
goal_of_shape (more_goals g gs) h = h

part_of_shape : (ps : Parts) → HasPart (parts_shape ps) → HasPart ps
part_of_shape no_parts h = h
part_of_shape (more_parts gs op hs ps) h = h

mutual
  whole_of_shape : (g : Goal) → IsWhole (goal_shape g) → IsWhole g
  whole_of_shape (call s ts) w = tt
  whole_of_shape (choice ps) w = (part_of_shape ps w.0, have_of_shape ps w.1)
  whole_of_shape (lifted n ns) w = tt
  whole_of_shape (collect t gs r) w = all_of_shape gs w
  whole_of_shape (lifted_collect n ns r) w = tt

  all_of_shape : (gs : Goals) → AreWhole (goals_shape gs) → AreWhole gs
  all_of_shape no_goals w = tt
  all_of_shape (more_goals g gs) w = (whole_of_shape g w.0, all_of_shape gs w.1)

  have_of_shape : (ps : Parts) → HaveGoals (parts_shape ps) → HaveGoals ps
  have_of_shape no_parts w = tt
  have_of_shape (more_parts gs op hs ps) w = (goal_of_shape hs w.0, all_of_shape gs w.1, all_of_shape hs w.2, have_of_shape ps w.3, w.4)

whole_alike : (gs hs : List Goal) → map goal_shape gs ≡ map goal_shape hs → AreWhole (goals hs) → AreWhole (goals gs)
whole_alike gs hs e w = all_of_shape (goals gs) (subst AreWhole (sym (same_goals_shape gs hs e)) (all_to_shape (goals hs) w))

-- ---- clauses and queries with their variables by their scopes
none_of_shape : (o : Option Tree) → collected_shape o ≡ None → o ≡ None
none_of_shape None e = e
none_of_shape (Some t) e = absurd cc

scoped_clause_read : {c d : Clause} → IsScopedClause c d → IsRead c → IsRead d
scoped_clause_read {c} {d} x r = record {
  head = subst IsNamed (sym (scoped_head x)) r.head;
  guard = whole_alike d.part.guard c.part.guard (ap (λ (z : Clause). z.part.guard) x.shape) r.guard;
  body = whole_alike d.part.body c.part.body (ap (λ (z : Clause). z.part.body) x.shape) r.body;
  op = subst IsGuard (sym (scoped_operator x)) r.op;
  collected = none_of_shape d.collected (ap (λ (z : Clause). z.collected) x.shape ∙ ap collected_shape r.collected);
}

pub scoped_read : (cs ds : List Clause) → AreScoped cs ds → AreRead cs → AreRead ds
scoped_read [] [] x r = tt
scoped_read [] (d ∷ ds) x r = absurd x
scoped_read (c ∷ cs) [] x r = absurd x
scoped_read (c ∷ cs) (d ∷ ds) x r = (scoped_clause_read x.0 r.0, scoped_read cs ds x.1 r.1)

pub scoped_query_whole : {q r : Query} → IsScopedQuery q r → AreWhole (goals q.goals) → AreWhole (goals r.goals)
scoped_query_whole {q} {r} x w = whole_alike r.goals q.goals (ap (λ (z : Query). z.goals) x.shape) w
