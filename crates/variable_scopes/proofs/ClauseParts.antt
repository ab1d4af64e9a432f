-- A clause, a guard and a body, part by part.
use Rattle.std.proofs.Common.{◌≡◌, ℕ, List, [], ◌∷◌, ◌++◌, map, true, refl, ap, subst}
use Rattle.term_syntax.specs.Tree.{Tree, trees}
use Rattle.akl_syntax.specs.Clauses.{Clause, Query}
use Rattle.akl_syntax.specs.Goals.{Goal, goals}
use Rattle.akl_syntax.specs.GoalView.{goal, part}
use Rattle.akl_syntax.specs.Variables.{goals_variables}
use Rattle.akl_syntax.specs.declared.source.SourcePart.{SourcePart}
use Rattle.akl_syntax.proofs.PartTurns.{part_is}
use Rattle.variable_scopes.specs.Numbering.{State, AreBelow, Numbered, part_variables}
use Rattle.variable_scopes.specs.Shapes.{tree_shape, trees_shape, goal_shape, goals_shape, part_shape, collected_shape, clause_shape, query_shape}
use Rattle.variable_scopes.specs.Spellings.{goals_spellings, part_spellings}
use Rattle.variable_scopes.proofs.Lists.{subst_numbered}
use Rattle.variable_scopes.proofs.Numbers.{numbered_both, below_left, below_right}

-- ---- lists of one shape
pub same_trees : (ts us : List Tree) → trees_shape (trees ts) ≡ trees_shape (trees us) → map tree_shape ts ≡ map tree_shape us
same_trees [] [] e = refl
same_trees [] (u ∷ us) e = absurd cc
same_trees (t ∷ ts) [] e = absurd cc
same_trees (t ∷ ts) (u ∷ us) e =
    let rest : trees_shape (trees ts) ≡ trees_shape (trees us) = cc in
    let first : tree_shape t ≡ tree_shape u = cc in
    let more : map tree_shape ts ≡ map tree_shape us = same_trees ts us rest in
    cc

pub same_goals : (gs hs : List Goal) → goals_shape (goals gs) ≡ goals_shape (goals hs) → map goal_shape gs ≡ map goal_shape hs
same_goals [] [] e = refl
same_goals [] (h ∷ hs) e = absurd cc
same_goals (g ∷ gs) [] e = absurd cc
same_goals (g ∷ gs) (h ∷ hs) e =
    let rest : goals_shape (goals gs) ≡ goals_shape (goals hs) = cc in
    let first : goal_shape g ≡ goal_shape h = cc in
    let more : map goal_shape gs ≡ map goal_shape hs = same_goals gs hs rest in
    cc

-- ---- guards and bodies
part_holds_both : (p : SourcePart) → part_variables (part p) ≡ goals_variables (goals (map goal p.guard.items)) ++ goals_variables (goals (map goal p.body.items))
part_holds_both p = ap part_variables (part_is p)

pub guard_below : (m : ℕ) (p : SourcePart) → AreBelow m (part_variables (part p)) → AreBelow m (goals_variables (goals (map goal p.guard.items)))
guard_below m p b = below_left m (goals_variables (goals (map goal p.guard.items))) (goals_variables (goals (map goal p.body.items))) (subst (AreBelow m) (part_holds_both p) b)

pub body_below : (m : ℕ) (p : SourcePart) → AreBelow m (part_variables (part p)) → AreBelow m (goals_variables (goals (map goal p.body.items)))
body_below m p b = below_right m (goals_variables (goals (map goal p.guard.items))) (goals_variables (goals (map goal p.body.items))) (subst (AreBelow m) (part_holds_both p) b)

pub part_numbers : {s t u : State} (p q : SourcePart) → Numbered s (goals_spellings (goals (map goal p.guard.items))) (goals_variables (goals (map goal q.guard.items))) t
    → Numbered t (goals_spellings (goals (map goal p.body.items))) (goals_variables (goals (map goal q.body.items))) u → Numbered s (part_spellings (part p)) (part_variables (part q)) u
part_numbers p q a b = subst_numbered (ap part_spellings (part_is p)) (part_holds_both q) (numbered_both a b)

pub same_part : (p q : SourcePart) → goals_shape (goals (map goal q.guard.items)) ≡ goals_shape (goals (map goal p.guard.items)) → q.op ≡ p.op → goals_shape (goals (map goal q.body.items)) ≡ goals_shape (goals (map goal p.body.items))
    → part_shape (part q) ≡ part_shape (part p)
same_part p q e f g =
    let guard : map goal_shape (map goal q.guard.items) ≡ map goal_shape (map goal p.guard.items) = same_goals (map goal q.guard.items) (map goal p.guard.items) e in
    let body : map goal_shape (map goal q.body.items) ≡ map goal_shape (map goal p.body.items) = same_goals (map goal q.body.items) (map goal p.body.items) g in
    let at_q : part_shape (part q) ≡ record { guard = map goal_shape (map goal q.guard.items); op = q.op; body = map goal_shape (map goal q.body.items); is_written = true } = ap part_shape (part_is q) in
    let at_p : part_shape (part p) ≡ record { guard = map goal_shape (map goal p.guard.items); op = p.op; body = map goal_shape (map goal p.body.items); is_written = true } = ap part_shape (part_is p) in
    cc

-- ---- clauses
pub same_clause : (c d : Clause) → d.head ≡ c.head → map tree_shape d.arguments ≡ map tree_shape c.arguments → collected_shape d.collected ≡ collected_shape c.collected → part_shape d.part ≡ part_shape c.part → d.start ≡ c.start
    → clause_shape d ≡ clause_shape c
same_clause c d e f g h i = cc

pub same_query : (q r : Query) → map goal_shape r.goals ≡ map goal_shape q.goals → query_shape r ≡ query_shape q
same_query q r e = cc
