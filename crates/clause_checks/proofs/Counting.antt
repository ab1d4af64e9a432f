-- How many arguments and parts there are, and that sizes bound them.
use Rattle.std.proofs.Common.{◌≡◌, ◌≤◌, ℕ, suc, List, [], ◌∷◌, length, map, refl, sym, ap, ◌∙◌, arith, Vec, Global}
use Rattle.std.proofs.lemmas.List.{length-map}
use Rattle.term_syntax.specs.Tree.{Tree, Trees, variable, integer, compound, list, chain, trees, no_trees, more_trees}
use Rattle.term_syntax.specs.View.{tree}
use Rattle.akl_syntax.specs.Goals.{Goal, Part, call, lifted, lifted_collect, parts}
use Rattle.akl_syntax.specs.GoalView.{goal, goal_step, part_step}
use Rattle.akl_syntax.specs.Sizes.{goal_size}
use Rattle.term_syntax.specs.Sizes.{tree_size, trees_size}
use Rattle.term_syntax.specs.declared.source.SourceTerm.{SourceTerm}
use Rattle.akl_syntax.specs.declared.source.SourceGoal.{SourceGoal}
use Rattle.akl_syntax.specs.declared.source.SourceGoal.TheVariants as written
use Rattle.akl_syntax.specs.declared.source.SourceGoal.TheOpen as open_goals
use Rattle.akl_syntax.specs.declared.source.SourceGoal.TheFolds.{fold-roll-SourceGoal}
use Rattle.akl_syntax.proofs.TestGoals.{goal_call}
use Rattle.clause_keys.specs.Conditions.{count, count_parts}

pub count_trees : (ts : List Tree) → count (trees ts) ≡ length ts
count_trees [] = refl
count_trees (t ∷ ts) = ap suc (count_trees ts)

pub parts_counted : (ps : List Part) → count_parts (parts ps) ≡ length ps
parts_counted [] = refl
parts_counted (p ∷ ps) = ap suc (parts_counted ps)

one_at_least : (t : Tree) → 1 ≤ tree_size t
one_at_least (variable n) = omega arith
one_at_least (integer z) = omega arith
one_at_least (compound s ts) = omega arith
one_at_least (list ts e) = omega arith
one_at_least (chain t ss) = omega arith

pub count_bound : (ts : Trees) → count ts ≤ trees_size ts
count_bound no_trees = omega arith
count_bound (more_trees t ts) = omega (arith, one_at_least t, count_bound ts)

pub call_is : (g : SourceGoal) (s : List ℕ) (v : Vec SourceTerm Global) → g ≡ written.Call s v → goal g ≡ call s (trees (map tree v.items))
call_is g s v e = rw e (goal_call s v)

pub lifted_is : (n : ℕ) (v : Vec ℕ Global) → goal (written.Lifted n v) ≡ lifted n v.items
lifted_is n v = ap goal (sym (written.rolls-Lifted n v)) ∙ fold-roll-SourceGoal Goal Part goal_step part_step (open_goals.Lifted n v)

pub call_count : (v : Vec SourceTerm Global) → count (trees (map tree v.items)) ≡ length v.items
call_count v = count_trees (map tree v.items) ∙ length-map v.items tree

pub call_bound : (g : SourceGoal) (s : List ℕ) (v : Vec SourceTerm Global) (n : ℕ) → g ≡ written.Call s v → goal_size (goal g) ≤ n → length v.items ≤ n
call_bound g s v n e h =
    let k : goal_size (call s (trees (map tree v.items))) ≤ n = rw (call_is g s v e) at h in
    omega (arith, k, count_bound (trees (map tree v.items)), call_count v)

pub lifted_bound : (g : SourceGoal) (m : ℕ) (v : Vec ℕ Global) (n : ℕ) → g ≡ written.Lifted m v → goal_size (goal g) ≤ n → length v.items ≤ n
lifted_bound g m v n e h = (let k : goal_size (lifted m v.items) ≤ n = rw (ap goal e ∙ lifted_is m v) at h in omega (arith, k))

pub lifted_collect_is : (n : ℕ) (v : Vec ℕ Global) (r : SourceTerm) → goal (written.LiftedCollect n v r) ≡ lifted_collect n v.items (tree r)
lifted_collect_is n v r = ap goal (sym (written.rolls-LiftedCollect n v r)) ∙ fold-roll-SourceGoal Goal Part goal_step part_step (open_goals.LiftedCollect n v r)

pub lifted_collect_bound : (g : SourceGoal) (m : ℕ) (v : Vec ℕ Global) (r : SourceTerm) (n : ℕ) → g ≡ written.LiftedCollect m v r → goal_size (goal g) ≤ n → length v.items ≤ n
lifted_collect_bound g m v r n e h = (let k : goal_size (lifted_collect m v.items (tree r)) ≤ n = rw (ap goal e ∙ lifted_collect_is m v r) at h in omega (arith, k))
