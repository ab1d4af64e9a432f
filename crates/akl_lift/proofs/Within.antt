-- Goals and parts are no larger than the lists in which they stand.
use Rattle.std.proofs.Common.{◌≡◌, ℕ, zero, suc, ◌+◌, ◌<◌, ◌≤◌, List, [], ◌∷◌, length, map, get_or, ap, arith}
use Rattle.akl_syntax.specs.Goals.{goals, parts}
use Rattle.akl_syntax.specs.GoalView.{goal, part}
use Rattle.akl_syntax.specs.Sizes.{goal_size, goals_size, parts_size}
use Rattle.akl_syntax.specs.declared.source.SourceGoal.{SourceGoal}
use Rattle.akl_syntax.specs.declared.source.SourcePart.{SourcePart}
use Rattle.akl_syntax.proofs.PartTurns.{part_is}

pub goal_within : (xs : List SourceGoal) (i : ℕ) (x : SourceGoal) → i < length xs → x ≡ get_or xs i x → goal_size (goal x) ≤ goals_size (goals (map goal xs))
goal_within [] i x h e = absurd (omega (arith, h))
goal_within (y ∷ xs) zero x h e = omega (arith, ap (λ z. goal_size (goal z)) e)
goal_within (y ∷ xs) (suc i) x h e = omega (arith, goal_within xs i x (omega (arith, h)) e)

abbrev pub part_weight : SourcePart → ℕ
part_weight x = goals_size (goals (map goal x.guard.items)) + goals_size (goals (map goal x.body.items))

parts_weight : (y : SourcePart) (xs : List SourcePart) → parts_size (parts (map part (y ∷ xs))) ≡ part_weight y + parts_size (parts (map part xs))
parts_weight y xs = ap (λ p. parts_size (parts (p ∷ map part xs))) (part_is y)

pub part_within : (xs : List SourcePart) (i : ℕ) (x : SourcePart) → i < length xs → x ≡ get_or xs i x → part_weight x ≤ parts_size (parts (map part xs))
part_within [] i x h e = absurd (omega (arith, h))
part_within (y ∷ xs) zero x h e = omega (arith, parts_weight y xs, ap part_weight e)
part_within (y ∷ xs) (suc i) x h e = omega (arith, parts_weight y xs, part_within xs i x (omega (arith, h)) e)
