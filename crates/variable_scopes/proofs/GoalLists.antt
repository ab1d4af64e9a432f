-- Lists of goals and of parts, element by element.
use Rattle.std.proofs.Common.{◌≡◌, ℕ, ◌+◌, ◌<◌, ◌≤◌, List, [], ◌∷◌, ◌++◌, length, map, drop, get_or, refl, sym, ap, subst, ◌∙◌}
use Rattle.akl_terms.specs.declared.program.Op.{Op}
use Rattle.akl_syntax.specs.declared.source.SourceGoal.{SourceGoal}
use Rattle.akl_syntax.specs.declared.source.SourcePart.{SourcePart}
use Rattle.akl_syntax.specs.Goals.{Goal, Goals, Part, Parts, more_goals, no_parts, more_parts, goals, parts}
use Rattle.akl_syntax.specs.GoalView.{goal, part}
use Rattle.akl_syntax.specs.Sizes.{goal_size, goals_size, parts_size}
use Rattle.akl_syntax.specs.Variables.{goal_variables, goals_variables, parts_variables}
use Rattle.variable_scopes.specs.Numbering.{State, AreBelow, Numbered}
use Rattle.variable_scopes.specs.Shapes.{goal_shape, goals_shape, parts_shape}
use Rattle.variable_scopes.specs.Spellings.{Spellings, both, goal_spellings, goals_spellings, parts_spellings}
use Rattle.akl_syntax.proofs.PartTurns.{part_is}
use Rattle.variable_scopes.proofs.Numbers.{all_spell, all_hold, Going, going_end, all_numbered, all_shaped}
use Rattle.variable_scopes.proofs.Lists.{subst_numbered, part_of_all}

-- ---- goals
abbrev pub one_spells : SourceGoal → Spellings
one_spells g = goal_spellings (goal g)

abbrev pub one_holds : SourceGoal → List ℕ
one_holds g = goal_variables (goal g)

abbrev pub one_shapes : SourceGoal → Goal
one_shapes g = goal_shape (goal g)

spell_goals : (gs : List SourceGoal) → goals_spellings (goals (map goal gs)) ≡ all_spell one_spells one_holds one_shapes gs
spell_goals [] = refl
spell_goals (g ∷ gs) = ap (both (one_spells g)) (spell_goals gs)

hold_goals : (gs : List SourceGoal) → goals_variables (goals (map goal gs)) ≡ all_hold one_spells one_holds one_shapes gs
hold_goals [] = refl
hold_goals (g ∷ gs) = ap (λ (z : List ℕ). goal_variables (goal g) ++ z) (hold_goals gs)

shape_goals : (gs : List SourceGoal) → goals_shape (goals (map goal gs)) ≡ goals (map one_shapes gs)
shape_goals [] = refl
shape_goals (g ∷ gs) = ap (λ (z : Goals). more_goals (one_shapes g) z) (shape_goals gs)

pub goals_below : (m : ℕ) (gs : List SourceGoal) → AreBelow m (goals_variables (goals (map goal gs))) → AreBelow m (all_hold one_spells one_holds one_shapes gs)
goals_below m gs b = subst (AreBelow m) (hold_goals gs) b

abbrev pub GoalsGoing : State → List SourceGoal → State → List SourceGoal → List SourceGoal → Type 0
GoalsGoing = Going one_spells one_holds one_shapes

pub goals_shaped : {s t : State} {now : List SourceGoal} (old : List SourceGoal) (i : ℕ) → length old ≤ i → GoalsGoing s old t now (drop i old) → goals_shape (goals (map goal now)) ≡ goals_shape (goals (map goal old))
goals_shaped {now = now} old i h g = shape_goals now ∙ ap goals (all_shaped one_spells one_holds one_shapes (going_end one_spells one_holds one_shapes old i h g)) ∙ sym (shape_goals old)

pub goals_done : {s t : State} {now : List SourceGoal} (old : List SourceGoal) (i : ℕ) → length old ≤ i → GoalsGoing s old t now (drop i old) → Numbered s (goals_spellings (goals (map goal old))) (goals_variables (goals (map goal now))) t
goals_done {now = now} old i h g = subst_numbered (spell_goals old) (hold_goals now) (all_numbered one_spells one_holds one_shapes (going_end one_spells one_holds one_shapes old i h g))

pub goal_in_all : (gs : List SourceGoal) (i : ℕ) (g : SourceGoal) → i < length gs → g ≡ get_or gs i g → goal_size (goal g) ≤ goals_size (goals (map goal gs))
goal_in_all gs i g h e = part_of_all (λ x. goal_size (goal x)) (λ xs. goals_size (goals (map goal xs))) (λ x xs. refl) gs i g h e

-- ---- parts
abbrev pub part_spells : SourcePart → Spellings
part_spells p = both (goals_spellings (goals (map goal p.guard.items))) (goals_spellings (goals (map goal p.body.items)))

abbrev pub part_holds : SourcePart → List ℕ
part_holds p = goals_variables (goals (map goal p.guard.items)) ++ goals_variables (goals (map goal p.body.items))

abbrev pub part_shapes : SourcePart → Goals × Op × Goals
part_shapes p = (goals_shape (goals (map goal p.guard.items)), p.op, goals_shape (goals (map goal p.body.items)))

abbrev pub as_parts : List (Goals × Op × Goals) → Parts
as_parts [] = no_parts
as_parts (x ∷ xs) = more_parts x.0 x.1 x.2 (as_parts xs)

pub same_shapes : {gs hs gs' hs' : Goals} {op op' : Op} → gs ≡ gs' → op ≡ op' → hs ≡ hs' → ◌≡◌ {A = Goals × Op × Goals} (gs, op, hs) (gs', op', hs')
same_shapes e f g = cc

spell_parts : (ps : List SourcePart) → parts_spellings (parts (map part ps)) ≡ all_spell part_spells part_holds part_shapes ps
spell_parts [] = refl
spell_parts (p ∷ ps) = ap (λ (z : Part). both (both (goals_spellings (goals z.guard)) (goals_spellings (goals z.body))) (parts_spellings (parts (map part ps)))) (part_is p) ∙ ap (both (part_spells p)) (spell_parts ps)

hold_parts : (ps : List SourcePart) → parts_variables (parts (map part ps)) ≡ all_hold part_spells part_holds part_shapes ps
hold_parts [] = refl
hold_parts (p ∷ ps) = ap (λ (z : Part). (goals_variables (goals z.guard) ++ goals_variables (goals z.body)) ++ parts_variables (parts (map part ps))) (part_is p) ∙ ap (λ (z : List ℕ). part_holds p ++ z) (hold_parts ps)

shape_parts : (ps : List SourcePart) → parts_shape (parts (map part ps)) ≡ as_parts (map part_shapes ps)
shape_parts [] = refl
shape_parts (p ∷ ps) =
    ap (λ (z : Part). more_parts (goals_shape (goals z.guard)) z.op (goals_shape (goals z.body)) (parts_shape (parts (map part ps)))) (part_is p)
    ∙ ap (λ (z : Parts). more_parts (goals_shape (goals (map goal p.guard.items))) p.op (goals_shape (goals (map goal p.body.items))) z) (shape_parts ps)

pub parts_below : (m : ℕ) (ps : List SourcePart) → AreBelow m (parts_variables (parts (map part ps))) → AreBelow m (all_hold part_spells part_holds part_shapes ps)
parts_below m ps b = subst (AreBelow m) (hold_parts ps) b

abbrev pub PartsGoing : State → List SourcePart → State → List SourcePart → List SourcePart → Type 0
PartsGoing = Going part_spells part_holds part_shapes

pub parts_shaped : {s t : State} {now : List SourcePart} (old : List SourcePart) (i : ℕ) → length old ≤ i → PartsGoing s old t now (drop i old) → parts_shape (parts (map part now)) ≡ parts_shape (parts (map part old))
parts_shaped {now = now} old i h g = shape_parts now ∙ ap as_parts (all_shaped part_spells part_holds part_shapes (going_end part_spells part_holds part_shapes old i h g)) ∙ sym (shape_parts old)

pub parts_done : {s t : State} {now : List SourcePart} (old : List SourcePart) (i : ℕ) → length old ≤ i → PartsGoing s old t now (drop i old) → Numbered s (parts_spellings (parts (map part old))) (parts_variables (parts (map part now))) t
parts_done {now = now} old i h g = subst_numbered (spell_parts old) (hold_parts now) (all_numbered part_spells part_holds part_shapes (going_end part_spells part_holds part_shapes old i h g))

pub part_in_all : (ps : List SourcePart) (i : ℕ) (p : SourcePart) → i < length ps → p ≡ get_or ps i p → goals_size (goals (map goal p.guard.items)) + goals_size (goals (map goal p.body.items)) ≤ parts_size (parts (map part ps))
part_in_all ps i p h e =
    part_of_all (λ x. goals_size (goals (map goal x.guard.items)) + goals_size (goals (map goal x.body.items))) (λ xs. parts_size (parts (map part xs)))
    (λ x xs. ap (λ (z : Part). (goals_size (goals z.guard) + goals_size (goals z.body)) + parts_size (parts (map part xs))) (part_is x)) ps i p h e
