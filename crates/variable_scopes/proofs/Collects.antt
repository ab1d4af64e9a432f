-- The numbers inside of a collecting goal and of its result.
use Rattle.std.proofs.Common.{◌≡◌, ℕ, suc, ◌+◌, List, [], ◌∷◌, ◌++◌, length, map, Option, refl, sym, ap, subst, ◌∙◌, append_assoc, Vec, Global}
use Rattle.std.proofs.lemmas.List.{append-nil}
use Rattle.term_syntax.specs.declared.source.SourceTerm.{SourceTerm}
use Rattle.term_syntax.specs.Sizes.{tree_size}
use Rattle.term_syntax.specs.View.{tree}
use Rattle.term_syntax.specs.Variables.{tree_variables}
use Rattle.akl_syntax.specs.declared.source.SourceGoal.{SourceGoal}
use Rattle.akl_syntax.specs.declared.source.SourceGoal.TheVariants as source
use Rattle.akl_syntax.specs.declared.source.SourceGoal.TheOpen as open_goals
use Rattle.akl_syntax.specs.declared.source.SourceGoal.TheFolds.{fold-roll-SourceGoal}
use Rattle.akl_syntax.specs.Goals.{Goal, Goals, Part, lifted_collect, goals}
use Rattle.akl_syntax.specs.GoalView.{goal, goal_step, part_step}
use Rattle.akl_syntax.specs.Sizes.{goal_size, goals_size}
use Rattle.akl_syntax.specs.Variables.{goal_variables, goals_variables}
use Rattle.akl_syntax.proofs.CollectTurns.{goal_collect}
use Rattle.variable_scopes.specs.Numbering.{State, entered, named, left, after, numbers, AreBelow, Numbered, Numbers, NumbersInside}
use Rattle.variable_scopes.specs.Spellings.{Spellings, both, all_of, goal_spellings, goals_spellings}
use Rattle.variable_scopes.proofs.Standing.{length-cleared}
use Rattle.variable_scopes.proofs.Numbers.{numbered_both, below_left, below_right}
use Rattle.variable_scopes.proofs.Lists.{subst_numbered}

abbrev vec_goals : Vec SourceGoal Global → Goals
vec_goals v = goals (map goal v.items)

-- ---- collecting goals
pub collect_size : (t u : SourceTerm) (v : Vec SourceGoal Global) → goal_size (goal (source.Collect t v u)) ≡ suc (tree_size (tree t) + (goals_size (goals (map goal v.items)) + tree_size (tree u)))
collect_size t u v = ap goal_size (goal_collect t u v)

collect_variables : (t u : SourceTerm) (v : Vec SourceGoal Global) → goal_variables (goal (source.Collect t v u)) ≡ tree_variables (tree t) ++ (goals_variables (vec_goals v) ++ tree_variables (tree u))
collect_variables t u v = ap goal_variables (goal_collect t u v)

pub inside_below : (m : ℕ) (t u : SourceTerm) (v : Vec SourceGoal Global) → AreBelow m (goal_variables (goal (source.Collect t v u))) → AreBelow m (tree_variables (tree t) ++ goals_variables (goals (map goal v.items)))
inside_below m t u v b =
    below_left m (tree_variables (tree t) ++ goals_variables (vec_goals v)) (tree_variables (tree u))
    (subst (AreBelow m) (collect_variables t u v ∙ sym (append_assoc (tree_variables (tree t)) (goals_variables (vec_goals v)) (tree_variables (tree u)))) b)

pub result_below : (m : ℕ) (t u : SourceTerm) (v : Vec SourceGoal Global) → AreBelow m (goal_variables (goal (source.Collect t v u))) → AreBelow m (tree_variables (tree u))
result_below m t u v b =
    below_right m (goals_variables (vec_goals v)) (tree_variables (tree u)) (below_right m (tree_variables (tree t)) (goals_variables (vec_goals v) ++ tree_variables (tree u)) (subst (AreBelow m) (collect_variables t u v) b))

pub collect_numbers : {s t u : State} (a a' b b' : SourceTerm) (v v' : Vec SourceGoal Global) → NumbersInside s (tree_variables (tree a)) (goals_spellings (goals (map goal v.items))) (tree_variables (tree a') ++ goals_variables (goals (map goal v'.items))) t
    → Numbers t (tree_variables (tree b)) (tree_variables (tree b')) u → Numbered s (goal_spellings (goal (source.Collect a v b))) (goal_variables (goal (source.Collect a' v' b'))) u
collect_numbers a a' b b' v v' x y =
    subst_numbered (ap goal_spellings (goal_collect a b v)) (collect_variables a' b' v' ∙ sym (append_assoc (tree_variables (tree a')) (goals_variables (vec_goals v')) (tree_variables (tree b')))) (numbered_both x y)

-- ---- and lifted ones
goal_lifted_collect : (n : ℕ) (v : Vec ℕ Global) (t : SourceTerm) → goal (source.LiftedCollect n v t) ≡ lifted_collect n v.items (tree t)
goal_lifted_collect n v t = ap goal (sym (source.rolls-LiftedCollect n v t)) ∙ fold-roll-SourceGoal Goal Part goal_step part_step (open_goals.LiftedCollect n v t)

pub lifted_arguments_below : (m n : ℕ) (v : Vec ℕ Global) (t : SourceTerm) → AreBelow m (goal_variables (goal (source.LiftedCollect n v t))) → AreBelow m v.items
lifted_arguments_below m n v t b = below_left m v.items (tree_variables (tree t)) (subst (AreBelow m) (ap goal_variables (goal_lifted_collect n v t)) b)

pub lifted_result_below : (m n : ℕ) (v : Vec ℕ Global) (t : SourceTerm) → AreBelow m (goal_variables (goal (source.LiftedCollect n v t))) → AreBelow m (tree_variables (tree t))
lifted_result_below m n v t b = below_right m v.items (tree_variables (tree t)) (subst (AreBelow m) (ap goal_variables (goal_lifted_collect n v t)) b)

pub lifted_numbers : {s t u : State} (n : ℕ) (v v' : Vec ℕ Global) (b b' : SourceTerm) → Numbers s v.items v'.items t → Numbers t (tree_variables (tree b)) (tree_variables (tree b')) u
    → Numbered s (goal_spellings (goal (source.LiftedCollect n v b))) (goal_variables (goal (source.LiftedCollect n v' b'))) u
lifted_numbers n v v' b b' x y = subst_numbered (ap goal_spellings (goal_lifted_collect n v b)) (ap goal_variables (goal_lifted_collect n v' b')) (numbered_both x y)

-- ---- inside
pub below_entered : (s : State) {t : State} (ns ms : List ℕ) → t ≡ entered s ns → AreBelow (length s.current) ms → AreBelow (length t.current) ms
below_entered s ns ms e b = subst (λ (z : ℕ). AreBelow z ms) (sym (ap (λ (z : State). length z.current) e ∙ length-cleared s.current ns)) b

pub named_spellings : (s : State) (ns : List ℕ) → map (λ (x : ℕ × Option ℕ). x.0) (named s ns) ≡ ns
named_spellings s [] = refl
named_spellings s (n ∷ ns) = ap (λ (z : List ℕ). n ∷ z) (named_spellings s ns)

pub inside_numbers : {s e t u w : State} {x : Spellings} {ns ks : List ℕ} (ms : List ℕ) → e ≡ entered s ms → Numbers e ms ns t → Numbered t x ks u → w ≡ left u (named s ms) → NumbersInside s ms x (ns ++ ks) w
inside_numbers {s} {e} {u = u} {x = x} ms f a b g =
    let c = numbered_both a b in
    record {
      numbers_are = c.numbers_are ∙ ap (λ (z : State). numbers z (both (all_of ms) x)) f ∙ sym (append-nil (numbers (entered s ms) (both (all_of ms) x)));
      state_is = g ∙ ap (λ (z : State). left z (named s ms)) (c.state_is ∙ ap (λ (z : State). after z (both (all_of ms) x)) f);
    }
