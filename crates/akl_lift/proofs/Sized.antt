-- How many terms and goals there are once clauses are lifted.
use Rattle.std.proofs.Common.{◌≡◌, ℕ, suc, ◌+◌, ◌*◌, ◌≤◌, List, [], ◌∷◌, ◌++◌, length, map, refl, ap, ◌∙◌, arith}
use Rattle.std.proofs.lemmas.List.{length-map}
use Rattle.std.proofs.lemmas.Grind.{flat_map-append}
use Rattle.term_syntax.specs.Tree.{Tree, Trees, Tail, Steps, variable, integer, compound, list, chain, no_trees, more_trees, no_tail, tail, no_steps, more_steps, trees}
use Rattle.term_syntax.specs.Sizes.{tree_size, trees_size, tail_size, steps_size}
use Rattle.akl_syntax.specs.Goals.{Goal, Goals, Parts, call, choice, lifted, collect, lifted_collect, no_goals, more_goals, no_parts, more_parts, goals}
use Rattle.akl_syntax.specs.Clauses.{Clause}
use Rattle.std.specs.List.{All}
use Rattle.term_syntax.specs.Variables.{tree_variables, trees_variables}
use Rattle.akl_syntax.specs.Variables.{goal_variables, goals_variables, parts_variables, collected_variables, IsClauseNumbered, AreClausesNumbered}
use Rattle.akl_syntax.specs.Sizes.{goal_size, goals_size, parts_size, clauses_size, clause_size}
use Rattle.akl_lift.specs.Places.{place, placed_variable, placed_tree, placed_trees, placed_tail, placed_steps}
use Rattle.akl_lift.specs.Lifting.{Origin, choices_in, choices_in_all, without, without_all, part_clauses, part_order, part_shares, collect_variables, collect_order, collect_shares, made, made_all, made_inside, made_in_part, joined, clause_choices, clause_order, clause_shares, clause_origin, clause_without, clauses_without, made_of, made_of_all, lifted_clauses}
use Rattle.akl_lift.specs.Whole.{HasGoal, IsWhole, AreWhole, HaveGoals, IsRead, AreRead, AreWritten}
use Rattle.akl_lift.proofs.Below.{Below, below_front, below_back, Fits, part_fits, made_fits, collect_below, variables_below, clause_fits}

-- ---- terms
mutual
  placed_size : (order : List ℕ) (t : Tree) → tree_size (placed_tree order t) ≡ tree_size t
  placed_size order (variable n) = refl
  placed_size order (integer z) = refl
  placed_size order (compound s ts) = ap suc (all_placed_size order ts)
  placed_size order (list ts e) = omega (arith, all_placed_size order ts, tail_placed_size order e)
  placed_size order (chain t ss) = omega (arith, placed_size order t, steps_placed_size order ss)

  pub all_placed_size : (order : List ℕ) (ts : Trees) → trees_size (placed_trees order ts) ≡ trees_size ts
  all_placed_size order no_trees = refl
  all_placed_size order (more_trees t ts) = omega (arith, placed_size order t, all_placed_size order ts)

  tail_placed_size : (order : List ℕ) (e : Tail) → tail_size (placed_tail order e) ≡ tail_size e
  tail_placed_size order no_tail = refl
  tail_placed_size order (tail t) = placed_size order t

  steps_placed_size : (order : List ℕ) (ss : Steps) → steps_size (placed_steps order ss) ≡ steps_size ss
  steps_placed_size order no_steps = refl
  steps_placed_size order (more_steps w t ss) = omega (arith, placed_size order t, steps_placed_size order ss)

variables_size : (order vs : List ℕ) → trees_size (trees (map (placed_variable order) vs)) ≡ length vs
variables_size order [] = refl
variables_size order (v ∷ vs) = omega (arith, variables_size order vs)

some_tree : (t : Tree) → 1 ≤ tree_size t
some_tree (variable n) = omega arith
some_tree (integer z) = omega arith
some_tree (compound s ts) = omega arith
some_tree (list ts e) = omega arith
some_tree (chain t ss) = omega arith

-- ---- clauses
pub clauses_size-append : (cs ds : List Clause) → clauses_size (cs ++ ds) ≡ clauses_size cs + clauses_size ds
clauses_size-append [] ds = omega arith
clauses_size-append (c ∷ cs) ds = omega (arith, clauses_size-append cs ds)

pub joined-append : (ds es : List (List Clause)) → joined (ds ++ es) ≡ joined ds ++ joined es
joined-append ds es = flat_map-append (λ cs. cs) ds es

joined_size : (ds es : List (List Clause)) → clauses_size (joined (ds ++ es)) ≡ clauses_size (joined ds) + clauses_size (joined es)
joined_size ds es = ap clauses_size (joined-append ds es) ∙ clauses_size-append (joined ds) (joined es)

-- ---- goals: a definition's clauses are paid for by the goals in its parts
module _ (n : ℕ) (few : n ≤ 256) where
  mutual
    goal_paid : (w : Origin) (order : List ℕ) (shares : List ℕ → List ℕ) (next : ℕ) (g : Goal) → Fits n shares → Below n (goal_variables g) → IsWhole g
        → goal_size (without order shares next g) + clauses_size (joined (made w shares next g)) + 257 ≤ 514 * goal_size g
    goal_paid w order shares next (call s ts) f b h = omega (arith, all_placed_size order ts)
    goal_paid w order shares next (lifted m ns) f b h = omega (arith, length-map ns (place order))
    goal_paid w order shares next (choice ps) f b h =
        let args : List ℕ = shares (parts_variables ps) in
        omega (
          arith,
          length-map args (place order),
          f.few (parts_variables ps),
          clauses_size-append (part_clauses w next args (next + 1) ps) (joined (made_inside w args (next + 1) ps)),
          parts_paid w next args (next + 1) ps (f.few (parts_variables ps)) (f.below (parts_variables ps)) b h.1,
        )
    goal_paid w order shares next (lifted_collect m ns r) f b h = omega (arith, length-map ns (place order), placed_size order r)
    goal_paid w order shares next (collect t gs r) f b h =
        let inside : Below n (collect_variables t gs) = collect_below n t gs r b in
        let args : List ℕ = shares (collect_variables t gs) in
        let own : List ℕ = collect_order args t gs in
        omega (
          arith,
          length-map args (place order),
          f.few (collect_variables t gs),
          placed_size order r,
          placed_size own t,
          some_tree t,
          some_tree r,
          variables_size own args,
          goals_paid w own (collect_shares args t gs) (next + 1) gs (made_fits n args (collect_variables t gs) few (f.below (collect_variables t gs)) inside) (below_back n (tree_variables t) (goals_variables gs) inside) h,
        )

    pub goals_paid : (w : Origin) (order : List ℕ) (shares : List ℕ → List ℕ) (next : ℕ) (gs : Goals) → Fits n shares → Below n (goals_variables gs) → AreWhole gs
        → goals_size (goals (without_all order shares next gs)) + clauses_size (joined (made_all w shares next gs)) ≤ 514 * goals_size gs
    goals_paid w order shares next no_goals f b h = omega arith
    goals_paid w order shares next (more_goals g gs) f b h =
        omega (
          arith,
          joined_size (made w shares next g) (made_all w shares (next + choices_in g) gs),
          goal_paid w order shares next g f (below_front n (goal_variables g) (goals_variables gs) b) h.0,
          goals_paid w order shares (next + choices_in g) gs f (below_back n (goal_variables g) (goals_variables gs) b) h.1,
        )

    some_goals_paid : (w : Origin) (order : List ℕ) (shares : List ℕ → List ℕ) (next : ℕ) (gs : Goals) → HasGoal gs → Fits n shares → Below n (goals_variables gs) → AreWhole gs
        → goals_size (goals (without_all order shares next gs)) + clauses_size (joined (made_all w shares next gs)) + 257 ≤ 514 * goals_size gs
    some_goals_paid w order shares next no_goals z f b h = elim z [ ]
    some_goals_paid w order shares next (more_goals g gs) z f b h =
        omega (
          arith,
          joined_size (made w shares next g) (made_all w shares (next + choices_in g) gs),
          goal_paid w order shares next g f (below_front n (goal_variables g) (goals_variables gs) b) h.0,
          goals_paid w order shares (next + choices_in g) gs f (below_back n (goal_variables g) (goals_variables gs) b) h.1,
        )

    parts_paid : (w : Origin) (number : ℕ) (args : List ℕ) (next : ℕ) (ps : Parts) → length args ≤ 256 → Below n args → Below n (parts_variables ps) → HaveGoals ps
        → clauses_size (part_clauses w number args next ps) + clauses_size (joined (made_inside w args next ps)) ≤ 514 * parts_size ps
    parts_paid w number args next no_parts k a b h = omega arith
    parts_paid w number args next (more_parts gs op hs ps) k a b h =
        let both : Below n (goals_variables gs ++ goals_variables hs) = below_front n (goals_variables gs ++ goals_variables hs) (parts_variables ps) b in
        let guard : Below n (goals_variables gs) = below_front n (goals_variables gs) (goals_variables hs) both in
        let body : Below n (goals_variables hs) = below_back n (goals_variables gs) (goals_variables hs) both in
        let fits : Fits n (part_shares args gs hs) = part_fits n args gs hs few a guard body in
        omega (
          arith,
          variables_size (part_order args gs hs) args,
          joined_size (made_in_part w args next gs hs) (made_inside w args (next + (choices_in_all gs + choices_in_all hs)) ps),
          joined_size (made_all w (part_shares args gs hs) next gs) (made_all w (part_shares args gs hs) (next + choices_in_all gs) hs),
          goals_paid w (part_order args gs hs) (part_shares args gs hs) next gs fits guard h.1,
          some_goals_paid w (part_order args gs hs) (part_shares args gs hs) (next + choices_in_all gs) hs h.0 fits body h.2,
          parts_paid w number args (next + (choices_in_all gs + choices_in_all hs)) ps k a (below_back n (goals_variables gs ++ goals_variables hs) (parts_variables ps) b) h.3,
        )

-- ---- programs
pub clause_inside : (c : Clause) → IsClauseNumbered c → Below (length c.names) (goals_variables (goals c.part.guard) ++ goals_variables (goals c.part.body))
clause_inside c m =
    let inner = goals_variables (goals c.part.guard) ++ goals_variables (goals c.part.body) in
    below_back (length c.names) (collected_variables c.collected) inner (below_back (length c.names) (trees_variables (trees c.arguments)) (collected_variables c.collected ++ inner) (variables_below c m))

clause_paid : (next : ℕ) (c : Clause) → length c.names ≤ 256 → IsRead c → IsClauseNumbered c → clause_size (clause_without next c) + clauses_size (joined (made_of next c)) ≤ 514 * clause_size c
clause_paid next c h r m =
    let n = length c.names in
    let guard = made_all (clause_origin c) (clause_shares c) next (goals c.part.guard) in
    let body = made_all (clause_origin c) (clause_shares c) (next + choices_in_all (goals c.part.guard)) (goals c.part.body) in
    let inner : Below n (goals_variables (goals c.part.guard) ++ goals_variables (goals c.part.body)) = clause_inside c m in
    let fits = clause_fits c h in
    omega (
      arith,
      joined_size guard body,
      goals_paid n h (clause_origin c) (clause_order c) (clause_shares c) next (goals c.part.guard) fits (below_front n (goals_variables (goals c.part.guard)) (goals_variables (goals c.part.body)) inner) r.guard,
      goals_paid n h (clause_origin c) (clause_order c) (clause_shares c) (next + choices_in_all (goals c.part.guard)) (goals c.part.body) fits (below_back n (goals_variables (goals c.part.guard)) (goals_variables (goals c.part.body)) inner) r.body,
    )

clauses_paid : (next : ℕ) (cs : List Clause) → All (λ c. length c.names ≤ 256) cs → AreRead cs → AreClausesNumbered cs → clauses_size (clauses_without next cs) + clauses_size (made_of_all next cs) ≤ 514 * clauses_size cs
clauses_paid next [] f r m = omega arith
clauses_paid next (c ∷ cs) f r m =
    omega (
      arith,
      clauses_size-append (joined (made_of next c)) (made_of_all (next + clause_choices c) cs),
      clause_paid next c (f 0 c (omega arith)) r.0 m.0,
      clauses_paid (next + clause_choices c) cs (λ k d h. f (suc k) d (omega (arith, h))) r.1 m.1,
    )

-- there are at most 514 times as many terms, goals and clauses once they are lifted
pub program_paid : (cs : List Clause) → AreWritten cs → clauses_size (lifted_clauses cs) ≤ 514 * clauses_size cs
program_paid cs w = omega (arith, clauses_size-append (clauses_without 0 cs) (made_of_all 0 cs), clauses_paid 0 cs w.few w.read w.numbered)
