-- A clause's goals, those inside of others too, are no larger than the clause.
use Rattle.std.proofs.Common.{◌<◌, ◌≤◌, ℕ, zero, suc, List, [], ◌∷◌, ◌++◌, length, map, arith, get_or}
use Rattle.akl_syntax.specs.Goals.{Goal, Goals, Parts, call, choice, lifted, collect, lifted_collect, no_goals, more_goals, no_parts, more_parts, goals}
use Rattle.akl_syntax.specs.Clauses.{Clause, Query}
use Rattle.akl_syntax.specs.Sizes.{goal_size, goals_size, parts_size, clause_size, query_size}
use Rattle.clause_checks.specs.Within.{goals_of, goals_of_all, goals_of_parts, goals_in, goals_asked}

abbrev pub AreSmall : ℕ → List Goal → Type 0
AreSmall n [] = Unit {0}
AreSmall n (g ∷ gs) = (goal_size g ≤ n) × AreSmall n gs

small_both : (n : ℕ) (gs hs : List Goal) → AreSmall n gs → AreSmall n hs → AreSmall n (gs ++ hs)
small_both n [] hs p q = q
small_both n (g ∷ gs) hs p q = (p.0, small_both n gs hs p.1 q)

mutual
  small_goal : (n : ℕ) (g : Goal) → goal_size g ≤ n → AreSmall n (goals_of g)
  small_goal n (call s ts) h = (h, tt)
  small_goal n (choice ps) h = (h, small_parts n ps (omega (arith, h)))
  small_goal n (lifted m ms) h = (h, tt)
  small_goal n (collect t gs r) h = (h, small_all n gs (omega (arith, h)))
  small_goal n (lifted_collect m ms r) h = (h, tt)

  small_all : (n : ℕ) (gs : Goals) → goals_size gs ≤ n → AreSmall n (goals_of_all gs)
  small_all n no_goals h = tt
  small_all n (more_goals g gs) h = small_both n (goals_of g) (goals_of_all gs) (small_goal n g (omega (arith, h))) (small_all n gs (omega (arith, h)))

  small_parts : (n : ℕ) (ps : Parts) → parts_size ps ≤ n → AreSmall n (goals_of_parts ps)
  small_parts n no_parts h = tt
  small_parts n (more_parts gs op hs ps) h =
      small_both n (goals_of_all gs ++ goals_of_all hs) (goals_of_parts ps)
      (small_both n (goals_of_all gs) (goals_of_all hs) (small_all n gs (omega (arith, h))) (small_all n hs (omega (arith, h))))
      (small_parts n ps (omega (arith, h)))

pub small_in : (n : ℕ) (c : Clause) → clause_size c ≤ n → AreSmall n (goals_in c)
small_in n c h =
    small_both n (goals_of_all (goals c.part.guard)) (goals_of_all (goals c.part.body)) (small_all n (goals c.part.guard) (omega (arith, h))) (small_all n (goals c.part.body) (omega (arith, h)))

pub small_asked : (n : ℕ) (q : Query) → query_size q ≤ n → AreSmall n (goals_asked q)
small_asked n q h = small_all n (goals q.goals) h

pub small_at : {X : Type 0} (n : ℕ) (f : X → Goal) (xs : List X) → AreSmall n (map f xs) → (i : ℕ) (d : X) → i < length xs → goal_size (f (get_or xs i d)) ≤ n
small_at n f [] h i d l = absurd (omega arith)
small_at n f (x ∷ xs) h zero d l = h.0
small_at n f (x ∷ xs) h (suc i) d l = small_at n f xs h.1 i d (omega (arith, l))
