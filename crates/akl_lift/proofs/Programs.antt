-- Which clauses have been lifted, and which are left.
use Rattle.std.proofs.Common.{◌≡◌, ℕ, ◌+◌, ◌≤◌, List, [], ◌∷◌, ◌++◌, refl, ◌∙◌, arith, append_assoc}
use Rattle.akl_syntax.specs.Goals.{Goal, Goals, Parts, call, choice, lifted, collect, lifted_collect, no_goals, more_goals, no_parts, more_parts, goals}
use Rattle.akl_syntax.specs.Clauses.{Clause}
use Rattle.akl_syntax.specs.Sizes.{goal_size, goals_size, parts_size, clauses_size}
use Rattle.akl_lift.specs.Lifting.{choices_in, choices_in_all, choices_in_parts, clause_choices, choices_of, clause_without, clauses_without, made_of, made_of_all, joined}

pub record ClausesSoFar (first : ℕ) (before cs : List Clause) (next : ℕ) (found after : List Clause) (rest : List Clause) : Type 0 where
  pub next_is : next + choices_of rest ≡ first + choices_of cs
  pub found_are : found ++ clauses_without next rest ≡ clauses_without first cs
  pub made_are : after ++ made_of_all next rest ≡ before ++ made_of_all first cs

pub clauses_start : (first : ℕ) (before cs : List Clause) → ClausesSoFar first before cs first [] before cs
clauses_start first before cs = record { next_is = refl; found_are = refl; made_are = refl }

pub clauses_step : {first : ℕ} {before cs rest found after after' : List Clause} {next next' : ℕ} (c d : Clause) → ClausesSoFar first before cs next found after (c ∷ rest) → next' ≡ next + clause_choices c → d ≡ clause_without next c
    → after' ≡ after ++ joined (made_of next c) → ClausesSoFar first before cs next' (found ++ d ∷ []) after' rest
clauses_step {rest = rest} {found = found} {after = after} {next = next} c d s e f m = rw (e, f, m) (record {
  next_is = omega (arith, s.next_is);
  found_are = append_assoc found (clause_without next c ∷ []) (clauses_without (next + clause_choices c) rest) ∙ s.found_are;
  made_are = append_assoc after (joined (made_of next c)) (made_of_all (next + clause_choices c) rest) ∙ s.made_are;
})

-- ---- there are no more choices than terms and goals
mutual
  goal_choices_size : (g : Goal) → choices_in g ≤ goal_size g
  goal_choices_size (call s ts) = omega arith
  goal_choices_size (lifted n ns) = omega arith
  goal_choices_size (lifted_collect n ns r) = omega arith
  goal_choices_size (collect t gs r) = omega (arith, goals_choices_size gs)
  goal_choices_size (choice ps) = omega (arith, parts_choices_size ps)

  pub goals_choices_size : (gs : Goals) → choices_in_all gs ≤ goals_size gs
  goals_choices_size no_goals = omega arith
  goals_choices_size (more_goals g gs) = omega (arith, goal_choices_size g, goals_choices_size gs)

  parts_choices_size : (ps : Parts) → choices_in_parts ps ≤ parts_size ps
  parts_choices_size no_parts = omega arith
  parts_choices_size (more_parts gs op hs ps) = omega (arith, goals_choices_size gs, goals_choices_size hs, parts_choices_size ps)

pub clauses_choices_size : (cs : List Clause) → choices_of cs ≤ clauses_size cs
clauses_choices_size [] = omega arith
clauses_choices_size (c ∷ cs) = omega (arith, goals_choices_size (goals c.part.guard), goals_choices_size (goals c.part.body), clauses_choices_size cs)
