-- Definitions whose clauses have been moved behind others.
use Rattle.std.proofs.Common.{◌≡◌, ℕ, List, ◌++◌, map, drop, Vec, Global}
use Rattle.akl_syntax.specs.Clauses.{Clause}
use Rattle.akl_syntax.specs.Answers.{clauses_view}
use Rattle.akl_syntax.specs.declared.source.SourceClause.{SourceClause}
use Rattle.akl_lift.specs.Lifting.{joined}

-- those from this place on are as they were, and the clauses of the others stand behind the first
pub record JoinedSoFar (before : List Clause) (all : List (Vec SourceClause Global)) (now : List Clause) (left : List (Vec SourceClause Global)) (i : ℕ) : Type 0 where
  pub left_are : drop i left ≡ drop i all
  pub now_are : now ++ joined (map clauses_view (drop i left)) ≡ before ++ joined (map clauses_view all)
