-- What a reader of programs and queries answers.
use Rattle.std.specs.Prelude.{ℕ, List, map, option_map, Result, Ok, Err, ⊤}
use Rattle.std.proofs.Common.{Vec, Global}
use Rattle.term_syntax.specs.View.{tree}
use Rattle.akl_syntax.specs.GoalView.{goal, part}
use Rattle.akl_syntax.specs.Clauses.{Clause, Query}
use Rattle.akl_syntax.specs.Verdicts.{Verdict, accepted, refused}
use Rattle.akl_syntax.specs.declared.source.SourceClause.{SourceClause}
use Rattle.akl_syntax.specs.declared.source.SourceQuery.{SourceQuery}
use Rattle.akl_lexemes.specs.declared.error.SyntaxError.{SyntaxError}
use Rattle.akl_lexemes.specs.declared.error.SyntaxError.TheVariants.{Syntax, TooDeep, IntRange, TooLong, Memory}

-- what a source clause stands for
abbrev pub clause_view : SourceClause → Clause
clause_view c = record { head = c.head; arguments = map tree c.arguments.items; part = part c.part; collected = option_map tree c.collected; names = c.names.items; start = c.start }

-- a clause with the place where it ends
abbrev pub ending_view : SourceClause × ℕ → Clause × ℕ
ending_view x = (clause_view x.0, x.1)

abbrev pub clauses_view : Vec SourceClause Global → List Clause
clauses_view v = map clause_view v.items

-- what a source query stands for
abbrev pub query_view : SourceQuery → Query
query_view q = record { goals = map goal q.goals.items; names = q.names.items }

-- P holds of what was answered, unless memory was refused
abbrev pub Answers : {X A : Type 0} → (X → A) → (Verdict A → Type 0) → Result X SyntaxError → Type 0
Answers view P (Ok x) = P (accepted (view x))
Answers view P (Err (Syntax at)) = P (refused (Syntax at))
Answers view P (Err (TooDeep at)) = P (refused (TooDeep at))
Answers view P (Err (IntRange at)) = P (refused (IntRange at))
Answers view P (Err (TooLong count)) = P (refused (TooLong count))
Answers view P (Err (Memory e)) = ⊤
