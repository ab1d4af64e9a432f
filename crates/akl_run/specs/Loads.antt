-- The program and the query that two texts are, and why there are none.
use Rattle.std.specs.Prelude.{◌≡◌, ◌<◌, ℕ, List, length, map, Some, None}
use Rattle.std.specs.List.{Contains}
use Rattle.akl_terms.specs.declared.program.Definition.{Definition}
use Rattle.akl_terms.specs.declared.program.Program.{Program}
use Rattle.akl_lexemes.specs.declared.error.SyntaxError.{SyntaxError}
use Rattle.akl_lexemes.specs.declared.error.SyntaxError.TheVariants.{TooLong}
use Rattle.akl_syntax.specs.Clauses.{Clause, Query}
use Rattle.akl_syntax.specs.Verdicts.{accepted, refused, ReadsProgram, ReadsQuery}
use Rattle.variable_scopes.specs.Scoped.{AreScoped, IsScopedQuery}
use Rattle.clause_checks.specs.declared.error.LoadError.{LoadError}
use Rattle.clause_checks.specs.Refusals.{refusal_of, query_refusal_of}
use Rattle.clause_keys.specs.Keys.{called_by, AreUnique}
use Rattle.clause_store.specs.Loaded.{IsProgramOf, IsQueryOf}
use Rattle.akl_lift.specs.Lifting.{lifted_clauses, query_without, made_of_query}
use Rattle.akl_run.specs.declared.report.Status.{Status}
use Rattle.akl_run.specs.declared.report.Refusal.{Refusal}
use Rattle.akl_run.specs.declared.loaded.Loaded.{Loaded}

-- the text reads as clauses, and these are they with their variables by their scopes
pub record IsProgramText (text : List ℕ) (clauses : List Clause) : Type 0 where
  pub written : List Clause
  pub reads : ReadsProgram text (accepted written)
  pub scoped : AreScoped written clauses

-- the same of a query
pub record IsQueryText (text : List ℕ) (asked : Query) : Type 0 where
  pub written : Query
  pub reads : ReadsQuery text (accepted written)
  pub scoped : IsScopedQuery written asked

-- the text is a program, nothing of it is refused, and this is what its clauses stand for once they are lifted
pub record IsLoadedProgram (text : List ℕ) (p : Program) : Type 0 where
  pub clauses : List Clause
  pub reads : IsProgramText text clauses
  pub allowed : refusal_of clauses ≡ None
  pub stands : IsProgramOf (lifted_clauses clauses) p

-- why a text is no program that is loaded; want of memory is free
pub data ProgramStops (text : List ℕ) : Status → Refusal → Type 0 where
  by_text : {e : SyntaxError} → ReadsProgram text (refused e) → ProgramStops text Status.Program (Refusal.TextOf e)
  by_loading : {cs : List Clause} {e : LoadError} → IsProgramText text cs → refusal_of cs ≡ Some e → ProgramStops text Status.Program (Refusal.Loading e)
  no_memory : ProgramStops text Status.NoMemory Refusal.Nothing

-- the number of the first definition that a query's inline choices and collecting goals become; a program has no more of these than bytes, so each of its numbers is smaller
abbrev pub first_asked : ℕ
first_asked = 1000000

-- the text is a query, nothing of it is refused over the program, and it is loaded over it with the definitions that are made of its inline choices and collecting goals
pub record IsLoadedQuery (base : Program) (text : List ℕ) (l : Loaded) : Type 0 where
  pub asked : Query
  pub reads : IsQueryText text asked
  pub allowed : query_refusal_of base asked ≡ None
  pub stands : IsQueryOf base (made_of_query first_asked asked) (query_without first_asked asked) l.program l.query

-- why a text is no query that is loaded over a program; want of memory is free
pub data QueryStops (base : Program) (text : List ℕ) : Status → Refusal → Type 0 where
  by_text : {e : SyntaxError} → ReadsQuery text (refused e) → QueryStops base text Status.Query (Refusal.TextOf e)
  by_loading : {q : Query} {e : LoadError} → IsQueryText text q → query_refusal_of base q ≡ Some e → QueryStops base text Status.Query (Refusal.Loading e)
  no_memory : QueryStops base text Status.NoMemory Refusal.Nothing

-- the query over the program is that of two texts
pub record IsLoadedFrom (program query : List ℕ) (l : Loaded) : Type 0 where
  pub base : Program
  pub is_program : IsLoadedProgram program base
  pub is_query : IsLoadedQuery base query l

-- why a query over a program isn't loaded, by their texts; want of memory is free
pub data TextsStop (text query : List ℕ) : Status → Refusal → Type 0 where
  by_length : 10000 < length query → TextsStop text query Status.Query (Refusal.TextOf (TooLong (length query)))
  by_program : {s : Status} {f : Refusal} → ProgramStops text s f → TextsStop text query s f
  by_query : {s : Status} {f : Refusal} {p : Program} → IsLoadedProgram text p → QueryStops p query s f → TextsStop text query s f

-- a program over which a query can be loaded: no two of its definitions are called by the same, it leaves room, and a query's inline choices have numbers of their own
pub record IsOpen (p : Program) : Type 0 where
  pub unique : AreUnique (map called_by p.definitions)
  pub nodes : length p.templates.nodes < 4000000000
  pub symbols : length p.templates.symbols < 4000000000
  pub definitions : length p.definitions < 4000000000
  pub numbers : (d : Definition) (n : ℕ) → Contains p.definitions d → d.lifted ≡ Some n → n < first_asked
