-- Calls that have as many arguments as the clauses that they call.
use Rattle.std.specs.Prelude.{◌≡◌, ℕ, List, ◌++◌, slice_get, Some}
use Rattle.std.specs.List.{All}
use Rattle.akl_terms.specs.declared.program.Code.{Code}
use Rattle.akl_terms.specs.declared.program.Code.TheVariants as codes
use Rattle.akl_terms.specs.declared.program.Op.TheVariants as ops
use Rattle.akl_terms.specs.declared.program.Clause as program
use Rattle.akl_terms.specs.declared.program.Definition.{Definition}
use Rattle.akl_terms.specs.declared.program.Program.{Program}
use Rattle.akl_terms.specs.declared.program.Query.{Query}
use Rattle.akl_syntax.specs.Clauses.{Clause}
use Rattle.clause_store.specs.Loaded.{IsProgramOf}

-- the definition of this number is there, and each of its clauses has so many arguments
pub record HasArguments (ds : List Definition) (number count : ℕ) : Type 0 where
  pub definition : Definition
  pub there : slice_get ds number ≡ Some definition
  pub clauses : All (λ c. c.count ≡ count) definition.clauses

-- so it is, and the definition collects
pub record IsCollectedBy (ds : List Definition) (number count : ℕ) : Type 0 where
  pub called : HasArguments ds number count
  pub collects : called.definition.op ≡ ops.Collect

-- the code calls nothing, or a definition whose clauses have as many arguments as the call, and which collects where the code does
abbrev pub IsFitting : List Definition → Code → Type 0
IsFitting ds (codes.Call number first count) = HasArguments ds number count
IsFitting ds (codes.Collect number first count result) = IsCollectedBy ds number count
IsFitting ds code = Unit {0}

pub record IsFittingClause (ds : List Definition) (c : program.Clause) : Type 0 where
  pub guard : All (IsFitting ds) c.guard
  pub body : All (IsFitting ds) c.body

-- each call in the program's clauses has as many arguments as the clauses that it calls
pub record HasFittingCalls (p : Program) : Type 0 where
  pub each : All (λ d. All (IsFittingClause p.definitions) d.clauses) p.definitions

-- the program is that of the clauses with the lifted ones behind them, and its calls and the query's have as many arguments as the clauses that they call
pub record IsOver (cs lifted : List Clause) (p : Program) (q : Query) : Type 0 where
  pub program : IsProgramOf (cs ++ lifted) p
  pub calls : HasFittingCalls p
  pub asked : All (IsFitting p.definitions) q.goals
