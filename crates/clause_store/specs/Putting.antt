-- What the functions that load goals, clauses and definitions promise each other. No public clause speaks of it.
use Rattle.std.specs.Prelude.{◌≡◌, ◌+◌, ◌≤◌, ℕ, zero, suc, List, [], ◌∷◌, ◌++◌, length, map, Option, Some, None, option_to_list}
use Rattle.std.specs.List.{All, Contains}
use Rattle.akl_terms.specs.declared.program.Code.{Code}
use Rattle.akl_terms.specs.declared.program.Code.TheVariants as codes
use Rattle.akl_terms.specs.declared.program.Clause as program
use Rattle.akl_terms.specs.declared.program.Definition.{Definition}
use Rattle.akl_terms.specs.Template.{Template}
use Rattle.term_syntax.specs.Tree.{Tree}
use Rattle.akl_syntax.specs.Goals.{Goal, goals}
use Rattle.akl_syntax.specs.Clauses.{Clause}
use Rattle.akl_syntax.specs.Sizes.{goal_size, goals_size, collected_size, clause_size, clauses_size}
use Rattle.clause_keys.specs.declared.callee.Callee.{Callee}
use Rattle.clause_keys.specs.declared.reserved.Reserved.{Reserved}
use Rattle.clause_keys.specs.declared.reserved.Reserved.TheVariants.{True, Fail, Equal, Arith, OpenPort, Send}
use Rattle.clause_keys.specs.Keys.{key_of, defined_by, called_by, Collects}
use Rattle.clause_store.specs.Standing.{StandsAt, Gains}
use Rattle.clause_store.specs.Codes.{AreCodes}
use Rattle.clause_store.specs.Nodes.{Extends}
use Rattle.clause_store.specs.Loaded.{IsCollected, IsClauseOf, AreLoaded, IsDefinitionOf, IsCell}

-- the code of a reserved goal over the neighbouring nodes from the first on
abbrev pub reserved_code : Reserved → ℕ → Option Code
reserved_code True first = None
reserved_code Fail first = Some codes.Fail
reserved_code Equal first = Some (codes.Equal first (first + 1))
reserved_code (Arith test) first = Some (codes.Arith test first (first + 1))
reserved_code OpenPort first = Some (codes.OpenPort first (first + 1))
reserved_code Send first = Some (codes.Send first (first + 1))

-- so many numbers, from one on
abbrev pub numbers_from : ℕ → ℕ → List ℕ
numbers_from n zero = []
numbers_from n (suc k) = n ∷ numbers_from (suc n) k

-- what the goal needs was put, and this is its code, or it has none
pub record IsGoalPut (callees : List Callee) (old new : Template) (g : Goal) (o : Option Code) : Type 0 where
  pub codes : AreCodes callees (StandsAt new) (g ∷ []) (option_to_list o)
  pub gains : Gains (goal_size g) 0 old new

-- what the goals need was put, and these are their codes
pub record AreGoalsPut (callees : List Callee) (old new : Template) (gs : List Goal) (found : List Code) : Type 0 where
  pub codes : AreCodes callees (StandsAt new) gs found
  pub gains : Gains (goals_size (goals gs)) 0 old new

-- what the collected term needs was put, and this is its node, where there is one
pub record IsCollectedPut (old new : Template) (o : Option Tree) (n : Option ℕ) : Type 0 where
  pub collected : IsCollected (StandsAt new) o n
  pub gains : Gains (collected_size o) 0 old new

-- what the clause needs was put, and this is it loaded
pub record IsClausePut (callees : List Callee) (old new : Template) (c : Clause) (loaded : program.Clause) : Type 0 where
  pub clause : IsClauseOf callees (StandsAt new) c loaded
  pub gains : Gains (clause_size c) 0 old new

-- what the clauses need was put, and these are they loaded
pub record AreClausesPut (callees : List Callee) (old new : Template) (cs : List Clause) (loaded : List program.Clause) : Type 0 where
  pub clauses : AreLoaded callees (StandsAt new) cs loaded
  pub gains : Gains (clauses_size cs) 0 old new

-- clauses of one operator
abbrev pub HaveOneOp : List Clause → Type 0
HaveOneOp cs = (c d : Clause) → Contains cs c → Contains cs d → c.part.op ≡ d.part.op

-- what the clauses of one definition need was put, and this is the definition
pub record IsDefinitionPut (callees : List Callee) (old new : Template) (cs : List Clause) (d : Definition) : Type 0 where
  pub first : Clause
  pub more : List Clause
  pub are : cs ≡ first ∷ more
  pub called : called_by d ≡ defined_by first
  pub key : d.key ≡ key_of first.head (length first.arguments)
  pub op : All (λ c. c.part.op ≡ d.op) cs
  pub clauses : AreLoaded callees (StandsAt new) cs d.clauses
  pub gains : Gains (clauses_size cs) 0 old new

-- what the clauses need was put, and the definitions gained those that the clauses define
pub record IsExtended (old_callees callees : List Callee) (old new : Template) (before after : List Definition) (cs : List Clause) : Type 0 where
  pub added : List Definition
  pub definitions_are : after ≡ before ++ added
  pub collected : Collects old_callees cs callees
  pub callees_are : callees ≡ map called_by after
  pub loaded : All (IsDefinitionOf callees (StandsAt new) cs) added
  pub gains : Gains (clauses_size cs) 0 old new

-- what clauses and goals need was put, the definitions gained those that the clauses define, and these are the goals' codes
pub record AreAllPut (old new : Template) (before after : List Definition) (cs : List Clause) (gs : List Goal) (found : List Code) : Type 0 where
  pub callees : List Callee
  pub mid : Template
  pub extended : IsExtended (map called_by before) callees old mid before after cs
  pub goals : AreGoalsPut callees mid new gs found

-- the list's cell was put
pub record IsCellPut (old new : Template) (at : ℕ) : Type 0 where
  pub cell : IsCell new at
  pub extends : Extends old new
  pub nodes : length new.nodes ≡ length old.nodes + 4
  pub symbols : length new.symbols ≤ length old.symbols + 2
