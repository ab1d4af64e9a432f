-- The programs and queries that written ones stand for.
use Rattle.std.specs.Prelude.{◌≡◌, ◌<◌, ℕ, suc, ◌+◌, ◌==◌, Bool, false, List, [], ◌∷◌, ◌++◌, length, map, slice_get, Option, Some, None, if◌then◌else◌, codes}
use Rattle.std.specs.List.{All}
use Rattle.akl_terms.specs.declared.term.Node.{Node}
use Rattle.akl_terms.specs.declared.program.Clause as program
use Rattle.akl_terms.specs.declared.program.Definition.{Definition}
use Rattle.akl_terms.specs.declared.program.Program.{Program}
use Rattle.akl_terms.specs.declared.program.Query as program_query
use Rattle.akl_terms.specs.declared.program.Shown.{Shown}
use Rattle.akl_terms.specs.Template.{Template, AreDistinct}
use Rattle.term_syntax.specs.Tree.{Tree, trees}
use Rattle.akl_syntax.specs.Clauses.{Clause, Query}
use Rattle.clause_keys.specs.declared.callee.Callee.{Callee}
use Rattle.clause_keys.specs.Keys.{key_of, defined_by, called_by, Collects}
use Rattle.clause_store.specs.Nodes.{IsNodeOf, AreNodes, Extends}
use Rattle.clause_store.specs.Codes.{AreCodes}

-- the node is that of the term that is collected, where one is
pub data IsCollected (Is : ℕ → Tree → Type 0) : Option Tree → Option ℕ → Type 0 where
  none_collected : IsCollected Is None None
  a_collected : {t : Tree} {n : ℕ} → Is n t → IsCollected Is (Some t) (Some n)

-- the loaded clause is the written one
pub record IsClauseOf (callees : List Callee) (Is : ℕ → Tree → Type 0) (c : Clause) (loaded : program.Clause) : Type 0 where
  pub variables : loaded.variables ≡ length c.names
  pub count : loaded.count ≡ length c.arguments
  pub arguments : AreNodes Is loaded.first (trees c.arguments)
  pub guard : AreCodes callees Is c.part.guard loaded.guard
  pub body : AreCodes callees Is c.part.body loaded.body
  pub collected : IsCollected Is c.collected loaded.collected

-- loaded clauses are the written ones, one for one and in order
pub data AreLoaded (callees : List Callee) (Is : ℕ → Tree → Type 0) : List Clause → List program.Clause → Type 0 where
  none_loaded : AreLoaded callees Is [] []
  one_loaded : {c : Clause} {cs : List Clause} {loaded : program.Clause} {more : List program.Clause} → IsClauseOf callees Is c loaded
      → AreLoaded callees Is cs more → AreLoaded callees Is (c ∷ cs) (loaded ∷ more)

-- the clauses among these that define it, in their order
pub data AreOf (callee : Callee) : List Clause → List Clause → Type 0 where
  no_clauses : AreOf callee [] []
  own : {c : Clause} {cs found : List Clause} → defined_by c ≡ callee → AreOf callee cs found → AreOf callee (c ∷ cs) (c ∷ found)
  other : {c : Clause} {cs found : List Clause} → (defined_by c ≡ callee → ⊥) → AreOf callee cs found → AreOf callee (c ∷ cs) found

-- the definition's clauses are those among these that define what it is called by; all have its operator, and the first gives its key
pub record IsDefinitionOf (callees : List Callee) (Is : ℕ → Tree → Type 0) (cs : List Clause) (d : Definition) : Type 0 where
  pub first : Clause
  pub more : List Clause
  pub found : AreOf (called_by d) cs (first ∷ more)
  pub key : d.key ≡ key_of first.head (length first.arguments)
  pub op : All (λ c. c.part.op ≡ d.op) (first ∷ more)
  pub clauses : AreLoaded callees Is (first ∷ more) d.clauses

-- four neighbouring nodes: the variables 0 and 1, the list's cell over these two, and the empty list
pub record IsCell (t : Template) (at : ℕ) : Type 0 where
  pub dot : ℕ
  pub nil : ℕ
  pub dot_is : slice_get t.symbols dot ≡ Some (codes ".")
  pub nil_is : slice_get t.symbols nil ≡ Some (codes "[]")
  pub zero_is : slice_get t.nodes at ≡ Some (Node.Var 0)
  pub one_is : slice_get t.nodes (at + 1) ≡ Some (Node.Var 1)
  pub cell_is : slice_get t.nodes (at + 2) ≡ Some (Node.Struct dot at 2)
  pub empty_is : (first : ℕ) × (slice_get t.nodes (at + 3) ≡ Some (Node.Struct nil first 0))

-- the program that clauses stand for: one definition for each symbol and number of arguments that they define, in order of first occurrence
pub record IsProgramOf (cs : List Clause) (p : Program) : Type 0 where
  pub collected : Collects [] cs (map called_by p.definitions)
  pub definitions : All (IsDefinitionOf (map called_by p.definitions) (IsNodeOf p.templates) cs) p.definitions
  pub cell : IsCell p.templates p.cell
  pub distinct : AreDistinct p.templates.symbols

-- the name begins with an underscore
abbrev pub is_hidden : List ℕ → Bool
is_hidden [] = false
is_hidden (b ∷ name) = b == 95

-- the variables whose names don't begin with an underscore, in order, each with its number; the first name is that of variable n
abbrev pub shown_from : ℕ → List (List ℕ) → List Shown
shown_from n [] = []
shown_from n (w ∷ ws) = if is_hidden w then shown_from (suc n) ws else record { name = w; index = n } ∷ shown_from (suc n) ws

-- the query that a written one stands for over a program, which gains the definitions of lifted clauses and keeps all that it has
pub record IsQueryOf (old : Program) (lifted : List Clause) (q : Query) (new : Program) (loaded : program_query.Query) : Type 0 where
  pub extends : Extends old.templates new.templates
  pub cell : new.cell ≡ old.cell
  pub added : List Definition
  pub definitions_are : new.definitions ≡ old.definitions ++ added
  pub collected : Collects (map called_by old.definitions) lifted (map called_by new.definitions)
  pub definitions : All (IsDefinitionOf (map called_by new.definitions) (IsNodeOf new.templates) lifted) added
  pub variables : loaded.variables ≡ length q.names
  -- the first of the nodes that the program gains are the query's variables, in order
  pub variables_are : (i : ℕ) → i < length q.names → slice_get new.templates.nodes (length old.templates.nodes + i) ≡ Some (Node.Var i)
  pub goals : AreCodes (map called_by new.definitions) (IsNodeOf new.templates) q.goals loaded.goals
  pub shown : loaded.shown ≡ shown_from 0 q.names
  pub distinct : AreDistinct new.templates.symbols
