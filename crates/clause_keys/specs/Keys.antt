-- What names a definition.
use Rattle.std.specs.Prelude.{◌≡◌, ℕ, List, [], ◌∷◌, ◌++◌, length, slice_get, Option, Some, None}
use Rattle.akl_terms.specs.declared.program.Clause as program
use Rattle.akl_terms.specs.declared.program.Key.{Key}
use Rattle.akl_terms.specs.declared.program.Definition.{Definition}
use Rattle.akl_terms.specs.declared.program.Op.{Op}
use Rattle.akl_terms.specs.declared.program.Op.TheVariants as ops
use Rattle.akl_syntax.specs.declared.source.Head.{Head}
use Rattle.akl_syntax.specs.declared.source.Head.TheVariants as heads
use Rattle.akl_syntax.specs.Clauses.{Clause}
use Rattle.clause_keys.specs.declared.callee.Callee.{Callee}
use Rattle.clause_keys.specs.declared.callee.Callee.TheVariants.{Named, Lifted, Collecting}

-- a symbol with so many arguments
abbrev pub named : List ℕ → ℕ → Callee
named s n = Named (record { symbol = s; arity = n })

-- the lifted definition of a number and an operator, with so many arguments
abbrev pub lifted_by : Op → ℕ → ℕ → Callee
lifted_by ops.Collect number n = Collecting number n
lifted_by _ number n = Lifted number n

-- what a head with so many arguments defines, in a clause of an operator
abbrev pub by_head : Op → Head → ℕ → Callee
by_head op (heads.Named s) n = named s n
by_head op (heads.Lifted number inside) n = lifted_by op number n

-- the key of a head with so many arguments; what is lifted has that of the definition in which it was written
abbrev pub key_of : Head → ℕ → Key
key_of (heads.Named s) n = record { symbol = s; arity = n }
key_of (heads.Lifted number inside) n = inside

-- what a clause defines
unfoldable pub defined_by : Clause → Callee
defined_by c = by_head c.part.op c.head (length c.arguments)

-- how many arguments the clauses of one definition have, which is as many as the first has
abbrev pub arity_of : List program.Clause → ℕ
arity_of [] = 0
arity_of (c ∷ cs) = c.count

-- what calls a definition: its key, or, where it is lifted, its number with its operator and its number of arguments
abbrev pub called : Op → Option ℕ → Key → ℕ → Callee
called op None key n = Named key
called op (Some number) key n = lifted_by op number n

abbrev pub called_by : Definition → Callee
called_by d = called d.op d.lifted d.key (arity_of d.clauses)

-- no two definitions are called by the same
pub record AreUnique (callees : List Callee) : Type 0 where
  pub one : (i j : ℕ) (callee : Callee) → slice_get callees i ≡ Some callee → slice_get callees j ≡ Some callee → i ≡ j

-- nothing in the list is this
pub record IsAbsent (callees : List Callee) (callee : Callee) : Type 0 where
  pub absent : (d : ℕ) → slice_get callees d ≡ Some callee → ⊥

-- this has the number: it had it before, and nothing changed, or it is the next
pub data Adds (old : List Callee) (callee : Callee) : List Callee → ℕ → Type 0 where
  known : {d : ℕ} → slice_get old d ≡ Some callee → Adds old callee old d
  next : IsAbsent old callee → Adds old callee (old ++ callee ∷ []) (length old)

-- what clauses define, each once, in order of first occurrence, behind what is known already
pub data Collects : List Callee → List Clause → List Callee → Type 0 where
  nothing : {callees : List Callee} → Collects callees [] callees
  next : {callees more all : List Callee} {c : Clause} {cs : List Clause} {d : ℕ} → Adds callees (defined_by c) more d → Collects more cs all → Collects callees (c ∷ cs) all
