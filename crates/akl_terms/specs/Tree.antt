-- Terms as trees.
use Rattle.std.specs.Prelude.{ℕ, ℤ, List, [], ◌∷◌, length, Option, Some, None}
use Rattle.akl_terms.specs.declared.name.Name.{Name}
use Rattle.akl_terms.specs.declared.name.Var.{Var}

-- a variable, an integer, a port name, or a symbol with terms as its arguments
mutual
  pub data Tree : Type 0 where
    variable : Var → Tree
    integer : ℤ → Tree
    port : Name → Tree
    symbol : ℕ → Trees → Tree

  pub data Trees : Type 0 where
    none : Trees
    more : Tree → Trees → Trees

-- the terms in order
abbrev pub list_of : Trees → List Tree
list_of none = []
list_of (more t ts) = t ∷ list_of ts

-- the head of a term: its integer, its port name, or its symbol with its number of arguments
pub data Head : Type 0 where
  integer_head : ℤ → Head
  port_head : Name → Head
  symbol_head : ℕ → ℕ → Head

-- a variable has no head
abbrev pub head_of : Tree → Option Head
head_of (variable x) = None
head_of (integer n) = Some (integer_head n)
head_of (port p) = Some (port_head p)
head_of (symbol f ts) = Some (symbol_head f (length (list_of ts)))

-- the arguments in order
abbrev pub arguments : Tree → List Tree
arguments (variable x) = []
arguments (integer n) = []
arguments (port p) = []
arguments (symbol f ts) = list_of ts
