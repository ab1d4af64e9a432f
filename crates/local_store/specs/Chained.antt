-- Chains of stores.
use Rattle.std.specs.Prelude.{◌≡◌, None, ℕ, ◌+◌, ◌≤◌, cond, List, [], ◌∷◌, ◌++◌, length, take}
use Rattle.akl_terms.specs.declared.name.Name.{Name}
use Rattle.akl_terms.specs.declared.name.Var.{Var}
use Rattle.akl_terms.specs.declared.term.Node.{Node}
use Rattle.akl_terms.specs.declared.term.Term.{Term}
use Rattle.akl_terms.specs.Names.{same_var}
use Rattle.akl_terms.specs.Tree.{Tree}
use Rattle.akl_terms.specs.Equal.{Equations, IsTold}
use Rattle.rational_unify.specs.Known.{found_in}
use Rattle.rational_unify.specs.Solving.{bindings_in}
use Rattle.rational_unify.specs.Older.{LeadOlder}
use Rattle.rational_unify.specs.Forms.{IsFormOf}
use Rattle.local_store.specs.Stored.{Stored, nothing}

-- the nodes and symbols of the templates, the stores from the root box inwards, and how many of the outermost are known to be solved together
pub record Chained : Type 0 where
  pub nodes : List Node
  pub symbols : List (List ℕ)
  pub stores : List Stored
  pub known : ℕ

-- all bindings of these stores, those of inner stores first, so that the first binding of a variable is that of the innermost store that has one
abbrev pub bindings_from : List Stored → List (Var × Term)
bindings_from [] = []
bindings_from (s ∷ ss) = bindings_from ss ++ s.bindings

-- no variable of a frame is bound
abbrev pub BindNone : List (Var × Term) → Name → Type 0
BindNone bs frame = (x : Var) → x.frame ≡ frame → found_in bs x ≡ None

-- all bindings of stores as equations
abbrev pub equations_of : List Node → List Stored → Equations
equations_of nodes ss = bindings_in nodes (bindings_from ss)

-- the equations that stores stand for: all of their bindings
abbrev pub ToldBy : List Node → List Stored → Tree → Tree → Type 0
ToldBy nodes ss = IsTold (equations_of nodes ss)

-- what is found is a solved form of all that the stores stand for
abbrev pub IsFormChain : List Node → List Stored → Type 0
IsFormChain nodes ss = IsFormOf nodes (bindings_from ss) (ToldBy nodes ss)

-- how many bindings a variable has
abbrev pub times_bound : Var → List (Var × Term) → ℕ
times_bound x [] = 0
times_bound x (b ∷ bs) = cond (same_var b.0 x) 1 0 + times_bound x bs

-- no variable is bound twice
pub record BindOnce (bs : List (Var × Term)) : Type 0 where
  pub each : (x : Var) → times_bound x bs ≤ 1

-- and it leads from younger variables to older ones, and no variable is bound twice, in one of the stores or in two
pub record IsSolvedChain (nodes : List Node) (ss : List Stored) : Type 0 where
  pub form : IsFormChain nodes ss
  pub older : LeadOlder nodes (bindings_from ss)
  pub once : BindOnce (bindings_from ss)

-- as far as is known each chain of the outermost stores is solved
pub record IsKnown (nodes : List Node) (ss : List Stored) (known : ℕ) : Type 0 where
  pub within : known ≤ length ss
  pub each : (k : ℕ) → k ≤ known → IsSolvedChain nodes (take k ss)

-- the innermost store
abbrev pub innermost : List Stored → Stored
innermost [] = nothing
innermost (s ∷ []) = s
innermost (s ∷ t ∷ ss) = innermost (t ∷ ss)

-- the stores around it
abbrev pub around : List Stored → List Stored
around [] = []
around (s ∷ []) = []
around (s ∷ t ∷ ss) = s ∷ around (t ∷ ss)

-- another one in the innermost place
abbrev pub replaced : List Stored → Stored → List Stored
replaced ss s = around ss ++ s ∷ []
