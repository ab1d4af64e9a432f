-- The variables that the solver follows.
use Rattle.std.specs.Prelude.{◌≡◌, List, [], ◌∷◌, ◌++◌, None, Some}
use Rattle.akl_terms.specs.declared.name.Var.{Var}
use Rattle.akl_terms.specs.declared.term.Node.{Node}
use Rattle.akl_terms.specs.declared.term.Term.{Term}
use Rattle.akl_terms.specs.declared.term.Equation as code
use Rattle.akl_terms.specs.declared.term.Seen.TheVariants.{Free}
use Rattle.akl_terms.specs.Template.{seen_of}
use Rattle.rational_unify.specs.Known.{found_in, IsSolved}
use Rattle.rational_unify.specs.Solving.{BindNew, Solves}
use Rattle.rational_unify.specs.declared.solver.Solution.{Solution}
use Rattle.rational_unify.specs.declared.solver.Solved.{Solved}
use Rattle.rational_unify.specs.Shortened.{Rebinds, KeepsEnds}

-- both lists of bindings give each of these variables the same
abbrev pub AgreeOn : List Var → List (Var × Term) → List (Var × Term) → Type 0
AgreeOn [] bs cs = Unit {0}
AgreeOn (x ∷ xs) bs cs = (found_in bs x ≡ found_in cs x) × AgreeOn xs bs cs

-- the chain of one term leads along these variables to the other term
pub data LeadsAlong (nodes : List Node) (bs : List (Var × Term)) (t : Term) : List Var → Term → Type 0 where
  start : LeadsAlong nodes bs t [] t
  on : {xs : List Var} {s u : Term} {x : Var} → LeadsAlong nodes bs t xs s → Free x ≡ seen_of nodes s → found_in bs x ≡ Some u → LeadsAlong nodes bs t (xs ++ x ∷ []) u

-- the variables along a term's chain, with the one at its end, and the end
pub data IsPath (nodes : List Node) (bs : List (Var × Term)) (t : Term) : List Var → Term → Type 0 where
  headed : {xs : List Var} {s : Term} → LeadsAlong nodes bs t xs s → ((x : Var) → seen_of nodes s ≡ Free x → ⊥) → IsPath nodes bs t xs s
  free : {xs : List Var} {s : Term} {x : Var} → LeadsAlong nodes bs t xs s → Free x ≡ seen_of nodes s → found_in bs x ≡ None → IsPath nodes bs t (xs ++ x ∷ []) s

-- a term's chain leads to the end, and the variables along it were put at the end of a list
pub record Leads (nodes : List Node) (bs : List (Var × Term)) (t : Term) (old new : List Var) (end : Term) : Type 0 where
  pub path : List Var
  pub followed_by : new ≡ old ++ path
  pub leads : IsPath nodes bs t path end

-- each of these variables that is bound is bound to the term
pub data ReboundAll (u : Term) (old : List (Var × Term)) : List Var → List (Var × Term) → Type 0 where
  unchanged : ReboundAll u old [] old
  rebound : {xs : List Var} {cur new : List (Var × Term)} {x : Var} → ReboundAll u old xs cur → Rebinds cur new x u → ReboundAll u old (xs ++ x ∷ []) new

-- a term's chain was followed to its end, and the first variables on it, where they are bound, were bound to the end
pub record Follows (nodes : List Node) (known : List (Var × Term)) (t : Term) (old new : List (Var × Term)) (followed followed' : List Var) (end : Term) : Type 0 where
  pub path : List Var
  pub followed_by : followed' ≡ followed ++ path
  pub leads : IsPath nodes (known ++ old) t path end
  pub first : List Var
  pub others : List Var
  pub parts : path ≡ first ++ others
  pub rebound_by : ReboundAll end old first new

-- over the known bindings, and over any others that give the followed variables the same, each chain ends where it did
pub record Settles (nodes : List Node) (known old new : List (Var × Term)) (followed followed' : List Var) : Type 0 where
  pub path : List Var
  pub followed_by : followed' ≡ followed ++ path
  pub keeps : (other : List (Var × Term)) → IsSolved nodes (other ++ old) → BindNew other old → AgreeOn path known other → KeepsEnds nodes other old new

-- what was found holds over any solved form that gives each of these variables what the known bindings give it
abbrev pub SolvesAlong : List Node → List (Var × Term) → List code.Equation → List Var → Solved → Type 0
SolvesAlong nodes known es followed solved = (other : List (Var × Term)) → IsSolved nodes other → AgreeOn followed known other → Solves nodes other es solved

-- the answer holds too over any other solved form that gives each followed variable what the known bindings give it
abbrev pub SolvesAlso : List Node → List (Var × Term) → List code.Equation → Solution → Type 0
SolvesAlso nodes known es s = SolvesAlong nodes known es s.followed.items s.solved
