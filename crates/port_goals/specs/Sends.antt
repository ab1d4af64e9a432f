-- What the port operand of a send is.
use Rattle.std.specs.Prelude.{◌≡◌, List, Some, true, false, is_some}
use Rattle.std.specs.Map.{lookup}
use Rattle.akl_terms.specs.declared.name.Name.{Name}
use Rattle.akl_terms.specs.declared.term.Node.{Node}
use Rattle.akl_terms.specs.declared.term.Term.TheVariants.{Mol}
use Rattle.akl_terms.specs.declared.program.Code.{Code}
use Rattle.akl_terms.specs.declared.program.Goal.{Goal}
use Rattle.akl_terms.specs.Names.{same_name}
use Rattle.akl_terms.specs.Tree.{Tree, variable, port, Head, head_of}
use Rattle.akl_terms.specs.Equal.{EqualBy}
use Rattle.akl_terms.specs.Solved.{IsUnstructured}
use Rattle.akl_terms.specs.Template.{tree}
use Rattle.local_store.specs.Stored.{Stored}
use Rattle.local_store.specs.Chained.{ToldBy, innermost}
use Rattle.local_store.specs.Asking.{end_in}
use Rattle.port_goals.specs.declared.send.SendState.{SendState}
use Rattle.port_goals.specs.declared.send.SendState.TheVariants.{Owned, Elsewhere, Waits, NoPort}

abbrev pub IsSend : Code → Type 0
IsSend (Code.Send message at) = Unit {0}
IsSend code = ⊥

-- a term that is no variable, and no port, is equal to it
pub record IsNoPort (R : Tree → Tree → Type 0) (t : Tree) : Type 0 where
  pub other : Tree
  pub head : Head
  pub equal : EqualBy R t other
  pub is_head : head_of other ≡ Some head
  pub none : (p : Name) → EqualBy R t (port p) → ⊥

-- what a term is under the equations of stores: a port that the innermost store has, another port, unstructured and equal to a variable, or none of these
abbrev pub IsState : List Node → List Stored → Tree → SendState → Type 0
IsState nodes ss t (Owned p) = EqualBy (ToldBy nodes ss) t (port p) × (is_some (lookup (same_name p) (innermost ss).ports) ≡ true)
IsState nodes ss t (Elsewhere p) = EqualBy (ToldBy nodes ss) t (port p) × (is_some (lookup (same_name p) (innermost ss).ports) ≡ false)
IsState nodes ss t (Waits x) = EqualBy (ToldBy nodes ss) t (variable x) × IsUnstructured (ToldBy nodes ss) t
IsState nodes ss t NoPort = IsNoPort (ToldBy nodes ss) t

-- the port operand of a send is in this state
abbrev pub IsStateOf : List Node → List Stored → Goal → SendState → Type 0
IsStateOf nodes ss goal state = at goal.code
  where
    at : Code → Type 0
    at (Code.Send message p) = IsState nodes ss (tree nodes (Mol p goal.frame)) state
    at code = ⊥

-- the end of the operand's chain of bindings is the port, or the variable that it waits on
abbrev pub IsEnd : Tree → SendState → Type 0
IsEnd end (Owned p) = end ≡ port p
IsEnd end (Elsewhere p) = end ≡ port p
IsEnd end (Waits x) = end ≡ variable x
IsEnd end NoPort = Unit {0}

abbrev pub EndsIn : List Node → List Stored → Goal → SendState → Type 0
EndsIn nodes ss goal state = at goal.code
  where
    at : Code → Type 0
    at (Code.Send message p) = IsEnd (end_in nodes ss (Mol p goal.frame)) state
    at code = ⊥
