-- What a choice that collects makes of its alternatives: what all of them have, and the list.
use Rattle.std.specs.Prelude.{◌≡◌, ℕ, ◌+◌, List, [], ◌∷◌, ◌++◌, Option, Some, None, is_some, true}
use Rattle.std.specs.List.{AllByRecursion}
use Rattle.akl_terms.specs.declared.name.Name.{Name}
use Rattle.akl_terms.specs.declared.name.Var.{Var}
use Rattle.akl_terms.specs.declared.term.Node.{Node}
use Rattle.akl_terms.specs.declared.term.Term.{Term}
use Rattle.akl_terms.specs.declared.term.Term.TheVariants.{Mol}
use Rattle.akl_terms.specs.declared.term.Equation.{Equation}
use Rattle.akl_terms.specs.declared.program.Program.{Program}
use Rattle.akl_terms.specs.Template.{tree}
use Rattle.akl_model.specs.Rules.{empty_list}
use Rattle.local_store.specs.Parts.{ToldStore, all_ports}
use Rattle.local_store.specs.Stored.{Stored, all_named, nothing, with_bindings}
use Rattle.local_store.specs.Chained.{innermost}
use Rattle.local_store.specs.Telling.{AnswersTold}
use Rattle.local_store.specs.Promoting.{AnswersPromoted}
use Rattle.box_tree.specs.declared.view.Alternative.{Alternative}

-- each alternative has a collected term
abbrev pub AreCollected : List Alternative → Type 0
AreCollected seen = AllByRecursion (λ a. is_some a.collected ≡ true) seen

-- the frames of alternatives, behind each its new frame, by a worker's names from a number on
abbrev pub frames_of : ℕ → ℕ → List Alternative → List Name
frames_of w n [] = []
frames_of w n (a ∷ rest) = a.store.frames ++ record { worker = w; number = n } ∷ frames_of w (n + 1) rest

abbrev pub ports_of : List Alternative → List (Name × Term)
ports_of [] = []
ports_of (a ∷ rest) = a.store.ports ++ ports_of rest

abbrev pub bindings_of : List Alternative → List (Var × Term)
bindings_of [] = []
bindings_of (a ∷ rest) = a.store.bindings ++ bindings_of rest

-- a term is the list cell of a new frame, of which the first variable is the collected term
abbrev pub cell_equations : ℕ → Name → Term → Option Term → List Equation
cell_equations cell frame list None = []
cell_equations cell frame list (Some t) = record { left = list; right = Mol (cell + 2) frame } ∷ record { left = Mol cell frame; right = t } ∷ []

-- a term is the list of what is collected, which ends in another one
abbrev pub list_equations : ℕ → Term → ℕ → ℕ → Term → List Alternative → List Equation
list_equations cell last w n list [] = record { left = list; right = last } ∷ []
list_equations cell last w n list (a ∷ rest) =
    cell_equations cell (record { worker = w; number = n }) list a.collected ++ list_equations cell last w (n + 1) (Mol (cell + 1) (record { worker = w; number = n })) rest

-- the bindings of all, to which equations are told over the stores of a path
pub record IsToldInner (nodes : List Node) (path : List Stored) (known : ℕ) (seen : List Alternative) (es : List Equation) (inner : Stored) : Type 0 where
  pub answer : ToldStore
  pub told : AnswersTold nodes (path ++ with_bindings nothing (bindings_of seen) ∷ []) known es answer
  pub store : inner ≡ answer.store

-- the same joins the innermost store of the path, with these frames and the ports of all
pub record IsJoined (nodes : List Node) (path : List Stored) (known : ℕ) (seen : List Alternative) (fs : List Name) (es : List Equation) (answer : ToldStore) : Type 0 where
  pub inner : Stored
  pub told : IsToldInner nodes path known seen es inner
  pub joined : ToldStore
  pub promoted : AnswersPromoted nodes (path ++ inner ∷ []) known joined
  pub frames : answer.store.frames ≡ all_named (innermost path).frames fs
  pub ports : answer.store.ports ≡ all_ports (innermost path).ports (ports_of seen)
  pub bindings : answer.store.bindings ≡ joined.store.bindings
  pub solved : answer.solved ≡ joined.solved
  pub bound : answer.bound ≡ joined.bound

-- these equations are told of the list, which ends in the empty one
pub record IsList (p : Program) (first : Name) (list : Term) (seen : List Alternative) (es : List Equation) : Type 0 where
  pub collected : AreCollected seen
  pub last : Term
  pub is_last : tree p.templates.nodes last ≡ empty_list p
  pub equations : es ≡ list_equations p.cell last first.worker first.number list seen
