-- What is written of variables by solved forms and by chains of stores.
use Rattle.std.specs.Prelude.{◌≡◌, ℕ, List, ◌++◌, map}
use Rattle.akl_terms.specs.declared.name.Var.{Var}
use Rattle.akl_terms.specs.declared.term.Node.{Node}
use Rattle.akl_terms.specs.declared.term.Term.{Term}
use Rattle.akl_terms.specs.declared.program.ShownTerm.{ShownTerm}
use Rattle.akl_terms.specs.Tree.{Tree, variable}
use Rattle.akl_terms.specs.Equal.{Equations, IsTold, IsStructured}
use Rattle.akl_terms.specs.Standing.{StandFor}
use Rattle.rational_unify.specs.Known.{end_of}
use Rattle.local_store.specs.Stored.{Stored}
use Rattle.local_store.specs.Chained.{ToldBy}
use Rattle.box_tree.specs.Tables.{shown_tree}
use Rattle.why_report.specs.Texts.{IsNameOf, IsVariableText}

-- a variable whose chain ends in a variable is written by the ends of chains
abbrev pub IsEndText : List Node → List (Var × Term) → List ShownTerm → Var → List ℕ → Type 0
IsEndText nodes bs shown x text = (r : Var) → end_of nodes bs (variable x) ≡ variable r → IsNameOf (λ (t : Tree). end_of nodes bs t ≡ variable r) x (map (shown_tree nodes) shown) text

-- a variable is written by all equations for which the stores of a chain stand, where these leave it unstructured
abbrev pub IsChainText : List Node → List Stored → List ShownTerm → Var → List ℕ → Type 0
IsChainText nodes ss shown x text = (E : Equations) → StandFor (ToldBy nodes ss) (IsTold E) → (IsStructured E x → ⊥) → IsVariableText E (map (shown_tree nodes) shown) x text

-- a text comes to the end of what is there
abbrev pub Adds : (List ℕ → Type 0) → List ℕ → List ℕ → Type 0
Adds IsText old new = (text : List ℕ) × IsText text × (new ≡ old ++ text)
