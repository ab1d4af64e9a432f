-- The models of root boxes.
use Rattle.std.specs.Prelude.{ℕ, List, map, Option, Some, None}
use Rattle.akl_terms.specs.declared.name.Name.{Name}
use Rattle.akl_terms.specs.Tree.{Tree}
use Rattle.akl_terms.specs.Equal.{Equations, IsTold}
use Rattle.akl_terms.specs.Standing.{StandFor}
use Rattle.akl_model.specs.Config.{Content, ShownTree}
use Rattle.akl_model.specs.Derivations.{IsAnswer}
use Rattle.step_commit.specs.Cores.{CoreValue}
use Rattle.tree_models.specs.declared.model.TreeModel.{TreeModel}
use Rattle.tree_models.specs.Solutions.{IsModel}
use Rattle.tree_models.specs.Texts.{IsModelText}
use Rattle.root_answers.specs.Roots.{symbols_of, OfRoot}

-- the terms that a box shows, and their names
abbrev pub trees_shown : Content → List Tree
trees_shown b = map (λ (s : ShownTree). s.tree) b.shown

abbrev pub names_shown : Content → List (List ℕ)
names_shown b = map (λ (s : ShownTree). s.text) b.shown

-- the model of a box is that of equations for which the box's stand, and of the terms that the box shows
pub record IsModelOf (b : Content) (m : TreeModel) : Type 0 where
  pub equations : Equations
  pub stand : StandFor (IsTold b.equations) (IsTold equations)
  pub model : IsModel equations (trees_shown b) m

-- the root box is an answer of this model, or none
abbrev pub HasModel : CoreValue → Name → Option TreeModel → Type 0
HasModel c name None = OfRoot c name (λ b gs. IsAnswer b gs → ⊥)
HasModel c name (Some m) = OfRoot c name (λ b gs. IsAnswer b gs × IsModelOf b m)

-- where this is the model of the root box, its text is this one
abbrev pub HasModelText : CoreValue → Name → TreeModel → List ℕ → Type 0
HasModelText c name m text = OfRoot c name (λ b gs. IsModelOf b m → IsModelText (symbols_of c) (names_shown b) m text)
