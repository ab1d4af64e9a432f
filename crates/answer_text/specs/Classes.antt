-- What stands for each class of equal terms.
use Rattle.std.specs.Prelude.{◌≡◌}
use Rattle.akl_terms.specs.declared.name.Var.{Var}
use Rattle.akl_terms.specs.Tree.{Tree, variable}
use Rattle.akl_terms.specs.Equal.{Equations, Equal, IsConsistent}
use Rattle.answer_text.specs.Printed.{IsFree}

-- the equations are consistent, and go leads from each term to what stands for it: an equal term, which is a variable
-- only where the term is equal to nothing else, and then one variable for each class
pub record Represents (E : Equations) (go : Tree → Tree) : Type 0 where
  pub consistent : IsConsistent E
  pub equal : (t : Tree) → Equal E t (go t)
  pub free : (t : Tree) (x : Var) → go t ≡ variable x → IsFree E t
  pub one : (s t : Tree) (x y : Var) → go s ≡ variable x → go t ≡ variable y → Equal E s t → x ≡ y
  pub stays : (t : Tree) (x : Var) → go t ≡ variable x → go (variable x) ≡ variable x
