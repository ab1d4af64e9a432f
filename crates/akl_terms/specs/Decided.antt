-- The positive halves of what fails.
use Rattle.std.specs.Prelude.{◌≡◌, ◌≢◌, Some}
use Rattle.akl_terms.specs.Tree.{Tree, Head, head_of}
use Rattle.akl_terms.specs.Equal.{Equations, EqualBy, IsTold}

-- two terms that aren't variables and differ in head
pub record DifferInHead (s t : Tree) : Type 0 where
  pub left : Head
  pub right : Head
  pub is_left : head_of s ≡ Some left
  pub is_right : head_of t ≡ Some right
  pub differ : left ≢ right

-- inconsistent, with the two terms that show it: they are equal and differ in head
pub record IsClash (R : Tree → Tree → Type 0) : Type 0 where
  pub left : Tree
  pub right : Tree
  pub equal : EqualBy R left right
  pub differ : DifferInHead left right

abbrev pub Contradicts : Equations → Type 0
Contradicts E = IsClash (IsTold E)
