-- Equations that stand for others: a solved form, written as the equations of its bindings, stands for those that it was made of.
use Rattle.akl_terms.specs.Tree.{Tree}
use Rattle.akl_terms.specs.Equal.{Equations, IsTold, Equal, Follows, IsConsistent, IsConsistentBy}
use Rattle.akl_terms.specs.Solved.{SameTree, IsUnstructured}

-- both are consistent or neither is, and where they are, the same terms are the same trees
pub record StandFor (R S : Tree → Tree → Type 0) : Type 0 where
  pub to : IsConsistentBy R → IsConsistentBy S
  pub back : IsConsistentBy S → IsConsistentBy R
  pub same_to : IsConsistentBy R → (s t : Tree) → SameTree R s t → SameTree S s t
  pub same_back : IsConsistentBy R → (s t : Tree) → SameTree S s t → SameTree R s t

-- lists of equations that follow from each other stand for each other
abbrev pub FollowedStandsLaw : Type 0
FollowedStandsLaw = (E F : Equations) → Follows E F → Follows F E → StandFor (IsTold E) (IsTold F)

abbrev pub StandsBackLaw : Type 0
StandsBackLaw = (E F : Equations) → StandFor (IsTold E) (IsTold F) → StandFor (IsTold F) (IsTold E)

abbrev pub StandsOnLaw : Type 0
StandsOnLaw = (E F G : Equations) → StandFor (IsTold E) (IsTold F) → StandFor (IsTold F) (IsTold G) → StandFor (IsTold E) (IsTold G)

-- terms that are the same tree under the first, and aren't structured under the second, are equal under the second
abbrev pub EqualStandsLaw : Type 0
EqualStandsLaw = (E F : Equations) → StandFor (IsTold E) (IsTold F) → IsConsistent E → (s t : Tree) → SameTree (IsTold E) s t
    → IsUnstructured (IsTold F) s → Equal F s t
