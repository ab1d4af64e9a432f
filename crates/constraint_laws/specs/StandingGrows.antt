-- What stands for equations goes on to stand for them where both sides grow alike.
use Rattle.std.specs.Prelude.{◌++◌}
use Rattle.akl_terms.specs.Tree.{Tree}
use Rattle.akl_terms.specs.Equal.{Equations, IsTold}
use Rattle.akl_terms.specs.Standing.{StandFor}

-- each equation of the first list is one of the second
pub record AreToldIn (E F : Equations) : Type 0 where
  pub each : (s t : Tree) → IsTold E s t → IsTold F s t

-- order and repetition don't matter
abbrev pub SameToldStandsLaw : Type 0
SameToldStandsLaw = (E F : Equations) → AreToldIn E F → AreToldIn F E → StandFor (IsTold E) (IsTold F)

-- with the same equations behind, or in front
abbrev pub StandsWithMoreLaw : Type 0
StandsWithMoreLaw = (E F G : Equations) → StandFor (IsTold E) (IsTold F) → StandFor (IsTold (E ++ G)) (IsTold (F ++ G))

abbrev pub StandsAfterMoreLaw : Type 0
StandsAfterMoreLaw = (E F G : Equations) → StandFor (IsTold E) (IsTold F) → StandFor (IsTold (G ++ E)) (IsTold (G ++ F))

-- what own equations come to over a form of the environment, they come to over the environment
abbrev pub StandsOverLaw : Type 0
StandsOverLaw = (D E B F : Equations) → StandFor (IsTold D) (IsTold E) → StandFor (IsTold (E ++ B)) (IsTold (E ++ F)) → StandFor (IsTold (D ++ B)) (IsTold (E ++ F))

-- and what they come to over some equations, they come to where more is told
abbrev pub StandsWithinLaw : Type 0
StandsWithinLaw = (E B F G : Equations) → AreToldIn E G → StandFor (IsTold (E ++ B)) (IsTold (E ++ F)) → StandFor (IsTold (G ++ B)) (IsTold (G ++ F))
