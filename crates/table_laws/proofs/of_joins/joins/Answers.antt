use Rattle.table_laws.proofs.StillJoins as law
use Rattle.table_laws.proofs.of_joins.joins.Goals as goal

pub returns : goal.returns
returns c = record {
  told = λ rules run T t c ls w l e a r g told is part stands row there new joined solved. law.joins_later rules run T t c ls w l e a r g told is part stands row there new joined solved;
  joined = λ rules run T t c ls w l e a r g joined is part stands row there new both solved. law.joined_later rules run T t c ls w l e a r g joined is part stands row there new both solved;
}
