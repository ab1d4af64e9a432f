use Rattle.akl_terms.proofs.EqualLaws.{Equal-follows, Follows-derived, IsConsistent-follows}
use Rattle.akl_terms.proofs.laws.equality.Goals as goal

pub returns : goal.returns
returns c = record {
  grows = λ E F f s t e. Equal-follows f e;
  derived = λ E a b d s t e. Equal-follows (Follows-derived d) e;
  fewer = λ E F f k. IsConsistent-follows f k;
}
