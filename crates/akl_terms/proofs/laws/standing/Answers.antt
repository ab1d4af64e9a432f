use Rattle.akl_terms.proofs.StandingLaws.{StandFor-follows, StandFor-back, StandFor-on, same_equal}
use Rattle.akl_terms.proofs.laws.standing.Goals as goal

pub returns : goal.returns
returns c = record {
  followed = λ E F f g. StandFor-follows (λ s t m. f.each m) (λ s t m. g.each m);
  back = λ E F h. StandFor-back h;
  on = λ E F G h k. StandFor-on h k;
  equal = λ E F h c s t m f. same_equal s t (h.same_to c s t m) f;
}
