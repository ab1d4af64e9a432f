use Rattle.reading_laws.proofs.SeenIdle as law
use Rattle.reading_laws.proofs.of_idle.idle_goals.Goals as goal

pub returns : goal.returns
returns c = record {
  seen = law.seen_idle;
  scoped = law.scoped_stays;
  ends = λ rules p q journal k r place kept scoped oldest. (law.kept_ends rules p q journal k r place kept scoped oldest, law.kept_old rules p q journal k r place kept scoped oldest);
}
