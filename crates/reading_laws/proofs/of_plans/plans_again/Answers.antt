use Rattle.reading_laws.proofs.Plans as law
use Rattle.reading_laws.proofs.of_plans.plans_again.Goals as goal

pub returns : goal.returns
returns c = record {
  atoms = λ rules p c ls d w l e a none g kind place list bound u. law.atom_plan rules p c ls d w l e a none g list bound u kind place;
  collect = λ rules p c ls d w l e a none g rule place list bound u. law.collect_plan rules p c ls d w l e a none g list bound u rule place;
  choices = λ rules p c ls d w l e a none g n kind place alternative list bound u v. law.choice_plan rules p c ls d w l e a none g list bound u n kind place alternative v;
}
