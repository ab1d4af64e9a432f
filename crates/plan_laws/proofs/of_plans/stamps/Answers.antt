use Rattle.plan_laws.proofs.StampLaws as law
use Rattle.plan_laws.proofs.of_plans.stamps.Goals as goal

pub returns : goal.returns
returns c = record {
  one = law.one_stamp;
  first = law.first_stamp;
  new_one = law.new_stamp;
  old_one = law.old_stamp;
  stamped = law.stamped;
  leads_on = law.stamped_right;
  sleeps = law.stamped_idle;
}
