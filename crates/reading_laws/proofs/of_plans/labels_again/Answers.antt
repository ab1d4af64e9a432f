use Rattle.reading_laws.proofs.AtomRight as atom
use Rattle.reading_laws.proofs.Guards as guards
use Rattle.reading_laws.proofs.FailRight as fail
use Rattle.reading_laws.proofs.SplitRight as split
use Rattle.reading_laws.proofs.of_plans.labels_again.Goals as goal

pub returns : goal.returns
returns c = record {
  atoms = λ rules p c ls d w l e a none g kind place u. atom.atom_right rules p c ls d w l e a none g place u kind;
  collect = λ rules p c ls d w l e a none g rule place u. atom.collect_right rules p c ls d w l e a none g place u rule;
  guards = guards.root_guard_right;
  inner_guards = guards.inner_guard_right;
  fail = fail.fail_right;
  split = split.split_right;
}
