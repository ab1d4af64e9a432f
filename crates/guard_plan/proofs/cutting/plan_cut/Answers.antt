use Rattle.guard_plan.proofs.Chosen.{cut_testable}
use Rattle.guard_plan.proofs.cutting.plan_cut.Goals as goal

pub has_quiet-requires : goal.has_quiet-requires
has_quiet-requires c = record {
  testable = rw (c.stores.ensures, c.candidates-candidates.ensures, c.alternatives-alternatives.ensures.alternatives, c.requires.program)
      (cut_testable c.args.view.now c.alternatives-alternatives.ensures.seen c.args.goal c.args.op c.requires.place c.requires.sight);
}

pub cut_by-requires-clause-cuts : goal.cut_by-requires-clause-cuts
cut_by-requires-clause-cuts c = record {
  op = c.args.op;
  is_choice = c.requires.sight;
  not_one = rw c.alternatives-alternatives.ensures.alternatives at c.if-alternatives-eq1.false;
  quiet = (rw (c.stores.ensures, c.candidates-candidates.ensures, c.alternatives-alternatives.ensures.alternatives, c.requires.program) at c.in_ok-has_quiet.ensures) c.if-not-branch.false;
}
