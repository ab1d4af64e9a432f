use Rattle.guard_plan.proofs.Chosen.{cut_testable, cut_none}
use Rattle.guard_plan.proofs.Noises.{noise_of_cut}
use Rattle.guard_plan.proofs.cutting.cut.Goals as goal

pub first_quiet-requires-clause-testable : goal.first_quiet-requires-clause-testable
first_quiet-requires-clause-testable c = rw (c.stores.ensures, c.candidates-candidates.ensures, c.alternatives.ensures.alternatives, c.requires.program)
    (cut_testable c.args.view.now c.alternatives.ensures.seen c.args.goal c.args.op c.requires.place c.requires.sight)

pub returns-in_default : goal.returns-in_default
returns-in_default c =
    let noisy = rw (c.in_default.is, c.stores.ensures, c.candidates-candidates.ensures, c.alternatives.ensures.alternatives, c.requires.program) at c.in_ok-found.ensures in (
      cut_none c.args.view.now c.alternatives.ensures.seen c.args.goal c.args.op c.requires.place c.requires.sight c.requires.guarded c.requires.not_one noisy.0,
      noise_of_cut c.args.view.now c.args.op c.requires.guarded c.requires.sight c.first_quiet.new.noise.items c.requires.not_one noisy.1,
    )

pub cut_by-requires-clause-cuts : goal.cut_by-requires-clause-cuts
cut_by-requires-clause-cuts c = record {
  op = c.args.op;
  is_choice = c.requires.sight;
  not_one = c.requires.not_one;
  quiet = rw (c.in-Some.is, c.stores.ensures, c.candidates-candidates.ensures, c.alternatives.ensures.alternatives, c.requires.program) at c.in_ok-found.ensures;
}
