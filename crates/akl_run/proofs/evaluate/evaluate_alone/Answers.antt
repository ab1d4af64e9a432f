use Rattle.std.proofs.Common.{sym, subst}
use Rattle.akl_args.specs.declared.flag.Flags.{Flags}
use Rattle.akl_run.specs.Runs.{AreModels}
use Rattle.akl_run.proofs.evaluate.evaluate_alone.Goals as goal

pub returns : goal.returns
returns c = record {
  ended = record { program = sym c.in_ok-core.ensures.program; ends = c.in_ok-core.ensures.ends; models = λ t answers are. subst (λ (f : Flags). AreModels f.model answers c.new.result.items) (sym c.none.ensures) c.new.ensures.items };
  program = c.in_ok-core.ensures.program;
  query = c.in_ok-core.ensures.query;
  same_budget = c.in_ok-core.ensures.same_budget;
  of_workers = c.in_ok-core.ensures.of_workers;
  same_flags = c.none.ensures;
}
