use Rattle.std.proofs.Common.{sym, refl}
use Rattle.akl_run.specs.Reports.{RunStops, no_memory}
use Rattle.akl_run.proofs.Loading.{stops_as}
use Rattle.akl_run.proofs.evaluate.evaluate.Goals as goal

pub returns-in-Err-clause-stop : goal.returns-in-Err-clause-stop
returns-in-Err-clause-stop g c = stops_as RunStops _ _ c.from.result c.from.ensures no_memory

pub returns-in-Ok-clause-run : goal.returns-in-Ok-clause-run
returns-in-Ok-clause-run g c = record {
  ended = record { program = sym c.in-Ok.ensures.run.program; ends = c.in-Ok.ensures.run.ends; models = c.in-Ok.ensures.models };
  program = c.in-Ok.ensures.run.program;
  query = c.in-Ok.ensures.run.query;
  same_budget = c.in-Ok.ensures.run.same_budget;
  of_workers = c.in-Ok.ensures.run.of_workers;
  same_flags = refl;
}
