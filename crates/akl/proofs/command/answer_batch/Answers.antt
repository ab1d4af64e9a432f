use Rattle.akl.proofs.command.answer_batch.Goals as goal

pub returns : goal.returns
returns g c = record {
  report = c.run_batch-report.result;
  reported = c.run_batch-report.ensures;
  status = c.of_command.ensures.status;
  line = c.of_command.ensures.line;
}
