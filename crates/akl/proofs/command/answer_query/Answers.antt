use Rattle.akl.proofs.command.answer_query.Goals as goal

pub returns : goal.returns
returns g c = record {
  report = c.run_akl-report.result;
  reported = c.run_akl-report.ensures;
  status = c.of_command.ensures.status;
  line = c.of_command.ensures.line;
}
