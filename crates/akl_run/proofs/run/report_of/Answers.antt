use Rattle.std.proofs.Common.{refl, rules}
use Rattle.akl_run.specs.Outputs.{outlet}
use Rattle.akl_run.proofs.Evaluated.{report_written}
use Rattle.akl_run.proofs.run.report_of.Goals as goal

-- the output holds the sink that was lent to it, so what the sink is in the end is what the output left
pub returns : goal.returns
returns g c =
    record {
      refusal = refl;
      journal = c.into_journal.ensures;
      receipts = refl;
      models = refl;
      writing = report_written (λ k. outlet (g.K.Sink.written k) (g.K.Sink.faults k) 0) c.args.run _ _ c.write_run-ended.new.out.sink.now _ (search rules) _ c.write_run-ended.result c.status_of.result c.written.result c.status_of.ensures
          c.new-out.ensures.start c.written.ensures c.write_run-ended.ensures.whole c.write_run-ended.ensures.broken;
    }
