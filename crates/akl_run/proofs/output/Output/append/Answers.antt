use Rattle.akl_run.proofs.Appended.{broke_in}
use Rattle.akl_run.proofs.output.Output.append.Goals as goal

pub returns-in-Err-clause-broken : goal.returns-in-Err-clause-broken
returns-in-Err-clause-broken g c = broke_in _ _ _ _ _ c.in-Err.short.written c.args.piece.now c.in-Err.ensures.err c.in-Err.ensures.short c.in-Err.ensures.failed c.in-Err.ensures.never_falls
