use Rattle.akl_run.specs.Commands.{by_run}
use Rattle.akl_run.specs.Words.{query_of}
use Rattle.akl_run.proofs.Loading.{if_error}
use Rattle.akl_run.proofs.Evaluated.{loaded_shown}
use Rattle.akl_run.proofs.run.work.Goals as goal

pub evaluate-requires-clause-shown : goal.evaluate-requires-clause-shown
evaluate-requires-clause-shown g c κs within = loaded_shown c.in_ok-prepared.ensures.ready.program (query_of c.in_ok-prepared.ensures.ready.options) c.in_ok-prepared.prepared.loaded c.in_ok-prepared.ensures.ready.loaded

pub returns-clause-stop : goal.returns-clause-stop
returns-clause-stop g c =
    if_error c.evaluate.result c.evaluate.ensures.stop (λ stop p. by_run c.in_ok-prepared.ensures.ready.asked c.in_ok-prepared.ensures.ready.given c.in_ok-prepared.ensures.ready.loaded p)
