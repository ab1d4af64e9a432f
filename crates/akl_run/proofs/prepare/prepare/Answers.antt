use Rattle.std.proofs.Common.{refl, sym, subst, ◌∙◌}
use Rattle.akl_run.specs.Commands.{by_words, by_reading, by_program, by_query}
use Rattle.akl_run.specs.Loads.{IsLoadedProgram, QueryStops}
use Rattle.akl_run.proofs.Loading.{from_error}
use Rattle.akl_run.proofs.Given.{given_as}
use Rattle.akl_run.proofs.prepare.prepare.Goals as goal

pub returns-in_err-made-clause-stop : goal.returns-in_err-made-clause-stop
returns-in_err-made-clause-stop g c = from_error c.from_residual.result c.from_residual.ensures.1 (λ stop p. rw p (by_words c.in_err-made.ensures.stop refl))

pub returns-in_err-bytes-clause-stop : goal.returns-in_err-bytes-clause-stop
returns-in_err-bytes-clause-stop g c =
    from_error c.from_residual-in_err-bytes.result c.from_residual-in_err-bytes.ensures.1
    (λ stop p. rw p (by_reading c.in_ok-made.ensures.ok.asked (sym c.in_ok-made.ensures.ok.program ∙ c.in_err-bytes.ensures.read) c.in_err-bytes.ensures.stop))

pub returns-in_err-program-clause-stop : goal.returns-in_err-program-clause-stop
returns-in_err-program-clause-stop g c =
    from_error c.from_residual-in_err-program.result c.from_residual-in_err-program.ensures.1
    (λ stop p. rw p (by_program c.in_ok-made.ensures.ok.asked (given_as _ _ _ c.in_ok-made.ensures.ok.program c.in_ok-bytes.ensures.ok) (rw c.deref.ensures.value at c.in_err-program.ensures.stop)))

pub returns-clause-stop : goal.returns-clause-stop
returns-clause-stop g c =
    let program : IsLoadedProgram c.in_ok-bytes.bytes.items c.in_ok-program.program = rw c.deref.ensures.value at c.in_ok-program.ensures.program in
    by_query c.in_ok-made.ensures.ok.asked (given_as _ _ _ c.in_ok-made.ensures.ok.program c.in_ok-bytes.ensures.ok) program
    (subst (λ text. QueryStops c.in_ok-program.program text c.in-Err.stop.status c.in-Err.stop.refusal)
    (c.deref-2.ensures.value ∙ c.in_ok-made.ensures.ok.query) c.in-Err.ensures.stop)
