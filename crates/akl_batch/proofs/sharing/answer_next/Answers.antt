use Rattle.std.proofs.Common.{length, refl}
use Rattle.std.proofs.lemmas.Option.{slice_get_read}
use Rattle.std.proofs.lemmas.List.Elements.{All-push}
use Rattle.akl_batch.specs.Steps.{IsAnswered}
use Rattle.akl_batch.proofs.Gathered.{stopped_part}
use Rattle.akl_batch.proofs.Stopping.{memory_stops}
use Rattle.akl_batch.proofs.sharing.answer_next.Goals as goal

pub loop-turn-preserved : goal.loop-turn-preserved
loop-turn-preserved g c =
    let queries = c.args.queries.now in
    let found = c.in-Some.ensures.lookup in
    rw c.in_ok-push.ensures.items
    (All-push (IsAnswered c.args.program.now queries c.args.budget) c.loop-turn.answered.items _ c.loop-turn.invariant
    (record { query = c.in-Some.query.now; at = slice_get_read queries (length queries) c.fetch_add-at.result c.in-Some.query.now refl found.3.0 found.1; answer = rw c.deref.ensures.value at c.in_ok-answer.ensures.answer }))

pub returns-in_err-push : goal.returns-in_err-push
returns-in_err-push g c =
    stopped_part c.args.program.now c.args.queries.now c.args.budget c.from_residual-in_err-push.result c.from_residual-in_err-push.ensures.1 (λ stop i. memory_stops c.args.program.now stop i)
