use Rattle.std.proofs.Common.{◌≡◌, ◌<◌, ◌∙◌, length, arith, refl, sym, ap, Some}
use Rattle.std.specs.List.{slice_get}
use Rattle.std.proofs.lemmas.Option.{slice_get_read}
use Rattle.akl_run.proofs.Loading.{from_error}
use Rattle.akl_batch.specs.Replies.{IsAnswer}
use Rattle.akl_batch.proofs.Gathered.{places_count, taken_answer, places_left, more_answers}
use Rattle.akl_batch.proofs.Stopping.{memory_stops}
use Rattle.akl_batch.proofs.sharing.in_order.Goals.{in-Some, in-None+in_ok-answer-in-None}
use Rattle.akl_batch.proofs.sharing.in_order.Goals as goal

pub index_mut-requires : goal.index_mut-requires
index_mut-requires g c =
    let n : length c.loop-at.places.items ≡ length c.args.queries.now = places_count c.args.program.now c.args.queries.now c.args.budget c.loop-at.places.items c.loop-at.invariant.places in
    let l : c.loop-at.places.len ≡ length c.loop-at.places.items = c.loop-at.places.ok.0 in
    let t : c.loop-at.at < length c.args.queries.now = c.loop-at-test.true in
    omega (arith, n, l, t)

pub loop-at-preserved : goal.loop-at-preserved
loop-at-preserved g c =
    let program = c.args.program.now in
    let queries = c.args.queries.now in
    let budget = c.args.budget in
    let at = c.loop-at.at in
    let query = c.index-queries-at.result in
    let place = c.index_mut.result.now in
    let inside : at < length queries = c.loop-at-test.true in
    let count : length c.loop-at.places.items ≡ length queries = places_count program queries budget c.loop-at.places.items c.loop-at.invariant.places in
    let asked : slice_get queries at ≡ Some query = slice_get_read queries (length queries) at query refl inside c.index-queries-at.is in
    let placed : slice_get c.loop-at.places.items at ≡ Some place = slice_get_read c.loop-at.places.items (length queries) at place (sym count) inside c.index_mut.ensures.value in
    let one : IsAnswer program query.items budget c.match-take.answer =
    elim c.match-take.branch [
      | in-Some w ↦ taken_answer program queries budget c.loop-at.places.items at query place c.match-take.answer c.loop-at.invariant.places asked placed (sym c.take.ensures.value ∙ w.in-Some.is ∙ ap Some (sym w.answer-is))
      | in-None+in_ok-answer-in-None w ↦ rw w.answer-is (rw w.deref.ensures.value at w.in_ok-answer-in-None.ensures.answer)
    ] in
    record {
      places = places_left program queries budget c.loop-at.places.items at query c.take.new.self c.loop-at.invariant.places asked c.take.ensures.after;
      answers = rw c.in_ok-push.ensures.items (more_answers program queries budget at query c.loop-at.answers.items c.match-take.answer inside c.index-queries-at.is c.loop-at.invariant.answers one);
    }

pub returns-in_err-push-clause-stop : goal.returns-in_err-push-clause-stop
returns-in_err-push-clause-stop g c = from_error c.from_residual-in_err-push.result c.from_residual-in_err-push.ensures.1 (λ stop i. memory_stops c.args.program.now stop i)
