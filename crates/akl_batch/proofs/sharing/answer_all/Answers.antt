use Rattle.akl_run.proofs.Loading.{from_error}
use Rattle.akl_batch.proofs.Gathered.{places_none, parts_within}
use Rattle.akl_batch.proofs.Stopping.{memory_stops}
use Rattle.akl_batch.proofs.sharing.answer_all.Goals as goal

pub returns-in_err-parts-clause-stop : goal.returns-in_err-parts-clause-stop
returns-in_err-parts-clause-stop g c = from_error c.from_residual.result c.from_residual.ensures.1 (λ stop i. memory_stops c.args.program.now stop i)

pub returns-in_err-places-clause-stop : goal.returns-in_err-places-clause-stop
returns-in_err-places-clause-stop g c = from_error c.from_residual-in_err-places.result c.from_residual-in_err-places.ensures.1 (λ stop i. memory_stops c.args.program.now stop i)

pub gather-requires : goal.gather-requires
gather-requires g c = parts_within c.args.program.now c.args.queries.now c.args.budget _ c.in_ok-places.ensures.count c.in_ok-parts.parts.items c.in_ok-parts.ensures

pub returns-in_err-gather-clause-stop : goal.returns-in_err-gather-clause-stop
returns-in_err-gather-clause-stop g c =
    from_error c.from_residual-in_err-gather.result c.from_residual-in_err-gather.ensures.1
    (λ stop i. rw i (c.in_err-gather.ensures.stop c.args.program.now c.args.queries.now c.args.budget c.in_ok-parts.ensures))

pub in_order-requires-clause-places : goal.in_order-requires-clause-places
in_order-requires-clause-places g c κs within =
    c.in_ok-gather.ensures.places c.args.program.now c.args.queries.now c.args.budget c.in_ok-parts.ensures
    (places_none c.args.program.now c.args.queries.now c.args.budget c.in_ok-places.places.items c.in_ok-places.ensures.count c.in_ok-places.ensures.empty)
