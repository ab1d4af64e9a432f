use Rattle.std.proofs.Common.{sym, subst}
use Rattle.scheduler.specs.Openings.{KeepsTokens}
use Rattle.par_workers.proofs.Holding.{given_held, going_before, had_memory}
use Rattle.par_workers.proofs.concluding.take_opened.Goals as goal

pub returns : goal.returns
returns c = λ before keeps all going.
    let now = c.args.scheduler.now.openings in
    let taken = c.take_in-taken in
    let was = c.args.stops.now in
    given_held before now c.as_slice.result.now c.args.tokens.now.held taken.new.self.held (subst (KeepsTokens before now) (sym c.as_slice.ensures) keeps) taken.ensures.keeps
    (had_memory taken.result was c.stop_unless.new.stops c.stop_unless.ensures going taken.ensures.held) (all (going_before taken.result was c.stop_unless.new.stops c.stop_unless.ensures going))
