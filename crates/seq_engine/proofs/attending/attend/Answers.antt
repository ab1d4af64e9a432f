use Rattle.std.proofs.Common.{◌≡◌, ◌+◌, length, sym, subst}
use Rattle.step_commit.specs.Cores.{CoreValue}
use Rattle.place_steps.specs.Seen.{view_in, IsCandidateAt, IsSight, IsSeenBy, IsStillIn}
use Rattle.seq_engine.proofs.StillInside.{still_in}
use Rattle.seq_engine.proofs.Turns.{forgotten, comes_now}
use Rattle.seq_engine.proofs.attending.attend.Goals as goal

pub see_still-requires-clause-candidate : goal.see_still-requires-clause-candidate
see_still-requires-clause-candidate c = subst (λ (k : CoreValue). IsCandidateAt k c.args.place c.candidate_at-candidate.result) (sym c.core.ensures.core) c.candidate_at-candidate.ensures.candidate

pub see_still-requires-clause-still : goal.see_still-requires-clause-still
see_still-requires-clause-still c = subst (λ (k : CoreValue). IsStillIn k c.args.place) (sym c.core.ensures.core) (still_in c.args.scheduler.now c.core.ensures.scheduler c.args.place c.requires.rest)

pub returns-in_default : goal.returns-in_default
returns-in_default c = forgotten c.args.scheduler.now c.forget.new.self c.args.token c.args.place c.requires.open c.forget.ensures.closed

pub follow-requires : goal.follow-requires
follow-requires c =
    let sight : IsSight c.args.scheduler.now.core c.args.place 1 (view_in c.in-Some.seen) =
    subst (λ (k : CoreValue). IsSight k c.args.place 1 (view_in c.in-Some.seen)) c.core.ensures.core (subst (IsSeenBy c.core.result.now c.args.place 1) c.in-Some.is c.in_ok-seen.ensures).1 in
    comes_now c.args.scheduler.now c.args.token c.args.place (view_in c.in-Some.seen) c.in_ok-next.next c.left.result c.requires.open c.requires.rest sight c.in_ok-next.ensures.next c.in_ok-next.ensures.room
    (subst (λ (k : CoreValue). length k.journal + c.left.result ≡ k.budget) c.core-2.ensures.core c.left.ensures)
