use Rattle.std.proofs.Common.{sym, subst}
use Rattle.step_commit.specs.Cores.{CoreValue}
use Rattle.place_steps.specs.Seen.{IsCandidateAt, IsStillIn}
use Rattle.seq_engine.proofs.StillInside.{still_in}
use Rattle.par_workers.proofs.looking.see_whole.Goals as goal

pub see_still-requires-clause-still : goal.see_still-requires-clause-still
see_still-requires-clause-still c = subst (λ (k : CoreValue). IsStillIn k c.args.place) (sym c.core.ensures.core) (still_in c.args.scheduler.now c.core.ensures.scheduler c.args.place c.requires)

pub see_still-requires-clause-candidate : goal.see_still-requires-clause-candidate
see_still-requires-clause-candidate c = subst (λ (k : CoreValue). IsCandidateAt k c.args.place c.candidate_at-candidate.result) (sym c.core.ensures.core) c.candidate_at-candidate.ensures.candidate
