use Rattle.std.proofs.Common.{sym, subst}
use Rattle.step_commit.specs.Cores.{CoreValue}
use Rattle.place_steps.specs.Seen.{IsCandidateAt}
use Rattle.par_workers.proofs.looking.see_early.Goals as goal

pub see-requires : goal.see-requires
see-requires c = subst (λ (k : CoreValue). IsCandidateAt k c.args.place c.candidate_at-candidate.result) (sym c.core.ensures.core) c.candidate_at-candidate.ensures.candidate
