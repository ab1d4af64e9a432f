use Rattle.std.proofs.Common.{sym, subst, ◌∙◌}
use Rattle.step_commit.specs.Cores.{CoreValue}
use Rattle.place_steps.specs.Seen.{IsCandidateAt}
use Rattle.core_tests.proofs.attending.looked.Goals as goal

pub see-requires : goal.see-requires
see-requires c = subst (λ (k : CoreValue). IsCandidateAt k c.args.place c.in_ok-candidate.candidate) (c.core.ensures.core ∙ sym c.core-2.ensures.core) c.in_ok-candidate.ensures
