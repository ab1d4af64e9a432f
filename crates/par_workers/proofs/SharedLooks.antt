-- What a worker sees of a place is so in the shared run.
use Rattle.std.proofs.Common.{ℕ, Option, Some, None, ap, subst, ◌∙◌}
use Rattle.std.specs.Prelude.{IfSome}
use Rattle.step_commit.specs.Cores.{CoreValue, KeepsFixed}
use Rattle.par_workers.specs.declared.looking.Look.{Look}
use Rattle.par_workers.specs.Shared.{SharedValue, IsShared}
use Rattle.par_workers.specs.Turns.{IsSightOf, IsSeenIn}

pub seen_in : (s : SharedValue) (c : CoreValue) (worker : ℕ) (found : Option Look) → IsShared s c → IfSome found (λ look. IsSightOf c worker look.sight) → IfSome found (λ look. IsSeenIn s worker look.sight)
seen_in s c worker None is sight = tt
seen_in s c worker (Some look) is sight = (
  sight.0,
  record {
    table = sight.1.1.table ∙ ap (λ (d : CoreValue). d.table) is.core;
    journal = sight.1.1.journal ∙ ap (λ (d : CoreValue). d.journal) is.core;
    seer = sight.1.1.seer;
    fixed = subst (KeepsFixed s.begun) is.core is.fixed;
  },
)
