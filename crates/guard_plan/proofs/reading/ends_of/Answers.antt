use Rattle.std.proofs.Common.{Option, Some, None, ◌∙◌}
use Rattle.std.specs.Prelude.{MatchOption, ⊤}
use Rattle.guard_plan.proofs.reading.ends_of.Goals as goal

where_found : {A : Type 0} (o : Option A) (P Q : A → Type 0) → ((a : A) → P a → Q a) → MatchOption o ⊤ P → MatchOption o ⊤ Q
where_found None P Q f h = h
where_found (Some a) P Q f h = f a h

pub returns : goal.returns
returns c = where_found c.in_ok-ends.ends _ _
    (λ ends reached. record { chain = c.chain.result; nodes = c.chain.ensures.nodes ∙ c.requires; stores = c.chain.ensures.stores; known = c.chain.ensures.known; reached = reached }) c.in_ok-ends.ensures
