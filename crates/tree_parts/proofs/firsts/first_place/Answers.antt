use Rattle.std.proofs.Common.{ℕ, List, Some, cond, nat_eq, refl, sym, ap, ◌∙◌}
use Rattle.std.specs.Cmp.Lexicographic.{pointwise}
use Rattle.tree_parts.specs.Firsts.{found, met, fresh}
use Rattle.tree_parts.proofs.firsts.first_place.Goals as goal

pub returns-in-Some : goal.returns-in-Some
returns-in-Some c = met (sym c.get.ensures.value ∙ sym c.in-Some.ensures) refl

pub returns : goal.returns
returns c = fresh (sym c.get.ensures.value ∙ sym c.in_default.ensures) refl
    (λ k. c.in_ok-insert.ensures.updates.0 k ∙ ap (λ (xs : List ℕ). cond (pointwise nat_eq xs k.items) (Some c.args.place) (found c.args.known.now.entries k.items)) c.in_ok-owned.ensures.items)
