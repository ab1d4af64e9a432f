use Rattle.std.proofs.Common.{sym, ap, ◌∙◌, subst}
use Rattle.std.specs.Prelude.{◌==◌}
use Rattle.std.specs.List.{position}
use Rattle.wake_lists.proofs.TokensIn.{StillHas, still_next, still_last}
use Rattle.wake_lists.proofs.token_set.drop_token.Goals as goal

pub loop-index-preserved : goal.loop-index-preserved
loop-index-preserved c =
    subst (StillHas c.args.token c.args.tokens.now.items) (sym c.swap_remove.ensures.items)
    (still_next c.args.token c.args.tokens.now.items c.loop-index.tokens.items c.in-Some.index
    (ap (position (λ t. t == c.args.token)) (sym c.as_slice.ensures) ∙ sym c.place_of.ensures ∙ c.in-Some.is) c.swap_remove.result c.swap_remove.ensures.value c.loop-index.invariant)

pub returns : goal.returns
returns c =
    still_last c.args.token c.args.tokens.now.items c.loop-index.tokens.items
    (ap (position (λ t. t == c.args.token)) (sym c.as_slice.ensures) ∙ sym c.place_of.ensures ∙ c.in_default.is) c.loop-index.invariant
