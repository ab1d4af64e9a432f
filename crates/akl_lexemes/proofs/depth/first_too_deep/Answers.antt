use Rattle.std.proofs.Common.{◌∙◌, sym, arith}
use Rattle.akl_lexemes.proofs.DepthScan.{is_deep, depth_opened, depth_closed, depth_stayed}
use Rattle.akl_lexemes.proofs.depth.first_too_deep.Goals as goal

pub returns-then-saturating_sub-ge-OPEN_BRACKETS : goal.returns-then-saturating_sub-ge-OPEN_BRACKETS
returns-then-saturating_sub-ge-OPEN_BRACKETS c =
    sym (is_deep (rw c.in-Some.ensures.some at c.loop-token.invariant) (sym c.opens.ensures ∙ c.if-opens.true) (omega (arith, c.saturating_sub.ensures, c.if-saturating_sub-ge-OPEN_BRACKETS.true)))

pub loop-token-preserved-else-saturating_sub-ge-OPEN_BRACKETS : goal.loop-token-preserved-else-saturating_sub-ge-OPEN_BRACKETS
loop-token-preserved-else-saturating_sub-ge-OPEN_BRACKETS c =
    depth_opened (rw c.in-Some.ensures.some at c.loop-token.invariant) (sym c.opens.ensures ∙ c.if-opens.true) (omega (arith, c.saturating_sub.ensures, c.if-saturating_sub-ge-OPEN_BRACKETS.false))

pub loop-token-preserved-then-closes : goal.loop-token-preserved-then-closes
loop-token-preserved-then-closes c =
    depth_closed (rw c.in-Some.ensures.some at c.loop-token.invariant) (sym c.opens.ensures ∙ c.if-opens.false) (sym c.closes.ensures ∙ c.if-closes.true)

pub loop-token-preserved : goal.loop-token-preserved
loop-token-preserved c =
    depth_stayed (rw c.in-Some.ensures.some at c.loop-token.invariant) (sym c.opens.ensures ∙ c.if-opens.false) (sym c.closes.ensures ∙ c.if-closes.false)
