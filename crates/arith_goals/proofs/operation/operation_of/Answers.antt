use Rattle.std.proofs.Common.{refl, sym, ◌∙◌}
use Rattle.arith_goals.proofs.Naming.{operation_is}
use Rattle.arith_goals.proofs.operation.operation_of.Goals as goal

pub returns-then-eq : goal.returns-then-eq
returns-then-eq c = operation_is _ _ _ _ c.symbol-text.ensures (rw (sym c.eq.ensures ∙ c.if-eq.true) refl)

pub returns-then-eq-2 : goal.returns-then-eq-2
returns-then-eq-2 c = operation_is _ _ _ _ c.symbol-text.ensures (rw (sym c.eq.ensures ∙ c.if-eq.false, sym c.eq-else-eq.ensures ∙ c.if-eq-2.true) refl)

pub returns-then-eq-3 : goal.returns-then-eq-3
returns-then-eq-3 c = operation_is _ _ _ _ c.symbol-text.ensures
    (rw (sym c.eq.ensures ∙ c.if-eq.false, sym c.eq-else-eq.ensures ∙ c.if-eq-2.false, sym c.eq-else-eq-2.ensures ∙ c.if-eq-3.true) refl)

pub returns-then-eq-4 : goal.returns-then-eq-4
returns-then-eq-4 c = operation_is _ _ _ _ c.symbol-text.ensures
    (rw (sym c.eq.ensures ∙ c.if-eq.false, sym c.eq-else-eq.ensures ∙ c.if-eq-2.false, sym c.eq-else-eq-2.ensures ∙ c.if-eq-3.false, sym c.eq-else-eq-3.ensures ∙ c.if-eq-4.true) refl)

pub returns-then-eq-5 : goal.returns-then-eq-5
returns-then-eq-5 c = operation_is _ _ _ _ c.symbol-text.ensures
    (rw (
      sym c.eq.ensures ∙ c.if-eq.false,
      sym c.eq-else-eq.ensures ∙ c.if-eq-2.false,
      sym c.eq-else-eq-2.ensures ∙ c.if-eq-3.false,
      sym c.eq-else-eq-3.ensures ∙ c.if-eq-4.false,
      sym c.eq-else-eq-4.ensures ∙ c.if-eq-5.true,
    ) refl)

pub returns-else-eq-5 : goal.returns-else-eq-5
returns-else-eq-5 c = operation_is _ _ _ _ c.symbol-text.ensures
    (rw (
      sym c.eq.ensures ∙ c.if-eq.false,
      sym c.eq-else-eq.ensures ∙ c.if-eq-2.false,
      sym c.eq-else-eq-2.ensures ∙ c.if-eq-3.false,
      sym c.eq-else-eq-3.ensures ∙ c.if-eq-4.false,
      sym c.eq-else-eq-4.ensures ∙ c.if-eq-5.false,
    ) refl)
