use Rattle.std.proofs.Common.{sym, ap, ◌∙◌}
use Rattle.clause_store.specs.Loaded.{is_hidden}
use Rattle.clause_store.proofs.ShownNames.{shown_hidden, shown_one}
use Rattle.clause_store.proofs.shown.shown.Goals as goal
use Rattle.clause_store.proofs.shown.shown.Goals.{then-not-hidden+in_ok-push, else-not-hidden}

pub loop-name-preserved-then-if-drop : goal.loop-name-preserved-then-if-drop
loop-name-preserved-then-if-drop c = elim c.if-not-hidden.branch [
  | then-not-hidden+in_ok-push w ↦
      rw (w.found-is, w.in_ok-push.ensures.items) (shown_one c.in-Some.name c.loop-name.invariant (ap is_hidden (sym c.as_str.ensures) ∙ sym c.hidden.ensures ∙ w.if-not-hidden.true))
  | else-not-hidden w ↦ rw w.found-is (shown_hidden c.in-Some.name c.loop-name.invariant (ap is_hidden (sym c.as_str.ensures) ∙ sym c.hidden.ensures ∙ w.if-not-hidden.false))
]

pub loop-name-preserved : goal.loop-name-preserved
loop-name-preserved c = elim c.if-not-hidden.branch [
  | then-not-hidden+in_ok-push w ↦
      rw (w.found-is, w.in_ok-push.ensures.items) (shown_one c.in-Some.name c.loop-name.invariant (ap is_hidden (sym c.as_str.ensures) ∙ sym c.hidden.ensures ∙ w.if-not-hidden.true))
  | else-not-hidden w ↦ rw w.found-is (shown_hidden c.in-Some.name c.loop-name.invariant (ap is_hidden (sym c.as_str.ensures) ∙ sym c.hidden.ensures ∙ w.if-not-hidden.false))
]
