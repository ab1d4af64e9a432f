use Rattle.std.proofs.Common.{◌∙◌, ◌++◌, sym, ap, List}
use Rattle.akl_terms.specs.declared.name.Name.{Name}
use Rattle.box_copies.specs.Made.{own_names}
use Rattle.box_copies.proofs.Loops.{is_other, is_one, kept_next, kept_stays}
use Rattle.box_copies.proofs.gathering.listed_names.Goals as goal
use Rattle.box_copies.proofs.gathering.listed_names.Goals.{then-ne+in_ok-add_box, else-ne}

pub loop-inner-preserved : goal.loop-inner-preserved
loop-inner-preserved c = elim c.if-ne.branch [
  | then-ne+in_ok-add_box w ↦ ap (λ v. v.items) w.names-is ∙ w.in_ok-add_box.ensures ∙ ap (λ (l : List Name). l ++ own_names c.inner-item.result) c.loop-inner.invariant
      ∙ sym (kept_next c.args.alternative c.args.boxes.now c.loop-inner.inner-index c.inner-item.result c.loop-inner-test.true c.inner-item.is (is_other _ (sym w.if-ne.true ∙ c.ne.ensures)))
  | else-ne w ↦ ap (λ v. v.items) w.names-is ∙ c.loop-inner.invariant
      ∙ sym (kept_stays c.args.alternative c.args.boxes.now c.loop-inner.inner-index c.inner-item.result c.loop-inner-test.true c.inner-item.is (is_one _ (sym w.if-ne.false ∙ c.ne.ensures)))
]
