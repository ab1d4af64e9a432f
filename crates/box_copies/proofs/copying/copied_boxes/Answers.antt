use Rattle.std.proofs.Common.{◌≡◌, ◌∙◌, sym, subst, take, true, ◌+◌}
use Rattle.box_copies.specs.Renamer.{swapped_name}
use Rattle.box_copies.specs.Made.{kept, LeadsOlderBy, AreCopiedBy}
use Rattle.box_copies.proofs.Loops.{is_other, is_one, boxes_next, boxes_same, all_next, all_same}
use Rattle.box_copies.proofs.copying.copied_boxes.Goals as goal
use Rattle.box_copies.proofs.copying.copied_boxes.Goals.{then-ne+in_ok-copy+in-Some+in_ok-push, else-ne}

pub loop-inner-preserved : goal.loop-inner-preserved
loop-inner-preserved c = elim c.if-ne.branch [
  | then-ne+in_ok-copy+in-Some+in_ok-push w ↦
      let copied = rw w.in-Some.is at w.in_ok-copy.ensures in
      let other = is_other _ (sym w.if-ne.true ∙ c.ne.ensures) in
      subst (λ v. AreCopiedBy c.args.names.now c.args.templates.now.nodes c.args.older c.args.top c.args.alternative (kept c.args.alternative (take (c.loop-inner.inner-index + 1) c.args.boxes.now)) v.items) (sym w.copies-is) (
        boxes_next c.args.names.now c.args.older c.args.top c.args.alternative c.args.boxes.now c.loop-inner.inner-index c.inner-item.result c.loop-inner.copies.items w.push.new.self.items _ c.loop-inner-test.true c.inner-item.is
            other c.loop-inner.invariant.0 copied.0 w.in_ok-push.ensures.items,
        λ (o : c.args.older ≡ true). all_next (LeadsOlderBy (swapped_name c.args.names.now) c.args.templates.now.nodes) c.args.alternative c.args.boxes.now c.loop-inner.inner-index c.inner-item.result c.loop-inner-test.true c.inner-item.is
            other (c.loop-inner.invariant.1 o) (copied.1 o),
      )
  | else-ne w ↦
      let one = is_one _ (sym w.if-ne.false ∙ c.ne.ensures) in
      subst (λ v. AreCopiedBy c.args.names.now c.args.templates.now.nodes c.args.older c.args.top c.args.alternative (kept c.args.alternative (take (c.loop-inner.inner-index + 1) c.args.boxes.now)) v.items) (sym w.copies-is) (
        boxes_same c.args.names.now c.args.older c.args.top c.args.alternative c.args.boxes.now c.loop-inner.inner-index c.inner-item.result c.loop-inner.copies.items c.loop-inner-test.true c.inner-item.is one c.loop-inner.invariant.0,
        λ (o : c.args.older ≡ true). all_same (LeadsOlderBy (swapped_name c.args.names.now) c.args.templates.now.nodes) c.args.alternative c.args.boxes.now c.loop-inner.inner-index c.inner-item.result c.loop-inner-test.true c.inner-item.is
            one (c.loop-inner.invariant.1 o),
      )
]
