use Rattle.std.proofs.Common.{ap, ◌∙◌, sym}
use Rattle.akl_terms.specs.declared.name.Name.{Name}
use Rattle.box_copies.specs.Renamer.{swapped_name}
use Rattle.box_copies.proofs.Loops.{is_other, is_one, others_next, others_same}
use Rattle.box_copies.proofs.goals.swapped_others.Goals as goal
use Rattle.box_copies.proofs.goals.swapped_others.Goals.{then-ne+in_ok-push, else-ne}

pub loop-name-preserved : goal.loop-name-preserved
loop-name-preserved c =
    let d : Name = record { worker = 0; number = 0 } in
    elim c.if-ne.branch [
      | then-ne+in_ok-push w ↦ ap (λ v. v.items) w.others-is ∙ others_next (swapped_name c.args.names.now) c.args.alternative c.args.alternatives.now c.loop-name.others.items w.push.new.self.items c.loop-name.name-index d w.swapped.result
          c.loop-name-test.true (is_other _ (sym w.if-ne.true ∙ c.ne.ensures)) c.loop-name.invariant w.swapped.ensures w.in_ok-push.ensures.items
      | else-ne w ↦ ap (λ v. v.items) w.others-is ∙ others_same (swapped_name c.args.names.now) c.args.alternative c.args.alternatives.now c.loop-name.others.items c.loop-name.name-index d c.loop-name-test.true
          (is_one _ (sym w.if-ne.false ∙ c.ne.ensures)) c.loop-name.invariant
    ]
