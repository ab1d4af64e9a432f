use Rattle.std.proofs.Common.{List, sym, subst}
use Rattle.std.proofs.lemmas.Result.{IfOk-weaker}
use Rattle.akl_model.specs.declared.item.Item.{Item}
use Rattle.call_plan.specs.ReadCall.{IsReadOfCall}
use Rattle.call_plan.proofs.ReadsOfCall.{by_bindings, by_goals}
use Rattle.call_plan.proofs.reading.call_reads.Goals as goal

pub returns-then-plainly : goal.returns-then-plainly
returns-then-plainly c = IfOk-weaker c.reads_of.result _ _ (λ items read. by_bindings c.args.view.now c.args.goal c.args.plainly c.args.binds.now items.items read c.if-plainly.true) c.reads_of.ensures

pub returns-else-plainly : goal.returns-else-plainly
returns-else-plainly c = IfOk-weaker c.goal_and_sets.result _ _
    (λ items e. subst (λ (l : List Item). IsReadOfCall c.args.view.now c.args.goal c.args.plainly c.args.binds.now l) (sym e) (by_goals c.args.view.now c.args.goal c.args.plainly c.args.binds.now c.requires.place))
    (rw c.path.ensures at c.goal_and_sets.ensures)
