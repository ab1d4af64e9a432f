use Rattle.std.proofs.Common.{◌≡◌, ◌-◌, ◌<◌, List, length, slice_index_or, sym, subst, arith}
use Rattle.box_tree.specs.declared.entries.HeldOp.{HeldOp}
use Rattle.box_tree.specs.declared.view.Alternative.{Alternative}
use Rattle.guard_plan.specs.Guards.{IsTestable}
use Rattle.guard_plan.specs.Noisy.{tested}
use Rattle.guard_plan.proofs.Tested.{all_index}
use Rattle.idle_plan.specs.Waits.{AddsTold, AreToldBy}
use Rattle.idle_plan.proofs.ChoiceWaits.{alternatives_testable}
use Rattle.idle_plan.proofs.Steps.{by_noise, few_tested, last_added}
use Rattle.idle_plan.proofs.goals.waits_of_condition.Goals as goal

pub returns-then-alternatives-lt2 : goal.returns-then-alternatives-lt2
returns-then-alternatives-lt2 c =
    let few : length c.args.view.now.alternatives < 2 = rw c.alternatives-alternatives.ensures.alternatives at c.if-alternatives-lt2.true in
    let m = rw (c.chain.ensures.nodes, c.chain.ensures.stores) at c.in_ok-list.ensures in
    subst (λ (l : List Alternative). AreToldBy c.args.program.now.templates.nodes c.args.view.now.stores l c.in_ok-list.list.items) (few_tested c.args.program.now.templates.nodes c.args.view.now.stores c.args.view.now.alternatives few)
    (by_noise c.args.program.now.templates.nodes c.args.view.now.stores (tested HeldOp.Condition c.args.view.now.alternatives) c.args.noise.now c.in_ok-list.list.items c.requires.noise m)

pub push_told-requires-clause-testable : goal.push_told-requires-clause-testable
push_told-requires-clause-testable c =
    let more = rw c.alternatives-alternatives.ensures.alternatives at c.if-alternatives-lt2.false in
    let is : c.index-alternatives-last.result ≡ slice_index_or c.args.view.now.alternatives (length c.args.view.now.alternatives - 1) c.index-alternatives-last.result =
    rw c.alternatives-alternatives.ensures.alternatives at c.index-alternatives-last.is in
    rw c.requires.program
    (subst (IsTestable c.args.view.now.table.program.templates.nodes c.args.view.now.stores) (sym is)
    (all_index c.args.view.now.table.program.templates.nodes c.args.view.now.stores (IsTestable c.args.view.now.table.program.templates.nodes c.args.view.now.stores) c.args.view.now.alternatives
    (length c.args.view.now.alternatives - 1) c.index-alternatives-last.result (omega (arith, more)) (alternatives_testable c.args.view.now c.alternatives-alternatives.ensures.seen)))

pub returns : goal.returns
returns c =
    let more = rw c.alternatives-alternatives.ensures.alternatives at c.if-alternatives-lt2.false in
    let is : c.index-alternatives-last.result ≡ slice_index_or c.args.view.now.alternatives (length c.args.view.now.alternatives - 1) c.index-alternatives-last.result =
    rw c.alternatives-alternatives.ensures.alternatives at c.index-alternatives-last.is in
    let m = rw (c.chain.ensures.nodes, c.chain.ensures.stores) at c.in_ok-list.ensures in
    last_added c.args.program.now.templates.nodes c.args.view.now.stores c.args.view.now.alternatives c.index-alternatives-last.result (omega (arith, more)) c.in_ok-list.list.items c.push_told.new.list.items
    (by_noise c.args.program.now.templates.nodes c.args.view.now.stores (tested HeldOp.Condition c.args.view.now.alternatives) c.args.noise.now c.in_ok-list.list.items c.requires.noise m)
    (subst (λ (a : Alternative). AddsTold c.args.program.now.templates.nodes c.args.view.now.stores a c.in_ok-list.list.items c.push_told.new.list.items) is c.in_ok-push_told.ensures)
