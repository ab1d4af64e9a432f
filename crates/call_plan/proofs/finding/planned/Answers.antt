use Rattle.std.proofs.Common.{refl, sym, ◌∙◌, rules}
use Rattle.local_store.specs.Chained.{innermost}
use Rattle.local_store.specs.Parts.{told_over}
use Rattle.call_plan.proofs.CalledFacts.{call_known}
use Rattle.call_plan.proofs.CallFound.{call_right, call_planned}
use Rattle.call_plan.proofs.CallTold.{reduced_free}
use Rattle.call_plan.proofs.PlainJoined.{plain_free}
use Rattle.call_plan.proofs.finding.planned.Goals as goal

pub binds_of-requires-clause-known : goal.binds_of-requires-clause-known
binds_of-requires-clause-known c =
    let r = c.requires.reduced.call.ends.remains in
    rw (c.chain-chain.ensures.nodes, c.chain-chain.ensures.stores, c.requires.program) (call_known c.args.view.now c.args.goal r.arguments c.requires.reduced.called c.requires.reduced.drawn r.is_called)

pub binds_of-requires-clause-free : goal.binds_of-requires-clause-free
binds_of-requires-clause-free c =
    let r = c.requires.reduced in
    λ q. rw c.chain-chain.ensures.stores
    (plain_free c.args.view.now.stores r.left.own c.args.told.bound.items (sym r.plain_is ∙ q) (reduced_free c.args.view.now c.args.goal c.requires.reduced.called r.left r.drawn c.args.more.items (told_over (innermost c.args.view.now.stores) c.args.told) c.args.body r.call))

pub of_call-requires : goal.of_call-requires
of_call-requires c =
    let r = c.requires.reduced in
    let joins = c.join_of-step.ensures.joins c.args.view.now.table.program.templates.nodes in
    let members = rw (c.chain-chain.ensures.nodes, c.chain-chain.ensures.stores, c.requires.program) at c.in_ok-binds.ensures in
    let read = rw (c.as_slice.ensures.value, r.plainly_is) at c.in_ok-reads.ensures in
    rw (c.label_of-label.ensures.label, r.call.ends.remains.is_called.is_place, r.names_are)
    (call_right c.args.view.now c.args.goal c.requires.reduced.called r.left r.drawn c.args.more.items (told_over (innermost c.args.view.now.stores) c.args.told) c.args.body r.call c.args.told.part refl r.named c.join_of-step.result
    c.in_ok-binds.binds.items c.in_ok-reads.reads.items joins c.join_of-step.ensures.behind members read)

pub returns : goal.returns
returns c =
    let r = c.requires.reduced in
    let read = rw c.as_slice.ensures.value at c.in_ok-reads.ensures in
    let joins = c.join_of-step.ensures.joins c.args.view.now.table.program.templates.nodes in
    call_planned c.args.view.now c.args.goal c.requires.reduced.called r.left r.drawn c.args.more.items (told_over (innermost c.args.view.now.stores) c.args.told) c.args.body r.call c.in_ok-plan.plan c.join_of-step.result c.in_ok-binds.binds.items
    c.in_ok-reads.reads.items (search rules) read.only (rw (c.label_of-label.ensures.label, r.call.ends.remains.is_called.is_place, r.names_are) at c.in_ok-plan.ensures) _ _ joins
