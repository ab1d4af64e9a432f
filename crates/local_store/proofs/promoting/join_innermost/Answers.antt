use Rattle.std.proofs.Common.{sym, ◌∙◌, ap, length}
use Rattle.local_store.specs.Parts.{with_part, told_over}
use Rattle.local_store.proofs.Answered.{IfOk-both}
use Rattle.local_store.proofs.Resolved.{around-take}
use Rattle.local_store.proofs.Joining.{innermost-found, joins-innermost}
use Rattle.local_store.proofs.promoting.join_innermost.Goals as goal

pub add-requires-clause-found : goal.add-requires-clause-found
add-requires-clause-found c =
    rw c.requires.own (innermost-found c.args.chain.now.nodes c.args.chain.now.stores c.known.result (c.if-known-count.true ∙ ap length c.stores-count.ensures) c.known.ensures.solved)

pub returns-then-known-count-clause-joins : goal.returns-then-known-count-clause-joins
returns-then-known-count-clause-joins c =
    let all = sym c.known.ensures.known ∙ c.if-known-count.true ∙ ap length c.stores-count.ensures in
    rw c.requires.own (IfOk-both c.add.result _ _ _
    (λ t store bound s. joins-innermost c.args.chain.now.nodes c.args.chain.now.stores c.args.chain.now.known all (rw c.known.ensures.known at c.known.ensures.solved)
    (with_part s c.args.told.now.part) (told_over s c.add.new.self) c.requires.some (store s) c.add.ensures.solved bound)
    (rw c.requires.own at c.add.ensures.store) (rw (c.requires.own, c.templates.ensures.nodes, c.requires.untold.1) at c.add.ensures.bound))

pub returns-clause-joins : goal.returns-clause-joins
returns-clause-joins c = rw (c.outer.ensures.nodes, c.outer.ensures.stores, c.outer.ensures.known, c.stores-count.ensures, around-take c.args.chain.now.stores) at c.join_chain.ensures.joins
