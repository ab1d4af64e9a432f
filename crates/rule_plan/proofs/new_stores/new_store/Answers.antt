use Rattle.std.proofs.Common.{◌∙◌, ap, sym, length}
use Rattle.local_store.proofs.Known.{whole-known}
use Rattle.rule_plan.proofs.new_stores.new_store.Goals as goal

pub over_solved-requires-clause-solved : goal.over_solved-requires-clause-solved
over_solved-requires-clause-solved c =
    whole-known c.args.chain.now.nodes c.args.chain.now.stores c.known.result c.known.ensures.solved (c.if-known-stores.true ∙ ap length c.stores.ensures)

pub over_solved-requires-clause-known : goal.over_solved-requires-clause-known
over_solved-requires-clause-known c = sym c.known.ensures.known ∙ c.if-known-stores.true ∙ ap length c.stores.ensures

pub over_others-requires : goal.over_others-requires
over_others-requires c = λ e. c.if-known-stores.false (c.known.ensures.known ∙ e ∙ sym (ap length c.stores.ensures))
