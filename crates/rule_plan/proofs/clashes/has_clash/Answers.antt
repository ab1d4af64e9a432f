use Rattle.std.proofs.Common.{sym, ◌∙◌}
use Rattle.local_store.proofs.Known.{innermost-last}
use Rattle.rule_plan.proofs.clashes.has_clash.Goals as goal

pub clash_among-requires : goal.clash_among-requires
clash_among-requires c = c.get-store.ensures ∙ sym (innermost-last c.args.chain.now.stores c.in-Some.own.now (rw c.stores.ensures at (sym c.in-Some.ensures.value)))
