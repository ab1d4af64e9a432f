use Rattle.std.proofs.Common.{sym, ◌∙◌}
use Rattle.rational_unify.proofs.Chains.{found-first, found-second}
use Rattle.local_store.specs.Chained.{bindings_from}
use Rattle.body_goals.proofs.within.WithinLookup.get.Goals as goal

pub returns-in-Some : goal.returns-in-Some
returns-in-Some c = sym (found-first c.args.self.now.part.now.bindings.items (bindings_from c.args.self.now.chain.now.stores) c.args.variable c.in-Some.term (sym c.in-Some.ensures))

pub returns-in-None : goal.returns-in-None
returns-in-None c = c.get.ensures ∙ sym (found-second c.args.self.now.part.now.bindings.items (bindings_from c.args.self.now.chain.now.stores) c.args.variable (sym c.in-None.ensures))
