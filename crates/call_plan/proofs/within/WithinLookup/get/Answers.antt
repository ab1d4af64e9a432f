use Rattle.std.proofs.Common.{sym, ◌∙◌}
use Rattle.rational_unify.proofs.Chains.{found-first, found-second}
use Rattle.local_store.specs.Chained.{bindings_from}
use Rattle.call_plan.specs.Owns.{bindings_of}
use Rattle.call_plan.proofs.within.WithinLookup.get.Goals as goal

pub returns-in-Some : goal.returns-in-Some
returns-in-Some c = sym (found-first (bindings_of c.args.self.now.own.now) (bindings_from c.args.self.now.around.now.stores) c.args.variable c.in-Some.term (sym c.in-Some.ensures))

pub returns-in-None : goal.returns-in-None
returns-in-None c = c.get.ensures ∙ sym (found-second (bindings_of c.args.self.now.own.now) (bindings_from c.args.self.now.around.now.stores) c.args.variable (sym c.in-None.ensures))
