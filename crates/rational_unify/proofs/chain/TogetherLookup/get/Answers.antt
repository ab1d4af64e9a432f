use Rattle.std.proofs.Common.{sym, ◌∙◌}
use Rattle.rational_unify.proofs.Chains.{found-first, found-second}
use Rattle.rational_unify.proofs.chain.TogetherLookup.get.Goals as goal

pub returns-in-Some : goal.returns-in-Some
returns-in-Some g c = sym (found-first (g.K.Lookup.bindings c.args.self.now.known.now) c.args.self.now.added.now c.args.variable c.in-Some.term (sym c.in-Some.ensures))

pub returns-in-None : goal.returns-in-None
returns-in-None g c = c.get-in-None.ensures ∙ sym (found-second (g.K.Lookup.bindings c.args.self.now.known.now) c.args.self.now.added.now c.args.variable (sym c.in-None.ensures))
