use Rattle.std.proofs.Common.{sym, ap, ◌∙◌}
use Rattle.std.specs.Option.{option_or}
use Rattle.rational_unify.specs.Known.{found_in}
use Rattle.local_store.specs.Stored.{Stored}
use Rattle.local_store.specs.Kept.{bindings_of}
use Rattle.local_store.proofs.SettledValues.{found-joins}
use Rattle.local_store.proofs.store.Store.first_binding.Goals as goal

pub returns-in-Some : goal.returns-in-Some
returns-in-Some c =
    sym (ap (λ o. option_or o (found_in c.self.inside.bindings.items c.args.variable)) (sym c.first_binding.ensures.found ∙ c.in-Some.is))
    ∙ sym (found-joins (bindings_of c.self.inside.settled) c.self.inside.bindings.items c.args.variable c.first_binding.ensures.ordered) ∙ ap (λ (s : Stored). found_in s.bindings c.args.variable) c.self.view_is

pub returns-in-None : goal.returns-in-None
returns-in-None c =
    c.first_in.ensures ∙ ap (λ l. found_in l c.args.variable) c.deref.ensures.value
    ∙ sym (ap (λ o. option_or o (found_in c.self.inside.bindings.items c.args.variable)) (sym c.first_binding.ensures.found ∙ c.in-None.is))
    ∙ sym (found-joins (bindings_of c.self.inside.settled) c.self.inside.bindings.items c.args.variable c.first_binding.ensures.ordered) ∙ ap (λ (s : Stored). found_in s.bindings c.args.variable) c.self.view_is
