use Rattle.std.proofs.Common.{sym, ap, ◌∙◌}
use Rattle.std.specs.Option.{option_copied}
use Rattle.rational_unify.specs.Known.{found_in}
use Rattle.local_store.specs.Kept.{bindings_at, bindings_of, found_at}
use Rattle.local_store.proofs.SettledValues.{found-settled}
use Rattle.local_store.proofs.settled.Settled.first_binding.Goals as goal

pub returns-in_err-get-clause-found : goal.returns-in_err-get-clause-found
returns-in_err-get-clause-found c =
    c.from_residual.ensures ∙ sym (ap (λ o. found_at (bindings_at (option_copied o)) c.args.variable.index) c.in_err-get.was) ∙ ap (λ o. found_at (bindings_at o) c.args.variable.index) c.get.ensures
    ∙ sym (found-settled c.self.inside.frames c.args.variable c.self.invariant.ordered) ∙ ap (λ es. found_in (bindings_of es) c.args.variable) c.self.view_is

pub returns-clause-found : goal.returns-clause-found
returns-clause-found c =
    c.first.ensures ∙ ap (λ f. found_at f.bindings.items c.args.variable.index) c.get-2.ensures
    ∙ sym (ap (λ o. found_at (bindings_at (option_copied o)) c.args.variable.index) c.in_ok-get.was) ∙ ap (λ o. found_at (bindings_at o) c.args.variable.index) c.get.ensures
    ∙ sym (found-settled c.self.inside.frames c.args.variable c.self.invariant.ordered) ∙ ap (λ es. found_in (bindings_of es) c.args.variable) c.self.view_is
