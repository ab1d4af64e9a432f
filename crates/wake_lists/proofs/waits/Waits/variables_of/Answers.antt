use Rattle.std.proofs.Common.{◌≡◌, List, [], Some, None, sym, ap, ◌∙◌}
use Rattle.std.specs.Prelude.{option_copied}
use Rattle.akl_terms.specs.declared.name.Var.{Var}
use Rattle.akl_terms.specs.declared.name.Place.{Place}
use Rattle.wake_lists.specs.Waits.{waits_on, is_variable_in}
use Rattle.wake_lists.specs.KeptWaits.{lists}
use Rattle.wake_lists.proofs.Both.{listed_so}
use Rattle.wake_lists.proofs.waits.Waits.variables_of.Goals as goal

pub returns-in-Some : goal.returns-in-Some
returns-in-Some c = λ x.
    ap (is_variable_in x) c.as_slice.ensures.value
    ∙ listed_so c.args.place [] c.self.inside.by_variable c.self.inside.by_place c.self.invariant.both c.in-Some.variables.now (sym c.get.ensures ∙ ap option_copied c.in-Some.is) x
    ∙ ap (λ (ws : List (Var × List Place)). waits_on ws c.args.place x) c.self.view_is

pub returns-in-None : goal.returns-in-None
returns-in-None c = λ x.
    sym (c.self.invariant.both c.args.place x ∙ ap (lists x) (sym c.get.ensures ∙ ap option_copied c.in-None.is))
    ∙ ap (λ (ws : List (Var × List Place)). waits_on ws c.args.place x) c.self.view_is
