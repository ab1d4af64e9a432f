use Rattle.std.proofs.Common.{true, false, sym, ap, ◌≡◌, ◌≤◌, ◌∙◌, ℕ, subst}
use Rattle.std.specs.Prelude.{option_copied}
use Rattle.std.specs.Option.{IfSome, IfNone}
use Rattle.wake_lists.specs.Standing.{InBoxes, stands}
use Rattle.wake_lists.proofs.InBoxes.{none_in, first_there, first_least, first_none}
use Rattle.wake_lists.proofs.inside.Inside.first.Goals as goal

pub returns-in-Some-clause-there : goal.returns-in-Some-clause-there
returns-in-Some-clause-there c =
    subst (λ (ss : InBoxes). IfSome c.first.result (λ t. stands ss t c.args.name ≡ true)) c.self.view_is
    (first_there c.self.inside.tokens c.args.name c.in-Some.tokens.now (sym c.get.ensures ∙ ap option_copied c.in-Some.is) c.first.result c.first.ensures)

pub returns-in-Some-clause-least : goal.returns-in-Some-clause-least
returns-in-Some-clause-least c =
    subst (λ (ss : InBoxes). IfSome c.first.result (λ t. (s : ℕ) → stands ss s c.args.name ≡ true → t ≤ s)) c.self.view_is
    (first_least c.self.inside.tokens c.args.name c.in-Some.tokens.now (sym c.get.ensures ∙ ap option_copied c.in-Some.is) c.first.result c.first.ensures)

pub returns-in-Some-clause-empty : goal.returns-in-Some-clause-empty
returns-in-Some-clause-empty c =
    subst (λ (ss : InBoxes). IfNone c.first.result ((t : ℕ) → stands ss t c.args.name ≡ false)) c.self.view_is
    (first_none c.self.inside.tokens c.args.name c.in-Some.tokens.now (sym c.get.ensures ∙ ap option_copied c.in-Some.is) c.first.result c.first.ensures)

pub returns-in-None-clause-empty : goal.returns-in-None-clause-empty
returns-in-None-clause-empty c = λ t.
    ap (λ (ss : InBoxes). stands ss t c.args.name) (sym c.self.view_is) ∙ none_in c.self.inside.tokens c.args.name (sym c.get.ensures ∙ ap option_copied c.in-None.is) t
