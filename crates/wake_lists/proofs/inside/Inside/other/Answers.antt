use Rattle.std.proofs.Common.{true, false, sym, ap, ◌≡◌, ◌∙◌, ℕ, subst}
use Rattle.std.specs.Prelude.{option_copied}
use Rattle.std.specs.Option.{IfSome, IfNone}
use Rattle.wake_lists.specs.Standing.{InBoxes, stands}
use Rattle.wake_lists.proofs.InBoxes.{none_in, other_there, other_apart, other_none}
use Rattle.wake_lists.proofs.inside.Inside.other.Goals as goal

pub returns-in-Some-clause-there : goal.returns-in-Some-clause-there
returns-in-Some-clause-there c =
    subst (λ (ss : InBoxes). IfSome c.other.result (λ t. stands ss t c.args.name ≡ true)) c.self.view_is
    (other_there c.self.inside.tokens c.args.name c.in-Some.tokens.now (sym c.get.ensures ∙ ap option_copied c.in-Some.is) c.args.token c.other.result c.other.ensures)

pub returns-in-Some-clause-other : goal.returns-in-Some-clause-other
returns-in-Some-clause-other c =
    other_apart c.self.inside.tokens c.args.name c.in-Some.tokens.now (sym c.get.ensures ∙ ap option_copied c.in-Some.is) c.args.token c.other.result c.other.ensures

pub returns-in-Some-clause-none : goal.returns-in-Some-clause-none
returns-in-Some-clause-none c =
    subst (λ (ss : InBoxes). IfNone c.other.result ((t : ℕ) → stands ss t c.args.name ≡ true → t ≡ c.args.token)) c.self.view_is
    (other_none c.self.inside.tokens c.args.name c.in-Some.tokens.now (sym c.get.ensures ∙ ap option_copied c.in-Some.is) c.args.token c.other.result c.other.ensures)

pub returns-in-None-clause-none : goal.returns-in-None-clause-none
returns-in-None-clause-none c = λ t e.
    let none : stands c.args.self.now t c.args.name ≡ false = ap (λ (ss : InBoxes). stands ss t c.args.name) (sym c.self.view_is) ∙ none_in c.self.inside.tokens c.args.name (sym c.get.ensures ∙ ap option_copied c.in-None.is) t in
    let no : false ≡ true = sym none ∙ e in absurd (cc)
