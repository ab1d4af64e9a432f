use Rattle.std.proofs.Common.{◌≡◌, ℕ, suc, cond, rules, ◌++◌, ◌∷◌, [], Some, None, length, subst, sym, ◌∙◌, ap, arith, length-append}
use Rattle.std.specs.Map.{lookup}
use Rattle.std.proofs.Common.{nat_eq}
use Rattle.tree_classes.proofs.Numbering.{IsFound, known_number-found, HasNumbers-push}
use Rattle.tree_classes.proofs.numbers.Numbers.number.Goals as goal

pub returns-in-Some-clause-number : goal.returns-in-Some-clause-number
returns-in-Some-clause-number c =
    let f : IsFound c.args.self.now c.args.class (Some c.in-Some.number) = subst (IsFound c.args.self.now c.args.class) (sym c.in-Some.ensures) (known_number-found c.args.self.now c.args.class) in
    f.0

pub returns-in-Some-clause-given : goal.returns-in-Some-clause-given
returns-in-Some-clause-given c =
    let f : IsFound c.args.self.now c.args.class (Some c.in-Some.number) = subst (IsFound c.args.self.now c.args.class) (sym c.in-Some.ensures) (known_number-found c.args.self.now c.args.class) in
    sym f.1

pub invariant_of-self-in-Ok : goal.invariant_of-self-in-Ok
invariant_of-self-in-Ok c =
    let len : c.len-number.result ≡ length c.push.new.self.items = search rules in
    let next : c.len-number.result ≡ suc (length c.self.inside.given.items) = len ∙ ap length c.in_ok-push.ensures.items ∙ omega (arith, length-append {A = ℕ}) in
    rw c.in_ok-push.ensures.items
    (HasNumbers-push c.self.inside.numbers.entries c.insert.new.self.entries c.self.inside.given.items c.args.class c.self.invariant
    (rw (← c.self.view_is) at (sym c.in_default.ensures)) (λ y. c.in-Ok.ensures.updates.0 y ∙ ap (λ (n : ℕ). cond (nat_eq c.args.class y) (Some n) (lookup (nat_eq y) c.self.inside.numbers.entries)) next))

pub returns-in-Ok-clause-number : goal.returns-in-Ok-clause-number
returns-in-Ok-clause-number c =
    let f : IsFound c.args.self.now c.args.class None = subst (IsFound c.args.self.now c.args.class) (sym c.in_default.ensures) (known_number-found c.args.self.now c.args.class) in
    let len : c.len-number.result ≡ length c.push.new.self.items = search rules in
    let next : c.len-number.result ≡ suc (length c.self.inside.given.items) = len ∙ ap length c.in_ok-push.ensures.items ∙ omega (arith, length-append {A = ℕ}) in
    next ∙ ap (λ xs. suc (length xs)) c.self.view_is ∙ sym (ap suc f.0)

pub returns-in-Ok-clause-given : goal.returns-in-Ok-clause-given
returns-in-Ok-clause-given c =
    let f : IsFound c.args.self.now c.args.class None = subst (IsFound c.args.self.now c.args.class) (sym c.in_default.ensures) (known_number-found c.args.self.now c.args.class) in
    c.in_ok-push.ensures.items ∙ ap (λ xs. xs ++ c.args.class ∷ []) c.self.view_is ∙ sym f.1
