use Rattle.std.proofs.Common.{◌≡◌, ℕ, suc, cond, rules, ◌++◌, ◌∷◌, [], Some, None, length, subst, sym, ◌∙◌, ap, arith, length-append}
use Rattle.akl_terms.specs.declared.name.Var.{Var}
use Rattle.std.specs.Map.{lookup}
use Rattle.akl_terms.specs.Names.{same_var}
use Rattle.answer_text.proofs.ClassNumbers.{IsFound, known_number-found, HasNumbers-push}
use Rattle.answer_text.proofs.classes.Classes.number.Goals as goal

pub returns-in-Some-clause-number : goal.returns-in-Some-clause-number
returns-in-Some-clause-number c =
    let f : IsFound c.args.self.now c.args.variable (Some c.in-Some.number) = subst (IsFound c.args.self.now c.args.variable) (sym c.in-Some.ensures) (known_number-found c.args.self.now c.args.variable) in
    f.0

pub returns-in-Some-clause-seen : goal.returns-in-Some-clause-seen
returns-in-Some-clause-seen c =
    let f : IsFound c.args.self.now c.args.variable (Some c.in-Some.number) = subst (IsFound c.args.self.now c.args.variable) (sym c.in-Some.ensures) (known_number-found c.args.self.now c.args.variable) in
    sym f.1

pub invariant_of-self-in-Ok : goal.invariant_of-self-in-Ok
invariant_of-self-in-Ok c =
    let len : c.len-number.result ≡ length c.push.new.self.items = search rules in
    let next : c.len-number.result ≡ suc (length c.self.inside.seen.items) = len ∙ ap length c.in_ok-push.ensures.items ∙ omega (arith, length-append {A = Var}) in
    rw c.in_ok-push.ensures.items
    (HasNumbers-push c.self.inside.numbers.entries c.insert.new.self.entries c.self.inside.seen.items c.args.variable c.self.invariant
    (rw (← c.self.view_is) at (sym c.in_default.ensures)) (λ y. c.in-Ok.ensures.updates.0 y ∙ ap (λ (n : ℕ). cond (same_var c.args.variable y) (Some n) (lookup (same_var y) c.self.inside.numbers.entries)) next))

pub returns-in-Ok-clause-number : goal.returns-in-Ok-clause-number
returns-in-Ok-clause-number c =
    let f : IsFound c.args.self.now c.args.variable None = subst (IsFound c.args.self.now c.args.variable) (sym c.in_default.ensures) (known_number-found c.args.self.now c.args.variable) in
    let len : c.len-number.result ≡ length c.push.new.self.items = search rules in
    let next : c.len-number.result ≡ suc (length c.self.inside.seen.items) = len ∙ ap length c.in_ok-push.ensures.items ∙ omega (arith, length-append {A = Var}) in
    next ∙ ap (λ xs. suc (length xs)) c.self.view_is ∙ sym (ap suc f.0)

pub returns-in-Ok-clause-seen : goal.returns-in-Ok-clause-seen
returns-in-Ok-clause-seen c =
    let f : IsFound c.args.self.now c.args.variable None = subst (IsFound c.args.self.now c.args.variable) (sym c.in_default.ensures) (known_number-found c.args.self.now c.args.variable) in
    c.in_ok-push.ensures.items ∙ ap (λ xs. xs ++ c.args.variable ∷ []) c.self.view_is ∙ sym f.1
