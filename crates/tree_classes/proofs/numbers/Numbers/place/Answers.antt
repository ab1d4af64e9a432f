use Rattle.std.proofs.Common.{rules, ◌≡◌, length, Some, None, sym, ◌∙◌, ap, subst, arith}
use Rattle.tree_classes.proofs.Numbering.{IsFound, known_number-found}
use Rattle.tree_classes.proofs.numbers.Numbers.place.Goals as goal

pub overflow_sub-result : goal.overflow_sub-result
overflow_sub-result c =
    let f : IsFound c.args.self.now c.args.class (Some c.in-Some.number) = subst (IsFound c.args.self.now c.args.class) (sym c.known.ensures ∙ c.in-Some.is) (known_number-found c.args.self.now c.args.class) in
    omega (arith, f.0)

pub returns-in-Some : goal.returns-in-Some
returns-in-Some c =
    let f : IsFound c.args.self.now c.args.class (Some c.in-Some.number) = subst (IsFound c.args.self.now c.args.class) (sym c.known.ensures ∙ c.in-Some.is) (known_number-found c.args.self.now c.args.class) in
    omega (arith, f.0)

pub returns-in-None : goal.returns-in-None
returns-in-None c =
    let f : IsFound c.args.self.now c.args.class None = subst (IsFound c.args.self.now c.args.class) (sym c.known.ensures ∙ c.in-None.is) (known_number-found c.args.self.now c.args.class) in
    let len : c.len.result ≡ length c.self.inside.given.items = search rules in
    len ∙ ap length c.self.view_is ∙ sym f.0
