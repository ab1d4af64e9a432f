use Rattle.std.proofs.Common.{◌≡◌, ◌++◌, ◌∷◌, [], ℕ, List, map, reverse, sym, ◌∙◌, ap, subst, None}
use Rattle.std.specs.Prelude.{OnOk, Ok, Err, Result}
use Rattle.tree_classes.specs.Numbers.{known_number}
use Rattle.tree_models.specs.Visiting.{IsOne, class_of, row_of, again, newly}
use Rattle.tree_models.proofs.Steps.{known_one, unknown_none, unknown_last}
use Rattle.tree_models.proofs.visiting.step.Goals as goal

pub returns-in-Some : goal.returns-in-Some
returns-in-Some c = again
    (subst (λ (k : ℕ). IsOne k c.args.order.now) c.class_at-class.ensures (known_one c.args.order.now c.class_at-class.result c.in-Some.field-0 (sym c.known.ensures ∙ c.in-Some.is)))
    (λ i. c.args.order.now) (λ i. c.args.agenda.now.items)

wider : {X E : Type 0} {A B : Type 0} (r : Result X E) → (A → B) → OnOk r A → OnOk r B
wider (Ok x) f h = f h
wider (Err e) f h = h

pub returns : goal.returns
returns c =
    let none : known_number c.args.order.now c.class_at-class.result ≡ None = sym c.known.ensures ∙ c.in_default.is in
    let given : c.number.new.self ≡ c.args.order.now ++ class_of c.args.firsts.now c.args.node ∷ [] =
    c.in_ok-number.ensures.given ∙ unknown_last c.args.order.now c.class_at-class.result none ∙ ap (λ (k : ℕ). c.args.order.now ++ k ∷ []) c.class_at-class.ensures in
    wider c.push_reversed.result (λ e. newly
    (λ m. unknown_none c.args.order.now c.class_at-class.result none (subst (λ (k : ℕ). IsOne k c.args.order.now) (sym c.class_at-class.ensures) m)) given
    (e ∙ ap (λ (l : List ℕ). c.args.agenda.now.items ++ reverse l) (c.row_at.ensures ∙ ap (row_of (map (λ v. v.items) c.args.rows.now)) c.class_at-class.ensures))) c.push_reversed.ensures
