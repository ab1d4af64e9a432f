use Rattle.std.proofs.Common.{◌≡◌, ◌+◌, ◌<◌, List, ◌∷◌, drop, get_or, length, sym, subst, add-one, drop-cons}
use Rattle.akl_terms.specs.declared.name.Var.{Var}
use Rattle.guard_plan.specs.ReadAt.{AddsBindings}
use Rattle.guard_plan.proofs.reading.goal_and_bindings.Goals as goal

first_of_rest : (xs : List Var) (i : _) (d : Var) → i < length xs → drop i xs ≡ get_or xs i d ∷ drop (i + 1) xs
first_of_rest xs i d h = rw (add-one, drop-cons xs i d)

pub loop-variable-preserved : goal.loop-variable-preserved
loop-variable-preserved c = λ new h. c.loop-variable.invariant new (subst (λ (xs : List Var). AddsBindings c.args.view.now xs c.loop-variable.items.items new)
    (sym (first_of_rest c.args.variables.now c.loop-variable.variable-index (record { frame = record { worker = 0; number = 0 }; index = 0 }) c.loop-variable-test.true))
    (c.add_binding.new.items.items, c.in_ok-add_binding.ensures, h))
