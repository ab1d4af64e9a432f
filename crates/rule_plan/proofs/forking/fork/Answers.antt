use Rattle.std.proofs.Common.{◌≡◌, ℕ, zero, suc, ◌<◌, ◌≤◌, List, [], ◌∷◌, length, get_or, Some, None, refl, sym, ap, ◌∙◌, subst, arith, rules}
use Rattle.std.specs.Prelude.{slice_get, option_map, ◌^◌}
use Rattle.akl_model.specs.declared.label.Rule.{Rule}
use Rattle.akl_model.specs.Config.{Operator}
use Rattle.akl_model.specs.Instances.{drawn_by}
use Rattle.akl_model.specs.Rules.{operator_of}
use Rattle.box_tree.specs.Tables.{op_held}
use Rattle.box_tree.specs.declared.step.Step.{Step}
use Rattle.akl_terms.specs.declared.program.Definition.{Definition}
use Rattle.guard_plan.proofs.PlanOf.{may_goal, plan_of}
use Rattle.rule_plan.proofs.KnownStores.{all_known}
use Rattle.rule_plan.proofs.ForkRight.{result, fork_right, fork_none}
use Rattle.rule_plan.proofs.forking.fork.Goals as goal

get_at : (xs : List Definition) (d : ℕ) (x : Definition) → d < length xs → x ≡ get_or xs d x → slice_get xs d ≡ Some x
get_at [] d x l e = absurd (omega arith)
get_at (y ∷ ys) zero x l e = ap Some (sym e)
get_at (y ∷ ys) (suc d) x l e = get_at ys d x (omega arith) e

get_within : (xs : List Definition) (d : ℕ) (x : Definition) → slice_get xs d ≡ Some x → d < length xs
get_within [] d x e = cc
get_within (y ∷ ys) zero x e = omega arith
get_within (y ∷ ys) (suc d) x e = let h : d < length ys = get_within ys d x e in omega arith

nothing_some : {o : Operator} → None ≡ Some o → ⊥
nothing_some e = cc

one_value : {x y : Definition} → Some x ≡ Some y → x ≡ y
one_value e = cc

pub returns-in_default : goal.returns-in_default
returns-in_default c = fork_none c.args.view.now c.label_of-label.ensures.seen c.args.goal c.args.definition c.args.call c.requires.place c.requires.sight (λ x o e u.
    let l : length c.as_slice.result.now ≤ c.args.definition = c.in_default.ensures.lookup.3 in
    let m : c.args.definition < length c.args.view.now.table.program.definitions = get_within c.args.view.now.table.program.definitions c.args.definition x e in
    let n : length c.as_slice.result.now ≡ length c.args.view.now.table.program.definitions = rw (c.as_slice.ensures, c.requires.program) in
    absurd (omega arith))

pub returns-in_default-operator_of : goal.returns-in_default-operator_of
returns-in_default-operator_of c =
    let is = rw (c.as_slice.ensures, c.requires.program) at (get_at c.as_slice.result.now c.args.definition c.in-Some.found.now c.in-Some.ensures.lookup.3.0 c.in-Some.ensures.lookup.1) in
    let nowhere = ap (option_map (op_held c.args.view.now.table.program.templates.nodes)) (sym c.in_default-operator_of.is) ∙ c.operator_of.ensures c.args.view.now.table.program.templates.nodes in
    fork_none c.args.view.now c.label_of-label.ensures.seen c.args.goal c.args.definition c.args.call c.requires.place c.requires.sight
    (λ x o e u. absurd (nothing_some (nowhere ∙ ap (λ (y : Definition). operator_of y.op (result c.args.view.now c.args.call)) (one_value (sym is ∙ e)) ∙ u)))

pub returns-in_default-names_of : goal.returns-in_default-names_of
returns-in_default-names_of c =
    let is = rw (c.as_slice.ensures, c.requires.program) at (get_at c.as_slice.result.now c.args.definition c.in-Some.found.now c.in-Some.ensures.lookup.3.0 c.in-Some.ensures.lookup.1) in
    let many = rw c.as_slice-2.ensures at c.in_default-names_of.ensures in
    fork_none c.args.view.now c.label_of-label.ensures.seen c.args.goal c.args.definition c.args.call c.requires.place c.requires.sight
    (λ x o e u. subst (λ (y : Definition). 2 ^ 32 ≤ drawn_by y.clauses) (one_value (sym is ∙ e)) many)

pub new-requires-2-clause-right : goal.new-requires-2-clause-right
new-requires-2-clause-right c =
    let is = rw (c.as_slice.ensures, c.requires.program) at (get_at c.as_slice.result.now c.args.definition c.in-Some.found.now c.in-Some.ensures.lookup.3.0 c.in-Some.ensures.lookup.1) in
    let operator = sym (ap (option_map (op_held c.args.view.now.table.program.templates.nodes)) (sym c.in-Some-operator_of.is) ∙ c.operator_of.ensures c.args.view.now.table.program.templates.nodes) in
    let names = rw c.as_slice-2.ensures at c.in-Some-names_of.ensures in
    let made = rw (c.chain-chain.ensures.nodes, c.chain-chain.ensures.stores, c.chain-chain.ensures.known, c.worker.ensures, c.next-next.ensures, c.as_slice-3.ensures, c.requires.program) at c.in_ok-alternatives.ensures in
    rw (c.label_of-label.ensures.label, c.new.ensures.items, c.in_ok-reads.ensures, names.0)
    (fork_right c.args.view.now c.label_of-label.ensures.seen c.args.goal c.args.definition c.args.call c.requires.place c.requires.sight c.in-Some.found.now is c.in-Some-operator_of.op operator
    (subst (λ (n : ℕ). n < 2 ^ 32) names.0 names.1) c.in_ok-alternatives.alternatives.items made
    (Step.Fork c.in-Some-operator_of.op c.in_ok-alternatives.alternatives) refl)

pub returns : goal.returns
returns c =
    let made = rw (c.chain-chain.ensures.nodes, c.chain-chain.ensures.stores, c.chain-chain.ensures.known, c.worker.ensures, c.next-next.ensures, c.as_slice-3.ensures, c.requires.program) at c.in_ok-alternatives.ensures in
    let may = may_goal c.args.view.now c.args.goal c.requires.place _ c.in_ok-reads.reads.items c.in_ok-reads.ensures in
    plan_of c.args.view.now c.in_ok-plan.plan _ _ _ _ _ (search rules) may c.in_ok-plan.ensures Rule.Fork _ c.label_of-label.ensures.label
    (all_known c.args.view.now c.args.call c.args.view.now.worker c.args.view.now.next c.in-Some.found.now.clauses c.in_ok-alternatives.alternatives.items made) (λ e. cc)
