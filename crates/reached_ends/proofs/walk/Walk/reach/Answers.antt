use Rattle.std.proofs.Common.{List, sym, ◌∙◌, ap, subst, refl}
use Rattle.std.specs.List.{list_any}
use Rattle.akl_terms.specs.declared.name.Var.{Var}
use Rattle.akl_terms.specs.Names.{same_var}
use Rattle.constraint_laws.specs.Touched.{IsAmong}
use Rattle.reached_ends.specs.Walks.{state_of}
use Rattle.reached_ends.proofs.Going.{any_among, among_last, reaches_bound, reaches_end}
use Rattle.reached_ends.proofs.Coming.{from_before, from_bound, from_end}
use Rattle.reached_ends.proofs.walk.Walk.reach.Goals as goal

pub returns-then-contains-clause-reached : goal.returns-then-contains-clause-reached
returns-then-contains-clause-reached c = λ t. any_among c.args.self.now.reached.items c.args.variable
    (sym (c.contains.ensures.value ∙ ap (λ (l : List Var). list_any (λ y. same_var y c.args.variable) l) c.deref.ensures.value) ∙ c.if-contains.true)

pub returns-in_ok-push-in-Some-clause-goes : goal.returns-in_ok-push-in-Some-clause-goes
returns-in_ok-push-in-Some-clause-goes c = λ nodes. reaches_bound nodes c.args.root.now.bindings _ _ c.args.variable c.in-Some.term (sym c.first_binding.ensures ∙ c.in-Some.is)
    c.in_ok-push.ensures.items refl c.in_ok-push-in-Some.ensures.items

pub returns-in_ok-push-in-Some-clause-reached : goal.returns-in_ok-push-in-Some-clause-reached
returns-in_ok-push-in-Some-clause-reached c = λ t. subst (IsAmong c.args.variable) (sym c.in_ok-push.ensures.items) (among_last c.args.self.now.reached.items c.args.variable)

pub returns-in_ok-push-in-None-clause-goes : goal.returns-in_ok-push-in-None-clause-goes
returns-in_ok-push-in-None-clause-goes c = λ nodes. reaches_end nodes c.args.root.now.bindings _ _ c.args.variable (sym c.first_binding.ensures ∙ c.in-None.is)
    c.in_ok-push.ensures.items c.in_ok-push-in-None.ensures.items refl

pub returns-in_ok-push-in-None-clause-reached : goal.returns-in_ok-push-in-None-clause-reached
returns-in_ok-push-in-None-clause-reached c = λ t. subst (IsAmong c.args.variable) (sym c.in_ok-push.ensures.items) (among_last c.args.self.now.reached.items c.args.variable)

pub returns-then-contains-clause-from : goal.returns-then-contains-clause-from
returns-then-contains-clause-from c = λ nodes. from_before nodes c.args.root.now.bindings _ (state_of c.args.self.now) (state_of c.args.self.now) (λ x k. k)

pub returns-then-self-eq0-clause-from : goal.returns-then-self-eq0-clause-from
returns-then-self-eq0-clause-from c = λ nodes. from_before nodes c.args.root.now.bindings _ (state_of c.args.self.now) (state_of c.args.self.now) (λ x k. k)

pub returns-in_ok-push-in-Some-clause-from : goal.returns-in_ok-push-in-Some-clause-from
returns-in_ok-push-in-Some-clause-from c = λ nodes. from_bound nodes c.args.root.now.bindings (state_of c.args.self.now)
    (record { reached = c.push.new.self.items; ends = c.args.self.now.ends.items; waiting = c.push-in-Some.new.self.items }) c.args.variable c.in-Some.term (sym c.first_binding.ensures ∙ c.in-Some.is)
    c.in_ok-push.ensures.items c.in_ok-push-in-Some.ensures.items

pub returns-in_ok-push-in-None-clause-from : goal.returns-in_ok-push-in-None-clause-from
returns-in_ok-push-in-None-clause-from c = λ nodes. from_end nodes c.args.root.now.bindings (state_of c.args.self.now)
    (record { reached = c.push.new.self.items; ends = c.push-in-None.new.self.items; waiting = c.args.self.now.waiting.items }) c.args.variable c.in_ok-push.ensures.items refl
