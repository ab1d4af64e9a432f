use Rattle.std.proofs.Common.{sym, ◌∙◌, subst, inl}
use Rattle.std.proofs.lemmas.Result.{IfOk-weaker}
use Rattle.akl_terms.specs.declared.name.Var.{Var}
use Rattle.constraint_laws.specs.Touched.{IsAmong}
use Rattle.reached_ends.specs.Leading.{StandsIn}
use Rattle.reached_ends.specs.Walks.{state_of}
use Rattle.reached_ends.proofs.Going.{both_ok, covers, tree_free, struct_stands, stands_struct}
use Rattle.reached_ends.proofs.Coming.{from_before, from_more}
use Rattle.reached_ends.proofs.walk.Walk.take.Goals as goal

pub returns-in-Free-clause-goes : goal.returns-in-Free-clause-goes
returns-in-Free-clause-goes c =
    let nodes = c.args.templates.now.nodes in
    let is = tree_free nodes c.args.term c.in-Free.variable (sym c.look.ensures.seen ∙ c.in-Free.is) in
    both_ok c.reach.result _ _ _ c.reach.ensures.goes c.reach.ensures.reached (λ fits g r t. covers nodes c.args.root.now.bindings (state_of c.args.self.now) (state_of c.reach.new.self) c.args.term (g nodes)
    (λ x s. inl (subst (λ (y : Var). IsAmong y c.reach.new.self.reached.items) (sym (subst (StandsIn x) is s)) (r t))))

pub returns-in-Struct-clause-goes : goal.returns-in-Struct-clause-goes
returns-in-Struct-clause-goes c =
    let nodes = c.args.templates.now.nodes in
    both_ok c.spread.result _ _ _ c.spread.ensures.goes c.spread.ensures.comes (λ fits g r t. covers nodes c.args.root.now.bindings (state_of c.args.self.now) (state_of c.spread.new.self) c.args.term (g nodes c.args.root.now.bindings)
    (λ x s. r t nodes x (struct_stands nodes c.look.ensures.arranged c.args.term c.in-Struct.symbol c.in-Struct.first c.in-Struct.count c.in-Struct.frame (sym c.look.ensures.seen ∙ c.in-Struct.is) x s)))

pub returns-in-Free-clause-from : goal.returns-in-Free-clause-from
returns-in-Free-clause-from c =
    let nodes = c.args.templates.now.nodes in
    let is = tree_free nodes c.args.term c.in-Free.variable (sym c.look.ensures.seen ∙ c.in-Free.is) in
    IfOk-weaker c.reach.result _ _ (λ fits f. from_more nodes c.args.root.now.bindings _ _ (state_of c.args.self.now) (state_of c.reach.new.self) (λ x q. subst (StandsIn x) (sym is) q) (f nodes)) c.reach.ensures.from

pub returns-in-Struct-clause-from : goal.returns-in-Struct-clause-from
returns-in-Struct-clause-from c =
    let nodes = c.args.templates.now.nodes in
    IfOk-weaker c.spread.result _ _ (λ fits f. from_more nodes c.args.root.now.bindings _ _ (state_of c.args.self.now) (state_of c.spread.new.self)
    (λ x s. stands_struct nodes c.look.ensures.arranged c.args.term c.in-Struct.symbol c.in-Struct.first c.in-Struct.count c.in-Struct.frame (sym c.look.ensures.seen ∙ c.in-Struct.is) x s)
    (f nodes c.args.root.now.bindings)) c.spread.ensures.from

pub returns-in-Int-clause-from : goal.returns-in-Int-clause-from
returns-in-Int-clause-from c = from_before c.args.templates.now.nodes c.args.root.now.bindings _ (state_of c.args.self.now) (state_of c.args.self.now) (λ x k. k)
