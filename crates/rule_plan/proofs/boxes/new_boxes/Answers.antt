use Rattle.std.proofs.Common.{List, [], sym, subst, append-nil}
use Rattle.std.proofs.lemmas.List.{at_drop_all}
use Rattle.akl_terms.specs.declared.program.Clause.{Clause}
use Rattle.rule_plan.specs.Made.{AreMade}
use Rattle.rule_plan.proofs.boxes.new_boxes.Goals as goal

pub returns : goal.returns
returns c = subst (AreMade c.args.chain.now.nodes c.args.chain.now.stores c.args.chain.now.known c.args.call c.args.first.worker c.args.first.number c.args.clauses.now) (append-nil c.loop-clause.boxes.items)
    (c.loop-clause.invariant.0 []
    (subst (λ (cs : List Clause). AreMade c.args.chain.now.nodes c.args.chain.now.stores c.args.chain.now.known c.args.call c.args.first.worker c.loop-clause.number cs []) (sym (at_drop_all (λ (cs : List Clause). cs) c.args.clauses.now c.loop-clause.clause-index c.loop-clause-test.false)) tt))
