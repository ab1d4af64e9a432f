use Rattle.std.proofs.Common.{List, subst}
use Rattle.akl_terms.specs.declared.program.Clause.{Clause}
use Rattle.call_plan.proofs.SiftingOn.{Passing, passes, ends_left, ends_none}
use Rattle.call_plan.proofs.sifting.first_left.Goals as goal

pub returns-in-Some-2 : goal.returns-in-Some-2
returns-in-Some-2 c =
    let rest = subst (λ (cs : List Clause). Passing c.args.chain.now.symbols c.args.chain.now.nodes c.args.chain.now.stores c.args.arguments c.args.first c.args.clauses.now c.args.sifted.now.labels.items c.args.sifted.now.plainly c.loop-clause.sifted.labels.items c.loop-clause.sifted.plainly c.loop-clause.name cs)
    c.in-Some.ensures.cases.0 c.loop-clause.invariant in
    ends_left c.args.chain.now.symbols c.args.chain.now.nodes c.args.chain.now.stores c.args.arguments c.args.first c.args.clauses.now c.args.sifted.now.labels.items c.args.sifted.now.plainly c.loop-clause.sifted.labels.items c.loop-clause.sifted.plainly c.loop-clause.name c.in-Some.clause.now c.in-Some.behind.now
    c.left_of.new.sifted.labels.items c.left_of.new.sifted.plainly c.in-Some-2.left rest (rw c.in-Some-2.is at c.in_ok-left.ensures)

pub loop-clause-preserved : goal.loop-clause-preserved
loop-clause-preserved c =
    let rest = subst (λ (cs : List Clause). Passing c.args.chain.now.symbols c.args.chain.now.nodes c.args.chain.now.stores c.args.arguments c.args.first c.args.clauses.now c.args.sifted.now.labels.items c.args.sifted.now.plainly c.loop-clause.sifted.labels.items c.loop-clause.sifted.plainly c.loop-clause.name cs)
    c.in-Some.ensures.cases.0 c.loop-clause.invariant in
    rw c.len.ensures
    (passes c.args.chain.now.symbols c.args.chain.now.nodes c.args.chain.now.stores c.args.arguments c.args.first c.args.clauses.now c.args.sifted.now.labels.items c.args.sifted.now.plainly c.loop-clause.sifted.labels.items c.loop-clause.sifted.plainly c.loop-clause.name c.in-Some.clause.now c.in-Some.behind.now
    c.left_of.new.sifted.labels.items c.left_of.new.sifted.plainly rest (rw c.in_default-2.is at c.in_ok-left.ensures))

pub returns : goal.returns
returns c = ends_none c.args.chain.now.symbols c.args.chain.now.nodes c.args.chain.now.stores c.args.arguments c.args.first c.args.clauses.now c.args.sifted.now.labels.items c.args.sifted.now.plainly c.loop-clause.sifted.labels.items c.loop-clause.sifted.plainly c.loop-clause.name c.loop-clause.rest.now
    c.in_default.ensures.cases c.loop-clause.invariant
