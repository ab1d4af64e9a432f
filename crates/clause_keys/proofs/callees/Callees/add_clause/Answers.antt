use Rattle.std.proofs.Common.{◌<◌, refl, ap, arith, rules}
use Rattle.std.proofs.lemmas.List.{length-map}
use Rattle.akl_syntax.specs.declared.source.Head.TheVariants as heads
use Rattle.term_syntax.specs.View.{tree}
use Rattle.akl_syntax.specs.Goals.{Part}
use Rattle.akl_syntax.specs.Answers.{clause_view}
use Rattle.akl_syntax.proofs.PartTurns.{part_is}
use Rattle.clause_keys.proofs.Defined.{defined_is, few_arguments}
use Rattle.clause_keys.proofs.callees.Callees.add_clause.Goals as goal

pub overflow_cast-arity : goal.overflow_cast-arity
overflow_cast-arity c =
    let few : c.len-arity.result < 4294967296 = omega (arith, few_arguments (clause_view c.args.clause.now), length-map c.args.clause.now.arguments.items tree, c.len-arity.ensures, c.args.clause.now.arguments.ok, c.requires.small) in
    search rules

pub returns-in-Named-clause-ok : goal.returns-in-Named-clause-ok
returns-in-Named-clause-ok c =
    rw (defined_is (clause_view c.args.clause.now) (heads.Named c.in-Named.symbol) c.len-arity.result c.in-Named.is (omega (arith, length-map c.args.clause.now.arguments.items tree, c.len-arity.ensures, c.args.clause.now.arguments.ok)), ← c.as_str.ensures)
    c.add_named.ensures.ok

pub returns-in-Lifted-clause-ok : goal.returns-in-Lifted-clause-ok
returns-in-Lifted-clause-ok c =
    let op = ap (λ (p : Part). p.op) (part_is c.args.clause.now.part) in
    rw (defined_is (clause_view c.args.clause.now) (heads.Lifted c.in-Lifted.number c.in-Lifted.inside) c.len-arity.result c.in-Lifted.is (omega (arith, length-map c.args.clause.now.arguments.items tree, c.len-arity.ensures, c.args.clause.now.arguments.ok)), op)
    c.add_lifted_by.ensures.ok
