use Rattle.akl_terms.specs.Template.{tree}
use Rattle.arith_goals.proofs.Flat.{plain-comes, plain-ends}
use Rattle.arith_goals.proofs.walk.walk_flat.Goals as goal

pub returns-in_default : goal.returns-in_default
returns-in_default g c = record {
  comes = plain-comes c.args.templates.now (g.K.Lookup.bindings c.args.known.now) (tree c.args.templates.now.nodes c.args.term) c.read_expression.result c.read_expression.ensures c.at_once.result c.at_once.ensures;
  end = plain-ends c.args.templates.now (g.K.Lookup.bindings c.args.known.now) (tree c.args.templates.now.nodes c.args.term) c.read_expression.result c.read_expression.ensures c.at_once.result c.at_once.ensures c.requires;
}
