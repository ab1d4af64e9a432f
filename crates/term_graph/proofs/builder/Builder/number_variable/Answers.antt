use Rattle.akl_terms.specs.Tree.{variable}
use Rattle.rational_unify.specs.Known.{end_of}
use Rattle.term_graph.proofs.Places.{numbered}
use Rattle.term_graph.proofs.builder.Builder.number_variable.Goals as goal

pub returns : goal.returns
returns g c =
    numbered c.args.templates.now (end_of c.args.templates.now.nodes (g.K.Lookup.bindings c.args.form.now)) c.args.self.now c.requires.building c.variable_end.result (variable c.args.variable) c.variable_end.ensures c.place.new.self c.in_ok-node.node
    c.in_ok-node.ensures
