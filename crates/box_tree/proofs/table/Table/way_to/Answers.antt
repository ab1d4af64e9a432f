use Rattle.std.proofs.Common.{Option, refl, subst}
use Rattle.akl_terms.specs.declared.name.Name.{Name}
use Rattle.box_tree.proofs.WaysOut.{HasPassed, way_first, way_step, way_end}
use Rattle.box_tree.proofs.table.Table.way_to.Goals as goal

pub loop-at-init : goal.loop-at-init
loop-at-init c = way_first c.args.self.now c.args.name c.args.entry.now c.home_around-at.result c.in_ok-way.way c.requires.path c.requires.entry (c.in_ok-way.ensures c.args.self.now.program.templates.nodes) c.home_around-at.ensures

pub loop-at-preserved : goal.loop-at-preserved
loop-at-preserved c =
    (way_step c.args.self.now c.args.name c.in-Some.here c.loop-at.way c.pass.new.self c.in_ok-at.at c.in_ok-at.ensures
    (subst (λ (o : Option Name). HasPassed c.args.self.now c.args.name o c.loop-at.way) c.in-Some.is c.loop-at.invariant)).0

pub returns : goal.returns
returns c =
    way_end c.args.self.now c.args.name c.loop-at.way (record { path = c.reverse.new.self; stores = c.reverse-2.new.self; solving = c.loop-at.way.solving })
    (subst (λ (o : Option Name). HasPassed c.args.self.now c.args.name o c.loop-at.way) c.in_default.is c.loop-at.invariant) c.reverse.ensures c.reverse-2.ensures refl
