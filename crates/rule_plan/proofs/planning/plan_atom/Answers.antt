use Rattle.std.proofs.Common.{None, Some, ◌∙◌, ap}
use Rattle.std.proofs.lemmas.Result.{IfOk-weaker}
use Rattle.akl_terms.specs.declared.name.Place.{Place}
use Rattle.akl_terms.specs.declared.program.Code.{Code}
use Rattle.akl_model.specs.Config.{Atom, an_atom}
use Rattle.akl_model.specs.Instances.{atom_of}
use Rattle.box_tree.specs.declared.view.Sight.{Sight}
use Rattle.rule_plan.proofs.AtomNone.{atom_none}
use Rattle.rule_plan.proofs.Silent.{silent_atom}
use Rattle.guard_plan.proofs.Sites.{shows_at}
use Rattle.rule_plan.proofs.planning.plan_atom.Goals as goal

pub returns-in-Equal : goal.returns-in-Equal
returns-in-Equal c = IfOk-weaker c.tell.result _ _ (silent_atom c.args.view.now c.args.noise.now.items c.args.atom c.requires.sight _ c.in-Equal.is tt) c.tell.ensures

pub returns-in-OpenPort : goal.returns-in-OpenPort
returns-in-OpenPort c = IfOk-weaker c.open.result _ _ (silent_atom c.args.view.now c.args.noise.now.items c.args.atom c.requires.sight _ c.in-OpenPort.is tt) c.open.ensures

pub returns-in-Call : goal.returns-in-Call
returns-in-Call c = IfOk-weaker c.fork.result _ _ (silent_atom c.args.view.now c.args.noise.now.items c.args.atom c.requires.sight _ c.in-Call.is tt) c.fork.ensures

pub returns-in-Collect : goal.returns-in-Collect
returns-in-Collect c = IfOk-weaker c.fork-in-Collect.result _ _ (silent_atom c.args.view.now c.args.noise.now.items c.args.atom c.requires.sight _ c.in-Collect.is tt) c.fork-in-Collect.ensures

pub returns-in-Send : goal.returns-in-Send
returns-in-Send c = IfOk-weaker c.send.result _ _ (silent_atom c.args.view.now c.args.noise.now.items c.args.atom c.requires.sight _ c.in-Send.is tt) c.send.ensures

pub returns-in-Fail : goal.returns-in-Fail
returns-in-Fail c = silent_atom c.args.view.now c.args.noise.now.items c.args.atom c.requires.sight _ c.in-Fail.is tt None
    (atom_none c.args.view.now c.requires.seen c.args.goal Atom.fail c.requires.place
    (shows_at c.args.view.now c.requires.seen (Place.Goal c.args.goal) (Sight.Atom c.args.atom) c.requires.place c.requires.sight
    ∙ ap (λ (k : Code). Some (an_atom (atom_of c.args.view.now.table.program.templates.nodes c.args.atom.frame k))) c.in-Fail.is) tt)
