use Rattle.std.proofs.Common.{List, subst}
use Rattle.akl_terms.specs.declared.name.Name.{Name}
use Rattle.box_tree.specs.Tables.{table_of, step_of}
use Rattle.opened_places.specs.Listed.{AreListed}
use Rattle.opened_places.proofs.AroundPath.{outside_is}
use Rattle.opened_places.proofs.RunRows.{around_path}
use Rattle.opened_places.proofs.AroundSteps.{changed_where}
use Rattle.opened_places.proofs.places.changed_places.Goals as goal

pub path_around-requires-clause-path : goal.path_around-requires-clause-path
path_around-requires-clause-path c = around_path c.args.table.now c.requires.run.0 c.requires.run.1 c.args.label c.args.around c.requires.around c.requires.there

pub path_around-requires-clause-outside : goal.path_around-requires-clause-outside
path_around-requires-clause-outside c = outside_is (table_of c.args.table.now) c.args.label c.args.around c.requires.around

pub returns : goal.returns
returns c = changed_where c.args.table.now c.args.label c.args.step.now c.args.around c.in_ok-path.path.items c.in_ok-places.places.items c.requires.around c.in_ok-path.ensures
    (λ nodes s. subst (λ (ns : List Name). AreListed c.args.label.place c.args.around ns (step_of nodes s c.args.step.now) c.in_ok-places.places.items) c.as_slice.ensures.value (c.in_ok-places.ensures nodes s))
