use Rattle.std.proofs.Common.{◌≡◌, Some, sym}
use Rattle.akl_terms.specs.declared.name.Name.{Name}
use Rattle.table_laws.specs.Writes.{home_in}
use Rattle.box_tree.specs.Tables.{TableValue, table_of}
use Rattle.opened_places.proofs.RunRows.{holder_home}
use Rattle.opened_places.proofs.SetRows.{some_none}
use Rattle.opened_places.proofs.around.holder_at.Goals as goal

pub returns-in_default-home_of-clause-holder : goal.returns-in_default-home_of-clause-holder
returns-in_default-home_of-clause-holder c =
    let v : TableValue = c.args.table.now in
    let w : (home : Name) × (home_in ((table_of v).goal_of c.in-Some.goal) ≡ Some home) = holder_home v c.requires.0 c.requires.1 c.args.name c.in-Some.goal (sym c.in-Some.ensures) in
    absurd (some_none (sym c.in_default-home_of.ensures) w.1)
