use Rattle.std.proofs.Common.{◌<◌, length, Option, sym, ◌∙◌, subst}
use Rattle.akl_terms.specs.declared.name.Name.{Name}
use Rattle.box_tree.specs.Tables.{TableValue, table_of}
use Rattle.box_tree.specs.Paths.{outside_of}
use Rattle.scheduler.specs.Nearest.{HasWayOut}
use Rattle.scheduler.proofs.Outwards.{climbs, way_next, climbs_less}
use Rattle.par_workers.proofs.roots.outermost.Goals as goal

pub loop-outer-smaller : goal.loop-outer-smaller
loop-outer-smaller c =
    let v : TableValue = c.args.table.now in
    let outer = c.in-Some.outer in
    let next = sym c.outside.ensures ∙ c.in-Some.is in
    subst (λ (o : Option Name). climbs (table_of v) (length v.boxes) (outside_of (table_of v) outer) < climbs (table_of v) (length v.boxes) o) (sym next)
    (climbs_less v outer (subst (HasWayOut v) next c.loop-outer.invariant))

pub loop-outer-preserved : goal.loop-outer-preserved
loop-outer-preserved c = way_next c.args.table.now c.in-Some.outer (subst (HasWayOut c.args.table.now) (sym c.outside.ensures ∙ c.in-Some.is) c.loop-outer.invariant)
