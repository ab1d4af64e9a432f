use Rattle.std.proofs.Common.{◌≡◌, ◌<◌, length, Bool, Option, None, true, false, sym, ◌∙◌, subst}
use Rattle.std.specs.Prelude.{is_some}
use Rattle.akl_terms.specs.declared.name.Name.{Name}
use Rattle.wake_lists.specs.Open.{Openings}
use Rattle.box_tree.specs.Tables.{TableValue, table_of}
use Rattle.box_tree.specs.Insides.{candidate_in}
use Rattle.scheduler.specs.Nearest.{HasWayOut, is_used}
use Rattle.scheduler.proofs.Outwards.{IsPast, climbs, past_next, past_here, past_used, past_all, way_next, climbs_less}
use Rattle.scheduler.proofs.candidates.quiet_from.Goals as goal

pub returns-then-busy_without : goal.returns-then-busy_without
returns-then-busy_without c =
    past_used c.args.table.now c.args.open_places.now c.args.own c.args.first c.in-Some.name (sym c.busy_without.ensures ∙ c.if-busy_without.true)
    (subst (IsPast (table_of c.args.table.now) (is_used c.args.open_places.now c.args.own) c.args.first) c.in-Some.is c.loop-at.invariant.1)

pub returns-then-has_box : goal.returns-then-has_box
returns-then-has_box c =
    let v : TableValue = c.args.table.now in
    let unused : is_used c.args.open_places.now c.args.own c.in-Some.name ≡ false = sym c.busy_without.ensures ∙ c.if-busy_without.false in
    let found : is_some (candidate_in (table_of v) c.in-Some.name) ≡ true = c.requires.splits c.in-Some.name unused ∙ sym c.has_box.ensures ∙ c.if-has_box.true in
    past_here v c.args.open_places.now c.args.own c.args.first c.in-Some.name unused found
    (subst (IsPast (table_of v) (is_used c.args.open_places.now c.args.own) c.args.first) c.in-Some.is c.loop-at.invariant.1)

pub loop-at-smaller : goal.loop-at-smaller
loop-at-smaller c =
    let v : TableValue = c.args.table.now in
    subst (λ (z : Option Name × Option Name). climbs (table_of v) (length v.boxes) z.0 < climbs (table_of v) (length v.boxes) z.1) (λ i. (sym c.outside-at.ensures i, sym c.in-Some.is i))
    (climbs_less v c.in-Some.name (subst (HasWayOut v) c.in-Some.is c.loop-at.invariant.0))

pub loop-at-preserved : goal.loop-at-preserved
loop-at-preserved c =
    let v : TableValue = c.args.table.now in
    let os : Openings = c.args.open_places.now in
    let used : Name → Bool = is_used os c.args.own in
    let unused : used c.in-Some.name ≡ false = sym c.busy_without.ensures ∙ c.if-busy_without.false in
    let none : is_some (candidate_in (table_of v) c.in-Some.name) ≡ false = c.requires.splits c.in-Some.name unused ∙ sym c.has_box.ensures ∙ c.if-has_box.false in (
      subst (HasWayOut v) (sym c.outside-at.ensures) (way_next v c.in-Some.name (subst (HasWayOut v) c.in-Some.is c.loop-at.invariant.0)),
      subst (IsPast (table_of v) used c.args.first) (sym c.outside-at.ensures)
          (past_next v os c.args.own c.args.first c.in-Some.name unused none (subst (IsPast (table_of v) used c.args.first) c.in-Some.is c.loop-at.invariant.1)),
    )

pub returns : goal.returns
returns c =
    let end : c.loop-at.at ≡ None = search in
    past_all c.args.table.now c.args.open_places.now c.args.own c.args.first (subst (IsPast (table_of c.args.table.now) (is_used c.args.open_places.now c.args.own) c.args.first) end c.loop-at.invariant.1)
