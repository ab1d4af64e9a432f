-- In a box in which nothing is open no place is ready.
use Rattle.std.proofs.Common.{◌≡◌, List, ◌∷◌, ◌++◌, reverse, Bool, true, false, Some, sym, ◌∙◌, ap, subst}
use Rattle.std.proofs.lemmas.List.{reverse-reverse}
use Rattle.std.specs.Prelude.{Option, IsSomeAnd}
use Rattle.akl_terms.specs.declared.name.Name.{Name}
use Rattle.akl_terms.specs.declared.name.Place.{Place}
use Rattle.akl_model.specs.Config.{IsIn, Config}
use Rattle.akl_model.specs.Derivations.{IsReady}
use Rattle.akl_model.specs.Wakes.{boxes_around, StandsIn, IsOneOf}
use Rattle.akl_model.proofs.Options.{some_and}
use Rattle.akl_model.proofs.Scoped.{IsIn-left}
use Rattle.plan_laws.specs.Runs.{IsAwake, is_open, has_open}
use Rattle.plan_laws.proofs.IdlePlaces.{awake}
use Rattle.table_laws.specs.Stamped.{IsTableOf}
use Rattle.box_tree.specs.Tables.{TableValue, all_rules, table_of}
use Rattle.step_commit.specs.Cores.{TableIn, run_by}
use Rattle.stable_test.specs.Seen.{NoneReadyInside}
use Rattle.place_steps.specs.Seen.{IsStillIn}
use Rattle.wake_lists.specs.Open.{is_busy}
use Rattle.scheduler.specs.Openings.{IsOpenAt}
use Rattle.scheduler.specs.Resting.{IsAtRest}
use Rattle.scheduler.specs.Schedulers.{SchedulerValue, IsScheduler}
use Rattle.scheduler.proofs.Outwards.{WayOut, way_out, WayThrough, way_through}
use Rattle.scheduler.proofs.SettleAfter.{some_busy}
use Rattle.scheduler.proofs.CoreTables.{one_config}

module _ (s : SchedulerValue) (h : IsScheduler s) where
  abbrev table : TableValue
  table = s.core.table

  -- what stands in a box stands in those around it
  stands_further : (n m : Name) (place : Place) → StandsIn n h.core.table.config.roots (Place.Box m) → StandsIn m h.core.table.config.roots place → StandsIn n h.core.table.config.roots place
  stands_further n m place x y =
      let outer : (ns : List Name) × (boxes_around (Place.Box m) h.core.table.config.roots ≡ Some ns) × IsIn n ns = some_and (IsIn n) (boxes_around (Place.Box m) h.core.table.config.roots) x in
      let around : (ns : List Name) × (boxes_around place h.core.table.config.roots ≡ Some ns) × IsIn m ns = some_and (IsIn m) (boxes_around place h.core.table.config.roots) y in
      let w : WayOut table (run_by s.core) h.core.table (Place.Box m) = way_out table (run_by s.core) h.core.table (Place.Box m) in
      let z : WayThrough table (run_by s.core) h.core.table m around.0 w.names = way_through table (run_by s.core) h.core.table m w.names w.outward place around.0 around.1 around.2 in
      let same : outer.0 ≡ z.outer = w.around outer.0 outer.1 ∙ ap reverse (sym z.same) ∙ reverse-reverse z.outer in
      subst (λ (o : Option (List Name)). IsSomeAnd o (IsIn n)) (sym around.1)
      (subst (IsIn n) (sym z.parts) (IsIn-left n z.outer (m ∷ z.inner) (subst (IsIn n) same outer.2)))

  -- nothing that is open stands there
  none_open : (n : Name) → is_busy n s.openings ≡ false → (place : Place) → IsOneOf place h.now → StandsIn n h.core.table.config.roots place → ⊥
  none_open n e place i x =
      let o : IsOpenAt s.openings place = h.are_open.only place i in
      let busy : is_busy n s.openings ≡ true = some_busy n s.openings o.token o.opening o.is_open
      (h.standing.around o.token o.opening n o.is_open (subst (StandsIn n h.core.table.config.roots) (sym o.of_place) x)) in
      let z : true ≡ false = sym busy ∙ e in cc

  unready : (n : Name) → is_busy n s.openings ≡ false → (place : Place) → StandsIn n h.core.table.config.roots place → IsReady all_rules s.core.table.program h.core.table.config place → ⊥
  unready n e place x ready = on place x (awake all_rules s.core.table.program s.core.table.query s.core.journal h.core.table.config h.now h.kept h.run place ready)
    where
      on : (place : Place) → StandsIn n h.core.table.config.roots place → IsAwake all_rules s.core.table.program h.core.table.config h.now place → ⊥
      on place x (is_open i) = none_open n e place i x
      on (Place.Box m) x (has_open other only i y) = none_open n e other i (stands_further n m other x y)

  pub still_in : (place : Place) → IsAtRest s.openings place → IsStillIn s.core place
  still_in place rest n e = record {
    none = λ t other x ready.
        let q : t.config ≡ h.core.table.config = one_config s.core t h.core.table in
        unready n (rest n e) other (subst (λ (c : Config). StandsIn n c.roots other) q x) (subst (λ (c : Config). IsReady all_rules s.core.table.program c other) q ready);
  }
