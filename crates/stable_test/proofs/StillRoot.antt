-- A root box is stable where no rule other than Split applies at it and no place inside it is ready.
use Rattle.std.proofs.Common.{◌≡◌, Some, length}
use Rattle.akl_terms.specs.declared.name.Name.{Name}
use Rattle.akl_terms.specs.declared.name.Place.{Place}
use Rattle.akl_model.specs.Config.{box_at}
use Rattle.akl_model.specs.Stable.{IsStable}
use Rattle.akl_model.specs.Derivations.{IsReady}
use Rattle.akl_model.specs.Wakes.{StandsIn}
use Rattle.plan_laws.proofs.InScope.{Good}
use Rattle.plan_laws.proofs.Replayed.{good_replay}
use Rattle.box_tree.specs.Tables.{all_rules}
use Rattle.box_tree.specs.Views.{ViewValue, IsViewOf}
use Rattle.guard_plan.proofs.Sites.{stand}
use Rattle.stable_test.proofs.NoPlainRule.{NoneAppliesAt}
use Rattle.stable_test.proofs.RootStable.{stable_where_still}
use Rattle.stable_test.proofs.StillInside.{none_at_box, none_at_goal}

module _ (v : ViewValue) (i : IsViewOf v) (n : Name) (e : box_at n i.table.config.roots ≡ Some i.site) (deep : length i.site.around ≡ 0) (none : NoneAppliesAt all_rules v.table.program i.table.config (Place.Box n))
    (unready : (other : Place) → StandsIn n i.table.config.roots other → IsReady all_rules v.table.program i.table.config other → ⊥) where
  pub still_root : IsStable v.table.program i.site
  still_root = stable_where_still v.table.program i.table.config (stand v i) good n i.site e deep (none_at_box v i n i.site e none unready) (none_at_goal v i n i.site e none unready)
    where
      good : Good i.table.config
      good = good_replay all_rules v.table.program v.table.query v.journal i.table.config i.table.replays
