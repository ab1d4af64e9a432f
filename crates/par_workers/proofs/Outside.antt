-- From a box one comes outwards to a root box.
use Rattle.std.proofs.Common.{◌≡◌, sym, subst}
use Rattle.akl_terms.specs.declared.name.Name.{Name}
use Rattle.akl_terms.specs.declared.name.Place.{Place}
use Rattle.box_tree.specs.Tables.{TableValue, table_of}
use Rattle.box_tree.specs.Paths.{outside_of}
use Rattle.step_commit.specs.Cores.{CoreValue, IsCore, run_by}
use Rattle.scheduler.specs.Nearest.{HasWayOut}
use Rattle.scheduler.proofs.Outwards.{has_way}

module _ (c : CoreValue) (v : TableValue) (is : IsCore c) (of : v ≡ c.table) where
  pub way_of_box : (n : Name) → HasWayOut v (outside_of (table_of v) n)
  way_of_box n = subst (λ (w : TableValue). HasWayOut w (outside_of (table_of w) n)) (sym of) (has_way c.table (run_by c) is.table (Place.Box n))
