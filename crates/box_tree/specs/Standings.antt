-- What stands at a place.
use Rattle.std.specs.Prelude.{◌≡◌, Some}
use Rattle.std.specs.Map.{lookup}
use Rattle.akl_terms.specs.declared.name.Place.{Place}
use Rattle.akl_terms.specs.Names.{same_name}
use Rattle.box_tree.specs.declared.standing.Standing.{Standing}
use Rattle.box_tree.specs.Tables.{TableValue, table_of}
use Rattle.box_tree.specs.Paths.{sight_in, names_at}

-- the place's box with its entry, what is seen there, and the alternatives of the choice
pub record IsStandingAt (t : TableValue) (place : Place) (s : Standing) : Type 0 where
  pub sight : sight_in t place ≡ Some (s.home, s.sight)
  pub entry : lookup (same_name s.home) t.boxes ≡ Some s.entry.now
  pub alternatives : s.alternatives.now ≡ names_at (table_of t) place
