-- What one worker finds at places of a core, and cores that go on by its labels.
use Rattle.std.specs.Prelude.{◌≡◌, List, ◌++◌, Option, Some, None, false}
use Rattle.akl_terms.specs.declared.name.Place.{Place}
use Rattle.akl_model.specs.declared.label.Label.{Label}
use Rattle.box_tree.specs.Tables.{table_of}
use Rattle.box_tree.specs.Views.{ViewValue, is_there}
use Rattle.step_commit.specs.Cores.{CoreValue}
use Rattle.place_steps.specs.Seen.{IsSight}
use Rattle.place_steps.specs.Next.{IsNext}
use Rattle.place_steps.specs.declared.next.Next.{Next}

-- a core has gone on to another by labels
pub record GoesOnTo (c d : CoreValue) : Type 0 where
  pub program : d.table.program ≡ c.table.program
  pub query : d.table.query ≡ c.table.query
  pub further : List Label
  pub journal : d.journal ≡ c.journal ++ further

-- this comes next at some place of the core, for worker 1
pub record IsFoundNow (c : CoreValue) (n : Next) : Type 0 where
  pub place : Place
  pub view : ViewValue
  pub sight : IsSight c place 1 view
  pub next : IsNext view n

-- at a place nothing was found where it isn't there
abbrev pub IsFoundAt : CoreValue → Place → Option Next → Type 0
IsFoundAt c place None = is_there (table_of c.table) place ≡ false
IsFoundAt c place (Some n) = IsFoundNow c n
