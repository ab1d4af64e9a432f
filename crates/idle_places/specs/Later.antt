-- A place that was found idle, after labels behind the journal that was seen.
use Rattle.std.specs.Prelude.{◌≡◌, false, List, ◌++◌, length, Some}
use Rattle.akl_terms.specs.declared.name.Var.{Var}
use Rattle.akl_terms.specs.declared.name.Place.{Place}
use Rattle.akl_terms.specs.declared.program.Program.{Program}
use Rattle.akl_terms.specs.declared.program.Query.{Query}
use Rattle.akl_model.specs.declared.item.Item.{Item}
use Rattle.akl_model.specs.declared.label.Label.{Label}
use Rattle.akl_model.specs.Config.{Config, Found, site_of}
use Rattle.akl_model.specs.Conditions.{HasFailed}
use Rattle.akl_model.specs.Derivations.{Replays, IsReady}
use Rattle.akl_model.specs.Wakes.{has_candidate, IsThere}
use Rattle.constraint_laws.specs.Touched.{IsAmong}
use Rattle.plan_laws.specs.Sleeps.{IsEnough}
use Rattle.plan_laws.specs.Waits.{IsScopedAt}
use Rattle.reading_laws.specs.Seen.{IsSeen}
use Rattle.reading_laws.specs.SeenIdle.{KeepsOldestAt}
use Rattle.box_tree.specs.Tables.{all_rules}
use Rattle.box_tree.specs.Plans.{IsRead}
use Rattle.idle_places.specs.Idling.{IdleValue, IsIdle}

-- the box has no goal by which it fails, and no candidate of a split
pub record HasNoReason (f : Found) : Type 0 where
  pub unfailed : HasFailed f.goals → ⊥
  pub unsplit : has_candidate f.goals ≡ false

-- a journal that goes on from the one that was seen leads to d, and none of the labels behind changed an item that was read; a place that didn't look
-- inside has no reason to be ready there
pub record LeavesIdle (v : IdleValue) (p : Program) (q : Query) (journal : List Label) (d : Config) : Type 0 where
  pub program : v.table.program ≡ p
  pub query : v.table.query ≡ q
  pub further : List Label
  pub front : journal ≡ v.journal ++ further
  pub replays : Replays all_rules p q journal d
  pub unchanged : (i : Item) → IsRead v.reads i → IsSeen all_rules p q journal (length v.journal) i
  pub no_reason : v.inside ≡ false → (f : Found) → site_of v.place d.roots ≡ Some f → HasNoReason f

-- the place is there and isn't ready; its variables are enough for it, in scope, and while the root box is consistent the oldest of their classes
pub record IsIdleStill (p : Program) (d : Config) (place : Place) (on : List Var) : Type 0 where
  pub there : IsThere place d.roots
  pub unready : IsReady all_rules p d place → ⊥
  pub enough : IsEnough p d on place
  pub scoped : (x : Var) → IsAmong x on → IsScopedAt d place x
  pub oldest : KeepsOldestAt d place on

abbrev pub IdleLaterLaw : Type 0
IdleLaterLaw = (v : IdleValue) → IsIdle v → (p : Program) (q : Query) (journal : List Label) (d : Config) → LeavesIdle v p q journal d → IsIdleStill p d v.place v.on
