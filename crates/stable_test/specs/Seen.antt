-- What is seen inside of a box.
use Rattle.std.specs.Prelude.{◌≡◌, ℕ, List, Some, length}
use Rattle.akl_terms.specs.declared.name.Name.{Name}
use Rattle.akl_terms.specs.declared.program.Program.{Program}
use Rattle.akl_model.specs.declared.label.Label.{Label}
use Rattle.akl_terms.specs.declared.name.Place.{Place}
use Rattle.akl_model.specs.Config.{Found, box_at}
use Rattle.akl_model.specs.Derivations.{IsReady}
use Rattle.akl_model.specs.Wakes.{StandsIn}
use Rattle.local_store.specs.Stored.{Stored}
use Rattle.table_laws.specs.Stamped.{IsTableOf}
use Rattle.box_tree.specs.declared.inside.Inside.{Inside}
use Rattle.box_tree.specs.Tables.{TableValue, all_rules, table_of}
use Rattle.box_tree.specs.Views.{ViewValue, run_of}
use Rattle.box_tree.specs.Insides.{IsInsideOf}
use Rattle.guard_plan.specs.Planned.{HasNoRule}
use Rattle.stable_test.specs.Reaching.{ReachesNoneAt}

-- all that stands in a box, which is found with so many boxes around it, and inside it
pub record IsSeenInside (p : Program) (depth : ℕ) (i : Inside) : Type 0 where
  pub table : TableValue
  pub of_program : table.program ≡ p
  pub journal : List Label
  pub run : IsTableOf all_rules (run_of table journal) (table_of table)
  pub name : Name
  pub worker : ℕ
  pub inside : IsInsideOf table journal name worker i
  pub site : Found
  pub is_site : box_at name run.config.roots ≡ Some site
  pub deep : length site.around ≡ depth

-- no place inside of a box is ready
pub record NoneReadyInside (t : TableValue) (journal : List Label) (n : Name) : Type 0 where
  pub none : (k : IsTableOf all_rules (run_of t journal) (table_of t)) (other : Place) → StandsIn n k.config.roots other → IsReady all_rules t.program k.config other → ⊥

-- no rule applies at a place, and it reaches nothing from outside
abbrev pub IsStill : Program → ℕ → Stored → ViewValue → Type 0
IsStill p depth frames v = HasNoRule v × ReachesNoneAt p depth frames v

-- a view is of a table that was started with this program
abbrev pub IsOfProgram : Program → ViewValue → Type 0
IsOfProgram p v = p ≡ v.table.program
