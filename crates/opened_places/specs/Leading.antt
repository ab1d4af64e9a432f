-- How a step leads from one configuration to another: by one label, or by all labels of a call at once.
use Rattle.std.specs.Prelude.{◌≡◌, Bool, List, [], ◌∷◌, Some, slice_index}
use Rattle.akl_terms.specs.declared.name.Name.{Name}
use Rattle.akl_terms.specs.declared.program.Program.{Program}
use Rattle.akl_model.specs.declared.label.Label.{Label}
use Rattle.akl_model.specs.Config.{Atom, Config, Found, home_of}
use Rattle.akl_model.specs.Derivations.{Applies}
use Rattle.local_store.specs.Stored.{Stored}
use Rattle.table_laws.specs.Steps.{Step, joins, Makes}
use Rattle.plan_laws.specs.AtOnce.{IsAtOnce, labels_at_once, at_once}
use Rattle.table_laws.specs.Calls.{CallsGoal}
use Rattle.box_tree.specs.Tables.{all_rules}

-- the label and those behind it are those of a call at once, and the step is its net change
pub record CallsTo (p : Program) (c : Config) (l : Label) (more : List Label) (step : Step) (d : Config) : Type 0 where
  pub goal : Name
  pub site : Found
  pub is_home : home_of goal c.roots ≡ Some site
  pub calls : IsAtOnce p c l.worker goal site
  pub labels : l ∷ more ≡ labels_at_once calls
  pub alternative : Stored
  pub new : Stored
  pub is_solved : Bool
  pub goals : List (Name × Atom)
  pub makes : CallsGoal calls alternative new goals
  pub step_is : step ≡ joins new is_solved goals
  pub result : at_once calls ≡ d

-- the label applies and makes the step alone, or it is the first of a call
pub data LeadsTo (p : Program) (c : Config) (l : Label) (more : List Label) (step : Step) (d : Config) : Type 0 where
  by_label : (a : Applies all_rules p c l d) → Makes p l (slice_index c.next l.worker) a.site step → more ≡ [] → LeadsTo p c l more step d
  by_call : CallsTo p c l more step d → LeadsTo p c l more step d
