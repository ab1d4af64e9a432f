-- Parts of calls at once at the very table for which they were planned.
use Rattle.std.specs.Prelude.{◌≡◌, ℕ, List, Some}
use Rattle.akl_terms.specs.declared.name.Name.{Name}
use Rattle.akl_model.specs.declared.label.Rule.{Rule}
use Rattle.akl_model.specs.Config.{Atom, with_names, Found, box_at}
use Rattle.local_store.specs.Stored.{Stored, all_named}
use Rattle.plan_laws.specs.AtOnce.{IsAtOnce}
use Rattle.table_laws.specs.Rows.{Table}
use Rattle.table_laws.specs.Stamped.{Run, IsTableOf}
use Rattle.table_laws.specs.Calls.{CallsGoal}
use Rattle.table_laws.specs.Added.{Added, with_added}
use Rattle.table_laws.specs.Planned.{store_of}
use Rattle.table_laws.specs.Calling.{CallsBy}

-- what the plan of a call adds makes the store that the call gives its box in its own table
abbrev pub CallsHereLaw : Type 0
CallsHereLaw = (rules : List Rule) (run : Run) (S : Table) (s : IsTableOf rules run S) (w : ℕ) (g : Name) (f : Found) → box_at f.content.name s.config.roots ≡ Some f → (call : IsAtOnce run.program s.config w g f)
    → (alternative : Stored) (x : Added) (goals : List (Name × Atom)) → CallsBy call alternative x goals → CallsGoal call alternative (with_added (store_of S f.content.name) x) goals

-- and such a store that is right in its table is made by what it adds, where the frames that are added are those of the alternative that is left
abbrev pub CallsFromLaw : Type 0
CallsFromLaw = (rules : List Rule) (run : Run) (S : Table) (s : IsTableOf rules run S) (w : ℕ) (g : Name) (f : Found) → box_at f.content.name s.config.roots ≡ Some f → (call : IsAtOnce run.program s.config w g f)
    → (alternative : Stored) (x : Added) (goals : List (Name × Atom)) → CallsGoal call alternative (with_added (store_of S f.content.name) x) goals
    → ((old : List Name) → all_named old x.frames ≡ with_names call.last.frames old) → CallsBy call alternative x goals
