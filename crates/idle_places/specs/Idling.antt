-- Places that aren't ready, with what they read and what they wait on.
use Rattle.std.specs.Prelude.{◌≡◌, Bool, true, false, List, [], Some, ◌⊎◌, IsSome}
use Rattle.akl_terms.specs.declared.name.Name.{Name}
use Rattle.akl_terms.specs.declared.name.Var.{Var}
use Rattle.akl_terms.specs.declared.name.Place.{Place}
use Rattle.akl_model.specs.declared.item.Item.{Item}
use Rattle.akl_model.specs.declared.label.Label.{Label}
use Rattle.akl_model.specs.Config.{IsIn, Found, site_of}
use Rattle.akl_model.specs.Derivations.{IsReady}
use Rattle.akl_model.specs.Wakes.{Concerns, names_down_to}
use Rattle.constraint_laws.specs.Touched.{IsAmong}
use Rattle.plan_laws.specs.Idle.{Watches}
use Rattle.plan_laws.specs.ByGoals.{by_goals}
use Rattle.plan_laws.specs.Sleeps.{IsEnough}
use Rattle.plan_laws.specs.Waits.{HasOldestAt}
use Rattle.reading_laws.specs.SeenIdle.{ReadsIdle}
use Rattle.table_laws.specs.Rows.{Table}
use Rattle.table_laws.specs.Inside.{IsAlternativeOf}
use Rattle.table_laws.specs.Stamped.{IsTableOf, stamp_in}
use Rattle.box_tree.specs.Tables.{all_rules, TableValue, table_of}
use Rattle.box_tree.specs.Views.{run_of}
use Rattle.box_tree.specs.Insides.{IsItemInside, IsOfBoxes}
use Rattle.box_tree.specs.Plans.{IsRead}

-- the table and the journal of the view by which a place was found idle; the place, the items that it read, and the variables that it waits on; and
-- whether it looked inside: only a root box need not
pub record IdleValue : Type 0 where
  pub table : TableValue
  pub journal : List Label
  pub place : Place
  pub reads : List Item
  pub on : List Var
  pub inside : Bool

-- of a root box its set of goals, which stands for its constraint
pub record WatchesGoals (U : Item → Type 0) (place : Place) (f : Found) : Type 0 where
  pub name : Name
  pub is_box : place ≡ Place.Box name
  pub is_root : f.around ≡ []
  pub goals : U (Item.Goals name)

-- of a goal the bindings of the variables on which it waits, in the place of the root box's set of goals
pub record WatchesBindings (U : Item → Type 0) (on : List Var) (place : Place) (f : Found) : Type 0 where
  pub goal : Name
  pub is_goal : place ≡ Place.Goal goal
  pub reads : ReadsIdle U on goal f

-- a place that looked inside watches what such a place has to, of each box its set of goals in the place of its constraint; or, if it is a goal, by bindings
abbrev pub HasWatched : Bool → (Item → Type 0) → List Var → Place → Found → Type 0
HasWatched true U on place f = Watches (λ (i : Item). U (by_goals i)) place f ⊎ WatchesBindings U on place f
HasWatched false U on place f = WatchesGoals U place f

-- of a goal it may read itself, the bindings of the variables on which it waits, and the sets of goals of the boxes down to it and of its alternatives; of a box what is of it, inside it, or
-- of a box around it
abbrev pub IdleMayRead : Table → List Var → Place → Found → Item → Type 0
IdleMayRead T on (Place.Goal g) f i = (i ≡ Item.Goal g) ⊎ ((x : Var) × IsAmong x on × (i ≡ Item.Binding x)) ⊎ ((m : Name) × (IsIn m (names_down_to f) ⊎ IsAlternativeOf T g m) × (i ≡ Item.Goals m))
IdleMayRead T on (Place.Box n) f i = IsItemInside T n i ⊎ IsOfBoxes (names_down_to f) i

-- the place is there, and isn't ready; its variables are enough for it, each of them concerns it, and with each of them the oldest one that is equal to
-- it is among them; and it has read what it watches, and nothing further away
pub record IsIdle (v : IdleValue) : Type 0 where
  pub table : IsTableOf all_rules (run_of v.table v.journal) (table_of v.table)
  pub site : Found
  pub is_site : site_of v.place table.config.roots ≡ Some site
  pub unready : IsReady all_rules v.table.program table.config v.place → ⊥
  pub enough : IsEnough v.table.program table.config v.on v.place
  pub concern : (x : Var) → IsAmong x v.on → Concerns v.table.program table.config x v.place
  pub oldest : HasOldestAt table.config v.place v.on
  pub watches : HasWatched v.inside (IsRead v.reads) v.on v.place site
  pub there : (i : Item) → IsRead v.reads i → IsSome (stamp_in (table_of v.table) i)
  pub only : (i : Item) → IsRead v.reads i → IdleMayRead (table_of v.table) v.on v.place site i
