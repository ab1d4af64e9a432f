-- What is seen of a place.
use Rattle.std.specs.Prelude.{◌≡◌, ℕ, Bool, false, List, [], ◌∷◌, ◌++◌, map, Option, Some, None, is_some, option_map, ⊤, slice_index}
use Rattle.akl_terms.specs.declared.name.Name.{Name}
use Rattle.akl_terms.specs.declared.name.Place.{Place}
use Rattle.akl_terms.specs.declared.term.Node.{Node}
use Rattle.akl_terms.specs.Template.{tree}
use Rattle.akl_terms.specs.declared.program.Goal.{Goal}
use Rattle.akl_model.specs.declared.label.Label.{Label}
use Rattle.akl_model.specs.Config.{Atom, Content, Boxes, no_boxes, box, Goals, Held, an_atom, a_choice, held_in, Found, site_of}
use Rattle.akl_model.specs.Changes.{goal_names}
use Rattle.akl_model.specs.Wakes.{names_down_to}
use Rattle.local_store.specs.Stored.{Stored}
use Rattle.local_store.specs.Chained.{IsKnown}
use Rattle.table_laws.specs.Rows.{Table, store_in, stores_along}
use Rattle.table_laws.specs.Unfolds.{FailsBy}
use Rattle.table_laws.specs.Stamped.{Run, IsTableOf}
use Rattle.box_tree.specs.declared.view.Alternative.{Alternative}
use Rattle.box_tree.specs.declared.view.Sight.{Sight}
use Rattle.box_tree.specs.declared.view.LookError.{LookError}
use Rattle.box_tree.specs.declared.entries.BoxEntry.{BoxEntry}
use Rattle.box_tree.specs.declared.entries.GoalEntry.{GoalEntry}
use Rattle.box_tree.specs.Tables.{all_rules, op_held, goal_atom, is_empty, TableValue, table_of}

-- what a view was taken of, the place and the worker; the worker's next number; the boxes down to the place's box, with their stores, and
-- how many of the outermost are known to be solved together; and what stands at the place, of a choice with its alternatives and the body of
-- the only one
pub record ViewValue : Type 0 where
  pub table : TableValue
  pub journal : List Label
  pub place : Place
  pub worker : ℕ
  pub next : ℕ
  pub path : List Name
  pub stores : List Stored
  pub known : ℕ
  pub sight : Sight
  pub alternatives : List Alternative
  pub body : List Goal

-- the run to which a table has come by a journal
abbrev pub run_of : TableValue → List Label → Run
run_of t journal = record { program = t.program; query = t.query; journal = journal }

-- at a goal an atom or a choice, and at a box one of the goals by which it fails, where there is one
abbrev pub Shows : List Node → Place → Found → Sight → Type 0
Shows nodes (Place.Goal g) f (Sight.Atom goal) = held_in g f.goals ≡ Some (an_atom (goal_atom nodes goal))
Shows nodes (Place.Goal g) f (Sight.Choice op) = (bs : Boxes) × (held_in g f.goals ≡ Some (a_choice (op_held nodes op) bs))
Shows nodes (Place.Box n) f (Sight.Box failing) = FailsBy f.goals failing
Shows nodes place f sight = ⊥

-- the alternatives of a choice; none of an atom, at a box, and where no goal is
abbrev pub alternatives_held : Option Held → Boxes
alternatives_held None = no_boxes
alternatives_held (Some (an_atom a)) = no_boxes
alternatives_held (Some (a_choice o bs)) = bs

abbrev pub alternatives_at : Place → Found → Boxes
alternatives_at (Place.Goal g) f = alternatives_held (held_in g f.goals)
alternatives_at (Place.Box n) f = no_boxes

-- an alternative with these stores around it: its name, whether it is solved, its store, what is collected of it, and how many of the stores down to it are known to
-- be solved together
pub record IsSeen (T : Table) (stores : List Stored) (b : Content) (gs : Goals) (a : Alternative) : Type 0 where
  pub name : a.name ≡ b.name
  pub solved : a.solved ≡ is_empty (goal_names gs)
  pub store : a.store ≡ store_in (T.box_of b.name)
  pub known : IsKnown T.nodes (stores ++ a.store ∷ []) a.known
  pub collected : option_map (tree T.nodes) a.collected ≡ b.collected

abbrev pub AreSeen : Table → List Stored → Boxes → List Alternative → Type 0
AreSeen T stores no_boxes [] = ⊤
AreSeen T stores (box b gs bs) (a ∷ rest) = IsSeen T stores b gs a × AreSeen T stores bs rest
AreSeen T stores bs seen = ⊥

-- the body of the only one
abbrev pub only_body : Boxes → List Atom
only_body (box b gs no_boxes) = b.body
only_body bs = []

pub record IsViewOf (v : ViewValue) : Type 0 where
  pub table : IsTableOf all_rules (run_of v.table v.journal) (table_of v.table)
  pub site : Found
  pub is_site : site_of v.place table.config.roots ≡ Some site
  pub next : v.next ≡ slice_index table.config.next v.worker
  pub path : v.path ≡ names_down_to site
  pub stores : v.stores ≡ stores_along (table_of v.table) v.path
  pub known : IsKnown v.table.program.templates.nodes v.stores v.known
  pub shows : Shows v.table.program.templates.nodes v.place site v.sight
  pub alternatives : AreSeen (table_of v.table) v.stores (alternatives_at v.place site) v.alternatives
  pub body : map (goal_atom v.table.program.templates.nodes) v.body ≡ only_body (alternatives_at v.place site)

-- a place has a row
abbrev pub is_there : Table → Place → Bool
is_there T (Place.Goal g) = is_some (T.goal_of g)
is_there T (Place.Box n) = is_some (T.box_of n)

-- why a place isn't seen; want of memory is free
abbrev pub IsUnseen : Table → Place → LookError → Type 0
IsUnseen T place LookError.Gone = is_there T place ≡ false
IsUnseen T place (LookError.Memory error) = Unit {0}

-- the places of all boxes and then of all goals, as they stand in the table: each once, in increasing order of names
abbrev pub all_places : TableValue → List Place
all_places t = map (λ (e : Name × BoxEntry). Place.Box e.0) t.boxes ++ map (λ (e : Name × GoalEntry). Place.Goal e.0) t.goals
