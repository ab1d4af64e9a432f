-- What contracts see of a table.
use Rattle.std.specs.Prelude.{◌≡◌, ◌<◌, ◌+◌, ◌^◌, slice_get, ℕ, Bool, true, false, List, [], ◌∷◌, map, Option, Some, None, option_map, option_and_then, ⊤}
use Rattle.std.specs.Map.{lookup}
use Rattle.akl_terms.specs.declared.name.Name.{Name}
use Rattle.akl_terms.specs.declared.name.Var.{Var}
use Rattle.akl_terms.specs.declared.term.Node.{Node}
use Rattle.akl_terms.specs.declared.program.Goal.{Goal}
use Rattle.akl_terms.specs.declared.program.Program.{Program}
use Rattle.akl_terms.specs.declared.program.Query.{Query}
use Rattle.akl_terms.specs.declared.program.ShownTerm.{ShownTerm}
use Rattle.akl_terms.specs.declared.program.Shown.{Shown}
use Rattle.akl_model.specs.Ordered.{IsIncreasing}
use Rattle.akl_terms.specs.Template.{tree}
use Rattle.akl_terms.specs.Names.{same_name}
use Rattle.akl_model.specs.declared.label.Rule.{Rule}
use Rattle.akl_model.specs.Config.{Operator, Atom, ShownTree}
use Rattle.akl_model.specs.Instances.{atom_of}
use Rattle.akl_model.specs.Changes.{Shape, of_atom, of_choice}
use Rattle.akl_terms.specs.declared.name.Place.{Place}
use Rattle.akl_model.specs.declared.label.Label.{Label}
use Rattle.local_store.specs.Stored.{Stored}
use Rattle.local_store.specs.Parts.{with_part}
use Rattle.table_laws.specs.Rows.{BoxRow, GoalRow, Table, store_in}
use Rattle.akl_model.specs.declared.item.Item.{Item}
use Rattle.table_laws.specs.Stamped.{Run, IsTableOf, stamp_in}
use Rattle.table_laws.specs.Calls.{after_call}
use Rattle.variable_marks.specs.Marks.{mark_in}
use Rattle.box_tree.specs.StoreMarks.{TableMarksValue, store_mark}
use Rattle.table_laws.specs.Writes.{IsTable, DrawsFresh, Leads, solved_when, home_in}
use Rattle.table_laws.specs.Steps as laws
use Rattle.box_tree.specs.declared.entries.Held.{Held}
use Rattle.box_tree.specs.declared.entries.HeldOp.{HeldOp}
use Rattle.box_tree.specs.declared.entries.BoxEntry.{BoxEntry}
use Rattle.box_tree.specs.declared.entries.GoalEntry.{GoalEntry}
use Rattle.box_tree.specs.declared.step.NewBox.{NewBox}
use Rattle.box_tree.specs.declared.step.BoxCopy.{BoxCopy}
use Rattle.box_tree.specs.declared.step.Step.{Step}

-- all rules of the language
abbrev pub all_rules : List Rule
all_rules = Rule.Tell ∷ Rule.Fork ∷ Rule.Fail ∷ Rule.Cut ∷ Rule.Promote ∷ Rule.Eval ∷ Rule.Open ∷ Rule.Send ∷ Rule.Split ∷ Rule.Collect ∷ []

-- the atom of a goal
abbrev pub goal_atom : List Node → Goal → Atom
goal_atom nodes g = atom_of nodes g.frame g.code

abbrev pub shown_tree : List Node → ShownTerm → ShownTree
shown_tree nodes s = record { text = s.name; tree = tree nodes s.term }

abbrev pub op_held : List Node → HeldOp → Operator
op_held nodes HeldOp.Condition = Operator.condition
op_held nodes HeldOp.Commit = Operator.commit
op_held nodes HeldOp.Choice = Operator.nondeterminate
op_held nodes (HeldOp.Collect t) = Operator.collecting (tree nodes t)

abbrev pub shape_held : List Node → Held → Shape
shape_held nodes (Held.Atom g) = of_atom (goal_atom nodes g)
shape_held nodes (Held.Choice op alternatives since) = of_choice (op_held nodes op) alternatives.items

abbrev pub box_row : List Node → BoxEntry → BoxRow
box_row nodes e = record {
  holder = e.holder;
  store = e.store;
  changed = e.changed;
  solved_at = e.solved_at;
  goals = e.goals.keys;
  goals_changed = e.goals_changed;
  failing = e.failing;
  body = map (goal_atom nodes) e.body.items;
  shown = map (shown_tree nodes) e.shown.items;
  collected = option_map (tree nodes) e.collected;
}

abbrev pub goal_row : List Node → GoalEntry → GoalRow
goal_row nodes e = record { home = e.home; shape = shape_held nodes e.held; changed = e.changed }

-- the program and the query with which a table was started, and what it has, in the order of names
pub record TableValue : Type 0 where
  pub program : Program
  pub query : Query
  pub boxes : List (Name × BoxEntry)
  pub goals : List (Name × GoalEntry)
  pub roots : List Name
  pub roots_changed : ℕ
  pub marks : Option TableMarksValue
  pub next : List ℕ
  pub steps : ℕ

-- the mark of a variable; where none are kept it is the number of all labels
abbrev pub mark_after : ℕ → Option TableMarksValue → Var → ℕ
mark_after steps None x = steps
mark_after steps (Some m) x = mark_in m.variables x

-- its rows
abbrev pub table_of : TableValue → Table
table_of t = record {
  nodes = t.program.templates.nodes;
  box_of = λ n. option_map (box_row t.program.templates.nodes) (lookup (same_name n) t.boxes);
  goal_of = λ g. option_map (goal_row t.program.templates.nodes) (lookup (same_name g) t.goals);
  roots = t.roots;
  roots_changed = t.roots_changed;
  next = t.next;
  steps = t.steps;
  mark_of = mark_after t.steps t.marks;
}

-- the stamp of an item, where bindings are told apart: of a store its mark
abbrev pub stamp_of : TableValue → Item → Option ℕ
stamp_of t (Item.Store n) = option_map (λ (r : BoxRow). store_mark t.marks n r.changed) ((table_of t).box_of n)
stamp_of t Item.Roots = stamp_in (table_of t) Item.Roots
stamp_of t (Item.Goals n) = stamp_in (table_of t) (Item.Goals n)
stamp_of t (Item.Goal g) = stamp_in (table_of t) (Item.Goal g)
stamp_of t (Item.Binding x) = stamp_in (table_of t) (Item.Binding x)

abbrev pub new_box : List Node → NewBox → laws.NewBox
new_box nodes n = record {
  name = n.name;
  store = n.store;
  solved = n.solved;
  goals = map (λ (x : Name × Goal). (x.0, goal_atom nodes x.1)) n.goals.items;
  body = map (goal_atom nodes) n.body.items;
  collected = option_map (tree nodes) n.collected;
}

abbrev pub box_copy : List Node → BoxCopy → laws.BoxCopy
box_copy nodes k = record {
  name = k.name;
  holder = k.holder;
  store = k.store;
  solved = k.solved;
  goals = map (λ (x : Name × Held). (x.0, shape_held nodes x.1)) k.goals.items;
  body = map (goal_atom nodes) k.body.items;
  shown = map (shown_tree nodes) k.shown.items;
  collected = option_map (tree nodes) k.collected;
}

-- what a step makes of the box of its place, which has this store
abbrev pub step_of : List Node → Stored → Step → laws.Step
step_of nodes s (Step.Tell part solved) = laws.tells (with_part s part) solved
step_of nodes s (Step.Fork op alternatives) = laws.forks (op_held nodes op) (map (new_box nodes) alternatives.items)
step_of nodes s Step.Fail = laws.fails
step_of nodes s Step.Cut = laws.cuts
step_of nodes s (Step.Join part solved goals told behind) = laws.joins (with_part s part) solved (map (λ (x : Name × Goal). (x.0, goal_atom nodes x.1)) goals.items)
step_of nodes s Step.Refute = laws.refutes
step_of nodes s Step.Confirm = laws.confirms
step_of nodes s (Step.Split copy copies) = laws.splits copy (map (box_copy nodes) copies.items)

-- the store of the box of a place: for a goal, of that in which it stands
abbrev pub store_at : Table → Place → Stored
store_at T (Place.Box n) = store_in (T.box_of n)
store_at T (Place.Goal g) = store_in (option_and_then T.box_of (home_in (T.goal_of g)))

-- what a step of a label makes of the box of its place in a table
abbrev pub step_in : TableValue → Label → Step → laws.Step
step_in t l step = step_of t.program.templates.nodes (store_at (table_of t) l.place) step

-- each variable of the query has its node
pub record HasVariables (p : Program) (q : Query) (first_variable : ℕ) : Type 0 where
  pub fits : first_variable + q.variables < 2 ^ 32
  pub each : (i : ℕ) → i < q.variables → slice_get p.templates.nodes (first_variable + i) ≡ Some (Node.Var i)

-- each shown variable is one of the query's
abbrev pub AreBelow : ℕ → List Shown → Type 0
AreBelow n [] = ⊤
AreBelow n (s ∷ ss) = (s.index < n) × AreBelow n ss

abbrev pub HasShownVariables : Query → Type 0
HasShownVariables q = AreBelow q.variables q.shown

-- the names of a row's goals; none where there is no row
abbrev pub goals_in : Option BoxRow → List Name
goals_in None = []
goals_in (Some r) = r.goals

abbrev pub shown_in : Option BoxRow → List ShownTree
shown_in None = []
shown_in (Some r) = r.shown

abbrev pub is_empty : List Name → Bool
is_empty [] = true
is_empty (n ∷ ns) = false

abbrev pub shown_trees_of : TableValue → List ShownTerm → List ShownTree
shown_trees_of t terms = map (shown_tree t.program.templates.nodes) terms

-- a step may be made of a table to which a run has come: its label has a place of the kind that it needs, and an alternative where it needs
-- one, and the names that it draws stand nowhere, those of a box's new goals and of each copy's in increasing order
abbrev pub FitsPlace : Place → laws.Step → Option Name → Type 0
FitsPlace (Place.Goal g) (laws.tells new solved) alternative = ⊤
FitsPlace (Place.Goal g) (laws.forks op news) alternative = ⊤
FitsPlace (Place.Goal g) laws.cuts (Some n) = ⊤
FitsPlace (Place.Goal g) (laws.joins new solved goals) alternative = ⊤
FitsPlace (Place.Goal g) laws.refutes alternative = ⊤
FitsPlace (Place.Goal g) laws.confirms alternative = ⊤
FitsPlace (Place.Box n) laws.fails alternative = ⊤
FitsPlace (Place.Box n) (laws.splits copy copies) (Some a) = ⊤
FitsPlace place step alternative = ⊥

abbrev pub AreInOrder : List laws.NewBox → Type 0
AreInOrder [] = ⊤
AreInOrder (n ∷ ns) = IsIncreasing (map (λ (x : Name × Atom). x.0) n.goals) × AreInOrder ns

abbrev pub AreCopiesInOrder : List laws.BoxCopy → Type 0
AreCopiesInOrder [] = ⊤
AreCopiesInOrder (k ∷ ks) = IsIncreasing (map (λ (x : Name × Shape). x.0) k.goals) × AreCopiesInOrder ks

abbrev pub DrawsInOrder : laws.Step → Type 0
DrawsInOrder (laws.tells new solved) = ⊤
DrawsInOrder (laws.forks op news) = AreInOrder news
DrawsInOrder laws.fails = ⊤
DrawsInOrder laws.cuts = ⊤
DrawsInOrder (laws.joins new solved goals) = IsIncreasing (map (λ (x : Name × Atom). x.0) goals)
DrawsInOrder laws.refutes = ⊤
DrawsInOrder laws.confirms = ⊤
DrawsInOrder (laws.splits copy copies) = AreCopiesInOrder copies

pub record MayApply (t : TableValue) (l : Label) (step : Step) : Type 0 where
  pub run : Run
  pub table : IsTableOf all_rules run (table_of t)
  pub fits : FitsPlace l.place (step_in t l step) l.alternative
  pub fresh : DrawsFresh (table_of t) (step_in t l step)
  pub ordered : DrawsInOrder (step_in t l step)

-- goals join a box by one of the labels of a step, of which the first comes with so many others. Its number is `promoted`; so many labels come behind it, and so many of these up to the last one that
-- tells the box an equation
pub record Joins (t : TableValue) (g : Name) (store : Stored) (solved_at : Option ℕ) (goals : List (Name × Atom)) (others told behind worker count : ℕ) (U : Table) : Type 0 where
  pub promoted : ℕ
  pub later : t.steps < promoted
  pub number : promoted + behind ≡ others + t.steps + 1
  pub table : IsTable U (after_call g store solved_at goals worker count promoted (promoted + told) (promoted + behind) (table_of t))

-- the step of a label leads from table to table, or that of the labels of a call, with which goals join a box
abbrev pub LeadsBy : TableValue → Label → ℕ → Option ℕ → ℕ → Step → Table → Type 0
LeadsBy t l others at names (Step.Join part solved goals told behind) U = of_place l.place
  where
    of_place : Place → Type 0
    of_place (Place.Goal g) = Joins t g (with_part (store_at (table_of t) (Place.Goal g)) part) (solved_when at solved) (map (λ (x : Name × Goal). (x.0, goal_atom t.program.templates.nodes x.1)) goals.items) others told behind l.worker names U
    of_place (Place.Box n) = ⊥
LeadsBy t l others at names step U = Leads (table_of t) l at names (step_in t l step) U

-- a step is made of a table, but for the marks of variables
pub record Makes (t : TableValue) (l : Label) (others : ℕ) (at : Option ℕ) (names : ℕ) (step : Step) (u : TableValue) : Type 0 where
  pub program : u.program ≡ t.program
  pub query : u.query ≡ t.query
  pub marks : u.marks ≡ t.marks
  pub leads : LeadsBy t l others at names step (table_of u)
