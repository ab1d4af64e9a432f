-- What a step makes of a table.
use Rattle.std.specs.Prelude.{◌≡◌, ℕ, ◌+◌, ◌≤◌, Bool, true, false, List, [], ◌∷◌, ◌++◌, map, Option, Some, None, option_map, if◌then◌else◌, ⊤, slice_index}
use Rattle.akl_terms.specs.declared.name.Name.{Name}
use Rattle.akl_terms.specs.declared.name.Place.{Place}
use Rattle.akl_model.specs.Config.{Operator}
use Rattle.akl_terms.specs.Names.{same_name}
use Rattle.akl_model.specs.declared.label.Label.{Label}
use Rattle.akl_model.specs.Config.{IsIn, Atom, or_else, with_names}
use Rattle.akl_model.specs.Names.{times_in}
use Rattle.akl_model.specs.Changes.{Shape, of_atom, of_choice}
use Rattle.akl_model.specs.Derivations.{raised}
use Rattle.local_store.specs.Stored.{Stored}
use Rattle.table_laws.specs.Rows.{BoxRow, GoalRow, Table}
use Rattle.table_laws.specs.Inside.{IsInside, IsGoalInside}
use Rattle.table_laws.specs.Walks.{alternatives_of}
use Rattle.table_laws.specs.Steps.{NewBox, BoxCopy, copy_among, Step, tells, forks, fails, cuts, joins, splits, refutes, confirms}

-- the same table, but for the marks of variables
pub record IsTable (U T : Table) : Type 0 where
  pub nodes : U.nodes ≡ T.nodes
  pub boxes : (n : Name) → U.box_of n ≡ T.box_of n
  pub goals : (g : Name) → U.goal_of g ≡ T.goal_of g
  pub roots : U.roots ≡ T.roots
  pub roots_changed : U.roots_changed ≡ T.roots_changed
  pub next : (w : ℕ) → slice_index U.next w ≡ slice_index T.next w
  pub steps : U.steps ≡ T.steps

abbrev pub set : {A : Type 0} → Name → Option A → (Name → Option A) → Name → Option A
set n r at m = if same_name m n then r else at m

abbrev pub less_name : Name → List Name → List Name
less_name g [] = []
less_name g (h ∷ hs) = if same_name g h then hs else h ∷ less_name g hs

-- when a store was solved, where it says that it is
abbrev pub solved_when : Option ℕ → Bool → Option ℕ
solved_when at false = None
solved_when at true = at

-- the box in which a goal stands
abbrev pub home_in : Option GoalRow → Option Name
home_in None = None
home_in (Some r) = Some r.home

-- a box with another row, by what its row was
abbrev pub changed_box : Option Name → (BoxRow → BoxRow) → (Name → Option BoxRow) → Name → Option BoxRow
changed_box None change at = at
changed_box (Some n) change at = set n (option_map change (at n)) at

-- a goal tells its box, which gets a store, and goes

abbrev pub told_row : Name → Stored → Option ℕ → ℕ → BoxRow → BoxRow
told_row g new solved_at number r = record r { store = new; changed = number; solved_at = solved_at; goals = less_name g r.goals; goals_changed = number }

abbrev pub after_tell : Name → Stored → Option ℕ → ℕ → ℕ → Table → Table
after_tell g new solved_at worker drawn T = record T {
  box_of = changed_box (home_in (T.goal_of g)) (told_row g new solved_at (T.steps + 1)) T.box_of;
  goal_of = set g None T.goal_of;
  next = raised worker drawn T.next;
  steps = T.steps + 1;
}

-- a goal becomes a choice of new boxes

abbrev pub fails_first : Name → Atom → Option Name → Option Name
fails_first g Atom.fail rest = Some g
fails_first g a rest = rest

abbrev pub first_fail : List (Name × Atom) → Option Name
first_fail [] = None
first_fail (x ∷ xs) = fails_first x.0 x.1 (first_fail xs)

abbrev pub new_row : Name → Option ℕ → ℕ → NewBox → BoxRow
new_row g at number n = record {
  holder = Some g;
  store = n.store;
  changed = number;
  solved_at = solved_when at n.solved;
  goals = map (λ (x : Name × Atom). x.0) n.goals;
  goals_changed = number;
  failing = first_fail n.goals;
  body = n.body;
  shown = [];
  collected = n.collected;
}

abbrev pub new_box_of : Name → Option ℕ → ℕ → List NewBox → Name → Option BoxRow
new_box_of g at number [] m = None
new_box_of g at number (n ∷ ns) m = if same_name m n.name then Some (new_row g at number n) else new_box_of g at number ns m

abbrev pub atom_among : Name → ℕ → List (Name × Atom) → Name → Option GoalRow
atom_among home number [] m = None
atom_among home number (x ∷ xs) m = if same_name m x.0 then Some (record { home = home; shape = of_atom x.1; changed = number }) else atom_among home number xs m

abbrev pub new_goal_of : ℕ → List NewBox → Name → Option GoalRow
new_goal_of number [] m = None
new_goal_of number (n ∷ ns) m = or_else (atom_among n.name number n.goals m) (new_goal_of number ns m)

abbrev pub forked_row : Operator → List NewBox → ℕ → GoalRow → GoalRow
forked_row op news number r = record r { shape = of_choice op (map (λ (n : NewBox). n.name) news); changed = number }

-- a choice without alternatives makes its box fail, unless it collects
abbrev pub fails_empty : Operator → Bool
fails_empty (Operator.collecting r) = false
fails_empty Operator.condition = true
fails_empty Operator.commit = true
fails_empty Operator.nondeterminate = true

abbrev pub failing_by : Name → Operator → List NewBox → BoxRow → BoxRow
failing_by g op [] r = if fails_empty op then record r { failing = Some g } else r
failing_by g op news r = r

abbrev pub after_fork : Name → Operator → List NewBox → Option ℕ → ℕ → ℕ → Table → Table
after_fork g op news at worker drawn T = record T {
  box_of = λ m. or_else (new_box_of g at (T.steps + 1) news m) (changed_box (home_in (T.goal_of g)) (failing_by g op news) T.box_of m);
  goal_of = λ m. or_else (new_goal_of (T.steps + 1) news m) (set g (option_map (forked_row op news (T.steps + 1)) (T.goal_of g)) T.goal_of m);
  next = raised worker drawn T.next;
  steps = T.steps + 1;
}

-- a box goes with all that stands in it

abbrev pub less_alternative : Name → Shape → Shape
less_alternative n (of_atom a) = of_atom a
less_alternative n (of_choice op alternatives) = of_choice op (less_name n alternatives)

abbrev pub left_row : Name → ℕ → GoalRow → GoalRow
left_row n number r = record r { shape = less_alternative n r.shape; changed = number }

abbrev pub none_left : Shape → Bool
none_left (of_choice op []) = fails_empty op
none_left s = false

-- where no alternative is left, the box of the choice fails by it, unless it collects
abbrev pub left_by : Name → Option GoalRow → BoxRow → BoxRow
left_by g None r = r
left_by g (Some row) r = if none_left row.shape then record r { failing = Some g } else r

-- what holds the box loses it: a choice, or the list of root boxes
abbrev pub held_without : Name → Option Name → Table → Table
held_without n None T = record T { roots = less_name n T.roots; roots_changed = T.steps + 1 }
held_without n (Some g) T =
    let row : Option GoalRow = option_map (left_row n (T.steps + 1)) (T.goal_of g) in
    record T { goal_of = set g row T.goal_of; box_of = changed_box (home_in (T.goal_of g)) (left_by g row) T.box_of }

abbrev pub holder_in_row : Option BoxRow → Option Name
holder_in_row None = None
holder_in_row (Some r) = r.holder

pub record Fails (T U : Table) (n : Name) : Type 0 where
  pub nodes : U.nodes ≡ T.nodes
  pub box_goes : (m : Name) → IsInside T n m → U.box_of m ≡ None
  pub goal_goes : (g : Name) → IsGoalInside T n g → U.goal_of g ≡ None
  pub box_stays : (m : Name) → (IsInside T n m → ⊥) → U.box_of m ≡ (held_without n (holder_in_row (T.box_of n)) T).box_of m
  pub goal_stays : (g : Name) → (IsGoalInside T n g → ⊥) → U.goal_of g ≡ (held_without n (holder_in_row (T.box_of n)) T).goal_of g
  pub roots : U.roots ≡ (held_without n (holder_in_row (T.box_of n)) T).roots
  pub roots_changed : U.roots_changed ≡ (held_without n (holder_in_row (T.box_of n)) T).roots_changed
  pub next : (w : ℕ) → slice_index U.next w ≡ slice_index T.next w
  pub steps : U.steps ≡ T.steps + 1

-- a choice loses the alternatives for which a solved one leaves no room

abbrev pub names_up_to : Name → List Name → List Name
names_up_to n [] = []
names_up_to n (m ∷ ms) = if same_name n m then m ∷ [] else m ∷ names_up_to n ms

abbrev pub names_after : Name → List Name → List Name
names_after n [] = []
names_after n (m ∷ ms) = if same_name n m then ms else names_after n ms

abbrev pub name_alone : Name → List Name → List Name
name_alone n [] = []
name_alone n (m ∷ ms) = if same_name n m then m ∷ [] else name_alone n ms

-- the alternatives that are kept, and those that go: with `->` those to the right go, with `|` all others, with `?` none
abbrev pub names_kept : Operator → Name → List Name → List Name
names_kept Operator.condition n ns = names_up_to n ns
names_kept Operator.commit n ns = name_alone n ns
names_kept Operator.nondeterminate n ns = ns
names_kept (Operator.collecting r) n ns = ns

abbrev pub names_cut : Operator → Name → List Name → List Name
names_cut Operator.condition n ns = names_after n ns
names_cut Operator.commit n ns = less_name n ns
names_cut Operator.nondeterminate n ns = []
names_cut (Operator.collecting r) n ns = []

abbrev pub cut_shape : Name → Shape → Shape
cut_shape n (of_atom a) = of_atom a
cut_shape n (of_choice op alternatives) = of_choice op (names_kept op n alternatives)

abbrev pub cut_in : Name → Shape → List Name
cut_in n (of_atom a) = []
cut_in n (of_choice op alternatives) = names_cut op n alternatives

abbrev pub cut_from : Name → Option GoalRow → List Name
cut_from n None = []
cut_from n (Some row) = cut_in n row.shape

abbrev pub cut_row : Name → ℕ → GoalRow → GoalRow
cut_row n number r = record r { shape = cut_shape n r.shape; changed = number }

-- a box is one of those that go, or stands inside one
pub record IsInsideOne (T : Table) (names : List Name) (m : Name) : Type 0 where
  pub alternative : Name
  pub goes : IsIn alternative names
  pub inside : IsInside T alternative m

pub record IsGoalInsideOne (T : Table) (names : List Name) (g : Name) : Type 0 where
  pub alternative : Name
  pub goes : IsIn alternative names
  pub inside : IsGoalInside T alternative g

abbrev pub IsCut : Table → Name → Name → Name → Type 0
IsCut T g n m = IsInsideOne T (cut_from n (T.goal_of g)) m

abbrev pub IsGoalCut : Table → Name → Name → Name → Type 0
IsGoalCut T g n m = IsGoalInsideOne T (cut_from n (T.goal_of g)) m

pub record Cuts (T U : Table) (g n : Name) : Type 0 where
  pub nodes : U.nodes ≡ T.nodes
  pub box_goes : (m : Name) → IsCut T g n m → U.box_of m ≡ None
  pub goal_goes : (m : Name) → IsGoalCut T g n m → U.goal_of m ≡ None
  pub box_stays : (m : Name) → (IsCut T g n m → ⊥) → U.box_of m ≡ T.box_of m
  pub goal_stays : (m : Name) → (IsGoalCut T g n m → ⊥) → U.goal_of m ≡ set g (option_map (cut_row n (T.steps + 1)) (T.goal_of g)) T.goal_of m
  pub roots : U.roots ≡ T.roots
  pub roots_changed : U.roots_changed ≡ T.roots_changed
  pub next : (w : ℕ) → slice_index U.next w ≡ slice_index T.next w
  pub steps : U.steps ≡ T.steps + 1

-- the alternatives of a choice join the box in which the choice stands

abbrev pub or_fails : Option Name → List (Name × Atom) → Option Name
or_fails None goals = first_fail goals
or_fails (Some g) goals = Some g

abbrev pub joined_row : Name → Stored → Option ℕ → List (Name × Atom) → ℕ → BoxRow → BoxRow
joined_row g new solved_at goals number r = record r {
  store = new;
  changed = number;
  solved_at = solved_at;
  goals = with_names (map (λ (x : Name × Atom). x.0) goals) (less_name g r.goals);
  goals_changed = number;
  failing = or_fails r.failing goals;
}

abbrev pub home_or : Option GoalRow → Name → Name
home_or None n = n
home_or (Some r) n = r.home

-- these boxes go
abbrev pub unset : List Name → (Name → Option BoxRow) → Name → Option BoxRow
unset [] at = at
unset (n ∷ ns) at = set n None (unset ns at)

abbrev pub after_join : Name → Stored → Option ℕ → List (Name × Atom) → ℕ → ℕ → Table → Table
after_join g new solved_at goals worker drawn T = record T {
  box_of = unset (alternatives_of (T.goal_of g)) (changed_box (home_in (T.goal_of g)) (joined_row g new solved_at goals (T.steps + 1)) T.box_of);
  goal_of = λ m. or_else (atom_among (home_or (T.goal_of g) g) (T.steps + 1) goals m) (set g None T.goal_of m);
  next = raised worker drawn T.next;
  steps = T.steps + 1;
}

-- a goal becomes `fail`, by which its box fails

abbrev pub refuted_row : ℕ → GoalRow → GoalRow
refuted_row number r = record r { shape = of_atom Atom.fail; changed = number }

abbrev pub failing_row : Name → BoxRow → BoxRow
failing_row g r = record r { failing = Some g }

abbrev pub after_refute : Name → Table → Table
after_refute g T = record T {
  box_of = changed_box (home_in (T.goal_of g)) (failing_row g) T.box_of;
  goal_of = set g (option_map (refuted_row (T.steps + 1)) (T.goal_of g)) T.goal_of;
  steps = T.steps + 1;
}

-- a goal goes, and its box keeps its store

abbrev pub confirmed_row : Name → ℕ → BoxRow → BoxRow
confirmed_row g number r = record r { goals = less_name g r.goals; goals_changed = number }

abbrev pub after_confirm : Name → Table → Table
after_confirm g T = record T {
  box_of = changed_box (home_in (T.goal_of g)) (confirmed_row g (T.steps + 1)) T.box_of;
  goal_of = set g None T.goal_of;
  steps = T.steps + 1;
}

-- a box becomes two: in the first a choice keeps an alternative alone, the second is the copy without it, and what holds the box gets the
-- copy after it, a choice or the list of root boxes

abbrev pub alone_shape : Name → Shape → Shape
alone_shape a (of_atom b) = of_atom b
alone_shape a (of_choice op alternatives) = of_choice op (name_alone a alternatives)

abbrev pub alone_row : Name → ℕ → GoalRow → GoalRow
alone_row a number r = record r { shape = alone_shape a r.shape; changed = number }

abbrev pub others_in : Name → Shape → List Name
others_in a (of_atom b) = []
others_in a (of_choice op alternatives) = less_name a alternatives

abbrev pub others_from : Name → Option GoalRow → List Name
others_from a None = []
others_from a (Some row) = others_in a row.shape

-- names with another one after one of them
abbrev pub name_after : Name → Name → List Name → List Name
name_after n copy [] = []
name_after n copy (m ∷ ms) = if same_name n m then m ∷ copy ∷ ms else m ∷ name_after n copy ms

abbrev pub beside_shape : Name → Name → Shape → Shape
beside_shape n copy (of_atom b) = of_atom b
beside_shape n copy (of_choice op alternatives) = of_choice op (name_after n copy alternatives)

abbrev pub beside_row : Name → Name → ℕ → GoalRow → GoalRow
beside_row n copy number r = record r { shape = beside_shape n copy r.shape; changed = number }

-- the row of a goal, and a goal with another row, where there is one
abbrev pub goal_at : Option Name → (Name → Option GoalRow) → Option GoalRow
goal_at None at = None
goal_at (Some g) at = at g

abbrev pub changed_goal : Option Name → (GoalRow → GoalRow) → (Name → Option GoalRow) → Name → Option GoalRow
changed_goal None change at = at
changed_goal (Some g) change at = set g (option_map change (at g)) at

-- the copy of the box itself is held as the box is
abbrev pub copied_row : Option Name → Option ℕ → ℕ → BoxCopy → BoxRow
copied_row holder at number k = record {
  holder = or_else k.holder holder;
  store = k.store;
  changed = number;
  solved_at = solved_when at k.solved;
  goals = map (λ (x : Name × Shape). x.0) k.goals;
  goals_changed = number;
  failing = None;
  body = k.body;
  shown = k.shown;
  collected = k.collected;
}

abbrev pub shape_among : Name → ℕ → List (Name × Shape) → Name → Option GoalRow
shape_among home number [] m = None
shape_among home number (x ∷ xs) m = if same_name m x.0 then Some (record { home = home; shape = x.1; changed = number }) else shape_among home number xs m

abbrev pub copied_goal_of : ℕ → List BoxCopy → Name → Option GoalRow
copied_goal_of number [] m = None
copied_goal_of number (k ∷ ks) m = or_else (shape_among k.name number k.goals m) (copied_goal_of number ks m)

-- the other alternatives of the choice that holds one
abbrev pub others_beside : Table → Name → List Name
others_beside T a = others_from a (goal_at (holder_in_row (T.box_of a)) T.goal_of)

-- what there is for a root box, and else what there was
abbrev pub if_root : {A : Type 0} → Option Name → A → A → A
if_root None new old = new
if_root (Some g) new old = old

-- `at` is how many labels there were when the stores were solved: one fewer than when the copies are made
pub record Splits (T U : Table) (n a copy : Name) (copies : List BoxCopy) (at : Option ℕ) (worker drawn : ℕ) : Type 0 where
  pub nodes : U.nodes ≡ T.nodes
  pub box_goes : (m : Name) → IsInsideOne T (others_beside T a) m → U.box_of m ≡ None
  pub goal_goes : (m : Name) → IsGoalInsideOne T (others_beside T a) m → U.goal_of m ≡ None
  pub box_stays : (m : Name) → (IsInsideOne T (others_beside T a) m → ⊥)
      → U.box_of m ≡ or_else (option_map (copied_row (holder_in_row (T.box_of n)) (option_map (λ (k : ℕ). k + 1) at) (T.steps + 1)) (copy_among copies m)) (T.box_of m)
  pub goal_stays : (m : Name) → (IsGoalInsideOne T (others_beside T a) m → ⊥)
      → U.goal_of m ≡ or_else (copied_goal_of (T.steps + 1) copies m)
      (changed_goal (holder_in_row (T.box_of n)) (beside_row n copy (T.steps + 1)) (changed_goal (holder_in_row (T.box_of a)) (alone_row a (T.steps + 1)) T.goal_of) m)
  pub roots : U.roots ≡ if_root (holder_in_row (T.box_of n)) (name_after n copy T.roots) T.roots
  pub roots_changed : U.roots_changed ≡ if_root (holder_in_row (T.box_of n)) (T.steps + 1) T.roots_changed
  pub next : (w : ℕ) → slice_index U.next w ≡ slice_index (raised worker drawn T.next) w
  pub steps : U.steps ≡ T.steps + 1

-- the names that a step draws for boxes and goals stand nowhere in a table, and no two are the same

abbrev pub names_drawn : List NewBox → List Name
names_drawn [] = []
names_drawn (n ∷ ns) = n.name ∷ (map (λ (x : Name × Atom). x.0) n.goals ++ names_drawn ns)

abbrev pub names_copied : List BoxCopy → List Name
names_copied [] = []
names_copied (k ∷ ks) = k.name ∷ (map (λ (x : Name × Shape). x.0) k.goals ++ names_copied ks)

pub record IsFresh (T : Table) (names : List Name) : Type 0 where
  pub once : (m : Name) → times_in m names ≤ 1
  pub no_box : (m : Name) → IsIn m names → T.box_of m ≡ None
  pub no_goal : (m : Name) → IsIn m names → T.goal_of m ≡ None

abbrev pub DrawsFresh : Table → Step → Type 0
DrawsFresh T (tells new solved) = ⊤
DrawsFresh T (forks op news) = IsFresh T (names_drawn news)
DrawsFresh T fails = ⊤
DrawsFresh T cuts = ⊤
DrawsFresh T (joins new solved goals) = IsFresh T (map (λ (x : Name × Atom). x.0) goals)
DrawsFresh T refutes = ⊤
DrawsFresh T confirms = ⊤
DrawsFresh T (splits copy copies) = IsFresh T (names_copied copies)

-- the step of a label leads from table to table: `at` is how many labels there were when its stores were solved, where they still are
abbrev pub Leads : Table → Label → Option ℕ → ℕ → Step → Table → Type 0
Leads T l at drawn (tells new solved) U = of_place l.place
  where
    of_place : Place → Type 0
    of_place (Place.Goal g) = IsTable U (after_tell g new (solved_when at solved) l.worker drawn T)
    of_place (Place.Box n) = ⊥
Leads T l at drawn (forks op news) U = of_place l.place
  where
    of_place : Place → Type 0
    of_place (Place.Goal g) = IsTable U (after_fork g op news at l.worker drawn T)
    of_place (Place.Box n) = ⊥
Leads T l at drawn fails U = of_place l.place
  where
    of_place : Place → Type 0
    of_place (Place.Goal g) = ⊥
    of_place (Place.Box n) = Fails T U n
Leads T l at drawn cuts U = of_place l.place l.alternative
  where
    of_place : Place → Option Name → Type 0
    of_place (Place.Goal g) (Some n) = Cuts T U g n
    of_place place alternative = ⊥
Leads T l at drawn (joins new solved goals) U = of_place l.place
  where
    of_place : Place → Type 0
    of_place (Place.Goal g) = IsTable U (after_join g new (solved_when at solved) goals l.worker drawn T)
    of_place (Place.Box n) = ⊥
Leads T l at drawn refutes U = of_place l.place
  where
    of_place : Place → Type 0
    of_place (Place.Goal g) = IsTable U (after_refute g T)
    of_place (Place.Box n) = ⊥
Leads T l at drawn confirms U = of_place l.place
  where
    of_place : Place → Type 0
    of_place (Place.Goal g) = IsTable U (after_confirm g T)
    of_place (Place.Box n) = ⊥
Leads T l at drawn (splits copy copies) U = of_place l.place l.alternative
  where
    of_place : Place → Option Name → Type 0
    of_place (Place.Box n) (Some a) = Splits T U n a copy copies at l.worker drawn
    of_place place alternative = ⊥
