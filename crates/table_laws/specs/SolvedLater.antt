-- Whether the store that a part makes in a later table is solved there.
use Rattle.std.specs.Prelude.{◌≡◌, ℕ, ◌≤◌, Bool, true, None, Some, List}
use Rattle.std.specs.List.{AllByRecursion}
use Rattle.akl_terms.specs.declared.name.Name.{Name}
use Rattle.akl_terms.specs.declared.name.Var.{Var}
use Rattle.akl_terms.specs.declared.term.Term.{Term}
use Rattle.akl_model.specs.declared.label.Rule.{Rule}
use Rattle.akl_model.specs.Config.{Atom, Found, box_at}
use Rattle.akl_model.specs.Wakes.{names_around, names_down_to}
use Rattle.rational_unify.specs.Known.{found_in}
use Rattle.rational_unify.specs.Older.{LeadOlder}
use Rattle.rational_unify.specs.Solving.{BindNew}
use Rattle.local_store.specs.Chained.{bindings_from}
use Rattle.table_laws.specs.Rows.{BoxRow, Table, stores_along}
use Rattle.table_laws.specs.Kept.{SharesStores}
use Rattle.table_laws.specs.Unfolds.{UnchangedSince}
use Rattle.table_laws.specs.Stamped.{Run, IsTableOf}
use Rattle.table_laws.specs.Steps.{tells, joins, IsSolvedIf, IsSolvedWhen}
use Rattle.table_laws.specs.Added.{Added, with_added}
use Rattle.table_laws.specs.Planned.{store_of}

-- the steps by which a box gets its own store with what is added say truly whether this is solved, as of so many labels
abbrev pub IsSolvedBy : ℕ → Table → Found → Added → Bool → Type 0
IsSolvedBy at T k x solved = IsSolvedWhen (Some at) T k (tells (with_added (store_of T k.content.name) x) solved)
    × ((goals : List (Name × Atom)) → IsSolvedWhen (Some at) T k (joins (with_added (store_of T k.content.name) x) solved goals))

-- where no label behind those that a plan had seen changed the box's own store, it is solved as the plan says, while none changed those around it
abbrev pub SolvedStillLaw : Type 0
SolvedStillLaw = (rules : List Rule) (run : Run) (S T : Table) (seen : ℕ) → S.nodes ≡ T.nodes → SharesStores S T seen → seen ≤ T.steps → (t : IsTableOf rules run T) → (f k : Found) → box_at k.content.name t.config.roots ≡ Some k
    → k.content.name ≡ f.content.name → names_around k ≡ names_around f → (x : Added) (solved : Bool) → IsSolvedIf solved S (names_around f) (with_added (store_of S f.content.name) x)
    → ((row : BoxRow) → T.box_of k.content.name ≡ Some row → row.changed ≤ seen) → IsSolvedBy seen T k x solved

-- where the stores down to the box are solved in the later table, and bind none of the variables that are bound by what is added, which leads to older ones, it is solved there. Of a root box
-- these are its own store alone, and nothing is asked of boxes around it
abbrev pub SolvedFreshLaw : Type 0
SolvedFreshLaw = (rules : List Rule) (run : Run) (T : Table) (t : IsTableOf rules run T) (k : Found) → box_at k.content.name t.config.roots ≡ Some k
    → (row : BoxRow) (at : ℕ) → T.box_of k.content.name ≡ Some row → row.solved_at ≡ Some at → UnchangedSince T at (names_around k)
    → (x : Added) → BindNew (bindings_from (stores_along T (names_down_to k))) x.bindings → LeadOlder T.nodes x.bindings → (solved : Bool) → IsSolvedBy T.steps T k x solved

-- what was new to some bindings is new to others that bind none of its variables
abbrev pub NewElsewhereLaw : Type 0
NewElsewhereLaw = (known now part : List (Var × Term)) → BindNew known part → AllByRecursion (λ (b : Var × Term). found_in now b.0 ≡ None) part → BindNew now part

-- what is added is new to the stores down to its box, and leads to older variables, where these are solved with it
abbrev pub NewPartLaw : Type 0
NewPartLaw = (S : Table) (f : Found) (x : Added) → IsSolvedIf true S (names_around f) (with_added (store_of S f.content.name) x)
    → BindNew (bindings_from (stores_along S (names_down_to f))) x.bindings × LeadOlder S.nodes x.bindings
