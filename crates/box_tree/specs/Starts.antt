-- The parts of a query's one box.
use Rattle.std.specs.Prelude.{◌≡◌, ℕ, ◌+◌, List, [], ◌∷◌, map, Some, None}
use Rattle.akl_terms.specs.declared.name.Name.{Name}
use Rattle.akl_terms.specs.declared.name.Var.{Var}
use Rattle.akl_terms.specs.declared.term.Node.{Node}
use Rattle.akl_terms.specs.declared.program.Code.{Code}
use Rattle.akl_terms.specs.declared.program.Goal.{Goal}
use Rattle.akl_terms.specs.declared.program.Program.{Program}
use Rattle.akl_terms.specs.declared.program.Query.{Query}
use Rattle.akl_terms.specs.declared.program.ShownTerm.{ShownTerm}
use Rattle.local_store.specs.Stored.{nothing, with_frame}
use Rattle.table_laws.specs.Writes.{first_fail}
use Rattle.box_tree.specs.declared.entries.BoxEntry.{BoxEntry}
use Rattle.box_tree.specs.StoreMarks.{stores_of}
use Rattle.box_tree.specs.Tables.{TableValue, mark_after}
use Rattle.box_tree.specs.Edits.{named_atoms}

-- the box of a query, and the frame of its variables
abbrev pub query_box : Name
query_box = record { worker = 0; number = 0 }

abbrev pub query_frame : Name
query_frame = record { worker = 0; number = 1 }

-- goals under names of worker 0 from a number on
abbrev pub goals_from : ℕ → List Code → List (Name × Goal)
goals_from n [] = []
goals_from n (c ∷ cs) = (record { worker = 0; number = n }, record { code = c; frame = query_frame }) ∷ goals_from (1 + n) cs

-- the entry of the query's box
pub record IsFirstEntry (goals : List (Name × Goal)) (shown : List ShownTerm) (e : BoxEntry) : Type 0 where
  pub holder : e.holder ≡ None
  pub store : e.store ≡ with_frame nothing query_frame
  pub changed : e.changed ≡ 0
  pub solved_at : e.solved_at ≡ Some 0
  pub names : e.goals.keys ≡ map (λ (x : Name × Goal). x.0) goals
  pub goals_changed : e.goals_changed ≡ 0
  pub failing : (nodes : List Node) → e.failing ≡ first_fail (named_atoms nodes goals)
  pub body : e.body.items ≡ []
  pub shows : e.shown.items ≡ shown
  pub collects : e.collected ≡ None

-- the table of no box
pub record IsEmpty (p : Program) (q : Query) (goals : ℕ) (t : TableValue) : Type 0 where
  pub program : t.program ≡ p
  pub query : t.query ≡ q
  pub boxes : t.boxes ≡ []
  pub no_goals : t.goals ≡ []
  pub roots : t.roots ≡ query_box ∷ []
  pub roots_changed : t.roots_changed ≡ 0
  pub marks : (x : Var) → mark_after 0 t.marks x ≡ 0
  pub stores : stores_of t.marks ≡ []
  pub next : t.next ≡ (2 + goals) ∷ []
  pub steps : t.steps ≡ 0
