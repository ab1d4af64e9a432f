-- Laws of tables.
use Rattle.std.specs.Prelude.{◌≡◌, ℕ, ◌+◌, List, [], ◌∷◌, ◌++◌, length, map, Option, Some, None, slice_index}
use Rattle.akl_terms.specs.declared.name.Name.{Name}
use Rattle.akl_terms.specs.declared.name.Place.{Place}
use Rattle.akl_terms.specs.declared.program.Program.{Program}
use Rattle.akl_terms.specs.declared.program.Query.{Query}
use Rattle.akl_model.specs.declared.label.Rule.{Rule}
use Rattle.akl_model.specs.declared.label.Label.{Label}
use Rattle.akl_model.specs.Config.{Config, Atom}
use Rattle.akl_model.specs.Instances.{atoms_of, shown_of}
use Rattle.akl_model.specs.Derivations.{Applies, Derives, Replays}
use Rattle.local_store.specs.Stored.{nothing, with_frame}
use Rattle.plan_laws.specs.Right.{NoneBy}
use Rattle.plan_laws.specs.Stamps as stamps
use Rattle.table_laws.specs.Rows.{BoxRow, Table}
use Rattle.table_laws.specs.Stamped.{Run, followed_by, IsTableOf}
use Rattle.table_laws.specs.Steps.{BoxCopy, Step, splits, Makes, ReadsFor, IsSolvedWhen}
use Rattle.table_laws.specs.Copying.{AreNamesCopied, swapping, AreMade}
use Rattle.table_laws.specs.Writes.{IsTable, DrawsFresh, Leads, set, atom_among, first_fail}

-- a table that a label's step leads to, where the label applies, is one of the run that goes on with the label
abbrev pub StepLaw : Type 0
StepLaw = (rules : List Rule) (r : Run) (T U : Table) (l : Label) (d : Config) (t : IsTableOf rules r T) (a : Applies rules r.program t.config l d) (step : Step) (at : Option ℕ)
    → Makes r.program l (slice_index t.config.next l.worker) a.site step → IsSolvedWhen at T a.site step → Leads T l at a.change.drawn step U
    → (u : IsTableOf rules (followed_by r l) U) × (u.config ≡ d)

-- and the names that the step draws stand nowhere in the table
abbrev pub FreshStepLaw : Type 0
FreshStepLaw = (rules : List Rule) (r : Run) (T : Table) (l : Label) (d : Config) (t : IsTableOf rules r T) (a : Applies rules r.program t.config l d) (step : Step)
    → Makes r.program l (slice_index t.config.next l.worker) a.site step → DrawsFresh T step

-- a step that was made for a prefix of a run is right for the whole of it, where what it reads was changed by no label after the prefix, by
-- its stamps, and its worker has made no label since
abbrev pub LaterLaw : Type 0
LaterLaw = (rules : List Rule) (p : Program) (q : Query) (journal further : List Label) (c d : Config) (l : Label) (e : Config) (a : Applies rules p c l e) (step : Step)
    → Replays rules p q journal c → Derives rules p c further d → NoneBy l further
    → ReadsFor (stamps.IsStamped rules p q (journal ++ further) (length journal)) l a.site step → Makes p l (slice_index c.next l.worker) a.site step
    → (result : Config) × (now : Applies rules p d l result) × Makes p l (slice_index d.next l.worker) now.site step × (now.site.content.name ≡ a.site.content.name) × (now.change.drawn ≡ a.change.drawn)

-- copies that are made of the rows of the box of a split and of those inside it are what the label makes
abbrev pub CopiesLaw : Type 0
CopiesLaw = (rules : List Rule) (r : Run) (T : Table) (l : Label) (d : Config) (t : IsTableOf rules r T) (a : Applies rules r.program t.config l d) (n al : Name) (names : List Name) (copies : List BoxCopy)
    → l.rule ≡ Rule.Split → l.place ≡ Place.Box n → l.alternative ≡ Some al → AreNamesCopied T n al names
    → AreMade T n al (swapping names l.worker (slice_index t.config.next l.worker)) copies
    → Makes r.program l (slice_index t.config.next l.worker) a.site (splits (swapping names l.worker (slice_index t.config.next l.worker) n) copies)

-- the goals of a query by name: worker 0 draws them in order, after its box and its frame
abbrev pub named_from : ℕ → List Atom → List (Name × Atom)
named_from n [] = []
named_from n (a ∷ rest) = (record { worker = 0; number = n }, a) ∷ named_from (1 + n) rest

-- the row of the query's box
abbrev pub first_row : Program → Query → BoxRow
first_row p q =
    let frame : Name = record { worker = 0; number = 1 } in
    let goals : List (Name × Atom) = named_from 2 (atoms_of p.templates.nodes frame q.goals) in
    record {
      holder = None;
      store = with_frame nothing frame;
      changed = 0;
      solved_at = Some 0;
      goals = map (λ (x : Name × Atom). x.0) goals;
      goals_changed = 0;
      failing = first_fail goals;
      body = [];
      shown = map (shown_of frame) q.shown;
      collected = None;
    }

-- the table of a query's one box, to which nothing was told
abbrev pub started : Program → Query → Table
started p q =
    let root : Name = record { worker = 0; number = 0 } in
    record {
      nodes = p.templates.nodes;
      box_of = set root (Some (first_row p q)) (λ m. None);
      goal_of = atom_among root 0 (named_from 2 (atoms_of p.templates.nodes (record { worker = 0; number = 1 }) q.goals));
      roots = root ∷ [];
      roots_changed = 0;
      next = (2 + length q.goals) ∷ [];
      steps = 0;
      mark_of = λ x. 0;
    }

abbrev pub StartLaw : Type 0
StartLaw = (rules : List Rule) (p : Program) (q : Query) (T : Table) → IsTable T (started p q) → IsTableOf rules (record { program = p; query = q; journal = [] }) T
