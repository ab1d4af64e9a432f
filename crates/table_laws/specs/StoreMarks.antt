-- Numbers of labels behind which the stores of boxes weren't changed, where bindings are told apart, as a core keeps them beside its table.
use Rattle.std.specs.Prelude.{◌≡◌, ℕ, ◌≤◌, List, [], ◌∷◌, ◌++◌, Some, ◌⊎◌, slice_index}
use Rattle.akl_terms.specs.declared.name.Name.{Name}
use Rattle.akl_terms.specs.declared.name.Place.{Place}
use Rattle.akl_terms.specs.declared.program.Program.{Program}
use Rattle.akl_terms.specs.declared.program.Query.{Query}
use Rattle.akl_terms.specs.Equal.{IsConsistent}
use Rattle.akl_model.specs.declared.item.Item.{Item}
use Rattle.akl_model.specs.declared.label.Rule.{Rule}
use Rattle.akl_model.specs.declared.label.Label.{Label}
use Rattle.akl_model.specs.Config.{Atom, Config, whole}
use Rattle.akl_model.specs.Changes.{by_binding, Changes}
use Rattle.akl_model.specs.Derivations.{Applies, Derives}
use Rattle.local_store.specs.Stored.{Stored}
use Rattle.reading_laws.specs.Seen.{IsSeen}
use Rattle.reading_laws.specs.Unchanged.{Unchanged}
use Rattle.table_laws.specs.Rows.{BoxRow, Table, ports_in}
use Rattle.table_laws.specs.Stamped.{Run, IsTableOf}
use Rattle.table_laws.specs.Steps.{TellsGoal, JoinsGoal}

-- each box that is there has one
pub record AreStoresMarked (rules : List Rule) (r : Run) (T : Table) (mark : Name → ℕ) : Type 0 where
  pub each : (n : Name) (row : BoxRow) → T.box_of n ≡ Some row → IsSeen rules r.program r.query r.journal (mark n) (Item.Store n)

-- each box that is there behind some labels has the number of all labels, or keeps the one that it had, where it was there before, and by its row nothing was added to it, or no label changed its store
pub record MarksStores (rules : List Rule) (p : Program) (c : Config) (ls : List Label) (d : Config) (w : Derives rules p c ls d) (T U : Table) (mark new : Name → ℕ) : Type 0 where
  pub each : (n : Name) (row : BoxRow) → U.box_of n ≡ Some row
      → (new n ≡ U.steps) ⊎ ((new n ≡ mark n) × ((old : BoxRow) × (T.box_of n ≡ Some old)) × ((row.changed ≤ T.steps) ⊎ Unchanged rules p c ls d w (Item.Store n)))

-- before the first label each number is right
abbrev pub StoreMarksStartLaw : Type 0
StoreMarksStartLaw = (rules : List Rule) (p : Program) (q : Query) (T : Table) (mark : Name → ℕ) → AreStoresMarked rules (record { program = p; query = q; journal = [] }) T mark

-- and they stay right behind labels
abbrev pub StoreMarksLaw : Type 0
StoreMarksLaw = (rules : List Rule) (r : Run) (ls : List Label) (T U : Table) (t : IsTableOf rules r T) (u : IsTableOf rules (record r { journal = r.journal ++ ls }) U) (w : Derives rules r.program t.config ls u.config)
    → (mark new : Name → ℕ) → MarksStores rules r.program t.config ls u.config w T U mark new → AreStoresMarked rules r T mark → AreStoresMarked rules (record r { journal = r.journal ++ ls }) U new

-- a label that tells something to its box doesn't change its store, where its ports stay, and it doesn't clash by what is told
abbrev pub TellsLeavesLaw : Type 0
TellsLeavesLaw = (rules : List Rule) (r : Run) (T : Table) (t : IsTableOf rules r T) (l : Label) (d : Config) (a : Applies rules r.program t.config l d) (g : Name) (new : Stored)
    → (m : TellsGoal r.program l (slice_index t.config.next l.worker) a.site g new) → ports_in r.program.templates.nodes new.ports ≡ a.site.content.ports → IsConsistent (whole a.site ++ m.first ∷ m.more)
    → Changes by_binding t.config d (Item.Store a.site.content.name) → ⊥

-- nor does one by which alternatives join it
abbrev pub JoinsLeavesLaw : Type 0
JoinsLeavesLaw = (rules : List Rule) (r : Run) (T : Table) (t : IsTableOf rules r T) (l : Label) (d : Config) (a : Applies rules r.program t.config l d) (g : Name) (new : Stored) (goals : List (Name × Atom))
    → (m : JoinsGoal r.program l (slice_index t.config.next l.worker) a.site g new goals) → l.place ≡ Place.Goal g → ports_in r.program.templates.nodes new.ports ≡ a.site.content.ports → IsConsistent (whole a.site ++ m.joined.equations)
    → Changes by_binding t.config d (Item.Store a.site.content.name) → ⊥
