-- A label that was planned for a prefix of a run, and a table of the whole of it.
use Rattle.std.specs.Prelude.{◌≡◌, List, ◌++◌, length, slice_index}
use Rattle.akl_terms.specs.declared.name.Name.{Name}
use Rattle.akl_terms.specs.declared.name.Var.{Var}
use Rattle.akl_terms.specs.declared.program.Program.{Program}
use Rattle.akl_terms.specs.declared.program.Query.{Query}
use Rattle.akl_model.specs.declared.item.Item.{Item}
use Rattle.akl_model.specs.declared.label.Rule.{Rule}
use Rattle.akl_model.specs.declared.label.Label.{Label}
use Rattle.akl_model.specs.Config.{Config}
use Rattle.akl_model.specs.Derivations.{Applies, Derives, Replays}
use Rattle.akl_model.specs.Wakes.{names_around}
use Rattle.local_store.specs.Stored.{Stored}
use Rattle.step_laws.specs.Bound.{AreBoundIn}
use Rattle.plan_laws.specs.Right.{NoneBy}
use Rattle.reading_laws.specs.Seen.{IsSeen}
use Rattle.table_laws.specs.Rows.{Table, store_in}
use Rattle.table_laws.specs.Stamped.{IsTableOf}

-- the prefix leads to c, and further labels, none by the worker of the label, to the table's configuration
pub record GoesOnTo (rules : List Rule) (p : Program) (q : Query) (journal further : List Label) (c : Config) (l : Label) (T : Table) : Type 0 where
  pub replays : Replays rules p q journal c
  pub table : IsTableOf rules (record { program = p; query = q; journal = journal ++ further }) T
  pub derives : Derives rules p c further table.config
  pub none : NoneBy l further

-- no label behind the prefix changed an item
abbrev pub Seen : (rules : List Rule) (p : Program) (q : Query) (journal further : List Label) → Item → Type 0
Seen rules p q journal further = IsSeen rules p q (journal ++ further) (length journal)

-- the label leads on from d, in a box of the same name, under boxes of the same names: it draws the same names, and the list is of what it binds there
pub record LeadsOn {rules : List Rule} {p : Program} {c : Config} {l : Label} {e : Config} (a : Applies rules p c l e) (d : Config) (list : List Var) : Type 0 where
  pub result : Config
  pub applies : Applies rules p d l result
  pub same_site : applies.site.content.name ≡ a.site.content.name
  pub same_around : names_around applies.site ≡ names_around a.site
  pub same_next : slice_index d.next l.worker ≡ slice_index c.next l.worker
  pub drawn : applies.change.drawn ≡ a.change.drawn
  pub binds : AreBoundIn d result applies.site list

-- the store that a table has under a name
abbrev pub store_of : Table → Name → Stored
store_of T n = store_in (T.box_of n)
