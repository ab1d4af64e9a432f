-- One mark for each variable: the number of the last label of the last plan that listed it, as a core keeps it.
use Rattle.std.specs.Prelude.{ℕ, ◌<◌, ◌≤◌, List, ◌++◌, length}
use Rattle.akl_terms.specs.declared.name.Var.{Var}
use Rattle.akl_terms.specs.declared.program.Program.{Program}
use Rattle.akl_terms.specs.declared.program.Query.{Query}
use Rattle.constraint_laws.specs.Touched.{IsAmong}
use Rattle.akl_model.specs.declared.item.Item.{Item}
use Rattle.akl_model.specs.declared.label.Rule.{Rule}
use Rattle.akl_model.specs.declared.label.Label.{Label}
use Rattle.akl_model.specs.Config.{Config}
use Rattle.akl_model.specs.Changes.{by_binding, ChangedAt}
use Rattle.akl_model.specs.Derivations.{Derives, Replays}
use Rattle.step_laws.specs.Likeness.{IsOld}
use Rattle.reading_laws.specs.Unchanged.{Unchanged}
use Rattle.reading_laws.specs.Ends.{IsEndAt, SparesEnd, HasEnds}

-- the label of this number binds the variable, or makes it equal, in a box where it is an end before the label
pub record BindsEndAt (rules : List Rule) (p : Program) (q : Query) (journal : List Label) (x : Var) (number : ℕ) : Type 0 where
  pub binds : ChangedAt by_binding rules p q journal (Item.Binding x) number
  pub ends : IsEndAt binds.before binds.changes.0 x

-- a mark: no label behind the one of this number binds the variable where it is an end
pub record IsMark (rules : List Rule) (p : Program) (q : Query) (journal : List Label) (x : Var) (number : ℕ) : Type 0 where
  pub none_later : (later : ℕ) → number < later → BindsEndAt rules p q journal x later → ⊥

-- so is the number of all labels
abbrev pub LastMarkLaw : Type 0
LastMarkLaw = (rules : List Rule) (p : Program) (q : Query) (journal : List Label) (x : Var) → IsMark rules p q journal x (length journal)

-- labels that bind the variable nowhere as an end leave it its mark
abbrev pub OldMarkLaw : Type 0
OldMarkLaw = (rules : List Rule) (p : Program) (q : Query) (journal : List Label) (c : Config) (ls : List Label) (d : Config) (x : Var) (k : ℕ) → Replays rules p q journal c → (w : Derives rules p c ls d)
    → SparesEnd rules p c ls d w x → IsMark rules p q journal x k → IsMark rules p q (journal ++ ls) x k

-- so marks that are no later than a plan, of a list that has its ends, say that no label since bound one of the list
abbrev pub MarksLaw : Type 0
MarksLaw = (rules : List Rule) (p : Program) (q : Query) (journal further : List Label) (c d : Config) → Replays rules p q journal c → (w : Derives rules p c further d)
    → (list : List Var) → ((x : Var) → IsAmong x list → IsOld c x.frame) → HasEnds c list → ((x : Var) → IsAmong x list → (k : ℕ) × IsMark rules p q (journal ++ further) x k × (k ≤ length journal))
    → ((x : Var) → IsAmong x list → Unchanged rules p c further d w (Item.Binding x)) × HasEnds d list
