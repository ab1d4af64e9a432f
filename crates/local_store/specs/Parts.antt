-- What is added to a store, and what is said of a store to which something is added.
use Rattle.std.specs.Prelude.{◌≡◌, Bool, List, [], ◌∷◌}
use Rattle.std.specs.BTreeMap.{insert_entry}
use Rattle.akl_terms.specs.declared.name.Name.{Name}
use Rattle.akl_terms.specs.declared.name.Var.{Var}
use Rattle.akl_terms.specs.declared.term.Term.{Term}
use Rattle.akl_terms.specs.Names.{name_cmp}
use Rattle.local_store.specs.declared.part.Part.{Part}
use Rattle.local_store.specs.declared.telling.ToldPart.{ToldPart}
use Rattle.local_store.specs.Stored.{Stored, all_named, joins}

-- with further ports, of which the last is put in first; one that is there takes the tail
abbrev pub all_ports : List (Name × Term) → List (Name × Term) → List (Name × Term)
all_ports ps [] = ps
all_ports ps (q ∷ qs) = insert_entry name_cmp (all_ports ps qs) q.0 q.1

-- with a part: its frames, ports and bindings
abbrev pub with_part : Stored → Part → Stored
with_part s p = record { frames = all_named s.frames p.frames.items; bindings = joins s.bindings p.bindings.items; ports = all_ports s.ports p.ports.items }

-- parts with the same frames and ports
abbrev pub SameNames : Part → Part → Type 0
SameNames p q = (q.frames.items ≡ p.frames.items) × (q.ports.items ≡ p.ports.items)

-- a store to which something was told: whether the chain is known to be solved with it, and what it binds
pub record ToldStore : Type 0 where
  pub store : Stored
  pub solved : Bool
  pub bound : List Var

-- what a part makes of a store
abbrev pub told_over : Stored → ToldPart → ToldStore
told_over s t = record { store = with_part s t.part; solved = t.solved; bound = t.bound.items }
