-- What a plan adds to a store: frames, ports and bindings, whatever the store has.
use Rattle.std.specs.Prelude.{◌≡◌, List}
use Rattle.akl_terms.specs.declared.name.Name.{Name}
use Rattle.akl_terms.specs.declared.name.Var.{Var}
use Rattle.akl_terms.specs.declared.term.Node.{Node}
use Rattle.akl_terms.specs.declared.term.Term.{Term}
use Rattle.akl_model.specs.Config.{Port, with_names, with_ports}
use Rattle.local_store.specs.declared.part.Part.{Part}
use Rattle.local_store.specs.Parts.{all_ports}
use Rattle.local_store.specs.Stored.{Stored, all_named, joins}
use Rattle.plan_laws.specs.Local.{Told, with_new_tail}
use Rattle.table_laws.specs.Rows.{ports_in}

pub record Added : Type 0 where
  pub frames : List Name
  pub ports : List (Name × Term)
  pub bindings : List (Var × Term)

-- what a part of a plan has
abbrev pub added_of : Part → Added
added_of p = record { frames = p.frames.items; ports = p.ports.items; bindings = p.bindings.items }

-- so `with_part s p` is `with_added s (added_of p)`
abbrev pub with_added : Stored → Added → Stored
with_added s x = record { frames = all_named s.frames x.frames; bindings = joins s.bindings x.bindings; ports = all_ports s.ports x.ports }

-- the frames and ports that are added are those that are told: to all frames, and to the ports of the box, as which store ever has them
pub record NamesTold (nodes : List Node) (here : List Port) (told : Told) (x : Added) : Type 0 where
  pub frames : (old : List Name) → all_named old x.frames ≡ with_names told.frames old
  pub ports : (old : List (Name × Term)) → ports_in nodes old ≡ here → ports_in nodes (all_ports old x.ports) ≡ with_ports told.ports (with_new_tail told.tail here)
