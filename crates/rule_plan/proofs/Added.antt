-- Names that are added to a store beside bindings.
use Rattle.std.proofs.Common.{◌≡◌, List, [], ◌∷◌, ◌++◌, sym, ◌∙◌, ap}
use Rattle.std.specs.BTreeMap.{insert_entry}
use Rattle.akl_terms.specs.declared.name.Name.{Name}
use Rattle.akl_terms.specs.declared.term.Term.{Term}
use Rattle.akl_terms.specs.Names.{name_cmp}
use Rattle.local_store.specs.declared.part.Part.{Part}
use Rattle.local_store.specs.Parts.{all_ports, with_part}
use Rattle.local_store.specs.Stored.{Stored, named, all_named, joins, with_frame, with_port}
use Rattle.local_store.proofs.Steps.{all_named-push}

-- one port, where there was none
pub port_added : (s : Stored) (old new : Part) (q : Name) (t : Term) → old.ports.items ≡ [] → new.frames.items ≡ old.frames.items → new.bindings.items ≡ old.bindings.items → new.ports.items ≡ old.ports.items ++ (q, t) ∷ []
    → with_part s new ≡ with_port (with_part s old) q t
port_added s old new q t none frames bindings ports = λ i. record { frames = all_named s.frames (frames i); bindings = joins s.bindings (bindings i); ports = one i }
  where
    one : all_ports s.ports new.ports.items ≡ insert_entry name_cmp (all_ports s.ports old.ports.items) q t
    one = ap (all_ports s.ports) (ports ∙ ap (λ (qs : List (Name × Term)). qs ++ (q, t) ∷ []) none) ∙ ap (λ (qs : List (Name × Term)). insert_entry name_cmp (all_ports s.ports qs) q t) (sym none)

-- one more frame
pub frame_added : (s : Stored) (old new : Part) (n : Name) → new.frames.items ≡ old.frames.items ++ n ∷ [] → new.bindings.items ≡ old.bindings.items → new.ports.items ≡ old.ports.items
    → with_part s new ≡ with_frame (with_part s old) n
frame_added s old new n frames bindings ports = λ i. record { frames = one i; bindings = joins s.bindings (bindings i); ports = all_ports s.ports (ports i) }
  where
    one : all_named s.frames new.frames.items ≡ named (all_named s.frames old.frames.items) n
    one = ap (all_named s.frames) frames ∙ all_named-push s.frames old.frames.items n
