-- New names for old ones, and terms and stores under them.
use Rattle.std.specs.Prelude.{List, [], ◌∷◌, map}
use Rattle.akl_terms.specs.declared.name.Name.{Name}
use Rattle.akl_terms.specs.declared.name.Var.{Var}
use Rattle.akl_terms.specs.declared.term.Term.{Term}
use Rattle.akl_terms.specs.declared.program.Goal.{Goal}
use Rattle.akl_terms.specs.declared.program.ShownTerm.{ShownTerm}
use Rattle.box_tree.specs.declared.entries.HeldOp.{HeldOp}
use Rattle.local_store.specs.Stored.{Stored, with_frame, with_port, with_bindings, nothing}
use Rattle.table_laws.specs.Copying.{swapping}
use Rattle.box_copies.specs.declared.names.NewNames.{NewNames}

-- a name, an old one and its new one for each other
abbrev pub swapped_name : NewNames → Name → Name
swapped_name s = swapping s.old.items s.worker s.next

-- a term under other names
abbrev pub term_by : (Name → Name) → Term → Term
term_by f (Term.Mol node frame) = Term.Mol node (f frame)
term_by f (Term.Int z) = Term.Int z
term_by f (Term.Port p) = Term.Port (f p)

abbrev pub op_by : (Name → Name) → HeldOp → HeldOp
op_by f HeldOp.Condition = HeldOp.Condition
op_by f HeldOp.Commit = HeldOp.Commit
op_by f HeldOp.Choice = HeldOp.Choice
op_by f (HeldOp.Collect t) = HeldOp.Collect (term_by f t)

abbrev pub goal_by : (Name → Name) → Goal → Goal
goal_by f g = record { code = g.code; frame = f g.frame }

abbrev pub shown_by : (Name → Name) → ShownTerm → ShownTerm
shown_by f s = record { name = s.name; term = term_by f s.term }

abbrev pub binding_by : (Name → Name) → Var × Term → Var × Term
binding_by f b = (record { frame = f b.0.frame; index = b.0.index }, term_by f b.1)

abbrev pub port_by : (Name → Name) → Name × Term → Name × Term
port_by f p = (f p.0, term_by f p.1)

-- a store with these frames, or ports, one after another
abbrev pub with_frames : Stored → List Name → Stored
with_frames s [] = s
with_frames s (n ∷ ns) = with_frames (with_frame s n) ns

abbrev pub with_ports : Stored → List (Name × Term) → Stored
with_ports s [] = s
with_ports s (p ∷ ps) = with_ports (with_port s p.0 p.1) ps

-- a store under new names
abbrev pub store_by : NewNames → Stored → Stored
store_by s x = with_bindings (with_ports (with_frames nothing (map (swapped_name s) x.frames)) (map (port_by (swapped_name s)) x.ports)) (map (binding_by (swapped_name s)) x.bindings)
