-- What is told where a message is sent.
use Rattle.std.specs.Prelude.{ℕ, ◌+◌, List, [], ◌∷◌}
use Rattle.akl_terms.specs.declared.name.Name.{Name}
use Rattle.akl_terms.specs.declared.term.Term.{Term}
use Rattle.akl_terms.specs.declared.term.Term.TheVariants.{Mol}
use Rattle.akl_terms.specs.declared.term.Equation as code
use Rattle.local_store.specs.Stored.{Stored, with_frame, with_port}

-- a tail is a list of a node under a frame and of a new tail: by the nodes from a program's list cell on, under a new frame
abbrev pub list_equations : ℕ → Name → Term → Name → ℕ → List code.Equation
list_equations cell new tail frame m = record { left = tail; right = Mol (cell + 2) new } ∷ record { left = Mol cell new; right = Mol m frame } ∷ []

-- a store also has the new frame, and a port the new tail
abbrev pub with_new_tail : ℕ → Name → Name → Stored → Stored
with_new_tail cell new port s = with_port (with_frame s new) port (Mol (cell + 1) new)
