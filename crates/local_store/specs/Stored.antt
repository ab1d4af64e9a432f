-- What one box knows.
use Rattle.std.specs.Prelude.{List, [], ◌∷◌, Bool, false, ◌||◌, if◌then◌else◌}
use Rattle.std.specs.Ordering.{is_lt, match_ordering}
use Rattle.std.specs.BTreeMap.{insert_entry}
use Rattle.akl_terms.specs.declared.name.Name.{Name}
use Rattle.akl_terms.specs.declared.name.Var.{Var}
use Rattle.akl_terms.specs.declared.term.Term.{Term}
use Rattle.akl_terms.specs.Names.{same_name, name_cmp, var_cmp}

-- frames and ports in increasing order of names; bindings in increasing order of variables, those of one variable in the order in which they were added
pub record Stored : Type 0 where
  pub frames : List Name
  pub bindings : List (Var × Term)
  pub ports : List (Name × Term)

abbrev pub nothing : Stored
nothing = record { frames = []; bindings = []; ports = [] }

-- without its bindings
abbrev pub unbound : Stored → Stored
unbound s = record { frames = s.frames; bindings = []; ports = s.ports }

abbrev pub var_before : Var → Var → Bool
var_before x y = is_lt (var_cmp x y)

-- with a binding, behind those of its variable and of the variables before it
abbrev pub joined : List (Var × Term) → Var → Term → List (Var × Term)
joined [] x t = (x, t) ∷ []
joined (b ∷ bs) x t = if var_before x b.0 then (x, t) ∷ b ∷ bs else b ∷ joined bs x t

abbrev pub with_binding : Stored → Var → Term → Stored
with_binding s x t = record { frames = s.frames; bindings = joined s.bindings x t; ports = s.ports }

-- with all of these bindings, in their order
abbrev pub joins : List (Var × Term) → List (Var × Term) → List (Var × Term)
joins bs [] = bs
joins bs (c ∷ cs) = joins (joined bs c.0 c.1) cs

abbrev pub with_bindings : Stored → List (Var × Term) → Stored
with_bindings s bs = record { frames = s.frames; bindings = joins s.bindings bs; ports = s.ports }

-- a name is one of a list
abbrev pub is_named : List Name → Name → Bool
is_named [] n = false
is_named (m ∷ ms) n = same_name m n || is_named ms n

-- with a name in its place, once
abbrev pub named : List Name → Name → List Name
named [] n = n ∷ []
named (m ∷ ms) n = match_ordering (name_cmp n m) (n ∷ m ∷ ms) (m ∷ ms) (m ∷ named ms n)

-- with further names, one after another
abbrev pub all_named : List Name → List Name → List Name
all_named ns [] = ns
all_named ns (m ∷ ms) = all_named (named ns m) ms

-- of these frames and bindings, one after another
abbrev pub made_of : List Name → List (Var × Term) → Stored
made_of frames bindings = record { frames = all_named [] frames; bindings = joins [] bindings; ports = [] }

abbrev pub with_frame : Stored → Name → Stored
with_frame s n = record { frames = named s.frames n; bindings = s.bindings; ports = s.ports }

-- with a port in its place; one that is there takes the tail
abbrev pub with_port : Stored → Name → Term → Stored
with_port s n t = record { frames = s.frames; bindings = s.bindings; ports = insert_entry name_cmp s.ports n t }
