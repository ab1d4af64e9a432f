-- How names are written.
use Rattle.std.specs.Prelude.{ℕ, List, ◌++◌, codes}
use Rattle.std.specs.Fmt.{decimal}
use Rattle.akl_terms.specs.declared.name.Name.{Name}

-- a name: its worker, a dot, its number
abbrev pub name_text : Name → List ℕ
name_text n = decimal n.worker ++ codes "." ++ decimal n.number
