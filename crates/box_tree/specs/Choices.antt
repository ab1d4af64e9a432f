-- A choice with its operator.
use Rattle.std.specs.Prelude.{◌≡◌, Some}
use Rattle.akl_terms.specs.declared.name.Name.{Name}
use Rattle.akl_terms.specs.declared.name.Place.{Place}
use Rattle.box_tree.specs.declared.entries.HeldOp.{HeldOp}
use Rattle.box_tree.specs.declared.view.Sight.{Sight}
use Rattle.box_tree.specs.Tables.{TableValue}
use Rattle.box_tree.specs.Paths.{sight_in}

-- the goal is a choice by this operator
abbrev pub IsChoiceBy : TableValue → Name → HeldOp → Type 0
IsChoiceBy t g op = (home : Name) × (sight_in t (Place.Goal g) ≡ Some (home, Sight.Choice op))
