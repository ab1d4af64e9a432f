-- Names and variables: when two are one, and how they are ordered.
use Rattle.std.specs.Prelude.{Bool, true, ◌&&◌, ◌==◌, nat_lt, if◌then◌else◌}
use Rattle.std.specs.declared.cmp.Ordering.{Ordering}
use Rattle.std.specs.declared.cmp.Ordering.TheVariants.{Less, Greater}
use Rattle.std.specs.Ordering.{nat_cmp, ordering_then}
use Rattle.akl_terms.specs.declared.name.Name.{Name}
use Rattle.akl_terms.specs.declared.name.Var.{Var}
use Rattle.akl_terms.specs.declared.name.Place.{Place}

abbrev pub same_name : Name → Name → Bool
same_name a b = (a.worker == b.worker) && (a.number == b.number)

abbrev pub same_var : Var → Var → Bool
same_var a b = same_name a.frame b.frame && (a.index == b.index)

-- a name is before another one, by worker and then by number
abbrev pub is_before : Name → Name → Bool
is_before a b = if nat_lt a.worker b.worker then true else ((a.worker == b.worker) && nat_lt a.number b.number)

-- names by worker, then by number
abbrev pub name_cmp : Name → Name → Ordering
name_cmp a b = ordering_then (nat_cmp a.worker b.worker) (nat_cmp a.number b.number)

-- variables by frame, then by index
abbrev pub var_cmp : Var → Var → Ordering
var_cmp a b = ordering_then (name_cmp a.frame b.frame) (nat_cmp a.index b.index)

-- goals before boxes, each by name
abbrev pub place_cmp : Place → Place → Ordering
place_cmp (Place.Goal a) (Place.Goal b) = name_cmp a b
place_cmp (Place.Goal a) (Place.Box b) = Less
place_cmp (Place.Box a) (Place.Goal b) = Greater
place_cmp (Place.Box a) (Place.Box b) = name_cmp a b
