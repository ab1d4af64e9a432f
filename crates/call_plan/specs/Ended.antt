-- How the labels of a call end.
use Rattle.std.specs.Prelude.{List, [], ◌∷◌, Bool, true, false, Some}
use Rattle.akl_terms.specs.declared.name.Name.{Name}
use Rattle.akl_terms.specs.declared.name.Place.{Place}
use Rattle.akl_terms.specs.declared.program.Clause.{Clause}
use Rattle.akl_terms.specs.declared.program.Op.{Op}
use Rattle.akl_model.specs.declared.label.Rule.{Rule}
use Rattle.akl_model.specs.declared.label.Label.{Label}
use Rattle.plan_laws.specs.AtOnce.{by}

-- an alternative is promoted, where others stand behind it after they were cut
abbrev pub end_labels : Name → Name → Bool → List Label
end_labels g a false = by a.worker Rule.Promote (Place.Goal g) (Some a) ∷ []
end_labels g a true = by a.worker Rule.Cut (Place.Goal g) (Some a) ∷ by a.worker Rule.Promote (Place.Goal g) (Some a) ∷ []

-- whether alternatives are cut that stand behind the one that is promoted
abbrev pub cuts_others : Op → List Clause → Bool
cuts_others Op.Choice behind = false
cuts_others op [] = false
cuts_others op (c ∷ cs) = true
