-- The end of the model's example of a whole run, at once: `p(X)` where X is a, by the first clause of two. And a call of which the body is told as far as it can be.
use Rattle.std.specs.Prelude.{◌≡◌, [], ◌∷◌, Some, None, codes}
use Rattle.akl_terms.specs.declared.name.Place.{Place}
use Rattle.akl_terms.specs.declared.program.Code.{Code}
use Rattle.akl_terms.specs.declared.program.Op.{Op}
use Rattle.akl_terms.specs.declared.program.Program.{Program}
use Rattle.akl_model.specs.declared.label.Rule.{Rule}
use Rattle.akl_model.specs.Config.{Atom, Content, no_boxes, box, Goals, no_goals, atom, Config, Found}
use Rattle.akl_model.specs.Examples.{program, name, x, a, told, content, last}
use Rattle.plan_laws.specs.AtOnce.{by, IsAtOnce, labels_at_once, at_once}

abbrev pub told_content : Content
told_content = record (content (name 0 0) (name 0 1) (told x a ∷ [])) { shown = record { text = codes "X"; tree = x } ∷ [] }

abbrev pub one_call : Goals
one_call = atom (name 0 2) (Atom.call 0 (x ∷ []) None) no_goals

-- what the first label of the run leads to
abbrev pub after_tell : Config
after_tell = record { roots = box told_content one_call no_boxes; next = 4 ∷ 0 ∷ [] }

abbrev pub home : Found
home = record { around = []; content = told_content; goals = one_call }

-- the other three labels are one call at once, which leads to the end of the run
abbrev pub ThreeLabels : Type 0
ThreeLabels = (k : IsAtOnce program after_tell 1 (name 0 2) home)
    × (labels_at_once k ≡ by 1 Rule.Fork (Place.Goal (name 0 2)) None ∷ by 1 Rule.Cut (Place.Goal (name 0 2)) (Some (name 1 0)) ∷ by 1 Rule.Promote (Place.Goal (name 0 2)) (Some (name 1 0)) ∷ [])
    × (at_once k ≡ last)

-- `p(a) :- ? a = a, p(a).` alone, over the same terms
abbrev pub round : Program
round = record program {
  definitions = record {
    key = record { symbol = codes "p"; arity = 1 };
    lifted = None;
    op = Op.Choice;
    clauses = record { variables = 0; first = 4; count = 1; guard = []; body = Code.Equal 4 4 ∷ Code.Call 0 4 1 ∷ []; collected = None } ∷ [];
  } ∷ [];
}

-- the equation of its body is told behind the promotion, and the call is left
abbrev pub CallWithBody : Type 0
CallWithBody = (k : IsAtOnce round after_tell 1 (name 0 2) home)
    × (labels_at_once k ≡ by 1 Rule.Fork (Place.Goal (name 0 2)) None ∷ by 1 Rule.Promote (Place.Goal (name 0 2)) (Some (name 1 0)) ∷ by 1 Rule.Tell (Place.Goal (name 1 2)) None ∷ [])
    × (at_once k ≡ record { roots = box (record told_content { frames = name 0 1 ∷ name 1 1 ∷ []; equations = told x a ∷ told x a ∷ told a a ∷ [] }) (atom (name 1 3) (Atom.call 0 (a ∷ []) None) no_goals) no_boxes; next = 4 ∷ 4 ∷ [] })
