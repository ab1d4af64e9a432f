-- What is found of the goals of a root box.
use Rattle.std.specs.Prelude.{◌≡◌, List, map, Some}
use Rattle.akl_terms.specs.declared.name.Name.{Name}
use Rattle.akl_terms.specs.declared.name.Var.{Var}
use Rattle.akl_model.specs.Config.{Content, Goals, Held, held_in, box_at}
use Rattle.step_commit.specs.Cores.{CoreValue, TableIn}
use Rattle.root_answers.specs.Roots.{root_box}
use Rattle.why_laws.specs.Waiting as laws
use Rattle.why_laws.specs.Waiting.{IsWaitingOn}
use Rattle.why_report.specs.declared.waiting.Waiting.{Waiting}

-- what is found, as the laws speak of it
abbrev pub value_of : Waiting → laws.Waiting
value_of w = record { goal = w.goal; on = w.on.items }

abbrev pub values : List Waiting → List laws.Waiting
values ws = map value_of ws

-- a goal waits on these variables, where it stands directly in a root box
abbrev pub WaitsOn : CoreValue → Name → List Var → Type 0
WaitsOn c g list = (t : TableIn c) (n : Name) (b : Content) (gs : Goals) (h : Held) → box_at n t.config.roots ≡ Some (root_box b gs) → held_in g gs ≡ Some h
    → IsWaitingOn c.table.program (root_box b gs) g list
