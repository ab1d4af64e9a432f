-- The lines of a trace, one for each label of a journal.
use Rattle.std.specs.Prelude.{ℕ, suc, Bool, true, false, List, [], ◌∷◌, ◌++◌, Option, Some, None, codes}
use Rattle.std.specs.Fmt.{decimal}
use Rattle.akl_terms.specs.declared.name.Name.{Name}
use Rattle.line_text.specs.Names.{name_text}
use Rattle.akl_terms.specs.declared.name.Place.{Place}
use Rattle.akl_model.specs.declared.label.Rule.{Rule}
use Rattle.akl_model.specs.declared.label.Label.{Label}

abbrev pub rule_text : Rule → List ℕ
rule_text Rule.Tell = codes "tell"
rule_text Rule.Fork = codes "fork"
rule_text Rule.Eval = codes "eval"
rule_text Rule.Open = codes "open"
rule_text Rule.Send = codes "send"
rule_text Rule.Fail = codes "fail"
rule_text Rule.Cut = codes "cut"
rule_text Rule.Promote = codes "promote"
rule_text Rule.Split = codes "split"
rule_text Rule.Collect = codes "collect"

abbrev pub place_text : Place → List ℕ
place_text (Place.Goal g) = codes " goal " ++ name_text g
place_text (Place.Box n) = codes " box " ++ name_text n

abbrev pub alternative_text : Option Name → List ℕ
alternative_text None = []
alternative_text (Some n) = codes " of " ++ name_text n

-- `step`, the label's number, its rule and its place, its alternative where it has one, and its worker
abbrev pub trace_line : ℕ → Label → List ℕ
trace_line k l = codes "step " ++ decimal k ++ codes " " ++ rule_text l.rule ++ place_text l.place ++ alternative_text l.alternative ++ codes " by " ++ decimal l.worker ++ codes "\n"

-- the lines of labels that are numbered from k on
abbrev pub trace_lines : ℕ → List Label → List ℕ
trace_lines k [] = []
trace_lines k (l ∷ ls) = trace_line k l ++ trace_lines (suc k) ls

-- what a run writes of its journal: a line for each label, where a trace is asked
abbrev pub trace_text : Bool → List Label → List ℕ
trace_text true journal = trace_lines 1 journal
trace_text false journal = []
