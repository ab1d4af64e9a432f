-- Marks stay right behind a call.
use Rattle.std.proofs.Common.{◌≡◌, ℕ, List, ◌++◌, length, Some}
use Rattle.akl_terms.specs.declared.name.Name.{Name}
use Rattle.akl_terms.specs.declared.name.Var.{Var}
use Rattle.akl_model.specs.declared.label.Rule.{Rule}
use Rattle.akl_model.specs.Config.{Found, home_of}
use Rattle.akl_model.specs.Derivations.{Derives}
use Rattle.akl_model.proofs.NamesKept.{replay-stands}
use Rattle.step_laws.specs.Bound.{AreBoundIn}
use Rattle.plan_laws.specs.AtOnce.{IsAtOnce, labels_at_once, at_once, AreInForce}
use Rattle.plan_laws.specs.Wakes.{TellsNothing}
use Rattle.plan_laws.proofs.Between.{distinct_of}
use Rattle.plan_laws.proofs.Calls.{at_once_law}
use Rattle.reading_laws.proofs.CallSpares.{call_spares}
use Rattle.table_laws.specs.Rows.{Table}
use Rattle.table_laws.specs.Stamped.{Run, IsTableOf, AreMarked}
use Rattle.table_laws.specs.Marks.{Marks}
use Rattle.table_laws.proofs.MarksKept.{marks_on}
use Rattle.table_laws.specs.Calls.{after_labels}

pub call_marked : (rules : List Rule) → AreInForce rules → (r : Run) (T U : Table) (t : IsTableOf rules r T) (w : ℕ) (g : Name) (f : Found) → home_of g t.config.roots ≡ Some f → (x : IsAtOnce r.program t.config w g f) → TellsNothing x
    → U.steps ≡ length (r.journal ++ labels_at_once x) → (list : List Var) → AreBoundIn t.config (at_once x) f list → Marks list T U → AreMarked rules r T → AreMarked rules (after_labels r x) U
call_marked rules force r T U t w g f is_home x tells steps list bound marks old = marks_on rules r T U t.config (labels_at_once x) (at_once x) t.replays derives steps list
    (λ v absent. call_spares rules force r.program r.query r.journal t.config t.replays w g f is_home x tells list bound v absent derives) marks old
  where
    derives : Derives rules r.program t.config (labels_at_once x) (at_once x)
    derives = at_once_law rules force r.program t.config (distinct_of t.config (replay-stands rules r.program r.query r.journal t.config t.replays)) w g f is_home x
