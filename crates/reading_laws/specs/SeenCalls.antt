-- What the plan of a call at once reads, by stamps and marks alone.
use Rattle.std.specs.Prelude.{◌≡◌, ℕ, List, ◌++◌, length, Some, None}
use Rattle.akl_terms.specs.declared.name.Name.{Name}
use Rattle.akl_terms.specs.declared.name.Var.{Var}
use Rattle.akl_terms.specs.declared.name.Place.{Place}
use Rattle.akl_terms.specs.declared.program.Program.{Program}
use Rattle.akl_terms.specs.declared.program.Query.{Query}
use Rattle.akl_model.specs.declared.label.Rule.{Rule}
use Rattle.akl_model.specs.declared.label.Label.{Label}
use Rattle.akl_model.specs.Config.{Config, Found, home_of}
use Rattle.akl_model.specs.Derivations.{Derives, Replays}
use Rattle.step_laws.specs.Bound.{AreBoundIn}
use Rattle.plan_laws.specs.Right.{NoneBy}
use Rattle.plan_laws.specs.AtOnce.{by, IsAtOnce, at_once, AreInForce}
use Rattle.reading_laws.specs.Seen.{IsSeen, ReadsAt, ByBindings}
use Rattle.reading_laws.specs.CallsAgain.{IsAtOnceLater}
use Rattle.reading_laws.specs.QuietGuards.{EvaluatesQuietly}

-- a call at once that was planned for a prefix of a journal leads on from the whole of it, with the same labels, and binds what the plan lists, where what the plan reads was
-- changed by no label behind the prefix, and its worker has made none. Where the plan goes by bindings, alternatives in which something is evaluated are quiet
abbrev pub SeenCallLaw : Type 0
SeenCallLaw = (rules : List Rule) → AreInForce rules → (p : Program) (q : Query) (journal further : List Label) (c d : Config) → Replays rules p q journal c → Derives rules p c further d
    → (w : ℕ) (g : Name) (f : Found) → home_of g c.roots ≡ Some f → (x : IsAtOnce p c w g f) → NoneBy (by w Rule.Fork (Place.Goal g) None) further → (list : List Var) → AreBoundIn c (at_once x) f list
    → (u : ReadsAt (IsSeen rules p q (journal ++ further) (length journal)) c g f list)
    → (ByBindings _ _ _ _ _ u → EvaluatesQuietly x)
    → (k : Found) × (y : IsAtOnceLater rules x d k) × AreBoundIn d (at_once y.again) k list
