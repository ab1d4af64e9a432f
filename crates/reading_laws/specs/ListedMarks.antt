-- What a plan lists as bound isn't bound since, where the marks of the list are no later than the plan.
use Rattle.std.specs.Prelude.{◌≡◌, ℕ, ◌≤◌, List, [], ◌∷◌, ◌++◌, length, Some, ⊤}
use Rattle.akl_terms.specs.declared.name.Var.{Var}
use Rattle.akl_terms.specs.declared.program.Program.{Program}
use Rattle.akl_terms.specs.declared.program.Query.{Query}
use Rattle.constraint_laws.specs.Touched.{IsAmong}
use Rattle.akl_model.specs.declared.item.Item.{Item}
use Rattle.akl_model.specs.declared.label.Rule.{Rule}
use Rattle.akl_model.specs.declared.label.Label.{Label}
use Rattle.akl_model.specs.Config.{Config, Found, box_at}
use Rattle.akl_model.specs.Derivations.{Derives, Replays}
use Rattle.step_laws.specs.Bound.{AreBoundIn}
use Rattle.step_laws.specs.Likeness.{IsOld}
use Rattle.reading_laws.specs.Unchanged.{Unchanged}
use Rattle.reading_laws.specs.Ends.{HasEnds}
use Rattle.reading_laws.specs.Marks.{IsMark}

-- all labels are of one worker, and none is
abbrev pub AreOf : ℕ → List Label → Type 0
AreOf worker [] = ⊤
AreOf worker (l ∷ ls) = (l.worker ≡ worker) × AreOf worker ls

abbrev pub NoneOf : ℕ → List Label → Type 0
NoneOf worker [] = ⊤
NoneOf worker (l ∷ ls) = (worker ≡ l.worker → ⊥) × NoneOf worker ls

-- of what labels bind in a box, a list that is enough has its ends, as far as its variables were there before
abbrev pub ListedEndsLaw : Type 0
ListedEndsLaw = (rules : List Rule) (p : Program) (q : Query) (journal : List Label) (c : Config) (own : List Label) (e : Config) → Replays rules p q journal c → Derives rules p c own e
    → (f : Found) → box_at f.content.name c.roots ≡ Some f → (list : List Var) → AreBoundIn c e f list
    → (kept : List Var) → ((x : Var) → IsAmong x kept → IsAmong x list) → ((x : Var) → IsAmong x list → IsOld c x.frame → IsAmong x kept) → HasEnds c kept

-- so marks tell that none of it is bound or made equal by further labels. Those of variables that weren't there aren't read: their frames are drawn by the plan's own worker,
-- which has made no label since
abbrev pub ListedMarksLaw : Type 0
ListedMarksLaw = (rules : List Rule) (p : Program) (q : Query) (journal : List Label) (c : Config) (worker : ℕ) (own : List Label) (e : Config) → Replays rules p q journal c → Derives rules p c own e → AreOf worker own
    → (f : Found) → box_at f.content.name c.roots ≡ Some f → (list : List Var) → AreBoundIn c e f list
    → (further : List Label) (d : Config) (w : Derives rules p c further d) → NoneOf worker further
    → ((x : Var) → IsAmong x list → IsOld c x.frame → (k : ℕ) × IsMark rules p q (journal ++ further) x k × (k ≤ length journal))
    → (x : Var) → IsAmong x list → Unchanged rules p c further d w (Item.Binding x)
