-- What the plan of a label at a goal reads, by stamps and marks alone.
use Rattle.std.specs.Prelude.{◌≡◌, ℕ, ◌≤◌, List, [], ◌++◌, length, ◌⊎◌, ⊤}
use Rattle.akl_terms.specs.declared.name.Name.{Name}
use Rattle.akl_terms.specs.declared.name.Var.{Var}
use Rattle.akl_terms.specs.declared.name.Place.{Place}
use Rattle.akl_terms.specs.declared.program.Program.{Program}
use Rattle.akl_terms.specs.declared.program.Query.{Query}
use Rattle.akl_terms.specs.Tree.{variable}
use Rattle.akl_terms.specs.Equal.{Equal, IsStructured}
use Rattle.constraint_laws.specs.Touched.{IsAmong}
use Rattle.akl_model.specs.declared.item.Item.{Item}
use Rattle.akl_model.specs.declared.label.Rule.{Rule}
use Rattle.akl_model.specs.declared.label.Label.{Label}
use Rattle.akl_model.specs.Config.{IsIn, Config, Found}
use Rattle.akl_model.specs.Changes.{by_binding, IsLastChange}
use Rattle.akl_model.specs.Derivations.{Applies, Derives, Replays}
use Rattle.akl_model.specs.Wakes.{names_down_to}
use Rattle.step_laws.specs.Bound.{AreBoundIn, outermost_equations}
use Rattle.step_laws.specs.Likeness.{IsOld}
use Rattle.plan_laws.specs.Right.{NoneBy}
use Rattle.reading_laws.specs.Ends.{HasEnds}
use Rattle.reading_laws.specs.Marks.{IsMark}
use Rattle.reading_laws.specs.Plans.{StaysRight}
use Rattle.reading_laws.specs.Unchanged.{AreEnough}

-- the number of the last label that changed an item, where bindings are told apart; of a binding a mark of the variable
abbrev pub LastChange : (rules : List Rule) (p : Program) (q : Query) (journal : List Label) → Item → ℕ → Type 0
LastChange rules p q journal (Item.Binding x) number = IsMark rules p q journal x number
LastChange rules p q journal item number = IsLastChange by_binding rules p q journal item number

-- it is among the first labels, so many as are given
pub record IsSeen (rules : List Rule) (p : Program) (q : Query) (journal : List Label) (seen : ℕ) (item : Item) : Type 0 where
  pub number : ℕ
  pub last : LastChange rules p q journal item number
  pub early : number ≤ seen

-- in an inner box a plan may go by what the equations of the boxes inside the root box reach: the variables of one list are enough for them, and each is structured by the root
-- box's equations, or equal to one of another list, which has its ends. Then it reads its goal, the boxes down to its own, and the bindings of the ends, and of the variables
-- that it lists as bound, but for those of frames that it draws
pub record ReadsEnds (U : Item → Type 0) (c : Config) (g : Name) (f : Found) (list : List Var) : Type 0 where
  pub inner : List Var
  pub enough : AreEnough inner f
  pub ends : List Var
  pub ended : (x : Var) → IsAmong x inner → IsStructured (outermost_equations f) x ⊎ ((z : Var) × IsAmong z ends × Equal (outermost_equations f) (variable x) (variable z))
  pub oldest : HasEnds c ends
  pub old : (z : Var) → IsAmong z ends → IsOld c z.frame
  pub goal : U (Item.Goal g)
  pub stores : (m : Name) → IsIn m (names_down_to f) → U (Item.Store m)
  pub end_bindings : (z : Var) → IsAmong z ends → U (Item.Binding z)
  pub bindings : (x : Var) → IsAmong x list → IsOld c x.frame → U (Item.Binding x)

-- in a root box a plan reads its goal, the box, and the bindings of the variables that it lists as bound, but for those of frames that it draws; in an inner one it goes by ends, or
-- reads its goal and the sets of goals of the boxes down to it
pub data ReadsAt (U : Item → Type 0) (c : Config) (g : Name) (f : Found) (list : List Var) : Type 0 where
  in_root : f.around ≡ [] → U (Item.Goal g) → U (Item.Store f.content.name) → ((x : Var) → IsAmong x list → IsOld c x.frame → U (Item.Binding x)) → ReadsAt U c g f list
  by_ends : ReadsEnds U c g f list → ReadsAt U c g f list
  inside : U (Item.Goal g) → ((m : Name) → IsIn m (names_down_to f) → U (Item.Goals m)) → ReadsAt U c g f list

-- it goes by bindings, and not by sets of goals alone
abbrev pub ByBindings : (U : Item → Type 0) (c : Config) (g : Name) (f : Found) (list : List Var) → ReadsAt U c g f list → Type 0
ByBindings U c g f list (in_root root goal store bindings) = ⊤
ByBindings U c g f list (by_ends u) = ⊤
ByBindings U c g f list (inside goal sets) = ⊥

-- the rules at a goal
abbrev pub IsAtGoal : Rule → Type 0
IsAtGoal Rule.Fail = ⊥
IsAtGoal Rule.Split = ⊥
IsAtGoal r = ⊤

-- a label that was planned for a prefix of a journal leads on from the whole of it, with the same local change, clashes as it did and binds what the plan lists, where
-- what the plan reads was changed by no label behind the prefix, and its worker has made none
abbrev pub SeenPlanLaw : Type 0
SeenPlanLaw = (rules : List Rule) (p : Program) (q : Query) (journal further : List Label) (c d : Config) (l : Label) (e : Config) (a : Applies rules p c l e) → Replays rules p q journal c → Derives rules p c further d
    → NoneBy l further → (g : Name) → IsAtGoal l.rule → l.place ≡ Place.Goal g → (list : List Var) → AreBoundIn c e a.site list
    → ReadsAt (IsSeen rules p q (journal ++ further) (length journal)) c g a.site list → StaysRight a d list
