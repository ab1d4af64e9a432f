-- Items that no label of a derivation changes, and lists of variables that are closed under the equations of the boxes inside a root box.
use Rattle.std.specs.Prelude.{List, [], ◌∷◌, ◌++◌, ⊤}
use Rattle.akl_terms.specs.declared.name.Name.{Name}
use Rattle.akl_terms.specs.declared.name.Var.{Var}
use Rattle.akl_terms.specs.declared.program.Program.{Program}
use Rattle.akl_terms.specs.Equal.{Equations, IsTold}
use Rattle.akl_terms.specs.Standing.{StandFor}
use Rattle.constraint_laws.specs.Growth.{TellsOver}
use Rattle.constraint_laws.specs.Touched.{IsAmong}
use Rattle.akl_model.specs.declared.item.Item.{Item}
use Rattle.akl_model.specs.declared.label.Rule.{Rule}
use Rattle.akl_model.specs.declared.label.Label.{Label}
use Rattle.akl_model.specs.Config.{Content, Config, Found}
use Rattle.akl_model.specs.Changes.{by_binding, Changes}
use Rattle.akl_model.specs.Derivations.{Derives}
use Rattle.reading_laws.specs.Closed.{AreClosed}

-- no label of the derivation changes the item, in the fine detail
abbrev pub Unchanged : (rules : List Rule) (p : Program) (c : Config) (ls : List Label) (d : Config) → Derives rules p c ls d → Item → Type 0
Unchanged rules p c [] d w item = ⊤
Unchanged rules p c (l ∷ ls) d w item = (Changes by_binding c w.0 item → ⊥) × Unchanged rules p w.0 ls d w.2 item

-- the boxes down to one, the outermost first
abbrev pub path_to : Found → List Content
path_to f = f.around ++ f.content ∷ []

abbrev pub without_first : List Content → List Content
without_first [] = []
without_first (b ∷ bs) = bs

abbrev pub frames_along : List Content → List Name
frames_along [] = []
frames_along (b ∷ bs) = b.frames ++ frames_along bs

-- equations in order, each of which stands for the own ones of a box of a path where those before them stand for the ones around it. A box's own bindings do so for its equations
abbrev pub StandAlong : Equations → Equations → List Content → List Equations → Type 0
StandAlong E S [] [] = ⊤
StandAlong E S (b ∷ bs) (D ∷ Ds) = StandFor (IsTold (S ++ D)) (IsTold (E ++ b.equations)) × StandAlong (E ++ b.equations) (S ++ D) bs Ds
StandAlong E S bs Ds = ⊥

-- variables are closed down to each of them
abbrev pub ClosedAlong : (Var → Type 0) → Equations → List Equations → Type 0
ClosedAlong R S [] = ⊤
ClosedAlong R S (D ∷ Ds) = AreClosed R (S ++ D) × ClosedAlong R (S ++ D) Ds

abbrev pub AllOver : (Var → Type 0) → List Equations → Type 0
AllOver R [] = ⊤
AllOver R (D ∷ Ds) = TellsOver R D × AllOver R Ds

-- the variables of a list are enough for a box: all that stand in what stands for the equations of the box and of those around it other than the root box, and down to each box they are closed
pub record AreEnough (reads : List Var) (f : Found) : Type 0 where
  pub root : Equations
  pub own : List Equations
  pub stands : StandAlong [] [] (path_to f) (root ∷ own)
  pub all : AllOver (λ x. IsAmong x reads) own
  pub closed : ClosedAlong (λ x. IsAmong x reads) [] (root ∷ own)
