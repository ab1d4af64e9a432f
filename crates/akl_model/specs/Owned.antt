-- Which frames the terms of a box may use: its own, and its equations also those of the box directly around it.
use Rattle.std.specs.Prelude.{◌≡◌, List, ◌++◌, ⊤}
use Rattle.akl_terms.specs.declared.program.Program.{Program}
use Rattle.akl_terms.specs.declared.program.Query.{Query}
use Rattle.akl_model.specs.declared.label.Rule.{Rule}
use Rattle.akl_model.specs.declared.label.Label.{Label}
use Rattle.akl_model.specs.Config.{Content, Boxes, no_boxes, box, Goals, no_goals, atom, choice, Config, Found}
use Rattle.akl_model.specs.Renaming.{port_names}
use Rattle.akl_terms.specs.Equal.{Equations}
use Rattle.akl_terms.specs.Touching.{IsLocal}
use Rattle.constraint_laws.specs.Growth.{TellsOver}
use Rattle.akl_model.specs.Derivations.{Applies, Replays}
use Rattle.akl_model.specs.Scopes.{Scope, nowhere, scope_in, TermScopedIf, OperatorScoped, EquationsScoped, AtomScoped, AtomsScoped, TailsScoped, ShownScoped}

-- the frames of a box alone, and the ports of it and of the boxes around it
abbrev pub own_in : Scope → Content → Scope
own_in s b = record { frames = b.frames; ports = port_names b.ports ++ s.ports }

-- the terms of a box that stands directly in one with the frames of s: its equations alone may use these too, since they equate the arguments of a call with those of a head
pub record ContentOwned (s : Scope) (b : Content) : Type 0 where
  pub equations : EquationsScoped (scope_in s b) b.equations
  pub tails : TailsScoped (own_in s b) b.ports
  pub body : AtomsScoped (own_in s b) b.body
  pub shown : ShownScoped (own_in s b) b.shown
  pub collected : TermScopedIf (own_in s b) b.collected

-- so for each box, and goals use the frames of their box alone
abbrev mutual
  pub BoxesOwned : Scope → Boxes → Type 0
  BoxesOwned s no_boxes = ⊤
  BoxesOwned s (box b gs bs) = ContentOwned s b × GoalsOwned (own_in s b) gs × BoxesOwned s bs

  pub GoalsOwned : Scope → Goals → Type 0
  GoalsOwned s no_goals = ⊤
  GoalsOwned s (atom g a gs) = AtomScoped s a × GoalsOwned s gs
  GoalsOwned s (choice g o bs gs) = BoxesOwned s bs × GoalsOwned s gs × OperatorScoped s o

-- so it is in the replay of every journal
abbrev pub OwnedLaw : Type 0
OwnedLaw = (rules : List Rule) (p : Program) (q : Query) (journal : List Label) (c : Config) → Replays rules p q journal c → BoxesOwned nowhere c.roots

-- the box f gains equations that are over the frames that it then has, and loses none
pub record AddsOwn (f : Found) (b : Content) : Type 0 where
  pub added : Equations
  pub equations : b.equations ≡ f.content.equations ++ added
  pub over : TellsOver (IsLocal b.frames) added

-- so it is with each label, where the box of its place stays
abbrev pub AddsOwnLaw : Type 0
AddsOwnLaw = (rules : List Rule) (p : Program) (q : Query) (journal : List Label) (c : Config) (l : Label) (d : Config) → Replays rules p q journal c → (a : Applies rules p c l d)
    → (b : Content) (gs : Goals) (rest : Boxes) → a.change.boxes ≡ box b gs rest → AddsOwn a.site b
