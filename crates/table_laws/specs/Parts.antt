-- A label that told one equation to its box, and is right still, tells it as a part.
use Rattle.std.specs.Prelude.{◌≡◌, List, [], ◌∷◌, Some, None, ⊤}
use Rattle.akl_terms.specs.declared.name.Name.{Name}
use Rattle.akl_terms.specs.declared.name.Place.{Place}
use Rattle.akl_terms.specs.declared.program.Program.{Program}
use Rattle.akl_terms.specs.Tree.{Tree}
use Rattle.akl_model.specs.declared.label.Rule.{Rule}
use Rattle.akl_model.specs.declared.label.Label.{Label}
use Rattle.akl_model.specs.Config.{Atom, Config, an_atom, held_in, without_goal}
use Rattle.akl_model.specs.Derivations.{Applies}
use Rattle.akl_model.specs.Rules.{becomes, telling}
use Rattle.plan_laws.specs.Local.{Told, Becomes, NewGoals, reduces}
use Rattle.plan_laws.specs.Right.{IsRightOn}
use Rattle.table_laws.specs.Joins.{TellsPart}

abbrev pub tells_one : Tree → Tree → Told
tells_one s t = record { equations = record { left = s; right = t } ∷ []; frames = []; ports = []; tail = None }

-- the rules by which an atom tells its box one equation, or nothing
abbrev pub TellsOne : Rule → Type 0
TellsOne Rule.Tell = ⊤
TellsOne Rule.Eval = ⊤
TellsOne r = ⊥

-- where its local change reduces the goal by telling something, as that of a plan that stays right does (`ReducesStill` of `reading_laws`), this is the same equation
abbrev pub PartStillLaw : Type 0
PartStillLaw = (rules : List Rule) (p : Program) (c d : Config) (l : Label) (e : Config) (a : Applies rules p c l e) (r : IsRightOn a d) (g : Name) → TellsOne l.rule → l.place ≡ Place.Goal g
    → (goal : Atom) → held_in g r.applies.site.goals ≡ Some (an_atom goal) → (told : Told) (h : Name) (b : Becomes) (n : NewGoals) → r.change ≡ reduces told h b n
    → (s t : Tree) → a.change ≡ becomes (telling s t a.site.content) (without_goal g a.site.goals) 0
    → (k : IsRightOn a d) × (k.applies.site ≡ r.applies.site) × TellsPart a d k g (tells_one s t)
