-- Nothing goes on in a root box, or inside it, while what it watches stays as it is.
use Rattle.std.specs.Prelude.{◌≡◌, ℕ, List, [], ◌++◌, Some}
use Rattle.akl_terms.specs.declared.name.Name.{Name}
use Rattle.akl_terms.specs.declared.name.Var.{Var}
use Rattle.akl_terms.specs.declared.program.Program.{Program}
use Rattle.akl_terms.specs.declared.program.Query.{Query}
use Rattle.akl_terms.specs.Equal.{Equations, IsConsistent}
use Rattle.akl_terms.specs.Touching.{IsLocal}
use Rattle.constraint_laws.specs.Growth.{TellsOver}
use Rattle.constraint_laws.specs.Bound.{IsNewlyBound}
use Rattle.akl_model.specs.declared.label.Label.{Label}
use Rattle.akl_model.specs.declared.label.Rule.{Rule}
use Rattle.akl_model.specs.Config.{Config, Found, whole, box_at, edited}
use Rattle.akl_model.specs.Rules.{Change}
use Rattle.akl_model.specs.Conditions.{Makes}
use Rattle.akl_model.specs.Stable.{EachBox, only, Allows}
use Rattle.akl_model.specs.Derivations.{IsInForce, Applies, Replays, IsQuietEnd}
use Rattle.akl_model.specs.Wakes.{IsAt}
use Rattle.why_laws.specs.Watched.{Watches}

-- a box with further equations
abbrev pub told_more : Equations → Found → Found
told_more E f = record f { content = record f.content { equations = f.content.equations ++ E } }

-- with these further equations in a box that was found
abbrev pub with_told : Equations → Found → Config → Config
with_told E f c = record c { roots = edited f.content.name (only (told_more E f)) c.roots }

-- no rule may be used at a box or at a goal directly in it
pub record IsIdle (p : Program) (d : Found) : Type 0 where
  pub none : (l : Label) (next : ℕ) (c : Change) → Makes (Allows p) p next l d c → ⊥

-- equations over variables of a root box's own frames, consistent with its own, that bind none of the variables that its goals watch, and make none
-- of them equal to another
pub record LeavesWatched (p : Program) (f : Found) (E : Equations) : Type 0 where
  pub over : TellsOver (IsLocal f.content.frames) E
  pub consistent : IsConsistent (whole f ++ E)
  pub unbound : (g : Name) (x : Var) → Watches p f g x → IsNewlyBound (whole f) (whole f ++ E) x → ⊥

-- at the quiet end of the replay of every journal, where all rules are in force, no label applies at a root box or inside it once such equations are told to it
abbrev pub StaysQuietLaw : Type 0
StaysQuietLaw = (rules : List Rule) → ((r : Rule) → IsInForce rules r) → (p : Program) (q : Query) (journal : List Label) (c : Config) → Replays rules p q journal c → IsQuietEnd rules p c
    → (n : Name) (f : Found) → box_at n c.roots ≡ Some f → f.around ≡ [] → (E : Equations) → LeavesWatched p f E
    → (l : Label) (d : Config) → Applies rules p (with_told E f c) l d → IsAt n (with_told E f c).roots l.place → ⊥

-- and no rule may be used at it or at any box inside it, whatever the next numbers
abbrev pub StaysIdleLaw : Type 0
StaysIdleLaw = (rules : List Rule) → ((r : Rule) → IsInForce rules r) → (p : Program) (q : Query) (journal : List Label) (c : Config) → Replays rules p q journal c → IsQuietEnd rules p c
    → (n : Name) (f : Found) → box_at n c.roots ≡ Some f → f.around ≡ [] → (E : Equations) → LeavesWatched p f E
    → EachBox (IsIdle p) [] (only (told_more E f))
