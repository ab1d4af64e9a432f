-- Which alternative of a call is promoted, if its guard holds.
use Rattle.std.specs.Prelude.{◌≡◌, ℕ, ◌+◌, Bool, List, length, Some, None, true}
use Rattle.akl_terms.specs.declared.program.Clause.{Clause}
use Rattle.akl_terms.specs.declared.program.Op.{Op}
use Rattle.akl_terms.specs.declared.term.Node.{Node}
use Rattle.akl_model.specs.declared.label.Label.{Label}
use Rattle.local_store.specs.Stored.{Stored}
use Rattle.call_plan.specs.declared.heads.Arguments.{Arguments}
use Rattle.call_plan.specs.declared.sifting.Left.{Left}
use Rattle.call_plan.specs.Sifted.{IsSifted}

-- the alternatives behind one whose guard holds are cut where it is promoted, or, with `?`, all of them fail, by labels that come to others
abbrev pub OthersGo : List (List ℕ) → List Node → List Stored → Arguments → Op → Left → List Label → Bool → List Label → Bool → Type 0
OthersGo symbols nodes path a Op.Condition l old was new plainly = (new ≡ old) × (plainly ≡ was)
OthersGo symbols nodes path a Op.Commit l old was new plainly = (new ≡ old) × (plainly ≡ was)
OthersGo symbols nodes path a Op.Choice l old was new plainly = IsSifted symbols nodes path a l.name.worker (l.name.number + (2 + length l.clause.now.guard)) l.behind.now old was new plainly None
OthersGo symbols nodes path a Op.Collect l old was new plainly = ⊥

-- the goals in the guard of the first one that doesn't fail hold, and the others go
pub record IsChosen (symbols : List (List ℕ)) (nodes : List Node) (path : List Stored) (a : Arguments) (w : ℕ) (n : ℕ) (op : Op) (cs : List Clause) (old : List Label) (was : Bool) (new : List Label) (plainly : Bool) (l : Left) : Type 0 where
  pub middle : List Label
  pub until : Bool
  pub sifts : IsSifted symbols nodes path a w n cs old was middle until (Some l)
  pub holds : l.holds ≡ true
  pub others : OthersGo symbols nodes path a op l middle until new plainly
