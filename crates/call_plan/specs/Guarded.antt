-- What comes of the guard of a clause's alternative.
use Rattle.std.specs.Prelude.{◌≡◌, ℕ, List, ◌++◌, true, false, ⊤}
use Rattle.akl_terms.specs.declared.name.Name.{Name}
use Rattle.akl_terms.specs.declared.term.Node.{Node}
use Rattle.akl_terms.specs.declared.program.Code.{Code}
use Rattle.akl_model.specs.declared.label.Label.{Label}
use Rattle.local_store.specs.Stored.{Stored}
use Rattle.call_plan.specs.declared.guards.Guard.{Guard}
use Rattle.call_plan.specs.Sifted.{Evaluated}

abbrev pub ComesOut : List (List ℕ) → List Node → List Stored → Name → ℕ → List Code → List Label → Guard → Type 0
ComesOut symbols nodes ss frame n codes ls Guard.Holds = Evaluated symbols nodes ss frame n codes ls true
ComesOut symbols nodes ss frame n codes ls Guard.Fails = Evaluated symbols nodes ss frame n codes ls false
ComesOut symbols nodes ss frame n codes ls Guard.Open = ⊤

-- its goals, named from a number on, hold, or one of them doesn't, by labels that come to others; or that isn't known
pub record IsGuarded (symbols : List (List ℕ)) (nodes : List Node) (ss : List Stored) (frame : Name) (n : ℕ) (codes : List Code) (old new : List Label) (guard : Guard) : Type 0 where
  pub evaluations : List Label
  pub labels : new ≡ old ++ evaluations
  pub comes : ComesOut symbols nodes ss frame n codes evaluations guard
