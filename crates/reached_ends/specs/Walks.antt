-- What a walk over variables comes to.
use Rattle.std.specs.Prelude.{◌≡◌, ℕ, ◌+◌, List, [], ◌∷◌, length, Some, None, ◌⊎◌}
use Rattle.akl_terms.specs.declared.name.Var.{Var}
use Rattle.akl_terms.specs.declared.term.Node.{Node}
use Rattle.akl_terms.specs.declared.term.Term.{Term}
use Rattle.akl_terms.specs.Template.{tree}
use Rattle.constraint_laws.specs.Touched.{IsAmong}
use Rattle.rational_unify.specs.Known.{found_in}
use Rattle.reached_ends.specs.declared.walk.Walk.{Walk}
use Rattle.reached_ends.specs.Leading.{StandsIn, LeadsTo}

-- a variable stands in one of these terms
abbrev pub Waits : List Node → List Term → Var → Type 0
Waits nodes [] x = ⊥
Waits nodes (t ∷ ts) x = StandsIn x (tree nodes t) ⊎ Waits nodes ts x

-- the variables that were reached, the ends among them, and the terms that wait
pub record State : Type 0 where
  pub reached : List Var
  pub ends : List Var
  pub waiting : List Term

abbrev pub state_of : Walk → State
state_of w = record { reached = w.reached.items; ends = w.ends.items; waiting = w.waiting.items }

abbrev pub waiting_too : Term → State → State
waiting_too t a = record a { waiting = t ∷ a.waiting }

-- what falls with each term that is taken
abbrev pub weight : Walk → ℕ
weight w = w.left + w.left + length w.waiting.items

-- a variable was reached, or stands in a term that waits
abbrev pub Comes : List Node → State → Var → Type 0
Comes nodes a x = IsAmong x a.reached ⊎ Waits nodes a.waiting x

-- a walk goes from a to b: what was reached or waited is reached or waits; of each variable that is reached anew the variables of what a store binds it to are reached or wait, or it is an end
pub record Goes (nodes : List Node) (root : List (Var × Term)) (a b : State) : Type 0 where
  pub comes : (x : Var) → Comes nodes a x → Comes nodes b x
  pub reached : (x : Var) → IsAmong x a.reached → IsAmong x b.reached
  pub kept : (x : Var) → IsAmong x a.ends → IsAmong x b.ends
  pub bound : (x : Var) → IsAmong x b.reached → IsAmong x a.reached ⊎ ((t : Term) → found_in root x ≡ Some t → (y : Var) → StandsIn y (tree nodes t) → Comes nodes b y)
  pub unbound : (x : Var) → IsAmong x b.reached → IsAmong x a.reached ⊎ (found_in root x ≡ None → IsAmong x b.ends)
  pub ends : (z : Var) → IsAmong z b.ends → IsAmong z a.ends ⊎ (IsAmong z b.reached × (found_in root z ≡ None))

-- each variable that comes in b is led to by one that comes in a, or by one of these
abbrev pub ComesFrom : List Node → List (Var × Term) → (Var → Type 0) → State → State → Type 0
ComesFrom nodes root Others a b = (y : Var) → Comes nodes b y → (x : Var) × (Comes nodes a x ⊎ Others x) × LeadsTo nodes root x y
