-- What a walk over the bindings of a chain of stores gathers, and what is enough for a plan that reads by ends.
use Rattle.std.specs.Prelude.{◌≡◌, ℕ, ◌≤◌, List, ◌∷◌, Some, None, map, length, take, ◌⊎◌}
use Rattle.akl_terms.specs.declared.name.Var.{Var}
use Rattle.akl_terms.specs.declared.name.Place.{Place}
use Rattle.akl_terms.specs.declared.term.Node.{Node}
use Rattle.akl_terms.specs.declared.term.Term.{Term}
use Rattle.akl_terms.specs.Tree.{variable}
use Rattle.akl_terms.specs.Equal.{Equations, Equal, IsStructured}
use Rattle.akl_terms.specs.Template.{tree}
use Rattle.constraint_laws.specs.Growth.{IsOver}
use Rattle.constraint_laws.specs.Touched.{IsAmong}
use Rattle.akl_model.specs.declared.label.Rule.{Rule}
use Rattle.akl_model.specs.Config.{Config, Found, site_of}
use Rattle.akl_model.specs.Wakes.{names_down_to}
use Rattle.rational_unify.specs.Known.{found_in}
use Rattle.rational_unify.specs.Solving.{bindings_in}
use Rattle.local_store.specs.Stored.{Stored}
use Rattle.local_store.specs.Chained.{IsSolvedChain}
use Rattle.step_laws.specs.Bound.{outermost_equations}
use Rattle.step_laws.specs.Likeness.{IsOld}
use Rattle.plan_laws.specs.Waits.{IsScopedAt}
use Rattle.reading_laws.specs.Ends.{HasEnds}
use Rattle.reading_laws.specs.Unchanged.{AllOver, AreEnough}
use Rattle.table_laws.specs.Rows.{Table, stores_along}
use Rattle.table_laws.specs.Stamped.{Run, IsTableOf}

-- variables that are bound are bound to terms over these variables
pub record LeadOver (nodes : List Node) (R : Var → Type 0) (bs : List (Var × Term)) : Type 0 where
  pub each : (x : Var) (t : Term) → R x → found_in bs x ≡ Some t → IsOver R (tree nodes t)

-- what the bindings of a store tell
abbrev pub own_told : List Node → Stored → Equations
own_told nodes s = bindings_in nodes s.bindings

-- the walk has all variables that stand in the inner stores, and those that the root's store leads to from them; its ends are those that this one doesn't bind
pub record Gathers (nodes : List Node) (root : Stored) (inner : List Stored) (reads ends : List Var) : Type 0 where
  pub solved : (k : ℕ) → k ≤ length inner → IsSolvedChain nodes (root ∷ take k inner)
  pub all : AllOver (λ x. IsAmong x reads) (map (own_told nodes) inner)
  pub leads : LeadOver nodes (λ x. IsAmong x reads) root.bindings
  pub every : (x : Var) → IsAmong x reads → found_in root.bindings x ≡ None → IsAmong x ends
  pub only : (x : Var) → IsAmong x ends → found_in root.bindings x ≡ None

-- what `ReadsEnds` asks of variables and ends
pub record EndsAt (c : Config) (f : Found) (reads ends : List Var) : Type 0 where
  pub enough : AreEnough reads f
  pub ended : (x : Var) → IsAmong x reads → IsStructured (outermost_equations f) x ⊎ ((z : Var) × IsAmong z ends × Equal (outermost_equations f) (variable x) (variable z))
  pub oldest : HasEnds c ends
  pub old : (z : Var) → IsAmong z ends → IsOld c z.frame

-- it holds of those of a walk over the stores down to the box of a place, where the ends are in scope there
abbrev pub EndsLaw : Type 0
EndsLaw = (rules : List Rule) (run : Run) (T : Table) (t : IsTableOf rules run T) (place : Place) (f : Found) → site_of place t.config.roots ≡ Some f
    → (root : Stored) (inner : List Stored) → stores_along T (names_down_to f) ≡ root ∷ inner → (reads ends : List Var) → Gathers run.program.templates.nodes root inner reads ends
    → ((x : Var) → IsAmong x ends → IsScopedAt t.config place x) → EndsAt t.config f reads ends
