-- What is reached from outside of a box and of all boxes inside it: touched by equations, or equal to a variable that a goal waits on.
use Rattle.std.specs.Prelude.{◌≡◌, ℕ, ◌≤◌, List, [], ◌∷◌, ◌++◌, length, drop, ◌⊎◌, ⊤, Option, Some, None}
use Rattle.std.specs.Global.{Vec}
use Rattle.akl_terms.specs.declared.name.Name.{Name}
use Rattle.akl_terms.specs.declared.name.Var.{Var}
use Rattle.akl_terms.specs.declared.term.Node.{Node}
use Rattle.akl_terms.specs.declared.program.Program.{Program}
use Rattle.akl_terms.specs.Tree.{Tree, variable}
use Rattle.akl_terms.specs.Equal.{Equations, Equal, IsConsistent, IsStructured}
use Rattle.akl_terms.specs.Touching.{IsUnbound, Touches}
use Rattle.akl_model.specs.Stable.{AtomWaitsOn}
use Rattle.constraint_laws.specs.Touched.{IsAmong}
use Rattle.rational_unify.specs.Solving.{bindings_in}
use Rattle.local_store.specs.Stored.{Stored}
use Rattle.local_store.specs.Chained.{bindings_from, IsKnown}
use Rattle.entail_test.specs.Asked.{frames_from, environment_at, whole_at, KeepsApartAt, AreTouchedAt}
use Rattle.box_tree.specs.declared.view.Sight.{Sight}
use Rattle.box_tree.specs.Tables.{goal_atom}
use Rattle.box_tree.specs.Views.{ViewValue}

-- a variable from outside is touched, or equal to another one on which a goal waits
abbrev pub IsReached : List Name → Equations → Equations → Var → Var → Type 0
IsReached inner environment whole on x = Touches inner environment whole x ⊎ (IsUnbound inner environment x × Equal whole (variable x) (variable on))

-- a place reaches a variable: a box where it is touched; an atom that waits where it is touched, or equal to what the atom waits on; and a choice reaches none
abbrev pub Reaches : Program → List Name → Equations → Equations → Sight → Var → Type 0
Reaches p inner environment whole (Sight.Choice op) x = ⊥
Reaches p inner environment whole (Sight.Box failing) x = Touches inner environment whole x
Reaches p inner environment whole (Sight.Atom a) x = (on : Var) × AtomWaitsOn p whole (goal_atom p.templates.nodes a) on × IsReached inner environment whole on x

-- all is consistent at a box and at an atom; of a choice nothing is asked
abbrev pub IsConsistentAt : Equations → Sight → Type 0
IsConsistentAt whole (Sight.Choice op) = ⊤
IsConsistentAt whole (Sight.Box failing) = IsConsistent whole
IsConsistentAt whole (Sight.Atom a) = IsConsistent whole

-- and no variable is reached
abbrev pub ReachesNone : Program → List Name → Equations → Equations → Sight → Type 0
ReachesNone p inner environment whole sight = IsConsistentAt whole sight × ((x : Var) → Reaches p inner environment whole sight x → ⊥)

-- variables of which each is reached, and to one of which each that is reached is equal by the environment
pub record AreReached (p : Program) (inner : List Name) (environment whole : Equations) (sight : Sight) (on : List Var) : Type 0 where
  pub each : (x : Var) → IsAmong x on → Reaches p inner environment whole sight x
  pub every : (x : Var) → Reaches p inner environment whole sight x → (y : Var) × IsAmong y on × Equal environment (variable x) (variable y)

-- the same by the stores down to a view's place, with a further one that has the frames of all boxes inside
abbrev pub IsConsistentDown : Program → ViewValue → Type 0
IsConsistentDown p v = IsConsistentAt (bindings_in p.templates.nodes (bindings_from v.stores)) v.sight

abbrev pub ReachesNoneAt : Program → ℕ → Stored → ViewValue → Type 0
ReachesNoneAt p depth frames v = ReachesNone p (frames_from (drop depth (v.stores ++ frames ∷ []))) (environment_at p.templates.nodes (v.stores ++ frames ∷ []) depth)
    (bindings_in p.templates.nodes (bindings_from v.stores)) v.sight

abbrev pub AreReachedAt : Program → ℕ → Stored → ViewValue → List Var → Type 0
AreReachedAt p depth frames v on = AreReached p (frames_from (drop depth (v.stores ++ frames ∷ []))) (environment_at p.templates.nodes (v.stores ++ frames ∷ []) depth)
    (bindings_in p.templates.nodes (bindings_from v.stores)) v.sight on

-- what the stores from a depth on touch; nothing, where all together is inconsistent
abbrev pub IsToldAt : List Node → List Stored → ℕ → Option (Vec Var) → Type 0
IsToldAt nodes ss depth None = IsConsistent (whole_at nodes ss depth) → ⊥
IsToldAt nodes ss depth (Some on) = IsConsistent (whole_at nodes ss depth) × (KeepsApartAt nodes ss depth → AreTouchedAt nodes ss depth on.items)

-- what is known of a view: its place is in a box with so many boxes around it, or inside it, and a store has the frames of all boxes there
pub record IsTestable (p : Program) (depth : ℕ) (frames : Stored) (v : ViewValue) : Type 0 where
  pub program : p ≡ v.table.program
  pub deep : depth ≤ length v.stores
  pub known : IsKnown p.templates.nodes v.stores v.known
  pub unbound : frames.bindings ≡ []
  pub apart : IsConsistent (environment_at p.templates.nodes (v.stores ++ frames ∷ []) depth) → KeepsApartAt p.templates.nodes (v.stores ++ frames ∷ []) depth

-- a term is equal to a variable that isn't structured, or to none
abbrev pub IsFree : Equations → Tree → Var → Type 0
IsFree E t x = Equal E t (variable x) × (IsStructured E x → ⊥)

pub record IsHeaded (E : Equations) (t : Tree) : Type 0 where
  pub none : (x : Var) → IsFree E t x → ⊥
