-- What keeps rules from a goal: of a choice, what tests of guards found of alternatives that aren't quiet, and of an arithmetic goal what it waits on.
use Rattle.std.specs.Prelude.{◌≡◌, ◌-◌, List, [], ◌∷◌, ◌++◌, length, ◌⊎◌, true, Option, Some, None}
use Rattle.std.specs.List.{AllByRecursion}
use Rattle.akl_terms.specs.declared.name.Name.{Name}
use Rattle.akl_terms.specs.declared.name.Var.{Var}
use Rattle.akl_terms.specs.declared.program.Code.{Code}
use Rattle.akl_terms.specs.declared.program.Program.{Program}
use Rattle.akl_terms.specs.declared.term.Node.{Node}
use Rattle.akl_terms.specs.Equal.{Equations, IsConsistent}
use Rattle.akl_model.specs.declared.label.Rule.{Rule}
use Rattle.akl_model.specs.Config.{Atom}
use Rattle.akl_model.specs.Instances.{atom_of}
use Rattle.akl_model.specs.Stable.{AtomWaitsOn}
use Rattle.local_store.specs.Stored.{Stored}
use Rattle.local_store.specs.Chained.{equations_of}
use Rattle.entail_test.specs.declared.noise.Quietness.{Quietness}
use Rattle.entail_test.specs.Asked.{whole_at, AreTouchedAt, Answers}
use Rattle.box_tree.specs.declared.entries.HeldOp.{HeldOp}
use Rattle.box_tree.specs.declared.view.Alternative.{Alternative}
use Rattle.box_tree.specs.declared.view.Sight.{Sight}
use Rattle.box_tree.specs.Views.{ViewValue}
use Rattle.box_tree.specs.Plans.{PlanValue}
use Rattle.guard_plan.specs.declared.guards.Noise.{Noise}
use Rattle.guard_plan.specs.Guards.{IsQuietInside, IsNoisyOver, AreAllSolved, cutting}
use Rattle.guard_plan.specs.Planned.{IsPlanOf, HasNoRule}

-- the answer for the innermost store
abbrev pub AnswersInside : List Node → List Stored → Quietness → Type 0
AnswersInside nodes ss = Answers nodes ss (length ss - 1)

-- all together is consistent
abbrev pub IsConsistentInside : List Node → List Stored → Type 0
IsConsistentInside nodes ss = IsConsistent (whole_at nodes ss (length ss - 1))

-- and these are one variable of each class that the innermost store touches
abbrev pub IsNoiseInside : List Node → List Stored → Noise → Type 0
IsNoiseInside nodes ss n = IsConsistentInside nodes ss × AreTouchedAt nodes ss (length ss - 1) n.on.items

-- what the innermost store touches comes to a list: nothing, where it is quiet or all together is inconsistent
abbrev pub AddsNoise : List Node → List Stored → List Noise → List Noise → Type 0
AddsNoise nodes ss old new = ((n : Noise) × IsNoiseInside nodes ss n × (new ≡ old ++ n ∷ [])) ⊎ ((IsConsistentInside nodes ss → IsQuietInside nodes ss) × (new ≡ old))

-- the same of the innermost store's guard, unless it asks for consistency alone
abbrev pub AddsGuardNoise : HeldOp → List Node → List Stored → List Noise → List Noise → Type 0
AddsGuardNoise HeldOp.Choice nodes ss old new = Unit {0}
AddsGuardNoise HeldOp.Condition nodes ss old new = AddsNoise nodes ss old new
AddsGuardNoise HeldOp.Commit nodes ss old new = AddsNoise nodes ss old new
AddsGuardNoise (HeldOp.Collect t) nodes ss old new = Unit {0}

-- one of a list
abbrev pub IsOne : (A : Type 0) → A → List A → Type 0
IsOne A a [] = ⊥
IsOne A a (b ∷ bs) = (a ≡ b) ⊎ IsOne A a bs

-- what solved alternatives touch under the stores of a path, of all of them that are neither quiet nor inconsistent with it
pub record HasNoise (nodes : List Node) (path : List Stored) (seen : List Alternative) (noise : List Noise) : Type 0 where
  pub each : (n : Noise) → IsOne Noise n noise → (a : Alternative) × IsOne Alternative a seen × (a.solved ≡ true) × IsNoiseInside nodes (path ++ a.store ∷ []) n
  pub every : (a : Alternative) → IsOne Alternative a seen → a.solved ≡ true → IsConsistentInside nodes (path ++ a.store ∷ [])
      → IsQuietInside nodes (path ++ a.store ∷ []) ⊎ ((n : Noise) × IsOne Noise n noise × IsNoiseInside nodes (path ++ a.store ∷ []) n)

-- none of them is both solved and quiet
abbrev pub AreNoisy : List Node → List Stored → List Alternative → List Noise → Type 0
AreNoisy nodes path seen noise = AllByRecursion (IsNoisyOver nodes path) seen × HasNoise nodes path seen noise

-- the alternatives whose guards are tested: one that stands alone, or those that may cut others off
abbrev pub tested : HeldOp → List Alternative → List Alternative
tested op (only ∷ []) = only ∷ []
tested op seen = cutting op seen

-- what an atom waits on, where all is consistent: nothing, or this one variable
abbrev pub ShowsAwaited : Program → Equations → Atom → List Noise → Type 0
ShowsAwaited p E a [] = IsConsistent E → (x : Var) → AtomWaitsOn p E a x → ⊥
ShowsAwaited p E a (n ∷ []) = IsConsistent E × ((x : Var) × (n.on.items ≡ x ∷ []) × AtomWaitsOn p E a x)
ShowsAwaited p E a (n ∷ m ∷ rest) = ⊥

-- the same of an arithmetic goal under the stores of a path. Nothing is said of other atoms
abbrev pub ShowsArithmetic : Program → List Stored → Name → Code → List Noise → Type 0
ShowsArithmetic p path frame (Code.Arith test l r) noise = ShowsAwaited p (equations_of p.templates.nodes path) (atom_of p.templates.nodes frame (Code.Arith test l r)) noise
ShowsArithmetic p path frame code noise = Unit {0}

-- what was found of what is seen at the place of a view: of an arithmetic goal what it waits on; of a choice by `->` or `|`, and of one
-- that collects where all its alternatives are solved, what the tests of guards found. Nothing is said of anything else
abbrev pub IsNoiseAt : ViewValue → Sight → List Noise → Type 0
IsNoiseAt v (Sight.Atom a) noise = ShowsArithmetic v.table.program v.stores a.frame a.code noise
IsNoiseAt v (Sight.Choice HeldOp.Condition) noise = HasNoise v.table.program.templates.nodes v.stores (tested HeldOp.Condition v.alternatives) noise
IsNoiseAt v (Sight.Choice HeldOp.Commit) noise = HasNoise v.table.program.templates.nodes v.stores (tested HeldOp.Commit v.alternatives) noise
IsNoiseAt v (Sight.Choice (HeldOp.Collect t)) noise = AreAllSolved v.alternatives → HasNoise v.table.program.templates.nodes v.stores v.alternatives noise
IsNoiseAt v sight noise = Unit {0}

-- a right plan of one label, of a rule other than Split, or none where no such rule applies, with what was found then
abbrev pub IsTriedBy : ViewValue → List Noise → Option PlanValue → Type 0
IsTriedBy v noise None = HasNoRule v × IsNoiseAt v v.sight noise
IsTriedBy v noise (Some p) = IsPlanOf v p × (p.label.rule ≡ Rule.Split → ⊥) × (p.more ≡ [])
