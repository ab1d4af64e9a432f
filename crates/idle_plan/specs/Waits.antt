-- What a place waits on, by the stores down to it: members of classes of variables, enough of them, by what makes each of these needed.
use Rattle.std.specs.Prelude.{◌≡◌, ℕ, ◌+◌, ◌≤◌, ◌<◌, List, [], ◌∷◌, ◌++◌, take, true, ◌⊎◌}
use Rattle.akl_terms.specs.declared.name.Var.{Var}
use Rattle.akl_terms.specs.declared.term.Node.{Node}
use Rattle.akl_terms.specs.declared.program.Goal.{Goal}
use Rattle.akl_terms.specs.declared.program.Program.{Program}
use Rattle.akl_terms.specs.Tree.{variable}
use Rattle.akl_terms.specs.Equal.{Equal, IsConsistent}
use Rattle.akl_model.specs.Config.{Found}
use Rattle.akl_model.specs.Stable.{AtomWaitsOn}
use Rattle.constraint_laws.specs.Oldest.{HasOldest}
use Rattle.constraint_laws.specs.Touched.{IsAmong}
use Rattle.local_store.specs.Stored.{Stored}
use Rattle.box_tree.specs.declared.entries.HeldOp.{HeldOp}
use Rattle.box_tree.specs.declared.view.Alternative.{Alternative}
use Rattle.box_tree.specs.declared.view.Sight.{Sight}
use Rattle.box_tree.specs.Tables.{goal_atom}
use Rattle.box_tree.specs.Views.{ViewValue}
use Rattle.stable_test.specs.Inner.{AreTouchedInside}
use Rattle.local_store.specs.Chained.{equations_of}
use Rattle.class_members.specs.Members.{outermost_of, IsMember, AreMembers}
use Rattle.guard_plan.specs.declared.guards.Noise.{Noise}
use Rattle.guard_plan.specs.Guards.{AreAllSolved}
use Rattle.guard_plan.specs.Noisy.{IsOne}
use Rattle.idle_plan.specs.Told.{ListsTold, AreGathered}

-- what the boxes from the second one inwards touch, up to this many, each in the stores down to it
abbrev pub AreToldAround : List Node → List Stored → ℕ → List Var → Type 0
AreToldAround nodes ss count = AreGathered ℕ (λ (d : ℕ). (1 ≤ d) × (d < count)) (λ (d : ℕ). IsConsistent (equations_of nodes (take (d + 1) ss))) (λ (d : ℕ). ListsTold nodes (take (d + 1) ss))

-- what solved alternatives touch, each in the stores down to it
abbrev pub AreToldBy : List Node → List Stored → List Alternative → List Var → Type 0
AreToldBy nodes ss alternatives = AreGathered Alternative (λ (a : Alternative). IsOne Alternative a alternatives × (a.solved ≡ true)) (λ (a : Alternative). IsConsistent (equations_of nodes (ss ++ a.store ∷ [])))
    (λ (a : Alternative). ListsTold nodes (ss ++ a.store ∷ []))

-- one alternative's part of this comes to a list: nothing, unless it is solved and all down to it is consistent
abbrev pub AddsTold : List Node → List Stored → Alternative → List Var → List Var → Type 0
AddsTold nodes ss a old new = ((own : List Var) × (a.solved ≡ true) × ListsTold nodes (ss ++ a.store ∷ []) own × (new ≡ old ++ own))
    ⊎ ((a.solved ≡ true → IsConsistent (equations_of nodes (ss ++ a.store ∷ [])) → ⊥) × (new ≡ old))

-- members of the classes that alternatives touch, in the stores around them, enough for each
abbrev pub AreMembersOfAll : List Node → List Stored → List Noise → List Var → Type 0
AreMembersOfAll nodes ss noise list = AreGathered Noise (λ (n : Noise). IsOne Noise n noise) (λ (n : Noise). Unit {0}) (λ (n : Noise). AreMembers nodes ss n.on.items) list

-- what a choice that collects waits on: what its alternatives touch once all of them are solved, and nothing before
abbrev pub AreCollectWaits : List Node → List Stored → List Alternative → List Var → Type 0
AreCollectWaits nodes ss alternatives list = (AreAllSolved alternatives × AreToldBy nodes ss alternatives list) ⊎ ((AreAllSolved alternatives → ⊥) × (list ≡ []))

-- the class on which an atom waits
pub record AreAwaited (p : Program) (ss : List Stored) (atom : Goal) (list : List Var) : Type 0 where
  pub consistent : (y : Var) → IsAmong y list → IsConsistent (equations_of p.templates.nodes ss)
  pub each : (y : Var) → IsAmong y list → (x : Var) × AtomWaitsOn p (equations_of p.templates.nodes ss) (goal_atom p.templates.nodes atom) x × IsMember (equations_of p.templates.nodes ss) (x ∷ []) y
  pub every : IsConsistent (equations_of p.templates.nodes ss) → (x z : Var) → AtomWaitsOn p (equations_of p.templates.nodes ss) (goal_atom p.templates.nodes atom) x
      → Equal (equations_of p.templates.nodes ss) (variable x) (variable z) → (y : Var) × IsAmong y list × Equal (outermost_of p.templates.nodes ss) (variable y) (variable z)
  pub oldest : HasOldest (outermost_of p.templates.nodes ss) list

-- what a goal waits on by what stands there: nothing at a `?` choice, nor where a box is seen
abbrev pub AreOwnWaits : Program → ViewValue → Sight → List Var → Type 0
AreOwnWaits p v (Sight.Atom atom) list = AreAwaited p v.stores atom list
AreOwnWaits p v (Sight.Choice HeldOp.Choice) list = list ≡ []
AreOwnWaits p v (Sight.Choice HeldOp.Condition) list = AreToldBy p.templates.nodes v.stores v.alternatives list
AreOwnWaits p v (Sight.Choice HeldOp.Commit) list = AreToldBy p.templates.nodes v.stores v.alternatives list
AreOwnWaits p v (Sight.Choice (HeldOp.Collect result)) list = AreCollectWaits p.templates.nodes v.stores v.alternatives list
AreOwnWaits p v (Sight.Box failing) list = list ≡ []

-- the classes that the box, or a box inside it, touches, in the stores around it
pub record AreReachedInside (p : Program) (f : Found) (depth : ℕ) (ss : List Stored) (list : List Var) : Type 0 where
  pub reached : List Var
  pub touched : AreTouchedInside p f reached
  pub members : AreMembers p.templates.nodes (take depth ss) reached list
