-- What a place reaches is what stands there touches.
use Rattle.std.proofs.Common.{◌≡◌, List, [], Some, sym, ◌∙◌, subst, inl, inr}
use Rattle.akl_terms.specs.declared.name.Name.{Name}
use Rattle.akl_terms.specs.declared.name.Var.{Var}
use Rattle.akl_terms.specs.declared.name.Place.{Place}
use Rattle.akl_terms.specs.declared.program.Program.{Program}
use Rattle.akl_terms.specs.Equal.{Equations, IsConsistent}
use Rattle.akl_model.specs.Config.{Atom, an_atom, a_choice, held_in, Found, whole}
use Rattle.akl_model.specs.Stable.{AtomWaitsOn, IsAwaited, TouchesFrom, by_equations, by_waiting}
use Rattle.box_tree.specs.declared.view.Sight.{Sight}
use Rattle.box_tree.specs.Tables.{goal_atom, op_held}
use Rattle.box_tree.specs.Views.{Shows}
use Rattle.stable_test.specs.Reaching.{Reaches, IsConsistentAt, AreReached}
use Rattle.stable_test.specs.Inner.{TouchesAt, AreTouchedByPlace}
use Rattle.stable_test.proofs.Reaches.{reaches_consistent}

one_atom : (a b : Atom) → Some (an_atom a) ≡ Some (an_atom b) → a ≡ b
one_atom a b e = cc

module _ (p : Program) (inner : List Name) (outer : Equations) (d : Found) where
  touches_reached : (place : Place) (sight : Sight) → Shows p.templates.nodes place d sight → (x : Var) → Reaches p inner outer (whole d) sight x → TouchesFrom p inner outer d x
  touches_reached place (Sight.Choice op) k x r = absurd r
  touches_reached place (Sight.Box failing) k x r = by_equations r
  touches_reached (Place.Box m) (Sight.Atom a) k x r = absurd k
  touches_reached (Place.Goal g) (Sight.Atom a) k x r = elim r.2 [
    | inl t ↦ by_equations t
    | inr t ↦ by_waiting t.0 (record { goal = g; atom = goal_atom p.templates.nodes a; is_goal = k; on = r.0; waits = r.1; equal = t.1 })
  ]

  -- a goal that waits is an atom
  waits_there : (g : Name) (x : Var) (w : IsAwaited p d x) → w.goal ≡ g → held_in g d.goals ≡ Some (an_atom w.atom)
  waits_there g x w q = subst (λ (n : Name). held_in n d.goals ≡ Some (an_atom w.atom)) q w.is_goal

  touched_reaches : (place : Place) (sight : Sight) → Shows p.templates.nodes place d sight → (x : Var) → TouchesAt p inner outer d place x → Reaches p inner outer (whole d) sight x
  touched_reaches (Place.Box m) (Sight.Box failing) k x t = t
  touched_reaches (Place.Box m) (Sight.Choice op) k x t = absurd k
  touched_reaches (Place.Box m) (Sight.Atom a) k x t = absurd k
  touched_reaches (Place.Goal g) (Sight.Box failing) k x t = absurd k
  touched_reaches (Place.Goal g) (Sight.Choice op) k x t = let z : Some (a_choice (op_held p.templates.nodes op) k.0) ≡ Some (an_atom t.1.0.atom) = sym k.1 ∙ waits_there g x t.1.0 t.1.1 in cc
  touched_reaches (Place.Goal g) (Sight.Atom a) k x t = (
    t.1.0.on,
    subst (λ (b : Atom). AtomWaitsOn p (whole d) b t.1.0.on) (one_atom t.1.0.atom (goal_atom p.templates.nodes a) (sym (waits_there g x t.1.0 t.1.1) ∙ k)) t.1.0.waits,
    inr (t.0, t.1.0.equal),
  )

  -- a list of what is reached, where all is consistent
  pub touched_listed : (place : Place) (sight : Sight) → Shows p.templates.nodes place d sight → (list : List Var) → IsConsistentAt (whole d) sight → AreReached p inner outer (whole d) sight list → AreTouchedByPlace p inner outer d place list
  touched_listed place sight k list c r = record {
    consistent = λ x m. reaches_consistent p inner outer (whole d) (whole d) sight x (r.each x m) c;
    each = λ x m. touches_reached place sight k x (r.each x m);
    every = λ i x t. r.every x (touched_reaches place sight k x t);
  }

  consistent_there : (sight : Sight) → IsConsistent (whole d) → IsConsistentAt (whole d) sight
  consistent_there (Sight.Choice op) c = tt
  consistent_there (Sight.Box failing) c = c
  consistent_there (Sight.Atom a) c = c

  -- and where it isn't, nothing is listed
  pub none_listed : (place : Place) (sight : Sight) → (IsConsistentAt (whole d) sight → ⊥) → AreTouchedByPlace p inner outer d place []
  none_listed place sight n = record { consistent = λ x m. absurd m; each = λ x m. absurd m; every = λ c x t. absurd (n (consistent_there sight c)) }
