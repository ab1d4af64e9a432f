-- What is reached under equations is reached under equations that they stand for.
use Rattle.std.proofs.Common.{List, inl, inr}
use Rattle.akl_terms.specs.declared.name.Name.{Name}
use Rattle.akl_terms.specs.declared.name.Var.{Var}
use Rattle.akl_terms.specs.declared.program.Program.{Program}
use Rattle.akl_terms.specs.Tree.{variable}
use Rattle.akl_terms.specs.Equal.{Equations, IsTold, Equal, IsConsistent, IsStructured}
use Rattle.akl_terms.specs.Standing.{StandFor}
use Rattle.akl_terms.specs.Touching.{IsLocal, IsUnbound, Touches}
use Rattle.akl_terms.proofs.StandingLaws.{StandFor-back}
use Rattle.akl_model.specs.Config.{Atom}
use Rattle.akl_model.specs.Stable.{AtomWaitsOn}
use Rattle.constraint_laws.specs.Standing.{StandsForConsistent}
use Rattle.constraint_laws.specs.Touched.{IsAmong}
use Rattle.constraint_laws.proofs.Stands.{structured_stands, variable_stands, goal_wait_stands, touch_stands}
use Rattle.constraint_laws.proofs.ValuesBefore.{goal_free}
use Rattle.box_tree.specs.declared.view.Sight.{Sight}
use Rattle.box_tree.specs.Tables.{goal_atom}
use Rattle.stable_test.specs.Reaching.{Reaches, IsConsistentAt, ReachesNone, AreReached}

-- more frames inside
pub unbound_inside : (inner more : List Name) (E : Equations) → ((x : Var) → IsLocal inner x → IsLocal more x) → (x : Var) → IsUnbound more E x → IsUnbound inner E x
unbound_inside inner more E among x u = record { outside = λ l. u.outside (among x l); unstructured = u.unstructured }

pub touches_inside : (inner more : List Name) (E W : Equations) → ((x : Var) → IsLocal inner x → IsLocal more x) → (x : Var) → Touches more E W x → Touches inner E W x
touches_inside inner more E W among x t = record {
  unbound = unbound_inside inner more E among x t.unbound;
  told = elim t.told [
    | inl k ↦ inl k
    | inr k ↦ inr (k.0, record { other = unbound_inside inner more E among k.0 k.1.other; equal = k.1.equal; apart = k.1.apart })
  ];
}

-- what an atom waits on isn't structured
pub waits_free : (p : Program) (W : Equations) (a : Atom) (x : Var) → AtomWaitsOn p W a x → IsStructured W x → ⊥
waits_free p W (Atom.arithmetic test l r) x w = goal_free w
waits_free p W (Atom.send m r) x w = w.1
waits_free p W (Atom.equation s t) x w = absurd w
waits_free p W (Atom.open_port s t) x w = absurd w
waits_free p W (Atom.call d ts r) x w = absurd w
waits_free p W Atom.fail x w = absurd w

pub atom_waits_stand : (p : Program) (V W : Equations) → StandsForConsistent V W → StandsForConsistent W V → (a : Atom) (x : Var) → AtomWaitsOn p V a x → AtomWaitsOn p W a x
atom_waits_stand p V W s b (Atom.arithmetic test l r) x w = goal_wait_stands p.templates.symbols V W s w
atom_waits_stand p V W s b (Atom.send m r) x w = (variable_stands V W s r x w.1 w.0, λ k. w.1 (structured_stands W V b x k))
atom_waits_stand p V W s b (Atom.equation l r) x w = absurd w
atom_waits_stand p V W s b (Atom.open_port l r) x w = absurd w
atom_waits_stand p V W s b (Atom.call d ts r) x w = absurd w
atom_waits_stand p V W s b Atom.fail x w = absurd w

-- what is reached is from outside, and not structured there
pub reaches_unbound : (p : Program) (inner : List Name) (E W : Equations) (sight : Sight) (x : Var) → Reaches p inner E W sight x → IsUnbound inner E x
reaches_unbound p inner E W (Sight.Choice op) x r = absurd r
reaches_unbound p inner E W (Sight.Box failing) x r = r.unbound
reaches_unbound p inner E W (Sight.Atom a) x r = elim r.2 [ inl t ↦ t.unbound | inr t ↦ t.0 ]

-- a place that reaches a variable is no choice
pub reaches_consistent : (p : Program) (inner : List Name) (E W V : Equations) (sight : Sight) (x : Var) → Reaches p inner E W sight x → IsConsistentAt V sight → IsConsistent V
reaches_consistent p inner E W V (Sight.Choice op) x r c = absurd r
reaches_consistent p inner E W V (Sight.Box failing) x r c = c
reaches_consistent p inner E W V (Sight.Atom a) x r c = c

pub consistent_at : (W V : Equations) → (IsConsistent W → IsConsistent V) → (sight : Sight) → IsConsistentAt W sight → IsConsistentAt V sight
consistent_at W V f (Sight.Choice op) c = tt
consistent_at W V f (Sight.Box failing) c = f c
consistent_at W V f (Sight.Atom a) c = f c

module _ (p : Program) (inner other : List Name) (E F W V : Equations) (around : StandFor (IsTold E) (IsTold F)) (whole : StandFor (IsTold W) (IsTold V))
    (among : (x : Var) → IsLocal inner x → IsLocal other x) (less : IsConsistent V → IsConsistent F) where
  back_touched : IsConsistent V → (x : Var) → Touches other F V x → Touches inner E W x
  back_touched c x t = touches_inside inner other E W among x
      (touch_stands F V E W (record { stands = StandFor-back around; consistent = less c }) (record { stands = StandFor-back whole; consistent = c }) other x t)

  back_unbound : IsConsistent V → (x : Var) → IsUnbound other F x → IsUnbound inner E x
  back_unbound c x u = record {
    outside = λ l. u.outside (among x l);
    unstructured = λ k. u.unstructured (structured_stands E F (record { stands = around; consistent = around.back (less c) }) x k);
  }

  -- what the second equations reach, the first ones do
  pub reaches_back : IsConsistent V → (sight : Sight) (x : Var) → Reaches p other F V sight x → Reaches p inner E W sight x
  reaches_back c (Sight.Choice op) x r = r
  reaches_back c (Sight.Box failing) x r = back_touched c x r
  reaches_back c (Sight.Atom a) x r = (
    r.0,
    atom_waits_stand p V W to_old to_new (goal_atom p.templates.nodes a) r.0 r.1,
    elim r.2 [
      | inl t ↦ inl (back_touched c x t)
      | inr t ↦ inr (back_unbound c x t.0, variable_stands V W to_old (variable x) r.0 (waits_free p V (goal_atom p.templates.nodes a) r.0 r.1) t.1)
    ],
  )
    where
      to_old : StandsForConsistent V W
      to_old = record { stands = StandFor-back whole; consistent = c }

      to_new : StandsForConsistent W V
      to_new = record { stands = whole; consistent = whole.back c }

  pub reaches_none_stands : (sight : Sight) → ReachesNone p inner E W sight → ReachesNone p other F V sight
  reaches_none_stands sight r = (consistent_at W V whole.to sight r.0, λ x t. r.1 x (reaches_back (reaches_consistent p other F V V sight x t (consistent_at W V whole.to sight r.0)) sight x t))

  -- so a list of what the first ones reach is one of what the second ones do, where these reach each that is listed
  pub reached_stands : (sight : Sight) (on : List Var) → IsConsistentAt V sight → (IsConsistent V → (x : Var) → Reaches p inner E W sight x → Reaches p other F V sight x)
      → AreReached p inner E W sight on → AreReached p other F V sight on
  reached_stands sight on c forth r = record {
    each = λ x m. let t : Reaches p inner E W sight x = r.each x m in forth (reaches_consistent p inner E W V sight x t c) x t;
    every = λ x t.
        let k : IsConsistent V = reaches_consistent p other F V V sight x t c in
        let w : (y : Var) × IsAmong y on × Equal E (variable x) (variable y) = r.every x (reaches_back k sight x t) in
        let u : IsUnbound inner E w.0 = reaches_unbound p inner E W sight w.0 (r.each w.0 w.1) in
        (w.0, w.1, variable_stands E F (record { stands = around; consistent = around.back (less k) }) (variable x) w.0 u.unstructured w.2);
  }
