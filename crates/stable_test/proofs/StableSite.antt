-- A box is stable where no rule applies at a place in it or inside it, and none of them reaches anything from outside; and no other box is.
use Rattle.std.proofs.Common.{◌≡◌, List, Some, refl, sym, ◌∙◌, subst, inl, inr}
use Rattle.std.specs.Prelude.{slice_index}
use Rattle.akl_terms.specs.declared.name.Name.{Name}
use Rattle.akl_terms.specs.declared.name.Var.{Var}
use Rattle.akl_terms.specs.declared.name.Place.{Place}
use Rattle.akl_terms.specs.declared.program.Program.{Program}
use Rattle.akl_terms.specs.Touching.{Touches}
use Rattle.akl_model.specs.declared.label.Rule.{Rule}
use Rattle.akl_model.specs.Config.{Atom, Config, Held, an_atom, a_choice, held_in, Found, environment, whole, box_at}
use Rattle.akl_model.specs.Stable.{only, frames_of, AtomWaitsOn, TouchesFrom, by_equations, by_waiting, IsStableIn, IsStable}
use Rattle.akl_model.specs.Derivations.{IsInForce}
use Rattle.akl_model.proofs.NamesKept.{Stand}
use Rattle.akl_model.proofs.StableGrows.{untouched_box}
use Rattle.constraint_laws.specs.Growth.{TouchesNothing}
use Rattle.box_tree.specs.declared.view.Sight.{Sight}
use Rattle.box_tree.specs.Tables.{goal_atom, op_held}
use Rattle.box_tree.specs.Views.{ViewValue, IsViewOf, Shows}
use Rattle.guard_plan.specs.Planned.{HasNoRule}
use Rattle.guard_plan.proofs.HasNone.{has_none}
use Rattle.guard_plan.proofs.Sites.{stand}
use Rattle.stable_test.specs.Reaching.{IsReached, ReachesNone}
use Rattle.stable_test.proofs.EachInside.{IsDown, each_down, holds_down}
use Rattle.stable_test.proofs.NoPlainRule.{NoneAppliesAt, plain_of, no_plain_rule}

module _ (rules : List Rule) (p : Program) (c : Config) (s : Stand c) (n : Name) (f : Found) (e : box_at n c.roots ≡ Some f) where
  -- what is asked of the place of a box, and of that of a goal
  pub record IsStillBox (d : Found) : Type 0 where
    pub none : NoneAppliesAt rules p c (Place.Box d.content.name)
    pub untouched : (x : Var) → Touches (frames_of (only f)) (environment f) (whole d) x → ⊥

  pub record IsStillGoal (d : Found) (g : Name) (h : Held) : Type 0 where
    pub none : NoneAppliesAt rules p c (Place.Goal g)
    pub unreached : (a : Atom) → h ≡ an_atom a → (on x : Var) → AtomWaitsOn p (whole d) a on → IsReached (frames_of (only f)) (environment f) (whole d) on x → ⊥

  pub still_stable : ((r : Rule) → IsInForce rules r) → ((d : Found) → IsDown c s n f e d → IsStillBox d) → ((d : Found) → IsDown c s n f e d → (g : Name) (h : Held) → held_in g d.goals ≡ Some h → IsStillGoal d g h)
      → IsStable p f
  still_stable all boxes goals = record {
    each = each_down c s n f e (IsStableIn p (frames_of (only f)) (environment f)) (λ d h. record {
      no_rule = no_plain_rule rules all p c s d h.there (boxes d h).none (λ g k i. (goals d h g k i).none);
      untouched = λ x t. untouched d h x t;
    });
  }
    where
      untouched : (d : Found) → IsDown c s n f e d → (x : Var) → TouchesFrom p (frames_of (only f)) (environment f) d x → ⊥
      untouched d h x (by_equations t) = (boxes d h).untouched x t
      untouched d h x (by_waiting u w) = (goals d h w.goal (an_atom w.atom) w.is_goal).unreached w.atom refl w.on x w.waits (inr (u, w.equal))

-- what a stable box says of a place that is looked at
module _ (v : ViewValue) (i : IsViewOf v) (n : Name) (f : Found) (e : box_at n i.table.config.roots ≡ Some f) (h : IsDown i.table.config (stand v i) n f e i.site) (stable : IsStable v.table.program f) where
  stable_in : IsStableIn v.table.program (frames_of (only f)) (environment f) i.site
  stable_in = holds_down i.table.config (stand v i) n f e (IsStableIn v.table.program (frames_of (only f)) (environment f)) stable.each i.site h

  nothing_touched : TouchesNothing (frames_of (only f)) (environment f) (whole i.site)
  nothing_touched = untouched_box v.table.program (frames_of (only f)) (environment f) i.site stable_in

  pub stable_none : HasNoRule v
  stable_none = has_none v i (λ l change place force m. stable_in.no_rule l (slice_index i.table.config.next l.worker) change (record {
    reading = m.reading;
    change = m.change;
    allowed = plain_of v.table.program m.reading l.rule l.place l.alternative i.site force.1 m.allowed;
    few_names = m.few_names;
  }))

  pub stable_reaches : ReachesNone v.table.program (frames_of (only f)) (environment f) (whole i.site) v.sight
  stable_reaches = on v.place v.sight i.shows
    where
      on : (place : Place) (sight : Sight) → Shows v.table.program.templates.nodes place i.site sight → ReachesNone v.table.program (frames_of (only f)) (environment f) (whole i.site) sight
      on place (Sight.Choice op) k = (tt, λ x r. r)
      on place (Sight.Box failing) k = (nothing_touched.consistent, nothing_touched.untouched)
      on (Place.Box m) (Sight.Atom a) k = absurd k
      on (Place.Goal g) (Sight.Atom a) k = (
        nothing_touched.consistent,
        λ x r. elim r.2 [
          | inl t ↦ nothing_touched.untouched x t
          | inr t ↦ stable_in.untouched x (by_waiting t.0 (record { goal = g; atom = goal_atom v.table.program.templates.nodes a; is_goal = k; on = r.0; waits = r.1; equal = t.1 }))
        ],
      )

-- what the place of a view reaches nothing from outside by
module _ (v : ViewValue) (i : IsViewOf v) (f : Found) where
  abbrev pub SightReaches : Sight → Type 0
  SightReaches sight = ReachesNone v.table.program (frames_of (only f)) (environment f) (whole i.site) sight

  pub view_box : (m : Name) → v.place ≡ Place.Box m → SightReaches v.sight → (x : Var) → Touches (frames_of (only f)) (environment f) (whole i.site) x → ⊥
  view_box m e r = on v.sight (subst (λ (place : Place). Shows v.table.program.templates.nodes place i.site v.sight) e i.shows) r
    where
      on : (sight : Sight) → Shows v.table.program.templates.nodes (Place.Box m) i.site sight → SightReaches sight → (x : Var) → Touches (frames_of (only f)) (environment f) (whole i.site) x → ⊥
      on (Sight.Box failing) k r = r.1
      on (Sight.Choice op) k r = absurd k
      on (Sight.Atom a) k r = absurd k

  pub view_goal : (g : Name) (a : Atom) → v.place ≡ Place.Goal g → held_in g i.site.goals ≡ Some (an_atom a) → SightReaches v.sight
      → (on x : Var) → AtomWaitsOn v.table.program (whole i.site) a on → IsReached (frames_of (only f)) (environment f) (whole i.site) on x → ⊥
  view_goal g a e held r = by v.sight (subst (λ (place : Place). Shows v.table.program.templates.nodes place i.site v.sight) e i.shows) r
    where
      same_atom : (y z : Atom) → Some (an_atom y) ≡ Some (an_atom z) → y ≡ z
      same_atom y z q = cc

      by : (sight : Sight) → Shows v.table.program.templates.nodes (Place.Goal g) i.site sight → SightReaches sight
          → (on x : Var) → AtomWaitsOn v.table.program (whole i.site) a on → IsReached (frames_of (only f)) (environment f) (whole i.site) on x → ⊥
      by (Sight.Box failing) k r = absurd k
      by (Sight.Choice op) k r = let z : Some (a_choice (op_held v.table.program.templates.nodes op) k.0) ≡ Some (an_atom a) = sym k.1 ∙ held in cc
      by (Sight.Atom b) k r = λ on x w t. r.1 x (on, subst (λ (y : Atom). AtomWaitsOn v.table.program (whole i.site) y on) (same_atom a (goal_atom v.table.program.templates.nodes b) (sym held ∙ k)) w, t)
