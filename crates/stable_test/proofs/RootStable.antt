-- A root box is stable where no rule other than Split applies at a place in it or inside it, since it has nothing outside to touch.
use Rattle.std.proofs.Common.{◌≡◌, ℕ, List, length, Some, sym, ◌∙◌, ap, subst, inl, inr}
use Rattle.std.specs.Prelude.{Bool, IsTrue, ◌↔◌}
use Rattle.std.specs.List.{AllByRecursion}
use Rattle.akl_terms.specs.declared.name.Name.{Name}
use Rattle.akl_terms.specs.declared.name.Var.{Var}
use Rattle.akl_terms.specs.declared.name.Place.{Place}
use Rattle.akl_terms.specs.declared.program.Program.{Program}
use Rattle.akl_model.specs.Config.{IsIn, Content, Held, held_in, Config, Found, environment, box_at}
use Rattle.akl_model.specs.Scopes.{nowhere}
use Rattle.akl_model.specs.Stable.{only, frames_of, TouchesFrom, by_equations, by_waiting, IsStable}
use Rattle.akl_model.proofs.ScopesAlong.{scope_along}
use Rattle.akl_model.proofs.NamesKept.{Stand}
use Rattle.plan_laws.proofs.InScope.{Good}
use Rattle.plan_laws.proofs.Replayed.{good_replay}
use Rattle.plan_laws.proofs.Concerned.{inside_around}
use Rattle.rational_unify.proofs.Taking.{nothing as nothing_around}
use Rattle.local_store.specs.Stored.{nothing}
use Rattle.box_tree.specs.declared.inside.Inside.{Inside}
use Rattle.box_tree.specs.Tables.{all_rules, table_of}
use Rattle.box_tree.specs.Views.{ViewValue}
use Rattle.box_tree.specs.Insides.{IsPlaceInside, IsViewInside}
use Rattle.guard_plan.specs.Planned.{HasNoRule}
use Rattle.stable_test.specs.Frames.{with_all_frames}
use Rattle.stable_test.specs.Seen.{IsSeenInside, IsStill, IsOfProgram}
use Rattle.stable_test.proofs.EachInside.{IsDown, each_in, holds_down}
use Rattle.stable_test.proofs.PathStores.{is_inside, goal_inside_down}
use Rattle.box_tree.proofs.AllInForce.{each_in_force}
use Rattle.stable_test.proofs.NoPlainRule.{NoneAppliesAt}
use Rattle.stable_test.proofs.StableSite.{still_stable}
use Rattle.stable_test.proofs.StableViews.{look, every, stands, same_program, none_applies, all_still}

module _ (p : Program) (c : Config) (stands : Stand c) (good : Good c) (n : Name) (f : Found) (e : box_at n c.roots ≡ Some f) (deep : length f.around ≡ 0) where
  abbrev Untouched : Found → Type 0
  Untouched d = (x : Var) → TouchesFrom p (frames_of (only f)) (environment f) d x → ⊥

  -- neither the box nor one inside it touches anything from outside
  untouched : (d : Found) → IsDown c stands n f e d → (x : Var) → TouchesFrom p (frames_of (only f)) (environment f) d x → ⊥
  untouched = holds_down c stands n f e Untouched (each_in Untouched f.around (only f) (λ r k hs b x t. none x.frame (inside_around c good p x n f e r k hs b t)))
    where
      none : (m : Name) → IsIn m (scope_along nowhere f.around).frames → ⊥
      none m h = subst (λ (around : List Content). IsIn m (scope_along nowhere around).frames) (nothing_around f.around deep) h

  pub stable_where_still : ((d : Found) → IsDown c stands n f e d → NoneAppliesAt all_rules p c (Place.Box d.content.name))
      → ((d : Found) → IsDown c stands n f e d → (g : Name) (k : Held) → held_in g d.goals ≡ Some k → NoneAppliesAt all_rules p c (Place.Goal g)) → IsStable p f
  stable_where_still boxes goals = still_stable all_rules p c stands n f e each_in_force
      (λ d h. record { none = boxes d h; untouched = λ x k. untouched d h x (by_equations k) })
      (λ d h g k held. record {
        none = goals d h g k held;
        unreached = λ a q on x waits r. elim r [
          | inl y ↦ untouched d h x (by_equations y)
          | inr y ↦ untouched d h x (by_waiting y.0 (record { goal = g; atom = a; is_goal = held ∙ ap Some q; on = on; waits = waits; equal = y.1 }))
        ];
      })

module _ (p : Program) (i : Inside) (s : IsSeenInside p 0 i) where
  root_stable : AllByRecursion HasNoRule i.views.items → IsStable p s.site
  root_stable t = stable_where_still p s.run.config (stands p 0 i s) good s.name s.site s.is_site s.deep boxes goals
    where
      good : Good s.run.config
      good = good_replay all_rules s.table.program s.table.query s.journal s.run.config s.run.replays

      seen : (place : Place) → IsPlaceInside (table_of s.table) s.name place → (v : ViewValue) × (v.place ≡ place) × IsViewInside s.table s.journal s.name s.worker v × HasNoRule v
      seen place k = look (IsViewInside s.table s.journal s.name s.worker) HasNoRule i.views.items place (s.inside.each place k) s.inside.views t

      boxes : (d : Found) → IsDown s.run.config (stands p 0 i s) s.name s.site s.is_site d → NoneAppliesAt all_rules p s.run.config (Place.Box d.content.name)
      boxes d h =
          let w : _ = seen (Place.Box d.content.name) (is_inside (table_of s.table) s.run.config (stands p 0 i s) s.run.unfolds s.name s.site s.is_site d h) in
          none_applies p 0 i s w.0 w.2 w.3 (Place.Box d.content.name) w.1

      goals : (d : Found) → IsDown s.run.config (stands p 0 i s) s.name s.site s.is_site d → (g : Name) (k : Held) → held_in g d.goals ≡ Some k → NoneAppliesAt all_rules p s.run.config (Place.Goal g)
      goals d h g k held =
          let w : _ = seen (Place.Goal g) (goal_inside_down (table_of s.table) s.run.config (stands p 0 i s) s.run.unfolds s.name s.site s.is_site d g k h held) in
          none_applies p 0 i s w.0 w.2 w.3 (Place.Goal g) w.1

  -- where no rule applies at any place, the box is stable, and no other box is
  pub root_decided : (none : Bool) → IsTrue none ↔ AllByRecursion HasNoRule i.views.items → IsTrue none ↔ IsStable p s.site
  root_decided none e = (
    λ t. root_stable (e.0 t),
    λ stable. e.1 (every (IsStill p 0 (with_all_frames nothing i.boxes.items)) HasNoRule (λ v t. t.0) i.views.items (all_still p 0 i s stable)),
  )

pub root_of_program : (p : Program) (depth : ℕ) (i : Inside) (s : IsSeenInside p depth i) → AllByRecursion (IsOfProgram p) i.views.items
root_of_program p depth i s = every (IsViewInside s.table s.journal s.name s.worker) (IsOfProgram p) (λ v w. sym (same_program p depth i s v w)) i.views.items s.inside.views

pub root_answer : (p : Program) (depth : ℕ) → depth ≡ 0 → (i : Inside) (s : IsSeenInside p depth i) (none : Bool) → IsTrue none ↔ AllByRecursion HasNoRule i.views.items → IsTrue none ↔ IsStable p s.site
root_answer p depth z = subst (λ (d : ℕ). (i : Inside) (s : IsSeenInside p d i) (none : Bool) → IsTrue none ↔ AllByRecursion HasNoRule i.views.items → IsTrue none ↔ IsStable p s.site) (sym z) (λ i s none e. root_decided p i s none e)
