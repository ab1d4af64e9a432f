-- The views of all places in a box and inside it decide whether it is stable.
use Rattle.std.proofs.Common.{◌≡◌, ℕ, ◌≤◌, List, [], ◌∷◌, ◌++◌, length, Some, sym, ◌∙◌, ap, subst, inl, inr}
use Rattle.std.specs.List.{AllByRecursion}
use Rattle.akl_terms.specs.declared.name.Name.{Name}
use Rattle.akl_terms.specs.declared.name.Var.{Var}
use Rattle.akl_terms.specs.declared.name.Place.{Place}
use Rattle.akl_terms.specs.declared.program.Program.{Program}
use Rattle.akl_terms.specs.Equal.{IsConsistent}
use Rattle.akl_terms.specs.Touching.{IsLocal, Touches}
use Rattle.akl_model.specs.declared.label.Label.{Label}
use Rattle.akl_model.specs.Config.{Config, Held, an_atom, held_in, Found, environment, whole, box_at, site_of}
use Rattle.akl_model.specs.Instances.{start}
use Rattle.akl_model.specs.Stable.{only, frames_of, AtomWaitsOn, IsStable}
use Rattle.akl_model.specs.Derivations.{Derives, Applies}
use Rattle.akl_model.proofs.NamesKept.{Stand, replay-stands}
use Rattle.akl_model.proofs.Options.{some_value}
use Rattle.akl_model.proofs.Results.{Derives-one}
use Rattle.step_laws.proofs.Deeper.{home_found}
use Rattle.local_store.specs.Stored.{Stored, nothing}
use Rattle.local_store.specs.Chained.{IsKnown}
use Rattle.entail_test.specs.Asked.{environment_at, KeepsApartAt}
use Rattle.box_tree.specs.declared.inside.Inside.{Inside}
use Rattle.box_tree.specs.Tables.{TableValue, all_rules, table_of}
use Rattle.box_tree.specs.Views.{ViewValue}
use Rattle.box_tree.specs.Insides.{IsPlaceInside, IsViewInside, HasView}
use Rattle.guard_plan.specs.Planned.{HasNoRule}
use Rattle.guard_plan.proofs.Sites.{stand}
use Rattle.stable_test.specs.Frames.{with_all_frames}
use Rattle.stable_test.specs.Reaching.{IsReached, ReachesNone, ReachesNoneAt, IsConsistentDown, AreReachedAt, IsTestable}
use Rattle.stable_test.specs.Inner.{AreTouchedByPlace}
use Rattle.stable_test.specs.Seen.{IsSeenInside, IsStill}
use Rattle.stable_test.proofs.EachInside.{IsDown}
use Rattle.stable_test.proofs.PathStores.{HasFrame, frame_has, has_frame, is_inside, box_down, goal_down, goal_inside_down}
use Rattle.stable_test.proofs.SiteReaches.{deep_stores, apart, consistent_site, site_consistent, reached_site, reaches_site, site_reaches}
use Rattle.stable_test.proofs.TouchedAt.{touched_listed, none_listed}
use Rattle.box_tree.proofs.AllInForce.{each_in_force}
use Rattle.stable_test.proofs.NoPlainRule.{NoneAppliesAt}
use Rattle.stable_test.proofs.StableSite.{IsStillBox, IsStillGoal, still_stable, stable_none, stable_reaches, view_box, view_goal}
use Rattle.stable_test.proofs.AllFrames.{all_local, local_all, all_unbound, box_frame, frame_box}

-- of lists of views

pub look : (P Q : ViewValue → Type 0) (vs : List ViewValue) (place : Place) → HasView vs place → AllByRecursion P vs → AllByRecursion Q vs → (v : ViewValue) × (v.place ≡ place) × P v × Q v
look P Q [] place h a b = absurd h
look P Q (v ∷ vs) place (inl e) a b = (v, e, a.0, b.0)
look P Q (v ∷ vs) place (inr h) a b = look P Q vs place h a.1 b.1

pub every : (P Q : ViewValue → Type 0) → ((v : ViewValue) → P v → Q v) → (vs : List ViewValue) → AllByRecursion P vs → AllByRecursion Q vs
every P Q f [] a = tt
every P Q f (v ∷ vs) a = (f v a.0, every P Q f vs a.1)

module _ (p : Program) (depth : ℕ) (i : Inside) (s : IsSeenInside p depth i) where
  abbrev config : Config
  config = s.run.config

  pub stands : Stand s.run.config
  stands = replay-stands all_rules s.table.program s.table.query s.journal s.run.config s.run.replays

  abbrev further : Stored
  further = with_all_frames nothing i.boxes.items

  frame_to : (x : Var) → IsLocal (with_all_frames nothing i.boxes.items).frames x → IsLocal (frames_of (only s.site)) x
  frame_to x l = elim (all_local nothing i.boxes.items x l) [
    | inl z ↦ absurd z
    | inr k ↦
        let w : _ = box_frame s.table i.boxes.items s.inside.boxes.boxes x k in
        has_frame (table_of s.table) s.run.config stands s.run.unfolds s.name s.site s.is_site x (record { box = w.0; inside = s.inside.boxes.listed.inside w.0 w.1; frame = w.2 })
  ]

  frame_from : (x : Var) → IsLocal (frames_of (only s.site)) x → IsLocal (with_all_frames nothing i.boxes.items).frames x
  frame_from x l =
      let h : HasFrame (table_of s.table) s.run.config stands s.run.unfolds s.name s.site s.is_site x = frame_has (table_of s.table) s.run.config stands s.run.unfolds s.name s.site s.is_site x l in
      local_all nothing i.boxes.items x (inr (frame_box s.table i.boxes.items s.inside.boxes.boxes x h.box (s.inside.boxes.listed.each h.box h.inside) h.frame))

  -- one view
  module _ (v : ViewValue) (w : IsViewInside s.table s.journal s.name s.worker v) where
    same_config : w.seen.table.config ≡ s.run.config
    same_config = Derives-one all_rules s.table.program (start s.table.program s.table.query) w.seen.table.config s.run.config s.journal
        (subst (λ (t : TableValue). Derives all_rules t.program (start t.program t.query) s.journal w.seen.table.config) w.table
        (subst (λ (j : List Label). Derives all_rules v.table.program (start v.table.program v.table.query) j w.seen.table.config) w.labels w.seen.table.replays.derives))
        s.run.replays.derives

    pub there : box_at s.name w.seen.table.config.roots ≡ Some s.site
    there = subst (λ (c : Config). box_at s.name c.roots ≡ Some s.site) (sym same_config) s.is_site

    pub same_program : v.table.program ≡ p
    same_program = ap (λ (t : TableValue). t.program) w.table ∙ s.of_program

    pub down : IsDown w.seen.table.config (stand v w.seen) s.name s.site there w.seen.site
    down = on v.place w.seen.is_site (subst (λ (t : TableValue). IsPlaceInside (table_of t) s.name v.place) (sym w.table) w.inside)
      where
        on : (place : Place) → site_of place w.seen.table.config.roots ≡ Some w.seen.site → IsPlaceInside (table_of v.table) s.name place → IsDown w.seen.table.config (stand v w.seen) s.name s.site there w.seen.site
        on (Place.Box m) e k = box_down (table_of v.table) w.seen.table.config (stand v w.seen) w.seen.table.unfolds s.name s.site there m w.seen.site e k
        on (Place.Goal g) e k = goal_down (table_of v.table) w.seen.table.config (stand v w.seen) w.seen.table.unfolds s.name s.site there g w.seen.site e k

    abbrev KeepsAt : Program → ℕ → Type 0
    KeepsAt q k = IsConsistent (environment_at q.templates.nodes (v.stores ++ with_all_frames nothing i.boxes.items ∷ []) k) → KeepsApartAt q.templates.nodes (v.stores ++ with_all_frames nothing i.boxes.items ∷ []) k

    pub testable : IsTestable p depth (with_all_frames nothing i.boxes.items) v
    testable = record {
      program = sym same_program;
      deep = subst (λ (k : ℕ). k ≤ length v.stores) s.deep (deep_stores v w.seen s.name s.site there down further frame_to frame_from);
      known = subst (λ (q : Program). IsKnown q.templates.nodes v.stores v.known) same_program w.seen.known;
      unbound = all_unbound nothing i.boxes.items;
      apart = subst (λ (q : Program). KeepsAt q depth) same_program (subst (KeepsAt v.table.program) s.deep (apart v w.seen s.name s.site there down further frame_to frame_from));
    }

    still : IsStable p s.site → IsStill p depth (with_all_frames nothing i.boxes.items) v
    still stable = (
      stable_none v w.seen s.name s.site there down here,
      subst (λ (q : Program). ReachesNoneAt q depth further v) same_program (subst (λ (k : ℕ). ReachesNoneAt v.table.program k further v) s.deep
          (site_reaches v w.seen s.name s.site there down further frame_to frame_from (stable_reaches v w.seen s.name s.site there down here))),
    )
      where
        here : IsStable v.table.program s.site
        here = subst (λ (q : Program). IsStable q s.site) (sym same_program) stable

    reaches : ReachesNoneAt p depth (with_all_frames nothing i.boxes.items) v → ReachesNone v.table.program (frames_of (only s.site)) (environment s.site) (whole w.seen.site) v.sight
    reaches r = reaches_site v w.seen s.name s.site there down further frame_to frame_from
        (subst (λ (k : ℕ). ReachesNoneAt v.table.program k further v) (sym s.deep) (subst (λ (q : Program). ReachesNoneAt q depth further v) (sym same_program) r))

    -- what the stores reach from outside of the box
    pub lists_touched : (list : List Var) → IsConsistentDown p v → AreReachedAt p depth (with_all_frames nothing i.boxes.items) v list
        → AreTouchedByPlace p (frames_of (only s.site)) (environment s.site) w.seen.site v.place list
    lists_touched list c r = subst (λ (q : Program). AreTouchedByPlace q (frames_of (only s.site)) (environment s.site) w.seen.site v.place list) same_program
        (touched_listed v.table.program (frames_of (only s.site)) (environment s.site) w.seen.site v.place v.sight w.seen.shows list (consistent_site v w.seen s.name s.site there down further frame_to frame_from c_seen)
        (reached_site v w.seen s.name s.site there down further frame_to frame_from list c_seen
        (subst (λ (k : ℕ). AreReachedAt v.table.program k further v list) (sym s.deep) (subst (λ (q : Program). AreReachedAt q depth further v list) (sym same_program) r))))
      where
        c_seen : IsConsistentDown v.table.program v
        c_seen = subst (λ (q : Program). IsConsistentDown q v) (sym same_program) c

    pub lists_none : (IsConsistentDown p v → ⊥) → AreTouchedByPlace p (frames_of (only s.site)) (environment s.site) w.seen.site v.place []
    lists_none n = none_listed p (frames_of (only s.site)) (environment s.site) w.seen.site v.place v.sight
        (λ c. n (subst (λ (q : Program). IsConsistentDown q v) same_program (site_consistent v w.seen s.name s.site there down further frame_to frame_from c)))

    pub none_applies : HasNoRule v → (place : Place) → v.place ≡ place → NoneAppliesAt all_rules p s.run.config place
    none_applies h place e l d a q n = h.none w.seen.table l d
        (subst (λ (c : Config). Applies all_rules v.table.program c l d) (sym same_config) (subst (λ (k : Program). Applies all_rules k s.run.config l d) (sym same_program) a)) (q ∙ sym e) n

    pub same_site : (d : Found) (place : Place) → v.place ≡ place → site_of place s.run.config.roots ≡ Some d → w.seen.site ≡ d
    same_site d place e k = some_value (sym (subst (λ (c : Config). site_of v.place c.roots ≡ Some w.seen.site) same_config w.seen.is_site) ∙ ap (λ (q : Place). site_of q s.run.config.roots) e ∙ k)

    box_still : (d : Found) → IsDown s.run.config stands s.name s.site s.is_site d → v.place ≡ Place.Box d.content.name → IsStill p depth (with_all_frames nothing i.boxes.items) v
        → IsStillBox all_rules p s.run.config stands s.name s.site s.is_site d
    box_still d h e t = record {
      none = none_applies t.0 (Place.Box d.content.name) e;
      untouched = subst (λ (k : Found). (x : Var) → Touches (frames_of (only s.site)) (environment s.site) (whole k) x → ⊥) (same_site d (Place.Box d.content.name) e h.there)
          (view_box v w.seen s.site d.content.name e (reaches t.1));
    }

    goal_still : (d : Found) (g : Name) (k : Held) → IsDown s.run.config stands s.name s.site s.is_site d → held_in g d.goals ≡ Some k → v.place ≡ Place.Goal g
        → IsStill p depth (with_all_frames nothing i.boxes.items) v → IsStillGoal all_rules p s.run.config stands s.name s.site s.is_site d g k
    goal_still d g k h held e t = record {
      none = none_applies t.0 (Place.Goal g) e;
      unreached = λ a q. subst (λ (b : Found). (on x : Var) → AtomWaitsOn p (whole b) a on → IsReached (frames_of (only s.site)) (environment s.site) (whole b) on x → ⊥) same
          (subst (λ (q : Program). (on x : Var) → AtomWaitsOn q (whole w.seen.site) a on → IsReached (frames_of (only s.site)) (environment s.site) (whole w.seen.site) on x → ⊥) same_program
          (view_goal v w.seen s.site g a e (subst (λ (b : Found). held_in g b.goals ≡ Some (an_atom a)) (sym same) (held ∙ ap Some q)) (reaches t.1)));
    }
      where
        same : w.seen.site ≡ d
        same = same_site d (Place.Goal g) e (home_found s.run.config.roots stands.once g d.content.name d k h.there held)

  -- all views
  pub all_testable : AllByRecursion (IsTestable p depth (with_all_frames nothing i.boxes.items)) i.views.items
  all_testable = every (IsViewInside s.table s.journal s.name s.worker) (IsTestable p depth (with_all_frames nothing i.boxes.items)) testable i.views.items s.inside.views

  pub all_still : IsStable p s.site → AllByRecursion (IsStill p depth (with_all_frames nothing i.boxes.items)) i.views.items
  all_still stable = every (IsViewInside s.table s.journal s.name s.worker) (IsStill p depth (with_all_frames nothing i.boxes.items)) (λ v w. still v w stable) i.views.items s.inside.views

  pub all_stable : AllByRecursion (IsStill p depth (with_all_frames nothing i.boxes.items)) i.views.items → IsStable p s.site
  all_stable t = still_stable all_rules p s.run.config stands s.name s.site s.is_site each_in_force boxes goals
    where
      seen : (place : Place) → IsPlaceInside (table_of s.table) s.name place
          → (v : ViewValue) × (v.place ≡ place) × IsViewInside s.table s.journal s.name s.worker v × IsStill p depth (with_all_frames nothing i.boxes.items) v
      seen place k = look (IsViewInside s.table s.journal s.name s.worker) (IsStill p depth (with_all_frames nothing i.boxes.items)) i.views.items place (s.inside.each place k) s.inside.views t

      boxes : (d : Found) → IsDown s.run.config stands s.name s.site s.is_site d → IsStillBox all_rules p s.run.config stands s.name s.site s.is_site d
      boxes d h = let w : _ = seen (Place.Box d.content.name) (is_inside (table_of s.table) s.run.config stands s.run.unfolds s.name s.site s.is_site d h) in box_still w.0 w.2 d h w.1 w.3

      goals : (d : Found) → IsDown s.run.config stands s.name s.site s.is_site d → (g : Name) (k : Held) → held_in g d.goals ≡ Some k
          → IsStillGoal all_rules p s.run.config stands s.name s.site s.is_site d g k
      goals d h g k held =
          let w : _ = seen (Place.Goal g) (goal_inside_down (table_of s.table) s.run.config stands s.run.unfolds s.name s.site s.is_site d g k h held) in
          goal_still w.0 w.2 d g k h held w.1 w.3
