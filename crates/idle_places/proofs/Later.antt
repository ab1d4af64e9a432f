-- What was found of an idle place holds after labels that leave what it read.
use Rattle.std.proofs.Common.{◌≡◌, Bool, true, false, List, ◌++◌, length, Some, refl, sym, ◌∙◌, subst, inl, inr}
use Rattle.akl_terms.specs.declared.name.Name.{Name}
use Rattle.akl_terms.specs.declared.name.Var.{Var}
use Rattle.akl_terms.specs.declared.name.Place.{Place}
use Rattle.akl_terms.specs.declared.program.Program.{Program}
use Rattle.akl_terms.specs.declared.program.Query.{Query}
use Rattle.akl_model.specs.declared.item.Item.{Item}
use Rattle.akl_model.specs.declared.label.Label.{Label}
use Rattle.akl_model.specs.Config.{Config, Found, held_in, box_at, home_of, site_of}
use Rattle.akl_model.specs.Instances.{start}
use Rattle.akl_model.specs.Derivations.{Derives, Replays, IsReady}
use Rattle.akl_model.specs.Wakes.{Concerns}
use Rattle.akl_model.proofs.Results.{Derives-prefix, Derives-one}
use Rattle.constraint_laws.specs.Touched.{IsAmong}
use Rattle.step_laws.specs.Stays.{GoesOn, Leaves, IsSameBox}
use Rattle.plan_laws.specs.Idle.{Watches}
use Rattle.plan_laws.specs.ByGoals.{by_goals}
use Rattle.plan_laws.proofs.ByGoals.{idle_by_goals}
use Rattle.plan_laws.proofs.StampLaws.{stamped}
use Rattle.plan_laws.specs.Sleeps.{IsEnough}
use Rattle.plan_laws.proofs.Replayed.{good_replay}
use Rattle.plan_laws.specs.Waits.{IsScopedAt, HasOldestAt}
use Rattle.plan_laws.proofs.Concerned.{concern_scoped}
use Rattle.reading_laws.specs.Seen.{IsSeen}
use Rattle.reading_laws.specs.SeenIdle as laws
use Rattle.reading_laws.specs.SeenIdle.{KeepsOldestAt}
use Rattle.reading_laws.proofs.SeenIdle.{seen_idle}
use Rattle.step_laws.proofs.There.{site_there}
use Rattle.plan_laws.proofs.SameSites.{HasSameSite, oldest_same}
use Rattle.plan_laws.proofs.Still.{is_still, still_enough, still_oldest}
use Rattle.plan_laws.proofs.StillConcerns.{still_concern}
use Rattle.plan_laws.proofs.Roots.{root_needs_nothing, root_stays, root_still}
use Rattle.box_tree.specs.Tables.{all_rules}
use Rattle.box_tree.specs.Plans.{IsRead}
use Rattle.idle_places.specs.Idling.{IdleValue, WatchesGoals, WatchesBindings, HasWatched, IsIdle}
use Rattle.idle_places.specs.Later.{HasNoReason, LeavesIdle, IsIdleStill}
use Rattle.idle_places.proofs.SeenSets.{sets_of, watches_sets, set_stamped, goal_stamped}

module _ (v : IdleValue) (i : IsIdle v) (p : Program) (q : Query) (journal : List Label) (d : Config) (h : LeavesIdle v p q journal d) where
  abbrev c : Config
  c = i.table.config

  replayed : Replays all_rules p q v.journal i.table.config
  replayed = subst (λ (y : Program). Replays all_rules y q v.journal i.table.config) h.program (subst (λ (y : Query). Replays all_rules v.table.program y v.journal i.table.config) h.query i.table.replays)

  derives : Derives all_rules p i.table.config h.further d
  derives =
      let m : (m : Config) × Derives all_rules p (start p q) v.journal m × Derives all_rules p m h.further d =
      Derives-prefix all_rules p (start p q) d v.journal h.further (subst (λ (j : List Label). Derives all_rules p (start p q) j d) h.front h.replays.derives) in
      subst (λ (k : Config). Derives all_rules p k h.further d) (Derives-one all_rules p (start p q) m.0 i.table.config v.journal m.1 replayed.derives) m.2

  w : GoesOn all_rules p i.table.config h.further d
  w = record { query = q; journal = v.journal; replays = replayed; derives = derives }

  seen : (item : Item) → IsRead v.reads item → IsSeen all_rules p q (v.journal ++ h.further) (length v.journal) item
  seen item r = subst (λ (j : List Label). IsSeen all_rules p q j (length v.journal) item) h.front (h.unchanged item r)

  left_set : (n : Name) → IsRead v.reads (Item.Goals n) → Leaves w (Item.Goals n)
  unfolding w derives
  left_set n r = stamped all_rules p q v.journal h.further i.table.config d (Item.Goals n) replayed derives (set_stamped all_rules p q (v.journal ++ h.further) (length v.journal) n (seen (Item.Goals n) r))

  left_goal : (g : Name) → IsRead v.reads (Item.Goal g) → Leaves w (Item.Goal g)
  unfolding w derives
  left_goal g r = stamped all_rules p q v.journal h.further i.table.config d (Item.Goal g) replayed derives (goal_stamped all_rules p q (v.journal ++ h.further) (length v.journal) g (seen (Item.Goal g) r))

  was_unready : IsReady all_rules p i.table.config v.place → ⊥
  was_unready = subst (λ (y : Program). IsReady all_rules y i.table.config v.place → ⊥) h.program i.unready

  was_enough : IsEnough p i.table.config v.on v.place
  was_enough = subst (λ (y : Program). IsEnough y i.table.config v.on v.place) h.program i.enough

  concerned : (x : Var) → IsAmong x v.on → Concerns p i.table.config x v.place
  concerned x m = subst (λ (y : Program). Concerns y i.table.config x v.place) h.program (i.concern x m)

  was_scoped : (x : Var) → IsAmong x v.on → IsScopedAt i.table.config v.place x
  was_scoped x m = concern_scoped all_rules p q v.journal i.table.config replayed v.place x (concerned x m)

  kept_oldest : (e : Config) (place : Place) → HasOldestAt e place v.on → KeepsOldestAt e place v.on
  kept_oldest e place o = record { each = λ f at consistent x y m free k. o.each f at x y m k }

  -- a place that looked inside
  module _ (u : Watches (λ (item : Item). IsRead v.reads (by_goals item)) v.place i.site) where
    watched : Watches (λ (item : Item). Leaves w (by_goals item)) v.place i.site
    watched = watches_sets (IsRead v.reads) (Leaves w) left_goal left_set v.place i.site u

    now : HasSameSite i.table.config d v.place
    now = (is_still all_rules p i.table.config h.further d w v.place i.site i.is_site watched).site

    inside_later : IsIdleStill p d v.place v.on
    inside_later = record {
      there = site_there v.place d.roots now.afterwards now.is;
      unready = idle_by_goals all_rules p i.table.config h.further d w v.place i.site i.is_site watched was_unready;
      enough = still_enough all_rules p i.table.config h.further d w v.place i.site i.is_site watched v.on was_enough;
      scoped = λ x m. concern_scoped all_rules p q journal d h.replays v.place x (still_concern all_rules p i.table.config h.further d w v.place i.site i.is_site watched x (concerned x m));
      oldest = kept_oldest d v.place (still_oldest all_rules p i.table.config h.further d w v.place i.site i.is_site watched v.on i.oldest);
    }

  -- a goal that did so by bindings
  module _ (u : WatchesBindings (IsRead v.reads) v.on v.place i.site) where
    home : home_of u.goal i.table.config.roots ≡ Some i.site
    home = subst (λ (y : Place). site_of y i.table.config.roots ≡ Some i.site) u.is_goal i.is_site

    still : laws.IsIdleStill all_rules p d u.goal v.on
    still = seen_idle all_rules p q v.journal h.further i.table.config d replayed derives u.goal i.site home (subst (λ (y : Place). IsReady all_rules p i.table.config y → ⊥) u.is_goal was_unready) v.on
        (subst (IsEnough p i.table.config v.on) u.is_goal was_enough) (λ x m. subst (λ (y : Place). IsScopedAt i.table.config y x) u.is_goal (was_scoped x m))
        (subst (λ (y : Place). KeepsOldestAt i.table.config y v.on) u.is_goal (kept_oldest i.table.config v.place i.oldest)) (record {
          goal = seen (Item.Goal u.goal) u.reads.goal;
          bindings = λ x m. seen (Item.Binding x) (u.reads.bindings x m);
          inner = λ m k. seen (Item.Goals m) (u.reads.inner m k);
          alternatives = sets_of (IsRead v.reads) (IsSeen all_rules p q (v.journal ++ h.further) (length v.journal)) (λ n. seen (Item.Goals n)) (held_in u.goal i.site.goals) u.reads.alternatives;
        })

    bindings_later : IsIdleStill p d v.place v.on
    bindings_later = subst (λ (y : Place). IsIdleStill p d y v.on) (sym u.is_goal) (record {
      there = still.there;
      unready = still.unready;
      enough = still.enough;
      scoped = still.scoped;
      oldest = still.oldest;
    })

  -- a root box that didn't
  module _ (u : WatchesGoals (IsRead v.reads) v.place i.site) (no_reason : (f : Found) → site_of v.place d.roots ≡ Some f → HasNoReason f) where
    at : (place : Place) → v.place ≡ place → site_of place i.table.config.roots ≡ Some i.site
    at place e = subst (λ (y : Place). site_of y i.table.config.roots ≡ Some i.site) e i.is_site

    was : box_at u.name i.table.config.roots ≡ Some i.site
    was = at (Place.Box u.name) u.is_box

    now_root : (k : Found) × (box_at u.name d.roots ≡ Some k) × IsSameBox i.site k
    now_root = root_stays all_rules p i.table.config h.further d w u.name i.site was u.is_root (left_set u.name u.goals)

    reason : HasNoReason now_root.0
    reason = no_reason now_root.0 (subst (λ (y : Place). site_of y d.roots ≡ Some now_root.0) (sym u.is_box) now_root.1)

    site : HasSameSite i.table.config d (Place.Box u.name)
    site = record { before = i.site; afterwards = now_root.0; was = was; is = now_root.1; same = now_root.2 }

    unconcerned : (x : Var) → IsAmong x v.on → ⊥
    unconcerned x m = (root_needs_nothing all_rules p q v.journal i.table.config replayed u.name i.site was u.is_root x).1 (subst (Concerns p i.table.config x) u.is_box (concerned x m))

    root_later : IsIdleStill p d v.place v.on
    root_later = subst (λ (y : Place). IsIdleStill p d y v.on) (sym u.is_box) (record {
      there = site_there (Place.Box u.name) d.roots now_root.0 now_root.1;
      unready = root_still all_rules p i.table.config h.further d w u.name i.site was u.is_root (left_set u.name u.goals) (subst (λ (y : Place). IsReady all_rules p i.table.config y → ⊥) u.is_box was_unready)
          now_root.0 now_root.1 reason.unfailed reason.unsplit;
      enough = record { each = λ x y. absurd ((root_needs_nothing all_rules p q journal d h.replays u.name now_root.0 now_root.1 (sym now_root.2.around ∙ u.is_root) x).0 y) };
      scoped = λ x m. absurd (unconcerned x m);
      oldest = kept_oldest d (Place.Box u.name)
          (oldest_same i.table.config d (good_replay all_rules p q v.journal i.table.config replayed) (good_replay all_rules p q journal d h.replays) (Place.Box u.name) site v.on (subst (λ (y : Place). HasOldestAt i.table.config y v.on) u.is_box i.oldest));
    })

  still_idle : (b : Bool) → v.inside ≡ b → IsIdleStill p d v.place v.on
  still_idle true e = elim (subst (λ (b : Bool). HasWatched b (IsRead v.reads) v.on v.place i.site) e i.watches) [ inl u ↦ inside_later u | inr u ↦ bindings_later u ]
  still_idle false e = root_later (subst (λ (b : Bool). HasWatched b (IsRead v.reads) v.on v.place i.site) e i.watches) (h.no_reason e)

pub idle_later : (v : IdleValue) → IsIdle v → (p : Program) (q : Query) (journal : List Label) (d : Config) → LeavesIdle v p q journal d → IsIdleStill p d v.place v.on
idle_later v i p q journal d h = still_idle v i p q journal d h v.inside refl
