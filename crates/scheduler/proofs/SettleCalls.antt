-- What the calls of a settle say.
use Rattle.std.proofs.Common.{◌≡◌, ℕ, Bool, true, false, List, length, Option, Some, None, refl, sym, ap, subst, ◌∙◌}
use Rattle.std.specs.Prelude.{is_some, option_map}
use Rattle.akl_terms.specs.declared.name.Name.{Name}
use Rattle.akl_terms.specs.declared.name.Var.{Var}
use Rattle.akl_terms.specs.declared.name.Place.{Place}
use Rattle.akl_model.specs.declared.item.Item.{Item}
use Rattle.wake_lists.specs.declared.turn.Urgency.{Urgency}
use Rattle.wake_lists.specs.Open.{Openings, IsOpen, IsOpened, closed}
use Rattle.wake_lists.specs.Waits.{waits_on}
use Rattle.box_tree.specs.Tables.{TableValue, table_of}
use Rattle.step_commit.specs.Cores.{CoreValue, IsCore, IsStale, IsFirstStale}
use Rattle.step_commit.proofs.Stale.{stale, unchanged_here, all_within}
use Rattle.step_commit.proofs.Made.{found_as}
use Rattle.idle_places.specs.Idling.{IdleValue, IsIdle}
use Rattle.opened_places.specs.Placed.{PlacedValue, HasAround}
use Rattle.scheduler.specs.Openings.{IsOpenAt}
use Rattle.scheduler.specs.Dropping.{closed_one}
use Rattle.scheduler.specs.Schedulers.{SchedulerValue, IsScheduler}
use Rattle.scheduler.specs.Settling.{OpensCandidate}
use Rattle.scheduler.specs.Settled.{MaySettle, IsFreshIdle, IsSeenEnough, IsFoundIdle, Settles}
use Rattle.scheduler.proofs.DroppedWaits.{Waiting}
use Rattle.scheduler.proofs.KeptTokens.{same_keeps}
use Rattle.scheduler.proofs.OpeningLists.{put_out}
use Rattle.scheduler.proofs.OpenedMore.{not_open, its_open}
use Rattle.scheduler.proofs.SettleKept.{idle_looked, idle_now}
use Rattle.scheduler.proofs.Reasons.{seen_reason}

-- the first item that was changed, or none
pub stale_so : (c : CoreValue) (k : IsCore c) (v : IdleValue) (i : IsIdle v) (m : MaySettle c v) (xs : List Item) (n : ℕ) (o : Option (Item × Option ℕ)) (item : Item) (stamp : Option ℕ) → xs ≡ v.reads → n ≡ length v.journal
    → o ≡ Some (item, stamp) → IsFirstStale c.table xs n o → IsStale c v.journal v.reads item stamp
stale_so c k v i m xs n o item stamp e f g h = stale c k v.table v.journal v.reads (idle_looked c v i m) item stamp (found_as c.table xs v.reads n (length v.journal) o (Some (item, stamp)) e f g h)

pub fresh_so : (c : CoreValue) (k : IsCore c) (v : IdleValue) (i : IsIdle v) (m : MaySettle c v) (xs : List Item) (n : ℕ) (o : Option (Item × Option ℕ)) → xs ≡ v.reads → n ≡ length v.journal → o ≡ None → IsFirstStale c.table xs n o
    → IsFreshIdle c v
fresh_so c k v i m xs n o e f g h = record { unchanged = λ j r. unchanged_here c k v.table v.journal v.reads (idle_looked c v i m) j (found_as c.table xs v.reads n (length v.journal) o None e f g h j r) }

-- so a place that was seen enough is idle now
pub idle_so : (s : SchedulerValue) (k : IsCore s.core) (v : IdleValue) (i : IsIdle v) (m : MaySettle s.core v) → IsSeenEnough s v → IsFreshIdle s.core v → IsFoundIdle s.core v.place v.on
idle_so s k v i m seen fresh = idle_now s.core k v i m (seen_reason s v i seen) (all_within s.core k v.table v.journal v.reads (idle_looked s.core v i m) fresh.unchanged)

-- a place that is open waits on nothing
pub waits_none : (s : SchedulerValue) → IsScheduler s → (place : Place) → IsOpenAt s.openings place → (x : Var) → waits_on s.waits place x ≡ false
waits_none s h place w x = on (waits_on s.waits place x) refl
  where
    on : (b : Bool) → waits_on s.waits place x ≡ b → b ≡ false
    on true e = absurd (h.waits.closed place x (h.listed.all place x e) (h.are_open.all place w))
    on false e = refl

-- one that isn't open is left alone
pub left_alone : (s : SchedulerValue) (place : Place) (on : List Var) → IsOpen s.openings place None → Settles s place on s None
left_alone s place on o = record {
  core = refl;
  unopened = λ n. (refl, refl);
  settled = λ w. absurd (not_open s.openings place o w);
  lighter = λ w. absurd (not_open s.openings place o w);
  keeps = same_keeps s.openings;
}

-- the nearest box
module _ (v : TableValue) (before : Openings) (near : Option Name) (n : Name) (is_near : near ≡ Some n) where
  pub candidate_open : (r : Option ℕ) → is_some r ≡ true → IsOpen before (Place.Box n) r → OpensCandidate v before near before None
  candidate_open None e o = cc
  candidate_open (Some t) e o = OpensCandidate.was_open n is_near (its_open before (Place.Box n) t o) refl refl

  pub candidate_gone : (found : Option PlacedValue) → found ≡ None → HasAround v (Place.Box n) (option_map (λ p. p.around) found) → OpensCandidate v before near before None
  candidate_gone found e a = OpensCandidate.isnt_there n is_near (subst (λ (o : Option PlacedValue). HasAround v (Place.Box n) (option_map (λ p. p.around) o)) e a) refl refl

  pub candidate_comes : (found : Option PlacedValue) (x : PlacedValue) (around : List Name) (now : Openings) (t : ℕ) → found ≡ Some x → HasAround v (Place.Box n) (option_map (λ p. p.around) found) → around ≡ x.around
      → IsOpen before (Place.Box n) None → IsOpened before now (Place.Box n) around Urgency.Ordinary t → OpensCandidate v before near now (Some t)
  candidate_comes found x around now t e a same none (IsOpened.was_open o f g h) = absurd (not_open before (Place.Box n) none (record { token = t; opening = o; is_open = f; of_place = g }))
  candidate_comes found x around now t e a same none (IsOpened.is_new u un least g last w) = OpensCandidate.comes n t (record { place = Place.Box n; turn = u; boxes = around }) is_near (not_open before (Place.Box n) none) least.free refl
      (subst (λ (ns : List Name). HasAround v (Place.Box n) (Some ns)) (sym same) (subst (λ (o : Option PlacedValue). HasAround v (Place.Box n) (option_map (λ p. p.around) o)) e a)) w refl

-- closing it undoes it
pub candidate_back : (v : TableValue) (before : Openings) (near : Option Name) (now : Openings) (found : Option ℕ) → OpensCandidate v before near now found → closed_one found now ≡ before
candidate_back v before near now found (OpensCandidate.no_box e m f) = ap (λ (o : Option ℕ). closed_one o now) f ∙ m
candidate_back v before near now found (OpensCandidate.was_open n e w m f) = ap (λ (o : Option ℕ). closed_one o now) f ∙ m
candidate_back v before near now found (OpensCandidate.isnt_there n e a m f) = ap (λ (o : Option ℕ). closed_one o now) f ∙ m
candidate_back v before near now found (OpensCandidate.comes n t o e un free of_box a m f) = ap (λ (z : Option ℕ). closed_one z now) f ∙ ap (closed t) m ∙ put_out t o before free

-- other lists of the same waits
pub same_scheduler : (s : SchedulerValue) → IsScheduler s → (os : Openings) (ws : Waiting) → os ≡ s.openings → ((p : Place) (x : Var) → waits_on ws p x ≡ waits_on s.waits p x) → IsScheduler (record { core = s.core; openings = os; waits = ws })
same_scheduler s h os ws e w = subst (λ (z : Openings). IsScheduler (record { core = s.core; openings = z; waits = ws })) (sym e) (record {
  core = h.core;
  now = h.now;
  are_open = h.are_open;
  kept = h.kept;
  listed = record { all = λ p x i. h.listed.all p x (sym (w p x) ∙ i); only = λ p x k. w p x ∙ h.listed.only p x k };
  run = h.run;
  waits = h.waits;
  apart = h.apart;
  standing = h.standing;
})
