-- Plans that were made of the whole journal.
use Rattle.std.proofs.Common.{◌≡◌, ℕ, ◌+◌, ◌-◌, ◌<◌, ◌≤◌, List, [], ◌∷◌, ◌++◌, length, drop, Option, Some, sym, ◌∙◌, ap, subst, ◌⊎◌, inl, inr, arith}
use Rattle.std.proofs.Math.Seq.{drop-append_seam}
use Rattle.akl_terms.specs.declared.name.Place.{Place}
use Rattle.akl_model.specs.declared.item.Item.{Item}
use Rattle.akl_model.specs.declared.label.Label.{Label}
use Rattle.akl_model.specs.declared.label.Receipt.{Receipt}
use Rattle.akl_model.specs.Config.{Config, site_of}
use Rattle.akl_model.specs.Instances.{start}
use Rattle.akl_model.specs.Derivations.{Applies, IsReady}
use Rattle.akl_model.proofs.Results.{Derives-one}
use Rattle.akl_model.proofs.QuietEnds.{some_place_ready}
use Rattle.table_laws.specs.Stamped.{IsTableOf}
use Rattle.box_tree.specs.Tables.{all_rules, TableValue, table_of}
use Rattle.box_tree.specs.Views.{ViewValue, run_of}
use Rattle.box_tree.specs.Plans.{PlanValue, IsRight}
use Rattle.guard_plan.specs.Planned.{IsPlanOf}
use Rattle.idle_places.specs.Idling.{IdleValue}
use Rattle.place_steps.specs.declared.next.Next.{Next}
use Rattle.place_steps.specs.Next.{HasRoom}
use Rattle.place_steps.specs.Seen.{IsSight}
use Rattle.stable_test.proofs.FirstApplies.{FirstApplies, first_applies}
use Rattle.step_commit.specs.declared.commit.CommitError.{CommitError}
use Rattle.step_commit.specs.Cores.{CoreValue, MayCommit, IsStale, IsRefused, Commits}
use Rattle.step_commit.specs.Receipts.{AreBy, receipts_from}
use Rattle.scheduler.specs.Settled.{MaySettle, IsSeenEnough}
use Rattle.scheduler.specs.Schedulers.{SchedulerValue}
use Rattle.scheduler.proofs.Fronts as fronts
use Rattle.scheduler.proofs.Fronts.{front_now}
use Rattle.seq_engine.specs.Runs.{IsPlanNow, IsSpent, Follows}
use Rattle.seq_engine.specs.Attending.{IsIdleNow}
use Rattle.seq_engine.proofs.OneWorker.{labels_by}

-- a plan of a view of the whole journal, of one label, or with room for all
pub plan_now : (c : CoreValue) (place : Place) (v : ViewValue) (p : PlanValue) → IsSight c place 1 v → IsPlanOf v p → (p.more ≡ []) ⊎ (length p.more + length c.journal < c.budget) → IsPlanNow c p
plan_now c place v p s x room = record { right = x.right; table = x.table ∙ s.table; journal = x.journal ∙ s.journal; worker = x.worker ∙ s.seer; room = room }

-- by what the budget has left
pub next_now : (c : CoreValue) (place : Place) (v : ViewValue) (p : PlanValue) (left : ℕ) → IsSight c place 1 v → IsPlanOf v p → HasRoom left (Next.Plan p) → length c.journal + left ≡ c.budget → IsPlanNow c p
next_now c place v p left s x (inl alone) e = plan_now c place v p s x (inl alone)
next_now c place v p left s x (inr less) e = plan_now c place v p s x (inr (omega (arith, less, e)))

-- it shows that some place is ready

abbrev HasReady : TableValue → List Label → Type 0
HasReady t j = (x : IsTableOf all_rules (run_of t j) (table_of t)) → (place : Place) × IsReady all_rules t.program x.config place

planned_ready : (p : PlanValue) → IsRight p → HasReady p.table p.journal
planned_ready p r x =
    let w : FirstApplies p = first_applies p r in
    let same : w.table.config ≡ x.config = Derives-one all_rules p.table.program (start p.table.program p.table.query) w.table.config x.config p.journal w.table.replays.derives x.replays.derives in
    some_place_ready all_rules p.table.program p.table.query p.journal x.config x.replays p.label w.result (subst (λ (k : Config). Applies all_rules p.table.program k p.label w.result) same w.applies)

pub spent : (c : CoreValue) (p : PlanValue) → IsPlanNow c p → length c.journal ≡ c.budget → IsSpent c
spent c p x b = (b, subst (λ (j : List Label). HasReady c.table j) x.journal (subst (λ (t : TableValue). HasReady t p.journal) x.table (planned_ready p x.right)))

-- it may be committed, and isn't stale

pub may_commit : (c : CoreValue) (p : PlanValue) → IsPlanNow c p → MayCommit c p
may_commit c p x = fronts.may_commit c p [] (front_now c p.table p.journal x.table x.journal) tt

-- and what was found idle may be settled
pub may_settle : (s : SchedulerValue) (i : IdleValue) → IsIdleNow s i → MaySettle s.core i
may_settle s i x = fronts.may_settle s.core i [] (front_now s.core i.table i.journal x.table x.journal)

-- without a look inside
pub seen_enough : (s : SchedulerValue) (i : IdleValue) → IsIdleNow s i → IsSeenEnough s i
seen_enough s i x outside n e = record {
  at_rest = x.at_rest n e;
  no_reason = λ t f is. x.no_reason outside t f (subst (λ (p : Place). site_of p t.config.roots ≡ Some f) (sym e) is);
}

-- nothing that was read of the whole journal is stale
pub not_stale : (c : CoreValue) (seen : List Label) (reads : List Item) (i : Item) (o : Option ℕ) → seen ≡ c.journal → IsStale c seen reads i o → ⊥
not_stale c seen reads i o e x =
    let within : x.number ≤ length c.journal = x.within in
    let unseen : length seen < x.number = x.unseen in
    let same : length seen ≡ length c.journal = ap length e in
    absurd (omega (arith, within, unseen, same))

-- and has room in the budget
pub not_short : (c : CoreValue) (p : PlanValue) (left : ℕ) → IsPlanNow c p → IsRefused c p (CommitError.Short left) → ⊥
not_short c p left x r = on x.room
  where
    on : (p.more ≡ []) ⊎ (length p.more + length c.journal < c.budget) → ⊥
    on (inl alone) = let none : length p.more ≡ 0 = ap length alone in let some : 0 < left = r.1 in let few : left ≤ length p.more = r.2 in absurd (omega (arith, none, some, few))
    on (inr less) = let all : length c.journal + left ≡ c.budget = r.0 in let few : left ≤ length p.more = r.2 in absurd (omega (arith, less, all, few))

-- the labels of a commit are those of the journal from the first one on
pub last_labels : (c d : CoreValue) (p : PlanValue) (r : Receipt) → Commits c p d r → drop (r.at - 1) d.journal ≡ p.label ∷ p.more
last_labels c d p r x =
    let e : r.at ≡ length c.journal + 1 = ap (λ (z : Receipt). z.at) x.receipt in
    let n : r.at - 1 ≡ length c.journal = omega (arith, e) in
    (λ i. drop (n i) (x.journal i)) ∙ drop-append_seam c.journal (p.label ∷ p.more)

pub follows : (c d : CoreValue) (p : PlanValue) (r : Receipt) (before afterwards : List Receipt) → IsPlanNow c p → Commits c p d r → afterwards ≡ before ++ receipts_from r.at r.seen (drop (r.at - 1) d.journal)
    → Follows c before d afterwards
follows c d p r before afterwards now x e = record {
  fixed = x.fixed;
  label = p.label;
  more = p.more;
  unspent = x.fresh.unspent;
  journal = x.journal;
  by_one = subst (λ (w : ℕ). AreBy w (p.label ∷ p.more)) now.worker (labels_by p now.right);
  receipts = e ∙ ap (λ (ls : List Label). before ++ receipts_from r.at r.seen ls) (last_labels c d p r x)
      ∙ ap (λ (z : Receipt). before ++ receipts_from z.at z.seen (p.label ∷ p.more)) x.receipt
      ∙ ap (λ (ls : List Label). before ++ receipts_from (length c.journal + 1) (length ls) (p.label ∷ p.more)) now.journal;
}
