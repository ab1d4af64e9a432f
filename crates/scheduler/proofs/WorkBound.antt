-- What a commit counts is its work.
use Rattle.std.proofs.Common.{◌≡◌, ℕ, ◌+◌, ◌≤◌, length, true, List, [], ◌∷◌, ◌++◌, refl, inl, inr, arith}
use Rattle.akl_terms.specs.declared.name.Var.{Var}
use Rattle.akl_terms.specs.declared.name.Place.{Place}
use Rattle.akl_model.specs.Config.{Config}
use Rattle.akl_model.specs.Wakes.{Wait, IsKept, IsOneOf}
use Rattle.akl_model.proofs.NamesKept.{replay-stands}
use Rattle.box_tree.specs.Tables.{all_rules, step_in}
use Rattle.box_tree.specs.Plans.{PlanValue, IsRight}
use Rattle.opened_places.specs.Placed.{PlacedValue, places_of}
use Rattle.opened_places.specs.Gone.{AreGone, AreAllGone}
use Rattle.opened_places.proofs.Leading.{derives_by}
use Rattle.opened_places.proofs.Members.{one_either}
use Rattle.step_commit.specs.Cores.{MayCommit, IsFresh, TableIn}
use Rattle.wake_lists.specs.Waits.{waits_on}
use Rattle.scheduler.specs.Effects.{AreOpenedBy}
use Rattle.scheduler.specs.Listing.{AreListedFor}
use Rattle.scheduler.specs.Schedulers.{SchedulerValue, IsScheduler}
use Rattle.scheduler.specs.Once.{IsEachPlaceOnce}
use Rattle.scheduler.specs.Work.{Work, contents, boxes_around_all, steps_of, IsEachWaitOnce, EndsWaits, IsLabelWork, IsWorkOf, TakesSteps}
use Rattle.scheduler.specs.Counting.{place_steps, OpenSomeBySteps, DropBySteps, TakesLabelSteps}
use Rattle.scheduler.proofs.Effecting.{opened_so}
use Rattle.scheduler.proofs.PlacedThose.{of_placed}
use Rattle.scheduler.proofs.PlanNow.{IsMadeAt, made_now}

steps_are : (ps : List PlacedValue) → place_steps ps ≡ length ps + boxes_around_all ps
steps_are [] = refl
steps_are (p ∷ ps) = let r : place_steps ps ≡ length ps + boxes_around_all ps = steps_are ps in omega arith

-- the work of a plan, by the places that are taken away, those that are opened, and the waits that are taken
abbrev work_by : PlanValue → List Place → List PlacedValue → List Wait → Work
work_by p gs ps ws = record { reads = length p.reads; labels = length p.more; writes = contents p.step + length gs; opened = length ps; around = boxes_around_all ps; waits = length ws }

module _ (s : SchedulerValue) (h : IsScheduler s) (p : PlanValue) (right : IsRight p) (may : MayCommit s.core p) (fresh : IsFresh s.core p) (gone : List Place) (are_gone : AreGone s.core.table p.label p.step gone)
    (gone_once : IsEachPlaceOnce gone) (ps : List PlacedValue) (listed : AreListedFor s.core.table s.waits p gone ps) where
  abbrev t : TableIn s.core
  t = h.core.table

  made : IsMadeAt s.core.table.program t.config p.label p.more (step_in s.core.table p.label p.step) p.binds
  made = made_now s.core h.core p right may fresh t

  abbrev d : Config
  d = made.result

  all_gone : AreAllGone t.config d gone
  all_gone = are_gone s.core.journal t p.more d made.made.leads

  opened : AreOpenedBy t.config d h.kept ps
  opened = opened_so s.core.table s.core.journal t p d made.made gone all_gone h.now h.kept h.waits s.waits h.listed ps listed

  ends : (place : Place) → IsOneOf place (places_of ps ++ gone) → EndsWaits h.kept t.config d place
  ends place i = elim (one_either place (places_of ps) gone i) [ inl j ↦ EndsWaits.opens (opened.opened place j) | inr j ↦ EndsWaits.goes (all_gone.gone place j) ]

  -- some of the places that go
  record IsGoing : Type 0 where
    going : List Place
    among : (place : Place) → IsOneOf place going → IsOneOf place gone
    once : IsEachPlaceOnce going

  -- waits of these places, and of those that go
  record AreTaken : Type 0 where
    taken : List Wait
    waited : (place : Place) (x : Var) → IsKept taken place x → waits_on s.waits place x ≡ true
    of_places : (place : Place) (x : Var) → IsKept taken place x → IsOneOf place (places_of ps ++ gone)
    once : IsEachWaitOnce taken

  label_work : (n m : ℕ) (g : IsGoing) (a : OpenSomeBySteps ps n m) (b : AreTaken) → IsLabelWork h.kept t.config d p.step (work_by p g.going a.some b.taken)
  label_work n m g a b = record {
    gone = g.going;
    each_goes = λ q i. all_gone.gone q (g.among q i);
    gone_once = g.once;
    writes = refl;
    places = a.some;
    each_opens = λ q i. record { opens = opened.opened q.place (of_placed q ps (a.among q i)); around = opened.around q (a.among q i) };
    places_once = a.once;
    opened = refl;
    around = refl;
    ended = b.taken;
    each_kept = λ q x i. h.listed.all q x (b.waited q x i);
    each_ends = λ q x i. ends q (b.of_places q x i);
    ended_once = b.once;
    waits = refl;
  }

  steps_within : (n m k j : ℕ) → m ≡ n + (contents p.step + length p.more) → OpenSomeBySteps ps m k → (g : IsGoing) (b : AreTaken) → j ≡ k + length g.going + length b.taken → TakesLabelSteps s p n j
  steps_within n m k j e a g b i = record {
    work = work_by p g.going a.some b.taken;
    is_work = IsWorkOf.labels t d h.kept (derives_by s.core.table.program t.config p.label p.more (step_in s.core.table p.label p.step) d (replay-stands all_rules s.core.table.program s.core.table.query s.core.journal t.config t.replays) made.made.leads)
        h.listed refl refl (label_work m k g a b);
    within =
        let f : k ≡ m + place_steps a.some = a.steps in
        let x : place_steps a.some ≡ length a.some + boxes_around_all a.some = steps_are a.some in
        omega arith;
  }

  -- until the places are open, and until their waits are dropped
  pub opening_within : (n m k : ℕ) → m ≡ n + (contents p.step + length p.more) → OpenSomeBySteps ps m k → TakesLabelSteps s p n k
  opening_within n m k e a = steps_within n m k k e a (record { going = []; among = λ q i. absurd i; once = tt }) (record { taken = []; waited = λ q x i. absurd i; of_places = λ q x i. absurd i; once = tt }) (omega arith)

  pub dropping_within : (n m k j : ℕ) → m ≡ n + (contents p.step + length p.more) → OpenSomeBySteps ps m k → DropBySteps s.waits (places_of ps ++ gone) (k + length gone) j → TakesLabelSteps s p n j
  dropping_within n m k j e a b = steps_within n m k j e a (record { going = gone; among = λ q i. i; once = gone_once }) (record { taken = b.taken; waited = b.waited; of_places = b.of_places; once = b.once }) b.steps

-- with the stamps
pub stamps_within : (s : SchedulerValue) (p : PlanValue) (n m : ℕ) → m ≡ n + length p.reads → TakesSteps s p n m
stamps_within s p n m e = record { work = record { reads = length p.reads; labels = 0; writes = 0; opened = 0; around = 0; waits = 0 }; is_work = IsWorkOf.looks refl; within = omega arith }

pub all_within : (s : SchedulerValue) (p : PlanValue) (n m k : ℕ) → m ≡ n + length p.reads → TakesLabelSteps s p m k → TakesSteps s p n k
all_within s p n m k e f = let g : k + length p.reads ≤ m + steps_of f.work = f.within in record { work = f.work; is_work = f.is_work; within = omega arith }

-- before the label is made
pub label_within : (s : SchedulerValue) (p : PlanValue) (n : ℕ) → TakesLabelSteps s p n n
label_within s p n = stamps_within s p n (n + length p.reads) refl
