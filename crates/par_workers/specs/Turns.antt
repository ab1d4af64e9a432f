-- What a worker knows in its turns and between them.
use Rattle.std.specs.Prelude.{◌≡◌, ℕ, ◌+◌, ◌≤◌, false, List, length, Option, Some, None}
use Rattle.turn_lock.specs.Histories.{GoesOnBy, GoesOnWithout}
use Rattle.turn_lock.specs.declared.view.View.{View}
use Rattle.akl_model.specs.declared.label.Receipt.{Receipt}
use Rattle.akl_terms.specs.declared.name.Place.{Place}
use Rattle.box_tree.specs.Tables.{table_of}
use Rattle.box_tree.specs.Views.{ViewValue, is_there}
use Rattle.step_commit.specs.Cores.{CoreValue, KeepsFixed}
use Rattle.place_steps.specs.declared.next.Next.{Next}
use Rattle.place_steps.specs.Seen.{IsSeen, IsSight, view_in}
use Rattle.place_steps.specs.Next.{IsNext}
use Rattle.par_workers.specs.declared.made.Made.{Made}
use Rattle.par_workers.specs.declared.concluding.Planned.{Planned}
use Rattle.par_workers.specs.declared.choosing.Chosen.{Chosen}
use Rattle.par_workers.specs.declared.looking.Sight.{Sight}
use Rattle.par_workers.specs.Shared.{SharedValue, maker, labels_in, core_after, AreReceiptsOf}

-- the run as a pass has seen it
abbrev pub run_seen : View CoreValue Made → SharedValue
run_seen v = record { begun = v.fixed; past = v.seen }

-- a view that a worker took of the run
pub record IsTakenOf (s : SharedValue) (worker : ℕ) (v : ViewValue) : Type 0 where
  pub table : v.table ≡ (core_after s.begun s.past).table
  pub journal : v.journal ≡ labels_in s.past
  pub seer : v.worker ≡ worker
  pub fixed : KeepsFixed s.begun (core_after s.begun s.past)

-- the view of what was seen
abbrev pub view_of : Sight → ViewValue
view_of (Sight.Whole seen) = view_in seen
view_of (Sight.Early seen) = view_in seen
view_of (Sight.Tried view) = view

-- of a place that was seen whole, all was seen that tells what comes next there
abbrev pub HasSeen : Sight → Type 0
HasSeen (Sight.Whole seen) = IsSeen seen
HasSeen (Sight.Early seen) = IsSeen seen
HasSeen (Sight.Tried view) = Unit {0}

-- a worker saw a place, or the place isn't there
abbrev pub IsSightBy : CoreValue → Place → ℕ → Option Sight → Type 0
IsSightBy c place worker None = is_there (table_of c.table) place ≡ false
IsSightBy c place worker (Some s) = HasSeen s × IsSight c place worker (view_of s)

-- a worker saw a place, whichever it is
abbrev pub IsSightOf : CoreValue → ℕ → Sight → Type 0
IsSightOf c worker s = HasSeen s × ((place : Place) × IsSight c place worker (view_of s))

-- a worker saw a place of the run
abbrev pub IsSeenIn : SharedValue → ℕ → Sight → Type 0
IsSeenIn s worker sight = HasSeen sight × IsTakenOf s worker (view_of sight)

abbrev pub IsChosenIn : SharedValue → ℕ → Chosen → Type 0
IsChosenIn s worker (Chosen.At look) = IsSeenIn s worker look.sight
IsChosenIn s worker Chosen.Wait = Unit {0}
IsChosenIn s worker Chosen.End = Unit {0}

-- what comes next at a place, as a worker found it by a view of the run
pub record IsFoundIn (s : SharedValue) (worker : ℕ) (n : Next) : Type 0 where
  pub view : ViewValue
  pub next : IsNext view n
  pub taken : IsTakenOf s worker view

-- the same of a run that has gone on since without labels of the worker
pub record IsFoundBefore (s : SharedValue) (worker : ℕ) (n : Next) : Type 0 where
  pub seen : List Made
  pub goes : GoesOnWithout maker worker seen s.past
  pub found : IsFoundIn (record { begun = s.begun; past = seen }) worker n

-- the worker of this number has this pass
abbrev pub IsNumber : ℕ → View CoreValue Made → Type 0
IsNumber number v = (v.number ≡ number) × (1 ≤ number) × (number ≤ v.fixed.workers)

-- a run goes on by plans of a worker, which has the receipts of all its labels if it had those of them before
pub record HasConcluded (worker : ℕ) (s : SharedValue) (rs : List Receipt) (d : SharedValue) (ss : List Receipt) : Type 0 where
  pub begun : d.begun ≡ s.begun
  pub goes : GoesOnBy maker worker s.past d.past
  pub receipts : AreReceiptsOf worker s.past rs → AreReceiptsOf worker d.past ss

-- of how many labels there is to be room for the receipts
abbrev pub label_count : Option Planned → ℕ
label_count None = 0
label_count (Some p) = of_next p.next
  where
    of_next : Option Next → ℕ
    of_next None = 0
    of_next (Some (Next.Plan plan)) = length plan.more + 1
    of_next (Some (Next.Idle idle)) = 0
