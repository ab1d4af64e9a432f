-- What the workers of a run share.
use Rattle.std.specs.Prelude.{◌≡◌, ℕ, ◌+◌, ◌≤◌, ◌<◌, List, [], ◌∷◌, ◌++◌, length}
use Rattle.akl_model.specs.declared.label.Label.{Label}
use Rattle.akl_model.specs.declared.label.Receipt.{Receipt}
use Rattle.table_laws.specs.Kept.{KeepsStores}
use Rattle.box_tree.specs.Tables.{TableValue, table_of}
use Rattle.step_commit.specs.Cores.{CoreValue, KeepsFixed}
use Rattle.step_commit.specs.Receipts.{AreReceiptsBy}
use Rattle.par_workers.specs.declared.made.Made.{Made}

-- the core with which a run began, and the plans whose labels were made since, each with the table after them
pub record SharedValue : Type 0 where
  pub begun : CoreValue
  pub past : List Made

-- the labels of the plan
abbrev pub labels_made : Made → List Label
labels_made m = m.plan.value.label ∷ m.plan.value.more

-- the worker that made them
abbrev pub maker : Made → ℕ
maker m = m.plan.value.label.worker

abbrev pub labels_in : List Made → List Label
labels_in [] = []
labels_in (m ∷ ms) = labels_made m ++ labels_in ms

-- the table after the last of the plans; the first one where there are none
abbrev pub table_after : TableValue → List Made → TableValue
table_after first [] = first
table_after first (m ∷ ms) = table_after m.table.value ms

-- the core to which the plans led
abbrev pub core_after : CoreValue → List Made → CoreValue
core_after begun past = record { table = table_after begun.table past; journal = labels_in past; workers = begun.workers; budget = begun.budget }

-- each label is by one of the workers 1 to so many
abbrev pub AreByWorkers : ℕ → List Label → Type 0
AreByWorkers workers [] = Unit {0}
AreByWorkers workers (l ∷ ls) = (1 ≤ l.worker) × (l.worker ≤ workers) × AreByWorkers workers ls

-- a table has the stores of the one before it, but for those that came with one label, behind the first ones, so many as are given
abbrev pub KeepsAfter : ℕ → TableValue → TableValue → Type 0
KeepsAfter count t u = (number : ℕ) × (count < number) × KeepsStores number (table_of t) (table_of u)

-- each table has the stores of the one before it, but for those that came with one of its own labels, where so many labels were made before
abbrev pub KeepStores : ℕ → TableValue → List Made → Type 0
KeepStores count t [] = Unit {0}
KeepStores count t (m ∷ ms) = KeepsAfter count t m.table.value × KeepStores (count + length (labels_made m)) m.table.value ms

-- the core is that to which the plans led, with the fixed part of the first one; the workers are those of the run, and stores stay until labels change them
pub record IsShared (s : SharedValue) (c : CoreValue) : Type 0 where
  pub core : c ≡ core_after s.begun s.past
  pub fixed : KeepsFixed s.begun c
  pub workers : AreByWorkers s.begun.workers (labels_in s.past)
  pub stores : KeepStores 0 s.begun.table s.past

-- the receipts are the worker's labels, each once and in order
abbrev pub AreReceiptsOf : ℕ → List Made → List Receipt → Type 0
AreReceiptsOf worker past = AreReceiptsBy worker (labels_in past)
