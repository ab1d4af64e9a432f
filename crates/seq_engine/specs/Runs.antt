-- The run of one worker.
use Rattle.std.specs.Prelude.{◌≡◌, ◌<◌, ◌+◌, List, [], ◌∷◌, ◌++◌, length, ◌⊎◌}
use Rattle.akl_terms.specs.declared.name.Place.{Place}
use Rattle.akl_model.specs.declared.label.Label.{Label}
use Rattle.akl_model.specs.declared.label.Receipt.{Receipt}
use Rattle.akl_model.specs.Derivations.{IsReady, IsQuietEnd}
use Rattle.box_tree.specs.Tables.{all_rules}
use Rattle.box_tree.specs.Plans.{PlanValue, IsRight}
use Rattle.step_commit.specs.Cores.{CoreValue, KeepsFixed, TableIn}
use Rattle.step_commit.specs.Receipts.{AreReceipts, ArePlannedLast, AreBy, receipts_from}
use Rattle.seq_engine.specs.declared.steps.Stepped.{Stepped}
use Rattle.seq_engine.specs.declared.run.End.{End}
use Rattle.seq_engine.specs.declared.run.Finished.{Finished}

-- a right plan of worker 1 was made of the whole journal, of one label, or of no more than the budget has room for
pub record IsPlanNow (c : CoreValue) (p : PlanValue) : Type 0 where
  pub right : IsRight p
  pub table : p.table ≡ c.table
  pub journal : p.journal ≡ c.journal
  pub worker : p.label.worker ≡ 1
  pub room : (p.more ≡ []) ⊎ (length p.more + length c.journal < c.budget)

-- all labels of the budget are made, and some place is ready
abbrev pub IsSpent : CoreValue → Type 0
IsSpent c = (length c.journal ≡ c.budget) × ((t : TableIn c) → (place : Place) × IsReady all_rules c.table.program t.config place)

-- no place is ready
abbrev pub IsQuiet : CoreValue → Type 0
IsQuiet c = (t : TableIn c) → IsQuietEnd all_rules c.table.program t.config

-- labels of worker 1, planned together by all labels before them, with the receipts of them
pub record Follows (c : CoreValue) (before : List Receipt) (d : CoreValue) (afterwards : List Receipt) : Type 0 where
  pub fixed : KeepsFixed c d
  pub label : Label
  pub more : List Label
  pub unspent : length more + length c.journal < c.budget
  pub journal : d.journal ≡ c.journal ++ label ∷ more
  pub by_one : AreBy 1 (label ∷ more)
  pub receipts : afterwards ≡ before ++ receipts_from (length c.journal + 1) (length c.journal) (label ∷ more)

-- what a step of a run came to, from a core and receipts to others
abbrev pub HasStepped : CoreValue → List Receipt → CoreValue → List Receipt → Stepped → Type 0
HasStepped c rs d ss Stepped.Committed = Follows c rs d ss
HasStepped c rs d ss Stepped.Quiet = (d ≡ c) × (ss ≡ rs) × IsQuiet c
HasStepped c rs d ss Stepped.Spent = (d ≡ c) × (ss ≡ rs) × IsSpent c

-- a core goes on to another by labels of worker 1, which has the receipts of all its labels if it had those of them before
pub record GoesOn (c : CoreValue) (rs : List Receipt) (d : CoreValue) (ss : List Receipt) : Type 0 where
  pub fixed : KeepsFixed c d
  pub further : List Label
  pub journal : d.journal ≡ c.journal ++ further
  pub by_one : AreBy 1 further
  pub receipts : AreReceipts 1 c.journal (rs ∷ []) → AreReceipts 1 d.journal (ss ∷ [])
  pub planned : ArePlannedLast rs → ArePlannedLast ss

-- the receipts are those of the journal's labels, all of worker 1, each planned by all labels before it, or together with the label before it
pub record AreKept (c : CoreValue) (rs : List Receipt) : Type 0 where
  pub receipts : AreReceipts 1 c.journal (rs ∷ [])
  pub planned : ArePlannedLast rs
  pub by_one : AreBy 1 c.journal

abbrev pub EndsAs : CoreValue → End → Type 0
EndsAs c End.Quiet = IsQuiet c
EndsAs c End.Spent = IsSpent c

-- a core with these receipts was run on to an end by worker 1
pub record HasRunOn (c : CoreValue) (rs : List Receipt) (f : Finished) : Type 0 where
  pub goes : GoesOn c rs f.core f.receipts.items
  pub ends : EndsAs f.core f.end

-- the core was run to an end by worker 1, which has the receipts of all labels
pub record HasRun (c : CoreValue) (f : Finished) : Type 0 where
  pub fixed : KeepsFixed c f.core
  pub kept : AreKept f.core f.receipts.items
  pub ends : EndsAs f.core f.end
