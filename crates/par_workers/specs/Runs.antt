-- The run of several workers.
use Rattle.std.specs.Prelude.{◌≡◌, List, Vec, length}
use Rattle.std.specs.Global.{Global}
use Rattle.akl_model.specs.declared.label.Receipt.{Receipt}
use Rattle.step_commit.specs.Cores.{CoreValue, KeepsFixed}
use Rattle.step_commit.specs.Receipts.{AreReceipts}
use Rattle.seq_engine.specs.Runs.{EndsAs}
use Rattle.par_workers.specs.declared.run.Finished.{Finished}
use Rattle.par_workers.specs.Shared.{AreByWorkers}
use Rattle.par_workers.specs.Crews.{lists}

-- a core went on to another by labels of its workers, and there is a list for each of them, which has its receipts of all labels
pub record AreShared (c d : CoreValue) (receipts : List (Vec Receipt Global)) : Type 0 where
  pub fixed : KeepsFixed c d
  pub labels : AreByWorkers c.workers d.journal
  pub count : length receipts ≡ c.workers
  pub kept : AreReceipts 1 d.journal (lists receipts)

-- the core was run to an end
pub record HasRunMany (c : CoreValue) (f : Finished) : Type 0 where
  pub shared : AreShared c f.core f.receipts.items
  pub ends : EndsAs f.core f.end

-- worker 1 has gone on from where the workers had come, to an end
abbrev pub HasGoneOn : CoreValue → List (Vec Receipt Global) → Finished → Type 0
HasGoneOn c receipts f = (begun : CoreValue) → AreShared begun c receipts → HasRunMany begun f
