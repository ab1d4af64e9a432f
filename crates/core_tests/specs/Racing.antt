-- Plans that a worker makes over a core.
use Rattle.std.specs.Prelude.{◌≡◌, ℕ, ◌≤◌, []}
use Rattle.box_tree.specs.Plans.{PlanValue}
use Rattle.step_commit.specs.Cores.{CoreValue}

-- of the core as it is, by the worker of this number; of one label where there is room for no more
pub record IsPlanBy (c : CoreValue) (number room : ℕ) (p : PlanValue) : Type 0 where
  pub table : p.table ≡ c.table
  pub journal : p.journal ≡ c.journal
  pub worker : p.label.worker ≡ number
  pub alone : room ≤ 1 → p.more ≡ []
