-- What holds of the state that the workers of a run share.
use Rattle.std.specs.Prelude.{◌≡◌, ℕ, Bool, false, List}
use Rattle.scheduler.specs.Schedulers.{SchedulerValue}
use Rattle.par_workers.specs.Shared.{SharedValue, IsShared}
use Rattle.par_workers.specs.Tokens.{AreHeld}

-- the scheduler's core is the state of the run, and the token of each of its open places is held, unless all workers are to stop
pub record IsSharedRun (run : SharedValue) (s : SchedulerValue) (tokens : List ℕ) (stops : Bool) : Type 0 where
  pub shared : IsShared run s.core
  pub held : stops ≡ false → AreHeld s.openings tokens
