-- The limits of what is asked for.
use Rattle.std.specs.Prelude.{◌<◌, ◌≤◌, length}
use Rattle.akl_args.specs.declared.options.Job.{Job}
use Rattle.akl_args.specs.declared.options.Job.TheVariants.{Query, Generate}
use Rattle.akl_args.specs.declared.options.Options.{Options}

-- a query's text isn't empty, and a seed has 32 bits
abbrev pub IsJobWithinLimits : Job → Type 0
IsJobWithinLimits (Query text) = 0 < length text
IsJobWithinLimits (Generate number) = number ≤ 4294967295

pub record IsWithinLimits (options : Options) : Type 0 where
  pub job : IsJobWithinLimits options.job
  pub some_worker : 1 ≤ options.workers
  pub workers : options.workers ≤ 16
  pub some_budget : 1 ≤ options.budget
  pub budget : options.budget ≤ 4000000
