-- The number of each status.
use Rattle.std.specs.Prelude.{ℕ}
use Rattle.akl_run.specs.declared.report.Status.{Status}

abbrev pub number_of : Status → ℕ
number_of Status.Done = 0
number_of Status.Failed = 1
number_of Status.Suspended = 2
number_of Status.Budget = 3
number_of Status.Words = 4
number_of Status.Program = 5
number_of Status.Query = 6
number_of Status.ReadFault = 7
number_of Status.WriteFault = 8
number_of Status.NoMemory = 9
