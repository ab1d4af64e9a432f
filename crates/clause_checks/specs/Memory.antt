-- The error that says that memory was refused.
use Rattle.std.specs.Prelude.{⊤}
use Rattle.clause_checks.specs.declared.error.LoadError.{LoadError}
use Rattle.clause_checks.specs.declared.error.LoadError.TheVariants.{Memory}

abbrev pub IsMemory : LoadError → Type 0
IsMemory (Memory e) = ⊤
IsMemory _ = ⊥
