-- The error that says that memory was refused.
use Rattle.std.specs.Prelude.{⊤}
use Rattle.akl_lexemes.specs.declared.error.SyntaxError.{SyntaxError}
use Rattle.akl_lexemes.specs.declared.error.SyntaxError.TheVariants.{Memory}

abbrev pub IsMemory : SyntaxError → Type 0
IsMemory (Memory e) = ⊤
IsMemory _ = ⊥
