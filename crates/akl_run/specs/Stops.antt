-- How a command stops early: of which the clauses of private functions speak.
use Rattle.std.specs.Prelude.{◌≡◌}
use Rattle.akl_outside.specs.declared.transfer.ReadError.{ReadError}
use Rattle.akl_outside.specs.declared.transfer.ReadError.TheVariants as read_errors
use Rattle.akl_args.specs.declared.options.WordsError.{WordsError}
use Rattle.akl_args.specs.declared.options.WordsError.TheVariants as words_errors
use Rattle.akl_lexemes.specs.declared.error.SyntaxError.{SyntaxError}
use Rattle.akl_lexemes.specs.declared.error.SyntaxError.TheVariants as syntax_errors
use Rattle.clause_checks.specs.declared.error.LoadError.{LoadError}
use Rattle.clause_checks.specs.declared.error.LoadError.TheVariants as load_errors
use Rattle.akl_run.specs.declared.report.Status.{Status}
use Rattle.akl_run.specs.declared.report.Refusal.{Refusal}
use Rattle.akl_run.specs.declared.stop.Stop.{Stop}

abbrev pub IsStop : Status → Refusal → Stop → Type 0
IsStop s f stop = stop ≡ record { status = s; refusal = f }

-- words are refused, unless memory was
abbrev pub IsWordsStop : WordsError → Stop → Type 0
IsWordsStop (words_errors.Memory e) stop = IsStop Status.NoMemory Refusal.Nothing stop
IsWordsStop e stop = IsStop Status.Words (Refusal.Words e) stop

-- a text is refused with this status, unless memory was refused
abbrev pub IsTextStop : Status → SyntaxError → Stop → Type 0
IsTextStop s (syntax_errors.Memory e) stop = IsStop Status.NoMemory Refusal.Nothing stop
IsTextStop s e stop = IsStop s (Refusal.TextOf e) stop

abbrev pub IsLoadingStop : Status → LoadError → Stop → Type 0
IsLoadingStop s (load_errors.Memory e) stop = IsStop Status.NoMemory Refusal.Nothing stop
IsLoadingStop s e stop = IsStop s (Refusal.Loading e) stop

abbrev pub IsReadStop : ReadError → Stop → Type 0
IsReadStop read_errors.Failed stop = IsStop Status.ReadFault Refusal.Nothing stop
IsReadStop (read_errors.Memory e) stop = IsStop Status.NoMemory Refusal.Nothing stop
