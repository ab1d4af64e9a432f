-- The line that a refused command gets.
use Rattle.std.specs.Prelude.{ℕ, List, [], ◌++◌, Option, Some, None, codes}
use Rattle.std.specs.Option.{unwrap_or}
use Rattle.std.specs.Fmt.{decimal}
use Rattle.akl_terms.specs.declared.program.Key.{Key}
use Rattle.akl_lexemes.specs.declared.error.SyntaxError.{SyntaxError}
use Rattle.akl_lexemes.specs.declared.error.SyntaxError.TheVariants as syntax_errors
use Rattle.akl_args.specs.declared.options.WordsError.{WordsError}
use Rattle.akl_args.specs.declared.options.WordsError.TheVariants as words_errors
use Rattle.answer_text.specs.SymbolText.{symbol_text}
use Rattle.clause_checks.specs.declared.error.Limit.{Limit}
use Rattle.clause_checks.specs.declared.error.Limit.TheVariants as limits
use Rattle.clause_checks.specs.declared.error.LoadError.{LoadError}
use Rattle.clause_checks.specs.declared.error.LoadError.TheVariants as load_errors
use Rattle.akl_run.specs.declared.report.Status.{Status}
use Rattle.akl_run.specs.declared.report.Refusal.{Refusal}

-- the symbol as it is written in an answer, `/`, and the number of arguments
abbrev pub key_text : Key → List ℕ
key_text k = symbol_text k.symbol ++ codes "/" ++ decimal k.arity

abbrev pub kind_of : Limit → List ℕ
kind_of limits.Clauses = codes "clauses"
kind_of limits.PerDefinition = codes "clauses of one definition"
kind_of limits.Variables = codes "variables"
kind_of limits.Arity = codes "arguments"

-- want of memory is no cause of words, nor of a text
abbrev pub words_cause : WordsError → List ℕ
words_cause (words_errors.Missing at) = codes "missing at word " ++ decimal at
words_cause (words_errors.Unknown at) = codes "unknown at word " ++ decimal at
words_cause (words_errors.Value at) = codes "bad value at word " ++ decimal at
words_cause (words_errors.Repeated at) = codes "repeated at word " ++ decimal at
words_cause (words_errors.Memory e) = []

abbrev pub text_cause : SyntaxError → List ℕ
text_cause (syntax_errors.Syntax at) = codes "syntax at " ++ decimal at
text_cause (syntax_errors.TooDeep at) = codes "too deep at " ++ decimal at
text_cause (syntax_errors.IntRange at) = codes "integer out of range at " ++ decimal at
text_cause (syntax_errors.TooLong count) = codes "too long, " ++ decimal count ++ codes " bytes"
text_cause (syntax_errors.Memory e) = []

abbrev pub loading_cause : LoadError → List ℕ
loading_cause (load_errors.MixedGuards key) = codes "mixed guards in " ++ key_text key
loading_cause (load_errors.Undefined key) = codes "undefined " ++ key_text key
loading_cause (load_errors.Reserved key) = codes "reserved " ++ key_text key
loading_cause (load_errors.TooMany what count) = codes "too many " ++ kind_of what ++ codes ", " ++ decimal count
loading_cause (load_errors.Memory e) = []

abbrev pub cause_of : Refusal → List ℕ
cause_of (Refusal.Words e) = words_cause e
cause_of (Refusal.TextOf e) = text_cause e
cause_of (Refusal.Loading e) = loading_cause e
cause_of Refusal.Nothing = []

-- the line of words, or of a text, that are refused
abbrev pub refused_line : List ℕ → Refusal → List ℕ
refused_line side f = codes "akl: " ++ side ++ codes ": " ++ cause_of f ++ codes "\n"

-- the line of a status that says all itself, which is empty for the outcomes of a run; `None` where the refusal says more
abbrev pub fixed_line : Status → Option (List ℕ)
fixed_line Status.Words = None
fixed_line Status.Program = None
fixed_line Status.Query = None
fixed_line Status.ReadFault = Some (codes "akl: read fault\n")
fixed_line Status.WriteFault = Some (codes "akl: write fault\n")
fixed_line Status.NoMemory = Some (codes "akl: out of memory\n")
fixed_line s = Some []

-- what is refused with a status
abbrev pub refused_side : Status → List ℕ
refused_side Status.Program = codes "program"
refused_side Status.Query = codes "query"
refused_side s = codes "words"

abbrev pub refusal_text : Status → Refusal → List ℕ
refusal_text s f = unwrap_or (fixed_line s) (refused_line (refused_side s) f)
