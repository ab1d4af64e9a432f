-- From what the tests of loading found to why there is no program or query.
use Rattle.std.proofs.Common.{◌≤◌, ℕ, List, [], ◌∷◌, length, sym, subst, Err, arith, Vec, Global}
use Rattle.std.proofs.lemmas.List.{length-map}
use Rattle.akl_syntax.specs.declared.source.SourceClause.{SourceClause}
use Rattle.std.specs.Prelude.{Result, Ok, IfErr}
use Rattle.std.specs.Result.{IsErrAnd}
use Rattle.akl_terms.specs.declared.program.Program.{Program}
use Rattle.akl_lexemes.specs.declared.error.SyntaxError.{SyntaxError}
use Rattle.akl_lexemes.specs.declared.error.SyntaxError.TheVariants as syntax_errors
use Rattle.akl_syntax.specs.Clauses.{Clause, Query}
use Rattle.akl_syntax.specs.Verdicts.{ReadsProgram, ReadsQuery}
use Rattle.akl_syntax.specs.Answers.{clause_view, clauses_view, query_view}
use Rattle.akl_syntax.specs.Answers as readers
use Rattle.akl_syntax.specs.Sizes.{clauses_size}
use Rattle.clause_checks.specs.declared.error.LoadError.{LoadError}
use Rattle.clause_checks.specs.declared.error.LoadError.TheVariants as load_errors
use Rattle.clause_checks.specs.Refusals.{refusal_of, query_refusal_of}
use Rattle.clause_checks.specs.Refusals as checks
use Rattle.akl_run.specs.declared.report.Status.{Status}
use Rattle.akl_run.specs.declared.report.Refusal.{Refusal}
use Rattle.akl_run.specs.declared.stop.Stop.{Stop}
use Rattle.akl_args.specs.declared.options.WordsError.{WordsError}
use Rattle.akl_args.specs.declared.options.WordsError.TheVariants as words_errors
use Rattle.akl_args.specs.Table.{reading, IsRefusalOf}
use Rattle.akl_run.specs.Commands.{WordsStop}
use Rattle.akl_run.specs.Commands as commands
use Rattle.akl_run.specs.Stops.{IsStop, IsWordsStop, IsTextStop, IsLoadingStop}
use Rattle.akl_run.specs.Loads.{IsProgramText, IsQueryText, ProgramStops, QueryStops, by_text, by_loading, no_memory}

-- ---- there are no more clauses than terms, goals and clauses
clauses_counted : (cs : List Clause) → length cs ≤ clauses_size cs
clauses_counted [] = omega arith
clauses_counted (c ∷ cs) = let h : length cs ≤ clauses_size cs = clauses_counted cs in omega (arith, h)

pub counted_clauses : (v : Vec SourceClause Global) → length v.items ≤ clauses_size (clauses_view v)
counted_clauses v = subst (λ (n : ℕ). n ≤ clauses_size (clauses_view v)) (length-map v.items clause_view) (clauses_counted (clauses_view v))

-- ---- why a command stops
pub stops_as : (P : Status → Refusal → Type 0) (s : Status) (f : Refusal) (stop : Stop) → IsStop s f stop → P s f → P stop.status stop.refusal
stops_as P s f stop i p = subst (λ (z : Stop). P z.status z.refusal) (sym i) p

-- what holds of the error of a result
pub from_error : {T E : Type 0} {P Q : E → Type 0} (r : Result T E) → IsErrAnd r P → ((e : E) → P e → Q e) → IfErr r Q
from_error (Ok x) h f = tt
from_error (Err e) h f = f e h

pub if_error : {T E : Type 0} {P Q : E → Type 0} (r : Result T E) → IfErr r P → ((e : E) → P e → Q e) → IfErr r Q
if_error (Ok x) h f = tt
if_error (Err e) h f = f e h

pub program_text_stops : (bytes : List ℕ) (e : SyntaxError) (stop : Stop) → readers.Answers clauses_view (ReadsProgram bytes) (Err e) → IsTextStop Status.Program e stop → ProgramStops bytes stop.status stop.refusal
program_text_stops bytes (syntax_errors.Syntax at) stop r i = stops_as (ProgramStops bytes) _ _ stop i (by_text r)
program_text_stops bytes (syntax_errors.TooDeep at) stop r i = stops_as (ProgramStops bytes) _ _ stop i (by_text r)
program_text_stops bytes (syntax_errors.IntRange at) stop r i = stops_as (ProgramStops bytes) _ _ stop i (by_text r)
program_text_stops bytes (syntax_errors.TooLong count) stop r i = stops_as (ProgramStops bytes) _ _ stop i (by_text r)
program_text_stops bytes (syntax_errors.Memory e) stop r i = stops_as (ProgramStops bytes) _ _ stop i no_memory

pub query_text_stops : (p : Program) (bytes : List ℕ) (e : SyntaxError) (stop : Stop) → readers.Answers query_view (ReadsQuery bytes) (Err e) → IsTextStop Status.Query e stop → QueryStops p bytes stop.status stop.refusal
query_text_stops p bytes (syntax_errors.Syntax at) stop r i = stops_as (QueryStops p bytes) _ _ stop i (by_text r)
query_text_stops p bytes (syntax_errors.TooDeep at) stop r i = stops_as (QueryStops p bytes) _ _ stop i (by_text r)
query_text_stops p bytes (syntax_errors.IntRange at) stop r i = stops_as (QueryStops p bytes) _ _ stop i (by_text r)
query_text_stops p bytes (syntax_errors.TooLong count) stop r i = stops_as (QueryStops p bytes) _ _ stop i (by_text r)
query_text_stops p bytes (syntax_errors.Memory e) stop r i = stops_as (QueryStops p bytes) _ _ stop i no_memory

pub program_loading_stops : (bytes : List ℕ) (cs : List Clause) (e : LoadError) (stop : Stop) → IsProgramText bytes cs → checks.Answers (refusal_of cs) (Err e)
    → IsLoadingStop Status.Program e stop → ProgramStops bytes stop.status stop.refusal
program_loading_stops bytes cs (load_errors.MixedGuards key) stop r a i = stops_as (ProgramStops bytes) _ _ stop i (by_loading r a)
program_loading_stops bytes cs (load_errors.Undefined key) stop r a i = stops_as (ProgramStops bytes) _ _ stop i (by_loading r a)
program_loading_stops bytes cs (load_errors.Reserved key) stop r a i = stops_as (ProgramStops bytes) _ _ stop i (by_loading r a)
program_loading_stops bytes cs (load_errors.TooMany what count) stop r a i = stops_as (ProgramStops bytes) _ _ stop i (by_loading r a)
program_loading_stops bytes cs (load_errors.Memory e) stop r a i = stops_as (ProgramStops bytes) _ _ stop i no_memory

pub query_loading_stops : (p : Program) (bytes : List ℕ) (q : Query) (e : LoadError) (stop : Stop) → IsQueryText bytes q → checks.Answers (query_refusal_of p q) (Err e)
    → IsLoadingStop Status.Query e stop → QueryStops p bytes stop.status stop.refusal
query_loading_stops p bytes q (load_errors.MixedGuards key) stop r a i = stops_as (QueryStops p bytes) _ _ stop i (by_loading r a)
query_loading_stops p bytes q (load_errors.Undefined key) stop r a i = stops_as (QueryStops p bytes) _ _ stop i (by_loading r a)
query_loading_stops p bytes q (load_errors.Reserved key) stop r a i = stops_as (QueryStops p bytes) _ _ stop i (by_loading r a)
query_loading_stops p bytes q (load_errors.TooMany what count) stop r a i = stops_as (QueryStops p bytes) _ _ stop i (by_loading r a)
query_loading_stops p bytes q (load_errors.Memory e) stop r a i = stops_as (QueryStops p bytes) _ _ stop i no_memory

pub words_stops : (words : List (List ℕ)) (e : WordsError) (stop : Stop) → IsRefusalOf (reading words) e → IsWordsStop e stop → WordsStop words stop.status stop.refusal
words_stops words (words_errors.Missing at) stop r i = stops_as (WordsStop words) _ _ stop i (commands.refused r)
words_stops words (words_errors.Unknown at) stop r i = stops_as (WordsStop words) _ _ stop i (commands.refused r)
words_stops words (words_errors.Value at) stop r i = stops_as (WordsStop words) _ _ stop i (commands.refused r)
words_stops words (words_errors.Repeated at) stop r i = stops_as (WordsStop words) _ _ stop i (commands.refused r)
words_stops words (words_errors.Memory e) stop r i = stops_as (WordsStop words) _ _ stop i commands.no_memory
