use Rattle.std.proofs.Common.{◌≡◌, ◌<◌, ◌∙◌, subst, length}
use Rattle.akl_lexemes.specs.declared.error.SyntaxError.TheVariants.{TooLong}
use Rattle.akl_run.specs.declared.report.Status.{Status}
use Rattle.akl_run.specs.declared.report.Refusal.{Refusal}
use Rattle.akl_run.specs.Words.{bytes_of, query_of}
use Rattle.akl_run.specs.Stops.{IsStop}
use Rattle.akl_run.specs.Commands.{WordsStop, long_query, no_memory}
use Rattle.akl_run.proofs.Loading.{stops_as, from_error, words_stops}
use Rattle.akl_run.proofs.words.read_asked.Goals as goal

pub returns-in-Err-clause-stop : goal.returns-in-Err-clause-stop
returns-in-Err-clause-stop c = words_stops (bytes_of c.args.words.now) c.in-Err.error c.words.result c.in-Err.ensures.refusal c.words.ensures

pub returns-in_err-program-clause-stop : goal.returns-in_err-program-clause-stop
returns-in_err-program-clause-stop c = from_error c.from_residual.result c.from_residual.ensures.1 (λ stop p. stops_as (WordsStop (bytes_of c.args.words.now)) _ _ stop p no_memory)

pub returns-clause-stop : goal.returns-clause-stop
returns-clause-stop c =
    let bytes : c.deref.result.now ≡ query_of c.in-Ok.options = c.deref.ensures.value ∙ c.in_ok-program.ensures.query in
    let i : IsStop Status.Query (Refusal.TextOf (TooLong (length c.deref.result.now))) c.text.result = rw c.in-Err-check_query.ensures.count at c.text.ensures in
    stops_as (WordsStop (bytes_of c.args.words.now)) _ _ c.text.result (subst (λ text. IsStop Status.Query (Refusal.TextOf (TooLong (length text))) c.text.result) bytes i)
    (long_query c.in-Ok.ensures.options (subst (λ text. 10000 < length text) bytes c.in-Err-check_query.ensures.long))
