use Rattle.std.proofs.Common.{length}
use Rattle.akl_lexemes.specs.declared.error.SyntaxError.TheVariants.{TooLong}
use Rattle.akl_run.specs.declared.report.Status.{Status}
use Rattle.akl_run.specs.declared.report.Refusal.{Refusal}
use Rattle.akl_run.specs.Stops.{IsStop}
use Rattle.akl_run.specs.Loads.{IsLoadedFrom, TextsStop, by_length, by_program, by_query}
use Rattle.akl_run.proofs.Loading.{stops_as}
use Rattle.akl_run.proofs.Evaluated.{loaded_shown}
use Rattle.akl_run.proofs.loaded.load_texts.Goals as goal

pub returns-in-Err-clause-stop : goal.returns-in-Err-clause-stop
returns-in-Err-clause-stop c =
    let long : IsStop Status.Query (Refusal.TextOf (TooLong (length c.args.query.now))) c.text.result = rw c.in-Err.ensures.count at c.text.ensures in
    stops_as (TextsStop c.args.text.now c.args.query.now) _ _ c.text.result long (by_length c.in-Err.ensures.long)

pub returns-in-Err-load_program-clause-stop : goal.returns-in-Err-load_program-clause-stop
returns-in-Err-load_program-clause-stop c = by_program c.in-Err-load_program.ensures.stop

pub returns-in-Err-load_asked-clause-stop : goal.returns-in-Err-load_asked-clause-stop
returns-in-Err-load_asked-clause-stop c = by_query c.in-Ok.ensures.program c.in-Err-load_asked.ensures.stop

pub returns-in-Ok-load_asked-clause-loaded : goal.returns-in-Ok-load_asked-clause-loaded
returns-in-Ok-load_asked-clause-loaded c = record { base = c.in-Ok.program; is_program = c.in-Ok.ensures.program; is_query = c.in-Ok-load_asked.ensures.loaded }

pub returns-in-Ok-load_asked-clause-begins : goal.returns-in-Ok-load_asked-clause-begins
returns-in-Ok-load_asked-clause-begins c =
    let from : IsLoadedFrom c.args.text.now c.args.query.now c.in-Ok-load_asked.loaded
    = record { base = c.in-Ok.program; is_program = c.in-Ok.ensures.program; is_query = c.in-Ok-load_asked.ensures.loaded } in
    record { variables = c.in-Ok-load_asked.ensures.variables; shown = loaded_shown c.args.text.now c.args.query.now c.in-Ok-load_asked.loaded from }
