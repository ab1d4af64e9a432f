use Rattle.std.proofs.lemmas.Result.{IfErr-weaker}
use Rattle.std.specs.Prelude.{Result, Ok, Err, IfOk}
use Rattle.std.proofs.Common.{◌≡◌, ◌≤◌, ℕ, List, length}
use Rattle.akl_terms.specs.declared.program.Program.{Program}
use Rattle.akl_run.specs.declared.report.Status.{Status}
use Rattle.akl_run.specs.declared.stop.Stop.{Stop}
use Rattle.akl_run.specs.Loads.{IsLoadedProgram, QueryStops, IsLoadedFrom}
use Rattle.akl_run.proofs.Evaluated.{loaded_shown}
use Rattle.akl_run.proofs.Loading.{from_error}
use Rattle.akl_batch.specs.declared.reply.Answer.{Answer}
use Rattle.akl_batch.specs.Replies.{IsAnswer}
use Rattle.akl_batch.specs.Steps.{SaysWhy}
use Rattle.akl_batch.proofs.Answering.{long_answer, unloaded_answer, refused_or_memory}
use Rattle.akl_batch.proofs.Stopping.{memory_stops}
use Rattle.akl_batch.proofs.answer.answer.Goals as goal

-- the answer to a query that isn't loaded
not_loaded : (program query : List ℕ) (budget : ℕ) (p : Program) (stop : Stop) → length query ≤ 10000 → IsLoadedProgram program p → QueryStops p query stop.status stop.refusal
    → (r : Result Answer Stop) → IfOk r (λ a. stop.status ≡ Status.Query) → IfOk r (SaysWhy stop.refusal) → IfOk r (IsAnswer program query budget)
not_loaded program query budget p stop short l q (Ok a) is h = unloaded_answer program query budget p stop.status stop.refusal a short l q is h
not_loaded program query budget p stop short l q (Err e) is h = tt

pub returns-in_err-refused-clause-stop : goal.returns-in_err-refused-clause-stop
returns-in_err-refused-clause-stop c = from_error c.from_residual.result c.from_residual.ensures.1 (λ stop i. memory_stops c.args.program.now stop i)

pub returns-in-Err-clause-answer : goal.returns-in-Err-clause-answer
returns-in-Err-clause-answer c = long_answer c.args.program.now c.args.query.now c.args.budget c.in-Err.error c.in_ok-refused.field-0 c.in-Err.ensures.long c.in-Err.ensures.count c.in_ok-refused.ensures

pub run-requires-clause-shown : goal.run-requires-clause-shown
run-requires-clause-shown c =
    let from : IsLoadedFrom c.args.program.now c.args.query.now c.in-Ok.loaded = record { base = c.in_ok-base.base; is_program = c.in_ok-base.ensures.program; is_query = c.in-Ok.ensures.loaded } in
    loaded_shown c.args.program.now c.args.query.now c.in-Ok.loaded from

pub unloaded-requires : goal.unloaded-requires
unloaded-requires c = refused_or_memory c.in-Err-load_asked.stop c.in-Err-load_asked.ensures.stop

pub returns-in-Ok-clause-stop : goal.returns-in-Ok-clause-stop
returns-in-Ok-clause-stop c = IfErr-weaker c.run.result _ _ (λ stop i. memory_stops c.args.program.now stop i) c.run.ensures.stop

pub returns-in-Err-load_asked-clause-answer : goal.returns-in-Err-load_asked-clause-answer
returns-in-Err-load_asked-clause-answer c =
    not_loaded c.args.program.now c.args.query.now c.args.budget c.in_ok-base.base c.in-Err-load_asked.stop c.in_default.ensures.ok c.in_ok-base.ensures.program c.in-Err-load_asked.ensures.stop
    c.unloaded.result c.unloaded.ensures.status c.unloaded.ensures.answer

pub returns-in-Err-load_asked-clause-stop : goal.returns-in-Err-load_asked-clause-stop
returns-in-Err-load_asked-clause-stop c = IfErr-weaker c.unloaded.result _ _ (λ stop i. memory_stops c.args.program.now stop i) c.unloaded.ensures.stop
