use Rattle.std.proofs.Common.{◌≡◌, ◌∙◌, List, ℕ, Vec, Global, refl, ap, map, subst}
use Rattle.std.proofs.lemmas.Result.{IfOk-weaker}
use Rattle.akl_args.specs.Queries.{queries_in}
use Rattle.akl_run.specs.Words.{bytes_of}
use Rattle.akl_run.specs.Commands.{side}
use Rattle.akl_run.specs.Loads.{IsLoadedProgram}
use Rattle.akl_run.proofs.Loading.{from_error, if_error}
use Rattle.akl_batch.specs.Batches.{by_words, by_reading, by_program}
use Rattle.akl_batch.specs.Steps.{AreAnswers, StopsAs}
use Rattle.akl_batch.proofs.Gathered.{answers_of_text}
use Rattle.akl_batch.proofs.Stopping.{words_stops, memory_stops_read}
use Rattle.akl_batch.proofs.run.work.Goals as goal

pub returns-in-Err-clause-stop : goal.returns-in-Err-clause-stop
returns-in-Err-clause-stop g c = by_words (words_stops (bytes_of c.args.words.now) c.in-Err.error c.words.result c.in-Err.ensures.refusal c.words.ensures) refl

pub returns-in_err-bytes-clause-stop : goal.returns-in_err-bytes-clause-stop
returns-in_err-bytes-clause-stop g c = from_error c.from_residual.result c.from_residual.ensures.1 (λ stop i. rw i (by_reading c.in-Ok.ensures.options c.in_err-bytes.ensures.stop))

pub returns-in_err-check_program-clause-stop : goal.returns-in_err-check_program-clause-stop
returns-in_err-check_program-clause-stop g c =
    from_error c.from_residual-in_err-check_program.result c.from_residual-in_err-check_program.ensures.1
    (λ stop i. rw i (by_program c.in-Ok.ensures.options c.in_ok-bytes.ensures.ok (rw c.deref.ensures.value at c.in_err-check_program.ensures.stop)))

pub returns-in_err-queries-clause-stop : goal.returns-in_err-queries-clause-stop
returns-in_err-queries-clause-stop g c =
    from_error c.from_residual-in_err-queries.result c.from_residual-in_err-queries.ensures.1
    (λ stop i. memory_stops_read (bytes_of c.args.words.now) (side (g.S.Source.left c.args.program.now) (g.S.Source.faults c.args.program.now)) (side (g.S.Source.left c.read_program.new.program) (g.S.Source.faults c.read_program.new.program))
    c.in-Ok.options c.in_ok-bytes.bytes.items stop c.in-Ok.ensures.options c.in_ok-bytes.ensures.ok i)

pub returns-clause-answers : goal.returns-clause-answers
returns-clause-answers g c =
    let program = c.in_ok-bytes.bytes.items in
    let queries = c.in_ok-queries.queries.items in
    let loaded = c.in_ok-check_program.ensures.program in
    let is_program : IsLoadedProgram program loaded.0 = rw c.deref.ensures.value at loaded.1 in
    let text : c.as_bytes.result.now ≡ c.in-Ok.options.text = c.as_bytes.ensures.value ∙ c.as_str.ensures in
    let asked : map (λ (query : Vec ℕ Global). query.items) queries ≡ queries_in c.in-Ok.options.text = c.in_ok-queries.ensures ∙ ap queries_in text in
    IfOk-weaker c.answer_all.result _ _
    (λ answers h.
    let over : AreAnswers program c.deref-3.result.now c.in-Ok.options.budget answers.items = subst (λ (bs : List ℕ). AreAnswers bs c.deref-3.result.now c.in-Ok.options.budget answers.items) c.deref-2.ensures.value h in
    let all : AreAnswers program queries c.in-Ok.options.budget answers.items = subst (λ (qs : List (Vec ℕ Global)). AreAnswers program qs c.in-Ok.options.budget answers.items) c.deref-3.ensures.value over in
    record {
      options = c.in-Ok.options;
      asked = c.in-Ok.ensures.options;
      program = program;
      given = c.in_ok-bytes.ensures.ok;
      base = loaded.0;
      is_program = is_program;
      are_answers = answers_of_text program queries c.in-Ok.options.budget answers.items c.in-Ok.options.text asked all;
    })
    c.answer_all.ensures.answers

pub returns-clause-stop : goal.returns-clause-stop
returns-clause-stop g c =
    if_error c.answer_all.result c.answer_all.ensures.stop
    (λ stop h. by_program c.in-Ok.ensures.options c.in_ok-bytes.ensures.ok (subst (λ (bs : List ℕ). StopsAs bs stop) c.deref-2.ensures.value h))
