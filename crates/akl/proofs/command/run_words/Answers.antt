use Rattle.std.proofs.Common.{rules, ◌≡◌, ℕ, List, true, false, sym, subst, ap, ◌∙◌}
use Rattle.akl_run.specs.Commands.{side}
use Rattle.akl.specs.Endings.{Answers, AnswersBatch}
use Rattle.akl.specs.Words.{is_batch, words_behind}
use Rattle.akl.proofs.command.run_words.Goals as goal

pub returns-then-is_batch-clause-done : goal.returns-then-is_batch-clause-done
returns-then-is_batch-clause-done g c = record {
  notice = search rules;
  query = λ _ other.
      let this : is_batch (words_behind c.args.given.now) ≡ true = sym (ap is_batch c.behind_name-words.ensures) ∙ sym c.is_batch.ensures ∙ c.if-is_batch.true in
      let both : true ≡ false = sym this ∙ other in cc;
  batch = λ _ _. subst (λ (words : List (List ℕ)). AnswersBatch words
      (side (g.S.Source.left c.args.program.now) (g.S.Source.faults c.args.program.now)) (side (g.S.Source.left c.answer_batch.new.program) (g.S.Source.faults c.answer_batch.new.program))
      (side (g.K.Sink.written c.args.out.now) (g.K.Sink.faults c.args.out.now)) (side (g.K.Sink.written c.answer_batch.new.out) (g.K.Sink.faults c.answer_batch.new.out))
      (side (g.E.Sink.written c.args.errors.now) (g.E.Sink.faults c.args.errors.now)) (side (g.E.Sink.written c.answer_batch.new.errors) (g.E.Sink.faults c.answer_batch.new.errors)) c.answer_batch.result)
      c.behind_name-words.ensures c.answer_batch.ensures;
}

pub returns-clause-done : goal.returns-clause-done
returns-clause-done g c = record {
  notice = search rules;
  query = λ _ _. subst (λ (words : List (List ℕ)). Answers words
      (side (g.S.Source.left c.args.program.now) (g.S.Source.faults c.args.program.now)) (side (g.S.Source.left c.answer_query.new.program) (g.S.Source.faults c.answer_query.new.program))
      (side (g.K.Sink.written c.args.out.now) (g.K.Sink.faults c.args.out.now)) (side (g.K.Sink.written c.answer_query.new.out) (g.K.Sink.faults c.answer_query.new.out))
      (side (g.E.Sink.written c.args.errors.now) (g.E.Sink.faults c.args.errors.now)) (side (g.E.Sink.written c.answer_query.new.errors) (g.E.Sink.faults c.answer_query.new.errors)) c.answer_query.result)
      c.behind_name-words.ensures c.answer_query.ensures;
  batch = λ _ this.
      let other : is_batch (words_behind c.args.given.now) ≡ false = sym (ap is_batch c.behind_name-words.ensures) ∙ sym c.is_batch.ensures ∙ c.if-is_batch.false in
      let both : true ≡ false = sym this ∙ other in cc;
}
