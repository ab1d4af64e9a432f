use Rattle.std.proofs.Common.{◌++◌, [], ap, ◌∙◌, append-nil}
use Rattle.akl_run.proofs.Appended.{broke_within, nothing_appended, answer_parts}
use Rattle.akl_run.proofs.Loading.{from_error, if_error}
use Rattle.akl_run.proofs.answers.write_answer.Goals as goal

pub returns-in_err-append-clause-broken : goal.returns-in_err-append-clause-broken
returns-in_err-append-clause-broken g c =
    from_error c.from_residual-in_err-append.result c.from_residual-in_err-append.ensures.1 (λ cause p. rw p
    (broke_within [] c.deref.result.now c.args.lines.now _ (answer_parts c.args.number c.deref.result.now c.args.lines.now (c.deref.ensures.value ∙ c.in_ok-head.ensures)) (nothing_appended _) c.in_err-append.ensures.broken))

pub returns-clause-broken : goal.returns-clause-broken
returns-clause-broken g c =
    if_error c.append-2.result c.append-2.ensures.broken (λ cause b.
    broke_within c.deref.result.now c.args.lines.now [] _ (ap (λ xs. c.deref.result.now ++ xs) (append-nil c.args.lines.now) ∙ answer_parts c.args.number c.deref.result.now c.args.lines.now (c.deref.ensures.value ∙ c.in_ok-head.ensures))
    c.in_ok-append.ensures.whole b)
