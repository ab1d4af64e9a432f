use Rattle.std.proofs.Common.{◌≡◌, ◌∙◌, ap, length}
use Rattle.akl_run.specs.Endings.{ending_by}
use Rattle.akl_run.proofs.Evaluated.{says_quiet, trace_broke, answers_broke, waits_broke, ending_broke, wrote_whole}
use Rattle.akl_run.proofs.Loading.{from_error}
use Rattle.akl_run.proofs.writing.write_run.Goals as goal

pub returns-in_err-write_trace-clause-broken : goal.returns-in_err-write_trace-clause-broken
returns-in_err-write_trace-clause-broken g c =
    from_error c.from_residual.result c.from_residual.ensures.1 (λ cause p. rw p
    (trace_broke c.args.run.now c.requires c.roots-roots.ensures.core c.journal.result.now c.journal.ensures c.in_err-write_trace.ensures.broken))

pub returns-in_err-answers-clause-broken : goal.returns-in_err-answers-clause-broken
returns-in_err-answers-clause-broken g c =
    from_error c.from_residual-in_err-answers.result c.from_residual-in_err-answers.ensures.1 (λ cause p. rw p
    (answers_broke c.args.run.now c.requires c.roots-roots.ensures.core c.journal.result.now c.journal.ensures c.in_ok-write_trace.ensures.whole c.in_err-answers.ensures.broken))

pub write_waits-requires-clause-quiet : goal.write_waits-requires-clause-quiet
write_waits-requires-clause-quiet g c =
    let ending : c.ending_of-ending.result ≡ ending_by c.args.run.now.end (length c.args.run.now.core.table.roots) c.in_ok-answers.answers =
    c.ending_of-ending.ensures ∙ ap (λ ns. ending_by c.args.run.now.end (length ns) c.in_ok-answers.answers) c.roots-roots.ensures.roots in
    says_quiet c.args.run.now.core c.args.run.now.flags c.args.run.now.end (length c.args.run.now.core.table.roots) c.in_ok-answers.answers c.ending_of-ending.result c.requires.ends ending

pub returns-in_err-write_waits-clause-broken : goal.returns-in_err-write_waits-clause-broken
returns-in_err-write_waits-clause-broken g c =
    let ending : c.ending_of-ending.result ≡ ending_by c.args.run.now.end (length c.args.run.now.core.table.roots) c.in_ok-answers.answers =
    c.ending_of-ending.ensures ∙ ap (λ ns. ending_by c.args.run.now.end (length ns) c.in_ok-answers.answers) c.roots-roots.ensures.roots in
    from_error c.from_residual-in_err-write_waits.result c.from_residual-in_err-write_waits.ensures.1 (λ cause p. rw p
    (waits_broke c.args.run.now c.requires c.roots-roots.ensures.core c.journal.result.now c.journal.ensures c.in_ok-answers.answers c.write_answers.new.others.items c.ending_of-ending.result ending
    c.in_ok-write_trace.ensures.whole c.in_ok-answers.ensures.whole (rw c.deref.ensures.value at c.in_err-write_waits.ensures.broken)))

pub returns-in_err-write_ending-clause-broken : goal.returns-in_err-write_ending-clause-broken
returns-in_err-write_ending-clause-broken g c =
    let ending : c.ending_of-ending.result ≡ ending_by c.args.run.now.end (length c.args.run.now.core.table.roots) c.in_ok-answers.answers =
    c.ending_of-ending.ensures ∙ ap (λ ns. ending_by c.args.run.now.end (length ns) c.in_ok-answers.answers) c.roots-roots.ensures.roots in
    from_error c.from_residual-in_err-write_ending.result c.from_residual-in_err-write_ending.ensures.1 (λ cause p. rw p
    (ending_broke c.args.run.now c.requires c.roots-roots.ensures.core c.journal.result.now c.journal.ensures c.in_ok-answers.answers c.write_answers.new.others.items c.ending_of-ending.result ending
    c.in_ok-write_trace.ensures.whole c.in_ok-answers.ensures.whole (rw c.deref.ensures.value at c.in_ok-write_waits.ensures.whole) c.in_err-write_ending.ensures.broken))

pub returns-clause-whole : goal.returns-clause-whole
returns-clause-whole g c =
    let ending : c.ending_of-ending.result ≡ ending_by c.args.run.now.end (length c.args.run.now.core.table.roots) c.in_ok-answers.answers =
    c.ending_of-ending.ensures ∙ ap (λ ns. ending_by c.args.run.now.end (length ns) c.in_ok-answers.answers) c.roots-roots.ensures.roots in
    rw c.status_of.ensures (wrote_whole c.args.run.now c.requires c.roots-roots.ensures.core c.journal.result.now c.journal.ensures c.in_ok-answers.answers c.write_answers.new.others.items c.ending_of-ending.result ending
    c.in_ok-write_trace.ensures.whole c.in_ok-answers.ensures.whole (rw c.deref.ensures.value at c.in_ok-write_waits.ensures.whole) c.in_ok-write_ending.ensures.whole)
