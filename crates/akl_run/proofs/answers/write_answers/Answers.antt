use Rattle.std.proofs.Common.{◌≡◌, ◌∙◌, ◌<◌, ◌≤◌, ◌+◌, ◌++◌, ap, length, get_or, sym, subst, arith, Some, refl}
use Rattle.akl_terms.specs.declared.name.Name.{Name}
use Rattle.akl_run.specs.Written.{HasShown, ShowsRoot, listed}
use Rattle.akl_run.proofs.AllAnswers.{wrote_none, wrote_other, wrote_more, wrote_every, no_memory_there, broke_there}
use Rattle.akl_run.proofs.Loading.{from_error}
use Rattle.akl_run.proofs.answers.write_answers.Goals.{in-Some+in_ok-write_answer, in_default+in_ok-list_other}
use Rattle.akl_run.proofs.answers.write_answers.Goals as goal

pub loop-name-init : goal.loop-name-init
loop-name-init g c = record { written = wrote_none c.args.run.now c.args.others.now.items _ c.requires.none; few = omega arith; same = refl }

pub returns-in-Err-clause-broken : goal.returns-in-Err-clause-broken
returns-in-Err-clause-broken g c = rw c.from.ensures (no_memory_there c.loop-name.invariant.written)

pub returns-in_err-list_other-clause-broken : goal.returns-in_err-list_other-clause-broken
returns-in_err-list_other-clause-broken g c = from_error c.from_residual-in_err-list_other.result c.from_residual-in_err-list_other.ensures.1 (λ cause p. rw p (no_memory_there c.loop-name.invariant.written))

pub returns-in_err-write_answer-clause-broken : goal.returns-in_err-write_answer-clause-broken
returns-in_err-write_answer-clause-broken g c =
    let d : Name = record { worker = 0; number = 0 } in
    let e = c.args.run.now in
    let n = c.loop-name.name-index in
    let h : n < length e.core.table.roots = subst (λ ns. n < length ns) c.roots-name-items.ensures.roots c.loop-name-test.true in
    let shows : HasShown e (get_or e.core.table.roots n d) c.loop-name.count c.in-Ok.found =
    subst (λ ns. HasShown e (get_or ns n d) c.loop-name.count c.in-Ok.found) c.roots-name-items.ensures.roots c.in-Ok.ensures in
    from_error c.from_residual.result c.from_residual.ensures.1 (λ cause p. rw p
    (broke_there n d h c.requires.ended.models c.deref.result.now c.loop-name.invariant.written
    (subst (λ xs. ShowsRoot e (get_or e.core.table.roots n d) c.loop-name.count (Some xs)) (sym c.deref.ensures.value) (subst (HasShown e (get_or e.core.table.roots n d) c.loop-name.count) c.in-Some.is shows))
    c.in_err-write_answer.ensures.broken))

pub loop-name-preserved : goal.loop-name-preserved
loop-name-preserved g c =
    let d : Name = record { worker = 0; number = 0 } in
    let e = c.args.run.now in
    let n = c.loop-name.name-index in
    let h : n < length e.core.table.roots = subst (λ ns. n < length ns) c.roots-name-items.ensures.roots c.loop-name-test.true in
    let few : c.loop-name.count ≤ n = c.loop-name.invariant.few in
    let shows : HasShown e (get_or e.core.table.roots n d) c.loop-name.count c.in-Ok.found =
    subst (λ ns. HasShown e (get_or ns n d) c.loop-name.count c.in-Ok.found) c.roots-name-items.ensures.roots c.in-Ok.ensures in
    elim c.match-found.branch [
      | in-Some+in_ok-write_answer w ↦
          let one : c.match-found.count ≡ c.loop-name.count + 1 = w.count-is in
          rw w.out-is (rw w.others-is (rw w.count-is (record {
            written = wrote_more n d h c.requires.ended.models w.deref.result.now c.loop-name.invariant.written
                (subst (λ xs. ShowsRoot e (get_or e.core.table.roots n d) c.loop-name.count (Some xs)) (sym w.deref.ensures.value) (subst (HasShown e (get_or e.core.table.roots n d) c.loop-name.count) w.in-Some.is shows))
                w.in_ok-write_answer.ensures.whole;
            few = omega (arith, few);
            same = w.in_ok-write_answer.ensures.same ∙ c.loop-name.invariant.same;
          })))
      | in_default+in_ok-list_other w ↦
          rw w.out-is (rw w.others-is (rw w.count-is (record {
            written = wrote_other n d h _ (w.in_ok-list_other.ensures ∙ ap (λ ns. c.loop-name.others.items ++ listed e.flags.why (get_or ns n d)) c.roots-name-items.ensures.roots) c.loop-name.invariant.written (subst (HasShown e (get_or e.core.table.roots n d) c.loop-name.count) w.in_default.is shows);
            few = omega (arith, few);
            same = c.loop-name.invariant.same;
          })))
    ]

pub returns-clause-whole : goal.returns-clause-whole
returns-clause-whole g c =
    let h : length c.args.run.now.core.table.roots ≤ c.loop-name.name-index = subst (λ ns. length ns ≤ c.loop-name.name-index) c.roots-name-items.ensures.roots c.loop-name-test.false in
    wrote_every h c.loop-name.invariant.written
