use Rattle.std.proofs.Common.{◌∙◌, ◌+◌, ◌++◌, get_or, sym, subst, ap, refl}
use Rattle.akl_terms.specs.declared.name.Name.{Name}
use Rattle.why_report.specs.Texts.{IsWaitingText}
use Rattle.root_answers.specs.Roots.{OfRoot, root_box}
use Rattle.akl_run.specs.Written.{AreFirstWaits}
use Rattle.akl_run.proofs.Appended.{nothing_appended, appended_both}
use Rattle.akl_run.proofs.AllWaits.{first_none, first_more, wrote_none, wrote_all, no_memory_there, broke_there}
use Rattle.akl_run.proofs.Loading.{from_error}
use Rattle.akl_run.proofs.waits.write_waits.Goals as goal

pub returns-then-not-says_waits-clause-whole : goal.returns-then-not-says_waits-clause-whole
returns-then-not-says_waits-clause-whole g c = wrote_none _ (sym c.says_waits.ensures ∙ c.if-not-says_waits.true)

pub loop-name-init : goal.loop-name-init
loop-name-init g c = record { text = _; appended = nothing_appended _; are_waits = first_none c.args.run.now.core c.args.names.now; counted = refl; same = refl }

pub returns-in_err-text-clause-broken : goal.returns-in_err-text-clause-broken
returns-in_err-text-clause-broken g c =
    from_error c.from_residual.result c.from_residual.ensures.1 (λ cause p. rw p
    (no_memory_there c.loop-name.name-index c.loop-name.invariant.text _ (sym c.says_waits.ensures ∙ c.if-not-says_waits.false) c.loop-name.invariant.appended c.loop-name.invariant.are_waits))

pub returns-in_err-append-clause-broken : goal.returns-in_err-append-clause-broken
returns-in_err-append-clause-broken g c =
    let d : Name = record { worker = 0; number = 0 } in
    let core = c.args.run.now.core in
    let names = c.args.names.now in
    let n = c.loop-name.name-index in
    let waits : OfRoot core (get_or names n d) (λ b gs. IsWaitingText core.table.program (root_box b gs) (n + 1) c.in_ok-text.text.items) =
    subst (λ m. OfRoot core (get_or names n d) (λ b gs. IsWaitingText core.table.program (root_box b gs) (m + 1) c.in_ok-text.text.items)) c.loop-name.invariant.counted c.in_ok-text.ensures in
    let more : AreFirstWaits core names (n + 1) (c.loop-name.invariant.text ++ c.deref.result.now) =
    first_more core names n d c.loop-name.invariant.text c.deref.result.now c.loop-name-test.true c.loop-name.invariant.are_waits
    (subst (λ xs. OfRoot core (get_or names n d) (λ b gs. IsWaitingText core.table.program (root_box b gs) (n + 1) xs)) (sym c.deref.ensures.value) waits) in
    from_error c.from_residual-in_err-append.result c.from_residual-in_err-append.ensures.1 (λ cause p. rw p
    (broke_there (n + 1) c.loop-name.invariant.text c.deref.result.now _ (sym c.says_waits.ensures ∙ c.if-not-says_waits.false) c.loop-name.invariant.appended more c.in_err-append.ensures.broken))

pub loop-name-preserved : goal.loop-name-preserved
loop-name-preserved g c =
    let d : Name = record { worker = 0; number = 0 } in
    let core = c.args.run.now.core in
    let names = c.args.names.now in
    let n = c.loop-name.name-index in
    let waits : OfRoot core (get_or names n d) (λ b gs. IsWaitingText core.table.program (root_box b gs) (n + 1) c.in_ok-text.text.items) =
    subst (λ m. OfRoot core (get_or names n d) (λ b gs. IsWaitingText core.table.program (root_box b gs) (m + 1) c.in_ok-text.text.items)) c.loop-name.invariant.counted c.in_ok-text.ensures in
    record {
      text = c.loop-name.invariant.text ++ c.deref.result.now;
      appended = appended_both c.loop-name.invariant.text c.deref.result.now c.loop-name.invariant.appended c.in_ok-append.ensures.whole;
      are_waits = first_more core names n d c.loop-name.invariant.text c.deref.result.now c.loop-name-test.true c.loop-name.invariant.are_waits
          (subst (λ xs. OfRoot core (get_or names n d) (λ b gs. IsWaitingText core.table.program (root_box b gs) (n + 1) xs)) (sym c.deref.ensures.value) waits);
      counted = ap (λ m. m + 1) c.loop-name.invariant.counted;
      same = c.in_ok-append.ensures.same ∙ c.loop-name.invariant.same;
    }

pub returns-clause-whole : goal.returns-clause-whole
returns-clause-whole g c = wrote_all c.loop-name.invariant.text _ (sym c.says_waits.ensures ∙ c.if-not-says_waits.false) c.loop-name-test.false c.loop-name.invariant.appended c.loop-name.invariant.are_waits
