use Rattle.std.proofs.lemmas.Result.{IfOk-weaker}
use Rattle.stable_test.proofs.Further.{known_more}
use Rattle.stable_test.proofs.Tested.{no_clash, waiting_told}
use Rattle.stable_test.proofs.reaching.reached_by.Goals as goal

pub returns-in_ok-bound-in-Some : goal.returns-in_ok-bound-in-Some
returns-in_ok-bound-in-Some c =
    let d = rw (c.chain.ensures.nodes, c.chain.ensures.stores) at c.in_ok-consistent.ensures in
    let s = no_clash c.args.program.now.templates.nodes c.args.view.now.stores c.in_ok-consistent.field-0 d (λ left right e. c.in_default.not-Clash left right e) in
    let h = rw c.in_ok-bound-in-Some.ensures at c.told_with.ensures in
    let on = rw c.in-Some.is at c.in_ok-awaited.ensures in
    IfOk-weaker c.told_with.result _ _ (λ found t. waiting_told c.args.program.now c.args.depth c.args.frames.now c.args.view.now c.requires.testable c.args.atom c.requires.atom s c.in-Some.on on _ found t) h

pub told_with-requires-clause-known : goal.told_with-requires-clause-known
told_with-requires-clause-known c = rw c.known.ensures (known_more c.args.program.now.templates.nodes c.args.view.now.stores c.in_ok-bound-in-Some.bound c.args.view.now.known c.requires.testable.known)
