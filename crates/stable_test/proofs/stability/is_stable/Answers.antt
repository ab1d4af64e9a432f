use Rattle.std.proofs.Common.{true, refl}
use Rattle.std.proofs.lemmas.Result.{IfOk-weaker}
use Rattle.stable_test.proofs.StableViews.{all_testable}
use Rattle.stable_test.proofs.Read.{decided, still_by, not_stable}
use Rattle.stable_test.proofs.RootStable.{root_answer, root_of_program}
use Rattle.stable_test.proofs.stability.is_stable.Goals as goal

pub is_still-requires-clause-program : goal.is_still-requires-clause-program
is_still-requires-clause-program c = rw (c.as_slice.ensures.value) (root_of_program c.args.program.now c.args.depth c.args.inside.now c.requires.inside)

pub is_still-requires-clause-known : goal.is_still-requires-clause-known
is_still-requires-clause-known c = rw (c.as_slice.ensures.value) c.requires.known

pub returns-then-not-branch : goal.returns-then-not-branch
returns-then-not-branch c = λ s.
    let h = rw (c.as_slice.ensures.value) at c.in_ok-is_still.ensures in
    not_stable c.args.program.now c.args.depth c.args.inside.now s _ c.if-not-branch.true h

pub returns-then-depth-eq0 : goal.returns-then-depth-eq0
returns-then-depth-eq0 c = λ s.
    let h = rw (c.as_slice.ensures.value) at c.in_ok-is_still.ensures in
    root_answer c.args.program.now c.args.depth c.if-depth-eq0.true c.args.inside.now s true (λ t. h.0 c.if-not-branch.false, λ a. refl)

pub none_reached-requires : goal.none_reached-requires
none_reached-requires c = rw (c.as_slice-3.ensures.value, c.in_ok-frames.ensures, c.as_slice-2.ensures.value) (all_testable c.args.program.now c.args.depth c.args.inside.now c.requires.inside)

pub returns : goal.returns
returns c =
    let k = rw (c.as_slice.ensures.value) at c.in_ok-is_still.ensures in
    let h = rw (c.as_slice-3.ensures.value, c.in_ok-frames.ensures, c.as_slice-2.ensures.value) at c.none_reached.ensures in
    IfOk-weaker c.none_reached.result _ _ (λ none e s. decided c.args.program.now c.args.depth c.args.inside.now s none (still_by c.args.program.now c.args.depth _ c.args.inside.now.views.items (k.0 c.if-not-branch.false) none e)) h
