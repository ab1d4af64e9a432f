use Rattle.std.proofs.Common.{◌≡◌, ◌+◌, length, drop, arith, sym, ap, ◌∙◌, refl}
use Rattle.std.proofs.lemmas.List.{length-drop, drop-drop}
use Rattle.akl_text.proofs.Reading.{read_tokens}
use Rattle.akl_text.proofs.SoFar.{so_far_layout, so_far_token, so_far_last, so_far_stuck, so_far_end, so_far_at}
use Rattle.akl_text.proofs.scan.tokens.Goals as goal

pub loop-at-preserved-in-Some : goal.loop-at-preserved-in-Some
loop-at-preserved-in-Some c =
    let e = c.rest_from-rest.ensures in
    let h = so_far_at c.loop-at.invariant.so_far (sym e) in
    let next-is : drop c.in-Some.len c.rest_from-rest.result.now ≡ drop (c.loop-at.at + c.in-Some.len) c.args.bytes.now = ap (drop c.in-Some.len) e ∙ drop-drop c.in-Some.len c.loop-at.at c.args.bytes.now in
    record {
      so_far = so_far_at (so_far_layout h c.in-Some.len c.in-Some.ensures.found c.in-Some.ensures.within.1) next-is;
      within = omega (arith, c.in-Some.ensures.within.1, ap length e, length-drop c.loop-at.at c.args.bytes.now, c.loop-at.invariant.within);
    }

pub returns-in_default-longest-clause-read : goal.returns-in_default-longest-clause-read
returns-in_default-longest-clause-read c =
    let e = c.rest_from-rest.ensures in
    so_far_stuck (so_far_at c.loop-at.invariant.so_far (sym e)) (omega (arith, ap length e, length-drop c.loop-at.at c.args.bytes.now, c.loop-at-test.true)) c.in_default.ensures.none c.in_default-longest.ensures.none

pub returns-in-End-clause-read : goal.returns-in-End-clause-read
returns-in-End-clause-read c =
    let e = c.rest_from-rest.ensures in
    rw c.in_ok-push.ensures.items
    (so_far_last (so_far_at c.loop-at.invariant.so_far (sym e)) c.in-Some-longest.kind c.in-Some-longest.len c.in-Some-longest.ensures.found c.in-Some-longest.ensures.within.1 c.in-End.is)

pub returns-in-End-clause-spelled : goal.returns-in-End-clause-spelled
returns-in-End-clause-spelled c = read_tokens c.args.bytes.now (returns-in-End-clause-read c) c.requires refl

pub loop-at-preserved : goal.loop-at-preserved
loop-at-preserved c =
    let e = c.rest_from-rest.ensures in
    let h = so_far_at c.loop-at.invariant.so_far (sym e) in
    let next-is : drop c.in-Some-longest.len c.rest_from-rest.result.now ≡ drop (c.loop-at.at + c.in-Some-longest.len) c.args.bytes.now = ap (drop c.in-Some-longest.len) e ∙ drop-drop c.in-Some-longest.len c.loop-at.at c.args.bytes.now in
    record {
      so_far = rw c.in_ok-push.ensures.items (so_far_at (so_far_token h c.in-Some-longest.kind c.in-Some-longest.len c.in-Some-longest.ensures.found c.in-Some-longest.ensures.within.1 c.in_default-kind.not-End) next-is);
      within = omega (arith, c.in-Some-longest.ensures.within.1, ap length e, length-drop c.loop-at.at c.args.bytes.now, c.loop-at.invariant.within);
    }

pub returns-clause-read : goal.returns-clause-read
returns-clause-read c = so_far_end c.loop-at.invariant.so_far (omega (arith, length-drop c.loop-at.at c.args.bytes.now, c.loop-at-test.false))

pub returns-clause-spelled : goal.returns-clause-spelled
returns-clause-spelled c = read_tokens c.args.bytes.now (returns-clause-read c) c.requires refl
