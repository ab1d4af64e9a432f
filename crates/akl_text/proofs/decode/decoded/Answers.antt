use Rattle.std.proofs.Common.{sym, ◌∙◌}
use Rattle.std.proofs.lemmas.Iterator.{YieldsList-from_chars}
use Rattle.std.proofs.lemmas.List.{length_push}
use Rattle.std.proofs.lemmas.Iterator.Consumers.{YieldsList-turn, YieldsList-end}
use Rattle.std.specs.Str.{chars}
use Rattle.std.specs.Prelude.{string_bytes}
use Rattle.akl_text.proofs.Decoding.{after_escape, after_mark, after_plain, at_end}
use Rattle.akl_text.proofs.decode.decoded.Goals as goal

pub loop-c-preserved-then-escaped : goal.loop-c-preserved-then-escaped
loop-c-preserved-then-escaped c =
    let t = YieldsList-turn (YieldsList-from_chars c.args.inner.now c.utf8.inner cc) c.loop-c.yielded _ c.loop-c.yielded_by _ _ c.in-Some.c c.in-Some.is c.next.ensures.steps in
    let n = length_push c.loop-c.yielded c.in-Some.c in
    rw (c.in_ok-push.ensures.bytes, n, c.meaning.ensures) (after_escape _ _ _ _ t.0 t.1 (rw c.if-escaped.true at c.loop-c.invariant))

pub loop-c-preserved-then-is_mark : goal.loop-c-preserved-then-is_mark
loop-c-preserved-then-is_mark c =
    let t = YieldsList-turn (YieldsList-from_chars c.args.inner.now c.utf8.inner cc) c.loop-c.yielded _ c.loop-c.yielded_by _ _ c.in-Some.c c.in-Some.is c.next.ensures.steps in
    let n = length_push c.loop-c.yielded c.in-Some.c in
    rw n (after_mark _ _ _ _ t.0 t.1 (sym c.is_mark.ensures ∙ c.if-is_mark.true) (rw c.if-escaped.false at c.loop-c.invariant))

pub loop-c-preserved : goal.loop-c-preserved
loop-c-preserved c =
    let t = YieldsList-turn (YieldsList-from_chars c.args.inner.now c.utf8.inner cc) c.loop-c.yielded _ c.loop-c.yielded_by _ _ c.in-Some.c c.in-Some.is c.next.ensures.steps in
    let n = length_push c.loop-c.yielded c.in-Some.c in
    rw (c.in_ok-push-2.ensures.bytes, n, c.if-escaped.false) (after_plain _ _ _ _ t.0 t.1 (sym c.is_mark.ensures ∙ c.if-is_mark.false) (rw c.if-escaped.false at c.loop-c.invariant))

pub returns : goal.returns
returns c =
    let t = YieldsList-end (YieldsList-from_chars c.args.inner.now c.utf8.inner cc) c.loop-c.yielded _ c.loop-c.yielded_by _ _ c.in-None.is c.next.ensures.steps in
    at_end (string_bytes c.loop-c.text) (chars c.args.inner.now) c.loop-c.escaped (rw t.1 at c.loop-c.invariant)
