use Rattle.std.proofs.Common.{◌≡◌, ◌<◌, length, map, slice_get, ap, ◌∙◌, subst, rules}
use Rattle.std.proofs.lemmas.Option.{IfSome_then}
use Rattle.task_pool.specs.Ways.{deque_of, view_of, taken_through, appended}
use Rattle.task_pool.proofs.Moves.{keeps, took, found_none, same_place, if_none_both}
use Rattle.task_pool.proofs.hand.take.Goals as goal

pub take_around-requires-clause-ways : goal.take_around-requires-clause-ways
take_around-requires-clause-ways g c = (c.hand.inside.number, rw c.as_mut_slice.ensures.value c.hand.invariant.ways)

pub invariant_of-hand : goal.invariant_of-hand
invariant_of-hand g c =
    let full : length c.take_around.new.ways ≡ c.hand.inside.ways.len = search rules in
    let same = c.take_around.ensures.deques ∙ ap (map deque_of) c.as_mut_slice.ensures.value in
    let t = c.take_around.ensures in
    keeps c.hand.inside c.take_around.new.deque c.take_around.new.ways full same t.same.0 t.call t.same.1
    (t.ways c.hand.inside.number (rw c.as_mut_slice.ensures.value c.hand.invariant.ways)) c.hand.invariant

pub returns-clause-some : goal.returns-clause-some
returns-clause-some g c =
    let full : length c.take_around.new.ways ≡ c.hand.inside.ways.len = search rules in
    let same = c.take_around.ensures.deques ∙ ap (map deque_of) c.as_mut_slice.ensures.value in
    let t = c.take_around.ensures in
    let ways = t.ways c.hand.inside.number (rw c.as_mut_slice.ensures.value c.hand.invariant.ways) in
    let hand = keeps c.hand.inside c.take_around.new.deque c.take_around.new.ways full same t.same.0 t.call t.same.1 ways c.hand.invariant in
    IfSome_then c.take_around.result t.some
    (λ token s.
    let inside : s.0 < length c.hand.inside.ways.items = subst (λ ws. s.0 < length ws) c.as_mut_slice.ensures.value s.1 in
    let appends = s.2 ∙ ap (λ ws. appended s.0 token (map taken_through ws)) c.as_mut_slice.ensures.value in (
      s.0,
      took c.hand.inside c.take_around.new.deque c.take_around.new.ways full same t.same.0 t.call g.P.Protocol.holds hand c.args.hand.now c.hand.view_is s.0 token inside appends s.3,
    ))

pub returns-clause-none : goal.returns-clause-none
returns-clause-none g c =
    let full : length c.take_around.new.ways ≡ c.hand.inside.ways.len = search rules in
    let same = c.take_around.ensures.deques ∙ ap (map deque_of) c.as_mut_slice.ensures.value in
    let t = c.take_around.ensures in
    let ways = t.ways c.hand.inside.number (rw c.as_mut_slice.ensures.value c.hand.invariant.ways) in
    let hand = keeps c.hand.inside c.take_around.new.deque c.take_around.new.ways full same t.same.0 t.call t.same.1 ways c.hand.invariant in
    if_none_both c.take_around.result
    (λ none others.
    found_none c.hand.inside c.take_around.new.deque c.take_around.new.ways full same t.same.0 t.call g.P.Protocol.holds c.hand.invariant hand c.args.hand.now c.hand.view_is
    (none.0 ∙ ap (map taken_through) c.as_mut_slice.ensures.value) none.1
    (λ k v other at. others k v other (ap (λ ws. slice_get (map view_of ws) k) c.as_mut_slice.ensures.value ∙ at)))
    t.none t.others

pub returns-clause-place : goal.returns-clause-place
returns-clause-place g c =
    let full : length c.take_around.new.ways ≡ c.hand.inside.ways.len = search rules in
    let same = c.take_around.ensures.deques ∙ ap (map deque_of) c.as_mut_slice.ensures.value in
    let t = c.take_around.ensures in
    same_place c.hand.inside c.take_around.new.deque c.take_around.new.ways full same t.same.0 t.call c.args.hand.now c.hand.view_is
