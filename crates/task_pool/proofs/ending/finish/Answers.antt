use Rattle.std.proofs.Common.{rules, ◌≡◌, ℕ, ◌+◌, List, [], ◌∷◌, ◌++◌, length, map, drop, slice_get, Some, refl, ap, sym, ◌∙◌, subst, append_assoc, append-nil, length-append, arith}
use Rattle.std.proofs.lemmas.List.{map-append, with_items_is}
use Rattle.std.proofs.lemmas.Option.{none-some}
use Rattle.std.specs.Vec.Iter.{into_iter_items}
use Rattle.crossbeam_deque.specs.Handles.{worker_view}
use Rattle.task_pool.specs.Left.{LeavesInOrder}
use Rattle.task_pool.specs.Owners.{ways_of, others, gathered, next_taken}
use Rattle.task_pool.specs.Places.{Standing}
use Rattle.task_pool.proofs.Balance.{balance}
use Rattle.task_pool.proofs.Begins.{at_seam, none_to_come, one_more_at}
use Rattle.task_pool.proofs.Ends.{Aparts, apart, aparts_more, full_taken, aparts_count}
use Rattle.task_pool.proofs.Lefts.{next_ways, some_pass, has_all, in_order, drop_none, others_dropped, flat_more, owner_at}
use Rattle.task_pool.proofs.ending.finish.Goals as goal

pub loop-hand-preserved : goal.loop-hand-preserved
loop-hand-preserved c =
    let l = c.loop-hand.invariant in
    let ways : ways_of c.push-in-loop-hand.new.self.items ≡ ways_of c.loop-hand.rows.items ++ c.hand.inside.ways.items ∷ [] =
    ap ways_of c.in_ok-push-2.ensures.items ∙ map-append into_iter_items c.loop-hand.rows.items (c.into_iter.result ∷ [])
    ∙ ap (λ r. ways_of c.loop-hand.rows.items ++ r ∷ []) c.into_iter.ensures.rest in
    record {
      hands = append_assoc c.loop-hand.yielded (c.in-Some.hand ∷ []) (into_iter_items c.next.new.self) ∙ ap (λ hs. c.loop-hand.yielded ++ hs) (sym c.in-Some.ensures.steps.0) ∙ l.hands;
      parts = rw (c.in_ok-push.ensures.items, ways)
          (aparts_more c.loop-hand.yielded c.loop-hand.deques.items (ways_of c.loop-hand.rows.items) c.in-Some.hand c.hand.inside.deque c.hand.inside.ways.items l.parts
          (apart c.hand.inside c.in-Some.hand c.hand.view_is c.hand.invariant));
    }

pub loop-deque-init : goal.loop-deque-init
loop-deque-init c =
    let l = c.loop-hand.invariant in
    let all : c.loop-hand.yielded ≡ c.args.hands.items =
    sym (append-nil c.loop-hand.yielded) ∙ ap (λ hs. c.loop-hand.yielded ++ hs) (sym (none_to_come c.loop-hand.hand-iterator c.in-None.ensures.steps.0)) ∙ l.hands in
    record {
      parts = rw c.into_iter-deque-iterator.ensures.into_iter_gives.0 (subst (λ (hs : List Standing). Aparts hs c.loop-hand.deques.items (ways_of c.loop-hand.rows.items)) all l.parts);
      deques = refl;
      rows = sym (drop_none (ways_of c.loop-hand.rows.items));
      left = ([], c.new-left.ensures.items, refl, λ number left e. absurd (none-some left e));
    }

pub gather-requires-clause-owner : goal.gather-requires-clause-owner
gather-requires-clause-owner c =
    let l = c.loop-deque.invariant in
    let j = length c.loop-deque.yielded in
    let d = c.in-Some-deque.deque in
    let all_deques = into_iter_items c.into_iter-deque-iterator.result in
    let at = at_seam c.loop-deque.yielded d _ all_deques (ap (λ ds. c.loop-deque.yielded ++ ds) (sym c.in-Some-deque.ensures.steps.0) ∙ l.deques) in
    let o = owner_at c.args.hands.items c.requires all_deques (ways_of c.loop-hand.rows.items) l.parts j d at in
    o.2.port

pub gather-requires-clause-rows : goal.gather-requires-clause-rows
gather-requires-clause-rows c k row e =
    let l = c.loop-deque.invariant in
    let j = length c.loop-deque.yielded in
    let d = c.in-Some-deque.deque in
    let all_deques = into_iter_items c.into_iter-deque-iterator.result in
    let at = at_seam c.loop-deque.yielded d _ all_deques (ap (λ ds. c.loop-deque.yielded ++ ds) (sym c.in-Some-deque.ensures.steps.0) ∙ l.deques) in
    let rows : ways_of c.as_mut_slice.result.now ≡ map (drop j) (ways_of c.loop-hand.rows.items) = ap ways_of c.as_mut_slice.ensures.value ∙ l.rows in
    next_ways c.args.hands.items c.requires all_deques (ways_of c.loop-hand.rows.items) l.parts j d at k row (ap (λ rs. slice_get rs k) (sym rows) ∙ e)

pub drain-requires-clause-owner : goal.drain-requires-clause-owner
drain-requires-clause-owner c =
    let l = c.loop-deque.invariant in
    let j = length c.loop-deque.yielded in
    let d = c.in-Some-deque.deque in
    let all_deques = into_iter_items c.into_iter-deque-iterator.result in
    let at = at_seam c.loop-deque.yielded d _ all_deques (ap (λ ds. c.loop-deque.yielded ++ ds) (sym c.in-Some-deque.ensures.steps.0) ∙ l.deques) in
    let o = owner_at c.args.hands.items c.requires all_deques (ways_of c.loop-hand.rows.items) l.parts j d at in
    (c.gather.ensures.same.1 ∙ o.2.fifo, c.gather.ensures.same.2 ∙ o.2.port)

pub drain-requires-clause-all : goal.drain-requires-clause-all
drain-requires-clause-all c =
    let l = c.loop-deque.invariant in
    let j = length c.loop-deque.yielded in
    let d = c.in-Some-deque.deque in
    let all_deques = into_iter_items c.into_iter-deque-iterator.result in
    let at = at_seam c.loop-deque.yielded d _ all_deques (ap (λ ds. c.loop-deque.yielded ++ ds) (sym c.in-Some-deque.ensures.steps.0) ∙ l.deques) in
    let rows : ways_of c.as_mut_slice.result.now ≡ map (drop j) (ways_of c.loop-hand.rows.items) = ap ways_of c.as_mut_slice.ensures.value ∙ l.rows in
    let v = worker_view c.gather.new.deque in
    let view : v ≡ gathered (worker_view d) (map next_taken (map (drop j) (ways_of c.loop-hand.rows.items))) = c.gather.ensures.view ∙ ap (λ rs. gathered (worker_view d) (map next_taken rs)) rows in
    (has_all c.args.hands.items c.requires all_deques (ways_of c.loop-hand.rows.items) l.parts j d at v view, some_pass c.args.hands.items c.requires all_deques (ways_of c.loop-hand.rows.items) l.parts j d at v view)

pub loop-deque-preserved : goal.loop-deque-preserved
loop-deque-preserved c =
    let l = c.loop-deque.invariant in
    let j = length c.loop-deque.yielded in
    let d = c.in-Some-deque.deque in
    let all_deques = into_iter_items c.into_iter-deque-iterator.result in
    let at = at_seam c.loop-deque.yielded d _ all_deques (ap (λ ds. c.loop-deque.yielded ++ ds) (sym c.in-Some-deque.ensures.steps.0) ∙ l.deques) in
    let rows : ways_of c.as_mut_slice.result.now ≡ map (drop j) (ways_of c.loop-hand.rows.items) = ap ways_of c.as_mut_slice.ensures.value ∙ l.rows in
    let v = worker_view c.gather.new.deque in
    let view : v ≡ gathered (worker_view d) (map next_taken (map (drop j) (ways_of c.loop-hand.rows.items))) = c.gather.ensures.view ∙ ap (λ rs. gathered (worker_view d) (map next_taken rs)) rows in
    let longer = length-append c.loop-deque.yielded (d ∷ []) in
    let next : length (c.loop-deque.yielded ++ d ∷ []) ≡ j + 1 = omega arith in
    let full : length c.gather.new.rows ≡ c.loop-deque.rows.len = search rules in
    let t = c.in_ok-drain.ensures in
    let i = l.left in
    record {
      parts = l.parts;
      deques = append_assoc c.loop-deque.yielded (d ∷ []) (into_iter_items c.next-in-loop-deque.new.self) ∙ ap (λ ds. c.loop-deque.yielded ++ ds) (sym c.in-Some-deque.ensures.steps.0) ∙ l.deques;
      rows = ap ways_of (with_items_is c.loop-deque.rows c.gather.new.rows full) ∙ c.gather.ensures.rows ∙ ap (map others) rows ∙ others_dropped (ways_of c.loop-hand.rows.items) j (length (c.loop-deque.yielded ++ d ∷ [])) next;
      left = (
        i.0 ++ t.0 ∷ [],
        t.1 ∙ ap (λ z. z ++ t.0) i.1 ∙ sym (flat_more i.0 t.0),
        (let a = length-append i.0 (t.0 ∷ []) in let b = i.2 in omega arith),
        one_more_at (λ (number : ℕ) (left : List ℕ). (h : Standing) → slice_get c.args.hands.items number ≡ Some h → LeavesInOrder c.args.hands.items number h.pushed left) i.0 t.0 i.3
            (subst (λ (number : ℕ). (h : Standing) → slice_get c.args.hands.items number ≡ Some h → LeavesInOrder c.args.hands.items number h.pushed t.0) (sym i.2)
            (in_order c.args.hands.items c.requires all_deques (ways_of c.loop-hand.rows.items) l.parts j d at v view t.0 t.2)),
      );
    }

pub returns-clause-order : goal.returns-clause-order
returns-clause-order c =
    let l = c.loop-deque.invariant in
    let none = ap (λ ds. length ds) (none_to_come c.loop-deque.deque-iterator c.in-None-deque.ensures.steps.0) in
    let all = ap (λ ds. length ds) l.deques in
    let parts = length-append c.loop-deque.yielded (into_iter_items c.loop-deque.deque-iterator) in
    let count = (aparts_count c.args.hands.items (into_iter_items c.into_iter-deque-iterator.result) (ways_of c.loop-hand.rows.items) l.parts).0 in
    let n = l.left.2 in
    (l.left.0, l.left.1, omega arith, λ number h left e f. l.left.3 number left f h e)

pub returns-clause-balance : goal.returns-clause-balance
returns-clause-balance c =
    balance c.args.hands.items c.loop-deque.left.items (returns-clause-order c)
    (full_taken c.args.hands.items c.requires (into_iter_items c.into_iter-deque-iterator.result) (ways_of c.loop-hand.rows.items) c.loop-deque.invariant.parts)
