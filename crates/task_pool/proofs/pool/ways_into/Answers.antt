use Rattle.std.proofs.Common.{rules, ◌≡◌, ℕ, List, ◌+◌, ◌<◌, [], ◌∷◌, ◌++◌, length, map, take, replicate, All, ap, sym, ◌∙◌, subst, arith}
use Rattle.std.proofs.lemmas.List.{map-append, replicate_more, length-map}
use Rattle.std.proofs.lemmas.List.Elements.{All-append, All-nil, AllWithin-more_set}
use Rattle.crossbeam_deque.specs.Handles.{worker_deque}
use Rattle.std.proofs.Math.Seq.{take-length}
use Rattle.task_pool.specs.declared.rule.InOrder.{InOrder}
use Rattle.task_pool.specs.declared.way.Way.{Way}
use Rattle.task_pool.proofs.Keeps.{all_more}
use Rattle.task_pool.specs.Owners.{IsFresh}
use Rattle.task_pool.specs.Views.{taken_of}
use Rattle.task_pool.specs.Ways.{IsWayOf, deque_of, taken_through}
use Rattle.task_pool.proofs.Fresh.{fresh_after, new_way}
use Rattle.task_pool.proofs.Passing.{forks}
use Rattle.task_pool.proofs.Rows.{map_set, take_more, within_rest}
use Rattle.task_pool.proofs.pool.ways_into.Goals as goal

pub another-pass-requires : goal.another-pass-requires
another-pass-requires c =
    let fresh = c.loop-k.invariant.rest c.requires.0 c.requires.1 c.loop-k.k c.index_mut-deque.result.now (omega arith) c.loop-k-test.true in
    let here = subst (IsFresh c.requires.0) (sym c.index_mut-deque.ensures.value) fresh in
    rw here.owned.port (forks _)

pub loop-k-preserved : goal.loop-k-preserved
loop-k-preserved c =
    let l = c.loop-k.invariant in
    let k = c.loop-k.k in
    let e = c.index_mut-deque.result.now in
    let new = c.another-pass.new.self in
    let value = c.index_mut-deque.ensures.value in
    let inside : k < length c.loop-k.deques.items = omega arith in
    let same = c.another-pass.ensures.same.0 in
    let items = c.in_ok-push.ensures.items in
    let stealer = c.in_ok-stealer.ensures in
    let w : Way InOrder = record { stealer = c.in_ok-stealer.stealer; pass = c.another-pass.result } in
    let fresh : (n : ℕ) → All (IsFresh n) c.args.deques.now.items → IsFresh n e = λ n h. subst (IsFresh n) (sym value) (l.rest n h k e (omega arith) c.loop-k-test.true) in
    record {
      count = search rules;
      same = map_set worker_deque c.loop-k.deques.items k new e (same.0 ∙ ap worker_deque value) ∙ l.same;
      into =
          ap (map deque_of) items ∙ map-append deque_of c.loop-k.ways.items (w ∷ [])
          ∙ ap (λ ds. ds ++ deque_of w ∷ []) l.into
          ∙ take_more worker_deque c.loop-k.deques.items k e (map worker_deque c.args.deques.now.items) (deque_of w) inside l.same (stealer.0 ∙ ap worker_deque value);
      empty =
          ap (map taken_through) items ∙ map-append taken_through c.loop-k.ways.items (w ∷ [])
          ∙ ap (λ ts. ts ++ taken_through w ∷ []) l.empty
          ∙ ap (λ (t : List ℕ). replicate k [] ++ t ∷ []) (ap taken_of c.another-pass.ensures.rule.1)
          ∙ replicate_more k [];
      more = λ n h. AllWithin-more_set c.loop-k.deques.items k new inside (IsFresh (n + 1)) (l.more n h)
          (fresh_after n e new (fresh n h) same c.another-pass.ensures.same.1 c.another-pass.ensures.rule.0);
      rest = λ n h. within_rest (IsFresh n) c.loop-k.deques.items k c.len-k-end.result new (l.rest n h);
      of_hand = λ n h. subst (All (IsWayOf n)) (sym items)
          (All-append (IsWayOf n) c.loop-k.ways.items (w ∷ []) (l.of_hand n h)
          (all_more (IsWayOf n) w [] (new_way n e w (fresh n h) stealer.0 stealer.1 c.another-pass.ensures.same.2 c.another-pass.ensures.rule.1) (All-nil (IsWayOf n))));
    }

pub returns-clause-more : goal.returns-clause-more
returns-clause-more c n h i d less = c.loop-k.invariant.more n h i d (omega arith) (search rules)

pub returns-clause-ways : goal.returns-clause-ways
returns-clause-ways c n h =
    let l = c.loop-k.invariant in
    let m = length-map c.args.deques.now.items worker_deque in
    let ok = c.args.deques.now.ok.0 in
    let all : c.loop-k.k ≡ length (map worker_deque c.args.deques.now.items) = omega arith in
    record {
      into = l.into ∙ ap (λ (n : ℕ). take n (map worker_deque c.args.deques.now.items)) all ∙ take-length (map worker_deque c.args.deques.now.items);
      of_hand = l.of_hand n h;
      empty = l.empty ∙ ap (λ (m : ℕ). replicate m []) all;
    }
