use Rattle.std.proofs.Common.{◌≡◌, ℕ, ◌+◌, [], ◌∷◌, ◌++◌, length, map, replicate, slice_get, All, refl, ap, sym, ◌∙◌, subst, append_assoc, length-append, arith}
use Rattle.std.proofs.lemmas.List.{map-append, length-map}
use Rattle.std.proofs.lemmas.List.Elements.{All-append, All-nil}
use Rattle.std.proofs.lemmas.Option.{slice_get_within}
use Rattle.std.specs.Vec.Iter.{into_iter_items}
use Rattle.crossbeam_deque.specs.Handles.{worker_deque}
use Rattle.task_pool.specs.Hands.{standing_of, IsHand}
use Rattle.task_pool.proofs.Keeps.{all_more}
use Rattle.task_pool.specs.Owners.{IsFresh, AreFreshWays}
use Rattle.task_pool.specs.Places.{Place, Standing, IsNew, places_from}
use Rattle.task_pool.proofs.Begins.{at_seam, all_at, places_snoc, none_to_come, begun, is_hand, begins_at, begins_empty}
use Rattle.task_pool.proofs.Gathers.{get_mapped}
use Rattle.task_pool.proofs.pool.hands_of.Goals as goal

pub unreachable-requires : goal.unreachable-requires
unreachable-requires c =
    let l = c.loop-deque.invariant in
    let at = at_seam c.loop-deque.yielded c.in-Some.deque _ c.args.deques.items (ap (λ ds. c.loop-deque.yielded ++ ds) (sym c.in-Some.ensures.steps.0) ∙ l.deques) in
    let within = slice_get_within c.args.deques.items (length c.loop-deque.yielded) c.in-Some.deque at in
    let none = ap (λ rs. length rs) (none_to_come c.loop-deque.rows c.in_default.ensures.cases.0) in
    let all = ap (λ rs. length rs) l.rows.1 in
    let parts = length-append l.rows.0 (into_iter_items c.loop-deque.rows) in
    let count = c.requires.count in
    let front = l.rows.2 in
    omega arith

pub invariant_of-push : goal.invariant_of-push
invariant_of-push c =
    let l = c.loop-deque.invariant in
    let j = length c.loop-deque.yielded in
    let ids = map worker_deque c.args.deques.items in
    let count : length ids ≡ length c.args.deques.items = length-map c.args.deques.items worker_deque in
    let at = at_seam c.loop-deque.yielded c.in-Some.deque _ c.args.deques.items (ap (λ ds. c.loop-deque.yielded ++ ds) (sym c.in-Some.ensures.steps.0) ∙ l.deques) in
    let fresh : IsFresh (length ids) c.in-Some.deque = subst (λ (n : ℕ). IsFresh n c.in-Some.deque) (sym count) (all_at (IsFresh (length c.args.deques.items)) c.args.deques.items j c.in-Some.deque c.requires.deques at) in
    let row_at = at_seam l.rows.0 c.in-Some-next.ways _ c.args.rows.items (ap (λ rs. l.rows.0 ++ rs) (sym c.in-Some-next.ensures.items) ∙ l.rows.1) in
    let row : AreFreshWays j ids c.in-Some-next.ways.items = c.requires.rows j c.in-Some-next.ways (ap (λ (n : ℕ). slice_get c.args.rows.items n) (sym l.rows.2) ∙ row_at) in
    let number : c.len-number.result ≡ j = c.len-number.ensures ∙ c.loop-deque.hands.ok.0 ∙ l.count in
    subst (λ (n : ℕ). IsHand (begun c.in-Some.deque c.in-Some-next.ways ids n 64)) (sym number)
    (is_hand c.in-Some.deque c.in-Some-next.ways ids j 64 fresh (get_mapped worker_deque c.args.deques.items j c.in-Some.deque at) row refl)

pub loop-deque-preserved : goal.loop-deque-preserved
loop-deque-preserved c =
    let l = c.loop-deque.invariant in
    let j = length c.loop-deque.yielded in
    let ids = map worker_deque c.args.deques.items in
    let count : length ids ≡ length c.args.deques.items = length-map c.args.deques.items worker_deque in
    let at = at_seam c.loop-deque.yielded c.in-Some.deque _ c.args.deques.items (ap (λ ds. c.loop-deque.yielded ++ ds) (sym c.in-Some.ensures.steps.0) ∙ l.deques) in
    let fresh : IsFresh (length ids) c.in-Some.deque = subst (λ (n : ℕ). IsFresh n c.in-Some.deque) (sym count) (all_at (IsFresh (length c.args.deques.items)) c.args.deques.items j c.in-Some.deque c.requires.deques at) in
    let row_at = at_seam l.rows.0 c.in-Some-next.ways _ c.args.rows.items (ap (λ rs. l.rows.0 ++ rs) (sym c.in-Some-next.ensures.items) ∙ l.rows.1) in
    let row : AreFreshWays j ids c.in-Some-next.ways.items = c.requires.rows j c.in-Some-next.ways (ap (λ (n : ℕ). slice_get c.args.rows.items n) (sym l.rows.2) ∙ row_at) in
    let number : c.len-number.result ≡ j = c.len-number.ensures ∙ c.loop-deque.hands.ok.0 ∙ l.count in
    let hand : Standing = standing_of (begun c.in-Some.deque c.in-Some-next.ways ids c.len-number.result 64) in
    let items : c.push.new.self.items ≡ c.loop-deque.hands.items ++ hand ∷ [] = c.in_ok-push.ensures.items in
    let longer = length-append c.loop-deque.yielded (c.in-Some.deque ∷ []) in
    let next : length (c.loop-deque.yielded ++ c.in-Some.deque ∷ []) ≡ j + 1 = omega arith in
    let place : hand.place ≡ record { pool = ids; number = 0 + j } =
    ap (λ (n : ℕ). (standing_of (begun c.in-Some.deque c.in-Some-next.ways ids n 64)).place) number
    ∙ begins_at c.in-Some.deque c.in-Some-next.ways ids j 64 row
    ∙ (let z : j ≡ 0 + j = omega arith in ap (λ (n : ℕ). record { pool = ids; number = n }) z) in
    let empty = begins_empty c.in-Some.deque c.in-Some-next.ways ids j 64 fresh row in
    record {
      deques = append_assoc c.loop-deque.yielded (c.in-Some.deque ∷ []) (into_iter_items c.next.new.self) ∙ ap (λ ds. c.loop-deque.yielded ++ ds) (sym c.in-Some.ensures.steps.0) ∙ l.deques;
      rows = (
        l.rows.0 ++ c.in-Some-next.ways ∷ [],
        append_assoc l.rows.0 (c.in-Some-next.ways ∷ []) (into_iter_items c.next-in-loop-deque.new.self) ∙ ap (λ rs. l.rows.0 ++ rs) (sym c.in-Some-next.ensures.items) ∙ l.rows.1,
        (let a = length-append l.rows.0 (c.in-Some-next.ways ∷ []) in let b = l.rows.2 in omega arith),
      );
      count = (let a = ap (λ hs. length hs) items in let b = length-append c.loop-deque.hands.items (hand ∷ []) in let k = l.count in omega arith);
      places =
          ap (map (λ (h : Standing). h.place)) items ∙ map-append (λ (h : Standing). h.place) c.loop-deque.hands.items (hand ∷ [])
          ∙ ap (λ ps. ps ++ hand.place ∷ []) l.places
          ∙ ap (λ (p : Place). places_from ids 0 j ++ p ∷ []) place
          ∙ sym (places_snoc ids 0 j)
          ∙ ap (λ (n : ℕ). places_from ids 0 n) (sym next);
      fresh = subst (All (IsNew (length c.args.deques.items))) (sym items)
          (All-append (IsNew (length c.args.deques.items)) c.loop-deque.hands.items (hand ∷ []) l.fresh
          (all_more (IsNew (length c.args.deques.items)) hand []
          (refl, empty.0, empty.1, empty.2 ∙ ap (λ (n : ℕ). replicate n []) count)
          (All-nil (IsNew (length c.args.deques.items)))));
    }

pub returns-clause-pool : goal.returns-clause-pool
returns-clause-pool c =
    let l = c.loop-deque.invariant in
    let ids = map worker_deque c.args.deques.items in
    let none = ap (λ ds. length ds) (none_to_come c.loop-deque.deque-iterator c.in-None.ensures.steps.0) in
    let all = ap (λ ds. length ds) l.deques in
    let parts = length-append c.loop-deque.yielded (into_iter_items c.loop-deque.deque-iterator) in
    let mapped = length-map c.args.deques.items worker_deque in
    let count : length c.loop-deque.yielded ≡ length ids = omega arith in
    (ids, l.places ∙ ap (λ (n : ℕ). places_from ids 0 n) count)
