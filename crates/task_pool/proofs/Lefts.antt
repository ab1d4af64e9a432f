-- What is left in the deque of one number, once its owner has every pass.
use Rattle.std.proofs.Common.{◌≡◌, ℕ, zero, suc, ◌+◌, ◌<◌, List, [], ◌∷◌, ◌++◌, length, map, drop, slice_get, Some, All, refl, ap, sym, ◌∙◌, subst, append-nil, append_assoc, arith}
use Rattle.std.proofs.lemmas.List.{length-map}
use Rattle.std.proofs.lemmas.Option.{slice_get_within}
use Rattle.std.specs.Global.{Global}
use Rattle.crossbeam_deque.specs.declared.handles.Worker.{Worker}
use Rattle.crossbeam_deque.specs.Handles.{worker_deque, worker_view}
use Rattle.task_pool.specs.declared.view.View.{View}
use Rattle.task_pool.specs.declared.way.Way.{Way}
use Rattle.task_pool.specs.Departures.{Departure, taken_by}
use Rattle.task_pool.specs.Kept.{IsTrueOf, Leaves, count_of}
use Rattle.task_pool.specs.Left.{LeavesInOrder, flat}
use Rattle.task_pool.specs.Owners.{IsOwned, IsNextWay, HasAll, accounts_from, gathered, next_taken, others}
use Rattle.task_pool.specs.Places.{Place, Standing, IsPool}
use Rattle.task_pool.specs.Views.{of_owner}
use Rattle.task_pool.specs.Ways.{deque_of, IsWayOf}
use Rattle.task_pool.proofs.Ends.{same_some, Aparts, ApartAt, aparts_at, aparts_count, next_at, taken_at, place_of, pool_count, count_from, account_true}
use Rattle.task_pool.proofs.Gathers.{get_mapped}

module _ {P : Type 0} (hands : List Standing) (p : IsPool hands) (ds : List (Worker ℕ Global View P)) (rows : List (List (Way P))) (a : Aparts hands ds rows) (j : ℕ) (d : Worker ℕ Global View P) (at : slice_get ds j ≡ Some d) where
  inside : j < length hands
  inside = subst (λ (n : ℕ). j < n) (aparts_count hands ds rows a).0 (slice_get_within ds j d at)

  mine : ApartAt hands ds rows j
  mine = aparts_at hands ds rows j a inside

  deque_is : mine.deque ≡ d
  deque_is = same_some mine.deque d (sym mine.deque_at ∙ at)

  place : mine.hand.place ≡ record { pool = p.0; number = j }
  place = place_of hands p j mine.hand mine.hand_at

  own : slice_get p.0 j ≡ Some (worker_deque d)
  own = ap (λ (q : Place). slice_get q.pool q.number) (sym place) ∙ mine.parts.own ∙ ap (λ (e : Worker ℕ Global View P). Some (worker_deque e)) deque_is

  pub the_owner : (h : Standing) → slice_get hands j ≡ Some h → IsOwned (of_owner h.calls h.pushed (length p.0)) d
  the_owner h e =
      let same : mine.hand ≡ h = same_some mine.hand h (sym mine.hand_at ∙ e) in
      subst (λ (s : Standing). IsOwned (of_owner s.calls s.pushed (length p.0)) d) same
      (subst (λ (w : Worker ℕ Global View P). IsOwned (of_owner mine.hand.calls mine.hand.pushed (length p.0)) w) deque_is
      (subst (λ (q : Place). IsOwned (of_owner mine.hand.calls mine.hand.pushed (length q.pool)) mine.deque) place mine.parts.owned))

  into_at : (k : ℕ) (o : ApartAt hands ds rows k) → slice_get (map deque_of o.row) j ≡ Some (worker_deque d)
  into_at k o = ap (λ l. slice_get l j) (o.parts.into ∙ ap (λ (q : Place). q.pool) (place_of hands p k o.hand o.hand_at)) ∙ own

  pub next_ways : (k : ℕ) (row : List (Way P)) → slice_get (map (drop j) rows) k ≡ Some row → IsNextWay k (worker_deque d) row
  next_ways k row e =
      let within : k < length hands = subst (λ (n : ℕ). k < n) (length-map rows (drop j) ∙ (aparts_count hands ds rows a).1) (slice_get_within (map (drop j) rows) k row e) in
      let o = aparts_at hands ds rows k a within in
      let same : drop j o.row ≡ row = same_some (drop j o.row) row (sym (get_mapped (drop j) rows k o.row o.row_at) ∙ e) in
      subst (IsNextWay k (worker_deque d)) same
      (next_at o.row j k (worker_deque d) (into_at k o) (subst (λ (q : Place). All (IsWayOf q.number) o.row) (place_of hands p k o.hand o.hand_at) o.parts.of_hand))

  abbrev lists : List (List ℕ)
  lists = map next_taken (map (drop j) rows)

  lists_count : length lists ≡ length hands
  lists_count = length-map (map (drop j) rows) next_taken ∙ length-map rows (drop j) ∙ (aparts_count hands ds rows a).1

  list_at : (k : ℕ) (h : Standing) → slice_get hands k ≡ Some h → (x : List ℕ) × (slice_get lists k ≡ Some x) × (slice_get h.taken j ≡ Some x)
  list_at k h e =
      let o = aparts_at hands ds rows k a (slice_get_within hands k h e) in
      let same : o.hand ≡ h = same_some o.hand h (sym o.hand_at ∙ e) in (
        next_taken (drop j o.row),
        get_mapped next_taken (map (drop j) rows) k (drop j o.row) (get_mapped (drop j) rows k o.row o.row_at),
        ap (λ (s : Standing). slice_get s.taken j) (sym same) ∙ ap (λ l. slice_get l j) (sym o.parts.taken) ∙ taken_at o.row j (worker_deque d) (into_at k o),
      )

  module _ (v : View) (is : v ≡ gathered (worker_view d) lists) where
    view : v ≡ record { calls = mine.hand.calls; pushed = mine.hand.pushed; passes = length p.0; accounts = accounts_from 0 lists }
    view = is ∙ ap (λ (u : View). gathered u lists) (the_owner mine.hand mine.hand_at).view

    pub some_pass : 0 < v.passes
    some_pass = let n = ap (λ (u : View). u.passes) view in let c = pool_count hands p in let i = inside in omega arith

    pub has_all : HasAll v
    has_all k l =
        let n = ap (λ (u : View). u.passes) view in
        let c = pool_count hands p in
        let m = lists_count in
        ap (λ (u : View). count_of k u.accounts) view ∙ count_from 0 lists k (omega arith) (omega arith)

    pub in_order : (left : List ℕ) → Leaves v left → (h : Standing) → slice_get hands j ≡ Some h → LeavesInOrder hands j h.pushed left
    in_order left l h e =
        let same : mine.hand ≡ h = same_some mine.hand h (sym mine.hand_at ∙ e) in
        let passes : v.passes ≡ length hands = ap (λ (u : View). u.passes) view ∙ sym (pool_count hands p) in
        let true_accounts : All (IsTrueOf l.0) (accounts_from 0 lists) = subst (λ (u : View). All (IsTrueOf l.0) u.accounts) view l.2 in (
          l.0,
          ap (λ (s : Standing). s.pushed) (sym same) ∙ sym (ap (λ (u : View). u.pushed) view) ∙ l.1,
          subst (λ (n : ℕ). All (λ (d : Departure). d.hand < n) l.0) passes l.3,
          λ k g f.
              let x = list_at k g f in
              let z : 0 + k ≡ k = omega arith in
              x.2 ∙ ap (λ y. Some y) (account_true l.0 0 lists k x.0 true_accounts x.1 ∙ ap (λ (i : ℕ). taken_by i l.0) z),
        )

pub drop_none : {X : Type 0} (rows : List (List X)) → map (drop 0) rows ≡ rows
drop_none [] = refl
drop_none (r ∷ rows) = ap (λ l. r ∷ l) (drop_none rows)

drop_more : {P : Type 0} (row : List (Way P)) (j : ℕ) → others (drop j row) ≡ drop (suc j) row
drop_more [] zero = refl
drop_more [] (suc j) = refl
drop_more (w ∷ row) zero = refl
drop_more (w ∷ row) (suc j) = drop_more row j

-- the rows after each gave its next way
pub others_dropped : {P : Type 0} (rows : List (List (Way P))) (j n : ℕ) → n ≡ j + 1 → map others (map (drop j) rows) ≡ map (drop n) rows
others_dropped [] j n e = refl
others_dropped (r ∷ rows) j n e =
    let s : suc j ≡ n = omega arith in
    λ i. (drop_more r j ∙ ap (λ (m : ℕ). drop m r) s) i ∷ others_dropped rows j n e i

pub flat_more : (lists : List (List ℕ)) (l : List ℕ) → flat (lists ++ l ∷ []) ≡ flat lists ++ l
flat_more [] l = append-nil l
flat_more (x ∷ xs) l = ap (λ z. x ++ z) (flat_more xs l) ∙ sym (append_assoc x (flat xs) l)

pub owner_at : {P : Type 0} (hands : List Standing) (p : IsPool hands) (ds : List (Worker ℕ Global View P)) (rows : List (List (Way P))) (a : Aparts hands ds rows) (j : ℕ) (d : Worker ℕ Global View P) → slice_get ds j ≡ Some d
    → (h : Standing) × (slice_get hands j ≡ Some h) × IsOwned (of_owner h.calls h.pushed (length p.0)) d
owner_at hands p ds rows a j d at =
    let o = aparts_at hands ds rows j a (subst (λ (n : ℕ). j < n) (aparts_count hands ds rows a).0 (slice_get_within ds j d at)) in
    (o.hand, o.hand_at, the_owner hands p ds rows a j d at o.hand o.hand_at)
