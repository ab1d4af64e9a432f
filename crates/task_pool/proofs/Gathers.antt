-- The owner of a deque takes back the next way of each row.
use Rattle.std.proofs.Common.{◌≡◌, ℕ, zero, suc, ◌+◌, ◌<◌, List, [], ◌∷◌, ◌++◌, length, take, map, set, get_or, slice_get, Some, refl, ap, sym, ◌∙◌, subst, append_assoc, arith}
use Rattle.std.proofs.lemmas.Option.{none-some}
use Rattle.std.specs.Global.{Global}
use Rattle.std.specs.Vec.Iter.{into_iter_items, into_iter_len}
use Rattle.std.specs.declared.vec.IntoIter.{IntoIter}
use Rattle.crossbeam_deque.specs.Handles.{view}
use Rattle.task_pool.specs.declared.view.View.{View}
use Rattle.task_pool.specs.declared.way.Way.{Way}
use Rattle.task_pool.specs.Owners.{IsNextWay, ways_of, next_taken, others, gathered, accounts_from}
use Rattle.task_pool.specs.Places.{DequeId}
use Rattle.task_pool.specs.Views.{joined, account}
use Rattle.task_pool.specs.Ways.{IsWayOf, deque_of, taken_through}
use Rattle.task_pool.proofs.Rows.{changed, changed_next, changed_here}

module _ {X Y : Type 0} (f : X → Y) where
  pub get_map : (xs : List X) (k : ℕ) (d : X) → k < length xs → slice_get (map f xs) k ≡ Some (f (get_or xs k d))
  get_map [] k d l = absurd (omega arith)
  get_map (x ∷ xs) zero d l = refl
  get_map (x ∷ xs) (suc k) d l = get_map xs k d (omega arith)

  pub get_mapped : (xs : List X) (k : ℕ) (x : X) → slice_get xs k ≡ Some x → slice_get (map f xs) k ≡ Some (f x)
  get_mapped [] k x e = absurd (none-some x e)
  get_mapped (y ∷ ys) zero x e = let s : y ≡ x = cc in ap (λ z. Some (f z)) s
  get_mapped (y ∷ ys) (suc k) x e = get_mapped ys k x e

  pub map_of_set : (xs : List X) (k : ℕ) (x : X) → map f (set xs k x) ≡ set (map f xs) k (f x)
  map_of_set [] k x = refl
  map_of_set (y ∷ ys) zero x = refl
  map_of_set (y ∷ ys) (suc k) x = ap (λ l. f y ∷ l) (map_of_set ys k x)

take_snoc' : {X : Type 0} (xs : List X) (k : ℕ) (x : X) → slice_get xs k ≡ Some x → take k xs ++ x ∷ [] ≡ take (suc k) xs
take_snoc' [] k x e = absurd (none-some x e)
take_snoc' (y ∷ ys) zero x e = let s : y ≡ x = cc in ap (λ z. z ∷ []) (sym s)
take_snoc' (y ∷ ys) (suc k) x e = ap (λ l. y ∷ l) (take_snoc' ys k x e)

pub take_snoc : {X : Type 0} (xs : List X) (k : ℕ) (x : X) → slice_get xs k ≡ Some x → take k xs ++ x ∷ [] ≡ take (k + 1) xs
take_snoc xs k x e = let n : suc k ≡ k + 1 = omega arith in take_snoc' xs k x e ∙ ap (λ (m : ℕ). take m xs) n

pub full_take : {X : Type 0} (xs : List X) (k : ℕ) (x : X) → slice_get xs k ≡ Some x → length (take k xs) ≡ k
full_take [] k x e = absurd (none-some x e)
full_take (y ∷ ys) zero x e = refl
full_take (y ∷ ys) (suc k) x e = let h = full_take ys k x e in omega arith

pub accounts_snoc : (n : ℕ) (lists : List (List ℕ)) (taken : List ℕ) → accounts_from n (lists ++ taken ∷ []) ≡ accounts_from n lists ++ account (n + length lists) taken ∷ []
accounts_snoc n [] taken = let z : n ≡ n + 0 = omega arith in ap (λ (m : ℕ). account m taken ∷ []) z
accounts_snoc n (l ∷ rest) taken =
    let z : (n + 1) + length rest ≡ n + length (l ∷ rest) = omega arith in
    ap (λ as'. account n l ∷ as') (accounts_snoc (n + 1) rest taken ∙ ap (λ (m : ℕ). accounts_from (n + 1) rest ++ account m taken ∷ []) z)

module _ {P : Type 0} where
  pub the_row : (rows0 rows : List (IntoIter (Way P) Global)) (k : ℕ) (d : IntoIter (Way P) Global) → k < length rows → ways_of rows ≡ changed others k (ways_of rows0) → slice_get (ways_of rows0) k ≡ Some (into_iter_items (get_or rows k d))
  the_row rows0 rows k d l e = sym (changed_here others k (ways_of rows0)) ∙ ap (λ rs. slice_get rs k) (sym e) ∙ get_map into_iter_items rows k d l

  pub next_is : (k : ℕ) (id : DequeId) (row : List (Way P)) (w : Way P) (rest : List (Way P)) → IsNextWay k id row → row ≡ w ∷ rest → IsWayOf k w × (deque_of w ≡ id)
  next_is k id row w rest n e =
      let both : n.0 ∷ n.1 ≡ w ∷ rest = sym n.2 ∙ e in
      let s : n.0 ≡ w = cc in
      (subst (IsWayOf k) s n.3, ap deque_of (sym s) ∙ n.4)

  pub gathers : (v0 v v' : View) (rows : List (List (Way P))) (k : ℕ) (row : List (Way P)) (w : Way P) (rest : List (Way P)) → slice_get rows k ≡ Some row → row ≡ w ∷ rest → IsWayOf k w
      → v ≡ gathered v0 (take k (map next_taken rows)) → v' ≡ joined v (view w.pass) → v' ≡ gathered v0 (take (k + 1) (map next_taken rows))
  gathers v0 v v' rows k row w rest at e way is next =
      let lists = take k (map next_taken rows) in
      let t = taken_through w in
      let here : slice_get (map next_taken rows) k ≡ Some t = get_mapped next_taken rows k row at ∙ ap (λ r. Some (next_taken r)) e in
      let count : 0 + length lists ≡ k = let h = full_take (map next_taken rows) k t here in omega arith in
      let all : (v0.accounts ++ accounts_from 0 lists) ++ account k t ∷ [] ≡ v0.accounts ++ accounts_from 0 (take (k + 1) (map next_taken rows)) =
      append_assoc v0.accounts (accounts_from 0 lists) (account k t ∷ [])
      ∙ ap (λ as'. v0.accounts ++ as') (ap (λ (m : ℕ). accounts_from 0 lists ++ account m t ∷ []) (sym count) ∙ sym (accounts_snoc 0 lists t) ∙ ap (accounts_from 0) (take_snoc (map next_taken rows) k t here)) in
      next ∙ ap (λ u. joined u (view w.pass)) is ∙ ap (joined (gathered v0 lists)) way.2 ∙ ap (λ as'. record { calls = v0.calls; pushed = v0.pushed; passes = v0.passes; accounts = as' }) all

  pub next_rows : (rows0 rows : List (IntoIter (Way P) Global)) (k : ℕ) (new : IntoIter (Way P) Global) (row : List (Way P)) (w : Way P) → ways_of rows ≡ changed others k (ways_of rows0)
      → slice_get (ways_of rows0) k ≡ Some row → row ≡ w ∷ into_iter_items new → ways_of (set rows k new) ≡ changed others (k + 1) (ways_of rows0)
  next_rows rows0 rows k new row w e at is =
      let n : suc k ≡ k + 1 = omega arith in
      map_of_set into_iter_items rows k new ∙ ap (λ rs. set rs k (into_iter_items new)) e
      ∙ changed_next others k (ways_of rows0) row (into_iter_items new) at (ap others (sym is)) ∙ ap (λ (m : ℕ). changed others m (ways_of rows0)) n

  none_left : (xs : List (Way P)) → 0 ≡ length xs → xs ≡ []
  none_left [] e = refl
  none_left (x ∷ xs) e = absurd (omega arith)

  -- a row that has a next way is not at its end
  pub not_ended : (k : ℕ) (id : DequeId) (it : IntoIter (Way P) Global) → IsNextWay k id (into_iter_items it) → into_iter_len it ≡ 0 → ⊥
  not_ended k id it n e =
      let empty : into_iter_items it ≡ [] = none_left (into_iter_items it) (sym e ∙ it.rest.ok.0) in
      let both : [] ≡ n.0 ∷ n.1 = sym empty ∙ n.2 in cc
