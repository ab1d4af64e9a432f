-- What a change of the roots makes of the values.
use Rattle.std.proofs.Common.{◌≡◌, ◌≢◌, ℕ, zero, suc, ◌+◌, ◌<◌, ◌≤◌, Bool, true, false, List, [], ◌∷◌, ◌++◌, length, get_or, set, take, drop, Option, Some, None, refl, sym, ap, subst, ◌∙◌, arith}
use Rattle.std.proofs.lemmas.Bool.{eqb-true, eqb-false, ne_eqb, ltb-true, ltb-false}
use Rattle.std.proofs.lemmas.Bool.Decides.{nat_tests}
use Rattle.std.proofs.lemmas.List.{set-get_or, at_drop_more, get_or-map, length-map, map-append, take-map, drop-map}
use Rattle.std.specs.Prelude.{ltb, ◌&&◌, if◌then◌else◌}
use Rattle.std.specs.List.{insert}
use Rattle.akl_terms.specs.declared.name.Name.{Name}
use Rattle.akl_terms.specs.Names.{same_name}
use Rattle.name_map.specs.Pages.{within}
use Rattle.name_map.proofs.Within.{within_past, within_at}
use Rattle.frame_map.specs.declared.tree.Tree.TheVariants as tree
use Rattle.frame_map.specs.declared.root.Root.{Root}
use Rattle.frame_map.specs.Contents.{Contents, IsTree, Same, Puts}
use Rattle.frame_map.specs.Roots.{OfWorker, IsRoot, of_root, all_roots, AreRootsFrom, AreRoots, worker_of, place_of, value_at}
use Rattle.frame_map.proofs.Trees.{contents_empty}
use lib.Dec.{eqb}

both_same : (m k : Name) (w : ℕ) → w ≡ k.worker → (eqb m.worker w && eqb m.number k.number) ≡ same_name m k
both_same m k w e = grind (arith, nat_tests)

module _ {V : Type 0} where
  -- the root at an index
  pub root_at : (from : ℕ) (rs : List (OfWorker V)) (i : ℕ) (x : OfWorker V) → AreRootsFrom from rs → i < length rs → ((d : OfWorker V) → x ≡ get_or rs i d) → IsRoot x × (from ≤ x.worker)
  root_at from [] i x are h is = absurd (omega arith)
  root_at from (r ∷ rest) zero x are h is = (subst IsRoot (sym (is x)) are.1, subst (λ (y : OfWorker V). from ≤ y.worker) (sym (is x)) are.0)
  root_at from (r ∷ rest) (suc i) x are h is =
      let later = root_at (r.worker + 1) rest i x are.2 (omega arith) is in
      let low = are.0 in
      let above = later.1 in
      (later.0, omega arith)

  -- another root of the same worker in its place
  pub roots_set : (from : ℕ) (rs : List (OfWorker V)) (i : ℕ) (x y : OfWorker V) → AreRootsFrom from rs → i < length rs → ((d : OfWorker V) → x ≡ get_or rs i d) → y.worker ≡ x.worker → IsRoot y → AreRootsFrom from (set rs i y)
  roots_set from [] i x y are h is same root = absurd (omega arith)
  roots_set from (r ∷ rest) zero x y are h is same root =
      let one : y.worker ≡ r.worker = same ∙ ap (λ (z : OfWorker V). z.worker) (is x) in
      (subst (λ (n : ℕ). from ≤ n) (sym one) are.0, root, subst (λ (n : ℕ). AreRootsFrom (n + 1) rest) (sym one) are.2)
  roots_set from (r ∷ rest) (suc i) x y are h is same root = (are.0, are.1, roots_set (r.worker + 1) rest i x y are.2 (omega arith) is same root)

  -- what its names find then
  pub value_set : (from : ℕ) (rs : List (OfWorker V)) (i : ℕ) (x y : OfWorker V) → AreRootsFrom from rs → i < length rs → ((d : OfWorker V) → x ≡ get_or rs i d) → y.worker ≡ x.worker
      → (m : Name) → value_at (set rs i y) m ≡ (if eqb m.worker x.worker then y.contents.value m.number else value_at rs m)
  value_set from [] i x y are h is same m = absurd (omega arith)
  value_set from (r ∷ rest) zero x y are h is same m =
      let one : y.worker ≡ x.worker = same in
      (λ j. if eqb m.worker (one j) then y.contents.value m.number else value_at rest m) ∙ other (eqb m.worker x.worker) refl
    where
      other : (b : Bool) → eqb m.worker x.worker ≡ b → (if b then y.contents.value m.number else value_at rest m) ≡ (if b then y.contents.value m.number else value_at (r ∷ rest) m)
      other true e = refl
      other false e = sym (ap (λ (t : Bool). if t then r.contents.value m.number else value_at rest m) (ap (λ (z : OfWorker V). eqb m.worker z.worker) (sym (is x)) ∙ e))
  value_set from (r ∷ rest) (suc i) x y are h is same m = on (eqb m.worker r.worker) refl (value_set (r.worker + 1) rest i x y are.2 (omega arith) is same m)
    where
      on : (b : Bool) → eqb m.worker r.worker ≡ b → value_at (set rest i y) m ≡ (if eqb m.worker x.worker then y.contents.value m.number else value_at rest m)
          → (if b then r.contents.value m.number else value_at (set rest i y) m) ≡ (if eqb m.worker x.worker then y.contents.value m.number else (if b then r.contents.value m.number else value_at rest m))
      on true e later =
          let above = (root_at (r.worker + 1) rest i x are.2 (omega arith) is).1 in
          let here = eqb-true m.worker r.worker e in
          ap (λ (t : Bool). if t then y.contents.value m.number else r.contents.value m.number) (sym (ne_eqb m.worker x.worker (λ at. absurd (omega arith))))
      on false e later = later

  module _ (rs : List (OfWorker V)) (i : ℕ) (x y : OfWorker V) (are : AreRoots rs) (h : i < length rs) (is : (d : OfWorker V) → x ≡ get_or rs i d) (same : y.worker ≡ x.worker) where
    -- no value of the root changes
    pub value_kept : Same x.contents y.contents → (m : Name) → value_at (set rs i y) m ≡ value_at rs m
    value_kept kept m = value_set 0 rs i x y are h is same m
        ∙ ap (λ (o : Option V). if eqb m.worker x.worker then o else value_at rs m) (kept m.number)
        ∙ sym (value_set 0 rs i x x are h is refl m) ∙ ap (λ (l : List (OfWorker V)). value_at l m) (ap (λ (z : OfWorker V). set rs i z) (is x) ∙ set-get_or rs i x)

    -- a name of its worker leads to what it has
    pub value_there : (k : Name) → x.worker ≡ k.worker → x.contents.value k.number ≡ value_at rs k
    value_there k worker =
        let here : eqb k.worker x.worker ≡ true = grind (arith, nat_tests) in
        let all : value_at rs k ≡ (if eqb k.worker x.worker then x.contents.value k.number else value_at rs k) =
        sym (ap (λ (l : List (OfWorker V)). value_at l k) (ap (λ (z : OfWorker V). set rs i z) (is x) ∙ set-get_or rs i x)) ∙ value_set 0 rs i x x are h is refl k in
        sym (all ∙ ap (λ (t : Bool). if t then x.contents.value k.number else value_at rs k) here)

    -- one of its numbers has another value
    pub value_put : (k : Name) (o : Option V) → x.worker ≡ k.worker → Puts x.contents y.contents k.number o → (m : Name) → value_at (set rs i y) m ≡ (if same_name m k then o else value_at rs m)
    value_put k o worker put m =
        value_set 0 rs i x y are h is same m ∙ on (eqb m.worker x.worker) refl (eqb m.number k.number) (put m.number)
        ∙ ap (λ (t : Bool). if t then o else value_at rs m) (both_same m k x.worker worker)
      where
        old : value_at rs m ≡ (if eqb m.worker x.worker then x.contents.value m.number else value_at rs m)
        old = sym (ap (λ (l : List (OfWorker V)). value_at l m) (ap (λ (z : OfWorker V). set rs i z) (is x) ∙ set-get_or rs i x)) ∙ value_set 0 rs i x x are h is refl m

        on : (b : Bool) → eqb m.worker x.worker ≡ b → (c : Bool) → y.contents.value m.number ≡ (if c then o else x.contents.value m.number)
            → (if b then y.contents.value m.number else value_at rs m) ≡ (if (b && c) then o else value_at rs m)
        on true e true p = p
        on true e false p = p ∙ sym (old ∙ ap (λ (t : Bool). if t then x.contents.value m.number else value_at rs m) e)
        on false e c p = refl

  -- no root is of a worker below the first
  none_below : (from : ℕ) (rs : List (OfWorker V)) (m : Name) → AreRootsFrom from rs → m.worker < from → value_at rs m ≡ None
  none_below from [] m are h = refl
  none_below from (r ∷ rest) m are h =
      let low = are.0 in
      ap (λ (t : Bool). if t then r.contents.value m.number else value_at rest m) (ne_eqb m.worker r.worker (λ at. absurd (omega arith))) ∙ none_below (r.worker + 1) rest m are.2 (omega arith)

  chosen : (b : Bool) (o p : Option V) → (b ≡ true → o ≡ p) → (if b then o else p) ≡ p
  chosen true o p h = h refl
  chosen false o p h = refl

  -- where a root is put in at a place
  pub record IsPutIn (y : OfWorker V) (from : ℕ) (rs : List (OfWorker V)) (p : ℕ) : Type 0 where
    pub are : AreRootsFrom from (insert rs p y)
    pub same : (m : Name) → value_at (insert rs p y) m ≡ value_at rs m
    pub there : within worker_of (insert rs p y) p ≡ Some y.worker

  -- a root without values, of a worker that had none
  module _ (y : OfWorker V) (root : IsRoot y) (none : (n : ℕ) → y.contents.value n ≡ None) where
    put_in_from : (from : ℕ) (rs : List (OfWorker V)) → AreRootsFrom from rs → from ≤ y.worker → within worker_of rs (place_of y.worker rs) ≢ Some y.worker → IsPutIn y from rs (place_of y.worker rs)
    put_in_from from [] are low new = record { are = (low, root, tt); same = λ m. chosen (eqb m.worker y.worker) (y.contents.value m.number) None (λ e. none m.number); there = refl }
    put_in_from from (r ∷ rest) are low new = on (ltb r.worker y.worker) refl (λ low' new'. put_in_from (r.worker + 1) rest are.2 low' new') new
      where
        on : (b : Bool) → ltb r.worker y.worker ≡ b → (r.worker + 1 ≤ y.worker → within worker_of rest (place_of y.worker rest) ≢ Some y.worker → IsPutIn y (r.worker + 1) rest (place_of y.worker rest))
            → within worker_of (r ∷ rest) (if b then suc (place_of y.worker rest) else 0) ≢ Some y.worker → IsPutIn y from (r ∷ rest) (if b then suc (place_of y.worker rest) else 0)
        on true e later new' =
            let below = ltb-true r.worker y.worker e in
            let put = later (omega arith) new' in
            record {
              are = (are.0, are.1, put.are);
              same = λ m. ap (λ (o : Option V). if eqb m.worker r.worker then r.contents.value m.number else o) (put.same m);
              there = put.there;
            }
        on false e later new' =
            let above = ltb-false r.worker y.worker e in
            let apart : r.worker ≢ y.worker = λ at. new' (ap Some at) in
            let higher : y.worker + 1 ≤ r.worker = omega arith in
            let behind : AreRootsFrom (y.worker + 1) (r ∷ rest) = (higher, are.1, are.2) in
            record {
              are = (low, root, behind);
              same = λ m. chosen (eqb m.worker y.worker) (y.contents.value m.number) (value_at (r ∷ rest) m) (λ e. let at = eqb-true m.worker y.worker e in none m.number ∙ sym (none_below (y.worker + 1) (r ∷ rest) m behind (omega arith)));
              there = refl;
            }

    pub put_in : (rs : List (OfWorker V)) → AreRoots rs → within worker_of rs (place_of y.worker rs) ≢ Some y.worker → IsPutIn y 0 rs (place_of y.worker rs)
    put_in rs are new = put_in_from 0 rs are (omega arith) new

  -- the root that stands at an index of the map
  pub of_root_at : (rs : List (Root V)) (i : ℕ) (r : Root V) → i < length rs → r ≡ get_or rs i r → (e : OfWorker V) → of_root r ≡ get_or (all_roots rs) i e
  of_root_at rs i r h is e = ap of_root is ∙ sym (get_or-map of_root rs i r e h)

  pub roots_count : (rs : List (Root V)) → length (all_roots rs) ≡ length rs
  roots_count rs = length-map rs of_root

  worker_there : (rs : List (Root V)) (i : ℕ) (r : Root V) → i < length rs → r ≡ get_or rs i r → within worker_of (all_roots rs) i ≡ Some r.worker
  worker_there rs i r h is = let count = roots_count rs in within_at worker_of (all_roots rs) i (of_root r) (omega arith) (of_root_at rs i r h is)

  pub is_there : (rs : List (Root V)) (i w : ℕ) (r : Root V) → i < length rs → r ≡ get_or rs i r → eqb r.worker w ≡ true → within worker_of (all_roots rs) i ≡ Some w
  is_there rs i w r h is e = worker_there rs i r h is ∙ ap Some (eqb-true r.worker w e)

  pub is_other : (rs : List (Root V)) (i w : ℕ) (r : Root V) → i < length rs → r ≡ get_or rs i r → eqb r.worker w ≡ false → within worker_of (all_roots rs) i ≢ Some w
  is_other rs i w r h is e there = let same : r.worker ≡ w = cc (worker_there rs i r h is) in eqb-false r.worker w e same

  pub is_past : (rs : List (Root V)) (i w : ℕ) → length rs ≤ i → within worker_of (all_roots rs) i ≢ Some w
  is_past rs i w h there = let count = roots_count rs in let none = within_past worker_of (all_roots rs) i (omega arith) in absurd (cc)

  roots_insert : (rs : List (Root V)) (p : ℕ) (r : Root V) → all_roots (insert rs p r) ≡ insert (all_roots rs) p (of_root r)
  roots_insert rs p r = map-append of_root (take p rs) (r ∷ drop p rs) ∙ (λ i. sym (take-map of_root p rs) i ++ of_root r ∷ sym (drop-map of_root p rs) i)

  -- a root without values came to its place
  pub record IsMade (rs new : List (Root V)) (w p : ℕ) : Type 0 where
    pub are : AreRoots (all_roots new)
    pub same : (m : Name) → value_at (all_roots new) m ≡ value_at (all_roots rs) m
    pub there : within worker_of (all_roots new) p ≡ Some w

  pub made : (rs new : List (Root V)) (w p width : ℕ) → AreRoots (all_roots rs) → width ≤ 64 → p ≡ place_of w (all_roots rs) → within worker_of (all_roots rs) p ≢ Some w
      → new ≡ insert rs p (record { worker = w; width = width; tree = tree.Empty }) → IsMade rs new w p
  made rs new w p width are most place missing is =
      let y : OfWorker V = of_root (record { worker = w; width = width; tree = tree.Empty }) in
      let put : IsPutIn y 0 (all_roots rs) p = subst (IsPutIn y 0 (all_roots rs)) (sym place)
      (put_in y (record { most = most; fits = ap (λ (c : Contents V). c.fits width) contents_empty }) (λ n. ap (λ (c : Contents V). c.value n) contents_empty) (all_roots rs) are (subst (λ (q : ℕ). within worker_of (all_roots rs) q ≢ Some w) place missing)) in
      let after : all_roots new ≡ insert (all_roots rs) p y = ap all_roots is ∙ roots_insert rs p (record { worker = w; width = width; tree = tree.Empty }) in
      record {
        are = subst AreRoots (sym after) put.are;
        same = λ m. ap (λ (l : List (OfWorker V)). value_at l m) after ∙ put.same m;
        there = ap (λ (l : List (OfWorker V)). within worker_of l p) after ∙ put.there;
      }

  -- the tree of a root that stands at an index
  pub root_is_tree : (rs : List (Root V)) (i : ℕ) (r : Root V) → AreRoots (all_roots rs) → i < length rs → r ≡ get_or rs i r → IsTree r.tree
  root_is_tree rs i r are h is =
      let count = roots_count rs in
      let root = (root_at 0 (all_roots rs) i (of_root r) are (omega arith) (of_root_at rs i r h is)).0 in
      record { width = r.width; most = root.most; fits = root.fits }

  -- the place of a worker, sought from the front
  module _ (w place : ℕ) (rs : List (OfWorker V)) (r : OfWorker V) (h : place < length rs) (is : (d : OfWorker V) → r ≡ get_or rs place d) (before : place_of w rs ≡ place + place_of w (drop place rs)) where
    next : place_of w (drop place rs) ≡ (if ltb r.worker w then suc (place_of w (drop (place + 1) rs)) else 0)
    next = at_drop_more (place_of w) rs place r h ∙ ap (λ (x : OfWorker V). place_of w (x ∷ drop (place + 1) rs)) (sym (is r))

    pub place_passed : ltb r.worker w ≡ true → place_of w rs ≡ (place + 1) + place_of w (drop (place + 1) rs)
    place_passed e = let more : place_of w (drop place rs) ≡ suc (place_of w (drop (place + 1) rs)) = next ∙ ap (λ (b : Bool). if b then suc (place_of w (drop (place + 1) rs)) else 0) e in omega arith

    pub place_reached : ltb r.worker w ≡ false → place ≡ place_of w rs
    place_reached e = let none : place_of w (drop place rs) ≡ 0 = next ∙ ap (λ (b : Bool). if b then suc (place_of w (drop (place + 1) rs)) else 0) e in omega arith

  -- the value of a name among the roots from a place on
  module _ (place : ℕ) (rs : List (OfWorker V)) (r : OfWorker V) (m : Name) (h : place < length rs) (is : (d : OfWorker V) → r ≡ get_or rs place d) where
    value_next : value_at (drop place rs) m ≡ (if eqb m.worker r.worker then r.contents.value m.number else value_at (drop (place + 1) rs) m)
    value_next = at_drop_more (λ (l : List (OfWorker V)). value_at l m) rs place r h ∙ ap (λ (x : OfWorker V). value_at (x ∷ drop (place + 1) rs) m) (sym (is r))

    pub value_here : eqb m.worker r.worker ≡ true → value_at (drop place rs) m ≡ r.contents.value m.number
    value_here e = value_next ∙ ap (λ (b : Bool). if b then r.contents.value m.number else value_at (drop (place + 1) rs) m) e

    pub value_later : eqb m.worker r.worker ≡ false → value_at (drop place rs) m ≡ value_at (drop (place + 1) rs) m
    value_later e = value_next ∙ ap (λ (b : Bool). if b then r.contents.value m.number else value_at (drop (place + 1) rs) m) e
