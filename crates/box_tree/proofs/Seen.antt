-- The boxes down to a box and which of their stores are solved, by what rows say.
use Rattle.std.proofs.Common.{◌≡◌, ℕ, zero, suc, ◌+◌, ◌<◌, ◌≤◌, Bool, true, false, List, [], ◌∷◌, ◌++◌, length, reverse, take, get_or, map, max, Option, Some, None, refl, sym, ap, subst, ◌∙◌, ◌⊎◌, inl, inr, arith}
use Rattle.std.proofs.lemmas.List.{length-append, length-map, reverse-append}
use Rattle.std.proofs.lemmas.Bool.Decides.{nat_tests}
use Rattle.std.specs.Prelude.{if◌then◌else◌, IsSome, is_some, nat_lt}
use Rattle.std.specs.Map.{lookup}
use Rattle.akl_terms.specs.declared.name.Name.{Name}
use Rattle.akl_terms.specs.declared.name.Var.{Var}
use Rattle.akl_terms.specs.declared.term.Node.{Node}
use Rattle.akl_terms.specs.Tree.{Tree}
use Rattle.akl_terms.specs.Names.{same_name}
use Rattle.akl_model.specs.Config.{IsIn, Content, Boxes, no_boxes, Config, a_choice, Found, box_at, environment}
use Rattle.akl_model.specs.Names.{times_in}
use Rattle.akl_model.specs.Changes.{shape_of}
use Rattle.akl_model.specs.Wakes.{names_around, names_down_to, holder_in}
use Rattle.akl_model.proofs.Options.{some_value}
use Rattle.akl_model.proofs.Finds.{times, times_in-append}
use Rattle.akl_model.proofs.NamesKept.{Stand, box-itself, home-box}
use Rattle.akl_model.proofs.QuietGrows.{IsLocal-left}
use Rattle.akl_model.proofs.ScopesAlong.{times_path, found_path}
use Rattle.akl_model.specs.Stable.{only, frames_of, frames_inside}
use Rattle.step_laws.specs.Holders.{IsHeldBy}
use Rattle.step_laws.proofs.Holders.{held_or}
use Rattle.akl_terms.specs.Solved.{IsBound, bound}
use Rattle.akl_terms.specs.Touching.{IsLocal, IsOutside}
use Rattle.constraint_laws.specs.Growth.{TellsOver}
use Rattle.rational_unify.specs.Known.{bound_in}
use Rattle.rational_unify.proofs.Chains.{nothing-solved}
use Rattle.local_store.specs.Stored.{Stored}
use Rattle.local_store.specs.Chained.{IsSolvedChain, IsKnown}
use Rattle.table_laws.specs.Rows.{BoxRow, GoalRow, Table, store_in, stores_along}
use Rattle.table_laws.specs.Unfolds.{IsBoxRow, UnchangedSince, Unfolds}
use Rattle.table_laws.specs.Writes.{home_in, holder_in_row}
use Rattle.table_laws.proofs.Frame.{row_of, around_stands}
use Rattle.table_laws.proofs.Stores.{stores_join}
use Rattle.table_laws.proofs.Insides.{goal_row}
use Rattle.table_laws.proofs.Walks.{no_more}
use Rattle.box_tree.specs.Tables.{is_empty}
use Rattle.box_tree.specs.Alone.{stands_alone}
use Rattle.box_tree.specs.Paths.{home_at, Deep, is_at_least, solving_in, is_solved_over, known_in, latest_in, known_with}
use Rattle.box_tree.proofs.AloneSolved.{alone_solved}

-- lists

reverse_cons : (x : Name) (xs : List Name) → reverse (x ∷ xs) ≡ reverse xs ++ x ∷ []
reverse_cons x xs = reverse-append (x ∷ []) xs

get_last : (xs : List Name) (y d : Name) → get_or (xs ++ y ∷ []) (length xs) d ≡ y
get_last [] y d = refl
get_last (x ∷ xs) y d = get_last xs y d

get_front : (xs ys : List Name) (j : ℕ) (d : Name) → j < length xs → get_or (xs ++ ys) j d ≡ get_or xs j d
get_front [] ys j d l = absurd (omega arith)
get_front (x ∷ xs) ys zero d l = refl
get_front (x ∷ xs) ys (suc j) d l = get_front xs ys j d (omega arith)

take_front : (xs ys : List Name) (j : ℕ) → j ≤ length xs → take j (xs ++ ys) ≡ take j xs
take_front xs ys zero l = refl
take_front [] ys (suc j) l = absurd (omega arith)
take_front (x ∷ xs) ys (suc j) l = ap (λ (zs : List Name). x ∷ zs) (take_front xs ys j (omega arith))

take_whole : (xs : List Name) (j : ℕ) → length xs ≡ j → take j xs ≡ xs
take_whole [] zero l = refl
take_whole [] (suc j) l = absurd (omega arith)
take_whole (x ∷ xs) zero l = absurd (omega arith)
take_whole (x ∷ xs) (suc j) l = ap (λ (zs : List Name). x ∷ zs) (take_whole xs j (omega arith))

in_index : (m : Name) (xs : List Name) → IsIn m xs → (j : ℕ) × (j < length xs) × (get_or xs j m ≡ m)
in_index m [] i = absurd i
in_index m (x ∷ xs) (inl e) = (0, omega arith, sym e)
in_index m (x ∷ xs) (inr i) = let r : (j : ℕ) × (j < length xs) × (get_or xs j m ≡ m) = in_index m xs i in let l : r.0 < length xs = r.1 in (suc r.0, omega arith, r.2)

take_stores : (T : Table) (j : ℕ) (ns : List Name) → take j (stores_along T ns) ≡ stores_along T (take j ns)
take_stores T zero ns = refl
take_stores T (suc j) [] = refl
take_stores T (suc j) (n ∷ ns) = ap (λ (ss : List Stored). store_in (T.box_of n) ∷ ss) (take_stores T j ns)

pub length_stores : (T : Table) (ns : List Name) → length (stores_along T ns) ≡ length ns
length_stores T [] = refl
length_stores T (n ∷ ns) = ap suc (length_stores T ns)

-- solved chains

no_chain : (nodes : List Node) → IsSolvedChain nodes []
no_chain nodes = record {
  form = record { solved = nothing-solved nodes; follow = λ s t b. absurd (unbound s t b); hold = λ s t o n. absurd o };
  older = record { each = λ x y t e v. cc };
  once = record { each = λ x. omega arith };
}
  where
    unbound : (s t : Tree) → IsBound (bound_in nodes []) s t → ⊥
    unbound s t (bound e) = cc

record IsSolvedAt (T : Table) (latest : ℕ) (ns : List Name) (j : ℕ) (d : Name) : Type 0 where
  pub row : BoxRow
  pub is_row : T.box_of (get_or ns j d) ≡ Some row
  pub at : ℕ
  pub solved : row.solved_at ≡ Some at
  pub late : latest ≤ at
  pub unchanged : UnchangedSince T at (take j ns)

-- a box on a path stands alone
record IsAlone (T : Table) (ns : List Name) (j : ℕ) (d : Name) : Type 0 where
  pub row : BoxRow
  pub is_row : T.box_of (get_or ns j d) ≡ Some row
  pub alone : stands_alone row.store ≡ true

-- a box on a path is solved with those around it by the numbers, or stands alone
abbrev HoldsAt : Table → ℕ → List Name → ℕ → Name → Type 0
HoldsAt T latest ns j d = IsSolvedAt T latest ns j d ⊎ IsAlone T ns j d

known_row : (T : Table) (latest : ℕ) (ns : List Name) (j : ℕ) (d : Name) → j < known_in T latest ns → HoldsAt T latest ns j d
known_row T latest [] j d l = absurd (omega arith)
known_row T latest (n ∷ ns) j d l = on (T.box_of n) refl l (λ i k. known_row T (max latest (solving_in (T.box_of n)).1) ns i d k)
  where
    on : (o : Option BoxRow) → T.box_of n ≡ o → j < (if is_solved_over o latest then known_in T (max latest (solving_in o).1) ns + 1 else 0)
        → ((i : ℕ) → i < known_in T (max latest (solving_in (T.box_of n)).1) ns → HoldsAt T (max latest (solving_in (T.box_of n)).1) ns i d) → HoldsAt T latest (n ∷ ns) j d
    on None e l k = absurd (omega arith)
    on (Some r) e l k = least (is_solved_over (Some r) latest) refl l
      where
        by_number : (o : Option ℕ) → r.solved_at ≡ o → is_at_least o latest ≡ true → HoldsAt T latest (n ∷ ns) 0 d
        by_number None s q = cc
        by_number (Some a) s q = let p : latest ≤ a = grind (arith, nat_tests) in inl (record { row = r; is_row = e; at = a; solved = s; late = p; unchanged = tt })

        by_store : (b k : Bool) → (if b then (if k then false else stands_alone r.store) else false) ≡ true → HoldsAt T latest (n ∷ ns) 0 d
        by_store true true q = cc
        by_store true false q = inr (record { row = r; is_row = e; alone = q })
        by_store false k q = cc

        first : (b : Bool) → is_at_least r.solved_at latest ≡ b → (if b then true else (if is_some r.solved_at then (if is_empty r.goals then false else stands_alone r.store) else false)) ≡ true → HoldsAt T latest (n ∷ ns) 0 d
        first true p q = by_number r.solved_at refl p
        first false p q = by_store (is_some r.solved_at) (is_empty r.goals) q

        changed : (solving_in (T.box_of n)).1 ≡ r.changed
        changed = ap (λ (o : Option BoxRow). (solving_in o).1) e

        later : (i : ℕ) → HoldsAt T (max latest (solving_in (T.box_of n)).1) ns i d → HoldsAt T latest (n ∷ ns) (suc i) d
        later i (inl x) =
            let late : max latest (solving_in (T.box_of n)).1 ≤ x.at = x.late in
            let c : (solving_in (T.box_of n)).1 ≡ r.changed = changed in
            inl (record {
              row = x.row;
              is_row = x.is_row;
              at = x.at;
              solved = x.solved;
              late = omega arith;
              unchanged = (λ r' e'. let same : r ≡ r' = some_value (sym e ∙ e') in let d : r.changed ≡ r'.changed = ap (λ (y : BoxRow). y.changed) same in omega arith, x.unchanged);
            })
        later i (inr x) = inr (record { row = x.row; is_row = x.is_row; alone = x.alone })

        at_index : (i : ℕ) → j ≡ i → is_solved_over (Some r) latest ≡ true → i < known_in T (max latest r.changed) ns + 1 → HoldsAt T latest (n ∷ ns) j d
        at_index zero q p m = subst (λ (x : ℕ). HoldsAt T latest (n ∷ ns) x d) (sym q) (first (is_at_least r.solved_at latest) refl p)
        at_index (suc i) q p m = subst (λ (x : ℕ). HoldsAt T latest (n ∷ ns) x d) (sym q) (later i (k i (subst (λ (y : ℕ). i < known_in T (max latest y) ns) (sym changed) (omega arith))))

        least : (b : Bool) → is_solved_over (Some r) latest ≡ b → j < (if b then known_in T (max latest r.changed) ns + 1 else 0) → HoldsAt T latest (n ∷ ns) j d
        least true p m = at_index j refl p m
        least false p m = absurd (omega arith)

known_few : (T : Table) (latest : ℕ) (ns : List Name) → known_in T latest ns ≤ length ns
known_few T latest [] = omega arith
known_few T latest (n ∷ ns) = on (is_solved_over (T.box_of n) latest) (known_few T (max latest (solving_in (T.box_of n)).1) ns)
  where
    on : (b : Bool) → known_in T (max latest (solving_in (T.box_of n)).1) ns ≤ length ns → (if b then known_in T (max latest (solving_in (T.box_of n)).1) ns + 1 else 0) ≤ length (n ∷ ns)
    on true k = omega arith
    on false k = omega arith

-- one box more
pub known_end : (T : Table) (ns : List Name) (n : Name) (latest : ℕ) → known_in T latest (ns ++ n ∷ []) ≡ known_with (T.box_of n) (known_in T latest ns) (latest_in T latest ns) (length ns + 1)
known_end T [] n latest = refl
known_end T (m ∷ ms) n latest = on (is_solved_over (T.box_of m) latest) (latest_in T (max latest (solving_in (T.box_of m)).1) ms) (known_end T ms n (max latest (solving_in (T.box_of m)).1))
  where
    two : (b : Bool) → known_in T (max latest (solving_in (T.box_of m)).1) (ms ++ n ∷ []) ≡ (if b then length ms + 1 else known_in T (max latest (solving_in (T.box_of m)).1) ms) → known_in T (max latest (solving_in (T.box_of m)).1) (ms ++ n ∷ []) + 1 ≡ (if b then suc (length ms) + 1 else known_in T (max latest (solving_in (T.box_of m)).1) ms + 1)
    two true e = omega arith
    two false e = omega arith

    on : (b : Bool) (o : Option ℕ) → known_in T (max latest (solving_in (T.box_of m)).1) (ms ++ n ∷ []) ≡ known_with (T.box_of n) (known_in T (max latest (solving_in (T.box_of m)).1) ms) o (length ms + 1)
        → (if b then known_in T (max latest (solving_in (T.box_of m)).1) (ms ++ n ∷ []) + 1 else 0) ≡ known_with (T.box_of n) (if b then known_in T (max latest (solving_in (T.box_of m)).1) ms + 1 else 0) (if b then o else None) (suc (length ms) + 1)
    on false o e = refl
    on true None e = ap (λ (k : ℕ). k + 1) e
    on true (Some k) e = two (is_solved_over (T.box_of n) k) e

-- paths

record IsPrefix (roots : Boxes) (path : List Name) (j : ℕ) (d : Name) : Type 0 where
  pub name : Name
  pub found : Found
  pub is_found : box_at name roots ≡ Some found
  pub named : get_or path j d ≡ name
  pub around : take j path ≡ names_around found
  pub down : take (suc j) path ≡ names_down_to found

longer : (roots : Boxes) (xs ys : List Name) (j : ℕ) (d : Name) → j < length xs → IsPrefix roots xs j d → IsPrefix roots (xs ++ ys) j d
longer roots xs ys j d l p = record { name = p.name; found = p.found; is_found = p.is_found; named = get_front xs ys j d l ∙ p.named; around = take_front xs ys j (omega arith) ∙ p.around; down = take_front xs ys (suc j) (omega arith) ∙ p.down }

module _ (T : Table) (c : Config) (u : Unfolds T c) (once : (m : Name) → times m c.roots ≤ 1) where
  holder_row : (n : Name) (f : Found) → box_at n c.roots ≡ Some f → holder_in_row (T.box_of n) ≡ holder_in n c.roots
  holder_row n f e =
      let r : (r : BoxRow) × (T.box_of n ≡ Some r) × IsBoxRow T c.roots f r = row_of T c u n f e in
      ap holder_in_row r.1 ∙ r.2.holder ∙ ap (λ (k : Name). holder_in k c.roots) (sym (box-itself n c.roots f e))

  home_row : (n g : Name) (f : Found) (h : IsHeldBy n g f c.roots) → home_in (T.goal_of g) ≡ Some h.home.content.name
  home_row n g f h =
      let r : (r : GoalRow) × (T.goal_of g ≡ Some r) × (r.home ≡ h.home.content.name) × (r.shape ≡ shape_of (a_choice h.op h.alternatives)) = goal_row T c u once g h.home (a_choice h.op h.alternatives) h.is_home h.held in
      ap home_in r.1 ∙ ap (λ (k : Name). Some k) r.2

  length_around : (n g : Name) (f : Found) (h : IsHeldBy n g f c.roots) → length f.around ≡ length h.home.around + 1
  length_around n g f h = ap (λ (xs : List Content). length xs) h.around ∙ length-append h.home.around (h.home.content ∷ [])

  abbrev pub PathOf : Name → Found → Type 0
  PathOf n f = (ms : List Name) × Deep T n ms × (names_down_to f ≡ reverse (n ∷ ms)) × (length ms ≡ length f.around)

  pub path_found : (k : ℕ) (n : Name) (f : Found) → length f.around ≡ k → box_at n c.roots ≡ Some f → PathOf n f
  path_found zero n f l e = elim (held_or c.roots once n f e) [
    | inl r ↦ ([], ap (home_at T) (holder_row n f e ∙ r.1), ap (λ (bs : List Content). map (λ (b : Content). b.name) bs ++ f.content.name ∷ []) r.0 ∙ ap (λ (k : Name). k ∷ []) (sym (box-itself n c.roots f e)), sym l)
    | inr h ↦ let a : length f.around ≡ length h.2.home.around + 1 = length_around n h.0 f h.2 in absurd (omega arith)
  ]
  path_found (suc k) n f l e = on (held_or c.roots once n f e) (λ m g i j. path_found k m g i j)
    where
      on : ((f.around ≡ []) × (holder_in n c.roots ≡ None)) ⊎ ((g : Name) × (holder_in n c.roots ≡ Some g) × IsHeldBy n g f c.roots) → ((m : Name) (g : Found) → length g.around ≡ k → box_at m c.roots ≡ Some g → PathOf m g) → PathOf n f
      on (inl r) rec = let z : length f.around ≡ 0 = ap (λ (xs : List Content). length xs) r.0 in absurd (omega arith)
      on (inr h) rec =
          let held : IsHeldBy n h.0 f c.roots = h.2 in
          let a : length f.around ≡ length held.home.around + 1 = length_around n h.0 f held in
          let x : PathOf held.home.content.name held.home = rec held.home.content.name held.home (omega arith) (home-box h.0 c.roots held.home once held.is_home) in
          let b : length x.0 ≡ length held.home.around = x.3 in (
            held.home.content.name ∷ x.0,
            (ap (home_at T) (holder_row n f e ∙ h.1) ∙ home_row n h.0 f held, x.1),
            ap (λ (ns : List Name). ns ++ f.content.name ∷ []) (held.names ∙ x.2) ∙ ap (λ (k : Name). reverse (held.home.content.name ∷ x.0) ++ k ∷ []) (sym (box-itself n c.roots f e)) ∙ sym (reverse_cons n (held.home.content.name ∷ x.0)),
            omega arith,
          )

  last_prefix : (n : Name) (f : Found) → box_at n c.roots ≡ Some f → (j : ℕ) (d : Name) → j ≡ length (names_around f) → IsPrefix c.roots (names_down_to f) j d
  last_prefix n f e j d q = subst (λ (i : ℕ). IsPrefix c.roots (names_down_to f) i d) (sym q) (record {
    name = n;
    found = f;
    is_found = e;
    named = get_last (names_around f) f.content.name d ∙ sym (box-itself n c.roots f e);
    around = take_front (names_around f) (f.content.name ∷ []) (length (names_around f)) (omega arith) ∙ take_whole (names_around f) (length (names_around f)) refl;
    down = let a : length (names_down_to f) ≡ length (names_around f) + 1 = length-append (names_around f) (f.content.name ∷ []) in take_whole (names_down_to f) (suc (length (names_around f))) (omega arith);
  })

  prefix : (k : ℕ) (n : Name) (f : Found) → length f.around ≡ k → box_at n c.roots ≡ Some f → (j : ℕ) (d : Name) → j < length (names_down_to f) → IsPrefix c.roots (names_down_to f) j d
  prefix zero n f l e j d m =
      let a : length (names_down_to f) ≡ length (names_around f) + 1 = length-append (names_around f) (f.content.name ∷ []) in
      let b : length (names_around f) ≡ length f.around = length-map f.around (λ (x : Content). x.name) in
      last_prefix n f e j d (omega arith)
  prefix (suc k) n f l e j d m = on (held_or c.roots once n f e) (λ m g i h w. prefix k m g i h j d w)
    where
      here : length (names_down_to f) ≡ length (names_around f) + 1
      here = length-append (names_around f) (f.content.name ∷ [])

      on : ((f.around ≡ []) × (holder_in n c.roots ≡ None)) ⊎ ((g : Name) × (holder_in n c.roots ≡ Some g) × IsHeldBy n g f c.roots)
          → ((m : Name) (g : Found) → length g.around ≡ k → box_at m c.roots ≡ Some g → j < length (names_down_to g) → IsPrefix c.roots (names_down_to g) j d) → IsPrefix c.roots (names_down_to f) j d
      on (inl r) rec = let z : length f.around ≡ 0 = ap (λ (xs : List Content). length xs) r.0 in absurd (omega arith)
      on (inr h) rec = within (nat_lt j (length (names_around f))) refl
        where
          held : IsHeldBy n h.0 f c.roots
          held = h.2

          within : (b : Bool) → nat_lt j (length (names_around f)) ≡ b → IsPrefix c.roots (names_down_to f) j d
          within true q =
              let i : j < length (names_around f) = grind (arith, nat_tests) in
              let a : length f.around ≡ length held.home.around + 1 = length_around n h.0 f held in
              let y : length (names_around f) ≡ length (names_down_to held.home) = ap (λ (ns : List Name). length ns) held.names in
              let x : IsPrefix c.roots (names_down_to held.home) j d = rec held.home.content.name held.home (omega arith) (home-box h.0 c.roots held.home once held.is_home) (omega arith) in
              longer c.roots (names_around f) (f.content.name ∷ []) j d i (subst (λ (ns : List Name). IsPrefix c.roots ns j d) (sym held.names) x)
          within false q =
              let i : length (names_around f) ≤ j = grind (arith, nat_tests) in
              let a : length (names_down_to f) ≡ length (names_around f) + 1 = here in
              last_prefix n f e j d (omega arith)

  -- no name stands twice on a path

  name_times : (m : Name) (bs : List Content) → times_in m (map (λ (b : Content). b.name) bs) ≤ times_path m bs
  name_times m [] = omega arith
  name_times m (b ∷ bs) = let k : times_in m (map (λ (b : Content). b.name) bs) ≤ times_path m bs = name_times m bs in omega arith

  path_once : (n : Name) (f : Found) → box_at n c.roots ≡ Some f → (m : Name) → times_in m (names_down_to f) ≤ 1
  path_once n f e m =
      let a : times_in m (names_down_to f) ≡ times_in m (names_around f) + times_in m (f.content.name ∷ []) = times_in-append m (names_around f) (f.content.name ∷ []) in
      let b : times_in m (names_around f) ≤ times_path m f.around = name_times m f.around in
      let p : times m (only f) + times_path m f.around ≤ times m c.roots = found_path m n c.roots f e in
      let o : times m c.roots ≤ 1 = once m in
      omega arith

  pub path_there : (n : Name) (f : Found) → box_at n c.roots ≡ Some f → (m : Name) → IsIn m (names_down_to f) → (r : BoxRow) × (T.box_of m ≡ Some r)
  path_there n f e m i =
      let j : (j : ℕ) × (j < length (names_down_to f)) × (get_or (names_down_to f) j m ≡ m) = in_index m (names_down_to f) i in
      let p : IsPrefix c.roots (names_down_to f) j.0 m = prefix (length f.around) n f refl e j.0 m j.1 in
      let r : (r : BoxRow) × (T.box_of p.name ≡ Some r) × IsBoxRow T c.roots p.found r = row_of T c u p.name p.found p.is_found in
      (r.0, ap T.box_of (sym j.2 ∙ p.named) ∙ r.1)

  pub path_few : {A : Type 0} (es : List (Name × A)) → ((m : Name) (r : BoxRow) → T.box_of m ≡ Some r → IsSome (lookup (same_name m) es)) → (n : Name) (f : Found) → box_at n c.roots ≡ Some f → length f.around < length es
  path_few es keys n f e =
      let a : length (names_down_to f) ≡ length (names_around f) + 1 = length-append (names_around f) (f.content.name ∷ []) in
      let b : length (names_around f) ≡ length f.around = length-map f.around (λ (x : Content). x.name) in
      let k : length (names_down_to f) ≤ length es = no_more (names_down_to f) es (path_once n f e) (λ m i. let r : (r : BoxRow) × (T.box_of m ≡ Some r) = path_there n f e m i in keys m r.0 r.1) in
      omega arith

-- of a configuration in which the equations around a box are over variables from outside of it
module _ (T : Table) (c : Config) (u : Unfolds T c) (stand : Stand c) (over : (n : Name) (f : Found) → box_at n c.roots ≡ Some f → TellsOver (IsOutside (frames_of (only f))) (environment f)) where
  solved_alone : (n : Name) (f : Found) → box_at n c.roots ≡ Some f → (r : BoxRow) → T.box_of n ≡ Some r → stands_alone r.store ≡ true → IsSolvedChain T.nodes (stores_along T (names_around f)) → IsSolvedChain T.nodes (stores_along T (names_down_to f))
  solved_alone n f e r there alone around = subst (IsSolvedChain T.nodes) (sym (stores_join T (names_around f) (f.content.name ∷ []) ∙ ap (λ (o : Option BoxRow). stores_along T (names_around f) ++ store_in o ∷ []) (ap T.box_of (sym (box-itself n c.roots f e)) ∙ there)))
      (alone_solved T.nodes (stores_along T (names_around f)) (environment f) (frames_of (only f)) (over n f e) (around_stands T c stand u n f e) around r.store local alone)
    where
      is : (r : BoxRow) × (T.box_of n ≡ Some r) × IsBoxRow T c.roots f r
      is = row_of T c u n f e

      frames : r.store.frames ≡ f.content.frames
      frames = subst (λ (y : BoxRow). y.store.frames ≡ f.content.frames) (some_value (sym is.1 ∙ there)) is.2.frames

      local : (x : Var) → IsLocal r.store.frames x → IsLocal (frames_of (only f)) x
      local x l = IsLocal-left f.content.frames (frames_inside f.goals ++ frames_of no_boxes) x (subst (λ (fs : List Name). IsLocal fs x) frames l)

  pub known_is : (n : Name) (f : Found) → box_at n c.roots ≡ Some f → IsKnown T.nodes (stores_along T (names_down_to f)) (known_in T 0 (names_down_to f))
  known_is n f e = record {
    within = let a : length (stores_along T (names_down_to f)) ≡ length (names_down_to f) = length_stores T (names_down_to f) in let b : known_in T 0 (names_down_to f) ≤ length (names_down_to f) = known_few T 0 (names_down_to f) in omega arith;
    each = each;
  }
    where
      each : (k : ℕ) → k ≤ known_in T 0 (names_down_to f) → IsSolvedChain T.nodes (take k (stores_along T (names_down_to f)))
      each zero l = no_chain T.nodes
      each (suc j) l = subst (IsSolvedChain T.nodes) (sym (take_stores T (suc j) (names_down_to f) ∙ ap (stores_along T) p.down)) (on (known_row T 0 (names_down_to f) j n (omega arith)) (each j (omega arith)))
        where
          p : IsPrefix c.roots (names_down_to f) j n
          p = let b : known_in T 0 (names_down_to f) ≤ length (names_down_to f) = known_few T 0 (names_down_to f) in prefix T c u stand.once (length f.around) n f refl e j n (omega arith)

          on : HoldsAt T 0 (names_down_to f) j n → IsSolvedChain T.nodes (take j (stores_along T (names_down_to f))) → IsSolvedChain T.nodes (stores_along T (names_down_to p.found))
          on (inl x) around =
              let r : (r : BoxRow) × (T.box_of p.name ≡ Some r) × IsBoxRow T c.roots p.found r = row_of T c u p.name p.found p.is_found in
              let same : x.row ≡ r.0 = some_value (sym x.is_row ∙ ap T.box_of p.named ∙ r.1) in
              r.2.stays_solved.solved x.at (ap (λ (y : BoxRow). y.solved_at) (sym same) ∙ x.solved) (subst (UnchangedSince T x.at) p.around x.unchanged)
          on (inr x) around = solved_alone p.name p.found p.is_found x.row (ap T.box_of (sym p.named) ∙ x.is_row) x.alone
              (subst (IsSolvedChain T.nodes) (take_stores T j (names_down_to f) ∙ ap (stores_along T) p.around) around)

pub deep_one : (T : Table) (n : Name) (ms ks : List Name) → Deep T n ms → Deep T n ks → ms ≡ ks
deep_one T n [] [] a b = refl
deep_one T n [] (k ∷ ks) a b = let z : None ≡ Some k = sym a ∙ b.0 in absurd cc
deep_one T n (m ∷ ms) [] a b = let z : Some m ≡ None = sym a.0 ∙ b in absurd cc
deep_one T n (m ∷ ms) (k ∷ ks) a b =
    let q : m ≡ k = some_value (sym a.0 ∙ b.0) in
    let r : ms ≡ ks = deep_one T m ms ks a.1 (subst (λ (x : Name). Deep T x ks) (sym q) b.1) in
    λ i. q i ∷ r i
