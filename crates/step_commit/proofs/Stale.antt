-- What a plan read, and a later label changed.
use Rattle.std.proofs.Common.{◌≡◌, ℕ, zero, suc, ◌+◌, ◌<◌, ◌≤◌, List, [], ◌∷◌, ◌++◌, length, take, drop, slice_index_or, Bool, true, false, Option, Some, None, refl, sym, ap, subst, ◌∙◌, ◌⊎◌, inl, inr, arith}
use Rattle.std.specs.Prelude.{IsSome, IfNone, nat_le, option_map, option_and_then, ◌==◌, if◌then◌else◌}
use Rattle.std.proofs.lemmas.Bool.Decides.{nat_tests}
use Rattle.akl_terms.specs.declared.name.Name.{Name}
use Rattle.akl_terms.specs.declared.program.Program.{Program}
use Rattle.akl_terms.specs.declared.program.Query.{Query}
use Rattle.akl_model.specs.declared.item.Item.{Item}
use Rattle.akl_model.specs.declared.label.Label.{Label}
use Rattle.akl_model.specs.Config.{Config, Held, Found, held_in, box_at, home_of}
use Rattle.akl_model.specs.Changes.{shape_of}
use Rattle.akl_model.proofs.Orders.{lt_or}
use Rattle.step_laws.specs.Stays.{GoesOn, Leaves, HaveShape}
use Rattle.step_laws.proofs.StaysLaws.{box_stays, goals_stay, goal_stays}
use Rattle.plan_laws.proofs.StampLaws.{stamped, one_stamp}
use Rattle.akl_model.specs.Changes.{by_store}
use Rattle.table_laws.specs.Rows.{BoxRow, GoalRow, Table}
use Rattle.table_laws.specs.Unfolds.{Unfolds, Spot, spot_of, spot_in}
use Rattle.table_laws.specs.Stamped.{Run, LastChange, IsTableOf, store_stamp, goals_stamp, goal_stamp, stamp_in}
use Rattle.table_laws.proofs.Frame.{row_of, found_of}
use Rattle.table_laws.proofs.Insides.{spot_held}
use Rattle.std.specs.Map.{lookup}
use Rattle.akl_terms.specs.Names.{same_name}
use Rattle.box_tree.specs.StoreMarks.{stores_of, mark_found, store_mark}
use Rattle.box_tree.specs.declared.store_marks.StoreMark.{StoreMark}
use Rattle.box_tree.specs.Tables.{all_rules, TableValue, table_of, stamp_of}
use Rattle.box_tree.specs.Views.{run_of}
use Rattle.box_tree.specs.Plans.{PlanValue, IsRead, IsRight, of_label, of_call}
use Rattle.step_commit.specs.Cores.{CoreValue, IsCore, run_by, MayCommit, last_of_store, LastIn, IsUnchanged, IsStale, is_within, AllWithin, IsFirstUnseen}
use Rattle.table_laws.proofs.LastChanges.{last_within, last_change, IsPart, changes_or}
use Rattle.step_commit.proofs.Committed.{table_before, goes, stamp_last, some_of, at_most}

-- a fact that is owed where an option has nothing
pub if_none : {A P : Type 0} (o : Option A) → P → IfNone o P
if_none None p = p
if_none (Some x) p = tt

above : (k n : ℕ) → nat_le k n ≡ false → n < k
above k n e = grind (arith, nat_tests)

-- lists of items

read_suc : (xs : List Item) (i : ℕ) (d j : Item) → i < length xs → IsRead (take (suc i) xs) j → IsRead (take i xs) j ⊎ (j ≡ slice_index_or xs i d)
read_suc [] i d j l r = absurd (omega arith)
read_suc (x ∷ xs) zero d j l r = elim r [ inl e ↦ inr e | inr z ↦ absurd z ]
read_suc (x ∷ xs) (suc i) d j l r = elim r [
  | inl e ↦ inl (inl e)
  | inr z ↦ elim (read_suc xs i d j (omega arith) z) [ inl y ↦ inl (inr y) | inr e ↦ inr e ]
]

pub read_next : (xs : List Item) (i : ℕ) (d j : Item) → i < length xs → IsRead (take (i + 1) xs) j → IsRead (take i xs) j ⊎ (j ≡ slice_index_or xs i d)
read_next xs i d j l r = let e : i + 1 ≡ suc i = omega arith in read_suc xs i d j l (subst (λ (n : ℕ). IsRead (take n xs) j) e r)

pub split_at : (xs : List Item) (i : ℕ) (d : Item) → i < length xs → xs ≡ take i xs ++ slice_index_or xs i d ∷ drop (suc i) xs
split_at [] i d l = absurd (omega arith)
split_at (x ∷ xs) zero d l = refl
split_at (x ∷ xs) (suc i) d l = ap (λ (ys : List Item). x ∷ ys) (split_at xs i d (omega arith))

in_front : (xs ys : List Item) (j : Item) → IsRead (xs ++ j ∷ ys) j
in_front [] ys j = inl refl
in_front (x ∷ xs) ys j = inr (in_front xs ys j)

box_there : (n : Name) (o : Option BoxRow) → IsSome (store_stamp o) → (r : BoxRow) × (o ≡ Some r)
box_there n None s = absurd cc
box_there n (Some r) s = (r, refl)

goals_there : (n : Name) (o : Option BoxRow) → IsSome (goals_stamp o) → (r : BoxRow) × (o ≡ Some r)
goals_there n None s = absurd cc
goals_there n (Some r) s = (r, refl)

goal_there : (g : Name) (o : Option GoalRow) → IsSome (goal_stamp o) → (r : GoalRow) × (o ≡ Some r)
goal_there g None s = absurd cc
goal_there g (Some r) s = (r, refl)

abbrev spot_at : Name → Found → Option Spot
spot_at g f = option_map (λ (h : Held). record { home = f.content.name; shape = shape_of h }) (held_in g f.goals)

then_some : (F : Found → Option Spot) (o : Option Found) (s : Spot) → option_and_then F o ≡ Some s → (f : Found) × (o ≡ Some f) × (F f ≡ Some s)
then_some F None s e = cc
then_some F (Some f) s e = (f, refl, e)

some_held : (f : Found) (o : Option Held) (s : Spot) → option_map (λ (h : Held). record { home = f.content.name; shape = shape_of h }) o ≡ Some s → (h : Held) × (o ≡ Some h)
some_held f None s e = cc
some_held f (Some h) s e = (h, refl)

-- a table that unfolds has a stamp of what is there
module _ (T : Table) (c : Config) (u : Unfolds T c) where
  some_store : (n : Name) (f : Found) → box_at n c.roots ≡ Some f → store_stamp (T.box_of n) ≡ None → ⊥
  some_store n f e s =
      let r : (r : BoxRow) × (T.box_of n ≡ Some r) × _ = row_of T c u n f e in
      let q : store_stamp (T.box_of n) ≡ Some r.0.changed = ap store_stamp r.1 in
      cc

  some_goals : (n : Name) (f : Found) → box_at n c.roots ≡ Some f → goals_stamp (T.box_of n) ≡ None → ⊥
  some_goals n f e s =
      let r : (r : BoxRow) × (T.box_of n ≡ Some r) × _ = row_of T c u n f e in
      let q : goals_stamp (T.box_of n) ≡ Some r.0.goals_changed = ap goals_stamp r.1 in
      cc

  no_goal : (o : Option GoalRow) → goal_stamp o ≡ None → option_map spot_of o ≡ None
  no_goal None s = refl
  no_goal (Some r) s = absurd cc

  some_goal : (g : Name) (f : Found) (h : Held) → home_of g c.roots ≡ Some f → held_in g f.goals ≡ Some h → goal_stamp (T.goal_of g) ≡ None → ⊥
  some_goal g f h e k s =
      let a : spot_in g c.roots ≡ Some (record { home = f.content.name; shape = shape_of h }) = spot_held g c.roots f h e k in
      let b : option_map spot_of (T.goal_of g) ≡ None = no_goal (T.goal_of g) s in
      let q : None ≡ Some _ = sym b ∙ u.goals g ∙ a in
      cc

  -- a goal that has a row is held in a box
  goal_held : (g : Name) (r : GoalRow) → T.goal_of g ≡ Some r → (f : Found) × (h : Held) × (home_of g c.roots ≡ Some f) × (held_in g f.goals ≡ Some h)
  goal_held g r e =
      let a : spot_in g c.roots ≡ Some (spot_of r) = sym (u.goals g) ∙ ap (option_map spot_of) e in
      let b : (f : Found) × (home_of g c.roots ≡ Some f) × (spot_at g f ≡ Some (spot_of r)) = then_some (spot_at g) (home_of g c.roots) (spot_of r) a in
      let k : (h : Held) × (held_in g b.0.goals ≡ Some h) = some_held b.0 (held_in g b.0.goals) (spot_of r) b.2 in
      (b.0, k.0, b.1, k.1)

same_held : (g : Name) (e f : Found) (h : Held) → held_in g e.goals ≡ Some h → HaveShape (held_in g e.goals) (held_in g f.goals) → (o : Option Held) → held_in g f.goals ≡ o → (k : Held) × (held_in g f.goals ≡ Some k)
same_held g e f h i s None j = let a : option_map shape_of (held_in g e.goals) ≡ Some (shape_of h) = ap (option_map shape_of) i in let b : option_map shape_of (held_in g f.goals) ≡ None = ap (option_map shape_of) j in absurd (let q : Some (shape_of h) ≡ None = sym a ∙ s ∙ b in cc)
same_held g e f h i s (Some k) j = (k, j)

module _ (p : Program) (q : Query) (journal further : List Label) (S T : Table) (x : IsTableOf all_rules (record { program = p; query = q; journal = journal }) S)
    (t : IsTableOf all_rules (record { program = p; query = q; journal = journal ++ further }) T) where
  abbrev run : Run
  run = record { program = p; query = q; journal = journal ++ further }

  on : GoesOn all_rules p x.config further t.config
  on = record { query = q; journal = journal; replays = x.replays; derives = goes p q journal further S T x t }

  -- an item that was read has its stamp still, where no later label changed it
  there_still : (i : Item) → IsSome (stamp_in S i) → Leaves on i → stamp_in T i ≡ None → ⊥
  there_still Item.Roots s u n = cc
  there_still (Item.Store m) s u n =
      let r : _ = box_there m (S.box_of m) s in
      let f : _ = found_of S x.config x.unfolds m r.0 r.1 in
      let g : _ = box_stays all_rules p x.config further t.config on m f.0 f.1 u in
      some_store T t.config t.unfolds m g.0 g.1 n
  there_still (Item.Goals m) s u n =
      let r : _ = goals_there m (S.box_of m) s in
      let f : _ = found_of S x.config x.unfolds m r.0 r.1 in
      let g : _ = goals_stay all_rules p x.config further t.config on m f.0 f.1 u in
      some_goals T t.config t.unfolds m g.0 g.1 n
  there_still (Item.Goal m) s u n =
      let r : _ = goal_there m (S.goal_of m) s in
      let f : _ = goal_held S x.config x.unfolds m r.0 r.1 in
      let g : _ = goal_stays all_rules p x.config further t.config on m f.0 f.2 u in
      let h : (k : Held) × (held_in m g.0.goals ≡ Some k) = same_held m f.0 g.0 f.1 f.3 g.3 (held_in m g.0.goals) refl in
      some_goal T t.config t.unfolds m g.0 h.0 g.1 h.1 n
  there_still (Item.Binding v) s u n = cc

  -- the number of its last change, but of a binding
  pub record Changed (i : Item) (stamp : Option ℕ) : Type 0 where
    pub number : ℕ
    pub last : LastChange all_rules run i number
    pub unseen : length journal < number
    pub as_kept : (k : ℕ) → stamp ≡ Some k → k ≡ number

  pub changed : (i : Item) → IsPart i → IsSome (stamp_in S i) → (o : Option ℕ) → stamp_in T i ≡ o → is_within o (length journal) ≡ false → Changed i o
  changed i part s (Some k) e w = record { number = k; last = stamp_last all_rules run T t.stamped i k part e; unseen = above k (length journal) w; as_kept = λ m j. sym (some_of j) }
  changed i part s None e w = of_last (last_change by_store all_rules p q i (λ c d. changes_or c d i part) (journal ++ further) t.config t.replays)
    where
      of_last : (m : ℕ) × LastChange all_rules (record { program = p; query = q; journal = journal ++ further }) i m → Changed i None
      of_last z = elim (lt_or (length journal) z.0) [
        | inl h ↦ record { number = z.0; last = z.1; unseen = h; as_kept = λ m j. absurd cc }
        | inr h ↦ absurd (there_still i s (stamped all_rules p q journal further x.config t.config i x.replays on.derives (record { number = z.0; last = z.1; early = elim h [ inl a ↦ omega arith | inr b ↦ omega arith ] })) e)
      ]

  -- one that has a stamp which was seen was changed by no later label
  pub unchanged : (i : Item) → IsPart i → (o : Option ℕ) → stamp_in T i ≡ o → is_within o (length journal) ≡ true → (k : ℕ) → LastChange all_rules run i k → k ≤ length journal
  unchanged i part None e w k v = absurd cc
  unchanged i part (Some m) e w k v =
      let a : m ≡ k = one_stamp by_store all_rules p q (journal ++ further) i m k (stamp_last all_rules run T t.stamped i m part e) v in
      let b : m ≤ length journal = at_most m (length journal) w in
      omega arith

-- a last change is that of a label of the journal
module _ (c : CoreValue) (k : IsCore c) where
  mark_within : (m : Name) (row : BoxRow) → (table_of c.table).box_of m ≡ Some row → store_mark c.table.marks m row.changed ≤ length c.journal
  mark_within m row e = on (lookup (same_name m) (stores_of c.table.marks)) refl
    where
      changed : row.changed ≤ length c.journal
      changed = last_within by_store all_rules c.table.program c.table.query c.journal (Item.Store m) row.changed (k.table.stamped.store m row e)

      on : (o : Option StoreMark) → lookup (same_name m) (stores_of c.table.marks) ≡ o → mark_found row.changed o ≤ length c.journal
      on None i = changed
      on (Some x) i = by (x.told == row.changed)
        where
          by : (b : Bool) → (if b then x.number else row.changed) ≤ length c.journal
          by true = subst (λ (n : ℕ). x.number ≤ n) k.table.stamped.steps (k.stores_early m x i).1
          by false = changed

  pub last_in : (i : Item) (n : ℕ) → LastIn c i n → n ≤ length c.journal
  last_in (Item.Binding v) n y = subst (λ (x : ℕ). x ≤ length c.journal) y (k.early v)
  last_in (Item.Store m) n y = of_store ((table_of c.table).box_of m) refl y
    where
      of_store : (o : Option BoxRow) → (table_of c.table).box_of m ≡ o → last_of_store c m o n → n ≤ length c.journal
      of_store None e z = last_within by_store all_rules c.table.program c.table.query c.journal (Item.Store m) n z
      of_store (Some row) e z = subst (λ (x : ℕ). x ≤ length c.journal) z (mark_within m row e)
  last_in Item.Roots n y = last_within by_store all_rules c.table.program c.table.query c.journal Item.Roots n y
  last_in (Item.Goals m) n y = last_within by_store all_rules c.table.program c.table.query c.journal (Item.Goals m) n y
  last_in (Item.Goal g) n y = last_within by_store all_rules c.table.program c.table.query c.journal (Item.Goal g) n y

-- what was looked at over a front of a core's journal, with the items that were read, each there
pub record IsLooked (c : CoreValue) (table : TableValue) (journal : List Label) (reads : List Item) : Type 0 where
  pub further : List Label
  pub front : c.journal ≡ journal ++ further
  pub before : IsTableOf all_rules (record { program = c.table.program; query = c.table.query; journal = journal }) (table_of table)
  pub there : (i : Item) → IsRead reads i → IsSome (stamp_in (table_of table) i)

pub looked : (c : CoreValue) (p : PlanValue) → IsRight p → MayCommit c p → IsLooked c p.table p.journal p.reads
looked c p r m = record { further = m.further; front = m.front; before = table_before c p r m; there = there r }
  where
    there : IsRight p → (i : Item) → IsRead p.reads i → IsSome (stamp_in (table_of p.table) i)
    there (of_label alone none x) = x.there
    there (of_call x) = x.there

module _ (c : CoreValue) (k : IsCore c) (table : TableValue) (journal : List Label) (reads : List Item) (x : IsLooked c table journal reads) where
  now : IsTableOf all_rules (run_of c.table (journal ++ x.further)) (table_of c.table)
  now = subst (λ (j : List Label). IsTableOf all_rules (run_of c.table j) (table_of c.table)) x.front k.table

  last_here : (i : Item) (n : ℕ) → LastChange all_rules (run_by c) i n → LastChange all_rules (run_of c.table (journal ++ x.further)) i n
  last_here i n = subst (λ (j : List Label). LastChange all_rules (run_of c.table j) i n) x.front

  last_there : (i : Item) (n : ℕ) → LastChange all_rules (run_of c.table (journal ++ x.further)) i n → LastChange all_rules (run_by c) i n
  last_there i n = subst (λ (j : List Label). LastChange all_rules (run_of c.table j) i n) (sym x.front)

  part_unchanged : (i : Item) → IsPart i → is_within (stamp_in (table_of c.table) i) (length journal) ≡ true → (n : ℕ) → LastChange all_rules (run_by c) i n → n ≤ length journal
  part_unchanged i part w n y = unchanged c.table.program c.table.query journal x.further (table_of table) (table_of c.table) x.before now i part (stamp_in (table_of c.table) i) refl w n (last_here i n y)

  store_unchanged : (m : Name) (o : Option BoxRow) → is_within (option_map (λ (r : BoxRow). store_mark c.table.marks m r.changed) o) (length journal) ≡ true → (n : ℕ) → last_of_store c m o n → n ≤ length journal
  store_unchanged m None w n y = absurd (let z : false ≡ true = w in cc)
  store_unchanged m (Some row) w n y = let h : store_mark c.table.marks m row.changed ≤ length journal = at_most (store_mark c.table.marks m row.changed) (length journal) w in omega (arith, h, y)

  pub unchanged_here : (i : Item) → is_within (stamp_of c.table i) (length journal) ≡ true → IsUnchanged c journal i
  unchanged_here (Item.Binding v) w n y = let h : (table_of c.table).mark_of v ≤ length journal = at_most ((table_of c.table).mark_of v) (length journal) w in omega (arith, h, y)
  unchanged_here Item.Roots w n y = part_unchanged Item.Roots tt w n y
  unchanged_here (Item.Store m) w n y = store_unchanged m ((table_of c.table).box_of m) w n y
  unchanged_here (Item.Goals m) w n y = part_unchanged (Item.Goals m) tt w n y
  unchanged_here (Item.Goal g) w n y = part_unchanged (Item.Goal g) tt w n y

  -- the number of a label behind those that were seen
  record WasChanged (i : Item) (stamp : Option ℕ) : Type 0 where
    number : ℕ
    last : LastIn c i number
    within : number ≤ length c.journal
    unseen : length journal < number
    as_kept : (k : ℕ) → stamp ≡ Some k → k ≡ number

  part_changed : (i : Item) → IsPart i → IsRead reads i → (o : Option ℕ) → stamp_in (table_of c.table) i ≡ o → is_within o (length journal) ≡ false
      → (n : ℕ) × LastChange all_rules (run_by c) i n × (n ≤ length c.journal) × (length journal < n) × ((k : ℕ) → o ≡ Some k → k ≡ n)
  part_changed i part j o e w =
      let z : Changed c.table.program c.table.query journal x.further (table_of table) (table_of c.table) x.before now i o =
      changed c.table.program c.table.query journal x.further (table_of table) (table_of c.table) x.before now i part (x.there i j) o e w in
      let last : LastChange all_rules (run_by c) i z.number = last_there i z.number z.last in
      (z.number, last, last_within by_store all_rules c.table.program c.table.query c.journal i z.number last, z.unseen, z.as_kept)

  store_was : (m : Name) → IsRead reads (Item.Store m) → (r : Option BoxRow) → (table_of c.table).box_of m ≡ r → (o : Option ℕ) → option_map (λ (x : BoxRow). store_mark c.table.marks m x.changed) r ≡ o
      → is_within o (length journal) ≡ false → WasChanged (Item.Store m) o
  store_was m j None e (Some n) s w = absurd cc
  store_was m j None e None s w =
      let z : _ = part_changed (Item.Store m) tt j None (ap store_stamp e) w in
      record { number = z.0; last = subst (λ (r : Option BoxRow). last_of_store c m r z.0) (sym e) z.1; within = z.2; unseen = z.3; as_kept = z.4 }
  store_was m j (Some row) e None s w = absurd cc
  store_was m j (Some row) e (Some n) s w =
      let same : store_mark c.table.marks m row.changed ≡ n = some_of s in
      record {
        number = n;
        last = subst (λ (r : Option BoxRow). last_of_store c m r n) (sym e) same;
        within = subst (λ (x : ℕ). x ≤ length c.journal) same (mark_within c k m row e);
        unseen = above n (length journal) w;
        as_kept = λ i h. sym (some_of h);
      }

  was : (i : Item) → IsRead reads i → (o : Option ℕ) → stamp_of c.table i ≡ o → is_within o (length journal) ≡ false → WasChanged i o
  was (Item.Binding v) j None e w = absurd cc
  was (Item.Binding v) j (Some m) e w =
      let same : (table_of c.table).mark_of v ≡ m = some_of e in
      record { number = m; last = same; within = subst (λ (n : ℕ). n ≤ length c.journal) same (k.early v); unseen = above m (length journal) w; as_kept = λ n i. sym (some_of i) }
  was Item.Roots j o e w = let z : _ = part_changed Item.Roots tt j o e w in record { number = z.0; last = z.1; within = z.2; unseen = z.3; as_kept = z.4 }
  was (Item.Store m) j o e w = store_was m j ((table_of c.table).box_of m) refl o e w
  was (Item.Goals m) j o e w = let z : _ = part_changed (Item.Goals m) tt j o e w in record { number = z.0; last = z.1; within = z.2; unseen = z.3; as_kept = z.4 }
  was (Item.Goal g) j o e w = let z : _ = part_changed (Item.Goal g) tt j o e w in record { number = z.0; last = z.1; within = z.2; unseen = z.3; as_kept = z.4 }

  -- so what read such an item is stale
  pub stale : (item : Item) (stamp : Option ℕ) → IsFirstUnseen c.table reads (length journal) item stamp → IsStale c journal reads item stamp
  stale item stamp f =
      let read : IsRead reads item = subst (λ (is : List Item). IsRead is item) (sym f.is_read) (in_front f.earlier f.later item) in
      let w : WasChanged item stamp = was item read stamp (sym f.is_stamp) f.unseen in
      record {
        earlier = f.earlier;
        later = f.later;
        is_read = f.is_read;
        first = λ i j. unchanged_here i (f.first i j);
        number = w.number;
        last = w.last;
        within = w.within;
        unseen = w.unseen;
        is_stamp = f.is_stamp;
        as_kept = w.as_kept;
      }

  -- and where nothing read was changed, all stamps were seen
  pub all_within : ((i : Item) → IsRead reads i → IsUnchanged c journal i) → AllWithin c.table reads (length journal)
  all_within u i j = on (is_within (stamp_of c.table i) (length journal)) refl
    where
      on : (b : Bool) → is_within (stamp_of c.table i) (length journal) ≡ b → is_within (stamp_of c.table i) (length journal) ≡ true
      on true e = e
      on false e =
          let w : WasChanged i (stamp_of c.table i) = was i j (stamp_of c.table i) refl e in
          let h : w.number ≤ length journal = u i j w.number w.last in
          absurd (omega (arith, h, w.unseen))
