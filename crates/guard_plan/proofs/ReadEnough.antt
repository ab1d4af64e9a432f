-- What a plan at a goal of a view read is enough, and the view's table has it.
use Rattle.std.proofs.Common.{◌≡◌, ◌≤◌, List, [], ◌∷◌, ◌++◌, map, Some, refl, sym, ◌∙◌, ap, subst, ◌⊎◌, inl, inr, arith}
use Rattle.std.specs.Prelude.{IsSome, slice_index}
use Rattle.akl_terms.specs.declared.name.Name.{Name}
use Rattle.akl_terms.specs.declared.name.Var.{Var}
use Rattle.akl_terms.specs.declared.name.Place.{Place}
use Rattle.constraint_laws.specs.Touched.{IsAmong}
use Rattle.akl_model.specs.declared.item.Item.{Item}
use Rattle.akl_model.specs.Config.{IsIn, Content, Held, held_in, site_of}
use Rattle.step_laws.specs.Likeness.{IsOld}
use Rattle.step_laws.proofs.Whereabouts.{home_in}
use Rattle.reading_laws.specs.Seen.{ReadsAt, in_root, by_ends, inside}
use Rattle.table_laws.specs.ByEnds.{EndsAt}
use Rattle.table_laws.specs.Stamped.{stamp_in}
use Rattle.reached_ends.specs.Leading.{IsLedTo}
use Rattle.box_tree.specs.Tables.{table_of}
use Rattle.box_tree.specs.Views.{ViewValue, IsViewOf}
use Rattle.box_tree.specs.Plans.{IsRead}
use Rattle.guard_plan.specs.ReadAt.{AreEndsOf, IsOf, IsReadAt, IsDrawn, AddsBinding, AddsBindings}
use Rattle.guard_plan.proofs.Sites.{goal_there, store_there, stand, found}
use Rattle.guard_plan.proofs.ReadItems.{read_left, read_right, read_either, read_store, stores_read, read_set, sets_read, read_binding, bindings_read, set_there}
use Rattle.guard_plan.proofs.ReachedEnds.{ends_at, led_by}

-- of bindings that were added
module _ (v : ViewValue) where
  stays_read : (x : Var) (old new : List Item) → AddsBinding v x old new → (j : Item) → IsRead old j → IsRead new j
  stays_read x old new (inl h) j r = subst (λ (l : List Item). IsRead l j) (sym h.0) r
  stays_read x old new (inr e) j r = subst (λ (l : List Item). IsRead l j) (sym e) (read_left old (Item.Binding x ∷ []) j r)

  all_stay : (xs : List Var) (old new : List Item) → AddsBindings v xs old new → (j : Item) → IsRead old j → IsRead new j
  all_stay [] old new e j r = subst (λ (l : List Item). IsRead l j) (sym e) r
  all_stay (x ∷ xs) old new h j r = all_stay xs h.0 new h.2 j (stays_read x old h.0 h.1 j r)

  is_added : (xs : List Var) (old new : List Item) → AddsBindings v xs old new → (x : Var) → IsAmong x xs → (IsDrawn v x.frame → ⊥) → IsRead new (Item.Binding x)
  is_added [] old new h x a n = absurd a
  is_added (y ∷ xs) old new h x (inr a) n = is_added xs h.0 new h.2 x a n
  is_added (y ∷ xs) old new h x (inl e) n = all_stay xs h.0 new h.2 (Item.Binding x) (subst (λ (z : Var). IsRead h.0 (Item.Binding z)) (sym e) (now h.1))
    where
      now : AddsBinding v y old h.0 → IsRead h.0 (Item.Binding y)
      now (inl d) = absurd (n (subst (λ (z : Var). IsDrawn v z.frame) (sym e) d.1))
      now (inr q) = subst (λ (l : List Item). IsRead l (Item.Binding y)) (sym q) (read_right old (Item.Binding y ∷ []) (Item.Binding y) (inl refl))

  was_read : (xs : List Var) (old new : List Item) → AddsBindings v xs old new → (j : Item) → IsRead new j → IsRead old j ⊎ ((x : Var) × IsAmong x xs × (j ≡ Item.Binding x))
  was_read [] old new e j r = inl (subst (λ (l : List Item). IsRead l j) e r)
  was_read (x ∷ xs) old new h j r = elim (was_read xs h.0 new h.2 j r) [ inl q ↦ first h.1 q | inr q ↦ inr (q.0, inr q.1, q.2) ]
    where
      first : AddsBinding v x old h.0 → IsRead h.0 j → IsRead old j ⊎ ((y : Var) × IsAmong y (x ∷ xs) × (j ≡ Item.Binding y))
      first (inl d) q = inl (subst (λ (l : List Item). IsRead l j) d.0 q)
      first (inr e) q = elim (read_either old (Item.Binding x ∷ []) j (subst (λ (l : List Item). IsRead l j) e q)) [ inl y ↦ inl y | inr z ↦ elim z [ inl k ↦ inr (x, inl refl, k) | inr k ↦ absurd k ] ]

module _ (v : ViewValue) (g : Name) (p : v.place ≡ Place.Goal g) where
  goal_has : (i : IsViewOf v) → IsSome (stamp_in (table_of v.table) (Item.Goal g))
  goal_has i = goal_there (table_of v.table) i.table.config (stand v i) i.table.unfolds i.site (found v i) g h.0 h.1
    where
      h : (h : Held) × (held_in g i.site.goals ≡ Some h)
      h = (home_in g i.table.config.roots i.site (subst (λ (q : Place). site_of q i.table.config.roots ≡ Some i.site) p i.is_site)).1

  -- the goal and the sets of goals of all boxes down to it
  pub by_sets : (binds : List Var) → IsReadAt v g binds (Item.Goal g ∷ map Item.Goals v.path)
  by_sets binds = record {
    enough = λ i. inside (inl refl) (λ m h. inr (read_set v.path m (subst (IsIn m) (sym i.path) h)));
    there = there;
    only = only;
  }
    where
      only : (j : Item) → IsRead (Item.Goal g ∷ map Item.Goals v.path) j → IsOf v g binds j
      only j (inl e) = inl e
      only j (inr h) = let w : (m : Name) × IsIn m v.path × (j ≡ Item.Goals m) = sets_read v.path j h in inr (inl (w.0, w.1, inr w.2))

      there : (i : IsViewOf v) (j : Item) → IsRead (Item.Goal g ∷ map Item.Goals v.path) j → IsSome (stamp_in (table_of v.table) j)
      there i j (inl e) = subst (λ (k : Item). IsSome (stamp_in (table_of v.table) k)) (sym e) (goal_has i)
      there i j (inr h) =
          let w : (m : Name) × IsIn m v.path × (j ≡ Item.Goals m) = sets_read v.path j h in
          subst (λ (k : Item). IsSome (stamp_in (table_of v.table) k)) (sym w.2)
          (set_there (table_of v.table) w.0 (store_there (table_of v.table) i.table.config (stand v i) i.table.unfolds i.site (found v i) w.0 (subst (IsIn w.0) i.path w.1)))

  -- where marks are kept: the goal, the boxes down to it, the bindings of ends, and what it binds
  module _ (ends binds : List Var) (reads : List Item) (adds : AddsBindings v binds (Item.Goal g ∷ (map Item.Store v.path ++ map Item.Binding ends)) reads) where
    abbrev before : List Item
    before = Item.Goal g ∷ (map Item.Store v.path ++ map Item.Binding ends)

    read_goal : IsRead reads (Item.Goal g)
    read_goal = all_stay v binds before reads adds (Item.Goal g) (inl refl)

    read_box : (m : Name) → IsIn m v.path → IsRead reads (Item.Store m)
    read_box m h = all_stay v binds before reads adds (Item.Store m) (inr (read_left (map Item.Store v.path) (map Item.Binding ends) (Item.Store m) (read_store v.path m h)))

    read_end : (x : Var) → IsAmong x ends → IsRead reads (Item.Binding x)
    read_end x m = all_stay v binds before reads adds (Item.Binding x) (inr (read_right (map Item.Store v.path) (map Item.Binding ends) (Item.Binding x) (read_binding ends x m)))

    read_old : (i : IsViewOf v) (x : Var) → IsAmong x binds → IsOld i.table.config x.frame → IsRead reads (Item.Binding x)
    read_old i x a o = is_added v binds before reads adds x a undrawn
      where
        undrawn : IsDrawn v x.frame → ⊥
        undrawn d =
            let e : slice_index i.table.config.next x.frame.worker ≡ v.next = ap (slice_index i.table.config.next) d.0 ∙ sym i.next in
            let k : v.next ≤ x.frame.number = d.1 in
            omega arith

    -- nothing else is read
    abbrev Parts : Item → Type 0
    Parts j = (j ≡ Item.Goal g) ⊎ ((m : Name) × IsIn m v.path × (j ≡ Item.Store m)) ⊎ ((x : Var) × (IsAmong x binds ⊎ IsAmong x ends) × (j ≡ Item.Binding x))

    parts : (j : Item) → IsRead reads j → Parts j
    parts j r = elim (was_read v binds before reads adds j r) [ inl h ↦ first h | inr h ↦ inr (inr (h.0, inl h.1, h.2)) ]
      where
        first : IsRead before j → Parts j
        first (inl e) = inl e
        first (inr h) = elim (read_either (map Item.Store v.path) (map Item.Binding ends) j h) [
          | inl y ↦ inr (inl (stores_read v.path j y))
          | inr y ↦ (let w : (x : Var) × IsAmong x ends × (j ≡ Item.Binding x) = bindings_read ends j y in inr (inr (w.0, inr w.1, w.2)))
        ]

    read_enough : ((x : Var) → IsAmong x ends → IsLedTo v.table.program.templates.nodes v.stores x) → ((i : IsViewOf v) → ReadsAt (IsRead reads) i.table.config g i.site binds) → IsReadAt v g binds reads
    read_enough led enough = record { enough = enough; there = λ i j r. there i j (parts j r); only = λ j r. only j (parts j r) }
      where
        only : (j : Item) → Parts j → IsOf v g binds j
        only j (inl e) = inl e
        only j (inr (inl w)) = inr (inl (w.0, w.1, inl w.2))
        only j (inr (inr w)) = inr (inr (w.0, elim w.1 [ inl m ↦ inl m | inr m ↦ inr (led w.0 m) ], w.2))

        there : (i : IsViewOf v) (j : Item) → Parts j → IsSome (stamp_in (table_of v.table) j)
        there i j (inl e) = subst (λ (k : Item). IsSome (stamp_in (table_of v.table) k)) (sym e) (goal_has i)
        there i j (inr (inl w)) = subst (λ (k : Item). IsSome (stamp_in (table_of v.table) k)) (sym w.2)
            (store_there (table_of v.table) i.table.config (stand v i) i.table.unfolds i.site (found v i) w.0 (subst (IsIn w.0) i.path w.1))
        there i j (inr (inr w)) = subst (λ (k : Item). IsSome (stamp_in (table_of v.table) k)) (sym w.2) refl

  -- in a root box there are no ends
  pub by_bindings : (home : Name) → v.path ≡ home ∷ [] → (binds : List Var) (reads : List Item) → AddsBindings v binds (Item.Goal g ∷ (map Item.Store v.path ++ [])) reads → IsReadAt v g binds reads
  by_bindings home path binds reads adds = read_enough [] binds reads adds (λ x m. absurd m) enough
    where
      alone : (around : List Content) (n : Name) → map (λ (b : Content). b.name) around ++ n ∷ [] ≡ home ∷ [] → (around ≡ []) × (n ≡ home)
      alone [] n e = (refl, cc)
      alone (b ∷ []) n e = let z : n ∷ [] ≡ [] = cc in let y : ⊥ = cc in absurd y
      alone (b ∷ c ∷ around) n e = let z : c.name ∷ (map (λ (b : Content). b.name) around ++ n ∷ []) ≡ [] = cc in let y : ⊥ = cc in absurd y

      enough : (i : IsViewOf v) → ReadsAt (IsRead reads) i.table.config g i.site binds
      enough i =
          let one : (i.site.around ≡ []) × (i.site.content.name ≡ home) = alone i.site.around i.site.content.name (sym i.path ∙ path) in
          in_root one.0 (read_goal [] binds reads adds) (read_box [] binds reads adds i.site.content.name (subst (IsIn i.site.content.name) (sym path) (inl one.1))) (read_old [] binds reads adds i)

  -- in an inner one those of what the stores inside the root box lead to
  pub by_reached : (ends : List Var) → AreEndsOf v ends → (binds : List Var) (reads : List Item) → AddsBindings v binds (Item.Goal g ∷ (map Item.Store v.path ++ map Item.Binding ends)) reads → IsReadAt v g binds reads
  by_reached ends e binds reads adds = read_enough ends binds reads adds (led_by v ends e) enough
    where
      enough : (i : IsViewOf v) → ReadsAt (IsRead reads) i.table.config g i.site binds
      enough i =
          let w : (inner : List Var) × EndsAt i.table.config i.site inner ends = ends_at v i ends e in
          by_ends (record {
            inner = w.0;
            enough = w.1.enough;
            ends = ends;
            ended = w.1.ended;
            oldest = w.1.oldest;
            old = w.1.old;
            goal = read_goal ends binds reads adds;
            stores = λ m h. read_box ends binds reads adds m (subst (IsIn m) (sym i.path) h);
            end_bindings = read_end ends binds reads adds;
            bindings = read_old ends binds reads adds i;
          })
