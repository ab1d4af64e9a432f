-- What an idle place reads is what such a place may read.
use Rattle.std.proofs.Common.{◌≡◌, List, [], ◌∷◌, ◌++◌, map, drop, Option, Some, None, refl, sym, ◌∙◌, ap, subst, ◌⊎◌, inl, inr}
use Rattle.akl_terms.specs.declared.name.Name.{Name}
use Rattle.akl_terms.specs.declared.name.Var.{Var}
use Rattle.akl_terms.specs.declared.name.Place.{Place}
use Rattle.akl_model.specs.declared.item.Item.{Item}
use Rattle.akl_model.specs.Config.{IsIn, Boxes, no_boxes, box, Held, an_atom, a_choice, held_in, home_of, site_of}
use Rattle.akl_model.specs.Changes.{box_names}
use Rattle.akl_model.specs.Wakes.{names_around}
use Rattle.akl_model.proofs.Scoped.{IsIn-left}
use Rattle.local_store.specs.Stored.{Stored}
use Rattle.table_laws.specs.Rows.{Table}
use Rattle.table_laws.specs.Inside.{IsAlternativeOf, itself}
use Rattle.table_laws.proofs.Insides.{alternative}
use Rattle.box_tree.specs.declared.inside.Inside.{Inside}
use Rattle.box_tree.specs.declared.view.Alternative.{Alternative}
use Rattle.box_tree.specs.Tables.{table_of}
use Rattle.box_tree.specs.Views.{ViewValue, IsViewOf, AreSeen, alternatives_held}
use Rattle.box_tree.specs.Insides.{IsInsideOf, IsItemInside}
use Rattle.box_tree.specs.Plans.{IsRead}
use Rattle.guard_plan.proofs.ReadItems.{bindings_read, read_either, sets_read}
use Rattle.guard_plan.proofs.Sites.{stand}
use Rattle.split_plan.proofs.ItemsInside.{items_inside}
use Rattle.idle_places.specs.Idling.{IdleMayRead}
use Rattle.idle_plan.specs.Read.{goal_items_of, goal_items_on, AreGoalItems, sets_in, item_of}
use Rattle.idle_plan.proofs.ReadItems.{dropped_read, goal_seen, sets_in_items}

-- the alternatives that are seen are the boxes of the choice
seen_named : (T : Table) (stores : List Stored) (bs : Boxes) (seen : List Alternative) → AreSeen T stores bs seen → (j : Item) → IsRead (map (λ (a : Alternative). Item.Goals a.name) seen) j
    → (m : Name) × IsIn m (box_names bs) × (j ≡ Item.Goals m)
seen_named T stores no_boxes [] s j r = absurd r
seen_named T stores no_boxes (a ∷ rest) s j r = absurd s
seen_named T stores (box b gs bs) [] s j r = absurd r
seen_named T stores (box b gs bs) (a ∷ rest) s j (inl e) = (b.name, inl refl, e ∙ ap Item.Goals s.0.name)
seen_named T stores (box b gs bs) (a ∷ rest) s j (inr r) = let w : (m : Name) × IsIn m (box_names bs) × (j ≡ Item.Goals m) = seen_named T stores bs rest s.1 j r in (w.0, inr w.1, w.2)

module _ (v : ViewValue) (i : IsViewOf v) (g : Name) (at : v.place ≡ Place.Goal g) (on : List Var) where
  home : home_of g i.table.config.roots ≡ Some i.site
  home = subst (λ (q : Place). site_of q i.table.config.roots ≡ Some i.site) at i.is_site

  alternative_named : (o : Option Held) → held_in g i.site.goals ≡ o → AreSeen (table_of v.table) v.stores (alternatives_held o) v.alternatives → (j : Item) → IsRead (map (λ (a : Alternative). Item.Goals a.name) v.alternatives) j
      → (m : Name) × IsAlternativeOf (table_of v.table) g m × (j ≡ Item.Goals m)
  alternative_named None e s j r = absurd (seen_named (table_of v.table) v.stores no_boxes v.alternatives s j r).1
  alternative_named (Some (an_atom a)) e s j r = absurd (seen_named (table_of v.table) v.stores no_boxes v.alternatives s j r).1
  alternative_named (Some (a_choice o bs)) e s j r =
      let w : (m : Name) × IsIn m (box_names bs) × (j ≡ Item.Goals m) = seen_named (table_of v.table) v.stores bs v.alternatives s j r in
      (w.0, alternative (table_of v.table) i.table.config i.table.unfolds (stand v i).once g w.0 i.site o bs home e w.1, w.2)

  path_may : (j : Item) → IsRead (map Item.Goals v.path) j → IdleMayRead (table_of v.table) on (Place.Goal g) i.site j
  path_may j r = let w : (m : Name) × IsIn m v.path × (j ≡ Item.Goals m) = sets_read v.path j r in inr (inr (w.0, inl (subst (IsIn w.0) i.path w.1), w.2))

  alternatives_may : (j : Item) → IsRead (map (λ (a : Alternative). Item.Goals a.name) v.alternatives) j → IdleMayRead (table_of v.table) on (Place.Goal g) i.site j
  alternatives_may j r =
      let w : (m : Name) × IsAlternativeOf (table_of v.table) g m × (j ≡ Item.Goals m) = alternative_named (held_in g i.site.goals) refl (goal_seen v i g at) j r in
      inr (inr (w.0, inr w.1, w.2))

  sets_may : (j : Item) → IsRead (map Item.Goals v.path) j ⊎ IsRead (map (λ (a : Alternative). Item.Goals a.name) v.alternatives) j → IdleMayRead (table_of v.table) on (Place.Goal g) i.site j
  sets_may j (inl x) = path_may j x
  sets_may j (inr x) = alternatives_may j x

  by_sets : (j : Item) → IsRead (goal_items_of g v.path v.alternatives) j → IdleMayRead (table_of v.table) on (Place.Goal g) i.site j
  by_sets j (inl e) = inl e
  by_sets j (inr r) = sets_may j (read_either (map Item.Goals v.path) (map (λ (a : Alternative). Item.Goals a.name) v.alternatives) j r)

  by_bindings : (j : Item) → IsRead (goal_items_on g on v.path v.alternatives) j → IdleMayRead (table_of v.table) on (Place.Goal g) i.site j
  by_bindings j (inl e) = inl e
  by_bindings j (inr r) = elim (read_either (map Item.Binding on) (map Item.Goals (drop 1 v.path) ++ map (λ (a : Alternative). Item.Goals a.name) v.alternatives) j r) [
    | inl b ↦ inr (inl (bindings_read on j b))
    | inr b ↦ elim (read_either (map Item.Goals (drop 1 v.path)) (map (λ (a : Alternative). Item.Goals a.name) v.alternatives) j b) [
      | inl x ↦ path_may j (dropped_read v.path j x)
      | inr x ↦ alternatives_may j x
    ]
  ]

  pub goal_may_read : (reads : List Item) → AreGoalItems v g on reads → (j : Item) → IsRead reads j → IdleMayRead (table_of v.table) on v.place i.site j
  goal_may_read reads items j r = subst (λ (q : Place). IdleMayRead (table_of v.table) on q i.site j) (sym at) (either items)
    where
      either : AreGoalItems v g on reads → IdleMayRead (table_of v.table) on (Place.Goal g) i.site j
      either (inl e) = by_sets j (subst (λ (rs : List Item). IsRead rs j) e r)
      either (inr e) = by_bindings j (subst (λ (rs : List Item). IsRead rs j) e r)

module _ (v : ViewValue) (i : IsViewOf v) (n : Name) (at : v.place ≡ Place.Box n) (on : List Var) where
  pub box_may_read : (inside : Inside) → IsInsideOf v.table v.journal n v.worker inside → (around : List Name) → around ≡ names_around i.site → (j : Item) → IsRead (map Item.Goals around ++ sets_in inside.boxes.items) j
      → IdleMayRead (table_of v.table) on v.place i.site j
  box_may_read inside x around is_around j r = subst (λ (q : Place). IdleMayRead (table_of v.table) on q i.site j) (sym at) (elim (read_either (map Item.Goals around) (sets_in inside.boxes.items) j r) [
    | inl y ↦
        let w : (m : Name) × IsIn m around × (j ≡ Item.Goals m) = sets_read around j y in
        inr (w.0, IsIn-left w.0 (names_around i.site) (i.site.content.name ∷ []) (subst (IsIn w.0) is_around w.1), inr w.2)
    | inr y ↦ inl (items_inside v.table n inside.boxes.items x.boxes j (sets_in_items inside.boxes.items j y))
  ])

  -- a root box that reads its set of goals alone
  pub root_may_read : (j : Item) → IsRead (item_of v.place ∷ []) j → IdleMayRead (table_of v.table) on v.place i.site j
  root_may_read j (inl e) = subst (λ (q : Place). IdleMayRead (table_of v.table) on q i.site j) (sym at) (inl (subst (IsItemInside (table_of v.table) n) (sym (e ∙ ap item_of at)) itself))
  root_may_read j (inr y) = absurd y
