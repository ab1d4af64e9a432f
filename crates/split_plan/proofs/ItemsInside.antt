-- The items of a box and of the boxes inside it stand inside the box.
use Rattle.std.proofs.Common.{◌≡◌, List, [], ◌∷◌, map, refl, sym, subst, inl, inr}
use Rattle.std.specs.List.{AllByRecursion}
use Rattle.akl_terms.specs.declared.name.Name.{Name}
use Rattle.akl_model.specs.declared.item.Item.{Item}
use Rattle.akl_model.specs.Config.{IsIn}
use Rattle.table_laws.specs.Inside.{IsInside}
use Rattle.box_tree.specs.declared.inside.InnerGoal.{InnerGoal}
use Rattle.box_tree.specs.declared.inside.InnerBox.{InnerBox}
use Rattle.box_tree.specs.Tables.{TableValue, table_of}
use Rattle.box_tree.specs.Insides.{IsInnerBox, AreBoxesInside, IsItemInside}
use Rattle.box_tree.specs.Plans.{IsRead}
use Rattle.guard_plan.proofs.ReadItems.{read_either}
use Rattle.split_plan.specs.Read.{goal_items, items_in}

goals_read : (gs : List InnerGoal) (j : Item) → IsRead (goal_items gs) j → (g : Name) × IsIn g (map (λ (x : InnerGoal). x.name) gs) × (j ≡ Item.Goal g)
goals_read [] j r = absurd r
goals_read (g ∷ gs) j (inl e) = (g.name, inl refl, e)
goals_read (g ∷ gs) j (inr r) = let w : (h : Name) × IsIn h (map (λ (x : InnerGoal). x.name) gs) × (j ≡ Item.Goal h) = goals_read gs j r in (w.0, inr w.1, w.2)

module _ (t : TableValue) (n : Name) where
  each_inside : (bs : List InnerBox) → AllByRecursion (IsInnerBox t) bs → ((m : Name) → IsIn m (map (λ (b : InnerBox). b.name) bs) → IsInside (table_of t) n m) → (j : Item) → IsRead (items_in bs) j → IsItemInside (table_of t) n j
  each_inside [] all f j r = absurd r
  each_inside (b ∷ bs) all f j (inl e) = subst (IsItemInside (table_of t) n) (sym e) (f b.name (inl refl))
  each_inside (b ∷ bs) all f j (inr (inl e)) = subst (IsItemInside (table_of t) n) (sym e) (f b.name (inl refl))
  each_inside (b ∷ bs) all f j (inr (inr r)) = elim (read_either (goal_items b.goals.items) (items_in bs) j r) [
    | inl x ↦
        let w : (g : Name) × IsIn g (map (λ (y : InnerGoal). y.name) b.goals.items) × (j ≡ Item.Goal g) = goals_read b.goals.items j x in
        subst (IsItemInside (table_of t) n) (sym w.2)
        (record { box = b.name; inside = f b.name (inl refl); goal = record { row = all.0.row; there = all.0.there; named = subst (IsIn w.0) all.0.goals w.1 } })
    | inr x ↦ each_inside bs all.1 (λ m k. f m (inr k)) j x
  ]

  pub items_inside : (bs : List InnerBox) → AreBoxesInside t n bs → (j : Item) → IsRead (items_in bs) j → IsItemInside (table_of t) n j
  items_inside bs x = each_inside bs x.boxes x.listed.inside
