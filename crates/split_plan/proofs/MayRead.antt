-- A plan of Split reads no more than it may.
use Rattle.std.proofs.Common.{◌≡◌, ℕ, Some, refl, ap, List, [], ◌∷◌, ◌++◌, map, sym, subst, inl, inr}
use Rattle.akl_terms.specs.declared.name.Name.{Name}
use Rattle.akl_terms.specs.declared.name.Var.{Var}
use Rattle.akl_terms.specs.declared.name.Place.{Place}
use Rattle.constraint_laws.specs.Touched.{IsAmong}
use Rattle.akl_model.specs.declared.item.Item.{Item}
use Rattle.akl_model.specs.declared.label.Rule.{Rule}
use Rattle.akl_model.specs.declared.label.Label.{Label}
use Rattle.akl_model.specs.Config.{IsIn}
use Rattle.akl_model.specs.Wakes.{names_around}
use Rattle.akl_model.proofs.Scoped.{IsIn-left}
use Rattle.box_tree.specs.declared.inside.InnerBox.{InnerBox}
use Rattle.box_tree.specs.Views.{ViewValue, IsViewOf}
use Rattle.box_tree.specs.declared.step.Step.{Step}
use Rattle.box_tree.specs.Plans.{PlanValue, IsRead, IsRight}
use Rattle.guard_plan.specs.Solved.{SaysSolved}
use Rattle.split_plan.specs.Split.{IsSplitBy}
use Rattle.box_copies.specs.Copies.{AreBoxesOf}
use Rattle.guard_plan.specs.ReadAt.{MayRead, PlanMayRead}
use Rattle.guard_plan.proofs.ReachedEnds.{led_by}
use Rattle.guard_plan.proofs.ReadItems.{read_either, stores_read, sets_read, bindings_read}
use Rattle.split_plan.specs.Read as items
use Rattle.split_plan.specs.Read.{items_in, AreItemsAround, of_one, of_more}
use Rattle.split_plan.proofs.ItemsInside.{items_inside}

-- a plan that was made of a view, with its label
pub split_by : (v : ViewValue) (p : PlanValue) (label : Label) (reads : List Item) (names : ℕ) (step : Step) (binds : List Var) → IsRight p → ((j : Item) → IsRead reads j → PlanMayRead v binds j)
    → p ≡ record { table = v.table; journal = v.journal; label = label; more = []; reads = reads; names = names; step = step; binds = binds }
    → (a : Name) → label ≡ record { rule = Rule.Split; place = v.place; alternative = Some a; worker = v.worker } → SaysSolved v Rule.Split step → IsSplitBy v (Some p)
split_by v p label reads names step binds right may is a e solved = subst (λ (q : PlanValue). IsSplitBy v (Some q)) (sym is) (
  record {
    right = subst IsRight is right;
    table = refl;
    journal = refl;
    place = ap (λ (l : Label). l.place) e;
    worker = ap (λ (l : Label). l.worker) e;
    solved = subst (λ (l : Label). SaysSolved v l.rule step) (sym e) solved;
    only = may;
  },
  ap (λ (l : Label). l.rule) e,
  refl,
)

module _ (v : ViewValue) (i : IsViewOf v) (boxes : List InnerBox) (h : AreBoxesOf v boxes) (around : List Name) (is_around : around ≡ names_around i.site) (outer : List Item) (are_outer : AreItemsAround v around outer) (binds : List Var) where
  on_path : (m : Name) → IsIn m around → IsIn m v.path
  on_path m k = subst (IsIn m) (sym i.path) (IsIn-left m (names_around i.site) (i.site.content.name ∷ []) (subst (IsIn m) is_around k))

  outer_may : (j : Item) → IsRead outer j → MayRead v (Place.Box h.name) binds j
  outer_may j r = on are_outer
    where
      was : (items : List Item) → outer ≡ items → IsRead items j
      was items e = subst (λ (js : List Item). IsRead js j) e r

      of_store : IsRead (map Item.Store around) j → MayRead v (Place.Box h.name) binds j
      of_store y = let w : (m : Name) × IsIn m around × (j ≡ Item.Store m) = stores_read around j y in inr (inl (w.0, on_path w.0 w.1, inl w.2))

      on : AreItemsAround v around outer → MayRead v (Place.Box h.name) binds j
      on (of_one few e) = of_store (was (map Item.Store around) e)
      on (items.by_ends ends k e) = elim (read_either (map Item.Store around) (map Item.Binding ends) j (was (map Item.Store around ++ map Item.Binding ends) e)) [
        | inl y ↦ of_store y
        | inr y ↦ let w : (x : Var) × IsAmong x ends × (j ≡ Item.Binding x) = bindings_read ends j y in inr (inr (w.0, led_by v ends k w.0 w.1, w.2))
      ]
      on (of_more many e) = let w : (m : Name) × IsIn m around × (j ≡ Item.Goals m) = sets_read around j (was (map Item.Goals around) e) in inr (inl (w.0, on_path w.0 w.1, inr w.2))

  pub split_may : (j : Item) → IsRead (outer ++ items_in boxes) j → PlanMayRead v binds j
  split_may j r = subst (λ (q : Place). MayRead v q binds j) (sym h.place) (elim (read_either outer (items_in boxes) j r) [
    | inl y ↦ outer_may j y
    | inr y ↦ inl (items_inside v.table h.name boxes h.boxes j y)
  ])
