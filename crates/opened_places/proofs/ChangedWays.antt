-- The ways in which a label changes a place.
use Rattle.std.proofs.Common.{◌≡◌, List, Option, Some, None, refl, sym, ◌∙◌, ap, subst, ◌⊎◌, inl, inr}
use Rattle.akl_terms.specs.declared.name.Name.{Name}
use Rattle.akl_terms.specs.declared.name.Place.{Place}
use Rattle.akl_model.specs.Config.{Operator}
use Rattle.akl_terms.specs.declared.program.Program.{Program}
use Rattle.akl_terms.specs.declared.program.Query.{Query}
use Rattle.akl_model.specs.declared.item.Item.{Item}
use Rattle.akl_model.specs.declared.label.Rule.{Rule}
use Rattle.akl_model.specs.declared.label.Label.{Label}
use Rattle.akl_model.specs.Config.{IsIn, Boxes, Config, a_choice, held_in, Found, box_at, home_of}
use Rattle.akl_model.specs.Derivations.{Applies, Replays}
use Rattle.akl_model.specs.Changes.{box_names, goals_at}
use Rattle.akl_model.specs.Wakes.{holder_in}
use Rattle.step_laws.specs.ChangedItems.{goal_of, IsReplaced, MayChange, store, goals, store_gone, goals_gone, goal_gone, store_new, goals_new, goal_new, holder, roots, binding}
use Rattle.step_laws.specs.ChangedItems as may
use Rattle.step_laws.proofs.ChangedItems.{items_law}
use Rattle.opened_places.specs.Changed as changed
use Rattle.opened_places.specs.Changed.{IsChanged}

-- a goal holds the box of the label's place, which goes or becomes two
pub record HoldsSite {rules : List Rule} {p : Program} {c : Config} {l : Label} {d : Config} (a : Applies rules p c l d) (g : Name) : Type 0 where
  pub home : Found
  pub is_home : home_of g c.roots ≡ Some home
  pub op : Operator
  pub alternatives : Boxes
  pub replaced : IsReplaced a
  pub held : held_in g home.goals ≡ Some (a_choice op alternatives)
  pub among : IsIn a.site.content.name (box_names alternatives)

-- a place is new; it is the goal that the label reduces or the choice that it splits, or this goal's box; what holds the box of the place where
-- that is replaced, or its box; the box of the place, or, where its set of goals changes, the choice that holds it
pub data Way {rules : List Rule} {p : Program} {c : Config} {l : Label} {d : Config} (a : Applies rules p c l d) : Place → Type 0 where
  new_goal : {g : Name} {f : Found} → home_of g c.roots ≡ None → home_of g d.roots ≡ Some f → Way a (Place.Goal g)
  new_box : {n : Name} {f : Found} → box_at n c.roots ≡ None → box_at n d.roots ≡ Some f → Way a (Place.Box n)
  goal_itself : {g : Name} {f : Found} → goal_of l.place l.alternative a.site ≡ Some g → home_of g d.roots ≡ Some f → Way a (Place.Goal g)
  goal_box : (g : Name) {e f : Found} → goal_of l.place l.alternative a.site ≡ Some g → home_of g c.roots ≡ Some e → home_of g d.roots ≡ Some f → Way a (Place.Box f.content.name)
  holder_itself : {g : Name} → HoldsSite a g → Way a (Place.Goal g)
  holder_box : (g : Name) {f : Found} → HoldsSite a g → home_of g d.roots ≡ Some f → Way a (Place.Box f.content.name)
  site_itself : {f : Found} → box_at a.site.content.name d.roots ≡ Some f → Way a (Place.Box a.site.content.name)
  site_holder : {g : Name} {f : Found} → box_at a.site.content.name d.roots ≡ Some f → (goals_at a.site.content.name c.roots ≡ goals_at a.site.content.name d.roots → ⊥)
      → holder_in a.site.content.name d.roots ≡ Some g → Way a (Place.Goal g)

module _ (rules : List Rule) (p : Program) (q : Query) (journal : List Label) (c : Config) (l : Label) (d : Config) (replays : Replays rules p q journal c) (a : Applies rules p c l d) where
  abbrev GoalWay : Name → Type 0
  GoalWay i = (goal_of l.place l.alternative a.site ≡ Some i) ⊎ HoldsSite a i

  not_both : {o : Option Found} {f : Found} → o ≡ None → o ≡ Some f → ⊥
  not_both e i = cc

  goal_way : (item : Item) (i : Name) (e f : Found) → item ≡ Item.Goal i → home_of i c.roots ≡ Some e → home_of i d.roots ≡ Some f → MayChange a item → GoalWay i
  goal_way item i e f z x y (store) = cc
  goal_way item i e f z x y (goals) = cc
  goal_way item i e f z x y (may.goal {g = j} w) = let k : j ≡ i = cc in inl (w ∙ ap Some k)
  goal_way item i e f z x y (store_gone u w) = cc
  goal_way item i e f z x y (goals_gone u w) = cc
  goal_way item i e f z x y (goal_gone {g = j} u w) = let k : j ≡ i = cc in absurd (not_both (subst (λ (m : Name). home_of m d.roots ≡ None) k w) y)
  goal_way item i e f z x y (store_new u w) = cc
  goal_way item i e f z x y (goals_new u w) = cc
  goal_way item i e f z x y (goal_new {g = j} u w) = let k : j ≡ i = cc in absurd (not_both (subst (λ (m : Name). home_of m c.roots ≡ None) k u) x)
  goal_way item i e f z x y (holder {g = j} {e = h} {o = o} {bs = bs} r u v w) =
      let k : j ≡ i = cc in inr (subst (HoldsSite a) k (record { home = h; is_home = u; op = o; alternatives = bs; replaced = r; held = v; among = w }))
  goal_way item i e f z x y (roots r u) = cc
  goal_way item i e f z x y (binding u) = cc

  store_way : (item : Item) (n : Name) (e f : Found) → item ≡ Item.Store n → box_at n c.roots ≡ Some e → box_at n d.roots ≡ Some f → MayChange a item → n ≡ a.site.content.name
  store_way item n e f z x y (store) = let k : a.site.content.name ≡ n = cc in sym k
  store_way item n e f z x y (goals) = cc
  store_way item n e f z x y (may.goal w) = cc
  store_way item n e f z x y (store_gone {n = j} u w) = let k : j ≡ n = cc in absurd (not_both (subst (λ (m : Name). box_at m d.roots ≡ None) k w) y)
  store_way item n e f z x y (goals_gone u w) = cc
  store_way item n e f z x y (goal_gone u w) = cc
  store_way item n e f z x y (store_new {n = j} u w) = let k : j ≡ n = cc in absurd (not_both (subst (λ (m : Name). box_at m c.roots ≡ None) k u) x)
  store_way item n e f z x y (goals_new u w) = cc
  store_way item n e f z x y (goal_new u w) = cc
  store_way item n e f z x y (holder r u v w) = cc
  store_way item n e f z x y (roots r u) = cc
  store_way item n e f z x y (binding u) = cc

  goals_way : (item : Item) (n : Name) (e f : Found) → item ≡ Item.Goals n → box_at n c.roots ≡ Some e → box_at n d.roots ≡ Some f → MayChange a item → n ≡ a.site.content.name
  goals_way item n e f z x y (store) = cc
  goals_way item n e f z x y (goals) = let k : a.site.content.name ≡ n = cc in sym k
  goals_way item n e f z x y (may.goal w) = cc
  goals_way item n e f z x y (store_gone u w) = cc
  goals_way item n e f z x y (goals_gone {n = j} u w) = let k : j ≡ n = cc in absurd (not_both (subst (λ (m : Name). box_at m d.roots ≡ None) k w) y)
  goals_way item n e f z x y (goal_gone u w) = cc
  goals_way item n e f z x y (store_new u w) = cc
  goals_way item n e f z x y (goals_new {n = j} u w) = let k : j ≡ n = cc in absurd (not_both (subst (λ (m : Name). box_at m c.roots ≡ None) k u) x)
  goals_way item n e f z x y (goal_new u w) = cc
  goals_way item n e f z x y (holder r u v w) = cc
  goals_way item n e f z x y (roots r u) = cc
  goals_way item n e f z x y (binding u) = cc

  site_way : (n : Name) (f : Found) → n ≡ a.site.content.name → box_at n d.roots ≡ Some f → Way a (Place.Box n)
  site_way n f e y = subst (λ (m : Name). Way a (Place.Box m)) (sym e) (site_itself (subst (λ (m : Name). box_at m d.roots ≡ Some f) e y))

  pub way : (place : Place) → IsChanged c d place → Way a place
  way _ (changed.new_goal i j) = new_goal i j
  way _ (changed.new_box i j) = new_box i j
  way _ (changed.changed_goal {g = g} {e = e} {f = f} i j k) = elim (goal_way (Item.Goal g) g e f refl i j (items_law rules p q journal c l d replays a (Item.Goal g) k)) [
    | inl w ↦ goal_itself w j
    | inr h ↦ holder_itself h
  ]
  way _ (changed.box_of_changed_goal g {e = e} {f = f} i j k) = elim (goal_way (Item.Goal g) g e f refl i j (items_law rules p q journal c l d replays a (Item.Goal g) k)) [
    | inl w ↦ goal_box g w i j
    | inr h ↦ holder_box g h j
  ]
  way _ (changed.changed_constraint {n = n} {e = e} {f = f} i j k) = site_way n f (store_way (Item.Store n) n e f refl i j (items_law rules p q journal c l d replays a (Item.Store n) k)) j
  way _ (changed.changed_goals {n = n} {e = e} {f = f} i j k) = site_way n f (goals_way (Item.Goals n) n e f refl i j (items_law rules p q journal c l d replays a (Item.Goals n) k)) j
  way _ (changed.holder_of_changed_goals n {g = g} {e = e} {f = f} i j k h) =
      let w : n ≡ a.site.content.name = goals_way (Item.Goals n) n e f refl i j (items_law rules p q journal c l d replays a (Item.Goals n) k) in
      site_holder (subst (λ (m : Name). box_at m d.roots ≡ Some f) w j) (subst (λ (m : Name). goals_at m c.roots ≡ goals_at m d.roots → ⊥) w k) (subst (λ (m : Name). holder_in m d.roots ≡ Some g) w h)
