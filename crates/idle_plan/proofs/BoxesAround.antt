-- What is listed of the boxes around a place suffices for what they make it need.
use Rattle.std.proofs.Common.{◌≡◌, ℕ, suc, ◌+◌, ◌-◌, ◌≤◌, ◌<◌, List, [], ◌∷◌, length, take, refl, ap, arith}
use Rattle.akl_terms.specs.declared.name.Var.{Var}
use Rattle.akl_terms.specs.declared.name.Place.{Place}
use Rattle.akl_terms.specs.declared.term.Node.{Node}
use Rattle.akl_terms.specs.Tree.{variable}
use Rattle.akl_terms.specs.Equal.{Equal, IsConsistent}
use Rattle.akl_model.specs.Config.{Content, Found, whole}
use Rattle.akl_model.specs.Wakes.{TellsOutside, Concerns, by_box_around}
use Rattle.constraint_laws.specs.Oldest.{IsOldest}
use Rattle.constraint_laws.specs.Touched.{IsAmong}
use Rattle.plan_laws.specs.Sleeps.{IsOutermostAt, IsAliasAt}
use Rattle.local_store.specs.Stored.{Stored}
use Rattle.local_store.specs.Chained.{equations_of}
use Rattle.class_members.specs.Members.{outermost_of}
use Rattle.box_tree.specs.Views.{ViewValue, IsViewOf}
use Rattle.guard_plan.proofs.Sites.{found}
use Rattle.idle_plan.specs.Told.{ListsTold}
use Rattle.idle_plan.specs.Waits.{AreToldAround}
use Rattle.idle_plan.proofs.Listed.{AreStoresOf, around_consistent, touched_unstructured, listed_touches, listed_unstructured, touched_listed}
use Rattle.idle_plan.proofs.Needed.{NeedsAround, Suffices}
use Rattle.idle_plan.proofs.Outermost.{alias_by, oldest_by}
use Rattle.idle_plan.proofs.Outward.{root_touches_nothing}
use Rattle.idle_plan.proofs.Paths.{count_around, IsDeep, box_deep, deep_stands, stands_deep, good, stores_of, begins_alike}

few_around : (place : Place) (f : Found) (d : ℕ) → d < count_around place f → d < length f.around + 1
few_around (Place.Goal g) f d l = l
few_around (Place.Box n) f d l = omega arith

module _ (v : ViewValue) (i : IsViewOf v) (list : List Var) (h : AreToldAround v.table.program.templates.nodes v.stores (count_around v.place i.site) list) where
  abbrev nodes : List Node
  nodes = v.table.program.templates.nodes

  concern : (y : Var) → IsAmong y list → Concerns v.table.program i.table.config y v.place
  concern y k =
      let w : (d : ℕ) × (own : List Var) × ((1 ≤ d) × (d < count_around v.place i.site)) × ListsTold nodes (take (d + 1) v.stores) own × IsAmong y own × ((z : Var) → IsAmong z own → IsAmong z list) = h.each y k in
      let b : (m : Found) × IsDeep i.table.config i.site w.0 m = box_deep i.table.config (good v i) i.site (found v i) w.0 (few_around v.place i.site w.0 w.2.1) in
      let t : TellsOutside b.0 y = listed_touches nodes (take (w.0 + 1) v.stores) b.0 (stores_of v i w.0 b.0 b.1) w.1 w.3 y w.4 in
      by_box_around b.0.content.name (deep_stands i.table.config (good v i) i.site (found v i) v.place i.is_site w.0 b.0 b.1 w.2.1) b.1.there t

  oldest : (f : Found) → IsOutermostAt i.table.config v.place f → (y z : Var) → IsAmong y list → IsOldest (whole f) y z → IsAmong z list
  oldest f outermost y z k o =
      let w : (d : ℕ) × (own : List Var) × ((1 ≤ d) × (d < count_around v.place i.site)) × ListsTold nodes (take (d + 1) v.stores) own × IsAmong y own × ((z : Var) → IsAmong z own → IsAmong z list) = h.each y k in
      let b : (m : Found) × IsDeep i.table.config i.site w.0 m = box_deep i.table.config (good v i) i.site (found v i) w.0 (few_around v.place i.site w.0 w.2.1) in
      let ss : List Stored = take (w.0 + 1) v.stores in
      w.5 z (oldest_by v i (take (length ss - 1) ss) (begins_alike v i w.0 b.0 b.1 w.2.0) (w.3.members.consistent y w.4) w.1 w.3.members.oldest y (listed_unstructured nodes ss b.0 (stores_of v i w.0 b.0 b.1) w.1 w.3 y w.4) w.4 f outermost z o)

  module _ (x : Var) (n : NeedsAround i.table.config v.place x) where
    at : IsDeep i.table.config i.site (length n.box.around) n.box × (length n.box.around < count_around v.place i.site)
    at = stands_deep i.table.config (good v i) i.site (found v i) v.place i.is_site n.name n.box n.stands n.is_box

    abbrev depth : ℕ
    depth = length n.box.around

    stores : AreStoresOf nodes (take (length n.box.around + 1) v.stores) n.box
    stores = stores_of v i (length n.box.around) n.box at.0

    consistent : IsConsistent (equations_of nodes (take (length n.box.around + 1) v.stores))
    consistent = stores.all.back n.consistent

    inner : 1 ≤ length n.box.around → (y : Var) × IsAmong y list × IsAliasAt i.table.config v.place y x
    inner l =
        let w : (own : List Var) × ListsTold nodes (take (length n.box.around + 1) v.stores) own × ((y : Var) → IsAmong y own → IsAmong y list) = h.every (length n.box.around) (l, at.1) consistent in
        let u : (y : Var) × IsAmong y w.0 × Equal (outermost_of nodes (take (length (take (length n.box.around + 1) v.stores) - 1) (take (length n.box.around + 1) v.stores))) (variable y) (variable x) =
        touched_listed nodes (take (length n.box.around + 1) v.stores) n.box stores w.0 w.1 x n.tells in (
          u.0,
          w.2 u.0 u.1,
          alias_by v i (take (length (take (length n.box.around + 1) v.stores) - 1) (take (length n.box.around + 1) v.stores)) (begins_alike v i (length n.box.around) n.box at.0 l)
              (around_consistent nodes (take (length n.box.around + 1) v.stores) n.box stores consistent) u.0 x
              (touched_unstructured nodes (take (length n.box.around + 1) v.stores) n.box stores consistent x n.tells) u.2,
        )

    by_depth : (bs : List Content) → n.box.around ≡ bs → (y : Var) × IsAmong y list × IsAliasAt i.table.config v.place y x
    by_depth [] e = absurd (root_touches_nothing i.table.config (good v i) n.name n.box n.is_box e x n.tells)
    by_depth (b ∷ bs) e = let q : length n.box.around ≡ suc (length bs) = ap (λ (l : List Content). length l) e in inner (omega (arith, q))

  pub around_suffices : Suffices v.table.program i.table.config v.place (NeedsAround i.table.config v.place) list
  around_suffices = record { concern = concern; enough = λ x n. by_depth x n n.box.around refl; oldest = record { each = oldest } }
