-- What a view shows of the box of its place.
use Rattle.std.proofs.Common.{◌≡◌, ◌+◌, ◌<◌, List, [], ◌∷◌, ◌++◌, length, Option, Some, sym, ◌∙◌, ap, subst, inl, inr, arith}
use Rattle.std.specs.Prelude.{option_map, option_and_then, is_some, IsSome}
use Rattle.akl_terms.specs.declared.name.Name.{Name}
use Rattle.akl_terms.specs.declared.name.Place.{Place}
use Rattle.akl_terms.specs.Equal.{IsTold}
use Rattle.akl_terms.specs.Standing.{StandFor}
use Rattle.akl_model.specs.declared.item.Item.{Item}
use Rattle.akl_model.specs.Changes.{shape_of}
use Rattle.akl_model.specs.Config.{IsIn, Config, Held, held_in, Found, environment, whole, box_at, home_of}
use Rattle.akl_model.specs.declared.label.Label.{Label}
use Rattle.akl_model.specs.Wakes.{names_around, names_down_to}
use Rattle.akl_model.proofs.NamesKept.{Stand, replay-stands, site-box}
use Rattle.akl_model.proofs.Options.{map_some}
use Rattle.akl_model.proofs.Scoped.{IsIn-either}
use Rattle.step_laws.proofs.Whereabouts.{found_in}
use Rattle.step_laws.proofs.Deeper.{Over, over, named_found, home_found}
use Rattle.local_store.specs.Stored.{Stored}
use Rattle.local_store.specs.Chained.{innermost}
use Rattle.table_laws.specs.Rows.{BoxRow, GoalRow, Table, store_in, stores_along, told_in, ports_in}
use Rattle.table_laws.specs.Unfolds.{IsBoxRow, Spot, spot_of, Unfolds}
use Rattle.table_laws.specs.Stamped.{store_stamp, goal_stamp, stamp_in}
use Rattle.table_laws.proofs.Stores.{told_along, stores_join}
use Rattle.table_laws.proofs.Frame.{row_of, around_stands}
use Rattle.box_tree.specs.declared.view.Sight.{Sight}
use Rattle.box_tree.specs.declared.step.Step.{Step}
use Rattle.box_tree.specs.Tables.{all_rules, table_of, store_at, step_of, step_in}
use Rattle.table_laws.specs.PartSteps.{step_over}
use Rattle.table_laws.proofs.StoreChains.{innermost_push}
use Rattle.box_tree.specs.Plans.{part_step}
use Rattle.box_tree.proofs.OverStores.{over_store, site_store}
use Rattle.box_tree.specs.Views.{ViewValue, IsViewOf, Shows}
use Rattle.guard_plan.proofs.Chains.{long_push}

-- the items of a box that is found have rows
module _ (T : Table) (c : Config) (s : Stand c) (u : Unfolds T c) (f : Found) (e : box_at f.content.name c.roots ≡ Some f) where
  pub goal_there : (g : Name) (h : Held) → held_in g f.goals ≡ Some h → IsSome (stamp_in T (Item.Goal g))
  goal_there g h i =
      let home : home_of g c.roots ≡ Some f = home_found c.roots s.once g f.content.name f h e i in
      let seen : Found → Option Spot = λ (k : Found). option_map (λ (x : Held). record { home = k.content.name; shape = shape_of x }) (held_in g k.goals) in
      let spot : option_map spot_of (T.goal_of g) ≡ Some (record { home = f.content.name; shape = shape_of h }) =
      u.goals g ∙ ap (option_and_then seen) home ∙ ap (option_map (λ (x : Held). record { home = f.content.name; shape = shape_of x })) i in
      let w : (r : GoalRow) × (T.goal_of g ≡ Some r) × (spot_of r ≡ record { home = f.content.name; shape = shape_of h }) = map_some spot_of (T.goal_of g) (record { home = f.content.name; shape = shape_of h }) spot in
      ap (λ (o : Option GoalRow). is_some (goal_stamp o)) w.1

  pub box_there : (m : Name) (k : Found) → box_at m c.roots ≡ Some k → IsSome (stamp_in T (Item.Store m))
  box_there m k i = let w : (r : BoxRow) × (T.box_of m ≡ Some r) × IsBoxRow T c.roots k r = row_of T c u m k i in ap (λ (o : Option BoxRow). is_some (store_stamp o)) w.1

  -- so do the boxes down to it, as they are found
  pub box_down : (m : Name) → IsIn m (names_down_to f) → (k : Found) × (box_at m c.roots ≡ Some k)
  box_down m h = elim (IsIn-either m (names_around f) (f.content.name ∷ []) h) [
    | inl x ↦ let o : Over m f c.roots = over m f c.roots (found_in f.content.name c.roots f e) x in (o.outer, named_found c.roots s.once m o.outer o.stands o.named)
    | inr x ↦ elim x [ inl q ↦ (f, ap (λ (n : Name). box_at n c.roots) q ∙ e) | inr y ↦ absurd y ]
  ]

  pub store_there : (m : Name) → IsIn m (names_down_to f) → IsSome (stamp_in T (Item.Store m))
  store_there m h = let k : (k : Found) × (box_at m c.roots ≡ Some k) = box_down m h in box_there m k.0 k.1

module _ (v : ViewValue) (i : IsViewOf v) where
  pub stand : Stand i.table.config
  stand = replay-stands all_rules v.table.program v.table.query v.journal i.table.config i.table.replays

  pub found : box_at i.site.content.name i.table.config.roots ≡ Some i.site
  found = site-box v.place i.table.config.roots i.site stand.once i.is_site

  pub row : (r : BoxRow) × ((table_of v.table).box_of i.site.content.name ≡ Some r) × IsBoxRow (table_of v.table) i.table.config.roots i.site r
  row = row_of (table_of v.table) i.table.config i.table.unfolds i.site.content.name i.site found

  pub environment_stands : StandFor (IsTold (told_along (table_of v.table) (names_around i.site))) (IsTold (environment i.site))
  environment_stands = around_stands (table_of v.table) i.table.config stand i.table.unfolds i.site.content.name i.site found

  pub stores_path : v.stores ≡ stores_along (table_of v.table) (names_down_to i.site)
  stores_path = i.stores ∙ ap (stores_along (table_of v.table)) i.path

  pub whole_stands : StandFor (IsTold (told_in v.table.program.templates.nodes v.stores)) (IsTold (whole i.site))
  whole_stands = subst (λ (ss : List Stored). StandFor (IsTold (told_in v.table.program.templates.nodes ss)) (IsTold (whole i.site))) (sym stores_path) row.2.stands

  -- the stores around, and the box's own
  pub stores_split : v.stores ≡ stores_along (table_of v.table) (names_around i.site) ++ row.0.store ∷ []
  stores_split = stores_path ∙ stores_join (table_of v.table) (names_around i.site) (i.site.content.name ∷ [])
      ∙ ap (λ (o : Option BoxRow). stores_along (table_of v.table) (names_around i.site) ++ store_in o ∷ []) row.1

  pub own_store : innermost v.stores ≡ row.0.store
  own_store = ap innermost stores_split ∙ innermost_push (stores_along (table_of v.table) (names_around i.site)) row.0.store

  pub own_frames : (innermost v.stores).frames ≡ i.site.content.frames
  own_frames = ap (λ (s : Stored). s.frames) own_store ∙ row.2.frames

  pub own_ports : ports_in v.table.program.templates.nodes (innermost v.stores).ports ≡ i.site.content.ports
  own_ports = ap (λ (s : Stored). ports_in v.table.program.templates.nodes s.ports) own_store ∙ row.2.ports

  -- as the table has it under the box's name
  pub own_here : innermost v.stores ≡ store_in ((table_of v.table).box_of i.site.content.name)
  own_here = own_store ∙ sym (ap store_in row.1)

  -- the innermost store is that of the box of the place
  pub store_here : store_at (table_of v.table) v.place ≡ innermost v.stores
  store_here = site_store (table_of v.table) i.table.config i.table.unfolds stand.once v.place i.site i.is_site ∙ sym own_here

  pub step_here : (l : Label) → l.place ≡ v.place → (step : Step) → step_in v.table l step ≡ step_of v.table.program.templates.nodes (innermost v.stores) step
  step_here l e step = ap (λ (s : Stored). step_of v.table.program.templates.nodes s step) (ap (store_at (table_of v.table)) e ∙ store_here)

  -- and what a step makes is over that store
  pub part_here : (l : Label) → l.place ≡ v.place → (step : Step) → step_in v.table l step ≡ step_over (innermost v.stores) (part_step v.table.program.templates.nodes step)
  part_here l e step = step_here l e step ∙ sym (over_store v.table.program.templates.nodes (innermost v.stores) step)

  pub some_stores : 0 < length v.stores
  some_stores =
      let k : length v.stores ≡ length (stores_along (table_of v.table) (names_around i.site) ++ row.0.store ∷ []) = ap (λ (ss : List Stored). length ss) stores_split in
      let m : length (stores_along (table_of v.table) (names_around i.site) ++ row.0.store ∷ []) ≡ length (stores_along (table_of v.table) (names_around i.site)) + 1 =
      long_push (stores_along (table_of v.table) (names_around i.site)) row.0.store in
      omega arith

  pub shows_at : (place : Place) (sight : Sight) → v.place ≡ place → v.sight ≡ sight → Shows v.table.program.templates.nodes place i.site sight
  shows_at place sight p s = subst (Shows v.table.program.templates.nodes place i.site) s (subst (λ (q : Place). Shows v.table.program.templates.nodes q i.site v.sight) p i.shows)
