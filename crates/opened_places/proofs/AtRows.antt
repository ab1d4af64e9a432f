-- What a table's rows say of goals and boxes, and of what stands about a label's place.
use Rattle.std.proofs.Common.{◌≡◌, ◌≤◌, Option, Some, None, refl, sym, ◌∙◌, ap}
use Rattle.std.specs.Prelude.{option_map, option_and_then}
use Rattle.akl_terms.specs.declared.name.Name.{Name}
use Rattle.akl_terms.specs.declared.name.Place.{Place}
use Rattle.akl_model.specs.declared.label.Label.{Label}
use Rattle.akl_model.specs.Config.{Boxes, Config, Held, held_in, Found, box_at, home_of, site_of}
use Rattle.akl_model.specs.Changes.{shape_of, shape_at}
use Rattle.akl_model.specs.Wakes.{holder_in}
use Rattle.akl_model.proofs.Options.{some_value, map_some, map_none, none_where}
use Rattle.akl_model.proofs.Finds.{times}
use Rattle.akl_model.proofs.NamesKept.{box-itself, site-box}
use Rattle.step_laws.specs.Holders.{IsHeldBy}
use Rattle.step_laws.proofs.Whereabouts.{home_in}
use Rattle.step_laws.proofs.Holders.{held_around}
use Rattle.table_laws.specs.Rows.{BoxRow, GoalRow, Table}
use Rattle.table_laws.specs.Unfolds.{IsBoxRow, Spot, spot_in, spot_of, Unfolds}
use Rattle.table_laws.specs.Writes as writes
use Rattle.table_laws.proofs.Frame.{row_of, neither}
use Rattle.table_laws.proofs.Insides.{goal_row, spot_none}
use Rattle.opened_places.specs.declared.around.Holder.{Holder}
use Rattle.opened_places.specs.declared.around.Around.{Around}
use Rattle.opened_places.specs.Exact.{IsAround, site_in}

pub spot_home : (g : Name) (roots : Boxes) (v : Spot) → spot_in g roots ≡ Some v → (f : Found) × (home_of g roots ≡ Some f) × (shape_at g roots ≡ Some v.shape)
spot_home g roots v e = on (home_of g roots) refl e
  where
    on : (o : Option Found) → home_of g roots ≡ o → option_and_then (λ (f : Found). option_map (λ (h : Held). record { home = f.content.name; shape = shape_of h }) (held_in g f.goals)) o ≡ Some v
        → (f : Found) × (home_of g roots ≡ Some f) × (shape_at g roots ≡ Some v.shape)
    on None i j = cc
    on (Some f) i j =
        let w : (h : Held) × (held_in g f.goals ≡ Some h) × (record { home = f.content.name; shape = shape_of h } ≡ v) =
        map_some (λ (h : Held). record { home = f.content.name; shape = shape_of h }) (held_in g f.goals) v j in
        (f, i, ap (option_and_then (λ (k : Found). option_map shape_of (held_in g k.goals))) i ∙ ap (option_map shape_of) w.1 ∙ ap Some (ap (λ (s : Spot). s.shape) w.2))

module _ (T : Table) (c : Config) (u : Unfolds T c) where
  pub row_home : (g : Name) (row : GoalRow) → T.goal_of g ≡ Some row → (f : Found) × (home_of g c.roots ≡ Some f) × (shape_at g c.roots ≡ Some row.shape)
  row_home g row e = spot_home g c.roots (spot_of row) (sym (u.goals g) ∙ ap (option_map spot_of) e)

  pub no_goal_row : (g : Name) → home_of g c.roots ≡ None → T.goal_of g ≡ None
  no_goal_row g e = map_none spot_of (T.goal_of g) (u.goals g ∙ spot_none g c.roots e)

  pub no_box_row : (n : Name) → box_at n c.roots ≡ None → T.box_of n ≡ None
  no_box_row n e = neither (IsBoxRow T c.roots) (box_at n c.roots) (T.box_of n) (u.boxes n) e

  pub row_of_goal : ((m : Name) → times m c.roots ≤ 1) → (g : Name) (f : Found) → home_of g c.roots ≡ Some f → (row : GoalRow) × (T.goal_of g ≡ Some row) × (row.home ≡ f.content.name)
  row_of_goal once g f e =
      let h : (h : Held) × (held_in g f.goals ≡ Some h) = (home_in g c.roots f e).1 in
      let w : (r : GoalRow) × (T.goal_of g ≡ Some r) × (r.home ≡ f.content.name) × (r.shape ≡ shape_of h.0) = goal_row T c u once g f h.0 e h.1 in
      (w.0, w.1, w.2)

  pub goal_gone : ((m : Name) → times m c.roots ≤ 1) → (g : Name) → T.goal_of g ≡ None → home_of g c.roots ≡ None
  goal_gone once g e = none_where (home_of g c.roots) (λ f i. let w : (row : GoalRow) × (T.goal_of g ≡ Some row) × (row.home ≡ f.content.name) = row_of_goal once g f i in not_both e w.1)
    where
      not_both : {o : Option GoalRow} {r : GoalRow} → o ≡ None → o ≡ Some r → ⊥
      not_both i j = cc

  pub box_gone : (n : Name) → T.box_of n ≡ None → box_at n c.roots ≡ None
  box_gone n e = none_where (box_at n c.roots) (λ f i. let w : (r : BoxRow) × (T.box_of n ≡ Some r) × IsBoxRow T c.roots f r = row_of T c u n f i in not_both e w.1)
    where
      not_both : {o : Option BoxRow} {r : BoxRow} → o ≡ None → o ≡ Some r → ⊥
      not_both i j = cc

-- of the box of a label's place
module _ (T : Table) (c : Config) (u : Unfolds T c) (once : (m : Name) → times m c.roots ≤ 1) (l : Label) (site : Found) (is_site : site_of l.place c.roots ≡ Some site) (x : Around) (k : IsAround T l x) where
  pub site_there : box_at site.content.name c.roots ≡ Some site
  site_there = site-box l.place c.roots site once is_site

  pub home_is : x.home ≡ site.content.name
  home_is = on l.place k.home is_site
    where
      on : (place : Place) → site_in T place ≡ Some x.home → site_of place c.roots ≡ Some site → x.home ≡ site.content.name
      on (Place.Goal g) e i =
          let w : (row : GoalRow) × (T.goal_of g ≡ Some row) × (row.home ≡ site.content.name) = row_of_goal T c u once g site i in
          some_value (sym e ∙ ap writes.home_in w.1) ∙ w.2
      on (Place.Box n) e i = some_value (sym e) ∙ box-itself n c.roots site i

  pub holder_is : option_map (λ (h : Holder). h.goal) x.holder ≡ holder_in site.content.name c.roots
  holder_is =
      let w : (v : BoxRow) × (T.box_of site.content.name ≡ Some v) × IsBoxRow T c.roots site v = row_of T c u site.content.name site site_there in
      k.holder ∙ ap (λ (n : Name). writes.holder_in_row (T.box_of n)) home_is ∙ ap writes.holder_in_row w.1 ∙ w.2.holder

  pub holder_by : (g : Name) → holder_in site.content.name c.roots ≡ Some g → (h : Holder) × (x.holder ≡ Some h) × (h.goal ≡ g)
  holder_by g e = map_some (λ (h : Holder). h.goal) x.holder g (holder_is ∙ e)

  pub held_by : (h : Holder) → x.holder ≡ Some h → IsHeldBy site.content.name h.goal site c.roots
  held_by h e = held_around c.roots once site.content.name h.goal site site_there (sym holder_is ∙ ap (option_map (λ (h : Holder). h.goal)) e)

  pub holder_home_is : (h : Holder) (e : Found) → x.holder ≡ Some h → home_of h.goal c.roots ≡ Some e → h.home ≡ e.content.name
  holder_home_is h e i j =
      let w : (row : GoalRow) × (T.goal_of h.goal ≡ Some row) × (row.home ≡ e.content.name) = row_of_goal T c u once h.goal e j in
      some_value (sym (k.holder_home h i) ∙ ap writes.home_in w.1) ∙ w.2
