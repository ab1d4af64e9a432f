-- What the rows of a table say, to which a run has come, of the box of a place, of the boxes around it and of what holds it.
use Rattle.std.proofs.Common.{◌≡◌, ◌<◌, ◌≤◌, List, [], ◌∷◌, ◌++◌, length, reverse, true, false, Option, Some, None, refl, sym, ◌∙◌, ap, subst, arith}
use Rattle.std.specs.Prelude.{is_some, option_map, IsSome}
use Rattle.std.specs.Map.{lookup}
use Rattle.akl_terms.specs.declared.name.Name.{Name}
use Rattle.akl_terms.specs.declared.name.Place.{Place}
use Rattle.akl_terms.specs.Names.{same_name}
use Rattle.akl_model.specs.declared.label.Label.{Label}
use Rattle.akl_model.specs.Config.{a_choice, Found, box_at}
use Rattle.akl_model.specs.Changes.{shape_of}
use Rattle.akl_model.specs.Wakes.{names_around, names_down_to, boxes_around, holder_in}
use Rattle.akl_model.proofs.Finds.{times}
use Rattle.akl_model.proofs.NamesKept.{replay-stands, box-itself}
use Rattle.akl_model.proofs.Options.{some_value, map_some, map_none}
use Rattle.step_laws.specs.Holders.{IsHeldBy}
use Rattle.step_laws.proofs.Holders.{held_around}
use Rattle.table_laws.specs.Rows.{BoxRow, GoalRow}
use Rattle.table_laws.specs.Unfolds.{IsBoxRow}
use Rattle.table_laws.specs.Stamped.{Run, IsTableOf}
use Rattle.table_laws.specs.Writes.{home_in, holder_in_row}
use Rattle.table_laws.proofs.Frame.{found_of}
use Rattle.table_laws.proofs.Insides as insides
use Rattle.box_tree.specs.declared.entries.BoxEntry.{BoxEntry}
use Rattle.box_tree.specs.declared.entries.GoalEntry.{GoalEntry}
use Rattle.box_tree.specs.declared.view.Sight.{Sight}
use Rattle.box_tree.specs.Tables.{all_rules, TableValue, table_of, box_row, goal_row}
use Rattle.box_tree.specs.Paths.{sight_held, sight_in, HasPath, IsPath}
use Rattle.box_tree.specs.Views.{is_there}
use Rattle.box_tree.proofs.Seen.{PathOf, path_found, path_few, deep_one}
use Rattle.box_tree.proofs.Viewed.{StandsAt, seen}
use Rattle.opened_places.specs.declared.around.Around.{Around}
use Rattle.opened_places.specs.Exact.{site_in, IsAround}
use Rattle.opened_places.specs.Placed.{all_but_last}
use Rattle.opened_places.proofs.AtRows as rows
use Rattle.opened_places.proofs.SetRows.{some_none, there_some}

-- the boxes around a box, by those down to it
pub but_last : (ns : List Name) (n : Name) → all_but_last (ns ++ n ∷ []) ≡ ns
but_last [] n = refl
but_last (m ∷ []) n = refl
but_last (m ∷ k ∷ ks) n = ap (λ (xs : List Name). m ∷ xs) (but_last (k ∷ ks) n)

pub around_of_path : (f : Found) → all_but_last (names_down_to f) ≡ names_around f
around_of_path f = but_last (names_around f) f.content.name

is_none : {A : Type 0} (o : Option A) → is_some o ≡ false → o ≡ None
is_none None e = refl
is_none (Some a) e = cc

module _ (v : TableValue) where
  -- what is seen of a place
  pub sight_site : (place : Place) (home : Name) (sight : Sight) → sight_in v place ≡ Some (home, sight) → (site_in (table_of v) place ≡ Some home) × (is_there (table_of v) place ≡ true)
  sight_site (Place.Goal g) home sight e =
      let w : (x : GoalEntry) × (lookup (same_name g) v.goals ≡ Some x) × ((x.home, sight_held x.held) ≡ (home, sight)) = map_some (λ (x : GoalEntry). (x.home, sight_held x.held)) (lookup (same_name g) v.goals) (home, sight) e in
      let row : (table_of v).goal_of g ≡ Some (goal_row v.program.templates.nodes w.0) = ap (option_map (goal_row v.program.templates.nodes)) w.1 in
      (ap home_in row ∙ ap (λ (p : Name × Sight). Some p.0) w.2, ap is_some row)
  sight_site (Place.Box n) home sight e =
      let w : (x : BoxEntry) × (lookup (same_name n) v.boxes ≡ Some x) × ((n, Sight.Box x.failing) ≡ (home, sight)) = map_some (λ (x : BoxEntry). (n, Sight.Box x.failing)) (lookup (same_name n) v.boxes) (home, sight) e in
      (ap (λ (p : Name × Sight). Some p.0) w.2, ap is_some (ap (option_map (box_row v.program.templates.nodes)) w.1))

  pub no_sight : (place : Place) → sight_in v place ≡ None → is_there (table_of v) place ≡ false
  no_sight (Place.Goal g) e = ap is_some (ap (option_map (goal_row v.program.templates.nodes)) (map_none (λ (x : GoalEntry). (x.home, sight_held x.held)) (lookup (same_name g) v.goals) e))
  no_sight (Place.Box n) e = ap is_some (ap (option_map (box_row v.program.templates.nodes)) (map_none (λ (x : BoxEntry). (n, Sight.Box x.failing)) (lookup (same_name n) v.boxes) e))

  keyed : (m : Name) (r : BoxRow) → (table_of v).box_of m ≡ Some r → IsSome (lookup (same_name m) v.boxes)
  keyed m r e =
      let w : (x : BoxEntry) × (lookup (same_name m) v.boxes ≡ Some x) × (box_row v.program.templates.nodes x ≡ r) = map_some (box_row v.program.templates.nodes) (lookup (same_name m) v.boxes) r e in
      there_some w.1

  module _ (run : Run) (t : IsTableOf all_rules run (table_of v)) where
    pub once : (m : Name) → times m t.config.roots ≤ 1
    once = (replay-stands all_rules run.program run.query run.journal t.config t.replays).once

    -- a choice that holds a box stands in a box
    pub holder_home : (n g : Name) → holder_in_row ((table_of v).box_of n) ≡ Some g → (home : Name) × (home_in ((table_of v).goal_of g) ≡ Some home)
    holder_home n g e = on ((table_of v).box_of n) refl e
      where
        on : (o : Option BoxRow) → (table_of v).box_of n ≡ o → holder_in_row o ≡ Some g → (home : Name) × (home_in ((table_of v).goal_of g) ≡ Some home)
        on None i j = absurd (some_none refl j)
        on (Some r) i j =
            let w : (f : Found) × (box_at n t.config.roots ≡ Some f) × IsBoxRow (table_of v) t.config.roots f r = found_of (table_of v) t.config t.unfolds n r i in
            let h : IsHeldBy n g w.0 t.config.roots = held_around t.config.roots once n g w.0 w.1 (ap (λ (k : Name). holder_in k t.config.roots) (box-itself n t.config.roots w.0 w.1) ∙ sym w.2.holder ∙ j) in
            let x : (x : GoalRow) × ((table_of v).goal_of g ≡ Some x) × (x.home ≡ h.home.content.name) × (x.shape ≡ shape_of (a_choice h.op h.alternatives)) =
            insides.goal_row (table_of v) t.config t.unfolds once g h.home (a_choice h.op h.alternatives) h.is_home h.held in
            (x.0.home, ap home_in x.1)

    -- the boxes down to one that is there
    pub way_to : (n : Name) (f : Found) → box_at n t.config.roots ≡ Some f → PathOf (table_of v) t.config t.unfolds once n f
    way_to n f e = path_found (table_of v) t.config t.unfolds once (length f.around) n f refl e

    pub few : (n : Name) (f : Found) → box_at n t.config.roots ≡ Some f → length f.around < length v.boxes
    few n f e = path_few (table_of v) t.config t.unfolds once v.boxes keyed n f e

    pub has_path : (n : Name) (f : Found) → box_at n t.config.roots ≡ Some f → HasPath v n
    has_path n f e =
        let p : PathOf (table_of v) t.config t.unfolds once n f = way_to n f e in
        let l : length f.around < length v.boxes = few n f e in
        let same : length p.0 ≡ length f.around = p.3 in
        (p.0, p.1, omega arith)

    pub path_is : (n : Name) (f : Found) (path : List Name) → box_at n t.config.roots ≡ Some f → IsPath (table_of v) n path → path ≡ names_down_to f
    path_is n f path e p =
        let x : PathOf (table_of v) t.config t.unfolds once n f = way_to n f e in
        p.2 ∙ ap (λ (ms : List Name). reverse (n ∷ ms)) (deep_one (table_of v) n p.0 x.0 p.1 x.1) ∙ sym x.2

    -- a box that has a row is there
    pub there_found : (n : Name) → is_there (table_of v) (Place.Box n) ≡ true → (f : Found) × (box_at n t.config.roots ≡ Some f)
    there_found n e = on ((table_of v).box_of n) refl e
      where
        on : (o : Option BoxRow) → (table_of v).box_of n ≡ o → is_some o ≡ true → (f : Found) × (box_at n t.config.roots ≡ Some f)
        on None i j = cc
        on (Some r) i j = let w : (f : Found) × (box_at n t.config.roots ≡ Some f) × IsBoxRow (table_of v) t.config.roots f r = found_of (table_of v) t.config t.unfolds n r i in (w.0, w.1)

    -- what stands at a place that is seen, and the boxes around it
    at_sight : (place : Place) (home : Name) (sight : Sight) → sight_in v place ≡ Some (home, sight) → StandsAt v t.config place home sight
    at_sight place home sight e = seen v t.config t.unfolds once place home sight e

    pub sight_path : (place : Place) (home : Name) (sight : Sight) → sight_in v place ≡ Some (home, sight) → HasPath v home
    sight_path place home sight e = let s : StandsAt v t.config place home sight = at_sight place home sight e in has_path home s.found s.is_box

    pub goal_around : (g home : Name) (sight : Sight) (path : List Name) → sight_in v (Place.Goal g) ≡ Some (home, sight) → IsPath (table_of v) home path → boxes_around (Place.Goal g) t.config.roots ≡ Some path
    goal_around g home sight path e p =
        let s : StandsAt v t.config (Place.Goal g) home sight = at_sight (Place.Goal g) home sight e in
        ap (option_map names_down_to) s.is_site ∙ ap Some (sym (path_is home s.found path s.is_box p))

    pub box_around : (n home : Name) (sight : Sight) (path : List Name) → sight_in v (Place.Box n) ≡ Some (home, sight) → IsPath (table_of v) home path → boxes_around (Place.Box n) t.config.roots ≡ Some (all_but_last path)
    box_around n home sight path e p =
        let s : StandsAt v t.config (Place.Box n) home sight = at_sight (Place.Box n) home sight e in
        ap (option_map names_around) s.is_site ∙ ap Some (sym (ap all_but_last (path_is home s.found path s.is_box p) ∙ around_of_path s.found))

    pub not_around : (place : Place) → sight_in v place ≡ None → boxes_around place t.config.roots ≡ None
    not_around (Place.Goal g) e = ap (option_map names_down_to) (rows.goal_gone (table_of v) t.config t.unfolds once g (is_none ((table_of v).goal_of g) (no_sight (Place.Goal g) e)))
    not_around (Place.Box n) e = ap (option_map names_around) (rows.box_gone (table_of v) t.config t.unfolds n (is_none ((table_of v).box_of n) (no_sight (Place.Box n) e)))

    -- the box of a label's place, where that is there
    pub around_path : (l : Label) (x : Around) → IsAround (table_of v) l x → is_there (table_of v) l.place ≡ true → HasPath v x.home
    around_path l x k e = on (sight_in v l.place) refl
      where
        on : (o : Option (Name × Sight)) → sight_in v l.place ≡ o → HasPath v x.home
        on None q = let z : false ≡ true = sym (no_sight l.place q) ∙ e in absurd cc
        on (Some w) q =
            let site : site_in (table_of v) l.place ≡ Some w.0 = (sight_site l.place w.0 w.1 q).0 in
            subst (HasPath v) (some_value (sym site ∙ k.home)) (sight_path l.place w.0 w.1 q)
