-- Which places go with a label, by what is found before and afterwards, or by rows.
use Rattle.std.proofs.Common.{◌≡◌, ◌≤◌, List, Option, Some, None, sym, ◌∙◌, ap, ◌⊎◌, inl, inr}
use Rattle.std.specs.Prelude.{option_map}
use Rattle.akl_terms.specs.declared.name.Name.{Name}
use Rattle.akl_terms.specs.declared.name.Place.{Place}
use Rattle.akl_model.specs.Config.{IsIn, Config, Held, held_in, Found, box_at, home_of}
use Rattle.akl_model.specs.Changes.{shape_of}
use Rattle.akl_model.proofs.Options.{none_or, none_where}
use Rattle.akl_model.proofs.Finds.{times}
use Rattle.step_laws.proofs.There.{site_there, there_site}
use Rattle.step_laws.proofs.Whereabouts.{home_in}
use Rattle.table_laws.specs.Rows.{BoxRow, GoalRow, Table}
use Rattle.table_laws.specs.Unfolds.{IsBoxRow, Unfolds, spot_of}
use Rattle.table_laws.specs.Writes.{IsInsideOne, IsGoalInsideOne}
use Rattle.table_laws.specs.Going.{IsGone}
use Rattle.table_laws.proofs.Sets.{not_some}
use Rattle.table_laws.proofs.Frame.{row_of, found_of}
use Rattle.table_laws.proofs.Insides.{IsUnder, IsGoalUnder, under, goal_under, goal_row, spot_none}

-- what was there goes exactly where this is so
abbrev pub GoesIf : {A : Type 0} → Type 0 → Option A → Type 0
GoesIf {A} G o = (G × (o ≡ None)) ⊎ ((G → ⊥) × ((x : A) × (o ≡ Some x)))

-- from c to d what stands inside some boxes goes, and some goals of their own
pub record AreGoing (T : Table) (c d : Config) (names : List Name) (Own : Name → Type 0) : Type 0 where
  pub box : (k : Name) (e : Found) → box_at k c.roots ≡ Some e → GoesIf (IsInsideOne T names k) (box_at k d.roots)
  pub goal : (i : Name) (e : Found) → home_of i c.roots ≡ Some e → GoesIf (Own i ⊎ IsGoalInsideOne T names i) (home_of i d.roots)
  pub outer_there : (n : Name) → IsIn n names → (e : Found) × (box_at n c.roots ≡ Some e)
  pub own_there : (i : Name) → Own i → (e : Found) × (home_of i c.roots ≡ Some e)

-- so are these places gone, and no others
module _ (T : Table) (c d : Config) (u : Unfolds T c) (once : (m : Name) → times m c.roots ≤ 1) (names : List Name) (Own : Name → Type 0) (go : AreGoing T c d names Own) where
  pub box_gone : (k : Name) → IsGone c d (Place.Box k) → IsInsideOne T names k
  box_gone k x =
      let w : (e : Found) × (box_at k c.roots ≡ Some e) = there_site (Place.Box k) c.roots x.was in
      elim (go.box k w.0 w.1) [ inl y ↦ y.0 | inr y ↦ absurd (x.gone (site_there (Place.Box k) d.roots y.1.0 y.1.1)) ]

  pub gone_box : (k : Name) → IsInsideOne T names k → IsGone c d (Place.Box k)
  gone_box k x =
      let o : (e : Found) × (box_at x.alternative c.roots ≡ Some e) = go.outer_there x.alternative x.goes in
      let w : IsUnder T c u once x.alternative k = under T c u once x.alternative k o.0 o.1 x.inside in
      elim (go.box k w.found w.is_found) [
        | inl y ↦ record { was = site_there (Place.Box k) c.roots w.found w.is_found; gone = λ z. not_some (sym y.1 ∙ (there_site (Place.Box k) d.roots z).1) }
        | inr y ↦ absurd (y.0 x)
      ]

  pub goal_gone : (i : Name) → IsGone c d (Place.Goal i) → Own i ⊎ IsGoalInsideOne T names i
  goal_gone i x =
      let w : (e : Found) × (home_of i c.roots ≡ Some e) = there_site (Place.Goal i) c.roots x.was in
      elim (go.goal i w.0 w.1) [ inl y ↦ y.0 | inr y ↦ absurd (x.gone (site_there (Place.Goal i) d.roots y.1.0 y.1.1)) ]

  goal_was : (i : Name) → Own i ⊎ IsGoalInsideOne T names i → (e : Found) × (home_of i c.roots ≡ Some e)
  goal_was i (inl x) = go.own_there i x
  goal_was i (inr x) =
      let o : (e : Found) × (box_at x.alternative c.roots ≡ Some e) = go.outer_there x.alternative x.goes in
      let w : IsGoalUnder T c u once x.alternative i = goal_under T c u once x.alternative i o.0 o.1 x.inside in
      (w.found, w.is_home)

  pub gone_goal : (i : Name) → Own i ⊎ IsGoalInsideOne T names i → IsGone c d (Place.Goal i)
  gone_goal i x =
      let w : (e : Found) × (home_of i c.roots ≡ Some e) = goal_was i x in
      elim (go.goal i w.0 w.1) [
        | inl y ↦ record { was = site_there (Place.Goal i) c.roots w.0 w.1; gone = λ z. not_some (sym y.1 ∙ (there_site (Place.Goal i) d.roots z).1) }
        | inr y ↦ absurd (y.0 x)
      ]

-- the same by rows
pub record RowsGo (T U : Table) (names : List Name) (Own : Name → Type 0) : Type 0 where
  pub box : (k : Name) (v : BoxRow) → T.box_of k ≡ Some v → GoesIf (IsInsideOne T names k) (U.box_of k)
  pub goal : (i : Name) (v : GoalRow) → T.goal_of i ≡ Some v → GoesIf (Own i ⊎ IsGoalInsideOne T names i) (U.goal_of i)

module _ (T U : Table) (c d : Config) (u : Unfolds T c) (w : Unfolds U d) (once : (m : Name) → times m c.roots ≤ 1) (once_now : (m : Name) → times m d.roots ≤ 1) (names : List Name) (Own : Name → Type 0)
    (go : RowsGo T U names Own) where
  no_box : (k : Name) → U.box_of k ≡ None → box_at k d.roots ≡ None
  no_box k e = none_where (box_at k d.roots) (λ f j. let x : (v : BoxRow) × (U.box_of k ≡ Some v) × IsBoxRow U d.roots f v = row_of U d w k f j in not_some (sym e ∙ x.1))

  box_goes : (k : Name) (e : Found) → box_at k c.roots ≡ Some e → GoesIf (IsInsideOne T names k) (box_at k d.roots)
  box_goes k e i =
      let x : (v : BoxRow) × (T.box_of k ≡ Some v) × IsBoxRow T c.roots e v = row_of T c u k e i in
      elim (go.box k x.0 x.1) [
        | inl y ↦ inl (y.0, no_box k y.1)
        | inr y ↦ inr (y.0, (let z : (f : Found) × (box_at k d.roots ≡ Some f) × IsBoxRow U d.roots f y.1.0 = found_of U d w k y.1.0 y.1.1 in (z.0, z.1)))
      ]

  no_home : (i : Name) → U.goal_of i ≡ None → home_of i d.roots ≡ None
  no_home i e = none_where (home_of i d.roots) (λ f j.
      let h : (h : Held) × (held_in i f.goals ≡ Some h) = (home_in i d.roots f j).1 in
      not_some (sym e ∙ (goal_row U d w once_now i f h.0 j h.1).1))

  home_there : (i : Name) (v : GoalRow) → U.goal_of i ≡ Some v → (f : Found) × (home_of i d.roots ≡ Some f)
  home_there i v e = elim (none_or (home_of i d.roots)) [
    | inl n ↦ absurd (not_some (sym (spot_none i d.roots n) ∙ sym (w.goals i) ∙ ap (option_map spot_of) e))
    | inr f ↦ f
  ]

  goal_goes : (i : Name) (e : Found) → home_of i c.roots ≡ Some e → GoesIf (Own i ⊎ IsGoalInsideOne T names i) (home_of i d.roots)
  goal_goes i e j =
      let h : (h : Held) × (held_in i e.goals ≡ Some h) = (home_in i c.roots e j).1 in
      let x : (v : GoalRow) × (T.goal_of i ≡ Some v) × (v.home ≡ e.content.name) × (v.shape ≡ shape_of h.0) = goal_row T c u once i e h.0 j h.1 in
      elim (go.goal i x.0 x.1) [ inl y ↦ inl (y.0, no_home i y.1) | inr y ↦ inr (y.0, home_there i y.1.0 y.1.1) ]

  pub by_rows : ((n : Name) → IsIn n names → (e : Found) × (box_at n c.roots ≡ Some e)) → ((i : Name) → Own i → (e : Found) × (home_of i c.roots ≡ Some e)) → AreGoing T c d names Own
  by_rows outer own = record { box = box_goes; goal = goal_goes; outer_there = outer; own_there = own }
