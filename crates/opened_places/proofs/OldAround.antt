-- The boxes around what stands about a label's place.
use Rattle.std.proofs.Common.{◌≡◌, ◌≤◌, List, ◌∷◌, Option, Some, None, refl, sym, ◌∙◌, ap, subst}
use Rattle.std.specs.Prelude.{option_map}
use Rattle.std.specs.List.{AllByRecursion}
use Rattle.akl_terms.specs.declared.name.Name.{Name}
use Rattle.akl_terms.specs.declared.name.Place.{Place}
use Rattle.akl_model.specs.declared.label.Label.{Label}
use Rattle.akl_model.specs.Config.{Config, Found, box_at, home_of, site_of}
use Rattle.akl_model.specs.Wakes.{names_around, names_down_to, boxes_around}
use Rattle.akl_model.proofs.Finds.{times}
use Rattle.akl_model.proofs.NamesKept.{home-box}
use Rattle.step_laws.specs.Holders.{IsHeldBy}
use Rattle.table_laws.specs.Rows.{Table}
use Rattle.table_laws.specs.Unfolds.{Unfolds}
use Rattle.opened_places.specs.declared.around.Holder.{Holder}
use Rattle.opened_places.specs.declared.around.Around.{Around}
use Rattle.opened_places.specs.Exact.{IsAround}
use Rattle.opened_places.specs.Placed.{PlacedValue, placed, StandsSo, all_but_last}
use Rattle.opened_places.specs.Listed.{choice_placed, holder_placed, holder_both, goal_turns, goal_goes, box_parts}
use Rattle.opened_places.proofs.InnerPlaces.{all_append}
use Rattle.opened_places.proofs.RunRows.{around_of_path}
use Rattle.opened_places.proofs.AtRows as rows

module _ (T : Table) (c : Config) (u : Unfolds T c) (once : (m : Name) → times m c.roots ≤ 1) (l : Label) (site : Found) (is_site : site_of l.place c.roots ≡ Some site) (x : Around) (k : IsAround T l x) where
  abbrev pub path : List Name
  path = names_down_to site

  abbrev All : List PlacedValue → Type 0
  All ps = AllByRecursion (StandsSo c.roots) ps

  outer : all_but_last path ≡ names_around site
  outer = around_of_path site

  home_stands : StandsSo c.roots (placed (Place.Box x.home) (all_but_last path))
  home_stands = ap (λ (n : Name). option_map names_around (box_at n c.roots)) (rows.home_is T c u once l site is_site x k) ∙ ap (option_map names_around) (rows.site_there T c u once l site is_site x k) ∙ ap Some (sym outer)

  pub goal_stands : (g : Name) → home_of g c.roots ≡ Some site → StandsSo c.roots (placed (Place.Goal g) path)
  goal_stands g e = ap (option_map names_down_to) e

  module _ (h : Holder) (e : x.holder ≡ Some h) where
    by : IsHeldBy site.content.name h.goal site c.roots
    by = rows.held_by T c u once l site is_site x k h e

    around : names_down_to by.home ≡ all_but_last path
    around = sym by.names ∙ sym outer

    holder_stands : StandsSo c.roots (placed (Place.Goal h.goal) (all_but_last path))
    holder_stands = ap (option_map names_down_to) by.is_home ∙ ap Some around

    home_of_holder : StandsSo c.roots (placed (Place.Box h.home) (all_but_last (all_but_last path)))
    home_of_holder =
        ap (λ (n : Name). option_map names_around (box_at n c.roots)) (rows.holder_home_is T c u once l site is_site x k h by.home e by.is_home)
        ∙ ap (option_map names_around) (home-box h.goal c.roots by.home once by.is_home)
        ∙ ap Some (sym (around_of_path by.home) ∙ ap all_but_last around)

  holders_stand : All (holder_placed (all_but_last path) x.holder)
  holders_stand = on x.holder (λ h e. holder_stands h e)
    where
      on : (o : Option Holder) → ((h : Holder) → o ≡ Some h → StandsSo c.roots (placed (Place.Goal h.goal) (all_but_last path))) → All (holder_placed (all_but_last path) o)
      on None f = tt
      on (Some h) f = (f h refl, tt)

  pub both_stand : All (holder_both (all_but_last path) x.holder)
  both_stand = on x.holder (λ h e. holder_stands h e) (λ h e. home_of_holder h e)
    where
      on : (o : Option Holder) → ((h : Holder) → o ≡ Some h → StandsSo c.roots (placed (Place.Goal h.goal) (all_but_last path)))
          → ((h : Holder) → o ≡ Some h → StandsSo c.roots (placed (Place.Box h.home) (all_but_last (all_but_last path)))) → All (holder_both (all_but_last path) o)
      on None f g = tt
      on (Some h) f g = (f h refl, (g h refl, tt))

  pub goes_stand : All (goal_goes x path)
  goes_stand = (home_stands, holders_stand)

  pub turns_stand : (g : Name) → l.place ≡ Place.Goal g → All (goal_turns l.place x path)
  turns_stand g e = (
    ap (λ (p : Place). boxes_around p c.roots) e ∙ goal_stands g (subst (λ (p : Place). site_of p c.roots ≡ Some site) e is_site),
    (home_stands, tt),
  )

  pub parts_stand : ((g : Name) → x.choice ≡ Some g → home_of g c.roots ≡ Some site) → All (box_parts x path)
  parts_stand f = all_append (StandsSo c.roots) (choice_placed path x.choice) (placed (Place.Box x.home) (all_but_last path) ∷ holder_both (all_but_last path) x.holder) (on x.choice f) (home_stands, both_stand)
    where
      on : (o : Option Name) → ((g : Name) → o ≡ Some g → home_of g c.roots ≡ Some site) → All (choice_placed path o)
      on None f = tt
      on (Some g) f = (goal_stands g (f g refl), tt)
