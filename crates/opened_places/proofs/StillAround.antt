-- A place that is there before a step and afterwards has the same boxes around it.
use Rattle.std.proofs.Common.{◌≡◌, List, [], ◌∷◌, ◌++◌, Some, refl, sym, ◌∙◌, ap, subst, inl, inr}
use Rattle.std.specs.Prelude.{option_map}
use Rattle.std.specs.List.{AllByRecursion}
use Rattle.akl_terms.specs.declared.name.Place.{Place}
use Rattle.akl_model.specs.Config.{Config, Found, box_at, home_of}
use Rattle.akl_model.specs.Wakes.{names_around, names_down_to, boxes_around, IsOneOf, IsThere}
use Rattle.akl_model.proofs.NamesKept.{Stand, box-itself, home-box}
use Rattle.step_laws.specs.Holders.{IsHeldBy}
use Rattle.step_laws.specs.Likeness.{IsLike}
use Rattle.step_laws.specs.Whereabouts.{Stands}
use Rattle.step_laws.proofs.There.{site_there, there_site}
use Rattle.step_laws.proofs.Whereabouts.{found_in}
use Rattle.step_laws.proofs.Holders.{held_around}
use Rattle.step_laws.proofs.Stays.{like_box, like_home}
use Rattle.step_laws.proofs.Steps.{Later}
use Rattle.opened_places.specs.Changed.{IsChanged, new_goal, new_box, changed_goal, box_of_changed_goal, changed_constraint, changed_goals, holder_of_changed_goals}
use Rattle.opened_places.specs.Placed.{PlacedValue, places_of, StandsSo}
use Rattle.opened_places.specs.Exact.{AreExactly, AreChangedTo}
use Rattle.opened_places.proofs.InnerPlaces.{places_append, all_append}
use Rattle.opened_places.proofs.Members.{one_left}
use Rattle.opened_places.proofs.SetRows.{there_some}

module _ (c d : Config) (s : Stand c) (t : Stand d) (z : Later c d) where
  pub still_around : (place : Place) → IsThere place c.roots → IsThere place d.roots → boxes_around place c.roots ≡ boxes_around place d.roots
  still_around (Place.Box n) h k =
      let e : (e : Found) × (box_at n c.roots ≡ Some e) = there_site (Place.Box n) c.roots h in
      let f : (f : Found) × (box_at n d.roots ≡ Some f) = there_site (Place.Box n) d.roots k in
      let like : IsLike e.0 f.0 = like_box c d s t z e.0 f.0 (found_in n c.roots e.0 e.1) (found_in n d.roots f.0 f.1)
      (sym (box-itself n c.roots e.0 e.1) ∙ box-itself n d.roots f.0 f.1) in
      ap (option_map names_around) e.1 ∙ ap Some like.around ∙ sym (ap (option_map names_around) f.1)
  still_around (Place.Goal g) h k =
      let e : (e : Found) × (home_of g c.roots ≡ Some e) = there_site (Place.Goal g) c.roots h in
      let f : (f : Found) × (home_of g d.roots ≡ Some f) = there_site (Place.Goal g) d.roots k in
      let like : IsLike e.0 f.0 = like_home c d s t z g e.0 f.0 e.1 f.1 in
      ap (option_map names_down_to) e.1 ∙ (λ i. Some (like.around i ++ like.name i ∷ [])) ∙ sym (ap (option_map names_down_to) f.1)

  -- what changes is there afterwards
  pub changed_there : (place : Place) → IsChanged c d place → IsThere place d.roots
  changed_there _ (new_goal {g = g} {f = f} y z) = site_there (Place.Goal g) d.roots f z
  changed_there _ (new_box {n = n} {f = f} y z) = site_there (Place.Box n) d.roots f z
  changed_there _ (changed_goal {g = g} {e = e} {f = f} y z differ) = site_there (Place.Goal g) d.roots f z
  changed_there _ (box_of_changed_goal g {e = e} {f = f} y z differ) = site_there (Place.Box f.content.name) d.roots f (home-box g d.roots f t.once z)
  changed_there _ (changed_constraint {n = n} {e = e} {f = f} y z differ) = site_there (Place.Box n) d.roots f z
  changed_there _ (changed_goals {n = n} {e = e} {f = f} y z differ) = site_there (Place.Box n) d.roots f z
  changed_there _ (holder_of_changed_goals n {g = g} {e = e} {f = f} y z differ h) = let w : IsHeldBy n g f d.roots = held_around d.roots t.once n g f z h in site_there (Place.Goal g) d.roots w.home w.is_home

  -- so places that are there afterwards stand as they stood
  pub still_all : (ps : List PlacedValue) → AllByRecursion (StandsSo c.roots) ps → ((place : Place) → IsOneOf place (places_of ps) → IsThere place d.roots) → AllByRecursion (StandsSo d.roots) ps
  still_all [] x h = tt
  still_all (v ∷ vs) x h = (
    sym (still_around v.place (there_some x.0) (h v.place (inl refl))) ∙ x.0,
    still_all vs x.1 (λ place i. h place (inr i)),
  )

  -- of places that change some were there, and stand as they stood
  module _ (ps : List PlacedValue) (is_exact : AreExactly c d (places_of ps)) where
    pub exact_there : (p : Place) → IsOneOf p (places_of ps) → IsThere p d.roots
    exact_there p i = changed_there p (is_exact.changed p i)

    still_part : (qs more : List PlacedValue) → ps ≡ qs ++ more → AllByRecursion (StandsSo c.roots) qs → AllByRecursion (StandsSo d.roots) qs
    still_part qs more e h = still_all qs h (λ p i. exact_there p (subst (IsOneOf p) (sym (ap places_of e ∙ places_append qs more)) (one_left p (places_of qs) (places_of more) i)))

    pub still_whole : (qs : List PlacedValue) → ps ≡ qs → AllByRecursion (StandsSo c.roots) qs → AreChangedTo c d ps
    still_whole qs e h = record {
      exactly = is_exact;
      around = subst (AllByRecursion (StandsSo d.roots)) (sym e) (still_all qs h (λ p i. exact_there p (subst (λ (os : List PlacedValue). IsOneOf p (places_of os)) (sym e) i)));
    }

    -- and those behind them are new
    pub still_and_new : (qs more : List PlacedValue) → ps ≡ qs ++ more → AllByRecursion (StandsSo c.roots) qs → AllByRecursion (StandsSo d.roots) more → AreChangedTo c d ps
    still_and_new qs more e h n = record { exactly = is_exact; around = subst (AllByRecursion (StandsSo d.roots)) (sym e) (all_append (StandsSo d.roots) qs more (still_part qs more e h) n) }

  -- the boxes down to one that stood
  pub site_down : (e f : Found) → Stands e c.roots → box_at e.content.name d.roots ≡ Some f → names_down_to f ≡ names_down_to e
  site_down e f x y =
      let like : IsLike e f = like_box c d s t z e f x (found_in e.content.name d.roots f y) (box-itself e.content.name d.roots f y) in
      λ i. (sym like.around i) ++ (sym like.name i) ∷ []
