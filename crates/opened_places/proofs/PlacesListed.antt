-- The places of what is listed with the boxes around it.
use Rattle.std.proofs.Common.{◌≡◌, List, [], ◌∷◌, ◌++◌, map, Option, Some, None, refl, sym, ◌∙◌, ap, append_assoc}
use Rattle.akl_terms.specs.declared.name.Name.{Name}
use Rattle.akl_terms.specs.declared.name.Place.{Place}
use Rattle.akl_model.specs.Config.{Atom}
use Rattle.akl_model.specs.Changes.{Shape}
use Rattle.table_laws.specs.Steps.{NewBox, BoxCopy, Step, tells, forks, fails, cuts, joins, refutes, confirms, splits}
use Rattle.opened_places.specs.declared.around.Holder.{Holder}
use Rattle.opened_places.specs.declared.around.Around.{Around}
use Rattle.opened_places.specs.Placed.{PlacedValue, placed, places_of, all_but_last, goals_placed}
use Rattle.opened_places.specs.Gone.{goals_named}
use Rattle.opened_places.specs.Copies.{CopyPart, AddsCopies}
use Rattle.opened_places.specs.Listed.{choice_placed, holder_placed, holder_both, new_placed, law_part, goal_turns, goal_goes, box_parts, AreListed}
use Rattle.opened_places.proofs.ListedPlaces.{listed, choice_place, holder_place, holder_places, new_places, copy_places}
use Rattle.opened_places.proofs.InnerPlaces.{places_append, goals_places}

choice_is : (around : List Name) (o : Option Name) → places_of (choice_placed around o) ≡ choice_place o
choice_is around None = refl
choice_is around (Some g) = refl

holder_is : (around : List Name) (o : Option Holder) → places_of (holder_placed around o) ≡ holder_place o
holder_is around None = refl
holder_is around (Some h) = refl

both_is : (around : List Name) (o : Option Holder) → places_of (holder_both around o) ≡ holder_places o
both_is around None = refl
both_is around (Some h) = refl

-- a box comes with its goals
with_goals : (n : Name) (around path names : List Name) → places_of (placed (Place.Box n) around ∷ goals_placed path names) ≡ Place.Box n ∷ goals_named names
with_goals n around path names = ap (λ (ps : List Place). Place.Box n ∷ ps) (goals_places path names)

new_are : (around : List Name) (news : List NewBox) → places_of (new_placed around news) ≡ new_places news
new_are around [] = refl
new_are around (n ∷ ns) = ap (λ (ps : List Place). Place.Box n.name ∷ ps) (
    places_append (goals_placed (around ++ n.name ∷ []) (map (λ (x : Name × Atom). x.0) n.goals)) (new_placed around ns)
    ∙ (λ i. (goals_places (around ++ n.name ∷ []) (map (λ (x : Name × Atom). x.0) n.goals) i) ++ (new_are around ns i)))

pub copies_are : (around : List Name) (all : List CopyPart) (some : List BoxCopy) (before afterwards : List PlacedValue) → AddsCopies around all (map law_part some) before afterwards → places_of afterwards ≡ places_of before ++ copy_places some
copies_are around all [] before afterwards e = ap places_of e ∙ sym (nothing (places_of before))
  where
    nothing : (ps : List Place) → ps ++ [] ≡ ps
    nothing [] = refl
    nothing (p ∷ ps) = ap (λ (qs : List Place). p ∷ qs) (nothing ps)
copies_are around all (k ∷ ks) before afterwards (next, (inner, w, e), rest) =
    copies_are around all ks next afterwards rest
    ∙ ap (λ (ps : List Place). ps ++ copy_places ks) (ap places_of e ∙ places_append before new ∙ ap (λ (ps : List Place). places_of before ++ ps) (with_goals k.name (around ++ inner) ((around ++ inner) ++ k.name ∷ []) names))
    ∙ append_assoc (places_of before) (Place.Box k.name ∷ goals_named names) (copy_places ks)
  where
    names : List Name
    names = map (λ (x : Name × Shape). x.0) k.goals

    new : List PlacedValue
    new = placed (Place.Box k.name) (around ++ inner) ∷ goals_placed ((around ++ inner) ++ k.name ∷ []) names

parts_are : (x : Around) (path : List Name) → places_of (box_parts x path) ≡ choice_place x.choice ++ (Place.Box x.home ∷ holder_places x.holder)
parts_are x path =
    places_append (choice_placed path x.choice) (placed (Place.Box x.home) (all_but_last path) ∷ holder_both (all_but_last path) x.holder)
    ∙ (λ i. (choice_is path x.choice i) ++ (Place.Box x.home ∷ both_is (all_but_last path) x.holder i))

pub listed_places : (place : Place) (x : Around) (path : List Name) (step : Step) (ps : List PlacedValue) → AreListed place x path step ps → places_of ps ≡ listed place x step
listed_places place x path (tells new solved) ps e = ap places_of e ∙ ap (λ (qs : List Place). Place.Box x.home ∷ qs) (holder_is (all_but_last path) x.holder)
listed_places place x path (forks op news) ps e =
    ap places_of e ∙ places_append (goal_turns place x path) (new_placed path news) ∙ ap (λ (qs : List Place). place ∷ Place.Box x.home ∷ qs) (new_are path news)
listed_places place x path fails ps e = ap places_of e ∙ both_is (all_but_last path) x.holder
listed_places place x path cuts ps e = ap places_of e
listed_places place x path (joins new solved goals) ps e =
    ap places_of e ∙ places_append (goal_goes x path) (goals_placed path (map (λ (y : Name × Atom). y.0) goals))
    ∙ (λ i. Place.Box x.home ∷ ((holder_is (all_but_last path) x.holder i) ++ (goals_places path (map (λ (y : Name × Atom). y.0) goals) i)))
listed_places place x path refutes ps e = ap places_of e
listed_places place x path confirms ps e = ap places_of e ∙ ap (λ (qs : List Place). Place.Box x.home ∷ qs) (holder_is (all_but_last path) x.holder)
listed_places place x path (splits copy copies) ps e =
    copies_are (all_but_last path) (map law_part copies) copies (box_parts x path) ps e ∙ ap (λ (qs : List Place). qs ++ copy_places copies) (parts_are x path)
    ∙ append_assoc (choice_place x.choice) (Place.Box x.home ∷ holder_places x.holder) (copy_places copies)
