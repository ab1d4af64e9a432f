-- A goal goes from a box: this box changes, and what holds it, and goals come.
use Rattle.std.proofs.Common.{◌≡◌, List, ◌∷◌, ◌++◌, Option, Some, None, refl, sym, ◌∙◌, ap, subst, inl, inr}
use Rattle.std.specs.Prelude.{option_map}
use Rattle.akl_terms.specs.declared.name.Name.{Name}
use Rattle.akl_terms.specs.declared.name.Place.{Place}
use Rattle.akl_model.specs.Config.{IsIn, Config, Found, box_at, home_of}
use Rattle.akl_model.specs.Changes.{goal_names, goals_at}
use Rattle.akl_model.specs.Wakes.{holder_in, IsOneOf}
use Rattle.akl_model.proofs.NamesKept.{Stand}
use Rattle.akl_model.proofs.Options.{some_value, map_some}
use Rattle.step_laws.proofs.Deeper.{home_found}
use Rattle.step_laws.proofs.GoalEdits.{HasGoal, has_names}
use Rattle.opened_places.specs.declared.around.Holder.{Holder}
use Rattle.opened_places.specs.declared.around.Around.{Around}
use Rattle.opened_places.specs.Changed as changed
use Rattle.opened_places.specs.Changed.{IsChanged}
use Rattle.opened_places.specs.Gone.{goals_named}
use Rattle.opened_places.specs.Exact.{AreExactly}
use Rattle.opened_places.proofs.ListedPlaces.{holder_place}
use Rattle.opened_places.proofs.Members.{one_left, one_right, one_either, named_one, one_named}
use Rattle.opened_places.proofs.SetRows.{some_none}

-- a place is a goal that comes, this box, or the choice that holds it
pub data Way (c d : Config) (n : Name) : Place → Type 0 where
  comes : {g : Name} {f : Found} → home_of g c.roots ≡ None → home_of g d.roots ≡ Some f → Way c d n (Place.Goal g)
  itself : Way c d n (Place.Box n)
  holder : {g : Name} → holder_in n d.roots ≡ Some g → Way c d n (Place.Goal g)

-- where a goal of a box isn't there any more, the box has another set of goals
pub goals_differ : (c d : Config) → Stand d → (g : Name) (e f : Found) → box_at e.content.name c.roots ≡ Some e → box_at e.content.name d.roots ≡ Some f → HasGoal g e.goals → home_of g d.roots ≡ None
    → goals_at e.content.name c.roots ≡ goals_at e.content.name d.roots → ⊥
goals_differ c d t g e f was now h gone same =
    let n : goal_names e.goals ≡ goal_names f.goals =
    some_value (sym (ap (option_map (λ (k : Found). goal_names k.goals)) was) ∙ same ∙ ap (option_map (λ (k : Found). goal_names k.goals)) now) in
    let k : HasGoal g f.goals = has_names g e.goals f.goals n h in
    some_none gone (home_found d.roots t.once g e.content.name f k.0 now k.1)

module _ (c d : Config) (x : Around) (site now : Found) (was : box_at site.content.name c.roots ≡ Some site) (is : box_at site.content.name d.roots ≡ Some now)
    (differ : goals_at site.content.name c.roots ≡ goals_at site.content.name d.roots → ⊥) (home_is : x.home ≡ site.content.name)
    (holder_is : option_map (λ (h : Holder). h.goal) x.holder ≡ holder_in site.content.name d.roots) (ways : (p : Place) → IsChanged c d p → Way c d site.content.name p) (names : List Name)
    (goal_in : (i : Name) (f : Found) → home_of i c.roots ≡ None → home_of i d.roots ≡ Some f → IsIn i names)
    (in_goal : (i : Name) → IsIn i names → (home_of i c.roots ≡ None) × ((f : Found) × (home_of i d.roots ≡ Some f))) where
  abbrev the_list : List Place
  the_list = Place.Box x.home ∷ (holder_place x.holder ++ goals_named names)

  listed_holder : (i : Name) (h : Holder) → x.holder ≡ Some h → h.goal ≡ i → IsOneOf (Place.Goal i) (holder_place x.holder)
  listed_holder i h e q = subst (λ (o : Option Holder). IsOneOf (Place.Goal i) (holder_place o)) (sym e) (inl (ap Place.Goal (sym q)))

  listed : (p : Place) → Way c d site.content.name p → IsOneOf p the_list
  listed _ (comes {g = i} {f = f} y z) = inr (one_right (Place.Goal i) (holder_place x.holder) (goals_named names) (named_one i names (goal_in i f y z)))
  listed _ itself = inl (ap Place.Box (sym home_is))
  listed _ (holder {g = i} h) =
      let y : (h : Holder) × (x.holder ≡ Some h) × (h.goal ≡ i) = map_some (λ (h : Holder). h.goal) x.holder i (holder_is ∙ h) in
      inr (one_left (Place.Goal i) (holder_place x.holder) (goals_named names) (listed_holder i y.0 y.1 y.2))

  changed_holder : (p : Place) (o : Option Holder) → x.holder ≡ o → IsOneOf p (holder_place o) → IsChanged c d p
  changed_holder p None e y = absurd y
  changed_holder p (Some h) e (inl q) = subst (IsChanged c d) (sym q)
      (changed.holder_of_changed_goals site.content.name was is differ (sym holder_is ∙ ap (option_map (λ (h : Holder). h.goal)) e))
  changed_holder p (Some h) e (inr z) = absurd z

  changed_named : (p : Place) → IsOneOf p (goals_named names) → IsChanged c d p
  changed_named p y =
      let w : (i : Name) × (p ≡ Place.Goal i) × IsIn i names = one_named p names y in
      let v : (home_of w.0 c.roots ≡ None) × ((f : Found) × (home_of w.0 d.roots ≡ Some f)) = in_goal w.0 w.2 in
      subst (IsChanged c d) (sym w.1) (changed.new_goal v.0 v.1.1)

  pub exactly_goes : AreExactly c d the_list
  exactly_goes = record {
    listed = λ p y. listed p (ways p y);
    changed = λ p y. elim y [
      | inl e ↦ subst (IsChanged c d) (sym (e ∙ ap Place.Box home_is)) (changed.changed_goals was is differ)
      | inr z ↦ elim (one_either p (holder_place x.holder) (goals_named names) z) [ inl v ↦ changed_holder p x.holder refl v | inr v ↦ changed_named p v ]
    ];
  }
