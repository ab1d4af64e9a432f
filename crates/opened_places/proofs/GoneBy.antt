-- Which places go by a step, of one label or of a call at once.
use Rattle.std.proofs.Common.{◌≡◌, List, [], sym, ◌∙◌, ap, subst, ◌⊎◌, inl, inr}
use Rattle.akl_terms.specs.declared.name.Name.{Name}
use Rattle.akl_terms.specs.declared.name.Place.{Place}
use Rattle.akl_model.specs.declared.label.Label.{Label}
use Rattle.akl_model.specs.Config.{IsIn, Config}
use Rattle.akl_model.proofs.NamesKept.{Stand, replay-stands}
use Rattle.table_laws.specs.Rows.{Table}
use Rattle.table_laws.specs.Stamped.{Run, IsTableOf}
use Rattle.table_laws.specs.Steps.{Step}
use Rattle.table_laws.specs.Walks.{ListsEach}
use Rattle.table_laws.specs.Going.{IsGone, OwnGoalGoes, boxes_going, GoesWith, IsOfBoxes}
use Rattle.table_laws.proofs.Going.{AreGoing, box_gone, gone_box, goal_gone, gone_goal}
use Rattle.table_laws.proofs.GoneSteps.{gone_law, gone_listed_law}
use Rattle.box_tree.specs.Tables.{all_rules}
use Rattle.opened_places.specs.Leading.{CallsTo, LeadsTo, by_label, by_call}
use Rattle.opened_places.proofs.CallPlaces as call
use Rattle.opened_places.proofs.Leading.{fork_first}

module _ (r : Run) (T : Table) (t : IsTableOf all_rules r T) (l : Label) (more : List Label) (step : Step) (d : Config) where
  module _ (w : CallsTo r.program t.config l more step d) where
    its_place : l.place ≡ Place.Goal w.goal
    its_place = ap (λ (k : Label). k.place) (fork_first r.program t.config l more step d w)

    abbrev Own : Name → Type 0
    Own i = OwnGoalGoes step × (l.place ≡ Place.Goal i)

    no_boxes_go : boxes_going T step l.place l.alternative ≡ []
    no_boxes_go = (λ i. boxes_going T (w.step_is i) (its_place i) l.alternative) ∙ call.no_alternatives r T t l.worker w.goal w.site w.is_home w.calls w.alternative w.new w.is_solved w.goals w.makes

    same_goal : (i : Name) → l.place ≡ Place.Goal i → i ≡ w.goal
    same_goal i e = let q : Place.Goal i ≡ Place.Goal w.goal = sym e ∙ its_place in cc

    going : AreGoing T t.config d (boxes_going T step l.place l.alternative) Own
    going = subst (λ (ns : List Name). AreGoing T t.config d ns Own) (sym no_boxes_go)
        (subst (λ (e : Config). AreGoing T t.config e [] Own) w.result
        (call.goal_going r T t l.worker w.goal w.site w.is_home w.calls w.alternative w.new w.is_solved w.goals w.makes Own (subst OwnGoalGoes (sym w.step_is) tt, its_place) (λ i o. same_goal i o.1)))

    s : Stand t.config
    s = replay-stands all_rules r.program r.query r.journal t.config t.replays

    call_gone : (place : Place) → (IsGone t.config d place → GoesWith T l step place) × (GoesWith T l step place → IsGone t.config d place)
    call_gone (Place.Box m) = (
      box_gone T t.config d t.unfolds s.once (boxes_going T step l.place l.alternative) Own going m,
      gone_box T t.config d t.unfolds s.once (boxes_going T step l.place l.alternative) Own going m,
    )
    call_gone (Place.Goal g) = (
      goal_gone T t.config d t.unfolds s.once (boxes_going T step l.place l.alternative) Own going g,
      gone_goal T t.config d t.unfolds s.once (boxes_going T step l.place l.alternative) Own going g,
    )

    none_goes : (n : Name) → IsIn n (boxes_going T step l.place l.alternative) → ⊥
    none_goes n i = subst (IsIn n) no_boxes_go i

    module _ (names : List Name) (lists : ListsEach T (boxes_going T step l.place l.alternative) names) where
      none_listed : (place : Place) → IsOfBoxes T names place → ⊥
      none_listed (Place.Box m) i = let z : (n : Name) × IsIn n (boxes_going T step l.place l.alternative) × _ = lists.inside m i in none_goes z.0 z.1
      none_listed (Place.Goal g) (m, i, y) = let z : (n : Name) × IsIn n (boxes_going T step l.place l.alternative) × _ = lists.inside m i in none_goes z.0 z.1

      call_listed : (place : Place) → (IsGone t.config d place → (OwnGoalGoes step × (place ≡ l.place)) ⊎ IsOfBoxes T names place) × ((OwnGoalGoes step × (place ≡ l.place)) ⊎ IsOfBoxes T names place → IsGone t.config d place)
      call_listed place = (λ y. on place ((call_gone place).0 y), λ y. elim y [ inl o ↦ its_own place o.0 o.1 | inr o ↦ absurd (none_listed place o) ])
        where
          on : (place : Place) → GoesWith T l step place → (OwnGoalGoes step × (place ≡ l.place)) ⊎ IsOfBoxes T names place
          on (Place.Box m) y = absurd (none_goes y.alternative y.goes)
          on (Place.Goal g) (inl y) = inl (y.0, sym y.1)
          on (Place.Goal g) (inr y) = absurd (none_goes y.alternative y.goes)

          its_own : (place : Place) → OwnGoalGoes step → place ≡ l.place → IsGone t.config d place
          its_own place o e = subst (IsGone t.config d) (sym (e ∙ its_place)) ((call_gone (Place.Goal w.goal)).1 (inl (o, its_place)))

  pub gone_by : LeadsTo r.program t.config l more step d → (place : Place) → (IsGone t.config d place → GoesWith T l step place) × (GoesWith T l step place → IsGone t.config d place)
  gone_by (by_label a makes alone) place = gone_law all_rules r T l d t a step makes place
  gone_by (by_call w) place = call_gone w place

  pub listed_by : LeadsTo r.program t.config l more step d → (names : List Name) → ListsEach T (boxes_going T step l.place l.alternative) names → (place : Place)
      → (IsGone t.config d place → (OwnGoalGoes step × (place ≡ l.place)) ⊎ IsOfBoxes T names place) × ((OwnGoalGoes step × (place ≡ l.place)) ⊎ IsOfBoxes T names place → IsGone t.config d place)
  listed_by (by_label a makes alone) names lists place = gone_listed_law all_rules r T l d t a step makes names lists place
  listed_by (by_call w) names lists place = call_listed w names lists place
