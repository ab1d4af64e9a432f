-- What is listed for a step is what goes with it.
use Rattle.std.proofs.Common.{◌≡◌, List, ◌++◌, sym, subst, inl, inr}
use Rattle.akl_terms.specs.declared.name.Name.{Name}
use Rattle.akl_terms.specs.declared.name.Place.{Place}
use Rattle.akl_terms.specs.declared.term.Node.{Node}
use Rattle.akl_model.specs.declared.label.Label.{Label}
use Rattle.akl_model.specs.Wakes.{IsOneOf}
use Rattle.table_laws.specs.Steps.{Step, tells, forks, fails, cuts, joins, refutes, confirms, splits}
use Rattle.table_laws.specs.Walks.{ListsEach}
use Rattle.table_laws.specs.Going.{OwnGoalGoes, boxes_going}
use Rattle.local_store.specs.Stored.{Stored}
use Rattle.box_tree.specs.declared.step.Step as declared
use Rattle.box_tree.specs.Tables.{TableValue, table_of, step_of, step_in, store_at}
use Rattle.box_tree.specs.Views.{run_of}
use Rattle.opened_places.specs.Gone.{AreGone, own_places, places_at}
use Rattle.opened_places.proofs.GoneBy.{listed_by}
use Rattle.opened_places.proofs.Members.{one_left, one_right, one_either}
use Rattle.opened_places.proofs.PlacesAt.{of_listed, listed_of}

-- the goal of the place is listed where it goes by itself

own_in : (place own : Place) (step : Step) → OwnGoalGoes step → place ≡ own → IsOneOf place (own_places own step)
own_in place own (tells new solved) o e = inl e
own_in place own (joins new solved goals) o e = inl e
own_in place own confirms o e = inl e
own_in place own (forks op news) o e = o
own_in place own fails o e = o
own_in place own cuts o e = o
own_in place own refutes o e = o
own_in place own (splits copy copies) o e = o

in_own : (place own : Place) (step : Step) → IsOneOf place (own_places own step) → OwnGoalGoes step × (place ≡ own)
in_own place own (tells new solved) i = elim i [ inl e ↦ (tt, e) | inr z ↦ absurd z ]
in_own place own (joins new solved goals) i = elim i [ inl e ↦ (tt, e) | inr z ↦ absurd z ]
in_own place own confirms i = elim i [ inl e ↦ (tt, e) | inr z ↦ absurd z ]
in_own place own (forks op news) i = absurd i
in_own place own fails i = absurd i
in_own place own cuts i = absurd i
in_own place own refutes i = absurd i
in_own place own (splits copy copies) i = absurd i

-- places that are listed, whatever the nodes, are those that go
pub listed_gone : (v : TableValue) (l : Label) (step : declared.Step) (tops names : List Name) (places : List Place) → ((nodes : List Node) (s : Stored) → tops ≡ boxes_going (table_of v) (step_of nodes s step) l.place l.alternative)
    → ListsEach (table_of v) tops names → ((nodes : List Node) (s : Stored) → places ≡ own_places l.place (step_of nodes s step) ++ places_at (table_of v) names) → AreGone v l step places
listed_gone v l step tops names places is_going lists e = λ journal t more d leads.
    let T = table_of v in
    let made : Step = step_in v l step in
    let each : ListsEach T (boxes_going T made l.place l.alternative) names = subst (λ (ns : List Name). ListsEach T ns names) (is_going v.program.templates.nodes (store_at T l.place)) lists in
    let same : places ≡ own_places l.place made ++ places_at T names = e v.program.templates.nodes (store_at T l.place) in
    record {
      listed = λ p x. subst (IsOneOf p) (sym same) (elim ((listed_by (run_of v journal) T t l more made d leads names each p).0 x) [
        | inl y ↦ one_left p (own_places l.place made) (places_at T names) (own_in p l.place made y.0 y.1)
        | inr y ↦ one_right p (own_places l.place made) (places_at T names) (listed_of T names p y)
      ]);
      gone = λ p i. (listed_by (run_of v journal) T t l more made d leads names each p).1 (elim (one_either p (own_places l.place made) (places_at T names) (subst (IsOneOf p) same i)) [
        | inl j ↦ inl (in_own p l.place made j)
        | inr j ↦ inr (of_listed T names p j)
      ]);
    }
