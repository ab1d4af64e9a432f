-- What a place needs to be told of concerns it.
use Rattle.std.proofs.Common.{List, [], ◌∷◌, ◌++◌, inl, inr}
use Rattle.akl_terms.specs.declared.name.Var.{Var}
use Rattle.akl_terms.specs.declared.name.Place.{Place}
use Rattle.akl_terms.specs.declared.program.Program.{Program}
use Rattle.akl_model.specs.declared.label.Rule.{Rule}
use Rattle.akl_model.specs.declared.label.Label.{Label}
use Rattle.akl_terms.specs.Equal.{IsConsistent}
use Rattle.akl_model.specs.Config.{Content, Boxes, no_boxes, box, Goals, no_goals, atom, choice, Config, Found, environment, whole}
use Rattle.akl_model.specs.Stable.{only, frames_of, TouchesFrom, by_equations}
use Rattle.akl_model.specs.Derivations.{Applies}
use Rattle.akl_model.specs.Wakes.{Wait, IsKept, Opens, new_goal, new_box, changed_goal, box_of_changed_goal, changed_constraint, changed_goals, holder_of_changed_goals, woken, bound_outside, SomeBox, SomeInside, Concerns, awaited, by_alternative, by_box, by_box_around}
use Rattle.constraint_laws.specs.Touched.{IsAmong}
use Rattle.plan_laws.specs.Sleeps.{Needs, of_box_around, of_atom, of_alternative, of_box, PassesBy}

mutual
  some_box : (P Q : Found → Type 0) → ((f : Found) → P f → Q f) → (around : List Content) (bs : Boxes) → SomeBox P around bs → SomeBox Q around bs
  some_box P Q h around no_boxes x = x
  some_box P Q h around (box b gs bs) (inl x) = inl (h (record { around = around; content = b; goals = gs }) x)
  some_box P Q h around (box b gs bs) (inr (inl x)) = inr (inl (some_inside P Q h (around ++ b ∷ []) gs x))
  some_box P Q h around (box b gs bs) (inr (inr x)) = inr (inr (some_box P Q h around bs x))

  some_inside : (P Q : Found → Type 0) → ((f : Found) → P f → Q f) → (around : List Content) (gs : Goals) → SomeInside P around gs → SomeInside Q around gs
  some_inside P Q h around no_goals x = x
  some_inside P Q h around (atom g a gs) x = some_inside P Q h around gs x
  some_inside P Q h around (choice g o bs gs) (inl x) = inl (some_box P Q h around bs x)
  some_inside P Q h around (choice g o bs gs) (inr x) = inr (some_inside P Q h around gs x)

pub needs_concern : (p : Program) (c : Config) (place : Place) (x : Var) → Needs p c place x → Concerns p c x place
needs_concern p c place x (of_box_around n h e still t) = by_box_around n h e t
needs_concern p c place x (of_atom e h still k q) = awaited e h k q
needs_concern p c place x (of_alternative n not_choice e h a solved still t) = by_alternative n e h a (by_equations t)
needs_concern p c place x (of_box {f = f} e s) = by_box e (some_box (λ (d : Found). IsConsistent (whole d) × TouchesFrom p (frames_of (only f)) (environment f) d x) (λ (d : Found). TouchesFrom p (frames_of (only f)) (environment f) d x)
    (λ d y. y.1) f.around (only f) s)

-- a place that is opened without waits is opened with them
pub opened_too : (waits : List Wait) (c d : Config) (place : Place) → Opens [] c d place → Opens waits c d place
opened_too waits c d place (new_goal e i) = new_goal e i
opened_too waits c d place (new_box e i) = new_box e i
opened_too waits c d place (changed_goal e i n) = changed_goal e i n
opened_too waits c d place (box_of_changed_goal g e i n) = box_of_changed_goal g e i n
opened_too waits c d place (changed_constraint e i n) = changed_constraint e i n
opened_too waits c d place (changed_goals e i n) = changed_goals e i n
opened_too waits c d place (holder_of_changed_goals m e i n h) = holder_of_changed_goals m e i n h
opened_too waits c d place (woken n k b) = absurd k
opened_too waits c d place (bound_outside n b o h) = bound_outside n b o h

pub unopened : (rules : List Rule) (p : Program) (waits : List Wait) (kept : List Var) (place : Place) (c : Config) (l : Label) (d : Config) → ((x : Var) → IsAmong x kept → IsKept waits place x)
    → Applies rules p c l d → (Opens waits c d place → ⊥) → PassesBy rules p kept place c l d
unopened rules p waits kept place c l d h a n = record {
  applies = a;
  unopened = λ x. n (opened_too waits c d place x);
  unbound = λ m i x k b. n (woken m (h x k) b);
}
