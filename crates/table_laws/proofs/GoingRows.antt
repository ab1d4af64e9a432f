-- What goes with the steps that change the row of a goal, by the rows of the next table.
use Rattle.std.proofs.Common.{◌≡◌, List, [], Bool, true, false, Option, Some, None, refl, sym, ◌∙◌, ap, subst, ◌⊎◌, inl, inr}
use Rattle.std.specs.Prelude.{option_map}
use Rattle.akl_terms.specs.declared.name.Name.{Name}
use Rattle.akl_terms.specs.Names.{same_name}
use Rattle.akl_terms.proofs.SameNames.{same_name-equal}
use Rattle.akl_model.specs.Config.{IsIn, or_else}
use Rattle.table_laws.specs.Rows.{BoxRow, GoalRow, Table}
use Rattle.table_laws.specs.Inside.{IsDirectlyIn, IsInside, itself, further}
use Rattle.table_laws.specs.Writes.{set, changed_box, IsInsideOne, IsGoalInsideOne}
use Rattle.table_laws.proofs.Sets.{other_name, set_here, set_other, in_or}
use Rattle.table_laws.proofs.Going.{GoesIf, RowsGo}
use Rattle.akl_model.proofs.Options.{some_value}

-- what is under a name stays there

pub changed_there : {A : Type 0} (g : Name) (change : A → A) (at : Name → Option A) (k : Name) (v : A) → at k ≡ Some v → (w : A) × (set g (option_map change (at g)) at k ≡ Some w)
changed_there g change at k v e = on (same_name k g) refl
  where
    on : (t : Bool) → same_name k g ≡ t → (w : _) × (set g (option_map change (at g)) at k ≡ Some w)
    on true q = (change v, set_here g k (option_map change (at g)) at q ∙ ap (option_map change) (ap at (sym (same_name-equal k g q)) ∙ e))
    on false q = (v, set_other g k (option_map change (at g)) at q ∙ e)

pub box_changed_there : (home : Option Name) (change : BoxRow → BoxRow) (at : Name → Option BoxRow) (k : Name) (v : BoxRow) → at k ≡ Some v → (w : BoxRow) × (changed_box home change at k ≡ Some w)
box_changed_there None change at k v e = (v, e)
box_changed_there (Some n) change at k v e = changed_there n change at k v e

pub or_there : {A : Type 0} (o p : Option A) (v : A) → p ≡ Some v → (w : A) × (or_else o p ≡ Some w)
or_there None p v e = (v, e)
or_there (Some w) p v e = (w, refl)

-- no box goes
abbrev pub BoxesStay : Table → Table → Type 0
BoxesStay T U = (k : Name) (v : BoxRow) → T.box_of k ≡ Some v → (w : BoxRow) × (U.box_of k ≡ Some w)

none_inside : (T : Table) (k : Name) → IsInsideOne T [] k → ⊥
none_inside T k x = x.goes

none_goal_inside : (T : Table) (i : Name) → IsGoalInsideOne T [] i → ⊥
none_goal_inside T i x = x.goes

-- nor does a goal
pub all_stay : (T U : Table) (Own : Name → Type 0) → ((i : Name) → Own i → ⊥) → BoxesStay T U → ((i : Name) (v : GoalRow) → T.goal_of i ≡ Some v → (w : GoalRow) × (U.goal_of i ≡ Some w)) → RowsGo T U [] Own
all_stay T U Own none boxes goals = record {
  box = λ k v e. inr (none_inside T k, boxes k v e);
  goal = λ i v e. inr (λ x. elim x [ inl y ↦ none i y | inr y ↦ none_goal_inside T i y ], goals i v e);
}

-- one goal goes
module _ (T U : Table) (g : Name) (Own : Name → Type 0) (own : Own g) (only : (i : Name) → Own i → i ≡ g) (goes : U.goal_of g ≡ None)
    (stays : (i : Name) (v : GoalRow) → same_name i g ≡ false → T.goal_of i ≡ Some v → (w : GoalRow) × (U.goal_of i ≡ Some w)) where
  goal_goes : (names : List Name) → ((i : Name) → IsGoalInsideOne T names i → ⊥) → (i : Name) (v : GoalRow) → T.goal_of i ≡ Some v → GoesIf (Own i ⊎ IsGoalInsideOne T names i) (U.goal_of i)
  goal_goes names none i v e = on (same_name i g) refl
    where
      on : (t : Bool) → same_name i g ≡ t → GoesIf (Own i ⊎ IsGoalInsideOne T names i) (U.goal_of i)
      on true q = let r : i ≡ g = same_name-equal i g q in inl (inl (subst Own (sym r) own), ap (λ (k : Name). U.goal_of k) r ∙ goes)
      on false q = inr (λ x. elim x [ inl y ↦ other_name i g q (only i y) | inr y ↦ none i y ], stays i v q e)

  pub one_goes : BoxesStay T U → RowsGo T U [] Own
  one_goes boxes = record { box = λ k v e. inr (none_inside T k, boxes k v e); goal = goal_goes [] (none_goal_inside T) }

  -- and boxes in which there are no goals
  module _ (names : List Name) (empty : (n : Name) → IsIn n names → (row : BoxRow) × (T.box_of n ≡ Some row) × (row.goals ≡ [])) where
    no_goal_in : (n m h : Name) → IsIn n names → m ≡ n → IsDirectlyIn T m h → ⊥
    no_goal_in n m h i q x =
        let e : (row : BoxRow) × (T.box_of n ≡ Some row) × (row.goals ≡ []) = empty n i in
        let r : x.row ≡ e.0 = some_value (sym x.there ∙ ap (λ (k : Name). T.box_of k) q ∙ e.1) in
        subst (IsIn h) (ap (λ (k : BoxRow). k.goals) r ∙ e.2) x.named

    alone : (n m : Name) → IsIn n names → IsInside T n m → m ≡ n
    alone n m i itself = refl
    alone n m i (further {m = h} {g = j} x d y) = absurd (no_goal_in n h j i (alone n h i x) d)

    one_of : (k : Name) → IsInsideOne T names k → IsIn k names
    one_of k x = subst (λ (m : Name). IsIn m names) (sym (alone x.alternative k x.goes x.inside)) x.goes

    no_goal_inside : (i : Name) → IsGoalInsideOne T names i → ⊥
    no_goal_inside i x = no_goal_in x.alternative x.inside.box i x.goes (alone x.alternative x.inside.box x.goes x.inside.inside) x.inside.goal

    pub all_go : ((n : Name) → IsIn n names → U.box_of n ≡ None) → ((k : Name) (v : BoxRow) → (IsIn k names → ⊥) → T.box_of k ≡ Some v → (w : BoxRow) × (U.box_of k ≡ Some w)) → RowsGo T U names Own
    all_go gone others = record { box = λ k v e. on k v e (in_or k names); goal = goal_goes names no_goal_inside }
      where
        on : (k : Name) (v : BoxRow) → T.box_of k ≡ Some v → IsIn k names ⊎ (IsIn k names → ⊥) → GoesIf (IsInsideOne T names k) (U.box_of k)
        on k v e (inl i) = inl (record { alternative = k; goes = i; inside = itself }, gone k i)
        on k v e (inr q) = inr (λ x. q (one_of k x), others k v q e)
