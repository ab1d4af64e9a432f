-- Rows that go, of goals and of boxes with their goals.
use Rattle.std.proofs.Common.{◌≡◌, Bool, true, List, [], ◌∷◌, ◌++◌, Option, Some, None, refl, sym, ◌∙◌, ap, subst, inl, inr}
use Rattle.std.specs.Prelude.{if◌then◌else◌}
use Rattle.akl_terms.specs.declared.name.Name.{Name}
use Rattle.akl_terms.specs.Names.{same_name}
use Rattle.akl_terms.proofs.SameNames.{same_name-refl}
use Rattle.akl_model.specs.Config.{IsIn}
use Rattle.akl_model.proofs.Options.{some_value}
use Rattle.akl_model.proofs.Scoped.{IsIn-left, IsIn-right, IsIn-either}
use Rattle.constraint_laws.proofs.SameTerms.{name_or}
use Rattle.table_laws.specs.Rows.{BoxRow}
use Rattle.table_laws.specs.Writes.{set}
use Rattle.table_laws.proofs.Sets.{other_by}
use Rattle.table_laws.proofs.Drops.{drops_none, drops_more}
use Rattle.box_tree.specs.Tables.{TableValue, table_of}
use Rattle.box_tree.specs.Edits.{SetsBoxes, SetsGoals}
use Rattle.box_tree.specs.Drops.{DropsGoals, DropsBoxes}

set_here : {A : Type 0} (g m : Name) (r : Option A) (at : Name → Option A) → m ≡ g → set g r at m ≡ r
set_here g m r at e = ap (λ (t : Bool). if t then r else at m) (subst (λ (k : Name). same_name m k ≡ true) e (same_name-refl m))

set_other : {A : Type 0} (g m : Name) (r : Option A) (at : Name → Option A) → (m ≡ g → ⊥) → set g r at m ≡ at m
set_other g m r at h = ap (λ (t : Bool). if t then r else at m) (other_by m g h)

pub no_goals_gone : (t : TableValue) → DropsGoals t t []
no_goals_gone t = record { goes = λ g i. absurd i; stays = λ g h. refl; rest = refl }

pub goal_gone : (t u v : TableValue) (done : List Name) (g : Name) → DropsGoals t u done → SetsGoals u v (set g None (table_of u).goal_of) → DropsGoals t v (done ++ g ∷ [])
goal_gone t u v done g x y = record {
  goes = λ k i. elim (name_or k g) [
    | inl e ↦ y.rows k ∙ set_here g k None (table_of u).goal_of e
    | inr h ↦ y.rows k ∙ set_other g k None (table_of u).goal_of h ∙ x.goes k (elim (IsIn-either k done (g ∷ []) i) [ inl j ↦ j | inr j ↦ elim j [ inl e ↦ absurd (h e) | inr z ↦ absurd z ] ])
  ];
  stays = λ k h. y.rows k ∙ set_other g k None (table_of u).goal_of (λ e. h (IsIn-right k done (g ∷ []) (inl e))) ∙ x.stays k (λ i. h (IsIn-left k done (g ∷ []) i));
  rest = y.rest ∙ ap (λ (w : TableValue). record w { goals = v.goals }) x.rest;
}

-- a box goes, and then its goals
pub box_gone : (t u v : TableValue) (n : Name) (r : BoxRow) → (table_of t).box_of n ≡ Some r → SetsBoxes t u (set n None (table_of t).box_of) → DropsGoals u v r.goals → DropsBoxes t v (n ∷ [])
box_gone t u v n r there x y = record {
  rows = record {
    box_goes = λ m i. elim i [ inl e ↦ boxes m ∙ set_here n m None (table_of t).box_of e | inr z ↦ absurd z ];
    goal_goes = λ m g i d. elim i [
      | inl e ↦ y.goes g (subst (λ (k : BoxRow). IsIn g k.goals) (some_value (sym d.there ∙ ap (table_of t).box_of e ∙ there)) d.named)
      | inr z ↦ absurd z
    ];
    box_stays = λ m h. boxes m ∙ set_other n m None (table_of t).box_of (λ e. h (inl e));
    goal_stays = λ g h. y.stays g (λ i. h n (inl refl) (record { row = r; there = there; named = i })) ∙ ap (λ (w : TableValue). (table_of w).goal_of g) x.rest;
  };
  rest = y.rest ∙ ap (λ (w : TableValue). record w { goals = v.goals }) x.rest ∙ (λ i. record t { boxes = (sym boxes_same) i; goals = v.goals });
}
  where
    boxes_same : v.boxes ≡ u.boxes
    boxes_same = ap (λ (w : TableValue). w.boxes) y.rest

    boxes : (m : Name) → (table_of v).box_of m ≡ set n None (table_of t).box_of m
    boxes m = ap (λ (w : TableValue). (table_of w).box_of m) y.rest ∙ x.rows m

pub box_absent : (t u : TableValue) (n : Name) → (table_of t).box_of n ≡ None → SetsBoxes t u (set n None (table_of t).box_of) → DropsBoxes t u (n ∷ [])
box_absent t u n none x = record {
  rows = record {
    box_goes = λ m i. elim i [ inl e ↦ x.rows m ∙ set_here n m None (table_of t).box_of e | inr z ↦ absurd z ];
    goal_goes = λ m g i d. elim i [
      | inl e ↦ (let k : (table_of t).box_of m ≡ None = ap (table_of t).box_of e ∙ none in let j : (table_of t).box_of m ≡ Some d.row = d.there in absurd cc)
      | inr z ↦ absurd z
    ];
    box_stays = λ m h. x.rows m ∙ set_other n m None (table_of t).box_of (λ e. h (inl e));
    goal_stays = λ g h. ap (λ (w : TableValue). (table_of w).goal_of g) x.rest;
  };
  rest = x.rest ∙ (λ i. record t { boxes = u.boxes; goals = (sym goals_same) i });
}
  where
    goals_same : u.goals ≡ t.goals
    goals_same = ap (λ (w : TableValue). w.goals) x.rest

pub no_boxes_gone : (t : TableValue) → DropsBoxes t t []
no_boxes_gone t = record { rows = drops_none (table_of t); rest = refl }

pub boxes_gone : (t u v : TableValue) (names : List Name) (m : Name) → DropsBoxes t u names → DropsBoxes u v (m ∷ []) → DropsBoxes t v (names ++ m ∷ [])
boxes_gone t u v names m x y = record {
  rows = drops_more (table_of t) (table_of u) (table_of v) names m x.rows y.rows;
  rest = y.rest ∙ ap (λ (w : TableValue). record w { boxes = v.boxes; goals = v.goals }) x.rest;
}
