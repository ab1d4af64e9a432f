-- The rows of boxes go one after another, and by them a box with all that stands in it.
use Rattle.std.proofs.Common.{◌≡◌, ℕ, ◌+◌, List, [], ◌∷◌, ◌++◌, Bool, true, false, Option, Some, None, refl, sym, ◌∙◌, ap, subst, inl, inr}
use Rattle.std.specs.Prelude.{if◌then◌else◌, option_map, slice_index}
use Rattle.akl_terms.specs.declared.name.Name.{Name}
use Rattle.akl_terms.specs.Names.{same_name}
use Rattle.akl_terms.proofs.SameNames.{same_name-equal}
use Rattle.akl_model.specs.Config.{IsIn}
use Rattle.akl_model.proofs.Options.{some_value, map_some}
use Rattle.akl_model.proofs.Scoped.{IsIn-left, IsIn-right, IsIn-either}
use Rattle.constraint_laws.proofs.SameTerms.{Either, name_or}
use Rattle.step_laws.proofs.Decide.{in_or}
use Rattle.table_laws.specs.Rows.{BoxRow, GoalRow, Table}
use Rattle.table_laws.specs.Inside.{IsDirectlyIn, IsInside}
use Rattle.table_laws.specs.Writes.{home_in, changed_box, left_row, left_by, none_left, held_without, holder_in_row, Fails, set, cut_from, cut_row, Cuts}
use Rattle.table_laws.specs.Walks.{ListsInside, ListsEach, Drops}
use Rattle.table_laws.proofs.Walks.{goal_listed, listed_goal}

pub drops_none : (T : Table) → Drops T T []
drops_none T = record { box_goes = λ m i. absurd i; goal_goes = λ m g i d. absurd i; box_stays = λ m h. refl; goal_stays = λ g h. refl }

-- the same goals are directly in a box whose row has the same goals
directly_as : (T U : Table) (m g : Name) → U.box_of m ≡ T.box_of m → IsDirectlyIn T m g → IsDirectlyIn U m g
directly_as T U m g e d = record { row = d.row; there = e ∙ d.there; named = d.named }

directly_or : (T : Table) (m g : Name) → Either (IsDirectlyIn T m g)
directly_or T m g = on (T.box_of m) refl
  where
    on : (o : Option BoxRow) → T.box_of m ≡ o → Either (IsDirectlyIn T m g)
    on None e = inr (λ d. let z : T.box_of m ≡ Some d.row = d.there in cc)
    on (Some r) e = elim (in_or g r.goals) [
      | inl i ↦ inl (record { row = r; there = e; named = i })
      | inr h ↦ inr (λ d. h (subst (λ (x : BoxRow). IsIn g x.goals) (some_value (sym d.there ∙ e)) d.named))
    ]

not_there : (T : Table) (m g : Name) → T.box_of m ≡ None → IsDirectlyIn T m g → ⊥
not_there T m g e d = let z : T.box_of m ≡ Some d.row = d.there in cc

-- one more box goes
pub drops_more : (T U V : Table) (names : List Name) (m : Name) → Drops T U names → Drops U V (m ∷ []) → Drops T V (names ++ m ∷ [])
drops_more T U V names m x y = record {
  box_goes = λ k i. elim (IsIn-either k names (m ∷ []) i) [
    | inl j ↦ elim (name_or k m) [
      | inl e ↦ y.box_goes k (inl e)
      | inr h ↦ y.box_stays k (λ z. one k h z) ∙ x.box_goes k j
    ]
    | inr j ↦ y.box_goes k j
  ];
  goal_goes = λ k g i d. elim (in_or k names) [
    | inl j ↦ already g (x.goal_goes k g j d)
    | inr h ↦ elim (IsIn-either k names (m ∷ []) i) [
      | inl j ↦ absurd (h j)
      | inr j ↦ y.goal_goes k g j (directly_as T U k g (x.box_stays k h) d)
    ]
  ];
  box_stays = λ k h. y.box_stays k (λ i. h (IsIn-right k names (m ∷ []) i)) ∙ x.box_stays k (λ i. h (IsIn-left k names (m ∷ []) i));
  goal_stays = λ g h. y.goal_stays g (λ k i d. elim (in_or k names) [
    | inl j ↦ not_there U k g (x.box_goes k j) d
    | inr j ↦ h k (IsIn-right k names (m ∷ []) i) (directly_as U T k g (sym (x.box_stays k j)) d)
  ]) ∙ x.goal_stays g (λ k i d. h k (IsIn-left k names (m ∷ []) i) d);
}
  where
    one : (k : Name) → (k ≡ m → ⊥) → IsIn k (m ∷ []) → ⊥
    one k h (inl e) = h e
    one k h (inr z) = z

    already : (g : Name) → U.goal_of g ≡ None → V.goal_of g ≡ None
    already g e = elim (directly_or U m g) [
      | inl d ↦ y.goal_goes m g (inl refl) d
      | inr h ↦ y.goal_stays g (λ k i d. elim i [ inl q ↦ h (subst (λ (z : Name). IsDirectlyIn U z g) q d) | inr z ↦ z ]) ∙ e
    ]

-- what holds a box loses it: each row of a box keeps its goals
abbrev SameGoals : Option BoxRow → Option BoxRow → Type 0
SameGoals x y = option_map (λ (r : BoxRow). r.goals) x ≡ option_map (λ (r : BoxRow). r.goals) y

left_goals : (g : Name) (row : Option GoalRow) (r : BoxRow) → (left_by g row r).goals ≡ r.goals
left_goals g None r = refl
left_goals g (Some k) r = on (none_left k.shape)
  where
    on : (t : Bool) → (if t then record r { failing = Some g } else r).goals ≡ r.goals
    on true = refl
    on false = refl

changed_goals : (home : Option Name) (change : BoxRow → BoxRow) (at : Name → Option BoxRow) (m : Name) → ((r : BoxRow) → (change r).goals ≡ r.goals) → SameGoals (changed_box home change at m) (at m)
changed_goals None change at m h = refl
changed_goals (Some n) change at m h = on (same_name m n) refl
  where
    mapped : (o : Option BoxRow) → SameGoals (option_map change o) o
    mapped None = refl
    mapped (Some r) = ap Some (h r)

    on : (t : Bool) → same_name m n ≡ t → SameGoals (if t then option_map change (at n) else at m) (at m)
    on true e = mapped (at n) ∙ ap (λ (k : Name). option_map (λ (r : BoxRow). r.goals) (at k)) (sym (same_name-equal m n e))
    on false e = refl

held_goals : (n : Name) (holder : Option Name) (T : Table) (m : Name) → SameGoals ((held_without n holder T).box_of m) (T.box_of m)
held_goals n None T m = refl
held_goals n (Some g) T m = changed_goals (home_in (T.goal_of g)) (left_by g (option_map (left_row n (T.steps + 1)) (T.goal_of g))) T.box_of m (λ r. left_goals g (option_map (left_row n (T.steps + 1)) (T.goal_of g)) r)

directly_goals : (T U : Table) (m g : Name) → SameGoals (U.box_of m) (T.box_of m) → IsDirectlyIn T m g → IsDirectlyIn U m g
directly_goals T U m g e d =
    let w : (r : BoxRow) × (U.box_of m ≡ Some r) × (r.goals ≡ d.row.goals) = map_some (λ (r : BoxRow). r.goals) (U.box_of m) d.row.goals (e ∙ ap (option_map (λ (r : BoxRow). r.goals)) d.there) in
    record { row = w.0; there = w.1; named = subst (IsIn g) (sym w.2) d.named }

-- where what holds a box has lost it and the rows of the boxes listed inside it have gone, the box has gone with all that stood in it
pub fails_by_drops : (T U : Table) (n : Name) (names : List Name) → ListsInside T n names → Drops (held_without n (holder_in_row (T.box_of n)) T) U names → U.nodes ≡ T.nodes
    → U.roots ≡ (held_without n (holder_in_row (T.box_of n)) T).roots → U.roots_changed ≡ (held_without n (holder_in_row (T.box_of n)) T).roots_changed
    → ((w : ℕ) → slice_index U.next w ≡ slice_index T.next w) → U.steps ≡ T.steps + 1 → Fails T U n
fails_by_drops T U n names lists drops nodes roots changed next steps = record {
  nodes = nodes;
  box_goes = λ m x. drops.box_goes m (lists.each m x);
  goal_goes = λ g x. let w : (m : Name) × IsIn m names × IsDirectlyIn T m g = goal_listed T n g names lists x in drops.goal_goes w.0 g w.1 (directly_goals T (held_without n (holder_in_row (T.box_of n)) T) w.0 g (held_goals n (holder_in_row (T.box_of n)) T w.0) w.2);
  box_stays = λ m h. drops.box_stays m (λ i. h (lists.inside m i));
  goal_stays = λ g h. drops.goal_stays g (λ m i d. h (listed_goal T n g m names lists i (directly_goals (held_without n (holder_in_row (T.box_of n)) T) T m g (sym (held_goals n (holder_in_row (T.box_of n)) T m)) d)));
  roots = roots;
  roots_changed = changed;
  next = next;
  steps = steps;
}

-- the boxes inside some boxes are listed one box after another

pub each_none : (T : Table) → ListsEach T [] []
each_none T = record { inside = λ m i. absurd i; each = λ n m i x. absurd i }

pub each_more : (T : Table) (boxes names : List Name) (n : Name) (more : List Name) → ListsEach T boxes names → ListsInside T n more → ListsEach T (boxes ++ n ∷ []) (names ++ more)
each_more T boxes names n more x y = record {
  inside = λ m i. elim (IsIn-either m names more i) [
    | inl j ↦ (let w : (k : Name) × IsIn k boxes × IsInside T k m = x.inside m j in (w.0, IsIn-left w.0 boxes (n ∷ []) w.1, w.2))
    | inr j ↦ (n, IsIn-right n boxes (n ∷ []) (inl refl), y.inside m j)
  ];
  each = λ k m i z. elim (IsIn-either k boxes (n ∷ []) i) [
    | inl j ↦ IsIn-left m names more (x.each k m j z)
    | inr j ↦ elim j [ inl e ↦ IsIn-right m names more (y.each m (subst (λ (v : Name). IsInside T v m) e z)) | inr v ↦ absurd v ]
  ];
}

-- the choice has the alternatives that are kept
abbrev pub cut_goal : Name → Name → Table → Table
cut_goal g n T = record T { goal_of = set g (option_map (cut_row n (T.steps + 1)) (T.goal_of g)) T.goal_of }

-- where a choice has the alternatives that are kept and the rows of the boxes listed inside the others have gone, these have gone with all that stood in them
pub cuts_by_drops : (T U : Table) (g n : Name) (names : List Name) → ListsEach T (cut_from n (T.goal_of g)) names → Drops (cut_goal g n T) U names → U.nodes ≡ T.nodes → U.roots ≡ T.roots → U.roots_changed ≡ T.roots_changed
    → ((w : ℕ) → slice_index U.next w ≡ slice_index T.next w) → U.steps ≡ T.steps + 1 → Cuts T U g n
cuts_by_drops T U g n names lists drops nodes roots changed next steps = record {
  nodes = nodes;
  box_goes = λ m x. drops.box_goes m (lists.each x.alternative m x.goes x.inside);
  goal_goes = λ m x. drops.goal_goes x.inside.box m (lists.each x.alternative x.inside.box x.goes x.inside.inside) (directly_as T (cut_goal g n T) x.inside.box m refl x.inside.goal);
  box_stays = λ m h. drops.box_stays m (λ i. let w : (k : Name) × IsIn k (cut_from n (T.goal_of g)) × IsInside T k m = lists.inside m i in h (record { alternative = w.0; goes = w.1; inside = w.2 }));
  goal_stays = λ m h. drops.goal_stays m (λ k i d.
      let w : (v : Name) × IsIn v (cut_from n (T.goal_of g)) × IsInside T v k = lists.inside k i in
      h (record { alternative = w.0; goes = w.1; inside = record { box = k; inside = w.2; goal = directly_as (cut_goal g n T) T k m refl d } }));
  roots = roots;
  roots_changed = changed;
  next = next;
  steps = steps;
}
