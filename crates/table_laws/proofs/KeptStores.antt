-- The store of each box was in the table before a step, or comes with it.
use Rattle.std.proofs.Common.{◌≡◌, ℕ, ◌+◌, List, [], ◌∷◌, Bool, true, false, Option, Some, None, refl, sym, ◌∙◌, ap, subst, inl, inr}
use Rattle.std.specs.Prelude.{if◌then◌else◌, option_map}
use Rattle.akl_terms.specs.declared.name.Name.{Name}
use Rattle.akl_terms.specs.declared.name.Place.{Place}
use Rattle.akl_terms.specs.Names.{same_name}
use Rattle.akl_terms.proofs.SameNames.{same_name-equal}
use Rattle.akl_model.specs.declared.label.Label.{Label}
use Rattle.akl_model.specs.Config.{Operator, or_else}
use Rattle.akl_model.proofs.Options.{some_value}
use Rattle.table_laws.specs.Rows.{BoxRow, GoalRow, Table}
use Rattle.table_laws.specs.Kept.{IsNewOrWas, KeepsStores}
use Rattle.table_laws.specs.Walks.{alternatives_of}
use Rattle.table_laws.specs.Steps.{NewBox, BoxCopy, copy_among, Step, tells, forks, fails, cuts, joins, refutes, confirms, splits}
use Rattle.table_laws.specs.Writes as writes
use Rattle.table_laws.specs.Writes.{home_in, changed_box, left_row, left_by, none_left, held_without, holder_in_row, told_row, new_box_of, failing_by, fails_empty, joined_row, unset, failing_row, confirmed_row, copied_row, Leads}
use Rattle.table_laws.proofs.Sets.{not_some}

-- what is changed of rows gives them a store with the label of a number, or keeps theirs
abbrev GivesOrKeeps : ℕ → (BoxRow → BoxRow) → Type 0
GivesOrKeeps number change = (r : BoxRow) → IsNewOrWas number (Some r) (change r)

module _ (number : ℕ) where
  keeps : (change : BoxRow → BoxRow) → ((r : BoxRow) → (change r).store ≡ r.store) → ((r : BoxRow) → (change r).changed ≡ r.changed) → GivesOrKeeps number change
  keeps change store changed r = inr (r, refl, sym (store r), sym (changed r))

  mapped : (change : BoxRow → BoxRow) → GivesOrKeeps number change → (o : Option BoxRow) (row : BoxRow) → option_map change o ≡ Some row → IsNewOrWas number o row
  mapped change h None row e = absurd (not_some e)
  mapped change h (Some r) row e = subst (IsNewOrWas number (Some r)) (some_value e) (h r)

  by_change : (home : Option Name) (change : BoxRow → BoxRow) → GivesOrKeeps number change → (at : Name → Option BoxRow) (m : Name) (row : BoxRow) → changed_box home change at m ≡ Some row → IsNewOrWas number (at m) row
  by_change None change h at m row e = inr (row, e, refl, refl)
  by_change (Some n) change h at m row e = on (same_name m n) refl e
    where
      on : (t : Bool) → same_name m n ≡ t → (if t then option_map change (at n) else at m) ≡ Some row → IsNewOrWas number (at m) row
      on true q i = subst (λ (k : Name). IsNewOrWas number (at k) row) (sym (same_name-equal m n q)) (mapped change h (at n) row i)
      on false q i = inr (row, i, refl, refl)

  new_number : (g : Name) (at : Option ℕ) (news : List NewBox) (m : Name) (row : BoxRow) → new_box_of g at number news m ≡ Some row → row.changed ≡ number
  new_number g at [] m row e = absurd (not_some e)
  new_number g at (n ∷ ns) m row e = on (same_name m n.name) e (new_number g at ns m row)
    where
      on : (t : Bool) → (if t then Some (writes.new_row g at number n) else new_box_of g at number ns m) ≡ Some row → (new_box_of g at number ns m ≡ Some row → row.changed ≡ number) → row.changed ≡ number
      on true q f = ap (λ (r : BoxRow). r.changed) (sym (some_value q))
      on false q f = f q

  copy_number : (holder : Option Name) (at : Option ℕ) (o : Option BoxCopy) (row : BoxRow) → option_map (copied_row holder at number) o ≡ Some row → row.changed ≡ number
  copy_number holder at None row e = absurd (not_some e)
  copy_number holder at (Some k) row e = ap (λ (r : BoxRow). r.changed) (sym (some_value e))

by_either : (P : Type 0) (new was : Option BoxRow) (row : BoxRow) → (new ≡ Some row → P) → (was ≡ Some row → P) → or_else new was ≡ Some row → P
by_either P None was row f g e = g e
by_either P (Some r) was row f g e = f e

-- a row that stays where boxes go was there
pub still_there : (names : List Name) (at : Name → Option BoxRow) (m : Name) (row : BoxRow) → unset names at m ≡ Some row → at m ≡ Some row
still_there [] at m row e = e
still_there (n ∷ ns) at m row e = on (same_name m n) e (still_there ns at m row)
  where
    on : (t : Bool) → (if t then None else unset ns at m) ≡ Some row → (unset ns at m ≡ Some row → at m ≡ Some row) → at m ≡ Some row
    on true i f = absurd (not_some i)
    on false i f = f i

left_keeps : (number : ℕ) (g : Name) (row : Option GoalRow) → GivesOrKeeps number (left_by g row)
left_keeps number g None = keeps number (left_by g None) (λ r. refl) (λ r. refl)
left_keeps number g (Some k) = keeps number (left_by g (Some k)) (λ r. store (none_left k.shape) r) (λ r. changed (none_left k.shape) r)
  where
    store : (t : Bool) (r : BoxRow) → (if t then record r { failing = Some g } else r).store ≡ r.store
    store true r = refl
    store false r = refl

    changed : (t : Bool) (r : BoxRow) → (if t then record r { failing = Some g } else r).changed ≡ r.changed
    changed true r = refl
    changed false r = refl

failing_keeps : (number : ℕ) (g : Name) (op : Operator) (news : List NewBox) → GivesOrKeeps number (failing_by g op news)
failing_keeps number g op [] = keeps number (failing_by g op []) (λ r. store (fails_empty op) r) (λ r. changed (fails_empty op) r)
  where
    store : (t : Bool) (r : BoxRow) → (if t then record r { failing = Some g } else r).store ≡ r.store
    store true r = refl
    store false r = refl

    changed : (t : Bool) (r : BoxRow) → (if t then record r { failing = Some g } else r).changed ≡ r.changed
    changed true r = refl
    changed false r = refl
failing_keeps number g op (n ∷ ns) = keeps number (failing_by g op (n ∷ ns)) (λ r. refl) (λ r. refl)

held_keeps : (n : Name) (holder : Option Name) (T : Table) (m : Name) (row : BoxRow) → (held_without n holder T).box_of m ≡ Some row → IsNewOrWas (T.steps + 1) (T.box_of m) row
held_keeps n None T m row e = inr (row, e, refl, refl)
held_keeps n (Some g) T m row e =
    let left : Option GoalRow = option_map (left_row n (T.steps + 1)) (T.goal_of g) in
    by_change (T.steps + 1) (home_in (T.goal_of g)) (left_by g left) (left_keeps (T.steps + 1) g left) T.box_of m row e

module _ (T U : Table) (l : Label) (at : Option ℕ) (drawn : ℕ) (m : Name) (row : BoxRow) (is : U.box_of m ≡ Some row) where
  abbrev Kept : Type 0
  Kept = IsNewOrWas (T.steps + 1) (T.box_of m) row

  -- a row that isn't there has not stayed
  stayed : {A : Type 0} → (A → U.box_of m ≡ None) → A → ⊥
  stayed goes i = not_some (sym (goes i) ∙ is)

  by_home : (g : Name) (change : BoxRow → BoxRow) → GivesOrKeeps (T.steps + 1) change → U.box_of m ≡ changed_box (home_in (T.goal_of g)) change T.box_of m → Kept
  by_home g change h e = by_change (T.steps + 1) (home_in (T.goal_of g)) change h T.box_of m row (sym e ∙ is)

  at_place : (step : Step) (place : Place) (alternative : Option Name) → Leads T (record l { place = place; alternative = alternative }) at drawn step U → Kept
  at_place (tells new solved) (Place.Goal g) a x = by_home g (told_row g new (writes.solved_when at solved) (T.steps + 1)) (λ r. inl refl) (x.boxes m)
  at_place (tells new solved) (Place.Box n) a x = absurd x
  at_place (forks op news) (Place.Goal g) a x =
      by_either Kept (new_box_of g at (T.steps + 1) news m) (changed_box (home_in (T.goal_of g)) (failing_by g op news) T.box_of m) row
      (λ e. inl (new_number (T.steps + 1) g at news m row e)) (by_change (T.steps + 1) (home_in (T.goal_of g)) (failing_by g op news) (failing_keeps (T.steps + 1) g op news) T.box_of m row) (sym (x.boxes m) ∙ is)
  at_place (forks op news) (Place.Box n) a x = absurd x
  at_place fails (Place.Goal g) a x = absurd x
  at_place fails (Place.Box n) a x = held_keeps n (holder_in_row (T.box_of n)) T m row (sym (x.box_stays m (stayed (x.box_goes m))) ∙ is)
  at_place cuts (Place.Goal g) (Some n) x = inr (row, sym (x.box_stays m (stayed (x.box_goes m))) ∙ is, refl, refl)
  at_place cuts (Place.Goal g) None x = absurd x
  at_place cuts (Place.Box n) a x = absurd x
  at_place (joins new solved goals) (Place.Goal g) a x =
      by_change (T.steps + 1) (home_in (T.goal_of g)) (joined_row g new (writes.solved_when at solved) goals (T.steps + 1)) (λ r. inl refl) T.box_of m row
      (still_there (alternatives_of (T.goal_of g)) (changed_box (home_in (T.goal_of g)) (joined_row g new (writes.solved_when at solved) goals (T.steps + 1)) T.box_of) m row (sym (x.boxes m) ∙ is))
  at_place (joins new solved goals) (Place.Box n) a x = absurd x
  at_place refutes (Place.Goal g) a x = by_home g (failing_row g) (keeps (T.steps + 1) (failing_row g) (λ r. refl) (λ r. refl)) (x.boxes m)
  at_place refutes (Place.Box n) a x = absurd x
  at_place confirms (Place.Goal g) a x = by_home g (confirmed_row g (T.steps + 1)) (keeps (T.steps + 1) (confirmed_row g (T.steps + 1)) (λ r. refl) (λ r. refl)) (x.boxes m)
  at_place confirms (Place.Box n) a x = absurd x
  at_place (splits copy copies) (Place.Box n) (Some a) x =
      by_either Kept (option_map (copied_row (holder_in_row (T.box_of n)) (option_map (λ (k : ℕ). k + 1) at) (T.steps + 1)) (copy_among copies m)) (T.box_of m) row
      (λ e. inl (copy_number (T.steps + 1) (holder_in_row (T.box_of n)) (option_map (λ (k : ℕ). k + 1) at) (copy_among copies m) row e)) (λ e. inr (row, e, refl, refl)) (sym (x.box_stays m (stayed (x.box_goes m))) ∙ is)
  at_place (splits copy copies) (Place.Box n) None x = absurd x
  at_place (splits copy copies) (Place.Goal g) a x = absurd x

-- the table after a step has one label more
module _ (T U : Table) (l : Label) (at : Option ℕ) (drawn : ℕ) where
  steps_at : (step : Step) (place : Place) (alternative : Option Name) → Leads T (record l { place = place; alternative = alternative }) at drawn step U → U.steps ≡ T.steps + 1
  steps_at (tells new solved) (Place.Goal g) a x = x.steps
  steps_at (tells new solved) (Place.Box n) a x = absurd x
  steps_at (forks op news) (Place.Goal g) a x = x.steps
  steps_at (forks op news) (Place.Box n) a x = absurd x
  steps_at fails (Place.Goal g) a x = absurd x
  steps_at fails (Place.Box n) a x = x.steps
  steps_at cuts (Place.Goal g) (Some n) x = x.steps
  steps_at cuts (Place.Goal g) None x = absurd x
  steps_at cuts (Place.Box n) a x = absurd x
  steps_at (joins new solved goals) (Place.Goal g) a x = x.steps
  steps_at (joins new solved goals) (Place.Box n) a x = absurd x
  steps_at refutes (Place.Goal g) a x = x.steps
  steps_at refutes (Place.Box n) a x = absurd x
  steps_at confirms (Place.Goal g) a x = x.steps
  steps_at confirms (Place.Box n) a x = absurd x
  steps_at (splits copy copies) (Place.Box n) (Some a) x = x.steps
  steps_at (splits copy copies) (Place.Box n) None x = absurd x
  steps_at (splits copy copies) (Place.Goal g) a x = absurd x

-- a step leads to a table that keeps the stores, but for those that come with its label
pub store_kept : (T U : Table) (l : Label) (at : Option ℕ) (drawn : ℕ) (step : Step) → Leads T l at drawn step U → KeepsStores U.steps T U
store_kept T U l at drawn step leads m row e =
    subst (λ (k : ℕ). IsNewOrWas k (T.box_of m) row) (sym (steps_at T U l at drawn step l.place l.alternative leads)) (at_place T U l at drawn m row e step l.place l.alternative leads)
