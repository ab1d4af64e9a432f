-- What holds a box loses it, and the box goes with all that stands in it.
use Rattle.std.proofs.Common.{◌≡◌, ℕ, ◌+◌, Bool, true, false, List, Option, Some, None, refl, sym, ◌∙◌, ap, subst}
use Rattle.std.specs.Prelude.{if◌then◌else◌, option_map, slice_index}
use Rattle.akl_terms.specs.declared.name.Name.{Name}
use Rattle.akl_terms.specs.Names.{same_name}
use Rattle.akl_terms.proofs.SameNames.{same_name-equal, same_name-refl}
use Rattle.table_laws.specs.Rows.{BoxRow, GoalRow, Table}
use Rattle.table_laws.specs.Inside.{IsDirectlyIn}
use Rattle.table_laws.specs.Walks.{ListsInside, Drops}
use Rattle.table_laws.specs.Writes.{failing_row, set, home_in, changed_box, none_left, less_alternative, left_row, left_by, held_without, holder_in_row, Fails}
use Rattle.table_laws.proofs.Drops.{fails_by_drops}
use Rattle.box_tree.specs.Tables.{TableValue, table_of}
use Rattle.box_tree.specs.Edits.{SetsBoxes, SetsGoals}
use Rattle.box_tree.specs.Drops.{emptied_home, HasRows, DropsBoxes}

-- the home fails by the choice exactly where this has no alternative left
home_change : (g n : Name) (number : ℕ) (o : Option GoalRow) (at : Name → Option BoxRow) (m : Name)
    → changed_box (emptied_home (option_map (left_row n number) o)) (failing_row g) at m ≡ changed_box (home_in o) (left_by g (option_map (left_row n number) o)) at m
home_change g n number None at m = refl
home_change g n number (Some r) at m = on (none_left (less_alternative n r.shape))
  where
    kept : (t : Bool) → same_name m r.home ≡ t → at m ≡ (if t then option_map (λ (x : BoxRow). x) (at r.home) else at m)
    kept true e = ap at (same_name-equal m r.home e) ∙ same (at r.home)
      where
        same : (o : Option BoxRow) → o ≡ option_map (λ (x : BoxRow). x) o
        same None = refl
        same (Some x) = refl
    kept false e = refl

    on : (b : Bool) → changed_box (if b then Some r.home else None) (failing_row g) at m ≡ set r.home (option_map (λ (x : BoxRow). if b then record x { failing = Some g } else x) (at r.home)) at m
    on true = refl
    on false = kept (same_name m r.home) refl

pub lost : (t u v : TableValue) (g n : Name) (number : ℕ) (home : Option Name) → number ≡ t.steps + 1 → SetsGoals t u (set g (option_map (left_row n number) ((table_of t).goal_of g)) (table_of t).goal_of)
    → home ≡ emptied_home ((table_of u).goal_of g) → SetsBoxes u v (changed_box home (failing_row g) (table_of u).box_of) → HasRows t v (held_without n (Some g) (table_of t))
lost t u v g n number home e x h y = record {
  boxes = λ m. y.rows m ∙ ap (λ (o : Option Name). changed_box o (failing_row g) (table_of u).box_of m) (h ∙ ap emptied_home here) ∙ ap (λ (w : TableValue). changed_box (emptied_home (option_map (left_row n (t.steps + 1)) ((table_of t).goal_of g))) (failing_row g) (table_of w).box_of m) x.rest
      ∙ home_change g n (t.steps + 1) ((table_of t).goal_of g) (table_of t).box_of m;
  goals = λ k. ap (λ (w : TableValue). (table_of w).goal_of k) y.rest ∙ goal_rows k;
  roots = roots_same;
  roots_changed = changed_same;
  rest = y.rest ∙ ap (λ (w : TableValue). record w { boxes = v.boxes }) x.rest ∙ (λ i. record t { boxes = v.boxes; goals = (sym (ap (λ (w : TableValue). w.goals) y.rest)) i; roots = (sym roots_same) i; roots_changed = (sym changed_same) i });
}
  where
    goal_rows : (k : Name) → (table_of u).goal_of k ≡ set g (option_map (left_row n (t.steps + 1)) ((table_of t).goal_of g)) (table_of t).goal_of k
    goal_rows k = x.rows k ∙ ap (λ (j : ℕ). set g (option_map (left_row n j) ((table_of t).goal_of g)) (table_of t).goal_of k) e

    here : (table_of u).goal_of g ≡ option_map (left_row n (t.steps + 1)) ((table_of t).goal_of g)
    here = goal_rows g ∙ ap (λ (b : Bool). if b then option_map (left_row n (t.steps + 1)) ((table_of t).goal_of g) else (table_of t).goal_of g) (same_name-refl g)

    roots_same : v.roots ≡ t.roots
    roots_same = ap (λ (w : TableValue). w.roots) y.rest ∙ ap (λ (w : TableValue). w.roots) x.rest

    changed_same : v.roots_changed ≡ t.roots_changed
    changed_same = ap (λ (w : TableValue). w.roots_changed) y.rest ∙ ap (λ (w : TableValue). w.roots_changed) x.rest

directly_as : (T U : Table) (m g : Name) → U.box_of m ≡ T.box_of m → IsDirectlyIn T m g → IsDirectlyIn U m g
directly_as T U m g e d = record { row = d.row; there = e ∙ d.there; named = d.named }

pub drops_as : (S T U : Table) (names : List Name) → ((m : Name) → S.box_of m ≡ T.box_of m) → ((g : Name) → S.goal_of g ≡ T.goal_of g) → Drops S U names → Drops T U names
drops_as S T U names b k x = record {
  box_goes = x.box_goes;
  goal_goes = λ m g i d. x.goal_goes m g i (directly_as T S m g (b m) d);
  box_stays = λ m h. x.box_stays m h ∙ b m;
  goal_stays = λ g h. x.goal_stays g (λ m i d. h m i (directly_as S T m g (sym (b m)) d)) ∙ k g;
}

pub fallen : (t u v : TableValue) (n : Name) (names : List Name) (number : ℕ) (holder : Option Name) → number ≡ t.steps + 1 → holder ≡ holder_in_row ((table_of t).box_of n) → HasRows t u (held_without n holder (table_of t))
    → DropsBoxes u v names → ListsInside (table_of t) n names → Fails (table_of t) (table_of (record v { steps = number })) n
fallen t u v n names number holder e h x y lists = fails_by_drops (table_of t) (table_of (record v { steps = number })) n names lists drops (ap (λ (w : TableValue). w.program.templates.nodes) rest)
    (ap (λ (w : TableValue). w.roots) y.rest ∙ rows.roots) (ap (λ (w : TableValue). w.roots_changed) y.rest ∙ rows.roots_changed) (λ w. ap (λ (z : TableValue). slice_index z.next w) rest) e
  where
    rows : HasRows t u (held_without n (holder_in_row ((table_of t).box_of n)) (table_of t))
    rows = subst (λ (o : Option Name). HasRows t u (held_without n o (table_of t))) h x

    rest : v ≡ record t { boxes = v.boxes; goals = v.goals; roots = u.roots; roots_changed = u.roots_changed }
    rest = y.rest ∙ ap (λ (w : TableValue). record w { boxes = v.boxes; goals = v.goals }) x.rest

    drops : Drops (held_without n (holder_in_row ((table_of t).box_of n)) (table_of t)) (table_of (record v { steps = number })) names
    drops = drops_as (table_of u) (held_without n (holder_in_row ((table_of t).box_of n)) (table_of t)) (table_of (record v { steps = number })) names rows.boxes rows.goals
        (record { box_goes = y.rows.box_goes; goal_goes = y.rows.goal_goes; box_stays = y.rows.box_stays; goal_stays = y.rows.goal_stays })
