-- Alternatives join their box alike where the goal is an atom, and where it is a choice of one box that is new.
use Rattle.std.proofs.Common.{◌≡◌, ℕ, ◌+◌, List, [], ◌∷◌, true, Option, Some, None, sym, ◌∙◌, ap, subst, inl, inr}
use Rattle.std.specs.Prelude.{slice_index, option_map}
use Rattle.akl_terms.specs.declared.name.Name.{Name}
use Rattle.akl_terms.specs.Names.{same_name}
use Rattle.akl_terms.proofs.SameNames.{same_name-refl}
use Rattle.constraint_laws.proofs.SameTerms.{name_or}
use Rattle.akl_model.specs.Config.{Atom, Content, or_else}
use Rattle.akl_model.specs.Changes.{of_atom, of_choice}
use Rattle.local_store.specs.Stored.{Stored}
use Rattle.plan_laws.proofs.CallAlternatives.{Calling}
use Rattle.plan_laws.proofs.CallEdits.{raised_twice}
use Rattle.table_laws.specs.Rows.{BoxRow, GoalRow, Table}
use Rattle.table_laws.specs.Unfolds.{Spot, spot_of}
use Rattle.table_laws.specs.Walks.{alternatives_in, alternatives_of}
use Rattle.table_laws.specs.Writes.{IsTable, set, unset, home_in, home_or, changed_box, atom_among, joined_row, after_join}
use Rattle.table_laws.proofs.Sets.{set_here, set_other, other_by}
use Rattle.table_laws.specs.Calls.{after_call}
use Rattle.table_laws.proofs.MiddleRows.{last_row, middle_table}

module _ (k : Calling) (a : Content) (store : Stored) (changed goals_changed chosen others more : ℕ) (T U : Table) (new : Stored) (solved_at : Option ℕ) (goals : List (Name × Atom))
    (row : (v : GoalRow) × (T.goal_of k.goal ≡ Some v) × (spot_of v ≡ record { home = k.home.content.name; shape = of_atom k.body })) (apart : k.home.content.name ≡ a.name → ⊥) (none : T.box_of a.name ≡ None)
    (is : IsTable U (after_call k.goal new solved_at goals k.worker (k.drawn + more) (T.steps + others + 1) (T.steps + others + 1) (T.steps + others + 1) T)) where
  abbrev V : Table
  V = middle_table k a store changed goals_changed chosen others T

  abbrev home : Name
  home = k.home.content.name

  abbrev choice_row : GoalRow
  choice_row = record { home = k.home.content.name; shape = of_choice k.op (a.name ∷ []); changed = chosen }

  home_there : home_in (T.goal_of k.goal) ≡ Some home
  home_there = ap home_in row.1 ∙ ap (λ (v : Spot). Some v.home) row.2

  home_name : home_or (T.goal_of k.goal) k.goal ≡ home
  home_name = ap (λ (o : Option GoalRow). home_or o k.goal) row.1 ∙ ap (λ (v : Spot). v.home) row.2

  none_held : alternatives_of (T.goal_of k.goal) ≡ []
  none_held = ap alternatives_of row.1 ∙ ap (λ (v : Spot). alternatives_in v.shape) row.2

  call_now : V.goal_of k.goal ≡ Some choice_row
  call_now = set_here k.goal k.goal (Some choice_row) T.goal_of (same_name-refl k.goal)

  abbrev row_now : BoxRow → BoxRow
  row_now = joined_row k.goal new solved_at goals (T.steps + others + 1)

  row_old : (n : Name) → (n ≡ a.name → ⊥) → V.box_of n ≡ T.box_of n
  row_old n o = set_other a.name n (Some (last_row k a store changed goals_changed)) T.box_of (other_by n a.name o)

  here : (n m : Name) → n ≡ m → same_name n m ≡ true
  here n m q = subst (λ (v : Name). same_name v m ≡ true) (sym q) (same_name-refl m)

  boxes_now : (n : Name) → set home (option_map row_now (T.box_of home)) T.box_of n ≡ set a.name None (set home (option_map row_now (V.box_of home)) V.box_of) n
  boxes_now n = elim (name_or n a.name) [
    | inl q ↦ set_other home n (option_map row_now (T.box_of home)) T.box_of (other_by n home (λ e. apart (sym e ∙ q))) ∙ ap T.box_of q ∙ none
        ∙ sym (set_here a.name n None (set home (option_map row_now (V.box_of home)) V.box_of) (here n a.name q))
    | inr o ↦ elim (name_or n home) [
      | inl e ↦ set_here home n (option_map row_now (T.box_of home)) T.box_of (here n home e) ∙ ap (option_map row_now) (sym (row_old home apart))
          ∙ sym (set_here home n (option_map row_now (V.box_of home)) V.box_of (here n home e)) ∙ sym (set_other a.name n None (set home (option_map row_now (V.box_of home)) V.box_of) (other_by n a.name o))
      | inr e ↦ set_other home n (option_map row_now (T.box_of home)) T.box_of (other_by n home e) ∙ sym (row_old n o)
          ∙ sym (set_other home n (option_map row_now (V.box_of home)) V.box_of (other_by n home e)) ∙ sym (set_other a.name n None (set home (option_map row_now (V.box_of home)) V.box_of) (other_by n a.name o))
    ]
  ]

  goals_now : (i : Name) → set k.goal None T.goal_of i ≡ set k.goal None V.goal_of i
  goals_now i = elim (name_or i k.goal) [
    | inl q ↦ set_here k.goal i None T.goal_of (here i k.goal q) ∙ sym (set_here k.goal i None V.goal_of (here i k.goal q))
    | inr o ↦ set_other k.goal i None T.goal_of (other_by i k.goal o) ∙ sym (set_other k.goal i (Some choice_row) T.goal_of (other_by i k.goal o)) ∙ sym (set_other k.goal i None V.goal_of (other_by i k.goal o))
  ]

  pub joined_table : IsTable U (after_join k.goal new solved_at goals k.worker more V)
  joined_table = record {
    nodes = is.nodes;
    boxes = λ n. is.boxes n ∙ (λ j. unset (none_held j) (changed_box (home_there j) row_now T.box_of) n) ∙ boxes_now n
        ∙ sym (λ j. unset (alternatives_of (call_now j)) (changed_box (home_in (call_now j)) row_now V.box_of) n);
    goals = λ i. is.goals i ∙ (λ j. or_else (atom_among (home_name j) (T.steps + others + 1) goals i) (goals_now i j))
        ∙ ap (λ (o : Option GoalRow). or_else (atom_among (home_or o k.goal) (T.steps + others + 1) goals i) (set k.goal None V.goal_of i)) (sym call_now);
    roots = is.roots;
    roots_changed = is.roots_changed;
    next = λ v. is.next v ∙ ap (λ (xs : List ℕ). slice_index xs v) (sym (raised_twice k.worker k.drawn more T.next));
    steps = is.steps;
  }
