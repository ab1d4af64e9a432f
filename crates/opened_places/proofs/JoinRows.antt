-- Goals join a box, by the rows of the next table: one goal goes, and these come.
use Rattle.std.proofs.Common.{◌≡◌, ℕ, List, [], ◌∷◌, Option, Some, None, sym, ◌∙◌, inl, inr}
use Rattle.akl_terms.specs.declared.name.Name.{Name}
use Rattle.akl_model.specs.Config.{IsIn, Atom, Config, or_else, home_of}
use Rattle.akl_model.proofs.NamesKept.{Stand}
use Rattle.akl_model.proofs.Options.{or_some, left_some, none_where}
use Rattle.table_laws.specs.Rows.{BoxRow, GoalRow, Table}
use Rattle.table_laws.specs.Unfolds.{Unfolds}
use Rattle.table_laws.specs.Walks.{alternatives_of}
use Rattle.table_laws.specs.Writes.{unset, set, changed_box, home_in, atom_among, home_or}
use Rattle.opened_places.proofs.Members.{firsts, atom_row_in, in_atom_row}
use Rattle.opened_places.proofs.SetRows.{some_none, set_itself, emptied_none, changed_none}
use Rattle.opened_places.proofs.AtRows as rows
use Rattle.opened_places.proofs.GoalTurns.{Comes}
use Rattle.opened_places.proofs.RowSteps.{comes}

unset_none : (ns : List Name) (at : Name → Option BoxRow) (m : Name) → at m ≡ None → unset ns at m ≡ None
unset_none [] at m e = e
unset_none (n ∷ ns) at m e = emptied_none n (unset ns at) m (unset_none ns at m e)

-- the rows of the next table, where the new ones have this number, and so the box's changes
pub record AreJoined (T U : Table) (g : Name) (change : BoxRow → BoxRow) (goals : List (Name × Atom)) (number : ℕ) : Type 0 where
  pub boxes : (m : Name) → U.box_of m ≡ unset (alternatives_of (T.goal_of g)) (changed_box (home_in (T.goal_of g)) change T.box_of) m
  pub goals_are : (m : Name) → U.goal_of m ≡ or_else (atom_among (home_or (T.goal_of g) g) number goals m) (set g None T.goal_of m)
  pub unused : (m : Name) → IsIn m (firsts goals) → T.goal_of m ≡ None

module _ (T U : Table) (g : Name) (change : BoxRow → BoxRow) (goals : List (Name × Atom)) (number : ℕ) (joined : AreJoined T U g change goals number) where
  abbrev pub home : Name
  home = home_or (T.goal_of g) g

  -- what has no row and gets one is one of the goals
  goal_new : (m : Name) (w : GoalRow) → T.goal_of m ≡ None → U.goal_of m ≡ Some w → IsIn m (firsts goals)
  goal_new m w i j = elim (or_some (atom_among home number goals m) (set g None T.goal_of m) w (sym (joined.goals_are m) ∙ j)) [
    | inl e ↦ atom_row_in home number goals m w e
    | inr e ↦ absurd (some_none (emptied_none g T.goal_of m i) e.1)
  ]

  pub new_goal_row : (m : Name) → IsIn m (firsts goals) → (w : GoalRow) × (atom_among home number goals m ≡ Some w) × (U.goal_of m ≡ Some w)
  new_goal_row m i =
      let w : (w : GoalRow) × (atom_among home number goals m ≡ Some w) = in_atom_row home number goals m i in
      (w.0, w.1, joined.goals_are m ∙ left_some (atom_among home number goals m) (set g None T.goal_of m) w.0 w.1)

  pub row_gone : (row : GoalRow) → T.goal_of g ≡ Some row → U.goal_of g ≡ None
  row_gone row e = none_where (U.goal_of g) (λ w j. elim (or_some (atom_among home number goals g) (set g None T.goal_of g) w (sym (joined.goals_are g) ∙ j)) [
    | inl i ↦ some_none (joined.unused g (atom_row_in home number goals g w i)) e
    | inr i ↦ some_none (set_itself g None T.goal_of) i.1
  ])

  module _ (c d : Config) (u : Unfolds T c) (v : Unfolds U d) (s : Stand c) (later : Stand d) where
    pub coming : Comes c d [] (firsts goals)
    coming = comes T U c d u v s later [] (firsts goals)
        (λ m w i j. some_none (joined.boxes m ∙ unset_none (alternatives_of (T.goal_of g)) (changed_box (home_in (T.goal_of g)) change T.box_of) m
        (changed_none (home_in (T.goal_of g)) change T.box_of m i)) j)
        (λ m z. absurd z) goal_new
        (λ m i. let w : (w : GoalRow) × (atom_among home number goals m ≡ Some w) × (U.goal_of m ≡ Some w) = new_goal_row m i in (joined.unused m i, (w.0, w.2)))

    pub gone : (row : GoalRow) → T.goal_of g ≡ Some row → home_of g d.roots ≡ None
    gone row e = rows.goal_gone U d v later.once g (row_gone row e)
