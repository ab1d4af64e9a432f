-- What holds a box that goes loses it: a choice, whose box may fail by it then, or the list of root boxes.
use Rattle.std.proofs.Common.{◌≡◌, ◌+◌, ◌≤◌, List, [], ◌∷◌, Bool, true, false, Option, Some, None, refl, sym, ◌∙◌, ap, subst, ◌⊎◌, inl, inr, arith}
use Rattle.std.specs.Prelude.{option_map, if◌then◌else◌}
use Rattle.akl_terms.specs.declared.name.Name.{Name}
use Rattle.akl_model.specs.Config.{Operator}
use Rattle.akl_terms.specs.Names.{same_name}
use Rattle.akl_terms.proofs.SameNames.{same_name-equal}
use Rattle.akl_model.specs.Config.{IsIn, Boxes, no_boxes, Config, Held, an_atom, a_choice, held_in, Found, box_at, home_of, edited, edited_inside}
use Rattle.akl_model.specs.Names.{times_in}
use Rattle.akl_model.specs.Changes.{Shape, of_choice, shape_of, box_names}
use Rattle.akl_model.specs.Wakes.{names_down_to, holder_in}
use Rattle.akl_model.proofs.Options.{some_value}
use Rattle.akl_model.proofs.Finds.{times, times_inside}
use Rattle.akl_model.proofs.NamesKept.{box-itself, home-box}
use Rattle.step_laws.specs.Holders.{IsHeldBy}
use Rattle.step_laws.proofs.Decide.{in_or}
use Rattle.step_laws.proofs.Edits.{edited_held}
use Rattle.step_laws.proofs.Whereabouts.{found_in, home_in}
use Rattle.step_laws.proofs.Deeper.{home_found}
use Rattle.step_laws.proofs.Holders.{alternative_at, held_or, unheld_around, root_box, root_named, names_less, choice_less}
use Rattle.table_laws.specs.Rows.{BoxRow, GoalRow, Table}
use Rattle.table_laws.specs.Unfolds.{FailsBy, IsBoxRow, spot_of, Unfolds}
use Rattle.table_laws.specs.Inside.{IsInside, IsGoalInside}
use Rattle.table_laws.specs.Writes.{less_name, set, home_in as home_of_row, changed_box, less_alternative, left_row, none_left, fails_empty, left_by, held_without, holder_in_row, Fails}
use Rattle.table_laws.proofs.Sets.{not_some, other_by, other_name, set_here, set_other}
use Rattle.table_laws.proofs.Frame.{neither, row_of}
use Rattle.table_laws.proofs.Onward.{IsMark}
use Rattle.table_laws.proofs.Insides.{goal_row, not_inside, not_inside_none, not_goal_inside, not_goal_inside_none}
use Rattle.table_laws.proofs.Gone.{same_names, names_left, names_gone, goals_once, left, left_stands, KeepsAlternatives, fails_by_kept, fails_by_empty, kept_where}

-- a goal's row stays as it is with the goal's shape, or the goal has lost an alternative, and its row is new
abbrev pub GoalLoses : Table → Table → Name → Name → Found → Held → Type 0
GoalLoses T U n g e h = ((U.goal_of g ≡ T.goal_of g) × (shape_of h ≡ shape_of (edited_held n no_boxes h)))
    ⊎ ((k : GoalRow) × (U.goal_of g ≡ Some k) × (spot_of k ≡ record { home = e.content.name; shape = shape_of (edited_held n no_boxes h) }) × (k.changed ≡ T.steps + 1)
    × (shape_of h ≡ shape_of (edited_held n no_boxes h) → ⊥))

-- what was done to the rows of what stays, and to the roots
pub record IsLeft (T U : Table) (c : Config) (n : Name) : Type 0 where
  pub box_none : (k : Name) → box_at k c.roots ≡ None → U.box_of k ≡ None
  pub goal_none : (g : Name) → home_of g c.roots ≡ None → U.goal_of g ≡ T.goal_of g
  pub box_left : (k : Name) (e : Found) (r : BoxRow) → box_at k c.roots ≡ Some e → (IsIn n (names_down_to e) → ⊥) → T.box_of k ≡ Some r → FailsBy e.goals r.failing
      → (o : Option Name) × (U.box_of k ≡ Some (record r { failing = o })) × FailsBy (edited_inside n no_boxes e.goals) o
  pub goal_left : (g : Name) (e : Found) (h : Held) → home_of g c.roots ≡ Some e → (IsIn n (names_down_to e) → ⊥) → held_in g e.goals ≡ Some h → GoalLoses T U n g e h
  pub roots : U.roots ≡ box_names (edited n no_boxes c.roots)
  pub root_mark : IsMark T.steps (box_names c.roots ≡ box_names (edited n no_boxes c.roots) → ⊥) T.roots_changed U.roots_changed

-- a shape of which no alternative goes
same_shape : (n : Name) (h : Held) → ((o : Operator) (bs : Boxes) → h ≡ a_choice o bs → IsIn n (box_names bs) → ⊥) → shape_of h ≡ shape_of (edited_held n no_boxes h)
same_shape n (an_atom a) x = refl
same_shape n (a_choice o bs) x = ap (of_choice o) (sym (same_names n no_boxes bs (x o bs refl)))

other_shape : (n : Name) (o : Operator) (bs : Boxes) → IsIn n (box_names bs) → shape_of (a_choice o bs) ≡ shape_of (a_choice o (edited n no_boxes bs)) → ⊥
other_shape n o bs i e = let q : box_names bs ≡ box_names (edited n no_boxes bs) = cc in names_gone n bs (subst (IsIn n) q i)

left_empty : (g : Name) (r : BoxRow) (row : GoalRow) (o : Operator) → fails_empty o ≡ true → row.shape ≡ of_choice o [] → left_by g (Some row) r ≡ record r { failing = Some g }
left_empty g r row o f e = ap (λ (s : Shape). if none_left s then record r { failing = Some g } else r) e ∙ ap (λ (t : Bool). if t then record r { failing = Some g } else r) f

left_collecting : (g : Name) (r : BoxRow) (row : GoalRow) (o : Operator) → fails_empty o ≡ false → row.shape ≡ of_choice o [] → left_by g (Some row) r ≡ r
left_collecting g r row o f e = ap (λ (s : Shape). if none_left s then record r { failing = Some g } else r) e ∙ ap (λ (t : Bool). if t then record r { failing = Some g } else r) f

left_some : (g : Name) (r : BoxRow) (row : GoalRow) (o : Operator) (m : Name) (ms : List Name) → row.shape ≡ of_choice o (m ∷ ms) → left_by g (Some row) r ≡ r
left_some g r row o m ms e = ap (λ (s : Shape). if none_left s then record r { failing = Some g } else r) e

nothing : (m : Name) (ms : List Name) → [] ≡ m ∷ ms → ⊥
nothing m ms e = cc

module _ (T U : Table) (c : Config) (u : Unfolds T c) (once : (m : Name) → times m c.roots ≤ 1) (n : Name) (still : (m : Name) → times m (edited n no_boxes c.roots) ≤ 1)
    (site : Found) (there : box_at n c.roots ≡ Some site) (f : Fails T U n) where
  holder : holder_in_row (T.box_of n) ≡ holder_in n c.roots
  holder =
      let w : (r : BoxRow) × (T.box_of n ≡ Some r) × IsBoxRow T c.roots site r = row_of T c u n site there in
      ap holder_in_row w.1 ∙ w.2.holder ∙ ap (λ (k : Name). holder_in k c.roots) (sym (box-itself n c.roots site there))

  box_stays : (o : Option Name) → holder_in n c.roots ≡ o → (k : Name) → (IsInside T n k → ⊥) → U.box_of k ≡ (held_without n o T).box_of k
  box_stays o e k h = subst (λ (x : Option Name). U.box_of k ≡ (held_without n x T).box_of k) (holder ∙ e) (f.box_stays k h)

  goal_stays : (o : Option Name) → holder_in n c.roots ≡ o → (g : Name) → (IsGoalInside T n g → ⊥) → U.goal_of g ≡ (held_without n o T).goal_of g
  goal_stays o e g h = subst (λ (x : Option Name). U.goal_of g ≡ (held_without n x T).goal_of g) (holder ∙ e) (f.goal_stays g h)

  roots_are : (o : Option Name) → holder_in n c.roots ≡ o → U.roots ≡ (held_without n o T).roots
  roots_are o e = subst (λ (x : Option Name). U.roots ≡ (held_without n x T).roots) (holder ∙ e) f.roots

  roots_number : (o : Option Name) → holder_in n c.roots ≡ o → U.roots_changed ≡ (held_without n o T).roots_changed
  roots_number o e = subst (λ (x : Option Name). U.roots_changed ≡ (held_without n x T).roots_changed) (holder ∙ e) f.roots_changed

  -- no row where nothing stands
  no_box : (k : Name) → box_at k c.roots ≡ None → (T.box_of k ≡ None) × (IsInside T n k → ⊥)
  no_box k e = (neither (IsBoxRow T c.roots) (box_at k c.roots) (T.box_of k) (u.boxes k) e, not_inside_none T c u once n k site there e)

  no_goal : (g : Name) → home_of g c.roots ≡ None → IsGoalInside T n g → ⊥
  no_goal g e = not_goal_inside_none T c u once n g site there e

  -- the choice with the box among its alternatives holds it
  holds : (g : Name) (e : Found) (o : Operator) (bs : Boxes) → home_of g c.roots ≡ Some e → held_in g e.goals ≡ Some (a_choice o bs) → IsIn n (box_names bs) → holder_in n c.roots ≡ Some g
  holds g e o bs i h j = (alternative_at c.roots once n g e o bs i h j).holder

  -- a row that stays as it was
  as_it_was : (k : Name) (e : Found) (r : BoxRow) → box_at k c.roots ≡ Some e → (IsIn n (names_down_to e) → ⊥) → FailsBy e.goals r.failing → U.box_of k ≡ Some r → KeepsAlternatives n no_boxes e.goals
      → (o : Option Name) × (U.box_of k ≡ Some (record r { failing = o })) × FailsBy (edited_inside n no_boxes e.goals) o
  as_it_was k e r i h x q keeps = (
    r.failing,
    q,
    fails_by_kept n no_boxes e.goals r.failing (λ g. goals_once (edited n no_boxes c.roots) still (left n e) (left_stands n c.roots once still e (found_in k c.roots e i) h) g) keeps x,
  )

  root_left : holder_in n c.roots ≡ None → IsLeft T U c n
  root_left z = record {
    box_none = λ k e. let w : (T.box_of k ≡ None) × (IsInside T n k → ⊥) = no_box k e in box_stays None z k w.1 ∙ w.0;
    goal_none = λ g e. goal_stays None z g (no_goal g e);
    box_left = λ k e r i h x y. as_it_was k e r i h y (box_stays None z k (not_inside T c u once n k site e there i h) ∙ x) (λ g o bs j u q. kept_where n bs (unheld g e o bs (home_found c.roots once g k e (a_choice o bs) i j) j) q);
    goal_left = λ g e h i k j. inl (goal_stays None z g (not_goal_inside T c u once n g site e there i k), same_shape n h (λ o bs q. unheld g e o bs i (j ∙ ap Some q)));
    roots = roots_are None z ∙ ap (less_name n) u.roots ∙ sym (names_left n c.roots few);
    root_mark = inr (roots_number None z, λ e. names_gone n c.roots (subst (IsIn n) e named));
  }
    where
      unheld : (g : Name) (e : Found) (o : Operator) (bs : Boxes) → home_of g c.roots ≡ Some e → held_in g e.goals ≡ Some (a_choice o bs) → IsIn n (box_names bs) → ⊥
      unheld g e o bs i h j = let q : holder_in n c.roots ≡ Some g = holds g e o bs i h j in cc

      few : times_in n (box_names c.roots) ≤ 1
      few = let a : times_in n (box_names c.roots) ≤ times n c.roots = names_less n c.roots in let o : times n c.roots ≤ 1 = once n in omega arith

      named : IsIn n (box_names c.roots)
      named = root_named c.roots once n site there (unheld_around c.roots once n site there z)

  -- where a choice holds the box
  module _ (g : Name) (held : holder_in n c.roots ≡ Some g) (x : IsHeldBy n g site c.roots) where
    goal : (r : GoalRow) × (T.goal_of g ≡ Some r) × (r.home ≡ x.home.content.name) × (r.shape ≡ of_choice x.op (box_names x.alternatives))
    goal = goal_row T c u once g x.home (a_choice x.op x.alternatives) x.is_home x.held

    abbrev now : GoalRow
    now = left_row n (T.steps + 1) goal.0

    box_now : (k : Name) → (IsInside T n k → ⊥) → U.box_of k ≡ set goal.0.home (option_map (left_by g (Some now)) (T.box_of goal.0.home)) T.box_of k
    box_now k h = box_stays (Some g) held k h ∙ ap (λ (o : Option GoalRow). changed_box (home_of_row o) (left_by g (option_map (left_row n (T.steps + 1)) o)) T.box_of k) goal.1

    goal_now : (k : Name) → (IsGoalInside T n k → ⊥) → U.goal_of k ≡ set g (Some now) T.goal_of k
    goal_now k h = goal_stays (Some g) held k h ∙ ap (λ (o : Option GoalRow). set g (option_map (left_row n (T.steps + 1)) o) T.goal_of k) goal.1

    -- the choice is the only one with the box among its alternatives
    only_holder : (i : Name) (e : Found) (o : Operator) (bs : Boxes) → home_of i c.roots ≡ Some e → held_in i e.goals ≡ Some (a_choice o bs) → IsIn n (box_names bs) → i ≡ g
    only_holder i e o bs y h j = some_value (sym (holds i e o bs y h j) ∙ held)

    home_is : (e : Found) → home_of g c.roots ≡ Some e → e ≡ x.home
    home_is e i = some_value (sym i ∙ x.is_home)

    few : times_in n (box_names x.alternatives) ≤ 1
    few =
        let a : times_in n (box_names x.alternatives) ≤ times n x.alternatives = names_less n x.alternatives in
        let b : times n x.alternatives ≤ times_inside n x.home.goals = choice_less n g x.op x.alternatives x.home.goals x.held in
        let o : times_inside n x.home.goals ≤ 1 = goals_once c.roots once x.home (home_in g c.roots x.home x.is_home).0 n in
        omega arith

    names_now : box_names (edited n no_boxes x.alternatives) ≡ less_name n (box_names x.alternatives)
    names_now = names_left n x.alternatives few

    shape_now : now.shape ≡ of_choice x.op (less_name n (box_names x.alternatives))
    shape_now = ap (less_alternative n) goal.3

    -- the home of the choice
    home_left : (k : Name) (e : Found) (r : BoxRow) → box_at k c.roots ≡ Some e → (IsIn n (names_down_to e) → ⊥) → T.box_of k ≡ Some r → FailsBy e.goals r.failing → same_name k goal.0.home ≡ true
        → (o : Option Name) × (U.box_of k ≡ Some (record r { failing = o })) × FailsBy (edited_inside n no_boxes e.goals) o
    home_left k e r i h y v t = on (less_name n (box_names x.alternatives)) refl
      where
        is_home : k ≡ goal.0.home
        is_home = same_name-equal k goal.0.home t

        same : e ≡ x.home
        same = some_value (sym i ∙ ap (λ (m : Name). box_at m c.roots) (is_home ∙ goal.2) ∙ home-box g c.roots x.home once x.is_home)

        held_here : held_in g e.goals ≡ Some (a_choice x.op x.alternatives)
        held_here = ap (λ (z : Found). held_in g z.goals) same ∙ x.held

        row : U.box_of k ≡ Some (left_by g (Some now) r)
        row = box_now k (not_inside T c u once n k site e there i h) ∙ set_here goal.0.home k (option_map (left_by g (Some now)) (T.box_of goal.0.home)) T.box_of t
            ∙ ap (option_map (left_by g (Some now))) (ap T.box_of (sym is_home) ∙ y)

        on : (ns : List Name) → less_name n (box_names x.alternatives) ≡ ns → (o : Option Name) × (U.box_of k ≡ Some (record r { failing = o })) × FailsBy (edited_inside n no_boxes e.goals) o
        on [] q = empty (fails_empty x.op) refl
          where
            empty : (t : Bool) → fails_empty x.op ≡ t → (o : Option Name) × (U.box_of k ≡ Some (record r { failing = o })) × FailsBy (edited_inside n no_boxes e.goals) o
            empty true f = (Some g, row ∙ ap Some (left_empty g r now x.op f (shape_now ∙ ap (of_choice x.op) q)), fails_by_empty n g x.op x.alternatives e.goals held_here f (names_now ∙ q))
            empty false f = as_it_was k e r i h v (row ∙ ap Some (left_collecting g r now x.op f (shape_now ∙ ap (of_choice x.op) q))) keeps
              where
                keeps : KeepsAlternatives n no_boxes e.goals
                keeps j o bs z u w = elim (in_or n (box_names bs)) [
                  | inr apart ↦ kept_where n bs apart w
                  | inl among ↦
                      let is_it : j ≡ g = only_holder j e o bs (home_found c.roots once j k e (a_choice o bs) i z) z among in
                      let both : a_choice o bs ≡ a_choice x.op x.alternatives = some_value (sym z ∙ ap (λ (y : Name). held_in y e.goals) is_it ∙ held_here) in
                      let op : o ≡ x.op = cc in
                      let no : true ≡ false = sym u ∙ ap fails_empty op ∙ f in
                      cc
                ]
        on (m ∷ ms) q = as_it_was k e r i h v (row ∙ ap Some (left_some g r now x.op m ms (shape_now ∙ ap (of_choice x.op) q))) keeps
          where
            keeps : KeepsAlternatives n no_boxes e.goals
            keeps j o bs z u w = elim (in_or n (box_names bs)) [
              | inr apart ↦ kept_where n bs apart w
              | inl among ↦
                  let is_it : j ≡ g = only_holder j e o bs (home_found c.roots once j k e (a_choice o bs) i z) z among in
                  let both : a_choice o bs ≡ a_choice x.op x.alternatives = some_value (sym z ∙ ap (λ (y : Name). held_in y e.goals) is_it ∙ held_here) in
                  let boxes : bs ≡ x.alternatives = cc in
                  let none : [] ≡ less_name n (box_names x.alternatives) = ap box_names (sym w) ∙ ap (λ (y : Boxes). box_names (edited n no_boxes y)) boxes ∙ names_now in
                  absurd (nothing m ms (none ∙ q))
            ]

    held_left : IsLeft T U c n
    held_left = record {
      box_none = λ k e. let w : (T.box_of k ≡ None) × (IsInside T n k → ⊥) = no_box k e in box_now k w.1 ∙ absent k (same_name k goal.0.home) refl e w.0;
      goal_none = λ k e. goal_now k (no_goal k e) ∙ set_other g k (Some now) T.goal_of (other_by k g (λ q. not_some (sym e ∙ ap (λ (m : Name). home_of m c.roots) q ∙ x.is_home)));
      box_left = λ k e r i h y v. of_box k e r i h y v (same_name k goal.0.home) refl;
      goal_left = λ k e h i z j. of_goal k e h i z j (same_name k g) refl;
      roots = roots_are (Some g) held ∙ u.roots ∙ sym roots_same;
      root_mark = inl (roots_number (Some g) held, λ h. h (sym roots_same));
    }
      where
        absent : (k : Name) (t : Bool) → same_name k goal.0.home ≡ t → box_at k c.roots ≡ None → T.box_of k ≡ None → set goal.0.home (option_map (left_by g (Some now)) (T.box_of goal.0.home)) T.box_of k ≡ None
        absent k true q e w =
            let is_there : box_at k c.roots ≡ Some x.home = ap (λ (m : Name). box_at m c.roots) (same_name-equal k goal.0.home q ∙ goal.2) ∙ home-box g c.roots x.home once x.is_home in
            absurd (not_some (sym e ∙ is_there))
        absent k false q e w = set_other goal.0.home k (option_map (left_by g (Some now)) (T.box_of goal.0.home)) T.box_of q ∙ w

        of_box : (k : Name) (e : Found) (r : BoxRow) → box_at k c.roots ≡ Some e → (IsIn n (names_down_to e) → ⊥) → T.box_of k ≡ Some r → FailsBy e.goals r.failing → (t : Bool) → same_name k goal.0.home ≡ t
            → (o : Option Name) × (U.box_of k ≡ Some (record r { failing = o })) × FailsBy (edited_inside n no_boxes e.goals) o
        of_box k e r i h y v true t = home_left k e r i h y v t
        of_box k e r i h y v false t =
            as_it_was k e r i h v (box_now k (not_inside T c u once n k site e there i h) ∙ set_other goal.0.home k (option_map (left_by g (Some now)) (T.box_of goal.0.home)) T.box_of t ∙ y)
            (λ j o bs z u w. kept_where n bs (λ among. elsewhere j o bs z among) w)
          where
            elsewhere : (j : Name) (o : Operator) (bs : Boxes) → held_in j e.goals ≡ Some (a_choice o bs) → IsIn n (box_names bs) → ⊥
            elsewhere j o bs z among =
                let at : home_of j c.roots ≡ Some e = home_found c.roots once j k e (a_choice o bs) i z in
                let is_it : j ≡ g = only_holder j e o bs at z among in
                let same : e ≡ x.home = home_is e (ap (λ (m : Name). home_of m c.roots) (sym is_it) ∙ at) in
                other_name k goal.0.home t (box-itself k c.roots e i ∙ ap (λ (z : Found). z.content.name) same ∙ sym goal.2)

        of_goal : (k : Name) (e : Found) (h : Held) → home_of k c.roots ≡ Some e → (IsIn n (names_down_to e) → ⊥) → held_in k e.goals ≡ Some h → (t : Bool) → same_name k g ≡ t → GoalLoses T U n k e h
        of_goal k e h i z j false t = inl (
          goal_now k (not_goal_inside T c u once n k site e there i z) ∙ set_other g k (Some now) T.goal_of t,
          same_shape n h (λ o bs q among. other_name k g t (only_holder k e o bs i (j ∙ ap Some q) among)),
        )
        of_goal k e h i z j true t =
            let is_it : k ≡ g = same_name-equal k g t in
            let same : e ≡ x.home = home_is e (ap (λ (m : Name). home_of m c.roots) (sym is_it) ∙ i) in
            let content : h ≡ a_choice x.op x.alternatives = some_value (sym j ∙ (λ v. held_in (is_it v) (same v).goals) ∙ x.held) in
            let home : goal.0.home ≡ e.content.name = goal.2 ∙ ap (λ (v : Found). v.content.name) (sym same) in
            let shape : now.shape ≡ shape_of (edited_held n no_boxes h) = shape_now ∙ ap (of_choice x.op) (sym names_now) ∙ ap (λ (v : Held). shape_of (edited_held n no_boxes v)) (sym content) in
            inr (
              now,
              goal_now k (not_goal_inside T c u once n k site e there i z) ∙ set_here g k (Some now) T.goal_of t,
              (λ v. record { home = home v; shape = shape v }),
              refl,
              subst (λ (v : Held). shape_of v ≡ shape_of (edited_held n no_boxes v) → ⊥) (sym content) (other_shape n x.op x.alternatives x.among),
            )

        roots_same : box_names (edited n no_boxes c.roots) ≡ box_names c.roots
        roots_same = same_names n no_boxes c.roots (λ i. let r : holder_in n c.roots ≡ None = (root_box c.roots once n i).holder in not_some (sym r ∙ held))

  pub is_left : IsLeft T U c n
  is_left = elim (held_or c.roots once n site there) [ inl w ↦ root_left w.1 | inr w ↦ held_left w.0 w.1 w.2 ]
