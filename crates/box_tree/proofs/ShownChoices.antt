-- By rows a box has a candidate of a split exactly where it has one.
use Rattle.std.proofs.Common.{◌≡◌, ℕ, ◌≤◌, List, [], ◌∷◌, ◌++◌, length, Bool, true, false, ◌&&◌, ◌||◌, Option, Some, None, refl, sym, ◌∙◌, ap, inl, inr, arith}
use Rattle.std.specs.Prelude.{if◌then◌else◌, is_some, nat_lt, ⊤}
use Rattle.akl_terms.specs.declared.name.Name.{Name}
use Rattle.akl_model.specs.Config.{Operator}
use Rattle.akl_model.specs.Config.{or_else, Content, Boxes, no_boxes, box, Goals, no_goals, atom, choice, Config, Held, an_atom, a_choice, held_in, Found, box_at, home_of}
use Rattle.akl_model.specs.Rules.{count_of}
use Rattle.akl_model.specs.Stable.{first_solved}
use Rattle.akl_model.specs.Wakes.{has_candidate, is_candidate}
use Rattle.akl_model.specs.Changes.{shape_of, box_names, goal_names}
use Rattle.akl_model.proofs.Finds.{times}
use Rattle.step_laws.specs.Whereabouts.{BoxIn}
use Rattle.step_laws.proofs.Whereabouts.{found_in}
use Rattle.step_laws.proofs.Deeper.{home_found}
use Rattle.table_laws.specs.Rows.{BoxRow, GoalRow, Table}
use Rattle.table_laws.specs.Unfolds.{IsBoxRow, Unfolds}
use Rattle.table_laws.proofs.Frame.{row_of}
use Rattle.table_laws.proofs.Gone.{goals_once}
use Rattle.table_laws.proofs.Insides.{goal_row}
use Rattle.table_laws.proofs.RestBoxes.{EachGoal, each_goal}
use Rattle.box_tree.specs.Tables.{TableValue, table_of, goals_in, is_empty}
use Rattle.box_tree.specs.Insides.{first_solved_in, candidate_of, candidate_at, candidate_among, candidate_in}
use Rattle.box_tree.proofs.Viewed.{row}

-- by rows, boxes have the goals that they have
abbrev pub HaveRows : Table → Boxes → Type 0
HaveRows T no_boxes = ⊤
HaveRows T (box b gs bs) = (goals_in (T.box_of b.name) ≡ goal_names gs) × HaveRows T bs

-- so the same one is the first solved one
pub first_alike : (T : Table) (bs : Boxes) → HaveRows T bs → first_solved_in T (box_names bs) ≡ first_solved bs
first_alike T no_boxes r = refl
first_alike T (box b no_goals bs) r = ap (λ (ns : List Name). if is_empty ns then Some b.name else first_solved_in T (box_names bs)) r.0
first_alike T (box b (atom g x gs) bs) r = ap (λ (ns : List Name). if is_empty ns then Some b.name else first_solved_in T (box_names bs)) r.0 ∙ first_alike T bs r.1
first_alike T (box b (choice g o cs gs) bs) r = ap (λ (ns : List Name). if is_empty ns then Some b.name else first_solved_in T (box_names bs)) r.0 ∙ first_alike T bs r.1

-- a goal has its row, and a choice's alternatives theirs
abbrev pub HaveHeldRows : Table → Held → Type 0
HaveHeldRows T (an_atom a) = ⊤
HaveHeldRows T (a_choice o bs) = HaveRows T bs

abbrev pub IsShown : Table → Name → Held → Type 0
IsShown T g h = (row : GoalRow) × (T.goal_of g ≡ Some row) × (row.shape ≡ shape_of h) × HaveHeldRows T h

pub candidate_is : (T : Table) (g : Name) (h : Held) → IsShown T g h → candidate_at T (T.goal_of g) ≡ candidate_of T (shape_of h)
candidate_is T g h r = ap (candidate_at T) r.1 ∙ ap (candidate_of T) r.2

pub counted : (bs : Boxes) → length (box_names bs) ≡ count_of bs
counted no_boxes = refl
counted (box b gs bs) = let e : length (box_names bs) ≡ count_of bs = counted bs in omega arith

either_is : {A : Type 0} (x y : Option A) → is_some (or_else x y) ≡ is_some x || is_some y
either_is None y = refl
either_is (Some a) y = refl

if_is : {A : Type 0} (b : Bool) (o : Option A) → is_some (if b then o else None) ≡ is_some o && b
if_is true None = refl
if_is true (Some a) = refl
if_is false None = refl
if_is false (Some a) = refl

-- rows show a candidate exactly where there is one
pub candidate_shown : (T : Table) (gs : Goals) → EachGoal (IsShown T) gs → is_some (candidate_among T (goal_names gs)) ≡ has_candidate gs
candidate_shown T no_goals rows = refl
candidate_shown T (atom g x gs) rows = ap (λ (o : Option Name). is_some (or_else o (candidate_among T (goal_names gs)))) (candidate_is T g (an_atom x) rows.0) ∙ candidate_shown T gs rows.1
candidate_shown T (choice g Operator.condition bs gs) rows = ap (λ (o : Option Name). is_some (or_else o (candidate_among T (goal_names gs)))) (candidate_is T g (a_choice Operator.condition bs) rows.0) ∙ candidate_shown T gs rows.1
candidate_shown T (choice g Operator.commit bs gs) rows = ap (λ (o : Option Name). is_some (or_else o (candidate_among T (goal_names gs)))) (candidate_is T g (a_choice Operator.commit bs) rows.0) ∙ candidate_shown T gs rows.1
candidate_shown T (choice g (Operator.collecting result) bs gs) rows = ap (λ (o : Option Name). is_some (or_else o (candidate_among T (goal_names gs)))) (candidate_is T g (a_choice (Operator.collecting result) bs) rows.0) ∙ candidate_shown T gs rows.1
candidate_shown T (choice g Operator.nondeterminate bs gs) rows =
    either_is (candidate_at T (T.goal_of g)) (candidate_among T (goal_names gs))
    ∙ ap (λ (o : Option Name). is_some o || is_some (candidate_among T (goal_names gs))) (candidate_is T g (a_choice Operator.nondeterminate bs) rows.0)
    ∙ ap (λ (b : Bool). b || is_some (candidate_among T (goal_names gs))) (if_is (nat_lt 1 (length (box_names bs))) (first_solved_in T (box_names bs)))
    ∙ ap (λ (o : Option Name). (is_some o && nat_lt 1 (length (box_names bs))) || is_some (candidate_among T (goal_names gs))) (first_alike T bs rows.0.3)
    ∙ ap (λ (k : ℕ). (is_some (first_solved bs) && nat_lt 1 k) || is_some (candidate_among T (goal_names gs))) (counted bs)
    ∙ ap (λ (b : Bool). (is_some (first_solved bs) && nat_lt 1 (count_of bs)) || b) (candidate_shown T gs rows.1)

module _ (t : TableValue) (c : Config) (u : Unfolds (table_of t) c) (once : (m : Name) → times m c.roots ≤ 1) (n : Name) (f : Found) (e : box_at n c.roots ≡ Some f) where
  have_rows : (g : Name) (o : Operator) (bs : Boxes) → home_of g c.roots ≡ Some f → held_in g f.goals ≡ Some (a_choice o bs) → (cs : Boxes) → ((b : Content) (gs : Goals) → BoxIn [] b gs cs → BoxIn [] b gs bs) → HaveRows (table_of t) cs
  have_rows g o bs home held no_boxes among = tt
  have_rows g o bs home held (box b gs cs) among = (here, have_rows g o bs home held cs (λ k hs x. among k hs (inr (inr x))))
    where
      here : goals_in ((table_of t).box_of b.name) ≡ goal_names gs
      here =
          let r : (r : BoxRow) × ((table_of t).box_of b.name ≡ Some r) × IsBoxRow (table_of t) c.roots (record { around = f.around ++ f.content ∷ []; content = b; goals = gs }) r =
          row t c u once g f o bs home held b gs (among b gs (inl (refl, refl, refl))) in
          ap goals_in r.1 ∙ r.2.goals

  held_rows : (g : Name) (h : Held) → home_of g c.roots ≡ Some f → held_in g f.goals ≡ Some h → HaveHeldRows (table_of t) h
  held_rows g (an_atom a) home held = tt
  held_rows g (a_choice o bs) home held = have_rows g o bs home held bs (λ b gs x. x)

  -- each goal directly in a box is shown by its row
  pub shown : EachGoal (IsShown (table_of t)) f.goals
  shown = each_goal (IsShown (table_of t)) f.goals (goals_once c.roots once f (found_in n c.roots f e)) (λ g h held.
      let home : home_of g c.roots ≡ Some f = home_found c.roots once g n f h e held in
      let w : (r : GoalRow) × ((table_of t).goal_of g ≡ Some r) × (r.home ≡ f.content.name) × (r.shape ≡ shape_of h) = goal_row (table_of t) c u once g f h home held in
      (w.0, w.1, w.3, held_rows g h home held))

  pub goals_named : goals_in ((table_of t).box_of n) ≡ goal_names f.goals
  goals_named =
      let r : (r : BoxRow) × ((table_of t).box_of n ≡ Some r) × IsBoxRow (table_of t) c.roots f r = row_of (table_of t) c u n f e in
      ap goals_in r.1 ∙ r.2.goals

  pub candidates : candidate_in (table_of t) n ≡ candidate_among (table_of t) (goal_names f.goals)
  candidates = ap (candidate_among (table_of t)) goals_named

  pub candidate_there : is_some (candidate_in (table_of t) n) ≡ is_candidate (box_at n c.roots)
  candidate_there = ap is_some candidates ∙ candidate_shown (table_of t) f.goals shown ∙ sym (ap is_candidate e)
