-- A split leads from table to table.
use Rattle.std.proofs.Common.{◌≡◌, ℕ, ◌+◌, ◌≤◌, List, [], ◌∷◌, ◌++◌, Bool, true, false, Option, Some, None, refl, sym, ◌∙◌, ap, subst, ◌⊎◌, inl, inr}
use Rattle.std.specs.Prelude.{option_map, option_and_then, slice_index}
use Rattle.akl_terms.specs.declared.name.Name.{Name}
use Rattle.akl_terms.specs.declared.name.Place.{Place}
use Rattle.akl_model.specs.Config.{Operator}
use Rattle.akl_terms.specs.Names.{same_name}
use Rattle.akl_terms.proofs.SameNames.{same_name-equal, same_name-refl}
use Rattle.akl_model.specs.declared.label.Rule.{Rule}
use Rattle.akl_model.specs.declared.label.Label.{Label}
use Rattle.akl_model.specs.Config.{IsIn, Content, Boxes, box, Config, Held, a_choice, held_in, with_content, Found, environment, or_else, box_at, home_of, edited}
use Rattle.akl_model.specs.Rules.{alone}
use Rattle.akl_model.specs.Derivations.{Applies}
use Rattle.akl_model.specs.Changes.{of_choice, shape_of, shape_at, box_names, goal_names, constraint_of}
use Rattle.akl_model.specs.Wakes.{names_around, names_down_to, holder_in}
use Rattle.akl_model.proofs.Options.{none_or, none_where, some_value}
use Rattle.akl_model.proofs.Finds.{times}
use Rattle.akl_model.proofs.NamesKept.{Stand, replay-stands, stands_after}
use Rattle.akl_model.proofs.Scoped.{IsIn-right}
use Rattle.step_laws.specs.ChangedItems.{goal_of}
use Rattle.step_laws.specs.Holders.{IsHeldBy}
use Rattle.step_laws.proofs.Whereabouts.{home_in, in_home, home_of-none}
use Rattle.step_laws.proofs.Becomes.{Becomes}
use Rattle.step_laws.proofs.Steps.{site_now}
use Rattle.step_laws.proofs.Stays.{shape_held}
use Rattle.step_laws.proofs.Holders.{alternative_at, held_or, root_box, root_named}
use Rattle.table_laws.specs.Rows.{BoxRow, GoalRow, Table}
use Rattle.table_laws.specs.Unfolds.{IsBoxRow, spot_of}
use Rattle.table_laws.specs.Stamped.{Run, followed_by, IsTableOf}
use Rattle.table_laws.specs.Steps.{BoxCopy, splits, SplitsBox, second_of, IsSolvedWhen, Makes}
use Rattle.table_laws.specs.Writes.{set, holder_in_row, name_after, others_beside, IsGoalInsideOne, alone_shape, alone_row, beside_shape, beside_row, changed_goal, copied_goal_of, if_root, Splits, Leads}
use Rattle.table_laws.proofs.Sets.{not_some, other_by, other_name, set_here, set_other}
use Rattle.table_laws.proofs.Along.{site_apart}
use Rattle.table_laws.proofs.Onward.{IsMark, GoalGoes, LeadsOn}
use Rattle.table_laws.proofs.Marked.{led}
use Rattle.table_laws.proofs.Insides.{spot_held, spot_none, goal_row}
use Rattle.table_laws.proofs.Kept.{kept_names}
use Rattle.table_laws.proofs.Forked.{raised_same}
use Rattle.table_laws.proofs.Copies.{home_counted, IsGoalCopied, goal_copied}
use Rattle.table_laws.proofs.Cutting as cutting
use Rattle.table_laws.proofs.SplitRows as split
use Rattle.table_laws.proofs.Beside.{after_differs}
use Rattle.table_laws.proofs.Beside as beside

module _ (rules : List Rule) (r : Run) (T U : Table) (l : Label) (d : Config) (t : IsTableOf rules r T) (a : Applies rules r.program t.config l d) (n al copy : Name) (copies : List BoxCopy) (at : Option ℕ)
    (rule : l.rule ≡ Rule.Split) (place : l.place ≡ Place.Box n) (names : l.alternative ≡ Some al)
    (made : SplitsBox r.program.templates.nodes l.worker (slice_index t.config.next l.worker) a.site al copy copies) (solved : IsSolvedWhen at T a.site (splits copy copies))
    (f : Splits T U n al copy copies at l.worker a.change.drawn) where
  abbrev g : Name
  g = made.choice.name

  abbrev o : Operator
  o = made.choice.op

  abbrev bs : Boxes
  bs = made.choice.alternatives

  abbrev second : Boxes
  second = second_of l.worker (slice_index t.config.next l.worker) al a.site made.choice

  abbrev number : ℕ
  number = T.steps + 1

  abbrev site : Name
  site = a.site.content.name

  s : Stand t.config
  s = replay-stands rules r.program r.query r.journal t.config t.replays

  later : Stand d
  later = stands_after rules r.program t.config l d s a

  -- what the label makes, and where boxes stand

  abbrev held : held_in g a.site.goals ≡ Some (a_choice o bs)
  held = split.held rules r T l d t a n al copy copies rule place names made

  abbrev at_goal : goal_of l.place l.alternative a.site ≡ Some g
  at_goal = split.at_goal rules r T l d t a n al copy copies rule place names made

  abbrev boxes_are : a.change.boxes ≡ box a.site.content (with_content g (a_choice o (alone al bs)) a.site.goals) second
  boxes_are = split.boxes_are rules r T l d t a n al copy copies rule place names made

  abbrev two : box_names a.change.boxes ≡ site ∷ copy ∷ []
  two = split.two rules r T l d t a n al copy copies rule place names made

  abbrev second_once : (m : Name) → times m second ≤ 1
  second_once = split.second_once rules r T l d t a n al copy copies rule place names made

  name : n ≡ site
  name = split.name rules r T l d t a n al copy copies rule place names made

  abbrev b : Becomes l.worker (slice_index t.config.next l.worker) a.site a.change
  b = cutting.cuts_to rules r.program r.query r.journal t.config l d t.replays a g al o Operator.commit bs second at_goal held boxes_are

  was_there : box_at site t.config.roots ≡ Some a.site
  was_there = split.was_there rules r T l d t a n al copy copies rule place names made

  now_there : box_at site d.roots ≡ Some (site_now b)
  now_there = split.now_there rules r T l d t a n al copy copies rule place names made

  home_was : home_of g t.config.roots ≡ Some a.site
  home_was = split.home_was rules r T l d t a n al copy copies rule place names made

  home_now : home_of g d.roots ≡ Some (site_now b)
  home_now = split.home_now rules r T l d t a n al copy copies rule place names made

  content_now : b.content ≡ a.site.content
  content_now = split.content_now rules r T l d t a n al copy copies rule place names made

  names_now : goal_names b.goals ≡ goal_names a.site.goals
  names_now = split.names_now rules r T l d t a n al copy copies rule place names made

  held_now : held_in g b.goals ≡ Some (a_choice o (alone al bs))
  held_now = split.held_now rules r T l d t a n al copy copies rule place names made

  abbrev IsUnderCut : Found → Type 0
  IsUnderCut e = cutting.IsUnderCut rules r.program r.query r.journal t.config l d t.replays a g al o Operator.commit bs second at_goal held boxes_are e

  abbrev under : Found → Found
  under e = record e { around = a.site.around ++ e.around }

  copied_home : (k : Name) (e : Found) (h : Held) → home_of k second ≡ Some e → held_in k e.goals ≡ Some h → home_of k d.roots ≡ Some (under e)
  copied_home = split.copied_home rules r T l d t a n al copy copies rule place names made

  its_row : (row : GoalRow) × (T.goal_of g ≡ Some row) × (row.home ≡ site) × (row.shape ≡ of_choice o (box_names bs))
  its_row = split.its_row rules r T l d t a n al copy copies rule place names made

  al_holder : holder_in_row (T.box_of al) ≡ Some g
  al_holder = split.al_holder rules r T l d t a n al copy copies rule place names made

  site_holder : holder_in_row (T.box_of n) ≡ holder_in site t.config.roots
  site_holder = split.site_holder rules r T l d t a n al copy copies rule place names made

  not_goal_cut : (i : Name) (e h : Found) → home_of i t.config.roots ≡ Some e → home_of i d.roots ≡ Some h → IsGoalInsideOne T (others_beside T al) i → ⊥
  not_goal_cut = split.not_goal_cut rules r T l d t a n al copy copies rule place names made

  not_goal_cut_none : (i : Name) → home_of i t.config.roots ≡ None → IsGoalInsideOne T (others_beside T al) i → ⊥
  not_goal_cut_none = split.not_goal_cut_none rules r T l d t a n al copy copies rule place names made

  -- rows of goals

  abbrev now : Name → Option GoalRow
  now = changed_goal (holder_in_row (T.box_of n)) (beside_row n copy number) (changed_goal (holder_in_row (T.box_of al)) (alone_row al number) T.goal_of)

  goal_rows : (i : Name) → (IsGoalInsideOne T (others_beside T al) i → ⊥) → copied_goal_of number copies i ≡ None → U.goal_of i ≡ now i
  goal_rows i h e = f.goal_stays i h ∙ ap (λ (v : Option GoalRow). or_else v (now i)) e

  -- by what holds the box
  now_by : (h : Option Name) → holder_in site t.config.roots ≡ h → (i : Name) → now i ≡ changed_goal h (beside_row n copy number) (set g (option_map (alone_row al number) (T.goal_of g)) T.goal_of) i
  now_by h e i = (λ z. changed_goal ((site_holder ∙ e) z) (beside_row n copy number) (changed_goal (al_holder z) (alone_row al number) T.goal_of) i)

  choice_row : (i : Name) → same_name i g ≡ false → set g (option_map (alone_row al number) (T.goal_of g)) T.goal_of i ≡ T.goal_of i
  choice_row i e = set_other g i (option_map (alone_row al number) (T.goal_of g)) T.goal_of e

  now_other : (i : Name) → same_name i g ≡ false → (holder_in site t.config.roots ≡ Some i → ⊥) → now i ≡ T.goal_of i
  now_other i e not = on (holder_in site t.config.roots) refl
    where
      on : (h : Option Name) → holder_in site t.config.roots ≡ h → now i ≡ T.goal_of i
      on None x = now_by None x i ∙ choice_row i e
      on (Some h) x = now_by (Some h) x i
          ∙ set_other h i (option_map (beside_row n copy number) (set g (option_map (alone_row al number) (T.goal_of g)) T.goal_of h)) (set g (option_map (alone_row al number) (T.goal_of g)) T.goal_of)
          (other_by i h (λ q. not (x ∙ ap Some (sym q)))) ∙ choice_row i e

  -- the choice that holds the box isn't the one in it
  apart : (h : Name) → holder_in site t.config.roots ≡ Some h → IsHeldBy site h a.site t.config.roots → h ≡ g → ⊥
  apart h e x q =
      let home : x.home ≡ a.site = some_value (sym x.is_home ∙ ap (λ (k : Name). home_of k t.config.roots) q ∙ home_was) in
      let down : names_around a.site ≡ names_down_to a.site = x.names ∙ ap names_down_to home in
      site_apart rules r.program t.config l d s a (subst (IsIn site) (sym down) (IsIn-right site (names_around a.site) (site ∷ []) (inl refl)))

  no_shape : (i : Name) (cs : Boxes) → home_of i cs ≡ None → shape_at i cs ≡ None
  no_shape i cs e = ap (option_and_then (λ (x : Found). option_map shape_of (held_in i x.goals))) e

  -- a goal whose row is new, with another shape
  changed : (i : Name) (row : GoalRow) (e h : Found) (v w : Held) → U.goal_of i ≡ Some row → row.changed ≡ T.steps + 1 → row.home ≡ h.content.name → row.shape ≡ shape_of w
      → home_of i t.config.roots ≡ Some e → held_in i e.goals ≡ Some v → home_of i d.roots ≡ Some h → held_in i h.goals ≡ Some w → (shape_of v ≡ shape_of w → ⊥) → GoalGoes T U t.config d i
  changed i row e h v w row_is number_is home shape x y z u differ = inr (
    ap (option_map spot_of) row_is ∙ (λ k. Some (record { home = home k; shape = shape k })) ∙ sym (spot_held i d.roots h w z u),
    λ k q. (ap (λ (j : GoalRow). j.changed) (some_value (sym q ∙ row_is)) ∙ number_is, λ j. differ (some_value (sym (shape_held i t.config.roots e v x y) ∙ j ∙ shape_held i d.roots h w z u))),
  )

  itself : copied_goal_of number copies g ≡ None → GoalGoes T U t.config d g
  itself none = changed g (alone_row al number its_row.0) a.site (site_now b) (a_choice o bs) (a_choice o (alone al bs)) (goal_rows g (not_goal_cut g a.site (site_now b) home_was home_now) none ∙ row_now) refl
      (its_row.2 ∙ ap (λ (k : Content). k.name) (sym content_now)) (ap (alone_shape al) its_row.3 ∙ ap (of_choice o) (sym (kept_names Operator.commit al bs))) home_was held home_now held_now (cutting.differs rules r.program r.query r.journal t.config l d t.replays a g al o Operator.commit bs second at_goal held boxes_are)
    where
      alone_now : set g (option_map (alone_row al number) (T.goal_of g)) T.goal_of g ≡ Some (alone_row al number its_row.0)
      alone_now = set_here g g (option_map (alone_row al number) (T.goal_of g)) T.goal_of (same_name-refl g) ∙ ap (option_map (alone_row al number)) its_row.1

      row_now : now g ≡ Some (alone_row al number its_row.0)
      row_now = on (held_or t.config.roots s.once site a.site was_there)
        where
          on : ((a.site.around ≡ []) × (holder_in site t.config.roots ≡ None)) ⊎ ((h : Name) × (holder_in site t.config.roots ≡ Some h) × IsHeldBy site h a.site t.config.roots)
              → now g ≡ Some (alone_row al number its_row.0)
          on (inl x) = now_by None x.1 g ∙ alone_now
          on (inr (h, x, y)) = now_by (Some h) x g
              ∙ set_other h g (option_map (beside_row n copy number) (set g (option_map (alone_row al number) (T.goal_of g)) T.goal_of h)) (set g (option_map (alone_row al number) (T.goal_of g)) T.goal_of)
              (other_by g h (λ q. apart h x y (sym q))) ∙ alone_now

  -- the choice that holds the box
  holder_goes : (h : Name) → holder_in site t.config.roots ≡ Some h → IsHeldBy site h a.site t.config.roots → copied_goal_of number copies h ≡ None → GoalGoes T U t.config d h
  holder_goes h e x none = changed h (beside_row n copy number v.0) x.home home (a_choice x.op x.alternatives) (a_choice x.op (edited site a.change.boxes x.alternatives))
      (goal_rows h (not_goal_cut h x.home home x.is_home (beside.is_home_now rules r.program r.query r.journal t.config l d t.replays a copy two h x)) none ∙ row_now) refl v.2
      (ap (beside_shape n copy) v.3 ∙ (λ k. of_choice x.op (name_after (name k) copy (box_names x.alternatives))) ∙ ap (of_choice x.op) (sym (beside.names_now rules r.program r.query r.journal t.config l d t.replays a copy two h x)))
      x.is_home x.held (beside.is_home_now rules r.program r.query r.journal t.config l d t.replays a copy two h x) (beside.held_now rules r.program r.query r.journal t.config l d t.replays a copy two h x) (λ q. after_differs site copy (box_names x.alternatives) x.among (same_choice q ∙ beside.names_now rules r.program r.query r.journal t.config l d t.replays a copy two h x))
    where
      home : Found
      home = beside.home_now rules r.program r.query r.journal t.config l d t.replays a copy two h x

      v : (row : GoalRow) × (T.goal_of h ≡ Some row) × (row.home ≡ x.home.content.name) × (row.shape ≡ of_choice x.op (box_names x.alternatives))
      v = goal_row T t.config t.unfolds s.once h x.home (a_choice x.op x.alternatives) x.is_home x.held

      row_now : now h ≡ Some (beside_row n copy number v.0)
      row_now = now_by (Some h) e h ∙ set_here h h (option_map (beside_row n copy number) (set g (option_map (alone_row al number) (T.goal_of g)) T.goal_of h)) (set g (option_map (alone_row al number) (T.goal_of g)) T.goal_of)
          (same_name-refl h) ∙ ap (option_map (beside_row n copy number)) (choice_row h (other_by h g (apart h e x)) ∙ v.1)

      same_choice : of_choice x.op (box_names x.alternatives) ≡ of_choice x.op (box_names (edited site a.change.boxes x.alternatives)) → box_names x.alternatives ≡ box_names (edited site a.change.boxes x.alternatives)
      same_choice q = cc

  goal_goes : (i : Name) → GoalGoes T U t.config d i
  goal_goes i = elim (goal_copied r.program.templates.nodes (environment a.site) second second_once copies made.copied number i) [ inr x ↦ new x | inl x ↦ old x.0 x.1 (none_or (home_of i t.config.roots)) ]
    where
      new : IsGoalCopied r.program.templates.nodes (environment a.site) second second_once copies made.copied number i (copied_goal_of number copies i) → GoalGoes T U t.config d i
      new x = inr (
        ap (option_map spot_of) row_is ∙ ap Some x.spot ∙ sym (spot_held i d.roots (under x.home) x.held after x.is_held),
        λ row e. (ap (λ (v : GoalRow). v.changed) (some_value (sym e ∙ row_is)) ∙ x.changed, λ q. not_some (sym (no_shape i t.config.roots before) ∙ q ∙ shape_held i d.roots (under x.home) x.held after x.is_held)),
      )
        where
          after : home_of i d.roots ≡ Some (under x.home)
          after = copied_home i x.home x.held x.is_home x.is_held

          before : home_of i t.config.roots ≡ None
          before = home_of-none i t.config.roots (cutting.copy_nowhere rules r.program r.query r.journal t.config l d t.replays a g al o Operator.commit bs second at_goal held boxes_are i (home_counted i x.held x.home.around x.home.content x.home.goals second (home_in i second x.home x.is_home).0 x.is_held))

          row_is : U.goal_of i ≡ Some x.row
          row_is = f.goal_stays i (not_goal_cut_none i before) ∙ ap (λ (v : Option GoalRow). or_else v (now i)) x.there

      absent : home_of i second ≡ None → home_of i t.config.roots ≡ None → home_of i d.roots ≡ None
      absent none x = none_where (home_of i d.roots) (λ h y. elim (cutting.was_home rules r.program r.query r.journal t.config l d t.replays a g al o Operator.commit bs second at_goal held boxes_are i h y) [
        | inl w ↦ not_some (sym x ∙ w.1)
        | inr w ↦
            let v : (k : Held) × (held_in i h.goals ≡ Some k) = (home_in i d.roots h y).1 in
            not_some (sym none ∙ in_home i v.0 second (record h { around = w.rest }) second_once w.stands v.1)
      ])

      unheld : home_of i t.config.roots ≡ None → holder_in site t.config.roots ≡ Some i → ⊥
      unheld x e = on (held_or t.config.roots s.once site a.site was_there)
        where
          on : ((a.site.around ≡ []) × (holder_in site t.config.roots ≡ None)) ⊎ ((h : Name) × (holder_in site t.config.roots ≡ Some h) × IsHeldBy site h a.site t.config.roots) → ⊥
          on (inl y) = not_some (sym y.1 ∙ e)
          on (inr (h, y, w)) = not_some (sym x ∙ ap (λ (k : Name). home_of k t.config.roots) (some_value (sym e ∙ y)) ∙ w.is_home)

      under_cut : (e : Found) → home_of i t.config.roots ≡ Some e → IsUnderCut e → GoalGoes T U t.config d i
      under_cut e x y = inr (ap (option_map spot_of) gone ∙ sym (spot_none i d.roots none), λ row z. absurd (not_some (sym gone ∙ z)))
        where
          none : home_of i d.roots ≡ None
          none = none_where (home_of i d.roots) (λ h z. cutting.home_apart rules r.program r.query r.journal t.config l d t.replays a g al o Operator.commit bs second at_goal held boxes_are i e h x z y.one y.goes y.down)

          gone : U.goal_of i ≡ None
          gone = f.goal_goes i (split.is_goal_cut rules r T l d t a n al copy copies rule place names made i e x y)

      stays : copied_goal_of number copies i ≡ None → (e h : Found) → home_of i t.config.roots ≡ Some e → home_of i d.roots ≡ Some h → (v : Bool) → same_name i g ≡ v → GoalGoes T U t.config d i
      stays none e h x y true z = let q : i ≡ g = same_name-equal i g z in subst (GoalGoes T U t.config d) (sym q) (itself (subst (λ (k : Name). copied_goal_of number copies k ≡ None) q none))
      stays none e h x y false z = on (held_or t.config.roots s.once site a.site was_there)
        where
          same : (holder_in site t.config.roots ≡ Some i → ⊥) → GoalGoes T U t.config d i
          same not = inl (
            goal_rows i (not_goal_cut i e h x y) none ∙ now_other i z not,
            cutting.same_shape rules r.program r.query r.journal t.config l d t.replays a g al o Operator.commit bs second at_goal held boxes_are i e h z (λ k w cs replaced u v j. not (alternative_at t.config.roots s.once site i k w cs u v j).holder) x y,
          )

          on : ((a.site.around ≡ []) × (holder_in site t.config.roots ≡ None)) ⊎ ((h : Name) × (holder_in site t.config.roots ≡ Some h) × IsHeldBy site h a.site t.config.roots) → GoalGoes T U t.config d i
          on (inl w) = same (λ q. not_some (sym w.1 ∙ q))
          on (inr (k, w, u)) = held_by (same_name i k) refl
            where
              held_by : (v : Bool) → same_name i k ≡ v → GoalGoes T U t.config d i
              held_by true q = let p : i ≡ k = same_name-equal i k q in subst (GoalGoes T U t.config d) (sym p) (holder_goes k w u (subst (λ (m : Name). copied_goal_of number copies m ≡ None) p none))
              held_by false q = same (λ p. other_name i k q (some_value (sym p ∙ w)))

      old : copied_goal_of number copies i ≡ None → home_of i second ≡ None → (home_of i t.config.roots ≡ None) ⊎ ((e : Found) × (home_of i t.config.roots ≡ Some e)) → GoalGoes T U t.config d i
      old none nowhere (inl x) = inl (
        goal_rows i (not_goal_cut_none i x) none ∙ now_other i (other_by i g (λ q. not_some (sym x ∙ ap (λ (k : Name). home_of k t.config.roots) q ∙ home_was))) (unheld x),
        no_shape i t.config.roots x ∙ sym (no_shape i d.roots (absent nowhere x)),
      )
      old none nowhere (inr (e, x)) = elim (cutting.home_or rules r.program r.query r.journal t.config l d t.replays a g al o Operator.commit bs second at_goal held boxes_are i e x) [
        | inl w ↦ stays none e w.0 x w.1 (same_name i g) refl
        | inr y ↦ under_cut e x y
      ]

  -- the roots

  roots_now : (U.roots ≡ box_names d.roots) × IsMark T.steps (box_names t.config.roots ≡ box_names d.roots → ⊥) T.roots_changed U.roots_changed
  roots_now = on (held_or t.config.roots s.once site a.site was_there)
    where
      by : (h : Option Name) → holder_in site t.config.roots ≡ h → (U.roots ≡ if_root h (name_after n copy T.roots) T.roots) × (U.roots_changed ≡ if_root h (T.steps + 1) T.roots_changed)
      by h e = (
        f.roots ∙ ap (λ (k : Option Name). if_root k (name_after n copy T.roots) T.roots) (site_holder ∙ e),
        f.roots_changed ∙ ap (λ (k : Option Name). if_root k (T.steps + 1) T.roots_changed) (site_holder ∙ e),
      )

      on : ((a.site.around ≡ []) × (holder_in site t.config.roots ≡ None)) ⊎ ((h : Name) × (holder_in site t.config.roots ≡ Some h) × IsHeldBy site h a.site t.config.roots)
          → (U.roots ≡ box_names d.roots) × IsMark T.steps (box_names t.config.roots ≡ box_names d.roots → ⊥) T.roots_changed U.roots_changed
      on (inl x) =
          let named : IsIn site (box_names t.config.roots) = root_named t.config.roots s.once site a.site was_there x.0 in (
            (by None x.1).0 ∙ (λ k. name_after (name k) copy (t.unfolds.roots k)) ∙ sym (beside.root_names rules r.program r.query r.journal t.config l d t.replays a copy two),
            inr ((by None x.1).1, λ e. after_differs site copy (box_names t.config.roots) named (e ∙ beside.root_names rules r.program r.query r.journal t.config l d t.replays a copy two)),
          )
      on (inr (h, x, y)) =
          let same : box_names d.roots ≡ box_names t.config.roots = beside.same_roots rules r.program r.query r.journal t.config l d t.replays a copy two (λ i. not_some (sym (root_box t.config.roots s.once site i).holder ∙ x)) in
          ((by (Some h) x).0 ∙ t.unfolds.roots ∙ sym same, inl ((by (Some h) x).1, λ q. q (sym same)))

  abbrev site_was : (v : BoxRow) × (T.box_of site ≡ Some v) × IsBoxRow T t.config.roots a.site v
  site_was = split.site_was rules r T l d t a n al copy copies rule place names made U at solved f

  site_has : U.box_of site ≡ Some site_was.0
  site_has = split.site_has rules r T l d t a n al copy copies rule place names made U at solved f

  pub leads_on : LeadsOn a T U
  leads_on = record {
    boxes = split.boxes rules r T l d t a n al copy copies rule place names made U at solved f;
    site_marks = λ v k i j.
        let x : v ≡ site_was.0 = some_value (sym i ∙ site_was.1) in
        let y : k ≡ site_was.0 = some_value (sym j ∙ site_has) in (
          inl (
            ap (λ (w : BoxRow). w.changed) (y ∙ sym x),
            λ h. h (ap (option_map constraint_of) was_there ∙ ap (λ (w : Content). Some (record { frames = w.frames; equations = w.equations; ports = w.ports })) (sym content_now)
                ∙ sym (ap (option_map constraint_of) now_there)),
          ),
          inl (
            ap (λ (w : BoxRow). w.goals_changed) (y ∙ sym x),
            λ h. h (ap (option_map (λ (e : Found). goal_names e.goals)) was_there ∙ ap Some (sym names_now) ∙ sym (ap (option_map (λ (e : Found). goal_names e.goals)) now_there)),
          ),
        );
    new_boxes = split.new_box rules r T l d t a n al copy copies rule place names made U at solved f;
    gone_boxes = split.gone_box rules r T l d t a n al copy copies rule place names made U at solved f;
    goals = goal_goes;
    roots = roots_now.0;
    root_mark = roots_now.1;
    next = λ w. f.next w ∙ raised_same l.worker a.change.drawn w T.next t.config.next t.unfolds.next ∙ ap (λ (k : Config). slice_index k.next w) a.result;
  }

-- the step of a split leads to a table of the run that goes on with the label
pub split_step : (rules : List Rule) (r : Run) (T U : Table) (l : Label) (d : Config) (t : IsTableOf rules r T) (a : Applies rules r.program t.config l d) (at : Option ℕ) (copy : Name) (copies : List BoxCopy)
    → Makes r.program l (slice_index t.config.next l.worker) a.site (splits copy copies) → IsSolvedWhen at T a.site (splits copy copies) → Leads T l at a.change.drawn (splits copy copies) U
    → (u : IsTableOf rules (followed_by r l) U) × (u.config ≡ d)
split_step rules r T U l d t a at copy copies makes solved leads = led rules r T U l d t a (leads_on rules r T U l d t a makes.1.0 makes.1.1 copy copies at makes.0 makes.1.2 makes.1.3 makes.1.4 solved
    (subst (λ (x : Option Name). Leads T (record l { place = Place.Box makes.1.0; alternative = x }) at a.change.drawn (splits copy copies) U) makes.1.3
    (subst (λ (u : Place). Leads T (record l { place = u }) at a.change.drawn (splits copy copies) U) makes.1.2 leads)))
