-- A split: the choice and its box change, the copies come with their goals, and what holds the box gets the box's own copy.
use Rattle.std.proofs.Common.{◌≡◌, ℕ, ◌≤◌, List, [], ◌∷◌, ◌++◌, Option, Some, None, sym, ◌∙◌, ap, subst, inl, inr}
use Rattle.std.specs.Prelude.{option_map, slice_index}
use Rattle.akl_terms.specs.declared.name.Name.{Name}
use Rattle.akl_terms.specs.declared.name.Place.{Place}
use Rattle.akl_model.specs.Config.{Operator}
use Rattle.akl_model.specs.declared.label.Rule.{Rule}
use Rattle.akl_model.specs.declared.label.Label.{Label}
use Rattle.akl_model.specs.Config.{IsIn, Content, Boxes, no_boxes, box, Goals, Config, a_choice, held_in, with_content, Found, environment, box_at, home_of, edited}
use Rattle.akl_model.specs.Rules.{alone}
use Rattle.akl_model.specs.Derivations.{Applies}
use Rattle.akl_model.specs.Changes.{box_names, goals_at, goal_names, shape_at, of_choice}
use Rattle.akl_model.specs.Wakes.{holder_in}
use Rattle.akl_model.proofs.Finds.{times, box_at-none}
use Rattle.akl_model.proofs.NamesKept.{Stand, box-itself}
use Rattle.step_laws.specs.ChangedItems.{goal_of}
use Rattle.step_laws.specs.Whereabouts.{Stands}
use Rattle.step_laws.specs.Holders.{IsHeldBy, IsAlternativeAt}
use Rattle.step_laws.proofs.Whereabouts.{found_in, in_named, home_in, in_home, home_of-none}
use Rattle.step_laws.proofs.Deeper.{named_found}
use Rattle.step_laws.proofs.GoalEdits.{HasGoal}
use Rattle.step_laws.proofs.Becomes.{Becomes, BecomesAt}
use Rattle.step_laws.proofs.Steps.{made, site_now, site_once}
use Rattle.step_laws.proofs.Stays.{shape_held}
use Rattle.step_laws.proofs.Holders.{alternative_at}
use Rattle.table_laws.specs.Rows.{BoxRow, GoalRow, Table}
use Rattle.table_laws.specs.Unfolds.{IsBoxRow}
use Rattle.table_laws.specs.Stamped.{Run, IsTableOf}
use Rattle.table_laws.specs.Steps.{BoxCopy, copy_among, IsCopy, SplitsBox, second_of, splits, Makes}
use Rattle.table_laws.specs.Writes as writes
use Rattle.table_laws.specs.Writes.{copied_goal_of}
use Rattle.table_laws.proofs.Frame.{row_of}
use Rattle.table_laws.proofs.Splitting as splitting
use Rattle.table_laws.proofs.Cutting as cutting
use Rattle.table_laws.proofs.Beside as beside
use Rattle.table_laws.proofs.Beside.{after_differs}
use Rattle.table_laws.proofs.RestBoxes.{first_named}
use Rattle.table_laws.proofs.Copies.{copy_of, box_of, IsGoalCopied, goal_copied, home_counted}
use Rattle.opened_places.specs.declared.around.Holder.{Holder}
use Rattle.opened_places.specs.declared.around.Around.{Around}
use Rattle.opened_places.proofs.ListedPlaces.{listed, choice_place, holder_places, copy_places}
use Rattle.opened_places.specs.Exact.{IsAround, AreExactly}
use Rattle.opened_places.proofs.Members.{part_boxes, part_goals, copy_parts, copy_parts_places, copy_box_in, in_copy_box, copy_goal_in, in_copy_goal}
use Rattle.opened_places.proofs.SetRows.{some_none}
use Rattle.opened_places.proofs.GoalTurns.{Comes, AreHolders}
use Rattle.opened_places.proofs.GoalTurns as turns
use Rattle.opened_places.proofs.HolderTurns as held_by
use Rattle.opened_places.proofs.AtSite as site

row_holder : (o : Option BoxRow) (v : BoxRow) → o ≡ Some v → writes.holder_in_row o ≡ v.holder
row_holder o v e = ap writes.holder_in_row e

module _ (rules : List Rule) (r : Run) (T : Table) (l : Label) (d : Config) (t : IsTableOf rules r T) (a : Applies rules r.program t.config l d)
    (copy : Name) (copies : List BoxCopy) (makes : Makes r.program l (slice_index t.config.next l.worker) a.site (splits copy copies)) where
  abbrev n : Name
  n = makes.1.0

  abbrev al : Name
  al = makes.1.1

  pub is_split : SplitsBox r.program.templates.nodes l.worker (slice_index t.config.next l.worker) a.site makes.1.1 copy copies
  is_split = makes.1.4

  abbrev g : Name
  g = is_split.choice.name

  abbrev o : Operator
  o = is_split.choice.op

  abbrev bs : Boxes
  bs = is_split.choice.alternatives

  abbrev pub second : Boxes
  second = second_of l.worker (slice_index t.config.next l.worker) makes.1.1 a.site is_split.choice

  s : Stand t.config
  s = site.before rules r.program r.query r.journal t.config l d t.replays a

  later : Stand d
  later = site.afterwards rules r.program r.query r.journal t.config l d t.replays a

  was_there : box_at a.site.content.name t.config.roots ≡ Some a.site
  was_there = site.was_there rules r.program r.query r.journal t.config l d t.replays a

  -- what the label makes

  held : held_in g a.site.goals ≡ Some (a_choice o bs)
  held = splitting.choice_held r.program (slice_index t.config.next l.worker) l a.site a.change a.makes n al is_split.choice makes.0 makes.1.2 makes.1.3 is_split.is_choice (site_once rules r.program t.config l d s a)

  is_goal : goal_of l.place l.alternative a.site ≡ Some g
  is_goal = splitting.at_choice r.program (slice_index t.config.next l.worker) l a.site a.change a.makes n al is_split.choice makes.0 makes.1.2 makes.1.3 is_split.is_choice

  boxes_are : a.change.boxes ≡ box a.site.content (with_content g (a_choice o (alone al bs)) a.site.goals) second
  boxes_are = splitting.boxes_are r.program (slice_index t.config.next l.worker) l a.site a.change a.makes n al is_split.choice makes.0 makes.1.2 makes.1.3 is_split.is_choice

  two : box_names a.change.boxes ≡ a.site.content.name ∷ copy ∷ []
  two = ap box_names boxes_are ∙ ap (λ (ns : List Name). a.site.content.name ∷ ns) is_split.named

  at : BecomesAt l.worker (slice_index t.config.next l.worker) l.place l.alternative a.site a.change
  at = elim (made rules r.program t.config l d s a) [ inl z ↦ not_none (sym z.1 ∙ boxes_are) | inr w ↦ w ]
    where
      not_none : {A : Type 0} {b : Content} {gs : Goals} {cs : Boxes} → no_boxes ≡ box b gs cs → A
      not_none e = cc

  abbrev b : Becomes l.worker (slice_index t.config.next l.worker) a.site a.change
  b = cutting.cuts_to rules r.program r.query r.journal t.config l d t.replays a g al o Operator.commit bs second is_goal held boxes_are

  pub home_was : home_of g t.config.roots ≡ Some a.site
  home_was = cutting.home_was rules r.program r.query r.journal t.config l d t.replays a g al o Operator.commit bs second is_goal held boxes_are

  there : (f : Found) × (home_of g d.roots ≡ Some f)
  there = (site_now b, cutting.home_now rules r.program r.query r.journal t.config l d t.replays a g al o Operator.commit bs second is_goal held boxes_are)

  same : goals_at a.site.content.name t.config.roots ≡ goals_at a.site.content.name d.roots
  same = ap (option_map (λ (f : Found). goal_names f.goals)) was_there
      ∙ ap Some (sym (cutting.names_now rules r.program r.query r.journal t.config l d t.replays a g al o Operator.commit bs second is_goal held boxes_are))
      ∙ sym (ap (option_map (λ (f : Found). goal_names f.goals)) (cutting.now_there rules r.program r.query r.journal t.config l d t.replays a g al o Operator.commit bs second is_goal held boxes_are))

  -- the choice is what holds the alternative

  named : IsIn al (box_names bs)
  named = first_named al bs (splitting.point r.program (slice_index t.config.next l.worker) l a.site a.change a.makes n al is_split.choice makes.0 makes.1.2 makes.1.3 is_split.is_choice).first

  alternative : IsAlternativeAt al g a.site t.config.roots
  alternative = alternative_at t.config.roots s.once al g a.site o bs home_was held named

  its_row : (v : BoxRow) × (T.box_of al ≡ Some v) × IsBoxRow T t.config.roots alternative.found v
  its_row = row_of T t.config t.unfolds al alternative.found alternative.is_found

  held_by_choice : writes.holder_in_row (T.box_of al) ≡ Some g
  held_by_choice = row_holder (T.box_of al) its_row.0 its_row.1 ∙ its_row.2.holder
      ∙ ap (λ (m : Name). holder_in m t.config.roots) (sym (box-itself al t.config.roots alternative.found alternative.is_found)) ∙ alternative.holder

  -- what comes

  pub second_once : (m : Name) → times m second ≤ 1
  second_once = cutting.copy_once rules r.program r.query r.journal t.config l d t.replays a g al o Operator.commit bs second is_goal held boxes_are

  nowhere : (m : Name) → 1 ≤ times m second → times m t.config.roots ≡ 0
  nowhere = cutting.copy_nowhere rules r.program r.query r.journal t.config l d t.replays a g al o Operator.commit bs second is_goal held boxes_are

  abbrev under : Found → Found
  under f = record f { around = a.site.around ++ f.around }

  pub copy_there : (f : Found) → Stands f second → Stands (under f) d.roots
  copy_there f = cutting.copy_stands rules r.program r.query r.journal t.config l d t.replays a g al o Operator.commit bs second is_goal held boxes_are f.around f.content f.goals

  abbrev Copied : Name → ℕ → Type 0
  Copied i number = IsGoalCopied r.program.templates.nodes (environment a.site) second second_once copies is_split.copied number i (copied_goal_of number copies i)

  comes : Comes t.config d (part_boxes (copy_parts copies)) (part_goals (copy_parts copies))
  comes = record { box_in = box_in; in_box = in_box; goal_in = goal_in; in_goal = in_goal }
    where
      box_in : (m : Name) (f : Found) → box_at m t.config.roots ≡ None → box_at m d.roots ≡ Some f → IsIn m (part_boxes (copy_parts copies))
      box_in m f i j = elim (cutting.was_there rules r.program r.query r.journal t.config l d t.replays a g al o Operator.commit bs second is_goal held boxes_are m f j) [
        | inl w ↦ absurd (some_none i w.1)
        | inr c ↦
            let e : box_at m second ≡ Some (record f { around = c.rest }) = named_found second second_once m (record f { around = c.rest }) c.stands (box-itself m d.roots f j) in
            let w : (v : BoxCopy) × (copy_among copies m ≡ Some v) × IsCopy r.program.templates.nodes (environment a.site) second (record f { around = c.rest }) v =
            copy_of r.program.templates.nodes (environment a.site) second second_once copies is_split.copied m (record f { around = c.rest }) e in
            copy_box_in copies m w.0 w.1
      ]

      in_box : (m : Name) → IsIn m (part_boxes (copy_parts copies)) → (box_at m t.config.roots ≡ None) × ((f : Found) × (box_at m d.roots ≡ Some f))
      in_box m i =
          let v : (v : BoxCopy) × (copy_among copies m ≡ Some v) = in_copy_box copies m i in
          let w : (f : Found) × (box_at m second ≡ Some f) × IsCopy r.program.templates.nodes (environment a.site) second f v.0 =
          box_of r.program.templates.nodes (environment a.site) second second_once copies is_split.copied m v.0 v.1 in
          let e : m ≡ w.0.content.name = box-itself m second w.0 w.1 in
          let z : 1 ≤ times m second = subst (λ (j : Name). 1 ≤ times j second) (sym e) (in_named second w.0 (found_in m second w.0 w.1)) in
          (box_at-none m t.config.roots (nowhere m z), (under w.0, named_found d.roots later.once m (under w.0) (copy_there w.0 (found_in m second w.0 w.1)) e))

      goal_in : (i : Name) (f : Found) → home_of i t.config.roots ≡ None → home_of i d.roots ≡ Some f → IsIn i (part_goals (copy_parts copies))
      goal_in i f y z = elim (cutting.was_home rules r.program r.query r.journal t.config l d t.replays a g al o Operator.commit bs second is_goal held boxes_are i f z) [
        | inl w ↦ absurd (some_none y w.1)
        | inr c ↦
            let h : HasGoal i f.goals = (home_in i d.roots f z).1 in
            let e : home_of i second ≡ Some (record f { around = c.rest }) = in_home i h.0 second (record f { around = c.rest }) second_once c.stands h.1 in
            elim (goal_copied r.program.templates.nodes (environment a.site) second second_once copies is_split.copied 0 i) [
              | inl q ↦ absurd (some_none q.1 e)
              | inr q ↦ copy_goal_in 0 copies i q.row q.there
            ]
      ]

      in_goal : (i : Name) → IsIn i (part_goals (copy_parts copies)) → (home_of i t.config.roots ≡ None) × ((f : Found) × (home_of i d.roots ≡ Some f))
      in_goal i j =
          let v : (v : GoalRow) × (copied_goal_of 0 copies i ≡ Some v) = in_copy_goal 0 copies i j in
          elim (goal_copied r.program.templates.nodes (environment a.site) second second_once copies is_split.copied 0 i) [
            | inl q ↦ absurd (some_none q.0 v.1)
            | inr q ↦ on q
          ]
        where
          on : Copied i 0 → (home_of i t.config.roots ≡ None) × ((f : Found) × (home_of i d.roots ≡ Some f))
          on q =
              let stands : Stands q.home second = (home_in i second q.home q.is_home).0 in
              let z : 1 ≤ times i second = home_counted i q.held q.home.around q.home.content q.home.goals second stands q.is_held in
              (home_of-none i t.config.roots (nowhere i z), (under q.home, in_home i q.held d.roots (under q.home) later.once (copy_there q.home stands) q.is_held))

  module _ (x : Around) (k : IsAround T l x) where
    pub choice_is : x.choice ≡ Some g
    choice_is = k.choice al makes.1.3 ∙ held_by_choice

    -- what holds the box

    differs : (h : Holder) → x.holder ≡ Some h → shape_at h.goal t.config.roots ≡ shape_at h.goal d.roots → ⊥
    differs h e q = after_differs a.site.content.name copy (box_names by.alternatives) by.among
        (names ∙ beside.names_now rules r.program r.query r.journal t.config l d t.replays a copy two h.goal by)
      where
        by : IsHeldBy a.site.content.name h.goal a.site t.config.roots
        by = site.held_by rules r T l d t a x k h e

        is : shape_at h.goal d.roots ≡ Some (of_choice by.op (box_names (edited a.site.content.name a.change.boxes by.alternatives)))
        is = shape_held h.goal d.roots (beside.home_now rules r.program r.query r.journal t.config l d t.replays a copy two h.goal by) (a_choice by.op (edited a.site.content.name a.change.boxes by.alternatives))
            (beside.is_home_now rules r.program r.query r.journal t.config l d t.replays a copy two h.goal by) (beside.held_now rules r.program r.query r.journal t.config l d t.replays a copy two h.goal by)

        was : shape_at h.goal t.config.roots ≡ Some (of_choice by.op (box_names by.alternatives))
        was = shape_held h.goal t.config.roots by.home (a_choice by.op by.alternatives) by.is_home by.held

        names : box_names by.alternatives ≡ box_names (edited a.site.content.name a.change.boxes by.alternatives)
        names = let z : Some (of_choice by.op (box_names by.alternatives)) ≡ Some (of_choice by.op (box_names (edited a.site.content.name a.change.boxes by.alternatives))) = sym was ∙ q ∙ is in cc

    holders : AreHolders t a (holder_places x.holder)
    holders = held_by.holders rules r T l d t a x k differs

    pub was_split : AreExactly t.config d (listed l.place x (splits copy copies))
    was_split = subst (λ (c : Option Name). AreExactly t.config d (choice_place c ++ (Place.Box x.home ∷ (holder_places x.holder ++ copy_places copies)))) (sym choice_is)
        (subst (λ (ps : List Place). AreExactly t.config d (Place.Goal g ∷ Place.Box x.home ∷ (holder_places x.holder ++ ps))) (sym (copy_parts_places copies))
        (turns.exactly rules r T l d t a x k g is_goal at there same (holder_places x.holder) holders (copy_parts copies) comes))
