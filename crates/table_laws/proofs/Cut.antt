-- A cut leads from table to table: alternatives have gone, with all that stood in them.
use Rattle.std.proofs.Common.{◌≡◌, ℕ, ◌+◌, ◌≤◌, List, Bool, true, false, Option, Some, None, refl, sym, ◌∙◌, ap, subst, ◌⊎◌, inl, inr}
use Rattle.std.specs.Prelude.{option_map, option_and_then, slice_index}
use Rattle.akl_terms.specs.declared.name.Name.{Name}
use Rattle.akl_terms.specs.declared.name.Place.{Place}
use Rattle.akl_model.specs.Config.{Operator}
use Rattle.akl_terms.specs.declared.program.Program.{Program}
use Rattle.akl_terms.specs.Names.{same_name}
use Rattle.akl_terms.proofs.SameNames.{same_name-equal, same_name-refl}
use Rattle.akl_model.specs.declared.label.Rule.{Rule}
use Rattle.akl_model.specs.declared.label.Label.{Label}
use Rattle.akl_model.specs.Config.{Content, Boxes, no_boxes, box, Config, Held, a_choice, held_in, with_content, Found, box_at, home_of}
use Rattle.akl_model.specs.Rules.{Reading, Change, becomes, kept_by, cut, change_by}
use Rattle.akl_model.specs.Derivations.{Applies}
use Rattle.akl_model.specs.Changes.{of_choice, shape_of, shape_at, box_names, goal_names, constraint_of}
use Rattle.akl_model.proofs.Options.{none_or, none_where, some_value}
use Rattle.akl_model.proofs.Finds.{times_inside}
use Rattle.akl_model.proofs.NamesKept.{Stand, replay-stands, stands_after}
use Rattle.step_laws.specs.ChangedItems.{goal_of, IsReplaced}
use Rattle.step_laws.proofs.Whereabouts.{found_in}
use Rattle.step_laws.proofs.Becomes.{Becomes}
use Rattle.step_laws.proofs.Steps.{site_now, found}
use Rattle.step_laws.proofs.Stays.{shape_held}
use Rattle.table_laws.specs.Rows.{BoxRow, GoalRow, Table}
use Rattle.table_laws.specs.Unfolds.{FailsBy, IsBoxRow, spot_of}
use Rattle.table_laws.specs.Stamped.{Run, followed_by, IsTableOf}
use Rattle.table_laws.specs.Steps.{cuts, CutsGoal, Makes}
use Rattle.table_laws.specs.Writes.{names_cut, cut_shape, cut_in, cut_from, cut_row, IsCut, IsGoalCut, Cuts, Leads}
use Rattle.table_laws.proofs.Sets.{other_by, set_here, set_other}
use Rattle.table_laws.proofs.Stores.{IsAsTold}
use Rattle.table_laws.proofs.Along as along
use Rattle.table_laws.proofs.Frame.{row_of, neither, KeepsRows, KeepsBoxes}
use Rattle.table_laws.proofs.Onward.{GoalGoes, LeadsOn, site_same, fails_as}
use Rattle.table_laws.proofs.Marked.{led}
use Rattle.table_laws.proofs.Insides.{spot_held, spot_none, goal_row}
use Rattle.table_laws.proofs.Gone.{goals_once}
use Rattle.table_laws.proofs.Kept.{kept_names, kept_fails}
use Rattle.table_laws.proofs.Cutting as cutting
use Rattle.table_laws.proofs.Going.{AreGoing}
use Rattle.table_laws.proofs.CutAway as away

-- the change of a cut
cut_change : (p : Program) (v : Reading) (w next : ℕ) (r : Rule) (place : Place) (alternative : Option Name) (g n : Name) (f : Found) (c : Change) (o : Operator) (bs : Boxes) → r ≡ Rule.Cut → place ≡ Place.Goal g
    → alternative ≡ Some n → change_by p v w next r place alternative f ≡ Some c → held_in g f.goals ≡ Some (a_choice o bs) → c ≡ becomes f.content (with_content g (a_choice o (kept_by o n bs)) f.goals) 0
cut_change p v w next r place alternative g n f c o bs q e x h held = sym (some_value (subst (λ (k : Option Held). cut g n f k ≡ Some c) held made))
  where
    made : cut g n f (held_in g f.goals) ≡ Some c
    made = sym (λ i. change_by p v w next (q i) (e i) (x i) f) ∙ h

module _ (rules : List Rule) (r : Run) (T : Table) (l : Label) (d : Config) (t : IsTableOf rules r T) (a : Applies rules r.program t.config l d) (g n : Name) (rule : l.rule ≡ Rule.Cut) (place : l.place ≡ Place.Goal g)
    (names : l.alternative ≡ Some n) (made : CutsGoal a.site g n) where
  abbrev o : Operator
  o = made.operator

  abbrev bs : Boxes
  bs = made.alternatives

  s : Stand t.config
  s = replay-stands rules r.program r.query r.journal t.config t.replays

  later : Stand d
  later = stands_after rules r.program t.config l d s a

  change_is : a.change ≡ becomes a.site.content (with_content g (a_choice o (kept_by o n bs)) a.site.goals) 0
  change_is = cut_change r.program a.makes.reading l.worker (slice_index t.config.next l.worker) l.rule l.place l.alternative g n a.site a.change o bs rule place names a.makes.change made.held

  boxes_are : a.change.boxes ≡ box a.site.content (with_content g (a_choice o (kept_by o n bs)) a.site.goals) no_boxes
  boxes_are = ap (λ (k : Change). k.boxes) change_is

  none_drawn : a.change.drawn ≡ 0
  none_drawn = ap (λ (k : Change). k.drawn) change_is

  at_goal : goal_of l.place l.alternative a.site ≡ Some g
  at_goal = ap (λ (x : Place). goal_of x l.alternative a.site) place

  -- where boxes stand

  abbrev b : Becomes l.worker (slice_index t.config.next l.worker) a.site a.change
  b = cutting.cuts_to rules r.program r.query r.journal t.config l d t.replays a g n o o bs no_boxes at_goal made.held boxes_are

  was_there : box_at a.site.content.name t.config.roots ≡ Some a.site
  was_there = found rules r.program t.config l d s a

  now_there : box_at a.site.content.name d.roots ≡ Some (site_now b)
  now_there = cutting.now_there rules r.program r.query r.journal t.config l d t.replays a g n o o bs no_boxes at_goal made.held boxes_are

  home_was : home_of g t.config.roots ≡ Some a.site
  home_was = cutting.home_was rules r.program r.query r.journal t.config l d t.replays a g n o o bs no_boxes at_goal made.held boxes_are

  home_now : home_of g d.roots ≡ Some (site_now b)
  home_now = cutting.home_now rules r.program r.query r.journal t.config l d t.replays a g n o o bs no_boxes at_goal made.held boxes_are

  content_now : b.content ≡ a.site.content
  content_now = cutting.content_now rules r.program r.query r.journal t.config l d t.replays a g n o o bs no_boxes at_goal made.held boxes_are

  names_now : goal_names b.goals ≡ goal_names a.site.goals
  names_now = cutting.names_now rules r.program r.query r.journal t.config l d t.replays a g n o o bs no_boxes at_goal made.held boxes_are

  held_now : held_in g b.goals ≡ Some (a_choice o (kept_by o n bs))
  held_now = cutting.held_now rules r.program r.query r.journal t.config l d t.replays a g n o o bs no_boxes at_goal made.held boxes_are

  others_now : (i : Name) → same_name i g ≡ false → held_in i b.goals ≡ held_in i a.site.goals
  others_now = cutting.others_now rules r.program r.query r.journal t.config l d t.replays a g n o o bs no_boxes at_goal made.held boxes_are

  differs : shape_of (a_choice o bs) ≡ shape_of (a_choice o (kept_by o n bs)) → ⊥
  differs = cutting.differs rules r.program r.query r.journal t.config l d t.replays a g n o o bs no_boxes at_goal made.held boxes_are

  not_replaced : IsReplaced a → ⊥
  not_replaced = cutting.not_replaced rules r.program r.query r.journal t.config l d t.replays a g n o o bs no_boxes at_goal made.held boxes_are refl

  same_roots : box_names t.config.roots ≡ box_names d.roots
  same_roots = along.same_roots rules r.program t.config l d s a not_replaced

  abbrev IsUnderCut : Found → Type 0
  IsUnderCut e = cutting.IsUnderCut rules r.program r.query r.journal t.config l d t.replays a g n o o bs no_boxes at_goal made.held boxes_are e

  -- the goal's row, and what goes by rows

  its_row : (row : GoalRow) × (T.goal_of g ≡ Some row) × (row.home ≡ a.site.content.name) × (row.shape ≡ of_choice o (box_names bs))
  its_row = goal_row T t.config t.unfolds s.once g a.site (a_choice o bs) home_was made.held

  cut_names : cut_from n (T.goal_of g) ≡ names_cut o n (box_names bs)
  cut_names = ap (cut_from n) its_row.1 ∙ ap (cut_in n) its_row.3

  is_cut : (k : Name) (e : Found) → box_at k t.config.roots ≡ Some e → IsUnderCut e → IsCut T g n k
  is_cut = away.is_cut rules r.program r.query r.journal t.config l d t.replays a g n o o bs no_boxes at_goal made.held boxes_are T t.unfolds (cut_from n (T.goal_of g)) cut_names

  not_cut : (k : Name) (e h : Found) → box_at k t.config.roots ≡ Some e → box_at k d.roots ≡ Some h → IsCut T g n k → ⊥
  not_cut = away.not_cut rules r.program r.query r.journal t.config l d t.replays a g n o o bs no_boxes at_goal made.held boxes_are T t.unfolds (cut_from n (T.goal_of g)) cut_names

  not_cut_none : (k : Name) → box_at k t.config.roots ≡ None → IsCut T g n k → ⊥
  not_cut_none = away.not_cut_none rules r.program r.query r.journal t.config l d t.replays a g n o o bs no_boxes at_goal made.held boxes_are T t.unfolds (cut_from n (T.goal_of g)) cut_names

  is_goal_cut : (i : Name) (e : Found) → home_of i t.config.roots ≡ Some e → IsUnderCut e → IsGoalCut T g n i
  is_goal_cut = away.is_goal_cut rules r.program r.query r.journal t.config l d t.replays a g n o o bs no_boxes at_goal made.held boxes_are T t.unfolds (cut_from n (T.goal_of g)) cut_names

  not_goal_cut : (i : Name) (e h : Found) → home_of i t.config.roots ≡ Some e → home_of i d.roots ≡ Some h → IsGoalCut T g n i → ⊥
  not_goal_cut = away.not_goal_cut rules r.program r.query r.journal t.config l d t.replays a g n o o bs no_boxes at_goal made.held boxes_are T t.unfolds (cut_from n (T.goal_of g)) cut_names

  not_goal_cut_none : (i : Name) → home_of i t.config.roots ≡ None → IsGoalCut T g n i → ⊥
  not_goal_cut_none = away.not_goal_cut_none rules r.program r.query r.journal t.config l d t.replays a g n o o bs no_boxes at_goal made.held boxes_are T t.unfolds (cut_from n (T.goal_of g)) cut_names

  -- the alternatives that are cut go with all inside them, and nothing else
  pub cut_going : (Own : Name → Type 0) → ((i : Name) → Own i → ⊥) → AreGoing T t.config d (cut_from n (T.goal_of g)) Own
  cut_going = away.cut_away rules r.program r.query r.journal t.config l d t.replays a g n o o bs no_boxes at_goal made.held boxes_are T t.unfolds (cut_from n (T.goal_of g)) cut_names

  module _ (U : Table) (f : Cuts T U g n) where
    -- rows of boxes

    keeps : KeepsRows a T U
    keeps = record {
      nodes = f.nodes;
      steps = f.steps;
      rows = λ k e h row other i j x.
          let w : (v : BoxRow) × (T.box_of k ≡ Some v) × IsBoxRow T t.config.roots e v = row_of T t.config t.unfolds k e i in
          let same : w.0 ≡ row = some_value (sym w.1 ∙ x) in (
            row.failing,
            f.box_stays k (not_cut k e h i j) ∙ x,
            fails_as rules r.program r.query r.journal t.config l d t.replays a T U t.unfolds k e h row.failing other i j
                (λ v y cs replaced z u. not_replaced replaced)
                (subst (λ (v : BoxRow). FailsBy e.goals v.failing) same w.2.failing),
          );
    }

    site_was : (v : BoxRow) × (T.box_of a.site.content.name ≡ Some v) × IsBoxRow T t.config.roots a.site v
    site_was = row_of T t.config t.unfolds a.site.content.name a.site was_there

    site_has : U.box_of a.site.content.name ≡ Some site_was.0
    site_has = f.box_stays a.site.content.name (not_cut a.site.content.name a.site (site_now b) was_there now_there) ∙ site_was.1

    few : (i : Name) → times_inside i b.goals ≤ 1
    few i = goals_once d.roots later.once (site_now b) (found_in a.site.content.name d.roots (site_now b) now_there) i

    site_row : IsBoxRow U d.roots (site_now b) site_was.0 × IsAsTold T U a.site.content.name
    site_row = site_same rules r.program r.query r.journal t.config l d t.replays a T U t.unfolds keeps b content_now names_now site_was.0 site_was.0.failing site_was.1 site_has
        (kept_fails g o o n bs a.site.goals b.goals site_was.0.failing few made.named made.held held_now others_now site_was.2.failing)

    boxes : KeepsBoxes a T U
    boxes = record {
      keeps = keeps;
      site = λ h j. (site_was.0, site_has, subst (λ (k : Found). IsBoxRow U d.roots k site_was.0) (some_value (sym now_there ∙ j)) site_row.0, inl site_row.1);
    }

    gone_box : (k : Name) → box_at k d.roots ≡ None → U.box_of k ≡ None
    gone_box k j = on (none_or (box_at k t.config.roots))
      where
        on : (box_at k t.config.roots ≡ None) ⊎ ((e : Found) × (box_at k t.config.roots ≡ Some e)) → U.box_of k ≡ None
        on (inl i) = f.box_stays k (not_cut_none k i) ∙ neither (IsBoxRow T t.config.roots) (box_at k t.config.roots) (T.box_of k) (t.unfolds.boxes k) i
        on (inr (e, i)) = elim (cutting.stays_or rules r.program r.query r.journal t.config l d t.replays a g n o o bs no_boxes at_goal made.held boxes_are k e i) [
          | inl w ↦ (let z : box_at k d.roots ≡ Some w.0 = w.1 in cc)
          | inr x ↦ f.box_goes k (is_cut k e i x)
        ]

    -- rows of goals

    abbrev number : ℕ
    number = T.steps + 1

    goal_rows : (i : Name) → (IsGoalCut T g n i → ⊥) → same_name i g ≡ false → U.goal_of i ≡ T.goal_of i
    goal_rows i h e = f.goal_stays i h ∙ set_other g i (option_map (cut_row n number) (T.goal_of g)) T.goal_of e

    no_shape : (i : Name) (cs : Boxes) → home_of i cs ≡ None → shape_at i cs ≡ None
    no_shape i cs e = ap (option_and_then (λ (x : Found). option_map shape_of (held_in i x.goals))) e

    itself : GoalGoes T U t.config d g
    itself = inr (
      ap (option_map spot_of) row_is ∙ (λ k. Some (record { home = home k; shape = shape k })) ∙ sym (spot_held g d.roots (site_now b) (a_choice o (kept_by o n bs)) home_now held_now),
      λ row e. (ap (λ (w : GoalRow). w.changed) (some_value (sym e ∙ row_is)), λ q. differs (some_value (sym before ∙ q ∙ afterwards))),
    )
      where
        row_is : U.goal_of g ≡ Some (cut_row n number its_row.0)
        row_is = f.goal_stays g (not_goal_cut g a.site (site_now b) home_was home_now) ∙ set_here g g (option_map (cut_row n number) (T.goal_of g)) T.goal_of (same_name-refl g) ∙ ap (option_map (cut_row n number)) its_row.1

        home : its_row.0.home ≡ b.content.name
        home = its_row.2 ∙ ap (λ (k : Content). k.name) (sym content_now)

        shape : cut_shape n its_row.0.shape ≡ of_choice o (box_names (kept_by o n bs))
        shape = ap (cut_shape n) its_row.3 ∙ ap (of_choice o) (sym (kept_names o n bs))

        before : shape_at g t.config.roots ≡ Some (shape_of (a_choice o bs))
        before = shape_held g t.config.roots a.site (a_choice o bs) home_was made.held

        afterwards : shape_at g d.roots ≡ Some (shape_of (a_choice o (kept_by o n bs)))
        afterwards = shape_held g d.roots (site_now b) (a_choice o (kept_by o n bs)) home_now held_now

    goal_goes : (i : Name) → GoalGoes T U t.config d i
    goal_goes i = on (none_or (home_of i t.config.roots))
      where
        absent : home_of i t.config.roots ≡ None → home_of i d.roots ≡ None
        absent x = none_where (home_of i d.roots) (λ h y. elim (cutting.was_home rules r.program r.query r.journal t.config l d t.replays a g n o o bs no_boxes at_goal made.held boxes_are i h y) [
          | inl w ↦ (let z : home_of i t.config.roots ≡ Some w.0 = w.1 in cc)
          | inr z ↦ z.stands
        ])

        apart_from : home_of i t.config.roots ≡ None → i ≡ g → ⊥
        apart_from x e = let y : home_of i t.config.roots ≡ Some a.site = ap (λ (k : Name). home_of k t.config.roots) e ∙ home_was in cc

        under : (e : Found) → home_of i t.config.roots ≡ Some e → IsUnderCut e → home_of i d.roots ≡ None
        under e x y = none_where (home_of i d.roots) (λ h z. cutting.home_apart rules r.program r.query r.journal t.config l d t.replays a g n o o bs no_boxes at_goal made.held boxes_are i e h x z y.one y.goes y.down)

        gone : home_of i d.roots ≡ None → U.goal_of i ≡ None → GoalGoes T U t.config d i
        gone x y = inr (ap (option_map spot_of) y ∙ sym (spot_none i d.roots x), λ row z. absurd cc)

        stays : (e h : Found) → home_of i t.config.roots ≡ Some e → home_of i d.roots ≡ Some h → (v : Bool) → same_name i g ≡ v → GoalGoes T U t.config d i
        stays e h x y true z = subst (GoalGoes T U t.config d) (sym (same_name-equal i g z)) itself
        stays e h x y false z = inl (goal_rows i (not_goal_cut i e h x y) z, cutting.same_shape rules r.program r.query r.journal t.config l d t.replays a g n o o bs no_boxes at_goal made.held boxes_are i e h z (λ k w cs replaced u v j. not_replaced replaced) x y)

        on : (home_of i t.config.roots ≡ None) ⊎ ((e : Found) × (home_of i t.config.roots ≡ Some e)) → GoalGoes T U t.config d i
        on (inl x) = inl (goal_rows i (not_goal_cut_none i x) (other_by i g (apart_from x)), no_shape i t.config.roots x ∙ sym (no_shape i d.roots (absent x)))
        on (inr (e, x)) = elim (cutting.home_or rules r.program r.query r.journal t.config l d t.replays a g n o o bs no_boxes at_goal made.held boxes_are i e x) [
          | inl w ↦ stays e w.0 x w.1 (same_name i g) refl
          | inr y ↦ gone (under e x y) (f.goal_goes i (is_goal_cut i e x y))
        ]

    no_new : (k : Name) (h : Found) → box_at k t.config.roots ≡ None → box_at k d.roots ≡ Some h → ⊥
    no_new k h i j = elim (cutting.was_there rules r.program r.query r.journal t.config l d t.replays a g n o o bs no_boxes at_goal made.held boxes_are k h j) [
      | inl w ↦ (let z : box_at k t.config.roots ≡ Some w.0 = w.1 in cc)
      | inr z ↦ z.stands
    ]

    pub leads_on : LeadsOn a T U
    leads_on = record {
      boxes = boxes;
      site_marks = λ v k i j.
          let x : v ≡ site_was.0 = some_value (sym i ∙ site_was.1) in
          let y : k ≡ site_was.0 = some_value (sym j ∙ site_has) in (
            inl (
              ap (λ (w : BoxRow). w.changed) (y ∙ sym x),
              λ h. h (ap (option_map constraint_of) was_there ∙ ap (λ (w : Content). Some (record { frames = w.frames; equations = w.equations; ports = w.ports })) (sym content_now)
                  ∙ sym (ap (option_map constraint_of) now_there)),
            ),
            inl (
              ap (λ (w : BoxRow). w.goals_changed) (y ∙ sym x),
              λ h. h (ap (option_map (λ (e : Found). goal_names e.goals)) was_there ∙ ap Some (sym names_now) ∙ sym (ap (option_map (λ (e : Found). goal_names e.goals)) now_there)),
            ),
          );
      new_boxes = λ k h i j. absurd (no_new k h i j);
      gone_boxes = gone_box;
      goals = goal_goes;
      roots = f.roots ∙ t.unfolds.roots ∙ same_roots;
      root_mark = inl (f.roots_changed, λ h. h same_roots);
      next = λ w. f.next w ∙ t.unfolds.next w ∙ along.same_next rules r.program t.config l d s a none_drawn w;
    }

-- the step of a cut leads to a table of the run that goes on with the label
pub cut_step : (rules : List Rule) (r : Run) (T U : Table) (l : Label) (d : Config) (t : IsTableOf rules r T) (a : Applies rules r.program t.config l d) (at : Option ℕ)
    → Makes r.program l (slice_index t.config.next l.worker) a.site cuts → Leads T l at a.change.drawn cuts U → (u : IsTableOf rules (followed_by r l) U) × (u.config ≡ d)
cut_step rules r T U l d t a at makes leads = led rules r T U l d t a (leads_on rules r T l d t a makes.1.0 makes.1.1 makes.0 makes.1.2 makes.1.3 makes.1.4 U
    (subst (λ (x : Option Name). Leads T (record l { place = Place.Goal makes.1.0; alternative = x }) at a.change.drawn cuts U) makes.1.3
    (subst (λ (u : Place). Leads T (record l { place = u }) at a.change.drawn cuts U) makes.1.2 leads)))
