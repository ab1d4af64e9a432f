-- Rows of boxes after a split: a choice keeps an alternative alone, and a copy without it has come after the box.
use Rattle.std.proofs.Common.{◌≡◌, ℕ, ◌+◌, ◌≤◌, List, [], ◌∷◌, ◌++◌, Bool, true, false, Option, Some, None, refl, sym, ◌∙◌, ap, subst, ◌⊎◌, inl, inr, arith}
use Rattle.std.specs.Prelude.{option_map, slice_index}
use Rattle.akl_terms.specs.declared.name.Name.{Name}
use Rattle.akl_terms.specs.declared.name.Place.{Place}
use Rattle.akl_terms.specs.declared.term.Node.{Node}
use Rattle.akl_model.specs.Config.{Operator}
use Rattle.akl_terms.specs.Equal.{IsTold}
use Rattle.akl_terms.specs.Standing.{StandFor}
use Rattle.akl_model.specs.declared.label.Rule.{Rule}
use Rattle.akl_model.specs.declared.label.Label.{Label}
use Rattle.akl_model.specs.Config.{IsIn, Boxes, box, Config, Held, a_choice, held_in, with_content, Found, environment, or_else, box_at, home_of, site_of}
use Rattle.akl_model.specs.Renaming.{sorted_names, renaming}
use Rattle.akl_model.specs.Rules.{alone}
use Rattle.akl_model.specs.Conditions.{HasFailed}
use Rattle.akl_model.specs.Derivations.{Applies}
use Rattle.akl_model.specs.Changes.{of_choice, box_names, goal_names}
use Rattle.akl_model.specs.Wakes.{names_around, names_down_to, holder_in}
use Rattle.akl_model.proofs.Options.{none_or, none_where, some_value}
use Rattle.akl_model.proofs.Finds.{times, times_inside, box_at-none, box_at-some}
use Rattle.akl_model.proofs.NamesKept.{Stand, replay-stands, stands_after, box-itself}
use Rattle.local_store.specs.Stored.{Stored}
use Rattle.local_store.specs.Chained.{IsSolvedChain}
use Rattle.step_laws.specs.ChangedItems.{goal_of}
use Rattle.step_laws.specs.Holders.{IsHeldBy, IsAlternativeAt}
use Rattle.step_laws.proofs.Whereabouts.{found_in, home_in, in_home}
use Rattle.step_laws.proofs.Deeper.{named_found}
use Rattle.step_laws.proofs.Becomes.{Becomes}
use Rattle.step_laws.proofs.Steps.{site_now, site_once, found}
use Rattle.step_laws.proofs.Holders.{alternative_at, held_or, root_named}
use Rattle.table_laws.specs.Rows.{BoxRow, GoalRow, Table, store_in, stores_along}
use Rattle.table_laws.specs.Unfolds.{FailsBy, StaysSolved, IsBoxRow}
use Rattle.table_laws.specs.Stamped.{Run, IsTableOf}
use Rattle.table_laws.specs.Steps.{BoxCopy, splits, copy_among, IsCopy, SplitsBox, rest_of, second_of, AreAround, IsSolvedWhen}
use Rattle.table_laws.specs.Writes.{less_name, solved_when, holder_in_row, others_beside, others_from, others_in, IsInsideOne, IsGoalInsideOne, goal_at, copied_row, Splits}
use Rattle.table_laws.proofs.Sets.{not_some}
use Rattle.table_laws.proofs.Stores.{told_along, IsAsTold, same_stores}
use Rattle.table_laws.proofs.Frame.{row_of, neither, around_stands, KeepsRows, KeepsBoxes, site_around, same_told}
use Rattle.table_laws.proofs.Onward.{site_same}
use Rattle.table_laws.proofs.Insides.{goal_row}
use Rattle.table_laws.proofs.Gone.{goals_once}
use Rattle.table_laws.proofs.Kept.{kept_fails}
use Rattle.table_laws.proofs.Unfailing.{copy_unfailed}
use Rattle.table_laws.proofs.Copies.{found_among, copy_of, no_copy, box_of}
use Rattle.table_laws.proofs.RestBoxes.{first_named}
use Rattle.table_laws.proofs.Splitting as splitting
use Rattle.table_laws.proofs.Cutting as cutting
use Rattle.table_laws.proofs.Going.{AreGoing}
use Rattle.table_laws.proofs.CutAway as away
use Rattle.table_laws.proofs.CopyRows as rows
use Rattle.table_laws.proofs.Beside as beside

module _ (rules : List Rule) (r : Run) (T : Table) (l : Label) (d : Config) (t : IsTableOf rules r T) (a : Applies rules r.program t.config l d) (n al copy : Name) (copies : List BoxCopy)
    (rule : l.rule ≡ Rule.Split) (place : l.place ≡ Place.Box n) (names : l.alternative ≡ Some al)
    (made : SplitsBox r.program.templates.nodes l.worker (slice_index t.config.next l.worker) a.site al copy copies) where
  abbrev pub g : Name
  g = made.choice.name

  abbrev pub o : Operator
  o = made.choice.op

  abbrev pub bs : Boxes
  bs = made.choice.alternatives

  abbrev pub second : Boxes
  second = second_of l.worker (slice_index t.config.next l.worker) al a.site made.choice

  abbrev pub number : ℕ
  number = T.steps + 1

  abbrev pub site : Name
  site = a.site.content.name

  s : Stand t.config
  s = replay-stands rules r.program r.query r.journal t.config t.replays

  later : Stand d
  later = stands_after rules r.program t.config l d s a

  -- what the label makes

  pub held : held_in g a.site.goals ≡ Some (a_choice o bs)
  held = splitting.choice_held r.program (slice_index t.config.next l.worker) l a.site a.change a.makes n al made.choice rule place names made.is_choice (site_once rules r.program t.config l d s a)

  pub at_goal : goal_of l.place l.alternative a.site ≡ Some g
  at_goal = splitting.at_choice r.program (slice_index t.config.next l.worker) l a.site a.change a.makes n al made.choice rule place names made.is_choice

  pub boxes_are : a.change.boxes ≡ box a.site.content (with_content g (a_choice o (alone al bs)) a.site.goals) second
  boxes_are = splitting.boxes_are r.program (slice_index t.config.next l.worker) l a.site a.change a.makes n al made.choice rule place names made.is_choice

  pub two : box_names a.change.boxes ≡ site ∷ copy ∷ []
  two = ap box_names boxes_are ∙ ap (λ (ns : List Name). site ∷ ns) made.named

  pub second_once : (m : Name) → times m second ≤ 1
  second_once = cutting.copy_once rules r.program r.query r.journal t.config l d t.replays a g al o Operator.commit bs second at_goal held boxes_are

  al_named : IsIn al (box_names bs)
  al_named = first_named al bs (splitting.point r.program (slice_index t.config.next l.worker) l a.site a.change a.makes n al made.choice rule place names made.is_choice).first

  pub name : n ≡ site
  name = box-itself n t.config.roots a.site (subst (λ (x : Place). site_of x t.config.roots ≡ Some a.site) place a.is_site)

  -- where boxes stand

  abbrev pub b : Becomes l.worker (slice_index t.config.next l.worker) a.site a.change
  b = cutting.cuts_to rules r.program r.query r.journal t.config l d t.replays a g al o Operator.commit bs second at_goal held boxes_are

  pub was_there : box_at site t.config.roots ≡ Some a.site
  was_there = found rules r.program t.config l d s a

  pub now_there : box_at site d.roots ≡ Some (site_now b)
  now_there = cutting.now_there rules r.program r.query r.journal t.config l d t.replays a g al o Operator.commit bs second at_goal held boxes_are

  pub home_was : home_of g t.config.roots ≡ Some a.site
  home_was = cutting.home_was rules r.program r.query r.journal t.config l d t.replays a g al o Operator.commit bs second at_goal held boxes_are

  pub home_now : home_of g d.roots ≡ Some (site_now b)
  home_now = cutting.home_now rules r.program r.query r.journal t.config l d t.replays a g al o Operator.commit bs second at_goal held boxes_are

  pub content_now : b.content ≡ a.site.content
  content_now = cutting.content_now rules r.program r.query r.journal t.config l d t.replays a g al o Operator.commit bs second at_goal held boxes_are

  pub names_now : goal_names b.goals ≡ goal_names a.site.goals
  names_now = cutting.names_now rules r.program r.query r.journal t.config l d t.replays a g al o Operator.commit bs second at_goal held boxes_are

  pub held_now : held_in g b.goals ≡ Some (a_choice o (alone al bs))
  held_now = cutting.held_now rules r.program r.query r.journal t.config l d t.replays a g al o Operator.commit bs second at_goal held boxes_are

  abbrev pub IsUnderCut : Found → Type 0
  IsUnderCut e = cutting.IsUnderCut rules r.program r.query r.journal t.config l d t.replays a g al o Operator.commit bs second at_goal held boxes_are e

  abbrev IsCopied : Found → Type 0
  IsCopied e = cutting.IsCopied rules r.program r.query r.journal t.config l d t.replays a g al o Operator.commit bs second at_goal held boxes_are e

  -- a box of the copy is new, and stands afterwards

  copied_new : (k : Name) (e : Found) → box_at k second ≡ Some e → box_at k t.config.roots ≡ None
  copied_new k e i = box_at-none k t.config.roots (cutting.copy_nowhere rules r.program r.query r.journal t.config l d t.replays a g al o Operator.commit bs second at_goal held boxes_are k (box_at-some k second e i))

  abbrev pub under : Found → Found
  under e = record e { around = a.site.around ++ e.around }

  copied_there : (k : Name) (e : Found) → box_at k second ≡ Some e → box_at k d.roots ≡ Some (under e)
  copied_there k e i = named_found d.roots later.once k (under e) (cutting.copy_stands rules r.program r.query r.journal t.config l d t.replays a g al o Operator.commit bs second at_goal held boxes_are e.around e.content e.goals (found_in k second e i)) (box-itself k second e i)

  pub copied_home : (k : Name) (e : Found) (h : Held) → home_of k second ≡ Some e → held_in k e.goals ≡ Some h → home_of k d.roots ≡ Some (under e)
  copied_home k e h i j = in_home k h d.roots (under e) later.once (cutting.copy_stands rules r.program r.query r.journal t.config l d t.replays a g al o Operator.commit bs second at_goal held boxes_are e.around e.content e.goals (home_in k second e i).0) j

  copied_found : (k : Name) (h : Found) → k ≡ h.content.name → (x : IsCopied h) → box_at k second ≡ Some (record h { around = x.rest })
  copied_found k h e x = named_found second second_once k (record h { around = x.rest }) x.stands e

  -- the choices of the alternative and of the box, by rows

  pub its_row : (row : GoalRow) × (T.goal_of g ≡ Some row) × (row.home ≡ site) × (row.shape ≡ of_choice o (box_names bs))
  its_row = goal_row T t.config t.unfolds s.once g a.site (a_choice o bs) home_was held

  row_holder : (k : Name) (e : Found) → box_at k t.config.roots ≡ Some e → holder_in_row (T.box_of k) ≡ holder_in k t.config.roots
  row_holder k e i =
      let w : (v : BoxRow) × (T.box_of k ≡ Some v) × IsBoxRow T t.config.roots e v = row_of T t.config t.unfolds k e i in
      ap holder_in_row w.1 ∙ w.2.holder ∙ ap (λ (m : Name). holder_in m t.config.roots) (sym (box-itself k t.config.roots e i))

  pub al_holder : holder_in_row (T.box_of al) ≡ Some g
  al_holder = let w : IsAlternativeAt al g a.site t.config.roots = alternative_at t.config.roots s.once al g a.site o bs home_was held al_named in row_holder al w.found w.is_found ∙ w.holder

  pub site_holder : holder_in_row (T.box_of n) ≡ holder_in site t.config.roots
  site_holder = ap (λ (m : Name). holder_in_row (T.box_of m)) name ∙ row_holder site a.site was_there

  other_names : others_beside T al ≡ less_name al (box_names bs)
  other_names = ap (λ (h : Option Name). others_from al (goal_at h T.goal_of)) al_holder ∙ ap (others_from al) its_row.1 ∙ ap (others_in al) its_row.3

  is_cut : (k : Name) (e : Found) → box_at k t.config.roots ≡ Some e → IsUnderCut e → IsInsideOne T (others_beside T al) k
  is_cut = away.is_cut rules r.program r.query r.journal t.config l d t.replays a g al o Operator.commit bs second at_goal held boxes_are T t.unfolds (others_beside T al) other_names

  not_cut : (k : Name) (e h : Found) → box_at k t.config.roots ≡ Some e → box_at k d.roots ≡ Some h → IsInsideOne T (others_beside T al) k → ⊥
  not_cut = away.not_cut rules r.program r.query r.journal t.config l d t.replays a g al o Operator.commit bs second at_goal held boxes_are T t.unfolds (others_beside T al) other_names

  not_cut_none : (k : Name) → box_at k t.config.roots ≡ None → IsInsideOne T (others_beside T al) k → ⊥
  not_cut_none = away.not_cut_none rules r.program r.query r.journal t.config l d t.replays a g al o Operator.commit bs second at_goal held boxes_are T t.unfolds (others_beside T al) other_names

  pub is_goal_cut : (i : Name) (e : Found) → home_of i t.config.roots ≡ Some e → IsUnderCut e → IsGoalInsideOne T (others_beside T al) i
  is_goal_cut = away.is_goal_cut rules r.program r.query r.journal t.config l d t.replays a g al o Operator.commit bs second at_goal held boxes_are T t.unfolds (others_beside T al) other_names

  pub not_goal_cut : (i : Name) (e h : Found) → home_of i t.config.roots ≡ Some e → home_of i d.roots ≡ Some h → IsGoalInsideOne T (others_beside T al) i → ⊥
  not_goal_cut = away.not_goal_cut rules r.program r.query r.journal t.config l d t.replays a g al o Operator.commit bs second at_goal held boxes_are T t.unfolds (others_beside T al) other_names

  pub not_goal_cut_none : (i : Name) → home_of i t.config.roots ≡ None → IsGoalInsideOne T (others_beside T al) i → ⊥
  not_goal_cut_none = away.not_goal_cut_none rules r.program r.query r.journal t.config l d t.replays a g al o Operator.commit bs second at_goal held boxes_are T t.unfolds (others_beside T al) other_names

  -- the other alternatives go with all inside them, and nothing else
  pub split_going : (Own : Name → Type 0) → ((i : Name) → Own i → ⊥) → AreGoing T t.config d (others_beside T al) Own
  split_going = away.cut_away rules r.program r.query r.journal t.config l d t.replays a g al o Operator.commit bs second at_goal held boxes_are T t.unfolds (others_beside T al) other_names

  module _ (U : Table) (at : Option ℕ) (solved : IsSolvedWhen at T a.site (splits copy copies)) (f : Splits T U n al copy copies at l.worker a.change.drawn) where
    -- rows of boxes that were there

    abbrev copied_when : Option ℕ
    copied_when = option_map (λ (k : ℕ). k + 1) at

    old_row : (k : Name) → (IsInsideOne T (others_beside T al) k → ⊥) → box_at k second ≡ None → U.box_of k ≡ T.box_of k
    old_row k h i = f.box_stays k h ∙ ap (λ (v : Option BoxCopy). or_else (option_map (copied_row (holder_in_row (T.box_of n)) copied_when number) v) (T.box_of k)) (no_copy r.program.templates.nodes (environment a.site) second second_once copies made.copied k i)

    not_copied : (k : Name) (e : Found) → box_at k t.config.roots ≡ Some e → box_at k second ≡ None
    not_copied k e i = none_where (box_at k second) (λ h j. not_some (sym (copied_new k h j) ∙ i))

    stays_row : (k : Name) (e h : Found) → box_at k t.config.roots ≡ Some e → box_at k d.roots ≡ Some h → U.box_of k ≡ T.box_of k
    stays_row k e h i j = old_row k (not_cut k e h i j) (not_copied k e i)

    keeps : KeepsRows a T U
    keeps = record {
      nodes = f.nodes;
      steps = f.steps;
      rows = λ k e h row other i j x.
          let w : (v : BoxRow) × (T.box_of k ≡ Some v) × IsBoxRow T t.config.roots e v = row_of T t.config t.unfolds k e i in
          let same : w.0 ≡ row = some_value (sym w.1 ∙ x) in
          (row.failing, stays_row k e h i j ∙ x, beside.fails_still rules r.program r.query r.journal t.config l d t.replays a copy two k e h row.failing i j other (subst (λ (v : BoxRow). FailsBy e.goals v.failing) same w.2.failing));
    }

    pub site_was : (v : BoxRow) × (T.box_of site ≡ Some v) × IsBoxRow T t.config.roots a.site v
    site_was = row_of T t.config t.unfolds site a.site was_there

    pub site_has : U.box_of site ≡ Some site_was.0
    site_has = stays_row site a.site (site_now b) was_there now_there ∙ site_was.1

    few : (i : Name) → times_inside i b.goals ≤ 1
    few i = goals_once d.roots later.once (site_now b) (found_in site d.roots (site_now b) now_there) i

    site_row : IsBoxRow U d.roots (site_now b) site_was.0 × IsAsTold T U site
    site_row = site_same rules r.program r.query r.journal t.config l d t.replays a T U t.unfolds keeps b content_now names_now site_was.0 site_was.0.failing site_was.1 site_has
        (kept_fails g o Operator.commit al bs a.site.goals b.goals site_was.0.failing few al_named held held_now (cutting.others_now rules r.program r.query r.journal t.config l d t.replays a g al o Operator.commit bs second at_goal held boxes_are) site_was.2.failing)

    pub boxes : KeepsBoxes a T U
    boxes = record {
      keeps = keeps;
      site = λ h j. (site_was.0, site_has, subst (λ (k : Found). IsBoxRow U d.roots k site_was.0) (some_value (sym now_there ∙ j)) site_row.0, inl site_row.1);
    }

    -- rows of the copies

    same_nodes : U.nodes ≡ r.program.templates.nodes
    same_nodes = f.nodes ∙ t.nodes

    as_around : (m : Name) → IsIn m (names_around a.site) → IsAsTold T U m
    as_around = site_around rules r.program r.query r.journal t.config l d t.replays a T U t.unfolds keeps b

    told_around : StandFor (IsTold (told_along U (names_around a.site))) (IsTold (environment a.site))
    told_around = subst (λ (E : _). StandFor (IsTold E) (IsTold (environment a.site))) (sym (same_told rules r.program r.query r.journal t.config l d t.replays a T U t.unfolds (names_around a.site) f.nodes as_around))
        (around_stands T t.config s t.unfolds site a.site was_there)

    new_row : (k : Name) (v : BoxCopy) → copy_among copies k ≡ Some v → U.box_of k ≡ Some (copied_row (holder_in_row (T.box_of n)) copied_when number v)
    new_row k v i =
        let w : (e : Found) × (box_at k second ≡ Some e) × IsCopy r.program.templates.nodes (environment a.site) second e v = box_of r.program.templates.nodes (environment a.site) second second_once copies made.copied k v i in
        f.box_stays k (not_cut_none k (copied_new k w.0 w.1)) ∙ ap (λ (x : Option BoxCopy). or_else (option_map (copied_row (holder_in_row (T.box_of n)) copied_when number) x) (T.box_of k)) i

    stored : (k : Name) (v : BoxCopy) → copy_among copies k ≡ Some v → store_in (U.box_of k) ≡ v.store
    stored k v i = ap store_in (new_row k v i)

    -- the copy of the box is held as the box is
    first_holder : holder_in copy d.roots ≡ holder_in site t.config.roots
    first_holder = on (held_or t.config.roots s.once site a.site was_there)
      where
        on : ((a.site.around ≡ []) × (holder_in site t.config.roots ≡ None)) ⊎ ((h : Name) × (holder_in site t.config.roots ≡ Some h) × IsHeldBy site h a.site t.config.roots) → holder_in copy d.roots ≡ holder_in site t.config.roots
        on (inl x) = beside.root_holder rules r.program r.query r.journal t.config l d t.replays a copy two (root_named t.config.roots s.once site a.site was_there x.0) ∙ sym x.1
        on (inr x) = beside.held_holder rules r.program r.query r.journal t.config l d t.replays a copy two x.0 x.2 ∙ sym x.1

    copied_holder : (k : Name) (e : Found) (v : BoxCopy) → box_at k second ≡ Some e → v.holder ≡ holder_in k second → or_else v.holder (holder_in_row (T.box_of n)) ≡ holder_in k d.roots
    copied_holder k e v i j = ap (λ (h : Option Name). or_else h (holder_in_row (T.box_of n))) j ∙ on (held_or second second_once k e i)
      where
        on : ((e.around ≡ []) × (holder_in k second ≡ None)) ⊎ ((h : Name) × (holder_in k second ≡ Some h) × IsHeldBy k h e second) → or_else (holder_in k second) (holder_in_row (T.box_of n)) ≡ holder_in k d.roots
        on (inl x) =
            let it : IsIn k (copy ∷ []) = subst (IsIn k) made.named (root_named second second_once k e i x.0) in
            ap (λ (h : Option Name). or_else h (holder_in_row (T.box_of n))) x.1 ∙ site_holder ∙ sym first_holder ∙ ap (λ (m : Name). holder_in m d.roots) (elim it [ inl q ↦ sym q | inr q ↦ absurd q ])
        on (inr (h, x, y)) =
            ap (λ (h : Option Name). or_else h (holder_in_row (T.box_of n))) x
            ∙ sym (alternative_at d.roots later.once k h (under y.home) y.op y.alternatives (copied_home h y.home (a_choice y.op y.alternatives) y.is_home y.held) y.held y.among).holder

    copied_solved : (e : Found) (v : BoxCopy) → box_at e.content.name second ≡ Some e → copy_among copies e.content.name ≡ Some v → v.holder ≡ holder_in e.content.name second
        → StaysSolved U (under e) (copied_row (holder_in_row (T.box_of n)) copied_when number v)
    copied_solved e v i j k = by at solved v.solved refl
      where
        path : rows.IsPath r.program.templates.nodes a.site.around second second_once copies made.copied U same_nodes told_around stored e
        path = rows.path r.program.templates.nodes a.site.around second second_once copies made.copied U same_nodes told_around stored e i

        its_name : e.content.name ≡ v.name
        its_name = (found_among copies e.content.name v j).1

        chain : IsSolvedChain T.nodes (stores_along T (names_around a.site) ++ (path.stores ++ v.store ∷ [])) → IsSolvedChain U.nodes (stores_along U (names_down_to (under e)))
        chain x = subst (IsSolvedChain U.nodes) (sym (rows.stores_under r.program.templates.nodes a.site.around second second_once copies made.copied U same_nodes told_around stored e v path j))
            (subst (λ (ms : List Node). IsSolvedChain ms (stores_along U (names_around a.site) ++ (path.stores ++ v.store ∷ []))) (sym f.nodes)
            (subst (λ (ss : List Stored). IsSolvedChain T.nodes (ss ++ (path.stores ++ v.store ∷ []))) (sym (same_stores T U (names_around a.site) (λ m y. (as_around m y).store))) x))

        never : (y : Bool) (z : ℕ) → solved_when None y ≡ Some z → ⊥
        never true z q = cc
        never false z q = cc

        by : (w : Option ℕ) → IsSolvedWhen w T a.site (splits copy copies) → (y : Bool) → v.solved ≡ y
            → StaysSolved U (under e) (record (copied_row (holder_in_row (T.box_of n)) copied_when number v) { solved_at = solved_when (option_map (λ (z : ℕ). z + 1) w) y })
        by None x y q = record { within = λ z w. absurd (never y z w); solved = λ z w u. absurd (never y z w) }
        by (Some w) x false q = record { within = λ z h. cc; solved = λ z h u. cc }
        by (Some w) x true q = record {
          within = λ z h. let w1 : w + 1 ≡ z = some_value h in let h1 : w ≡ T.steps = x.0 in let u1 : U.steps ≡ T.steps + 1 = f.steps in omega (arith, w1, h1, u1);
          solved = λ z h u. chain (x.1 v path.stores (ap (copy_among copies) (sym its_name) ∙ j) (subst (λ (h : Option Name). AreAround copies h path.stores) (sym k) path.around) q);
        }

    pub new_box : (k : Name) (h : Found) → box_at k t.config.roots ≡ None → box_at k d.roots ≡ Some h
        → (row : BoxRow) × (U.box_of k ≡ Some row) × IsBoxRow U d.roots h row × (row.changed ≡ T.steps + 1) × (row.goals_changed ≡ T.steps + 1)
    new_box k h i j = elim (cutting.was_there rules r.program r.query r.journal t.config l d t.replays a g al o Operator.commit bs second at_goal held boxes_are k h j) [
      | inl w ↦ absurd (not_some (sym i ∙ w.1))
      | inr x ↦ by x
    ]
      where
        its_name : k ≡ h.content.name
        its_name = box-itself k d.roots h j

        by : IsCopied h → (row : BoxRow) × (U.box_of k ≡ Some row) × IsBoxRow U d.roots h row × (row.changed ≡ T.steps + 1) × (row.goals_changed ≡ T.steps + 1)
        by x = (copied_row (holder_in_row (T.box_of n)) copied_when number v.0, new_row k v.0 (ap (copy_among copies) its_name ∙ v.1), subst (λ (z : Found). IsBoxRow U d.roots z (copied_row (holder_in_row (T.box_of n)) copied_when number v.0)) same row, refl, refl)
          where
            e : Found
            e = record h { around = x.rest }

            there : box_at h.content.name second ≡ Some (record h { around = x.rest })
            there = copied_found h.content.name h refl x

            v : (v : BoxCopy) × (copy_among copies h.content.name ≡ Some v) × IsCopy r.program.templates.nodes (environment a.site) second (record h { around = x.rest }) v
            v = copy_of r.program.templates.nodes (environment a.site) second second_once copies made.copied h.content.name (record h { around = x.rest }) there

            unfailed : HasFailed h.goals → ⊥
            unfailed = copy_unfailed r.program t.config s site a.site was_there (splitting.allowed r.program (slice_index t.config.next l.worker) l a.site a.change a.makes n al made.choice rule place names made.is_choice).0 g al o bs held (splitting.point r.program (slice_index t.config.next l.worker) l a.site a.change a.makes n al made.choice rule place names made.is_choice).others (splitting.goals_once r.program (slice_index t.config.next l.worker) l a.site a.change a.makes n al made.choice rule place names made.is_choice (site_once rules r.program t.config l d s a))
                (renaming (sorted_names (rest_of al a.site made.choice)) l.worker (slice_index t.config.next l.worker)) x.rest h.content h.goals x.stands

            row : IsBoxRow U d.roots (under (record h { around = x.rest })) (copied_row (holder_in_row (T.box_of n)) copied_when number v.0)
            row = rows.copied_is_row r.program.templates.nodes a.site.around second second_once copies made.copied U same_nodes told_around stored d.roots (holder_in_row (T.box_of n)) copied_when number (record h { around = x.rest }) v.0 there v.1 v.2
                (copied_holder h.content.name (record h { around = x.rest }) v.0 there v.2.holder) unfailed (copied_solved (record h { around = x.rest }) v.0 there v.1 v.2.holder)

            same : under (record h { around = x.rest }) ≡ h
            same = λ z. record h { around = sym x.path z }

    pub gone_box : (k : Name) → box_at k d.roots ≡ None → U.box_of k ≡ None
    gone_box k j = on (none_or (box_at k t.config.roots))
      where
        none : box_at k second ≡ None
        none = none_where (box_at k second) (λ e i. not_some (sym j ∙ copied_there k e i))

        on : (box_at k t.config.roots ≡ None) ⊎ ((e : Found) × (box_at k t.config.roots ≡ Some e)) → U.box_of k ≡ None
        on (inl i) = old_row k (not_cut_none k i) none ∙ neither (IsBoxRow T t.config.roots) (box_at k t.config.roots) (T.box_of k) (t.unfolds.boxes k) i
        on (inr (e, i)) = elim (cutting.stays_or rules r.program r.query r.journal t.config l d t.replays a g al o Operator.commit bs second at_goal held boxes_are k e i) [
          | inl w ↦ absurd (not_some (sym j ∙ w.1))
          | inr x ↦ f.box_goes k (is_cut k e i x)
        ]
