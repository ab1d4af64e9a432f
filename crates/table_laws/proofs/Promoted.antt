-- The alternatives of a choice join the box: what the step makes of a table is a table of the run that goes on.
use Rattle.std.proofs.Common.{◌≡◌, ℕ, ◌+◌, ◌≤◌, ◌<◌, List, [], ◌∷◌, ◌++◌, length, map, Bool, true, false, Option, Some, None, refl, sym, ◌∙◌, ap, subst, ◌⊎◌, inl, inr, arith, append_assoc}
use Rattle.std.specs.Prelude.{slice_index, option_map, option_and_then}
use Rattle.akl_terms.specs.declared.name.Name.{Name}
use Rattle.akl_terms.specs.declared.name.Place.{Place}
use Rattle.akl_terms.specs.declared.term.Node.{Node}
use Rattle.akl_terms.specs.Equal.{Equations, IsTold}
use Rattle.akl_terms.specs.Standing.{StandFor}
use Rattle.akl_terms.specs.Tree.{Tree}
use Rattle.akl_terms.specs.Names.{same_name}
use Rattle.akl_terms.proofs.SameNames.{same_name-refl, same_name-equal}
use Rattle.akl_model.specs.declared.label.Rule.{Rule}
use Rattle.akl_model.specs.declared.label.Label.{Label}
use Rattle.akl_model.specs.Config.{IsIn, Operator, Atom, Content, Boxes, no_boxes, box, Goals, Config, an_atom, a_choice, held_in, without_goal, with_names, Found, or_else, box_at, home_of, environment, whole}
use Rattle.akl_model.specs.Instances.{with_atoms}
use Rattle.akl_model.specs.Rules.{becomes, joining}
use Rattle.akl_model.specs.Conditions.{IsFailing}
use Rattle.akl_model.specs.Derivations.{Applies}
use Rattle.akl_model.specs.Changes.{of_atom, of_choice, shape_of, shape_at, box_names, goal_names}
use Rattle.akl_model.specs.Wakes.{names_around, names_down_to}
use Rattle.akl_model.proofs.NamesKept.{Stand, replay-stands}
use Rattle.akl_model.proofs.Options.{none_or, some_value, map_some}
use Rattle.akl_model.proofs.Drawn.{drawn_times}
use Rattle.akl_model.proofs.Finds.{times}
use Rattle.local_store.specs.Stored.{Stored}
use Rattle.local_store.specs.Chained.{IsSolvedChain}
use Rattle.rational_unify.specs.Solving.{bindings_in}
use Rattle.step_laws.specs.ChangedItems.{IsReplaced}
use Rattle.step_laws.proofs.Whereabouts.{home_of-none}
use Rattle.step_laws.proofs.Becomes.{Becomes}
use Rattle.step_laws.proofs.Steps.{site_now, found}
use Rattle.step_laws.proofs.Stays.{shape_held}
use Rattle.table_laws.specs.Rows.{BoxRow, GoalRow, Table, store_in, stores_along, ports_in}
use Rattle.table_laws.specs.Walks.{alternatives_in, alternatives_of}
use Rattle.table_laws.specs.Unfolds.{UnchangedSince, FailsBy, StaysSolved, IsBoxRow, Spot, spot_in, spot_of}
use Rattle.table_laws.specs.Stamped.{Run, followed_by, IsTableOf}
use Rattle.table_laws.specs.Steps.{joins, numbered, JoinsGoal, IsSolvedWhen, Makes}
use Rattle.table_laws.specs.Writes.{IsTable, set, unset, less_name, home_in, changed_box, atom_among, or_fails, joined_row, home_or, after_join, solved_when, Leads}
use Rattle.table_laws.proofs.Sets.{turned, set_here, set_other, other_name, unset_here, unset_other, in_or, not_some}
use Rattle.table_laws.proofs.Insides.{spot_held}
use Rattle.table_laws.proofs.Along.{same_roots}
use Rattle.table_laws.proofs.Stores.{told_along, stores_join, same_stores, unchanged_before}
use Rattle.table_laws.proofs.Frame.{neither, row_of, KeepsRows, KeepsBoxes, around_stands, site_around}
use Rattle.table_laws.proofs.Onward.{GoalGoes, LeadsOn, site_row, fails_as}
use Rattle.table_laws.proofs.Marked.{led}
use Rattle.table_laws.proofs.Reducing.{names_without, fails_without}
use Rattle.table_laws.proofs.Forked.{raised_same}
use Rattle.table_laws.proofs.NewGoals.{goal_or, fails_more, names_more}
use Rattle.table_laws.proofs.Promoting as promoting
use Rattle.table_laws.proofs.Promoting.{joined_change}

module _ (rules : List Rule) (r : Run) (T U : Table) (l : Label) (d : Config) (t : IsTableOf rules r T) (a : Applies rules r.program t.config l d) (at : Option ℕ) (new : Stored) (solved : Bool)
    (goals : List (Name × Atom)) (g : Name) (place : l.place ≡ Place.Goal g) (makes : JoinsGoal r.program l (slice_index t.config.next l.worker) a.site g new goals) (chain : IsSolvedWhen at T a.site (joins new solved goals))
    (leads : IsTable U (after_join g new (solved_when at solved) goals l.worker a.change.drawn T)) where
  abbrev next : ℕ
  next = slice_index t.config.next l.worker

  abbrev more : Goals
  more = with_atoms l.worker (slice_index t.config.next l.worker) makes.joined.body (without_goal g a.site.goals)

  s : Stand t.config
  s = replay-stands rules r.program r.query r.journal t.config t.replays

  change : (drawn : ℕ) × (a.change ≡ becomes (joining makes.joined a.site.content) (with_atoms l.worker (slice_index t.config.next l.worker) makes.joined.body (without_goal g a.site.goals)) drawn)
  change = joined_change r.program a.makes.reading (slice_index t.config.next l.worker) g l a.site a.change makes.operator makes.alternatives makes.joined place makes.held makes.origin a.makes.change

  abbrev b : Becomes l.worker (slice_index t.config.next l.worker) a.site a.change
  b = promoting.joins_to rules r.program r.query r.journal t.config l d t.replays s a g place makes.operator makes.alternatives makes.joined makes.held makes.origin change.0 change.1

  content : b.content ≡ joining makes.joined a.site.content
  content = promoting.content_now rules r.program r.query r.journal t.config l d t.replays s a g place makes.operator makes.alternatives makes.joined makes.held makes.origin change.0 change.1

  goals_are : b.goals ≡ with_atoms l.worker (slice_index t.config.next l.worker) makes.joined.body (without_goal g a.site.goals)
  goals_are = promoting.goals_now rules r.program r.query r.journal t.config l d t.replays s a g place makes.operator makes.alternatives makes.joined makes.held makes.origin change.0 change.1

  there : box_at a.site.content.name d.roots ≡ Some (site_now b)
  there = promoting.now_there rules r.program r.query r.journal t.config l d t.replays s a g place makes.operator makes.alternatives makes.joined makes.held makes.origin change.0 change.1

  whole_box : IsReplaced a → ⊥
  whole_box = promoting.not_replaced rules r.program r.query r.journal t.config l d t.replays s a g place makes.operator makes.alternatives makes.joined makes.held makes.origin change.0 change.1

  abbrev names : List Name
  names = box_names makes.alternatives

  alt_gone : (n : Name) → IsIn n (box_names makes.alternatives) → box_at n d.roots ≡ None
  alt_gone = promoting.alt_gone rules r.program r.query r.journal t.config l d t.replays s a g place makes.operator makes.alternatives makes.joined makes.held makes.origin change.0 change.1

  apart_from : IsIn a.site.content.name (box_names makes.alternatives) → ⊥
  apart_from i =
      let q : same_name a.site.content.name a.site.content.name ≡ false =
      promoting.alt_apart rules r.program r.query r.journal t.config l d t.replays s a g place makes.operator makes.alternatives makes.joined makes.held makes.origin change.0 change.1 a.site.content.name i in
      other_name a.site.content.name a.site.content.name q refl

  -- the table

  spot : (k : GoalRow) × (T.goal_of g ≡ Some k) × (spot_of k ≡ record { home = a.site.content.name; shape = of_choice makes.operator (box_names makes.alternatives) })
  spot = map_some spot_of (T.goal_of g) (record { home = a.site.content.name; shape = of_choice makes.operator (box_names makes.alternatives) }) (t.unfolds.goals g
      ∙ spot_held g t.config.roots a.site (a_choice makes.operator makes.alternatives)
      (promoting.home_was rules r.program r.query r.journal t.config l d t.replays s a g place makes.operator makes.alternatives makes.joined makes.held makes.origin change.0 change.1) makes.held)

  home : home_in (T.goal_of g) ≡ Some a.site.content.name
  home = ap home_in spot.1 ∙ ap (λ (k : Spot). Some k.home) spot.2

  home_name : home_or (T.goal_of g) g ≡ a.site.content.name
  home_name = ap (λ (o : Option GoalRow). home_or o g) spot.1 ∙ ap (λ (k : Spot). k.home) spot.2

  abbrev now_row : BoxRow → BoxRow
  now_row = joined_row g new (solved_when at solved) goals (T.steps + 1)

  going : alternatives_of (T.goal_of g) ≡ box_names makes.alternatives
  going = ap alternatives_of spot.1 ∙ ap (λ (k : Spot). alternatives_in k.shape) spot.2

  abbrev rows_now : Name → Option BoxRow
  rows_now = set a.site.content.name (option_map (joined_row g new (solved_when at solved) goals (T.steps + 1)) (T.box_of a.site.content.name)) T.box_of

  box_rows : (m : Name) → U.box_of m ≡ unset (box_names makes.alternatives) rows_now m
  box_rows m = leads.boxes m ∙ (λ i. unset (going i) (changed_box (home i) (joined_row g new (solved_when at solved) goals (T.steps + 1)) T.box_of) m)

  box_here : U.box_of a.site.content.name ≡ option_map (joined_row g new (solved_when at solved) goals (T.steps + 1)) (T.box_of a.site.content.name)
  box_here = box_rows a.site.content.name ∙ unset_other (box_names makes.alternatives) rows_now a.site.content.name apart_from
      ∙ set_here a.site.content.name a.site.content.name (option_map (joined_row g new (solved_when at solved) goals (T.steps + 1)) (T.box_of a.site.content.name)) T.box_of (same_name-refl a.site.content.name)

  box_other : (m : Name) → (IsIn m (box_names makes.alternatives) → ⊥) → same_name a.site.content.name m ≡ false → U.box_of m ≡ T.box_of m
  box_other m other apart = box_rows m ∙ unset_other (box_names makes.alternatives) rows_now m other
      ∙ set_other a.site.content.name m (option_map (joined_row g new (solved_when at solved) goals (T.steps + 1)) (T.box_of a.site.content.name)) T.box_of (turned a.site.content.name m apart)

  box_gone : (m : Name) → IsIn m (box_names makes.alternatives) → U.box_of m ≡ None
  box_gone m e = box_rows m ∙ unset_here (box_names makes.alternatives) rows_now m e

  old : (v : BoxRow) × (T.box_of a.site.content.name ≡ Some v) × IsBoxRow T t.config.roots a.site v
  old = row_of T t.config t.unfolds a.site.content.name a.site (found rules r.program t.config l d s a)

  row_here : U.box_of a.site.content.name ≡ Some (joined_row g new (solved_when at solved) goals (T.steps + 1) old.0)
  row_here = box_here ∙ ap (option_map (joined_row g new (solved_when at solved) goals (T.steps + 1))) old.1

  -- a box that is there afterwards isn't an alternative
  stays_apart : (m : Name) (f : Found) → box_at m d.roots ≡ Some f → IsIn m (box_names makes.alternatives) → ⊥
  stays_apart m f j i = not_some (sym (alt_gone m i) ∙ j)

  keeps : KeepsRows a T U
  keeps = record {
    nodes = leads.nodes;
    steps = leads.steps;
    rows = λ m e f v apart i j k. (
      v.failing,
      box_other m (stays_apart m f j) apart ∙ k,
      fails_as rules r.program r.query r.journal t.config l d t.replays a T U t.unfolds m e f v.failing apart i j (λ h o bs x y z. whole_box x) (old_fails m e v i k),
    );
  }
    where
      old_fails : (m : Name) (e : Found) (v : BoxRow) → box_at m t.config.roots ≡ Some e → T.box_of m ≡ Some v → FailsBy e.goals v.failing
      old_fails m e v i k =
          let w : (w : BoxRow) × (T.box_of m ≡ Some w) × IsBoxRow T t.config.roots e w = row_of T t.config t.unfolds m e i in
          subst (λ (z : BoxRow). FailsBy e.goals z.failing) (some_value (sym w.1 ∙ k)) w.2.failing

  -- the new store

  stands : StandFor (IsTold (told_along T (names_around a.site) ++ bindings_in T.nodes new.bindings)) (IsTold (whole (site_now b)))
  stands = subst (λ (nodes : List Node). StandFor (IsTold (told_along T (names_around a.site) ++ bindings_in nodes new.bindings)) (IsTold (whole (site_now b)))) (sym t.nodes)
      (subst (λ (E : Equations). StandFor (IsTold (told_along T (names_around a.site) ++ bindings_in r.program.templates.nodes new.bindings)) (IsTold E))
      (append_assoc (environment a.site) a.site.content.equations makes.joined.equations ∙ ap (λ (k : Content). environment a.site ++ k.equations) (sym content))
      (makes.stands (told_along T (names_around a.site)) (around_stands T t.config s t.unfolds a.site.content.name a.site (found rules r.program t.config l d s a))))

  stores_here : stores_along U (names_down_to (site_now b)) ≡ stores_along T (names_around a.site) ++ new ∷ []
  stores_here = ap (λ (m : Name). stores_along U (names_around a.site ++ m ∷ [])) b.keeps.name ∙ stores_join U (names_around a.site) (a.site.content.name ∷ [])
      ∙ (λ i. same_stores T U (names_around a.site) (λ m x. (site_around rules r.program r.query r.journal t.config l d t.replays a T U t.unfolds keeps b m x).store) i ++ ap store_in row_here i ∷ [])

  is_solved : (o : Option ℕ) (yes : Bool) → IsSolvedWhen o T a.site (joins new yes goals) → (v : BoxRow) → v.solved_at ≡ solved_when o yes → StaysSolved U (site_now b) v
  is_solved o false x v e = record { within = λ k q. (let z : None ≡ Some k = sym e ∙ q in absurd cc); solved = λ k q y. (let z : None ≡ Some k = sym e ∙ q in absurd cc) }
  is_solved None true x v e = record { within = λ k q. (let z : None ≡ Some k = sym e ∙ q in absurd cc); solved = λ k q y. (let z : None ≡ Some k = sym e ∙ q in absurd cc) }
  is_solved (Some j) true x v e = record {
    within = λ k q. let z : j ≡ k = some_value (sym e ∙ q) in let y : j ≤ T.steps = x.0 in let h : U.steps ≡ T.steps + 1 = leads.steps in omega arith;
    solved = λ k q y.
        let before : UnchangedSince T j (names_around a.site) =
        unchanged_before T U j (names_around a.site) (site_around rules r.program r.query r.journal t.config l d t.replays a T U t.unfolds keeps b)
        (subst (λ (i : ℕ). UnchangedSince U i (names_around (site_now b))) (sym (some_value (sym e ∙ q))) y) in
        subst (λ (nodes : List Node). IsSolvedChain nodes (stores_along U (names_down_to (site_now b)))) (sym leads.nodes) (subst (IsSolvedChain T.nodes) (sym stores_here) (x.1 before));
  }

  not_failing : IsFailing (a_choice makes.operator makes.alternatives) → ⊥
  not_failing x = elim makes.origin [
    | inl y ↦ subst (λ (bs : Boxes). IsFailing (a_choice makes.operator bs)) y.only x
    | inr y ↦ never y.result makes.alternatives (subst (λ (o : Operator). IsFailing (a_choice o makes.alternatives)) y.collects x)
  ]
    where
      never : (result : Tree) (bs : Boxes) → IsFailing (a_choice (Operator.collecting result) bs) → ⊥
      never result no_boxes x = x
      never result (box k gs bs) x = x

  fails_now : FailsBy b.goals (or_fails old.0.failing goals)
  fails_now = subst (λ (gs : Goals). FailsBy gs (or_fails old.0.failing goals)) (sym goals_are) (subst (λ (xs : List (Name × Atom)). FailsBy more (or_fails old.0.failing xs)) (sym makes.body)
      (fails_more l.worker (slice_index t.config.next l.worker) makes.joined.body (without_goal g a.site.goals) old.0.failing
      (promoting.not_held rules r.program r.query r.journal t.config l d t.replays s a g place makes.operator makes.alternatives makes.joined makes.held makes.origin change.0 change.1)
      (fails_without g (a_choice makes.operator makes.alternatives) a.site.goals old.0.failing makes.held not_failing old.2.failing)))

  names_now : with_names (map (λ (x : Name × Atom). x.0) goals) (less_name g old.0.goals) ≡ goal_names b.goals
  names_now = (λ i. with_names (map (λ (x : Name × Atom). x.0) (makes.body i)) (less_name g (old.2.goals i)))
      ∙ ap (with_names (map (λ (x : Name × Atom). x.0) (numbered l.worker (slice_index t.config.next l.worker) makes.joined.body))) (sym (names_without g a.site.goals))
      ∙ sym (names_more l.worker (slice_index t.config.next l.worker) makes.joined.body (without_goal g a.site.goals)
      (promoting.not_held rules r.program r.query r.journal t.config l d t.replays s a g place makes.operator makes.alternatives makes.joined makes.held makes.origin change.0 change.1))
      ∙ ap goal_names (sym goals_are)

  site : IsBoxRow U d.roots (site_now b) (joined_row g new (solved_when at solved) goals (T.steps + 1) old.0)
  site = site_row rules r.program r.query r.journal t.config l d t.replays a T U t.unfolds keeps b old.0 (joined_row g new (solved_when at solved) goals (T.steps + 1) old.0) old.1 row_here refl
      (makes.frames ∙ ap (λ (k : Content). k.frames) (sym content))
      (ap (λ (nodes : List Node). ports_in nodes new.ports) t.nodes ∙ makes.ports ∙ ap (λ (k : Content). k.ports) (sym content))
      stands
      (is_solved at solved chain (joined_row g new (solved_when at solved) goals (T.steps + 1) old.0) refl)
      names_now
      fails_now
      refl refl refl

  boxes : KeepsBoxes a T U
  boxes = record {
    keeps = keeps;
    site = λ f j. (
      joined_row g new (solved_when at solved) goals (T.steps + 1) old.0,
      row_here,
      subst (λ (k : Found). IsBoxRow U d.roots k (joined_row g new (solved_when at solved) goals (T.steps + 1) old.0)) (some_value (sym there ∙ j)) site,
      inr refl,
    );
  }

  gone_box : (m : Name) → box_at m d.roots ≡ None → U.box_of m ≡ None
  gone_box m j = on (in_or m (box_names makes.alternatives)) (same_name a.site.content.name m) refl
    where
      on : IsIn m (box_names makes.alternatives) ⊎ (IsIn m (box_names makes.alternatives) → ⊥) → (v : Bool) → same_name a.site.content.name m ≡ v → U.box_of m ≡ None
      on (inl i) v q = box_gone m i
      on (inr e) true q =
          let z : box_at m d.roots ≡ Some (site_now b) = subst (λ (k : Name). box_at k d.roots ≡ Some (site_now b)) (same_name-equal a.site.content.name m q) there in
          absurd cc
      on (inr e) false q = box_other m e q ∙ neither (IsBoxRow T t.config.roots) (box_at m t.config.roots) (T.box_of m) (t.unfolds.boxes m) (was_none (none_or (box_at m t.config.roots)))
        where
          was_none : (box_at m t.config.roots ≡ None) ⊎ ((k : Found) × (box_at m t.config.roots ≡ Some k)) → box_at m t.config.roots ≡ None
          was_none (inl i) = i
          was_none (inr (k, i)) =
              let w : (f : Found) × (box_at m d.roots ≡ Some f) = promoting.stays_there rules r.program r.query r.journal t.config l d t.replays s a g place makes.operator makes.alternatives makes.joined makes.held makes.origin change.0 change.1 m k i e in
              let z : box_at m d.roots ≡ Some w.0 = w.1 in
              absurd cc

  -- rows of goals

  goal_rows : (i : Name) → U.goal_of i ≡ or_else (atom_among a.site.content.name (T.steps + 1) (numbered l.worker (slice_index t.config.next l.worker) makes.joined.body) i) (set g None T.goal_of i)
  goal_rows i = leads.goals i ∙ (λ j. or_else (atom_among (home_name j) (T.steps + 1) (makes.body j) i) (set g None T.goal_of i))

  goal_goes : (i : Name) → GoalGoes T U t.config d i
  goal_goes i = elim (goal_or a.site.content.name (T.steps + 1) l.worker (slice_index t.config.next l.worker) makes.joined.body (without_goal g a.site.goals) i
      (promoting.not_held rules r.program r.query r.journal t.config l d t.replays s a g place makes.operator makes.alternatives makes.joined makes.held makes.origin change.0 change.1)) [
        | inl none ↦ on none (same_name i g) refl
        | inr w ↦ fresh w.0 w.1 w.2 w.3
      ]
    where
      fresh : (x : Atom) → atom_among a.site.content.name (T.steps + 1) (numbered l.worker (slice_index t.config.next l.worker) makes.joined.body) i ≡ Some (record { home = a.site.content.name; shape = of_atom x; changed = T.steps + 1 })
          → held_in i (with_atoms l.worker (slice_index t.config.next l.worker) makes.joined.body (without_goal g a.site.goals)) ≡ Some (an_atom x)
          → 0 < drawn_times i l.worker (slice_index t.config.next l.worker) (length makes.joined.body) → GoalGoes T U t.config d i
      fresh x has held drawn =
          let row : U.goal_of i ≡ Some (record { home = a.site.content.name; shape = of_atom x; changed = T.steps + 1 }) = goal_rows i ∙ ap (λ (o : Option GoalRow). or_else o (set g None T.goal_of i)) has in
          let home_now : home_of i d.roots ≡ Some (site_now b) = promoting.new_home rules r.program r.query r.journal t.config l d t.replays s a g place makes.operator makes.alternatives makes.joined makes.held makes.origin change.0 change.1 i x held in
          let held_now : held_in i b.goals ≡ Some (an_atom x) = ap (held_in i) goals_are ∙ held in
          let z : times i t.config.roots ≡ 0 = promoting.new_nowhere rules r.program r.query r.journal t.config l d t.replays s a g place makes.operator makes.alternatives makes.joined makes.held makes.origin change.0 change.1 i drawn in
          let before : shape_at i t.config.roots ≡ None = ap (option_and_then (λ (f : Found). option_map shape_of (held_in i f.goals))) (home_of-none i t.config.roots z) in
          let afterwards : shape_at i d.roots ≡ Some (of_atom x) = shape_held i d.roots (site_now b) (an_atom x) home_now held_now in
          inr (
            ap (option_map spot_of) row ∙ ap (λ (m : Name). Some (record { home = m; shape = of_atom x })) (sym b.keeps.name) ∙ sym (spot_held i d.roots (site_now b) (an_atom x) home_now held_now),
            λ v e. (ap (λ (k : GoalRow). k.changed) (some_value (sym e ∙ row)), λ q. cc),
          )

      on : (atom_among a.site.content.name (T.steps + 1) (numbered l.worker (slice_index t.config.next l.worker) makes.joined.body) i ≡ None)
          × (held_in i (with_atoms l.worker (slice_index t.config.next l.worker) makes.joined.body (without_goal g a.site.goals)) ≡ held_in i (without_goal g a.site.goals))
          × (0 < drawn_times i l.worker (slice_index t.config.next l.worker) (length makes.joined.body) → ⊥) → (v : Bool) → same_name i g ≡ v → GoalGoes T U t.config d i
      on none true e =
          let z : U.goal_of i ≡ None = goal_rows i ∙ ap (λ (o : Option GoalRow). or_else o (set g None T.goal_of i)) none.0 ∙ set_here g i None T.goal_of e in
          inr (
            ap (option_map spot_of) z ∙ sym (ap (λ (m : Name). spot_in m d.roots) (same_name-equal i g e)
                ∙ promoting.spot_gone rules r.program r.query r.journal t.config l d t.replays s a g place makes.operator makes.alternatives makes.joined makes.held makes.origin change.0 change.1),
            λ v h. (let y : None ≡ Some v = sym z ∙ h in absurd cc),
          )
      on none false e = inl (
        goal_rows i ∙ ap (λ (o : Option GoalRow). or_else o (set g None T.goal_of i)) none.0 ∙ set_other g i None T.goal_of e,
        promoting.same_shape rules r.program r.query r.journal t.config l d t.replays s a g place makes.operator makes.alternatives makes.joined makes.held makes.origin change.0 change.1 i e none.2,
      )

  pub leads_on : LeadsOn a T U
  leads_on = record {
    boxes = boxes;
    site_marks = λ v k i j.
        let w : joined_row g new (solved_when at solved) goals (T.steps + 1) old.0 ≡ k = some_value (sym row_here ∙ j) in (
          inr (ap (λ (z : BoxRow). z.changed) (sym w), promoting.store_differs rules r.program r.query r.journal t.config l d t.replays s a g place makes.operator makes.alternatives makes.joined makes.held makes.origin change.0 change.1),
          inr (ap (λ (z : BoxRow). z.goals_changed) (sym w), promoting.goals_differ rules r.program r.query r.journal t.config l d t.replays s a g place makes.operator makes.alternatives makes.joined makes.held makes.origin change.0 change.1),
        );
    new_boxes = λ m f i j.
        let w : (e : Found) × (box_at m t.config.roots ≡ Some e) = promoting.was_there rules r.program r.query r.journal t.config l d t.replays s a g place makes.operator makes.alternatives makes.joined makes.held makes.origin change.0 change.1 m f j in
        let z : box_at m t.config.roots ≡ Some w.0 = w.1 in
        absurd cc;
    gone_boxes = gone_box;
    goals = goal_goes;
    roots = leads.roots ∙ t.unfolds.roots ∙ roots;
    root_mark = inl (leads.roots_changed, λ h. h roots);
    next = λ w. leads.next w ∙ raised_same l.worker a.change.drawn w T.next t.config.next t.unfolds.next ∙ ap (λ (k : Config). slice_index k.next w) a.result;
  }
    where
      roots : box_names t.config.roots ≡ box_names d.roots
      roots = same_roots rules r.program t.config l d s a whole_box

-- the law for this step
pub joined_step : (rules : List Rule) (r : Run) (T U : Table) (l : Label) (d : Config) (t : IsTableOf rules r T) (a : Applies rules r.program t.config l d) (at : Option ℕ) (new : Stored) (solved : Bool) (goals : List (Name × Atom))
    → Makes r.program l (slice_index t.config.next l.worker) a.site (joins new solved goals) → IsSolvedWhen at T a.site (joins new solved goals) → Leads T l at a.change.drawn (joins new solved goals) U
    → (u : IsTableOf rules (followed_by r l) U) × (u.config ≡ d)
joined_step rules r T U l d t a at new solved goals makes chain leads = led rules r T U l d t a
    (leads_on rules r T U l d t a at new solved goals makes.0 makes.1 makes.2 chain (subst (λ (x : Place). Leads T (record l { place = x }) at a.change.drawn (joins new solved goals) U) makes.1 leads))
