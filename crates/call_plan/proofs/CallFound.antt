-- The plan of a call at once is right.
use Rattle.std.proofs.Common.{◌≡◌, ℕ, ◌+◌, ◌<◌, ◌^◌, Bool, true, false, List, ◌∷◌, ◌++◌, length, Some, None, refl, sym, ◌∙◌, ap, subst, arith, length-append}
use Rattle.akl_terms.specs.declared.name.Name.{Name}
use Rattle.akl_terms.specs.declared.name.Var.{Var}
use Rattle.akl_terms.specs.declared.name.Place.{Place}
use Rattle.akl_terms.specs.declared.term.Node.{Node}
use Rattle.akl_terms.specs.declared.program.Clause.{Clause}
use Rattle.akl_terms.specs.declared.program.Definition.{Definition}
use Rattle.constraint_laws.specs.Oldest.{HasOldest}
use Rattle.akl_model.specs.declared.item.Item.{Item}
use Rattle.akl_model.specs.declared.label.Rule.{Rule}
use Rattle.akl_model.specs.declared.label.Label.{Label}
use Rattle.akl_model.specs.Config.{Atom, Content, with_names, box, Goals, no_goals, without_goal, environment, whole, box_at}
use Rattle.akl_model.specs.Instances.{drawn_by}
use Rattle.akl_model.specs.Wakes.{names_around}
use Rattle.step_laws.specs.Bound.{outermost_equations, AreBoundIn}
use Rattle.local_store.specs.declared.part.Part.{Part}
use Rattle.local_store.specs.Parts.{ToldStore, with_part}
use Rattle.local_store.specs.Bound.{AreNewlyBound}
use Rattle.local_store.specs.Chained.{innermost}
use Rattle.local_store.specs.Stored.{Stored, all_named}
use Rattle.class_members.specs.Members.{AreMembers}
use Rattle.table_laws.specs.Rows.{store_in}
use Rattle.table_laws.specs.Steps.{IsSolvedIf}
use Rattle.plan_laws.specs.AtOnce.{by, with_named, IsAtOnce, labels_at_once, at_once}
use Rattle.plan_laws.proofs.CallPassage.{end_home}
use Rattle.table_laws.specs.Calls.{CallsGoal}
use Rattle.table_laws.specs.Added.{Added, added_of, with_added}
use Rattle.table_laws.specs.PartSteps.{joins_part}
use Rattle.table_laws.specs.Calling.{CallsBy}
use Rattle.table_laws.proofs.CallsHere.{calls_from}
use Rattle.box_tree.specs.declared.step.Step.{Step}
use Rattle.box_tree.specs.Tables.{table_of, all_rules}
use Rattle.box_tree.specs.Views.{ViewValue, IsViewOf, run_of}
use Rattle.box_tree.specs.Edits.{named_atoms}
use Rattle.box_tree.specs.Plans.{PlanValue, labels_behind, part_step, IsRead, IsRightCall, IsRight}
use Rattle.guard_plan.specs.ReadAt.{IsOf}
use Rattle.guard_plan.specs.Solved.{SaysSolved}
use Rattle.guard_plan.proofs.Names.{all_named_with}
use Rattle.guard_plan.proofs.PlanOf.{may_at}
use Rattle.guard_plan.proofs.Sites.{stand, found, own_here}
use Rattle.body_goals.specs.declared.body.Body.{Body}
use Rattle.call_plan.specs.declared.sifting.Left.{Left}
use Rattle.call_plan.specs.Called.{Remains, Ends, IsReducedCall}
use Rattle.call_plan.specs.Ended.{cuts_others, end_labels}
use Rattle.call_plan.specs.Sifted.{name_at, store_of}
use Rattle.call_plan.specs.Found.{IsCallPlan}
use Rattle.call_plan.specs.ReadCall.{IsReadOfCall}
use Rattle.call_plan.proofs.BodyTold.{BodyTold}
use Rattle.call_plan.proofs.BoundAtOnce.{box_bound}
use Rattle.call_plan.proofs.CallJoined.{alternative, passed_one, long_body, few_goals, ports_none}
use Rattle.call_plan.proofs.CallTold.{along, body_told, solved_if, newly_bound, oldest_bound}
use Rattle.call_plan.proofs.LastLeft.{operator, left_behind, ends_of}
use Rattle.call_plan.proofs.AlternativesApart.{in_force}
use Rattle.call_plan.proofs.Remaining.{is_home, arguments, after_last, all_sift, is_op, last_stands, last_frames, last_holds}

module _ (v : ViewValue) (g : Name) (called : Definition) (left : Left) (drawn : ℕ) (promotes : List Label) (joined : ToldStore) (e : Ends v g called left drawn promotes joined) (more : List Label) where
  abbrev nodes : List Node
  nodes = v.table.program.templates.nodes

  abbrev r : Remains v g called left drawn e.before e.plainly
  r = e.remains

  abbrev i : IsViewOf v
  i = r.is_called.seen

  abbrev last : Content
  last = alternative v g called left drawn promotes joined e

  abbrev number : ℕ
  number = (passed_one v g called left drawn promotes joined e).number

  abbrev all_drawn : ℕ
  all_drawn = drawn_by called.clauses

  abbrev pub value : Step → List Var → List Item → PlanValue
  value step binds reads = record {
    table = v.table;
    journal = v.journal;
    label = by v.worker Rule.Fork (Place.Goal g) None;
    more = more;
    reads = reads;
    names = drawn + length left.clause.now.body;
    step = step;
    binds = binds;
  }

  -- with what is told of its body
  module _ (labels : List Label) (after : Content) (goals_left : List (Name × Atom)) (new : ToldStore) (told_of : ℕ) (b : BodyTold v.table.program i.table.config v.worker i.site last all_drawn labels after goals_left new.store told_of) where
    abbrev pub calls : IsAtOnce v.table.program i.table.config v.worker g i.site
    calls = record {
      definition = r.is_called.definition;
      arguments = arguments v g called left drawn e.before e.plainly r;
      held = r.is_called.held;
      called = called;
      is_called = r.is_called.is_definition;
      op = operator called.op;
      is_operator = is_op v g called left drawn e.before e.plainly r;
      few_names = subst (λ (n : ℕ). n < 2 ^ 32) r.is_called.drawn_is r.is_called.few_names;
      sift_labels = e.before;
      left = box last no_goals (left_behind nodes v.worker (after_last v g called left drawn e.before e.plainly r) (arguments v g called left drawn e.before e.plainly r) called.op (passed_one v g called left drawn promotes joined e).behind);
      sifts = (all_sift v g called left drawn e.before e.plainly r).0;
      last = last;
      end_labels = end_labels g (name_at v.worker number) (cuts_others called.op (passed_one v g called left drawn promotes joined e).behind);
      ends = ends_of nodes v.worker (after_last v g called left drawn e.before e.plainly r) (arguments v g called left drawn e.before e.plainly r) g i.site last called.op (passed_one v g called left drawn promotes joined e).behind (last_holds v g called left drawn e.before e.plainly r called.op e.joins.holds);
      few_goals = few_goals v g called left drawn promotes joined e;
      body_labels = labels;
      after = after;
      goals_left = goals_left;
      body = b.body;
      consistent = b.consistent;
    }

    labels_are : more ≡ (e.before ++ end_labels g left.name (cuts_others called.op left.behind.now)) ++ labels → by v.worker Rule.Fork (Place.Goal g) None ∷ more ≡ labels_at_once calls
    labels_are q = ap (λ (ls : List Label). by v.worker Rule.Fork (Place.Goal g) None ∷ ls) (q
        ∙ ap (λ (n : Name). (e.before ++ end_labels g n (cuts_others called.op left.behind.now)) ++ labels) (passed_one v g called left drawn promotes joined e).left.name
        ∙ ap (λ (cs : List Clause). (e.before ++ end_labels g (name_at v.worker number) (cuts_others called.op cs)) ++ labels) (passed_one v g called left drawn promotes joined e).left.behind)

    calls_goal : (goals : List (Name × Atom)) → goals ≡ goals_left → CallsGoal calls (store_of left) new.store goals
    calls_goal goals q = record {
      alternative_frames = last_frames v g called left drawn e.before e.plainly r;
      alternative_ports = ports_none v g called left drawn promotes joined e;
      alternative_stands = last_stands v g called left drawn e.before e.plainly r;
      between = b.between;
      frames = b.frames;
      ports = b.ports;
      stands = b.stands;
      body = q;
    }

    -- what is bound
    abbrev rest : Goals
    rest = with_named goals_left (without_goal g i.site.goals)

    box_now : box_at i.site.content.name (at_once calls).roots ≡ Some (record { around = i.site.around; content = after; goals = rest })
    box_now = end_home all_rules in_force v.table.program i.table.config (stand v i) v.worker g i.site (is_home v g called left drawn e.before e.plainly r) calls ⊥ (λ q. absurd q)

    bound : (binds : List Var) → AreNewlyBound (outermost_equations i.site) (whole i.site) (environment i.site ++ after.equations) binds → HasOldest (outermost_equations i.site) binds → AreBoundIn i.table.config (at_once calls) i.site binds
    bound binds newly oldest = box_bound i.table.config (at_once calls) i.site after rest (found v i) box_now binds newly oldest

    -- what is added to the box's own store makes this
    module _ (part : Part) (is_store : new.store ≡ with_part (innermost v.stores) part) (named : part.frames.items ≡ (store_of left).frames) where
      own_made : new.store ≡ with_added (store_in ((table_of v.table).box_of i.site.content.name)) (added_of part)
      own_made = is_store ∙ ap (λ (s : Stored). with_added s (added_of part)) (own_here v i)

      frames_added : (old : List Name) → all_named old part.frames.items ≡ with_names last.frames old
      frames_added old = ap (all_named old) (named ∙ last_frames v g called left drawn e.before e.plainly r) ∙ all_named_with old last.frames

      makes_by : (goals : List (Name × Atom)) → goals ≡ goals_left → CallsBy calls (store_of left) (added_of part) goals
      makes_by goals q = calls_from all_rules (run_of v.table v.journal) (table_of v.table) i.table v.worker g i.site (found v i) calls (store_of left) (added_of part) goals
          (subst (λ (s : Stored). CallsGoal calls (store_of left) s goals) own_made (calls_goal goals q)) frames_added

      pub right_by : more ≡ (e.before ++ end_labels g left.name (cuts_others called.op left.behind.now)) ++ labels → (goals : List (Name × Atom)) → goals ≡ goals_left
          → (step : Step) → part_step nodes step ≡ joins_part (added_of part) new.solved goals → labels_behind step ≡ (told_of, length labels) → IsSolvedIf new.solved (table_of v.table) (names_around i.site) new.store
          → (binds : List Var) → AreNewlyBound (outermost_equations i.site) (whole i.site) (environment i.site ++ after.equations) binds → HasOldest (outermost_equations i.site) binds
          → (reads : List Item) → IsReadOfCall v g e.plainly binds reads → IsRightCall (value step binds reads)
      right_by labelled goals named_goals step joins behind solved binds newly oldest reads read = record {
        table = i.table;
        goal = g;
        site = i.site;
        is_home = is_home v g called left drawn e.before e.plainly r;
        calls = calls;
        labels = labels_are labelled;
        tells_nothing = (all_sift v g called left drawn e.before e.plainly r).1;
        alternative = store_of left;
        part = added_of part;
        is_solved = new.solved;
        goals = goals;
        makes = makes_by goals named_goals;
        step = joins;
        behind = behind ∙ (λ j. (sym b.last_is j, length labels));
        solved = subst (IsSolvedIf new.solved (table_of v.table) (names_around i.site)) own_made solved;
        names = ap (λ (n : ℕ). n + length left.clause.now.body) r.is_called.drawn_is ∙ ap (λ (n : ℕ). all_drawn + n) (sym (long_body v g called left drawn promotes joined e));
        binds = bound binds newly oldest;
        reads = (read.enough i).0;
        quiet = λ b. (all_sift v g called left drawn e.before e.plainly r).2 ((read.enough i).1 b);
        there = read.there i;
      }

-- the labels of a call end with one at least
some_end : (g a : Name) (others : Bool) → 0 < length (end_labels g a others)
some_end g a true = omega arith
some_end g a false = omega arith

says_solved : (v : ViewValue) (nodes : List Node) (step : Step) (x : Added) (is_solved : Bool) (joined : List (Name × Atom)) → part_step nodes step ≡ joins_part x is_solved joined → SaysSolved v Rule.Fork step
says_solved v nodes (Step.Tell part solved) x b gs q = cc
says_solved v nodes (Step.Fork o alternatives) x b gs q = cc
says_solved v nodes Step.Fail x b gs q = tt
says_solved v nodes Step.Cut x b gs q = tt
says_solved v nodes (Step.Join part solved goals told behind) x b gs q = tt
says_solved v nodes Step.Refute x b gs q = tt
says_solved v nodes Step.Confirm x b gs q = tt
says_solved v nodes (Step.Split copy copies) x b gs q = tt

module _ (v : ViewValue) (g : Name) (called : Definition) (left : Left) (drawn : ℕ) (more : List Label) (told : ToldStore) (body : Body) (t : IsReducedCall v g called left drawn more told body) where
  abbrev goals : List (Name × Atom)
  goals = named_atoms v.table.program.templates.nodes body.goals.items

  abbrev pub plan_value : Step → List Var → List Item → PlanValue
  plan_value = value v g called left drawn t.labels t.joined t.ends more

  labelled : more ≡ (t.ends.before ++ end_labels g left.name (cuts_others called.op left.behind.now)) ++ t.reduced.labels
  labelled = t.reduced.all_labels ∙ ap (λ (ls : List Label). ls ++ t.reduced.labels) t.ends.labels

  pub call_right : (part : Part) → told.store ≡ with_part (innermost v.stores) part → part.frames.items ≡ (store_of left).frames
      → (step : Step) (binds : List Var) (reads : List Item) → part_step v.table.program.templates.nodes step ≡ joins_part (added_of part) told.solved goals → labels_behind step ≡ (body.told, body.behind)
      → AreMembers v.table.program.templates.nodes v.stores told.bound binds → IsReadOfCall v g t.ends.plainly binds reads → IsRightCall (plan_value step binds reads)
  call_right part is_store named step binds reads joins behind members read =
      right_by v g called left drawn t.labels t.joined t.ends more t.reduced.labels (along v g called left drawn more told body t).after goals told body.told (body_told v g called left drawn more told body t) part is_store named labelled goals refl step
      joins (behind ∙ ap (λ (n : ℕ). (body.told, n)) t.reduced.behind) (solved_if v g called left drawn more told body t told.solved refl) binds
      (newly_bound v g called left drawn more told body t binds members) (oldest_bound v g called left drawn more told body t binds members) reads read

  some_more : 0 < length more
  some_more =
      let l : length more ≡ length (t.ends.before ++ end_labels g left.name (cuts_others called.op left.behind.now)) + length t.reduced.labels
      = ap (λ (ls : List Label). length ls) labelled ∙ length-append (t.ends.before ++ end_labels g left.name (cuts_others called.op left.behind.now)) t.reduced.labels in
      let m : length (t.ends.before ++ end_labels g left.name (cuts_others called.op left.behind.now)) ≡ length t.ends.before + length (end_labels g left.name (cuts_others called.op left.behind.now)) =
      length-append t.ends.before (end_labels g left.name (cuts_others called.op left.behind.now)) in
      let s : 0 < length (end_labels g left.name (cuts_others called.op left.behind.now)) = some_end g left.name (cuts_others called.op left.behind.now) in
      omega arith

  pub call_planned : (p : PlanValue) (step : Step) (binds : List Var) (reads : List Item) → IsRight p → ((j : Item) → IsRead reads j → IsOf v g binds j) → p ≡ plan_value step binds reads → (x : Added) (is_solved : Bool) → part_step v.table.program.templates.nodes step ≡ joins_part x is_solved goals → IsCallPlan v p
  call_planned p step binds reads right only is x is_solved joins = subst (IsCallPlan v) (sym is) (record {
    plan = record {
      right = subst IsRight is right;
      table = refl;
      journal = refl;
      place = sym t.ends.remains.is_called.is_place;
      worker = refl;
      solved = says_solved v v.table.program.templates.nodes step x is_solved goals joins;
      only = may_at v g t.ends.remains.is_called.is_place binds reads only;
    };
    forks = refl;
    several = some_more;
  })
