-- A plan of Promote is right, and where none is made of the only alternative, no rule applies.
use Rattle.std.proofs.Common.{◌≡◌, ℕ, ◌+◌, ◌≤◌, ◌<◌, ◌^◌, List, [], ◌∷◌, ◌++◌, length, map, Bool, true, false, Some, None, refl, sym, ◌∙◌, ap, subst, inl, inr, arith, append_assoc}
use Rattle.std.specs.Prelude.{slice_index, IsSomeAnd, if◌then◌else◌}
use Rattle.std.proofs.lemmas.List.{length-map}
use Rattle.akl_terms.specs.declared.name.Name.{Name}
use Rattle.akl_terms.specs.declared.name.Var.{Var}
use Rattle.akl_terms.specs.declared.name.Place.{Place}
use Rattle.akl_terms.specs.declared.term.Node.{Node}
use Rattle.akl_terms.specs.declared.program.Goal.{Goal}
use Rattle.akl_terms.specs.Names.{same_name}
use Rattle.akl_terms.specs.Equal.{Equations, IsTold}
use Rattle.akl_terms.specs.Standing.{StandFor}
use Rattle.akl_terms.proofs.SameNames.{same_name-refl}
use Rattle.akl_model.specs.declared.item.Item.{Item}
use Rattle.akl_model.specs.declared.label.Rule.{Rule}
use Rattle.akl_model.specs.declared.label.Label.{Label}
use Rattle.akl_model.specs.Config.{Atom, Operator, Content, no_boxes, box, Goals, no_goals, a_choice, held_in, without_goal, with_names, Port, with_ports, environment, whole}
use Rattle.akl_model.specs.Instances.{with_atoms}
use Rattle.akl_model.specs.Renaming.{port_names}
use Rattle.akl_model.specs.Names.{times_in}
use Rattle.akl_model.specs.Rules.{nothing, Change, becomes, joining, change_by, promote, count_of, up_to, kept_by}
use Rattle.akl_model.specs.Conditions.{IsSolved, GuardHolds, Makes, MayPromote}
use Rattle.akl_model.specs.Stable.{Allows, only}
use Rattle.akl_model.specs.Derivations.{Applies, after}
use Rattle.akl_model.proofs.Finds.{times, times_of}
use Rattle.akl_model.proofs.ScopesAlong.{times_path, found_path}
use Rattle.step_laws.proofs.GoalEdits.{solved_none}
use Rattle.local_store.specs.declared.part.Part.{Part}
use Rattle.local_store.specs.Stored.{Stored}
use Rattle.local_store.specs.Chained.{innermost}
use Rattle.local_store.specs.Parts.{ToldStore, with_part}
use Rattle.local_store.specs.Promoting.{AnswersPromoted}
use Rattle.class_members.specs.Members.{AreMembers}
use Rattle.rational_unify.specs.Solving.{bindings_in}
use Rattle.table_laws.specs.Rows.{told_in, ports_in, store_in}
use Rattle.table_laws.specs.Steps as laws
use Rattle.table_laws.specs.Steps.{IsPromoted, JoinsGoal, numbered, IsSolvedIn}
use Rattle.table_laws.specs.Added.{added_of, with_added}
use Rattle.table_laws.specs.Joining.{JoinsBy}
use Rattle.table_laws.specs.PartSteps.{joins_part, step_over, MakesPart, ReadsPart}
use Rattle.table_laws.proofs.Here.{joins_from}
use Rattle.box_tree.specs.declared.entries.HeldOp.{HeldOp}
use Rattle.box_tree.specs.declared.step.Step.{Step}
use Rattle.box_tree.specs.declared.view.Alternative.{Alternative}
use Rattle.box_tree.specs.Tables.{all_rules, goal_atom, op_held, table_of, step_in}
use Rattle.box_tree.specs.Views.{ViewValue, IsViewOf, run_of}
use Rattle.box_tree.specs.Edits.{named_atoms}
use Rattle.box_tree.specs.Plans.{part_step, IsRead, IsRightLabel}
use Rattle.step_laws.specs.Bound.{AreBoundIn}
use Rattle.box_tree.proofs.BoundHere.{told_bound}
use Rattle.guard_plan.specs.Guards.{IsGuarded, HoldsInside, numbered_goals}
use Rattle.guard_plan.specs.Planned.{HasNoRule}
use Rattle.guard_plan.proofs.ChoiceNone.{inside_of, NoneCuts, guarded_none, choice_none}
use Rattle.guard_plan.proofs.Placed.{IsPlaced, environment_is, all_stand, frames_are, ports_are, guard_is, guard_was}
use Rattle.guard_plan.specs.ReadAt.{IsReadAt}
use Rattle.guard_plan.proofs.Names.{all_named_with}
use Rattle.guard_plan.proofs.JoinRight.{joined_frames, joined_ports, joined_solved, joined_stands}
use Rattle.guard_plan.proofs.BoundAt.{oldest_at, joined_at}
use Rattle.guard_plan.proofs.Sites.{stand, found, own_here, part_here}

-- goals under names are the atoms under them
numbered_atoms : (nodes : List Node) (worker n : ℕ) (gs : List Goal) → named_atoms nodes (numbered_goals worker n gs) ≡ numbered worker n (map (goal_atom nodes) gs)
numbered_atoms nodes worker n [] = refl
numbered_atoms nodes worker n (g ∷ rest) = ap (λ (l : List (Name × Atom)). (record { worker = worker; number = n }, goal_atom nodes g) ∷ l) (numbered_atoms nodes worker (n + 1) rest)

module _ (v : ViewValue) (i : IsViewOf v) (g : Name) (o : HeldOp) (b : Content) (gs : Goals) (p : v.place ≡ Place.Goal g) (held : held_in g i.site.goals ≡ Some (a_choice (op_held v.table.program.templates.nodes o) (box b gs no_boxes)))
    (a : Alternative) (h : IsPlaced v i b gs a) (body : map (goal_atom v.table.program.templates.nodes) v.body ≡ b.body)
    (guarded : IsGuarded o) where
  -- one alternative cuts none
  no_cuts : NoneCuts i.site (op_held v.table.program.templates.nodes o) (box b gs no_boxes)
  no_cuts n k e solved quiet few = on (same_name n b.name) refl o e few
    where
      on : (t : Bool) → same_name n b.name ≡ t → (o : HeldOp) → (if t then Some (inside_of i.site b gs) else None) ≡ Some k → count_of (kept_by (op_held v.table.program.templates.nodes o) n (box b gs no_boxes)) < 1 → ⊥
      on false s o e few = cc
      on true s HeldOp.Condition e few =
          let c : count_of (up_to n (box b gs no_boxes)) ≡ 1 = ap (λ (t : Bool). count_of (if t then box b gs no_boxes else box b gs no_boxes)) s in omega arith
      on true s HeldOp.Commit e few =
          let c : count_of (kept_by Operator.commit n (box b gs no_boxes)) ≡ 1 = ap (λ (t : Bool). count_of (if t then box b gs no_boxes else no_boxes)) s in omega arith
      on true s HeldOp.Choice e few = omega arith
      on true s (HeldOp.Collect t) e few = omega arith

  as_long : length v.body ≡ length b.body
  as_long = sym (length-map v.body (goal_atom v.table.program.templates.nodes)) ∙ ap (λ (l : List Atom). length l) body

  -- it isn't solved, its guard doesn't hold, or it draws too many names
  pub unsolved_none : (IsSolved gs → ⊥) → HasNoRule v
  unsolved_none n = choice_none v i g (op_held v.table.program.templates.nodes o) (box b gs no_boxes) p held no_cuts (λ c e holds few. n (solved c e))
      (guarded_none v.table.program.templates.nodes v.table.program i.site o (box b gs no_boxes) guarded)
    where
      solved : (c : Content) → box b gs no_boxes ≡ box c no_goals no_boxes → IsSolved gs
      solved c e = let q : no_goals ≡ gs = cc in subst IsSolved q tt

  pub many_none : 2 ^ 32 ≤ length v.body → HasNoRule v
  many_none n = choice_none v i g (op_held v.table.program.templates.nodes o) (box b gs no_boxes) p held no_cuts (λ c e holds few. over c e few)
      (guarded_none v.table.program.templates.nodes v.table.program i.site o (box b gs no_boxes) guarded)
    where
      over : (c : Content) → box b gs no_boxes ≡ box c no_goals no_boxes → length c.body < 2 ^ 32 → ⊥
      over c e few = let q : b ≡ c = cc in let r : length b.body ≡ length c.body = ap (λ (x : Content). length x.body) q in let l : length v.body ≡ length b.body = as_long in omega arith

  pub unheld_none : (HoldsInside o v.table.program.templates.nodes (v.stores ++ a.store ∷ []) → ⊥) → HasNoRule v
  unheld_none n = choice_none v i g (op_held v.table.program.templates.nodes o) (box b gs no_boxes) p held no_cuts (λ c e holds few. n (guard_was v i b gs a h o (same c e holds)))
      (guarded_none v.table.program.templates.nodes v.table.program i.site o (box b gs no_boxes) guarded)
    where
      same : (c : Content) → box b gs no_boxes ≡ box c no_goals no_boxes → GuardHolds (op_held v.table.program.templates.nodes o) (inside_of i.site c no_goals) → GuardHolds (op_held v.table.program.templates.nodes o) (inside_of i.site b gs)
      same c e k = let q : c ≡ b = cc in let r : no_goals ≡ gs = cc in
          subst (λ (x : Content). GuardHolds (op_held v.table.program.templates.nodes o) (inside_of i.site x gs)) q (subst (λ (x : Goals). GuardHolds (op_held v.table.program.templates.nodes o) (inside_of i.site c x)) r k)

  -- names stand once
  ports_once : (n : Name) → times_in n (port_names b.ports) + times_in n (port_names i.site.content.ports) ≤ 1
  ports_once n =
      let f : times n (only (inside_of i.site b gs)) + times_path n (i.site.around ++ i.site.content ∷ []) ≤ times n i.table.config.roots = found_path n b.name i.table.config.roots (inside_of i.site b gs) h.there in
      let o : times n i.table.config.roots ≤ 1 = (stand v i).once n in
      let k : times_of n i.site.content ≤ times_path n (i.site.around ++ i.site.content ∷ []) = at_end i.site.around in
      omega arith
    where
      at_end : (r : List Content) → times_of n i.site.content ≤ times_path n (r ++ i.site.content ∷ [])
      at_end [] = omega arith
      at_end (c ∷ r) = let k : times_of n i.site.content ≤ times_path n (r ++ i.site.content ∷ []) = at_end r in omega arith

  -- the plan
  module _ (solved : IsSolved gs) (holds : HoldsInside o v.table.program.templates.nodes (v.stores ++ a.store ∷ [])) (few : length v.body < 2 ^ 32)
      (t : ToldStore) (known : ℕ) (answer : AnswersPromoted v.table.program.templates.nodes (v.stores ++ a.store ∷ []) known t) where
    none : gs ≡ no_goals
    none = solved_none gs solved

    joined : held_in g i.site.goals ≡ Some (a_choice (op_held v.table.program.templates.nodes o) (box b no_goals no_boxes))
    joined = held ∙ ap (λ (x : Goals). Some (a_choice (op_held v.table.program.templates.nodes o) (box b x no_boxes))) none

    all : StandFor (IsTold (told_in v.table.program.templates.nodes (v.stores ++ a.store ∷ []))) (IsTold (whole i.site ++ b.equations))
    all = subst (λ (E : Equations). StandFor (IsTold (told_in v.table.program.templates.nodes (v.stores ++ a.store ∷ []))) (IsTold (E ++ b.equations))) (environment_is v i b gs a h) (all_stand v i b gs a h)

    frames : t.store.frames ≡ with_names b.frames i.site.content.frames
    frames = joined_frames v i a.store known t answer ∙ ap (λ (l : List Name). with_names l i.site.content.frames) (frames_are v i b gs a h)

    once : (n : Name) → times_in n (port_names (ports_in v.table.program.templates.nodes a.store.ports)) + times_in n (port_names i.site.content.ports) ≤ 1
    once n = subst (λ (l : List Port). times_in n (port_names l) + times_in n (port_names i.site.content.ports) ≤ 1) (sym (ports_are v i b gs a h)) (ports_once n)

    ports : ports_in v.table.program.templates.nodes t.store.ports ≡ with_ports b.ports i.site.content.ports
    ports = joined_ports v i a.store known t answer once ∙ ap (λ (l : List Port). with_ports l i.site.content.ports) (ports_are v i b gs a h)

    goals_are : named_atoms v.table.program.templates.nodes (numbered_goals v.worker v.next v.body) ≡ numbered v.worker (slice_index i.table.config.next v.worker) b.body
    goals_are = numbered_atoms v.table.program.templates.nodes v.worker v.next v.body ∙ ap (numbered v.worker v.next) body ∙ ap (λ (n : ℕ). numbered v.worker n b.body) i.next

    abbrev pub label : Label
    label = record { rule = Rule.Promote; place = v.place; alternative = Some a.name; worker = v.worker }

    is_promoted : IsPromoted label (box b no_goals no_boxes) b
    is_promoted = record { rule = refl; alternative = ap Some h.seen.name; only = refl }

    abbrev joins_goal : (new : Stored) → new ≡ t.store → JoinsGoal v.table.program label (slice_index i.table.config.next v.worker) i.site g new (named_atoms v.table.program.templates.nodes (numbered_goals v.worker v.next v.body))
    joins_goal new e = record {
      operator = op_held v.table.program.templates.nodes o;
      alternatives = box b no_goals no_boxes;
      held = joined;
      joined = b;
      origin = inl is_promoted;
      frames = ap (λ (s : Stored). s.frames) e ∙ frames;
      ports = ap (λ (s : Stored). ports_in v.table.program.templates.nodes s.ports) e ∙ ports;
      stands = λ D d. subst (λ (s : Stored). StandFor (IsTold (D ++ bindings_in v.table.program.templates.nodes s.bindings)) (IsTold (whole i.site ++ b.equations))) (sym e)
          (joined_stands v i a.store known t answer b.equations all D d);
      body = goals_are;
    }

    abbrev change : Change
    change = becomes (joining b i.site.content) (with_atoms v.worker (slice_index i.table.config.next v.worker) b.body (without_goal g i.site.goals)) (length b.body)

    named : same_name a.name b.name ≡ true
    named = ap (λ (n : Name). same_name n b.name) h.seen.name ∙ same_name-refl b.name

    promoted : promote v.worker (slice_index i.table.config.next v.worker) g a.name i.site (held_in g i.site.goals) ≡ Some change
    promoted = ap (promote v.worker (slice_index i.table.config.next v.worker) g a.name i.site) joined ∙ ap (λ (x : Bool). if x then Some change else None) named

    allowed : MayPromote a.name i.site (Some (a_choice (op_held v.table.program.templates.nodes o) (box b gs no_boxes)))
    allowed = subst (λ (x : Bool). IsSomeAnd (if x then Some (inside_of i.site b gs) else None) (GuardHolds (op_held v.table.program.templates.nodes o))) (sym named) (guard_is v i b gs a h o holds)

    makes : Makes (Allows v.table.program) v.table.program (slice_index i.table.config.next v.worker) label i.site change
    makes = record {
      reading = nothing;
      change = subst (λ (x : Place). change_by v.table.program nothing v.worker (slice_index i.table.config.next v.worker) Rule.Promote x (Some a.name) i.site ≡ Some change) (sym p) promoted;
      allowed = subst (λ (x : Place). Allows v.table.program nothing Rule.Promote x (Some a.name) i.site) (sym p) (subst (MayPromote a.name i.site) (sym held) allowed);
      few_names = let l : length v.body ≡ length b.body = as_long in omega arith;
    }

    abbrev applies : Applies all_rules v.table.program i.table.config label (after i.table.config label i.site change)
    applies = record { in_force = inr (inr (inr (inr (inl refl)))); site = i.site; is_site = i.is_site; change = change; makes = makes; result = refl }

    -- what the alternative binds
    bound : (binds : List Var) → AreMembers v.table.program.templates.nodes v.stores t.bound binds → AreBoundIn i.table.config (after i.table.config label i.site change) i.site binds
    bound binds m = told_bound all_rules v.table.program i.table.config label (after i.table.config label i.site change) (stand v i) applies (joining b i.site.content)
        (with_atoms v.worker (slice_index i.table.config.next v.worker) b.body (without_goal g i.site.goals)) no_boxes refl binds
        (joined_at v i a.store known t answer binds m b.equations
        (subst (λ (E : Equations). StandFor (IsTold (told_in v.table.program.templates.nodes (v.stores ++ a.store ∷ []))) (IsTold E))
        (ap (λ (E : Equations). E ++ b.equations) (environment_is v i b gs a h) ∙ append_assoc (environment i.site) i.site.content.equations b.equations) (all_stand v i b gs a h)))
        (oldest_at v i t.bound binds m)

    -- by what it adds
    module _ (part : Part) (is : with_part (innermost v.stores) part ≡ t.store) (adds : part.frames.items ≡ a.store.frames) where
      joins_by : JoinsBy v.table.program label (slice_index i.table.config.next v.worker) i.site g (added_of part) (named_atoms v.table.program.templates.nodes (numbered_goals v.worker v.next v.body))
      joins_by = joins_from all_rules (run_of v.table v.journal) (table_of v.table) i.table i.site (found v i) label g (added_of part) (named_atoms v.table.program.templates.nodes (numbered_goals v.worker v.next v.body))
          (joins_goal (with_added (store_in ((table_of v.table).box_of i.site.content.name)) (added_of part)) (ap (λ (s : Stored). with_part s part) (sym (own_here v i)) ∙ is))
          (λ old. all_named_with old part.frames.items ∙ ap (λ (ns : List Name). with_names ns old) (adds ∙ frames_are v i b gs a h))

      pub promote_right : (binds : List Var) → AreMembers v.table.program.templates.nodes v.stores t.bound binds → (reads : List Item) → IsReadAt v g binds reads
          → (step : Step) → part_step v.table.program.templates.nodes step ≡ joins_part (added_of part) t.solved (named_atoms v.table.program.templates.nodes (numbered_goals v.worker v.next v.body))
          → IsRightLabel (record { table = v.table; journal = v.journal; label = label; more = []; reads = reads; names = length v.body; step = step; binds = binds })
      promote_right binds m reads read step e = record {
        table = i.table;
        result = after i.table.config label i.site change;
        applies = applies;
        makes = subst (MakesPart v.table.program label (slice_index i.table.config.next v.worker) i.site) (sym e) (g, p, joins_by);
        solved = subst (IsSolvedIn (table_of v.table) i.site) (sym over) (joined_solved v i a.store known t answer t.solved refl);
        names = as_long;
        reads = subst (ReadsPart (IsRead reads) i.table.config label i.site binds) (sym e) (g, p, read.enough i);
        binds = bound binds m;
        there = read.there i;
      }
        where
          over : step_in v.table label step ≡ laws.joins t.store t.solved (named_atoms v.table.program.templates.nodes (numbered_goals v.worker v.next v.body))
          over = part_here v i label refl step ∙ ap (step_over (innermost v.stores)) e
              ∙ ap (λ (s : Stored). laws.joins s t.solved (named_atoms v.table.program.templates.nodes (numbered_goals v.worker v.next v.body))) is
