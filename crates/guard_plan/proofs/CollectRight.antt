-- A plan of Collect is right.
use Rattle.std.proofs.Common.{◌≡◌, ℕ, ◌+◌, ◌≤◌, ◌<◌, ◌^◌, List, [], ◌∷◌, ◌++◌, length, Bool, true, false, Some, None, refl, sym, ◌∙◌, ap, subst, inl, inr, arith, append_assoc}
use Rattle.std.specs.Prelude.{slice_index, if◌then◌else◌}
use Rattle.akl_terms.specs.declared.name.Name.{Name}
use Rattle.akl_terms.specs.declared.name.Var.{Var}
use Rattle.akl_terms.specs.declared.name.Place.{Place}
use Rattle.akl_terms.specs.declared.term.Term.{Term}
use Rattle.akl_terms.specs.declared.term.Equation as code
use Rattle.akl_terms.specs.Template.{tree}
use Rattle.akl_terms.specs.Tree.{Tree}
use Rattle.akl_terms.specs.Names.{same_name}
use Rattle.akl_terms.specs.Equal.{Equations, IsTold, told}
use Rattle.akl_terms.specs.Standing.{StandFor}
use Rattle.akl_terms.proofs.EqualLaws.{IsTold-left, IsTold-right, IsTold-either}
use Rattle.akl_terms.proofs.StandingLaws.{StandFor-follows, StandFor-back, StandFor-on}
use Rattle.constraint_laws.proofs.StandsGrow.{stands_with_more}
use Rattle.akl_model.specs.declared.item.Item.{Item}
use Rattle.akl_model.specs.declared.label.Rule.{Rule}
use Rattle.akl_model.specs.declared.label.Label.{Label}
use Rattle.akl_model.specs.Config.{Operator, Content, Boxes, no_boxes, box, Goals, no_goals, atom, choice, an_atom, a_choice, held_in, without_goal, with_names, Port, with_ports, environment, whole}
use Rattle.akl_model.specs.Renaming.{port_names}
use Rattle.akl_model.specs.Names.{one_if, times_in}
use Rattle.akl_model.specs.Rules.{nothing, Change, becomes, joining, change_by, gathered, collect_as, collect, count_of}
use Rattle.akl_model.specs.Conditions.{Makes, MayCollect}
use Rattle.akl_model.specs.Stable.{Allows, only}
use Rattle.akl_model.specs.Derivations.{Applies, after}
use Rattle.akl_model.specs.Wakes.{names_around}
use Rattle.akl_model.proofs.Finds.{times, times_inside}
use Rattle.akl_model.proofs.Gathered.{gathers}
use Rattle.akl_model.proofs.Options.{some_value}
use Rattle.akl_model.proofs.ScopesAlong.{times_path, found_path}
use Rattle.rational_unify.specs.Solving.{bindings_in, equations_in}
use Rattle.local_store.specs.declared.part.Part.{Part}
use Rattle.local_store.specs.Parts.{ToldStore, with_part}
use Rattle.local_store.specs.Stored.{Stored, nothing as no_store, with_bindings}
use Rattle.local_store.specs.Chained.{bindings_from, innermost}
use Rattle.local_store.specs.Telling.{ToldAlso}
use Rattle.local_store.proofs.Layers.{from-last, bindings-either, bindings-left, bindings-right, joins-told, told-joins}
use Rattle.class_members.specs.Members.{AreMembers}
use Rattle.table_laws.specs.Rows.{stores_along, told_in, ports_in, store_in}
use Rattle.table_laws.specs.Steps as laws
use Rattle.table_laws.specs.Steps.{IsGathered, JoinsGoal, numbered, IsSolvedIf, IsSolvedIn}
use Rattle.table_laws.specs.Added.{added_of, with_added}
use Rattle.table_laws.specs.Joining.{JoinsBy}
use Rattle.table_laws.specs.PartSteps.{joins_part, step_over, MakesPart, ReadsPart}
use Rattle.table_laws.proofs.Here.{joins_from}
use Rattle.box_tree.specs.declared.step.Step.{Step}
use Rattle.box_tree.specs.Tables.{all_rules, table_of, step_in}
use Rattle.box_tree.specs.Views.{ViewValue, IsViewOf, run_of}
use Rattle.box_tree.specs.Plans.{part_step, IsRead, IsRightLabel}
use Rattle.step_laws.specs.Bound.{AreBoundIn}
use Rattle.box_tree.proofs.BoundHere.{told_bound}
use Rattle.guard_plan.specs.Guards.{AreAllSolved, AreQuietOver}
use Rattle.guard_plan.specs.Collecting.{frames_of, ports_of, bindings_of, IsList, IsToldInner, IsJoined}
use Rattle.guard_plan.proofs.BoundAt.{oldest_at, joined_at}
use Rattle.table_laws.proofs.StoreChains.{from_told, to_told, told_stands}
use Rattle.guard_plan.proofs.Chains.{same_solved}
use Rattle.guard_plan.proofs.CollectNone.{all_quiet}
use Rattle.guard_plan.proofs.CutRight.{counted}
use Rattle.guard_plan.proofs.Joined.{inner_told}
use Rattle.guard_plan.proofs.Gathering.{HasGathered, gather, told_of, told_either, bindings_told, equations_told}
use Rattle.guard_plan.proofs.JoinRight.{joined_solved, joined_stands}
use Rattle.guard_plan.proofs.Names.{all_named_with, all_ports_with}
use Rattle.guard_plan.proofs.Placed.{ArePlaced}
use Rattle.guard_plan.specs.ReadAt.{IsReadAt}
use Rattle.guard_plan.proofs.Sites.{stand, found, whole_stands, own_here, part_here, own_frames, own_ports}

-- names stand once: those of alternatives, and those of the box of their choice

gathered_ports : (v : ViewValue) (w next : ℕ) (n : Name) (r : Tree) (bs : Boxes) (k : Content) → gathered v.table.program w next n r bs ≡ Some k → (m : Name) → times_in m (port_names k.ports) ≤ times m bs
gathered_ports v w next n r no_boxes k e m = subst (λ (x : Content). times_in m (port_names x.ports) ≤ 0) (some_value e) (omega arith)
gathered_ports v w next n r (box b gs bs) k e m =
    let g : _ = gathers v.table.program w next n r b gs bs k e in
    let f : times_in m (port_names g.1.rest.ports) ≤ times m bs = gathered_ports v w (next + 1) n _ bs g.1.rest g.1.is_rest m in
    let s : times_in m (port_names (b.ports ++ g.1.rest.ports)) ≡ times_in m (port_names b.ports) + times_in m (port_names g.1.rest.ports) = ports_counted b.ports g.1.rest.ports m in
    subst (λ (x : Content). times_in m (port_names x.ports) ≤ times m (box b gs bs)) g.1.whole (omega arith)
  where
    ports_counted : (ps qs : List Port) (m : Name) → times_in m (port_names (ps ++ qs)) ≡ times_in m (port_names ps) + times_in m (port_names qs)
    ports_counted [] qs m = omega arith
    ports_counted (p ∷ ps) qs m = let e : times_in m (port_names (ps ++ qs)) ≡ times_in m (port_names ps) + times_in m (port_names qs) = ports_counted ps qs m in omega arith

held_times : (m g : Name) (gs : Goals) (o : Operator) (bs : Boxes) → held_in g gs ≡ Some (a_choice o bs) → times m bs ≤ times_inside m gs
held_times m g no_goals o bs e = cc
held_times m g (atom h a gs) o bs e = on (same_name g h) e (λ q. held_times m g gs o bs q)
  where
    on : (t : Bool) → (if t then Some (an_atom a) else held_in g gs) ≡ Some (a_choice o bs) → (held_in g gs ≡ Some (a_choice o bs) → times m bs ≤ times_inside m gs)
        → times m bs ≤ one_if (same_name m h) + times_inside m gs
    on true q f = cc
    on false q f = let k : times m bs ≤ times_inside m gs = f q in omega arith
held_times m g (choice h u cs gs) o bs e = on (same_name g h) e (λ q. held_times m g gs o bs q)
  where
    on : (t : Bool) → (if t then Some (a_choice u cs) else held_in g gs) ≡ Some (a_choice o bs) → (held_in g gs ≡ Some (a_choice o bs) → times m bs ≤ times_inside m gs)
        → times m bs ≤ one_if (same_name m h) + (times m cs + times_inside m gs)
    on true q f = let z : cs ≡ bs = cc in let k : times m cs ≡ times m bs = ap (times m) z in omega arith
    on false q f = let k : times m bs ≤ times_inside m gs = f q in omega arith

-- what is told inside the stores of a view: the bindings of all alternatives, and the list
module _ (v : ViewValue) (i : IsViewOf v) (list : Term) (es : List code.Equation) (l : IsList v.table.program (record { worker = v.worker; number = v.next }) list v.alternatives es) (inner : Stored)
    (t : IsToldInner v.table.program.templates.nodes v.stores v.known v.alternatives es inner) where
  abbrev own : Stored
  own = with_bindings no_store (bindings_of v.alternatives)

  abbrev all_told : Equations
  all_told = told_of v i l.last l.is_last v.next list v.alternatives

  is_told : (a b : Tree) → ToldAlso v.table.program.templates.nodes (v.stores ++ own ∷ []) es a b → IsTold (told_in v.table.program.templates.nodes v.stores ++ all_told) a b
  is_told a b (inl x) = elim (bindings-either v.table.program.templates.nodes own.bindings (bindings_from v.stores) a b
      (subst (λ (bs : List (Var × Term)). IsTold (bindings_in v.table.program.templates.nodes bs) a b) (from-last v.stores own) x)) [
        | inl y ↦ elim (joins-told v.table.program.templates.nodes [] (bindings_of v.alternatives) a b y) [
          | inl z ↦ absurd z
          | inr z ↦ IsTold-right (told_in v.table.program.templates.nodes v.stores) all_told a b (bindings_told v i l.last l.is_last v.next list v.alternatives a b z)
        ]
        | inr y ↦ IsTold-left (told_in v.table.program.templates.nodes v.stores) all_told a b (from_told v.table.program.templates.nodes v.stores a b y)
      ]
  is_told a b (inr x) = IsTold-right (told_in v.table.program.templates.nodes v.stores) all_told a b
      (equations_told v i l.last l.is_last v.next list v.alternatives a b (subst (λ (fs : List code.Equation). IsTold (equations_in v.table.program.templates.nodes fs) a b) l.equations x))

  was_told : (a b : Tree) → IsTold (told_in v.table.program.templates.nodes v.stores ++ all_told) a b → ToldAlso v.table.program.templates.nodes (v.stores ++ own ∷ []) es a b
  was_told a b m = elim (IsTold-either (told_in v.table.program.templates.nodes v.stores) all_told a b m) [
    | inl x ↦ inl (subst (λ (bs : List (Var × Term)). IsTold (bindings_in v.table.program.templates.nodes bs) a b) (sym (from-last v.stores own))
        (bindings-right v.table.program.templates.nodes own.bindings (bindings_from v.stores) a b (to_told v.table.program.templates.nodes v.stores a b x)))
    | inr y ↦ elim (told_either v i l.last l.is_last v.next list v.alternatives a b y) [
      | inl x ↦ inl (subst (λ (bs : List (Var × Term)). IsTold (bindings_in v.table.program.templates.nodes bs) a b) (sym (from-last v.stores own))
          (bindings-left v.table.program.templates.nodes own.bindings (bindings_from v.stores) a b (told-joins v.table.program.templates.nodes [] (bindings_of v.alternatives) a b (inr x))))
      | inr x ↦ inr (subst (λ (fs : List code.Equation). IsTold (equations_in v.table.program.templates.nodes fs) a b) (sym l.equations) x)
    ]
  ]

  told_stand : StandFor (ToldAlso v.table.program.templates.nodes (v.stores ++ own ∷ []) es) (IsTold (told_in v.table.program.templates.nodes v.stores ++ all_told))
  told_stand = StandFor-follows (λ a b m. told (is_told a b m)) (λ a b m. told (was_told a b m))

  pub inner_stands : (bs : Boxes) (h : HasGathered v i l.last l.is_last v.next list bs v.alternatives) → StandFor (IsTold (told_in v.table.program.templates.nodes (v.stores ++ inner ∷ []))) (IsTold (whole i.site ++ h.content.equations))
  inner_stands bs h = StandFor-on (StandFor-back (told_stands v.table.program.templates.nodes (v.stores ++ inner ∷ []))) (StandFor-on (StandFor-back (inner_told v.table.program.templates.nodes v.stores v.known v.alternatives es inner t)) (StandFor-on told_stand
      (StandFor-on (stands_with_more (told_in v.table.program.templates.nodes v.stores) (whole i.site) all_told (whole_stands v i)) (h.stands (whole i.site) (record { each = λ a b m. m })))))

module _ (v : ViewValue) (i : IsViewOf v) (g : Name) (list : Term) (bs : Boxes) (p : v.place ≡ Place.Goal g) (held : held_in g i.site.goals ≡ Some (a_choice (Operator.collecting (tree v.table.program.templates.nodes list)) bs))
    (seen : ArePlaced v i bs v.alternatives) (solved : AreAllSolved v.alternatives) (quiet : AreQuietOver v.table.program.templates.nodes v.stores v.alternatives) (few : length v.alternatives < 2 ^ 32)
    (es : List code.Equation) (l : IsList v.table.program (record { worker = v.worker; number = v.next }) list v.alternatives es)
    (t : ToldStore) (j : IsJoined v.table.program.templates.nodes v.stores v.known v.alternatives (frames_of v.worker v.next v.alternatives) es t) where
  has : HasGathered v i l.last l.is_last v.next list bs v.alternatives
  has = gather v i l.last l.is_last v.next list bs v.alternatives seen solved l.collected

  abbrev k : Content
  k = has.content

  is_content : gathered v.table.program v.worker (slice_index i.table.config.next v.worker) i.site.content.name (tree v.table.program.templates.nodes list) bs ≡ Some k
  is_content = subst (λ (n : ℕ). gathered v.table.program v.worker n i.site.content.name (tree v.table.program.templates.nodes list) bs ≡ Some k) i.next has.is_content

  all : StandFor (IsTold (told_in v.table.program.templates.nodes (v.stores ++ j.inner ∷ []))) (IsTold (whole i.site ++ k.equations))
  all = inner_stands v i list es l j.inner j.told bs has

  -- the store

  frames : t.store.frames ≡ with_names k.frames i.site.content.frames
  frames = j.frames ∙ all_named_with (innermost v.stores).frames (frames_of v.worker v.next v.alternatives)
      ∙ ap (with_names (frames_of v.worker v.next v.alternatives)) (own_frames v i) ∙ ap (λ (ns : List Name). with_names ns i.site.content.frames) has.frames

  ports_once : (n : Name) → times_in n (port_names (ports_in v.table.program.templates.nodes (ports_of v.alternatives))) + times_in n (port_names (ports_in v.table.program.templates.nodes (innermost v.stores).ports)) ≤ 1
  ports_once n =
      let x : times_in n (port_names (ports_in v.table.program.templates.nodes (ports_of v.alternatives))) ≡ times_in n (port_names k.ports) = ap (λ (ps : List Port). times_in n (port_names ps)) has.ports in
      let y : times_in n (port_names (ports_in v.table.program.templates.nodes (innermost v.stores).ports)) ≡ times_in n (port_names i.site.content.ports) = ap (λ (ps : List Port). times_in n (port_names ps)) (own_ports v i) in
      let a : times_in n (port_names k.ports) ≤ times n bs = gathered_ports v v.worker v.next i.site.content.name (tree v.table.program.templates.nodes list) bs k has.is_content n in
      let b : times n bs ≤ times_inside n i.site.goals = held_times n g i.site.goals (Operator.collecting (tree v.table.program.templates.nodes list)) bs held in
      let f : times n (only i.site) + times_path n i.site.around ≤ times n i.table.config.roots = found_path n i.site.content.name i.table.config.roots i.site (found v i) in
      let o : times n i.table.config.roots ≤ 1 = (stand v i).once n in
      omega arith

  ports : ports_in v.table.program.templates.nodes t.store.ports ≡ with_ports k.ports i.site.content.ports
  ports = ap (ports_in v.table.program.templates.nodes) j.ports ∙ all_ports_with v.table.program.templates.nodes (innermost v.stores).ports (ports_of v.alternatives) ports_once
      ∙ ap (with_ports (ports_in v.table.program.templates.nodes (ports_of v.alternatives))) (own_ports v i) ∙ ap (λ (ps : List Port). with_ports ps i.site.content.ports) has.ports

  is_solved : (b : Bool) → j.joined.solved ≡ b → IsSolvedIf b (table_of v.table) (names_around i.site) j.joined.store → IsSolvedIf b (table_of v.table) (names_around i.site) t.store
  is_solved false e h = tt
  is_solved true e h = same_solved v.table.program.templates.nodes (stores_along (table_of v.table) (names_around i.site)) j.joined.store t.store j.bindings h

  store_solved : IsSolvedIf t.solved (table_of v.table) (names_around i.site) t.store
  store_solved = subst (λ (b : Bool). IsSolvedIf b (table_of v.table) (names_around i.site) t.store) (sym j.solved)
      (is_solved j.joined.solved refl (joined_solved v i j.inner v.known j.joined j.promoted j.joined.solved refl))

  -- the plan

  abbrev pub label : Label
  label = record { rule = Rule.Collect; place = v.place; alternative = None; worker = v.worker }

  is_gathered : IsGathered v.table.program label (slice_index i.table.config.next v.worker) i.site.content.name (Operator.collecting (tree v.table.program.templates.nodes list)) bs k
  is_gathered = record { rule = refl; alternative = refl; result = tree v.table.program.templates.nodes list; collects = refl; is_content = is_content }

  abbrev joins_goal : (new : Stored) → new ≡ t.store → JoinsGoal v.table.program label (slice_index i.table.config.next v.worker) i.site g new []
  joins_goal new e = record {
    operator = Operator.collecting (tree v.table.program.templates.nodes list);
    alternatives = bs;
    held = held;
    joined = k;
    origin = inr is_gathered;
    frames = ap (λ (s : Stored). s.frames) e ∙ frames;
    ports = ap (λ (s : Stored). ports_in v.table.program.templates.nodes s.ports) e ∙ ports;
    stands = λ D d. subst (λ (ps : List (Var × Term)). StandFor (IsTold (D ++ bindings_in v.table.program.templates.nodes ps)) (IsTold (whole i.site ++ k.equations))) (sym (ap (λ (s : Stored). s.bindings) e ∙ j.bindings))
        (joined_stands v i j.inner v.known j.joined j.promoted k.equations all D d);
    body = ap (numbered v.worker (slice_index i.table.config.next v.worker)) (sym has.body);
  }

  abbrev change : Change
  change = becomes (joining k i.site.content) (without_goal g i.site.goals) (count_of bs)

  collected : collect v.table.program v.worker (slice_index i.table.config.next v.worker) g i.site (held_in g i.site.goals) ≡ Some change
  collected = ap (collect v.table.program v.worker (slice_index i.table.config.next v.worker) g i.site) held ∙ ap (collect_as g bs i.site) is_content

  makes : Makes (Allows v.table.program) v.table.program (slice_index i.table.config.next v.worker) label i.site change
  makes = record {
    reading = nothing;
    change = subst (λ (x : Place). change_by v.table.program nothing v.worker (slice_index i.table.config.next v.worker) Rule.Collect x None i.site ≡ Some change) (sym p) collected;
    allowed = subst (λ (x : Place). Allows v.table.program nothing Rule.Collect x None i.site) (sym p) (subst (MayCollect i.site) (sym held) (all_quiet v i bs v.alternatives seen quiet));
    few_names = let e : count_of bs ≡ length v.alternatives = counted v i bs v.alternatives seen in omega arith;
  }

  abbrev applies : Applies all_rules v.table.program i.table.config label (after i.table.config label i.site change)
  applies = record { in_force = inr (inr (inr (inr (inr (inr (inr (inr (inr (inl refl))))))))); site = i.site; is_site = i.is_site; change = change; makes = makes; result = refl }

  bound : (binds : List Var) → AreMembers v.table.program.templates.nodes v.stores t.bound binds → AreBoundIn i.table.config (after i.table.config label i.site change) i.site binds
  bound binds m =
      let n : AreMembers v.table.program.templates.nodes v.stores j.joined.bound binds = subst (λ (xs : List Var). AreMembers v.table.program.templates.nodes v.stores xs binds) j.bound m in
      told_bound all_rules v.table.program i.table.config label (after i.table.config label i.site change) (stand v i) applies (joining k i.site.content) (without_goal g i.site.goals) no_boxes refl binds
      (joined_at v i j.inner v.known j.joined j.promoted binds n k.equations
      (subst (λ (E : Equations). StandFor (IsTold (told_in v.table.program.templates.nodes (v.stores ++ j.inner ∷ []))) (IsTold E)) (append_assoc (environment i.site) i.site.content.equations k.equations) all))
      (oldest_at v i j.joined.bound binds n)

  -- by what it adds
  module _ (part : Part) (is : with_part (innermost v.stores) part ≡ t.store) (adds : part.frames.items ≡ frames_of v.worker v.next v.alternatives) where
    joins_by : JoinsBy v.table.program label (slice_index i.table.config.next v.worker) i.site g (added_of part) []
    joins_by = joins_from all_rules (run_of v.table v.journal) (table_of v.table) i.table i.site (found v i) label g (added_of part) []
        (joins_goal (with_added (store_in ((table_of v.table).box_of i.site.content.name)) (added_of part)) (ap (λ (s : Stored). with_part s part) (sym (own_here v i)) ∙ is))
        (λ old. all_named_with old part.frames.items ∙ ap (λ (ns : List Name). with_names ns old) (adds ∙ has.frames))

    pub collect_right : (binds : List Var) → AreMembers v.table.program.templates.nodes v.stores t.bound binds → (reads : List Item) → IsReadAt v g binds reads
        → (step : Step) → part_step v.table.program.templates.nodes step ≡ joins_part (added_of part) t.solved []
        → IsRightLabel (record { table = v.table; journal = v.journal; label = label; more = []; reads = reads; names = length v.alternatives; step = step; binds = binds })
    collect_right binds m reads read step e = record {
      table = i.table;
      result = after i.table.config label i.site change;
      applies = applies;
      makes = subst (MakesPart v.table.program label (slice_index i.table.config.next v.worker) i.site) (sym e) (g, p, joins_by);
      solved = subst (IsSolvedIn (table_of v.table) i.site) (sym over) store_solved;
      names = sym (counted v i bs v.alternatives seen);
      reads = subst (ReadsPart (IsRead reads) i.table.config label i.site binds) (sym e) (g, p, read.enough i);
      binds = bound binds m;
      there = read.there i;
    }
      where
        over : step_in v.table label step ≡ laws.joins t.store t.solved []
        over = part_here v i label refl step ∙ ap (step_over (innermost v.stores)) e ∙ ap (λ (s : Stored). laws.joins s t.solved []) is
