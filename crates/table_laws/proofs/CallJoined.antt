-- What a call makes of a table up to its promotion is a table of the run that goes on with these labels.
use Rattle.std.proofs.Common.{◌≡◌, ℕ, ◌+◌, ◌≤◌, List, [], ◌∷◌, ◌++◌, length, Bool, true, false, Option, Some, None, refl, sym, ◌∙◌, ap, subst, inl, inr, arith}
use Rattle.std.proofs.lemmas.List.{length-append}
use Rattle.std.specs.Prelude.{slice_index, option_map}
use Rattle.akl_terms.specs.declared.name.Name.{Name}
use Rattle.akl_terms.specs.declared.name.Place.{Place}
use Rattle.akl_terms.specs.declared.term.Node.{Node}
use Rattle.akl_terms.specs.Equal.{Equations, IsTold}
use Rattle.akl_terms.specs.Names.{same_name}
use Rattle.akl_terms.specs.Standing.{StandFor}
use Rattle.akl_terms.proofs.SameNames.{same_name-refl}
use Rattle.constraint_laws.proofs.SameTerms.{name_or}
use Rattle.akl_model.specs.declared.item.Item.{Item}
use Rattle.akl_model.specs.declared.label.Rule.{Rule}
use Rattle.akl_model.specs.declared.label.Label.{Label}
use Rattle.akl_model.specs.Config.{Atom, with_names, with_ports, environment, Boxes, no_boxes, box, no_goals, an_atom, Found, whole, box_at, home_of}
use Rattle.akl_model.specs.Instances.{drawn_by}
use Rattle.akl_model.specs.Changes.{of_atom, of_choice, by_store, IsLastChange}
use Rattle.akl_model.specs.Derivations.{Applies, Replays}
use Rattle.akl_model.specs.Wakes.{names_around}
use Rattle.akl_model.proofs.Finds.{box_at-none}
use Rattle.akl_model.proofs.NamesKept.{Stand, replay-stands}
use Rattle.akl_model.proofs.NextNumbers.{next_own}
use Rattle.akl_model.proofs.Options.{some_value, map_some, none_or}
use Rattle.plan_laws.proofs.StampLaws.{old_stamp}
use Rattle.plan_laws.proofs.Replayed.{replay_further}
use Rattle.step_laws.specs.Likeness.{IsOld}
use Rattle.step_laws.proofs.Steps.{old_box, old_goal}
use Rattle.step_laws.proofs.Whereabouts.{home_in}
use Rattle.rational_unify.specs.Solving.{bindings_in}
use Rattle.local_store.specs.Stored.{Stored}
use Rattle.local_store.specs.Chained.{IsSolvedChain}
use Rattle.plan_laws.specs.AtOnce.{by, IsAtOnce, AreInForce}
use Rattle.plan_laws.specs.Between.{with_choice}
use Rattle.plan_laws.proofs.CallAlternatives.{Calling, between, IsNewName, AreNew, named}
use Rattle.plan_laws.proofs.Between.{stood, is_choice, home, unknown}
use Rattle.plan_laws.proofs.CallEdits.{raised_own}
use Rattle.plan_laws.proofs.Calls.{calling, forked, fork_applies, forked_new, forked_stand, end_steps, middle, steps, last_stand, last_new, promoted}
use Rattle.plan_laws.proofs.CallsOutside.{not_old}
use Rattle.plan_laws.proofs.Sifted.{joined_to}
use Rattle.table_laws.specs.Rows.{BoxRow, GoalRow, Table, ports_in}
use Rattle.table_laws.specs.Stamped.{Run, followed_by, IsStamped, IsTableOf}
use Rattle.table_laws.specs.Steps.{joins, numbered, Makes, IsSolvedIf, IsSolvedWhen}
use Rattle.table_laws.specs.Unfolds.{IsBoxRow, spot_of}
use Rattle.table_laws.specs.Writes.{IsTable, solved_when, after_join}
use Rattle.table_laws.proofs.Frame.{neither, found_of}
use Rattle.table_laws.proofs.Insides.{spot_held, spot_none}
use Rattle.table_laws.proofs.Sets.{set_here, set_other, other_by}
use Rattle.table_laws.proofs.StepMakes.{step_law}
use Rattle.table_laws.specs.Calls.{StandOver, promoted_at, after_call}
use Rattle.table_laws.proofs.AfterCall.{joined_table}
use Rattle.table_laws.proofs.MiddleRows.{IsStoreOf, last_row, middle_table, unchanged, stores_around, middle_unfolds}
use Rattle.table_laws.proofs.StampsBetween.{IsElsewhere, apart_itself, apart_between, unchanged_between, stamps_along, replays_along}
use Rattle.table_laws.proofs.LastChanges.{changes_or, last_change}

module _ (rules : List Rule) (force : AreInForce rules) (r : Run) (T : Table) (t : IsTableOf rules r T) (w : ℕ) (g : Name) (f : Found) (is_home : home_of g t.config.roots ≡ Some f) (x : IsAtOnce r.program t.config w g f) where
  abbrev s : Stand t.config
  s = replay-stands rules r.program r.query r.journal t.config t.replays

  abbrev k : Calling
  k = calling rules force r.program t.config s w g f is_home x

  abbrev pub first : Boxes
  first = forked rules force r.program t.config s w g f is_home x

  abbrev last : Boxes
  last = box x.last no_goals no_boxes

  abbrev fork : Label
  fork = by w Rule.Fork (Place.Goal g) None

  abbrev promote : Label
  promote = by w Rule.Promote (Place.Goal g) (Some x.last.name)

  abbrev others : List Label
  others = middle rules force r.program t.config s w g f is_home x ⊥ (λ q. absurd q)

  -- the run up to the last label
  abbrev early : Run
  early = record r { journal = (r.journal ++ fork ∷ []) ++ others }

  fork_replays : Replays rules r.program r.query (r.journal ++ fork ∷ []) (between k first)
  fork_replays = replay_further rules r.program r.query r.journal t.config fork (between k first) t.replays (fork_applies rules force r.program t.config s w g f is_home x)

  first_names : AreNew k first
  first_names = forked_new rules force r.program t.config s w g f is_home x

  early_replays : Replays rules r.program r.query ((r.journal ++ fork ∷ []) ++ others) (between k last)
  early_replays = replays_along k r.query first others last (steps rules force r.program t.config s w g f is_home x ⊥ (λ q. absurd q)) (r.journal ++ fork ∷ []) fork_replays

  -- what has nothing to do with the call keeps its stamp
  stamp_kept : (item : Item) → IsElsewhere k item → (m : ℕ) → IsLastChange by_store rules r.program r.query r.journal item m → IsLastChange by_store rules r.program r.query ((r.journal ++ fork ∷ []) ++ others) item m
  stamp_kept item h m y = stamps_along k r.query first others last (steps rules force r.program t.config s w g f is_home x ⊥ (λ q. absurd q)) (r.journal ++ fork ∷ []) fork_replays first_names item h m
      (old_stamp by_store rules r.program r.query r.journal t.config fork (between k first) item m t.replays (fork_applies rules force r.program t.config s w g f is_home x)
      (unchanged_between k t.config (between k first) (apart_itself k) (apart_between k first (forked_stand rules force r.program t.config s w g f is_home x) first_names) item h) y)

  store_stamp : (m : ℕ) × IsLastChange by_store rules r.program r.query ((r.journal ++ fork ∷ []) ++ others) (Item.Store x.last.name) m
  store_stamp = last_change by_store rules r.program r.query (Item.Store x.last.name) (λ c d. changes_or c d (Item.Store x.last.name) tt) ((r.journal ++ fork ∷ []) ++ others) (between k last) early_replays

  goals_stamp : (m : ℕ) × IsLastChange by_store rules r.program r.query ((r.journal ++ fork ∷ []) ++ others) (Item.Goals x.last.name) m
  goals_stamp = last_change by_store rules r.program r.query (Item.Goals x.last.name) (λ c d. changes_or c d (Item.Goals x.last.name) tt) ((r.journal ++ fork ∷ []) ++ others) (between k last) early_replays

  goal_stamp : (m : ℕ) × IsLastChange by_store rules r.program r.query ((r.journal ++ fork ∷ []) ++ others) (Item.Goal g) m
  goal_stamp = last_change by_store rules r.program r.query (Item.Goal g) (λ c d. changes_or c d (Item.Goal g) tt) ((r.journal ++ fork ∷ []) ++ others) (between k last) early_replays

  last_stands : Stand (between k last)
  last_stands = last_stand rules force r.program t.config s w g f is_home x ⊥ (λ q. absurd q)

  last_names : AreNew k last
  last_names = last_new rules force r.program t.config s w g f is_home x ⊥ (λ q. absurd q)

  last_new_name : IsNewName k x.last.name
  last_new_name = named k no_boxes x.last no_goals no_boxes last_stands last_names

  box_old : (n : Name) (row : BoxRow) → T.box_of n ≡ Some row → IsNewName k n → ⊥
  box_old n row e h =
      let u : (e : Found) × (box_at n t.config.roots ≡ Some e) × IsBoxRow T t.config.roots e row = found_of T t.config t.unfolds n row e in
      let z : box_at n t.config.roots ≡ None = box_at-none n t.config.roots (unknown t.config s g f is_home w (drawn_by x.called.clauses) n h) in
      let y : box_at n t.config.roots ≡ Some u.0 = u.1 in
      cc

  goal_old_name : (i : Name) (row : GoalRow) → T.goal_of i ≡ Some row → IsNewName k i → ⊥
  goal_old_name i row e h = elim (none_or (home_of i t.config.roots)) [
    | inl q ↦
        let z : Some (spot_of row) ≡ None = sym (ap (option_map spot_of) e) ∙ t.unfolds.goals i ∙ spot_none i t.config.roots q in
        cc
    | inr v ↦ let y : _ = home_in i t.config.roots v.0 v.1 in not_old k i h (old_goal t.config s i v.0 y.0 y.1)
  ]

  how_many : length (x.sift_labels ++ x.end_labels) ≡ 1 + length others
  how_many =
      let e : x.end_labels ≡ (end_steps rules force r.program t.config s w g f is_home x ⊥ (λ q. absurd q)).before ++ promote ∷ [] = (end_steps rules force r.program t.config s w g f is_home x ⊥ (λ q. absurd q)).labels in
      let a : length (x.sift_labels ++ x.end_labels) ≡ length x.sift_labels + length x.end_labels = length-append x.sift_labels x.end_labels in
      let b : length x.end_labels ≡ length ((end_steps rules force r.program t.config s w g f is_home x ⊥ (λ q. absurd q)).before ++ promote ∷ []) = ap length e in
      let c : length ((end_steps rules force r.program t.config s w g f is_home x ⊥ (λ q. absurd q)).before ++ promote ∷ []) ≡ length (end_steps rules force r.program t.config s w g f is_home x ⊥ (λ q. absurd q)).before + length (promote ∷ []) =
      length-append (end_steps rules force r.program t.config s w g f is_home x ⊥ (λ q. absurd q)).before (promote ∷ []) in
      let d : length others ≡ length x.sift_labels + length (end_steps rules force r.program t.config s w g f is_home x ⊥ (λ q. absurd q)).before = length-append x.sift_labels (end_steps rules force r.program t.config s w g f is_home x ⊥ (λ q. absurd q)).before in
      omega arith

  -- a store of the alternative, and one of the box once this has joined it
  module _ (at : Option ℕ) (solved : Bool) (alternative new : Stored) (alternative_frames : alternative.frames ≡ x.last.frames) (alternative_ports : ports_in r.program.templates.nodes alternative.ports ≡ x.last.ports)
      (alternative_stands : StandOver r.program.templates.nodes (whole f) (whole f ++ x.last.equations) alternative.bindings) (frames : new.frames ≡ with_names x.last.frames f.content.frames)
      (ports : ports_in r.program.templates.nodes new.ports ≡ with_ports x.last.ports f.content.ports) (stands : StandOver r.program.templates.nodes (environment f) (whole f ++ x.last.equations) new.bindings)
      (chain : IsSolvedWhen at T f (joins new solved (numbered w (slice_index t.config.next w + drawn_by x.called.clauses) x.last.body))) where
    abbrev goals : List (Name × Atom)
    goals = numbered w (slice_index t.config.next w + drawn_by x.called.clauses) x.last.body

    abbrev V : Table
    V = middle_table k x.last alternative store_stamp.0 goals_stamp.0 goal_stamp.0 (length (x.sift_labels ++ x.end_labels)) T

    stamped : IsStamped rules early V
    stamped = record {
      steps =
          let a : T.steps ≡ length r.journal = t.stamped.steps in
          let b : length ((r.journal ++ fork ∷ []) ++ others) ≡ length (r.journal ++ fork ∷ []) + length others = length-append (r.journal ++ fork ∷ []) others in
          let c : length (r.journal ++ fork ∷ []) ≡ length r.journal + length (fork ∷ []) = length-append r.journal (fork ∷ []) in
          let d : length (x.sift_labels ++ x.end_labels) ≡ 1 + length others = how_many in
          omega arith;
      store = λ n row e. elim (name_or n x.last.name) [
        | inl q ↦ subst (λ (v : Name). IsLastChange by_store rules r.program r.query ((r.journal ++ fork ∷ []) ++ others) (Item.Store v) row.changed) (sym q)
            (subst (λ (v : BoxRow). IsLastChange by_store rules r.program r.query ((r.journal ++ fork ∷ []) ++ others) (Item.Store x.last.name) v.changed) (last_is n row q e) store_stamp.1)
        | inr o ↦ let y : T.box_of n ≡ Some row = sym (not_last n o) ∙ e in stamp_kept (Item.Store n) (box_old n row y) row.changed (t.stamped.store n row y)
      ];
      goals = λ n row e. elim (name_or n x.last.name) [
        | inl q ↦ subst (λ (v : Name). IsLastChange by_store rules r.program r.query ((r.journal ++ fork ∷ []) ++ others) (Item.Goals v) row.goals_changed) (sym q)
            (subst (λ (v : BoxRow). IsLastChange by_store rules r.program r.query ((r.journal ++ fork ∷ []) ++ others) (Item.Goals x.last.name) v.goals_changed) (last_is n row q e) goals_stamp.1)
        | inr o ↦ let y : T.box_of n ≡ Some row = sym (not_last n o) ∙ e in stamp_kept (Item.Goals n) (box_old n row y) row.goals_changed (t.stamped.goals n row y)
      ];
      goal = λ i row e. elim (name_or i g) [
        | inl q ↦ subst (λ (v : Name). IsLastChange by_store rules r.program r.query ((r.journal ++ fork ∷ []) ++ others) (Item.Goal v) row.changed) (sym q)
            (subst (λ (v : GoalRow). IsLastChange by_store rules r.program r.query ((r.journal ++ fork ∷ []) ++ others) (Item.Goal g) v.changed) (call_is i row q e) goal_stamp.1)
        | inr o ↦ let y : T.goal_of i ≡ Some row = sym (not_call i o) ∙ e in stamp_kept (Item.Goal i) (goal_old_name i row y, o) row.changed (t.stamped.goal i row y)
      ];
      roots = stamp_kept Item.Roots tt T.roots_changed t.stamped.roots;
    }
      where
        not_last : (n : Name) → (n ≡ x.last.name → ⊥) → V.box_of n ≡ T.box_of n
        not_last n o = set_other x.last.name n (Some (last_row k x.last alternative store_stamp.0 goals_stamp.0)) T.box_of (other_by n x.last.name o)

        last_is : (n : Name) (row : BoxRow) → n ≡ x.last.name → V.box_of n ≡ Some row → last_row k x.last alternative store_stamp.0 goals_stamp.0 ≡ row
        last_is n row q e = some_value (sym (set_here x.last.name n (Some (last_row k x.last alternative store_stamp.0 goals_stamp.0)) T.box_of (subst (λ (v : Name). same_name v x.last.name ≡ true) (sym q) (same_name-refl x.last.name))) ∙ e)

        not_call : (i : Name) → (i ≡ g → ⊥) → V.goal_of i ≡ T.goal_of i
        not_call i o = set_other g i (Some (record { home = f.content.name; shape = of_choice x.op (x.last.name ∷ []); changed = goal_stamp.0 })) T.goal_of (other_by i g o)

        call_is : (i : Name) (row : GoalRow) → i ≡ g → V.goal_of i ≡ Some row → record { home = f.content.name; shape = of_choice x.op (x.last.name ∷ []); changed = goal_stamp.0 } ≡ row
        call_is i row q e = some_value (sym (set_here g i (Some (record { home = f.content.name; shape = of_choice x.op (x.last.name ∷ []); changed = goal_stamp.0 })) T.goal_of (subst (λ (v : Name). same_name v g ≡ true) (sym q) (same_name-refl g))) ∙ e)

    store_of : IsStoreOf T.nodes f x.last alternative
    store_of = record {
      frames = alternative_frames;
      ports = ap (λ (nodes : List Node). ports_in nodes alternative.ports) t.nodes ∙ alternative_ports;
      stands = subst (λ (nodes : List Node). (D : Equations) → StandFor (IsTold D) (IsTold (whole f)) → StandFor (IsTold (D ++ bindings_in nodes alternative.bindings)) (IsTold (whole f ++ x.last.equations))) (sym t.nodes) alternative_stands;
    }

    abbrev early_table : IsTableOf rules early V
    early_table = record {
      config = between k last;
      replays = early_replays;
      nodes = t.nodes;
      unfolds = middle_unfolds k x.last last_stands last_names (λ z. z) T t.unfolds alternative store_of store_stamp.0 goals_stamp.0 goal_stamp.0 (length (x.sift_labels ++ x.end_labels));
      stamped = stamped;
    }

    -- the last label

    leads : Applies rules r.program (between k last) promote (joined_to k x.last)
    leads = promoted rules force r.program t.config s w g f is_home x ⊥ (λ q. absurd q)

    abbrev site : Found
    site = with_choice f g x.op last

    site_is : with_choice f g x.op last ≡ leads.site
    site_is = some_value (sym (home t.config s g f is_home k.body x.held x.op last (between k last).next last_stands) ∙ leads.is_site)

    next_now : slice_index (between k last).next w ≡ slice_index t.config.next w + drawn_by x.called.clauses
    next_now = raised_own w (drawn_by x.called.clauses) t.config.next

    drawn_now : leads.change.drawn ≡ length x.last.body
    drawn_now =
        let a : slice_index (joined_to k x.last).next w ≡ slice_index (between k last).next w + leads.change.drawn = next_own rules r.program (between k last) promote (joined_to k x.last) leads in
        let b : slice_index (joined_to k x.last).next w ≡ slice_index t.config.next w + (drawn_by x.called.clauses + length x.last.body) = raised_own w (drawn_by x.called.clauses + length x.last.body) t.config.next in
        let c : slice_index (between k last).next w ≡ slice_index t.config.next w + drawn_by x.called.clauses = next_now in
        omega arith

    makes : Makes r.program promote (slice_index (between k last).next w) leads.site (joins new solved goals)
    makes = subst (λ (e : Found). Makes r.program promote (slice_index (between k last).next w) e (joins new solved goals)) site_is (
      g,
      refl,
      record {
        operator = x.op;
        alternatives = last;
        held = is_choice t.config s g f is_home k.body x.held x.op last (between k last).next;
        joined = x.last;
        origin = inl (record { rule = refl; alternative = refl; only = refl });
        frames = frames;
        ports = ports;
        stands = stands;
        body = ap (λ (n : ℕ). numbered w n x.last.body) (sym next_now);
      },
    )

    solved_now : (o : Option ℕ) (is_solved : Bool) → IsSolvedWhen o T f (joins new is_solved goals) → IsSolvedWhen o V (with_choice f g x.op last) (joins new is_solved goals)
    solved_now None is_solved h = tt
    solved_now (Some j) is_solved h = (
      let a : j ≤ T.steps = h.0 in omega arith,
      λ z. still is_solved (h.1 (unchanged k x.last last_stands last_names (λ y. y) T t.unfolds alternative store_of store_stamp.0 goals_stamp.0 goal_stamp.0 (length (x.sift_labels ++ x.end_labels)) j f (stood t.config s g f is_home) z)),
    )
      where
        still : (is_solved : Bool) → IsSolvedIf is_solved T (names_around f) new → IsSolvedIf is_solved V (names_around f) new
        still false y = tt
        still true y = subst (λ (ss : List Stored). IsSolvedChain T.nodes (ss ++ new ∷ []))
            (sym (stores_around k x.last last_stands last_names (λ z. z) T t.unfolds alternative store_of store_stamp.0 goals_stamp.0 goal_stamp.0 (length (x.sift_labels ++ x.end_labels)) f (stood t.config s g f is_home))) y

    -- the table after it

    goal_row : (v : GoalRow) × (T.goal_of g ≡ Some v) × (spot_of v ≡ record { home = f.content.name; shape = of_atom k.body })
    goal_row = map_some spot_of (T.goal_of g) (record { home = f.content.name; shape = of_atom k.body }) (t.unfolds.goals g ∙ spot_held g t.config.roots f (an_atom k.body) is_home x.held)

    none_there : T.box_of x.last.name ≡ None
    none_there = neither (IsBoxRow T t.config.roots) (box_at x.last.name t.config.roots) (T.box_of x.last.name) (t.unfolds.boxes x.last.name)
        (box_at-none x.last.name t.config.roots (unknown t.config s g f is_home w (drawn_by x.called.clauses) x.last.name last_new_name))

    home_apart : f.content.name ≡ x.last.name → ⊥
    home_apart q = not_old k x.last.name last_new_name (subst (IsOld t.config) q (old_box t.config s f (stood t.config s g f is_home)))

    module _ (U : Table) (is : IsTable U (after_call g new (solved_when at solved) goals w (drawn_by x.called.clauses + length x.last.body) (promoted_at x T.steps) (promoted_at x T.steps) (promoted_at x T.steps) T)) where
      is_after : IsTable U (after_join g new (solved_when at solved) goals w leads.change.drawn V)
      is_after = subst (λ (n : ℕ). IsTable U (after_join g new (solved_when at solved) goals w n V)) (sym drawn_now)
          (joined_table k x.last alternative store_stamp.0 goals_stamp.0 goal_stamp.0 (length (x.sift_labels ++ x.end_labels)) (length x.last.body) T U new (solved_when at solved) goals goal_row home_apart none_there is)

      -- the table after the promotion
      pub joined_after : (u : IsTableOf rules (followed_by early promote) U) × (u.config ≡ joined_to k x.last)
      joined_after = step_law rules early V U promote (joined_to k x.last) early_table leads (joins new solved goals) at makes
          (subst (λ (e : Found). IsSolvedWhen at V e (joins new solved goals)) site_is (solved_now at solved chain)) is_after
