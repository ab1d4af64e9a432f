-- What a call at once makes of a table is a table of the run that goes on with its labels.
use Rattle.std.proofs.Common.{◌≡◌, ℕ, ◌+◌, ◌≤◌, ◌<◌, List, [], ◌∷◌, ◌++◌, length, Bool, true, false, Option, Some, None, refl, sym, ◌∙◌, ap, subst, inl, inr, arith, append_assoc, append-nil}
use Rattle.std.specs.Prelude.{slice_index, option_map}
use Rattle.akl_terms.specs.declared.name.Name.{Name}
use Rattle.akl_terms.specs.declared.name.Place.{Place}
use Rattle.akl_terms.specs.declared.name.Var.{Var}
use Rattle.akl_terms.specs.declared.term.Term.{Term}
use Rattle.akl_terms.specs.Equal.{Equations, IsTold}
use Rattle.akl_terms.specs.Names.{same_name}
use Rattle.akl_terms.specs.Standing.{StandFor}
use Rattle.akl_terms.proofs.SameNames.{same_name-refl}
use Rattle.akl_model.specs.declared.label.Rule.{Rule}
use Rattle.akl_model.specs.declared.label.Label.{Label}
use Rattle.akl_model.specs.Config.{IsIn, Atom, Content, Goals, an_atom, with_names, without_goal, or_else, Found, environment, whole, home_of}
use Rattle.akl_model.specs.Instances.{drawn_by, with_atoms}
use Rattle.akl_model.specs.Rules.{joining}
use Rattle.akl_model.specs.Changes.{of_atom, goal_names}
use Rattle.akl_model.specs.Derivations.{raised}
use Rattle.akl_model.specs.Names.{one_if}
use Rattle.akl_model.specs.Wakes.{names_around}
use Rattle.akl_model.proofs.Finds.{zero_or, times, times_of, times_inside}
use Rattle.akl_model.proofs.Drawn.{drawn_place, times_held, times-without}
use Rattle.akl_model.proofs.NamesKept.{Stand, replay-stands}
use Rattle.akl_model.proofs.Options.{map_none, map_some}
use Rattle.akl_model.proofs.ScopesAlong.{times_path}
use Rattle.step_laws.proofs.Whereabouts.{in_counted, held_none, home_of-none}
use Rattle.rational_unify.specs.Solving.{bindings_in}
use Rattle.local_store.specs.Stored.{Stored}
use Rattle.plan_laws.specs.AtOnce.{by, with_named, IsAtOnce, labels_at_once, at_once, AreInForce}
use Rattle.plan_laws.proofs.CallAlternatives.{Calling}
use Rattle.plan_laws.proofs.Between.{stood, was_found}
use Rattle.plan_laws.proofs.BodyGoals.{named}
use Rattle.plan_laws.proofs.BodySteps.{homed, ToldMore, told_more}
use Rattle.plan_laws.proofs.Calls.{calling, middle, joined_stand, all_labels}
use Rattle.plan_laws.proofs.CallEdits.{raised_own}
use Rattle.table_laws.specs.Rows.{BoxRow, GoalRow, Table, ports_in}
use Rattle.table_laws.specs.Stamped.{Run, IsTableOf}
use Rattle.table_laws.specs.Steps.{joins, numbered, IsSolvedWhen}
use Rattle.table_laws.specs.Unfolds.{IsBoxRow, Spot, spot_of}
use Rattle.table_laws.specs.Walks.{alternatives_in, alternatives_of}
use Rattle.table_laws.specs.Writes.{IsTable, set, unset, less_name, home_in, home_or, changed_box, atom_among, or_fails, solved_when}
use Rattle.table_laws.proofs.Along.{named_path}
use Rattle.table_laws.proofs.Frame.{row_of}
use Rattle.table_laws.proofs.Insides.{spot_held, spot_none}
use Rattle.table_laws.proofs.NewGoals.{NotHeld, names_more}
use Rattle.table_laws.proofs.Reducing.{names_without}
use Rattle.table_laws.specs.Calls.{StandOver, CallsGoal, last_told, promoted_at, told_at, ended_at, called_row, after_call, after_labels}
use Rattle.table_laws.proofs.BodyLists.{names_in, names_left, fails_left, tells_any, none_told, told_further}
use Rattle.table_laws.proofs.BodyRows.{row}
use Rattle.table_laws.proofs.BodyTables.{IsAt, stg, body_tables}
use Rattle.table_laws.proofs.CallJoined.{joined_after}

module _ (rules : List Rule) (force : AreInForce rules) (r : Run) (T : Table) (t : IsTableOf rules r T) (w : ℕ) (g : Name) (f : Found) (is_home : home_of g t.config.roots ≡ Some f) (x : IsAtOnce r.program t.config w g f) where
  abbrev s : Stand t.config
  s = replay-stands rules r.program r.query r.journal t.config t.replays

  abbrev k : Calling
  k = calling rules force r.program t.config s w g f is_home x

  abbrev home : Name
  home = f.content.name

  abbrev drawn : ℕ
  drawn = drawn_by x.called.clauses + length x.last.body

  -- the names of the body's goals are from here on
  abbrev first : ℕ
  first = slice_index t.config.next w + drawn_by x.called.clauses

  abbrev base : Goals
  base = without_goal g f.goals

  abbrev promoted : ℕ
  promoted = promoted_at x T.steps

  abbrev all_goals : List (Name × Atom)
  all_goals = numbered w first x.last.body

  abbrev journal : List Label
  journal = ((r.journal ++ by w Rule.Fork (Place.Goal g) None ∷ []) ++ middle rules force r.program t.config s w g f is_home x ⊥ (λ q. absurd q)) ++ by w Rule.Promote (Place.Goal g) (Some x.last.name) ∷ []

  -- names that are drawn later stand nowhere
  nowhere : (j : ℕ) → first ≤ j → times (named w j) t.config.roots ≡ 0
  nowhere j h = elim (zero_or (times (named w j) t.config.roots)) [
    | inl e ↦ e
    | inr i ↦ let b : j < slice_index t.config.next w = s.below (named w j) i in let u : slice_index t.config.next w + drawn_by x.called.clauses ≤ j = h in absurd (omega arith)
  ]

  new_times : (j : ℕ) → first ≤ j → times_inside (named w j) (without_goal g f.goals) ≡ 0
  new_times j h =
      let a : times_inside (named w j) (without_goal g f.goals) + (one_if (same_name (named w j) g) + times_held (named w j) (an_atom k.body)) ≡ times_inside (named w j) f.goals = times-without (named w j) g (an_atom k.body) f.goals x.held in
      let b : times_of (named w j) f.content + (times_inside (named w j) f.goals + 0) + times_path (named w j) f.around ≤ times (named w j) t.config.roots =
      in_counted (named w j) f.around f.content f.goals t.config.roots (stood t.config s g f is_home) in
      let c : times (named w j) t.config.roots ≡ 0 = nowhere j h in
      omega arith

  new_goals : (j : ℕ) → first ≤ j → T.goal_of (named w j) ≡ None
  new_goals j h = map_none spot_of (T.goal_of (named w j)) (t.unfolds.goals (named w j) ∙ spot_none (named w j) t.config.roots (home_of-none (named w j) t.config.roots (nowhere j h)))

  not_held : NotHeld w first x.last.body base
  not_held i h =
      let d : (i.worker ≡ w) × (first ≤ i.number) × (i.number < first + length x.last.body) = drawn_place i w first (length x.last.body) h in
      let e : named w i.number ≡ i = λ j. record { worker = sym d.0 j; number = i.number } in
      held_none i base (subst (λ (o : Name). times_inside o base ≡ 0) e (new_times i.number d.1))

  -- the box isn't around itself
  apart : (n : Name) → IsIn n (names_around f) → n ≡ home → ⊥
  apart n i q = named_path home f.around (
      let b : times_of home f.content + (times_inside home f.goals + 0) + times_path home f.around ≤ times home t.config.roots = in_counted home f.around f.content f.goals t.config.roots (stood t.config s g f is_home) in
      let c : times home t.config.roots ≤ 1 = s.once home in
      let e : 1 ≤ times_of home f.content = its_name in
      omega arith) (subst (λ (m : Name). IsIn m (names_around f)) q i)
    where
      its_name : 1 ≤ times_of f.content.name f.content
      its_name = let u : one_if (same_name f.content.name f.content.name) ≡ 1 = ap one_if (same_name-refl f.content.name) in omega arith

  -- its row, and that of the call

  abbrev old : (v : BoxRow) × (T.box_of f.content.name ≡ Some v) × IsBoxRow T t.config.roots f v
  old = row_of T t.config t.unfolds f.content.name f (was_found t.config s g f is_home)

  goal_row : (v : GoalRow) × (T.goal_of g ≡ Some v) × (spot_of v ≡ record { home = f.content.name; shape = of_atom k.body })
  goal_row = map_some spot_of (T.goal_of g) (record { home = f.content.name; shape = of_atom k.body }) (t.unfolds.goals g ∙ spot_held g t.config.roots f (an_atom k.body) is_home x.held)

  home_there : home_in (T.goal_of g) ≡ Some home
  home_there = ap home_in goal_row.1 ∙ ap (λ (v : Spot). Some v.home) goal_row.2

  home_name : home_or (T.goal_of g) g ≡ home
  home_name = ap (λ (o : Option GoalRow). home_or o g) goal_row.1 ∙ ap (λ (v : Spot). v.home) goal_row.2

  none_held : alternatives_of (T.goal_of g) ≡ []
  none_held = ap alternatives_of goal_row.1 ∙ ap (λ (v : Spot). alternatives_in v.shape) goal_row.2

  abbrev fails : Option Name
  fails = or_fails old.0.failing all_goals

  -- the names of goals that are left, and by which the box fails

  names_of_left : (left : List (Name × Atom)) → goal_names (with_named left base) ≡ with_names (names_in left) (goal_names base) → goal_names (with_named left base) ≡ with_names (names_in left) (less_name g old.0.goals)
  names_of_left left e = e ∙ ap (with_names (names_in left)) (names_without g f.goals ∙ ap (less_name g) (sym old.2.goals))

  names_of_all : goal_names (with_atoms w first x.last.body base) ≡ with_names (names_in all_goals) (less_name g old.0.goals)
  names_of_all = names_more w first x.last.body base not_held ∙ ap (with_names (names_in all_goals)) (names_without g f.goals ∙ ap (less_name g) (sym old.2.goals))

  same_fails : (o : Option Name) → or_fails o all_goals ≡ or_fails o x.goals_left
  same_fails None = fails_left r.program w (slice_index t.config.next w + drawn_by x.called.clauses + length x.last.body) f.around (joining x.last f.content) first x.last.body x.body_labels x.after x.goals_left x.body
  same_fails (Some i) = refl

  module _ (next : List ℕ) (marks : Var → ℕ) where
    -- the tables between are as the call's step makes them
    module _ (store : Stored) (solved_at : Option ℕ) (names : List Name) (goals : List (Name × Atom)) (told ended : ℕ) (names_are : names ≡ with_names (names_in goals) (less_name g old.0.goals)) (fails_as : or_fails old.0.failing all_goals ≡ or_fails old.0.failing goals) where
      abbrev S : Table
      S = stg rules force r T t w g f is_home x promoted next marks fails old.0 old.1 first new_goals apart store solved_at names goals told ended

      abbrev C : Table
      C = after_call g store solved_at goals w drawn promoted told ended T

      rows_same : option_map (row T g home promoted next marks fails old.0 old.1 store solved_at names told ended) (T.box_of home) ≡ option_map (called_row g store solved_at goals told ended) (T.box_of home)
      rows_same = ap (option_map (row T g home promoted next marks fails old.0 old.1 store solved_at names told ended)) old.1
          ∙ (λ i. Some (record old.0 { store = store; changed = told; solved_at = solved_at; goals = names_are i; goals_changed = ended; failing = fails_as i })) ∙ sym (ap (option_map (called_row g store solved_at goals told ended)) old.1)

      boxes_same : (n : Name) → S.box_of n ≡ C.box_of n
      boxes_same n = ap (λ (o : Option BoxRow). set home o T.box_of n) rows_same
          ∙ (λ i. unset (sym none_held i) (changed_box (sym home_there i) (called_row g store solved_at goals told ended) T.box_of) n)

      goals_same : (n : Name) → S.goal_of n ≡ C.goal_of n
      goals_same n = ap (λ (h : Name). or_else (atom_among h promoted goals n) (set g None T.goal_of n)) (sym home_name)

    module _ (at : Option ℕ) (solved : Bool) (alternative new : Stored) (goals : List (Name × Atom)) (calls : CallsGoal x alternative new goals) (chain : IsSolvedWhen at T f (joins new solved goals)) (is_next : (v : ℕ) → slice_index next v ≡ slice_index (raised w drawn T.next) v) where
      abbrev begun : Equations
      begun = f.content.equations ++ x.last.equations

      abbrev told_none : Bool
      told_none = tells_any r.program w (slice_index t.config.next w + drawn_by x.called.clauses + length x.last.body) f.around (joining x.last f.content) first x.last.body x.body_labels x.after x.goals_left x.body

      -- the store of the box once the alternative has joined it
      record FirstStore : Type 0 where
        pub store : Stored
        pub at_first : Option ℕ
        pub is_solved : Bool
        pub chained : IsSolvedWhen at_first T f (joins store is_solved all_goals)
        pub frames : store.frames ≡ with_names x.last.frames f.content.frames
        pub ports : ports_in r.program.templates.nodes store.ports ≡ ports_in r.program.templates.nodes new.ports
        pub stands : StandOver r.program.templates.nodes (environment f) (whole f ++ x.last.equations) store.bindings
        pub is_last : told_none ≡ false → (store ≡ new) × (solved_when at_first is_solved ≡ solved_when at solved)

      solved_alike : (o : Option ℕ) → IsSolvedWhen o T f (joins new solved goals) → IsSolvedWhen o T f (joins new solved all_goals)
      solved_alike None h = tt
      solved_alike (Some j) h = h

      first_store : FirstStore
      first_store = on told_none refl
        where
          on : (c : Bool) → told_none ≡ c → FirstStore
          on false q = record {
            store = new;
            at_first = at;
            is_solved = solved;
            chained = solved_alike at chain;
            frames = calls.frames;
            ports = refl;
            stands = λ D h. subst (λ (E : Equations). StandFor (IsTold (D ++ bindings_in r.program.templates.nodes new.bindings)) (IsTold E))
                (ap (λ (b : Content). environment f ++ b.equations) (none_told r.program w (slice_index t.config.next w + drawn_by x.called.clauses + length x.last.body) f.around (joining x.last f.content) first x.last.body x.body_labels x.after x.goals_left x.body q)
                ∙ sym (append_assoc (environment f) f.content.equations x.last.equations)) (calls.stands D h);
            is_last = λ h. (refl, refl);
          }
          on true q =
              let more : ToldMore r.program w (slice_index t.config.next w + drawn_by x.called.clauses + length x.last.body) f.around (joining x.last f.content) x.after =
              told_more r.program w (slice_index t.config.next w + drawn_by x.called.clauses + length x.last.body) f.around (joining x.last f.content) first x.last.body x.body_labels x.after x.goals_left x.body in
              let z : (bindings : List (Var × Term)) × StandOver r.program.templates.nodes (environment f) (environment f ++ (begun ++ [])) bindings = calls.between [] more.more more.equations in
              record {
                store = record new { bindings = z.0 };
                at_first = None;
                is_solved = false;
                chained = tt;
                frames = calls.frames;
                ports = refl;
                stands = λ D h. subst (λ (E : Equations). StandFor (IsTold (D ++ bindings_in r.program.templates.nodes z.0)) (IsTold E))
                    (ap (λ (E : Equations). environment f ++ E) (append-nil begun) ∙ sym (append_assoc (environment f) f.content.equations x.last.equations)) (z.1 D h);
                is_last = λ h. let c : true ≡ false = sym q ∙ h in cc;
              }

      start : IsAt rules r journal (stg rules force r T t w g f is_home x promoted next marks fails old.0 old.1 first new_goals apart first_store.store (solved_when first_store.at_first first_store.is_solved) (goal_names (with_atoms w first x.last.body base)) all_goals promoted promoted)
          (homed k drawn (joining x.last f.content) (with_atoms w first x.last.body base))
      start = joined_after rules force r T t w g f is_home x first_store.at_first first_store.is_solved alternative first_store.store calls.alternative_frames calls.alternative_ports calls.alternative_stands first_store.frames (first_store.ports ∙ calls.ports)
          first_store.stands first_store.chained
          (stg rules force r T t w g f is_home x promoted next marks fails old.0 old.1 first new_goals apart first_store.store (solved_when first_store.at_first first_store.is_solved) (goal_names (with_atoms w first x.last.body base)) all_goals promoted promoted)
          (record {
            nodes = refl;
            boxes = boxes_same first_store.store (solved_when first_store.at_first first_store.is_solved) (goal_names (with_atoms w first x.last.body base)) all_goals promoted promoted names_of_all refl;
            goals = goals_same first_store.store (solved_when first_store.at_first first_store.is_solved) (goal_names (with_atoms w first x.last.body base)) all_goals promoted promoted names_of_all refl;
            roots = refl;
            roots_changed = refl;
            next = is_next;
            steps = refl;
          })

      next_now : slice_index t.config.next w + drawn_by x.called.clauses + length x.last.body ≡ slice_index (raised w drawn t.config.next) w
      next_now = let e : slice_index (raised w drawn t.config.next) w ≡ slice_index t.config.next w + (drawn_by x.called.clauses + length x.last.body) = raised_own w drawn t.config.next in omega arith

      body_after : IsAt rules r (journal ++ x.body_labels)
          (stg rules force r T t w g f is_home x promoted next marks fails old.0 old.1 first new_goals apart new (solved_when at solved) (goal_names (with_named x.goals_left base)) x.goals_left (told_at x T.steps) (ended_at x T.steps)) (at_once x)
      body_after = subst (λ (o : ℕ). IsAt rules r (journal ++ x.body_labels)
          (stg rules force r T t w g f is_home x promoted next marks fails old.0 old.1 first new_goals apart new (solved_when at solved) (goal_names (with_named x.goals_left base)) x.goals_left o (ended_at x T.steps)) (at_once x)) told_now
          (body_tables rules force r T t w g f is_home x promoted next marks fails old.0 old.1 first new_goals apart at solved new goals chain begun x.after calls.between calls.stands (slice_index t.config.next w + drawn_by x.called.clauses + length x.last.body)
          next_now (joining x.last f.content) first x.last.body x.body_labels x.after x.goals_left x.body refl base [] refl (joined_stand rules force r.program t.config s w g f is_home x ⊥ (λ q. absurd q)) (let q : first ≤ first = omega arith in q)
          new_times (λ j h. refl) [] (sym (append-nil begun)) calls.frames calls.ports first_store.store (solved_when first_store.at_first first_store.is_solved) promoted promoted late first_store.is_last journal start)
        where
          late : T.steps ≤ promoted_at x T.steps
          late = let q : promoted_at x T.steps ≡ T.steps + length (x.sift_labels ++ x.end_labels) + 1 = refl in omega arith

          told_now : last_told r.program w (slice_index t.config.next w + drawn_by x.called.clauses + length x.last.body) f.around (joining x.last f.content) first x.last.body x.body_labels x.after x.goals_left x.body promoted promoted ≡ told_at x T.steps
          told_now = ap (λ (o : ℕ). last_told r.program w (slice_index t.config.next w + drawn_by x.called.clauses + length x.last.body) f.around (joining x.last f.content) first x.last.body x.body_labels x.after x.goals_left x.body o o) (let q : promoted ≡ promoted + 0 = omega arith in q)
              ∙ told_further r.program w (slice_index t.config.next w + drawn_by x.called.clauses + length x.last.body) f.around promoted (joining x.last f.content) first x.last.body x.body_labels x.after x.goals_left x.body 0 0

  labels : journal ++ x.body_labels ≡ r.journal ++ labels_at_once x
  labels = append_assoc ((r.journal ++ fork_one) ++ others) promote_one x.body_labels ∙ append_assoc (r.journal ++ fork_one) others (promote_one ++ x.body_labels) ∙ append_assoc r.journal fork_one (others ++ (promote_one ++ x.body_labels))
      ∙ ap (λ (ls : List Label). r.journal ++ ls) (sym (all_labels rules force r.program t.config s w g f is_home x ⊥ (λ q. absurd q)))
    where
      fork_one : List Label
      fork_one = by w Rule.Fork (Place.Goal g) None ∷ []

      others : List Label
      others = middle rules force r.program t.config s w g f is_home x ⊥ (λ q. absurd q)

      promote_one : List Label
      promote_one = by w Rule.Promote (Place.Goal g) (Some x.last.name) ∷ []

  module _ (U : Table) (at : Option ℕ) (solved : Bool) (alternative new : Stored) (goals : List (Name × Atom)) (calls : CallsGoal x alternative new goals) (chain : IsSolvedWhen at T f (joins new solved goals))
      (is : IsTable U (after_call g new (solved_when at solved) goals w drawn (promoted_at x T.steps) (told_at x T.steps) (ended_at x T.steps) T)) where
    names_now : goal_names (with_named x.goals_left base) ≡ with_names (names_in x.goals_left) (less_name g old.0.goals)
    names_now = names_of_left x.goals_left (names_left r.program w (slice_index t.config.next w + drawn_by x.called.clauses + length x.last.body) f.around (joining x.last f.content) first x.last.body x.body_labels x.after x.goals_left x.body base new_times)

    its_table : IsTable U (after_call g new (solved_when at solved) x.goals_left w drawn (promoted_at x T.steps) (told_at x T.steps) (ended_at x T.steps) T)
    its_table = subst (λ (xs : List (Name × Atom)). IsTable U (after_call g new (solved_when at solved) xs w drawn (promoted_at x T.steps) (told_at x T.steps) (ended_at x T.steps) T)) calls.body is

    same_table : stg rules force r T t w g f is_home x promoted U.next U.mark_of fails old.0 old.1 first new_goals apart new (solved_when at solved) (goal_names (with_named x.goals_left base)) x.goals_left (told_at x T.steps) (ended_at x T.steps) ≡ U
    same_table = λ i. record {
      nodes = sym its_table.nodes i;
      box_of = λ n. (boxes_same U.next U.mark_of new (solved_when at solved) (goal_names (with_named x.goals_left base)) x.goals_left (told_at x T.steps) (ended_at x T.steps) names_now (same_fails old.0.failing) n ∙ sym (its_table.boxes n)) i;
      goal_of = λ n. (goals_same U.next U.mark_of new (solved_when at solved) (goal_names (with_named x.goals_left base)) x.goals_left (told_at x T.steps) (ended_at x T.steps) names_now (same_fails old.0.failing) n ∙ sym (its_table.goals n)) i;
      roots = sym its_table.roots i;
      roots_changed = sym its_table.roots_changed i;
      next = U.next;
      steps = sym its_table.steps i;
      mark_of = U.mark_of;
    }

    pub table_after : (u : IsTableOf rules (after_labels r x) U) × (u.config ≡ at_once x)
    table_after = subst (λ (js : List Label). IsAt rules r js U (at_once x)) labels (subst (λ (Q : Table). IsAt rules r (journal ++ x.body_labels) Q (at_once x)) same_table (body_after U.next U.mark_of at solved alternative new goals calls chain is.next))

pub call_step : (rules : List Rule) → AreInForce rules → (r : Run) (T U : Table) (t : IsTableOf rules r T) (w : ℕ) (g : Name) (f : Found) → home_of g t.config.roots ≡ Some f → (x : IsAtOnce r.program t.config w g f)
    → (at : Option ℕ) (solved : Bool) (alternative new : Stored) (goals : List (Name × Atom)) → CallsGoal x alternative new goals → IsSolvedWhen at T f (joins new solved goals)
    → IsTable U (after_call g new (solved_when at solved) goals w (drawn_by x.called.clauses + length x.last.body) (promoted_at x T.steps) (told_at x T.steps) (ended_at x T.steps) T)
    → (u : IsTableOf rules (after_labels r x) U) × (u.config ≡ at_once x)
call_step rules force r T U t w g f is_home x at solved alternative new goals calls chain is = table_after rules force r T t w g f is_home x U at solved alternative new goals calls chain is
