-- A choice that is ready after a label that passes it by was ready before.
use Rattle.std.proofs.Common.{◌≡◌, ℕ, ◌+◌, ◌≤◌, ◌<◌, ◌^◌, List, [], ◌∷◌, ◌++◌, length, Bool, true, false, Option, Some, None, refl, sym, ◌∙◌, ap, subst, ◌⊎◌, inl, inr, arith, append-nil}
use Rattle.std.specs.Prelude.{if◌then◌else◌, option_map, slice_index}
use Rattle.akl_terms.specs.declared.name.Name.{Name}
use Rattle.akl_terms.specs.declared.name.Var.{Var}
use Rattle.akl_terms.specs.declared.name.Place.{Place}
use Rattle.akl_model.specs.Config.{Operator}
use Rattle.akl_terms.specs.declared.program.Program.{Program}
use Rattle.akl_terms.specs.declared.program.Query.{Query}
use Rattle.akl_terms.specs.Equal.{Equations, IsConsistent}
use Rattle.akl_terms.specs.Touching.{IsOutside}
use Rattle.akl_terms.proofs.EqualLaws.{IsConsistent-follows, IsTold-left, IsTold-right, IsTold-either}
use Rattle.akl_model.specs.declared.label.Rule.{Rule}
use Rattle.akl_model.specs.declared.label.Label.{Label}
use Rattle.akl_terms.specs.Names.{same_name}
use Rattle.akl_model.specs.Config.{Content, Boxes, no_boxes, box, Goals, no_goals, atom, choice, Config, Held, a_choice, held_in, with_content, without_goal, Found, equations_of, environment, whole, box_at, home_of, edited, edited_inside}
use Rattle.akl_model.specs.Instances.{with_atoms}
use Rattle.akl_model.specs.Rules.{Change, becomes, Reading, tell, fork, open_new, cut, promote, gathered, collect_as, collect, joining, count_of, kept_by, alternative_of, change_by}
use Rattle.akl_model.specs.Conditions.{IsSolved, IsQuietBox, MayCut, GuardHolds, MayPromote, MayCollect}
use Rattle.akl_model.specs.Stable.{only, frames_of, Allows}
use Rattle.constraint_laws.specs.Growth.{TellsOver}
use Rattle.akl_model.specs.Derivations.{Applies, Replays, IsReady}
use Rattle.akl_model.specs.Names.{times_in}
use Rattle.akl_model.specs.Changes.{box_names, goal_names, goals_at}
use Rattle.akl_model.specs.Wakes.{Opens, holder_of_changed_goals}
use Rattle.akl_model.proofs.Options.{some_value, some_and, and_some}
use Rattle.akl_model.proofs.Finds.{zero_or, times, times_of, times_inside}
use Rattle.akl_terms.proofs.SameNames.{same_name-equal}
use Rattle.akl_model.proofs.QuietGrows.{equations-snoc}
use Rattle.constraint_laws.proofs.Beside.{left_follows, follows_told}
use Rattle.akl_model.proofs.ScopesAlong.{times_path, found_path}
use Rattle.step_laws.specs.Whereabouts.{BoxIn, Stands}
use Rattle.step_laws.proofs.Whereabouts.{found_in}
use Rattle.step_laws.proofs.Deeper.{named_found}
use Rattle.step_laws.proofs.GoalEdits.{unsolved, names_of_shape, no_goals_names, solved_none, count_names}
use Rattle.step_laws.proofs.Becomes.{Becomes}
use Rattle.step_laws.proofs.Steps.{rest_new}
use Rattle.step_laws.proofs.Stays.{alternative_in, alternative_stands}
use Rattle.step_laws.proofs.Decide.{names_or, not_not}
use Rattle.plan_laws.specs.Sleeps.{AreSolved, Matters}
use Rattle.plan_laws.proofs.InScope.{Good, outside_environment}
use Rattle.plan_laws.proofs.Moves.{site_found, site_there, cases}
use Rattle.constraint_laws.proofs.LeavesKept.{LeavesKept, TouchesKept, quiet_before, touches_before}
use Rattle.step_laws.proofs.Holders.{names_less, choice_less, holder_found}
use Rattle.plan_laws.proofs.Alternatives.{alternative_named, alternative_other, alternative_edited, solved_edited, Once, all_named, all_quiet, kept_same}
use Rattle.akl_model.proofs.Gathered.{AllSolved, gathered_solved}
use Rattle.step_laws.proofs.AgainIn.{gathered_by}
use Rattle.plan_laws.proofs.HomesKept.{HeldBefore, same_held, edited_choice, held_before, shape_kept, was_found, is_found}
use Rattle.step_laws.proofs.ReadyGoals.{Usable, ReadyGoal, ready_by, ready_goal}

pub are_solved : (bs : Boxes) → AllSolved bs → AreSolved bs
are_solved no_boxes x = tt
are_solved (box b gs bs) x = (subst IsSolved (sym x.0) tt, are_solved bs x.1)

pub all_solved : (bs : Boxes) → AreSolved bs → AllSolved bs
all_solved no_boxes x = tt
all_solved (box b gs bs) x = (solved_none gs x.0, all_solved bs x.1)

pub frames_solved : (b : Content) (gs : Goals) → gs ≡ no_goals → frames_of (box b gs no_boxes) ≡ b.frames
frames_solved b gs e = ap (λ (x : Goals). frames_of (box b x no_boxes)) e ∙ append-nil b.frames

-- what the only alternative is
pub promote_shape : (w next : ℕ) (g n : Name) (f : Found) (o : Operator) (cs : Boxes) (ch : Change) → promote w next g n f (Some (a_choice o cs)) ≡ Some ch
    → (a : Content) × (cs ≡ box a no_goals no_boxes) × (same_name n a.name ≡ true) × (ch.drawn ≡ length a.body)
promote_shape w next g n f o (box a no_goals no_boxes) ch e = on (same_name n a.name) refl e
  where
    on : (t : Bool) → same_name n a.name ≡ t → (if t then Some (becomes (joining a f.content) (with_atoms w next a.body (without_goal g f.goals)) (length a.body)) else None) ≡ Some ch
        → (b : Content) × (box a no_goals no_boxes ≡ box b no_goals no_boxes) × (same_name n b.name ≡ true) × (ch.drawn ≡ length b.body)
    on true r i = (a, refl, r, sym (ap (λ (c : Change). c.drawn) (some_value i)))
    on false r i = cc
promote_shape w next g n f o no_boxes ch e = cc
promote_shape w next g n f o (box a (atom h b gs) cs) ch e = cc
promote_shape w next g n f o (box a (choice h p bs gs) cs) ch e = cc
promote_shape w next g n f o (box a no_goals (box b gs cs)) ch e = cc

pub promote_there : (w next : ℕ) (g n : Name) (f : Found) (o : Operator) (a : Content) → same_name n a.name ≡ true → (ch : Change) × (promote w next g n f (Some (a_choice o (box a no_goals no_boxes))) ≡ Some ch) × (ch.drawn ≡ length a.body)
promote_there w next g n f o a r = on (same_name n a.name) r
  where
    on : (t : Bool) → t ≡ true → (ch : Change) × ((if t then Some (becomes (joining a f.content) (with_atoms w next a.body (without_goal g f.goals)) (length a.body)) else None) ≡ Some ch) × (ch.drawn ≡ length a.body)
    on true q = (_, refl, refl)
    on false q = cc

single : (f m : Found) (n x : Name) (bs : Boxes) → alternative_of f n bs ≡ Some m → box_names bs ≡ x ∷ [] → bs ≡ box m.content m.goals no_boxes
single f m n x no_boxes e i = cc
single f m n x (box b gs (box c hs cs)) e i = cc
single f m n x (box b gs no_boxes) e i = on (same_name n b.name) e
  where
    on : (t : Bool) → (if t then Some (record { around = f.around ++ f.content ∷ []; content = b; goals = gs }) else None) ≡ Some m → box b gs no_boxes ≡ box m.content m.goals no_boxes
    on true q = ap (λ (u : Found). box u.content u.goals no_boxes) (some_value q)
    on false q = cc

first_alternative : (f m : Found) (n : Name) (a : Content) → same_name n a.name ≡ true → alternative_of f n (box a no_goals no_boxes) ≡ Some m → (m.content ≡ a) × (m.goals ≡ no_goals)
first_alternative f m n a r e = on (same_name n a.name) r e
  where
    on : (t : Bool) → t ≡ true → (if t then Some (record { around = f.around ++ f.content ∷ []; content = a; goals = no_goals }) else None) ≡ Some m → (m.content ≡ a) × (m.goals ≡ no_goals)
    on true q i = (sym (ap (λ (u : Found). u.content) (some_value i)), sym (ap (λ (u : Found). u.goals) (some_value i)))
    on false q i = cc

-- what a choice was
pub data ChoiceWas (n : Name) (new : Boxes) (g : Name) (f : Found) (o : Operator) (cs bs : Boxes) : Type 0 where
  same_choice : cs ≡ bs → ChoiceWas n new g f o cs bs
  an_edit : cs ≡ edited n new bs → ChoiceWas n new g f o cs bs

-- an alternative, in the box that holds its choice
abbrev pub held_by : Found → Found → Found
held_by f m = record m { around = f.around ++ f.content ∷ [] }

module _ (rules : List Rule) (p : Program) (query : Query) (journal : List Label) (c : Config) (l : Label) (d : Config) (w : Good c) (v : Good d) (replays : Replays rules p query journal c) (a : Applies rules p c l d)
    (g : Name) (unopened : Opens [] c d (Place.Goal g) → ⊥) (f k : Found) (e : home_of g c.roots ≡ Some f) (i : home_of g d.roots ≡ Some k) (o : Operator) (cs : Boxes) (hk : held_in g k.goals ≡ Some (a_choice o cs)) where
  pub choice_before : (bs : Boxes) × (held_in g f.goals ≡ Some (a_choice o bs)) × ChoiceWas a.site.content.name a.change.boxes g f o cs bs
  choice_before = on (held_before rules p query journal c l d w v replays a g unopened f k e i (a_choice o cs) hk)
    where
      on : HeldBefore a.site.content.name a.change.boxes g f (a_choice o cs) → (bs : Boxes) × (held_in g f.goals ≡ Some (a_choice o bs)) × ChoiceWas a.site.content.name a.change.boxes g f o cs bs
      on (same_held s) = (cs, s, same_choice refl)
      on (edited_choice q bs s t) =
          let r : o ≡ q = cc in
          let u : cs ≡ edited a.site.content.name a.change.boxes bs = cc in
          (bs, subst (λ (x : Operator). held_in g f.goals ≡ Some (a_choice x bs)) (sym r) s, an_edit u)

  module _ (bs : Boxes) (hf : held_in g f.goals ≡ Some (a_choice o bs)) (was : ChoiceWas a.site.content.name a.change.boxes g f o cs bs) where
    pub names_not : (box_names bs ≡ box_names cs → ⊥) → ⊥
    names_not h = shape_kept rules p query journal c l d w v replays a g unopened f k e i (a_choice o bs) (a_choice o cs) hf hk (λ q. h (ap names_of_shape q))

    home_once : (n : Name) → times_inside n f.goals ≤ 1
    home_once n =
        let x : times n (only f) + times_path n f.around ≤ times n c.roots = found_path n f.content.name c.roots f (was_found rules p query journal c l d w v replays a g unopened f k e i) in
        let y : times n c.roots ≤ 1 = w.stand.once n in
        let z : times n (only f) ≡ times_of n f.content + (times_inside n f.goals + 0) = refl in
        omega arith

    few : (n : Name) → times n bs ≤ 1
    few n = let x : times n bs ≤ times_inside n f.goals = choice_less n g o bs f.goals hf in let y : times_inside n f.goals ≤ 1 = home_once n in omega arith

    -- a solved alternative was there and solved
    pub alternative_before : (n : Name) (m : Found) → alternative_of k n cs ≡ Some m → IsSolved m.goals → alternative_of f n bs ≡ Some (held_by f m)
    alternative_before n m q solved = on was
      where
        none : m.goals ≡ no_goals
        none = solved_none m.goals solved

        as_before : (u : Found) → alternative_of f n bs ≡ Some u → m.content ≡ u.content → u.goals ≡ no_goals → alternative_of f n bs ≡ Some (held_by f m)
        as_before u r s t = r ∙ ap Some (λ j. record { around = (alternative_in f n bs u r).1 j; content = (sym s) j; goals = (t ∙ sym none) j })

        on : ChoiceWas a.site.content.name a.change.boxes g f o cs bs → alternative_of f n bs ≡ Some (held_by f m)
        on (same_choice r) = alternative_other k f m n bs (subst (λ (x : Boxes). alternative_of k n x ≡ Some m) r q)
        on (an_edit r) = found (alternative_edited f k m n a.site.content.name a.change.boxes bs (few n) (few a.site.content.name) (subst (λ (x : Boxes). alternative_of k n x ≡ Some m) r q))
          where
            in_rest : (b : Becomes l.worker (slice_index c.next l.worker) a.site a.change) → alternative_of k n b.rest ≡ Some m → (times n c.roots ≡ 0) ⊎ (0 < times n c.roots) → ⊥
            in_rest b x (inr h) =
                let y : 1 ≤ times_in n (box_names b.rest) = alternative_named k m n b.rest x in
                let z : times_in n (box_names b.rest) ≤ times n b.rest = names_less n b.rest in
                let u : times n b.rest ≡ 0 = rest_new rules p c l d w.stand a b n (w.stand.below n h) in
                omega (arith, y, z, u)
            in_rest b x (inl h) = names_not (λ names.
                let y : 1 ≤ times_in n (box_names cs) = alternative_named k m n cs q in
                let y2 : times_in n (box_names bs) ≡ times_in n (box_names cs) = ap (times_in n) names in
                let z : times_in n (box_names bs) ≤ times n bs = names_less n bs in
                let t : times n bs ≤ times_inside n f.goals = choice_less n g o bs f.goals hf in
                let j : times n (only f) + times_path n f.around ≤ times n c.roots = found_path n f.content.name c.roots f (was_found rules p query journal c l d w v replays a g unopened f k e i) in
                let z2 : times n (only f) ≡ times_of n f.content + (times_inside n f.goals + 0) = refl in
                omega (arith, y, y2, z, t, j, z2, h))

            in_first : (b : Becomes l.worker (slice_index c.next l.worker) a.site a.change) → n ≡ b.content.name → b.goals ≡ no_goals → ⊥
            in_first b x y = unopened (holder_of_changed_goals a.site.content.name (site_found rules p c l d w v a) (site_there rules p c l d w v a b) differ
                (holder_found a.site.content.name g o cs d.roots k (v.stand.once a.site.content.name) i hk (subst (λ (z : Name). 1 ≤ times_in z (box_names cs)) (x ∙ b.keeps.name) (alternative_named k m n cs q))).0)
              where
                differ : goals_at a.site.content.name c.roots ≡ goals_at a.site.content.name d.roots → ⊥
                differ z =
                    let before : goals_at a.site.content.name c.roots ≡ Some (goal_names a.site.goals) = ap (option_map (λ (u : Found). goal_names u.goals)) (site_found rules p c l d w v a) in
                    let now : goals_at a.site.content.name d.roots ≡ Some (goal_names b.goals) = ap (option_map (λ (u : Found). goal_names u.goals)) (site_there rules p c l d w v a b) in
                    unsolved b.goal b.was a.site.goals b.is_goal (no_goals_names a.site.goals (sym (some_value (sym before ∙ z ∙ now) ∙ ap goal_names y)))

            in_new : alternative_of k n a.change.boxes ≡ Some m → (a.change.boxes ≡ no_boxes) ⊎ Becomes l.worker (slice_index c.next l.worker) a.site a.change → ⊥
            in_new x (inl y) = let z : alternative_of k n no_boxes ≡ Some m = subst (λ (u : Boxes). alternative_of k n u ≡ Some m) y x in cc
            in_new x (inr b) = split (same_name n b.content.name) refl (subst (λ (u : Boxes). alternative_of k n u ≡ Some m) b.is_change x)
              where
                split : (t : Bool) → same_name n b.content.name ≡ t → (if t then Some (record { around = k.around ++ k.content ∷ []; content = b.content; goals = b.goals }) else alternative_of k n b.rest) ≡ Some m → ⊥
                split true y z = in_first b (same_name-equal n b.content.name y) (ap (λ (u : Found). u.goals) (some_value z) ∙ none)
                split false y z = in_rest b z (zero_or (times n c.roots))

            found : ((u : Found) × (alternative_of f n bs ≡ Some u) × (m.content ≡ u.content) × ((m.goals ≡ u.goals) ⊎ (m.goals ≡ edited_inside a.site.content.name a.change.boxes u.goals)))
                ⊎ ((1 ≤ times a.site.content.name bs) × (alternative_of k n a.change.boxes ≡ Some m)) → alternative_of f n bs ≡ Some (held_by f m)
            found (inl (u, s, t, inl z)) = as_before u s t (sym z ∙ none)
            found (inl (u, s, t, inr z)) = as_before u s t (solved_edited a.site.content.name a.change.boxes u.goals (subst IsSolved z solved))
            found (inr (y, z)) = absurd (in_new z (cases rules p c l d w v a))

    once : box_names bs ≡ box_names cs → Once cs
    once names n =
        let x : times_in n (box_names bs) ≤ times n bs = names_less n bs in
        let y : times n bs ≤ 1 = few n in
        let z : times_in n (box_names bs) ≡ times_in n (box_names cs) = ap (times_in n) names in
        omega arith

    -- alternatives that are all solved are as they were
    same_alternatives : box_names bs ≡ box_names cs → AllSolved cs → bs ≡ cs
    same_alternatives names solved = all_named f k bs cs names (once names) solved (λ n m q x. alternative_before n m q x)

    pub matters_before : Matters o cs → Matters o bs
    matters_before h = on o h
      where
        on : (q : Operator) → Matters q cs → Matters q bs
        on Operator.condition x = tt
        on Operator.commit x = tt
        on Operator.nondeterminate x = absurd x
        on (Operator.collecting r) x = subst AreSolved (sym (same_alternatives (not_not (names_or (box_names bs) (box_names cs)) names_not) (all_solved cs x))) x

    -- an alternative that is found is a box of the configuration
    pub alternative_found : (n : Name) (m : Found) → alternative_of k n cs ≡ Some m → box_at n d.roots ≡ Some (held_by k m)
    alternative_found n m q =
        let x : BoxIn [] m.content m.goals cs × (m.around ≡ k.around ++ k.content ∷ []) × (n ≡ m.content.name) = alternative_in k n cs m q in
        let y : Stands m d.roots = alternative_stands g n o cs d.roots k m (found_in f.content.name d.roots k (is_found rules p query journal c l d w v replays a g unopened f k e i)) hk q in
        named_found d.roots v.stand.once n m y x.2 ∙ ap Some (λ j. record { around = x.1 j; content = m.content; goals = m.goals })

    -- the equations around an alternative
    module _ (kept : List Var) (leaves_kept : IsConsistent (whole k) → LeavesKept kept (whole f) (whole k)) where
      abbrev pub old_env : Equations
      old_env = equations_of (f.around ++ f.content ∷ [])

      abbrev pub new_env : Equations
      new_env = equations_of (k.around ++ k.content ∷ [])

      env_leaves_kept : IsConsistent new_env → LeavesKept kept old_env new_env
      env_leaves_kept h = subst (λ (E : Equations). LeavesKept kept E new_env) (sym (equations-snoc f.around f.content)) (subst (λ (G : Equations). LeavesKept kept (whole f) G) (sym (equations-snoc k.around k.content))
          (leaves_kept (subst IsConsistent (equations-snoc k.around k.content) h)))

      -- what is kept of its solved alternatives
      module _ (touched : (n : Name) (m : Found) → Matters o bs → alternative_of f n bs ≡ Some m → IsSolved m.goals → IsConsistent (whole m) → TouchesKept kept (frames_of (only m)) (environment m) (whole m)) where
        module _ (n : Name) (m : Found) (q : alternative_of k n cs ≡ Some m) (solved : IsSolved m.goals) where
          frames_same : frames_of (only m) ≡ m.content.frames
          frames_same = frames_solved m.content m.goals (solved_none m.goals solved)

          over_now : TellsOver (IsOutside (frames_of (only m))) new_env
          over_now = outside_environment d v n (held_by k m) (alternative_found n m q)

          was_there : alternative_of f n bs ≡ Some (held_by f m)
          was_there = alternative_before n m q solved

          env_now : IsConsistent (new_env ++ m.content.equations) → IsConsistent new_env
          env_now h = IsConsistent-follows (left_follows new_env m.content.equations) h

          pub consistent_before : IsConsistent (new_env ++ m.content.equations) → IsConsistent (old_env ++ m.content.equations)
          consistent_before h = IsConsistent-follows (follows_told _ _ (λ s t x. elim (IsTold-either old_env m.content.equations s t x) [
            | inl y ↦ IsTold-left new_env m.content.equations s t ((env_leaves_kept (env_now h)).keeps s t y)
            | inr y ↦ IsTold-right new_env m.content.equations s t y
          ])) h

          pub quiet_was : Matters o bs → IsQuietBox (held_by k m) → IsQuietBox (held_by f m)
          quiet_was matters h = quiet_before kept old_env new_env (env_leaves_kept (env_now h.consistent)) (env_now h.consistent) m.content.frames m.content.equations
              (subst (λ (fs : List Name). TellsOver (IsOutside fs) new_env) frames_same over_now)
              (λ still. subst (λ (fs : List Name). TouchesKept kept fs old_env (old_env ++ m.content.equations)) frames_same (touched n (held_by f m) matters was_there solved still)) h

          -- what it touches afterwards is kept
          pub touched_now : Matters o bs → IsConsistent (new_env ++ m.content.equations) → TouchesKept kept (frames_of (only m)) new_env (new_env ++ m.content.equations)
          touched_now matters h = record {
            each = λ x t. (touched n (held_by f m) matters was_there solved (consistent_before h)).each x
                (touches_before kept old_env new_env (env_leaves_kept (env_now h)) (env_now h) (frames_of (only m)) m.content.equations over_now (consistent_before h) (touched n (held_by f m) matters was_there solved (consistent_before h)) x t);
          }

        itself : (n : Name) (m : Found) → alternative_of k n cs ≡ Some m → held_by k m ≡ m
        itself n m q = λ j. record { around = (sym ((alternative_in k n cs m q).1)) j; content = m.content; goals = m.goals }

        is_choice : (op : Operator) → (op ≡ Operator.nondeterminate) ⊎ (op ≡ Operator.nondeterminate → ⊥)
        is_choice Operator.nondeterminate = inl refl
        is_choice Operator.condition = inr (λ q. cc)
        is_choice Operator.commit = inr (λ q. cc)
        is_choice (Operator.collecting r) = inr (λ q. cc)

        -- a cut by fewer alternatives
        kept_less : (q : Operator) (xs ys : Boxes) (n : Name) → box_names xs ≡ box_names ys → count_of (kept_by q n ys) < count_of ys → count_of (kept_by q n xs) < count_of xs
        kept_less q xs ys n names h = let x : count_of xs ≡ count_of ys = count_names xs ys names in let y : count_of (kept_by q n xs) ≡ count_of (kept_by q n ys) = kept_same q n xs ys names in omega arith

        no_cut : (n : Name) (xs : Boxes) → count_of (kept_by Operator.nondeterminate n xs) < count_of xs → ⊥
        no_cut n xs h = omega arith

        cut_before : (u : Reading) (worker next : ℕ) (n : Name) → box_names bs ≡ box_names cs → MayCut n k (Some (a_choice o cs)) → Usable p u worker next Rule.Cut g (Some n) f
        cut_before u worker next n names h = record {
          change = becomes f.content (with_content g (a_choice o (kept_by o n bs)) f.goals) 0;
          is_change = subst (λ (z : Option Held). cut g n f z ≡ Some (becomes f.content (with_content g (a_choice o (kept_by o n bs)) f.goals) 0)) (sym hf) refl;
          allowed = subst (λ (z : Option Held). MayCut n f z) (sym hf) (on (some_and (λ (x : Found). IsSolved x.goals × IsQuietBox x) (alternative_of k n cs) h.0));
          few_names = omega arith;
        }
          where
            matters : (q : Operator) → count_of (kept_by q n cs) < count_of cs → Matters q bs
            matters Operator.condition l = tt
            matters Operator.commit l = tt
            matters Operator.nondeterminate l = absurd (omega arith)
            matters (Operator.collecting r) l = absurd (omega arith)

            on : (m : Found) × (alternative_of k n cs ≡ Some m) × (IsSolved m.goals × IsQuietBox m) → MayCut n f (Some (a_choice o bs))
            on (m, q, (solved, quiet)) = (
              and_some (λ (x : Found). IsSolved x.goals × IsQuietBox x) (alternative_of f n bs) (held_by f m) (was_there n m q solved) (solved, quiet_was n m q solved (matters o h.1) (subst IsQuietBox (sym (itself n m q)) quiet)),
              kept_less o bs cs n names h.1,
            )

        guard_before : (q : Operator) → o ≡ q → (n : Name) (m : Found) → alternative_of k n cs ≡ Some m → IsSolved m.goals → GuardHolds q (held_by k m) → GuardHolds q (held_by f m)
        guard_before Operator.nondeterminate r n m q solved h = consistent_before n m q solved h
        guard_before Operator.condition r n m q solved h = quiet_was n m q solved (subst (λ (x : Operator). Matters x bs) (sym r) tt) h
        guard_before Operator.commit r n m q solved h = quiet_was n m q solved (subst (λ (x : Operator). Matters x bs) (sym r) tt) h
        guard_before (Operator.collecting t) r n m q solved h = absurd h

        collect_before : (u : Reading) (worker next next2 : ℕ) (ch : Change) → box_names bs ≡ box_names cs → (q : Operator) → o ≡ q → collect p worker next2 g k (Some (a_choice q cs)) ≡ Some ch → ch.drawn < 2 ^ 32
            → MayCollect k (Some (a_choice q cs)) → Usable p u worker next Rule.Collect g None f
        collect_before u worker next next2 ch names (Operator.collecting r) t s fewer h = on (gathered p worker next2 k.content.name r cs) refl s
          where
            on : (v : Option Content) → gathered p worker next2 k.content.name r cs ≡ v → collect_as g cs k v ≡ Some ch → Usable p u worker next Rule.Collect g None f
            on None j y = cc
            on (Some b) j y = record {
              change = becomes (joining now.0 f.content) (without_goal g f.goals) (count_of cs);
              is_change = ap (collect p worker next g f) there ∙ ap (collect_as g cs f) now.1;
              allowed = subst (λ (z : Option Held). MayCollect f z) (sym there) (all_quiet f k cs (once names) solved (λ n m q x z. quiet_was n m q x (subst (λ (y : Operator). Matters y bs) (sym t) (subst AreSolved (sym same) (are_solved cs solved))) z) h);
              few_names = subst (λ (z : ℕ). z < 2 ^ 32) (sym (ap (λ (c : Change). c.drawn) (some_value y))) fewer;
            }
              where
                solved : AllSolved cs
                solved = gathered_solved p worker next2 k.content.name r cs b j

                same : bs ≡ cs
                same = same_alternatives names solved

                there : held_in g f.goals ≡ Some (a_choice (Operator.collecting r) cs)
                there = hf ∙ (λ i. Some (a_choice (t i) (same i)))

                now : (b : Content) × (gathered p worker next f.content.name r cs ≡ Some b)
                now = gathered_by p worker next next2 f.content.name k.content.name r r cs b j
        collect_before u worker next next2 ch names _ t s fewer h = absurd h

        promote_before : (u : Reading) (worker next next2 : ℕ) (n : Name) (ch : Change) → box_names bs ≡ box_names cs → promote worker next2 g n k (Some (a_choice o cs)) ≡ Some ch → ch.drawn < 2 ^ 32 → MayPromote n k (Some (a_choice o cs))
            → Usable p u worker next Rule.Promote g (Some n) f
        promote_before u worker next next2 n ch names s fewer h = on (promote_shape worker next2 g n k o cs ch s) (some_and (GuardHolds o) (alternative_of k n cs) h)
          where
            on : (x : Content) × (cs ≡ box x no_goals no_boxes) × (same_name n x.name ≡ true) × (ch.drawn ≡ length x.body) → (m : Found) × (alternative_of k n cs ≡ Some m) × GuardHolds o m → Usable p u worker next Rule.Promote g (Some n) f
            on (x, shape, same, drawn) (m, q, guard) = record {
              change = there.0;
              is_change = subst (λ (z : Option Held). promote worker next g n f z ≡ Some there.0) (sym hf) (subst (λ (z : Boxes). promote worker next g n f (Some (a_choice o z)) ≡ Some there.0) (sym alone) there.1);
              allowed = subst (λ (z : Option Held). MayPromote n f z) (sym hf)
                  (and_some (GuardHolds o) (alternative_of f n bs) (held_by f m) (was_there n m q solved) (guard_before o refl n m q solved (subst (GuardHolds o) (sym (itself n m q)) guard)));
              few_names = subst (λ (z : ℕ). z < 2 ^ 32) (drawn ∙ sym there.2) fewer;
            }
              where
                first : (m.content ≡ x) × (m.goals ≡ no_goals)
                first = first_alternative k m n x same (subst (λ (z : Boxes). alternative_of k n z ≡ Some m) shape q)

                solved : IsSolved m.goals
                solved = subst IsSolved (sym first.1) tt

                there : (z : Change) × (promote worker next g n f (Some (a_choice o (box x no_goals no_boxes))) ≡ Some z) × (z.drawn ≡ length x.body)
                there = promote_there worker next g n f o x same

                alone : bs ≡ box x no_goals no_boxes
                alone = single f (held_by f m) n x.name bs (was_there n m q solved) (names ∙ ap box_names shape) ∙ (λ j. box (first.0 j) (first.1 j) no_boxes)

        again : (u : Reading) (worker next next2 : ℕ) (r : Rule) (alternative : Option Name) (ch : Change) → box_names bs ≡ box_names cs → change_by p u worker next2 r (Place.Goal g) alternative k ≡ Some ch
            → Allows p u r (Place.Goal g) alternative k → ch.drawn < 2 ^ 32 → Usable p u worker next r g alternative f
        again u worker next next2 Rule.Cut (Some n) ch names s h fewer = cut_before u worker next n names (subst (λ (z : Option Held). MayCut n k z) hk h)
        again u worker next next2 Rule.Promote (Some n) ch names s h fewer =
            promote_before u worker next next2 n ch names (subst (λ (z : Option Held). promote worker next2 g n k z ≡ Some ch) hk s) fewer (subst (λ (z : Option Held). MayPromote n k z) hk h)
        again u worker next next2 Rule.Collect None ch names s h fewer =
            collect_before u worker next next2 ch names o refl (subst (λ (z : Option Held). collect p worker next2 g k z ≡ Some ch) hk s) fewer (subst (λ (z : Option Held). MayCollect k z) hk h)
        again u worker next next2 Rule.Collect (Some n) ch names s h fewer = cc
        again u worker next next2 Rule.Cut None ch names s h fewer = cc
        again u worker next next2 Rule.Promote None ch names s h fewer = cc
        again u worker next next2 Rule.Tell None ch names s h fewer = let z : tell g k (Some (a_choice o cs)) ≡ Some ch = subst (λ (z : Option Held). tell g k z ≡ Some ch) hk s in cc
        again u worker next next2 Rule.Tell (Some n) ch names s h fewer = cc
        again u worker next next2 Rule.Fork None ch names s h fewer = let z : fork p worker next2 g k (Some (a_choice o cs)) ≡ Some ch = subst (λ (z : Option Held). fork p worker next2 g k z ≡ Some ch) hk s in cc
        again u worker next next2 Rule.Fork (Some n) ch names s h fewer = cc
        again u worker next next2 Rule.Eval None ch names s h fewer = absurd (no_eval u (subst (λ (z : Option Held). Rattle.akl_model.specs.Conditions.ComesTo p u k z) hk h))
          where
            no_eval : (u : Reading) → Rattle.akl_model.specs.Conditions.ComesTo p u k (Some (a_choice o cs)) → ⊥
            no_eval Rattle.akl_model.specs.Rules.nothing x = x
            no_eval (Rattle.akl_model.specs.Rules.answer z) x = x
            no_eval (Rattle.akl_model.specs.Rules.receiver z) x = x
        again u worker next next2 Rule.Eval (Some n) ch names s h fewer = cc
        again u worker next next2 Rule.Open None ch names s h fewer = let z : open_new worker next2 g k (Some (a_choice o cs)) ≡ Some ch = subst (λ (z : Option Held). open_new worker next2 g k z ≡ Some ch) hk s in cc
        again u worker next next2 Rule.Open (Some n) ch names s h fewer = cc
        again u worker next next2 Rule.Send None ch names s h fewer = absurd (no_send u (subst (λ (z : Option Held). Rattle.akl_model.specs.Conditions.GoesTo u k z) hk h))
          where
            no_send : (u : Reading) → Rattle.akl_model.specs.Conditions.GoesTo u k (Some (a_choice o cs)) → ⊥
            no_send Rattle.akl_model.specs.Rules.nothing x = x
            no_send (Rattle.akl_model.specs.Rules.answer z) x = x
            no_send (Rattle.akl_model.specs.Rules.receiver z) x = x
        again u worker next next2 Rule.Send (Some n) ch names s h fewer = cc
        again u worker next next2 Rule.Fail alternative ch names s h fewer = cc
        again u worker next next2 Rule.Split alternative ch names s h fewer = cc

        pub choice_ready_before : IsReady rules p d (Place.Goal g) → (IsReady rules p c (Place.Goal g) → ⊥) → ⊥
        choice_ready_before z unready = names_not (λ names. unready (ready_by rules p c g f x.label x.reading x.in_force e
            (again x.reading x.label.worker (slice_index c.next x.label.worker) (slice_index d.next x.label.worker) x.label.rule x.label.alternative x.usable.change names x.usable.is_change x.usable.allowed x.usable.few_names)))
          where
            x : ReadyGoal rules p d g k
            x = ready_goal rules p d g k i z
