-- A table in which the call is a choice of the one alternative that is left unfolds to the configuration before the call's last label.
use Rattle.std.proofs.Common.{◌≡◌, ℕ, ◌+◌, ◌≤◌, ◌<◌, List, [], ◌∷◌, ◌++◌, map, true, Option, Some, None, refl, sym, ◌∙◌, ap, subst, inl, inr, arith}
use Rattle.std.specs.Prelude.{slice_index, option_map, option_and_then}
use Rattle.akl_terms.specs.declared.name.Name.{Name}
use Rattle.akl_terms.specs.declared.term.Node.{Node}
use Rattle.akl_terms.specs.Names.{same_name}
use Rattle.akl_terms.proofs.SameNames.{same_name-refl}
use Rattle.akl_terms.specs.Equal.{Equations, IsTold}
use Rattle.akl_terms.specs.Standing.{StandFor}
use Rattle.akl_model.specs.Config.{IsIn, Content, Boxes, no_boxes, box, Goals, no_goals, Held, an_atom, a_choice, held_in, Found, whole, equations_of, box_at, home_of}
use Rattle.akl_model.specs.Conditions.{IsFailing}
use Rattle.akl_model.specs.Derivations.{raised}
use Rattle.akl_model.specs.Changes.{of_choice, shape_of, box_names, goal_names}
use Rattle.akl_model.specs.Stable.{only}
use Rattle.akl_model.specs.Wakes.{names_around, names_down_to, holder_in}
use Rattle.constraint_laws.proofs.SameTerms.{name_or}
use Rattle.akl_model.proofs.Finds.{times, times_of, times_inside, box_at-none}
use Rattle.akl_model.proofs.NamesKept.{Stand, box-itself}
use Rattle.akl_model.proofs.Options.{some_value, none_or}
use Rattle.akl_model.proofs.QuietGrows.{equations-snoc}
use Rattle.akl_model.proofs.Scoped.{IsIn-either, IsIn-left}
use Rattle.akl_model.proofs.ScopesAlong.{only_once}
use Rattle.rational_unify.specs.Solving.{bindings_in}
use Rattle.local_store.specs.Stored.{Stored}
use Rattle.local_store.specs.Chained.{IsSolvedChain}
use Rattle.step_laws.specs.Stays.{HaveShape}
use Rattle.step_laws.specs.Whereabouts.{Stands}
use Rattle.step_laws.proofs.Deeper.{Over, over, one_box, names_snoc}
use Rattle.step_laws.proofs.Failing.{failed_goal, failing_found, failing_shape}
use Rattle.step_laws.proofs.GoalEdits.{HasGoal, has_names}
use Rattle.step_laws.proofs.Holders.{alternative_at}
use Rattle.step_laws.proofs.Steps.{old_box, old_goal}
use Rattle.step_laws.proofs.Whereabouts.{found_in, in_found, home_in, in_home, home_of-none}
use Rattle.plan_laws.specs.AtOnce.{inner}
use Rattle.plan_laws.specs.Between.{with_choice}
use Rattle.plan_laws.proofs.CallAlternatives.{Calling, between, IsNewName, AreNew, stands_inner, named}
use Rattle.plan_laws.proofs.Between.{stood, was_found, is_choice, home, unknown}
use Rattle.plan_laws.proofs.Elsewhere.{Alike, neither as no_box, both as same_box, names_same}
use Rattle.plan_laws.proofs.OpensAlike.{alike_back, other_name}
use Rattle.plan_laws.proofs.CallsOutside.{Before, alike_some, alike_none, new_or, not_old, outside}
use Rattle.table_laws.specs.Rows.{BoxRow, Table, store_in, stores_along, told_in, ports_in}
use Rattle.table_laws.specs.Unfolds.{FailsBy, UnchangedSince, IsBoxRow, AreBoth, Spot, spot_in, spot_of, Unfolds}
use Rattle.table_laws.specs.Writes.{set}
use Rattle.table_laws.proofs.Forked.{raised_same}
use Rattle.table_laws.proofs.Frame.{row_of, neither, are_both, are_neither}
use Rattle.table_laws.proofs.Insides.{spot_held, spot_none}
use Rattle.table_laws.proofs.Sets.{set_here, set_other, other_by}
use Rattle.table_laws.proofs.Stores.{told_along, told_last, same_stores, unchanged_before}
use Rattle.table_laws.proofs.MiddleBoxes.{new_is_last, no_new_goal, same_holder}

-- a store of the alternative
pub record IsStoreOf (nodes : List Node) (f : Found) (a : Content) (store : Stored) : Type 0 where
  pub frames : store.frames ≡ a.frames
  pub ports : ports_in nodes store.ports ≡ a.ports
  pub stands : (D : Equations) → StandFor (IsTold D) (IsTold (whole f)) → StandFor (IsTold (D ++ bindings_in nodes store.bindings)) (IsTold (whole f ++ a.equations))

-- a goal of the same shape in a box of the same name has the same spot
abbrev spot_with : Content → Held → Spot
spot_with b h = record { home = b.name; shape = shape_of h }

abbrev spot_at : Name → Found → Option Spot
spot_at i f = option_map (spot_with f.content) (held_in i f.goals)

alike_spot : (i : Name) (x y : Option Found) → Alike (λ (u v : Goals). HaveShape (held_in i u) (held_in i v)) x y → option_and_then (spot_at i) x ≡ option_and_then (spot_at i) y
alike_spot i _ _ no_box = refl
alike_spot i _ _ (same_box a b gs hs r) = on (held_in i gs) (held_in i hs) r
  where
    on : (u v : Option Held) → option_map shape_of u ≡ option_map shape_of v → option_map (spot_with b) u ≡ option_map (spot_with b) v
    on None None q = refl
    on (Some u) (Some v) q = let e : shape_of u ≡ shape_of v = some_value q in λ j. Some (record { home = b.name; shape = e j })
    on None (Some v) q = cc
    on (Some u) None q = cc

-- the row of the alternative, and the table
abbrev pub last_row : Calling → Content → Stored → ℕ → ℕ → BoxRow
last_row k a store changed goals_changed = record {
  holder = Some k.goal;
  store = store;
  changed = changed;
  solved_at = None;
  goals = [];
  goals_changed = goals_changed;
  failing = None;
  body = a.body;
  shown = a.shown;
  collected = a.collected;
}

abbrev pub middle_table : Calling → Content → Stored → ℕ → ℕ → ℕ → ℕ → Table → Table
middle_table k a store changed goals_changed chosen others T = record T {
  box_of = set a.name (Some (last_row k a store changed goals_changed)) T.box_of;
  goal_of = set k.goal (Some (record { home = k.home.content.name; shape = of_choice k.op (a.name ∷ []); changed = chosen })) T.goal_of;
  next = raised k.worker k.drawn T.next;
  steps = T.steps + others;
}

module _ (k : Calling) (a : Content) (s : Stand (between k (box a no_goals no_boxes))) (new : AreNew k (box a no_goals no_boxes)) (quiet : IsFailing (an_atom k.body) → ⊥)
    (T : Table) (u : Unfolds T k.config) (store : Stored) (its : IsStoreOf T.nodes k.home a store) (changed goals_changed chosen others : ℕ) where
  abbrev pub last : Boxes
  last = box a no_goals no_boxes

  abbrev pub U : Table
  U = middle_table k a store changed goals_changed chosen others T

  its_name : IsNewName k a.name
  its_name = named k no_boxes a no_goals no_boxes s new

  roots_same : box_names k.config.roots ≡ box_names (between k last).roots
  roots_same = sym (names_same k.home.content.name k.home.content k.home.goals (with_choice k.home k.goal k.op last).goals (same_name-refl k.home.content.name) k.config.roots)

  -- rows of old boxes stay
  old_row : (i : Name) → (IsNewName k i → ⊥) → U.box_of i ≡ T.box_of i
  old_row i n = set_other a.name i (Some (last_row k a store changed goals_changed)) T.box_of (other_by i a.name (λ q. n (subst (IsNewName k) (sym q) its_name)))

  down_old : (e : Found) → Stands e k.config.roots → (i : Name) → IsIn i (names_down_to e) → IsNewName k i → ⊥
  down_old e x i h n = elim (IsIn-either i (names_around e) (e.content.name ∷ []) h) [
    | inl y ↦ let v : Over i e k.config.roots = over i e k.config.roots x y in not_old k i n (subst (λ (m : Name). m.number < slice_index k.config.next m.worker) (sym v.named) (old_box k.config k.stand v.outer v.stands))
    | inr y ↦ elim y [ inl q ↦ not_old k i n (subst (λ (m : Name). m.number < slice_index k.config.next m.worker) (sym q) (old_box k.config k.stand e x)) | inr z ↦ z ]
  ]

  stores_same : (e : Found) → Stands e k.config.roots → stores_along U (names_down_to e) ≡ stores_along T (names_down_to e)
  stores_same e x = same_stores T U (names_down_to e) (λ i h. ap store_in (old_row i (down_old e x i h)))

  pub unchanged : (j : ℕ) (e : Found) → Stands e k.config.roots → UnchangedSince U j (names_around e) → UnchangedSince T j (names_around e)
  unchanged j e x = unchanged_before T U j (names_around e) (λ i h.
      let q : U.box_of i ≡ T.box_of i = old_row i (down_old e x i (IsIn-left i (names_around e) (e.content.name ∷ []) h)) in
      record { store = ap store_in q; changed = λ r y. (r, q ∙ y, refl) })

  pub stores_around : (e : Found) → Stands e k.config.roots → stores_along U (names_around e) ≡ stores_along T (names_around e)
  stores_around e x = same_stores T U (names_around e) (λ i h. ap store_in (old_row i (down_old e x i (IsIn-left i (names_around e) (e.content.name ∷ []) h))))

  -- a goal of a box that isn't new is as it was, unless it is the call
  module _ (e f : Found) (x : Stands e k.config.roots) (y : Stands f (between k last).roots) (around : e.around ≡ f.around) (content : e.content ≡ f.content) (names : goal_names e.goals ≡ goal_names f.goals) where
    same_goal : (i : Name) → (i ≡ k.goal → ⊥) → (h : Held) → held_in i e.goals ≡ Some h → HaveShape (held_in i e.goals) (held_in i f.goals)
    same_goal i other h q =
        let b : Before (λ (u v : Goals). HaveShape (held_in i v) (held_in i u)) (home_of i (between k last).roots) e =
        alike_some (λ (u v : Goals). HaveShape (held_in i v) (held_in i u)) (home_of i (between k last).roots) (home_of i k.config.roots) e
        (alike_back (λ (u v : Goals). HaveShape (held_in i u) (held_in i v)) (λ (u v : Goals). HaveShape (held_in i v) (held_in i u)) (λ u v z. z) (home_of i k.config.roots) (home_of i (between k last).roots)
        ((outside k last s new).homes i (λ n. not_old k i n (old_goal k.config k.stand i e x (h, q))) (other_name k i other)))
        (in_home i h k.config.roots e k.stand.once x q) in
        let z : b.before ≡ f = one_box (between k last).roots s.once b.before f (home_in i (between k last).roots b.before b.found).0 y (ap (λ (c : Content). c.name) (b.content ∙ content)) in
        subst (λ (v : Found). HaveShape (held_in i e.goals) (held_in i v.goals)) z b.related

    -- the call is a choice now
    chosen_goal : (i : Name) → i ≡ k.goal → HasGoal i f.goals → held_in i f.goals ≡ Some (a_choice k.op last)
    chosen_goal i q h =
        let v : home_of k.goal (between k last).roots ≡ Some (with_choice k.home k.goal k.op last) = home k.config k.stand k.goal k.home k.is_home k.body k.held k.op last (between k last).next s in
        let w : home_of i (between k last).roots ≡ Some f = in_home i h.0 (between k last).roots f s.once y h.1 in
        let z : f ≡ with_choice k.home k.goal k.op last = some_value (sym w ∙ ap (λ (j : Name). home_of j (between k last).roots) q ∙ v) in
        ap (λ (c : Found). held_in i c.goals) z ∙ ap (λ (j : Name). held_in j (with_choice k.home k.goal k.op last).goals) q
        ∙ is_choice k.config k.stand k.goal k.home k.is_home k.body k.held k.op last (between k last).next

    not_failing : IsFailing (a_choice k.op last) → ⊥
    not_failing z = z

    held_call : (i : Name) → i ≡ k.goal → (h : Held) → held_in i e.goals ≡ Some h → h ≡ an_atom k.body
    held_call i q h v =
        let w : home_of i k.config.roots ≡ Some e = in_home i h k.config.roots e k.stand.once x v in
        let z : e ≡ k.home = some_value (sym w ∙ ap (λ (j : Name). home_of j k.config.roots) q ∙ k.is_home) in
        some_value (sym v ∙ ap (λ (c : Found). held_in i c.goals) z ∙ ap (λ (j : Name). held_in j k.home.goals) q ∙ k.held)

    same_shape : (i : Name) → (i ≡ k.goal → ⊥) → (h v : Held) → held_in i e.goals ≡ Some h → held_in i f.goals ≡ Some v → shape_of h ≡ shape_of v
    same_shape i other h v q r = some_value (sym (ap (option_map shape_of) q) ∙ same_goal i other h q ∙ ap (option_map shape_of) r)

    inside_once : (i : Name) → times_inside i f.goals ≤ 1
    inside_once i =
        let w : times i (only f) ≤ 1 = only_once (between k last).roots s.once f.content.name f (in_found (between k last).roots f s.once y) i in
        let z : times i (only f) ≡ times_of i f.content + (times_inside i f.goals + 0) = refl in
        omega arith

    fails_same : (o : Option Name) → FailsBy e.goals o → FailsBy f.goals o
    fails_same None unfailed = λ failed.
        let w : (i : Name) × (v : Held) × (held_in i f.goals ≡ Some v) × IsFailing v = failed_goal f.goals inside_once failed in
        elim (name_or w.0 k.goal) [
          | inl q ↦ not_failing (subst IsFailing (some_value (sym w.2 ∙ chosen_goal w.0 q (w.1, w.2))) w.3)
          | inr other ↦
              let h : HasGoal w.0 e.goals = has_names w.0 f.goals e.goals (sym names) (w.1, w.2) in
              unfailed (failing_found w.0 e.goals h.0 h.1 (failing_shape w.1 h.0 (sym (same_shape w.0 other h.0 w.1 h.1 w.2)) w.3))
        ]
    fails_same (Some i) w = elim (name_or i k.goal) [
      | inl q ↦ absurd (quiet (subst IsFailing (held_call i q w.0 w.1) w.2))
      | inr other ↦
          let v : HasGoal i f.goals = has_names i e.goals f.goals names (w.0, w.1) in
          (v.0, v.1, failing_shape w.0 v.0 (same_shape i other w.0 v.0 w.1 v.1) w.2)
    ]

    names_same_down : names_down_to e ≡ names_down_to f
    names_same_down = λ i. map (λ (b : Content). b.name) (around i) ++ (content i).name ∷ []

    same_whole : whole e ≡ whole f
    same_whole = λ i. equations_of (around i) ++ (content i).equations

    stores_now : stores_along U (names_down_to f) ≡ stores_along T (names_down_to e)
    stores_now = ap (stores_along U) (sym names_same_down) ∙ stores_same e x

    pub kept_row : (i : Name) → (IsNewName k i → ⊥) → box_at i k.config.roots ≡ Some e → box_at i (between k last).roots ≡ Some f → (r : BoxRow) → IsBoxRow T k.config.roots e r → IsBoxRow U (between k last).roots f r
    kept_row i n p q r row = record {
      holder = row.holder ∙ ap (λ (m : Name). holder_in m k.config.roots) (sym (box-itself i k.config.roots e p)) ∙ same_holder k a s new i e f n p q around roots_same ∙ ap (λ (m : Name). holder_in m (between k last).roots) (box-itself i (between k last).roots f q);
      frames = row.frames ∙ ap (λ (c : Content). c.frames) content;
      ports = row.ports ∙ ap (λ (c : Content). c.ports) content;
      stands = subst (λ (E : Equations). StandFor (IsTold (told_in T.nodes (stores_along U (names_down_to f)))) (IsTold E)) same_whole
          (subst (λ (ss : List Stored). StandFor (IsTold (told_in T.nodes ss)) (IsTold (whole e))) (sym stores_now) row.stands);
      stays_solved = record {
        within = λ j z. let v : j ≤ T.steps = row.stays_solved.within j z in omega arith;
        solved = λ j z v. subst (IsSolvedChain T.nodes) (sym stores_now)
            (row.stays_solved.solved j z (unchanged j e x (subst (UnchangedSince U j) (sym (ap (map (λ (b : Content). b.name)) around)) v)));
      };
      goals = row.goals ∙ names;
      failing = fails_same r.failing row.failing;
      body = row.body ∙ ap (λ (c : Content). c.body) content;
      shown = row.shown ∙ ap (λ (c : Content). c.shown) content;
      collected = row.collected ∙ ap (λ (c : Content). c.collected) content;
    }

  -- the row of the alternative
  alternative_there : box_at a.name (between k last).roots ≡ Some (inner k.home a no_goals)
  alternative_there = in_found (between k last).roots (inner k.home a no_goals) s.once (stands_inner k no_boxes a no_goals no_boxes s new)

  is_home : home_of k.goal (between k last).roots ≡ Some (with_choice k.home k.goal k.op last)
  is_home = home k.config k.stand k.goal k.home k.is_home k.body k.held k.op last (between k last).next s

  chosen_there : held_in k.goal (with_choice k.home k.goal k.op last).goals ≡ Some (a_choice k.op last)
  chosen_there = is_choice k.config k.stand k.goal k.home k.is_home k.body k.held k.op last (between k last).next

  home_stands : StandFor (IsTold (told_along T (names_down_to k.home))) (IsTold (whole k.home))
  home_stands = let r : (r : BoxRow) × (T.box_of k.home.content.name ≡ Some r) × IsBoxRow T k.config.roots k.home r = row_of T k.config u k.home.content.name k.home (was_found k.config k.stand k.goal k.home k.is_home) in r.2.stands

  told_alternative : told_along U (names_down_to (inner k.home a no_goals)) ≡ told_along T (names_down_to k.home) ++ bindings_in T.nodes store.bindings
  told_alternative = told_last U (names_around (inner k.home a no_goals)) a.name store (ap store_in (set_here a.name a.name (Some (last_row k a store changed goals_changed)) T.box_of (same_name-refl a.name)))
      ∙ ap (λ (ns : List Name). told_along U ns ++ bindings_in T.nodes store.bindings) (names_snoc k.home.around k.home.content)
      ∙ ap (λ (ss : List Stored). told_in T.nodes ss ++ bindings_in T.nodes store.bindings) (stores_same k.home (stood k.config k.stand k.goal k.home k.is_home))

  alternative_row : IsBoxRow U (between k last).roots (inner k.home a no_goals) (last_row k a store changed goals_changed)
  alternative_row = record {
    holder = sym (alternative_at (between k last).roots s.once a.name k.goal (with_choice k.home k.goal k.op last) k.op last is_home chosen_there (inl refl)).holder;
    frames = its.frames;
    ports = its.ports;
    stands = subst (λ (E : Equations). StandFor (IsTold (told_along U (names_down_to (inner k.home a no_goals)))) (IsTold E)) (ap (λ (E : Equations). E ++ a.equations) (sym (equations-snoc k.home.around k.home.content)))
        (subst (λ (E : Equations). StandFor (IsTold E) (IsTold (whole k.home ++ a.equations))) (sym told_alternative) (its.stands (told_along T (names_down_to k.home)) home_stands));
    stays_solved = record { within = λ j q. cc; solved = λ j q z. absurd (let v : None ≡ Some j = q in cc) };
    goals = refl;
    failing = λ z. z;
    body = refl;
    shown = refl;
    collected = refl;
  }

  boxes_unfold : (i : Name) → AreBoth (IsBoxRow U (between k last).roots) (box_at i (between k last).roots) (U.box_of i)
  boxes_unfold i = elim (new_or k i) [
    | inl h ↦ elim (none_or (box_at i (between k last).roots)) [
      | inl q ↦ are_neither (IsBoxRow U (between k last).roots) (box_at i (between k last).roots) (U.box_of i) q (set_other a.name i (Some (last_row k a store changed goals_changed)) T.box_of (other_by i a.name
          (λ e. let z : box_at i (between k last).roots ≡ Some (inner k.home a no_goals) = ap (λ (j : Name). box_at j (between k last).roots) e ∙ alternative_there in let y : None ≡ Some (inner k.home a no_goals) = sym q ∙ z in cc))
          ∙ neither (IsBoxRow T k.config.roots) (box_at i k.config.roots) (T.box_of i) (u.boxes i) (box_at-none i k.config.roots (unknown k.config k.stand k.goal k.home k.is_home k.worker k.drawn i h)))
      | inr w ↦
          let e : w.0 ≡ inner k.home a no_goals = new_is_last k a s new i w.0 w.1 h in
          let j : i ≡ a.name = box-itself i (between k last).roots w.0 w.1 ∙ ap (λ (f : Found). f.content.name) e in
          are_both (IsBoxRow U (between k last).roots) (box_at i (between k last).roots) (U.box_of i) (inner k.home a no_goals) (last_row k a store changed goals_changed) (w.1 ∙ ap Some e)
          (set_here a.name i (Some (last_row k a store changed goals_changed)) T.box_of (subst (λ (m : Name). same_name m a.name ≡ true) (sym j) (same_name-refl a.name))) alternative_row
    ]
    | inr n ↦ elim (none_or (box_at i (between k last).roots)) [
      | inl q ↦ are_neither (IsBoxRow U (between k last).roots) (box_at i (between k last).roots) (U.box_of i) q (old_row i n ∙ neither (IsBoxRow T k.config.roots) (box_at i k.config.roots) (T.box_of i) (u.boxes i)
          (alike_none (λ (v w : Goals). goal_names v ≡ goal_names w) (box_at i k.config.roots) (box_at i (between k last).roots) ((outside k last s new).boxes i n) q))
      | inr w ↦
          let b : Before (λ (v w : Goals). goal_names v ≡ goal_names w) (box_at i k.config.roots) w.0 =
          alike_some (λ (v w : Goals). goal_names v ≡ goal_names w) (box_at i k.config.roots) (box_at i (between k last).roots) w.0 ((outside k last s new).boxes i n) w.1 in
          let r : (r : BoxRow) × (T.box_of i ≡ Some r) × IsBoxRow T k.config.roots b.before r = row_of T k.config u i b.before b.found in
          are_both (IsBoxRow U (between k last).roots) (box_at i (between k last).roots) (U.box_of i) w.0 r.0 w.1 (old_row i n ∙ r.1)
          (kept_row b.before w.0 (found_in i k.config.roots b.before b.found) (found_in i (between k last).roots w.0 w.1) b.around b.content b.related i n b.found w.1 r.0 r.2)
    ]
  ]

  goals_unfold : (i : Name) → option_map spot_of (U.goal_of i) ≡ spot_in i (between k last).roots
  goals_unfold i = elim (name_or i k.goal) [
    | inl e ↦ ap (option_map spot_of) (set_here k.goal i (Some (record { home = k.home.content.name; shape = of_choice k.op (a.name ∷ []); changed = chosen })) T.goal_of (subst (λ (m : Name). same_name m k.goal ≡ true) (sym e) (same_name-refl k.goal)))
        ∙ sym (ap (λ (m : Name). spot_in m (between k last).roots) e ∙ spot_held k.goal (between k last).roots (with_choice k.home k.goal k.op last) (a_choice k.op last) is_home chosen_there)
    | inr other ↦
        let q : U.goal_of i ≡ T.goal_of i = set_other k.goal i (Some (record { home = k.home.content.name; shape = of_choice k.op (a.name ∷ []); changed = chosen })) T.goal_of (other_by i k.goal other) in
        ap (option_map spot_of) q ∙ u.goals i ∙ elim (new_or k i) [
          | inl h ↦ spot_none i k.config.roots (home_of-none i k.config.roots (unknown k.config k.stand k.goal k.home k.is_home k.worker k.drawn i h)) ∙ sym (spot_none i (between k last).roots (no_new_goal k a s new i h))
          | inr n ↦ alike_spot i (home_of i k.config.roots) (home_of i (between k last).roots) ((outside k last s new).homes i n (other_name k i other))
        ]
  ]

  pub middle_unfolds : Unfolds U (between k last)
  middle_unfolds = record {
    boxes = boxes_unfold;
    goals = goals_unfold;
    roots = u.roots ∙ roots_same;
    next = λ v. raised_same k.worker k.drawn v T.next k.config.next u.next;
  }
