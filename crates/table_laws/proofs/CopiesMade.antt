-- Copies that are made of the rows of a box and of those inside it are what a split makes.
use Rattle.std.proofs.Common.{◌≡◌, ℕ, ◌+◌, ◌≤◌, ◌<◌, List, [], ◌∷◌, ◌++◌, length, map, Bool, true, false, Option, Some, None, refl, sym, ◌∙◌, ap, subst, ◌⊎◌, inl, inr, arith, append_assoc}
use Rattle.std.specs.Prelude.{if◌then◌else◌, option_map, slice_index}
use Rattle.akl_terms.specs.declared.name.Name.{Name}
use Rattle.akl_terms.specs.declared.name.Place.{Place}
use Rattle.akl_terms.specs.declared.term.Node.{Node}
use Rattle.akl_terms.specs.declared.term.Term.{Term}
use Rattle.akl_terms.specs.Names.{same_name}
use Rattle.akl_terms.proofs.SameNames.{same_name-refl}
use Rattle.akl_terms.specs.Equal.{Equations, IsTold}
use Rattle.akl_terms.specs.Standing.{StandFor}
use Rattle.akl_terms.proofs.EqualLaws.{IsTold-left, IsTold-right, IsTold-either}
use Rattle.akl_terms.proofs.StandingLaws.{StandFor-back, StandFor-on}
use Rattle.akl_model.specs.declared.label.Rule.{Rule}
use Rattle.akl_model.specs.declared.label.Label.{Label}
use Rattle.akl_model.specs.Config.{IsIn, Content, Boxes, Goals, no_goals, atom, choice, Config, Held, a_choice, held_in, Found, equations_of, environment, whole, box_at, site_of}
use Rattle.akl_model.specs.Renaming.{port_names, names_of, sorted_names, renaming, renamed_tree, renamed_atom, renamed_operator, renamed_equation, renamed_port, renamed_shown, renamed, renamed_goals}
use Rattle.akl_model.specs.Rules.{Change, alone, others, ChoiceIn, choice_with, with_alternatives, second_copy, first_of}
use Rattle.akl_model.specs.Stable.{only, first_solved, IsStable, IsSplitPoint}
use Rattle.akl_model.specs.Scopes.{Scope, nowhere, scope_in, EquationsScoped}
use Rattle.akl_model.specs.Owned.{own_in, ContentOwned, BoxesOwned, GoalsOwned}
use Rattle.akl_model.specs.Derivations.{Applies}
use Rattle.akl_model.specs.Names.{one_if, times_in}
use Rattle.akl_model.specs.Changes.{of_atom, of_choice, shape_of, box_names, goal_names}
use Rattle.akl_model.specs.Wakes.{names_around, names_down_to, holder_in}
use Rattle.akl_model.proofs.Options.{none_or, none_where, some_value}
use Rattle.akl_model.proofs.Finds.{times, times_inside, times-names, box_at-some}
use Rattle.akl_model.proofs.Drawn.{drawn_times, drawn_once, times-with_names, times-renamed}
use Rattle.akl_model.proofs.RuleCases.{SplitCase}
use Rattle.akl_model.proofs.NamesKept.{split_held, rest_less, rest_once, Stand, replay-stands, box-itself}
use Rattle.akl_model.proofs.Scoped.{IsIn-either, Within}
use Rattle.akl_model.proofs.ScopesKept.{replay_owned}
use Rattle.akl_model.proofs.ScopesAlong.{only_once, scope_along, own_along, times_path, found_path, found_owned, around_within, counted_in, frame_apart, port_apart, environment_scoped}
use Rattle.constraint_laws.specs.StandingGrows.{AreToldIn}
use Rattle.constraint_laws.proofs.StandsGrow.{same_told_stands, stands_with_more}
use Rattle.rational_unify.specs.Solving.{bindings_in}
use Rattle.step_laws.specs.Whereabouts.{BoxIn}
use Rattle.step_laws.specs.Holders.{IsHeldBy}
use Rattle.step_laws.proofs.Whereabouts.{found_in, home_in}
use Rattle.step_laws.proofs.Deeper.{named_found, home_found}
use Rattle.step_laws.proofs.Holders.{held_around, names_less}
use Rattle.table_laws.specs.Rows.{BoxRow, GoalRow, Table, store_in, ports_in}
use Rattle.table_laws.specs.Unfolds.{IsBoxRow, AreBoth}
use Rattle.table_laws.specs.Stamped.{Run, IsTableOf}
use Rattle.table_laws.specs.Steps.{BoxCopy, shapes_in, copy_among, IsCopy, rest_of, SplitsBox}
use Rattle.table_laws.specs.Copying.{IsCopied, IsNameCopied, AreNamesCopied, swapping, copied_shape, copied_goal, copied_goals, IsMadeOf, AreMade}
use Rattle.table_laws.specs.Laws.{CopiesLaw}
use Rattle.table_laws.proofs.Sets.{not_some}
use Rattle.table_laws.proofs.Stores.{told_along, told_last}
use Rattle.table_laws.proofs.Frame.{row_of, are_both, are_neither, around_stands}
use Rattle.table_laws.proofs.Gone.{goals_once}
use Rattle.table_laws.proofs.Insides.{goal_row, inside, IsUnder}
use Rattle.table_laws.proofs.Insides as insides
use Rattle.table_laws.proofs.Copies.{home_counted}
use Rattle.table_laws.proofs.Sorted.{IsOwn, sorted_by}
use Rattle.table_laws.proofs.Renamed.{equations_append, equations_twice, stands_renamed}
use Rattle.table_laws.proofs.RenamedBoxes.{names_renamed, renamed_found, environment_renamed, found_renamed, found_was, holder_renamed}
use Rattle.table_laws.proofs.Swapping.{IsBelow, swap_renames, swap_other, swap_twice, equations_alike, atom_alike, atoms_alike, ports_alike, shown_alike, if_alike, operator_alike, names_alike, equations_itself, frames_stand, ports_stand}
use Rattle.table_laws.proofs.RestBoxes.{others_names, less_among, EachGoal, each_goal, less_goals, less_goal_names}
use Rattle.table_laws.proofs.RestBoxes as rests
use Rattle.table_laws.proofs.Splitting.{split_choice}
use Rattle.table_laws.proofs.Splitting as splitting
use Rattle.plan_laws.proofs.Moves.{equations-append}

scoped_right : (s : Scope) (E F : Equations) → EquationsScoped s (E ++ F) → EquationsScoped s F
scoped_right s [] F h = h
scoped_right s (e ∷ E) F h = scoped_right s E F h.2

-- what is told behind the same equations
more_told : (D E F : Equations) → AreToldIn E F → AreToldIn (D ++ E) (D ++ F)
more_told D E F x = record { each = λ s t h. elim (IsTold-either D E s t h) [ inl y ↦ IsTold-left D F s t y | inr y ↦ IsTold-right D F s t (x.each s t y) ] }

port_names_in : (nodes : List Node) (ps : List (Name × Term)) → port_names (ports_in nodes ps) ≡ map (λ (p : Name × Term). p.0) ps
port_names_in nodes [] = refl
port_names_in nodes (p ∷ ps) = ap (λ (ns : List Name). p.0 ∷ ns) (port_names_in nodes ps)

-- goals and their rows

abbrev HasRow : Table → Name → Held → Type 0
HasRow T g h = (row : GoalRow) × (T.goal_of g ≡ Some row) × (row.shape ≡ shape_of h)

goals_of_rows : (T : Table) (al : Name) (f : Name → Name) (gs : Goals) → EachGoal (HasRow T) gs → copied_goals T al f (goal_names gs) ≡ shapes_in (renamed_goals f (less_goals al gs))
goals_of_rows T al f no_goals each = refl
goals_of_rows T al f (atom g x gs) each = ap (λ (o : Option GoalRow). copied_goal al f g o ++ copied_goals T al f (goal_names gs)) each.0.1
    ∙ (λ i. (f g, copied_shape al f (each.0.2 i)) ∷ goals_of_rows T al f gs each.1 i)
goals_of_rows T al f (choice g o bs gs) each = ap (λ (v : Option GoalRow). copied_goal al f g v ++ copied_goals T al f (goal_names gs)) each.0.1
    ∙ (λ i. (f g, copied_shape al f (each.0.2 i)) ∷ goals_of_rows T al f gs each.1 i)
    ∙ ap (λ (ns : List Name). (f g, of_choice (renamed_operator f o) ns) ∷ shapes_in (renamed_goals f (less_goals al gs))) (sym (names_renamed f (others al bs) ∙ ap (map f) (others_names al bs)))

goals_alike : (f h : Name → Name) (s : Scope) → ((n : Name) → IsIn n s.frames → f n ≡ h n) → ((n : Name) → IsIn n s.ports → f n ≡ h n) → (al : Name) (gs : Goals) → GoalsOwned s gs
    → ((n : Name) → 0 < times_inside n gs → f n ≡ h n) → shapes_in (renamed_goals f (less_goals al gs)) ≡ shapes_in (renamed_goals h (less_goals al gs))
goals_alike f h s frames ports al no_goals owned same = refl
goals_alike f h s frames ports al (atom g x gs) owned same =
    let e : f g ≡ h g = same g (let u : one_if (same_name g g) ≡ 1 = ap one_if (same_name-refl g) in omega arith) in
    λ i. (e i, of_atom (atom_alike f h s frames ports x owned.0 i)) ∷ goals_alike f h s frames ports al gs owned.1 (λ n k. same n (omega arith)) i
goals_alike f h s frames ports al (choice g o bs gs) owned same =
    let e : f g ≡ h g = same g (let u : one_if (same_name g g) ≡ 1 = ap one_if (same_name-refl g) in omega arith) in
    let names : box_names (renamed f (others al bs)) ≡ box_names (renamed h (others al bs)) =
    names_renamed f (others al bs) ∙ names_alike f h (box_names (others al bs)) (λ n i. same n (
    let a : 0 < times_in n (box_names bs) = counted_in n (box_names bs) (less_among al n (box_names bs) (subst (IsIn n) (others_names al bs) i)) in
    let b : times_in n (box_names bs) ≤ times n bs = names_less n bs in
    omega arith)) ∙ sym (names_renamed h (others al bs)) in
    λ i. (e i, of_choice (operator_alike f h s frames ports o owned.2 i) (names i)) ∷ goals_alike f h s frames ports al gs owned.1 (λ n k. same n (omega arith)) i

-- a stable box that may be split at an alternative of a choice, however many names that would draw
module _ (rules : List Rule) (r : Run) (T : Table) (t : IsTableOf rules r T) (worker : ℕ) (n al : Name) (site : Found) (choice : ChoiceIn) (is_site : box_at n t.config.roots ≡ Some site)
    (stable : IsStable r.program site) (is_choice : choice_with al site.goals ≡ Some choice) (point : IsSplitPoint site al choice) where
  abbrev next : ℕ
  next = slice_index t.config.next worker

  abbrev rest : Boxes
  rest = rest_of al site choice

  abbrev ns : List Name
  ns = sorted_names rest

  abbrev to : Name → Name
  to = renaming ns worker (slice_index t.config.next worker)

  abbrev swap : Name → Name
  swap = swapping ns worker (slice_index t.config.next worker)

  s : Stand t.config
  s = replay-stands rules r.program r.query r.journal t.config t.replays

  owned : BoxesOwned nowhere t.config.roots
  owned = replay_owned rules r.program r.query r.journal t.config t.replays

  once : (i : Name) → times i (only site) ≤ 1
  once = only_once t.config.roots s.once n site is_site

  site_name : n ≡ site.content.name
  site_name = box-itself n t.config.roots site is_site

  there : box_at site.content.name t.config.roots ≡ Some site
  there = ap (λ (m : Name). box_at m t.config.roots) (sym site_name) ∙ is_site

  abbrev change : Change
  change = record { boxes = first_of (with_alternatives site choice (alone al choice.alternatives)) (second_copy worker next rest); drawn = length (sorted_names rest) }

  abbrev the_case : SplitCase r.program worker next site change (Place.Box n) (Some al)
  the_case = record { name = n; is_place = refl; at_alternative = al; is_alternative = refl; choice_in = choice; stable = stable; is_choice = is_choice; point = point; change = refl }

  few : (i : Name) → times i rest ≤ 1
  few = rest_once r.program worker next site change once the_case

  rest_within : (i : Name) → times i rest ≤ times i (only site)
  rest_within = rest_less r.program worker next site change once the_case

  still : (i : Name) → times i (renamed to rest) ≤ 1
  still i =
      let x : times i (renamed to rest) ≤ drawn_times i worker next (length ns) = times-renamed worker next i rest few in
      let o : drawn_times i worker next (length ns) ≤ 1 = drawn_once i worker next (length ns) in
      omega (arith, x, o)

  -- the names that are swapped

  within : (i : Name) → times_in i ns ≤ times i rest
  within i = let x : times_in i ns ≤ times_in i (names_of rest) + 0 = times-with_names i (names_of rest) [] in let e : times_in i (names_of rest) ≡ times i rest = times-names i rest in omega (arith, x, e)

  below : (i : Name) → 0 < times i t.config.roots → IsBelow worker next i
  below i h e = let x : i.number < slice_index t.config.next i.worker = s.below i h in let y : slice_index t.config.next i.worker ≡ next = ap (slice_index t.config.next) e in omega (arith, x, y)

  twice : (i : Name) → swap (swap i) ≡ i
  twice = swap_twice ns worker next inner (λ i. let x : times_in i ns ≤ times i rest = within i in let o : times i rest ≤ 1 = few i in omega (arith, x, o))
    where
      inner : (i : Name) → 0 < times_in i ns → IsBelow worker next i
      inner i h = below i (
          let x : times_in i ns ≤ times i rest = within i in
          let y : times i rest ≤ times i (only site) = rest_within i in
          let z : times i (only site) + times_path i site.around ≤ times i t.config.roots = found_path i site.content.name t.config.roots site there in
          omega (arith, h, x, y, z))

  -- a name that stands is renamed as it is swapped
  alike : (i : Name) → 0 < times i t.config.roots → to i ≡ swap i
  alike i h = swap_renames ns worker next i (below i h)

  on_path : (k : Name) (e : Found) → box_at k t.config.roots ≡ Some e → (i : Name) → 0 < times_path i e.around → 0 < times i t.config.roots
  on_path k e i j h = let z : times j (only e) + times_path j e.around ≤ times j t.config.roots = found_path j k t.config.roots e i in omega (arith, h, z)

  -- the equations around the box stay
  outside : map (renamed_equation swap) (environment site) ≡ environment site
  outside = equations_alike swap (λ i. i) (scope_along nowhere site.around) (λ i h. stays i (frames_stand i site.around h) (frame_apart t.config.roots s.once site.content.name site there i h))
      (λ i h. stays i (ports_stand i site.around h) (port_apart t.config.roots s.once site.content.name site there i h)) (environment site)
      (environment_scoped t.config owned site.content.name site there) ∙ equations_itself (environment site)
    where
      stays : (i : Name) → 0 < times_path i site.around → times i (only site) ≡ 0 → swap i ≡ i
      stays i h z = swap_other ns worker next i (below i (on_path site.content.name site there i h))
          (let x : times_in i ns ≤ times i rest = within i in let y : times i rest ≤ times i (only site) = rest_within i in omega (arith, x, y, z))

  -- a box of those that are copied, in the configuration

  held : held_in choice.name site.goals ≡ Some (a_choice choice.op choice.alternatives)
  held = split_held r.program worker next site change once the_case

  first : first_solved choice.alternatives ≡ Some al
  first = point.first

  abbrev IsWithin : Found → Type 0
  IsWithin e = rests.IsWithin t.config s site there choice.name al choice.op choice.alternatives held first few e

  module _ (e : Found) (x : IsWithin e) where
    path_alike : (i : Name) → 0 < times_path i x.whole_box.around → to i ≡ swap i
    path_alike i h = alike i (on_path e.content.name x.whole_box x.is_found i h)

    own_alike : (i : Name) → 0 < times i (only x.whole_box) → to i ≡ swap i
    own_alike i h = alike i (let z : times i (only x.whole_box) + times_path i x.whole_box.around ≤ times i t.config.roots = found_path i e.content.name t.config.roots x.whole_box x.is_found in omega (arith, h, z))

    environment_is : environment x.whole_box ≡ environment site ++ environment e
    environment_is = ap equations_of x.path ∙ equations-append site.around e.around

    around_same : map (renamed_equation to) (environment e) ≡ map (renamed_equation swap) (environment e)
    around_same = equations_alike to swap (scope_along nowhere x.whole_box.around) (λ i h. path_alike i (frames_stand i x.whole_box.around h)) (λ i h. path_alike i (ports_stand i x.whole_box.around h)) (environment e)
        (scoped_right (scope_along nowhere x.whole_box.around) (environment site) (environment e)
        (subst (EquationsScoped (scope_along nowhere x.whole_box.around)) environment_is (environment_scoped t.config owned e.content.name x.whole_box x.is_found)))

    -- what the box may use by itself

    abbrev own_scope : Scope
    own_scope = own_in (own_along nowhere x.whole_box.around) x.whole_box.content

    own_content : ContentOwned (own_along nowhere x.whole_box.around) x.whole_box.content
    own_content = (found_owned nowhere e.content.name t.config.roots x.whole_box owned x.is_found).0

    own_goals : GoalsOwned (own_in (own_along nowhere x.whole_box.around) x.whole_box.content) x.whole_box.goals
    own_goals = (found_owned nowhere e.content.name t.config.roots x.whole_box owned x.is_found).1

    own : Within (own_along nowhere x.whole_box.around) (scope_along nowhere x.whole_box.around)
    own = around_within x.whole_box.around

    own_frames : (i : Name) → IsIn i x.whole_box.content.frames → to i ≡ swap i
    own_frames i h = own_alike i (let z : 0 < times_in i x.whole_box.content.frames = counted_in i x.whole_box.content.frames h in omega arith)

    port_alike : (i : Name) → IsIn i (port_names x.whole_box.content.ports) → to i ≡ swap i
    port_alike i h = own_alike i (let z : 0 < times_in i (port_names x.whole_box.content.ports) = counted_in i (port_names x.whole_box.content.ports) h in omega arith)

    own_ports : (i : Name) → IsIn i (port_names x.whole_box.content.ports ++ (own_along nowhere x.whole_box.around).ports) → to i ≡ swap i
    own_ports i h = elim (IsIn-either i (port_names x.whole_box.content.ports) (own_along nowhere x.whole_box.around).ports h) [
      | inl y ↦ port_alike i y
      | inr y ↦ path_alike i (ports_stand i x.whole_box.around (own.ports i y))
    ]

    own_same : map (renamed_equation to) e.content.equations ≡ map (renamed_equation swap) e.content.equations
    own_same = subst (λ (b : Content). map (renamed_equation to) b.equations ≡ map (renamed_equation swap) b.equations) x.content
        (equations_alike to swap (scope_in (own_along nowhere x.whole_box.around) x.whole_box.content) frames own_ports x.whole_box.content.equations own_content.equations)
      where
        frames : (i : Name) → IsIn i (x.whole_box.content.frames ++ (own_along nowhere x.whole_box.around).frames) → to i ≡ swap i
        frames i h = elim (IsIn-either i x.whole_box.content.frames (own_along nowhere x.whole_box.around).frames h) [
          | inl y ↦ own_frames i y
          | inr y ↦ path_alike i (frames_stand i x.whole_box.around (own.frames i y))
        ]

    -- what is told down to the copy is what is told down to the box, with names swapped

    environment_swapped : map (renamed_equation swap) (environment x.whole_box) ≡ environment site ++ environment (renamed_found to e)
    environment_swapped = ap (map (renamed_equation swap)) environment_is ∙ equations_append swap (environment site) (environment e)
        ∙ (λ i. outside i ++ (sym around_same ∙ sym (environment_renamed to e)) i)

    whole_swapped : map (renamed_equation swap) (whole x.whole_box) ≡ environment site ++ whole (renamed_found to e)
    whole_swapped = equations_append swap (environment x.whole_box) x.whole_box.content.equations
        ∙ (λ i. environment_swapped i ++ (ap (λ (b : Content). map (renamed_equation swap) b.equations) x.content ∙ sym own_same) i)
        ∙ append_assoc (environment site) (environment (renamed_found to e)) (map (renamed_equation to) e.content.equations)

    is_row : (row : BoxRow) → T.box_of e.content.name ≡ Some row → IsBoxRow T t.config.roots x.whole_box row
    is_row row i =
        let w : (w : BoxRow) × (T.box_of e.content.name ≡ Some w) × IsBoxRow T t.config.roots x.whole_box w = row_of T t.config t.unfolds e.content.name x.whole_box x.is_found in
        subst (IsBoxRow T t.config.roots x.whole_box) (some_value (sym w.1 ∙ i)) w.2

    -- so the copy's store stands for the copy's equations
    copy_stands : (row : BoxRow) (v : BoxCopy) → T.box_of e.content.name ≡ Some row → IsMadeOf T n al swap e.content.name row v → (D : Equations)
        → StandFor (IsTold D) (IsTold (environment site ++ environment (renamed_found to e)))
        → StandFor (IsTold (D ++ bindings_in T.nodes v.store.bindings)) (IsTold (environment site ++ whole (renamed_found to e)))
    copy_stands row v i made D h = StandFor-on
        (same_told_stands (D ++ bindings_in T.nodes v.store.bindings) (D ++ map (renamed_equation swap) (bindings_in T.nodes row.store.bindings))
        (more_told D (bindings_in T.nodes v.store.bindings) (map (renamed_equation swap) (bindings_in T.nodes row.store.bindings)) made.told)
        (more_told D (map (renamed_equation swap) (bindings_in T.nodes row.store.bindings)) (bindings_in T.nodes v.store.bindings) made.all_told))
        (subst (λ (E : Equations). StandFor (IsTold (D ++ map (renamed_equation swap) (bindings_in T.nodes row.store.bindings))) (IsTold E)) whole_swapped
        (subst (λ (E : Equations). StandFor (IsTold E) (IsTold (map (renamed_equation swap) (whole x.whole_box)))) told_swapped (stands_renamed swap twice (map (renamed_equation swap) D ++ B) (whole x.whole_box) by_box)))
      where
        B : Equations
        B = bindings_in T.nodes row.store.bindings

        told_swapped : map (renamed_equation swap) (map (renamed_equation swap) D ++ bindings_in T.nodes row.store.bindings) ≡ D ++ map (renamed_equation swap) (bindings_in T.nodes row.store.bindings)
        told_swapped = equations_append swap (map (renamed_equation swap) D) (bindings_in T.nodes row.store.bindings) ∙ ap (λ (E : Equations). E ++ map (renamed_equation swap) (bindings_in T.nodes row.store.bindings)) (equations_twice swap twice D)

        its_name : x.whole_box.content.name ≡ e.content.name
        its_name = ap (λ (b : Content). b.name) x.content

        -- the equations around the box, by those around the copy
        around : StandFor (IsTold (map (renamed_equation swap) D)) (IsTold (environment x.whole_box))
        around = subst (λ (E : Equations). StandFor (IsTold (map (renamed_equation swap) D)) (IsTold E)) (ap (map (renamed_equation swap)) (sym environment_swapped) ∙ equations_twice swap twice (environment x.whole_box))
            (stands_renamed swap twice D (environment site ++ environment (renamed_found to e)) h)

        by_box : StandFor (IsTold (map (renamed_equation swap) D ++ bindings_in T.nodes row.store.bindings)) (IsTold (whole x.whole_box))
        by_box = StandFor-on
            (stands_with_more (map (renamed_equation swap) D) (told_along T (names_around x.whole_box)) (bindings_in T.nodes row.store.bindings)
            (StandFor-on around (StandFor-back (around_stands T t.config s t.unfolds e.content.name x.whole_box x.is_found))))
            (subst (λ (E : Equations). StandFor (IsTold E) (IsTold (whole x.whole_box)))
            (told_last T (names_around x.whole_box) x.whole_box.content.name row.store (ap (λ (m : Name). store_in (T.box_of m)) its_name ∙ ap store_in i)) (is_row row i).stands)

    -- goals, with their shapes
    goals_made : (row : BoxRow) → T.box_of e.content.name ≡ Some row → copied_goals T al swap row.goals ≡ shapes_in (renamed_goals to e.goals)
    goals_made row i = ap (copied_goals T al swap) (is_row row i).goals ∙ goals_of_rows T al swap x.whole_box.goals rows ∙ sym (goals_alike to swap own_scope own_frames own_ports al x.whole_box.goals own_goals inner)
        ∙ ap (λ (gs : Goals). shapes_in (renamed_goals to gs)) (sym (rests.rest_goals t.config s site there choice.name al choice.op choice.alternatives held first few e x))
      where
        rows : EachGoal (HasRow T) x.whole_box.goals
        rows = each_goal (HasRow T) x.whole_box.goals (goals_once t.config.roots s.once x.whole_box (found_in e.content.name t.config.roots x.whole_box x.is_found)) (λ g h j.
            let w : (v : GoalRow) × (T.goal_of g ≡ Some v) × (v.home ≡ x.whole_box.content.name) × (v.shape ≡ shape_of h) =
            goal_row T t.config t.unfolds s.once g x.whole_box h (home_found t.config.roots s.once g e.content.name x.whole_box h x.is_found j) j in
            (w.0, w.1, w.3))

        inner : (i : Name) → 0 < times_inside i x.whole_box.goals → to i ≡ swap i
        inner i h = own_alike i (omega arith)

    holder_made : (row : BoxRow) → box_at e.content.name rest ≡ Some e → T.box_of e.content.name ≡ Some row
        → (if same_name e.content.name n then None else option_map swap row.holder) ≡ holder_in (to e.content.name) (renamed to rest)
    holder_made row i j = on (same_name e.content.name site.content.name) (holder_in e.content.name t.config.roots) refl ∙ sym (ap (option_map to) (rests.rest_holder t.config s site there choice.name al choice.op choice.alternatives held first few e i)) ∙ sym (holder_renamed to rest few still e.content.name e i)
      where
        is_holder : row.holder ≡ holder_in e.content.name t.config.roots
        is_holder = (is_row row j).holder ∙ ap (λ (b : Content). holder_in b.name t.config.roots) x.content

        alike_holder : (h : Option Name) → holder_in e.content.name t.config.roots ≡ h → option_map swap h ≡ option_map to h
        alike_holder None q = refl
        alike_holder (Some g) q =
            let h : IsHeldBy e.content.name g x.whole_box t.config.roots = held_around t.config.roots s.once e.content.name g x.whole_box x.is_found q in
            ap Some (sym (alike g (home_counted g (a_choice h.op h.alternatives) h.home.around h.home.content h.home.goals t.config.roots (home_in g t.config.roots h.home h.is_home).0 h.held)))

        on : (v : Bool) (h : Option Name) → holder_in e.content.name t.config.roots ≡ h
            → (if same_name e.content.name n then None else option_map swap row.holder) ≡ option_map to (if same_name e.content.name site.content.name then None else holder_in e.content.name t.config.roots)
        on v h q = ap (λ (m : Name). if same_name e.content.name m then None else option_map swap row.holder) site_name ∙ pick (same_name e.content.name site.content.name)
          where
            pick : (z : Bool) → (if z then None else option_map swap row.holder) ≡ option_map to (if z then None else holder_in e.content.name t.config.roots)
            pick true = refl
            pick false = ap (option_map swap) is_holder ∙ alike_holder (holder_in e.content.name t.config.roots) refl

    is_copy : (row : BoxRow) (v : BoxCopy) → box_at e.content.name rest ≡ Some e → T.box_of e.content.name ≡ Some row → IsMadeOf T n al swap e.content.name row v
        → IsCopy T.nodes (environment site) (renamed to rest) (renamed_found to e) v
    is_copy row v i j made = record {
      holder = made.holder ∙ holder_made row i j;
      frames = made.frames ∙ ap (map swap) (is_row row j).frames ∙ sym (names_alike to swap x.whole_box.content.frames own_frames) ∙ ap (λ (b : Content). map to b.frames) x.content;
      ports = made.ports ∙ ap (map (renamed_port swap)) (is_row row j).ports ∙ sym (ports_alike to swap own_scope own_frames own_ports x.whole_box.content.ports port_alike own_content.tails)
          ∙ ap (λ (b : Content). map (renamed_port to) b.ports) x.content;
      stands = copy_stands row v j made;
      goals = made.goals ∙ goals_made row j;
      body = made.body ∙ ap (map (renamed_atom swap)) (is_row row j).body ∙ sym (atoms_alike to swap own_scope own_frames own_ports x.whole_box.content.body own_content.body)
          ∙ ap (λ (b : Content). map (renamed_atom to) b.body) x.content;
      shown = made.shown ∙ ap (map (renamed_shown swap)) (is_row row j).shown ∙ sym (shown_alike to swap own_scope own_frames own_ports x.whole_box.content.shown own_content.shown)
          ∙ ap (λ (b : Content). map (renamed_shown to) b.shown) x.content;
      collected = made.collected ∙ ap (option_map (renamed_tree swap)) (is_row row j).collected ∙ sym (if_alike to swap own_scope own_frames own_ports x.whole_box.content.collected own_content.collected)
          ∙ ap (λ (b : Content). option_map (renamed_tree to) b.collected) x.content;
    }

    -- by rows the split copies it
    is_copied : box_at e.content.name rest ≡ Some e → IsCopied T n al e.content.name
    is_copied i = record {
      inside = inside T t.config t.unfolds s.once n e.content.name x.whole_box x.is_found (subst (λ (m : Name). IsIn m (names_down_to x.whole_box)) (sym site_name) x.down);
      other = λ q. not_some (sym (rests.no_alternative t.config s site there choice.name al choice.op choice.alternatives held first few) ∙ ap (λ (m : Name). box_at m rest) (sym q) ∙ i);
    }

    -- its own names are those of its row
    own_names : (row : BoxRow) → T.box_of e.content.name ≡ Some row → (m : Name)
        → ((m ≡ e.content.name) ⊎ (IsIn m row.store.frames ⊎ (IsIn m (map (λ (p : Name × Term). p.0) row.store.ports) ⊎ IsIn m row.goals)) → IsOwn m e.content e.goals)
        × (IsOwn m e.content e.goals → (m ≡ e.content.name) ⊎ (IsIn m row.store.frames ⊎ (IsIn m (map (λ (p : Name × Term). p.0) row.store.ports) ⊎ IsIn m row.goals)))
    own_names row i m = (
      λ h. elim h [
        | inl q ↦ inl q
        | inr y ↦ elim y [
          | inl q ↦ inr (inl (subst (IsIn m) frames q))
          | inr z ↦ elim z [ inl q ↦ inr (inr (inl (subst (IsIn m) ports q))) | inr q ↦ inr (inr (inr (subst (IsIn m) goals q))) ]
        ]
      ],
      λ h. elim h [
        | inl q ↦ inl q
        | inr y ↦ elim y [
          | inl q ↦ inr (inl (subst (IsIn m) (sym frames) q))
          | inr z ↦ elim z [ inl q ↦ inr (inr (inl (subst (IsIn m) (sym ports) q))) | inr q ↦ inr (inr (inr (subst (IsIn m) (sym goals) q))) ]
        ]
      ],
    )
      where
        frames : row.store.frames ≡ e.content.frames
        frames = (is_row row i).frames ∙ ap (λ (b : Content). b.frames) x.content

        ports : map (λ (p : Name × Term). p.0) row.store.ports ≡ port_names e.content.ports
        ports = sym (port_names_in T.nodes row.store.ports) ∙ ap port_names ((is_row row i).ports ∙ ap (λ (b : Content). b.ports) x.content)

        goals : row.goals ≡ goal_names e.goals
        goals = (is_row row i).goals ∙ sym (less_goal_names al x.whole_box.goals) ∙ ap goal_names (sym (rests.rest_goals t.config s site there choice.name al choice.op choice.alternatives held first few e x))

  -- a box that the split copies by rows is found there
  copied_there : (m : Name) → IsCopied T n al m → (e : Found) × (box_at m rest ≡ Some e)
  copied_there m k =
      let w : IsUnder T t.config t.unfolds s.once n m = insides.under T t.config t.unfolds s.once n m site (ap (λ (i : Name). box_at i t.config.roots) site_name ∙ there) k.inside in
      rests.found_there t.config s site there choice.name al choice.op choice.alternatives held first few m w.found w.is_found (subst (λ (i : Name). IsIn i (names_down_to w.found)) site_name w.named) k.other

  itself_there : (m : Name) (e : Found) → box_at m rest ≡ Some e → box_at e.content.name rest ≡ Some e
  itself_there m e i = ap (λ (k : Name). box_at k rest) (sym (box-itself m rest e i)) ∙ i

  -- names in order that are those by rows
  pub names_are : (given : List Name) → AreNamesCopied T n al given → given ≡ ns
  names_are given x = sorted_by rest given x.increasing each only
    where
      each : (q : List Content) (k : Content) (hs : Goals) → BoxIn q k hs rest → (m : Name) → IsOwn m k hs → IsIn m given
      each q k hs y m o = x.each m (record { box = k.name; copied = is_copied e v i; row = w.0; there = w.1; named = (own_names e v w.0 w.1 m).1 o })
        where
          e : Found
          e = record { around = q; content = k; goals = hs }

          i : box_at k.name rest ≡ Some (record { around = q; content = k; goals = hs })
          i = named_found rest few k.name (record { around = q; content = k; goals = hs }) y refl

          v : IsWithin (record { around = q; content = k; goals = hs })
          v = rests.stands_within t.config s site there choice.name al choice.op choice.alternatives held first few (record { around = q; content = k; goals = hs }) i

          w : (w : BoxRow) × (T.box_of k.name ≡ Some w) × IsBoxRow T t.config.roots v.whole_box w
          w = row_of T t.config t.unfolds k.name v.whole_box v.is_found

      only : (m : Name) → IsIn m given → (q : List Content) × (k : Content) × (hs : Goals) × BoxIn q k hs rest × IsOwn m k hs
      only m i = by (x.only m i)
        where
          by : IsNameCopied T n al m → (q : List Content) × (k : Content) × (hs : Goals) × BoxIn q k hs rest × IsOwn m k hs
          by y = (e.0.around, e.0.content, e.0.goals, found_in y.box rest e.0 e.1, (own_names e.0 (rests.stands_within t.config s site there choice.name al choice.op choice.alternatives held first few e.0 (itself_there y.box e.0 e.1)) y.row row m).0 own)
            where
              e : (e : Found) × (box_at y.box rest ≡ Some e)
              e = copied_there y.box y.copied

              its_name : y.box ≡ e.0.content.name
              its_name = box-itself y.box rest e.0 e.1

              row : T.box_of e.0.content.name ≡ Some y.row
              row = ap T.box_of (sym its_name) ∙ y.there

              own : (m ≡ e.0.content.name) ⊎ (IsIn m y.row.store.frames ⊎ (IsIn m (map (λ (p : Name × Term). p.0) y.row.store.ports) ⊎ IsIn m y.row.goals))
              own = elim y.named [ inl q ↦ inl (q ∙ its_name) | inr q ↦ inr q ]

  module _ (copies : List BoxCopy) (made : AreMade T n al swap copies) where
    each : (m : Name) → AreBoth (IsCopy T.nodes (environment site) (renamed to rest)) (box_at m (renamed to rest)) (copy_among copies m)
    each m = on (none_or (box_at m (renamed to rest)))
      where
        found_alike : (e : Found) → box_at e.content.name rest ≡ Some e → to e.content.name ≡ swap e.content.name
        found_alike e i = let x : IsWithin e = rests.stands_within t.config s site there choice.name al choice.op choice.alternatives held first few e i in alike e.content.name (box_at-some e.content.name t.config.roots x.whole_box x.is_found)

        on : (box_at m (renamed to rest) ≡ None) ⊎ ((k : Found) × (box_at m (renamed to rest) ≡ Some k)) → AreBoth (IsCopy T.nodes (environment site) (renamed to rest)) (box_at m (renamed to rest)) (copy_among copies m)
        on (inl z) = are_neither (IsCopy T.nodes (environment site) (renamed to rest)) (box_at m (renamed to rest)) (copy_among copies m) z (none_where (copy_among copies m) (λ v i.
            let w : (k : Name) × IsCopied T n al k × (m ≡ swap k) = made.only m v i in
            let e : (e : Found) × (box_at w.0 rest ≡ Some e) = copied_there w.0 w.1 in
            let q : w.0 ≡ e.0.content.name = box-itself w.0 rest e.0 e.1 in
            let p : m ≡ to e.0.content.name = w.2 ∙ ap swap q ∙ sym (found_alike e.0 (itself_there w.0 e.0 e.1)) in
            not_some (sym z ∙ ap (λ (k : Name). box_at k (renamed to rest)) p ∙ found_renamed to rest few still e.0.content.name e.0 (itself_there w.0 e.0 e.1))))
        on (inr (k, i)) =
            let w : (e : Found) × (box_at e.content.name rest ≡ Some e) × (k ≡ renamed_found to e) × (m ≡ to e.content.name) = found_was to rest few still m k i in
            let x : IsWithin w.0 = rests.stands_within t.config s site there choice.name al choice.op choice.alternatives held first few w.0 w.1 in
            let v : (row : BoxRow) × (v : BoxCopy) × (T.box_of w.0.content.name ≡ Some row) × (copy_among copies (swap w.0.content.name) ≡ Some v) × IsMadeOf T n al swap w.0.content.name row v = made.each w.0.content.name (is_copied w.0 x w.1) in
            are_both (IsCopy T.nodes (environment site) (renamed to rest)) (box_at m (renamed to rest)) (copy_among copies m) k v.1 i (ap (copy_among copies) (w.3 ∙ found_alike w.0 w.1) ∙ v.3)
            (subst (λ (z : Found). IsCopy T.nodes (environment site) (renamed to rest) z v.1) (sym w.2) (is_copy w.0 x v.0 v.1 w.1 v.2 v.4))

    pub made_copies : SplitsBox r.program.templates.nodes worker (slice_index t.config.next worker) site al (swap n) copies
    made_copies = subst (λ (nodes : List Node). SplitsBox nodes worker (slice_index t.config.next worker) site al (swap n) copies) t.nodes (record {
      choice = choice;
      is_choice = is_choice;
      named = ap (λ (m : Name). m ∷ []) (alike site.content.name (box_at-some site.content.name t.config.roots site there) ∙ ap swap (sym site_name));
      copied = record { each = each; once = made.once };
    })

pub copies_law : CopiesLaw
copies_law rules r T l d t a n al names copies rule place alternative named made =
    let w : (v : ChoiceIn) × (choice_with al a.site.goals ≡ Some v) × IsSplitPoint a.site al v = split_choice r.program (slice_index t.config.next l.worker) l a.site a.change a.makes n al rule place alternative in
    let x : IsStable r.program a.site = (splitting.allowed r.program (slice_index t.config.next l.worker) l a.site a.change a.makes n al w.0 rule place alternative w.1).0 in
    let there : box_at n t.config.roots ≡ Some a.site = subst (λ (z : Place). site_of z t.config.roots ≡ Some a.site) place a.is_site in
    let q : names ≡ sorted_names (rest_of al a.site w.0) = names_are rules r T t l.worker n al a.site w.0 there x w.1 w.2 names named in (
      rule,
      (
        n,
        al,
        place,
        alternative,
        subst (λ (ns : List Name). SplitsBox r.program.templates.nodes l.worker (slice_index t.config.next l.worker) a.site al (swapping ns l.worker (slice_index t.config.next l.worker) n) copies) (sym q)
            (made_copies rules r T t l.worker n al a.site w.0 there x w.1 w.2 copies (subst (λ (ns : List Name). AreMade T n al (swapping ns l.worker (slice_index t.config.next l.worker)) copies) q made)),
      ),
    )

-- and it draws as many names
pub names_drawn : (rules : List Rule) (r : Run) (T : Table) (l : Label) (d : Config) (t : IsTableOf rules r T) (a : Applies rules r.program t.config l d) (n al : Name) (names : List Name)
    → l.rule ≡ Rule.Split → l.place ≡ Place.Box n → l.alternative ≡ Some al → AreNamesCopied T n al names → length names ≡ a.change.drawn
names_drawn rules r T l d t a n al names rule place alternative named =
    let w : (v : ChoiceIn) × (choice_with al a.site.goals ≡ Some v) × IsSplitPoint a.site al v = split_choice r.program (slice_index t.config.next l.worker) l a.site a.change a.makes n al rule place alternative in
    let x : IsStable r.program a.site = (splitting.allowed r.program (slice_index t.config.next l.worker) l a.site a.change a.makes n al w.0 rule place alternative w.1).0 in
    let there : box_at n t.config.roots ≡ Some a.site = subst (λ (z : Place). site_of z t.config.roots ≡ Some a.site) place a.is_site in
    ap length (names_are rules r T t l.worker n al a.site w.0 there x w.1 w.2 names named)
    ∙ ap (λ (v : Change). v.drawn) (some_value (splitting.change r.program (slice_index t.config.next l.worker) l a.site a.change a.makes n al w.0 rule place alternative w.1))
