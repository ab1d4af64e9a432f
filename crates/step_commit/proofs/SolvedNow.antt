-- The stores that a plan makes are solved in the core's table, where they say so.
use Rattle.std.proofs.Common.{◌≡◌, ℕ, ◌+◌, ◌≤◌, Bool, true, false, List, [], ◌∷◌, ◌++◌, length, map, Option, Some, None, refl, sym, ap, subst, ◌∙◌, arith}
use Rattle.std.specs.Prelude.{is_some, is_none, if◌then◌else◌, nat_le, nat_eq, option_and_then, slice_index}
use Rattle.std.specs.List.{AllByRecursion}
use Rattle.std.proofs.lemmas.List.{length-append, append-nil}
use Rattle.std.proofs.lemmas.Bool.Decides.{nat_tests}
use Rattle.akl_terms.specs.declared.name.Name.{Name}
use Rattle.akl_terms.specs.declared.name.Var.{Var}
use Rattle.akl_terms.specs.declared.name.Place.{Place}
use Rattle.akl_terms.specs.declared.program.Program.{Program}
use Rattle.akl_terms.specs.declared.program.Query.{Query}
use Rattle.akl_terms.specs.declared.term.Node.{Node}
use Rattle.akl_terms.specs.declared.term.Term.{Term}
use Rattle.akl_model.specs.declared.item.Item.{Item}
use Rattle.akl_model.specs.declared.label.Label.{Label}
use Rattle.akl_model.specs.Config.{Atom, Content, Found, Held, held_in, home_of, site_of, box_at}
use Rattle.akl_model.specs.Wakes.{names_around, names_down_to}
use Rattle.akl_model.proofs.NamesKept.{Stand, box-itself, replay-stands, site-box}
use Rattle.akl_model.proofs.Options.{some_value}
use Rattle.akl_model.proofs.Scoped.{IsIn-left}
use Rattle.akl_model.specs.Changes.{by_store}
use Rattle.rational_unify.specs.Known.{found_in}
use Rattle.rational_unify.specs.Older.{LeadOlder}
use Rattle.rational_unify.specs.Solving.{BindNew}
use Rattle.local_store.specs.declared.part.Part.{Part}
use Rattle.local_store.specs.Stored.{Stored}
use Rattle.local_store.specs.Parts.{with_part}
use Rattle.local_store.specs.Chained.{bindings_from}
use Rattle.local_store.proofs.Layers.{from-last}
use Rattle.step_laws.proofs.Holders.{unheld_around}
use Rattle.step_laws.proofs.Whereabouts as places
use Rattle.table_laws.specs.Rows.{BoxRow, GoalRow, Table, store_in, stores_along}
use Rattle.table_laws.specs.Kept.{SharesStores}
use Rattle.table_laws.specs.Stamped.{IsTableOf}
use Rattle.table_laws.specs.Steps.{tells, joins, IsSolvedIf, IsSolvedIn, IsSolvedWhen}
use Rattle.table_laws.specs.Unfolds.{UnchangedSince, IsBoxRow}
use Rattle.table_laws.specs.Writes.{home_in, holder_in_row}
use Rattle.table_laws.proofs.Frame.{row_of}
use Rattle.table_laws.proofs.Insides.{goal_row}
use Rattle.table_laws.specs.Added.{Added, added_of, with_added}
use Rattle.table_laws.specs.PartSteps.{joins_part, MakesPart}
use Rattle.table_laws.specs.Planned.{store_of}
use Rattle.table_laws.proofs.NewBindings.{new_elsewhere}
use Rattle.table_laws.proofs.SolvedLater.{solved_still, solved_fresh, new_parts}
use Rattle.box_tree.specs.declared.step.Step.{Step}
use Rattle.box_tree.specs.Plans.{part_step}
use Rattle.box_tree.specs.Solved.{binds_none, takes_new, solved_row}
use Rattle.box_tree.specs.Tables.{all_rules, step_of, store_at}
use Rattle.box_tree.proofs.OverStores.{site_store}
use Rattle.box_tree.proofs.Seen.{path_there}
use Rattle.step_commit.specs.Solving.{solved_over, solved_copies, solved_at}
use Rattle.step_commit.proofs.Committed.{at_most}
use Rattle.step_commit.proofs.LabelNow.{IsPlannedLabel, LeadsNow}
use Rattle.table_laws.proofs.LastChanges.{last_within}
use Rattle.step_commit.proofs.StillSolved.{AreOld, still_solved, all_over, down_old}

-- what the tests of a row say
takes : (holder : Option Name) (solved : Option ℕ) (b : Bool) → (if is_none holder then (if is_some solved then b else false) else false) ≡ true → (holder ≡ None) × ((at : ℕ) × (solved ≡ Some at)) × (b ≡ true)
takes None (Some at) b e = (refl, (at, refl), e)
takes None None b e = absurd (let z : false ≡ true = e in cc)
takes (Some n) solved b e = absurd (let z : false ≡ true = e in cc)

unbound : (s : Stored) (bindings : List (Var × Term)) → binds_none s bindings ≡ true → AllByRecursion (λ (b : Var × Term). found_in s.bindings b.0 ≡ None) bindings
unbound s [] e = tt
unbound s (b ∷ bs) e = on (found_in s.bindings b.0) refl e (unbound s bs)
  where
    on : (o : Option Term) → found_in s.bindings b.0 ≡ o → (if is_none o then binds_none s bs else false) ≡ true → (binds_none s bs ≡ true → AllByRecursion (λ (x : Var × Term). found_in s.bindings x.0 ≡ None) bs)
        → (found_in s.bindings b.0 ≡ None) × AllByRecursion (λ (x : Var × Term). found_in s.bindings x.0 ≡ None) bs
    on None i h r = (i, r h)
    on (Some t) i h r = absurd (let z : false ≡ true = h in cc)

is_none_of : {A : Type 0} (o : Option A) → is_none o ≡ true → o ≡ None
is_none_of None e = refl
is_none_of (Some a) e = absurd (let z : false ≡ true = e in cc)

-- a box of a plan, found again under the same boxes in a later table that shares the stores which no label changed since
module _ (p : Program) (q : Query) (journal further : List Label) (S T : Table) (x : IsTableOf all_rules (record { program = p; query = q; journal = journal }) S)
    (t : IsTableOf all_rules (record { program = p; query = q; journal = journal ++ further }) T) (shares : SharesStores S T (length journal))
    (f k : Found) (is : box_at k.content.name t.config.roots ≡ Some k) (name : k.content.name ≡ f.content.name) (same : names_around k ≡ names_around f) where
  abbrev seen : ℕ
  seen = length journal

  abbrev labels : ℕ
  labels = length (journal ++ further)

  abbrev IsSolvedFor : Option ℕ → Added → Bool → Type 0
  IsSolvedFor at a solved = IsSolvedWhen at T k (tells (with_added (store_of T k.content.name) a) solved) × ((goals : List (Name × Atom)) → IsSolvedWhen at T k (joins (with_added (store_of T k.content.name) a) solved goals))

  abbrev WasSolved : Added → Bool → Type 0
  WasSolved a solved = IsSolvedIf solved S (names_around f) (with_added (store_of S f.content.name) a)

  nodes : S.nodes ≡ T.nodes
  nodes = x.nodes ∙ sym t.nodes

  stand : Stand t.config
  stand = replay-stands all_rules p q (journal ++ further) t.config t.replays

  before_now : seen ≤ T.steps
  before_now =
      let e : T.steps ≡ length (journal ++ further) = t.stamped.steps in
      let h : length (journal ++ further) ≡ length journal + length further = length-append journal further in
      omega (arith, e, h)

  own_row : (row : BoxRow) × (T.box_of k.content.name ≡ Some row) × IsBoxRow T t.config.roots k row
  own_row = row_of T t.config t.unfolds k.content.name k is

  -- what no later label changed
  still : (a : Added) (solved : Bool) → WasSolved a solved → ((row : BoxRow) → T.box_of k.content.name ≡ Some row → row.changed ≤ seen) → IsSolvedFor (Some seen) a solved
  still a solved was own = solved_still all_rules (record { program = p; query = q; journal = journal ++ further }) T t k is S seen nodes shares before_now f name same a solved was own

  -- a root box has none around it
  none_around : (row : BoxRow) → T.box_of k.content.name ≡ Some row → row.holder ≡ None → names_around k ≡ []
  none_around row there e = ap (map (λ (b : Content). b.name)) (unheld_around t.config.roots stand.once k.content.name k is
      (sym own_row.2.holder ∙ ap (λ (r : BoxRow). r.holder) (some_value (sym own_row.1 ∙ there)) ∙ e))

  -- and takes new bindings
  module _ (row : BoxRow) (there : T.box_of k.content.name ≡ Some row) (a : Added) (new : takes_new row a.bindings ≡ true) where
    so : (row.holder ≡ None) × ((at : ℕ) × (row.solved_at ≡ Some at)) × (binds_none row.store a.bindings ≡ true)
    so = takes row.holder row.solved_at (binds_none row.store a.bindings) new

    outer : names_around k ≡ []
    outer = none_around row there so.0

    own_bindings : bindings_from (stores_along T (names_down_to k)) ≡ row.store.bindings
    own_bindings = ap (λ (ms : List Name). bindings_from (stores_along T (ms ++ k.content.name ∷ []))) outer ∙ from-last [] (store_of T k.content.name) ∙ append-nil (store_of T k.content.name).bindings
        ∙ ap (λ (o : Option BoxRow). (store_in o).bindings) there

    fresh : (solved : Bool) → WasSolved a solved → IsSolvedFor (Some T.steps) a solved
    fresh false was = ((omega arith, λ u. tt), λ goals. (omega arith, λ u. tt))
    fresh true was =
        let parts : BindNew (bindings_from (stores_along S (names_down_to f))) a.bindings × LeadOlder S.nodes a.bindings = new_parts S f a was in
        solved_fresh all_rules (record { program = p; query = q; journal = journal ++ further }) T t k is row so.1.0 there so.1.1 (subst (UnchangedSince T so.1.0) (sym outer) tt) a
        (subst (λ (bs : List (Var × Term)). BindNew bs a.bindings) (sym own_bindings)
        (new_elsewhere (bindings_from (stores_along S (names_down_to f))) row.store.bindings a.bindings parts.0 (unbound row.store a.bindings so.2)))
        (subst (λ (ns : List Node). LeadOlder ns a.bindings) nodes parts.1) true

  -- with what is added to its store
  pub added_solved : (a : Added) (solved : Bool) → WasSolved a solved → IsSolvedFor (solved_row (T.box_of k.content.name) a.bindings seen T.steps) a solved
  added_solved a solved was = of_row (T.box_of k.content.name) refl
    where
      of_row : (o : Option BoxRow) → T.box_of k.content.name ≡ o → IsSolvedFor (solved_row o a.bindings seen T.steps) a solved
      of_row None e = (tt, λ goals. tt)
      of_row (Some row) e = of_test (nat_le row.changed seen) refl
        where
          of_new : (b : Bool) → takes_new row a.bindings ≡ b → IsSolvedFor (if b then Some T.steps else None) a solved
          of_new true h = fresh row e a h solved was
          of_new false h = (tt, λ goals. tt)

          of_test : (b : Bool) → nat_le row.changed seen ≡ b → IsSolvedFor (if b then Some seen else (if takes_new row a.bindings then Some T.steps else None)) a solved
          of_test true h = still a solved was (λ r i. at_most r.changed seen (subst (λ (y : BoxRow). nat_le y.changed seen ≡ true) (some_value (sym e ∙ i)) h))
          of_test false h = of_new (takes_new row a.bindings) refl

  -- no store was changed behind all labels
  all_seen : labels ≡ seen → (m : Name) (row : BoxRow) → T.box_of m ≡ Some row → row.changed ≤ seen
  all_seen all m row e = let h : row.changed ≤ labels = last_within by_store all_rules p q (journal ++ further) (Item.Store m) row.changed (t.stamped.store m row e) in omega (arith, h, all)

  all_old : labels ≡ seen → AreOld T seen (names_around k)
  all_old all m i =
      let row : (r : BoxRow) × (T.box_of m ≡ Some r) = path_there T t.config t.unfolds stand.once k.content.name k is m (IsIn-left m (names_around k) (k.content.name ∷ []) i) in
      (row.0, row.1, all_seen all m row.0 row.1)

  -- at a goal of the box
  module _ (place : Place) (g : Name) (at_goal : place ≡ Place.Goal g) (site : site_of place t.config.roots ≡ Some k) where
    home : home_of g t.config.roots ≡ Some k
    home = subst (λ (y : Place). site_of y t.config.roots ≡ Some k) at_goal site

    home_row : option_and_then T.box_of (home_in (T.goal_of g)) ≡ T.box_of k.content.name
    home_row =
        let held : (h : Held) × (held_in g k.goals ≡ Some h) = (places.home_in g t.config.roots k home).1 in
        let row : _ = goal_row T t.config t.unfolds stand.once g k held.0 home held.1 in
        ap (λ (o : Option GoalRow). option_and_then T.box_of (home_in o)) row.1 ∙ ap T.box_of row.2

    same_number : (bindings : List (Var × Term)) → solved_over T place bindings seen ≡ solved_row (T.box_of k.content.name) bindings seen T.steps
    same_number bindings = ap (λ (y : Place). solved_over T y bindings seen) at_goal ∙ ap (λ (o : Option BoxRow). solved_row o bindings seen T.steps) home_row

    placed_solved : (a : Added) (solved : Bool) → WasSolved a solved → IsSolvedFor (solved_over T place a.bindings seen) a solved
    placed_solved a solved was = subst (λ (at : Option ℕ). IsSolvedFor at a solved) (sym (same_number a.bindings)) (added_solved a solved was)

    numbered_solved : (a : Added) (solved : Bool) → WasSolved a solved → (b : Bool) → nat_eq labels seen ≡ b → IsSolvedFor (if b then Some labels else solved_over T place a.bindings seen) a solved
    numbered_solved a solved was true h = let all : labels ≡ seen = grind (arith, nat_tests) in subst (λ (n : ℕ). IsSolvedFor (Some n) a solved) (sym all) (still a solved was (all_seen all k.content.name))
    numbered_solved a solved was false h = placed_solved a solved was

    -- what joins the box by a plan
    pub joined_solved : (ns : List Node) (step : Step) (a : Added) (solved : Bool) (goals : List (Name × Atom)) → part_step ns step ≡ joins_part a solved goals → WasSolved a solved
        → IsSolvedWhen (solved_at T labels seen place step) T k (joins (with_added (store_of T k.content.name) a) solved goals)
    joined_solved ns (Step.Join part b xs told behind) a solved goals e was =
        let same_part : added_of part ≡ a = cc in
        subst (λ (y : Added). IsSolvedWhen (if nat_eq labels seen then Some labels else solved_over T place y.bindings seen) T k (joins (with_added (store_of T k.content.name) a) solved goals)) (sym same_part)
        ((numbered_solved a solved was (nat_eq labels seen) refl).1 goals)
    joined_solved ns (Step.Tell part b) a solved goals e was = absurd cc
    joined_solved ns (Step.Fork op alternatives) a solved goals e was = absurd cc
    joined_solved ns Step.Fail a solved goals e was = absurd cc
    joined_solved ns Step.Cut a solved goals e was = absurd cc
    joined_solved ns Step.Refute a solved goals e was = absurd cc
    joined_solved ns Step.Confirm a solved goals e was = absurd cc
    joined_solved ns (Step.Split copy copies) a solved goals e was = absurd cc

-- a plan of one label
module _ (p : Program) (q : Query) (journal further : List Label) (S T : Table) (l : Label) (reads : List Item) (names : ℕ) (step : Step) (binds : List Var) (x : IsPlannedLabel p q journal S l reads names step binds)
    (t : IsTableOf all_rules (record { program = p; query = q; journal = journal ++ further }) T) (w : LeadsNow p q journal further S T l reads names step binds x t) (shares : SharesStores S T (length journal)) where
  abbrev f : Found
  f = x.applies.site

  abbrev k : Found
  k = w.leads.applies.site

  stands : Stand t.config
  stands = replay-stands all_rules p q (journal ++ further) t.config t.replays

  stood : Stand x.table.config
  stood = replay-stands all_rules p q journal x.table.config x.table.replays

  is : box_at k.content.name t.config.roots ≡ Some k
  is = site-box l.place t.config.roots k stands.once w.leads.applies.is_site

  same_down : names_down_to f ≡ names_down_to k
  same_down = sym (λ i. w.leads.same_around i ++ w.leads.same_site i ∷ [])

  before_now_of : length journal ≤ T.steps
  before_now_of = before_now p q journal further S T x.table t shares f k is w.leads.same_site w.leads.same_around

  abbrev IsStepSolved : Option ℕ → Step → Type 0
  IsStepSolved at s = IsSolvedWhen at T k (step_of p.templates.nodes (store_at T l.place) s)

  was_added : (part : Part) (solved : Bool) → IsSolvedIf solved S (names_around f) (with_part (store_at S l.place) part) → IsSolvedIf solved S (names_around f) (with_added (store_of S f.content.name) (added_of part))
  was_added part solved h = subst (λ (s : Stored). IsSolvedIf solved S (names_around f) (with_part s part)) (site_store S x.table.config x.table.unfolds stood.once l.place f x.applies.is_site) h

  now_store : store_of T k.content.name ≡ store_at T l.place
  now_store = sym (site_store T t.config t.unfolds stands.once l.place k w.leads.applies.is_site)

  abbrev labels_now : ℕ
  labels_now = length (journal ++ further)

  abbrev seen_then : ℕ
  seen_then = length journal

  equal : (b : Bool) → nat_eq labels_now seen_then ≡ b → b ≡ true → labels_now ≡ seen_then
  equal b h e = let z : nat_eq labels_now seen_then ≡ true = h ∙ e in grind (arith, nat_tests)

  -- new boxes, and steps that make no store
  of_number : (s : Step) → IsStepSolved (Some seen_then) s → (b : Bool) → nat_eq labels_now seen_then ≡ b → IsStepSolved (if b then Some labels_now else Some seen_then) s
  of_number s y true h = subst (λ (n : ℕ). IsStepSolved (Some n) s) (sym (equal true h refl)) y
  of_number s y false h = y

  -- copies over the stores around them, where no label changed these
  copies_over : (copy : _) (copies : _) → AreOld T seen_then (names_around k) → IsSolvedIn S f (step_of p.templates.nodes (store_at S l.place) (Step.Split copy copies)) → IsStepSolved (Some labels_now) (Step.Split copy copies)
  copies_over copy copies old h = (
    sym t.stamped.steps,
    λ c stores i inside solved. still_solved S T seen_then (x.table.nodes ∙ sym t.nodes) shares (names_around f) (names_around k) (stores ++ c.store ∷ []) (sym w.leads.same_around) old (h c stores i inside solved),
  )

  of_copies : (copy : _) (copies : _) (n : Name) → l.place ≡ Place.Box n → IsSolvedIn S f (step_of p.templates.nodes (store_at S l.place) (Step.Split copy copies)) → (b : Bool) → nat_eq labels_now seen_then ≡ b
      → IsStepSolved (if b then Some labels_now else solved_copies T labels_now l.place) (Step.Split copy copies)
  of_copies copy copies n e h true z = copies_over copy copies (all_old p q journal further S T x.table t shares f k is w.leads.same_site w.leads.same_around (equal true z refl)) h
  of_copies copy copies n e h false z = subst (λ (y : Place). IsStepSolved (solved_copies T labels_now y) (Step.Split copy copies)) (sym e) (on (is_none (holder_in_row (T.box_of n))) refl)
    where
      own : (row : BoxRow) × (T.box_of k.content.name ≡ Some row) × IsBoxRow T t.config.roots k row
      own = row_of T t.config t.unfolds k.content.name k is

      named : n ≡ k.content.name
      named = box-itself n t.config.roots k (subst (λ (y : Place). site_of y t.config.roots ≡ Some k) e w.leads.applies.is_site)

      none : is_none (holder_in_row (T.box_of n)) ≡ true → AreOld T seen_then (names_around k)
      none i =
          let holder : own.0.holder ≡ None = sym (ap holder_in_row (ap T.box_of named ∙ own.1)) ∙ is_none_of (holder_in_row (T.box_of n)) i in
          subst (AreOld T seen_then) (sym (none_around p q journal further S T x.table t shares f k is w.leads.same_site w.leads.same_around own.0 own.1 holder)) (λ m j. absurd j)

      on : (b : Bool) → is_none (holder_in_row (T.box_of n)) ≡ b → IsStepSolved (if b then Some labels_now else None) (Step.Split copy copies)
      on true i = copies_over copy copies (none i) h
      on false i = tt

  abbrev TellsFor : Part → Bool → Option ℕ → Type 0
  TellsFor part solved at = IsSolvedWhen at T k (tells (with_added (store_of T k.content.name) (added_of part)) solved)
      × ((goals : List (Name × Atom)) → IsSolvedWhen at T k (joins (with_added (store_of T k.content.name) (added_of part)) solved goals))

  added_now : (part : Part) (solved : Bool) (g : Name) → l.place ≡ Place.Goal g → IsSolvedIf solved S (names_around f) (with_part (store_at S l.place) part)
      → TellsFor part solved (if nat_eq labels_now seen_then then Some labels_now else solved_over T l.place part.bindings.items seen_then)
  added_now part solved g e h = numbered_solved p q journal further S T x.table t shares f k is w.leads.same_site w.leads.same_around l.place g e w.leads.applies.is_site (added_of part) solved (was_added part solved h)
      (nat_eq labels_now seen_then) refl

  solved_step : (s : Step) → MakesPart p l (slice_index x.table.config.next l.worker) f (part_step p.templates.nodes s) → IsSolvedIn S f (step_of p.templates.nodes (store_at S l.place) s)
      → IsStepSolved (solved_at T labels_now seen_then l.place s) s
  solved_step (Step.Tell part solved) m h = subst (λ (y : Stored). IsSolvedWhen (solved_at T labels_now seen_then l.place (Step.Tell part solved)) T k (tells (with_part y part) solved)) now_store
      (added_now part solved m.0 m.1 h).0
  solved_step (Step.Join part solved goals told behind) m h =
      subst (λ (y : Stored). IsSolvedWhen (solved_at T labels_now seen_then l.place (Step.Join part solved goals told behind)) T k (step_of p.templates.nodes y (Step.Join part solved goals told behind))) now_store
      ((added_now part solved m.0 m.1 h).1 _)
  solved_step (Step.Fork op alternatives) m h = of_number (Step.Fork op alternatives) (
    before_now_of,
    λ u. all_over S T seen_then (x.table.nodes ∙ sym t.nodes) shares _ (names_down_to f) (names_down_to k) same_down (down_old T t.config t.unfolds stands.once seen_then k is u) h,
  ) (nat_eq labels_now seen_then) refl
  solved_step Step.Fail m h = of_number Step.Fail (before_now_of, λ u. tt) (nat_eq labels_now seen_then) refl
  solved_step Step.Cut m h = of_number Step.Cut (before_now_of, λ u. tt) (nat_eq labels_now seen_then) refl
  solved_step Step.Refute m h = of_number Step.Refute (before_now_of, λ u. tt) (nat_eq labels_now seen_then) refl
  solved_step Step.Confirm m h = of_number Step.Confirm (before_now_of, λ u. tt) (nat_eq labels_now seen_then) refl
  solved_step (Step.Split copy copies) m h = of_copies copy copies m.1.0 m.1.2 h (nat_eq labels_now seen_then) refl

  -- where the tables share the stores that no label changed since
  pub solved_now : IsStepSolved (solved_at T labels_now seen_then l.place step) step
  solved_now = solved_step step x.makes x.solved
