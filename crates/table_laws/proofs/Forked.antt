-- A fork leads from table to table.
use Rattle.std.proofs.Common.{◌≡◌, ℕ, zero, suc, ◌+◌, ◌≤◌, List, [], ◌∷◌, ◌++◌, map, Bool, true, false, Option, Some, None, refl, sym, ◌∙◌, ap, subst, ◌⊎◌, inl, inr, arith}
use Rattle.std.specs.Prelude.{if◌then◌else◌, option_map, option_and_then, slice_index, ⊤}
use Rattle.akl_terms.specs.declared.name.Name.{Name}
use Rattle.akl_terms.specs.declared.name.Place.{Place}
use Rattle.akl_terms.specs.declared.term.Node.{Node}
use Rattle.akl_model.specs.Config.{Operator}
use Rattle.akl_terms.specs.Equal.{Equations}
use Rattle.akl_terms.specs.Names.{same_name}
use Rattle.akl_terms.proofs.SameNames.{same_name-equal, same_name-refl}
use Rattle.akl_model.specs.declared.label.Rule.{Rule}
use Rattle.akl_model.specs.declared.label.Label.{Label}
use Rattle.akl_model.specs.Config.{IsIn, Atom, Content, Boxes, no_boxes, box, Goals, Config, Held, an_atom, a_choice, held_in, with_content, Found, whole, or_else, box_at, home_of}
use Rattle.akl_model.specs.Instances.{instances, drawn_by}
use Rattle.akl_model.specs.Rules.{Change, becomes, change_by}
use Rattle.akl_model.specs.Conditions.{IsFailing}
use Rattle.akl_model.specs.Derivations.{Applies, raised}
use Rattle.akl_model.specs.Changes.{of_atom, of_choice, shape_of, shape_at, box_names, goal_names, constraint_of}
use Rattle.akl_model.specs.Wakes.{names_around, names_down_to}
use Rattle.akl_model.proofs.Options.{none_or, some_value, map_some}
use Rattle.akl_model.proofs.Finds.{times, times_inside, box_at-none}
use Rattle.akl_model.proofs.Drawn.{drawn_times, times-instances}
use Rattle.akl_model.proofs.Scoped.{IsIn-either}
use Rattle.akl_model.proofs.NamesKept.{Stand, replay-stands, stands_after, box-itself}
use Rattle.akl_model.proofs.ScopesAlong.{times_path}
use Rattle.local_store.specs.Stored.{Stored}
use Rattle.local_store.specs.Chained.{IsSolvedChain}
use Rattle.step_laws.specs.Whereabouts.{BoxIn}
use Rattle.step_laws.proofs.Whereabouts.{found_in, in_counted, home_of-none}
use Rattle.step_laws.proofs.GoalEdits.{HasGoal}
use Rattle.step_laws.proofs.Failing.{failing_found, failed_goal}
use Rattle.step_laws.proofs.Becomes.{Becomes}
use Rattle.step_laws.proofs.Steps.{site_now, found}
use Rattle.step_laws.proofs.Stays.{shape_held}
use Rattle.table_laws.specs.Rows.{BoxRow, GoalRow, Table, stores_along}
use Rattle.table_laws.specs.Unfolds.{UnchangedSince, FailsBy, IsBoxRow, Spot, spot_in, spot_of}
use Rattle.table_laws.specs.Stamped.{Run, followed_by, IsTableOf}
use Rattle.table_laws.specs.Steps.{NewBox, forks, IsNewBox, AreNewBoxes, ForksGoal, IsSolvedIf, IsSolvedWhen, Makes}
use Rattle.table_laws.specs.Writes.{IsTable, set, solved_when, home_in, changed_box, new_row, new_box_of, new_goal_of, forked_row, failing_by, fails_empty, after_fork, Leads}
use Rattle.table_laws.proofs.Stores.{IsAsTold, same_stores, unchanged_before}
use Rattle.table_laws.proofs.Frame.{row_of, neither, KeepsRows, KeepsBoxes, site_around}
use Rattle.table_laws.proofs.Onward.{GoalGoes, LeadsOn, site_same, fails_as}
use Rattle.table_laws.proofs.Marked.{led}
use Rattle.table_laws.proofs.Fresh.{drawn_nowhere}
use Rattle.table_laws.proofs.NewRows.{new_box_names, only_alternatives, shows_none, EachNew, IsOfNew, new_box_or, new_goal_or, IsSolvedNew, new_is_row}
use Rattle.table_laws.proofs.Forking as forking
use Rattle.table_laws.proofs.Along as along
use Rattle.table_laws.proofs.Gone.{empty_or, empty_fails}
use Rattle.table_laws.proofs.Sets.{turned}

-- next numbers that read the same are raised alike
pub raised_same : (w k v : ℕ) (xs ys : List ℕ) → ((i : ℕ) → slice_index xs i ≡ slice_index ys i) → slice_index (raised w k xs) v ≡ slice_index (raised w k ys) v
raised_same zero k zero [] [] h = refl
raised_same zero k zero [] (y ∷ ys) h = let e : 0 ≡ y = h 0 in omega arith
raised_same zero k zero (x ∷ xs) [] h = let e : x ≡ 0 = h 0 in omega arith
raised_same zero k zero (x ∷ xs) (y ∷ ys) h = let e : x ≡ y = h 0 in omega arith
raised_same zero k (suc v) [] [] h = refl
raised_same zero k (suc v) [] (y ∷ ys) h = h (suc v)
raised_same zero k (suc v) (x ∷ xs) [] h = h (suc v)
raised_same zero k (suc v) (x ∷ xs) (y ∷ ys) h = h (suc v)
raised_same (suc w) k zero [] [] h = refl
raised_same (suc w) k zero [] (y ∷ ys) h = h 0
raised_same (suc w) k zero (x ∷ xs) [] h = h 0
raised_same (suc w) k zero (x ∷ xs) (y ∷ ys) h = h 0
raised_same (suc w) k (suc v) [] [] h = refl
raised_same (suc w) k (suc v) [] (y ∷ ys) h = raised_same w k v [] ys (λ i. h (suc i))
raised_same (suc w) k (suc v) (x ∷ xs) [] h = raised_same w k v xs [] (λ i. h (suc i))
raised_same (suc w) k (suc v) (x ∷ xs) (y ∷ ys) h = raised_same w k v xs ys (λ i. h (suc i))

-- by what the box fails afterwards
abbrev failing_of : Name → Operator → List NewBox → BoxRow → Option Name
failing_of g op [] r = if fails_empty op then Some g else r.failing
failing_of g op (n ∷ ns) r = r.failing

failing_is : (g : Name) (op : Operator) (news : List NewBox) (r : BoxRow) → failing_by g op news r ≡ record r { failing = failing_of g op news r }
failing_is g op [] r = on (fails_empty op)
  where
    on : (t : Bool) → (if t then record r { failing = Some g } else r) ≡ record r { failing = if t then Some g else r.failing }
    on true = refl
    on false = refl
failing_is g op (n ∷ ns) r = refl

-- an atom that doesn't fail has become what doesn't fail
other_fails : (g : Name) (now : Held) (a : Atom) (gs hs : Goals) (r : BoxRow) → ((i : Name) → times_inside i hs ≤ 1) → held_in g gs ≡ Some (an_atom a) → (IsFailing (an_atom a) → ⊥) → held_in g hs ≡ Some now
    → ((i : Name) → same_name i g ≡ false → held_in i hs ≡ held_in i gs) → (IsFailing now → ⊥) → FailsBy gs r.failing → FailsBy hs r.failing
other_fails g now a gs hs r once was call held others unfailing fails = by r.failing fails
  where
    name_is : (i : Name) → (i ≡ g) ⊎ (same_name i g ≡ false)
    name_is i = on (same_name i g) refl
      where
        on : (t : Bool) → same_name i g ≡ t → (i ≡ g) ⊎ (same_name i g ≡ false)
        on true e = inl (same_name-equal i g e)
        on false e = inr e

    by : (o : Option Name) → FailsBy gs o → FailsBy hs o
    by None none = λ x.
        let w : (i : Name) × (h : Held) × (held_in i hs ≡ Some h) × IsFailing h = failed_goal hs once x in
        elim (name_is w.0) [
          | inl e ↦
              let h : w.1 ≡ now = some_value (sym w.2 ∙ ap (λ (i : Name). held_in i hs) e ∙ held) in
              absurd (unfailing (subst IsFailing h w.3))
          | inr e ↦ none (failing_found w.0 gs w.1 (sym (others w.0 e) ∙ w.2) w.3)
        ]
    by (Some i) (h, e, x) = elim (name_is i) [
      | inl q ↦
          let z : h ≡ an_atom a = some_value (sym e ∙ ap (λ (j : Name). held_in j gs) q ∙ was) in
          absurd (call (subst IsFailing z x))
      | inr q ↦ (h, others i q ∙ e, x)
    ]

-- a call has become a choice of the new boxes
choice_fails : (nodes : List Node) (E : Equations) (g : Name) (op : Operator) (news : List NewBox) (bs : Boxes) (a : Atom) (gs hs : Goals) (r : BoxRow) → AreNewBoxes nodes E news bs
    → ((i : Name) → times_inside i hs ≤ 1) → held_in g gs ≡ Some (an_atom a) → (IsFailing (an_atom a) → ⊥) → held_in g hs ≡ Some (a_choice op bs) → ((i : Name) → same_name i g ≡ false → held_in i hs ≡ held_in i gs)
    → FailsBy gs r.failing → FailsBy hs (failing_of g op news r)
choice_fails nodes E g op [] no_boxes a gs hs r new once was call held others fails = on (fails_empty op) refl
  where
    on : (t : Bool) → fails_empty op ≡ t → FailsBy hs (if t then Some g else r.failing)
    on true e = (a_choice op no_boxes, held, empty_fails op e)
    on false e = other_fails g (a_choice op no_boxes) a gs hs r once was call held others (λ x. let z : fails_empty op ≡ true = empty_or op x in let y : true ≡ false = sym z ∙ e in cc) fails
choice_fails nodes E g op [] (box b is bs) a gs hs r new once was call held others fails = absurd new
choice_fails nodes E g op (n ∷ ns) no_boxes a gs hs r new once was call held others fails = absurd new
choice_fails nodes E g op (n ∷ ns) (box b is bs) a gs hs r new once was call held others fails = other_fails g (a_choice op (box b is bs)) a gs hs r once was call held others (λ x. x) fails

module _ (rules : List Rule) (r : Run) (T U : Table) (l : Label) (d : Config) (t : IsTableOf rules r T) (a : Applies rules r.program t.config l d) (g : Name) (op : Operator) (news : List NewBox) (at : Option ℕ)
    (rule : l.rule ≡ Rule.Fork) (place : l.place ≡ Place.Goal g) (fork : ForksGoal r.program l.worker (slice_index t.config.next l.worker) a.site g op news)
    (solved : IsSolvedWhen at T a.site (forks op news)) (is : IsTable U (after_fork g op news at l.worker a.change.drawn T)) where
  abbrev c : Config
  c = t.config

  abbrev nodes : List Node
  nodes = r.program.templates.nodes

  abbrev next : ℕ
  next = slice_index t.config.next l.worker

  abbrev bs : Boxes
  bs = instances r.program.templates.nodes l.worker (slice_index t.config.next l.worker) fork.arguments fork.definition.clauses

  abbrev was : Atom
  was = Atom.call fork.number fork.arguments fork.result

  abbrev number : ℕ
  number = T.steps + 1

  s : Stand t.config
  s = replay-stands rules r.program r.query r.journal t.config t.replays

  sd : Stand d
  sd = stands_after rules r.program t.config l d s a

  change_is : a.change ≡ becomes a.site.content (with_content g (a_choice op bs) a.site.goals) (drawn_by fork.definition.clauses)
  change_is = (forking.forked_change r.program a.makes.reading l.worker (slice_index t.config.next l.worker) g l.alternative a.site a.change fork.number fork.arguments fork.result fork.definition op
      (subst (λ (u : Rule). change_by r.program a.makes.reading l.worker (slice_index t.config.next l.worker) u (Place.Goal g) l.alternative a.site ≡ Some a.change) rule
      (subst (λ (u : Place). change_by r.program a.makes.reading l.worker (slice_index t.config.next l.worker) l.rule u l.alternative a.site ≡ Some a.change) place a.makes.change)) fork.held fork.is_definition fork.operator)

  boxes_are : a.change.boxes ≡ box a.site.content (with_content g (a_choice op bs) a.site.goals) no_boxes
  boxes_are = ap (λ (k : Change). k.boxes) change_is

  nowhere : (n : Name) → 1 ≤ times n bs → times n t.config.roots ≡ 0
  nowhere n h = drawn_nowhere t.config l.worker (drawn_by fork.definition.clauses) n s (
      let e : times n bs ≡ drawn_times n l.worker (slice_index t.config.next l.worker) (drawn_by fork.definition.clauses) =
      times-instances r.program.templates.nodes n l.worker (slice_index t.config.next l.worker) fork.arguments fork.definition.clauses in
      omega arith)

  flat : (q : List Content) (k : Content) (hs : Goals) → BoxIn q k hs bs → q ≡ []
  flat q k hs x = only_alternatives r.program.templates.nodes (whole a.site) news bs q k hs fork.boxes x

  -- the box of the place afterwards

  abbrev b : Becomes l.worker (slice_index t.config.next l.worker) a.site a.change
  b = forking.forks_to rules r.program t.config l d s a g place op bs was fork.held boxes_are nowhere flat

  forked : forking.IsForked rules r.program t.config l d s a g place op bs was fork.held boxes_are nowhere flat b
  forked = forking.forked rules r.program t.config l d s a g place op bs was fork.held boxes_are nowhere flat b

  now_there : box_at a.site.content.name d.roots ≡ Some (site_now b)
  now_there = forking.now_there rules r.program t.config l d s a g place op bs was fork.held boxes_are nowhere flat

  home_now : home_of g d.roots ≡ Some (site_now b)
  home_now = forking.home_now rules r.program t.config l d s a g place op bs was fork.held boxes_are nowhere flat

  home_was : home_of g t.config.roots ≡ Some a.site
  home_was = forking.home_was rules r.program t.config l d s a g place op bs was fork.held boxes_are nowhere flat

  same_roots : box_names t.config.roots ≡ box_names d.roots
  same_roots = along.same_roots rules r.program t.config l d s a (forking.not_replaced rules r.program t.config l d s a g place op bs was fork.held boxes_are nowhere flat)

  new_there : (n : Name) (k : Content) (hs : Goals) → n ≡ k.name → BoxIn [] k hs bs → box_at n d.roots ≡ Some (record { around = a.site.around ++ b.content ∷ []; content = k; goals = hs })
  new_there = forking.new_there rules r.program t.config l d s a g place op bs was fork.held boxes_are nowhere flat

  -- what the table had of the goal
  its_row : (row : GoalRow) × (T.goal_of g ≡ Some row) × (spot_of row ≡ record { home = a.site.content.name; shape = of_atom was })
  its_row = map_some spot_of (T.goal_of g) (record { home = a.site.content.name; shape = of_atom was }) (t.unfolds.goals g ∙ spot)
    where
      spot : spot_in g t.config.roots ≡ Some (record { home = a.site.content.name; shape = of_atom was })
      spot = ap (option_and_then (λ (f : Found). option_map {U = Spot} (λ (h : Held). record { home = f.content.name; shape = shape_of h }) (held_in g f.goals))) home_was
          ∙ ap (option_map {U = Spot} (λ (h : Held). record { home = a.site.content.name; shape = shape_of h })) fork.held

  -- the rows of the next table

  box_rows : (n : Name) → U.box_of n ≡ or_else (new_box_of g at number news n) (set a.site.content.name (option_map (failing_by g op news) (T.box_of a.site.content.name)) T.box_of n)
  box_rows n = is.boxes n ∙ ap (λ (o : Option Name). or_else (new_box_of g at number news n) (changed_box o (failing_by g op news) T.box_of n))
      (ap home_in its_row.1 ∙ ap (λ (k : Spot). Some k.home) its_row.2)

  abbrev NoNewBox : Name → Type 0
  NoNewBox n = (new_box_of g at (T.steps + 1) news n ≡ None) × ((k : Content) (hs : Goals) → BoxIn [] k hs bs → n ≡ k.name → ⊥)

  other_row : (n : Name) → NoNewBox n → same_name n a.site.content.name ≡ false → U.box_of n ≡ T.box_of n
  other_row n none apart = box_rows n ∙ ap (λ (o : Option BoxRow). or_else o (set a.site.content.name (option_map (failing_by g op news) (T.box_of a.site.content.name)) T.box_of n)) none.0
      ∙ ap (λ (v : Bool). if v then option_map (failing_by g op news) (T.box_of a.site.content.name) else T.box_of n) apart

  new_or : (Q : NewBox → Type 0) → EachNew Q news → (n : Name)
      → NoNewBox n ⊎ ((new : NewBox) × (new_box_of g at number news n ≡ Some (new_row g at number new)) × IsOfNew r.program.templates.nodes (whole a.site) Q bs n new)
  new_or Q each n = new_box_or r.program.templates.nodes (whole a.site) Q g at number news bs n fork.boxes each

  any_new : (ns : List NewBox) → EachNew (λ (n : NewBox). ⊤) ns
  any_new [] = tt
  any_new (n ∷ ns) = (tt, any_new ns)

  -- what was there isn't new
  old_box : (n : Name) (e : Found) → box_at n t.config.roots ≡ Some e → NoNewBox n
  old_box n e i = elim (new_or (λ (n : NewBox). ⊤) (any_new news) n) [
    | inl none ↦ none
    | inr w ↦
        let z : times n t.config.roots ≡ 0 = forking.new_nowhere rules r.program t.config l d s a g place op bs was fork.held boxes_are nowhere flat n w.2.content w.2.goals w.2.named w.2.alternative in
        let k : box_at n t.config.roots ≡ None = box_at-none n t.config.roots z in
        absurd cc
  ]

  keeps : KeepsRows a T U
  keeps = record {
    nodes = is.nodes;
    steps = is.steps;
    rows = λ n e f row apart i j x.
        let w : (v : BoxRow) × (T.box_of n ≡ Some v) × IsBoxRow T t.config.roots e v = row_of T t.config t.unfolds n e i in
        let same : w.0 ≡ row = some_value (sym w.1 ∙ x) in (
          row.failing,
          other_row n (old_box n e i) (turned a.site.content.name n apart) ∙ x,
          fails_as rules r.program r.query r.journal t.config l d t.replays a T U t.unfolds n e f row.failing apart i j
              (λ h k cs replaced y z. forking.not_replaced rules r.program t.config l d s a g place op bs was fork.held boxes_are nowhere flat replaced)
              (subst (λ (v : BoxRow). FailsBy e.goals v.failing) same w.2.failing),
        );
  }

  -- the row of the box of the place

  site_was : (v : BoxRow) × (T.box_of a.site.content.name ≡ Some v) × IsBoxRow T t.config.roots a.site v
  site_was = row_of T t.config t.unfolds a.site.content.name a.site (found rules r.program t.config l d s a)

  abbrev site_is : BoxRow
  site_is = record site_was.0 { failing = failing_of g op news site_was.0 }

  site_has : U.box_of a.site.content.name ≡ Some site_is
  site_has = box_rows a.site.content.name ∙ ap (λ (o : Option BoxRow). or_else o (set a.site.content.name (option_map (failing_by g op news) (T.box_of a.site.content.name)) T.box_of a.site.content.name))
      (old_box a.site.content.name a.site (found rules r.program t.config l d s a)).0
      ∙ ap (λ (v : Bool). if v then option_map (failing_by g op news) (T.box_of a.site.content.name) else T.box_of a.site.content.name) (same_name-refl a.site.content.name)
      ∙ ap (option_map (failing_by g op news)) site_was.1 ∙ ap Some (failing_is g op news site_was.0)

  few : (i : Name) → times_inside i b.goals ≤ 1
  few i =
      let x : times i (box b.content b.goals no_boxes) + times_path i a.site.around ≤ times i d.roots = in_counted i a.site.around b.content b.goals d.roots (found_in a.site.content.name d.roots (site_now b) now_there) in
      let o : times i d.roots ≤ 1 = sd.once i in
      omega arith

  site_row : IsBoxRow U d.roots (site_now b) site_is × IsAsTold T U a.site.content.name
  site_row = site_same rules r.program r.query r.journal t.config l d t.replays a T U t.unfolds keeps b forked.content forked.names site_was.0 (failing_of g op news site_was.0) site_was.1 site_has
      (choice_fails r.program.templates.nodes (whole a.site) g op news bs was a.site.goals b.goals site_was.0 fork.boxes few fork.held (λ x. x) forked.choice_held forked.others site_was.2.failing)

  boxes : KeepsBoxes a T U
  boxes = record {
    keeps = keeps;
    site = λ f j. (site_is, site_has, subst (λ (k : Found). IsBoxRow U d.roots k site_is) (some_value (sym now_there ∙ j)) site_row.0, inl site_row.1);
  }

  -- rows of new boxes

  path_same : names_down_to (site_now b) ≡ names_down_to a.site
  path_same = ap (λ (k : Content). names_around a.site ++ k.name ∷ []) forked.content

  as_told : (m : Name) → IsIn m (names_down_to a.site) → IsAsTold T U m
  as_told m i = elim (IsIn-either m (names_around a.site) (a.site.content.name ∷ []) i) [
    | inl x ↦ site_around rules r.program r.query r.journal t.config l d t.replays a T U t.unfolds keeps b m x
    | inr x ↦ elim x [ inl e ↦ subst (IsAsTold T U) (sym e) site_row.1 | inr y ↦ absurd y ]
  ]

  stores_same : stores_along U (names_down_to (site_now b)) ≡ stores_along T (names_down_to a.site)
  stores_same = ap (stores_along U) path_same ∙ same_stores T U (names_down_to a.site) (λ m i. (as_told m i).store)

  abbrev SolvedNew : NewBox → Type 0
  SolvedNew new = IsSolvedNew U d.roots sd.once g (site_now b) op bs home_now forked.choice_held site_row.0.stands at (T.steps + 1) new

  each_solved : (o : Option ℕ) → o ≡ at → (ns : List NewBox) → IsSolvedWhen o T a.site (forks op ns) → EachNew SolvedNew ns
  each_solved o e [] x = tt
  each_solved None e (n ∷ ns) x = (record { each = λ k q. absurd (never n.solved k (ap (λ (v : Option ℕ). solved_when v n.solved) e ∙ q)) }, each_solved None e ns tt)
    where
      never : (v : Bool) (k : ℕ) → solved_when None v ≡ Some k → ⊥
      never true k q = cc
      never false k q = cc
  each_solved (Some j) e (n ∷ ns) x = (record { each = λ k q. by n.solved (λ u. (x.1 u).0) k (ap (λ (v : Option ℕ). solved_when v n.solved) e ∙ q) }, each_solved (Some j) e ns (x.0, λ u. (x.1 u).1))
    where
      by : (v : Bool) → (UnchangedSince T j (names_down_to a.site) → IsSolvedIf v T (names_down_to a.site) n.store) → (k : ℕ) → solved_when (Some j) v ≡ Some k
          → (k ≤ U.steps) × (UnchangedSince U k (names_down_to (site_now b)) → IsSolvedChain U.nodes (stores_along U (names_down_to (site_now b)) ++ n.store ∷ []))
      by false y k q = cc
      by true y k q =
          let z : j ≡ k = some_value q in
          let h : j ≤ T.steps = x.0 in
          let u : U.steps ≡ T.steps + 1 = is.steps in (
            omega arith,
            λ unchanged.
                let before : UnchangedSince T j (names_down_to a.site) =
                unchanged_before T U j (names_down_to a.site) as_told (subst (UnchangedSince U j) path_same (subst (λ (i : ℕ). UnchangedSince U i (names_down_to (site_now b))) (sym z) unchanged)) in
                subst (λ (ss : List Stored). IsSolvedChain U.nodes (ss ++ n.store ∷ [])) (sym stores_same)
                (subst (λ (ms : List Node). IsSolvedChain ms (stores_along T (names_down_to a.site) ++ n.store ∷ [])) (sym is.nodes) (y before)),
          )

  new_box : (n : Name) (f : Found) → box_at n t.config.roots ≡ None → box_at n d.roots ≡ Some f
      → (row : BoxRow) × (U.box_of n ≡ Some row) × IsBoxRow U d.roots f row × (row.changed ≡ T.steps + 1) × (row.goals_changed ≡ T.steps + 1)
  new_box n f i j = elim (new_or SolvedNew (each_solved at refl news solved) n) [
    | inl none ↦ absurd (none.1 f.content f.goals (forking.came_new rules r.program t.config l d s a g place op bs was fork.held boxes_are nowhere flat n f i j) (box-itself n d.roots f j))
    | inr (new, row, of) ↦
        let k : Found = record { around = a.site.around ++ b.content ∷ []; content = of.content; goals = of.goals } in
        let there : box_at n d.roots ≡ Some k = new_there n of.content of.goals of.named of.alternative in
        let has : U.box_of n ≡ Some (new_row g at number new) =
        box_rows n ∙ ap (λ (o : Option BoxRow). or_else o (set a.site.content.name (option_map (failing_by g op news) (T.box_of a.site.content.name)) T.box_of n)) row in
        let is_new : IsNewBox U.nodes (whole (site_now b)) new of.content of.goals =
        subst (λ (E : Equations). IsNewBox U.nodes E new of.content of.goals) (ap (λ (v : Content). whole (record a.site { content = v })) (sym forked.content))
        (subst (λ (ms : List Node). IsNewBox ms (whole a.site) new of.content of.goals) (sym (is.nodes ∙ t.nodes)) of.is_new) in
        let shown : of.content.shown ≡ [] =
        shows_none r.program.templates.nodes l.worker (slice_index t.config.next l.worker) fork.arguments fork.definition.clauses [] of.content of.goals refl of.alternative in (
          new_row g at number new,
          has,
          subst (λ (v : Found). IsBoxRow U d.roots v (new_row g at number new)) (some_value (sym there ∙ j))
              (new_is_row U d.roots sd.once g (site_now b) op bs home_now forked.choice_held site_row.0.stands at number n k new there of.named
              (subst (λ (v : Name). IsIn v (box_names bs)) (sym of.named)
              (forking.new_named rules r.program t.config l d s a g place op bs was fork.held boxes_are nowhere flat of.content of.goals of.alternative)) is_new of.more shown has),
          refl,
          refl,
        )
  ]

  gone_box : (n : Name) → box_at n d.roots ≡ None → U.box_of n ≡ None
  gone_box n j = elim (new_or (λ (n : NewBox). ⊤) (any_new news) n) [
    | inr (new, row, of) ↦
        let there : box_at n d.roots ≡ Some (record { around = a.site.around ++ b.content ∷ []; content = of.content; goals = of.goals }) = new_there n of.content of.goals of.named of.alternative in
        absurd cc
    | inl none ↦ on none (same_name n a.site.content.name) refl
  ]
    where
      was_none : box_at n t.config.roots ≡ None
      was_none = elim (none_or (box_at n t.config.roots)) [
        | inl i ↦ i
        | inr (e, i) ↦
            let f : (f : Found) × (box_at n d.roots ≡ Some f) = forking.all_there rules r.program t.config l d s a g place op bs was fork.held boxes_are nowhere flat n e i in
            let q : box_at n d.roots ≡ Some f.0 = f.1 in
            absurd cc
      ]

      on : NoNewBox n → (v : Bool) → same_name n a.site.content.name ≡ v → U.box_of n ≡ None
      on none false q = other_row n none q ∙ neither (IsBoxRow T t.config.roots) (box_at n t.config.roots) (T.box_of n) (t.unfolds.boxes n) was_none
      on none true q =
          let x : box_at n d.roots ≡ Some (site_now b) = subst (λ (k : Name). box_at k d.roots ≡ Some (site_now b)) (sym (same_name-equal n a.site.content.name q)) now_there in
          absurd cc

  -- rows of goals

  goal_rows : (i : Name) → U.goal_of i ≡ or_else (new_goal_of number news i) (set g (option_map (forked_row op news number) (T.goal_of g)) T.goal_of i)
  goal_rows i = is.goals i

  goal_goes : (i : Name) → GoalGoes T U t.config d i
  goal_goes i = elim (new_goal_or r.program.templates.nodes (whole a.site) number news bs i fork.boxes) [
    | inr (row, k, hs, h, has, changed, spot, held, x) ↦
        let there : home_of i d.roots ≡ Some (record { around = a.site.around ++ b.content ∷ []; content = k; goals = hs }) =
        forking.new_home rules r.program t.config l d s a g place op bs was fork.held boxes_are nowhere flat i k hs h x held in
        let z : times i t.config.roots ≡ 0 = forking.new_goal_nowhere rules r.program t.config l d s a g place op bs was fork.held boxes_are nowhere flat i k hs h x held in
        let row_is : U.goal_of i ≡ Some row = goal_rows i ∙ ap (λ (o : Option GoalRow). or_else o (set g (option_map (forked_row op news number) (T.goal_of g)) T.goal_of i)) has in
        let before : shape_at i t.config.roots ≡ None = ap (option_and_then (λ (f : Found). option_map shape_of (held_in i f.goals))) (home_of-none i t.config.roots z) in
        let afterwards : shape_at i d.roots ≡ Some (shape_of h) = shape_held i d.roots (record { around = a.site.around ++ b.content ∷ []; content = k; goals = hs }) h there held in
        inr (
          ap (option_map spot_of) row_is ∙ ap Some spot
              ∙ sym (ap (option_and_then (λ (f : Found). option_map {U = Spot} (λ (h : Held). record { home = f.content.name; shape = shape_of h }) (held_in i f.goals))) there
              ∙ ap (option_map {U = Spot} (λ (h : Held). record { home = k.name; shape = shape_of h })) held),
          λ v e. (ap (λ (w : GoalRow). w.changed) (some_value (sym e ∙ row_is)) ∙ changed, λ q. cc),
        )
    | inl none ↦ on none (same_name i g) refl
  ]
    where
      it : set g (option_map (forked_row op news number) (T.goal_of g)) T.goal_of g ≡ Some (forked_row op news number its_row.0)
      it = ap (λ (v : Bool). if v then option_map (forked_row op news number) (T.goal_of g) else T.goal_of g) (same_name-refl g) ∙ ap (option_map (forked_row op news number)) its_row.1

      itself : new_goal_of number news g ≡ None → GoalGoes T U t.config d g
      itself none =
          let row_is : U.goal_of g ≡ Some (forked_row op news number its_row.0) =
          goal_rows g ∙ ap (λ (o : Option GoalRow). or_else o (set g (option_map (forked_row op news number) (T.goal_of g)) T.goal_of g)) none ∙ it in
          let before : shape_at g t.config.roots ≡ Some (of_atom was) = shape_held g t.config.roots a.site (an_atom was) home_was fork.held in
          let afterwards : shape_at g d.roots ≡ Some (of_choice op (box_names bs)) = shape_held g d.roots (site_now b) (a_choice op bs) home_now forked.choice_held in
          let names : map (λ (n : NewBox). n.name) news ≡ box_names bs = new_box_names r.program.templates.nodes (whole a.site) news bs fork.boxes in
          let home : its_row.0.home ≡ b.content.name = ap (λ (k : Spot). k.home) its_row.2 ∙ ap (λ (k : Content). k.name) (sym forked.content) in
          inr (
            ap (option_map spot_of) row_is ∙ (λ k. Some (record { home = home k; shape = of_choice op (names k) }))
                ∙ sym (ap (option_and_then (λ (f : Found). option_map {U = Spot} (λ (h : Held). record { home = f.content.name; shape = shape_of h }) (held_in g f.goals))) home_now
                ∙ ap (option_map {U = Spot} (λ (h : Held). record { home = b.content.name; shape = shape_of h })) forked.choice_held),
            λ v e. (ap (λ (w : GoalRow). w.changed) (some_value (sym e ∙ row_is)), λ q. cc),
          )

      on : (new_goal_of number news i ≡ None) × ((k : Content) (hs : Goals) → BoxIn [] k hs bs → HasGoal i hs → ⊥) → (v : Bool) → same_name i g ≡ v → GoalGoes T U t.config d i
      on none true q = subst (GoalGoes T U t.config d) (sym (same_name-equal i g q)) (itself (subst (λ (n : Name). new_goal_of number news n ≡ None) (same_name-equal i g q) none.0))
      on none false q = inl (
        goal_rows i ∙ ap (λ (o : Option GoalRow). or_else o (set g (option_map (forked_row op news number) (T.goal_of g)) T.goal_of i)) none.0
            ∙ ap (λ (v : Bool). if v then option_map (forked_row op news number) (T.goal_of g) else T.goal_of i) q,
        forking.same_shape rules r.program t.config l d s a g place op bs was fork.held boxes_are nowhere flat i q none.1,
      )

  pub leads_on : LeadsOn a T U
  leads_on = record {
    boxes = boxes;
    site_marks = λ v k i j.
        let x : v ≡ site_was.0 = some_value (sym i ∙ site_was.1) in
        let y : k ≡ site_is = some_value (sym j ∙ site_has) in
        let was_there : box_at a.site.content.name t.config.roots ≡ Some a.site = found rules r.program t.config l d s a in (
          inl (
            ap (λ (w : BoxRow). w.changed) y ∙ ap (λ (w : BoxRow). w.changed) (sym x),
            λ h. h (ap (option_map constraint_of) was_there ∙ ap (λ (w : Content). Some (record { frames = w.frames; equations = w.equations; ports = w.ports })) (sym forked.content)
                ∙ sym (ap (option_map constraint_of) now_there)),
          ),
          inl (
            ap (λ (w : BoxRow). w.goals_changed) y ∙ ap (λ (w : BoxRow). w.goals_changed) (sym x),
            λ h. h (ap (option_map (λ (f : Found). goal_names f.goals)) was_there ∙ ap Some (sym forked.names) ∙ sym (ap (option_map (λ (f : Found). goal_names f.goals)) now_there)),
          ),
        );
    new_boxes = new_box;
    gone_boxes = gone_box;
    goals = goal_goes;
    roots = is.roots ∙ t.unfolds.roots ∙ same_roots;
    root_mark = inl (is.roots_changed, λ h. h same_roots);
    next = λ w. is.next w ∙ raised_same l.worker a.change.drawn w T.next t.config.next t.unfolds.next ∙ ap (λ (k : Config). slice_index k.next w) a.result;
  }

-- the step of a fork leads to a table of the run that goes on with the label
pub fork_step : (rules : List Rule) (r : Run) (T U : Table) (l : Label) (d : Config) (t : IsTableOf rules r T) (a : Applies rules r.program t.config l d) (op : Operator) (news : List NewBox) (at : Option ℕ)
    → Makes r.program l (slice_index t.config.next l.worker) a.site (forks op news) → IsSolvedWhen at T a.site (forks op news) → Leads T l at a.change.drawn (forks op news) U
    → (u : IsTableOf rules (followed_by r l) U) × (u.config ≡ d)
fork_step rules r T U l d t a op news at makes solved leads = led rules r T U l d t a (leads_on rules r T U l d t a makes.1.0 op news at makes.0 makes.1.1 makes.1.2 solved
    (subst (λ (u : Place). Leads T (record l { place = u }) at a.change.drawn (forks op news) U) makes.1.1 leads))
