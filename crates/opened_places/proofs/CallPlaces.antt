-- A call at once by a table's rows: its goal goes, and nothing else; its box changes, and what holds this, and the goals of the body come.
use Rattle.std.proofs.Common.{◌≡◌, ℕ, ◌+◌, ◌≤◌, List, [], ◌∷◌, ◌++◌, length, Bool, true, Some, None, refl, sym, ◌∙◌, ap, subst, inl, inr, arith}
use Rattle.std.specs.Prelude.{slice_index}
use Rattle.std.specs.List.{AllByRecursion}
use Rattle.akl_terms.specs.declared.name.Name.{Name}
use Rattle.akl_terms.specs.declared.name.Place.{Place}
use Rattle.akl_terms.specs.declared.program.Program.{Program}
use Rattle.akl_terms.specs.Names.{same_name}
use Rattle.akl_terms.proofs.SameNames.{same_name-refl}
use Rattle.akl_model.specs.declared.label.Label.{Label}
use Rattle.akl_model.specs.Config.{IsIn, Atom, Config, an_atom, without_goal, Content, Found, site_of, box_at, home_of}
use Rattle.akl_model.specs.Instances.{drawn_by}
use Rattle.akl_model.specs.Names.{one_if}
use Rattle.akl_model.specs.Changes.{of_atom}
use Rattle.akl_model.specs.Rules.{joining}
use Rattle.akl_model.specs.Wakes.{names_down_to, holder_in}
use Rattle.akl_model.proofs.Drawn.{drawn_times, drawn-append}
use Rattle.akl_model.proofs.NamesKept.{Stand, replay-stands, derived-stands, box-itself}
use Rattle.step_laws.proofs.Steps.{Later, later}
use Rattle.local_store.specs.Stored.{Stored}
use Rattle.plan_laws.specs.AtOnce.{with_named, Tells, finishes, leaves, tells, holds, IsAtOnce, labels_at_once, at_once}
use Rattle.plan_laws.proofs.CallAlternatives.{Calling}
use Rattle.plan_laws.proofs.BodyGoals.{named}
use Rattle.plan_laws.proofs.CallPassage.{end_home}
use Rattle.plan_laws.proofs.Between.{distinct_of, stood, was_found}
use Rattle.plan_laws.proofs.Calls.{calling, at_once_law}
use Rattle.table_laws.specs.Calls.{CallsGoal, promoted_at, told_at, ended_at, called_row, after_call, after_labels}
use Rattle.table_laws.proofs.CallStep.{call_step}
use Rattle.table_laws.specs.Rows.{BoxRow, GoalRow, Table}
use Rattle.table_laws.specs.Unfolds.{IsBoxRow, Unfolds}
use Rattle.table_laws.specs.Stamped.{Run, IsTableOf}
use Rattle.table_laws.specs.Walks.{alternatives_in, alternatives_of}
use Rattle.table_laws.specs.Writes.{unset, set, changed_box, home_in, atom_among, home_or, solved_when}
use Rattle.table_laws.proofs.Frame.{row_of}
use Rattle.table_laws.proofs.Fresh.{drawn_nowhere, no_row_goal}
use Rattle.table_laws.proofs.Going.{AreGoing, by_rows, RowsGo}
use Rattle.table_laws.proofs.GoingRows.{box_changed_there, or_there, one_goes}
use Rattle.table_laws.proofs.Insides.{goal_row}
use Rattle.table_laws.proofs.Sets.{set_other}
use Rattle.box_tree.specs.Tables.{all_rules}
use Rattle.opened_places.specs.declared.around.Around.{Around}
use Rattle.opened_places.specs.Exact.{IsAround, AreExactly}
use Rattle.opened_places.specs.Gone.{goals_named}
use Rattle.opened_places.specs.Placed.{StandsSo, goals_placed}
use Rattle.opened_places.proofs.CallWays.{call_way}
use Rattle.opened_places.proofs.GoalTurns.{Comes}
use Rattle.opened_places.proofs.GoesFrom.{goals_differ, exactly_goes}
use Rattle.opened_places.proofs.JoinRows.{AreJoined}
use Rattle.opened_places.proofs.JoinRows as join
use Rattle.box_tree.proofs.AllInForce.{all_in_force}
use Rattle.opened_places.proofs.ListedPlaces.{holder_place}
use Rattle.opened_places.proofs.Members.{firsts}
use Rattle.opened_places.proofs.NewAround.{joined_all}
use Rattle.opened_places.proofs.RowSteps.{same_table}
use Rattle.opened_places.proofs.SetRows.{kept_part}
use Rattle.opened_places.proofs.StillAround.{site_down}
use Rattle.opened_places.proofs.AtRows as rows

-- the goals of a body that are left have names that are drawn for it
left_drawn : (p : Program) (w next : ℕ) (around : List Content) (m : Name) (b : Content) (n : ℕ) (body : List Atom) (ls : List Label) (b2 : Content) (left : List (Name × Atom)) → Tells p w next around b n body ls b2 left
    → IsIn m (firsts left) → 1 ≤ drawn_times m w n (length body)
left_drawn p w next around m _ _ _ _ _ _ (finishes b n) i = absurd i
left_drawn p w next around m _ _ _ _ _ _ (leaves b n a rest ls b2 left y) (inl e) =
    let q : one_if (same_name m (named w n)) ≡ 1 = ap one_if (subst (λ (i : Name). same_name m i ≡ true) e (same_name-refl m)) in
    let z : drawn_times m w n (length (a ∷ rest)) ≡ one_if (same_name m (named w n)) + drawn_times m w (n + 1) (length rest) = refl in
    omega arith
left_drawn p w next around m _ _ _ _ _ _ (leaves b n a rest ls b2 left y) (inr i) =
    let q : 1 ≤ drawn_times m w (n + 1) (length rest) = left_drawn p w next around m b (n + 1) rest ls b2 left y i in
    let z : drawn_times m w n (length (a ∷ rest)) ≡ one_if (same_name m (named w n)) + drawn_times m w (n + 1) (length rest) = refl in
    omega arith
left_drawn p w next around m _ _ _ _ _ _ (tells r b n a s t rest ls b2 left guard makes y) i =
    let q : 1 ≤ drawn_times m w (n + 1) (length rest) = left_drawn p w next around m _ (n + 1) rest ls b2 left y i in
    let z : drawn_times m w n (length (a ∷ rest)) ≡ one_if (same_name m (named w n)) + drawn_times m w (n + 1) (length rest) = refl in
    omega arith
left_drawn p w next around m _ _ _ _ _ _ (holds r b n a rest ls b2 left guard makes y) i =
    let q : 1 ≤ drawn_times m w (n + 1) (length rest) = left_drawn p w next around m b (n + 1) rest ls b2 left y i in
    let z : drawn_times m w n (length (a ∷ rest)) ≡ one_if (same_name m (named w n)) + drawn_times m w (n + 1) (length rest) = refl in
    omega arith

module _ (r : Run) (T : Table) (t : IsTableOf all_rules r T) (w : ℕ) (g : Name) (f : Found) (is_home : home_of g t.config.roots ≡ Some f) (x : IsAtOnce r.program t.config w g f)
    (alternative new : Stored) (solved : Bool) (goals : List (Name × Atom)) (makes : CallsGoal x alternative new goals) where
  abbrev c : Config
  c = t.config

  abbrev d : Config
  d = at_once x

  abbrev pub was : Stand c
  was = replay-stands all_rules r.program r.query r.journal c t.replays

  pub now : Stand d
  now = derived-stands all_rules r.program c d (labels_at_once x) was (at_once_law all_rules all_in_force r.program c (distinct_of c was) w g f is_home x)

  pub further : Later c d
  further = later all_rules r.program c d (labels_at_once x) was (at_once_law all_rules all_in_force r.program c (distinct_of c was) w g f is_home x)

  abbrev k : Calling
  k = calling all_rules all_in_force r.program c was w g f is_home x

  abbrev names : List Name
  names = firsts goals

  -- the goal's row, and the table afterwards

  row : (v : GoalRow) × (T.goal_of g ≡ Some v) × (v.home ≡ f.content.name) × (v.shape ≡ of_atom k.body)
  row = goal_row T c t.unfolds was.once g f (an_atom k.body) is_home x.held

  pub no_alternatives : alternatives_of (T.goal_of g) ≡ []
  no_alternatives = ap alternatives_of row.1 ∙ ap alternatives_in row.3

  abbrev number : ℕ
  number = promoted_at x T.steps

  abbrev U : Table
  U = after_call g new (solved_when None solved) goals w (drawn_by x.called.clauses + length x.last.body) (promoted_at x T.steps) (told_at x T.steps) (ended_at x T.steps) T

  after : (u : IsTableOf all_rules (after_labels r x) U) × (u.config ≡ d)
  after = call_step all_rules all_in_force r T U t w g f is_home x None solved alternative new goals makes tt (same_table U)

  v : Unfolds U d
  v = subst (λ (e : Config). Unfolds U e) after.1 after.0.unfolds

  unused : (m : Name) → IsIn m names → T.goal_of m ≡ None
  unused m i = no_row_goal T c m t.unfolds (drawn_nowhere c w (drawn_by x.called.clauses + length x.last.body) m was (omega (arith, drawn, counted)))
    where
      drawn : drawn_times m w (slice_index c.next w) (drawn_by x.called.clauses + length x.last.body)
          ≡ drawn_times m w (slice_index c.next w) (drawn_by x.called.clauses) + drawn_times m w (slice_index c.next w + drawn_by x.called.clauses) (length x.last.body)
      drawn = drawn-append m w (slice_index c.next w) (drawn_by x.called.clauses) (length x.last.body)

      counted : 1 ≤ drawn_times m w (slice_index c.next w + drawn_by x.called.clauses) (length x.last.body)
      counted = left_drawn r.program w (slice_index c.next w + drawn_by x.called.clauses + length x.last.body) f.around m (joining x.last f.content) (slice_index c.next w + drawn_by x.called.clauses) x.last.body x.body_labels x.after x.goals_left x.body
          (subst (λ (xs : List (Name × Atom)). IsIn m (firsts xs)) makes.body i)

  abbrev its_box : BoxRow → BoxRow
  its_box = called_row g new (solved_when None solved) goals (told_at x T.steps) (ended_at x T.steps)

  joined : AreJoined T U g its_box goals number
  joined = record { boxes = λ m. refl; goals_are = λ m. refl; unused = unused }

  gone : home_of g d.roots ≡ None
  gone = join.gone T U g its_box goals number joined c d t.unfolds v was now row.0 row.1

  coming : Comes c d [] names
  coming = join.coming T U g its_box goals number joined c d t.unfolds v was now

  -- as the goal is an atom, no box goes
  box_row : (m : Name) → U.box_of m ≡ changed_box (home_in (T.goal_of g)) its_box T.box_of m
  box_row m = ap (λ (ns : List Name). unset ns (changed_box (home_in (T.goal_of g)) its_box T.box_of) m) no_alternatives

  rows_go : (Own : Name → Type 0) → Own g → ((i : Name) → Own i → i ≡ g) → RowsGo T U [] Own
  rows_go Own own only = one_goes T U g Own own only (join.row_gone T U g its_box goals number joined row.0 row.1)
      (λ i y q e. or_there (atom_among (home_or (T.goal_of g) g) number goals i) (set g None T.goal_of i) y (set_other g i None T.goal_of q ∙ e))
      (λ m y e. let z : (z : BoxRow) × (changed_box (home_in (T.goal_of g)) its_box T.box_of m ≡ Some z) = box_changed_there (home_in (T.goal_of g)) its_box T.box_of m y e in (z.0, box_row m ∙ z.1))

  pub goal_going : (Own : Name → Type 0) → Own g → ((i : Name) → Own i → i ≡ g) → AreGoing T c d [] Own
  goal_going Own own only = by_rows T U c d t.unfolds v was.once now.once [] Own (rows_go Own own only) (λ n i. absurd i) (λ i o. (f, subst (λ (j : Name). home_of j c.roots ≡ Some f) (sym (only i o)) is_home))

  -- the box

  site_was : box_at f.content.name c.roots ≡ Some f
  site_was = was_found c was g f is_home

  site_now : Found
  site_now = record { around = f.around; content = x.after; goals = with_named x.goals_left (without_goal g f.goals) }

  site_is : box_at f.content.name d.roots ≡ Some site_now
  unfolding site_now
  site_is = end_home all_rules all_in_force r.program c was w g f is_home x ⊥ (λ z. absurd z)

  same_holder : holder_in f.content.name c.roots ≡ holder_in f.content.name d.roots
  unfolding site_now
  same_holder =
      let y : (y : BoxRow) × (T.box_of f.content.name ≡ Some y) × IsBoxRow T c.roots f y = row_of T c t.unfolds f.content.name f site_was in
      let z : (z : BoxRow) × (U.box_of f.content.name ≡ Some z) × IsBoxRow U d.roots site_now z = row_of U d v f.content.name site_now site_is in
      sym y.2.holder ∙ sym (kept_part (λ (b : BoxRow). b.holder) (home_in (T.goal_of g)) its_box T.box_of f.content.name y.0 z.0 (λ b. refl) y.1 (sym (box_row f.content.name) ∙ z.1)) ∙ z.2.holder
      ∙ ap (λ (n : Name). holder_in n d.roots) (sym (box-itself f.content.name d.roots site_now site_is))

  module _ (l : Label) (is_site : site_of l.place c.roots ≡ Some f) (a : Around) (i : IsAround T l a) where
    pub call_exact : AreExactly c d (Place.Box a.home ∷ (holder_place a.holder ++ goals_named names))
    call_exact = exactly_goes c d a f site_now site_was site_is (goals_differ c d now g f site_now site_was site_is (an_atom k.body, x.held) gone) (rows.home_is T c t.unfolds was.once l f is_site a i)
        (rows.holder_is T c t.unfolds was.once l f is_site a i ∙ same_holder)
        (call_way all_rules all_in_force r.program c was w g f is_home x (λ m e y z. coming.box_in m e y z)) names coming.goal_in coming.in_goal

  pub call_new : AllByRecursion (StandsSo d.roots) (goals_placed (names_down_to f) names)
  call_new = joined_all U d v now T g its_box goals number joined row.0 row.1 f site_now row.2 site_is (site_down c d was now further f site_now (stood c was g f is_home) site_is)
