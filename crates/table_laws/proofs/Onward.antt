-- From a table to the next one of a run: what a step has to show.
use Rattle.std.proofs.Common.{◌≡◌, ℕ, ◌+◌, ◌≤◌, List, [], ◌∷◌, ◌++◌, Bool, true, false, Option, Some, None, refl, sym, ◌∙◌, ap, subst, ◌⊎◌, inl, inr, arith}
use Rattle.std.specs.Prelude.{slice_index, option_map, option_and_then}
use Rattle.akl_terms.specs.declared.name.Name.{Name}
use Rattle.akl_terms.specs.declared.term.Node.{Node}
use Rattle.akl_model.specs.Config.{Operator}
use Rattle.akl_terms.specs.declared.program.Program.{Program}
use Rattle.akl_terms.specs.declared.program.Query.{Query}
use Rattle.akl_terms.specs.Equal.{Equations, IsTold}
use Rattle.akl_terms.specs.Standing.{StandFor}
use Rattle.akl_terms.specs.Names.{same_name}
use Rattle.akl_terms.proofs.SameNames.{same_name-equal}
use Rattle.akl_model.specs.declared.item.Item.{Item}
use Rattle.akl_model.specs.declared.label.Rule.{Rule}
use Rattle.akl_model.specs.declared.label.Label.{Label}
use Rattle.akl_model.specs.Config.{IsIn, Content, Boxes, no_boxes, box, Config, Held, a_choice, held_in, Found, box_at, home_of, whole}
use Rattle.akl_model.specs.Derivations.{Applies, Replays}
use Rattle.akl_model.specs.Changes.{shape_of, shape_at, box_names, goal_names, by_store, Changes}
use Rattle.akl_model.specs.Wakes.{names_around, names_down_to, holder_in}
use Rattle.akl_model.proofs.Finds.{times, times_inside}
use Rattle.akl_model.proofs.Scoped.{IsIn-either}
use Rattle.akl_model.proofs.NamesKept.{Stand, replay-stands, stands_after, box-itself}
use Rattle.akl_model.proofs.Options.{none_or, some_value, map_some}
use Rattle.akl_model.proofs.ScopesAlong.{times_path}
use Rattle.rational_unify.specs.Solving.{bindings_in}
use Rattle.step_laws.specs.ChangedItems.{IsReplaced}
use Rattle.step_laws.specs.Whereabouts.{Stands}
use Rattle.step_laws.specs.Stays.{HaveShape}
use Rattle.step_laws.proofs.Whereabouts.{found_in, home_in, in_counted}
use Rattle.step_laws.proofs.GoalEdits.{HasGoal}
use Rattle.step_laws.proofs.Failing.{failing_shape, failed_before}
use Rattle.step_laws.proofs.Becomes.{Becomes}
use Rattle.step_laws.proofs.Steps.{site_now, site_there, found, later_step}
use Rattle.step_laws.proofs.Stays.{like_home, shape_held}
use Rattle.step_laws.proofs.ChangedItems.{frame_names, frame_shape}
use Rattle.table_laws.specs.Rows.{BoxRow, GoalRow, Table, store_in, ports_in}
use Rattle.table_laws.specs.Unfolds.{FailsBy, StaysSolved, IsBoxRow, AreBoth, spot_in, spot_of, Unfolds}
use Rattle.table_laws.proofs.Stores.{told_along, told_last, IsAsTold}
use Rattle.table_laws.proofs.Along.{holder_stays}
use Rattle.table_laws.proofs.Insides.{spot_held, spot_none}
use Rattle.table_laws.proofs.Frame.{are_both, are_neither, row_of, KeepsRows, KeepsBoxes, row_stays, site_around, same_told, solved_same}

-- the number of an item's last change after a label: as it was where this doesn't change the item, and else the label's
abbrev pub IsMark : ℕ → Type 0 → ℕ → ℕ → Type 0
IsMark steps changes old new = ((new ≡ old) × (changes → ⊥)) ⊎ ((new ≡ steps + 1) × changes)

-- a goal's row stays and the goal is unchanged, or the row is as the goal afterwards, which is changed where it is there
abbrev pub GoalGoes : Table → Table → Config → Config → Name → Type 0
GoalGoes T U c d g = ((U.goal_of g ≡ T.goal_of g) × (shape_at g c.roots ≡ shape_at g d.roots))
    ⊎ ((option_map spot_of (U.goal_of g) ≡ spot_in g d.roots) × ((r : GoalRow) → U.goal_of g ≡ Some r → (r.changed ≡ T.steps + 1) × (shape_at g c.roots ≡ shape_at g d.roots → ⊥)))

-- what a step has to show of the next table
pub record LeadsOn {rules : List Rule} {p : Program} {c : Config} {l : Label} {d : Config} (a : Applies rules p c l d) (T U : Table) : Type 0 where
  pub boxes : KeepsBoxes a T U
  pub site_marks : (r k : BoxRow) → T.box_of a.site.content.name ≡ Some r → U.box_of a.site.content.name ≡ Some k
      → IsMark T.steps (Changes by_store c d (Item.Store a.site.content.name)) r.changed k.changed × IsMark T.steps (Changes by_store c d (Item.Goals a.site.content.name)) r.goals_changed k.goals_changed
  pub new_boxes : (n : Name) (f : Found) → box_at n c.roots ≡ None → box_at n d.roots ≡ Some f
      → (r : BoxRow) × (U.box_of n ≡ Some r) × IsBoxRow U d.roots f r × (r.changed ≡ T.steps + 1) × (r.goals_changed ≡ T.steps + 1)
  pub gone_boxes : (n : Name) → box_at n d.roots ≡ None → U.box_of n ≡ None
  pub goals : (g : Name) → GoalGoes T U c d g
  pub roots : U.roots ≡ box_names d.roots
  pub root_mark : IsMark T.steps (Changes by_store c d Item.Roots) T.roots_changed U.roots_changed
  pub next : (w : ℕ) → slice_index U.next w ≡ slice_index d.next w

-- a goal that isn't changed stays where it is
pub spot_stays : (c d : Config) (g : Name) → ((e f : Found) → home_of g c.roots ≡ Some e → home_of g d.roots ≡ Some f → e.content.name ≡ f.content.name) → shape_at g c.roots ≡ shape_at g d.roots
    → spot_in g c.roots ≡ spot_in g d.roots
spot_stays c d g home same = on (none_or (home_of g c.roots)) (none_or (home_of g d.roots))
  where
    none : (roots : Boxes) → home_of g roots ≡ None → shape_at g roots ≡ None
    none roots e = ap (option_and_then (λ (f : Found). option_map shape_of (held_in g f.goals))) e

    some : (roots : Boxes) (f : Found) → home_of g roots ≡ Some f → (h : Held) × (shape_at g roots ≡ Some (shape_of h)) × (spot_in g roots ≡ Some (record { home = f.content.name; shape = shape_of h }))
    some roots f e = let h : HasGoal g f.goals = (home_in g roots f e).1 in (h.0, shape_held g roots f h.0 e h.1, spot_held g roots f h.0 e h.1)

    on : (home_of g c.roots ≡ None) ⊎ ((e : Found) × (home_of g c.roots ≡ Some e)) → (home_of g d.roots ≡ None) ⊎ ((f : Found) × (home_of g d.roots ≡ Some f)) → spot_in g c.roots ≡ spot_in g d.roots
    on (inl x) (inl y) = spot_none g c.roots x ∙ sym (spot_none g d.roots y)
    on (inl x) (inr (f, j)) = let v : _ = some d.roots f j in let z : shape_at g c.roots ≡ None = none c.roots x in let k : shape_at g d.roots ≡ Some (shape_of v.0) = v.1 in absurd cc
    on (inr (e, i)) (inl y) = let v : _ = some c.roots e i in let z : shape_at g d.roots ≡ None = none d.roots y in let k : shape_at g c.roots ≡ Some (shape_of v.0) = v.1 in absurd cc
    on (inr (e, i)) (inr (f, j)) =
        let v : _ = some c.roots e i in
        let w : _ = some d.roots f j in
        let z : shape_of v.0 ≡ shape_of w.0 = some_value (sym v.1 ∙ same ∙ w.1) in
        v.2 ∙ (λ k. Some (record { home = home e f i j k; shape = z k })) ∙ sym w.2

module _ (rules : List Rule) (p : Program) (q : Query) (journal : List Label) (c : Config) (l : Label) (d : Config) (replays : Replays rules p q journal c) (a : Applies rules p c l d)
    (T U : Table) (u : Unfolds T c) where
  s : Stand c
  s = replay-stands rules p q journal c replays

  t : Stand d
  t = stands_after rules p c l d s a

  -- the row of the box of the place, by its store
  pub site_row : KeepsRows a T U → (b : Becomes l.worker (slice_index c.next l.worker) a.site a.change) → (r k : BoxRow) → T.box_of a.site.content.name ≡ Some r → U.box_of a.site.content.name ≡ Some k
      → k.holder ≡ r.holder → k.store.frames ≡ b.content.frames → ports_in T.nodes k.store.ports ≡ b.content.ports
      → StandFor (IsTold (told_along T (names_around a.site) ++ bindings_in T.nodes k.store.bindings)) (IsTold (whole (site_now b)))
      → StaysSolved U (site_now b) k → k.goals ≡ goal_names b.goals → FailsBy b.goals k.failing → k.body ≡ r.body → k.shown ≡ r.shown → k.collected ≡ r.collected → IsBoxRow U d.roots (site_now b) k
  site_row keeps b r k i j holder frames ports stands solved goals fails body shown collected = record {
    holder = holder ∙ was.holder ∙ holder_stays rules p q journal c l d replays a a.site.content.name a.site (site_now b) (found rules p c l d s a) (site_there rules p c l d s a b)
        ∙ ap (λ (z : Name). holder_in z d.roots) (sym b.keeps.name);
    frames = frames;
    ports = ap (λ (z : List Node). ports_in z k.store.ports) keeps.nodes ∙ ports;
    stands = subst (λ (E : Equations). StandFor (IsTold E) (IsTold (whole (site_now b)))) (sym told) stands;
    stays_solved = solved;
    goals = goals;
    failing = fails;
    body = body ∙ was.body ∙ sym b.keeps.body;
    shown = shown ∙ was.shown ∙ sym b.keeps.shown;
    collected = collected ∙ was.collected ∙ sym b.keeps.collected;
  }
    where
      was : IsBoxRow T c.roots a.site r
      was =
          let v : (v : BoxRow) × (T.box_of a.site.content.name ≡ Some v) × IsBoxRow T c.roots a.site v = row_of T c u a.site.content.name a.site (found rules p c l d s a) in
          subst (IsBoxRow T c.roots a.site) (some_value (sym v.1 ∙ i)) v.2

      told : told_along U (names_down_to (site_now b)) ≡ told_along T (names_around a.site) ++ bindings_in T.nodes k.store.bindings
      told = ap (λ (z : Name). told_along U (names_around a.site ++ z ∷ [])) b.keeps.name ∙ told_last U (names_around a.site) a.site.content.name k.store (ap store_in j)
          ∙ (λ z. same_told rules p q journal c l d replays a T U u (names_around a.site) keeps.nodes (site_around rules p q journal c l d replays a T U u keeps b) z ++ bindings_in (keeps.nodes z) k.store.bindings)

  -- the same row but for the goals, where the box has the same content
  pub site_kept : KeepsRows a T U → (b : Becomes l.worker (slice_index c.next l.worker) a.site a.change) → b.content ≡ a.site.content
      → (r : BoxRow) (goals : List Name) (number : ℕ) (o : Option Name) → T.box_of a.site.content.name ≡ Some r → U.box_of a.site.content.name ≡ Some (record r { goals = goals; goals_changed = number; failing = o })
      → goals ≡ goal_names b.goals → FailsBy b.goals o → IsBoxRow U d.roots (site_now b) (record r { goals = goals; goals_changed = number; failing = o }) × IsAsTold T U a.site.content.name
  site_kept keeps b content r goals number o i j names fails = (
    site_row keeps b r (record r { goals = goals; goals_changed = number; failing = o }) i j refl (was.frames ∙ ap (λ (z : Content). z.frames) (sym content)) (was.ports ∙ ap (λ (z : Content). z.ports) (sym content))
        (subst (λ (z : Content). StandFor (IsTold (told_along T (names_around a.site) ++ bindings_in T.nodes r.store.bindings)) (IsTold (whole (record a.site { content = z })))) (sym content)
        (subst (λ (E : Equations). StandFor (IsTold E) (IsTold (whole a.site))) (told_last T (names_around a.site) a.site.content.name r.store (ap store_in i)) was.stands))
        (solved_same T U a.site (site_now b) r (record r { goals = goals; goals_changed = number; failing = o }) keeps.nodes keeps.steps refl (sym b.keeps.name)
        (λ z h. elim (IsIn-either z (names_around a.site) (a.site.content.name ∷ []) h) [
          | inl v ↦ site_around rules p q journal c l d replays a T U u keeps b z v
          | inr v ↦ elim v [ inl e ↦ subst (IsAsTold T U) (sym e) told | inr e ↦ absurd e ]
        ]) refl was.stays_solved)
        names fails refl refl refl,
    told,
  )
    where
      was : IsBoxRow T c.roots a.site r
      was =
          let v : (v : BoxRow) × (T.box_of a.site.content.name ≡ Some v) × IsBoxRow T c.roots a.site v = row_of T c u a.site.content.name a.site (found rules p c l d s a) in
          subst (IsBoxRow T c.roots a.site) (some_value (sym v.1 ∙ i)) v.2

      told : IsAsTold T U a.site.content.name
      told = record { store = ap store_in j ∙ sym (ap store_in i); changed = λ v e. (record r { goals = goals; goals_changed = number; failing = o }, j, ap (λ (z : BoxRow). z.changed) (some_value (sym i ∙ e))) }

  -- the same row but for what fails the box, where goals have the same names too
  pub site_same : KeepsRows a T U → (b : Becomes l.worker (slice_index c.next l.worker) a.site a.change) → b.content ≡ a.site.content → goal_names b.goals ≡ goal_names a.site.goals
      → (r : BoxRow) (o : Option Name) → T.box_of a.site.content.name ≡ Some r → U.box_of a.site.content.name ≡ Some (record r { failing = o }) → FailsBy b.goals o
      → IsBoxRow U d.roots (site_now b) (record r { failing = o }) × IsAsTold T U a.site.content.name
  site_same keeps b content goals r o i j fails = site_kept keeps b content r r.goals r.goals_changed o i j (names ∙ sym goals) fails
    where
      names : r.goals ≡ goal_names a.site.goals
      names =
          let v : (v : BoxRow) × (T.box_of a.site.content.name ≡ Some v) × IsBoxRow T c.roots a.site v = row_of T c u a.site.content.name a.site (found rules p c l d s a) in
          ap (λ (z : BoxRow). z.goals) (some_value (sym i ∙ v.1)) ∙ v.2.goals

  -- a box other than that of the place fails by the same goal, unless it holds this, and this goes or becomes two
  pub fails_as : (m : Name) (e f : Found) (o : Option Name) → same_name a.site.content.name m ≡ false → box_at m c.roots ≡ Some e → box_at m d.roots ≡ Some f
      → ((g : Name) (k : Operator) (bs : Boxes) → IsReplaced a → held_in g e.goals ≡ Some (a_choice k bs) → IsIn a.site.content.name (box_names bs) → ⊥)
      → FailsBy e.goals o → FailsBy f.goals o
  fails_as m e f o apart i j unheld = by o
    where
      x : Stands e c.roots
      x = found_in m c.roots e i

      y : Stands f d.roots
      y = found_in m d.roots f j

      name : e.content.name ≡ f.content.name
      name = sym (box-itself m c.roots e i) ∙ box-itself m d.roots f j

      other : same_name a.site.content.name e.content.name ≡ false
      other = subst (λ (z : Name). same_name a.site.content.name z ≡ false) (box-itself m c.roots e i) apart

      shape : (g : Name) (h : Held) → held_in g e.goals ≡ Some h → HaveShape (held_in g e.goals) (held_in g f.goals)
      shape g h k = elim (frame_shape rules p c l d s a g e f (h, k) x y name other) [
        | inl z ↦ z
        | inr z ↦ absurd (unheld g z.0 z.1 z.2 z.3 z.4)
      ]

      once : (g : Name) → times_inside g f.goals ≤ 1
      once g =
          let v : times g (box f.content f.goals no_boxes) + times_path g f.around ≤ times g d.roots = in_counted g f.around f.content f.goals d.roots y in
          let z : times g d.roots ≤ 1 = t.once g in
          omega arith

      by : (o : Option Name) → FailsBy e.goals o → FailsBy f.goals o
      by None h = λ z. failed_before e.goals f.goals once (frame_names rules p c l d s a e f x y name other)
          (λ g v w k n differ. differ (some_value (sym (ap (option_map shape_of) k) ∙ shape g v k ∙ ap (option_map shape_of) n))) z h
      by (Some g) (h, k, v) =
          let w : (z : Held) × (held_in g f.goals ≡ Some z) × (shape_of z ≡ shape_of h) = map_some shape_of (held_in g f.goals) (shape_of h) (sym (shape g h k) ∙ ap (option_map shape_of) k) in
          (w.0, w.1, failing_shape h w.0 (sym w.2) v)

  same_home : (g : Name) (e f : Found) → home_of g c.roots ≡ Some e → home_of g d.roots ≡ Some f → e.content.name ≡ f.content.name
  same_home g e f i j = (like_home c d s t (later_step rules p c l d s a) g e f i j).name

  pub unfolds_on : LeadsOn a T U → Unfolds U d
  unfolds_on k = record { boxes = λ n. boxes n (none_or (box_at n d.roots)) (none_or (box_at n c.roots)); goals = λ g. goals g (k.goals g); roots = k.roots; next = k.next }
    where
      goals : (g : Name) → GoalGoes T U c d g → option_map spot_of (U.goal_of g) ≡ spot_in g d.roots
      goals g (inl x) = ap (option_map spot_of) x.0 ∙ u.goals g ∙ spot_stays c d g (same_home g) x.1
      goals g (inr x) = x.0

      both : (n : Name) (f : Found) (r : BoxRow) → box_at n d.roots ≡ Some f → U.box_of n ≡ Some r → IsBoxRow U d.roots f r → AreBoth (IsBoxRow U d.roots) (box_at n d.roots) (U.box_of n)
      both n f r i j h = are_both (IsBoxRow U d.roots) (box_at n d.roots) (U.box_of n) f r i j h

      boxes : (n : Name) → (box_at n d.roots ≡ None) ⊎ ((f : Found) × (box_at n d.roots ≡ Some f)) → (box_at n c.roots ≡ None) ⊎ ((e : Found) × (box_at n c.roots ≡ Some e))
          → AreBoth (IsBoxRow U d.roots) (box_at n d.roots) (U.box_of n)
      boxes n (inl j) x = are_neither (IsBoxRow U d.roots) (box_at n d.roots) (U.box_of n) j (k.gone_boxes n j)
      boxes n (inr (f, j)) (inl i) = let w : _ = k.new_boxes n f i j in both n f w.0 j w.1 w.2
      boxes n (inr (f, j)) (inr (e, i)) = on (same_name a.site.content.name n) refl
        where
          on : (v : Bool) → same_name a.site.content.name n ≡ v → AreBoth (IsBoxRow U d.roots) (box_at n d.roots) (U.box_of n)
          on true h =
              let z : a.site.content.name ≡ n = same_name-equal a.site.content.name n h in
              let w : _ = k.boxes.site f (subst (λ (m : Name). box_at m d.roots ≡ Some f) (sym z) j) in
              both n f w.0 j (subst (λ (m : Name). U.box_of m ≡ Some w.0) z w.1) w.2
          on false h =
              let r : (r : BoxRow) × (T.box_of n ≡ Some r) × IsBoxRow T c.roots e r = row_of T c u n e i in
              let w : (o : Option Name) × (U.box_of n ≡ Some (record r.0 { failing = o })) × FailsBy f.goals o = k.boxes.keeps.rows n e f r.0 h i j r.1 in
              both n f (record r.0 { failing = w.0 }) j w.1 (row_stays rules p q journal c l d replays a T U u k.boxes n e f r.0 w.0 h i j r.2 w.2)
