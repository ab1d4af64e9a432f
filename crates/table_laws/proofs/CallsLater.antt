-- What a call at once gives its box it gives it in a later table.
use Rattle.std.proofs.Common.{◌≡◌, ℕ, ◌+◌, Bool, true, false, List, [], ◌∷◌, ◌++◌, length, Some, None, refl, sym, ◌∙◌, ap, subst, append_assoc}
use Rattle.std.specs.Prelude.{slice_index}
use Rattle.akl_terms.specs.declared.name.Name.{Name}
use Rattle.akl_terms.specs.declared.name.Var.{Var}
use Rattle.akl_terms.specs.declared.name.Place.{Place}
use Rattle.akl_terms.specs.declared.term.Node.{Node}
use Rattle.akl_terms.specs.declared.term.Term.{Term}
use Rattle.akl_terms.specs.declared.program.Program.{Program}
use Rattle.akl_terms.specs.declared.program.Query.{Query}
use Rattle.akl_terms.specs.Equal.{Equations}
use Rattle.constraint_laws.specs.StandingGrows.{AreToldIn}
use Rattle.constraint_laws.proofs.StandsGrow.{same_told_stands, stands_over, stands_within}
use Rattle.akl_model.specs.declared.label.Rule.{Rule}
use Rattle.akl_model.specs.declared.label.Label.{Label}
use Rattle.akl_model.specs.Config.{Atom, Content, Config, with_names, with_ports, Found, environment, whole, box_at, home_of}
use Rattle.akl_model.specs.Instances.{drawn_by}
use Rattle.akl_model.specs.Wakes.{names_around}
use Rattle.akl_model.proofs.NamesKept.{replay-stands, site-box}
use Rattle.rational_unify.specs.Solving.{bindings_in}
use Rattle.local_store.specs.Stored.{Stored, joins}
use Rattle.step_laws.specs.Bound.{AreBoundIn}
use Rattle.step_laws.specs.Likeness.{IsLike}
use Rattle.step_laws.proofs.StaysLaws.{like, equations_grow}
use Rattle.plan_laws.specs.AtOnce.{by, Tells, finishes, leaves, tells, holds, IsAtOnce, at_once, AreInForce}
use Rattle.reading_laws.specs.Seen.{ReadsAt, ByBindings}
use Rattle.reading_laws.specs.CallsAgain.{outcomes, body_outcomes, IsAtOnceLater}
use Rattle.reading_laws.specs.QuietGuards.{EvaluatesQuietly}
use Rattle.reading_laws.proofs.SeenCalls.{seen_call}
use Rattle.table_laws.specs.Rows.{BoxRow, Table, store_in, ports_in}
use Rattle.table_laws.specs.Stamped.{Run}
use Rattle.table_laws.specs.Unfolds.{IsBoxRow}
use Rattle.table_laws.proofs.Frame.{row_of}
use Rattle.table_laws.specs.Calls.{StandOver, CallsGoal, last_told, told_of_body}
use Rattle.table_laws.specs.Joins.{PartStands}
use Rattle.table_laws.specs.Added.{Added, with_added}
use Rattle.table_laws.specs.Calling.{CallsBy}
use Rattle.table_laws.specs.Planned.{GoesOnTo, Seen, store_of}
use Rattle.table_laws.proofs.Here.{from_part}
use Rattle.table_laws.proofs.PartsLater.{on}
use Rattle.table_laws.proofs.SamePorts.{ports_stay}
use Rattle.table_laws.proofs.Parts.{rest_same}

-- the number of the last label of a body that tells an equation is known by which labels do
last_of : List Bool → ℕ → ℕ → ℕ
last_of [] before so_far = so_far
last_of (true ∷ os) before so_far = last_of os (before + 1) (before + 1)
last_of (false ∷ os) before so_far = last_of os (before + 1) so_far

last_by : (p : Program) (w next : ℕ) (around : List Content) (b : Content) (n : ℕ) (body : List Atom) (ls : List Label) (b2 : Content) (left : List (Name × Atom)) (x : Tells p w next around b n body ls b2 left) (before so_far : ℕ)
    → last_told p w next around b n body ls b2 left x before so_far ≡ last_of (outcomes p w next around b n body ls b2 left x) before so_far
unfolding last_of
last_by p w next around _ _ _ _ _ _ (finishes b n) before so_far = refl
last_by p w next around _ _ _ _ _ _ (leaves b n a rest ls b2 left y) before so_far = last_by p w next around b (n + 1) rest ls b2 left y before so_far
last_by p w next around _ _ _ _ _ _ (tells r b n a s t rest ls b2 left guard makes y) before so_far = last_by p w next around _ (n + 1) rest ls b2 left y (before + 1) (before + 1)
last_by p w next around _ _ _ _ _ _ (holds r b n a rest ls b2 left guard makes y) before so_far = last_by p w next around b (n + 1) rest ls b2 left y (before + 1) so_far

told_by : {p : Program} {c : Config} {w : ℕ} {g : Name} {f : Found} (x : IsAtOnce p c w g f) → told_of_body x ≡ last_of (body_outcomes x) 0 0
told_by {p} {c} {w} {g} {f} x = last_by p w (slice_index c.next w + drawn_by x.called.clauses + length x.last.body) f.around _ (slice_index c.next w + drawn_by x.called.clauses) x.last.body x.body_labels x.after x.goals_left x.body 0 0

told_same : {p : Program} {c d : Config} {w : ℕ} {g : Name} {f k : Found} (x : IsAtOnce p c w g f) (y : IsAtOnce p d w g k) → body_outcomes y ≡ body_outcomes x → told_of_body y ≡ told_of_body x
told_same x y e = told_by y ∙ ap (λ (os : List Bool). last_of os 0 0) e ∙ sym (told_by x)

module _ (rules : List Rule) (p : Program) (q : Query) (journal further : List Label) (c : Config) (w : ℕ) (g : Name) (T : Table)
    (y : GoesOnTo rules p q journal further c (by w Rule.Fork (Place.Goal g) None) T) (f : Found) (is_home : home_of g c.roots ≡ Some f)
    (call : IsAtOnce p c w g f) (list : List Var) (u : ReadsAt (Seen rules p q journal further) c g f list)
    (k : Found) (z : IsAtOnceLater rules call y.table.config k) where
  abbrev nodes : List Node
  nodes = p.templates.nodes

  abbrev run : Run
  run = record { program = p; query = q; journal = journal ++ further }

  pub alike : IsLike f k
  alike = (like rules p c further y.table.config (on rules p q journal further c (by w Rule.Fork (Place.Goal g) None) T y)).1 g f k is_home z.is_home

  here : box_at f.content.name c.roots ≡ Some f
  here = site-box (Place.Goal g) c.roots f (replay-stands rules p q journal c y.replays).once is_home

  there : box_at k.content.name y.table.config.roots ≡ Some k
  there = site-box (Place.Goal g) y.table.config.roots k (replay-stands rules p q (journal ++ further) y.table.config y.table.replays).once z.is_home

  there_named : box_at f.content.name y.table.config.roots ≡ Some k
  there_named = subst (λ (n : Name). box_at n y.table.config.roots ≡ Some k) (sym alike.name) there

  grows : AreToldIn (whole f) (whole k)
  grows = record { each = λ s t m. equations_grow rules p c further y.table.config (on rules p q journal further c (by w Rule.Fork (Place.Goal g) None) T y) f.content.name f k here there_named s t m }

  ports : k.content.ports ≡ f.content.ports
  ports = ports_stay rules p q journal further c y.table.config y.replays y.derives f k here there_named g list u

  row : (r : BoxRow) × (T.box_of f.content.name ≡ Some r) × IsBoxRow T y.table.config.roots k r
  row = row_of T y.table.config y.table.unfolds f.content.name k there_named

  abbrev own : Stored
  own = store_of T f.content.name

  is_own : row.0.store ≡ own
  is_own = sym (ap store_in row.1)

  own_frames : own.frames ≡ k.content.frames
  own_frames = ap (λ (s : Stored). s.frames) (sym is_own) ∙ row.2.frames

  own_ports : ports_in nodes own.ports ≡ f.content.ports
  own_ports = ap (λ (s : Stored). ports_in nodes s.ports) (sym is_own) ∙ ap (λ (ns : List Node). ports_in ns row.0.store.ports) (sym y.table.nodes) ∙ row.2.ports ∙ ports

  -- a part stands in the later box, with the box's own bindings
  part_over : (more : Equations) (part : List (Var × Term)) → PartStands nodes f more part → StandOver nodes (environment k) (whole k ++ more) (joins own.bindings part)
  part_over more part x = subst (λ (n : Name). StandOver nodes (environment k) (whole k ++ more) (joins (store_of T n).bindings part)) (sym alike.name)
      (from_part rules run T y.table k there more part (record { stands = stands_within (whole f) (bindings_in nodes part) more (whole k) grows x.stands }))

  module _ (alternative : Stored) (x : Added) (goals : List (Name × Atom)) (m : CallsBy call alternative x goals) where
    last : call.last ≡ z.again.last
    last = sym z.same_last

    -- the equations down to the box with those of the alternative and some of the body
    grouped : (E : Equations) → whole k ++ (call.last.equations ++ E) ≡ environment k ++ ((k.content.equations ++ z.again.last.equations) ++ E)
    grouped E = append_assoc (environment k) k.content.equations (call.last.equations ++ E)
        ∙ ap (λ (F : Equations). environment k ++ F) (sym (append_assoc k.content.equations call.last.equations E))
        ∙ ap (λ (b : Content). environment k ++ ((k.content.equations ++ b.equations) ++ E)) last

    split : (E more : Equations) → z.again.after.equations ≡ (k.content.equations ++ z.again.last.equations) ++ (E ++ more) → call.after.equations ≡ (f.content.equations ++ call.last.equations) ++ (E ++ more)
    split E more is = z.was_added ∙ ap (λ (F : Equations). f.content.equations ++ F) added ∙ sym (append_assoc f.content.equations call.last.equations (E ++ more))
      where
        added : z.added ≡ call.last.equations ++ (E ++ more)
        added = rest_same k.content.equations z.added (call.last.equations ++ (E ++ more))
            (sym z.is_added ∙ is ∙ append_assoc k.content.equations z.again.last.equations (E ++ more) ∙ ap (λ (b : Content). k.content.equations ++ (b.equations ++ (E ++ more))) (sym last))

    is_told : z.again.after.equations ≡ k.content.equations ++ m.told
    is_told = z.is_added ∙ ap (λ (F : Equations). k.content.equations ++ F) (rest_same f.content.equations z.added m.told (sym z.was_added ∙ m.is_told))

    alternative_over : StandOver nodes (whole k) (whole k ++ call.last.equations) alternative.bindings
    alternative_over D h = stands_over D (whole k) (bindings_in nodes alternative.bindings) call.last.equations h
        (stands_within (whole f) (bindings_in nodes alternative.bindings) call.last.equations (whole k) grows
        (m.alternative_stands (whole f) (same_told_stands (whole f) (whole f) (record { each = λ s t n. n }) (record { each = λ s t n. n }))))

    pub calls_goal : CallsGoal z.again alternative (with_added own x) goals
    calls_goal = record {
      alternative_frames = m.alternative_frames ∙ ap (λ (b : Content). b.frames) last;
      alternative_ports = m.alternative_ports ∙ ap (λ (b : Content). b.ports) last;
      alternative_stands = subst (λ (b : Content). StandOver nodes (whole k) (whole k ++ b.equations) alternative.bindings) last alternative_over;
      between = λ E more is.
          let s : (bindings : List (Var × Term)) × PartStands nodes f (call.last.equations ++ E) bindings = m.between E more (split E more is) in
          (joins own.bindings s.0, subst (λ (F : Equations). StandOver nodes (environment k) F (joins own.bindings s.0)) (grouped E) (part_over (call.last.equations ++ E) s.0 s.1));
      frames = m.names.frames own.frames ∙ (λ i. with_names (last i).frames (own_frames i));
      ports = m.names.ports own.ports own_ports ∙ (λ i. with_ports (last i).ports (sym ports i));
      stands = subst (λ (F : Equations). StandOver nodes (environment k) F (joins own.bindings x.bindings))
          (append_assoc (environment k) k.content.equations m.told ∙ ap (λ (F : Equations). environment k ++ F) (sym is_told)) (part_over m.told x.bindings m.stands);
      body = m.body ∙ sym z.same_left;
    }

pub call_later : (rules : List Rule) → AreInForce rules → (p : Program) (q : Query) (journal further : List Label) (c : Config) (w : ℕ) (g : Name) (T : Table)
    (y : GoesOnTo rules p q journal further c (by w Rule.Fork (Place.Goal g) None) T) → (f : Found) → home_of g c.roots ≡ Some f
    → (call : IsAtOnce p c w g f) (list : List Var) → AreBoundIn c (at_once call) f list → (u : ReadsAt (Seen rules p q journal further) c g f list)
    → (ByBindings _ _ _ _ _ u → EvaluatesQuietly call)
    → (alternative : Stored) (x : Added) (goals : List (Name × Atom)) → CallsBy call alternative x goals
    → (k : Found) × (z : IsAtOnceLater rules call y.table.config k) × (k.content.name ≡ f.content.name) × (names_around k ≡ names_around f) × (told_of_body z.again ≡ told_of_body call)
    × AreBoundIn y.table.config (at_once z.again) k list × CallsGoal z.again alternative (with_added (store_of T f.content.name) x) goals
call_later rules force p q journal further c w g T y f is_home call list bound u quiet alternative x goals m =
    let s : (k : Found) × (z : IsAtOnceLater rules call y.table.config k) × AreBoundIn y.table.config (at_once z.again) k list =
    seen_call rules force p q journal further c y.table.config y.replays y.derives w g f is_home call y.none list bound u quiet in
    let same : IsLike f s.0 = alike rules p q journal further c w g T y f is_home call list u s.0 s.1 in (
      s.0,
      s.1,
      sym same.name,
      sym same.around,
      told_same call s.1.again s.1.same_outcomes,
      s.2,
      calls_goal rules p q journal further c w g T y f is_home call list u s.0 s.1 alternative x goals m,
    )
