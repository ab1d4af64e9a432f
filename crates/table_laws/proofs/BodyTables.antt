-- What the labels of a body make of a table, one after another.
use Rattle.std.proofs.Common.{◌≡◌, ℕ, ◌+◌, ◌≤◌, List, [], ◌∷◌, ◌++◌, length, Bool, true, false, Option, Some, None, refl, sym, ◌∙◌, ap, subst, arith, append_assoc, append-nil}
use Rattle.std.specs.Prelude.{if◌then◌else◌, slice_index}
use Rattle.akl_terms.specs.declared.name.Name.{Name}
use Rattle.akl_terms.specs.declared.name.Place.{Place}
use Rattle.akl_terms.specs.declared.name.Var.{Var}
use Rattle.akl_terms.specs.declared.term.Term.{Term}
use Rattle.akl_terms.specs.Equal.{Equations, IsTold}
use Rattle.akl_terms.specs.Names.{same_name}
use Rattle.akl_terms.specs.Standing.{StandFor}
use Rattle.akl_terms.specs.Tree.{Tree}
use Rattle.akl_model.specs.declared.label.Rule.{Rule}
use Rattle.akl_model.specs.declared.label.Label.{Label}
use Rattle.akl_model.specs.Config.{IsIn, Atom, Content, Goals, no_goals, atom, Config, an_atom, with_goal, or_else, Found, environment, home_of}
use Rattle.akl_model.specs.Conditions.{Makes as ModelMakes}
use Rattle.akl_model.specs.Instances.{drawn_by, with_atoms}
use Rattle.akl_model.specs.Rules.{becomes, telling}
use Rattle.akl_model.specs.Stable.{Allows}
use Rattle.akl_model.specs.Changes.{of_atom, goal_names}
use Rattle.akl_model.specs.Derivations.{raised, Applies}
use Rattle.akl_model.specs.Names.{one_if}
use Rattle.akl_model.specs.Wakes.{names_around}
use Rattle.akl_model.proofs.Finds.{times_inside}
use Rattle.akl_model.proofs.Drawn.{times-with_goal}
use Rattle.akl_model.proofs.NamesKept.{Stand, replay-stands, stands_after}
use Rattle.rational_unify.specs.Solving.{bindings_in}
use Rattle.local_store.specs.Stored.{Stored}
use Rattle.local_store.specs.Chained.{IsSolvedChain}
use Rattle.plan_laws.specs.AtOnce.{by, IsOfGuard, IsAtOnce, AreInForce, with_named, Tells, finishes, leaves, tells, holds}
use Rattle.plan_laws.proofs.CallAlternatives.{Calling}
use Rattle.plan_laws.proofs.Calls.{calling}
use Rattle.plan_laws.proofs.BodyGoals.{named, first_held, first_goes}
use Rattle.plan_laws.proofs.BodySteps.{homed, ToldMore, told_more, IsReduction, reduction, makes_among, holds_by}
use Rattle.table_laws.specs.Rows.{BoxRow, GoalRow, Table, store_in, stores_along, ports_in}
use Rattle.table_laws.specs.Stamped.{Run, IsTableOf}
use Rattle.table_laws.specs.Steps.{Step, tells as tells_box, confirms, joins, numbered, Makes, IsSolvedIf, IsSolvedWhen}
use Rattle.table_laws.specs.Unfolds.{UnchangedSince}
use Rattle.table_laws.specs.Writes.{solved_when, less_name, atom_among, Leads}
use Rattle.table_laws.proofs.Reducing.{names_without}
use Rattle.table_laws.proofs.StepMakes.{step_law}
use Rattle.table_laws.proofs.Stores.{same_stores, unchanged_before}
use Rattle.table_laws.specs.Calls.{StandOver, last_told}
use Rattle.table_laws.proofs.BodyLists.{other_numbers, among_append, later_none, tells_any, none_told}
use Rattle.table_laws.proofs.BodyRows.{stage, row_other, told_stage, confirmed_stage}

-- a table of the run with these labels, which unfolds to a configuration
abbrev pub IsAt : List Rule → Run → List Label → Table → Config → Type 0
IsAt rules r journal Q c = (u : IsTableOf rules (record r { journal = journal }) Q) × (u.config ≡ c)

step_over : (rules : List Rule) (r : Run) (journal : List Label) (l : Label) (c d : Config) (Q V : Table) → IsAt rules r journal Q c → (a : Applies rules r.program c l d) (step : Step) (at : Option ℕ)
    → Makes r.program l (slice_index c.next l.worker) a.site step → IsSolvedWhen at Q a.site step → Leads Q l at a.change.drawn step V → IsAt rules r (journal ++ l ∷ []) V d
step_over rules r journal l c d Q V (u, q) = subst (λ (e : Config). (a : Applies rules r.program e l d) (step : Step) (at : Option ℕ)
    → Makes r.program l (slice_index e.next l.worker) a.site step → IsSolvedWhen at Q a.site step → Leads Q l at a.change.drawn step V → IsAt rules r (journal ++ l ∷ []) V d) q
    (λ a step at makes solved leads. step_law rules (record r { journal = journal }) Q V l d u a step at makes solved leads)

module _ (rules : List Rule) (force : AreInForce rules) (r : Run) (T : Table) (t : IsTableOf rules r T) (w : ℕ) (g : Name) (f : Found) (is_home : home_of g t.config.roots ≡ Some f) (x : IsAtOnce r.program t.config w g f)
    (promoted : ℕ) (next : List ℕ) (marks : Var → ℕ) (fails : Option Name) (r0 : BoxRow) (there : T.box_of f.content.name ≡ Some r0) (first : ℕ) (new_goals : (j : ℕ) → first ≤ j → T.goal_of (named w j) ≡ None)
    (apart : (n : Name) → IsIn n (names_around f) → n ≡ f.content.name → ⊥) where
  abbrev s : Stand t.config
  s = replay-stands rules r.program r.query r.journal t.config t.replays

  abbrev k : Calling
  k = calling rules force r.program t.config s w g f is_home x

  abbrev m : ℕ
  m = drawn_by x.called.clauses + length x.last.body

  abbrev pub stg : Stored → Option ℕ → List Name → List (Name × Atom) → ℕ → ℕ → Table
  stg = stage T g f.content.name promoted next marks fails r0 there

  -- a store is solved in such a table where it is in the first one
  still_solved : (at : Option ℕ) (solved : Bool) (new : Stored) (goals : List (Name × Atom)) → IsSolvedWhen at T f (joins new solved goals) → (store : Stored) (solved_at : Option ℕ) (names : List Name) (atoms : List (Name × Atom)) (told ended : ℕ)
      → T.steps ≤ ended → (e : Found) → e.around ≡ f.around → IsSolvedWhen at (stg store solved_at names atoms told ended) e (tells_box new solved)
  still_solved None solved new goals h store solved_at names atoms told ended late e around = tt
  still_solved (Some j) solved new goals h store solved_at names atoms told ended late e around = (
    let a : j ≤ T.steps = h.0 in let b : T.steps ≤ ended = late in omega arith,
    λ z. over solved (h.1 (unchanged_before T S j (names_around f) (λ n i. record { store = ap store_in (same n i); changed = λ v q. (v, same n i ∙ q, refl) })
        (subst (λ (bs : List Content). UnchangedSince S j (names_around (record f { around = bs }))) around z))),
  )
    where
      S : Table
      S = stg store solved_at names atoms told ended

      same : (n : Name) → IsIn n (names_around f) → (stg store solved_at names atoms told ended).box_of n ≡ T.box_of n
      same n i = row_other T g f.content.name promoted next marks fails r0 there store solved_at names atoms told ended n (apart n i)

      over : (solved : Bool) → IsSolvedIf solved T (names_around f) new → IsSolvedIf solved (stg store solved_at names atoms told ended) (names_around e) new
      over false y = tt
      over true y = subst (λ (bs : List Content). IsSolvedChain T.nodes (stores_along (stg store solved_at names atoms told ended) (names_around (record f { around = bs })) ++ new ∷ [])) (sym around)
          (subst (λ (ss : List Stored). IsSolvedChain T.nodes (ss ++ new ∷ [])) (sym (same_stores T (stg store solved_at names atoms told ended) (names_around f) (λ n i. ap store_in (same n i)))) y)

  -- the last store, and those before it
  module _ (at : Option ℕ) (solved : Bool) (new : Stored) (goals : List (Name × Atom)) (chain : IsSolvedWhen at T f (joins new solved goals)) (begun : Equations) (after : Content)
      (between : (E more : Equations) → after.equations ≡ begun ++ (E ++ more) → (bindings : List (Var × Term)) × StandOver r.program.templates.nodes (environment f) (environment f ++ (begun ++ E)) bindings)
      (ends : StandOver r.program.templates.nodes (environment f) (environment f ++ after.equations) new.bindings) where
    -- the first goal that is left to look at goes
    module _ (next_number : ℕ) (is_next : next_number ≡ slice_index (raised w m t.config.next) w) (b : Content) (n : ℕ) (a : Atom) (rest : List Atom) (gs : Goals) (done : List (Name × Atom)) (its : b.name ≡ f.content.name)
        (st : Stand (homed k m b (with_atoms w n (a ∷ rest) gs))) (from : first ≤ n) (none : times_inside (named w n) gs ≡ 0) (absent : atom_among f.content.name promoted done (named w n) ≡ None)
        (store : Stored) (solved_at : Option ℕ) (told ended : ℕ) (late : T.steps ≤ ended) (journal : List Label)
        (v : IsAt rules r journal (stg store solved_at (goal_names (with_atoms w n (a ∷ rest) gs)) (done ++ numbered w n (a ∷ rest)) told ended) (homed k m b (with_atoms w n (a ∷ rest) gs))) (rule : Rule) (guard : IsOfGuard rule) where
      abbrev i : Name
      i = named w n

      abbrev l : Label
      l = by w rule (Place.Goal i) None

      abbrev G : Goals
      G = with_atoms w n (a ∷ rest) gs

      names_now : less_name i (goal_names (with_atoms w n (a ∷ rest) gs)) ≡ goal_names (with_atoms w (n + 1) rest gs)
      names_now = sym (names_without i G) ∙ ap goal_names (first_goes w n a rest gs none)

      behind : atom_among f.content.name promoted (numbered w (n + 1) rest) i ≡ None
      behind = later_none f.content.name promoted w n (n + 1) (omega arith) rest

      -- with what it tells
      module _ (u v1 : Tree) (makes : ModelMakes (Allows r.program) r.program next_number l (record { around = f.around; content = b; goals = atom i a no_goals }) (becomes (telling u v1 b) no_goals 0))
          (at_now : Option ℕ) (solved_now : Bool) (store_now : Stored) (is_solved : IsSolvedWhen at_now T f (joins store_now solved_now goals)) (frames : store_now.frames ≡ b.frames) (ports : ports_in r.program.templates.nodes store_now.ports ≡ b.ports)
          (stands : StandOver r.program.templates.nodes (environment f) (environment f ++ (b.equations ++ record { left = u; right = v1 } ∷ [])) store_now.bindings) where
        its_makes : ModelMakes (Allows r.program) r.program (slice_index (raised w m t.config.next) w) l (record { around = f.around; content = b; goals = atom i a no_goals }) (becomes (telling u v1 b) no_goals 0)
        its_makes = subst (λ (o : ℕ). ModelMakes (Allows r.program) r.program o l (record { around = f.around; content = b; goals = atom i a no_goals }) (becomes (telling u v1 b) no_goals 0)) is_next makes

        abbrev red : IsReduction k m b (with_atoms w n (a ∷ rest) gs) (by w rule (Place.Goal (named w n)) None) (telling u v1 b) (with_atoms w (n + 1) rest gs)
        red = reduction k m b n a rest gs its st rule (telling u v1 b) refl refl refl guard its_makes

        pub told_on : IsAt rules r (journal ++ l ∷ []) (stg store_now (solved_when at_now solved_now) (goal_names (with_atoms w (n + 1) rest gs)) (done ++ numbered w (n + 1) rest) (ended + 1) (ended + 1)) (homed k m (telling u v1 b) (with_atoms w (n + 1) rest gs))
        told_on = subst (λ (ns : List Name). IsAt rules r (journal ++ l ∷ []) (stg store_now (solved_when at_now solved_now) ns (done ++ numbered w (n + 1) rest) (ended + 1) (ended + 1)) (homed k m (telling u v1 b) (with_atoms w (n + 1) rest gs))) names_now
            (step_over rules r journal l (homed k m b G) (homed k m (telling u v1 b) (with_atoms w (n + 1) rest gs)) (stg store solved_at (goal_names G) (done ++ numbered w n (a ∷ rest)) told ended)
            (stg store_now (solved_when at_now solved_now) (less_name i (goal_names G)) (done ++ numbered w (n + 1) rest) (ended + 1) (ended + 1)) v red.applies (tells_box store_now solved_now) at_now
            (subst (λ (e : Found). Makes r.program l (slice_index (raised w m t.config.next) w) e (tells_box store_now solved_now)) (sym red.site) (
              i,
              refl,
              record {
                content = telling u v1 b;
                drawn = 0;
                reduces = record { goal = a; held = first_held w n a rest gs none; makes = makes_among r.program w (slice_index (raised w m t.config.next) w) rule i a f.around b (telling u v1 b) G guard (first_held w n a rest gs none) its_makes };
                first = record { left = u; right = v1 };
                more = [];
                equations = refl;
                frames = frames;
                ports = ports;
                stands = λ D h. subst (λ (E : Equations). StandFor (IsTold (D ++ bindings_in r.program.templates.nodes store_now.bindings)) (IsTold E)) (sym (append_assoc (environment f) b.equations (record { left = u; right = v1 } ∷ []))) (stands D h);
              },
            ))
            (still_solved at_now solved_now store_now goals is_solved store solved_at (goal_names G) (done ++ numbered w n (a ∷ rest)) told ended late red.applies.site (ap (λ (e : Found). e.around) red.site))
            (told_stage T g f.content.name promoted next marks fails r0 there i a done (numbered w (n + 1) rest) absent behind (new_goals n from) store solved_at (goal_names G) told ended store_now (solved_when at_now solved_now) w red.applies.change.drawn red.drawn))

      -- or with nothing
      module _ (makes : ModelMakes (Allows r.program) r.program next_number l (record { around = f.around; content = b; goals = atom i a no_goals }) (becomes b no_goals 0)) where
        holds_makes : ModelMakes (Allows r.program) r.program (slice_index (raised w m t.config.next) w) l (record { around = f.around; content = b; goals = atom i a no_goals }) (becomes b no_goals 0)
        holds_makes = subst (λ (o : ℕ). ModelMakes (Allows r.program) r.program o l (record { around = f.around; content = b; goals = atom i a no_goals }) (becomes b no_goals 0)) is_next makes

        abbrev held_red : IsReduction k m b (with_atoms w n (a ∷ rest) gs) (by w rule (Place.Goal (named w n)) None) b (with_atoms w (n + 1) rest gs)
        held_red = reduction k m b n a rest gs its st rule b refl refl refl guard holds_makes

        pub held_on : IsAt rules r (journal ++ l ∷ []) (stg store solved_at (goal_names (with_atoms w (n + 1) rest gs)) (done ++ numbered w (n + 1) rest) told (ended + 1)) (homed k m b (with_atoms w (n + 1) rest gs))
        held_on = subst (λ (ns : List Name). IsAt rules r (journal ++ l ∷ []) (stg store solved_at ns (done ++ numbered w (n + 1) rest) told (ended + 1)) (homed k m b (with_atoms w (n + 1) rest gs))) names_now
            (step_over rules r journal l (homed k m b G) (homed k m b (with_atoms w (n + 1) rest gs)) (stg store solved_at (goal_names G) (done ++ numbered w n (a ∷ rest)) told ended)
            (stg store solved_at (less_name i (goal_names G)) (done ++ numbered w (n + 1) rest) told (ended + 1)) v held_red.applies confirms None
            (subst (λ (e : Found). Makes r.program l (slice_index (raised w m t.config.next) w) e confirms) (sym held_red.site) (
              holds_by r.program w (slice_index (raised w m t.config.next) w) rule i a f.around b guard holds_makes,
              (
                i,
                refl,
                record { goal = a; held = first_held w n a rest gs none; makes = makes_among r.program w (slice_index (raised w m t.config.next) w) rule i a f.around b b G guard (first_held w n a rest gs none) holds_makes },
              ),
            ))
            tt
            (confirmed_stage T g f.content.name promoted next marks fails r0 there i a done (numbered w (n + 1) rest) absent behind (new_goals n from) store solved_at (goal_names G) told ended))

    -- all of them
    pub body_tables : (next_number : ℕ) → next_number ≡ slice_index (raised w m t.config.next) w → (b : Content) (n : ℕ) (body : List Atom) (ls : List Label) (b2 : Content) (left : List (Name × Atom)) → (y : Tells r.program w next_number f.around b n body ls b2 left)
        → b2 ≡ after → (gs : Goals) (done : List (Name × Atom)) → b.name ≡ f.content.name → Stand (homed k m b (with_atoms w n body gs)) → first ≤ n → ((j : ℕ) → n ≤ j → times_inside (named w j) gs ≡ 0)
        → ((j : ℕ) → n ≤ j → atom_among f.content.name promoted done (named w j) ≡ None) → (E : Equations) → b.equations ≡ begun ++ E → new.frames ≡ b.frames → ports_in r.program.templates.nodes new.ports ≡ b.ports
        → (store : Stored) (solved_at : Option ℕ) (told ended : ℕ) → T.steps ≤ ended → (tells_any r.program w next_number f.around b n body ls b2 left y ≡ false → (store ≡ new) × (solved_at ≡ solved_when at solved)) → (journal : List Label)
        → IsAt rules r journal (stg store solved_at (goal_names (with_atoms w n body gs)) (done ++ numbered w n body) told ended) (homed k m b (with_atoms w n body gs))
        → IsAt rules r (journal ++ ls) (stg new (solved_when at solved) (goal_names (with_named left gs)) (done ++ left) (last_told r.program w next_number f.around b n body ls b2 left y ended told) (ended + length ls)) (homed k m b2 (with_named left gs))
    body_tables nx en _ _ _ _ _ _ (finishes b n) e2 gs done its st from none absent E eq frames ports store solved_at told ended late fin journal v =
        subst (λ (o : ℕ). IsAt rules r (journal ++ []) (stg new (solved_when at solved) (goal_names gs) (done ++ []) told o) (homed k m b gs)) (let q : ended ≡ ended + 0 = omega arith in q)
        (subst (λ (js : List Label). IsAt rules r js (stg new (solved_when at solved) (goal_names gs) (done ++ []) told ended) (homed k m b gs)) (sym (append-nil journal))
        (subst (λ (o : Option ℕ). IsAt rules r journal (stg new o (goal_names gs) (done ++ []) told ended) (homed k m b gs)) (fin refl).1
        (subst (λ (o : Stored). IsAt rules r journal (stg o solved_at (goal_names gs) (done ++ []) told ended) (homed k m b gs)) (fin refl).0 v)))
    body_tables nx en _ _ _ _ _ _ (leaves b n a rest ls b2 left y) e2 gs done its st from none absent E eq frames ports store solved_at told ended late fin journal v =
        subst (λ (xs : List (Name × Atom)). IsAt rules r (journal ++ ls)
        (stg new (solved_when at solved) (goal_names (with_named left (with_goal (named w n) (an_atom a) gs))) xs (last_told r.program w nx f.around b (n + 1) rest ls b2 left y ended told) (ended + length ls)) (homed k m b2 (with_named left (with_goal (named w n) (an_atom a) gs))))
        (append_assoc done ((named w n, a) ∷ []) left)
        (body_tables nx en b (n + 1) rest ls b2 left y e2 (with_goal (named w n) (an_atom a) gs) (done ++ (named w n, a) ∷ []) its st (omega arith) none_now absent_now E eq frames ports store solved_at told ended late fin journal
        (subst (λ (xs : List (Name × Atom)). IsAt rules r journal (stg store solved_at (goal_names (with_atoms w n (a ∷ rest) gs)) xs told ended) (homed k m b (with_atoms w n (a ∷ rest) gs))) (sym (append_assoc done ((named w n, a) ∷ []) (numbered w (n + 1) rest))) v))
      where
        none_now : (j : ℕ) → n + 1 ≤ j → times_inside (named w j) (with_goal (named w n) (an_atom a) gs) ≡ 0
        none_now j h =
            let e : times_inside (named w j) (with_goal (named w n) (an_atom a) gs) ≡ one_if (same_name (named w j) (named w n)) + (0 + times_inside (named w j) gs) = times-with_goal (named w j) (named w n) (an_atom a) gs in
            let u : one_if (same_name (named w j) (named w n)) ≡ 0 = ap one_if (other_numbers w n j (omega arith)) in
            let z : times_inside (named w j) gs ≡ 0 = none j (omega arith) in
            omega arith

        absent_now : (j : ℕ) → n + 1 ≤ j → atom_among f.content.name promoted (done ++ (named w n, a) ∷ []) (named w j) ≡ None
        absent_now j h = among_append f.content.name promoted done ((named w n, a) ∷ []) (named w j)
            ∙ ap (λ (o : Option GoalRow). or_else o (atom_among f.content.name promoted ((named w n, a) ∷ []) (named w j))) (absent j (omega arith))
            ∙ ap (λ (c : Bool). if c then Some (record { home = f.content.name; shape = of_atom a; changed = promoted }) else None) (other_numbers w n j (omega arith))
    body_tables nx en _ _ _ _ _ _ (tells rule b n a u v1 rest ls b2 left guard makes y) e2 gs done its st from none absent E eq frames ports store solved_at told ended late fin journal v =
        on (tells_any r.program w nx f.around (telling u v1 b) (n + 1) rest ls b2 left y) refl
        (λ store_now solved_now fi q. body_tables nx en (telling u v1 b) (n + 1) rest ls b2 left y e2 gs done its stand_on (omega arith) (λ j h. none j (omega arith)) (λ j h. absent j (omega arith)) (E ++ record { left = u; right = v1 } ∷ []) equations frames ports
        store_now solved_now (ended + 1) (ended + 1) (omega arith) fi (journal ++ by w rule (Place.Goal (named w n)) None ∷ []) q)
      where
        more : ToldMore r.program w nx f.around (telling u v1 b) b2
        more = told_more r.program w nx f.around (telling u v1 b) (n + 1) rest ls b2 left y

        equations : (telling u v1 b).equations ≡ begun ++ (E ++ record { left = u; right = v1 } ∷ [])
        equations = ap (λ (F : Equations). F ++ record { left = u; right = v1 } ∷ []) eq ∙ append_assoc begun E (record { left = u; right = v1 } ∷ [])

        stand_on : Stand (homed k m (telling u v1 b) (with_atoms w (n + 1) rest gs))
        stand_on = stands_after rules r.program (homed k m b (with_atoms w n (a ∷ rest) gs)) (by w rule (Place.Goal (named w n)) None) (homed k m (telling u v1 b) (with_atoms w (n + 1) rest gs)) st
            (reduction k m b n a rest gs its st rule (telling u v1 b) refl refl refl guard (subst (λ (o : ℕ). ModelMakes (Allows r.program) r.program o (by w rule (Place.Goal (named w n)) None) (record { around = f.around; content = b; goals = atom (named w n) a no_goals }) (becomes (telling u v1 b) no_goals 0)) en makes)).applies

        on_with : (store_now : Stored) (at_now : Option ℕ) (solved_now : Bool) → IsSolvedWhen at_now T f (joins store_now solved_now goals) → store_now.frames ≡ b.frames → ports_in r.program.templates.nodes store_now.ports ≡ b.ports
            → StandOver r.program.templates.nodes (environment f) (environment f ++ (b.equations ++ record { left = u; right = v1 } ∷ [])) store_now.bindings
            → (tells_any r.program w nx f.around (telling u v1 b) (n + 1) rest ls b2 left y ≡ false → (store_now ≡ new) × (solved_when at_now solved_now ≡ solved_when at solved))
            → ((store_now : Stored) (solved_now : Option ℕ) → (tells_any r.program w nx f.around (telling u v1 b) (n + 1) rest ls b2 left y ≡ false → (store_now ≡ new) × (solved_now ≡ solved_when at solved))
            → IsAt rules r (journal ++ by w rule (Place.Goal (named w n)) None ∷ []) (stg store_now solved_now (goal_names (with_atoms w (n + 1) rest gs)) (done ++ numbered w (n + 1) rest) (ended + 1) (ended + 1)) (homed k m (telling u v1 b) (with_atoms w (n + 1) rest gs))
            → IsAt rules r ((journal ++ by w rule (Place.Goal (named w n)) None ∷ []) ++ ls) (stg new (solved_when at solved) (goal_names (with_named left gs)) (done ++ left) (last_told r.program w nx f.around (telling u v1 b) (n + 1) rest ls b2 left y (ended + 1) (ended + 1)) (ended + 1 + length ls)) (homed k m b2 (with_named left gs)))
            → IsAt rules r (journal ++ by w rule (Place.Goal (named w n)) None ∷ ls) (stg new (solved_when at solved) (goal_names (with_named left gs)) (done ++ left) (last_told r.program w nx f.around (telling u v1 b) (n + 1) rest ls b2 left y (ended + 1) (ended + 1)) (ended + length (by w rule (Place.Goal (named w n)) None ∷ ls))) (homed k m b2 (with_named left gs))
        on_with store_now at_now solved_now good fr po sta fi go =
            subst (λ (js : List Label). IsAt rules r js (stg new (solved_when at solved) (goal_names (with_named left gs)) (done ++ left) (last_told r.program w nx f.around (telling u v1 b) (n + 1) rest ls b2 left y (ended + 1) (ended + 1)) (ended + length (by w rule (Place.Goal (named w n)) None ∷ ls))) (homed k m b2 (with_named left gs)))
            (append_assoc journal (by w rule (Place.Goal (named w n)) None ∷ []) ls)
            (subst (λ (o : ℕ). IsAt rules r ((journal ++ by w rule (Place.Goal (named w n)) None ∷ []) ++ ls) (stg new (solved_when at solved) (goal_names (with_named left gs)) (done ++ left) (last_told r.program w nx f.around (telling u v1 b) (n + 1) rest ls b2 left y (ended + 1) (ended + 1)) o) (homed k m b2 (with_named left gs)))
            (let q : ended + 1 + length ls ≡ ended + length (by w rule (Place.Goal (named w n)) None ∷ ls) = omega arith in q)
            (go store_now (solved_when at_now solved_now) fi
            (told_on nx en b n a rest gs done its st from (none n (omega arith)) (absent n (omega arith)) store solved_at told ended late journal v rule guard u v1 makes at_now solved_now store_now good fr po sta)))

        on : (c : Bool) → tells_any r.program w nx f.around (telling u v1 b) (n + 1) rest ls b2 left y ≡ c
            → ((store_now : Stored) (solved_now : Option ℕ) → (tells_any r.program w nx f.around (telling u v1 b) (n + 1) rest ls b2 left y ≡ false → (store_now ≡ new) × (solved_now ≡ solved_when at solved))
            → IsAt rules r (journal ++ by w rule (Place.Goal (named w n)) None ∷ []) (stg store_now solved_now (goal_names (with_atoms w (n + 1) rest gs)) (done ++ numbered w (n + 1) rest) (ended + 1) (ended + 1)) (homed k m (telling u v1 b) (with_atoms w (n + 1) rest gs))
            → IsAt rules r ((journal ++ by w rule (Place.Goal (named w n)) None ∷ []) ++ ls) (stg new (solved_when at solved) (goal_names (with_named left gs)) (done ++ left) (last_told r.program w nx f.around (telling u v1 b) (n + 1) rest ls b2 left y (ended + 1) (ended + 1)) (ended + 1 + length ls)) (homed k m b2 (with_named left gs)))
            → IsAt rules r (journal ++ by w rule (Place.Goal (named w n)) None ∷ ls) (stg new (solved_when at solved) (goal_names (with_named left gs)) (done ++ left) (last_told r.program w nx f.around (telling u v1 b) (n + 1) rest ls b2 left y (ended + 1) (ended + 1)) (ended + length (by w rule (Place.Goal (named w n)) None ∷ ls))) (homed k m b2 (with_named left gs))
        on true q go =
            let z : (bindings : List (Var × Term)) × StandOver r.program.templates.nodes (environment f) (environment f ++ (begun ++ (E ++ record { left = u; right = v1 } ∷ []))) bindings = between (E ++ record { left = u; right = v1 } ∷ []) more.more
            (ap (λ (c : Content). c.equations) (sym e2) ∙ more.equations ∙ ap (λ (F : Equations). F ++ more.more) equations ∙ append_assoc begun (E ++ record { left = u; right = v1 } ∷ []) more.more) in
            on_with (record new { bindings = z.0 }) None false tt frames ports (subst (λ (F : Equations). StandOver r.program.templates.nodes (environment f) (environment f ++ F) z.0) (sym equations) z.1) (λ h. let c : true ≡ false = sym q ∙ h in cc) go
        on false q go = on_with new at solved chain frames ports
            (subst (λ (F : Equations). StandOver r.program.templates.nodes (environment f) (environment f ++ F) new.bindings) (ap (λ (c : Content). c.equations) (sym e2 ∙ none_told r.program w nx f.around (telling u v1 b) (n + 1) rest ls b2 left y q)) ends) (λ h. (refl, refl)) go
    body_tables nx en _ _ _ _ _ _ (holds rule b n a rest ls b2 left guard makes y) e2 gs done its st from none absent E eq frames ports store solved_at told ended late fin journal v =
        subst (λ (js : List Label). IsAt rules r js (stg new (solved_when at solved) (goal_names (with_named left gs)) (done ++ left) (last_told r.program w nx f.around b (n + 1) rest ls b2 left y (ended + 1) told) (ended + length (by w rule (Place.Goal (named w n)) None ∷ ls))) (homed k m b2 (with_named left gs)))
        (append_assoc journal (by w rule (Place.Goal (named w n)) None ∷ []) ls)
        (subst (λ (o : ℕ). IsAt rules r ((journal ++ by w rule (Place.Goal (named w n)) None ∷ []) ++ ls) (stg new (solved_when at solved) (goal_names (with_named left gs)) (done ++ left) (last_told r.program w nx f.around b (n + 1) rest ls b2 left y (ended + 1) told) o) (homed k m b2 (with_named left gs)))
        (let q : ended + 1 + length ls ≡ ended + length (by w rule (Place.Goal (named w n)) None ∷ ls) = omega arith in q)
        (body_tables nx en b (n + 1) rest ls b2 left y e2 gs done its stand_on (omega arith) (λ j h. none j (omega arith)) (λ j h. absent j (omega arith)) E eq frames ports store solved_at told (ended + 1) (omega arith) fin (journal ++ by w rule (Place.Goal (named w n)) None ∷ [])
        (held_on nx en b n a rest gs done its st from (none n (omega arith)) (absent n (omega arith)) store solved_at told ended late journal v rule guard makes)))
      where
        stand_on : Stand (homed k m b (with_atoms w (n + 1) rest gs))
        stand_on = stands_after rules r.program (homed k m b (with_atoms w n (a ∷ rest) gs)) (by w rule (Place.Goal (named w n)) None) (homed k m b (with_atoms w (n + 1) rest gs)) st
            (reduction k m b n a rest gs its st rule b refl refl refl guard (subst (λ (o : ℕ). ModelMakes (Allows r.program) r.program o (by w rule (Place.Goal (named w n)) None) (record { around = f.around; content = b; goals = atom (named w n) a no_goals }) (becomes b no_goals 0)) en makes)).applies
