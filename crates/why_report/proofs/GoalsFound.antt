-- What is found of the goals of a root box is what they wait on.
use Rattle.std.proofs.Common.{◌≡◌, ℕ, ◌+◌, ◌<◌, Bool, true, false, List, [], ◌∷◌, ◌++◌, length, map, Option, Some, None, refl, sym, ◌∙◌, ap, subst, inl, inr, take, arith, slice_index_or}
use Rattle.std.specs.List.{AllByRecursion}
use Rattle.std.specs.Prelude.{if◌then◌else◌, is_some, IsSome}
use Rattle.akl_terms.specs.declared.name.Name.{Name}
use Rattle.akl_terms.specs.declared.name.Var.{Var}
use Rattle.akl_terms.specs.declared.name.Place.{Place}
use Rattle.akl_terms.specs.declared.program.Goal.{Goal}
use Rattle.akl_terms.specs.declared.program.Program.{Program}
use Rattle.akl_terms.specs.Names.{same_name}
use Rattle.akl_terms.specs.Equal.{IsConsistentBy}
use Rattle.akl_terms.proofs.SameNames.{same_name-refl}
use Rattle.akl_terms.proofs.StandingLaws.{StandFor-on}
use Rattle.akl_model.specs.Config.{IsIn, Content, Boxes, Goals, no_goals, atom, choice, Config, Held, an_atom, a_choice, held_in, Found, box_at}
use Rattle.akl_model.specs.Changes.{goal_names}
use Rattle.akl_model.specs.Derivations.{IsQuietEnd}
use Rattle.akl_model.specs.Instances.{start}
use Rattle.akl_model.proofs.NamesKept.{replay-stands, box-itself}
use Rattle.akl_model.proofs.Results.{Derives-one}
use Rattle.step_laws.proofs.Whereabouts.{found_in}
use Rattle.rational_unify.proofs.Taking.{take-next}
use Rattle.local_store.specs.Stored.{Stored}
use Rattle.local_store.specs.Chained.{ToldBy, equations_of}
use Rattle.class_members.specs.Members.{outermost_of}
use Rattle.table_laws.specs.Rows.{BoxRow, GoalRow}
use Rattle.table_laws.specs.Unfolds.{IsBoxRow}
use Rattle.table_laws.specs.Stamped.{goal_stamp}
use Rattle.table_laws.proofs.Frame.{row_of}
use Rattle.box_tree.specs.declared.view.Alternative.{Alternative}
use Rattle.box_tree.specs.declared.view.Sight.{Sight}
use Rattle.box_tree.specs.declared.entries.HeldOp.{HeldOp}
use Rattle.box_tree.specs.Tables.{all_rules, op_held, table_of, goals_in}
use Rattle.box_tree.specs.Views.{ViewValue, IsViewOf, is_there}
use Rattle.table_laws.proofs.StoreChains.{told_stands}
use Rattle.guard_plan.proofs.Sites.{goal_there, found, whole_stands, shows_at}
use Rattle.step_commit.specs.Cores.{CoreValue, TableIn}
use Rattle.root_answers.specs.Roots.{OfRoot, root_box}
use Rattle.why_laws.specs.Waiting.{IsWaitingOn, AreWaitingAt, AreWaiting}
use Rattle.why_report.specs.declared.waiting.Waiting.{Waiting}
use Rattle.why_report.specs.Classes.{AreOldest}
use Rattle.why_report.specs.Sights.{IsGoalView, AreAwaited, AreTouchedBy}
use Rattle.why_report.specs.Waits.{values, WaitsOn}
use Rattle.why_report.proofs.NamedTexts.{all_push}
use Rattle.why_report.proofs.RootGoals.{all_consistent, is_root, one_store, waits_on, each_awaited, every_awaited}
use Rattle.why_report.proofs.AlternativesSeen.{each_touched, every_touched}

-- a view at which no place is ready
module _ (v : ViewValue) (i : IsViewOf v) (quiet : IsQuietEnd all_rules v.table.program i.table.config) where
  pub stores_consistent : IsConsistentBy (ToldBy v.table.program.templates.nodes v.stores)
  stores_consistent = (StandFor-on (told_stands v.table.program.templates.nodes v.stores) (whole_stands v i)).back
      (all_consistent v i quiet i.site (found_in i.site.content.name i.table.config.roots i.site (found v i)))

module _ (c : CoreValue) (v : ViewValue) (tables : v.table ≡ c.table) (journals : v.journal ≡ c.journal) where
  abbrev pub seen : CoreValue
  seen = record c { table = v.table; journal = v.journal }

  same_core : record c { table = v.table; journal = v.journal } ≡ c
  same_core = λ j. record c { table = tables j; journal = journals j }

  pub quiet_seen : (i : IsViewOf v) → ((t : TableIn c) → IsQuietEnd all_rules c.table.program t.config) → IsQuietEnd all_rules v.table.program i.table.config
  quiet_seen i quiet = subst (λ (d : CoreValue). (t : TableIn d) → IsQuietEnd all_rules d.table.program t.config) (sym same_core) quiet i.table

  -- what holds in the view's own configuration holds in the core's
  pub of_root : (i : IsViewOf v) (n : Name) (P : Program → Content → Goals → Type 0) → ((b : Content) (gs : Goals) → box_at n i.table.config.roots ≡ Some (root_box b gs) → P v.table.program b gs) → OfRoot c n (P c.table.program)
  of_root i n P k = subst (λ (d : CoreValue). OfRoot d n (P d.table.program)) same_core
      (λ t b gs there. k b gs (subst (λ (m : Config). box_at n m.roots ≡ Some (root_box b gs))
      (Derives-one all_rules v.table.program (start v.table.program v.table.query) t.config i.table.config v.journal t.replays.derives i.table.replays.derives) there))

module _ (c : CoreValue) (v : ViewValue) (i : IsViewOf v) (g : Name) (w : IsGoalView c g v) (quiet : (t : TableIn c) → IsQuietEnd all_rules c.table.program t.config) where
  here : IsQuietEnd all_rules v.table.program i.table.config
  here = quiet_seen c v w.table w.journal i quiet

  Waits : List Var → Type 0
  Waits list = (n : Name) (b : Content) (gs : Goals) (h : Held) → box_at n i.table.config.roots ≡ Some (root_box b gs) → held_in g gs ≡ Some h → IsWaitingOn v.table.program (root_box b gs) g list

  in_core : (list : List Var) → ((n : Name) (b : Content) (gs : Goals) (h : Held) → box_at n i.table.config.roots ≡ Some (root_box b gs) → held_in g gs ≡ Some h → IsWaitingOn v.table.program (root_box b gs) g list) → WaitsOn c g list
  in_core list k t n b gs h there held = of_root c v w.table w.journal i n (λ p d hs. (h : Held) → held_in g hs ≡ Some h → IsWaitingOn p (root_box d hs) g list) (λ d hs e h2 f. k n d hs h2 e f) t b gs there h held

  module _ (of list : List Var) (o : AreOldest (outermost_of v.table.program.templates.nodes v.stores) of list) where
    all_oldest : take 1 v.stores ≡ v.stores → AreOldest (equations_of v.table.program.templates.nodes v.stores) of list
    all_oldest e = subst (λ (ss : List Stored). AreOldest (equations_of v.table.program.templates.nodes ss) of list) e o

    pub atom_waits : (a : Goal) → v.sight ≡ Sight.Atom a → AreAwaited v.table.program v.stores a of → WaitsOn c g list
    atom_waits a sees k = in_core list (λ n b gs h there held. waits_on v i here g w.place n b gs h there held of list (all_oldest (one_store v i here g w.place n b gs h there held))
        (each_awaited v i here g w.place n b gs h there held a (shows_at v i (Place.Goal g) (Sight.Atom a) w.place sees) of k)
        (every_awaited v i here g w.place n b gs h there held a (shows_at v i (Place.Goal g) (Sight.Atom a) w.place sees) of k))

    pub choice_waits : (op : HeldOp) → v.sight ≡ Sight.Choice op → AreTouchedBy c (map (λ (a : Alternative). a.name) v.alternatives) of → WaitsOn c g list
    choice_waits op sees k = in_core list (λ n b gs h there held.
        let shown : (bs : Boxes) × (held_in g i.site.goals ≡ Some (a_choice (op_held v.table.program.templates.nodes op) bs)) = shows_at v i (Place.Goal g) (Sight.Choice op) w.place sees in
        let holds : held_in g gs ≡ Some (a_choice (op_held v.table.program.templates.nodes op) shown.0) =
        subst (λ (f : Found). held_in g f.goals ≡ Some (a_choice (op_held v.table.program.templates.nodes op) shown.0)) (is_root v i here g w.place n b gs h there held) shown.1 in
        waits_on v i here g w.place n b gs h there held of list (all_oldest (one_store v i here g w.place n b gs h there held))
        (each_touched v i here g w.place n b gs h there held (op_held v.table.program.templates.nodes op) shown.0 holds c w.table w.journal of k)
        (every_touched v i here g w.place n b gs h there held (op_held v.table.program.templates.nodes op) shown.0 holds c w.table w.journal of k))

  -- no box stands at a goal's place
  pub box_waits : (list : List Var) (failing : Option Name) → v.sight ≡ Sight.Box failing → WaitsOn c g list
  box_waits list failing sees = absurd (shows_at v i (Place.Goal g) (Sight.Box failing) w.place sees)

-- a goal that has gone stands in no box
pub gone_waits : (c : CoreValue) (g : Name) → is_there (table_of c.table) (Place.Goal g) ≡ false → (list : List Var) → WaitsOn c g list
gone_waits c g e list t n b gs h there held = absurd (on ((table_of c.table).goal_of g) e
    (goal_there (table_of c.table) t.config (replay-stands all_rules c.table.program c.table.query c.journal t.config t.replays) t.unfolds (root_box b gs)
    (subst (λ (m : Name). box_at m t.config.roots ≡ Some (root_box b gs)) (box-itself n t.config.roots (root_box b gs) there) there) g h held))
  where
    on : (o : Option GoalRow) → is_some o ≡ false → IsSome (goal_stamp o) → ⊥
    on None e s = cc
    on (Some r) e s = cc

-- the goals of a box are directly in it
named_held : (g : Name) (gs : Goals) → IsIn g (goal_names gs) → (h : Held) × (held_in g gs ≡ Some h)
named_held g no_goals m = absurd m
named_held g (atom k a gs) m = on (same_name g k) refl m (named_held g gs)
  where
    on : (t : Bool) → same_name g k ≡ t → IsIn g (k ∷ goal_names gs) → (IsIn g (goal_names gs) → (h : Held) × (held_in g gs ≡ Some h)) → (h : Held) × ((if t then Some (an_atom a) else held_in g gs) ≡ Some h)
    on true s l deeper = (an_atom a, refl)
    on false s (inl e) deeper = let z : true ≡ false = sym (same_name-refl g) ∙ ap (same_name g) e ∙ s in cc
    on false s (inr l) deeper = deeper l
named_held g (choice k o bs gs) m = on (same_name g k) refl m (named_held g gs)
  where
    on : (t : Bool) → same_name g k ≡ t → IsIn g (k ∷ goal_names gs) → (IsIn g (goal_names gs) → (h : Held) × (held_in g gs ≡ Some h)) → (h : Held) × ((if t then Some (a_choice o bs) else held_in g gs) ≡ Some h)
    on true s l deeper = (a_choice o bs, refl)
    on false s (inl e) deeper = let z : true ≡ false = sym (same_name-refl g) ∙ ap (same_name g) e ∙ s in cc
    on false s (inr l) deeper = deeper l

module _ (c : CoreValue) (root : Name) where
  abbrev pub goal_of : Waiting → Name
  goal_of w = w.goal

  listed : (t : TableIn c) (b : Content) (gs : Goals) → box_at root t.config.roots ≡ Some (root_box b gs) → (ws : List Waiting) → AllByRecursion (λ (w : Waiting). WaitsOn c w.goal w.on.items) ws
      → ((g : Name) → IsIn g (map (λ (w : Waiting). w.goal) ws) → (h : Held) × (held_in g gs ≡ Some h)) → AreWaitingAt c.table.program (root_box b gs) (map (λ (w : Waiting). w.goal) ws) (values ws)
  listed t b gs there [] a h = tt
  listed t b gs there (w ∷ ws) a h = let k : (h : Held) × (held_in w.goal gs ≡ Some h) = h w.goal (inl refl) in
      (refl, a.0 t root b gs k.0 there k.1, listed t b gs there ws a.1 (λ g m. h g (inr m)))

  pub all_wait : (ws : List Waiting) → map (λ (w : Waiting). w.goal) ws ≡ goals_in ((table_of c.table).box_of root) → AllByRecursion (λ (w : Waiting). WaitsOn c w.goal w.on.items) ws
      → OfRoot c root (λ b gs. AreWaiting c.table.program (root_box b gs) (values ws))
  all_wait ws e a t b gs there =
      let r : (r : BoxRow) × ((table_of c.table).box_of root ≡ Some r) × IsBoxRow (table_of c.table) t.config.roots (root_box b gs) r = row_of (table_of c.table) t.config t.unfolds root (root_box b gs) there in
      let names : map (λ (w : Waiting). w.goal) ws ≡ goal_names gs = e ∙ ap goals_in r.1 ∙ r.2.goals in
      subst (λ (ns : List Name). AreWaitingAt c.table.program (root_box b gs) ns (values ws)) names (listed t b gs there ws a (λ g m. named_held g gs (subst (IsIn g) names m)))

goals_push : (ws : List Waiting) (w : Waiting) → map (λ (w : Waiting). w.goal) (ws ++ w ∷ []) ≡ map (λ (w : Waiting). w.goal) ws ++ w.goal ∷ []
goals_push [] w = refl
goals_push (v ∷ ws) w = ap (λ (l : List Name). v.goal ∷ l) (goals_push ws w)

-- one goal after another
pub waiting_push : (c : CoreValue) (goals : List Name) (i : ℕ) (d : Name) → i < length goals → (ws : List Waiting) (w : Waiting)
    → (map (λ (w : Waiting). w.goal) ws ≡ take i goals) × AllByRecursion (λ (w : Waiting). WaitsOn c w.goal w.on.items) ws → w.goal ≡ slice_index_or goals i d → WaitsOn c (slice_index_or goals i d) w.on.items
    → (map (λ (w : Waiting). w.goal) (ws ++ w ∷ []) ≡ take (i + 1) goals) × AllByRecursion (λ (w : Waiting). WaitsOn c w.goal w.on.items) (ws ++ w ∷ [])
waiting_push c goals i d l ws w h e k = (
  goals_push ws w ∙ ap (λ (ns : List Name). ns ++ w.goal ∷ []) h.0 ∙ ap (λ (n : Name). take i goals ++ n ∷ []) e ∙ sym (take-next goals i (i + 1) d l (omega arith)),
  all_push (λ (w : Waiting). WaitsOn c w.goal w.on.items) ws w h.1 (subst (λ (n : Name). WaitsOn c n w.on.items) (sym e) k),
)
