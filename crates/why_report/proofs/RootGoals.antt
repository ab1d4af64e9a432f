-- What is seen of a goal that stands directly in a root box, where no place is ready.
use Rattle.std.proofs.Common.{◌≡◌, List, [], ◌++◌, take, Some, refl, sym, ◌∙◌, ap, subst, inl, inr}
use Rattle.akl_terms.specs.declared.name.Name.{Name}
use Rattle.akl_terms.specs.declared.name.Var.{Var}
use Rattle.akl_terms.specs.declared.name.Place.{Place}
use Rattle.akl_terms.specs.declared.term.Node.{Node}
use Rattle.akl_terms.specs.declared.program.Goal.{Goal}
use Rattle.akl_terms.specs.declared.program.Program.{Program}
use Rattle.akl_terms.specs.Tree.{variable}
use Rattle.akl_terms.specs.Equal.{Equations, IsTold, Equal, same, turned, joined, IsConsistent, IsStructured}
use Rattle.akl_terms.specs.Standing.{StandFor}
use Rattle.akl_terms.proofs.StandingLaws.{StandFor-back, StandFor-on}
use Rattle.akl_model.specs.Config.{IsIn, Atom, Content, Boxes, Goals, Held, an_atom, a_choice, held_in, Found, whole, box_at, site_of, home_of}
use Rattle.akl_model.specs.Derivations.{NothingApplies, IsQuietEnd}
use Rattle.akl_model.specs.Stable.{AtomWaitsOn, by_waiting}
use Rattle.akl_model.specs.Wakes.{names_down_to}
use Rattle.akl_model.proofs.Options.{some_value}
use Rattle.akl_model.proofs.QuietEnds.{quiet_ends}
use Rattle.akl_model.proofs.Scoped.{IsIn-either}
use Rattle.constraint_laws.specs.Oldest.{IsOldest}
use Rattle.constraint_laws.specs.Standing.{StandsForConsistent}
use Rattle.constraint_laws.specs.Touched.{IsAmong}
use Rattle.constraint_laws.proofs.NoEquations.{nothing_structured}
use Rattle.constraint_laws.proofs.Stands.{structured_stands, variable_stands}
use Rattle.step_laws.specs.Whereabouts.{Stands}
use Rattle.step_laws.proofs.Deeper.{home_found}
use Rattle.step_laws.proofs.Whereabouts.{found_in}
use Rattle.plan_laws.proofs.AwaitedAtoms.{awaited_one}
use Rattle.plan_laws.proofs.InScope.{Good}
use Rattle.plan_laws.proofs.Replayed.{good_replay}
use Rattle.plan_laws.proofs.Concerned.{touches_in_scope}
use Rattle.local_store.specs.Stored.{Stored}
use Rattle.local_store.specs.Chained.{equations_of}
use Rattle.class_members.specs.Members.{IsMember}
use Rattle.table_laws.specs.Rows.{stores_along}
use Rattle.box_tree.specs.Tables.{all_rules, goal_atom, table_of}
use Rattle.box_tree.specs.Views.{ViewValue, IsViewOf}
use Rattle.table_laws.proofs.StoreChains.{told_stands}
use Rattle.guard_plan.proofs.Sites.{whole_stands, stores_path}
use Rattle.box_tree.proofs.AllInForce.{each_in_force}
use Rattle.stable_test.proofs.Reaches.{atom_waits_stand}
use Rattle.root_answers.specs.Roots.{root_box}
use Rattle.why_laws.specs.Watched.{Watches, by_atom, by_choice}
use Rattle.why_laws.specs.Waiting.{IsWaitingOn}
use Rattle.why_laws.proofs.IdleBoxes.{is_idle, idle_consistent}
use Rattle.why_laws.proofs.WatchedClasses.{watched_class}
use Rattle.why_report.specs.Classes.{AreOldest}
use Rattle.why_report.specs.Sights.{AreAwaited}

-- a box that stands where no rule applies is consistent
module _ (v : ViewValue) (i : IsViewOf v) (quiet : IsQuietEnd all_rules v.table.program i.table.config) where
  pub good : Good i.table.config
  good = good_replay all_rules v.table.program v.table.query v.journal i.table.config i.table.replays

  nothing : NothingApplies all_rules v.table.program i.table.config
  nothing = (quiet_ends all_rules v.table.program v.table.query v.journal i.table.config i.table.replays).1 quiet

  pub all_consistent : (f : Found) → Stands f i.table.config.roots → IsConsistent (whole f)
  all_consistent f s = idle_consistent v.table.program f (is_idle all_rules each_in_force v.table.program i.table.config good.stand nothing f s)

module _ (v : ViewValue) (i : IsViewOf v) (quiet : IsQuietEnd all_rules v.table.program i.table.config) (g : Name) (at : v.place ≡ Place.Goal g)
    (n : Name) (b : Content) (gs : Goals) (h : Held) (there : box_at n i.table.config.roots ≡ Some (root_box b gs)) (held : held_in g gs ≡ Some h) where
  abbrev pub p : Program
  p = v.table.program

  abbrev nodes : List Node
  nodes = v.table.program.templates.nodes

  abbrev f : Found
  f = root_box b gs

  abbrev roots : Boxes
  roots = i.table.config.roots

  home : home_of g i.table.config.roots ≡ Some i.site
  home = subst (λ (q : Place). site_of q i.table.config.roots ≡ Some i.site) at i.is_site

  pub is_root : i.site ≡ root_box b gs
  is_root = some_value (sym home ∙ home_found roots (good v i quiet).stand.once g n f h there held)

  pub root_stands : Stands (root_box b gs) i.table.config.roots
  root_stands = found_in n roots f there

  pub root_consistent : IsConsistent b.equations
  root_consistent = all_consistent v i quiet f root_stands

  pub one_store : take 1 v.stores ≡ v.stores
  one_store =
      let q : v.stores ≡ stores_along (table_of v.table) (names_down_to f) = stores_path v i ∙ ap (λ (k : Found). stores_along (table_of v.table) (names_down_to k)) is_root in
      subst (λ (ss : List Stored). take 1 ss ≡ ss) (sym q) refl

  stands : StandFor (IsTold (equations_of v.table.program.templates.nodes v.stores)) (IsTold b.equations)
  stands = subst (λ (k : Found). StandFor (IsTold (equations_of nodes v.stores)) (IsTold (whole k))) is_root (StandFor-on (told_stands nodes v.stores) (whole_stands v i))

  forth : StandsForConsistent (equations_of v.table.program.templates.nodes v.stores) b.equations
  forth = record { stands = stands; consistent = stands.back root_consistent }

  back : StandsForConsistent b.equations (equations_of v.table.program.templates.nodes v.stores)
  back = record { stands = StandFor-back stands; consistent = root_consistent }

  class : (x : Var) → Watches v.table.program (root_box b gs) g x → (IsStructured b.equations x → ⊥) × ((y : Var) → Equal b.equations (variable x) (variable y) → Watches v.table.program (root_box b gs) g y)
  class x = watched_class all_rules p v.table.query v.journal i.table.config i.table.replays n f there refl g x

  -- watched variables of which each class that is watched has one: their oldest ones
  module _ (of list : List Var) (o : AreOldest (equations_of v.table.program.templates.nodes v.stores) of list) (each : (x : Var) → IsAmong x of → Watches v.table.program (root_box b gs) g x)
      (every : (x : Var) → Watches v.table.program (root_box b gs) g x → (y : Var) × IsAmong y of × Equal b.equations (variable y) (variable x)) where
    abbrev E : Equations
    E = equations_of v.table.program.templates.nodes v.stores

    free : (x : Var) → Watches v.table.program (root_box b gs) g x → IsStructured (equations_of v.table.program.templates.nodes v.stores) x → ⊥
    free x w s = (class x w).0 (structured_stands E b.equations forth x s)

    -- equal variables, of which one is watched
    to_box : (x y : Var) → (IsStructured (equations_of v.table.program.templates.nodes v.stores) x → ⊥) → Equal (equations_of v.table.program.templates.nodes v.stores) (variable x) (variable y) → Equal b.equations (variable x) (variable y)
    to_box x y n e = turned (variable_stands E b.equations forth (variable y) x n (turned e))

    to_store : (x y : Var) → Watches v.table.program (root_box b gs) g x → Equal b.equations (variable x) (variable y) → Equal (equations_of v.table.program.templates.nodes v.stores) (variable x) (variable y)
    to_store x y w e = turned (variable_stands b.equations E back (variable y) x (class x w).0 (turned e))

    watches : (x : Var) → IsAmong x list → Watches v.table.program (root_box b gs) g x
    watches x m =
        let k : IsMember E of x = (o.each x m).0 in
        (class k.variable_of (each k.variable_of k.among)).1 x (to_box k.variable_of x k.unstructured k.equal)

    oldest : (x : Var) → IsAmong x list → IsOldest b.equations x x
    oldest x m = record { equal = same; oldest = λ y e. (o.each x m).1.oldest y (to_store x y (watches x m) e) }

    lists : (x w : Var) → Watches v.table.program (root_box b gs) g x → IsOldest b.equations x w → IsAmong w list
    lists x w k a = o.every forth.consistent x w (record { variable_of = y.0; among = y.1; unstructured = free y.0 (each y.0 y.1); equal = to_store y.0 x (each y.0 y.1) y.2 })
        (record { equal = to_store x w k a.equal; oldest = λ z e. a.oldest z (to_box x z (free x k) e) })
      where
        y : (y : Var) × IsAmong y of × Equal b.equations (variable y) (variable x)
        y = every x k

    pub waits_on : IsWaitingOn v.table.program (root_box b gs) g list
    waits_on = record { increasing = o.increasing; each = λ x m. (watches x m, oldest x m); every = lists }

  own_frame : (x : Var) → IsIn x.frame (b.frames ++ []) → IsIn x.frame b.frames
  own_frame x k = elim (IsIn-either x.frame b.frames [] k) [ inl y ↦ y | inr y ↦ absurd y ]

  -- an atom
  module _ (a : Goal) (is_atom : held_in g i.site.goals ≡ Some (an_atom (goal_atom v.table.program.templates.nodes a))) (of : List Var) (w : AreAwaited v.table.program v.stores a of) where
    abbrev atom : Atom
    atom = goal_atom v.table.program.templates.nodes a

    holds : held_in g gs ≡ Some (an_atom (goal_atom v.table.program.templates.nodes a))
    holds = subst (λ (k : Found). held_in g k.goals ≡ Some (an_atom atom)) is_root is_atom

    in_box : (x : Var) → AtomWaitsOn v.table.program (equations_of v.table.program.templates.nodes v.stores) (goal_atom v.table.program.templates.nodes a) x → AtomWaitsOn v.table.program b.equations (goal_atom v.table.program.templates.nodes a) x
    in_box x k = atom_waits_stand p (equations_of nodes v.stores) b.equations forth back atom x k

    in_store : (x : Var) → AtomWaitsOn v.table.program b.equations (goal_atom v.table.program.templates.nodes a) x → AtomWaitsOn v.table.program (equations_of v.table.program.templates.nodes v.stores) (goal_atom v.table.program.templates.nodes a) x
    in_store x k = atom_waits_stand p b.equations (equations_of nodes v.stores) back forth atom x k

    pub each_awaited : (x : Var) → IsAmong x of → Watches v.table.program (root_box b gs) g x
    each_awaited x m =
        let k : AtomWaitsOn p b.equations atom x = in_box x (w.each x m) in
        by_atom x holds k same (own_frame x (touches_in_scope i.table.config (good v i quiet) n f there p x [] [] (by_waiting (record { outside = λ l. l; unstructured = nothing_structured x })
        (record { goal = g; atom = atom; is_goal = holds; on = x; waits = k; equal = same }))))

    on_atom : (x on : Var) (c : Atom) → held_in g gs ≡ Some (an_atom c) → AtomWaitsOn v.table.program b.equations c on → Equal b.equations (variable x) (variable on)
        → (y : Var) × IsAmong y of × Equal b.equations (variable y) (variable x)
    on_atom x on c is k e =
        let q : Some (an_atom c) ≡ Some (an_atom atom) = sym is ∙ holds in
        let r : c ≡ atom = cc in
        let u : AtomWaitsOn p b.equations atom on = subst (λ (d : Atom). AtomWaitsOn p b.equations d on) r k in
        let y : (y : Var) × IsAmong y of = w.some on (in_store on u) in
        (y.0, y.1, joined (awaited_one p b.equations atom y.0 on root_consistent (in_box y.0 (w.each y.0 y.1)) u) (turned e))

    pub every_awaited : (x : Var) → Watches v.table.program (root_box b gs) g x → (y : Var) × IsAmong y of × Equal b.equations (variable y) (variable x)
    every_awaited x (by_atom {a = c} on is k e fr) = on_atom x on c is k e
    every_awaited x (by_choice {o = o} {bs = bs} k is at2 s fr) = let q : Some (a_choice o bs) ≡ Some (an_atom atom) = sym is ∙ holds in absurd cc
