-- The class on which an atom waits suffices for it.
use Rattle.std.proofs.Common.{◌≡◌, ℕ, List, [], ◌∷◌, Some, None, refl, sym, ap, ◌∙◌, subst, inl, inr, slice_get}
use Rattle.akl_terms.specs.declared.name.Name.{Name}
use Rattle.akl_terms.specs.declared.name.Var.{Var}
use Rattle.akl_terms.specs.declared.name.Place.{Place}
use Rattle.akl_terms.specs.declared.program.Code.{Code}
use Rattle.akl_terms.specs.declared.program.Goal.{Goal}
use Rattle.akl_terms.specs.declared.program.Program.{Program}
use Rattle.akl_terms.specs.declared.program.Test.{Test}
use Rattle.akl_terms.specs.Tree.{variable}
use Rattle.akl_terms.specs.Equal.{Equations, IsTold, Equal, turned, joined, IsConsistent, IsStructured}
use Rattle.akl_terms.specs.Standing.{StandFor}
use Rattle.akl_terms.proofs.StandingLaws.{StandFor-back, StandFor-on}
use Rattle.akl_model.specs.Config.{Atom, an_atom, a_choice, held_in, Found, whole, site_of, home_of}
use Rattle.akl_model.specs.Instances.{atom_of}
use Rattle.akl_model.specs.Stable.{AtomWaitsOn}
use Rattle.akl_model.specs.Wakes.{Concerns, awaited}
use Rattle.akl_model.proofs.Options.{some_value}
use Rattle.constraint_laws.specs.Standing.{StandsForConsistent}
use Rattle.constraint_laws.specs.Oldest.{IsOldest}
use Rattle.constraint_laws.specs.Touched.{IsAmong}
use Rattle.constraint_laws.proofs.Stands.{variable_stands}
use Rattle.plan_laws.specs.Sleeps.{IsOutermostAt, IsAliasAt}
use Rattle.plan_laws.proofs.AwaitedAtoms.{awaited_one}
use Rattle.local_store.specs.Stored.{Stored}
use Rattle.local_store.specs.Chained.{equations_of}
use Rattle.class_members.specs.Members.{outermost_of, IsMember, AreMembers}
use Rattle.box_tree.specs.declared.view.Sight.{Sight}
use Rattle.box_tree.specs.Tables.{goal_atom}
use Rattle.box_tree.specs.Views.{ViewValue, IsViewOf}
use Rattle.table_laws.proofs.StoreChains.{told_stands}
use Rattle.guard_plan.specs.declared.guards.Noise.{Noise}
use Rattle.guard_plan.specs.Noisy.{ShowsAwaited, ShowsArithmetic}
use Rattle.guard_plan.proofs.Sites.{shows_at, whole_stands}
use Rattle.stable_test.proofs.Reaches.{waits_free, atom_waits_stand}
use Rattle.idle_plan.specs.Waits.{AreAwaited}
use Rattle.idle_plan.proofs.Listed.{unstructured_class}
use Rattle.idle_plan.proofs.Needed.{NeedsOwn, Suffices}
use Rattle.idle_plan.proofs.Outermost.{alias_by, oldest_by}

-- by what is found on a chain
module _ (p : Program) (ss : List Stored) (atom : Goal) where
  pub members_awaited : (on : Var) (list : List Var) → AtomWaitsOn p (equations_of p.templates.nodes ss) (goal_atom p.templates.nodes atom) on → AreMembers p.templates.nodes ss (on ∷ []) list → AreAwaited p ss atom list
  members_awaited on list w h = record {
    consistent = h.consistent;
    each = λ y m. (on, w, h.each y m);
    every = λ c x z k e. h.every c z (record {
      variable_of = on;
      among = inl refl;
      unstructured = waits_free p (equations_of p.templates.nodes ss) (goal_atom p.templates.nodes atom) on w;
      equal = joined (awaited_one p (equations_of p.templates.nodes ss) (goal_atom p.templates.nodes atom) on x c w k) e;
    });
    oldest = h.oldest;
  }

  nothing_awaited : ((IsConsistent (equations_of p.templates.nodes ss)) → (x : Var) → AtomWaitsOn p (equations_of p.templates.nodes ss) (goal_atom p.templates.nodes atom) x → ⊥) → AreAwaited p ss atom []
  nothing_awaited n = record { consistent = λ y m. absurd m; each = λ y m. absurd m; every = λ c x z w e. absurd (n c x w); oldest = λ x w m. absurd m }

  -- of an arithmetic goal by what was found of it
  module _ (test : Test) (l r : ℕ) (is : atom.code ≡ Code.Arith test l r) where
    shows : (noise : List Noise) → ShowsArithmetic p ss atom.frame atom.code noise → ShowsAwaited p (equations_of p.templates.nodes ss) (goal_atom p.templates.nodes atom) noise
    shows noise h = subst (λ (k : Code). ShowsAwaited p (equations_of p.templates.nodes ss) (atom_of p.templates.nodes atom.frame k) noise) (sym is)
        (subst (λ (k : Code). ShowsArithmetic p ss atom.frame k noise) is h)

    pub none_awaited : (noise : List Noise) → ShowsArithmetic p ss atom.frame atom.code noise → None ≡ slice_get noise 0 → AreAwaited p ss atom []
    none_awaited [] h e = nothing_awaited (shows [] h)
    none_awaited (n ∷ rest) h e = cc

    pub found_awaited : (noise : List Noise) → ShowsArithmetic p ss atom.frame atom.code noise → (n : Noise) → Some n ≡ slice_get noise 0 → (list : List Var) → AreMembers p.templates.nodes ss n.on.items list → AreAwaited p ss atom list
    found_awaited [] h n e list m = cc
    found_awaited (k ∷ []) h n e list m =
        let w : IsConsistent (equations_of p.templates.nodes ss) × ((x : Var) × (k.on.items ≡ x ∷ []) × AtomWaitsOn p (equations_of p.templates.nodes ss) (goal_atom p.templates.nodes atom) x) = shows (k ∷ []) h in
        let same : n ≡ k = cc in
        members_awaited w.1.0 list w.1.2 (subst (λ (on : List Var). AreMembers p.templates.nodes ss on list) (ap (λ (o : Noise). o.on.items) same ∙ w.1.1) m)
    found_awaited (k ∷ j ∷ rest) h n e list m = absurd (shows (k ∷ j ∷ rest) h)

module _ (v : ViewValue) (i : IsViewOf v) (g : Name) (a : Goal) (at : v.place ≡ Place.Goal g) (sees : v.sight ≡ Sight.Atom a) (list : List Var) (h : AreAwaited v.table.program v.stores a list) where
  abbrev p : Program
  p = v.table.program

  abbrev E : Equations
  E = equations_of v.table.program.templates.nodes v.stores

  abbrev W : Equations
  W = whole i.site

  abbrev atom : Atom
  atom = goal_atom v.table.program.templates.nodes a

  home : home_of g i.table.config.roots ≡ Some i.site
  home = subst (λ (q : Place). site_of q i.table.config.roots ≡ Some i.site) at i.is_site

  shown : held_in g i.site.goals ≡ Some (an_atom (goal_atom v.table.program.templates.nodes a))
  shown = shows_at v i (Place.Goal g) (Sight.Atom a) at sees

  all : StandFor (IsTold (equations_of v.table.program.templates.nodes v.stores)) (IsTold (whole i.site))
  all = StandFor-on (told_stands v.table.program.templates.nodes v.stores) (whole_stands v i)

  forth : IsConsistent (equations_of v.table.program.templates.nodes v.stores) → StandsForConsistent E W
  forth c = record { stands = all; consistent = c }

  back : IsConsistent (equations_of v.table.program.templates.nodes v.stores) → StandsForConsistent W E
  back c = record { stands = StandFor-back all; consistent = all.to c }

  the_one : (x y : Var) → IsAmong x (y ∷ []) → x ≡ y
  the_one x y (inl e) = e
  the_one x y (inr z) = absurd z

  concern : (y : Var) → IsAmong y list → Concerns p i.table.config y (Place.Goal g)
  concern y m =
      let w : (x : Var) × AtomWaitsOn p E atom x × IsMember E (x ∷ []) y = h.each y m in
      let c : IsConsistent E = h.consistent y m in
      let q : Equal E (variable y) (variable w.0) = subst (λ (z : Var). Equal E (variable y) (variable z)) (the_one w.2.variable_of w.0 w.2.among) (turned w.2.equal) in
      awaited home shown (atom_waits_stand p E W (forth c) (back c) atom w.0 w.1) (variable_stands E W (forth c) (variable y) w.0 (waits_free p E atom w.0 w.1) q)

  oldest : (f : Found) → IsOutermostAt i.table.config v.place f → (y z : Var) → IsAmong y list → IsOldest (whole f) y z → IsAmong z list
  oldest f outermost y z m o =
      let w : (x : Var) × AtomWaitsOn p E atom x × IsMember E (x ∷ []) y = h.each y m in
      oldest_by v i v.stores refl (h.consistent y m) list h.oldest y (unstructured_class E w.2.variable_of y w.2.equal w.2.unstructured) m f outermost z o

  enough_awaited : (x on : Var) → IsConsistent (whole i.site) → AtomWaitsOn p (whole i.site) (goal_atom v.table.program.templates.nodes a) on → Equal (whole i.site) (variable x) (variable on)
      → (y : Var) × IsAmong y list × IsAliasAt i.table.config v.place y x
  enough_awaited x on still waits e =
      let c : IsConsistent E = all.back still in
      let n : (IsStructured W x → ⊥) = λ s. waits_free p W atom on waits (s.0, s.1, joined (turned e) s.2, s.3) in
      let q : Equal E (variable on) (variable x) = variable_stands W E (back c) (variable on) x n (turned e) in
      let k : AtomWaitsOn p E atom on = atom_waits_stand p W E (back c) (forth c) atom on waits in
      let w : (y : Var) × IsAmong y list × Equal (outermost_of v.table.program.templates.nodes v.stores) (variable y) (variable x) = h.every c on x k q in
      (w.0, w.1, alias_by v i v.stores refl c w.0 x (λ s. waits_free p E atom on k (s.0, s.1, joined q s.2, s.3)) w.2)

  enough : (x : Var) → NeedsOwn p i.table.config (Place.Goal g) x → (y : Var) × IsAmong y list × IsAliasAt i.table.config v.place y x
  enough x (inr n) = absurd (other (sym (subst (λ (f : Found). held_in g f.goals ≡ Some (a_choice n.op n.boxes)) (some_value (sym n.is_home ∙ home)) n.is_choice) ∙ shown))
    where
      other : Some (a_choice n.op n.boxes) ≡ Some (an_atom (goal_atom v.table.program.templates.nodes a)) → ⊥
      other e = cc
  enough x (inl n) = enough_awaited x n.on
      (subst (λ (f : Found). IsConsistent (whole f)) same n.consistent)
      (subst (λ (b : Atom). AtomWaitsOn p W b n.on) one (subst (λ (f : Found). AtomWaitsOn p (whole f) n.atom n.on) same n.waits))
      (subst (λ (f : Found). Equal (whole f) (variable x) (variable n.on)) same n.equal)
    where
      same : n.home ≡ i.site
      same = some_value (sym n.is_home ∙ home)

      held : Some (an_atom n.atom) ≡ Some (an_atom (goal_atom v.table.program.templates.nodes a))
      held = sym (subst (λ (f : Found). held_in g f.goals ≡ Some (an_atom n.atom)) same n.is_atom) ∙ shown

      one : n.atom ≡ goal_atom v.table.program.templates.nodes a
      one = let e : Some (an_atom n.atom) ≡ Some (an_atom (goal_atom v.table.program.templates.nodes a)) = held in cc

  pub awaited_suffices : Suffices v.table.program i.table.config v.place (NeedsOwn v.table.program i.table.config v.place) list
  awaited_suffices = record {
    concern = λ y m. subst (λ (q : Place). Concerns v.table.program i.table.config y q) (sym at) (concern y m);
    enough = λ x n. enough x (subst (λ (q : Place). NeedsOwn v.table.program i.table.config q x) at n);
    oldest = record { each = oldest };
  }
