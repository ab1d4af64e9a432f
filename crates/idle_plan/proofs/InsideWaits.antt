-- What a box and the boxes inside it touch suffices for the box.
use Rattle.std.proofs.Common.{◌≡◌, ℕ, zero, suc, ◌≤◌, List, [], ◌∷◌, length, take, Some, refl, sym, ◌∙◌, subst, inl, inr, arith}
use Rattle.akl_terms.specs.declared.name.Name.{Name}
use Rattle.akl_terms.specs.declared.name.Var.{Var}
use Rattle.akl_terms.specs.declared.name.Place.{Place}
use Rattle.akl_terms.specs.declared.term.Node.{Node}
use Rattle.akl_terms.specs.declared.program.Program.{Program}
use Rattle.akl_terms.specs.Tree.{Tree, variable}
use Rattle.akl_terms.specs.Equal.{Equations, IsTold, Equal, turned, joined, IsConsistent, IsStructured}
use Rattle.akl_terms.specs.Standing.{StandFor}
use Rattle.akl_terms.specs.Touching.{IsOutside}
use Rattle.akl_terms.proofs.EqualLaws.{IsTold-left, Equal-follows, IsConsistent-follows}
use Rattle.akl_terms.proofs.StandingLaws.{StandFor-back, StandFor-on}
use Rattle.akl_model.specs.Config.{Content, Config, Found, equations_of, environment, whole, box_at, site_of}
use Rattle.akl_model.specs.Stable.{only, frames_of, TouchesFrom, by_equations, by_waiting}
use Rattle.akl_model.specs.Wakes.{names_around, Concerns, by_box}
use Rattle.akl_model.proofs.Options.{some_value}
use Rattle.akl_model.proofs.ScopesKept.{around_outside}
use Rattle.constraint_laws.specs.Growth.{IsOver, TellsOver}
use Rattle.constraint_laws.specs.Standing.{StandsForConsistent}
use Rattle.constraint_laws.specs.Oldest.{IsOldest}
use Rattle.constraint_laws.specs.Touched.{IsAmong}
use Rattle.constraint_laws.proofs.Beside.{follows_told}
use Rattle.constraint_laws.proofs.Decided.{kept_by}
use Rattle.constraint_laws.proofs.Grown.{over_kept}
use Rattle.constraint_laws.proofs.Stands.{structured_stands, variable_stands}
use Rattle.constraint_laws.proofs.TouchedLists.{touches_class}
use Rattle.plan_laws.specs.Sleeps.{IsOutermostAt, IsAliasAt, of_box}
use Rattle.plan_laws.proofs.Roots.{root_unneeded}
use Rattle.plan_laws.proofs.Moves.{equations-append}
use Rattle.local_store.specs.Stored.{Stored}
use Rattle.local_store.specs.Chained as chained
use Rattle.class_members.specs.Members as members
use Rattle.box_tree.specs.Tables.{all_rules, table_of}
use Rattle.box_tree.specs.Views.{ViewValue, IsViewOf}
use Rattle.table_laws.specs.Rows.{stores_along}
use Rattle.table_laws.proofs.StoreChains.{told_stands}
use Rattle.guard_plan.proofs.Sites.{stand, environment_stands, stores_split}
use Rattle.guard_plan.proofs.Chains.{front_taken}
use Rattle.stable_test.specs.Inner.{IsTouchedInside}
use Rattle.stable_test.proofs.EachInside.{IsDown, below}
use Rattle.stable_test.proofs.SomeInside.{down_some, some_down}
use Rattle.stable_test.proofs.SiteReaches.{long_stores}
use Rattle.idle_plan.specs.Waits.{AreReachedInside}
use Rattle.idle_plan.proofs.Listed.{unstructured_class}
use Rattle.idle_plan.proofs.Needed.{NeedsInside, NeedsOwn, Suffices}
use Rattle.idle_plan.proofs.Outermost.{no_more, alias_by, oldest_by}
use Rattle.idle_plan.proofs.Paths.{good}

first_of : (k : ℕ) (ss : List Stored) → 1 ≤ k → take 1 (take k ss) ≡ take 1 ss
first_of zero ss l = absurd (omega arith)
first_of (suc k) [] l = refl
first_of (suc k) (s ∷ ss) l = refl

module _ (v : ViewValue) (i : IsViewOf v) (n : Name) (at : v.place ≡ Place.Box n) (list : List Var) (h : AreReachedInside v.table.program i.site (length i.site.around) v.stores list) where
  abbrev p : Program
  p = v.table.program

  abbrev nodes : List Node
  nodes = v.table.program.templates.nodes

  abbrev c : Config
  c = i.table.config

  abbrev E : Equations
  E = environment i.site

  abbrev F : Equations
  F = chained.equations_of v.table.program.templates.nodes (take (length i.site.around) v.stores)

  is_box : box_at n i.table.config.roots ≡ Some i.site
  is_box = subst (λ (q : Place). site_of q i.table.config.roots ≡ Some i.site) at i.is_site

  over : TellsOver (IsOutside (frames_of (only i.site))) (environment i.site)
  over = around_outside all_rules v.table.program v.table.query v.journal i.table.config n i.site i.table.replays is_box

  -- the stores around the box
  around : take (length i.site.around) v.stores ≡ stores_along (table_of v.table) (names_around i.site)
  around = (λ j. take (sym (long_stores (table_of v.table) i.site.around) j) (stores_split v i j)) ∙ front_taken (stores_along (table_of v.table) (names_around i.site)) _

  stands : StandFor (IsTold (chained.equations_of v.table.program.templates.nodes (take (length i.site.around) v.stores))) (IsTold (environment i.site))
  stands = subst (λ (A : List Stored). StandFor (IsTold (chained.equations_of nodes A)) (IsTold (environment i.site))) (sym around)
      (StandFor-on (told_stands nodes (stores_along (table_of v.table) (names_around i.site))) (environment_stands v i))

  -- what is told around the box is told in it
  told_down : (d : Found) → IsDown i.table.config (stand v i) n i.site is_box d → (a b : Tree) → IsTold (environment i.site) a b → IsTold (whole d) a b
  told_down d k a b m = elim (below i.table.config (stand v i) n i.site is_box d k) [
    | inl q ↦ subst (λ (u : Found). IsTold (whole u) a b) q (IsTold-left (environment i.site) i.site.content.equations a b m)
    | inr u ↦ IsTold-left (environment d) d.content.equations a b
        (subst (λ (bs : List Content). IsTold (equations_of bs) a b) (sym u.around)
        (subst (λ (G : Equations). IsTold G a b) (sym (equations-append i.site.around (i.site.content ∷ u.rest))) (IsTold-left (environment i.site) (equations_of (i.site.content ∷ u.rest)) a b m)))
  ]

  -- a class that is touched from outside is
  class_outside : (y z : Var) → Equal (environment i.site) (variable z) (variable y) → IsOutside (frames_of (only i.site)) z → IsOutside (frames_of (only i.site)) y
  class_outside y z e o = elim (kept_by (over_kept (IsOutside (frames_of (only i.site))) (environment i.site) over) e) [ inl r ↦ subst (IsOver (IsOutside (frames_of (only i.site)))) r o | inr r ↦ r.1 ]

  class_touched : (d : Found) → IsDown i.table.config (stand v i) n i.site is_box d → (z y : Var) → Equal (environment i.site) (variable z) (variable y)
      → TouchesFrom v.table.program (frames_of (only i.site)) (environment i.site) d z → TouchesFrom v.table.program (frames_of (only i.site)) (environment i.site) d y
  class_touched d k z y e (by_equations t) = by_equations (touches_class (frames_of (only i.site)) (environment i.site) (whole d) (told_down d k) over z y e t)
  class_touched d k z y e (by_waiting u a) = by_waiting
      (record { outside = class_outside y z e u.outside; unstructured = λ s. u.unstructured (s.0, s.1, joined e s.2, s.3) })
      (record { goal = a.goal; atom = a.atom; is_goal = a.is_goal; on = a.on; waits = a.waits; equal = joined (turned (Equal-follows (follows_told (environment i.site) (whole d) (told_down d k)) e)) a.equal })

  forth : IsConsistent F → StandsForConsistent F E
  forth still = record { stands = stands; consistent = still }

  concern : (y : Var) → IsAmong y list → Concerns v.table.program i.table.config y (Place.Box n)
  concern y m =
      let k : members.IsMember F h.reached y = h.members.each y m in
      let w : (d : Found) × IsDown i.table.config (stand v i) n i.site is_box d × (IsConsistent (whole d) × TouchesFrom p (frames_of (only i.site)) E d k.variable_of) =
      some_down i.table.config (stand v i) n i.site is_box (λ (d : Found). IsConsistent (whole d) × TouchesFrom p (frames_of (only i.site)) E d k.variable_of) (h.touched.each k.variable_of k.among) in
      let q : Equal E (variable k.variable_of) (variable y) =
      variable_stands F E (forth (h.members.consistent y m)) (variable k.variable_of) y (unstructured_class F k.variable_of y k.equal k.unstructured) k.equal in
      by_box is_box (down_some i.table.config (stand v i) n i.site is_box (λ (d : Found). TouchesFrom p (frames_of (only i.site)) E d y) w.0 w.1 (class_touched w.0 w.1 k.variable_of y q w.2.1))

  touched_unbound : (d : Found) (z : Var) → TouchesFrom v.table.program (frames_of (only i.site)) (environment i.site) d z → IsStructured (environment i.site) z → ⊥
  touched_unbound d z (by_equations t) s = t.unbound.unstructured s
  touched_unbound d z (by_waiting u a) s = u.unstructured s

  -- what is touched inside is a variable that the consistent environment leaves unstructured
  inside_unbound : (z : Var) → IsTouchedInside v.table.program i.site z → IsConsistent (environment i.site) × (IsStructured (environment i.site) z → ⊥)
  inside_unbound z t =
      let w : (d : Found) × IsDown i.table.config (stand v i) n i.site is_box d × (IsConsistent (whole d) × TouchesFrom p (frames_of (only i.site)) E d z) =
      some_down i.table.config (stand v i) n i.site is_box (λ (d : Found). IsConsistent (whole d) × TouchesFrom p (frames_of (only i.site)) E d z) t in
      (IsConsistent-follows (follows_told E (whole w.0) (told_down w.0 w.1)) w.2.0, touched_unbound w.0 z w.2.1)

  -- a root box has nothing outside; else the stores around the box begin with the outermost one
  deep : (depth : ℕ) → depth ≡ length i.site.around → (z : Var) → IsTouchedInside v.table.program i.site z → take 1 (take (length i.site.around) v.stores) ≡ take 1 v.stores
  deep zero q z t = absurd (root_unneeded i.table.config (good v i) v.table.program n i.site is_box (no_more i.site.around (sym q)) z (of_box is_box t))
  deep (suc d) q z t = first_of (length i.site.around) v.stores (omega (arith, q))

  begins : (z : Var) → IsTouchedInside v.table.program i.site z → take 1 (take (length i.site.around) v.stores) ≡ take 1 v.stores
  begins = deep (length i.site.around) refl

  oldest : (f : Found) → IsOutermostAt i.table.config v.place f → (y z : Var) → IsAmong y list → IsOldest (whole f) y z → IsAmong z list
  oldest f outermost y z m o =
      let k : members.IsMember F h.reached y = h.members.each y m in
      oldest_by v i (take (length i.site.around) v.stores) (begins k.variable_of (h.touched.each k.variable_of k.among)) (h.members.consistent y m) list h.members.oldest y
      (unstructured_class F k.variable_of y k.equal k.unstructured) m f outermost z o

  enough_inside : (y : Var) → IsTouchedInside v.table.program i.site y → (z : Var) × IsAmong z list × IsAliasAt i.table.config v.place z y
  enough_inside y t =
      let o : (z : Var) × IsAmong z h.reached × Equal E (variable y) (variable z) = h.touched.every y t in
      let u : IsConsistent E × (IsStructured E y → ⊥) = inside_unbound y t in
      let free : (IsStructured E o.0 → ⊥) = (inside_unbound o.0 (h.touched.each o.0 o.1)).1 in
      let f : IsConsistent F = stands.back u.0 in
      let q : Equal F (variable y) (variable o.0) = variable_stands E F (record { stands = StandFor-back stands; consistent = u.0 }) (variable y) o.0 free o.2 in
      let r : (z : Var) × IsAmong z list × Equal (members.outermost_of nodes (take (length i.site.around) v.stores)) (variable z) (variable y) =
      h.members.every f y (record { variable_of = o.0; among = o.1; unstructured = λ z. free (structured_stands F E (forth f) o.0 z); equal = turned q }) in
      (r.0, r.1, alias_by v i (take (length i.site.around) v.stores) (begins y t) f r.0 y (λ z. u.1 (structured_stands F E (forth f) y z)) r.2)

  enough : (y : Var) → NeedsInside v.table.program i.table.config n y → (z : Var) × IsAmong z list × IsAliasAt i.table.config v.place z y
  enough y b = enough_inside y (subst (λ (f : Found). IsTouchedInside v.table.program f y) (some_value (sym b.is_box ∙ is_box)) b.touches)

  pub inside_suffices : Suffices v.table.program i.table.config v.place (NeedsOwn v.table.program i.table.config v.place) list
  inside_suffices = record {
    concern = λ y m. subst (λ (q : Place). Concerns v.table.program i.table.config y q) (sym at) (concern y m);
    enough = λ y b. enough y (subst (λ (q : Place). NeedsOwn v.table.program i.table.config q y) at b);
    oldest = record { each = oldest };
  }
