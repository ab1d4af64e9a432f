-- What concerns a place is in scope there.
use Rattle.std.proofs.Common.{◌≡◌, List, [], ◌∷◌, ◌++◌, map, Some, refl, sym, ◌∙◌, ap, subst, ◌⊎◌, inl, inr, append-nil}
use Rattle.akl_terms.specs.declared.name.Name.{Name}
use Rattle.akl_terms.specs.declared.name.Var.{Var}
use Rattle.akl_terms.specs.declared.name.Place.{Place}
use Rattle.akl_terms.specs.declared.program.Program.{Program}
use Rattle.akl_terms.specs.declared.program.Query.{Query}
use Rattle.akl_terms.specs.Tree.{Tree, variable}
use Rattle.akl_terms.specs.Equal.{Equations, Equal, turned}
use Rattle.akl_terms.specs.Touching.{IsOutside}
use Rattle.akl_terms.specs.Arithmetic.{WaitsOn, here, in_left, in_right, GoalWaitsOn, right_of_is, left_side, right_side, binary}
use Rattle.akl_terms.specs.declared.program.Test.{Test}
use Rattle.akl_model.specs.declared.label.Rule.{Rule}
use Rattle.akl_model.specs.declared.label.Label.{Label}
use Rattle.akl_model.specs.Config.{IsIn, Atom, Content, Goals, Config, an_atom, held_in, Found, environment, whole, box_at, site_of}
use Rattle.akl_model.specs.Scopes.{Scope, nowhere, scope_in, AtomScoped}
use Rattle.akl_model.specs.Stable.{only, frames_of, AtomWaitsOn, TouchesFrom, by_equations, by_waiting}
use Rattle.akl_model.specs.Derivations.{Replays}
use Rattle.akl_model.specs.Wakes.{names_around, names_down_to, StandsIn, IsAt, TouchesOutside, Concerns, awaited, by_alternative, by_box, by_box_around}
use Rattle.akl_model.proofs.NamesKept.{home-box, site-box}
use Rattle.akl_model.proofs.Options.{some_value}
use Rattle.akl_model.proofs.Scoped.{IsIn-left, IsIn-either}
use Rattle.akl_model.proofs.ScopesAlong.{scope_along, in_local}
use Rattle.constraint_laws.specs.Growth.{IsOver, TellsOver}
use Rattle.constraint_laws.proofs.Decided.{kept_by}
use Rattle.constraint_laws.proofs.Grown.{over_kept}
use Rattle.step_laws.specs.Whereabouts.{BoxIn, InGoals, Stands}
use Rattle.step_laws.proofs.Whereabouts.{found_in, in_found, home_in}
use Rattle.step_laws.proofs.Deeper.{names_snoc, above, in_deeper}
use Rattle.step_laws.proofs.Stays.{alternative_in, alternative_stands}
use Rattle.plan_laws.proofs.InScope.{Good, InScope, in_scope, whole_over, atom_in_scope, touched_scoped}
use Rattle.plan_laws.proofs.Around.{chain_down}
use Rattle.plan_laws.proofs.DownTo.{is_down, down_to}
use Rattle.plan_laws.proofs.Replayed.{good_replay}
use Rattle.plan_laws.specs.Waits.{IsScopedAt}
use Rattle.plan_laws.proofs.Frames.{along_home, scope_append, frames_in, some_found}
use Rattle.plan_laws.proofs.Scopes.{around_scoped, in_scoped}

-- a variable on which a term over some variables waits is one of them
module _ (Outer : Var → Type 0) (E : Equations) (over : TellsOver Outer E) where
  over_equal : (s t : Tree) → IsOver Outer s → Equal E s t → IsOver Outer t
  over_equal s t h e = elim (kept_by (over_kept Outer E over) e) [ inl q ↦ subst (IsOver Outer) q h | inr m ↦ m.1 ]

  term_over : {symbols : _} {t : Tree} {x : Var} → IsOver Outer t → WaitsOn symbols E t x → Outer x
  term_over {t = t} {x = x} h (here e free) = over_equal t (variable x) h e
  term_over {t = t} h (in_left {a = a} {b = b} {f = f} e o k) = term_over (over_equal t (binary f a b) h e).0 k
  term_over {t = t} h (in_right {a = a} {b = b} {f = f} e o v k) = term_over (over_equal t (binary f a b) h e).1.0 k

  goal_over : {symbols : _} {test : Test} {l r : Tree} {x : Var} → IsOver Outer l → IsOver Outer r → GoalWaitsOn symbols E test l r x → Outer x
  goal_over h i (right_of_is k) = term_over i k
  goal_over h i (left_side other k) = term_over h k
  goal_over h i (right_side other v k) = term_over i k

module _ (c : Config) (w : Good c) (n : Name) (f : Found) (e : box_at n c.roots ≡ Some f) (p : Program) (x : Var) where
  -- what is equal to a variable on which an atom of a box waits is in scope there
  awaited_in_scope : (g : Name) (a : Atom) (y : Var) → held_in g f.goals ≡ Some (an_atom a) → AtomWaitsOn p (whole f) a y → Equal (whole f) (variable x) (variable y) → InScope c w n f e x
  awaited_in_scope g a y held k q = over_equal (InScope c w n f e) (whole f) (whole_over c w n f e) (variable y) (variable x) (on a held k) (turned q)
    where
      on : (a : Atom) → held_in g f.goals ≡ Some (an_atom a) → AtomWaitsOn p (whole f) a y → InScope c w n f e y
      on (Atom.arithmetic test l r) held k =
          let s : AtomScoped (scope_in (scope_along nowhere f.around) f.content) (Atom.arithmetic test l r) = atom_in_scope c w n f e g (Atom.arithmetic test l r) held in
          goal_over (InScope c w n f e) (whole f) (whole_over c w n f e) (in_scope c w n f e l s.0) (in_scope c w n f e r s.1) k
      on (Atom.send m r) held k =
          let s : AtomScoped (scope_in (scope_along nowhere f.around) f.content) (Atom.send m r) = atom_in_scope c w n f e g (Atom.send m r) held in
          over_equal (InScope c w n f e) (whole f) (whole_over c w n f e) r (variable y) (in_scope c w n f e r s.1) k.0
      on (Atom.equation s t) held k = absurd k
      on (Atom.open_port s t) held k = absurd k
      on (Atom.call d ts r) held k = absurd k
      on Atom.fail held k = absurd k

  -- and so is what it touches
  pub touches_in_scope : (inner : List Name) (outer : Equations) → TouchesFrom p inner outer f x → InScope c w n f e x
  touches_in_scope inner outer (by_equations t) = touched_scoped c w n f e inner outer x t
  touches_in_scope inner outer (by_waiting u k) = awaited_in_scope k.goal k.atom k.on k.is_goal k.waits k.equal

touches_outside : (p : Program) (inner : List Name) (outer : Equations) (f : Found) (x : Var) → TouchesFrom p inner outer f x → IsOutside inner x
touches_outside p inner outer f x (by_equations t) = t.unbound.outside
touches_outside p inner outer f x (by_waiting u k) = u.outside

-- the boxes around one that stands around a place stand around it too
up_from : (c : Config) → Good c → (place : Place) (n : Name) (m : Found) → box_at n c.roots ≡ Some m → StandsIn n c.roots place → (k : Name) → IsIn k (names_around m) → IsAt k c.roots place
up_from c w place n m e h k i =
    let f : (f : Found) × (site_of place c.roots ≡ Some f) × IsIn n (names_down_to f) = down_to n c.roots place (inr h) in
    let g : (g : Found) × (box_at n c.roots ≡ Some g) × ((b : Name) → IsIn b (names_around g) → IsIn b (names_down_to f.0)) =
    (chain_down c w f.0.content.name f.0 (site-box place c.roots f.0 w.stand.once f.1)).found n f.2 in
    is_down k c.roots place f.0 f.1 (g.2 k (subst (λ (u : Found). IsIn k (names_around u)) (some_value (sym e ∙ g.1)) i))

-- what a box touches from outside of itself is of a frame around it
module _ (c : Config) (w : Good c) (p : Program) (x : Var) where
  outside_scoped : (place : Place) (n : Name) (f : Found) → box_at n c.roots ≡ Some f → ((m : Name) → IsIn m (names_around f) → IsAt m c.roots place) → TouchesOutside p f x → IsScopedAt c place x
  outside_scoped place n f e up t = elim (IsIn-either x.frame f.content.frames (scope_along nowhere f.around).frames (touches_in_scope c w n f e p x (frames_of (only f)) (environment f) t)) [
    | inl i ↦ absurd (touches_outside p (frames_of (only f)) (environment f) f x t (in_local (frames_of (only f)) x (frames_in x.frame [] f.content f.goals (only f) (inl (refl, refl, refl)) i)))
    | inr i ↦ around_scoped c w place n f e x up i
  ]

  -- or that a box inside it touches
  pub inside_around : (n : Name) (f : Found) → box_at n c.roots ≡ Some f → (r : List Content) (k : Content) (hs : Goals) → BoxIn r k hs (only f)
      → TouchesFrom p (frames_of (only f)) (environment f) (record { around = f.around ++ r; content = k; goals = hs }) x → IsIn x.frame (scope_along nowhere f.around).frames
  inside_around n f e r k hs i t = elim (IsIn-either x.frame k.frames (scope_along nowhere (f.around ++ r)).frames (touches_in_scope c w k.name u found p x (frames_of (only f)) (environment f) t)) [
    | inl h ↦ absurd (outside (frames_in x.frame r k hs (only f) i h))
    | inr h ↦ on (along_home x.frame (scope_along nowhere f.around) r (subst (λ (s : Scope). IsIn x.frame s.frames) (scope_append nowhere f.around r) h))
  ]
    where
      u : Found
      u = record { around = f.around ++ r; content = k; goals = hs }

      outside : IsIn x.frame (frames_of (only f)) → ⊥
      outside h = touches_outside p (frames_of (only f)) (environment f) u x t (in_local (frames_of (only f)) x h)

      stands : BoxIn r k hs (only f) → Stands u c.roots
      stands (inl q) = subst (λ (v : Found). Stands v c.roots) (λ j. record { around = (sym (ap (λ (path : List Content). f.around ++ path) q.0 ∙ append-nil f.around)) j; content = sym q.1 j; goals = sym q.2 j }) (found_in n c.roots f e)
      stands (inr (inl (rest, q, y))) = subst (λ (path : List Content). BoxIn (f.around ++ path) k hs c.roots) (sym q) (in_deeper f.around f.content f.goals rest k hs c.roots (found_in n c.roots f e) y)
      stands (inr (inr y)) = absurd y

      found : box_at k.name c.roots ≡ Some u
      found = in_found c.roots u w.stand.once (stands i)

      on : IsIn x.frame (scope_along nowhere f.around).frames ⊎ ((A : List Content) × (b : Content) × (B : List Content) × (r ≡ A ++ b ∷ B) × IsIn x.frame b.frames) → IsIn x.frame (scope_along nowhere f.around).frames
      on (inl h) = h
      on (inr (A, b, B, q, h)) =
          let y : (gs : Goals) × BoxIn A b gs (only f) × InGoals B k hs gs = above A b B k hs (only f) (subst (λ (path : List Content). BoxIn path k hs (only f)) q i) in
          absurd (outside (frames_in x.frame A b y.0 (only f) y.1 h))

concern_scoped_in : (c : Config) → Good c → (p : Program) (place : Place) (x : Var) → Concerns p c x place → IsScopedAt c place x
concern_scoped_in c w p place x (awaited {g = g} {f = f} {a = a} {y = y} e held k q) =
    let found : box_at f.content.name c.roots ≡ Some f = home-box g c.roots f w.stand.once e in
    in_scoped c w (Place.Goal g) f.content.name f found x (λ m i. is_down m c.roots (Place.Goal g) f e i) (awaited_in_scope c w f.content.name f found p x g a y held k q)
concern_scoped_in c w p place x (by_alternative {g = g} n {f = f} {m = m} {o = o} {bs = bs} e held a t) =
    let s : Stands m c.roots = alternative_stands g n o bs c.roots f m (home_in g c.roots f e).0 held a in
    let names : names_around m ≡ names_down_to f = ap (λ (path : List Content). map (λ (b : Content). b.name) path) (alternative_in f n bs m a).1 ∙ names_snoc f.around f.content in
    outside_scoped c w p x (Place.Goal g) m.content.name m (in_found c.roots m w.stand.once s) (λ k i. is_down k c.roots (Place.Goal g) f e (subst (IsIn k) names i)) t
concern_scoped_in c w p place x (by_box {n = n} {f = f} e s) =
    some_found (λ (d : Found). TouchesFrom p (frames_of (only f)) (environment f) d x) (IsScopedAt c (Place.Box n) x) f.around (only f)
    (λ r k hs i t. around_scoped c w (Place.Box n) n f e x (λ m h. is_down m c.roots (Place.Box n) f e (IsIn-left m (names_around f) (f.content.name ∷ []) h)) (inside_around c w p x n f e r k hs i t)) s
concern_scoped_in c w p place x (by_box_around n {m = m} h e t) = outside_scoped c w p x place n m e (up_from c w place n m e h) (by_equations t)

pub concern_scoped : (rules : List Rule) (p : Program) (q : Query) (journal : List Label) (c : Config) → Replays rules p q journal c
    → (place : Place) (x : Var) → Concerns p c x place → IsScopedAt c place x
concern_scoped rules p q journal c r place x k = concern_scoped_in c (good_replay rules p q journal c r) p place x k
