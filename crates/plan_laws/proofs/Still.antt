-- A place of which labels leave what it watches needs afterwards what it needed before.
use Rattle.std.proofs.Common.{◌≡◌, List, [], ◌∷◌, ◌++◌, Option, Some, None, sym, ◌∙◌, ap, subst, inr}
use Rattle.std.specs.Prelude.{option_map, IsSomeAnd}
use Rattle.akl_terms.specs.declared.name.Name.{Name}
use Rattle.akl_terms.specs.declared.name.Var.{Var}
use Rattle.akl_terms.specs.declared.name.Place.{Place}
use Rattle.akl_model.specs.Config.{Operator}
use Rattle.akl_terms.specs.declared.program.Program.{Program}
use Rattle.akl_terms.specs.Tree.{variable}
use Rattle.akl_terms.specs.Equal.{Equations, Equal, IsConsistent}
use Rattle.akl_model.specs.declared.item.Item.{Item}
use Rattle.akl_model.specs.declared.label.Rule.{Rule}
use Rattle.akl_model.specs.declared.label.Label.{Label}
use Rattle.akl_model.specs.Config.{IsIn, Atom, Content, Boxes, no_goals, Config, Held, an_atom, a_choice, held_in, Found, environment, whole, box_at, home_of, site_of}
use Rattle.akl_model.specs.Instances.{start}
use Rattle.akl_model.specs.Rules.{alternative_of}
use Rattle.akl_model.specs.Conditions.{IsSolved}
use Rattle.akl_model.specs.Stable.{only, frames_of, AtomWaitsOn, TouchesFrom}
use Rattle.akl_model.specs.Changes.{of_atom, shape_of, box_names, goal_names}
use Rattle.akl_model.specs.Wakes.{StandsIn, TellsOutside, SomeBox}
use Rattle.akl_model.proofs.Options.{some_value}
use Rattle.akl_model.proofs.NamesKept.{box-itself}
use Rattle.akl_model.proofs.Results.{Derives-append}
use Rattle.constraint_laws.specs.Touched.{IsAmong}
use Rattle.step_laws.specs.Likeness.{IsLike}
use Rattle.step_laws.specs.Stays.{GoesOn, Leaves, HaveShape, IsSameBox}
use Rattle.step_laws.specs.Whereabouts.{Stands}
use Rattle.step_laws.proofs.Whereabouts.{found_in, in_found, home_in}
use Rattle.step_laws.proofs.Steps.{Later, later}
use Rattle.step_laws.proofs.Same.{IsSame}
use Rattle.step_laws.proofs.Stays.{goal_stays, box_stays, same_box, same_around, alternative_stands}
use Rattle.step_laws.proofs.Inside.{same_inside}
use Rattle.step_laws.proofs.GoalEdits.{no_goals_names, solved_none}
use Rattle.plan_laws.specs.Idle.{OfAlternatives, Watches}
use Rattle.plan_laws.specs.ByGoals.{by_goals}
use Rattle.plan_laws.proofs.Right.{Solved}
use Rattle.plan_laws.proofs.Idle.{watches_map, WasSolved, was_solved}
use Rattle.plan_laws.proofs.ByGoals.{same_by_goals}
use Rattle.plan_laws.specs.Sleeps.{Matters, Needs, of_box_around, of_alternative, of_box, IsAliasAt, IsEnough}
use Rattle.plan_laws.specs.Sleeps as sleeps
use Rattle.plan_laws.proofs.InScope.{Good}
use Rattle.plan_laws.proofs.Moves.{same_touched}
use Rattle.plan_laws.proofs.Replayed.{good_replay}
use Rattle.plan_laws.specs.Waits.{IsScopedAt, HasOldestAt}
use Rattle.plan_laws.proofs.ChoiceReady.{are_solved, all_solved}
use Rattle.plan_laws.proofs.AllSolved.{each_stands, were_solved}
use Rattle.plan_laws.proofs.SameSites.{HasSameSite, turned_site, whole_same, boxes_same, box_same, scoped_same, alias_same, oldest_same}

-- an atom of the same shape
pub atom_shape : (a : Atom) (h : Option Held) → Some (of_atom a) ≡ option_map shape_of h → h ≡ Some (an_atom a)
atom_shape a None e = cc
atom_shape a (Some (an_atom b)) e = let q : b ≡ a = cc in ap (λ (k : Atom). Some (an_atom k)) q
atom_shape a (Some (a_choice o bs)) e = cc

module _ (p : Program) (c d : Config) (w : Good c) (v : Good d) (z : Later c d) where
  -- a box around the place needs what it needed
  around_back : (place : Place) → HasSameSite c d place → (x : Var) (n : Name) (m : Found) → StandsIn n d.roots place → box_at n d.roots ≡ Some m → IsConsistent (whole m) → TellsOutside m x → Needs p c place x
  around_back place s x n m h e still t =
      let u : (u : Found) × (box_at n c.roots ≡ Some u) × IsSameBox m u = box_same d c v w place (turned_site s) n m (inr h) e in
      of_box_around n (subst (λ (o : Option (List Name)). IsSomeAnd o (IsIn n)) (sym (boxes_same c d place s)) h) u.1 (subst IsConsistent (whole_same m u.0 u.2) still)
      (same_touched c d w v n u.0 m u.1 e u.2.around u.2.content x t)

  -- a goal of the same shape
  module _ (g : Name) (s : HasSameSite c d (Place.Goal g)) (shape : HaveShape (held_in g s.before.goals) (held_in g s.afterwards.goals)) (watched : OfAlternatives (IsSame c d) (held_in g s.before.goals)) where
    same_back : IsSameBox s.afterwards s.before
    same_back = record { around = sym s.same.around; content = sym s.same.content }

    atom_back : (a : Atom) (x y : Var) → held_in g s.afterwards.goals ≡ Some (an_atom a) → IsConsistent (whole s.afterwards) → AtomWaitsOn p (whole s.afterwards) a y → Equal (whole s.afterwards) (variable x) (variable y)
        → Needs p c (Place.Goal g) x
    atom_back a x y held still k q = sleeps.of_atom s.was (atom_shape a (held_in g s.before.goals) (sym (shape ∙ ap (option_map shape_of) held))) (subst IsConsistent (whole_same s.afterwards s.before same_back) still)
        (subst (λ (E : Equations). AtomWaitsOn p E a y) (whole_same s.afterwards s.before same_back) k) (subst (λ (E : Equations). Equal E (variable x) (variable y)) (whole_same s.afterwards s.before same_back) q)

    -- alternatives that are all solved were so
    matters_back : (o : Operator) (bs cs : Boxes) → Matters o bs → held_in g s.afterwards.goals ≡ Some (a_choice o bs) → held_in g s.before.goals ≡ Some (a_choice o cs) → box_names bs ≡ box_names cs → Matters o cs
    matters_back Operator.condition bs cs x i j q = tt
    matters_back Operator.commit bs cs x i j q = tt
    matters_back Operator.nondeterminate bs cs x i j q = absurd x
    matters_back (Operator.collecting r) bs cs x i j q = are_solved cs (were_solved c d w.stand v.stand z (s.before.around ++ s.before.content ∷ []) (s.afterwards.around ++ s.afterwards.content ∷ []) cs bs (sym q) (all_solved bs x)
        (each_stands g (Operator.collecting r) cs c.roots s.before (home_in g c.roots s.before s.was).0 j) (each_stands g (Operator.collecting r) bs d.roots s.afterwards (home_in g d.roots s.afterwards s.is).0 i)
        (subst (OfAlternatives (IsSame c d)) j watched))

    alternative_back : (n : Name) (o : Operator) (bs : Boxes) (m : Found) (x : Var) → Matters o bs → held_in g s.afterwards.goals ≡ Some (a_choice o bs) → alternative_of s.afterwards n bs ≡ Some m → IsSolved m.goals
        → IsConsistent (whole m) → TellsOutside m x → Needs p c (Place.Goal g) x
    alternative_back n o bs m x not_choice held a solved still t =
        let y : Solved n s.afterwards (held_in g s.afterwards.goals) = record { op = o; alternatives = bs; is_choice = held; alternative = m; found = a; solved = solved_none m.goals solved } in
        let b : WasSolved p c d w.stand v.stand z g s.before s.afterwards s.was s.is (sym shape) same_back watched n y = was_solved p c d w.stand v.stand z g s.before s.afterwards s.was s.is (sym shape) same_back watched n y in
        let none : b.alternative.goals ≡ no_goals = no_goals_names b.alternative.goals (sym (ap goal_names (solved_none m.goals solved)) ∙ b.goals) in
        let was : Stands b.alternative c.roots = alternative_stands g n o b.alternatives c.roots s.before b.alternative (home_in g c.roots s.before s.was).0 b.held b.found in
        let is : Stands m d.roots = alternative_stands g n o bs d.roots s.afterwards m (home_in g d.roots s.afterwards s.is).0 held a in
        of_alternative n (matters_back o bs b.alternatives not_choice held b.held b.names) s.was b.held b.found (subst IsSolved (sym none) tt) (subst IsConsistent (whole_same m b.alternative b.same) still)
        (same_touched c d w v m.content.name b.alternative m (subst (λ (k : Content). box_at k.name c.roots ≡ Some b.alternative) (sym b.same.content) (in_found c.roots b.alternative w.stand.once was)) (in_found d.roots m v.stand.once is)
        b.same.around b.same.content x t)

  goal_back : (g : Name) (s : HasSameSite c d (Place.Goal g)) → HaveShape (held_in g s.before.goals) (held_in g s.afterwards.goals) → OfAlternatives (IsSame c d) (held_in g s.before.goals) → (x : Var) → Needs p d (Place.Goal g) x → Needs p c (Place.Goal g) x
  goal_back g s shape watched x (of_box_around {m = m} n h e still t) = around_back (Place.Goal g) s x n m h e still t
  goal_back g s shape watched x (sleeps.of_atom {f = f} {a = a} {y = y} e held still k q) =
      let r : f ≡ s.afterwards = some_value (sym e ∙ s.is) in
      atom_back g s shape watched a x y (subst (λ (u : Found). held_in g u.goals ≡ Some (an_atom a)) r held) (subst (λ (u : Found). IsConsistent (whole u)) r still)
      (subst (λ (u : Found). AtomWaitsOn p (whole u) a y) r k) (subst (λ (u : Found). Equal (whole u) (variable x) (variable y)) r q)
  goal_back g s shape watched x (of_alternative {f = f} {m = m} {o = o} {bs = bs} n not_choice e held a solved still t) =
      let r : f ≡ s.afterwards = some_value (sym e ∙ s.is) in
      alternative_back g s shape watched n o bs m x not_choice (subst (λ (u : Found). held_in g u.goals ≡ Some (a_choice o bs)) r held) (subst (λ (u : Found). alternative_of u n bs ≡ Some m) r a) solved still t

  -- a box that is the same throughout
  box_back : (n : Name) (s : HasSameSite c d (Place.Box n)) → s.before ≡ s.afterwards → (x : Var) → Needs p d (Place.Box n) x → Needs p c (Place.Box n) x
  box_back n s same x (of_box_around {m = m} k h e still t) = around_back (Place.Box n) s x k m h e still t
  box_back n s same x (of_box {f = f} e t) = of_box s.was (subst (λ (u : Found). SomeBox (λ (b : Found). IsConsistent (whole b) × TouchesFrom p (frames_of (only u)) (environment u) b x) u.around (only u)) (some_value (sym e ∙ s.is) ∙ sym same) t)

  -- so what it watches tells what it needs
  pub record IsStill (place : Place) : Type 0 where
    pub site : HasSameSite c d place
    pub needs : (x : Var) → Needs p d place x → Needs p c place x

  still : (place : Place) (f : Found) → site_of place c.roots ≡ Some f → Watches (IsSame c d) place f → IsStill place
  still (Place.Goal g) f e u =
      let k : (k : Found) × (home_of g d.roots ≡ Some k) × IsLike f k × HaveShape (held_in g f.goals) (held_in g k.goals) = goal_stays c d w.stand v.stand z g f e u.0 in
      let q : IsSameBox f k.0 = same_box c d w.stand v.stand z f k.0 (home_in g c.roots f e).0 (home_in g d.roots k.0 k.1).0 k.2 u.1 in
      let s : HasSameSite c d (Place.Goal g) = record { before = f; afterwards = k.0; was = e; is = k.1; same = q } in
      record { site = s; needs = λ x n. goal_back g s k.3 u.2 x n }
  still (Place.Box n) f e u =
      let m : n ≡ f.content.name = box-itself n c.roots f e in
      let k : (k : Found) × (box_at n d.roots ≡ Some k) × IsLike f k × (f.content ≡ k.content) = box_stays c d w.stand v.stand z n f e (subst (λ (o : Name). IsSame c d (Item.Store o)) (sym m) u.0.0) in
      let inside : (f.content ≡ k.0.content) × (f.goals ≡ k.0.goals) = same_inside c d w.stand v.stand z f k.0 (found_in n c.roots f e) (found_in n d.roots k.0 k.1) k.2.name u.0 in
      let around : f.around ≡ k.0.around = same_around c d w.stand v.stand z f k.0 (found_in n c.roots f e) (found_in n d.roots k.0 k.1) k.2 u.1 in
      let s : HasSameSite c d (Place.Box n) = record { before = f; afterwards = k.0; was = e; is = k.1; same = record { around = around; content = inside.0 } } in
      record { site = s; needs = λ x t. box_back n s (λ j. record { around = around j; content = inside.0 j; goals = inside.1 j }) x t }

module _ (rules : List Rule) (p : Program) (c : Config) (ls : List Label) (d : Config) (w : GoesOn rules p c ls d) (place : Place) (f : Found) (e : site_of place c.roots ≡ Some f)
    (u : Watches (λ (i : Item). Leaves w (by_goals i)) place f) where
  pub good : Good c
  good = good_replay rules p w.query w.journal c w.replays

  pub good_after : Good d
  good_after = good_replay rules p w.query (w.journal ++ ls) d (record { derives = Derives-append rules p (start p w.query) c d w.journal ls w.replays.derives w.derives })

  pub is_still : IsStill p c d good good_after (later rules p c d ls good.stand w.derives) place
  is_still = still p c d good good_after (later rules p c d ls good.stand w.derives) place f e (watches_map (λ (i : Item). Leaves w (by_goals i)) (IsSame c d) (same_by_goals rules p c ls d w) place f u)

  pub still_enough : (kept : List Var) → IsEnough p c kept place → IsEnough p d kept place
  still_enough kept h = record {
    each = λ x n.
        let y : (y : Var) × IsAmong y kept × IsAliasAt c place y x = h.each x (is_still.needs x n) in
        (y.0, y.1, alias_same c d good good_after place is_still.site y.0 x y.2);
  }

  pub still_oldest : (kept : List Var) → HasOldestAt c place kept → HasOldestAt d place kept
  still_oldest kept h = oldest_same c d good good_after place is_still.site kept h

  pub still_scoped : (x : Var) → IsScopedAt c place x → IsScopedAt d place x
  still_scoped x h = scoped_same c d good good_after place is_still.site x h
