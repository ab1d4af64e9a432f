-- What concerns a place concerns it still, while labels leave what it watches.
use Rattle.std.proofs.Common.{◌≡◌, List, [], ◌∷◌, map, Option, Some, sym, ◌∙◌, ap, subst, inl, inr}
use Rattle.std.specs.Prelude.{option_map, IsSomeAnd}
use Rattle.akl_terms.specs.declared.name.Name.{Name}
use Rattle.akl_terms.specs.declared.name.Var.{Var}
use Rattle.akl_terms.specs.declared.name.Place.{Place}
use Rattle.akl_model.specs.Config.{Operator}
use Rattle.akl_terms.specs.declared.program.Program.{Program}
use Rattle.akl_terms.specs.Tree.{variable}
use Rattle.akl_terms.specs.Equal.{Equations, Equal, IsStructured}
use Rattle.akl_model.specs.declared.item.Item.{Item}
use Rattle.akl_model.specs.declared.label.Rule.{Rule}
use Rattle.akl_model.specs.declared.label.Label.{Label}
use Rattle.akl_model.specs.Config.{IsIn, Content, Boxes, Config, an_atom, a_choice, held_in, Found, equations_of, environment, whole, box_at, home_of, site_of}
use Rattle.akl_model.specs.Rules.{alternative_of}
use Rattle.akl_model.specs.Stable.{only, frames_of, AtomWaitsOn, TouchesFrom, by_equations, by_waiting}
use Rattle.akl_model.specs.Changes.{shape_of, goal_names}
use Rattle.akl_model.specs.Wakes.{names_around, names_down_to, StandsIn, SomeBox, TellsOutside, TouchesOutside, Concerns, awaited, by_alternative, by_box, by_box_around}
use Rattle.akl_model.proofs.Options.{some_value}
use Rattle.akl_model.proofs.Scoped.{IsIn-either}
use Rattle.step_laws.specs.Likeness.{IsLike}
use Rattle.step_laws.specs.Stays.{GoesOn, Leaves, HaveShape, IsSameBox}
use Rattle.step_laws.proofs.Whereabouts.{found_in, in_found, home_in}
use Rattle.step_laws.proofs.Deeper.{names_snoc}
use Rattle.step_laws.proofs.Steps.{later}
use Rattle.step_laws.proofs.Same.{IsSame}
use Rattle.step_laws.proofs.Stays.{HasAlternative, has_alternative}
use Rattle.step_laws.proofs.StaysLaws.{goal_stays}
use Rattle.step_laws.proofs.Inside.{same_inside, each_map}
use Rattle.plan_laws.specs.Idle.{OfAlternatives, Watches}
use Rattle.plan_laws.specs.ByGoals.{by_goals}
use Rattle.plan_laws.proofs.Idle.{one_goals}
use Rattle.plan_laws.proofs.ByGoals.{same_by_goals}
use Rattle.plan_laws.proofs.InScope.{Good, outside_kept}
use Rattle.plan_laws.proofs.Moves.{same_touched}
use Rattle.plan_laws.proofs.Concerned.{touches_in_scope}
use Rattle.plan_laws.proofs.SameSites.{HasSameSite, whole_same, boxes_same, box_same}
use Rattle.plan_laws.proofs.Still.{atom_shape, is_still, good, good_after}
use Rattle.plan_laws.proofs.WaitingAtoms.{box_by_goals, waiting_stays}

module _ (rules : List Rule) (p : Program) (c : Config) (ls : List Label) (d : Config) (w : GoesOn rules p c ls d) where
  -- of a box that keeps its set of goals, as those around it do
  module _ (n : Name) (e : Found) (i : box_at n c.roots ≡ Some e) (u : (m : Name) → IsIn m (names_down_to e) → Leaves w (Item.Goals m)) (s : Good c) (t : Good d) (x : Var) where
    touched_still : (f : Found) → box_at n d.roots ≡ Some f → IsSameBox e f → TouchesOutside p e x → TouchesOutside p f x
    touched_still f j same (by_equations y) = by_equations (same_touched d c t s n f e j i same.around same.content x y)
    touched_still f j same (by_waiting y k) = by_waiting
        (record {
          outside = outside_kept d c t s n f e j i same.around x (touches_in_scope c s n e i p x (frames_of (only e)) (environment e) (by_waiting y k)) y.outside;
          unstructured = λ z. y.unstructured (subst (λ (path : List Content). IsStructured (equations_of path) x) (sym same.around) z);
        })
        (record {
          goal = k.goal;
          atom = k.atom;
          is_goal = waiting_stays rules p c ls d w n e f i j u k.goal k.atom k.on k.is_goal k.waits;
          on = k.on;
          waits = subst (λ (E : Equations). AtomWaitsOn p E k.atom k.on) (whole_same e f same) k.waits;
          equal = subst (λ (E : Equations). Equal E (variable x) (variable k.on)) (whole_same e f same) k.equal;
        })

  -- of a box around a place
  around_still : (place : Place) → HasSameSite c d place → Good c → Good d → (x : Var) (n : Name) (m : Found) → StandsIn n c.roots place → box_at n c.roots ≡ Some m → TellsOutside m x → Concerns p d x place
  around_still place at s t x n m h e y =
      let u : (u : Found) × (box_at n d.roots ≡ Some u) × IsSameBox m u = box_same c d s t place at n m (inr h) e in
      by_box_around n (subst (λ (o : Option (List Name)). IsSomeAnd o (IsIn n)) (boxes_same c d place at) h) u.1 (same_touched d c t s n u.0 m u.1 e u.2.around u.2.content x y)

  -- of a goal
  module _ (g : Name) (f : Found) (e : home_of g c.roots ≡ Some f) (u : Watches (λ (i : Item). Leaves w (by_goals i)) (Place.Goal g) f) where
    s : Good c
    s = good rules p c ls d w (Place.Goal g) f e u

    t : Good d
    t = good_after rules p c ls d w (Place.Goal g) f e u

    at : HasSameSite c d (Place.Goal g)
    at = (is_still rules p c ls d w (Place.Goal g) f e u).site

    shape : HaveShape (held_in g f.goals) (held_in g at.afterwards.goals)
    shape =
        let k : (k : Found) × (home_of g d.roots ≡ Some k) × IsLike f k × HaveShape (held_in g f.goals) (held_in g k.goals) = goal_stays rules p c ls d w g f e u.0 in
        subst (λ (k : Found). HaveShape (held_in g f.goals) (held_in g k.goals)) (some_value (sym k.1 ∙ at.is)) k.3

    same : IsSameBox f at.afterwards
    same = subst (λ (k : Found). IsSameBox k at.afterwards) (some_value (sym at.was ∙ e)) at.same

    alternative_still : (n : Name) (o : Operator) (bs : Boxes) (m : Found) (x : Var) → held_in g f.goals ≡ Some (a_choice o bs) → alternative_of f n bs ≡ Some m → TouchesOutside p m x → Concerns p d x (Place.Goal g)
    alternative_still n o bs m x held a y =
        let k : HasAlternative c d g n f at.afterwards o bs m = has_alternative c d g n f at.afterwards o bs m (home_in g c.roots f e).0 (home_in g d.roots at.afterwards at.is).0 held a shape in
        let was : box_at m.content.name c.roots ≡ Some m = in_found c.roots m s.stand.once k.stood in
        let names : names_around m ≡ names_down_to f = ap (map (λ (b : Content). b.name)) k.around_was ∙ names_snoc f.around f.content in
        let unread : (j : Name) → IsIn j (names_down_to m) → Leaves w (Item.Goals j) = λ j h. elim (IsIn-either j (names_around m) (m.content.name ∷ []) h) [
          | inl z ↦ u.1 j (subst (IsIn j) names z)
          | inr z ↦ elim z [
            | inl q ↦ subst (λ (b : Name). Leaves w (Item.Goals b)) (sym q) (one_goals (λ (i : Item). Leaves w (by_goals i)) f n bs m (subst (OfAlternatives (λ (i : Item). Leaves w (by_goals i))) held u.2) a)
            | inr q ↦ absurd q
          ]
        ] in
        let b : (b : Found) × (box_at m.content.name d.roots ≡ Some b) × (goal_names m.goals ≡ goal_names b.goals) × IsSameBox m b = box_by_goals rules p c ls d w m.content.name m was unread in
        let is : b.0 ≡ k.alternative = some_value (sym b.1 ∙ subst (λ (j : Name). box_at j d.roots ≡ Some k.alternative) (sym k.name ∙ k.name_was) (in_found d.roots k.alternative t.stand.once k.stands)) in
        by_alternative n at.is k.held k.found (subst (λ (z : Found). TouchesOutside p z x) is (touched_still m.content.name m was unread s t x b.0 b.1 b.3 y))

    goal_still : (x : Var) → Concerns p c x (Place.Goal g) → Concerns p d x (Place.Goal g)
    goal_still x (awaited {f = k} {a = a} {y = y} i held h q) =
        let r : k ≡ f = some_value (sym i ∙ e) in
        awaited at.is (atom_shape a (held_in g at.afterwards.goals) (sym (ap (option_map shape_of) (subst (λ (v : Found). held_in g v.goals ≡ Some (an_atom a)) r held)) ∙ shape))
        (subst (λ (E : Equations). AtomWaitsOn p E a y) (ap whole r ∙ whole_same f at.afterwards same) h) (subst (λ (E : Equations). Equal E (variable x) (variable y)) (ap whole r ∙ whole_same f at.afterwards same) q)
    goal_still x (by_alternative n {f = k} {m = m} {o = o} {bs = bs} i held a y) =
        let r : k ≡ f = some_value (sym i ∙ e) in
        alternative_still n o bs m x (subst (λ (v : Found). held_in g v.goals ≡ Some (a_choice o bs)) r held) (subst (λ (v : Found). alternative_of v n bs ≡ Some m) r a) y
    goal_still x (by_box_around n {m = m} h i y) = around_still (Place.Goal g) at s t x n m h i y

  -- of a box
  module _ (n : Name) (f : Found) (e : box_at n c.roots ≡ Some f) (u : Watches (λ (i : Item). Leaves w (by_goals i)) (Place.Box n) f) where
    box_at_end : HasSameSite c d (Place.Box n)
    box_at_end = (is_still rules p c ls d w (Place.Box n) f e u).site

    good_start : Good c
    good_start = good rules p c ls d w (Place.Box n) f e u

    good_end : Good d
    good_end = good_after rules p c ls d w (Place.Box n) f e u

    all_same : f ≡ box_at_end.afterwards
    all_same =
        let was : box_at_end.before ≡ f = some_value (sym box_at_end.was ∙ e) in
        let around : f.around ≡ box_at_end.afterwards.around = ap (λ (k : Found). k.around) (sym was) ∙ box_at_end.same.around in
        let content : f.content ≡ box_at_end.afterwards.content = ap (λ (k : Found). k.content) (sym was) ∙ box_at_end.same.content in
        let inside : (f.content ≡ box_at_end.afterwards.content) × (f.goals ≡ box_at_end.afterwards.goals) =
        same_inside c d good_start.stand good_end.stand (later rules p c d ls good_start.stand w.derives) f box_at_end.afterwards (found_in n c.roots f e) (found_in n d.roots box_at_end.afterwards box_at_end.is) (ap (λ (b : Content). b.name) content)
        (each_map (λ (i : Item). Leaves w (by_goals i)) (IsSame c d) (same_by_goals rules p c ls d w) (only f) u.0) in
        λ j. record { around = around j; content = content j; goals = inside.1 j }

    box_still : (x : Var) → Concerns p c x (Place.Box n) → Concerns p d x (Place.Box n)
    box_still x (by_box {f = k} i y) =
        by_box box_at_end.is (subst (λ (v : Found). SomeBox (λ (b : Found). TouchesFrom p (frames_of (only v)) (environment v) b x) v.around (only v)) (some_value (sym i ∙ e) ∙ all_same) y)
    box_still x (by_box_around k {m = m} h i y) = around_still (Place.Box n) box_at_end good_start good_end x k m h i y

pub still_concern : (rules : List Rule) (p : Program) (c : Config) (ls : List Label) (d : Config) (w : GoesOn rules p c ls d) (place : Place) (f : Found) → site_of place c.roots ≡ Some f
    → Watches (λ (i : Item). Leaves w (by_goals i)) place f → (x : Var) → Concerns p c x place → Concerns p d x place
still_concern rules p c ls d w (Place.Goal g) f e u x k = goal_still rules p c ls d w g f e u x k
still_concern rules p c ls d w (Place.Box n) f e u x k = box_still rules p c ls d w n f e u x k
