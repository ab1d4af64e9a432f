-- A label by which an atom goes or becomes another one: what is there before and afterwards.
use Rattle.std.proofs.Common.{◌≡◌, ℕ, ◌+◌, ◌≤◌, List, [], ◌∷◌, ◌++◌, Bool, true, false, Option, Some, None, refl, sym, ◌∙◌, ap, subst, ◌⊎◌, inl, inr, arith}
use Rattle.std.specs.Prelude.{if◌then◌else◌, slice_index, option_map, option_and_then}
use Rattle.akl_terms.specs.declared.name.Name.{Name}
use Rattle.akl_terms.specs.declared.name.Place.{Place}
use Rattle.akl_model.specs.Config.{Operator}
use Rattle.akl_terms.specs.declared.program.Program.{Program}
use Rattle.akl_terms.specs.Names.{same_name}
use Rattle.akl_terms.proofs.SameNames.{same_name-equal}
use Rattle.akl_model.specs.declared.label.Rule.{Rule}
use Rattle.akl_model.specs.declared.label.Label.{Label}
use Rattle.akl_model.specs.Config.{Atom, Content, Boxes, no_boxes, box, Goals, no_goals, atom, choice, Config, Held, an_atom, a_choice, held_in, with_content, without_goal, Found, box_at, home_of, site_of}
use Rattle.akl_model.specs.Rules.{Change}
use Rattle.akl_model.specs.Conditions.{HasFailed, IsFailing}
use Rattle.akl_model.specs.Derivations.{Applies}
use Rattle.akl_model.specs.Changes.{shape_of, shape_at, box_names, goal_names, goals_at}
use Rattle.akl_model.proofs.Finds.{times, times_inside}
use Rattle.akl_model.proofs.NamesKept.{Stand, stands_after, box-itself}
use Rattle.akl_model.proofs.Options.{none_or, none_where, some_value, map_some}
use Rattle.akl_model.proofs.RuleCases.{PlainCase, tells, forks, evaluates, opens, sends, fails, cuts, promotes, collects, Makes-case}
use Rattle.akl_model.proofs.ScopesAlong.{times_path}
use Rattle.step_laws.specs.ChangedItems.{IsReplaced}
use Rattle.step_laws.specs.Whereabouts.{BoxIn, InGoals, Stands}
use Rattle.step_laws.proofs.Whereabouts.{found_in, in_found, home_in, in_home, in_counted}
use Rattle.step_laws.proofs.Deeper.{one_box, named_found, in_deeper, home_found}
use Rattle.step_laws.proofs.Edits.{AfterEdit, outside, replaced}
use Rattle.step_laws.proofs.GoalEdits.{HasGoal, has_names, without_in, without_gone, without_other, with_content_in, with_content_here, with_content_other}
use Rattle.step_laws.proofs.Becomes.{Becomes, IsBox}
use Rattle.step_laws.proofs.Steps.{site_now, site_stands, site_there, made, found, after_edit, later_step}
use Rattle.step_laws.proofs.ChangedItems.{frame_names, frame_shape}
use Rattle.step_laws.proofs.Stays.{like_home, shape_home}
use Rattle.step_laws.specs.Likeness.{IsLike}
use Rattle.step_laws.specs.Stays.{HaveShape}
use Rattle.table_laws.specs.Unfolds.{FailsBy, spot_in}
use Rattle.table_laws.specs.Writes.{less_name}
use Rattle.table_laws.proofs.Insides.{spot_none}
use Rattle.table_laws.proofs.Along.{all_stay}
use Rattle.table_laws.proofs.Forking.{stays_beside}

-- goals without one of them

pub names_without : (g : Name) (gs : Goals) → goal_names (without_goal g gs) ≡ less_name g (goal_names gs)
names_without g no_goals = refl
names_without g (atom h a gs) = on (same_name g h) (names_without g gs)
  where
    on : (t : Bool) → goal_names (without_goal g gs) ≡ less_name g (goal_names gs) → goal_names (if t then gs else atom h a (without_goal g gs)) ≡ (if t then goal_names gs else h ∷ less_name g (goal_names gs))
    on true e = refl
    on false e = ap (λ (ns : List Name). h ∷ ns) e
names_without g (choice h o bs gs) = on (same_name g h) (names_without g gs)
  where
    on : (t : Bool) → goal_names (without_goal g gs) ≡ less_name g (goal_names gs) → goal_names (if t then gs else choice h o bs (without_goal g gs)) ≡ (if t then goal_names gs else h ∷ less_name g (goal_names gs))
    on true e = refl
    on false e = ap (λ (ns : List Name). h ∷ ns) e

-- nothing stands in an atom
stays_without : (g : Name) (a : Atom) (r : List Content) (k : Content) (hs gs : Goals) → held_in g gs ≡ Some (an_atom a) → InGoals r k hs gs → InGoals r k hs (without_goal g gs)
stays_without g a r k hs no_goals e x = absurd x
stays_without g a r k hs (atom h b gs) e x = on (same_name g h) e (λ q. stays_without g a r k hs gs q x)
  where
    on : (t : Bool) → (if t then Some (an_atom b) else held_in g gs) ≡ Some (an_atom a) → (held_in g gs ≡ Some (an_atom a) → InGoals r k hs (without_goal g gs)) → InGoals r k hs (if t then gs else atom h b (without_goal g gs))
    on true q f = x
    on false q f = f q
stays_without g a r k hs (choice h o bs gs) e x = on (same_name g h) e x (λ q y. stays_without g a r k hs gs q y)
  where
    on : (t : Bool) → (if t then Some (a_choice o bs) else held_in g gs) ≡ Some (an_atom a) → BoxIn r k hs bs ⊎ InGoals r k hs gs → (held_in g gs ≡ Some (an_atom a) → InGoals r k hs gs → InGoals r k hs (without_goal g gs))
        → InGoals r k hs (if t then gs else choice h o bs (without_goal g gs))
    on true q y f = cc
    on false q (inl y) f = inl y
    on false q (inr y) f = inr (f q y)

failed_without : (g : Name) (gs : Goals) → HasFailed (without_goal g gs) → HasFailed gs
failed_without g no_goals x = x
failed_without g (atom h a gs) x = on (same_name g h) x (λ y. failed_without g gs y)
  where
    on : (t : Bool) → HasFailed (if t then gs else atom h a (without_goal g gs)) → (HasFailed (without_goal g gs) → HasFailed gs) → HasFailed (atom h a gs)
    on true y f = inr y
    on false (inl y) f = inl y
    on false (inr y) f = inr (f y)
failed_without g (choice h o bs gs) x = on (same_name g h) x (λ y. failed_without g gs y)
  where
    on : (t : Bool) → HasFailed (if t then gs else choice h o bs (without_goal g gs)) → (HasFailed (without_goal g gs) → HasFailed gs) → HasFailed (choice h o bs gs)
    on true y f = inr y
    on false (inl y) f = inl y
    on false (inr y) f = inr (f y)

-- what fails a box goes on to do so where another goal goes
pub fails_without : (g : Name) (h : Held) (gs : Goals) (o : Option Name) → held_in g gs ≡ Some h → (IsFailing h → ⊥) → FailsBy gs o → FailsBy (without_goal g gs) o
fails_without g h gs None e not x = λ y. x (failed_without g gs y)
fails_without g h gs (Some i) e not (k, j, x) = on (same_name i g) refl
  where
    on : (t : Bool) → same_name i g ≡ t → FailsBy (without_goal g gs) (Some i)
    on true q =
        let z : h ≡ k = some_value (sym e ∙ ap (λ (n : Name). held_in n gs) (sym (same_name-equal i g q)) ∙ j) in
        absurd (not (subst IsFailing (sym z) x))
    on false q = (k, without_other g i gs q ∙ j, x)

-- goals in which one goes, or has another content

abbrev pub reduced : Option Held → Name → Goals → Goals
reduced None g gs = without_goal g gs
reduced (Some h) g gs = with_content g h gs

pub held_reduced : (o : Option Held) (g : Name) (h : Held) (gs : Goals) → times_inside g gs ≤ 1 → held_in g gs ≡ Some h → held_in g (reduced o g gs) ≡ o
held_reduced None g h gs once e = without_gone g h gs once e
held_reduced (Some k) g h gs once e = with_content_here g k h gs e

other_reduced : (o : Option Held) (g i : Name) (gs : Goals) → same_name i g ≡ false → held_in i (reduced o g gs) ≡ held_in i gs
other_reduced None g i gs e = without_other g i gs e
other_reduced (Some h) g i gs e = with_content_other g i h gs e

stays_reduced : (o : Option Held) (g : Name) (a : Atom) (r : List Content) (k : Content) (hs gs : Goals) → held_in g gs ≡ Some (an_atom a) → InGoals r k hs gs → InGoals r k hs (reduced o g gs)
stays_reduced None g a r k hs gs e x = stays_without g a r k hs gs e x
stays_reduced (Some h) g a r k hs gs e x = stays_beside g h a r k hs gs e x

-- an atom
abbrev pub held_atom : Option Atom → Option Held
held_atom None = None
held_atom (Some a) = Some (an_atom a)

reduced_in : (o : Option Atom) (g : Name) (r : List Content) (k : Content) (hs gs : Goals) → InGoals r k hs (reduced (held_atom o) g gs) → InGoals r k hs gs
reduced_in None g r k hs gs x = without_in g r k hs gs x
reduced_in (Some a) g r k hs gs x = elim (with_content_in g (an_atom a) r k hs gs x) [ inl y ↦ absurd y | inr y ↦ y ]

-- an atom that a label reduces isn't `fail`
unfailing : (p : Program) (w next : ℕ) (f : Found) (c : Change) (place : Place) (g : Name) (was : Atom) → place ≡ Place.Goal g → held_in g f.goals ≡ Some (an_atom was) → PlainCase p w next f c place → IsFailing (an_atom was) → ⊥
unfailing p w next f c place g was q held x fail = on x q
  where
    by : (i : Name) (h : Held) → (IsFailing h → ⊥) → held_in i f.goals ≡ Some h → Place.Goal i ≡ Place.Goal g → ⊥
    by i h not e r =
        let j : i ≡ g = cc in
        not (subst IsFailing (some_value (sym held ∙ ap (λ (n : Name). held_in n f.goals) (sym j) ∙ e)) fail)

    chosen : (i : Name) (o : Operator) (bs : Boxes) → held_in i f.goals ≡ Some (a_choice o bs) → Place.Goal i ≡ Place.Goal g → ⊥
    chosen i o bs e r =
        let j : i ≡ g = cc in
        let z : an_atom was ≡ a_choice o bs = some_value (sym held ∙ ap (λ (n : Name). held_in n f.goals) (sym j) ∙ e) in
        cc

    on : {u : Place} → PlainCase p w next f c u → u ≡ Place.Goal g → ⊥
    on (tells i s t e z) r = by i (an_atom (Atom.equation s t)) (λ y. y) e r
    on (forks i n ts q k o e y u z) r = by i (an_atom (Atom.call n ts q)) (λ y. y) e r
    on (evaluates i test l r a e y v z) u = by i (an_atom (Atom.arithmetic test l r)) (λ y. y) e u
    on (opens i s t e z) r = by i (an_atom (Atom.open_port s t)) (λ y. y) e r
    on (sends i s t n k e y v u z) r = by i (an_atom (Atom.send s t)) (λ y. y) e r
    on (fails n y z) r = cc
    on (cuts i n o bs e y z) r = chosen i o bs e r
    on (promotes i n o b e y v z) r = chosen i o (box b no_goals no_boxes) e r
    on (collects i q bs b e y v z) r = chosen i (Operator.collecting q) bs e r

module _ (rules : List Rule) (p : Program) (c : Config) (l : Label) (d : Config) (s : Stand c) (m : Applies rules p c l d) (g : Name) (place : l.place ≡ Place.Goal g) (was : Atom)
    (held : held_in g m.site.goals ≡ Some (an_atom was)) (now : Content) (o : Option Atom) (is_change : m.change.boxes ≡ box now (reduced (held_atom o) g m.site.goals) no_boxes) where
  t : Stand d
  t = stands_after rules p c l d s m

  pub home_was : home_of g c.roots ≡ Some m.site
  home_was = subst (λ (u : Place). site_of u c.roots ≡ Some m.site) place m.is_site

  pub reduces_to : Becomes l.worker (slice_index c.next l.worker) m.site m.change
  reduces_to = elim (made rules p c l d s m) [ inl z ↦ absurd (subst IsBox place z.0) | inr z ↦ z.0 ]

  same_box : box reduces_to.content reduces_to.goals reduces_to.rest ≡ box now (reduced (held_atom o) g m.site.goals) no_boxes
  same_box = sym reduces_to.is_change ∙ is_change

  pub content_now : reduces_to.content ≡ now
  content_now = let e : box reduces_to.content reduces_to.goals reduces_to.rest ≡ box now (reduced (held_atom o) g m.site.goals) no_boxes = same_box in cc

  pub goals_now : reduces_to.goals ≡ reduced (held_atom o) g m.site.goals
  goals_now = let e : box reduces_to.content reduces_to.goals reduces_to.rest ≡ box now (reduced (held_atom o) g m.site.goals) no_boxes = same_box in cc

  pub now_there : box_at m.site.content.name d.roots ≡ Some (site_now reduces_to)
  now_there = site_there rules p c l d s m reduces_to

  pub one_name : box_names m.change.boxes ≡ m.site.content.name ∷ []
  one_name = ap box_names is_change ∙ ap (λ (k : Content). k.name ∷ []) (sym content_now) ∙ ap (λ (n : Name). n ∷ []) reduces_to.keeps.name

  pub not_replaced : IsReplaced m → ⊥
  not_replaced r = r.not_one one_name

  -- each box stays, and none is new
  pub stays_there : (n : Name) (e : Found) → box_at n c.roots ≡ Some e → (f : Found) × (box_at n d.roots ≡ Some f)
  stays_there n e i = all_stay rules p c l d s m reduces_to (λ r k hs x. subst (InGoals r k hs) (sym goals_now) (stays_reduced (held_atom o) g was r k hs m.site.goals held x)) n e i

  came : (f : Found) → Stands f d.roots → (e : Found) × Stands e c.roots × (e.content.name ≡ f.content.name)
  came f x = on (after_edit rules p c l d s m f x)
    where
      Result : Type 0
      Result = (e : Found) × Stands e c.roots × (e.content.name ≡ f.content.name)

      new : (r : List Content) → BoxIn r f.content f.goals (box now (reduced (held_atom o) g m.site.goals) no_boxes) → Result
      new r (inl e) = (m.site, site_stands rules p c l d s m, sym reduces_to.keeps.name ∙ ap (λ (k : Content). k.name) content_now ∙ ap (λ (k : Content). k.name) (sym e.1))
      new r (inr (inl w)) = (
        record { around = m.site.around ++ m.site.content ∷ w.0; content = f.content; goals = f.goals },
        in_deeper m.site.around m.site.content m.site.goals w.0 f.content f.goals c.roots (site_stands rules p c l d s m) (reduced_in o g w.0 f.content f.goals m.site.goals w.2),
        refl,
      )
      new r (inr (inr y)) = absurd y

      on : AfterEdit m.site.content.name m.change.boxes (λ a b gs. BoxIn a b gs c.roots) f.around f.content f.goals → Result
      on (outside gs y n e) = (record f { goals = gs }, y, refl)
      on (replaced a b gs rest y n e z) = new rest (subst (BoxIn rest f.content f.goals) is_change z)

  pub was_there : (n : Name) (f : Found) → box_at n d.roots ≡ Some f → (e : Found) × (box_at n c.roots ≡ Some e)
  was_there n f j = let w : (e : Found) × Stands e c.roots × (e.content.name ≡ f.content.name) = came f (found_in n d.roots f j) in (w.0, named_found c.roots s.once n w.0 w.1 (box-itself n d.roots f j ∙ sym w.2))

  -- the goal

  pub not_fail : IsFailing (an_atom was) → ⊥
  not_fail = elim (Makes-case m.makes) [
    | inl x ↦ unfailing p l.worker (slice_index c.next l.worker) m.site m.change l.place g was place held x
    | inr x ↦ (let e : Place.Goal g ≡ Place.Box x.name = sym place ∙ x.is_place in λ y. cc)
  ]

  pub held_now : held_in g reduces_to.goals ≡ held_atom o
  held_now = ap (held_in g) goals_now ∙ held_reduced (held_atom o) g (an_atom was) m.site.goals once held
    where
      once : times_inside g m.site.goals ≤ 1
      once =
          let v : times g (box m.site.content m.site.goals no_boxes) + times_path g m.site.around ≤ times g c.roots = in_counted g m.site.around m.site.content m.site.goals c.roots (site_stands rules p c l d s m) in
          let z : times g c.roots ≤ 1 = s.once g in
          omega arith

  now_stands : Stands (site_now reduces_to) d.roots
  now_stands = found_in m.site.content.name d.roots (site_now reduces_to) now_there

  -- it is another one now
  pub home_now : (a : Atom) → o ≡ Some a → home_of g d.roots ≡ Some (site_now reduces_to)
  home_now a e = home_found d.roots t.once g m.site.content.name (site_now reduces_to) (an_atom a) now_there (held_now ∙ ap held_atom e)

  -- or it goes
  module _ (none : o ≡ None) where
    held_gone : held_in g reduces_to.goals ≡ None
    held_gone = held_now ∙ ap held_atom none

    home_gone : home_of g d.roots ≡ None
    home_gone = none_where (home_of g d.roots) (λ f j.
        let like : IsLike m.site f = like_home c d s t (later_step rules p c l d s m) g m.site f home_was j in
        let y : Stands f d.roots × HasGoal g f.goals = home_in g d.roots f j in
        let e : f ≡ site_now reduces_to = one_box d.roots t.once f (site_now reduces_to) y.0 now_stands (sym like.name ∙ sym reduces_to.keeps.name) in
        let n : held_in g reduces_to.goals ≡ None = held_gone in
        let h : held_in g reduces_to.goals ≡ Some y.1.0 = subst (λ (k : Found). held_in g k.goals ≡ Some y.1.0) e y.1.1 in
        absurd cc)

    pub spot_gone : spot_in g d.roots ≡ None
    spot_gone = spot_none g d.roots home_gone

    pub goals_differ : goals_at m.site.content.name c.roots ≡ goals_at m.site.content.name d.roots → ⊥
    goals_differ e =
        let q : goal_names m.site.goals ≡ goal_names reduces_to.goals =
        some_value (sym (ap (option_map (λ (f : Found). goal_names f.goals)) (found rules p c l d s m)) ∙ e ∙ ap (option_map (λ (f : Found). goal_names f.goals)) now_there) in
        let h : HasGoal g reduces_to.goals = has_names g m.site.goals reduces_to.goals q (an_atom was, held) in
        let i : held_in g reduces_to.goals ≡ Some h.0 = h.1 in
        let n : held_in g reduces_to.goals ≡ None = held_gone in
        cc

  -- any other one stays as it is
  module _ (i : Name) (other : same_name i g ≡ false) where
    held_on : held_in i reduces_to.goals ≡ held_in i m.site.goals
    held_on = ap (held_in i) goals_now ∙ other_reduced (held_atom o) g i m.site.goals other

    is_site : (e f : Found) → Stands e c.roots → Stands f d.roots → e.content.name ≡ f.content.name → m.site.content.name ≡ e.content.name → (m.site ≡ e) × (site_now reduces_to ≡ f)
    is_site e f x y q n = (
      one_box c.roots s.once m.site e (site_stands rules p c l d s m) x n,
      one_box d.roots t.once (site_now reduces_to) f now_stands y (reduces_to.keeps.name ∙ n ∙ q),
    )

    goal_shape : (e f : Found) → Stands e c.roots → Stands f d.roots → e.content.name ≡ f.content.name → HasGoal i e.goals → HaveShape (held_in i e.goals) (held_in i f.goals)
    goal_shape e f x y q h = on (same_name m.site.content.name e.content.name) refl
      where
        on : (v : Bool) → same_name m.site.content.name e.content.name ≡ v → HaveShape (held_in i e.goals) (held_in i f.goals)
        on true n =
            let w : (m.site ≡ e) × (site_now reduces_to ≡ f) = is_site e f x y q (same_name-equal m.site.content.name e.content.name n) in
            ap (option_map shape_of) (ap (λ (k : Found). held_in i k.goals) (sym w.0) ∙ sym held_on ∙ ap (λ (k : Found). held_in i k.goals) w.1)
        on false n = elim (frame_shape rules p c l d s m i e f h x y q n) [ inl z ↦ z | inr z ↦ absurd (not_replaced z.2) ]

    goal_was : (e f : Found) → Stands e c.roots → Stands f d.roots → e.content.name ≡ f.content.name → HasGoal i f.goals → HasGoal i e.goals
    goal_was e f x y q h = on (same_name m.site.content.name e.content.name) refl
      where
        on : (v : Bool) → same_name m.site.content.name e.content.name ≡ v → HasGoal i e.goals
        on true n =
            let w : (m.site ≡ e) × (site_now reduces_to ≡ f) = is_site e f x y q (same_name-equal m.site.content.name e.content.name n) in
            (h.0, ap (λ (k : Found). held_in i k.goals) (sym w.0) ∙ sym held_on ∙ ap (λ (k : Found). held_in i k.goals) w.1 ∙ h.1)
        on false n = has_names i f.goals e.goals (sym (frame_names rules p c l d s m e f x y q n)) h

    pub shape_stays : shape_at i c.roots ≡ shape_at i d.roots
    shape_stays = on (none_or (home_of i c.roots)) (none_or (home_of i d.roots))
      where
        none : (bs : Boxes) → home_of i bs ≡ None → shape_at i bs ≡ None
        none bs j = ap (option_and_then (λ (f : Found). option_map shape_of (held_in i f.goals))) j

        on : (home_of i c.roots ≡ None) ⊎ ((e : Found) × (home_of i c.roots ≡ Some e)) → (home_of i d.roots ≡ None) ⊎ ((f : Found) × (home_of i d.roots ≡ Some f)) → shape_at i c.roots ≡ shape_at i d.roots
        on (inl j) (inl k) = none c.roots j ∙ sym (none d.roots k)
        on (inl j) (inr (f, k)) =
            let y : Stands f d.roots × HasGoal i f.goals = home_in i d.roots f k in
            let w : (e : Found) × Stands e c.roots × (e.content.name ≡ f.content.name) = came f y.0 in
            let h : HasGoal i w.0.goals = goal_was w.0 f w.1 y.0 w.2 y.1 in
            let z : home_of i c.roots ≡ Some w.0 = in_home i h.0 c.roots w.0 s.once w.1 h.1 in
            absurd cc
        on (inr (e, j)) (inl k) =
            let x : Stands e c.roots × HasGoal i e.goals = home_in i c.roots e j in
            let w : (f : Found) × (box_at e.content.name d.roots ≡ Some f) = stays_there e.content.name e (in_found c.roots e s.once x.0) in
            let y : Stands w.0 d.roots = found_in e.content.name d.roots w.0 w.1 in
            let q : HaveShape (held_in i e.goals) (held_in i w.0.goals) = goal_shape e w.0 x.0 y (box-itself e.content.name d.roots w.0 w.1) x.1 in
            let v : (u : Held) × (held_in i w.0.goals ≡ Some u) × (shape_of u ≡ shape_of x.1.0) = map_some shape_of (held_in i w.0.goals) (shape_of x.1.0) (sym q ∙ ap (option_map shape_of) x.1.1) in
            let z : home_of i d.roots ≡ Some w.0 = in_home i v.0 d.roots w.0 t.once y v.1 in
            absurd cc
        on (inr (e, j)) (inr (f, k)) =
            let x : Stands e c.roots × HasGoal i e.goals = home_in i c.roots e j in
            let y : Stands f d.roots × HasGoal i f.goals = home_in i d.roots f k in
            shape_home i c.roots e j ∙ goal_shape e f x.0 y.0 (like_home c d s t (later_step rules p c l d s m) i e f j k).name x.1 ∙ sym (shape_home i d.roots f k)
