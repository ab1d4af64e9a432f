-- Between the labels of a call at once all is as before, but for its goal and what has new names; so the labels open the goal, its box and places of new names alone.
use Rattle.std.proofs.Common.{◌≡◌, ◌+◌, ◌≤◌, ◌<◌, List, Bool, true, false, Option, Some, None, refl, sym, ◌∙◌, ap, subst, ◌⊎◌, inl, inr, arith}
use Rattle.std.specs.Prelude.{slice_index, option_map, option_and_then}
use Rattle.akl_terms.specs.declared.name.Name.{Name}
use Rattle.akl_terms.specs.declared.name.Place.{Place}
use Rattle.akl_terms.specs.Names.{same_name}
use Rattle.akl_terms.proofs.SameNames.{same_name-equal, same_name-refl}
use Rattle.akl_model.specs.Config.{IsIn, Content, Boxes, no_boxes, box, Goals, Config, a_choice, held_in, Found, box_at, box_inside, home_of, home_inside}
use Rattle.akl_model.specs.Changes.{shape_of, shape_at, goal_names, goals_at, constraint_of, constraint_at, box_names, Adds}
use Rattle.akl_model.specs.Wakes.{Wait, Opens, new_goal as opens_goal, new_box as opens_box, changed_goal, box_of_changed_goal, changed_constraint, changed_goals, holder_of_changed_goals, woken, bound_outside, holder_in}
use Rattle.akl_model.proofs.Options.{some_value}
use Rattle.akl_model.proofs.Finds.{zero_or, times, box_at-none}
use Rattle.akl_model.proofs.Drawn.{drawn_times, drawn_place}
use Rattle.akl_model.proofs.NamesKept.{Stand, home-box, box-itself}
use Rattle.akl_model.proofs.OrdersKept.{names_edited}
use Rattle.step_laws.specs.Holders.{IsHeldBy, IsAlternativeAt}
use Rattle.step_laws.specs.Likeness.{IsOld}
use Rattle.step_laws.specs.Stays.{HaveShape}
use Rattle.step_laws.specs.Whereabouts.{Stands}
use Rattle.step_laws.proofs.Deeper.{one_box}
use Rattle.step_laws.proofs.GoalEdits.{has_names, with_content_other}
use Rattle.step_laws.proofs.Holders.{held_around, alternative_at, holder_there}
use Rattle.step_laws.proofs.Stays.{choice_shape}
use Rattle.step_laws.proofs.Steps.{old_box, old_goal}
use Rattle.step_laws.proofs.Whereabouts.{found_in, home_in, home_of-none}
use Rattle.plan_laws.specs.Between.{with_choice}
use Rattle.plan_laws.proofs.Between.{stood, home}
use Rattle.plan_laws.proofs.CallAlternatives.{Calling, between, IsNewName, AreNew, IsPassing, its_goal, new_goal, new_box}
use Rattle.plan_laws.proofs.Elsewhere.{Alike, neither, both, alike_itself, box_alike, home_alike, names_chosen, inside_chosen, home_chosen}

-- what is found once is found again

pub alike_constraint : (R : Goals → Goals → Type 0) (x y : Option Found) → Alike R x y → option_map constraint_of x ≡ option_map constraint_of y
alike_constraint R _ _ neither = refl
alike_constraint R _ _ (both a b gs hs r) = refl

pub alike_names : (x y : Option Found) → Alike (λ (u v : Goals). goal_names u ≡ goal_names v) x y → option_map (λ (f : Found). goal_names f.goals) x ≡ option_map (λ (f : Found). goal_names f.goals) y
alike_names _ _ neither = refl
alike_names _ _ (both a b gs hs r) = ap Some r

pub alike_shape : (i : Name) (x y : Option Found) → Alike (λ (u v : Goals). HaveShape (held_in i u) (held_in i v)) x y
    → option_and_then (λ (f : Found). option_map shape_of (held_in i f.goals)) x ≡ option_and_then (λ (f : Found). option_map shape_of (held_in i f.goals)) y
alike_shape i _ _ neither = refl
alike_shape i _ _ (both a b gs hs r) = r

pub alike_none : (R : Goals → Goals → Type 0) (x y : Option Found) → Alike R x y → y ≡ None → x ≡ None
alike_none R _ _ neither e = refl
alike_none R _ _ (both a b gs hs r) e = cc

pub none_alike : (R : Goals → Goals → Type 0) (x y : Option Found) → Alike R x y → x ≡ None → y ≡ None
none_alike R _ _ neither e = refl
none_alike R _ _ (both a b gs hs r) e = cc

-- with its boxes around, its content and related goals
pub record Before (R : Goals → Goals → Type 0) (x : Option Found) (f : Found) : Type 0 where
  pub before : Found
  pub found : x ≡ Some before
  pub around : before.around ≡ f.around
  pub content : before.content ≡ f.content
  pub related : R before.goals f.goals

pub alike_some : (R : Goals → Goals → Type 0) (x y : Option Found) (f : Found) → Alike R x y → y ≡ Some f → Before R x f
alike_some R _ _ f neither e = cc
alike_some R _ _ f (both a b gs hs r) e =
    let q : record { around = a; content = b; goals = hs } ≡ f = some_value e in
    record { before = record { around = a; content = b; goals = gs }; found = refl; around = ap (λ (k : Found). k.around) q; content = ap (λ (k : Found). k.content) q; related = subst (λ (k : Found). R gs k.goals) q r }

-- new names

pub new_or : (k : Calling) (i : Name) → IsNewName k i ⊎ (IsNewName k i → ⊥)
new_or k i = elim (zero_or (drawn_times i k.worker (slice_index k.config.next k.worker) k.drawn)) [ inl z ↦ inr (λ h. omega arith) | inr h ↦ inl h ]

pub not_old : (k : Calling) (i : Name) → IsNewName k i → IsOld k.config i → ⊥
not_old k i h o =
    let a : (i.worker ≡ k.worker) × (slice_index k.config.next k.worker ≤ i.number) × (i.number < slice_index k.config.next k.worker + k.drawn) = drawn_place i k.worker (slice_index k.config.next k.worker) k.drawn h in
    let e : slice_index k.config.next i.worker ≡ slice_index k.config.next k.worker = ap (slice_index k.config.next) a.0 in
    let g : slice_index k.config.next k.worker ≤ i.number = a.1 in
    omega arith

-- boxes that aren't new are found as before, and so are goals besides the call
pub record IsOutside (k : Calling) (m : Config) : Type 0 where
  pub boxes : (i : Name) → (IsNewName k i → ⊥) → Alike (λ (u v : Goals). goal_names u ≡ goal_names v) (box_at i k.config.roots) (box_at i m.roots)
  pub homes : (i : Name) → (IsNewName k i → ⊥) → same_name i k.goal ≡ false → Alike (λ (u v : Goals). HaveShape (held_in i u) (held_in i v)) (home_of i k.config.roots) (home_of i m.roots)

pub outside_itself : (k : Calling) → IsOutside k k.config
outside_itself k = record {
  boxes = λ i n. alike_itself (λ (u v : Goals). goal_names u ≡ goal_names v) (λ gs. refl) (box_at i k.config.roots);
  homes = λ i n s. alike_itself (λ (u v : Goals). HaveShape (held_in i u) (held_in i v)) (λ gs. refl) (home_of i k.config.roots);
}

module _ (k : Calling) (bs : Boxes) (s : Stand (between k bs)) (new : AreNew k bs) where
  abbrev goals : Goals
  goals = (with_choice k.home k.goal k.op bs).goals

  -- the goal's box is one
  only_home : (r : List Content) (b : Content) (hs : Goals) → Stands (record { around = r; content = b; goals = hs }) k.config.roots → same_name k.home.content.name b.name ≡ true → (b ≡ k.home.content) × (hs ≡ k.home.goals)
  only_home r b hs y q =
      let e : record { around = r; content = b; goals = hs } ≡ k.home =
      one_box k.config.roots k.stand.once (record { around = r; content = b; goals = hs }) k.home y (stood k.config k.stand k.goal k.home k.is_home) (sym (same_name-equal k.home.content.name b.name q)) in
      (ap (λ (f : Found). f.content) e, ap (λ (f : Found). f.goals) e)

  nowhere : (i : Name) → (IsNewName k i → ⊥) → times i bs ≡ 0
  nowhere i n = elim (zero_or (times i bs)) [ inl e ↦ e | inr h ↦ absurd (n (new i h)) ]

  pub outside : IsOutside k (between k bs)
  outside = record {
    boxes = λ i n. box_alike k.home.content.name k.home.content k.home.goals goals (same_name-refl k.home.content.name) i (λ (u v : Goals). goal_names u ≡ goal_names v)
        (λ gs. sym (names_edited k.home.content.name (box k.home.content goals no_boxes) gs)) (sym (names_chosen k.goal k.op bs k.home.goals))
        (subst (λ (o : Option Found). Alike (λ (u v : Goals). goal_names u ≡ goal_names v) (box_inside i k.home.goals) o) (sym (inside_chosen k.goal k.op bs k.body i (box_at-none i bs (nowhere i n)) k.home.goals k.held))
        (alike_itself (λ (u v : Goals). goal_names u ≡ goal_names v) (λ gs. refl) (box_inside i k.home.goals)))
        k.config.roots only_home;
    homes = λ i n q. home_alike k.home.content.name k.home.content k.home.goals goals (same_name-refl k.home.content.name) i
        (ap (option_map shape_of) (sym (with_content_other k.goal i (a_choice k.op bs) k.home.goals q)))
        (subst (λ (o : Option Found). Alike (λ (u v : Goals). HaveShape (held_in i u) (held_in i v)) (home_inside i k.home.goals) o) (sym (home_chosen k.goal k.op bs k.body i (home_of-none i bs (nowhere i n)) k.home.goals k.held))
        (alike_itself (λ (u v : Goals). HaveShape (held_in i u) (held_in i v)) (λ gs. refl) (home_inside i k.home.goals)))
        k.config.roots only_home;
  }

  -- a new goal stands in a new box, and the call in its own
  new_home : (i : Name) (e : Found) → home_of i (between k bs).roots ≡ Some e → IsNewName k i ⊎ (i ≡ k.goal) → IsNewName k e.content.name ⊎ (e.content.name ≡ k.home.content.name)
  new_home i e x (inr q) =
      let y : home_of k.goal (between k bs).roots ≡ Some (with_choice k.home k.goal k.op bs) = home k.config k.stand k.goal k.home k.is_home k.body k.held k.op bs (between k bs).next s in
      inr (ap (λ (f : Found). f.content.name) (some_value (sym x ∙ ap (λ (j : Name). home_of j (between k bs).roots) q ∙ y)))
  new_home i e x (inl h) = elim (new_or k e.content.name) [
    | inl y ↦ inl y
    | inr n ↦
        let b : Before (λ (u v : Goals). goal_names u ≡ goal_names v) (box_at e.content.name k.config.roots) e =
        alike_some (λ (u v : Goals). goal_names u ≡ goal_names v) (box_at e.content.name k.config.roots) (box_at e.content.name (between k bs).roots) e (outside.boxes e.content.name n) (home-box i (between k bs).roots e s.once x) in
        absurd (not_old k i h (old_goal k.config k.stand i b.before (found_in e.content.name k.config.roots b.before b.found) (has_names i e.goals b.before.goals (sym b.related) (home_in i (between k bs).roots e x).1)))
  ]

  -- a new box is held by a new goal, or by the call
  new_holder : (n g : Name) → IsNewName k n → holder_in n (between k bs).roots ≡ Some g → IsNewName k g ⊎ (g ≡ k.goal)
  new_holder n g h i = elim (new_or k g) [ inl y ↦ inl y | inr old ↦ on (same_name g k.goal) refl old ]
    where
      on : (t : Bool) → same_name g k.goal ≡ t → (IsNewName k g → ⊥) → IsNewName k g ⊎ (g ≡ k.goal)
      on true q old = inr (same_name-equal g k.goal q)
      on false q old =
          let u : (f : Found) × (box_at n (between k bs).roots ≡ Some f) = holder_there (between k bs).roots n g i in
          let v : IsHeldBy n g u.0 (between k bs).roots = held_around (between k bs).roots s.once n g u.0 u.1 i in
          let b : Before (λ (u v : Goals). HaveShape (held_in g u) (held_in g v)) (home_of g k.config.roots) v.home =
          alike_some (λ (u v : Goals). HaveShape (held_in g u) (held_in g v)) (home_of g k.config.roots) (home_of g (between k bs).roots) v.home (outside.homes g old q) v.is_home in
          let cs : (cs : Boxes) × (held_in g b.before.goals ≡ Some (a_choice v.op cs)) × (box_names v.alternatives ≡ box_names cs) =
          choice_shape v.op v.alternatives (held_in g b.before.goals) (sym (ap (option_map shape_of) v.held) ∙ sym b.related) in
          let a : IsAlternativeAt n g b.before k.config.roots = alternative_at k.config.roots k.stand.once n g b.before v.op cs.0 b.found cs.1 (subst (IsIn n) cs.2 v.among) in
          absurd (not_old k n h (subst (IsOld k.config) (sym (box-itself n k.config.roots a.found a.is_found)) (old_box k.config k.stand a.found (found_in n k.config.roots a.found a.is_found))))

-- the call's box, the call, or a place of a new name
pub data IsTouched (k : Calling) : Place → Type 0 where
  its_box : IsTouched k (Place.Box k.home.content.name)
  passes : (place : Place) → IsPassing k place → IsTouched k place

module _ (k : Calling) (waits : List Wait) (m : Config) (before : IsOutside k m) (bs : Boxes) (s : Stand (between k bs)) (new : AreNew k bs) (none : (n : Name) → Adds m (between k bs) n → ⊥) where
  now : IsOutside k (between k bs)
  now = outside k bs s new

  constraints : (n : Name) → (IsNewName k n → ⊥) → constraint_at n m.roots ≡ constraint_at n (between k bs).roots
  constraints n h = sym (alike_constraint (λ (u v : Goals). goal_names u ≡ goal_names v) (box_at n k.config.roots) (box_at n m.roots) (before.boxes n h))
      ∙ alike_constraint (λ (u v : Goals). goal_names u ≡ goal_names v) (box_at n k.config.roots) (box_at n (between k bs).roots) (now.boxes n h)

  sets : (n : Name) → (IsNewName k n → ⊥) → goals_at n m.roots ≡ goals_at n (between k bs).roots
  sets n h = sym (alike_names (box_at n k.config.roots) (box_at n m.roots) (before.boxes n h)) ∙ alike_names (box_at n k.config.roots) (box_at n (between k bs).roots) (now.boxes n h)

  shapes : (g : Name) → (IsNewName k g → ⊥) → same_name g k.goal ≡ false → shape_at g m.roots ≡ shape_at g (between k bs).roots
  shapes g h q = sym (alike_shape g (home_of g k.config.roots) (home_of g m.roots) (before.homes g h q)) ∙ alike_shape g (home_of g k.config.roots) (home_of g (between k bs).roots) (now.homes g h q)

  -- a goal is the call, or new, or as it was
  goal_or : (g : Name) → (IsNewName k g ⊎ (g ≡ k.goal)) ⊎ ((IsNewName k g → ⊥) × (same_name g k.goal ≡ false))
  goal_or g = elim (new_or k g) [ inl h ↦ inl (inl h) | inr n ↦ on (same_name g k.goal) refl n ]
    where
      on : (t : Bool) → same_name g k.goal ≡ t → (IsNewName k g → ⊥) → (IsNewName k g ⊎ (g ≡ k.goal)) ⊎ ((IsNewName k g → ⊥) × (same_name g k.goal ≡ false))
      on true q n = inl (inr (same_name-equal g k.goal q))
      on false q n = inr (n, q)

  goal_touched : (g : Name) → IsNewName k g ⊎ (g ≡ k.goal) → IsTouched k (Place.Goal g)
  goal_touched g (inl h) = passes (Place.Goal g) (new_goal g h)
  goal_touched g (inr q) = subst (λ (i : Name). IsTouched k (Place.Goal i)) (sym q) (passes (Place.Goal k.goal) its_goal)

  box_touched : (n : Name) → IsNewName k n ⊎ (n ≡ k.home.content.name) → IsTouched k (Place.Box n)
  box_touched n (inl h) = passes (Place.Box n) (new_box n h)
  box_touched n (inr q) = subst (λ (i : Name). IsTouched k (Place.Box i)) (sym q) its_box

  pub opened_between : (place : Place) → Opens waits m (between k bs) place → IsTouched k place
  opened_between _ (opens_goal {g} {f} e i) = elim (goal_or g) [
    | inl h ↦ goal_touched g h
    | inr n ↦
        let z : home_of g (between k bs).roots ≡ None = none_alike (λ (u v : Goals). HaveShape (held_in g u) (held_in g v)) (home_of g k.config.roots) (home_of g (between k bs).roots) (now.homes g n.0 n.1)
        (alike_none (λ (u v : Goals). HaveShape (held_in g u) (held_in g v)) (home_of g k.config.roots) (home_of g m.roots) (before.homes g n.0 n.1) e) in
        absurd cc
  ]
  opened_between _ (opens_box {n} {f} e i) = elim (new_or k n) [
    | inl h ↦ box_touched n (inl h)
    | inr h ↦
        let z : box_at n (between k bs).roots ≡ None = none_alike (λ (u v : Goals). goal_names u ≡ goal_names v) (box_at n k.config.roots) (box_at n (between k bs).roots) (now.boxes n h)
        (alike_none (λ (u v : Goals). goal_names u ≡ goal_names v) (box_at n k.config.roots) (box_at n m.roots) (before.boxes n h) e) in
        absurd cc
  ]
  opened_between _ (changed_goal {g} e i x) = elim (goal_or g) [ inl h ↦ goal_touched g h | inr n ↦ absurd (x (shapes g n.0 n.1)) ]
  opened_between _ (box_of_changed_goal g {e} {f} y i x) = elim (goal_or g) [ inl h ↦ box_touched f.content.name (new_home k bs s new g f i h) | inr n ↦ absurd (x (shapes g n.0 n.1)) ]
  opened_between _ (changed_constraint {n} e i x) = elim (new_or k n) [ inl h ↦ box_touched n (inl h) | inr h ↦ absurd (x (constraints n h)) ]
  opened_between _ (changed_goals {n} e i x) = elim (new_or k n) [ inl h ↦ box_touched n (inl h) | inr h ↦ absurd (x (sets n h)) ]
  opened_between _ (holder_of_changed_goals n {g} e i x j) = elim (new_or k n) [ inl h ↦ goal_touched g (new_holder k bs s new n g h j) | inr h ↦ absurd (x (sets n h)) ]
  opened_between _ (woken n y b) = absurd (none n b.adds)
  opened_between _ (bound_outside n b o h) = absurd (none n b.adds)
