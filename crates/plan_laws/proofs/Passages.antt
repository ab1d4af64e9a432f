-- From a configuration over a second one to a third, where one box changes: what is opened from the first to the third is what is opened to the second, or from there on.
use Rattle.std.proofs.Common.{◌≡◌, List, ◌++◌, Option, Some, None, refl, sym, ◌∙◌, ap, subst, ◌⊎◌, inl, inr}
use Rattle.std.specs.Prelude.{option_map, IsSomeAnd}
use Rattle.akl_terms.specs.declared.name.Name.{Name}
use Rattle.akl_terms.specs.declared.name.Var.{Var}
use Rattle.akl_terms.specs.declared.name.Place.{Place}
use Rattle.akl_terms.specs.Tree.{variable}
use Rattle.akl_terms.specs.Equal.{Equations, Equal, told, IsConsistent, IsStructured, Follows}
use Rattle.akl_terms.specs.Touching.{IsOutside}
use Rattle.akl_terms.proofs.EqualLaws.{Equal-follows, IsConsistent-follows}
use Rattle.constraint_laws.specs.Bound.{IsNewlyBound}
use Rattle.constraint_laws.proofs.Decided.{equal_or, structured_or}
use Rattle.constraint_laws.proofs.SameTerms.{Either, name_or}
use Rattle.akl_model.specs.Config.{IsIn, Content, Goals, Config, Found, equations_of, whole, box_at, home_of}
use Rattle.akl_model.specs.Stable.{only, frames_of}
use Rattle.akl_model.specs.Changes.{shape_at, goal_names, goals_at, Adds, Binds}
use Rattle.akl_model.specs.Wakes.{IsThere, StandsIn, Wait, Opens, new_goal, new_box, changed_goal, box_of_changed_goal, changed_constraint, changed_goals, holder_of_changed_goals, woken, bound_outside, holder_in}
use Rattle.akl_model.proofs.NamesKept.{Stand, box-itself}
use Rattle.akl_model.proofs.Options.{some_value}
use Rattle.step_laws.specs.Holders.{IsAlternativeAt}
use Rattle.step_laws.proofs.Deeper.{home_found}
use Rattle.step_laws.proofs.GoalEdits.{HasGoal, has_names}
use Rattle.step_laws.proofs.Stays.{like_home, equations_grow}
use Rattle.step_laws.proofs.Steps.{Later}
use Rattle.step_laws.proofs.There.{there_site}
use Rattle.step_laws.proofs.Whereabouts.{found_in}
use Rattle.plan_laws.proofs.Further.{IsFurther, around_same, held_alike, adds_further}

-- variables that are bound or made equal, over equations between

pub never_bound : (E : Equations) (x : Var) → IsNewlyBound E E x → ⊥
never_bound E x b = elim b.told [ inl s ↦ b.unstructured s | inr w ↦ w.2 w.1 ]

pub bound_split : (E F G : Equations) (x : Var) → IsNewlyBound E G x → IsNewlyBound E F x ⊎ IsNewlyBound F G x
bound_split E F G x b = on (structured_or F x) b.told
  where
    tied : (IsStructured F x → ⊥) → (y : Var) → Equal G (variable x) (variable y) → (Equal E (variable x) (variable y) → ⊥) → Either (Equal F (variable x) (variable y)) → IsNewlyBound E F x ⊎ IsNewlyBound F G x
    tied free y e n (inl f) = inl (record { unstructured = b.unstructured; told = inr (y, f, n) })
    tied free y e n (inr m) = inr (record { unstructured = free; told = inr (y, e, m) })

    on : IsStructured F x ⊎ (IsStructured F x → ⊥) → IsStructured G x ⊎ ((y : Var) × Equal G (variable x) (variable y) × (Equal E (variable x) (variable y) → ⊥)) → IsNewlyBound E F x ⊎ IsNewlyBound F G x
    on (inl s) t = inl (record { unstructured = b.unstructured; told = inl s })
    on (inr free) (inl s) = inr (record { unstructured = free; told = inl s })
    on (inr free) (inr (y, e, n)) = tied free y e n (equal_or F (variable x) (variable y))

structured_more : (E F : Equations) (x : Var) → Follows E F → IsStructured E x → IsStructured F x
structured_more E F x f (t, h, e, q) = (t, h, Equal-follows f e, q)

pub bound_first : (E F G : Equations) (x : Var) → Follows F G → IsNewlyBound E F x → IsNewlyBound E G x
bound_first E F G x f b = record {
  unstructured = b.unstructured;
  told = elim b.told [ inl s ↦ inl (structured_more F G x f s) | inr w ↦ inr (w.0, Equal-follows f w.1, w.2) ];
}

pub bound_then : (E F G : Equations) (x : Var) → Follows E F → IsNewlyBound F G x → IsNewlyBound E G x
bound_then E F G x f b = record {
  unstructured = λ s. b.unstructured (structured_more E F x f s);
  told = elim b.told [ inl s ↦ inl s | inr w ↦ inr (w.0, w.1, λ e. w.2 (Equal-follows f e)) ];
}

abbrev pub at_home : List Content → Content → Goals → Found
at_home around b gs = record { around = around; content = b; goals = gs }

-- the box h stands in all three, a goal of it goes to the second, and nothing is new from this on
pub record Passage (h : Name) (c d e : Config) : Type 0 where
  pub stand : Stand c
  pub stand_between : Stand d
  pub stand_after : Stand e
  pub around : List Content
  pub first : Content
  pub first_goals : Goals
  pub middle : Content
  pub middle_goals : Goals
  pub last : Content
  pub last_goals : Goals
  pub was : box_at h c.roots ≡ Some (at_home around first first_goals)
  pub between : box_at h d.roots ≡ Some (at_home around middle middle_goals)
  pub is : box_at h e.roots ≡ Some (at_home around last last_goals)
  pub goal : Name
  pub had : HasGoal goal first_goals
  pub gone : home_of goal d.roots ≡ None
  pub later : Later c d
  pub adds : (n : Name) → Adds c d n → n ≡ h
  pub shapes : (g : Name) (f k : Found) → home_of g c.roots ≡ Some f → home_of g d.roots ≡ Some k → shape_at g c.roots ≡ shape_at g d.roots
  pub further : IsFurther h d e
  pub frames : frames_of (only (at_home around last last_goals)) ≡ frames_of (only (at_home around middle middle_goals))
  pub consistent : IsConsistent (equations_of around ++ last.equations)

module _ (h : Name) (c d e : Config) (x : Passage h c d e) (waits : List Wait) where
  abbrev E0 : Equations
  E0 = equations_of x.around ++ x.first.equations

  abbrev E1 : Equations
  E1 = equations_of x.around ++ x.middle.equations

  abbrev E2 : Equations
  E2 = equations_of x.around ++ x.last.equations

  grows : (m n : Config) (s : Stand m) (t : Stand n) → Later m n → (b b1 : Content) (gs gs1 : Goals) → box_at h m.roots ≡ Some (at_home x.around b gs) → box_at h n.roots ≡ Some (at_home x.around b1 gs1)
      → Follows (equations_of x.around ++ b.equations) (equations_of x.around ++ b1.equations)
  grows m n s t z b b1 gs gs1 i j = record {
    each = λ {s = l} {t = r} y. told (equations_grow m n s t z (at_home x.around b gs) (at_home x.around b1 gs1) (found_in h m.roots (at_home x.around b gs) i) (found_in h n.roots (at_home x.around b1 gs1) j)
        (sym (box-itself h m.roots (at_home x.around b gs) i) ∙ box-itself h n.roots (at_home x.around b1 gs1) j) l r y);
  }

  first_grows : Follows E0 E1
  first_grows = grows c d x.stand x.stand_between x.later x.first x.middle x.first_goals x.middle_goals x.was x.between

  then_grows : Follows E1 E2
  then_grows = grows d e x.stand_between x.stand_after x.further.later x.middle x.last x.middle_goals x.last_goals x.between x.is

  -- the box has other goals in the second and in the third

  not_there : (g : Name) (m : Config) → Stand m → (b : Content) (gs : Goals) → box_at h m.roots ≡ Some (at_home x.around b gs) → home_of g m.roots ≡ None → HasGoal g gs → ⊥
  not_there g m s b gs i none y = let z : home_of g m.roots ≡ Some (at_home x.around b gs) = home_found m.roots s.once g h (at_home x.around b gs) y.0 i y.1 in cc

  gone_after : home_of x.goal e.roots ≡ None
  gone_after = on (home_of x.goal e.roots) refl
    where
      on : (o : Option Found) → home_of x.goal e.roots ≡ o → o ≡ None
      on None q = refl
      on (Some f) q = let w : (k : Found) × (home_of x.goal d.roots ≡ Some k) = x.further.homes x.goal f q in let z : home_of x.goal d.roots ≡ None = x.gone in let y : home_of x.goal d.roots ≡ Some w.0 = w.1 in cc

  set_of : (m : Config) (b : Content) (gs : Goals) → box_at h m.roots ≡ Some (at_home x.around b gs) → goals_at h m.roots ≡ Some (goal_names gs)
  set_of m b gs i = ap (option_map (λ (f : Found). goal_names f.goals)) i

  first_differs : goals_at h c.roots ≡ goals_at h d.roots → ⊥
  first_differs q = not_there x.goal d x.stand_between x.middle x.middle_goals x.between x.gone
      (has_names x.goal x.first_goals x.middle_goals (some_value (sym (set_of c x.first x.first_goals x.was) ∙ q ∙ set_of d x.middle x.middle_goals x.between)) x.had)

  all_differs : goals_at h c.roots ≡ goals_at h e.roots → ⊥
  all_differs q = not_there x.goal e x.stand_after x.last x.last_goals x.is gone_after
      (has_names x.goal x.first_goals x.last_goals (some_value (sym (set_of c x.first x.first_goals x.was) ∙ q ∙ set_of e x.last x.last_goals x.is)) x.had)

  -- so it is opened
  pub first_box : Opens waits c d (Place.Box h)
  first_box = changed_goals x.was x.between first_differs

  pub all_box : Opens waits c e (Place.Box h)
  all_box = changed_goals x.was x.is all_differs

  -- what is bound in it

  pub adds_all : (n : Name) → Adds c e n → n ≡ h
  adds_all n a = elim (name_or n h) [
    | inl q ↦ q
    | inr o ↦
        let w : (k : Found) × (box_at n d.roots ≡ Some k) = x.further.boxes n a.afterwards a.is in
        let q : w.0.content.equations ≡ a.afterwards.content.equations = ap (λ (k : _). k.equations) (some_value (sym (ap (option_map _) w.1) ∙ x.further.stores n a.afterwards o a.is ∙ ap (option_map _) a.is)) in
        x.adds n (record { before = a.before; afterwards = w.0; was = a.was; is = w.1; more = λ y. a.more (sym q ∙ y) })
  ]

  -- a box that binds is this one, as it was found
  module _ (m n : Config) (b b1 : Content) (gs gs1 : Goals) (i : box_at h m.roots ≡ Some (at_home x.around b gs)) (j : box_at h n.roots ≡ Some (at_home x.around b1 gs1)) where
    newly : (v : Var) → Binds m n h v → IsConsistent (equations_of x.around ++ b1.equations) × IsNewlyBound (equations_of x.around ++ b.equations) (equations_of x.around ++ b1.equations) v
    newly v y =
        let p : y.adds.before ≡ at_home x.around b gs = some_value (sym y.adds.was ∙ i) in
        let q : y.adds.afterwards ≡ at_home x.around b1 gs1 = some_value (sym y.adds.is ∙ j) in
        (subst (λ (f : Found). IsConsistent (whole f)) q y.consistent, subst (λ (f : Found). IsNewlyBound (whole f) (equations_of x.around ++ b1.equations) v) p (subst (λ (f : Found). IsNewlyBound (whole y.adds.before) (whole f) v) q y.newly_bound))

    binds : (v : Var) → IsConsistent (equations_of x.around ++ b1.equations) → IsNewlyBound (equations_of x.around ++ b.equations) (equations_of x.around ++ b1.equations) v → Binds m n h v
    binds v good y = record {
      adds = record {
        before = at_home x.around b gs;
        afterwards = at_home x.around b1 gs1;
        was = i;
        is = j;
        more = λ q. never_bound (equations_of x.around ++ b.equations) v (subst (λ (E : Equations). IsNewlyBound (equations_of x.around ++ b.equations) (equations_of x.around ++ E) v) q y);
      };
      consistent = good;
      newly_bound = y;
    }

  binds_split : (v : Var) → Binds c e h v → Binds c d h v ⊎ Binds d e h v
  binds_split v y = elim (bound_split E0 E1 E2 v (newly c e x.first x.last x.first_goals x.last_goals x.was x.is v y).1) [
    | inl z ↦ inl (binds c d x.first x.middle x.first_goals x.middle_goals x.was x.between v (IsConsistent-follows then_grows x.consistent) z)
    | inr z ↦ inr (binds d e x.middle x.last x.middle_goals x.last_goals x.between x.is v x.consistent z)
  ]

  binds_first : (v : Var) → Binds c d h v → Binds c e h v
  binds_first v y = binds c e x.first x.last x.first_goals x.last_goals x.was x.is v x.consistent (bound_first E0 E1 E2 v then_grows (newly c d x.first x.middle x.first_goals x.middle_goals x.was x.between v y).1)

  binds_then : (v : Var) → Binds d e h v → Binds c e h v
  binds_then v y = binds c e x.first x.last x.first_goals x.last_goals x.was x.is v x.consistent (bound_then E0 E1 E2 v first_grows (newly d e x.middle x.last x.middle_goals x.last_goals x.between x.is v y).1)

  -- what is outside of the box
  out_at : (m n k : Config) (v : Var) (y : Binds m n h v) (z : Binds k n h v) → IsOutside (frames_of (only y.adds.afterwards)) v → IsOutside (frames_of (only z.adds.afterwards)) v
  out_at m n k v y z o = subst (λ (f : Found). IsOutside (frames_of (only f)) v) (some_value (sym y.adds.is ∙ z.adds.is)) o

  out_back : (m k : Config) (v : Var) (y : Binds m e h v) (z : Binds k d h v) → IsOutside (frames_of (only y.adds.afterwards)) v → IsOutside (frames_of (only z.adds.afterwards)) v
  out_back m k v y z o = subst (λ (f : Found). IsOutside (frames_of (only f)) v) (sym (some_value (sym z.adds.is ∙ x.between))) (subst (λ (ns : List Name). IsOutside ns v) x.frames
      (subst (λ (f : Found). IsOutside (frames_of (only f)) v) (some_value (sym y.adds.is ∙ x.is)) o))

  out_forth : (m k : Config) (v : Var) (y : Binds m d h v) (z : Binds k e h v) → IsOutside (frames_of (only y.adds.afterwards)) v → IsOutside (frames_of (only z.adds.afterwards)) v
  out_forth m k v y z o = subst (λ (f : Found). IsOutside (frames_of (only f)) v) (sym (some_value (sym z.adds.is ∙ x.is))) (subst (λ (ns : List Name). IsOutside ns v) (sym x.frames)
      (subst (λ (f : Found). IsOutside (frames_of (only f)) v) (some_value (sym y.adds.is ∙ x.between)) o))

  -- what is there in the third stands in it as in the second
  stands_back : (place : Place) → IsThere place e.roots → StandsIn h e.roots place → StandsIn h d.roots place
  stands_back place there y = subst (λ (o : Option (List Name)). IsSomeAnd o (IsIn h)) (sym (around_same h d e x.stand_between x.stand_after x.further place there)) y

  stands_forth : (place : Place) → IsThere place e.roots → StandsIn h d.roots place → StandsIn h e.roots place
  stands_forth place there y = subst (λ (o : Option (List Name)). IsSomeAnd o (IsIn h)) (around_same h d e x.stand_between x.stand_after x.further place there) y

  holder_back : (n g : Name) → holder_in n e.roots ≡ Some g → (f : Found) → home_of g e.roots ≡ Some f → holder_in n d.roots ≡ Some g
  holder_back n g j f i =
      let w : (k : Found) × (home_of g d.roots ≡ Some k) = x.further.homes g f i in
      (held_alike e.roots d.roots x.stand_after.once x.stand_between.once n g w.0 w.1 (sym (x.further.shapes g f i)) j).holder

  held_after : (n g : Name) → holder_in n d.roots ≡ Some g → (f : Found) → home_of g e.roots ≡ Some f → IsAlternativeAt n g f e.roots
  held_after n g j f i = held_alike d.roots e.roots x.stand_between.once x.stand_after.once n g f i (x.further.shapes g f i) j

  -- what is opened from the first to the third, and is there
  pub opens_split : (place : Place) → IsThere place e.roots → Opens waits c e place → Opens waits c d place ⊎ Opens waits d e place
  opens_split _ there (new_goal {g} {f} y i) = inl (new_goal y (x.further.homes g f i).1)
  opens_split _ there (new_box {n} {f} y i) = inl (new_box y (x.further.boxes n f i).1)
  opens_split _ there (changed_goal {g} {e = k} {f} y i z) = inl (changed_goal y (x.further.homes g f i).1 (λ q. z (q ∙ x.further.shapes g f i)))
  opens_split _ there (box_of_changed_goal g {e = k} {f} y i z) =
      let w : (m : Found) × (home_of g d.roots ≡ Some m) = x.further.homes g f i in
      inl (subst (λ (n : Name). Opens waits c d (Place.Box n)) (like_home d e x.stand_between x.stand_after x.further.later g w.0 f w.1 i).name (box_of_changed_goal g y w.1 (λ q. z (q ∙ x.further.shapes g f i))))
  opens_split _ there (changed_constraint {n} {e = k} {f} y i z) = elim (name_or n h) [
    | inl q ↦ inl (subst (λ (m : Name). Opens waits c d (Place.Box m)) (sym q) first_box)
    | inr o ↦ inl (changed_constraint y (x.further.boxes n f i).1 (λ q. z (q ∙ x.further.stores n f o i)))
  ]
  opens_split _ there (changed_goals {n} {e = k} {f} y i z) = elim (name_or n h) [
    | inl q ↦ inl (subst (λ (m : Name). Opens waits c d (Place.Box m)) (sym q) first_box)
    | inr o ↦ inl (changed_goals y (x.further.boxes n f i).1 (λ q. z (q ∙ x.further.sets n f o i)))
  ]
  opens_split _ there (holder_of_changed_goals n {g} {e = k} {f} y i z j) =
      let s : (m : Found) × (home_of g e.roots ≡ Some m) = there_site (Place.Goal g) e.roots there in
      let held : holder_in n d.roots ≡ Some g = holder_back n g j s.0 s.1 in
      elim (name_or n h) [
        | inl q ↦ inl (holder_of_changed_goals h x.was x.between first_differs (subst (λ (m : Name). holder_in m d.roots ≡ Some g) q held))
        | inr o ↦ inl (holder_of_changed_goals n y (x.further.boxes n f i).1 (λ q. z (q ∙ x.further.sets n f o i)) held)
      ]
  opens_split place there (woken n {x = v} y b) = elim (binds_split v (subst (λ (m : Name). Binds c e m v) (adds_all n b.adds) b)) [ inl z ↦ inl (woken h y z) | inr z ↦ inr (woken h y z) ]
  opens_split place there (bound_outside n {x = v} b o y) = on n (adds_all n b.adds) b o y
    where
      on : (m : Name) → m ≡ h → (a : Binds c e m v) → IsOutside (frames_of (only a.adds.afterwards)) v → StandsIn m e.roots place → Opens waits c d place ⊎ Opens waits d e place
      on m q = subst (λ (m : Name). (a : Binds c e m v) → IsOutside (frames_of (only a.adds.afterwards)) v → StandsIn m e.roots place → Opens waits c d place ⊎ Opens waits d e place) (sym q)
          (λ a u w. elim (binds_split v a) [ inl z ↦ inl (bound_outside h z (out_back c c v a z u) (stands_back place there w)) | inr z ↦ inr (bound_outside h z (out_at c e d v a z u) w) ])

  -- and what is opened to the second, and is there in the third
  pub opens_first : (place : Place) → IsThere place e.roots → Opens waits c d place → Opens waits c e place
  opens_first _ there (new_goal {g} {f} y i) = new_goal y (there_site (Place.Goal g) e.roots there).1
  opens_first _ there (new_box {n} {f} y i) = new_box y (there_site (Place.Box n) e.roots there).1
  opens_first _ there (changed_goal {g} {e = k} {f} y i z) = absurd (z (x.shapes g k f y i))
  opens_first _ there (box_of_changed_goal g {e = k} {f} y i z) = absurd (z (x.shapes g k f y i))
  opens_first _ there (changed_constraint {n} {e = k} {f} y i z) = elim (name_or n h) [
    | inl q ↦ subst (λ (m : Name). Opens waits c e (Place.Box m)) (sym q) all_box
    | inr o ↦ let s : (m : Found) × (box_at n e.roots ≡ Some m) = there_site (Place.Box n) e.roots there in changed_constraint y s.1 (λ q. z (q ∙ sym (x.further.stores n s.0 o s.1)))
  ]
  opens_first _ there (changed_goals {n} {e = k} {f} y i z) = elim (name_or n h) [
    | inl q ↦ subst (λ (m : Name). Opens waits c e (Place.Box m)) (sym q) all_box
    | inr o ↦ let s : (m : Found) × (box_at n e.roots ≡ Some m) = there_site (Place.Box n) e.roots there in changed_goals y s.1 (λ q. z (q ∙ sym (x.further.sets n s.0 o s.1)))
  ]
  opens_first _ there (holder_of_changed_goals n {g} {e = k} {f} y i z j) =
      let s : (m : Found) × (home_of g e.roots ≡ Some m) = there_site (Place.Goal g) e.roots there in
      let held : IsAlternativeAt n g s.0 e.roots = held_after n g j s.0 s.1 in
      elim (name_or n h) [
        | inl q ↦ holder_of_changed_goals h x.was x.is all_differs (subst (λ (m : Name). holder_in m e.roots ≡ Some g) q held.holder)
        | inr o ↦ holder_of_changed_goals n y held.is_found (λ q. z (q ∙ sym (x.further.sets n held.found o held.is_found))) held.holder
      ]
  opens_first place there (woken n {x = v} y b) = woken h y (binds_first v (subst (λ (m : Name). Binds c d m v) (x.adds n b.adds) b))
  opens_first place there (bound_outside n {x = v} b o y) = on n (x.adds n b.adds) b o y
    where
      on : (m : Name) → m ≡ h → (a : Binds c d m v) → IsOutside (frames_of (only a.adds.afterwards)) v → StandsIn m d.roots place → Opens waits c e place
      on m q = subst (λ (m : Name). (a : Binds c d m v) → IsOutside (frames_of (only a.adds.afterwards)) v → StandsIn m d.roots place → Opens waits c e place) (sym q)
          (λ a u w. bound_outside h (binds_first v a) (out_forth c c v a (binds_first v a) u) (stands_forth place there w))

  -- or from there on
  pub opens_then : (place : Place) → IsThere place e.roots → Opens waits d e place → Opens waits c e place
  opens_then _ there (new_goal {g} {f} y i) = let w : (m : Found) × (home_of g d.roots ≡ Some m) = x.further.homes g f i in let q : home_of g d.roots ≡ Some w.0 = w.1 in absurd cc
  opens_then _ there (new_box {n} {f} y i) = let w : (m : Found) × (box_at n d.roots ≡ Some m) = x.further.boxes n f i in let q : box_at n d.roots ≡ Some w.0 = w.1 in absurd cc
  opens_then _ there (changed_goal {g} {e = k} {f} y i z) = absurd (z (x.further.shapes g f i))
  opens_then _ there (box_of_changed_goal g {e = k} {f} y i z) = absurd (z (x.further.shapes g f i))
  opens_then _ there (changed_constraint {n} {e = k} {f} y i z) = elim (name_or n h) [ inl q ↦ subst (λ (m : Name). Opens waits c e (Place.Box m)) (sym q) all_box | inr o ↦ absurd (z (x.further.stores n f o i)) ]
  opens_then _ there (changed_goals {n} {e = k} {f} y i z) = elim (name_or n h) [ inl q ↦ subst (λ (m : Name). Opens waits c e (Place.Box m)) (sym q) all_box | inr o ↦ absurd (z (x.further.sets n f o i)) ]
  opens_then _ there (holder_of_changed_goals n {g} {e = k} {f} y i z j) = elim (name_or n h) [
    | inl q ↦ holder_of_changed_goals h x.was x.is all_differs (subst (λ (m : Name). holder_in m e.roots ≡ Some g) q j)
    | inr o ↦ absurd (z (x.further.sets n f o i))
  ]
  opens_then place there (woken n {x = v} y b) = woken h y (binds_then v (subst (λ (m : Name). Binds d e m v) (adds_further h d e x.further n b.adds) b))
  opens_then place there (bound_outside n {x = v} b o y) = on n (adds_further h d e x.further n b.adds) b o y
    where
      on : (m : Name) → m ≡ h → (a : Binds d e m v) → IsOutside (frames_of (only a.adds.afterwards)) v → StandsIn m e.roots place → Opens waits c e place
      on m q = subst (λ (m : Name). (a : Binds d e m v) → IsOutside (frames_of (only a.adds.afterwards)) v → StandsIn m e.roots place → Opens waits c e place) (sym q)
          (λ a u w. bound_outside h (binds_then v a) (out_at d e c v a (binds_then v a) u) w)

-- nothing is opened where nothing changes
pub opens_none : (waits : List Wait) (c : Config) (place : Place) → Opens waits c c place → ⊥
opens_none waits c _ (new_goal y i) = cc
opens_none waits c _ (new_box y i) = cc
opens_none waits c _ (changed_goal y i z) = z refl
opens_none waits c _ (box_of_changed_goal g y i z) = z refl
opens_none waits c _ (changed_constraint y i z) = z refl
opens_none waits c _ (changed_goals y i z) = z refl
opens_none waits c _ (holder_of_changed_goals n y i z j) = z refl
opens_none waits c place (woken n y b) = b.adds.more (ap (λ (f : Found). f.content.equations) (some_value (sym b.adds.is ∙ b.adds.was)))
opens_none waits c place (bound_outside n b o y) = b.adds.more (ap (λ (f : Found). f.content.equations) (some_value (sym b.adds.is ∙ b.adds.was)))
