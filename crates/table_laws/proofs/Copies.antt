-- Copies of boxes, by their names: the boxes that they are of, and the rows of their goals.
use Rattle.std.proofs.Common.{◌≡◌, ℕ, ◌+◌, ◌≤◌, ◌<◌, List, [], ◌∷◌, ◌++◌, map, Bool, true, false, Option, Some, None, refl, sym, ◌∙◌, ap, subst, ◌⊎◌, inl, inr, arith}
use Rattle.std.specs.Prelude.{if◌then◌else◌, option_map}
use Rattle.akl_terms.specs.declared.name.Name.{Name}
use Rattle.akl_terms.specs.declared.term.Node.{Node}
use Rattle.akl_terms.specs.Equal.{Equations}
use Rattle.akl_terms.specs.Names.{same_name}
use Rattle.akl_terms.proofs.SameNames.{same_name-equal, same_name-refl}
use Rattle.akl_model.specs.Config.{IsIn, Content, Boxes, no_boxes, box, Goals, no_goals, atom, choice, Held, an_atom, a_choice, held_in, Found, or_else, box_at, home_of}
use Rattle.akl_model.specs.Names.{one_if, times_in}
use Rattle.akl_model.specs.Changes.{Shape, of_atom, of_choice, shape_of, box_names, goal_names}
use Rattle.akl_model.proofs.Options.{none_where, map_some, map_none, some_value}
use Rattle.akl_model.proofs.Finds.{zero_or, times_in-append, times, times_inside, box_at-some}
use Rattle.akl_model.proofs.NamesKept.{box-itself, home-box}
use Rattle.akl_model.proofs.Scoped.{IsIn-either}
use Rattle.akl_model.proofs.ScopesAlong.{counted_in, times_path}
use Rattle.step_laws.specs.Whereabouts.{BoxIn, InGoals}
use Rattle.step_laws.proofs.Whereabouts.{found_in, in_named, among_named, in_counted, among_counted, held_counted, home_in}
use Rattle.step_laws.proofs.Deeper.{home_found}
use Rattle.step_laws.proofs.GoalEdits.{HasGoal, named_held, held_named}
use Rattle.table_laws.specs.Rows.{GoalRow}
use Rattle.table_laws.specs.Unfolds.{Spot, spot_of}
use Rattle.table_laws.specs.Steps.{BoxCopy, shapes_in, copy_among, IsCopy, AreCopies}
use Rattle.table_laws.specs.Writes.{shape_among, copied_goal_of, names_copied}
use Rattle.table_laws.proofs.Frame.{both_there, both_back, neither}
use Rattle.table_laws.proofs.Insides.{named_counted, goal_names_less}

abbrev pub goals_copied : BoxCopy → List Name
goals_copied k = map (λ (x : Name × Shape). x.0) k.goals

abbrev pub copy_names : List BoxCopy → List Name
copy_names ks = map (λ (k : BoxCopy). k.name) ks

abbrev pub IsAmong : BoxCopy → List BoxCopy → Type 0
IsAmong k [] = ⊥
IsAmong k (c ∷ cs) = (k ≡ c) ⊎ IsAmong k cs

pub among_copies : (k : BoxCopy) (cs : List BoxCopy) → IsAmong k cs → IsIn k.name (copy_names cs)
among_copies k [] i = i
among_copies k (c ∷ cs) (inl e) = inl (ap (λ (x : BoxCopy). x.name) e)
among_copies k (c ∷ cs) (inr i) = inr (among_copies k cs i)

-- each is the one under its name
pub among_found : (cs : List BoxCopy) → ((n : Name) → times_in n (copy_names cs) ≤ 1) → (k : BoxCopy) → IsAmong k cs → copy_among cs k.name ≡ Some k
among_found [] once k i = absurd i
among_found (c ∷ cs) once k (inl e) =
    let t : same_name k.name c.name ≡ true = subst (λ (x : BoxCopy). same_name k.name x.name ≡ true) e (same_name-refl k.name) in
    ap (λ (v : Bool). if v then Some c else copy_among cs k.name) t ∙ ap Some (sym e)
among_found (c ∷ cs) once k (inr i) = on (same_name k.name c.name) refl (among_found cs (λ n. let o : one_if (same_name n c.name) + times_in n (copy_names cs) ≤ 1 = once n in omega arith) k i)
  where
    on : (t : Bool) → same_name k.name c.name ≡ t → copy_among cs k.name ≡ Some k → (if t then Some c else copy_among cs k.name) ≡ Some k
    on true e r =
        let u : one_if (same_name k.name c.name) ≡ 1 = ap one_if e in
        let v : 0 < times_in k.name (copy_names cs) = counted_in k.name (copy_names cs) (among_copies k cs i) in
        let o : one_if (same_name k.name c.name) + times_in k.name (copy_names cs) ≤ 1 = once k.name in
        absurd (omega arith)
    on false e r = r

pub found_among : (cs : List BoxCopy) (n : Name) (k : BoxCopy) → copy_among cs n ≡ Some k → IsAmong k cs × (n ≡ k.name)
found_among [] n k e = cc
found_among (c ∷ cs) n k e = on (same_name n c.name) refl e (λ i. found_among cs n k i)
  where
    on : (t : Bool) → same_name n c.name ≡ t → (if t then Some c else copy_among cs n) ≡ Some k → (copy_among cs n ≡ Some k → IsAmong k cs × (n ≡ k.name)) → IsAmong k (c ∷ cs) × (n ≡ k.name)
    on true q i f = let z : c ≡ k = some_value i in (inl (sym z), same_name-equal n c.name q ∙ ap (λ (x : BoxCopy). x.name) z)
    on false q i f = let w : IsAmong k cs × (n ≡ k.name) = f i in (inr w.0, w.1)

-- goals and their shapes

pub shape_names : (gs : Goals) → map (λ (x : Name × Shape). x.0) (shapes_in gs) ≡ goal_names gs
shape_names no_goals = refl
shape_names (atom g a gs) = ap (λ (ns : List Name). g ∷ ns) (shape_names gs)
shape_names (choice g o bs gs) = ap (λ (ns : List Name). g ∷ ns) (shape_names gs)

abbrev spot_at : Name → Held → Spot
spot_at home h = record { home = home; shape = shape_of h }

shape_spots : (home : Name) (number : ℕ) (gs : Goals) (m : Name) → option_map spot_of (shape_among home number (shapes_in gs) m) ≡ option_map (spot_at home) (held_in m gs)
shape_spots home number no_goals m = refl
shape_spots home number (atom g a gs) m = on (same_name m g) (shape_spots home number gs m)
  where
    on : (t : Bool) → option_map spot_of (shape_among home number (shapes_in gs) m) ≡ option_map (spot_at home) (held_in m gs)
        → option_map spot_of (if t then Some (record { home = home; shape = of_atom a; changed = number }) else shape_among home number (shapes_in gs) m) ≡ option_map (spot_at home) (if t then Some (an_atom a) else held_in m gs)
    on true r = refl
    on false r = r
shape_spots home number (choice g o bs gs) m = on (same_name m g) (shape_spots home number gs m)
  where
    on : (t : Bool) → option_map spot_of (shape_among home number (shapes_in gs) m) ≡ option_map (spot_at home) (held_in m gs)
        → option_map spot_of (if t then Some (record { home = home; shape = of_choice o (box_names bs); changed = number }) else shape_among home number (shapes_in gs) m)
        ≡ option_map (spot_at home) (if t then Some (a_choice o bs) else held_in m gs)
    on true r = refl
    on false r = r

shape_changed : (home : Name) (number : ℕ) (xs : List (Name × Shape)) (m : Name) (row : GoalRow) → shape_among home number xs m ≡ Some row → row.changed ≡ number
shape_changed home number [] m row e = cc
shape_changed home number (x ∷ xs) m row e = on (same_name m x.0) e (λ i. shape_changed home number xs m row i)
  where
    on : (t : Bool) → (if t then Some (record { home = home; shape = x.1; changed = number }) else shape_among home number xs m) ≡ Some row → (shape_among home number xs m ≡ Some row → row.changed ≡ number) → row.changed ≡ number
    on true i f = ap (λ (r : GoalRow). r.changed) (sym (some_value i))
    on false i f = f i

-- a name isn't that of a box and of a goal

pub home_counted : (m : Name) (h : Held) (q : List Content) (j : Content) (is : Goals) (bs : Boxes) → BoxIn q j is bs → held_in m is ≡ Some h → 1 ≤ times m bs
home_counted m h q j is bs y e =
    let a : times m (box j is no_boxes) + times_path m q ≤ times m bs = in_counted m q j is bs y in
    let b : 1 ≤ times_inside m is = held_counted m h is e in
    omega arith

home_counted_inside : (m : Name) (h : Held) (q : List Content) (j : Content) (is : Goals) (gs : Goals) → InGoals q j is gs → held_in m is ≡ Some h → 1 ≤ times_inside m gs
home_counted_inside m h q j is gs y e =
    let a : times m (box j is no_boxes) + times_path m q ≤ times_inside m gs = among_counted m q j is gs y in
    let b : 1 ≤ times_inside m is = held_counted m h is e in
    omega arith

named_in : (m : Name) (r : List Content) (k : Content) (hs : Goals) (bs : Boxes) → m ≡ k.name → BoxIn r k hs bs → 1 ≤ times m bs
named_in m r k hs bs e x = subst (λ (n : Name). 1 ≤ times n bs) (sym e) (in_named bs (record { around = r; content = k; goals = hs }) x)

named_inside : (m : Name) (r : List Content) (k : Content) (hs gs : Goals) → m ≡ k.name → InGoals r k hs gs → 1 ≤ times_inside m gs
named_inside m r k hs gs e x = subst (λ (n : Name). 1 ≤ times_inside n gs) (sym e) (among_named gs (record { around = r; content = k; goals = hs }) x)

beside : (m : Name) (h : Held) (r : List Content) (k : Content) (hs gs : Goals) → m ≡ k.name → InGoals r k hs gs → held_in m gs ≡ Some h → 2 ≤ times_inside m gs
beside m h r k hs no_goals e x i = absurd x
beside m h r k hs (atom g a gs) e x i = on (same_name m g) refl i (λ z. beside m h r k hs gs e x z)
  where
    on : (t : Bool) → same_name m g ≡ t → (if t then Some (an_atom a) else held_in m gs) ≡ Some h → (held_in m gs ≡ Some h → 2 ≤ times_inside m gs) → 2 ≤ one_if (same_name m g) + times_inside m gs
    on true q z f = let u : one_if (same_name m g) ≡ 1 = ap one_if q in let v : 1 ≤ times_inside m gs = named_inside m r k hs gs e x in omega arith
    on false q z f = let v : 2 ≤ times_inside m gs = f z in omega arith
beside m h r k hs (choice g o bs gs) e x i = on (same_name m g) refl x i (λ y z. beside m h r k hs gs e y z)
  where
    on : (t : Bool) → same_name m g ≡ t → BoxIn r k hs bs ⊎ InGoals r k hs gs → (if t then Some (a_choice o bs) else held_in m gs) ≡ Some h → (InGoals r k hs gs → held_in m gs ≡ Some h → 2 ≤ times_inside m gs)
        → 2 ≤ one_if (same_name m g) + (times m bs + times_inside m gs)
    on true q (inl y) z f = let u : one_if (same_name m g) ≡ 1 = ap one_if q in let v : 1 ≤ times m bs = named_in m r k hs bs e y in omega arith
    on true q (inr y) z f = let u : one_if (same_name m g) ≡ 1 = ap one_if q in let v : 1 ≤ times_inside m gs = named_inside m r k hs gs e y in omega arith
    on false q (inl y) z f = let u : 1 ≤ times_inside m gs = held_counted m h gs z in let v : 1 ≤ times m bs = named_in m r k hs bs e y in omega arith
    on false q (inr y) z f = let v : 2 ≤ times_inside m gs = f y z in omega arith

module _ (m : Name) (h : Held) (k : Content) (hs : Goals) (e : m ≡ k.name) (j : Content) (is : Goals) (i : held_in m is ≡ Some h) where
  mutual
    pub counted_twice : (r q : List Content) (bs : Boxes) → BoxIn r k hs bs → BoxIn q j is bs → 2 ≤ times m bs
    counted_twice r q no_boxes x y = absurd x
    counted_twice r q (box b gs bs) (inl x) y =
        let u : one_if (same_name m b.name) ≡ 1 = ap one_if (subst (λ (n : Name). same_name m n ≡ true) (e ∙ ap (λ (c : Content). c.name) x.1) (same_name-refl m)) in
        elim y [
          | inl z ↦ (let v : 1 ≤ times_inside m gs = held_counted m h gs (subst (λ (a : Goals). held_in m a ≡ Some h) z.2 i) in omega arith)
          | inr z ↦ elim z [
            | inl w ↦ (let v : 1 ≤ times_inside m gs = home_counted_inside m h w.0 j is gs w.2 i in omega arith)
            | inr w ↦ (let v : 1 ≤ times m bs = home_counted m h q j is bs w i in omega arith)
          ]
        ]
    counted_twice r q (box b gs bs) (inr (inl x)) (inl z) = let v : 2 ≤ times_inside m gs = beside m h x.0 k hs gs e x.2 (subst (λ (a : Goals). held_in m a ≡ Some h) z.2 i) in omega arith
    counted_twice r q (box b gs bs) (inr (inl x)) (inr (inl w)) = let v : 2 ≤ times_inside m gs = inside_twice x.0 w.0 gs x.2 w.2 in omega arith
    counted_twice r q (box b gs bs) (inr (inl x)) (inr (inr w)) = let u : 1 ≤ times_inside m gs = named_inside m x.0 k hs gs e x.2 in let v : 1 ≤ times m bs = home_counted m h q j is bs w i in omega arith
    counted_twice r q (box b gs bs) (inr (inr x)) (inl z) =
        let u : 1 ≤ times m bs = named_in m r k hs bs e x in
        let v : 1 ≤ times_inside m gs = held_counted m h gs (subst (λ (a : Goals). held_in m a ≡ Some h) z.2 i) in
        omega arith
    counted_twice r q (box b gs bs) (inr (inr x)) (inr (inl w)) = let u : 1 ≤ times m bs = named_in m r k hs bs e x in let v : 1 ≤ times_inside m gs = home_counted_inside m h w.0 j is gs w.2 i in omega arith
    counted_twice r q (box b gs bs) (inr (inr x)) (inr (inr w)) = let v : 2 ≤ times m bs = counted_twice r q bs x w in omega arith

    inside_twice : (r q : List Content) (gs : Goals) → InGoals r k hs gs → InGoals q j is gs → 2 ≤ times_inside m gs
    inside_twice r q no_goals x y = absurd x
    inside_twice r q (atom g v gs) x y = let u : 2 ≤ times_inside m gs = inside_twice r q gs x y in omega arith
    inside_twice r q (choice g o bs gs) (inl x) (inl y) = let u : 2 ≤ times m bs = counted_twice r q bs x y in omega arith
    inside_twice r q (choice g o bs gs) (inl x) (inr y) = let u : 1 ≤ times m bs = named_in m r k hs bs e x in let v : 1 ≤ times_inside m gs = home_counted_inside m h q j is gs y i in omega arith
    inside_twice r q (choice g o bs gs) (inr x) (inl y) = let u : 1 ≤ times_inside m gs = named_inside m r k hs gs e x in let v : 1 ≤ times m bs = home_counted m h q j is bs y i in omega arith
    inside_twice r q (choice g o bs gs) (inr x) (inr y) = let u : 2 ≤ times_inside m gs = inside_twice r q gs x y in omega arith

-- copies of the boxes that are found among some
module _ (nodes : List Node) (around : Equations) (bs : Boxes) (once : (m : Name) → times m bs ≤ 1) (copies : List BoxCopy) (are : AreCopies nodes around bs copies) where
  pub copy_of : (n : Name) (f : Found) → box_at n bs ≡ Some f → (k : BoxCopy) × (copy_among copies n ≡ Some k) × IsCopy nodes around bs f k
  copy_of n f e = both_there (IsCopy nodes around bs) (box_at n bs) (copy_among copies n) f (are.each n) e

  pub no_copy : (n : Name) → box_at n bs ≡ None → copy_among copies n ≡ None
  no_copy n e = neither (IsCopy nodes around bs) (box_at n bs) (copy_among copies n) (are.each n) e

  pub box_of : (n : Name) (k : BoxCopy) → copy_among copies n ≡ Some k → (f : Found) × (box_at n bs ≡ Some f) × IsCopy nodes around bs f k
  box_of n k e = both_back (IsCopy nodes around bs) (box_at n bs) (copy_among copies n) k (are.each n) e

  pub box_among : (k : BoxCopy) → IsAmong k copies → (f : Found) × (box_at k.name bs ≡ Some f) × IsCopy nodes around bs f k
  box_among k i = box_of k.name k (among_found copies are.once k i)

  pub goals_are : (f : Found) (k : BoxCopy) → IsCopy nodes around bs f k → goals_copied k ≡ goal_names f.goals
  goals_are f k c = ap (map (λ (x : Name × Shape). x.0)) c.goals ∙ shape_names f.goals

  -- a goal of a copy is one of the box
  pub goal_home : (k : BoxCopy) (g : Name) → IsAmong k copies → IsIn g (goals_copied k) → (f : Found) × (home_of g bs ≡ Some f) × (f.content.name ≡ k.name)
  goal_home k g i j =
      let w : (f : Found) × (box_at k.name bs ≡ Some f) × IsCopy nodes around bs f k = box_among k i in
      let h : HasGoal g w.0.goals = named_held g w.0.goals (counted_in g (goal_names w.0.goals) (subst (IsIn g) (goals_are w.0 k w.2) j)) in
      (w.0, home_found bs once g k.name w.0 h.0 w.1 h.1, sym (box-itself k.name bs w.0 w.1))

  -- a name has the row of a goal of a copy, or there is none
  module _ (number : ℕ) (m : Name) where
    pub record IsGoalCopied (o : Option GoalRow) : Type 0 where
      pub row : GoalRow
      pub there : o ≡ Some row
      pub changed : row.changed ≡ number
      pub home : Found
      pub is_home : home_of m bs ≡ Some home
      pub held : Held
      pub is_held : held_in m home.goals ≡ Some held
      pub spot : spot_of row ≡ record { home = home.content.name; shape = shape_of held }

    goal_or : (ks : List BoxCopy) → ((k : BoxCopy) → IsAmong k ks → IsAmong k copies)
        → ((copied_goal_of number ks m ≡ None) × ((k : BoxCopy) → IsAmong k ks → IsIn m (goals_copied k) → ⊥)) ⊎ IsGoalCopied (copied_goal_of number ks m)
    goal_or [] all = inl (refl, λ k i j. i)
    goal_or (k ∷ ks) all = on (shape_among k.name number k.goals m) refl (goal_or ks (λ v i. all v (inr i)))
      where
        w : (f : Found) × (box_at k.name bs ≡ Some f) × IsCopy nodes around bs f k
        w = box_among k (all k (inl refl))

        spots : option_map spot_of (shape_among k.name number k.goals m) ≡ option_map (spot_at k.name) (held_in m w.0.goals)
        spots = ap (λ (xs : List (Name × Shape)). option_map spot_of (shape_among k.name number xs m)) w.2.goals ∙ shape_spots k.name number w.0.goals m

        on : (o : Option GoalRow) → shape_among k.name number k.goals m ≡ o
            → ((copied_goal_of number ks m ≡ None) × ((v : BoxCopy) → IsAmong v ks → IsIn m (goals_copied v) → ⊥)) ⊎ IsGoalCopied (copied_goal_of number ks m)
            → ((or_else o (copied_goal_of number ks m) ≡ None) × ((v : BoxCopy) → IsAmong v (k ∷ ks) → IsIn m (goals_copied v) → ⊥)) ⊎ IsGoalCopied (or_else o (copied_goal_of number ks m))
        on (Some row) e r =
            let i : option_map (spot_at k.name) (held_in m w.0.goals) ≡ Some (spot_of row) = sym spots ∙ ap (option_map spot_of) e in
            let h : (h : Held) × (held_in m w.0.goals ≡ Some h) × (spot_at k.name h ≡ spot_of row) = map_some (spot_at k.name) (held_in m w.0.goals) (spot_of row) i in
            inr (record {
              row = row;
              there = refl;
              changed = shape_changed k.name number k.goals m row e;
              home = w.0;
              is_home = home_found bs once m k.name w.0 h.0 w.1 h.1;
              held = h.0;
              is_held = h.1;
              spot = sym h.2 ∙ ap (λ (n : Name). spot_at n h.0) (box-itself k.name bs w.0 w.1);
            })
        on None e (inr x) = inr x
        on None e (inl x) = inl (x.0, none)
          where
            absent : held_in m w.0.goals ≡ None
            absent = map_none (spot_at k.name) (held_in m w.0.goals) (sym spots ∙ ap (option_map spot_of) e)

            none : (v : BoxCopy) → IsAmong v (k ∷ ks) → IsIn m (goals_copied v) → ⊥
            none v (inr i) j = x.1 v i j
            none v (inl q) j =
                let h : HasGoal m w.0.goals = named_held m w.0.goals (counted_in m (goal_names w.0.goals) (subst (IsIn m) (goals_are w.0 k w.2) (subst (λ (u : BoxCopy). IsIn m (goals_copied u)) q j))) in
                let z : held_in m w.0.goals ≡ Some h.0 = h.1 in
                let a : held_in m w.0.goals ≡ None = absent in
                cc

    pub goal_copied : ((copied_goal_of number copies m ≡ None) × (home_of m bs ≡ None)) ⊎ IsGoalCopied (copied_goal_of number copies m)
    goal_copied = elim (goal_or copies (λ k i. i)) [ inr x ↦ inr x | inl x ↦ inl (x.0, none_where (home_of m bs) (λ f e. none f e x.1)) ]
      where
        none : (f : Found) → home_of m bs ≡ Some f → ((k : BoxCopy) → IsAmong k copies → IsIn m (goals_copied k) → ⊥) → ⊥
        none f e x =
            let w : (k : BoxCopy) × (copy_among copies f.content.name ≡ Some k) × IsCopy nodes around bs f k = copy_of f.content.name f (home-box m bs f once e) in
            let h : HasGoal m f.goals = (home_in m bs f e).1 in
            x w.0 (found_among copies f.content.name w.0 w.1).0 (subst (IsIn m) (sym (goals_are f w.0 w.2)) (named_counted m (goal_names f.goals) (held_named m f.goals h.0 h.1)))

  -- each name of a copy or of a goal in one stands once

  in_names : (m : Name) (ks : List BoxCopy) → IsIn m (names_copied ks) → (k : BoxCopy) × IsAmong k ks × ((m ≡ k.name) ⊎ IsIn m (goals_copied k))
  in_names m [] i = absurd i
  in_names m (k ∷ ks) (inl e) = (k, inl refl, inl e)
  in_names m (k ∷ ks) (inr i) = elim (IsIn-either m (goals_copied k) (names_copied ks) i) [
    | inl j ↦ (k, inl refl, inr j)
    | inr j ↦ (let w : (v : BoxCopy) × IsAmong v ks × ((m ≡ v.name) ⊎ IsIn m (goals_copied v)) = in_names m ks j in (w.0, inr w.1, w.2))
  ]

  -- a name of a copy isn't one of a goal
  not_both : (m : Name) (k v : BoxCopy) → IsAmong k copies → IsAmong v copies → m ≡ k.name → IsIn m (goals_copied v) → ⊥
  not_both m k v i j e x =
      let w : (f : Found) × (box_at k.name bs ≡ Some f) × IsCopy nodes around bs f k = box_among k i in
      let z : (f : Found) × (home_of m bs ≡ Some f) × (f.content.name ≡ v.name) = goal_home v m j x in
      let h : HasGoal m z.0.goals = (home_in m bs z.0 z.1).1 in
      let a : 2 ≤ times m bs = counted_twice m h.0 w.0.content w.0.goals (e ∙ box-itself k.name bs w.0 w.1) z.0.content z.0.goals h.1 w.0.around z.0.around bs (found_in k.name bs w.0 w.1) (home_in m bs z.0 z.1).0 in
      let o : times m bs ≤ 1 = once m in
      omega arith

  one_copy : (m : Name) (k v : BoxCopy) → IsAmong k copies → IsAmong v copies → (m ≡ k.name) ⊎ IsIn m (goals_copied k) → (m ≡ v.name) ⊎ IsIn m (goals_copied v) → k.name ≡ v.name
  one_copy m k v i j (inl x) (inl y) = sym x ∙ y
  one_copy m k v i j (inl x) (inr y) = absurd (not_both m k v i j x y)
  one_copy m k v i j (inr x) (inl y) = absurd (not_both m v k j i y x)
  one_copy m k v i j (inr x) (inr y) =
      let a : (f : Found) × (home_of m bs ≡ Some f) × (f.content.name ≡ k.name) = goal_home k m i x in
      let b : (f : Found) × (home_of m bs ≡ Some f) × (f.content.name ≡ v.name) = goal_home v m j y in
      sym a.2 ∙ ap (λ (f : Found). f.content.name) (some_value (sym a.1 ∙ b.1)) ∙ b.2

  own_once : (m : Name) (k : BoxCopy) → IsAmong k copies → one_if (same_name m k.name) + times_in m (goals_copied k) ≤ 1
  own_once m k i =
      let w : (f : Found) × (box_at k.name bs ≡ Some f) × IsCopy nodes around bs f k = box_among k i in
      let a : times m (box w.0.content w.0.goals no_boxes) + times_path m w.0.around ≤ times m bs = in_counted m w.0.around w.0.content w.0.goals bs (found_in k.name bs w.0 w.1) in
      let b : times_in m (goals_copied k) ≡ times_in m (goal_names w.0.goals) = ap (times_in m) (goals_are w.0 k w.2) in
      let c : times_in m (goal_names w.0.goals) ≤ times_inside m w.0.goals = goal_names_less m w.0.goals in
      let e : one_if (same_name m k.name) ≡ one_if (same_name m w.0.content.name) = ap (λ (n : Name). one_if (same_name m n)) (box-itself k.name bs w.0 w.1) in
      let o : times m bs ≤ 1 = once m in
      omega (arith, a, b, c, e, o)

  own_named : (m : Name) (k : BoxCopy) → 0 < one_if (same_name m k.name) + times_in m (goals_copied k) → (m ≡ k.name) ⊎ IsIn m (goals_copied k)
  own_named m k h = on (same_name m k.name) refl h
    where
      on : (t : Bool) → same_name m k.name ≡ t → 0 < one_if t + times_in m (goals_copied k) → (m ≡ k.name) ⊎ IsIn m (goals_copied k)
      on true e x = inl (same_name-equal m k.name e)
      on false e x = inr (named_counted m (goals_copied k) (omega arith))

  names_once : (m : Name) (ks : List BoxCopy) → ((k : BoxCopy) → IsAmong k ks → IsAmong k copies) → ((n : Name) → times_in n (copy_names ks) ≤ 1) → times_in m (names_copied ks) ≤ 1
  names_once m [] all few = omega arith
  names_once m (k ∷ ks) all few = on (names_once m ks (λ v i. all v (inr i)) (λ n. let o : one_if (same_name n k.name) + times_in n (copy_names ks) ≤ 1 = few n in omega arith))
      (zero_or (times_in m (names_copied ks))) (zero_or (one_if (same_name m k.name) + times_in m (goals_copied k)))
    where
      join : times_in m (goals_copied k ++ names_copied ks) ≡ times_in m (goals_copied k) + times_in m (names_copied ks)
      join = times_in-append m (goals_copied k) (names_copied ks)

      own : one_if (same_name m k.name) + times_in m (goals_copied k) ≤ 1
      own = own_once m k (all k (inl refl))

      on : times_in m (names_copied ks) ≤ 1 → (times_in m (names_copied ks) ≡ 0) ⊎ (0 < times_in m (names_copied ks))
          → (one_if (same_name m k.name) + times_in m (goals_copied k) ≡ 0) ⊎ (0 < one_if (same_name m k.name) + times_in m (goals_copied k))
          → one_if (same_name m k.name) + times_in m (goals_copied k ++ names_copied ks) ≤ 1
      on rest (inl x) y = omega (arith, x, join, own)
      on rest (inr x) (inl y) = omega (arith, y, join, rest)
      on rest (inr x) (inr y) =
          let w : (v : BoxCopy) × IsAmong v ks × ((m ≡ v.name) ⊎ IsIn m (goals_copied v)) = in_names m ks (named_counted m (names_copied ks) x) in
          let e : k.name ≡ w.0.name = one_copy m k w.0 (all k (inl refl)) (all w.0 (inr w.1)) (own_named m k y) w.2 in
          let a : one_if (same_name k.name k.name) ≡ 1 = ap one_if (same_name-refl k.name) in
          let b : 0 < times_in k.name (copy_names ks) = subst (λ (n : Name). 0 < times_in n (copy_names ks)) (sym e) (counted_in w.0.name (copy_names ks) (among_copies w.0 ks w.1)) in
          let o : one_if (same_name k.name k.name) + times_in k.name (copy_names ks) ≤ 1 = few k.name in
          absurd (omega (arith, a, b, o))

  pub copied_once : (m : Name) → times_in m (names_copied copies) ≤ 1
  copied_once m = names_once m copies (λ k i. i) are.once

  -- and it is one of those among the boxes
  pub copied_counted : (m : Name) → IsIn m (names_copied copies) → 1 ≤ times m bs
  copied_counted m i = on w.2
    where
      w : (k : BoxCopy) × IsAmong k copies × ((m ≡ k.name) ⊎ IsIn m (goals_copied k))
      w = in_names m copies i

      on : (m ≡ w.0.name) ⊎ IsIn m (goals_copied w.0) → 1 ≤ times m bs
      on (inl e) =
          let v : (f : Found) × (box_at w.0.name bs ≡ Some f) × IsCopy nodes around bs f w.0 = box_among w.0 w.1 in
          subst (λ (n : Name). 1 ≤ times n bs) (sym e) (box_at-some w.0.name bs v.0 v.1)
      on (inr j) =
          let v : (f : Found) × (home_of m bs ≡ Some f) × (f.content.name ≡ w.0.name) = goal_home w.0 m w.1 j in
          let h : HasGoal m v.0.goals = (home_in m bs v.0 v.1).1 in
          home_counted m h.0 v.0.around v.0.content v.0.goals bs (home_in m bs v.0 v.1).0 h.1
