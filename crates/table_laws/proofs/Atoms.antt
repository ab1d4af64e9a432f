-- Goals that are all atoms: their names, their rows, one by which their box fails; and the goals that atoms become in order.
use Rattle.std.proofs.Common.{◌≡◌, ℕ, ◌+◌, ◌≤◌, ◌<◌, List, [], ◌∷◌, ◌++◌, map, Bool, true, false, Option, Some, None, refl, sym, ◌∙◌, ap, subst, ◌⊎◌, inl, inr, arith, append_assoc, append-nil}
use Rattle.std.proofs.lemmas.Bool.Decides.{nat_tests}
use Rattle.std.specs.Prelude.{if◌then◌else◌, option_map, ⊤}
use Rattle.akl_terms.specs.declared.name.Name.{Name}
use Rattle.akl_terms.specs.Names.{same_name, is_before}
use Rattle.akl_model.specs.Config.{Atom, Content, Goals, no_goals, atom, choice, Held, an_atom, held_in, with_goal, home_inside, box_inside}
use Rattle.akl_model.specs.Instances.{with_atoms}
use Rattle.akl_model.specs.Conditions.{IsFailing}
use Rattle.akl_model.specs.Changes.{shape_of, of_atom, goal_names}
use Rattle.akl_model.specs.Names.{one_if}
use Rattle.akl_model.specs.Wakes.{holder_inside}
use Rattle.akl_model.proofs.Finds.{times_inside}
use Rattle.akl_terms.proofs.SameNames.{same_name-refl}
use Rattle.step_laws.specs.Whereabouts.{InGoals}
use Rattle.step_laws.proofs.Whereabouts.{held_counted}
use Rattle.table_laws.specs.Rows.{GoalRow}
use Rattle.table_laws.specs.Unfolds.{FailsBy, spot_of}
use Rattle.table_laws.specs.Steps.{AreAtoms}
use Rattle.table_laws.specs.Writes.{fails_first, first_fail, atom_among}
use Rattle.table_laws.specs.Laws.{named_from}

abbrev pub first_names : List (Name × Atom) → List Name
first_names xs = map (λ (x : Name × Atom). x.0) xs

pub atom_names : (xs : List (Name × Atom)) (gs : Goals) → AreAtoms xs gs → first_names xs ≡ goal_names gs
atom_names [] no_goals a = refl
atom_names [] (atom g b gs) a = absurd a
atom_names [] (choice g o bs gs) a = absurd a
atom_names (x ∷ xs) no_goals a = absurd a
atom_names (x ∷ xs) (atom g b gs) a = let r : first_names xs ≡ goal_names gs = atom_names xs gs a.2 in λ i. a.0 i ∷ r i
atom_names (x ∷ xs) (choice g o bs gs) a = absurd a

-- nothing stands inside them

pub nothing_among : (xs : List (Name × Atom)) (gs : Goals) (r : List Content) (k : Content) (hs : Goals) → AreAtoms xs gs → InGoals r k hs gs → ⊥
nothing_among [] no_goals r k hs a x = x
nothing_among [] (atom g b gs) r k hs a x = absurd a
nothing_among [] (choice g o bs gs) r k hs a x = absurd a
nothing_among (y ∷ ys) no_goals r k hs a x = absurd a
nothing_among (y ∷ ys) (atom g b gs) r k hs a x = nothing_among ys gs r k hs a.2 x
nothing_among (y ∷ ys) (choice g o bs gs) r k hs a x = absurd a

pub no_box_inside : (xs : List (Name × Atom)) (gs : Goals) (n : Name) → AreAtoms xs gs → box_inside n gs ≡ None
no_box_inside [] no_goals n a = refl
no_box_inside [] (atom g b gs) n a = absurd a
no_box_inside [] (choice g o bs gs) n a = absurd a
no_box_inside (y ∷ ys) no_goals n a = absurd a
no_box_inside (y ∷ ys) (atom g b gs) n a = no_box_inside ys gs n a.2
no_box_inside (y ∷ ys) (choice g o bs gs) n a = absurd a

pub no_home_inside : (xs : List (Name × Atom)) (gs : Goals) (n : Name) → AreAtoms xs gs → home_inside n gs ≡ None
no_home_inside [] no_goals n a = refl
no_home_inside [] (atom g b gs) n a = absurd a
no_home_inside [] (choice g o bs gs) n a = absurd a
no_home_inside (y ∷ ys) no_goals n a = absurd a
no_home_inside (y ∷ ys) (atom g b gs) n a = no_home_inside ys gs n a.2
no_home_inside (y ∷ ys) (choice g o bs gs) n a = absurd a

pub no_holder_inside : (xs : List (Name × Atom)) (gs : Goals) (n : Name) → AreAtoms xs gs → holder_inside n gs ≡ None
no_holder_inside [] no_goals n a = refl
no_holder_inside [] (atom g b gs) n a = absurd a
no_holder_inside [] (choice g o bs gs) n a = absurd a
no_holder_inside (y ∷ ys) no_goals n a = absurd a
no_holder_inside (y ∷ ys) (atom g b gs) n a = no_holder_inside ys gs n a.2
no_holder_inside (y ∷ ys) (choice g o bs gs) n a = absurd a

-- their rows

pub atom_spots : (home : Name) (number : ℕ) (xs : List (Name × Atom)) (gs : Goals) (m : Name) → AreAtoms xs gs
    → option_map spot_of (atom_among home number xs m) ≡ option_map (λ (h : Held). record { home = home; shape = shape_of h }) (held_in m gs)
atom_spots home number [] no_goals m a = refl
atom_spots home number [] (atom g b gs) m a = absurd a
atom_spots home number [] (choice g o bs gs) m a = absurd a
atom_spots home number (x ∷ xs) no_goals m a = absurd a
atom_spots home number (x ∷ xs) (choice g o bs gs) m a = absurd a
atom_spots home number (x ∷ xs) (atom g b gs) m a =
    subst (λ (n : Name). option_map spot_of (atom_among home number (x ∷ xs) m) ≡ option_map (λ (h : Held). record { home = home; shape = shape_of h }) (if same_name m n then Some (an_atom b) else held_in m gs)) a.0
    (on (same_name m x.0) (atom_spots home number xs gs m a.2))
  where
    on : (t : Bool) → option_map spot_of (atom_among home number xs m) ≡ option_map (λ (h : Held). record { home = home; shape = shape_of h }) (held_in m gs)
        → option_map spot_of (if t then Some (record { home = home; shape = of_atom x.1; changed = number }) else atom_among home number xs m)
        ≡ option_map (λ (h : Held). record { home = home; shape = shape_of h }) (if t then Some (an_atom b) else held_in m gs)
    on true r = ap (λ (c : Atom). Some (record { home = home; shape = of_atom c })) a.1
    on false r = r

pub atom_changed : (home : Name) (number : ℕ) (xs : List (Name × Atom)) (m : Name) (row : GoalRow) → atom_among home number xs m ≡ Some row → row.changed ≡ number
atom_changed home number [] m row e = cc
atom_changed home number (x ∷ xs) m row e = on (same_name m x.0) e (λ i. atom_changed home number xs m row i)
  where
    on : (t : Bool) → (if t then Some (record { home = home; shape = of_atom x.1; changed = number }) else atom_among home number xs m) ≡ Some row
        → (atom_among home number xs m ≡ Some row → row.changed ≡ number) → row.changed ≡ number
    on true i f = cc
    on false i f = f i

-- the first of them by which the box fails

pub not_first : (g : Name) (a : Atom) (o : Option Name) → (a ≡ Atom.fail) ⊎ ((fails_first g a o ≡ o) × (IsFailing (an_atom a) → ⊥))
not_first g (Atom.equation s t) o = inr (refl, λ x. x)
not_first g (Atom.arithmetic test l r) o = inr (refl, λ x. x)
not_first g (Atom.open_port p s) o = inr (refl, λ x. x)
not_first g (Atom.send m p) o = inr (refl, λ x. x)
not_first g (Atom.call d ts r) o = inr (refl, λ x. x)
not_first g Atom.fail o = inl refl

pub atoms_failing : (xs : List (Name × Atom)) (gs : Goals) → AreAtoms xs gs → ((g : Name) → times_inside g gs ≤ 1) → FailsBy gs (first_fail xs)
atoms_failing [] no_goals a once = λ x. x
atoms_failing [] (atom g b gs) a once = absurd a
atoms_failing [] (choice g o bs gs) a once = absurd a
atoms_failing (x ∷ xs) no_goals a once = absurd a
atoms_failing (x ∷ xs) (choice g o bs gs) a once = absurd a
atoms_failing (x ∷ xs) (atom g b gs) a once =
    on (not_first x.0 x.1 (first_fail xs)) (atoms_failing xs gs a.2 (λ m. let k : one_if (same_name m g) + times_inside m gs ≤ 1 = once m in omega arith))
  where
    here : (t : Bool) → t ≡ true → (if t then Some (an_atom b) else held_in g gs) ≡ Some (an_atom b)
    here true e = refl
    here false e = cc

    later : (o : Option Name) → (IsFailing (an_atom x.1) → ⊥) → FailsBy gs o → FailsBy (atom g b gs) o
    later None n r = λ y. elim y [ inl z ↦ n (subst (λ (c : Atom). IsFailing (an_atom c)) (sym a.1) z) | inr z ↦ r z ]
    later (Some m) n r = (r.0, past (same_name m g) refl, r.2)
      where
        past : (t : Bool) → same_name m g ≡ t → (if t then Some (an_atom b) else held_in m gs) ≡ Some r.0
        past true e =
            let u : one_if (same_name m g) ≡ 1 = ap one_if e in
            let v : 1 ≤ times_inside m gs = held_counted m r.0 gs r.1 in
            let k : one_if (same_name m g) + times_inside m gs ≤ 1 = once m in
            absurd (omega arith)
        past false e = r.1

    on : (x.1 ≡ Atom.fail) ⊎ ((fails_first x.0 x.1 (first_fail xs) ≡ first_fail xs) × (IsFailing (an_atom x.1) → ⊥)) → FailsBy gs (first_fail xs) → FailsBy (atom g b gs) (fails_first x.0 x.1 (first_fail xs))
    on (inl e) r = subst (λ (c : Atom). FailsBy (atom g b gs) (fails_first x.0 c (first_fail xs))) (sym e)
        (subst (λ (n : Name). FailsBy (atom g b gs) (Some n)) (sym a.0)
        (an_atom b, here (same_name g g) (same_name-refl g), subst (λ (c : Atom). IsFailing (an_atom c)) (sym e ∙ a.1) tt))
    on (inr n) r = subst (FailsBy (atom g b gs)) (sym n.0) (later (first_fail xs) n.1 r)

-- atoms of worker 0, under its names from a number on

abbrev AllBelow : ℕ → List (Name × Atom) → Type 0
AllBelow n [] = ⊤
AllBelow n (x ∷ xs) = (x.0.worker ≡ 0) × (x.0.number < n) × AllBelow n xs

abbrev named : ℕ → Name
named n = record { worker = 0; number = n }

below_last : (n : ℕ) (a : Atom) (xs : List (Name × Atom)) → AllBelow n xs → AllBelow (1 + n) (xs ++ (named n, a) ∷ [])
below_last n a [] l = (refl, omega arith, tt)
below_last n a (x ∷ xs) l = let k : x.0.number < n = l.1 in (l.0, omega arith, below_last n a xs l.2)

not_before : (n : ℕ) (g : Name) → g.worker ≡ 0 → g.number < n → is_before (named n) g ≡ false
not_before n g e l = grind (arith, nat_tests)

goal_last : (n : ℕ) (a : Atom) (xs : List (Name × Atom)) (gs : Goals) → AreAtoms xs gs → AllBelow n xs → AreAtoms (xs ++ (named n, a) ∷ []) (with_goal (named n) (an_atom a) gs)
goal_last n a [] no_goals h l = (refl, refl, tt)
goal_last n a [] (atom g b gs) h l = absurd h
goal_last n a [] (choice g o bs gs) h l = absurd h
goal_last n a (x ∷ xs) no_goals h l = absurd h
goal_last n a (x ∷ xs) (choice g o bs gs) h l = absurd h
goal_last n a (x ∷ xs) (atom g b gs) h l =
    on (is_before (named n) g) (subst (λ (m : Name). is_before (named n) m ≡ false) h.0 (not_before n x.0 l.0 l.1)) (goal_last n a xs gs h.2 l.2)
  where
    on : (t : Bool) → t ≡ false → AreAtoms (xs ++ (named n, a) ∷ []) (with_goal (named n) (an_atom a) gs)
        → AreAtoms (x ∷ (xs ++ (named n, a) ∷ [])) (if t then atom (named n) a (atom g b gs) else atom g b (with_goal (named n) (an_atom a) gs))
    on true e r = cc
    on false e r = (h.0, h.1, r)

in_order_after : (n : ℕ) (atoms : List Atom) (xs : List (Name × Atom)) (gs : Goals) → AreAtoms xs gs → AllBelow n xs → AreAtoms (xs ++ named_from n atoms) (with_atoms 0 n atoms gs)
in_order_after n [] xs gs h l = subst (λ (ys : List (Name × Atom)). AreAtoms ys gs) (sym (append-nil xs)) h
in_order_after n (a ∷ rest) xs gs h l =
    let next : 1 + n ≡ n + 1 = omega arith in
    subst (λ (ys : List (Name × Atom)). AreAtoms ys (with_atoms 0 (n + 1) rest (with_goal (named n) (an_atom a) gs))) (append_assoc xs ((named n, a) ∷ []) (named_from (1 + n) rest))
    (subst (λ (k : ℕ). AreAtoms ((xs ++ (named n, a) ∷ []) ++ named_from (1 + n) rest) (with_atoms 0 k rest (with_goal (named n) (an_atom a) gs))) next
    (in_order_after (1 + n) rest (xs ++ (named n, a) ∷ []) (with_goal (named n) (an_atom a) gs) (goal_last n a xs gs h l) (below_last n a xs l)))

pub in_order : (n : ℕ) (atoms : List Atom) → AreAtoms (named_from n atoms) (with_atoms 0 n atoms no_goals)
in_order n atoms = in_order_after n atoms [] no_goals tt tt
