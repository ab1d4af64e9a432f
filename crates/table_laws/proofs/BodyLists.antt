-- The goals of a body that are left, as a list: their names in their places, and the first by which a box fails.
use Rattle.std.proofs.Common.{◌≡◌, ℕ, ◌+◌, ◌≤◌, ◌<◌, List, [], ◌∷◌, ◌++◌, map, Bool, true, false, Some, None, refl, ◌∙◌, ap, inl, inr, arith}
use Rattle.std.specs.Prelude.{if◌then◌else◌}
use Rattle.akl_terms.specs.declared.name.Name.{Name}
use Rattle.akl_terms.specs.declared.program.Program.{Program}
use Rattle.akl_terms.specs.Names.{same_name}
use Rattle.akl_model.specs.declared.label.Label.{Label}
use Rattle.akl_model.specs.Config.{Atom, Content, Goals, an_atom, with_goal, with_names, or_else}
use Rattle.akl_model.specs.Changes.{of_atom, goal_names}
use Rattle.akl_model.specs.Names.{one_if}
use Rattle.akl_model.specs.Ordered.{IsBeforeAll}
use Rattle.akl_model.proofs.Finds.{times_inside}
use Rattle.akl_model.proofs.Drawn.{times-with_goal}
use Rattle.step_laws.proofs.Whereabouts.{held_none}
use Rattle.plan_laws.specs.AtOnce.{with_named, Tells, finishes, leaves, tells, holds}
use Rattle.plan_laws.proofs.BodyGoals.{named}
use Rattle.plan_laws.proofs.BodySteps.{unfailed}
use Rattle.table_laws.specs.Steps.{numbered}
use Rattle.table_laws.specs.Writes.{atom_among, fails_first, first_fail}
use Rattle.table_laws.specs.Calls.{last_told}
use Rattle.table_laws.proofs.Atoms.{not_first}
use Rattle.table_laws.proofs.NewGoals.{names_with, with_names_after, number_before}
use Rattle.table_laws.proofs.Sets.{other_by}

abbrev pub names_in : List (Name × Atom) → List Name
names_in xs = map (λ (x : Name × Atom). x.0) xs

pub other_numbers : (w m n : ℕ) → m < n → same_name (named w n) (named w m) ≡ false
other_numbers w m n h = other_by (named w n) (named w m) (λ e. let q : n ≡ m = ap (λ (x : Name). x.number) e in absurd (omega arith))

-- goals among lists of atoms

pub among_append : (home : Name) (number : ℕ) (xs ys : List (Name × Atom)) (m : Name) → atom_among home number (xs ++ ys) m ≡ or_else (atom_among home number xs m) (atom_among home number ys m)
among_append home number [] ys m = refl
among_append home number (x ∷ xs) ys m = on (same_name m x.0) (among_append home number xs ys m)
  where
    on : (t : Bool) → atom_among home number (xs ++ ys) m ≡ or_else (atom_among home number xs m) (atom_among home number ys m)
        → (if t then Some (record { home = home; shape = of_atom x.1; changed = number }) else atom_among home number (xs ++ ys) m)
        ≡ or_else (if t then Some (record { home = home; shape = of_atom x.1; changed = number }) else atom_among home number xs m) (atom_among home number ys m)
    on true e = refl
    on false e = e

pub later_none : (home : Name) (number w m n : ℕ) → m < n → (rest : List Atom) → atom_among home number (numbered w n rest) (named w m) ≡ None
later_none home number w m n h [] = refl
later_none home number w m n h (a ∷ rest) = on (same_name (named w m) (named w n)) refl (later_none home number w m (n + 1) (omega arith) rest)
  where
    on : (t : Bool) → same_name (named w m) (named w n) ≡ t → atom_among home number (numbered w (n + 1) rest) (named w m) ≡ None
        → (if t then Some (record { home = home; shape = of_atom a; changed = number }) else atom_among home number (numbered w (n + 1) rest) (named w m)) ≡ None
    on true q r = let z : same_name (named w m) (named w n) ≡ false = other_by (named w m) (named w n) (λ e. let q : m ≡ n = ap (λ (x : Name). x.number) e in absurd (omega arith)) in cc
    on false q r = r

-- the names in goals from a number on

module _ (p : Program) (w next : ℕ) (around : List Content) where
  left_before : (m : ℕ) (b : Content) (n : ℕ) (body : List Atom) (ls : List Label) (b2 : Content) (left : List (Name × Atom)) → m < n → Tells p w next around b n body ls b2 left → IsBeforeAll (named w m) (names_in left)
  left_before m _ _ _ _ _ _ h (finishes b n) = tt
  left_before m _ _ _ _ _ _ h (leaves b n a rest ls b2 left y) = (number_before w m n h, left_before m b (n + 1) rest ls b2 left (omega arith) y)
  left_before m _ _ _ _ _ _ h (tells r b n a s t rest ls b2 left guard makes y) = left_before m _ (n + 1) rest ls b2 left (omega arith) y
  left_before m _ _ _ _ _ _ h (holds r b n a rest ls b2 left guard makes y) = left_before m b (n + 1) rest ls b2 left (omega arith) y

  pub names_left : (b : Content) (n : ℕ) (body : List Atom) (ls : List Label) (b2 : Content) (left : List (Name × Atom)) → Tells p w next around b n body ls b2 left → (gs : Goals) → ((j : ℕ) → n ≤ j → times_inside (named w j) gs ≡ 0)
      → goal_names (with_named left gs) ≡ with_names (names_in left) (goal_names gs)
  names_left _ _ _ _ _ _ (finishes b n) gs h = refl
  names_left _ _ _ _ _ _ (leaves b n a rest ls b2 left y) gs h =
      names_left b (n + 1) rest ls b2 left y (with_goal (named w n) (an_atom a) gs) none
      ∙ ap (with_names (names_in left)) (names_with (named w n) a gs (held_none (named w n) gs (h n (omega arith))))
      ∙ with_names_after (named w n) (names_in left) (goal_names gs) (left_before n b (n + 1) rest ls b2 left (omega arith) y)
    where
      none : (j : ℕ) → n + 1 ≤ j → times_inside (named w j) (with_goal (named w n) (an_atom a) gs) ≡ 0
      none j l =
          let e : times_inside (named w j) (with_goal (named w n) (an_atom a) gs) ≡ one_if (same_name (named w j) (named w n)) + (0 + times_inside (named w j) gs) = times-with_goal (named w j) (named w n) (an_atom a) gs in
          let u : one_if (same_name (named w j) (named w n)) ≡ 0 = ap one_if (other_numbers w n j (omega arith)) in
          let z : times_inside (named w j) gs ≡ 0 = h j (omega arith) in
          omega arith
  names_left _ _ _ _ _ _ (tells r b n a s t rest ls b2 left guard makes y) gs h = names_left _ (n + 1) rest ls b2 left y gs (λ j l. h j (omega arith))
  names_left _ _ _ _ _ _ (holds r b n a rest ls b2 left guard makes y) gs h = names_left b (n + 1) rest ls b2 left y gs (λ j l. h j (omega arith))

  -- those that go don't fail
  passes : (i : Name) (a : Atom) (xs : List (Name × Atom)) → (a ≡ Atom.fail → ⊥) → fails_first i a (first_fail xs) ≡ first_fail xs
  passes i a xs n = elim (not_first i a (first_fail xs)) [ inl e ↦ absurd (n e) | inr q ↦ q.0 ]

  pub fails_left : (b : Content) (n : ℕ) (body : List Atom) (ls : List Label) (b2 : Content) (left : List (Name × Atom)) → Tells p w next around b n body ls b2 left → first_fail (numbered w n body) ≡ first_fail left
  fails_left _ _ _ _ _ _ (finishes b n) = refl
  fails_left _ _ _ _ _ _ (leaves b n a rest ls b2 left y) = ap (fails_first (named w n) a) (fails_left b (n + 1) rest ls b2 left y)
  fails_left _ _ _ _ _ _ (tells r b n a s t rest ls b2 left guard makes y) =
      passes (named w n) a (numbered w (n + 1) rest) (unfailed p w next r (named w n) a around b _ guard makes) ∙ fails_left _ (n + 1) rest ls b2 left y
  fails_left _ _ _ _ _ _ (holds r b n a rest ls b2 left guard makes y) = passes (named w n) a (numbered w (n + 1) rest) (unfailed p w next r (named w n) a around b _ guard makes) ∙ fails_left b (n + 1) rest ls b2 left y

  -- whether anything is
  abbrev pub tells_any : (b : Content) (n : ℕ) (body : List Atom) (ls : List Label) (b2 : Content) (left : List (Name × Atom)) → Tells p w next around b n body ls b2 left → Bool
  tells_any _ _ _ _ _ _ (finishes b n) = false
  tells_any _ _ _ _ _ _ (leaves b n a rest ls b2 left y) = tells_any b (n + 1) rest ls b2 left y
  tells_any _ _ _ _ _ _ (tells r b n a s t rest ls b2 left guard makes y) = true
  tells_any _ _ _ _ _ _ (holds r b n a rest ls b2 left guard makes y) = tells_any b (n + 1) rest ls b2 left y

  pub none_told : (b : Content) (n : ℕ) (body : List Atom) (ls : List Label) (b2 : Content) (left : List (Name × Atom)) → (y : Tells p w next around b n body ls b2 left) → tells_any b n body ls b2 left y ≡ false → b2 ≡ b
  none_told _ _ _ _ _ _ (finishes b n) e = refl
  none_told _ _ _ _ _ _ (leaves b n a rest ls b2 left y) e = none_told b (n + 1) rest ls b2 left y e
  none_told _ _ _ _ _ _ (tells r b n a s t rest ls b2 left guard makes y) e = cc
  none_told _ _ _ _ _ _ (holds r b n a rest ls b2 left guard makes y) e = none_told b (n + 1) rest ls b2 left y e

  -- the last one that tells is counted from anywhere
  pub told_further : (o : ℕ) (b : Content) (n : ℕ) (body : List Atom) (ls : List Label) (b2 : Content) (left : List (Name × Atom)) → (y : Tells p w next around b n body ls b2 left) → (before so_far : ℕ)
      → last_told p w next around b n body ls b2 left y (o + before) (o + so_far) ≡ o + last_told p w next around b n body ls b2 left y before so_far
  told_further o _ _ _ _ _ _ (finishes b n) before so_far = refl
  told_further o _ _ _ _ _ _ (leaves b n a rest ls b2 left y) before so_far = told_further o b (n + 1) rest ls b2 left y before so_far
  told_further o _ _ _ _ _ _ (tells r b n a s t rest ls b2 left guard makes y) before so_far =
      ap (λ (v : ℕ). last_told p w next around _ (n + 1) rest ls b2 left y v v) (let q : o + before + 1 ≡ o + (before + 1) = omega arith in q) ∙ told_further o _ (n + 1) rest ls b2 left y (before + 1) (before + 1)
  told_further o _ _ _ _ _ _ (holds r b n a rest ls b2 left guard makes y) before so_far =
      ap (λ (v : ℕ). last_told p w next around b (n + 1) rest ls b2 left y v (o + so_far)) (let q : o + before + 1 ≡ o + (before + 1) = omega arith in q) ∙ told_further o b (n + 1) rest ls b2 left y (before + 1) so_far
