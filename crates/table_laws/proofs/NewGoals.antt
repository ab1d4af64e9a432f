-- Goals that atoms become among others, under a worker's names from a number on: their names, what they hold, and one by which their box fails.
use Rattle.std.proofs.Common.{◌≡◌, ℕ, ◌+◌, ◌≤◌, ◌<◌, List, [], ◌∷◌, length, map, Bool, true, false, Option, Some, None, refl, sym, ◌∙◌, ap, subst, ◌⊎◌, inl, inr, arith}
use Rattle.std.proofs.lemmas.Bool.Decides.{nat_tests}
use Rattle.std.specs.Prelude.{if◌then◌else◌}
use Rattle.akl_terms.specs.declared.name.Name.{Name}
use Rattle.akl_terms.specs.Names.{same_name, is_before}
use Rattle.akl_terms.proofs.SameNames.{same_name-refl, same_name-equal}
use Rattle.akl_model.specs.Config.{Atom, Content, Goals, no_goals, atom, choice, Held, an_atom, a_choice, held_in, with_goal, with_name, with_names}
use Rattle.akl_model.specs.Instances.{with_atoms}
use Rattle.akl_model.specs.Conditions.{HasFailed, IsFailing}
use Rattle.akl_model.specs.Changes.{of_atom, goal_names}
use Rattle.akl_model.specs.Names.{one_if}
use Rattle.akl_model.specs.Ordered.{IsBeforeAll, IsIncreasing}
use Rattle.akl_model.proofs.Drawn.{drawn_times, drawn_place}
use Rattle.akl_model.proofs.Orders.{before_not, before_or, before_all_trans}
use Rattle.step_laws.specs.Whereabouts.{BoxIn, InGoals}
use Rattle.step_laws.proofs.GoalEdits.{goal_first, with_atoms_other}
use Rattle.table_laws.specs.Unfolds.{FailsBy}
use Rattle.table_laws.specs.Steps.{numbered}
use Rattle.table_laws.specs.Writes.{fails_first, first_fail, atom_among, or_fails}
use Rattle.table_laws.proofs.Atoms.{not_first}
use Rattle.table_laws.proofs.Sets.{other_by, turned}

abbrev named : ℕ → ℕ → Name
named w n = record { worker = w; number = n }

-- no drawn name is that of one of the goals
abbrev pub NotHeld : ℕ → ℕ → List Atom → Goals → Type 0
NotHeld w n atoms gs = (m : Name) → 0 < drawn_times m w n (length atoms) → held_in m gs ≡ None

-- one goal more

not_here : (g i : Name) (x : Held) (o : Option Held) → (if same_name g i then Some x else o) ≡ None → (same_name g i ≡ false) × (o ≡ None)
not_here g i x o e = on (same_name g i) refl e
  where
    on : (u : Bool) → same_name g i ≡ u → (if u then Some x else o) ≡ None → (same_name g i ≡ false) × (o ≡ None)
    on true q r = cc
    on false q r = (q, r)

past : (g i : Name) (x : Held) (o r : Option Held) → same_name g i ≡ false → o ≡ r → (if same_name g i then Some x else o) ≡ r
past g i x o r e q = subst (λ (t : Bool). (if t then Some x else o) ≡ r) (sym e) q

held_here : (g : Name) (a : Atom) (gs : Goals) → held_in g gs ≡ None → held_in g (with_goal g (an_atom a) gs) ≡ Some (an_atom a)
held_here g a no_goals e = goal_first g g (an_atom a) None (same_name-refl g)
held_here g a (atom i b gs) e = let w : _ = not_here g i (an_atom b) (held_in g gs) e in on (is_before g i) w.0 (held_here g a gs w.1)
  where
    on : (t : Bool) → same_name g i ≡ false → held_in g (with_goal g (an_atom a) gs) ≡ Some (an_atom a) → held_in g (if t then atom g a (atom i b gs) else atom i b (with_goal g (an_atom a) gs)) ≡ Some (an_atom a)
    on true q r = goal_first g g (an_atom a) (held_in g (atom i b gs)) (same_name-refl g)
    on false q r = past g i (an_atom b) (held_in g (with_goal g (an_atom a) gs)) (Some (an_atom a)) q r
held_here g a (choice i o bs gs) e = let w : _ = not_here g i (a_choice o bs) (held_in g gs) e in on (is_before g i) w.0 (held_here g a gs w.1)
  where
    on : (t : Bool) → same_name g i ≡ false → held_in g (with_goal g (an_atom a) gs) ≡ Some (an_atom a) → held_in g (if t then atom g a (choice i o bs gs) else choice i o bs (with_goal g (an_atom a) gs)) ≡ Some (an_atom a)
    on true q r = goal_first g g (an_atom a) (held_in g (choice i o bs gs)) (same_name-refl g)
    on false q r = past g i (a_choice o bs) (held_in g (with_goal g (an_atom a) gs)) (Some (an_atom a)) q r

pub names_with : (g : Name) (a : Atom) (gs : Goals) → held_in g gs ≡ None → goal_names (with_goal g (an_atom a) gs) ≡ with_name g (goal_names gs)
names_with g a no_goals e = refl
names_with g a (atom i b gs) e = let w : _ = not_here g i (an_atom b) (held_in g gs) e in on (is_before g i) (same_name g i) w.0 (names_with g a gs w.1)
  where
    on : (t u : Bool) → u ≡ false → goal_names (with_goal g (an_atom a) gs) ≡ with_name g (goal_names gs)
        → goal_names (if t then atom g a (atom i b gs) else atom i b (with_goal g (an_atom a) gs)) ≡ (if u then i ∷ goal_names gs else (if t then g ∷ i ∷ goal_names gs else i ∷ with_name g (goal_names gs)))
    on t true q r = cc
    on true false q r = refl
    on false false q r = ap (λ (ns : List Name). i ∷ ns) r
names_with g a (choice i o bs gs) e = let w : _ = not_here g i (a_choice o bs) (held_in g gs) e in on (is_before g i) (same_name g i) w.0 (names_with g a gs w.1)
  where
    on : (t u : Bool) → u ≡ false → goal_names (with_goal g (an_atom a) gs) ≡ with_name g (goal_names gs)
        → goal_names (if t then atom g a (choice i o bs gs) else choice i o bs (with_goal g (an_atom a) gs)) ≡ (if u then i ∷ goal_names gs else (if t then g ∷ i ∷ goal_names gs else i ∷ with_name g (goal_names gs)))
    on t true q r = cc
    on true false q r = refl
    on false false q r = ap (λ (ns : List Name). i ∷ ns) r

failed_with : (g : Name) (a : Atom) (gs : Goals) → HasFailed (with_goal g (an_atom a) gs) → IsFailing (an_atom a) ⊎ HasFailed gs
failed_with g a no_goals x = x
failed_with g a (atom i b gs) x = on (is_before g i) x (λ y. failed_with g a gs y)
  where
    on : (t : Bool) → HasFailed (if t then atom g a (atom i b gs) else atom i b (with_goal g (an_atom a) gs)) → (HasFailed (with_goal g (an_atom a) gs) → IsFailing (an_atom a) ⊎ HasFailed gs)
        → IsFailing (an_atom a) ⊎ HasFailed (atom i b gs)
    on true y f = y
    on false (inl y) f = inr (inl y)
    on false (inr y) f = elim (f y) [ inl z ↦ inl z | inr z ↦ inr (inr z) ]
failed_with g a (choice i o bs gs) x = on (is_before g i) x (λ y. failed_with g a gs y)
  where
    on : (t : Bool) → HasFailed (if t then atom g a (choice i o bs gs) else choice i o bs (with_goal g (an_atom a) gs)) → (HasFailed (with_goal g (an_atom a) gs) → IsFailing (an_atom a) ⊎ HasFailed gs)
        → IsFailing (an_atom a) ⊎ HasFailed (choice i o bs gs)
    on true y f = y
    on false (inl y) f = inr (inl y)
    on false (inr y) f = elim (f y) [ inl z ↦ inl z | inr z ↦ inr (inr z) ]

-- what stands in goals stands in them with more atoms

keeps_with : (g : Name) (a : Atom) (r : List Content) (k : Content) (hs gs : Goals) → InGoals r k hs gs → InGoals r k hs (with_goal g (an_atom a) gs)
keeps_with g a r k hs no_goals x = x
keeps_with g a r k hs (atom i b gs) x = on (is_before g i) (keeps_with g a r k hs gs x)
  where
    on : (t : Bool) → InGoals r k hs (with_goal g (an_atom a) gs) → InGoals r k hs (if t then atom g a (atom i b gs) else atom i b (with_goal g (an_atom a) gs))
    on true y = x
    on false y = y
keeps_with g a r k hs (choice i o bs gs) x = on (is_before g i) x (λ y. keeps_with g a r k hs gs y)
  where
    on : (t : Bool) → BoxIn r k hs bs ⊎ InGoals r k hs gs → (InGoals r k hs gs → InGoals r k hs (with_goal g (an_atom a) gs)) → InGoals r k hs (if t then atom g a (choice i o bs gs) else choice i o bs (with_goal g (an_atom a) gs))
    on true y f = y
    on false (inl y) f = inl y
    on false (inr y) f = inr (f y)

pub keeps_atoms : (w n : ℕ) (atoms : List Atom) (r : List Content) (k : Content) (hs gs : Goals) → InGoals r k hs gs → InGoals r k hs (with_atoms w n atoms gs)
keeps_atoms w n [] r k hs gs x = x
keeps_atoms w n (a ∷ rest) r k hs gs x = keeps_atoms w (n + 1) rest r k hs (with_goal (named w n) (an_atom a) gs) (keeps_with (named w n) a r k hs gs x)

-- the first of the names

held_other : (w n : ℕ) (a : Atom) (m : Name) (gs : Goals) → same_name m (named w n) ≡ false → held_in m (with_goal (named w n) (an_atom a) gs) ≡ held_in m gs
held_other w n a m gs e = elim (with_atoms_other w n (a ∷ []) m gs) [
  | inl h ↦ let u : one_if (same_name m (record { worker = w; number = n })) ≡ 0 = ap one_if e in absurd (omega arith)
  | inr q ↦ q
]

not_later : (w n k : ℕ) (m : Name) → 0 < drawn_times m w (n + 1) k → same_name m (named w n) ≡ false
not_later w n k m h = other_by m (named w n) (λ e. let a : n + 1 ≤ m.number = (drawn_place m w (n + 1) k h).1 in let q : m.number ≡ n = ap (λ (x : Name). x.number) e in omega arith)

first_drawn : (w n k : ℕ) → 0 < one_if (same_name (named w n) (named w n)) + k
first_drawn w n k = let u : one_if (same_name (record { worker = w; number = n }) (record { worker = w; number = n })) ≡ 1 = ap one_if (same_name-refl (named w n)) in omega arith

rest_not_held : (w n : ℕ) (a : Atom) (rest : List Atom) (gs : Goals) → NotHeld w n (a ∷ rest) gs → NotHeld w (n + 1) rest (with_goal (named w n) (an_atom a) gs)
rest_not_held w n a rest gs f m h = held_other w n a m gs (not_later w n (length rest) m h) ∙ f m (omega arith)

held_first : (w n : ℕ) (a : Atom) (rest : List Atom) (gs : Goals) (m : Name) → NotHeld w n (a ∷ rest) gs → m ≡ named w n → held_in m (with_atoms w (n + 1) rest (with_goal (named w n) (an_atom a) gs)) ≡ Some (an_atom a)
held_first w n a rest gs m f e = elim (with_atoms_other w (n + 1) rest m (with_goal (named w n) (an_atom a) gs)) [
  | inl h ↦ let u : n + 1 ≤ m.number = (drawn_place m w (n + 1) (length rest) h).1 in let q : m.number ≡ n = ap (λ (x : Name). x.number) e in absurd (omega arith)
  | inr q ↦ q ∙ ap (λ (x : Name). held_in x (with_goal (named w n) (an_atom a) gs)) e ∙ held_here (named w n) a gs (f (named w n) (first_drawn w n (drawn_times (named w n) w (n + 1) (length rest))))
]

-- a goal is one of the new ones, or as it was
pub goal_or : (home : Name) (number w n : ℕ) (atoms : List Atom) (gs : Goals) (m : Name) → NotHeld w n atoms gs
    → ((atom_among home number (numbered w n atoms) m ≡ None) × (held_in m (with_atoms w n atoms gs) ≡ held_in m gs) × (0 < drawn_times m w n (length atoms) → ⊥))
    ⊎ ((a : Atom) × (atom_among home number (numbered w n atoms) m ≡ Some (record { home = home; shape = of_atom a; changed = number })) × (held_in m (with_atoms w n atoms gs) ≡ Some (an_atom a)) × (0 < drawn_times m w n (length atoms)))
goal_or home number w n [] gs m f = inl (refl, refl, λ h. omega arith)
goal_or home number w n (a ∷ rest) gs m f = on (same_name m (named w n)) refl (goal_or home number w (n + 1) rest (with_goal (named w n) (an_atom a) gs) m (rest_not_held w n a rest gs f))
  where
    on : (t : Bool) → same_name m (record { worker = w; number = n }) ≡ t
        → ((atom_among home number (numbered w (n + 1) rest) m ≡ None) × (held_in m (with_atoms w (n + 1) rest (with_goal (named w n) (an_atom a) gs)) ≡ held_in m (with_goal (named w n) (an_atom a) gs)) × (0 < drawn_times m w (n + 1) (length rest) → ⊥))
        ⊎ ((b : Atom) × (atom_among home number (numbered w (n + 1) rest) m ≡ Some (record { home = home; shape = of_atom b; changed = number }))
        × (held_in m (with_atoms w (n + 1) rest (with_goal (named w n) (an_atom a) gs)) ≡ Some (an_atom b)) × (0 < drawn_times m w (n + 1) (length rest)))
        → (((if t then Some (record { home = home; shape = of_atom a; changed = number }) else atom_among home number (numbered w (n + 1) rest) m) ≡ None)
        × (held_in m (with_atoms w (n + 1) rest (with_goal (named w n) (an_atom a) gs)) ≡ held_in m gs) × (0 < one_if t + drawn_times m w (n + 1) (length rest) → ⊥))
        ⊎ ((b : Atom) × ((if t then Some (record { home = home; shape = of_atom a; changed = number }) else atom_among home number (numbered w (n + 1) rest) m) ≡ Some (record { home = home; shape = of_atom b; changed = number }))
        × (held_in m (with_atoms w (n + 1) rest (with_goal (named w n) (an_atom a) gs)) ≡ Some (an_atom b)) × (0 < one_if t + drawn_times m w (n + 1) (length rest)))
    on true e r = inr (a, refl, held_first w n a rest gs m f (same_name-equal m (named w n) e), omega arith)
    on false e (inl r) = inl (r.0, r.1 ∙ held_other w n a m gs e, λ h. r.2 (omega arith))
    on false e (inr r) = let k : 0 < drawn_times m w (n + 1) (length rest) = r.3 in inr (r.0, r.1, r.2, omega arith)

-- the box fails by one of the new goals, or by what it failed by
fails_new : (w n : ℕ) (atoms : List Atom) (gs : Goals) → NotHeld w n atoms gs → (HasFailed gs → ⊥) → FailsBy (with_atoms w n atoms gs) (first_fail (numbered w n atoms))
fails_new w n [] gs f h = h
fails_new w n (a ∷ rest) gs f h = on (not_first (named w n) a (first_fail (numbered w (n + 1) rest))) (λ k. fails_new w (n + 1) rest (with_goal (named w n) (an_atom a) gs) (rest_not_held w n a rest gs f) k)
  where
    on : (a ≡ Atom.fail) ⊎ ((fails_first (named w n) a (first_fail (numbered w (n + 1) rest)) ≡ first_fail (numbered w (n + 1) rest)) × (IsFailing (an_atom a) → ⊥))
        → ((HasFailed (with_goal (named w n) (an_atom a) gs) → ⊥) → FailsBy (with_atoms w (n + 1) rest (with_goal (named w n) (an_atom a) gs)) (first_fail (numbered w (n + 1) rest)))
        → FailsBy (with_atoms w (n + 1) rest (with_goal (named w n) (an_atom a) gs)) (fails_first (named w n) a (first_fail (numbered w (n + 1) rest)))
    on (inl e) r = subst (λ (o : Option Name). FailsBy (with_atoms w (n + 1) rest (with_goal (named w n) (an_atom a) gs)) o) (ap (λ (c : Atom). fails_first (named w n) c (first_fail (numbered w (n + 1) rest))) (sym e))
        (an_atom a, held_first w n a rest gs (named w n) f refl, subst (λ (c : Atom). IsFailing (an_atom c)) (sym e) tt)
    on (inr q) r = subst (FailsBy (with_atoms w (n + 1) rest (with_goal (named w n) (an_atom a) gs))) (sym q.0) (r (λ x. elim (failed_with (named w n) a gs x) [ inl y ↦ q.1 y | inr y ↦ h y ]))

pub fails_more : (w n : ℕ) (atoms : List Atom) (gs : Goals) (o : Option Name) → NotHeld w n atoms gs → FailsBy gs o → FailsBy (with_atoms w n atoms gs) (or_fails o (numbered w n atoms))
fails_more w n atoms gs None f h = fails_new w n atoms gs f h
fails_more w n atoms gs (Some k) f (h, held, x) = elim (with_atoms_other w n atoms k gs) [
  | inl d ↦ (let z : held_in k gs ≡ None = f k d in absurd cc)
  | inr e ↦ (h, e ∙ held, x)
]

-- names in their places

after_facts : (a b : Name) → is_before a b ≡ true → (same_name a b ≡ false) × (same_name b a ≡ false) × (is_before b a ≡ false)
after_facts a b e = (apart, turned a b apart, on (is_before b a) refl)
  where
    apart : same_name a b ≡ false
    apart = other_by a b (λ q. let x : is_before a a ≡ true = subst (λ (c : Name). is_before a c ≡ true) (sym q) e in before_not a a x x)

    on : (t : Bool) → is_before b a ≡ t → is_before b a ≡ false
    on true q = absurd (before_not a b e q)
    on false q = q

with_same : (n m : Name) (ms : List Name) → same_name n m ≡ true → with_name n (m ∷ ms) ≡ m ∷ ms
with_same n m ms e = ap (λ (t : Bool). if t then m ∷ ms else (if is_before n m then n ∷ m ∷ ms else m ∷ with_name n ms)) e

with_first : (n m : Name) (ms : List Name) → same_name n m ≡ false → is_before n m ≡ true → with_name n (m ∷ ms) ≡ n ∷ m ∷ ms
with_first n m ms e q = λ i. if e i then m ∷ ms else (if q i then n ∷ m ∷ ms else m ∷ with_name n ms)

with_later : (n m : Name) (ms : List Name) → same_name n m ≡ false → is_before n m ≡ false → with_name n (m ∷ ms) ≡ m ∷ with_name n ms
with_later n m ms e q = λ i. if e i then m ∷ ms else (if q i then n ∷ m ∷ ms else m ∷ with_name n ms)

bool_or : (t : Bool) → (t ≡ true) ⊎ (t ≡ false)
bool_or true = inl refl
bool_or false = inr refl

-- the order in which two names come doesn't matter
with_two : (a b : Name) → is_before a b ≡ true → (ms : List Name) → with_name b (with_name a ms) ≡ with_name a (with_name b ms)
with_two a b e [] = let w : _ = after_facts a b e in with_later b a [] w.1 w.2 ∙ sym (with_first a b [] w.0 e)
with_two a b e (m ∷ ms) = on (bool_or (same_name a m)) (bool_or (is_before a m)) (with_two a b e ms)
  where
    w : (same_name a b ≡ false) × (same_name b a ≡ false) × (is_before b a ≡ false)
    w = after_facts a b e

    first : same_name a m ≡ false → is_before a m ≡ true → (same_name b m ≡ true) ⊎ (same_name b m ≡ false) → (is_before b m ≡ true) ⊎ (is_before b m ≡ false) → a ∷ with_name b (m ∷ ms) ≡ with_name a (with_name b (m ∷ ms))
    first p q (inl x) y = ap (λ (ns : List Name). a ∷ ns) (with_same b m ms x) ∙ sym (with_first a m ms p q) ∙ ap (with_name a) (sym (with_same b m ms x))
    first p q (inr x) (inl y) = ap (λ (ns : List Name). a ∷ ns) (with_first b m ms x y) ∙ sym (with_first a b (m ∷ ms) w.0 e) ∙ ap (with_name a) (sym (with_first b m ms x y))
    first p q (inr x) (inr y) = ap (λ (ns : List Name). a ∷ ns) (with_later b m ms x y) ∙ sym (with_first a m (with_name b ms) p q) ∙ ap (with_name a) (sym (with_later b m ms x y))

    on : (same_name a m ≡ true) ⊎ (same_name a m ≡ false) → (is_before a m ≡ true) ⊎ (is_before a m ≡ false) → with_name b (with_name a ms) ≡ with_name a (with_name b ms) → with_name b (with_name a (m ∷ ms)) ≡ with_name a (with_name b (m ∷ ms))
    on (inl p) q r =
        let z : a ≡ m = same_name-equal a m p in
        let x : same_name b m ≡ false = subst (λ (k : Name). same_name b k ≡ false) z w.1 in
        let y : is_before b m ≡ false = subst (λ (k : Name). is_before b k ≡ false) z w.2 in
        ap (with_name b) (with_same a m ms p) ∙ with_later b m ms x y ∙ sym (with_same a m (with_name b ms) p) ∙ ap (with_name a) (sym (with_later b m ms x y))
    on (inr p) (inl q) r = ap (with_name b) (with_first a m ms p q) ∙ with_later b a (m ∷ ms) w.1 w.2 ∙ first p q (bool_or (same_name b m)) (bool_or (is_before b m))
    on (inr p) (inr q) r =
        let z : is_before m b ≡ true = (before_all_trans m a (b ∷ []) (before_or a m p q) (e, tt)).0 in
        let v : (same_name m b ≡ false) × (same_name b m ≡ false) × (is_before b m ≡ false) = after_facts m b z in
        ap (with_name b) (with_later a m ms p q) ∙ with_later b m (with_name a ms) v.1 v.2 ∙ ap (λ (ns : List Name). m ∷ ns) r ∙ sym (with_later a m (with_name b ms) p q) ∙ ap (with_name a) (sym (with_later b m ms v.1 v.2))

pub with_names_after : (x : Name) (ns ms : List Name) → IsBeforeAll x ns → with_names ns (with_name x ms) ≡ with_name x (with_names ns ms)
with_names_after x [] ms h = refl
with_names_after x (n ∷ ns) ms h = ap (with_name n) (with_names_after x ns ms h.1) ∙ with_two x n h.0 (with_names ns ms)

pub number_before : (w n k : ℕ) → n < k → is_before (named w n) (named w k) ≡ true
number_before w n k h = grind (arith, nat_tests)

before_numbered : (w n k : ℕ) (atoms : List Atom) → n < k → IsBeforeAll (named w n) (map (λ (x : Name × Atom). x.0) (numbered w k atoms))
before_numbered w n k [] h = tt
before_numbered w n k (a ∷ rest) h = (number_before w n k h, before_numbered w n (k + 1) rest (omega arith))

-- the names of the goals with the new ones
pub names_more : (w n : ℕ) (atoms : List Atom) (gs : Goals) → NotHeld w n atoms gs → goal_names (with_atoms w n atoms gs) ≡ with_names (map (λ (x : Name × Atom). x.0) (numbered w n atoms)) (goal_names gs)
names_more w n [] gs f = refl
names_more w n (a ∷ rest) gs f =
    names_more w (n + 1) rest (with_goal (named w n) (an_atom a) gs) (rest_not_held w n a rest gs f)
    ∙ ap (with_names (map (λ (x : Name × Atom). x.0) (numbered w (n + 1) rest))) (names_with (named w n) a gs (f (named w n) (first_drawn w n (drawn_times (named w n) w (n + 1) (length rest)))))
    ∙ with_names_after (named w n) (map (λ (x : Name × Atom). x.0) (numbered w (n + 1) rest)) (goal_names gs) (before_numbered w n (n + 1) rest (omega arith))

pub numbered_increase : (w n : ℕ) (atoms : List Atom) → IsIncreasing (map (λ (x : Name × Atom). x.0) (numbered w n atoms))
numbered_increase w n [] = tt
numbered_increase w n (a ∷ rest) = (before_numbered w n (n + 1) rest (omega arith), numbered_increase w (n + 1) rest)
