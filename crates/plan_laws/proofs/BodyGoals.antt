-- Goals of a body among the goals of a box: one goes, as if it had never come.
use Rattle.std.proofs.Common.{◌≡◌, ℕ, ◌+◌, ◌<◌, List, [], ◌∷◌, ◌++◌, length, Bool, true, false, Some, None, refl, sym, ◌∙◌, ap, subst, inl, inr, arith}
use Rattle.std.proofs.lemmas.Bool.Decides.{nat_tests}
use Rattle.std.specs.Prelude.{if◌then◌else◌}
use Rattle.akl_terms.specs.declared.name.Name.{Name}
use Rattle.akl_terms.specs.Names.{same_name, is_before}
use Rattle.akl_terms.proofs.SameNames.{same_name-refl}
use Rattle.akl_model.specs.Config.{Atom, Goals, no_goals, atom, choice, an_atom, a_choice, held_in, with_goal, without_goal}
use Rattle.akl_model.specs.Instances.{with_atoms}
use Rattle.akl_model.specs.Names.{one_if}
use Rattle.akl_model.specs.Stable.{frames_of, frames_inside}
use Rattle.akl_model.proofs.Finds.{times, times_inside}
use Rattle.akl_model.proofs.Drawn.{drawn_place}
use Rattle.step_laws.proofs.GoalEdits.{goal_first, with_atoms_other}

abbrev pub named : ℕ → ℕ → Name
named w n = record { worker = w; number = n }

not_counted : (t : Bool) (n : ℕ) → one_if t + n ≡ 0 → t ≡ false
not_counted true n e = absurd (omega arith)
not_counted false n e = refl

-- a goal that was put among others is found
pub held_with : (i : Name) (a : Atom) (gs : Goals) → times_inside i gs ≡ 0 → held_in i (with_goal i (an_atom a) gs) ≡ Some (an_atom a)
held_with i a no_goals e = goal_first i i (an_atom a) None (same_name-refl i)
held_with i a (atom j b gs) e = on (is_before i j) (not_counted (same_name i j) (times_inside i gs) e) (held_with i a gs (omega arith))
  where
    on : (t : Bool) → same_name i j ≡ false → held_in i (with_goal i (an_atom a) gs) ≡ Some (an_atom a) → held_in i (if t then atom i a (atom j b gs) else atom j b (with_goal i (an_atom a) gs)) ≡ Some (an_atom a)
    on true q r = goal_first i i (an_atom a) (held_in i (atom j b gs)) (same_name-refl i)
    on false q r = subst (λ (t : Bool). (if t then Some (an_atom b) else held_in i (with_goal i (an_atom a) gs)) ≡ Some (an_atom a)) (sym q) r
held_with i a (choice j o bs gs) e = on (is_before i j) (not_counted (same_name i j) (times i bs + times_inside i gs) e) (held_with i a gs (omega arith))
  where
    on : (t : Bool) → same_name i j ≡ false → held_in i (with_goal i (an_atom a) gs) ≡ Some (an_atom a) → held_in i (if t then atom i a (choice j o bs gs) else choice j o bs (with_goal i (an_atom a) gs)) ≡ Some (an_atom a)
    on true q r = goal_first i i (an_atom a) (held_in i (choice j o bs gs)) (same_name-refl i)
    on false q r = subst (λ (t : Bool). (if t then Some (a_choice o bs) else held_in i (with_goal i (an_atom a) gs)) ≡ Some (an_atom a)) (sym q) r

-- and goes again
pub without_with : (i : Name) (a : Atom) (gs : Goals) → times_inside i gs ≡ 0 → without_goal i (with_goal i (an_atom a) gs) ≡ gs
without_with i a no_goals e = subst (λ (t : Bool). (if t then no_goals else atom i a no_goals) ≡ no_goals) (sym (same_name-refl i)) refl
without_with i a (atom j b gs) e = on (is_before i j) (not_counted (same_name i j) (times_inside i gs) e) (without_with i a gs (omega arith))
  where
    on : (t : Bool) → same_name i j ≡ false → without_goal i (with_goal i (an_atom a) gs) ≡ gs → without_goal i (if t then atom i a (atom j b gs) else atom j b (with_goal i (an_atom a) gs)) ≡ atom j b gs
    on true q r = subst (λ (t : Bool). (if t then atom j b gs else atom i a (without_goal i (atom j b gs))) ≡ atom j b gs) (sym (same_name-refl i)) refl
    on false q r = subst (λ (t : Bool). (if t then with_goal i (an_atom a) gs else atom j b (without_goal i (with_goal i (an_atom a) gs))) ≡ atom j b gs) (sym q) (ap (λ (x : Goals). atom j b x) r)
without_with i a (choice j o bs gs) e = on (is_before i j) (not_counted (same_name i j) (times i bs + times_inside i gs) e) (without_with i a gs (omega arith))
  where
    on : (t : Bool) → same_name i j ≡ false → without_goal i (with_goal i (an_atom a) gs) ≡ gs → without_goal i (if t then atom i a (choice j o bs gs) else choice j o bs (with_goal i (an_atom a) gs)) ≡ choice j o bs gs
    on true q r = subst (λ (t : Bool). (if t then choice j o bs gs else atom i a (without_goal i (choice j o bs gs))) ≡ choice j o bs gs) (sym (same_name-refl i)) refl
    on false q r = subst (λ (t : Bool). (if t then with_goal i (an_atom a) gs else choice j o bs (without_goal i (with_goal i (an_atom a) gs))) ≡ choice j o bs gs) (sym q) (ap (λ (x : Goals). choice j o bs x) r)

-- also where a later goal was put there since
without_later : (i j : Name) (a : Atom) → same_name i j ≡ false → is_before j i ≡ false → (gs : Goals) → without_goal i (with_goal j (an_atom a) gs) ≡ with_goal j (an_atom a) (without_goal i gs)
without_later i j a other late no_goals = subst (λ (t : Bool). (if t then no_goals else atom j a no_goals) ≡ atom j a no_goals) (sym other) refl
without_later i j a other late (atom k b gs) = on (is_before j k) (same_name i k) refl refl (without_later i j a other late gs)
  where
    on : (t v : Bool) → is_before j k ≡ t → same_name i k ≡ v → without_goal i (with_goal j (an_atom a) gs) ≡ with_goal j (an_atom a) (without_goal i gs)
        → without_goal i (if t then atom j a (atom k b gs) else atom k b (with_goal j (an_atom a) gs)) ≡ with_goal j (an_atom a) (if v then gs else atom k b (without_goal i gs))
    on true true q r h = (let e : i ≡ k = grind (arith, nat_tests) in let z : is_before j k ≡ false = subst (λ (n : Name). is_before j n ≡ false) e late in cc)
    on true false q r h =
        subst (λ (t : Bool). (if t then atom k b gs else atom j a (if same_name i k then gs else atom k b (without_goal i gs))) ≡ (if is_before j k then atom j a (atom k b (without_goal i gs)) else atom k b (with_goal j (an_atom a) (without_goal i gs)))) (sym other)
        (subst (λ (t : Bool). atom j a (if t then gs else atom k b (without_goal i gs)) ≡ (if is_before j k then atom j a (atom k b (without_goal i gs)) else atom k b (with_goal j (an_atom a) (without_goal i gs)))) (sym r)
        (subst (λ (t : Bool). atom j a (atom k b (without_goal i gs)) ≡ (if t then atom j a (atom k b (without_goal i gs)) else atom k b (with_goal j (an_atom a) (without_goal i gs)))) (sym q) refl))
    on false true q r h = subst (λ (t : Bool). (if t then with_goal j (an_atom a) gs else atom k b (without_goal i (with_goal j (an_atom a) gs))) ≡ with_goal j (an_atom a) gs) (sym r) refl
    on false false q r h = subst (λ (t : Bool). (if t then with_goal j (an_atom a) gs else atom k b (without_goal i (with_goal j (an_atom a) gs))) ≡ (if is_before j k then atom j a (atom k b (without_goal i gs)) else atom k b (with_goal j (an_atom a) (without_goal i gs)))) (sym r)
        (subst (λ (t : Bool). atom k b (without_goal i (with_goal j (an_atom a) gs)) ≡ (if t then atom j a (atom k b (without_goal i gs)) else atom k b (with_goal j (an_atom a) (without_goal i gs)))) (sym q) (ap (λ (x : Goals). atom k b x) h))
without_later i j a other late (choice k o bs gs) = on (is_before j k) (same_name i k) refl refl (without_later i j a other late gs)
  where
    on : (t v : Bool) → is_before j k ≡ t → same_name i k ≡ v → without_goal i (with_goal j (an_atom a) gs) ≡ with_goal j (an_atom a) (without_goal i gs)
        → without_goal i (if t then atom j a (choice k o bs gs) else choice k o bs (with_goal j (an_atom a) gs)) ≡ with_goal j (an_atom a) (if v then gs else choice k o bs (without_goal i gs))
    on true true q r h = (let e : i ≡ k = grind (arith, nat_tests) in let z : is_before j k ≡ false = subst (λ (n : Name). is_before j n ≡ false) e late in cc)
    on true false q r h =
        subst (λ (t : Bool). (if t then choice k o bs gs else atom j a (if same_name i k then gs else choice k o bs (without_goal i gs))) ≡ (if is_before j k then atom j a (choice k o bs (without_goal i gs)) else choice k o bs (with_goal j (an_atom a) (without_goal i gs)))) (sym other)
        (subst (λ (t : Bool). atom j a (if t then gs else choice k o bs (without_goal i gs)) ≡ (if is_before j k then atom j a (choice k o bs (without_goal i gs)) else choice k o bs (with_goal j (an_atom a) (without_goal i gs)))) (sym r)
        (subst (λ (t : Bool). atom j a (choice k o bs (without_goal i gs)) ≡ (if t then atom j a (choice k o bs (without_goal i gs)) else choice k o bs (with_goal j (an_atom a) (without_goal i gs)))) (sym q) refl))
    on false true q r h = subst (λ (t : Bool). (if t then with_goal j (an_atom a) gs else choice k o bs (without_goal i (with_goal j (an_atom a) gs))) ≡ with_goal j (an_atom a) gs) (sym r) refl
    on false false q r h = subst (λ (t : Bool). (if t then with_goal j (an_atom a) gs else choice k o bs (without_goal i (with_goal j (an_atom a) gs))) ≡ (if is_before j k then atom j a (choice k o bs (without_goal i gs)) else choice k o bs (with_goal j (an_atom a) (without_goal i gs)))) (sym r)
        (subst (λ (t : Bool). choice k o bs (without_goal i (with_goal j (an_atom a) gs)) ≡ (if t then atom j a (choice k o bs (without_goal i gs)) else choice k o bs (with_goal j (an_atom a) (without_goal i gs)))) (sym q) (ap (λ (x : Goals). choice k o bs x) h))

-- a worker's names, by their numbers
other_number : (w m n : ℕ) → m < n → same_name (named w m) (named w n) ≡ false
other_number w m n h = grind (arith, nat_tests)

late_number : (w m n : ℕ) → m < n → is_before (named w n) (named w m) ≡ false
late_number w m n h = on (is_before (named w n) (named w m)) refl
  where
    on : (t : Bool) → is_before (named w n) (named w m) ≡ t → t ≡ false
    on true q = absurd (grind (arith, nat_tests))
    on false q = refl

without_atoms : (w m n : ℕ) → m < n → (rest : List Atom) (gs : Goals) → without_goal (named w m) (with_atoms w n rest gs) ≡ with_atoms w n rest (without_goal (named w m) gs)
without_atoms w m n h [] gs = refl
without_atoms w m n h (a ∷ rest) gs = without_atoms w m (n + 1) (omega arith) rest (with_goal (named w n) (an_atom a) gs)
    ∙ ap (with_atoms w (n + 1) rest) (without_later (named w m) (named w n) a (other_number w m n h) (late_number w m n h) gs)

-- the first goal of a body is found, and goes
pub first_held : (w n : ℕ) (a : Atom) (rest : List Atom) (gs : Goals) → times_inside (named w n) gs ≡ 0 → held_in (named w n) (with_atoms w n (a ∷ rest) gs) ≡ Some (an_atom a)
first_held w n a rest gs e = elim (with_atoms_other w (n + 1) rest (named w n) (with_goal (named w n) (an_atom a) gs)) [
  | inl h ↦ absurd (let d : _ = drawn_place (named w n) w (n + 1) (length rest) h in let z : n + 1 < n + 1 + 0 + 1 = omega arith in let y : _ = d.1 in omega arith)
  | inr q ↦ q ∙ held_with (named w n) a gs e
]

pub first_goes : (w n : ℕ) (a : Atom) (rest : List Atom) (gs : Goals) → times_inside (named w n) gs ≡ 0 → without_goal (named w n) (with_atoms w n (a ∷ rest) gs) ≡ with_atoms w (n + 1) rest gs
first_goes w n a rest gs e = without_atoms w n (n + 1) (omega arith) rest (with_goal (named w n) (an_atom a) gs) ∙ ap (with_atoms w (n + 1) rest) (without_with (named w n) a gs e)

-- goals that are atoms have no frames

frames_with : (i : Name) (a : Atom) (gs : Goals) → frames_inside (with_goal i (an_atom a) gs) ≡ frames_inside gs
frames_with i a no_goals = refl
frames_with i a (atom j b gs) = on (is_before i j) (frames_with i a gs)
  where
    on : (t : Bool) → frames_inside (with_goal i (an_atom a) gs) ≡ frames_inside gs → frames_inside (if t then atom i a (atom j b gs) else atom j b (with_goal i (an_atom a) gs)) ≡ frames_inside gs
    on true e = refl
    on false e = e
frames_with i a (choice j o bs gs) = on (is_before i j) (frames_with i a gs)
  where
    on : (t : Bool) → frames_inside (with_goal i (an_atom a) gs) ≡ frames_inside gs → frames_inside (if t then atom i a (choice j o bs gs) else choice j o bs (with_goal i (an_atom a) gs)) ≡ frames_of bs ++ frames_inside gs
    on true e = refl
    on false e = ap (λ (ns : List Name). frames_of bs ++ ns) e

pub frames_atoms : (w n : ℕ) (body : List Atom) (gs : Goals) → frames_inside (with_atoms w n body gs) ≡ frames_inside gs
frames_atoms w n [] gs = refl
frames_atoms w n (a ∷ body) gs = frames_atoms w (n + 1) body (with_goal (named w n) (an_atom a) gs) ∙ frames_with (named w n) a gs
