-- Goals by which their box fails.
use Rattle.std.proofs.Common.{◌≡◌, ◌+◌, ◌≤◌, ◌<◌, List, Bool, true, false, Some, refl, sym, subst, ◌⊎◌, inl, inr, arith}
use Rattle.std.specs.Prelude.{if◌then◌else◌}
use Rattle.akl_terms.specs.declared.name.Name.{Name}
use Rattle.akl_model.specs.Config.{Operator}
use Rattle.akl_terms.specs.Names.{same_name}
use Rattle.akl_model.specs.Config.{Atom, Boxes, no_boxes, box, Goals, no_goals, atom, choice, Held, an_atom, a_choice, held_in}
use Rattle.akl_model.specs.Conditions.{IsFailing, HasFailed}
use Rattle.akl_model.specs.Changes.{box_names, goal_names, shape_of}
use Rattle.akl_model.specs.Names.{one_if, times_in}
use Rattle.akl_model.proofs.Options.{some_value}
use Rattle.akl_model.proofs.Finds.{times, times_inside}
use Rattle.akl_terms.proofs.SameNames.{same_name-refl}
use Rattle.constraint_laws.proofs.SameTerms.{Either}
use Rattle.step_laws.proofs.Whereabouts.{held_counted}
use Rattle.step_laws.proofs.Edits.{other, past}
use Rattle.step_laws.proofs.GoalEdits.{named_held, held_named}

-- a goal of the same shape fails as well
pub failing_shape : (h k : Held) → shape_of h ≡ shape_of k → IsFailing h → IsFailing k
failing_shape (an_atom a) (an_atom b) e x = let q : a ≡ b = cc in subst (λ (c : Atom). IsFailing (an_atom c)) q x
failing_shape (an_atom a) (a_choice o bs) e x = cc
failing_shape (a_choice o bs) (an_atom a) e x = cc
failing_shape (a_choice o bs) (a_choice q cs) e x = let i : o ≡ q = cc in let n : box_names bs ≡ box_names cs = cc in subst (λ (r : Operator). IsFailing (a_choice r cs)) i (named bs cs n x)
  where
    named : (bs cs : Boxes) → box_names bs ≡ box_names cs → IsFailing (a_choice o bs) → IsFailing (a_choice o cs)
    named no_boxes no_boxes n x = x
    named no_boxes (box b gs cs) n x = cc
    named (box b gs bs) cs n x = absurd x

-- where a failing goal is found, the goals have one
pub failing_found : (g : Name) (gs : Goals) (h : Held) → held_in g gs ≡ Some h → IsFailing h → HasFailed gs
failing_found g no_goals h e x = cc
failing_found g (atom i a gs) h e x = on (same_name g i) e (λ q. failing_found g gs h q x)
  where
    on : (t : Bool) → (if t then Some (an_atom a) else held_in g gs) ≡ Some h → (held_in g gs ≡ Some h → HasFailed gs) → HasFailed (atom i a gs)
    on true q r = inl (subst IsFailing (sym (some_value q)) x)
    on false q r = inr (r q)
failing_found g (choice i o bs gs) h e x = on (same_name g i) e (λ q. failing_found g gs h q x)
  where
    on : (t : Bool) → (if t then Some (a_choice o bs) else held_in g gs) ≡ Some h → (held_in g gs ≡ Some h → HasFailed gs) → HasFailed (choice i o bs gs)
    on true q r = inl (subst IsFailing (sym (some_value q)) x)
    on false q r = inr (r q)

first : (g : Name) (h : Held) (gs : Goals) → (if same_name g g then Some h else held_in g gs) ≡ Some h
first g h gs = on (same_name g g) (same_name-refl g)
  where
    on : (t : Bool) → t ≡ true → (if t then Some h else held_in g gs) ≡ Some h
    on true e = refl
    on false e = cc

-- and where they have one it is found, as names stand once
pub failed_goal : (gs : Goals) → ((g : Name) → times_inside g gs ≤ 1) → HasFailed gs → (g : Name) × (h : Held) × (held_in g gs ≡ Some h) × IsFailing h
failed_goal no_goals once x = absurd x
failed_goal (atom i a gs) once (inl x) = (i, an_atom a, first i (an_atom a) gs, x)
failed_goal (atom i a gs) once (inr x) =
    let w : (g : Name) × (h : Held) × (held_in g gs ≡ Some h) × IsFailing h = failed_goal gs (λ g. let o : one_if (same_name g i) + times_inside g gs ≤ 1 = once g in omega arith) x in
    let c : 1 ≤ times_inside w.0 gs = held_counted w.0 w.1 gs w.2 in
    (w.0, w.1, past (same_name w.0 i) (an_atom a) (held_in w.0 gs) w.1 (other w.0 i (times_inside w.0 gs) c (once w.0)) w.2, w.3)
failed_goal (choice i o bs gs) once (inl x) = (i, a_choice o bs, first i (a_choice o bs) gs, x)
failed_goal (choice i o bs gs) once (inr x) =
    let w : (g : Name) × (h : Held) × (held_in g gs ≡ Some h) × IsFailing h = failed_goal gs (λ g. let k : one_if (same_name g i) + (times g bs + times_inside g gs) ≤ 1 = once g in omega arith) x in
    let c : 1 ≤ times_inside w.0 gs = held_counted w.0 w.1 gs w.2 in
    let k : one_if (same_name w.0 i) + (times w.0 bs + times_inside w.0 gs) ≤ 1 = once w.0 in
    (w.0, w.1, past (same_name w.0 i) (a_choice o bs) (held_in w.0 gs) w.1 (other w.0 i (times_inside w.0 gs) c (omega arith)) w.2, w.3)

failing_or : (h : Held) → Either (IsFailing h)
failing_or (an_atom Atom.fail) = inl tt
failing_or (an_atom (Atom.equation s t)) = inr (λ x. x)
failing_or (an_atom (Atom.arithmetic test l r)) = inr (λ x. x)
failing_or (an_atom (Atom.open_port p s)) = inr (λ x. x)
failing_or (an_atom (Atom.send m p)) = inr (λ x. x)
failing_or (an_atom (Atom.call n ts r)) = inr (λ x. x)
failing_or (a_choice Operator.condition no_boxes) = inl tt
failing_or (a_choice Operator.commit no_boxes) = inl tt
failing_or (a_choice Operator.nondeterminate no_boxes) = inl tt
failing_or (a_choice (Operator.collecting r) no_boxes) = inr (λ x. x)
failing_or (a_choice o (box b hs bs)) = inr (λ x. x)

either : {A B : Type 0} → Either A → Either B → Either (A ⊎ B)
either (inl a) y = inl (inl a)
either (inr n) (inl b) = inl (inr b)
either (inr n) (inr m) = inr (λ x. elim x [ inl a ↦ n a | inr b ↦ m b ])

pub failed_or : (gs : Goals) → Either (HasFailed gs)
failed_or no_goals = inr (λ x. x)
failed_or (atom g a gs) = either (failing_or (an_atom a)) (failed_or gs)
failed_or (choice g o bs gs) = either (failing_or (a_choice o bs)) (failed_or gs)

-- a box that has failed had failed before, where its goals had the same names and shapes
pub failed_before : (old new : Goals) → ((g : Name) → times_inside g new ≤ 1) → goal_names old ≡ goal_names new
    → ((g : Name) (h k : Held) → held_in g old ≡ Some h → held_in g new ≡ Some k → (shape_of h ≡ shape_of k → ⊥) → ⊥) → HasFailed new → (HasFailed old → ⊥) → ⊥
failed_before old new once names shapes x unfailed =
    let w : (g : Name) × (h : Held) × (held_in g new ≡ Some h) × IsFailing h = failed_goal new once x in
    let z : (h : Held) × (held_in w.0 old ≡ Some h) = named_held w.0 old (subst (λ (ns : List Name). 0 < times_in w.0 ns) (sym names) (held_named w.0 new w.1 w.2)) in
    shapes w.0 z.0 w.1 z.1 w.2 (λ q. unfailed (failing_found w.0 old z.0 z.1 (failing_shape w.1 z.0 (sym q) w.3)))
