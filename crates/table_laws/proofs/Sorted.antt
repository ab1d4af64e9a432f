-- Names in increasing order are one list, and the names of boxes are those that each box has itself.
use Rattle.std.proofs.Common.{◌≡◌, ◌+◌, ◌≤◌, ◌<◌, List, [], ◌∷◌, Bool, true, false, refl, sym, ◌∙◌, ap, subst, ◌⊎◌, inl, inr, arith}
use Rattle.akl_terms.specs.declared.name.Name.{Name}
use Rattle.akl_terms.specs.Names.{same_name, is_before}
use Rattle.akl_terms.proofs.SameNames.{same_name-equal, same_name-refl}
use Rattle.akl_model.specs.Config.{IsIn, Content, Boxes, no_boxes, box, Goals, no_goals, atom, choice}
use Rattle.akl_model.specs.Renaming.{port_names, names_of, sorted_names}
use Rattle.akl_model.specs.Names.{one_if, times_in}
use Rattle.akl_model.specs.Changes.{goal_names}
use Rattle.akl_model.specs.Ordered.{IsBeforeAll, IsIncreasing}
use Rattle.akl_model.proofs.Finds.{zero_or, times, times_of, times_inside, times-names}
use Rattle.akl_model.proofs.Orders.{before_not, increasing_with_names}
use Rattle.akl_model.proofs.Drawn.{times-with_names, in-with_names}
use Rattle.akl_model.proofs.ScopesAlong.{counted_in, times_path}
use Rattle.step_laws.specs.Whereabouts.{BoxIn, InGoals}
use Rattle.step_laws.proofs.Whereabouts.{in_counted}
use Rattle.table_laws.proofs.Insides.{named_counted, goal_names_less}

before_each : (n m : Name) (ms : List Name) → IsBeforeAll n ms → IsIn m ms → is_before n m ≡ true
before_each n m [] b i = absurd i
before_each n m (k ∷ ms) b (inl e) = subst (λ (x : Name). is_before n x ≡ true) (sym e) b.0
before_each n m (k ∷ ms) b (inr i) = before_each n m ms b.1 i

-- the same names in increasing order
pub same_sorted : (xs ys : List Name) → IsIncreasing xs → IsIncreasing ys → ((m : Name) → IsIn m xs → IsIn m ys) → ((m : Name) → IsIn m ys → IsIn m xs) → xs ≡ ys
same_sorted [] [] p q f g = refl
same_sorted [] (y ∷ ys) p q f g = absurd (g y (inl refl))
same_sorted (x ∷ xs) [] p q f g = absurd (f x (inl refl))
same_sorted (x ∷ xs) (y ∷ ys) p q f g = λ i. first i ∷ same_sorted xs ys p.1 q.1 (λ m h. later_in m h (f m (inr h))) (λ m h. later_back m h (g m (inr h))) i
  where
    first : x ≡ y
    first = elim (f x (inl refl)) [
      | inl e ↦ e
      | inr h ↦ elim (g y (inl refl)) [ inl e ↦ sym e | inr k ↦ absurd (before_not x y (before_each x y xs p.0 k) (before_each y x ys q.0 h)) ]
    ]

    later_in : (m : Name) → IsIn m xs → IsIn m (y ∷ ys) → IsIn m ys
    later_in m h (inr k) = k
    later_in m h (inl e) =
        let b : is_before x x ≡ true = subst (λ (z : Name). is_before x z ≡ true) (e ∙ sym first) (before_each x m xs p.0 h) in
        absurd (before_not x x b b)

    later_back : (m : Name) → IsIn m ys → IsIn m (x ∷ xs) → IsIn m xs
    later_back m h (inr k) = k
    later_back m h (inl e) =
        let b : is_before y y ≡ true = subst (λ (z : Name). is_before y z ≡ true) (e ∙ first) (before_each y m ys q.0 h) in
        absurd (before_not y y b b)

-- a name that a box has itself: its own, or that of a frame, a port or a goal
abbrev pub IsOwn : Name → Content → Goals → Type 0
IsOwn m b gs = (m ≡ b.name) ⊎ (IsIn m b.frames ⊎ (IsIn m (port_names b.ports) ⊎ IsIn m (goal_names gs)))

own_counted : (m : Name) (b : Content) (gs : Goals) → IsOwn m b gs → 0 < times m (box b gs no_boxes)
own_counted m b gs (inl e) = let u : one_if (same_name m b.name) ≡ 1 = ap one_if (subst (λ (n : Name). same_name m n ≡ true) e (same_name-refl m)) in omega arith
own_counted m b gs (inr (inl i)) = let u : 0 < times_in m b.frames = counted_in m b.frames i in omega arith
own_counted m b gs (inr (inr (inl i))) = let u : 0 < times_in m (port_names b.ports) = counted_in m (port_names b.ports) i in omega arith
own_counted m b gs (inr (inr (inr i))) =
    let u : 0 < times_in m (goal_names gs) = counted_in m (goal_names gs) i in
    let v : times_in m (goal_names gs) ≤ times_inside m gs = goal_names_less m gs in
    omega arith

counted_own : (m : Name) (b : Content) (gs : Goals) → 0 < times_of m b + times_in m (goal_names gs) → IsOwn m b gs
counted_own m b gs h = on (same_name m b.name) refl (zero_or (times_in m b.frames)) (zero_or (times_in m (port_names b.ports)))
  where
    on : (t : Bool) → same_name m b.name ≡ t → (times_in m b.frames ≡ 0) ⊎ (0 < times_in m b.frames) → (times_in m (port_names b.ports) ≡ 0) ⊎ (0 < times_in m (port_names b.ports)) → IsOwn m b gs
    on true e x y = inl (same_name-equal m b.name e)
    on false e (inr x) y = inr (inl (named_counted m b.frames x))
    on false e (inl x) (inr y) = inr (inr (inl (named_counted m (port_names b.ports) y)))
    on false e (inl x) (inl y) = let u : one_if (same_name m b.name) ≡ 0 = ap one_if e in inr (inr (inr (named_counted m (goal_names gs) (omega (arith, u, x, y, h)))))

-- each name of boxes is one that a box has itself
mutual
  has_own : (m : Name) (bs : Boxes) → 0 < times m bs → (r : List Content) × (k : Content) × (hs : Goals) × BoxIn r k hs bs × IsOwn m k hs
  has_own m no_boxes h = absurd (omega arith)
  has_own m (box b gs bs) h = on (zero_or (times_of m b + times_in m (goal_names gs))) (zero_or (times m bs)) (λ x. inside_own m gs x) (λ x. has_own m bs x)
    where
      on : (times_of m b + times_in m (goal_names gs) ≡ 0) ⊎ (0 < times_of m b + times_in m (goal_names gs)) → (times m bs ≡ 0) ⊎ (0 < times m bs)
          → (times_in m (goal_names gs) + 0 < times_inside m gs → (r : List Content) × (k : Content) × (hs : Goals) × InGoals r k hs gs × IsOwn m k hs)
          → (0 < times m bs → (r : List Content) × (k : Content) × (hs : Goals) × BoxIn r k hs bs × IsOwn m k hs)
          → (r : List Content) × (k : Content) × (hs : Goals) × BoxIn r k hs (box b gs bs) × IsOwn m k hs
      on (inr x) y f g = ([], b, gs, inl (refl, refl, refl), counted_own m b gs x)
      on (inl x) (inr y) f g = let w : _ = g y in (w.0, w.1, w.2, inr (inr w.3), w.4)
      on (inl x) (inl y) f g = let w : _ = f (omega (arith, x, y, h)) in (b ∷ w.0, w.1, w.2, inr (inl (w.0, refl, w.3)), w.4)

  inside_own : (m : Name) (gs : Goals) → times_in m (goal_names gs) + 0 < times_inside m gs → (r : List Content) × (k : Content) × (hs : Goals) × InGoals r k hs gs × IsOwn m k hs
  inside_own m no_goals h = absurd (omega arith)
  inside_own m (atom g a gs) h = inside_own m gs (omega arith)
  inside_own m (choice g o bs gs) h = on (zero_or (times m bs)) (λ x. has_own m bs x) (λ x. inside_own m gs x)
    where
      on : (times m bs ≡ 0) ⊎ (0 < times m bs) → (0 < times m bs → (r : List Content) × (k : Content) × (hs : Goals) × BoxIn r k hs bs × IsOwn m k hs)
          → (times_in m (goal_names gs) + 0 < times_inside m gs → (r : List Content) × (k : Content) × (hs : Goals) × InGoals r k hs gs × IsOwn m k hs)
          → (r : List Content) × (k : Content) × (hs : Goals) × InGoals r k hs (choice g o bs gs) × IsOwn m k hs
      on (inr x) f i = let w : _ = f x in (w.0, w.1, w.2, inl w.3, w.4)
      on (inl x) f i = let w : _ = i (omega (arith, x, h)) in (w.0, w.1, w.2, inr w.3, w.4)

-- so names in increasing order that are those of boxes are their sorted names
pub sorted_by : (bs : Boxes) (names : List Name) → IsIncreasing names → ((r : List Content) (k : Content) (hs : Goals) → BoxIn r k hs bs → (m : Name) → IsOwn m k hs → IsIn m names)
    → ((m : Name) → IsIn m names → (r : List Content) × (k : Content) × (hs : Goals) × BoxIn r k hs bs × IsOwn m k hs) → names ≡ sorted_names bs
sorted_by bs names up each only = same_sorted names (sorted_names bs) up (increasing_with_names (names_of bs) [] tt) to back
  where
    to : (m : Name) → IsIn m names → IsIn m (sorted_names bs)
    to m i =
        let w : (r : List Content) × (k : Content) × (hs : Goals) × BoxIn r k hs bs × IsOwn m k hs = only m i in
        let a : 0 < times m (box w.1 w.2 no_boxes) = own_counted m w.1 w.2 w.4 in
        let b : times m (box w.1 w.2 no_boxes) + times_path m w.0 ≤ times m bs = in_counted m w.0 w.1 w.2 bs w.3 in
        let e : times_in m (names_of bs) ≡ times m bs = times-names m bs in
        named_counted m (sorted_names bs) (in-with_names m (names_of bs) [] (omega (arith, a, b, e)))

    back : (m : Name) → IsIn m (sorted_names bs) → IsIn m names
    back m i =
        let a : 0 < times_in m (sorted_names bs) = counted_in m (sorted_names bs) i in
        let b : times_in m (sorted_names bs) ≤ times_in m (names_of bs) + 0 = times-with_names m (names_of bs) [] in
        let e : times_in m (names_of bs) ≡ times m bs = times-names m bs in
        let w : (r : List Content) × (k : Content) × (hs : Goals) × BoxIn r k hs bs × IsOwn m k hs = has_own m bs (omega (arith, a, b, e)) in
        each w.0 w.1 w.2 w.3 m w.4
