-- The alternatives of the choices directly in a box: what is known of them, and where they are found.
use Rattle.std.proofs.Common.{◌≡◌, ◌+◌, ◌≤◌, List, [], ◌∷◌, ◌++◌, Bool, true, false, Some, refl, sym, ap, subst, ◌⊎◌, inl, inr, arith}
use Rattle.std.specs.Prelude.{if◌then◌else◌, IsSomeAnd}
use Rattle.akl_terms.specs.declared.name.Name.{Name}
use Rattle.akl_terms.specs.Names.{same_name}
use Rattle.akl_terms.proofs.SameNames.{same_name-refl}
use Rattle.akl_model.specs.Config.{Operator, Content, Boxes, no_boxes, box, Goals, no_goals, atom, choice, a_choice, held_in, Found}
use Rattle.akl_model.specs.Rules.{ChoiceIn, choice_with, alternative_of, has_box}
use Rattle.akl_model.specs.Stable.{EachBox, EachInside}
use Rattle.akl_model.specs.Names.{one_if}
use Rattle.akl_model.proofs.Finds.{times, times_of, times_inside}
use Rattle.akl_model.proofs.Options.{some_value}
use Rattle.step_laws.specs.Whereabouts.{BoxIn, InGoals}
use Rattle.step_laws.proofs.Whereabouts.{in_counted}
use Rattle.step_laws.proofs.Holders.{choice_less}
use Rattle.step_laws.proofs.Edits.{HeldHere, HolderAmong, among_holder}

module _ (P : Found → Type 0) (around : List Content) where
  -- what holds of all boxes inside holds of each alternative
  pub at_alternative : (gs : Goals) → EachInside P around gs → (c : Content) (hs : Goals) → InGoals [] c hs gs → P (record { around = around; content = c; goals = hs })
  at_alternative no_goals h c hs i = absurd i
  at_alternative (atom g a gs) h c hs i = at_alternative gs h c hs i
  at_alternative (choice g o bs gs) h c hs (inl i) = among bs h.0 i
    where
      among : (bs : Boxes) → EachBox P around bs → BoxIn [] c hs bs → P (record { around = around; content = c; goals = hs })
      among no_boxes k x = absurd x
      among (box b is bs) k (inl x) = subst P (λ j. record { around = around; content = sym x.1 j; goals = sym x.2 j }) k.0
      among (box b is bs) k (inr (inl (rest, q, x))) = absurd cc
      among (box b is bs) k (inr (inr x)) = among bs k.2 x
  at_alternative (choice g o bs gs) h c hs (inr i) = at_alternative gs h.1 c hs i

  -- and what holds of each alternative and all inside it holds of all boxes inside
  pub each_alternative : (gs : Goals) → ((c : Content) (hs : Goals) → InGoals [] c hs gs → EachBox P around (box c hs no_boxes)) → EachInside P around gs
  each_alternative no_goals f = tt
  each_alternative (atom g a gs) f = each_alternative gs f
  each_alternative (choice g o bs gs) f = (among bs (λ c hs i. f c hs (inl i)), each_alternative gs (λ c hs i. f c hs (inr i)))
    where
      among : (bs : Boxes) → ((c : Content) (hs : Goals) → BoxIn [] c hs bs → EachBox P around (box c hs no_boxes)) → EachBox P around bs
      among no_boxes h = tt
      among (box c hs bs) h = let x : EachBox P around (box c hs no_boxes) = h c hs (inl (refl, refl, refl)) in (x.0, x.1, among bs (λ k is i. h k is (inr (inr i))))

-- a fact of an alternative of one box is one of the same alternative of another
pub alternative_back : (X Y : Found → Type 0) (f k : Found) (n : Name) (bs : Boxes)
    → ((c : Content) (hs : Goals) → BoxIn [] c hs bs → X (record { around = k.around ++ k.content ∷ []; content = c; goals = hs }) → Y (record { around = f.around ++ f.content ∷ []; content = c; goals = hs }))
    → IsSomeAnd (alternative_of k n bs) X → IsSomeAnd (alternative_of f n bs) Y
alternative_back X Y f k n no_boxes by x = x
alternative_back X Y f k n (box c hs bs) by x = on (same_name n c.name) x (λ y. alternative_back X Y f k n bs (λ d is i z. by d is (inr (inr i)) z) y)
  where
    on : (t : Bool) → IsSomeAnd (if t then Some (record { around = k.around ++ k.content ∷ []; content = c; goals = hs }) else alternative_of k n bs) X
        → (IsSomeAnd (alternative_of k n bs) X → IsSomeAnd (alternative_of f n bs) Y)
        → IsSomeAnd (if t then Some (record { around = f.around ++ f.content ∷ []; content = c; goals = hs }) else alternative_of f n bs) Y
    on true y further = by c hs (inl (refl, refl, refl)) y
    on false y further = further y

-- the alternatives of the choice at which a box may be split
pub chosen_inside : (a : Name) (gs : Goals) (k : ChoiceIn) → choice_with a gs ≡ Some k → (c : Content) (hs : Goals) → BoxIn [] c hs k.alternatives → InGoals [] c hs gs
chosen_inside a no_goals k e c hs i = cc
chosen_inside a (atom g t gs) k e c hs i = chosen_inside a gs k e c hs i
chosen_inside a (choice g o bs gs) k e c hs i = on (has_box a bs) e (λ j. chosen_inside a gs k j c hs i)
  where
    on : (t : Bool) → (if t then Some (record { name = g; op = o; alternatives = bs }) else choice_with a gs) ≡ Some k → (choice_with a gs ≡ Some k → InGoals [] c hs gs) → BoxIn [] c hs bs ⊎ InGoals [] c hs gs
    on true j f = inl (subst (λ (u : ChoiceIn). BoxIn [] c hs u.alternatives) (sym (some_value j)) i)
    on false j f = inr (f j)

-- an alternative that stands among others is found by its name
alternative_there : (f : Found) (c : Content) (hs : Goals) (bs : Boxes) → ((n : Name) → times n bs ≤ 1) → BoxIn [] c hs bs
    → alternative_of f c.name bs ≡ Some (record { around = f.around ++ f.content ∷ []; content = c; goals = hs })
alternative_there f c hs no_boxes once i = absurd i
alternative_there f c hs (box b gs bs) once (inl i) = on (same_name c.name b.name) (subst (λ (k : Content). same_name c.name k.name ≡ true) i.1 (same_name-refl c.name))
  where
    on : (t : Bool) → t ≡ true → (if t then Some (record { around = f.around ++ f.content ∷ []; content = b; goals = gs }) else alternative_of f c.name bs) ≡ Some (record { around = f.around ++ f.content ∷ []; content = c; goals = hs })
    on true q = λ j. Some (record { around = f.around ++ f.content ∷ []; content = sym i.1 j; goals = sym i.2 j })
    on false q = cc
alternative_there f c hs (box b gs bs) once (inr (inl (rest, q, i))) = absurd cc
alternative_there f c hs (box b gs bs) once (inr (inr i)) = on (same_name c.name b.name) refl
    (alternative_there f c hs bs (λ n. let h : times_of n b + (times_inside n gs + times n bs) ≤ 1 = once n in omega arith) i)
  where
    on : (t : Bool) → same_name c.name b.name ≡ t → alternative_of f c.name bs ≡ Some (record { around = f.around ++ f.content ∷ []; content = c; goals = hs })
        → (if t then Some (record { around = f.around ++ f.content ∷ []; content = b; goals = gs }) else alternative_of f c.name bs) ≡ Some (record { around = f.around ++ f.content ∷ []; content = c; goals = hs })
    on true q x =
        let a : times c.name (box c hs no_boxes) + 0 ≤ times c.name bs = in_counted c.name [] c hs bs i in
        let h : times_of c.name b + (times_inside c.name gs + times c.name bs) ≤ 1 = once c.name in
        let u : one_if (same_name c.name b.name) ≡ 1 = ap one_if q in
        let v : one_if (same_name c.name c.name) ≡ 1 = ap one_if (same_name-refl c.name) in
        absurd (omega arith)
    on false q x = x

-- a choice of a box has an alternative, which is found by its name
pub record IsAlternative (f : Found) (c : Content) (hs : Goals) : Type 0 where
  pub goal : Name
  pub op : Operator
  pub alternatives : Boxes
  pub held : held_in goal f.goals ≡ Some (a_choice op alternatives)
  pub found : alternative_of f c.name alternatives ≡ Some (record { around = f.around ++ f.content ∷ []; content = c; goals = hs })

-- each box directly inside one is such
pub is_alternative : (f : Found) → ((n : Name) → times_inside n f.goals ≤ 1) → (c : Content) (hs : Goals) → InGoals [] c hs f.goals → IsAlternative f c hs
is_alternative f once c hs i = on (among_holder [] c hs f.goals once i)
  where
    no_path : (path : List Content) (b : Content) → [] ≡ path ++ b ∷ [] → ⊥
    no_path [] b q = cc
    no_path (a ∷ path) b q = cc

    on : HeldHere [] c hs f.goals ⊎ HolderAmong [] c hs f.goals → IsAlternative f c hs
    on (inr y) = absurd (no_path y.home.around y.home.content y.path)
    on (inl y) = record {
      goal = y.goal;
      op = y.op;
      alternatives = y.alternatives;
      held = y.held;
      found = alternative_there f c hs y.alternatives (λ n.
          let u : times n y.alternatives ≤ times_inside n f.goals = choice_less n y.goal y.op y.alternatives f.goals y.held in
          let v : times_inside n f.goals ≤ 1 = once n in
          omega arith) y.alternative;
    }
