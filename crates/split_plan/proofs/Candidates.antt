-- An alternative that rows show as a candidate is one at which a stable box may be split.
use Rattle.std.proofs.Common.{◌≡◌, ℕ, ◌+◌, ◌≤◌, ◌<◌, ◌∷◌, length, Bool, true, false, Some, None, refl, sym, ◌∙◌, ap, subst, inl, inr, arith}
use Rattle.std.proofs.lemmas.Bool.{ltb-true}
use Rattle.std.specs.Prelude.{if◌then◌else◌, nat_lt}
use Rattle.akl_terms.specs.declared.name.Name.{Name}
use Rattle.akl_terms.specs.Names.{same_name}
use Rattle.akl_terms.proofs.SameNames.{same_name-equal}
use Rattle.akl_model.specs.Config.{IsIn, Operator, Atom, Boxes, no_boxes, box, Goals, no_goals, atom, choice, an_atom, a_choice}
use Rattle.akl_model.specs.Rules.{count_of, has_box, ChoiceIn, choice_with}
use Rattle.akl_model.specs.Stable.{first_solved}
use Rattle.akl_model.specs.Names.{one_if, times_in}
use Rattle.akl_model.specs.Changes.{of_choice, box_names, goal_names}
use Rattle.akl_model.proofs.Finds.{times, times_inside}
use Rattle.akl_model.proofs.ScopesAlong.{counted_in}
use Rattle.step_laws.proofs.Holders.{names_less}
use Rattle.table_laws.specs.Rows.{Table}
use Rattle.table_laws.proofs.Sets.{other_name, not_some}
use Rattle.table_laws.proofs.RestBoxes.{first_named, EachGoal}
use Rattle.box_tree.specs.Insides.{first_solved_in, candidate_of, candidate_at}
use Rattle.box_tree.proofs.ShownChoices.{HaveRows, first_alike, IsShown, candidate_is, counted}

-- names of alternatives

named_has : (a : Name) (bs : Boxes) → IsIn a (box_names bs) → has_box a bs ≡ true
named_has a no_boxes i = absurd i
named_has a (box b gs bs) i = on (same_name a b.name) refl i (named_has a bs)
  where
    on : (t : Bool) → same_name a b.name ≡ t → IsIn a (b.name ∷ box_names bs) → (IsIn a (box_names bs) → has_box a bs ≡ true) → (if t then true else has_box a bs) ≡ true
    on true q j f = refl
    on false q (inl e) f = absurd (other_name a b.name q e)
    on false q (inr j) f = f j

has_named : (a : Name) (bs : Boxes) → has_box a bs ≡ true → IsIn a (box_names bs)
has_named a no_boxes e = cc
has_named a (box b gs bs) e = on (same_name a b.name) refl e (has_named a bs)
  where
    on : (t : Bool) → same_name a b.name ≡ t → (if t then true else has_box a bs) ≡ true → (has_box a bs ≡ true → IsIn a (box_names bs)) → IsIn a (b.name ∷ box_names bs)
    on true q j f = inl (same_name-equal a b.name q)
    on false q j f = inr (f j)

named_times : (a : Name) (bs : Boxes) → IsIn a (box_names bs) → 1 ≤ times a bs
named_times a bs i = let x : 0 < times_in a (box_names bs) = counted_in a (box_names bs) i in let y : times_in a (box_names bs) ≤ times a bs = names_less a bs in omega (arith, x, y)

-- at this alternative a box of these goals could be split
pub record IsPoint (a : Name) (gs : Goals) : Type 0 where
  pub among : ChoiceIn
  pub is_choice : choice_with a gs ≡ Some among
  pub op : among.op ≡ Operator.nondeterminate
  pub first : first_solved among.alternatives ≡ Some a
  pub others : 1 < count_of among.alternatives

module _ (T : Table) (a : Name) where
  record IsPointIn (gs : Goals) : Type 0 where
    pub point : IsPoint a gs
    pub stands : 1 ≤ times_inside a gs

  -- a choice that is a candidate
  here : (o : Operator) (bs : Boxes) → HaveRows T bs → candidate_of T (of_choice o (box_names bs)) ≡ Some a → (o ≡ Operator.nondeterminate) × (first_solved bs ≡ Some a) × (1 < count_of bs)
  here Operator.condition bs r e = cc
  here Operator.commit bs r e = cc
  here (Operator.collecting t) bs r e = cc
  here Operator.nondeterminate bs r e = on (nat_lt 1 (length (box_names bs))) refl e
    where
      on : (t : Bool) → nat_lt 1 (length (box_names bs)) ≡ t → (if t then first_solved_in T (box_names bs) else None) ≡ Some a → (Operator.nondeterminate ≡ Operator.nondeterminate) × (first_solved bs ≡ Some a) × (1 < count_of bs)
      on true q x = (refl, sym (first_alike T bs r) ∙ x, subst (λ (n : ℕ). 1 < n) (counted bs) (ltb-true 1 (length (box_names bs)) q))
      on false q x = cc

  past_atom : (g : Name) (gs : Goals) → (x : Atom) → IsPointIn gs → IsPointIn (atom g x gs)
  past_atom g gs x p = record {
    point = record { among = p.point.among; is_choice = p.point.is_choice; op = p.point.op; first = p.point.first; others = p.point.others };
    stands = let k : 1 ≤ times_inside a gs = p.stands in omega arith;
  }

  at_choice : (g : Name) (o : Operator) (bs : Boxes) (gs : Goals) → o ≡ Operator.nondeterminate → first_solved bs ≡ Some a → 1 < count_of bs → IsPointIn (choice g o bs gs)
  at_choice g o bs gs p q l = record {
    point = record {
      among = record { name = g; op = o; alternatives = bs };
      is_choice = ap (λ (t : Bool). if t then Some (record { name = g; op = o; alternatives = bs }) else choice_with a gs) (named_has a bs (first_named a bs q));
      op = p;
      first = q;
      others = l;
    };
    stands = let k : 1 ≤ times a bs = named_times a bs (first_named a bs q) in omega arith;
  }

  past_choice : (g : Name) (o : Operator) (bs : Boxes) (gs : Goals) → times_inside a (choice g o bs gs) ≤ 1 → IsPointIn gs → IsPointIn (choice g o bs gs)
  past_choice g o bs gs once p = record {
    point = record {
      among = p.point.among;
      is_choice = ap (λ (t : Bool). if t then Some (record { name = g; op = o; alternatives = bs }) else choice_with a gs) (no_box (has_box a bs) refl) ∙ p.point.is_choice;
      op = p.point.op;
      first = p.point.first;
      others = p.point.others;
    };
    stands = let k : 1 ≤ times_inside a gs = p.stands in omega arith;
  }
    where
      no_box : (t : Bool) → has_box a bs ≡ t → has_box a bs ≡ false
      no_box false e = e
      no_box true e =
          let x : 1 ≤ times a bs = named_times a bs (has_named a bs e) in
          let y : 1 ≤ times_inside a gs = p.stands in
          let z : one_if (same_name a g) + (times a bs + times_inside a gs) ≤ 1 = once in
          absurd (omega (arith, x, y, z))

  point_in : (gs : Goals) → EachGoal (IsShown T) gs → times_inside a gs ≤ 1 → (g : Name) → IsIn g (goal_names gs) → candidate_at T (T.goal_of g) ≡ Some a → IsPointIn gs
  point_in no_goals rows once g i e = absurd i
  point_in (atom h x gs) rows once g (inl r) e = absurd (not_some (sym (candidate_is T h (an_atom x) rows.0) ∙ ap (λ (n : Name). candidate_at T (T.goal_of n)) (sym r) ∙ e))
  point_in (atom h x gs) rows once g (inr i) e = past_atom h gs x (point_in gs rows.1 (omega arith) g i e)
  point_in (choice h o bs gs) rows once g (inl r) e =
      let w : (o ≡ Operator.nondeterminate) × (first_solved bs ≡ Some a) × (1 < count_of bs) =
      here o bs rows.0.3 (sym (candidate_is T h (a_choice o bs) rows.0) ∙ ap (λ (n : Name). candidate_at T (T.goal_of n)) (sym r) ∙ e) in
      at_choice h o bs gs w.0 w.1 w.2
  point_in (choice h o bs gs) rows once g (inr i) e =
      past_choice h o bs gs once (point_in gs rows.1 (let z : one_if (same_name a h) + (times a bs + times_inside a gs) ≤ 1 = once in omega arith) g i e)

  -- of any goal that is such a choice
  pub is_point : (gs : Goals) → EachGoal (IsShown T) gs → times_inside a gs ≤ 1 → (g : Name) → IsIn g (goal_names gs) → candidate_at T (T.goal_of g) ≡ Some a → IsPoint a gs
  is_point gs rows once g i e = (point_in gs rows once g i e).point
