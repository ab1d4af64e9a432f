-- The alternatives that a solved one keeps, and those that go.
use Rattle.std.proofs.Common.{◌≡◌, ◌+◌, ◌≤◌, List, [], ◌∷◌, ◌++◌, map, Bool, true, false, Option, Some, None, refl, sym, ◌∙◌, ap, subst, ◌⊎◌, inl, inr, arith}
use Rattle.std.specs.Prelude.{if◌then◌else◌}
use Rattle.akl_terms.specs.declared.name.Name.{Name}
use Rattle.akl_model.specs.Config.{Operator}
use Rattle.akl_terms.specs.Names.{same_name}
use Rattle.akl_terms.proofs.SameNames.{same_name-equal}
use Rattle.akl_model.specs.Config.{IsIn, Content, Boxes, no_boxes, box, Goals, no_goals, atom, choice, Held, an_atom, a_choice, held_in, with_content}
use Rattle.akl_model.specs.Rules.{up_to, alone, kept_by}
use Rattle.akl_model.specs.Conditions.{IsFailing}
use Rattle.akl_model.specs.Names.{one_if, times_in}
use Rattle.akl_model.specs.Changes.{box_names}
use Rattle.akl_model.proofs.Options.{some_value}
use Rattle.akl_model.proofs.Finds.{times_inside}
use Rattle.akl_model.proofs.Scoped.{IsIn-right}
use Rattle.akl_model.proofs.ScopesAlong.{counted_in}
use Rattle.step_laws.specs.Whereabouts.{BoxIn, InGoals}
use Rattle.step_laws.proofs.Failing.{failing_found, failed_goal}
use Rattle.table_laws.specs.Unfolds.{FailsBy}
use Rattle.table_laws.specs.Writes.{less_name, names_up_to, names_after, name_alone, names_kept, names_cut}
use Rattle.table_laws.proofs.Sets.{other_name}
use Rattle.table_laws.proofs.Insides.{named_counted}

-- by names

up_to_after : (m n : Name) (ns : List Name) → times_in m (names_up_to n ns) + times_in m (names_after n ns) ≡ times_in m ns
up_to_after m n [] = refl
up_to_after m n (k ∷ ns) = on (same_name n k) (up_to_after m n ns)
  where
    on : (t : Bool) → times_in m (names_up_to n ns) + times_in m (names_after n ns) ≡ times_in m ns
        → times_in m (if t then k ∷ [] else k ∷ names_up_to n ns) + times_in m (if t then ns else names_after n ns) ≡ one_if (same_name m k) + times_in m ns
    on true e = omega arith
    on false e = omega arith

alone_less : (m n : Name) (ns : List Name) → times_in m (name_alone n ns) + times_in m (less_name n ns) ≡ times_in m ns
alone_less m n [] = refl
alone_less m n (k ∷ ns) = on (same_name n k) (alone_less m n ns)
  where
    on : (t : Bool) → times_in m (name_alone n ns) + times_in m (less_name n ns) ≡ times_in m ns
        → times_in m (if t then k ∷ [] else name_alone n ns) + times_in m (if t then ns else k ∷ less_name n ns) ≡ one_if (same_name m k) + times_in m ns
    on true e = omega arith
    on false e = omega arith

-- each alternative is kept or goes
pub parted : (o : Operator) (n m : Name) (ns : List Name) → times_in m (names_kept o n ns) + times_in m (names_cut o n ns) ≡ times_in m ns
parted Operator.condition n m ns = up_to_after m n ns
parted Operator.commit n m ns = alone_less m n ns
parted Operator.nondeterminate n m ns = omega arith
parted (Operator.collecting r) n m ns = omega arith

pub cut_named : (o : Operator) (n m : Name) (ns : List Name) → IsIn m (names_cut o n ns) → IsIn m ns
cut_named o n m ns i = named_counted m ns (let a : 1 ≤ times_in m (names_cut o n ns) = counted_in m (names_cut o n ns) i in let e : times_in m (names_kept o n ns) + times_in m (names_cut o n ns) ≡ times_in m ns = parted o n m ns in omega arith)

pub kept_apart : (o : Operator) (n m : Name) (ns : List Name) → times_in m ns ≤ 1 → IsIn m (names_kept o n ns) → IsIn m (names_cut o n ns) → ⊥
kept_apart o n m ns once i j =
    let a : 1 ≤ times_in m (names_kept o n ns) = counted_in m (names_kept o n ns) i in
    let b : 1 ≤ times_in m (names_cut o n ns) = counted_in m (names_cut o n ns) j in
    let e : times_in m (names_kept o n ns) + times_in m (names_cut o n ns) ≡ times_in m ns = parted o n m ns in
    absurd (omega arith)

up_to_itself : (n : Name) (ns : List Name) → IsIn n ns → IsIn n (names_up_to n ns)
up_to_itself n [] i = i
up_to_itself n (k ∷ ns) i = on (same_name n k) refl i (up_to_itself n ns)
  where
    on : (t : Bool) → same_name n k ≡ t → IsIn n (k ∷ ns) → (IsIn n ns → IsIn n (names_up_to n ns)) → IsIn n (if t then k ∷ [] else k ∷ names_up_to n ns)
    on true r j f = inl (same_name-equal n k r)
    on false r (inl e) f = inl e
    on false r (inr j) f = inr (f j)

alone_itself : (n : Name) (ns : List Name) → IsIn n ns → IsIn n (name_alone n ns)
alone_itself n [] i = i
alone_itself n (k ∷ ns) i = on (same_name n k) refl i (alone_itself n ns)
  where
    on : (t : Bool) → same_name n k ≡ t → IsIn n (k ∷ ns) → (IsIn n ns → IsIn n (name_alone n ns)) → IsIn n (if t then k ∷ [] else name_alone n ns)
    on true r j f = inl (same_name-equal n k r)
    on false r (inl e) f = absurd (other_name n k r e)
    on false r (inr j) f = f j

-- the solved one is kept
kept_itself : (o : Operator) (n : Name) (ns : List Name) → IsIn n ns → IsIn n (names_kept o n ns)
kept_itself Operator.condition n ns i = up_to_itself n ns i
kept_itself Operator.commit n ns i = alone_itself n ns i
kept_itself Operator.nondeterminate n ns i = i
kept_itself (Operator.collecting r) n ns i = i

-- by boxes

up_to_names : (n : Name) (bs : Boxes) → box_names (up_to n bs) ≡ names_up_to n (box_names bs)
up_to_names n no_boxes = refl
up_to_names n (box b gs bs) = on (same_name n b.name) (up_to_names n bs)
  where
    on : (t : Bool) → box_names (up_to n bs) ≡ names_up_to n (box_names bs)
        → box_names (if t then box b gs no_boxes else box b gs (up_to n bs)) ≡ (if t then b.name ∷ [] else b.name ∷ names_up_to n (box_names bs))
    on true e = refl
    on false e = ap (λ (ns : List Name). b.name ∷ ns) e

alone_names : (n : Name) (bs : Boxes) → box_names (alone n bs) ≡ name_alone n (box_names bs)
alone_names n no_boxes = refl
alone_names n (box b gs bs) = on (same_name n b.name) (alone_names n bs)
  where
    on : (t : Bool) → box_names (alone n bs) ≡ name_alone n (box_names bs)
        → box_names (if t then box b gs no_boxes else alone n bs) ≡ (if t then b.name ∷ [] else name_alone n (box_names bs))
    on true e = refl
    on false e = e

pub kept_names : (o : Operator) (n : Name) (bs : Boxes) → box_names (kept_by o n bs) ≡ names_kept o n (box_names bs)
kept_names Operator.condition n bs = up_to_names n bs
kept_names Operator.commit n bs = alone_names n bs
kept_names Operator.nondeterminate n bs = refl
kept_names (Operator.collecting r) n bs = refl

-- the names down to a box in goals
abbrev pub down_to : List Content → Content → List Name
down_to r k = map (λ (b : Content). b.name) r ++ k.name ∷ []

-- one of these names is that of a box or of one around it
abbrev pub IsUnderOne : List Name → List Content → Content → Type 0
IsUnderOne ns r k = (m : Name) × IsIn m ns × IsIn m (down_to r k)

pub at_name : (r : List Content) (k b : Content) → k ≡ b → IsIn b.name (down_to r k)
at_name r k b e = IsIn-right b.name (map (λ (c : Content). c.name) r) (k.name ∷ []) (inl (ap (λ (c : Content). c.name) (sym e)))

pub below_name : (r rest : List Content) (k b : Content) → r ≡ b ∷ rest → IsIn b.name (down_to r k)
below_name r rest k b e = subst (λ (q : List Content). IsIn b.name (down_to q k)) (sym e) (inl refl)

under_first : (r : List Content) (k : Content) (hs : Goals) (bs : Boxes) → BoxIn r k hs bs → IsUnderOne (box_names bs) r k
under_first r k hs no_boxes x = absurd x
under_first r k hs (box b gs bs) (inl e) = (b.name, inl refl, at_name r k b e.1)
under_first r k hs (box b gs bs) (inr (inl w)) = (b.name, inl refl, below_name r w.0 k b w.1)
under_first r k hs (box b gs bs) (inr (inr x)) = let w : IsUnderOne (box_names bs) r k = under_first r k hs bs x in (w.0, inr w.1, w.2)

up_to_or : (n : Name) (r : List Content) (k : Content) (hs : Goals) (bs : Boxes) → BoxIn r k hs bs → BoxIn r k hs (up_to n bs) ⊎ IsUnderOne (names_after n (box_names bs)) r k
up_to_or n r k hs no_boxes x = absurd x
up_to_or n r k hs (box b gs bs) x = on (same_name n b.name) x (up_to_or n r k hs bs)
  where
    on : (t : Bool) → BoxIn r k hs (box b gs bs) → (BoxIn r k hs bs → BoxIn r k hs (up_to n bs) ⊎ IsUnderOne (names_after n (box_names bs)) r k)
        → BoxIn r k hs (if t then box b gs no_boxes else box b gs (up_to n bs)) ⊎ IsUnderOne (if t then box_names bs else names_after n (box_names bs)) r k
    on true (inl e) f = inl (inl e)
    on true (inr (inl w)) f = inl (inr (inl w))
    on true (inr (inr y)) f = inr (under_first r k hs bs y)
    on false (inl e) f = inl (inl e)
    on false (inr (inl w)) f = inl (inr (inl w))
    on false (inr (inr y)) f = elim (f y) [ inl z ↦ inl (inr (inr z)) | inr z ↦ inr z ]

alone_or : (n : Name) (r : List Content) (k : Content) (hs : Goals) (bs : Boxes) → BoxIn r k hs bs → BoxIn r k hs (alone n bs) ⊎ IsUnderOne (less_name n (box_names bs)) r k
alone_or n r k hs no_boxes x = absurd x
alone_or n r k hs (box b gs bs) x = on (same_name n b.name) x (alone_or n r k hs bs)
  where
    on : (t : Bool) → BoxIn r k hs (box b gs bs) → (BoxIn r k hs bs → BoxIn r k hs (alone n bs) ⊎ IsUnderOne (less_name n (box_names bs)) r k)
        → BoxIn r k hs (if t then box b gs no_boxes else alone n bs) ⊎ IsUnderOne (if t then box_names bs else b.name ∷ less_name n (box_names bs)) r k
    on true (inl e) f = inl (inl e)
    on true (inr (inl w)) f = inl (inr (inl w))
    on true (inr (inr y)) f = inr (under_first r k hs bs y)
    on false (inl e) f = inr (b.name, inl refl, at_name r k b e.1)
    on false (inr (inl w)) f = inr (b.name, inl refl, below_name r w.0 k b w.1)
    on false (inr (inr y)) f = elim (f y) [ inl z ↦ inl z | inr z ↦ inr (z.0, inr z.1, z.2) ]

kept_or : (o : Operator) (n : Name) (r : List Content) (k : Content) (hs : Goals) (bs : Boxes) → BoxIn r k hs bs → BoxIn r k hs (kept_by o n bs) ⊎ IsUnderOne (names_cut o n (box_names bs)) r k
kept_or Operator.condition n r k hs bs x = up_to_or n r k hs bs x
kept_or Operator.commit n r k hs bs x = alone_or n r k hs bs x
kept_or Operator.nondeterminate n r k hs bs x = inl x
kept_or (Operator.collecting t) n r k hs bs x = inl x

-- what stands in goals does so where a choice keeps some alternatives, or is in one that goes
pub kept_inside : (g : Name) (v o : Operator) (n : Name) (bs : Boxes) (r : List Content) (k : Content) (hs gs : Goals) → held_in g gs ≡ Some (a_choice v bs) → InGoals r k hs gs
    → InGoals r k hs (with_content g (a_choice v (kept_by o n bs)) gs) ⊎ IsUnderOne (names_cut o n (box_names bs)) r k
kept_inside g v o n bs r k hs no_goals e x = absurd x
kept_inside g v o n bs r k hs (atom i a gs) e x = on (same_name g i) e (λ q. kept_inside g v o n bs r k hs gs q x)
  where
    on : (t : Bool) → (if t then Some (an_atom a) else held_in g gs) ≡ Some (a_choice v bs)
        → (held_in g gs ≡ Some (a_choice v bs) → InGoals r k hs (with_content g (a_choice v (kept_by o n bs)) gs) ⊎ IsUnderOne (names_cut o n (box_names bs)) r k)
        → InGoals r k hs (if t then choice g v (kept_by o n bs) gs else atom i a (with_content g (a_choice v (kept_by o n bs)) gs)) ⊎ IsUnderOne (names_cut o n (box_names bs)) r k
    on true q f = cc
    on false q f = f q
kept_inside g v o n bs r k hs (choice i p cs gs) e x = on (same_name g i) e x (λ q y. kept_inside g v o n bs r k hs gs q y)
  where
    on : (t : Bool) → (if t then Some (a_choice p cs) else held_in g gs) ≡ Some (a_choice v bs) → BoxIn r k hs cs ⊎ InGoals r k hs gs
        → (held_in g gs ≡ Some (a_choice v bs) → InGoals r k hs gs → InGoals r k hs (with_content g (a_choice v (kept_by o n bs)) gs) ⊎ IsUnderOne (names_cut o n (box_names bs)) r k)
        → InGoals r k hs (if t then choice g v (kept_by o n bs) gs else choice i p cs (with_content g (a_choice v (kept_by o n bs)) gs)) ⊎ IsUnderOne (names_cut o n (box_names bs)) r k
    on true q (inl y) f = let z : cs ≡ bs = cc in elim (kept_or o n r k hs bs (subst (BoxIn r k hs) z y)) [ inl u ↦ inl (inl u) | inr u ↦ inr u ]
    on true q (inr y) f = inl (inr y)
    on false q (inl y) f = inl (inl y)
    on false q (inr y) f = elim (f q y) [ inl u ↦ inl (inr u) | inr u ↦ inr u ]

-- a choice with an alternative doesn't make its box fail
not_failing : (n : Name) (o : Operator) (bs : Boxes) → IsIn n (box_names bs) → IsFailing (a_choice o bs) → ⊥
not_failing n o no_boxes i x = i
not_failing n o (box b gs bs) i x = x

-- so what fails the box does so still
pub kept_fails : (g : Name) (v o : Operator) (n : Name) (bs : Boxes) (gs hs : Goals) (w : Option Name) → ((i : Name) → times_inside i hs ≤ 1) → IsIn n (box_names bs) → held_in g gs ≡ Some (a_choice v bs)
    → held_in g hs ≡ Some (a_choice v (kept_by o n bs)) → ((i : Name) → same_name i g ≡ false → held_in i hs ≡ held_in i gs) → FailsBy gs w → FailsBy hs w
kept_fails g v o n bs gs hs w once named was held others fails = by w fails
  where
    name_is : (i : Name) → (i ≡ g) ⊎ (same_name i g ≡ false)
    name_is i = on (same_name i g) refl
      where
        on : (t : Bool) → same_name i g ≡ t → (i ≡ g) ⊎ (same_name i g ≡ false)
        on true e = inl (same_name-equal i g e)
        on false e = inr e

    kept : IsIn n (box_names (kept_by o n bs))
    kept = subst (IsIn n) (sym (kept_names o n bs)) (kept_itself o n (box_names bs) named)

    by : (x : Option Name) → FailsBy gs x → FailsBy hs x
    by None none = λ x.
        let u : (i : Name) × (h : Held) × (held_in i hs ≡ Some h) × IsFailing h = failed_goal hs once x in
        elim (name_is u.0) [
          | inl e ↦
              let h : u.1 ≡ a_choice v (kept_by o n bs) = some_value (sym u.2 ∙ ap (λ (i : Name). held_in i hs) e ∙ held) in
              not_failing n v (kept_by o n bs) kept (subst IsFailing h u.3)
          | inr e ↦ none (failing_found u.0 gs u.1 (sym (others u.0 e) ∙ u.2) u.3)
        ]
    by (Some i) (h, e, x) = elim (name_is i) [
      | inl q ↦
          let z : h ≡ a_choice v bs = some_value (sym e ∙ ap (λ (j : Name). held_in j gs) q ∙ was) in
          absurd (not_failing n v bs named (subst IsFailing z x))
      | inr q ↦ (h, others i q ∙ e, x)
    ]
