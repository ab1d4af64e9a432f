-- A box without a solved alternative of a choice in it: the boxes that are found there are those of the box but this one.
use Rattle.std.proofs.Common.{◌≡◌, ◌+◌, ◌≤◌, List, [], ◌∷◌, ◌++◌, length, map, Bool, true, false, Some, None, refl, sym, ◌∙◌, ap, subst, ◌⊎◌, inl, inr, arith, append-nil}
use Rattle.std.proofs.lemmas.List.{length-append}
use Rattle.std.specs.Prelude.{if◌then◌else◌, ⊤}
use Rattle.akl_terms.specs.declared.name.Name.{Name}
use Rattle.akl_model.specs.Config.{Operator}
use Rattle.akl_terms.specs.Names.{same_name}
use Rattle.akl_terms.proofs.SameNames.{same_name-equal, same_name-refl}
use Rattle.akl_model.specs.Config.{IsIn, Content, Boxes, no_boxes, box, Goals, no_goals, atom, choice, Config, Held, an_atom, a_choice, held_in, with_content, Found, box_at, home_of}
use Rattle.akl_model.specs.Rules.{others}
use Rattle.akl_model.specs.Stable.{first_solved}
use Rattle.akl_model.specs.Names.{one_if}
use Rattle.akl_model.specs.Changes.{box_names, goal_names}
use Rattle.akl_model.specs.Wakes.{names_around, names_down_to, holder_in}
use Rattle.akl_model.proofs.Options.{none_where, some_value}
use Rattle.akl_model.proofs.Finds.{times, times_of, times_inside, box_at-none}
use Rattle.akl_model.proofs.Drawn.{times-with_content}
use Rattle.akl_model.proofs.NamesKept.{Stand, box-itself, home-box}
use Rattle.akl_model.proofs.Scoped.{IsIn-left, IsIn-right, IsIn-either}
use Rattle.akl_model.proofs.ScopesAlong.{only_once}
use Rattle.step_laws.specs.Whereabouts.{BoxIn, InGoals, Stands}
use Rattle.step_laws.specs.Holders.{IsHeldBy}
use Rattle.step_laws.proofs.Whereabouts.{found_in, held_counted, held_none}
use Rattle.step_laws.proofs.Deeper.{Over, over, in_path, in_deeper, one_box, named_found, home_found}
use Rattle.step_laws.proofs.GoalEdits.{held_inside, with_content_in, with_content_here, with_content_other}
use Rattle.step_laws.proofs.Holders.{alternative_at, held_or, root_box, choice_less}
use Rattle.table_laws.specs.Writes.{less_name}
use Rattle.table_laws.proofs.Sets.{other_name}
use Rattle.table_laws.proofs.Kept.{down_to, at_name, below_name}
use Rattle.table_laws.proofs.Frame.{names_join}
use Rattle.table_laws.proofs.Gone.{goals_once}
use Rattle.table_laws.proofs.Unfailing.{others_in}

-- the alternatives but one

pub others_names : (a : Name) (bs : Boxes) → box_names (others a bs) ≡ less_name a (box_names bs)
others_names a no_boxes = refl
others_names a (box b gs bs) = on (same_name a b.name) (others_names a bs)
  where
    on : (t : Bool) → box_names (others a bs) ≡ less_name a (box_names bs) → box_names (if t then bs else box b gs (others a bs)) ≡ (if t then box_names bs else b.name ∷ less_name a (box_names bs))
    on true e = refl
    on false e = ap (λ (ns : List Name). b.name ∷ ns) e

pub less_among : (a m : Name) (ns : List Name) → IsIn m (less_name a ns) → IsIn m ns
less_among a m [] i = i
less_among a m (n ∷ ns) i = on (same_name a n) i (less_among a m ns)
  where
    on : (t : Bool) → IsIn m (if t then ns else n ∷ less_name a ns) → (IsIn m (less_name a ns) → IsIn m ns) → IsIn m (n ∷ ns)
    on true j f = inr j
    on false (inl e) f = inl e
    on false (inr j) f = inr (f j)

pub others_none : (a : Name) (bs : Boxes) → (IsIn a (box_names bs) → ⊥) → others a bs ≡ bs
others_none a no_boxes h = refl
others_none a (box b gs bs) h = on (same_name a b.name) refl (others_none a bs (λ i. h (inr i)))
  where
    on : (t : Bool) → same_name a b.name ≡ t → others a bs ≡ bs → (if t then bs else box b gs (others a bs)) ≡ box b gs bs
    on true e r = absurd (h (inl (same_name-equal a b.name e)))
    on false e r = ap (box b gs) r

others_fewer : (a : Name) (bs : Boxes) → IsIn a (box_names bs) → times a (others a bs) + 1 ≤ times a bs
others_fewer a no_boxes i = absurd i
others_fewer a (box b gs bs) i = on (same_name a b.name) refl i (λ j. others_fewer a bs j)
  where
    on : (t : Bool) → same_name a b.name ≡ t → IsIn a (b.name ∷ box_names bs) → (IsIn a (box_names bs) → times a (others a bs) + 1 ≤ times a bs) → times a (if t then bs else box b gs (others a bs)) + 1 ≤ times a (box b gs bs)
    on true e j f = let u : one_if (same_name a b.name) ≡ 1 = ap one_if e in omega arith
    on false e (inl q) f = absurd (other_name a b.name e q)
    on false e (inr j) f = let r : times a (others a bs) + 1 ≤ times a bs = f j in omega arith

-- what stands in alternatives stands in the others, or in the one
others_or : (a : Name) (r : List Content) (k : Content) (hs : Goals) (bs : Boxes) → BoxIn r k hs bs → BoxIn r k hs (others a bs) ⊎ IsIn a (down_to r k)
others_or a r k hs no_boxes x = absurd x
others_or a r k hs (box b gs bs) x = on (same_name a b.name) refl x (others_or a r k hs bs)
  where
    on : (t : Bool) → same_name a b.name ≡ t → BoxIn r k hs (box b gs bs) → (BoxIn r k hs bs → BoxIn r k hs (others a bs) ⊎ IsIn a (down_to r k)) → BoxIn r k hs (if t then bs else box b gs (others a bs)) ⊎ IsIn a (down_to r k)
    on true q (inl e) f = inr (subst (λ (n : Name). IsIn n (down_to r k)) (sym (same_name-equal a b.name q)) (at_name r k b e.1))
    on true q (inr (inl w)) f = inr (subst (λ (n : Name). IsIn n (down_to r k)) (sym (same_name-equal a b.name q)) (below_name r w.0 k b w.1))
    on true q (inr (inr y)) f = inl y
    on false q (inl e) f = inl (inl e)
    on false q (inr (inl w)) f = inl (inr (inl w))
    on false q (inr (inr y)) f = elim (f y) [ inl z ↦ inl (inr (inr z)) | inr z ↦ inr z ]

others_inside : (g a : Name) (o : Operator) (bs : Boxes) (r : List Content) (k : Content) (hs gs : Goals) → held_in g gs ≡ Some (a_choice o bs) → InGoals r k hs gs
    → InGoals r k hs (with_content g (a_choice o (others a bs)) gs) ⊎ IsIn a (down_to r k)
others_inside g a o bs r k hs no_goals e x = absurd x
others_inside g a o bs r k hs (atom i b gs) e x = on (same_name g i) e (λ q. others_inside g a o bs r k hs gs q x)
  where
    on : (t : Bool) → (if t then Some (an_atom b) else held_in g gs) ≡ Some (a_choice o bs)
        → (held_in g gs ≡ Some (a_choice o bs) → InGoals r k hs (with_content g (a_choice o (others a bs)) gs) ⊎ IsIn a (down_to r k))
        → InGoals r k hs (if t then choice g o (others a bs) gs else atom i b (with_content g (a_choice o (others a bs)) gs)) ⊎ IsIn a (down_to r k)
    on true q f = cc
    on false q f = f q
others_inside g a o bs r k hs (choice i p cs gs) e x = on (same_name g i) e x (λ q y. others_inside g a o bs r k hs gs q y)
  where
    on : (t : Bool) → (if t then Some (a_choice p cs) else held_in g gs) ≡ Some (a_choice o bs) → BoxIn r k hs cs ⊎ InGoals r k hs gs
        → (held_in g gs ≡ Some (a_choice o bs) → InGoals r k hs gs → InGoals r k hs (with_content g (a_choice o (others a bs)) gs) ⊎ IsIn a (down_to r k))
        → InGoals r k hs (if t then choice g o (others a bs) gs else choice i p cs (with_content g (a_choice o (others a bs)) gs)) ⊎ IsIn a (down_to r k)
    on true q (inl y) f = let z : cs ≡ bs = cc in elim (others_or a r k hs bs (subst (BoxIn r k hs) z y)) [ inl u ↦ inl (inl u) | inr u ↦ inr u ]
    on true q (inr y) f = inl (inr y)
    on false q (inl y) f = inl (inl y)
    on false q (inr y) f = elim (f q y) [ inl u ↦ inl (inr u) | inr u ↦ inr u ]

-- the first solved one has no goals
first_in : (a : Name) (bs : Boxes) → first_solved bs ≡ Some a → (k : Content) × (a ≡ k.name) × BoxIn [] k no_goals bs
first_in a no_boxes e = cc
first_in a (box b no_goals bs) e = (b, sym (some_value e), inl (refl, refl, refl))
first_in a (box b (atom g x gs) bs) e = let w : (k : Content) × (a ≡ k.name) × BoxIn [] k no_goals bs = first_in a bs e in (w.0, w.1, inr (inr w.2))
first_in a (box b (choice g o cs gs) bs) e = let w : (k : Content) × (a ≡ k.name) × BoxIn [] k no_goals bs = first_in a bs e in (w.0, w.1, inr (inr w.2))

pub first_named : (a : Name) (bs : Boxes) → first_solved bs ≡ Some a → IsIn a (box_names bs)
first_named a no_boxes e = cc
first_named a (box b no_goals bs) e = inl (sym (some_value e))
first_named a (box b (atom g x gs) bs) e = inr (first_named a bs e)
first_named a (box b (choice g o cs gs) bs) e = inr (first_named a bs e)

-- a fact of each goal directly in a box

abbrev pub EachGoal : (Name → Held → Type 0) → Goals → Type 0
EachGoal P no_goals = ⊤
EachGoal P (atom g a gs) = P g (an_atom a) × EachGoal P gs
EachGoal P (choice g o bs gs) = P g (a_choice o bs) × EachGoal P gs

pub each_goal : (P : Name → Held → Type 0) (gs : Goals) → ((m : Name) → times_inside m gs ≤ 1) → ((g : Name) (h : Held) → held_in g gs ≡ Some h → P g h) → EachGoal P gs
each_goal P no_goals once f = tt
each_goal P (atom i a gs) once f = (
  f i (an_atom a) (ap (λ (t : Bool). if t then Some (an_atom a) else held_in i gs) (same_name-refl i)),
  each_goal P gs (λ m. let o : one_if (same_name m i) + times_inside m gs ≤ 1 = once m in omega arith) (λ g h e. f g h (past g h (same_name g i) refl e)),
)
  where
    past : (g : Name) (h : Held) (t : Bool) → same_name g i ≡ t → held_in g gs ≡ Some h → (if t then Some (an_atom a) else held_in g gs) ≡ Some h
    past g h true q e =
        let u : one_if (same_name g i) ≡ 1 = ap one_if q in
        let v : 1 ≤ times_inside g gs = held_counted g h gs e in
        let o : one_if (same_name g i) + times_inside g gs ≤ 1 = once g in
        absurd (omega arith)
    past g h false q e = e
each_goal P (choice i o bs gs) once f = (
  f i (a_choice o bs) (ap (λ (t : Bool). if t then Some (a_choice o bs) else held_in i gs) (same_name-refl i)),
  each_goal P gs (λ m. let w : one_if (same_name m i) + (times m bs + times_inside m gs) ≤ 1 = once m in omega arith) (λ g h e. f g h (past g h (same_name g i) refl e)),
)
  where
    past : (g : Name) (h : Held) (t : Bool) → same_name g i ≡ t → held_in g gs ≡ Some h → (if t then Some (a_choice o bs) else held_in g gs) ≡ Some h
    past g h true q e =
        let u : one_if (same_name g i) ≡ 1 = ap one_if q in
        let v : 1 ≤ times_inside g gs = held_counted g h gs e in
        let w : one_if (same_name g i) + (times g bs + times_inside g gs) ≤ 1 = once g in
        absurd (omega arith)
    past g h false q e = e

-- goals without an alternative
abbrev pub less_goals : Name → Goals → Goals
less_goals a no_goals = no_goals
less_goals a (atom i x gs) = atom i x (less_goals a gs)
less_goals a (choice i p cs gs) = choice i p (others a cs) (less_goals a gs)

pub less_goal_names : (a : Name) (gs : Goals) → goal_names (less_goals a gs) ≡ goal_names gs
less_goal_names a no_goals = refl
less_goal_names a (atom i x gs) = ap (λ (ns : List Name). i ∷ ns) (less_goal_names a gs)
less_goal_names a (choice i p cs gs) = ap (λ (ns : List Name). i ∷ ns) (less_goal_names a gs)

module _ (c : Config) (s : Stand c) (f : Found) (there : box_at f.content.name c.roots ≡ Some f) (g a : Name) (o : Operator) (bs : Boxes) (held : held_in g f.goals ≡ Some (a_choice o bs)) (first : first_solved bs ≡ Some a)
    (few : (m : Name) → times m (box f.content (with_content g (a_choice o (others a bs)) f.goals) no_boxes) ≤ 1) where
  abbrev rest : Boxes
  rest = box f.content (with_content g (a_choice o (others a bs)) f.goals) no_boxes

  named : IsIn a (box_names bs)
  named = first_named a bs first

  stands : Stands f c.roots
  stands = found_in f.content.name c.roots f there

  home : home_of g c.roots ≡ Some f
  home = home_found c.roots s.once g f.content.name f (a_choice o bs) there held

  a_holder : holder_in a c.roots ≡ Some g
  a_holder = (alternative_at c.roots s.once a g f o bs home held named).holder

  -- the alternative isn't there
  pub no_alternative : box_at a rest ≡ None
  no_alternative = box_at-none a rest (
      let w : times_inside a (with_content g (a_choice o (others a bs)) f.goals) + times a bs ≡ times_inside a f.goals + times a (others a bs) = times-with_content a g (a_choice o (others a bs)) (a_choice o bs) f.goals held in
      let x : times a (others a bs) + 1 ≤ times a bs = others_fewer a bs named in
      let y : times a bs ≤ times_inside a f.goals = choice_less a g o bs f.goals held in
      let z : times_of a f.content + (times_inside a f.goals + 0) ≤ 1 = only_once c.roots s.once f.content.name f there a in
      omega (arith, w, x, y, z))

  -- a box that is found there, as it is found in the configuration
  pub record IsWithin (e : Found) : Type 0 where
    pub whole_box : Found
    pub is_found : box_at e.content.name c.roots ≡ Some whole_box
    pub path : whole_box.around ≡ f.around ++ e.around
    pub content : whole_box.content ≡ e.content
    pub goals : ((whole_box.goals ≡ e.goals) × (held_in g whole_box.goals ≡ None)) ⊎ ((whole_box ≡ f) × (e.goals ≡ with_content g (a_choice o (others a bs)) f.goals))
    pub down : IsIn f.content.name (names_down_to whole_box)

  pub stands_within : (e : Found) → box_at e.content.name rest ≡ Some e → IsWithin e
  stands_within e i = on (found_in e.content.name rest e i)
    where
      longer : (q : List Content) → record { around = f.around ++ f.content ∷ q; content = e.content; goals = e.goals } ≡ f → ⊥
      longer q z =
          let l : length (f.around ++ f.content ∷ q) ≡ length f.around = ap (λ (k : Found). length k.around) z in
          let m : length (f.around ++ f.content ∷ q) ≡ length f.around + length (f.content ∷ q) = length-append f.around (f.content ∷ q) in
          omega arith

      deeper : (q : List Content) → e.around ≡ f.content ∷ q → InGoals q e.content e.goals f.goals → IsWithin e
      deeper q p x = record {
        whole_box = below;
        is_found = found;
        path = ap (λ (k : List Content). f.around ++ k) (sym p);
        content = refl;
        goals = inl (refl, none_where (held_in g e.goals) (λ h z. longer q (some_value (sym (home_found c.roots s.once g e.content.name below h found z) ∙ home))));
        down = IsIn-left f.content.name (map (λ (b : Content). b.name) (f.around ++ f.content ∷ q)) (e.content.name ∷ []) (in_path f.around f.content q);
      }
        where
          below : Found
          below = record { around = f.around ++ f.content ∷ q; content = e.content; goals = e.goals }

          found : box_at e.content.name c.roots ≡ Some (record { around = f.around ++ f.content ∷ q; content = e.content; goals = e.goals })
          found = named_found c.roots s.once e.content.name (record { around = f.around ++ f.content ∷ q; content = e.content; goals = e.goals }) (in_deeper f.around f.content f.goals q e.content e.goals c.roots stands x) refl

      on : BoxIn e.around e.content e.goals rest → IsWithin e
      on (inl x) = record {
        whole_box = f;
        is_found = ap (λ (b : Content). box_at b.name c.roots) x.1 ∙ there;
        path = sym (append-nil f.around) ∙ ap (λ (k : List Content). f.around ++ k) (sym x.0);
        content = sym x.1;
        goals = inr (refl, x.2);
        down = IsIn-right f.content.name (names_around f) (f.content.name ∷ []) (inl refl);
      }
      on (inr (inl x)) = elim (with_content_in g (a_choice o (others a bs)) x.0 e.content e.goals f.goals x.2) [
        | inl y ↦ deeper x.0 x.1 (held_inside g o bs x.0 e.content e.goals f.goals held (others_in a x.0 e.content e.goals bs y))
        | inr y ↦ deeper x.0 x.1 y
      ]
      on (inr (inr x)) = absurd x

  -- and each box in the box is found there, but for the alternative
  pub found_there : (m : Name) (e : Found) → box_at m c.roots ≡ Some e → IsIn f.content.name (names_down_to e) → (m ≡ a → ⊥) → (k : Found) × (box_at m rest ≡ Some k)
  found_there m e i down apart = on (IsIn-either f.content.name (names_around e) (e.content.name ∷ []) down)
    where
      its_name : m ≡ e.content.name
      its_name = box-itself m c.roots e i

      itself : f.content.name ≡ e.content.name → (k : Found) × (box_at m rest ≡ Some k)
      itself q = (
        record { around = []; content = f.content; goals = with_content g (a_choice o (others a bs)) f.goals },
        named_found rest few m (record { around = []; content = f.content; goals = with_content g (a_choice o (others a bs)) f.goals }) (inl (refl, refl, refl)) (its_name ∙ sym q),
      )

      deeper : Over f.content.name e c.roots → (k : Found) × (box_at m rest ≡ Some k)
      deeper v = by (others_inside g a o bs v.rest e.content e.goals f.goals held (subst (λ (k : Found). InGoals v.rest e.content e.goals k.goals) outer v.inside))
        where
          outer : v.outer ≡ f
          outer = one_box c.roots s.once v.outer f v.stands stands (sym v.named)

          path : e.around ≡ f.around ++ f.content ∷ v.rest
          path = v.path ∙ ap (λ (k : Found). k.around ++ k.content ∷ v.rest) outer

          -- nothing stands in the alternative
          above : IsIn a (names_around e) → ⊥
          above j =
              let w : Over a e c.roots = over a e c.roots (found_in m c.roots e i) j in
              let k : (k : Content) × (a ≡ k.name) × BoxIn [] k no_goals bs = first_in a bs first in
              let x : Stands (record { around = f.around ++ f.content ∷ []; content = k.0; goals = no_goals }) c.roots =
              in_deeper f.around f.content f.goals [] k.0 no_goals c.roots stands (held_inside g o bs [] k.0 no_goals f.goals held k.2) in
              let q : w.outer ≡ record { around = f.around ++ f.content ∷ []; content = k.0; goals = no_goals } =
              one_box c.roots s.once w.outer (record { around = f.around ++ f.content ∷ []; content = k.0; goals = no_goals }) w.stands x (sym w.named ∙ k.1) in
              subst (λ (z : Found). InGoals w.rest e.content e.goals z.goals) q w.inside

          by : InGoals v.rest e.content e.goals (with_content g (a_choice o (others a bs)) f.goals) ⊎ IsIn a (down_to v.rest e.content) → (k : Found) × (box_at m rest ≡ Some k)
          by (inl x) = (
            record { around = f.content ∷ v.rest; content = e.content; goals = e.goals },
            named_found rest few m (record { around = f.content ∷ v.rest; content = e.content; goals = e.goals }) (inr (inl (v.rest, refl, x))) its_name,
          )
          by (inr x) = absurd (elim (IsIn-either a (map (λ (b : Content). b.name) v.rest) (e.content.name ∷ []) x) [
            | inl j ↦ above (subst (λ (q : List Content). IsIn a (map (λ (b : Content). b.name) q)) (sym path)
                (subst (IsIn a) (sym (names_join f.around (f.content ∷ v.rest))) (IsIn-right a (names_around f) (f.content.name ∷ map (λ (b : Content). b.name) v.rest) (inr j))))
            | inr j ↦ elim j [ inl q ↦ apart (its_name ∙ sym q) | inr z ↦ z ]
          ])

      on : IsIn f.content.name (names_around e) ⊎ IsIn f.content.name (e.content.name ∷ []) → (k : Found) × (box_at m rest ≡ Some k)
      on (inl j) = deeper (over f.content.name e c.roots (found_in m c.roots e i) j)
      on (inr (inl q)) = itself q
      on (inr (inr z)) = absurd z

  -- the choice that holds one: none holds the box itself there
  pub rest_holder : (e : Found) → box_at e.content.name rest ≡ Some e → holder_in e.content.name rest ≡ (if same_name e.content.name f.content.name then None else holder_in e.content.name c.roots)
  rest_holder e i = on (held_or rest few e.content.name e i)
    where
      root : holder_in f.content.name rest ≡ None
      root = (root_box rest few f.content.name (inl refl)).holder

      there_too : (k : Name) (h : IsHeldBy e.content.name k e rest) → IsWithin h.home → holder_in e.content.name c.roots ≡ Some k
      there_too k h w = by w.goals
        where
          at : (z : Held) → held_in k w.whole_box.goals ≡ Some z → home_of k c.roots ≡ Some w.whole_box
          at z q = home_found c.roots s.once k h.home.content.name w.whole_box z w.is_found q

          by : ((w.whole_box.goals ≡ h.home.goals) × (held_in g w.whole_box.goals ≡ None)) ⊎ ((w.whole_box ≡ f) × (h.home.goals ≡ with_content g (a_choice o (others a bs)) f.goals)) → holder_in e.content.name c.roots ≡ Some k
          by (inl q) =
              let z : held_in k w.whole_box.goals ≡ Some (a_choice h.op h.alternatives) = ap (held_in k) q.0 ∙ h.held in
              (alternative_at c.roots s.once e.content.name k w.whole_box h.op h.alternatives (at (a_choice h.op h.alternatives) z) z h.among).holder
          by (inr (q, r)) = pick (same_name k g) refl
            where
              now : held_in k (with_content g (a_choice o (others a bs)) f.goals) ≡ Some (a_choice h.op h.alternatives)
              now = ap (held_in k) (sym r) ∙ h.held

              pick : (t : Bool) → same_name k g ≡ t → holder_in e.content.name c.roots ≡ Some k
              pick true z =
                  let p : k ≡ g = same_name-equal k g z in
                  let y : a_choice h.op h.alternatives ≡ a_choice o (others a bs) =
                  some_value (sym now ∙ ap (λ (n : Name). held_in n (with_content g (a_choice o (others a bs)) f.goals)) p ∙ with_content_here g (a_choice o (others a bs)) (a_choice o bs) f.goals held) in
                  let v : h.alternatives ≡ others a bs = cc in
                  let j : IsIn e.content.name (box_names bs) = less_among a e.content.name (box_names bs) (subst (IsIn e.content.name) (ap box_names v ∙ others_names a bs) h.among) in
                  (alternative_at c.roots s.once e.content.name g f o bs home held j).holder ∙ ap Some (sym p)
              pick false z =
                  let y : held_in k f.goals ≡ Some (a_choice h.op h.alternatives) = sym (with_content_other g k (a_choice o (others a bs)) f.goals z) ∙ now in
                  let x : home_of k c.roots ≡ Some f = home_found c.roots s.once k f.content.name f (a_choice h.op h.alternatives) there y in
                  (alternative_at c.roots s.once e.content.name k f h.op h.alternatives x y h.among).holder

      name_of : (t : Bool) → same_name e.content.name f.content.name ≡ t → holder_in e.content.name rest ≡ holder_in e.content.name c.roots ⊎ (e.content.name ≡ f.content.name)
          → holder_in e.content.name rest ≡ (if t then None else holder_in e.content.name c.roots)
      name_of true q x = ap (λ (n : Name). holder_in n rest) (same_name-equal e.content.name f.content.name q) ∙ root
      name_of false q (inl x) = x
      name_of false q (inr x) = absurd (other_name e.content.name f.content.name q x)

      on : ((e.around ≡ []) × (holder_in e.content.name rest ≡ None)) ⊎ ((k : Name) × (holder_in e.content.name rest ≡ Some k) × IsHeldBy e.content.name k e rest)
          → holder_in e.content.name rest ≡ (if same_name e.content.name f.content.name then None else holder_in e.content.name c.roots)
      on (inl x) = name_of (same_name e.content.name f.content.name) refl (inr (outermost (found_in e.content.name rest e i) x.0))
        where
          outermost : BoxIn e.around e.content e.goals rest → e.around ≡ [] → e.content.name ≡ f.content.name
          outermost (inl y) z = ap (λ (b : Content). b.name) y.1
          outermost (inr (inl y)) z = absurd (not_empty (sym z ∙ y.1))
            where
              not_empty : {b : Content} {q : List Content} → [] ≡ b ∷ q → ⊥
              not_empty p = cc
          outermost (inr (inr y)) z = absurd y
      on (inr (k, x, h)) = name_of (same_name e.content.name f.content.name) refl (inl (x ∙ sym (there_too k h (stands_within h.home (home-box k rest h.home few h.is_home)))))

  -- its goals are those of the box, but for the alternative

  abbrev OnlyThere : Name → Held → Type 0
  OnlyThere i (an_atom x) = ⊤
  OnlyThere i (a_choice p cs) = IsIn a (box_names cs) → i ≡ g

  goals_less : (gs : Goals) → EachGoal OnlyThere gs → held_in g gs ≡ None → less_goals a gs ≡ gs
  goals_less no_goals each z = refl
  goals_less (atom j x gs) each z = ap (atom j x) (goals_less gs each.1 (past (same_name g j) z))
    where
      past : (t : Bool) → (if t then Some (an_atom x) else held_in g gs) ≡ None → held_in g gs ≡ None
      past true e = cc
      past false e = e
  goals_less (choice j p cs gs) each z = on (same_name g j) refl z (λ e. goals_less gs each.1 e)
    where
      on : (t : Bool) → same_name g j ≡ t → (if t then Some (a_choice p cs) else held_in g gs) ≡ None → (held_in g gs ≡ None → less_goals a gs ≡ gs) → choice j p (others a cs) (less_goals a gs) ≡ choice j p cs gs
      on true q e r = cc
      on false q e r = λ k. choice j p (others_none a cs (λ h. other_name g j q (sym (each.0 h))) k) (r e k)

  with_less : (gs : Goals) → ((m : Name) → times_inside m gs ≤ 1) → EachGoal OnlyThere gs → held_in g gs ≡ Some (a_choice o bs) → with_content g (a_choice o (others a bs)) gs ≡ less_goals a gs
  with_less no_goals once each e = cc
  with_less (atom j x gs) once each e = on (same_name g j) e (λ q. with_less gs (λ m. let w : one_if (same_name m j) + times_inside m gs ≤ 1 = once m in omega arith) each.1 q)
    where
      on : (t : Bool) → (if t then Some (an_atom x) else held_in g gs) ≡ Some (a_choice o bs) → (held_in g gs ≡ Some (a_choice o bs) → with_content g (a_choice o (others a bs)) gs ≡ less_goals a gs)
          → (if t then choice g o (others a bs) gs else atom j x (with_content g (a_choice o (others a bs)) gs)) ≡ atom j x (less_goals a gs)
      on true q r = cc
      on false q r = ap (atom j x) (r q)
  with_less (choice j p cs gs) once each e = on (same_name g j) refl e (λ q. with_less gs (λ m. let w : one_if (same_name m j) + (times m cs + times_inside m gs) ≤ 1 = once m in omega arith) each.1 q)
    where
      gone : same_name g j ≡ true → held_in g gs ≡ None
      gone q = held_none g gs (let u : one_if (same_name g j) ≡ 1 = ap one_if q in let w : one_if (same_name g j) + (times g cs + times_inside g gs) ≤ 1 = once g in omega arith)

      on : (t : Bool) → same_name g j ≡ t → (if t then Some (a_choice p cs) else held_in g gs) ≡ Some (a_choice o bs) → (held_in g gs ≡ Some (a_choice o bs) → with_content g (a_choice o (others a bs)) gs ≡ less_goals a gs)
          → (if t then choice g o (others a bs) gs else choice j p cs (with_content g (a_choice o (others a bs)) gs)) ≡ choice j p (others a cs) (less_goals a gs)
      on true q r k =
          let x : a_choice p cs ≡ a_choice o bs = some_value r in
          let y : o ≡ p = cc in
          let z : bs ≡ cs = cc in
          λ i. choice (same_name-equal g j q i) (y i) (others a (z i)) (sym (goals_less gs each.1 (gone q)) i)
      on false q r k = λ i. choice j p (sym (others_none a cs (λ h. other_name g j q (sym (each.0 h)))) i) (k r i)

  only_there : (w : Found) (m : Name) → box_at m c.roots ≡ Some w → EachGoal OnlyThere w.goals
  only_there w m i = each_goal OnlyThere w.goals (goals_once c.roots s.once w (found_in m c.roots w i)) by
    where
      by : (k : Name) (h : Held) → held_in k w.goals ≡ Some h → OnlyThere k h
      by k (an_atom x) e = tt
      by k (a_choice p cs) e = λ j. some_value (sym (alternative_at c.roots s.once a k w p cs (home_found c.roots s.once k m w (a_choice p cs) i e) e j).holder ∙ a_holder)

  pub rest_goals : (e : Found) (x : IsWithin e) → e.goals ≡ less_goals a x.whole_box.goals
  rest_goals e x = on x.goals
    where
      on : ((x.whole_box.goals ≡ e.goals) × (held_in g x.whole_box.goals ≡ None)) ⊎ ((x.whole_box ≡ f) × (e.goals ≡ with_content g (a_choice o (others a bs)) f.goals)) → e.goals ≡ less_goals a x.whole_box.goals
      on (inl q) = sym q.0 ∙ sym (goals_less x.whole_box.goals (only_there x.whole_box e.content.name x.is_found) q.1)
      on (inr (q, r)) = r ∙ with_less f.goals (goals_once c.roots s.once f stands) (only_there f f.content.name there) held ∙ ap (λ (k : Found). less_goals a k.goals) (sym q)
