-- Where one box gets other goals, boxes and goals elsewhere are found as before.
use Rattle.std.proofs.Common.{◌≡◌, List, [], ◌∷◌, Bool, true, false, Option, Some, None, refl, sym, ◌∙◌, ap, subst, inl, inr}
use Rattle.std.specs.Prelude.{if◌then◌else◌, option_map}
use Rattle.akl_terms.specs.declared.name.Name.{Name}
use Rattle.akl_terms.specs.Names.{same_name}
use Rattle.akl_terms.proofs.SameNames.{same_name-equal}
use Rattle.akl_model.specs.Config.{Atom, Operator, Content, Boxes, no_boxes, box, Goals, no_goals, atom, choice, Held, an_atom, a_choice, held_in, goal, with_content, Found, or_else, within, box_at, box_inside, when_held, home_of, home_inside, edited, edited_inside}
use Rattle.akl_model.specs.Changes.{of_choice, shape_of, box_names, goal_names}
use Rattle.step_laws.specs.Stays.{HaveShape}
use Rattle.step_laws.specs.Whereabouts.{BoxIn, InGoals}
use Rattle.step_laws.proofs.Edits.{edited_held, held_edited}

-- nothing is found, or boxes of one content in one place, with goals that are related
pub data Alike (R : Goals → Goals → Type 0) : Option Found → Option Found → Type 0 where
  neither : Alike R None None
  both : (a : List Content) (b : Content) (gs hs : Goals) → R gs hs → Alike R (Some (record { around = a; content = b; goals = gs })) (Some (record { around = a; content = b; goals = hs }))

alike_or : (R : Goals → Goals → Type 0) (x y u v : Option Found) → Alike R x y → Alike R u v → Alike R (or_else x u) (or_else y v)
alike_or R _ _ u v neither k = k
alike_or R _ _ u v (both a b gs hs r) k = both a b gs hs r

alike_within : (R : Goals → Goals → Type 0) (k : Content) (x y : Option Found) → Alike R x y → Alike R (option_map (within k) x) (option_map (within k) y)
alike_within R k _ _ neither = neither
alike_within R k _ _ (both a b gs hs r) = both (k ∷ a) b gs hs r

pub alike_itself : (R : Goals → Goals → Type 0) → ((gs : Goals) → R gs gs) → (o : Option Found) → Alike R o o
alike_itself R h None = neither
alike_itself R h (Some f) = both f.around f.content f.goals f.goals (h f.goals)

-- a goal of the same shape or none
alike_held : (i : Name) (b : Content) (gs hs : Goals) → HaveShape (held_in i gs) (held_in i hs)
    → Alike (λ (u v : Goals). HaveShape (held_in i u) (held_in i v)) (when_held (held_in i gs) (record { around = []; content = b; goals = gs })) (when_held (held_in i hs) (record { around = []; content = b; goals = hs }))
alike_held i b gs hs r = on (held_in i gs) (held_in i hs) r
  where
    on : (x y : Option Held) → option_map shape_of x ≡ option_map shape_of y
        → Alike (λ (u v : Goals). HaveShape (held_in i u) (held_in i v)) (when_held x (record { around = []; content = b; goals = gs })) (when_held y (record { around = []; content = b; goals = hs }))
    on None None q = neither
    on (Some x) (Some y) q = both [] b gs hs r
    on None (Some y) q = cc
    on (Some x) None q = cc

module _ (n : Name) (C : Content) (G H : Goals) (its : same_name n C.name ≡ true) where
  -- each box of the name has this content and these goals
  abbrev pub Only : Boxes → Type 0
  Only bs = (r : List Content) (k : Content) (hs : Goals) → BoxIn r k hs bs → same_name n k.name ≡ true → (k ≡ C) × (hs ≡ G)

  abbrev OnlyAmong : Goals → Type 0
  OnlyAmong gs = (r : List Content) (k : Content) (hs : Goals) → InGoals r k hs gs → same_name n k.name ≡ true → (k ≡ C) × (hs ≡ G)

  -- the names of alternatives stay
  pub names_same : (bs : Boxes) → box_names (edited n (box C H no_boxes) bs) ≡ box_names bs
  names_same no_boxes = refl
  names_same (box b gs bs) = on (same_name n b.name) refl (names_same bs)
    where
      on : (t : Bool) → same_name n b.name ≡ t → box_names (edited n (box C H no_boxes) bs) ≡ box_names bs
          → box_names (if t then box C H (edited n (box C H no_boxes) bs) else box b (edited_inside n (box C H no_boxes) gs) (edited n (box C H no_boxes) bs)) ≡ b.name ∷ box_names bs
      on true q e = λ i. (sym (same_name-equal n C.name its) ∙ same_name-equal n b.name q) i ∷ e i
      on false q e = ap (λ (ns : List Name). b.name ∷ ns) e

  pub shapes_same : (i : Name) (gs : Goals) → HaveShape (held_in i gs) (held_in i (edited_inside n (box C H no_boxes) gs))
  shapes_same i gs = on (held_in i gs) ∙ ap (option_map shape_of) (sym (held_edited n (box C H no_boxes) i gs))
    where
      on : (o : Option Held) → option_map shape_of o ≡ option_map shape_of (option_map (edited_held n (box C H no_boxes)) o)
      on None = refl
      on (Some (an_atom a)) = refl
      on (Some (a_choice o bs)) = ap (λ (ns : List Name). Some (of_choice o ns)) (sym (names_same bs))

  module _ (i : Name) (R : Goals → Goals → Type 0) (kept : (gs : Goals) → R gs (edited_inside n (box C H no_boxes) gs)) (here : R G H) (within_it : Alike R (box_inside i G) (box_inside i H)) where
    mutual
      pub box_alike : (bs : Boxes) → Only bs → Alike R (box_at i bs) (box_at i (edited n (box C H no_boxes) bs))
      box_alike no_boxes h = neither
      box_alike (box b gs bs) h = on (same_name n b.name) refl (inside_alike gs (λ r k hs y q. h (b ∷ r) k hs (inr (inl (r, refl, y))) q)) (box_alike bs (λ r k hs y q. h r k hs (inr (inr y)) q))
        where
          its_own : (t : Bool) → Alike R (box_at i bs) (box_at i (edited n (box C H no_boxes) bs))
              → Alike R (if t then Some (record { around = []; content = C; goals = G }) else or_else (option_map (within C) (box_inside i G)) (box_at i bs))
              (if t then Some (record { around = []; content = C; goals = H }) else or_else (option_map (within C) (box_inside i H)) (box_at i (edited n (box C H no_boxes) bs)))
          its_own true y = both [] C G H here
          its_own false y = alike_or R (option_map (within C) (box_inside i G)) (option_map (within C) (box_inside i H)) (box_at i bs) (box_at i (edited n (box C H no_boxes) bs)) (alike_within R C (box_inside i G) (box_inside i H) within_it) y

          another : (t : Bool) → Alike R (box_inside i gs) (box_inside i (edited_inside n (box C H no_boxes) gs)) → Alike R (box_at i bs) (box_at i (edited n (box C H no_boxes) bs))
              → Alike R (if t then Some (record { around = []; content = b; goals = gs }) else or_else (option_map (within b) (box_inside i gs)) (box_at i bs))
              (if t then Some (record { around = []; content = b; goals = edited_inside n (box C H no_boxes) gs }) else or_else (option_map (within b) (box_inside i (edited_inside n (box C H no_boxes) gs))) (box_at i (edited n (box C H no_boxes) bs)))
          another true x y = both [] b gs (edited_inside n (box C H no_boxes) gs) (kept gs)
          another false x y = alike_or R (option_map (within b) (box_inside i gs)) (option_map (within b) (box_inside i (edited_inside n (box C H no_boxes) gs))) (box_at i bs) (box_at i (edited n (box C H no_boxes) bs))
              (alike_within R b (box_inside i gs) (box_inside i (edited_inside n (box C H no_boxes) gs)) x) y

          on : (t : Bool) → same_name n b.name ≡ t → Alike R (box_inside i gs) (box_inside i (edited_inside n (box C H no_boxes) gs)) → Alike R (box_at i bs) (box_at i (edited n (box C H no_boxes) bs))
              → Alike R (box_at i (box b gs bs)) (box_at i (if t then box C H (edited n (box C H no_boxes) bs) else box b (edited_inside n (box C H no_boxes) gs) (edited n (box C H no_boxes) bs)))
          on true q x y =
              let e : (b ≡ C) × (gs ≡ G) = h [] b gs (inl (refl, refl, refl)) q in
              subst (λ (k : Content). Alike R (box_at i (box k gs bs)) (box_at i (box C H (edited n (box C H no_boxes) bs)))) (sym e.0)
              (subst (λ (ks : Goals). Alike R (box_at i (box C ks bs)) (box_at i (box C H (edited n (box C H no_boxes) bs)))) (sym e.1) (its_own (same_name i C.name) y))
          on false q x y = another (same_name i b.name) x y

      inside_alike : (gs : Goals) → OnlyAmong gs → Alike R (box_inside i gs) (box_inside i (edited_inside n (box C H no_boxes) gs))
      inside_alike no_goals h = neither
      inside_alike (atom g a gs) h = inside_alike gs h
      inside_alike (choice g o bs gs) h = alike_or R (box_at i bs) (box_at i (edited n (box C H no_boxes) bs)) (box_inside i gs) (box_inside i (edited_inside n (box C H no_boxes) gs))
          (box_alike bs (λ r k hs y q. h r k hs (inl y) q)) (inside_alike gs (λ r k hs y q. h r k hs (inr y) q))

  module _ (i : Name) (here : HaveShape (held_in i G) (held_in i H)) (within_it : Alike (λ (u v : Goals). HaveShape (held_in i u) (held_in i v)) (home_inside i G) (home_inside i H)) where
    abbrev pub R : Goals → Goals → Type 0
    R u v = HaveShape (held_in i u) (held_in i v)

    -- a home at the front of a list
    first_home : (b : Content) (gs hs : Goals) (x y : Option Found) → R gs hs → Alike R (home_inside i gs) (home_inside i hs)
        → Alike R x y
        → Alike R (or_else (when_held (held_in i gs) (record { around = []; content = b; goals = gs })) (or_else (option_map (within b) (home_inside i gs)) x))
        (or_else (when_held (held_in i hs) (record { around = []; content = b; goals = hs })) (or_else (option_map (within b) (home_inside i hs)) y))
    first_home b gs hs x y r u v = alike_or R (when_held (held_in i gs) (record { around = []; content = b; goals = gs })) (when_held (held_in i hs) (record { around = []; content = b; goals = hs }))
        (or_else (option_map (within b) (home_inside i gs)) x) (or_else (option_map (within b) (home_inside i hs)) y) (alike_held i b gs hs r)
        (alike_or R (option_map (within b) (home_inside i gs)) (option_map (within b) (home_inside i hs)) x y
        (alike_within R b (home_inside i gs) (home_inside i hs) u) v)

    mutual
      pub home_alike : (bs : Boxes) → Only bs → Alike R (home_of i bs) (home_of i (edited n (box C H no_boxes) bs))
      home_alike no_boxes h = neither
      home_alike (box b gs bs) h = on (same_name n b.name) refl (home_inside_alike gs (λ r k hs y q. h (b ∷ r) k hs (inr (inl (r, refl, y))) q)) (home_alike bs (λ r k hs y q. h r k hs (inr (inr y)) q))
        where
          on : (t : Bool) → same_name n b.name ≡ t → Alike R (home_inside i gs) (home_inside i (edited_inside n (box C H no_boxes) gs))
              → Alike R (home_of i bs) (home_of i (edited n (box C H no_boxes) bs))
              → Alike R (home_of i (box b gs bs)) (home_of i (if t then box C H (edited n (box C H no_boxes) bs) else box b (edited_inside n (box C H no_boxes) gs) (edited n (box C H no_boxes) bs)))
          on true q x y =
              let e : (b ≡ C) × (gs ≡ G) = h [] b gs (inl (refl, refl, refl)) q in
              subst (λ (k : Content). Alike R (home_of i (box k gs bs)) (home_of i (box C H (edited n (box C H no_boxes) bs)))) (sym e.0)
              (subst (λ (ks : Goals). Alike R (home_of i (box C ks bs)) (home_of i (box C H (edited n (box C H no_boxes) bs)))) (sym e.1)
              (first_home C G H (home_of i bs) (home_of i (edited n (box C H no_boxes) bs)) here within_it y))
          on false q x y = first_home b gs (edited_inside n (box C H no_boxes) gs) (home_of i bs) (home_of i (edited n (box C H no_boxes) bs)) (shapes_same i gs) x y

      home_inside_alike : (gs : Goals) → OnlyAmong gs → Alike R (home_inside i gs) (home_inside i (edited_inside n (box C H no_boxes) gs))
      home_inside_alike no_goals h = neither
      home_inside_alike (atom g a gs) h = home_inside_alike gs h
      home_inside_alike (choice g o bs gs) h = alike_or R (home_of i bs) (home_of i (edited n (box C H no_boxes) bs)) (home_inside i gs) (home_inside i (edited_inside n (box C H no_boxes) gs))
          (home_alike bs (λ r k hs y q. h r k hs (inl y) q)) (home_inside_alike gs (λ r k hs y q. h r k hs (inr y) q))

-- an atom becomes a choice of boxes in which a name isn't

pub names_chosen : (g : Name) (o : Operator) (cs : Boxes) (gs : Goals) → goal_names (with_content g (a_choice o cs) gs) ≡ goal_names gs
names_chosen g o cs no_goals = refl
names_chosen g o cs (atom i a gs) = on (same_name g i) refl (names_chosen g o cs gs)
  where
    on : (t : Bool) → same_name g i ≡ t → goal_names (with_content g (a_choice o cs) gs) ≡ goal_names gs → goal_names (if t then goal g (a_choice o cs) gs else atom i a (with_content g (a_choice o cs) gs)) ≡ i ∷ goal_names gs
    on true r e = ap (λ (n : Name). n ∷ goal_names gs) (same_name-equal g i r)
    on false r e = ap (λ (ns : List Name). i ∷ ns) e
names_chosen g o cs (choice i q bs gs) = on (same_name g i) refl (names_chosen g o cs gs)
  where
    on : (t : Bool) → same_name g i ≡ t → goal_names (with_content g (a_choice o cs) gs) ≡ goal_names gs → goal_names (if t then goal g (a_choice o cs) gs else choice i q bs (with_content g (a_choice o cs) gs)) ≡ i ∷ goal_names gs
    on true r e = ap (λ (n : Name). n ∷ goal_names gs) (same_name-equal g i r)
    on false r e = ap (λ (ns : List Name). i ∷ ns) e

module _ (g : Name) (o : Operator) (cs : Boxes) (x : Atom) (i : Name) where
  pub inside_chosen : box_at i cs ≡ None → (gs : Goals) → held_in g gs ≡ Some (an_atom x) → box_inside i (with_content g (a_choice o cs) gs) ≡ box_inside i gs
  inside_chosen z no_goals e = cc
  inside_chosen z (atom j b gs) e = on (same_name g j) e (λ q. inside_chosen z gs q)
    where
      on : (t : Bool) → (if t then Some (an_atom b) else held_in g gs) ≡ Some (an_atom x) → (held_in g gs ≡ Some (an_atom x) → box_inside i (with_content g (a_choice o cs) gs) ≡ box_inside i gs)
          → box_inside i (if t then goal g (a_choice o cs) gs else atom j b (with_content g (a_choice o cs) gs)) ≡ box_inside i gs
      on true q r = ap (λ (v : Option Found). or_else v (box_inside i gs)) z
      on false q r = r q
  inside_chosen z (choice j q bs gs) e = on (same_name g j) e (λ y. inside_chosen z gs y)
    where
      on : (t : Bool) → (if t then Some (a_choice q bs) else held_in g gs) ≡ Some (an_atom x) → (held_in g gs ≡ Some (an_atom x) → box_inside i (with_content g (a_choice o cs) gs) ≡ box_inside i gs)
          → box_inside i (if t then goal g (a_choice o cs) gs else choice j q bs (with_content g (a_choice o cs) gs)) ≡ or_else (box_at i bs) (box_inside i gs)
      on true y r = cc
      on false y r = ap (or_else (box_at i bs)) (r y)

  pub home_chosen : home_of i cs ≡ None → (gs : Goals) → held_in g gs ≡ Some (an_atom x) → home_inside i (with_content g (a_choice o cs) gs) ≡ home_inside i gs
  home_chosen z no_goals e = cc
  home_chosen z (atom j b gs) e = on (same_name g j) e (λ q. home_chosen z gs q)
    where
      on : (t : Bool) → (if t then Some (an_atom b) else held_in g gs) ≡ Some (an_atom x) → (held_in g gs ≡ Some (an_atom x) → home_inside i (with_content g (a_choice o cs) gs) ≡ home_inside i gs)
          → home_inside i (if t then goal g (a_choice o cs) gs else atom j b (with_content g (a_choice o cs) gs)) ≡ home_inside i gs
      on true q r = ap (λ (v : Option Found). or_else v (home_inside i gs)) z
      on false q r = r q
  home_chosen z (choice j q bs gs) e = on (same_name g j) e (λ y. home_chosen z gs y)
    where
      on : (t : Bool) → (if t then Some (a_choice q bs) else held_in g gs) ≡ Some (an_atom x) → (held_in g gs ≡ Some (an_atom x) → home_inside i (with_content g (a_choice o cs) gs) ≡ home_inside i gs)
          → home_inside i (if t then goal g (a_choice o cs) gs else choice j q bs (with_content g (a_choice o cs) gs)) ≡ or_else (home_of i bs) (home_inside i gs)
      on true y r = cc
      on false y r = ap (or_else (home_of i bs)) (r y)
