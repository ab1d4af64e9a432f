-- The choice that holds a box, and the boxes around it.
use Rattle.std.proofs.Common.{◌≡◌, ◌+◌, ◌≤◌, ◌<◌, List, [], ◌∷◌, ◌++◌, Bool, true, false, Option, Some, None, refl, sym, ◌∙◌, ap, subst, ◌⊎◌, inl, inr, arith}
use Rattle.std.specs.Prelude.{if◌then◌else◌, option_map, is_some}
use Rattle.akl_terms.specs.declared.name.Name.{Name}
use Rattle.akl_model.specs.Config.{Operator}
use Rattle.akl_terms.specs.Names.{same_name}
use Rattle.akl_model.specs.Config.{IsIn, Content, Boxes, no_boxes, box, Goals, no_goals, atom, choice, Held, an_atom, a_choice, held_in, Found, environment, or_else, within, box_at, box_inside, when_held, home_of, home_inside}
use Rattle.akl_model.specs.Renaming.{names_of}
use Rattle.akl_model.specs.Changes.{box_names}
use Rattle.akl_model.specs.Names.{one_if, times_in}
use Rattle.akl_model.specs.Wakes.{names_around, holder_in, holder_inside, box_among}
use Rattle.akl_model.proofs.Options.{none_or, some_value, or_none, or_some, map_none, map_some, left_some, right_some, both_none}
use Rattle.akl_model.proofs.Finds.{times, times_inside, times-names}
use Rattle.akl_model.proofs.NamesKept.{box-itself}
use Rattle.akl_model.proofs.QuietGrows.{equations-snoc}
use Rattle.akl_model.proofs.ScopesAlong.{counted_in}
use Rattle.akl_terms.proofs.SameNames.{same_name-equal, same_name-refl}
use Rattle.step_laws.specs.Whereabouts.{BoxIn}
use Rattle.step_laws.specs.Holders.{NamesOnce, IsHeldBy, IsAlternativeAt, IsRootBox}
use Rattle.step_laws.proofs.Whereabouts.{found_in, in_named, home_in, in_home}
use Rattle.step_laws.proofs.Deeper.{in_deeper, names_snoc, named_found}
use Rattle.step_laws.proofs.Edits.{Holder, in_holder}
use Rattle.step_laws.proofs.GoalEdits.{held_inside}

when_some : (h : Option Held) (e f : Found) → when_held h e ≡ Some f → (k : Held) × (h ≡ Some k) × (e ≡ f)
when_some None e f q = cc
when_some (Some k) e f q = (k, refl, some_value q)

pub names_less : (n : Name) (bs : Boxes) → times_in n (box_names bs) ≤ times n bs
names_less n no_boxes = omega arith
names_less n (box b gs bs) = let e : times_in n (box_names bs) ≤ times n bs = names_less n bs in omega arith

-- the boxes of a choice are counted in its home
pub choice_less : (n g : Name) (o : Operator) (bs : Boxes) (gs : Goals) → held_in g gs ≡ Some (a_choice o bs) → times n bs ≤ times_inside n gs
choice_less n g o bs no_goals e = cc
choice_less n g o bs (atom h a gs) e = on (same_name g h) e (λ q. choice_less n g o bs gs q)
  where
    on : (t : Bool) → (if t then Some (an_atom a) else held_in g gs) ≡ Some (a_choice o bs) → (held_in g gs ≡ Some (a_choice o bs) → times n bs ≤ times_inside n gs) → times n bs ≤ one_if (same_name n h) + times_inside n gs
    on true q r = cc
    on false q r = let k : times n bs ≤ times_inside n gs = r q in omega arith
choice_less n g o bs (choice h p cs gs) e = on (same_name g h) e (λ q. choice_less n g o bs gs q)
  where
    on : (t : Bool) → (if t then Some (a_choice p cs) else held_in g gs) ≡ Some (a_choice o bs) → (held_in g gs ≡ Some (a_choice o bs) → times n bs ≤ times_inside n gs)
        → times n bs ≤ one_if (same_name n h) + (times n cs + times_inside n gs)
    on true q r = let s : cs ≡ bs = cc in let k : times n cs ≡ times n bs = ap (times n) s in omega arith
    on false q r = let k : times n bs ≤ times_inside n gs = r q in omega arith

-- who holds a box
among_named : (n : Name) (bs : Boxes) → 1 ≤ times_in n (box_names bs) → is_some (box_among n bs) ≡ true
among_named n no_boxes l = absurd (omega arith)
among_named n (box b gs bs) l = on (same_name n b.name) l (λ q. among_named n bs q)
  where
    on : (t : Bool) → 1 ≤ one_if t + times_in n (box_names bs) → (1 ≤ times_in n (box_names bs) → is_some (box_among n bs) ≡ true) → is_some (if t then Some n else box_among n bs) ≡ true
    on true q r = refl
    on false q r = r (omega arith)

among_none : (n : Name) (bs : Boxes) → times n bs ≡ 0 → is_some (box_among n bs) ≡ false
among_none n no_boxes e = refl
among_none n (box b gs bs) e = on (same_name n b.name) refl (among_none n bs (omega arith))
  where
    on : (t : Bool) → same_name n b.name ≡ t → is_some (box_among n bs) ≡ false → is_some (if t then Some n else box_among n bs) ≡ false
    on true r q = let i : one_if (same_name n b.name) ≡ 1 = ap one_if r in absurd (omega (arith, e))
    on false r q = q

among_unnamed : (n : Name) (bs : Boxes) → times_in n (box_names bs) ≡ 0 → is_some (box_among n bs) ≡ false
among_unnamed n no_boxes e = refl
among_unnamed n (box b gs bs) e = on (same_name n b.name) refl (among_unnamed n bs (omega arith))
  where
    on : (t : Bool) → same_name n b.name ≡ t → is_some (box_among n bs) ≡ false → is_some (if t then Some n else box_among n bs) ≡ false
    on true r q = let i : one_if (same_name n b.name) ≡ 1 = ap one_if r in absurd (omega (arith, e))
    on false r q = q

mutual
  holder-none : (n : Name) (bs : Boxes) → times n bs ≡ 0 → holder_in n bs ≡ None
  holder-none n no_boxes e = refl
  holder-none n (box b gs bs) e = both_none (holder_inside n gs) (holder_in n bs) (holder_inside-none n gs (omega arith)) (holder-none n bs (omega arith))

  holder_inside-none : (n : Name) (gs : Goals) → times_inside n gs ≡ 0 → holder_inside n gs ≡ None
  holder_inside-none n no_goals e = refl
  holder_inside-none n (atom g a gs) e = holder_inside-none n gs (omega arith)
  holder_inside-none n (choice g o bs gs) e = on (is_some (box_among n bs)) (among_none n bs (omega arith)) (holder-none n bs (omega arith)) (holder_inside-none n gs (omega arith))
    where
      on : (t : Bool) → t ≡ false → holder_in n bs ≡ None → holder_inside n gs ≡ None → (if t then Some g else or_else (holder_in n bs) (holder_inside n gs)) ≡ None
      on true r x y = cc
      on false r x y = both_none (holder_in n bs) (holder_inside n gs) x y

held_holder : (n g : Name) (o : Operator) (bs : Boxes) (gs : Goals) → times_inside n gs ≤ 1 → held_in g gs ≡ Some (a_choice o bs) → 1 ≤ times_in n (box_names bs) → holder_inside n gs ≡ Some g
held_holder n g o bs no_goals k e l = cc
held_holder n g o bs (atom h a gs) k e l = on (same_name g h) e (λ q. held_holder n g o bs gs (omega arith) q l)
  where
    on : (t : Bool) → (if t then Some (an_atom a) else held_in g gs) ≡ Some (a_choice o bs) → (held_in g gs ≡ Some (a_choice o bs) → holder_inside n gs ≡ Some g) → holder_inside n gs ≡ Some g
    on true q r = cc
    on false q r = r q
held_holder n g o bs (choice h p cs gs) k e l = on (same_name g h) refl e (λ q. held_holder n g o bs gs (omega arith) q l)
  where
    taken : (t : Bool) → t ≡ true → g ≡ h → (if t then Some h else or_else (holder_in n cs) (holder_inside n gs)) ≡ Some g
    taken true r q = ap Some (sym q)
    taken false r q = cc

    passed : (t : Bool) → t ≡ false → holder_in n cs ≡ None → holder_inside n gs ≡ Some g → (if t then Some h else or_else (holder_in n cs) (holder_inside n gs)) ≡ Some g
    passed true r q x = cc
    passed false r q x = right_some (holder_in n cs) (holder_inside n gs) g q x

    on : (t : Bool) → same_name g h ≡ t → (if t then Some (a_choice p cs) else held_in g gs) ≡ Some (a_choice o bs) → (held_in g gs ≡ Some (a_choice o bs) → holder_inside n gs ≡ Some g)
        → (if is_some (box_among n cs) then Some h else or_else (holder_in n cs) (holder_inside n gs)) ≡ Some g
    on true r q x = let s : cs ≡ bs = cc in taken (is_some (box_among n cs)) (subst (λ (xs : Boxes). is_some (box_among n xs) ≡ true) (sym s) (among_named n bs l)) (same_name-equal g h r)
    on false r q x =
        let i : times n bs ≤ times_inside n gs = choice_less n g o bs gs q in
        let j : times_in n (box_names bs) ≤ times n bs = names_less n bs in
        let z : times n cs ≡ 0 = omega (arith, k, l) in
        passed (is_some (box_among n cs)) (among_none n cs z) (holder-none n cs z) (x q)

mutual
  pub holder_found : (n g : Name) (o : Operator) (alts : Boxes) (bs : Boxes) (f : Found) → times n bs ≤ 1 → home_of g bs ≡ Some f → held_in g f.goals ≡ Some (a_choice o alts) → 1 ≤ times_in n (box_names alts) → (holder_in n bs ≡ Some g) × (times_in n (box_names bs) + 1 ≤ times n bs)
  holder_found n g o alts no_boxes f k e i l = cc
  holder_found n g o alts (box b gs bs) f k e i l = on (or_some (when_held (held_in g gs) (record { around = []; content = b; goals = gs })) (or_else (option_map (within b) (home_inside g gs)) (home_of g bs)) f e)
      (λ j q r. holder_found_inside n g o alts gs j (omega arith) q r l) (λ q. holder_found n g o alts bs f (omega arith) q i l)
    where
      on : (when_held (held_in g gs) (record { around = []; content = b; goals = gs }) ≡ Some f) ⊎ ((when_held (held_in g gs) (record { around = []; content = b; goals = gs }) ≡ None)
          × (or_else (option_map (within b) (home_inside g gs)) (home_of g bs) ≡ Some f))
          → ((j : Found) → home_inside g gs ≡ Some j → held_in g j.goals ≡ Some (a_choice o alts) → (holder_inside n gs ≡ Some g) × (1 ≤ times_inside n gs))
          → (home_of g bs ≡ Some f → (holder_in n bs ≡ Some g) × (times_in n (box_names bs) + 1 ≤ times n bs)) → (or_else (holder_inside n gs) (holder_in n bs) ≡ Some g) × (times_in n (box_names (box b gs bs)) + 1 ≤ times n (box b gs bs))
      on (inl q) x y =
          let w : (h : Held) × (held_in g gs ≡ Some h) × (record { around = []; content = b; goals = gs } ≡ f) = when_some (held_in g gs) (record { around = []; content = b; goals = gs }) f q in
          let c : held_in g gs ≡ Some (a_choice o alts) = subst (λ (u : Found). held_in g u.goals ≡ Some (a_choice o alts)) (sym w.2) i in
          let u : times n alts ≤ times_inside n gs = choice_less n g o alts gs c in
          let v : times_in n (box_names alts) ≤ times n alts = names_less n alts in
          let m : times_in n (box_names bs) ≤ times n bs = names_less n bs in
          (left_some (holder_inside n gs) (holder_in n bs) g (held_holder n g o alts gs (omega (arith, k)) c l), omega (arith, u, v, l, m))
      on (inr q) x y = elim (or_some (option_map (within b) (home_inside g gs)) (home_of g bs) f q.1) [
        | inl z ↦
            let w : (j : Found) × (home_inside g gs ≡ Some j) × (within b j ≡ f) = map_some (within b) (home_inside g gs) f z in
            let r : (holder_inside n gs ≡ Some g) × (1 ≤ times_inside n gs) = x w.0 w.1 (subst (λ (u : Found). held_in g u.goals ≡ Some (a_choice o alts)) (sym w.2) i) in
            (left_some (holder_inside n gs) (holder_in n bs) g r.0, let t : 1 ≤ times_inside n gs = r.1 in let m : times_in n (box_names bs) ≤ times n bs = names_less n bs in omega (arith, t, m))
        | inr z ↦
            let r : (holder_in n bs ≡ Some g) × (times_in n (box_names bs) + 1 ≤ times n bs) = y z.1 in
            let t : times_in n (box_names bs) + 1 ≤ times n bs = r.1 in
            (right_some (holder_inside n gs) (holder_in n bs) g (holder_inside-none n gs (omega (arith, k, t))) r.0, omega (arith, t))
      ]

  holder_found_inside : (n g : Name) (o : Operator) (alts : Boxes) (gs : Goals) (f : Found) → times_inside n gs ≤ 1 → home_inside g gs ≡ Some f → held_in g f.goals ≡ Some (a_choice o alts) → 1 ≤ times_in n (box_names alts)
      → (holder_inside n gs ≡ Some g) × (1 ≤ times_inside n gs)
  holder_found_inside n g o alts no_goals f k e i l = cc
  holder_found_inside n g o alts (atom h a gs) f k e i l = let r : (holder_inside n gs ≡ Some g) × (1 ≤ times_inside n gs) = holder_found_inside n g o alts gs f (omega arith) e i l in (r.0, let t : 1 ≤ times_inside n gs = r.1 in omega (arith, t))
  holder_found_inside n g o alts (choice h p cs gs) f k e i l = on (or_some (home_of g cs) (home_inside g gs) f e) (λ q. holder_found n g o alts cs f (omega arith) q i l) (λ q. holder_found_inside n g o alts gs f (omega arith) q i l)
    where
      passed : (t : Bool) → t ≡ false → or_else (holder_in n cs) (holder_inside n gs) ≡ Some g → (if t then Some h else or_else (holder_in n cs) (holder_inside n gs)) ≡ Some g
      passed true r x = cc
      passed false r x = x

      Result : Type 0
      Result = ((if is_some (box_among n cs) then Some h else or_else (holder_in n cs) (holder_inside n gs)) ≡ Some g) × (1 ≤ times_inside n (choice h p cs gs))

      on : (home_of g cs ≡ Some f) ⊎ ((home_of g cs ≡ None) × (home_inside g gs ≡ Some f)) → (home_of g cs ≡ Some f → (holder_in n cs ≡ Some g) × (times_in n (box_names cs) + 1 ≤ times n cs))
          → (home_inside g gs ≡ Some f → (holder_inside n gs ≡ Some g) × (1 ≤ times_inside n gs)) → Result
      on (inl q) x y =
          let r : (holder_in n cs ≡ Some g) × (times_in n (box_names cs) + 1 ≤ times n cs) = x q in
          let t : times_in n (box_names cs) + 1 ≤ times n cs = r.1 in
          let z : times_in n (box_names cs) ≡ 0 = omega (arith, k, t) in
          (passed (is_some (box_among n cs)) (among_unnamed n cs z) (left_some (holder_in n cs) (holder_inside n gs) g r.0), omega (arith, t))
      on (inr q) x y = let r : (holder_inside n gs ≡ Some g) × (1 ≤ times_inside n gs) = y q.1 in let t : 1 ≤ times_inside n gs = r.1 in let z : times n cs ≡ 0 = omega (arith, k, t) in
          (passed (is_some (box_among n cs)) (among_none n cs z) (right_some (holder_in n cs) (holder_inside n gs) g (holder-none n cs z) r.0), omega (arith, t))

-- a box that isn't there has no holder
among_unfound : (n : Name) (bs : Boxes) → box_at n bs ≡ None → is_some (box_among n bs) ≡ false
among_unfound n no_boxes e = refl
among_unfound n (box b gs bs) e = on (same_name n b.name) e (λ q. among_unfound n bs q)
  where
    on : (t : Bool) → (if t then Some (record { around = []; content = b; goals = gs }) else or_else (option_map (within b) (box_inside n gs)) (box_at n bs)) ≡ None
        → (box_at n bs ≡ None → is_some (box_among n bs) ≡ false) → is_some (if t then Some n else box_among n bs) ≡ false
    on true i f = cc
    on false i f = f (or_none (option_map (within b) (box_inside n gs)) (box_at n bs) i).1

mutual
  holder_unfound : (n : Name) (bs : Boxes) → box_at n bs ≡ None → holder_in n bs ≡ None
  holder_unfound n no_boxes e = refl
  holder_unfound n (box b gs bs) e = on (same_name n b.name) e (λ q. holder_unfound_inside n gs q) (λ q. holder_unfound n bs q)
    where
      on : (t : Bool) → (if t then Some (record { around = []; content = b; goals = gs }) else or_else (option_map (within b) (box_inside n gs)) (box_at n bs)) ≡ None
          → (box_inside n gs ≡ None → holder_inside n gs ≡ None) → (box_at n bs ≡ None → holder_in n bs ≡ None) → or_else (holder_inside n gs) (holder_in n bs) ≡ None
      on true i f g = cc
      on false i f g =
          let w : (option_map (within b) (box_inside n gs) ≡ None) × (box_at n bs ≡ None) = or_none (option_map (within b) (box_inside n gs)) (box_at n bs) i in
          both_none (holder_inside n gs) (holder_in n bs) (f (map_none (within b) (box_inside n gs) w.0)) (g w.1)

  holder_unfound_inside : (n : Name) (gs : Goals) → box_inside n gs ≡ None → holder_inside n gs ≡ None
  holder_unfound_inside n no_goals e = refl
  holder_unfound_inside n (atom g a gs) e = holder_unfound_inside n gs e
  holder_unfound_inside n (choice g o bs gs) e = on (is_some (box_among n bs)) (among_unfound n bs w.0) (holder_unfound n bs w.0) (holder_unfound_inside n gs w.1)
    where
      w : (box_at n bs ≡ None) × (box_inside n gs ≡ None)
      w = or_none (box_at n bs) (box_inside n gs) e

      on : (t : Bool) → t ≡ false → holder_in n bs ≡ None → holder_inside n gs ≡ None → (if t then Some g else or_else (holder_in n bs) (holder_inside n gs)) ≡ None
      on true r x y = cc
      on false r x y = both_none (holder_in n bs) (holder_inside n gs) x y

pub holder_there : (roots : Boxes) (n g : Name) → holder_in n roots ≡ Some g → (f : Found) × (box_at n roots ≡ Some f)
holder_there roots n g e = elim (none_or (box_at n roots)) [ inl z ↦ (let r : holder_in n roots ≡ None = holder_unfound n roots z in absurd cc) | inr w ↦ w ]

-- boxes of a list and their names
first_in : (k : Content) (hs : Goals) (bs : Boxes) → BoxIn [] k hs bs → IsIn k.name (box_names bs)
first_in k hs no_boxes x = absurd x
first_in k hs (box b gs bs) (inl e) = inl (ap (λ (c : Content). c.name) e.1)
first_in k hs (box b gs bs) (inr (inl w)) = let r : [] ≡ b ∷ w.0 = w.1 in cc
first_in k hs (box b gs bs) (inr (inr x)) = inr (first_in k hs bs x)

named_in : (n : Name) (bs : Boxes) → IsIn n (box_names bs) → (k : Content) × (hs : Goals) × (n ≡ k.name) × BoxIn [] k hs bs
named_in n no_boxes i = absurd i
named_in n (box b gs bs) (inl e) = (b, gs, e, inl (refl, refl, refl))
named_in n (box b gs bs) (inr i) = let w : (k : Content) × (hs : Goals) × (n ≡ k.name) × BoxIn [] k hs bs = named_in n bs i in (w.0, w.1, w.2, inr (inr w.3))

-- no choice holds a root box
unheld : (k : Content) (hs : Goals) (bs : Boxes) → times k.name bs ≤ 1 → BoxIn [] k hs bs → holder_in k.name bs ≡ None
unheld k hs no_boxes o x = absurd x
unheld k hs (box b gs bs) o (inl e) =
    let u : one_if (same_name k.name b.name) ≡ 1 = ap one_if (subst (λ (c : Content). same_name k.name c.name ≡ true) e.1 (same_name-refl k.name)) in
    both_none (holder_inside k.name gs) (holder_in k.name bs) (holder_inside-none k.name gs (omega (arith, u, o))) (holder-none k.name bs (omega (arith, u, o)))
unheld k hs (box b gs bs) o (inr (inl w)) = let r : [] ≡ b ∷ w.0 = w.1 in cc
unheld k hs (box b gs bs) o (inr (inr x)) =
    let u : 1 ≤ times k.name bs = in_named bs (record { around = []; content = k; goals = hs }) x in
    both_none (holder_inside k.name gs) (holder_in k.name bs) (holder_inside-none k.name gs (omega (arith, u, o))) (unheld k hs bs (omega (arith, o)) x)

module _ (roots : Boxes) (once : (m : Name) → times m roots ≤ 1) where
  -- a box whose name is among a choice's alternatives
  pub alternative_at : (n g : Name) (e : Found) (o : Operator) (bs : Boxes) → home_of g roots ≡ Some e → held_in g e.goals ≡ Some (a_choice o bs) → IsIn n (box_names bs) → IsAlternativeAt n g e roots
  alternative_at n g e o bs h i m =
      let w : (k : Content) × (hs : Goals) × (n ≡ k.name) × BoxIn [] k hs bs = named_in n bs m in
      let x : BoxIn (e.around ++ e.content ∷ []) w.0 w.1 roots = in_deeper e.around e.content e.goals [] w.0 w.1 roots (home_in g roots e h).0 (held_inside g o bs [] w.0 w.1 e.goals i w.3) in
      record {
        holder = (holder_found n g o bs roots e (once n) h i (let c : 0 < times_in n (box_names bs) = counted_in n (box_names bs) m in omega arith)).0;
        found = record { around = e.around ++ e.content ∷ []; content = w.0; goals = w.1 };
        is_found = named_found roots once n (record { around = e.around ++ e.content ∷ []; content = w.0; goals = w.1 }) x w.2;
        around = refl;
      }

  pub root_box : (n : Name) → IsIn n (box_names roots) → IsRootBox n roots
  root_box n m =
      let w : (k : Content) × (hs : Goals) × (n ≡ k.name) × BoxIn [] k hs roots = named_in n roots m in
      record {
        found = record { around = []; content = w.0; goals = w.1 };
        is_found = named_found roots once n (record { around = []; content = w.0; goals = w.1 }) w.3 w.2;
        around = refl;
        holder = subst (λ (k : Name). holder_in k roots ≡ None) (sym w.2) (unheld w.0 w.1 roots (once w.0.name) w.3);
      }

  pub root_named : (n : Name) (f : Found) → box_at n roots ≡ Some f → f.around ≡ [] → IsIn n (box_names roots)
  root_named n f e r =
      subst (λ (k : Name). IsIn k (box_names roots)) (sym (box-itself n roots f e)) (first_in f.content f.goals roots (subst (λ (a : List Content). BoxIn a f.content f.goals roots) r (found_in n roots f e)))

  held_by : (n : Name) (f : Found) → box_at n roots ≡ Some f → Holder f.around f.content f.goals roots → (g : Name) × (holder_in n roots ≡ Some g) × IsHeldBy n g f roots
  held_by n f e h = (
    h.goal,
    (alternative_at n h.goal h.home h.op h.alternatives at_home h.held among).holder,
    record {
      home = h.home;
      op = h.op;
      alternatives = h.alternatives;
      is_home = at_home;
      held = h.held;
      among = among;
      around = h.path;
      names = ap (λ (a : List Content). names_around (record f { around = a })) h.path ∙ names_snoc h.home.around h.home.content;
      equations = ap (λ (a : List Content). environment (record f { around = a })) h.path ∙ equations-snoc h.home.around h.home.content;
    },
  )
    where
      at_home : home_of h.goal roots ≡ Some h.home
      at_home = in_home h.goal (a_choice h.op h.alternatives) roots h.home once h.stands h.held

      among : IsIn n (box_names h.alternatives)
      among = subst (λ (k : Name). IsIn k (box_names h.alternatives)) (sym (box-itself n roots f e)) (first_in f.content f.goals h.alternatives h.alternative)

  -- a box that is there is a root box, or a choice holds it
  pub held_or : (n : Name) (f : Found) → box_at n roots ≡ Some f → ((f.around ≡ []) × (holder_in n roots ≡ None)) ⊎ ((g : Name) × (holder_in n roots ≡ Some g) × IsHeldBy n g f roots)
  held_or n f e = elim (in_holder f.around f.content f.goals roots once (found_in n roots f e)) [
    | inl r ↦ inl (r, (root_box n (root_named n f e r)).holder)
    | inr h ↦ inr (held_by n f e h)
  ]

  pub unheld_around : (n : Name) (f : Found) → box_at n roots ≡ Some f → holder_in n roots ≡ None → f.around ≡ []
  unheld_around n f e z = elim (held_or n f e) [ inl r ↦ r.0 | inr h ↦ (let q : holder_in n roots ≡ Some h.0 = h.1 in absurd cc) ]

  pub held_around : (n g : Name) (f : Found) → box_at n roots ≡ Some f → holder_in n roots ≡ Some g → IsHeldBy n g f roots
  held_around n g f e i = elim (held_or n f e) [
    | inl r ↦ (let q : holder_in n roots ≡ None = r.1 in absurd cc)
    | inr h ↦ subst (λ (k : Name). IsHeldBy n k f roots) (some_value (sym h.1 ∙ i)) h.2
  ]

pub once_times : (roots : Boxes) → NamesOnce roots → (m : Name) → times m roots ≤ 1
once_times roots once m = let e : times_in m (names_of roots) ≡ times m roots = times-names m roots in let o : times_in m (names_of roots) ≤ 1 = once m in omega (arith, e, o)
