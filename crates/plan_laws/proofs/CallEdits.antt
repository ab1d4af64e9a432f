-- Edits of one box one after another, and of what stands in new boxes.
use Rattle.std.proofs.Common.{◌≡◌, ℕ, zero, suc, ◌+◌, List, [], ◌∷◌, Bool, true, false, Some, None, refl, sym, ap, subst, arith}
use Rattle.std.specs.Prelude.{if◌then◌else◌, slice_index, option_map}
use Rattle.akl_terms.specs.declared.name.Name.{Name}
use Rattle.akl_terms.specs.Names.{same_name}
use Rattle.akl_terms.proofs.SameNames.{same_name-refl}
use Rattle.akl_model.specs.Config.{Operator, Content, Boxes, no_boxes, box, Goals, no_goals, atom, choice, Held, a_choice, goal, with_content, without_goal, joined_boxes, Found, or_else, within, box_at, box_inside, edited, edited_inside}
use Rattle.akl_model.specs.Rules.{alternative_of}
use Rattle.akl_model.specs.Derivations.{raised}
use Rattle.akl_model.proofs.Options.{or_none, map_none}
use Rattle.akl_model.proofs.Finds.{edited-none, edited_inside-none}
use Rattle.plan_laws.specs.AtOnce.{inner}

-- next numbers

pub raised_own : (w k : ℕ) (xs : List ℕ) → slice_index (raised w k xs) w ≡ slice_index xs w + k
raised_own zero k [] = omega arith
raised_own (suc w) k [] = raised_own w k []
raised_own zero k (m ∷ ms) = refl
raised_own (suc w) k (m ∷ ms) = raised_own w k ms

pub raised_twice : (w m n : ℕ) (xs : List ℕ) → raised w n (raised w m xs) ≡ raised w (m + n) xs
raised_twice zero m n [] = refl
raised_twice (suc w) m n [] = ap (λ (ys : List ℕ). 0 ∷ ys) (raised_twice w m n [])
raised_twice zero m n (x ∷ xs) = let e : x + m + n ≡ x + (m + n) = omega arith in ap (λ (k : ℕ). k ∷ xs) e
raised_twice (suc w) m n (x ∷ xs) = ap (λ (ys : List ℕ). x ∷ ys) (raised_twice w m n xs)

-- a box that is edited and edited again
module _ (n : Name) (C : Content) (G : Goals) (new : Boxes) (its : same_name n C.name ≡ true) where
  mutual
    pub edited_twice : (bs : Boxes) → edited n new (edited n (box C G no_boxes) bs) ≡ edited n new bs
    edited_twice no_boxes = refl
    edited_twice (box b gs bs) = on (same_name n b.name) refl (edited_inside_twice gs) (edited_twice bs)
      where
        on : (t : Bool) → same_name n b.name ≡ t → edited_inside n new (edited_inside n (box C G no_boxes) gs) ≡ edited_inside n new gs → edited n new (edited n (box C G no_boxes) bs) ≡ edited n new bs
            → edited n new (if t then box C G (edited n (box C G no_boxes) bs) else box b (edited_inside n (box C G no_boxes) gs) (edited n (box C G no_boxes) bs))
            ≡ (if t then joined_boxes new (edited n new bs) else box b (edited_inside n new gs) (edited n new bs))
        on true r i j = subst (λ (t : Bool). (if t then joined_boxes new (edited n new (edited n (box C G no_boxes) bs)) else box C (edited_inside n new G) (edited n new (edited n (box C G no_boxes) bs)))
            ≡ joined_boxes new (edited n new bs)) (sym its) (ap (joined_boxes new) j)
        on false r i j = subst (λ (t : Bool). (if t then joined_boxes new (edited n new (edited n (box C G no_boxes) bs)) else box b (edited_inside n new (edited_inside n (box C G no_boxes) gs)) (edited n new (edited n (box C G no_boxes) bs)))
            ≡ box b (edited_inside n new gs) (edited n new bs)) (sym r) (λ k. box b (i k) (j k))

    pub edited_inside_twice : (gs : Goals) → edited_inside n new (edited_inside n (box C G no_boxes) gs) ≡ edited_inside n new gs
    edited_inside_twice no_goals = refl
    edited_inside_twice (atom g a gs) = ap (λ (x : Goals). atom g a x) (edited_inside_twice gs)
    edited_inside_twice (choice g o bs gs) =
        let i : edited n new (edited n (box C G no_boxes) bs) ≡ edited n new bs = edited_twice bs in
        let j : edited_inside n new (edited_inside n (box C G no_boxes) gs) ≡ edited_inside n new gs = edited_inside_twice gs in
        λ k. choice g o (i k) (j k)

-- no box of a name is found
pub record NotThere (m : Name) (b : Content) (gs : Goals) (bs : Boxes) : Type 0 where
  pub other : same_name m b.name ≡ false
  pub inside : box_inside m gs ≡ None
  pub rest : box_at m bs ≡ None

pub not_there : (m : Name) (b : Content) (gs : Goals) (bs : Boxes) → box_at m (box b gs bs) ≡ None → NotThere m b gs bs
not_there m b gs bs e = on (same_name m b.name) refl e
  where
    on : (t : Bool) → same_name m b.name ≡ t → (if t then Some (record { around = []; content = b; goals = gs }) else or_else (option_map (within b) (box_inside m gs)) (box_at m bs)) ≡ None → NotThere m b gs bs
    on true r i = cc
    on false r i =
        let w : (option_map (within b) (box_inside m gs) ≡ None) × (box_at m bs ≡ None) = or_none (option_map (within b) (box_inside m gs)) (box_at m bs) i in
        record { other = r; inside = map_none (within b) (box_inside m gs) w.0; rest = w.1 }

-- a box inside a new one goes or becomes others, and stands nowhere else
module _ (n m : Name) (C : Content) (G : Goals) (new : Boxes) (other : same_name m C.name ≡ false) where
  mutual
    pub edited_within : (bs : Boxes) → box_at m bs ≡ None → edited m new (edited n (box C G no_boxes) bs) ≡ edited n (box C (edited_inside m new G) no_boxes) bs
    edited_within no_boxes e = refl
    edited_within (box b gs bs) e =
        let y : NotThere m b gs bs = not_there m b gs bs e in
        on y.other (same_name n b.name) (edited_inside_within gs y.inside) (edited_within bs y.rest)
      where
        on : same_name m b.name ≡ false → (t : Bool) → edited_inside m new (edited_inside n (box C G no_boxes) gs) ≡ edited_inside n (box C (edited_inside m new G) no_boxes) gs
            → edited m new (edited n (box C G no_boxes) bs) ≡ edited n (box C (edited_inside m new G) no_boxes) bs
            → edited m new (if t then box C G (edited n (box C G no_boxes) bs) else box b (edited_inside n (box C G no_boxes) gs) (edited n (box C G no_boxes) bs))
            ≡ (if t then box C (edited_inside m new G) (edited n (box C (edited_inside m new G) no_boxes) bs)
            else box b (edited_inside n (box C (edited_inside m new G) no_boxes) gs) (edited n (box C (edited_inside m new G) no_boxes) bs))
        on r true i j = subst (λ (t : Bool). (if t then joined_boxes new (edited m new (edited n (box C G no_boxes) bs)) else box C (edited_inside m new G) (edited m new (edited n (box C G no_boxes) bs)))
            ≡ box C (edited_inside m new G) (edited n (box C (edited_inside m new G) no_boxes) bs)) (sym other) (λ k. box C (edited_inside m new G) (j k))
        on r false i j = subst (λ (t : Bool). (if t then joined_boxes new (edited m new (edited n (box C G no_boxes) bs)) else box b (edited_inside m new (edited_inside n (box C G no_boxes) gs)) (edited m new (edited n (box C G no_boxes) bs)))
            ≡ box b (edited_inside n (box C (edited_inside m new G) no_boxes) gs) (edited n (box C (edited_inside m new G) no_boxes) bs)) (sym r) (λ k. box b (i k) (j k))

    pub edited_inside_within : (gs : Goals) → box_inside m gs ≡ None → edited_inside m new (edited_inside n (box C G no_boxes) gs) ≡ edited_inside n (box C (edited_inside m new G) no_boxes) gs
    edited_inside_within no_goals e = refl
    edited_inside_within (atom g a gs) e = ap (λ (x : Goals). atom g a x) (edited_inside_within gs e)
    edited_inside_within (choice g o bs gs) e =
        let w : (box_at m bs ≡ None) × (box_inside m gs ≡ None) = or_none (box_at m bs) (box_inside m gs) e in
        let i : edited m new (edited n (box C G no_boxes) bs) ≡ edited n (box C (edited_inside m new G) no_boxes) bs = edited_within bs w.0 in
        let j : edited_inside m new (edited_inside n (box C G no_boxes) gs) ≡ edited_inside n (box C (edited_inside m new G) no_boxes) gs = edited_inside_within gs w.1 in
        λ k. choice g o (i k) (j k)

-- a goal with new content, edited inside or given other content or taken away

pub content_edited : (new : Boxes) (m g : Name) (o : Operator) (bs : Boxes) (gs : Goals) → box_inside m gs ≡ None → edited_inside m new (with_content g (a_choice o bs) gs) ≡ with_content g (a_choice o (edited m new bs)) gs
content_edited new m g o bs no_goals e = refl
content_edited new m g o bs (atom i b gs) e = on (same_name g i) (content_edited new m g o bs gs e)
  where
    on : (t : Bool) → edited_inside m new (with_content g (a_choice o bs) gs) ≡ with_content g (a_choice o (edited m new bs)) gs
        → edited_inside m new (if t then choice g o bs gs else atom i b (with_content g (a_choice o bs) gs)) ≡ (if t then choice g o (edited m new bs) gs else atom i b (with_content g (a_choice o (edited m new bs)) gs))
    on true j = ap (λ (x : Goals). choice g o (edited m new bs) x) (edited_inside-none m new gs e)
    on false j = ap (λ (x : Goals). atom i b x) j
content_edited new m g o bs (choice i q cs gs) e =
    let w : (box_at m cs ≡ None) × (box_inside m gs ≡ None) = or_none (box_at m cs) (box_inside m gs) e in
    on (same_name g i) (edited-none m new cs w.0) (edited_inside-none m new gs w.1) (content_edited new m g o bs gs w.1)
  where
    on : (t : Bool) → edited m new cs ≡ cs → edited_inside m new gs ≡ gs → edited_inside m new (with_content g (a_choice o bs) gs) ≡ with_content g (a_choice o (edited m new bs)) gs
        → edited_inside m new (if t then choice g o bs gs else choice i q cs (with_content g (a_choice o bs) gs)) ≡ (if t then choice g o (edited m new bs) gs else choice i q cs (with_content g (a_choice o (edited m new bs)) gs))
    on true x y j = ap (λ (x : Goals). choice g o (edited m new bs) x) y
    on false x y j = λ k. choice i q (x k) (j k)

pub content_twice : (g : Name) (h : Held) (o : Operator) (bs : Boxes) (gs : Goals) → with_content g h (with_content g (a_choice o bs) gs) ≡ with_content g h gs
content_twice g h o bs no_goals = refl
content_twice g h o bs (atom i b gs) = on (same_name g i) refl (content_twice g h o bs gs)
  where
    on : (t : Bool) → same_name g i ≡ t → with_content g h (with_content g (a_choice o bs) gs) ≡ with_content g h gs
        → with_content g h (if t then choice g o bs gs else atom i b (with_content g (a_choice o bs) gs)) ≡ (if t then goal g h gs else atom i b (with_content g h gs))
    on true r j = subst (λ (t : Bool). (if t then goal g h gs else choice g o bs (with_content g h gs)) ≡ goal g h gs) (sym (same_name-refl g)) refl
    on false r j = subst (λ (t : Bool). (if t then goal g h (with_content g (a_choice o bs) gs) else atom i b (with_content g h (with_content g (a_choice o bs) gs))) ≡ atom i b (with_content g h gs)) (sym r) (ap (λ (x : Goals). atom i b x) j)
content_twice g h o bs (choice i q cs gs) = on (same_name g i) refl (content_twice g h o bs gs)
  where
    on : (t : Bool) → same_name g i ≡ t → with_content g h (with_content g (a_choice o bs) gs) ≡ with_content g h gs
        → with_content g h (if t then choice g o bs gs else choice i q cs (with_content g (a_choice o bs) gs)) ≡ (if t then goal g h gs else choice i q cs (with_content g h gs))
    on true r j = subst (λ (t : Bool). (if t then goal g h gs else choice g o bs (with_content g h gs)) ≡ goal g h gs) (sym (same_name-refl g)) refl
    on false r j = subst (λ (t : Bool). (if t then goal g h (with_content g (a_choice o bs) gs) else choice i q cs (with_content g h (with_content g (a_choice o bs) gs))) ≡ choice i q cs (with_content g h gs)) (sym r) (ap (λ (x : Goals). choice i q cs x) j)

pub content_without : (g : Name) (o : Operator) (bs : Boxes) (gs : Goals) → without_goal g (with_content g (a_choice o bs) gs) ≡ without_goal g gs
content_without g o bs no_goals = refl
content_without g o bs (atom i b gs) = on (same_name g i) refl (content_without g o bs gs)
  where
    on : (t : Bool) → same_name g i ≡ t → without_goal g (with_content g (a_choice o bs) gs) ≡ without_goal g gs
        → without_goal g (if t then choice g o bs gs else atom i b (with_content g (a_choice o bs) gs)) ≡ (if t then gs else atom i b (without_goal g gs))
    on true r j = subst (λ (t : Bool). (if t then gs else choice g o bs (without_goal g gs)) ≡ gs) (sym (same_name-refl g)) refl
    on false r j = subst (λ (t : Bool). (if t then with_content g (a_choice o bs) gs else atom i b (without_goal g (with_content g (a_choice o bs) gs))) ≡ atom i b (without_goal g gs)) (sym r) (ap (λ (x : Goals). atom i b x) j)
content_without g o bs (choice i q cs gs) = on (same_name g i) refl (content_without g o bs gs)
  where
    on : (t : Bool) → same_name g i ≡ t → without_goal g (with_content g (a_choice o bs) gs) ≡ without_goal g gs
        → without_goal g (if t then choice g o bs gs else choice i q cs (with_content g (a_choice o bs) gs)) ≡ (if t then gs else choice i q cs (without_goal g gs))
    on true r j = subst (λ (t : Bool). (if t then gs else choice g o bs (without_goal g gs)) ≡ gs) (sym (same_name-refl g)) refl
    on false r j = subst (λ (t : Bool). (if t then with_content g (a_choice o bs) gs else choice i q cs (without_goal g (with_content g (a_choice o bs) gs))) ≡ choice i q cs (without_goal g gs)) (sym r) (ap (λ (x : Goals). choice i q cs x) j)

-- an alternative among others goes or becomes others
pub edited_among : (new : Boxes) (b : Content) (gs : Goals) (rest pre : Boxes) → box_at b.name pre ≡ None → box_at b.name rest ≡ None → edited b.name new (joined_boxes pre (box b gs rest)) ≡ joined_boxes pre (joined_boxes new rest)
edited_among new b gs rest no_boxes x y = subst (λ (t : Bool). (if t then joined_boxes new (edited b.name new rest) else box b (edited_inside b.name new gs) (edited b.name new rest)) ≡ joined_boxes new rest) (sym (same_name-refl b.name))
    (ap (joined_boxes new) (edited-none b.name new rest y))
edited_among new b gs rest (box q hs ps) x y =
    let z : NotThere b.name q hs ps = not_there b.name q hs ps x in
    let i : edited_inside b.name new hs ≡ hs = edited_inside-none b.name new hs z.inside in
    let j : edited b.name new (joined_boxes ps (box b gs rest)) ≡ joined_boxes ps (joined_boxes new rest) = edited_among new b gs rest ps z.rest y in
    subst (λ (t : Bool). (if t then joined_boxes new (edited b.name new (joined_boxes ps (box b gs rest))) else box q (edited_inside b.name new hs) (edited b.name new (joined_boxes ps (box b gs rest)))) ≡ box q hs (joined_boxes ps (joined_boxes new rest))) (sym z.other)
    (λ k. box q (i k) (j k))

pub joined_one : (pre : Boxes) (b : Content) (gs : Goals) (bs : Boxes) → joined_boxes (joined_boxes pre (box b gs no_boxes)) bs ≡ joined_boxes pre (box b gs bs)
joined_one no_boxes b gs bs = refl
joined_one (box q hs ps) b gs bs = ap (λ (x : Boxes). box q hs x) (joined_one ps b gs bs)

-- an alternative is looked for by what stands around
pub alternative_same : (f : Found) (G : Goals) (n : Name) (bs : Boxes) → alternative_of (record { around = f.around; content = f.content; goals = G }) n bs ≡ alternative_of f n bs
alternative_same f G n no_boxes = refl
alternative_same f G n (box b gs bs) = on (same_name n b.name) (alternative_same f G n bs)
  where
    on : (t : Bool) → alternative_of (record { around = f.around; content = f.content; goals = G }) n bs ≡ alternative_of f n bs
        → (if t then Some (inner f b gs) else alternative_of (record { around = f.around; content = f.content; goals = G }) n bs) ≡ (if t then Some (inner f b gs) else alternative_of f n bs)
    on true e = refl
    on false e = e
