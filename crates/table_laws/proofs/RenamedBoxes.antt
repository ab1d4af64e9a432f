-- Boxes under new names: what stands in them, what is found, and the choices that hold boxes.
use Rattle.std.proofs.Common.{◌≡◌, ◌+◌, ◌≤◌, List, [], ◌∷◌, ◌++◌, map, Bool, true, false, Some, None, refl, sym, ◌∙◌, ap, subst, ◌⊎◌, inl, inr, arith}
use Rattle.std.specs.Prelude.{if◌then◌else◌, option_map}
use Rattle.akl_terms.specs.declared.name.Name.{Name}
use Rattle.akl_terms.specs.Equal.{Equations}
use Rattle.akl_terms.specs.Names.{same_name}
use Rattle.akl_terms.proofs.SameNames.{same_name-equal, same_name-refl}
use Rattle.akl_model.specs.Config.{IsIn, Content, Boxes, no_boxes, box, Goals, no_goals, atom, choice, Held, an_atom, a_choice, held_in, Found, equations_of, environment, whole, box_at, home_of}
use Rattle.akl_model.specs.Renaming.{renamed_atom, renamed_operator, renamed_equation, renamed_content, renamed, renamed_goals}
use Rattle.akl_model.specs.Names.{one_if}
use Rattle.akl_model.specs.Changes.{box_names}
use Rattle.akl_model.specs.Wakes.{holder_in}
use Rattle.akl_model.proofs.Finds.{times, times_inside}
use Rattle.akl_model.proofs.NamesKept.{box-itself}
use Rattle.step_laws.specs.Whereabouts.{BoxIn, InGoals}
use Rattle.step_laws.specs.Holders.{IsHeldBy}
use Rattle.step_laws.proofs.Whereabouts.{found_in, in_home, home_in, held_counted}
use Rattle.step_laws.proofs.Deeper.{named_found}
use Rattle.step_laws.proofs.Holders.{alternative_at, held_or, root_box, root_named}
use Rattle.table_laws.proofs.Gone.{goals_once}
use Rattle.table_laws.proofs.Renamed.{equations_append}

module _ (f : Name → Name) where
  mutual
    pub in_renamed : (r : List Content) (k : Content) (hs : Goals) (bs : Boxes) → BoxIn r k hs (renamed f bs)
        → (q : List Content) × (j : Content) × (is : Goals) × BoxIn q j is bs × (r ≡ map (renamed_content f) q) × (k ≡ renamed_content f j) × (hs ≡ renamed_goals f is)
    in_renamed r k hs no_boxes x = absurd x
    in_renamed r k hs (box b gs bs) (inl e) = ([], b, gs, inl (refl, refl, refl), e.0, e.1, e.2)
    in_renamed r k hs (box b gs bs) (inr (inl (rest, p, x))) =
        let w : _ = in_renamed_goals rest k hs gs x in
        (b ∷ w.0, w.1, w.2, inr (inl (w.0, refl, w.3)), p ∙ ap (λ (u : List Content). renamed_content f b ∷ u) w.4, w.5, w.6)
    in_renamed r k hs (box b gs bs) (inr (inr x)) = let w : _ = in_renamed r k hs bs x in (w.0, w.1, w.2, inr (inr w.3), w.4, w.5, w.6)

    pub in_renamed_goals : (r : List Content) (k : Content) (hs : Goals) (gs : Goals) → InGoals r k hs (renamed_goals f gs)
        → (q : List Content) × (j : Content) × (is : Goals) × InGoals q j is gs × (r ≡ map (renamed_content f) q) × (k ≡ renamed_content f j) × (hs ≡ renamed_goals f is)
    in_renamed_goals r k hs no_goals x = absurd x
    in_renamed_goals r k hs (atom g a gs) x = in_renamed_goals r k hs gs x
    in_renamed_goals r k hs (choice g o bs gs) (inl x) = let w : _ = in_renamed r k hs bs x in (w.0, w.1, w.2, inl w.3, w.4, w.5, w.6)
    in_renamed_goals r k hs (choice g o bs gs) (inr x) = let w : _ = in_renamed_goals r k hs gs x in (w.0, w.1, w.2, inr w.3, w.4, w.5, w.6)

  mutual
    renamed_in : (r : List Content) (k : Content) (hs : Goals) (bs : Boxes) → BoxIn r k hs bs → BoxIn (map (renamed_content f) r) (renamed_content f k) (renamed_goals f hs) (renamed f bs)
    renamed_in r k hs no_boxes x = absurd x
    renamed_in r k hs (box b gs bs) (inl e) = inl (ap (map (renamed_content f)) e.0, ap (renamed_content f) e.1, ap (renamed_goals f) e.2)
    renamed_in r k hs (box b gs bs) (inr (inl (rest, p, x))) = inr (inl (map (renamed_content f) rest, ap (map (renamed_content f)) p, renamed_in_goals rest k hs gs x))
    renamed_in r k hs (box b gs bs) (inr (inr x)) = inr (inr (renamed_in r k hs bs x))

    renamed_in_goals : (r : List Content) (k : Content) (hs gs : Goals) → InGoals r k hs gs → InGoals (map (renamed_content f) r) (renamed_content f k) (renamed_goals f hs) (renamed_goals f gs)
    renamed_in_goals r k hs no_goals x = absurd x
    renamed_in_goals r k hs (atom g a gs) x = renamed_in_goals r k hs gs x
    renamed_in_goals r k hs (choice g o bs gs) (inl x) = inl (renamed_in r k hs bs x)
    renamed_in_goals r k hs (choice g o bs gs) (inr x) = inr (renamed_in_goals r k hs gs x)

  abbrev pub renamed_found : Found → Found
  renamed_found e = record { around = map (renamed_content f) e.around; content = renamed_content f e.content; goals = renamed_goals f e.goals }

  abbrev renamed_held : Held → Held
  renamed_held (an_atom a) = an_atom (renamed_atom f a)
  renamed_held (a_choice o bs) = a_choice (renamed_operator f o) (renamed f bs)

  equations_around : (bs : List Content) → equations_of (map (renamed_content f) bs) ≡ map (renamed_equation f) (equations_of bs)
  equations_around [] = refl
  equations_around (b ∷ bs) = ap (λ (E : Equations). map (renamed_equation f) b.equations ++ E) (equations_around bs) ∙ sym (equations_append f b.equations (equations_of bs))

  pub environment_renamed : (e : Found) → environment (renamed_found e) ≡ map (renamed_equation f) (environment e)
  environment_renamed e = equations_around e.around

  pub whole_renamed : (e : Found) → whole (renamed_found e) ≡ map (renamed_equation f) (whole e)
  whole_renamed e = ap (λ (E : Equations). E ++ map (renamed_equation f) e.content.equations) (equations_around e.around) ∙ sym (equations_append f (environment e) e.content.equations)

  pub names_renamed : (bs : Boxes) → box_names (renamed f bs) ≡ map f (box_names bs)
  names_renamed no_boxes = refl
  names_renamed (box b gs bs) = ap (λ (ns : List Name). f b.name ∷ ns) (names_renamed bs)

  in_map : (m : Name) (ns : List Name) → IsIn m ns → IsIn (f m) (map f ns)
  in_map m [] i = i
  in_map m (n ∷ ns) (inl e) = inl (ap f e)
  in_map m (n ∷ ns) (inr i) = inr (in_map m ns i)

  held_renamed : (g : Name) (h : Held) (gs : Goals) → ((m : Name) → times_inside m (renamed_goals f gs) ≤ 1) → held_in g gs ≡ Some h → held_in (f g) (renamed_goals f gs) ≡ Some (renamed_held h)
  held_renamed g h no_goals once e = cc
  held_renamed g h (atom i a gs) once e = on (same_name g i) refl e (λ q. held_renamed g h gs (λ m. let o : one_if (same_name m (f i)) + times_inside m (renamed_goals f gs) ≤ 1 = once m in omega arith) q)
    where
      on : (t : Bool) → same_name g i ≡ t → (if t then Some (an_atom a) else held_in g gs) ≡ Some h → (held_in g gs ≡ Some h → held_in (f g) (renamed_goals f gs) ≡ Some (renamed_held h))
          → (if same_name (f g) (f i) then Some (an_atom (renamed_atom f a)) else held_in (f g) (renamed_goals f gs)) ≡ Some (renamed_held h)
      on true q z k =
          let t : same_name (f g) (f i) ≡ true = subst (λ (m : Name). same_name (f g) (f m) ≡ true) (same_name-equal g i q) (same_name-refl (f g)) in
          ap (λ (v : Bool). if v then Some (an_atom (renamed_atom f a)) else held_in (f g) (renamed_goals f gs)) t ∙ ap (option_map renamed_held) z
      on false q z k = past (same_name (f g) (f i)) refl
        where
          past : (v : Bool) → same_name (f g) (f i) ≡ v → (if v then Some (an_atom (renamed_atom f a)) else held_in (f g) (renamed_goals f gs)) ≡ Some (renamed_held h)
          past true p =
              let x : one_if (same_name (f g) (f i)) ≡ 1 = ap one_if p in
              let y : 1 ≤ times_inside (f g) (renamed_goals f gs) = held_counted (f g) (renamed_held h) (renamed_goals f gs) (k z) in
              let o : one_if (same_name (f g) (f i)) + times_inside (f g) (renamed_goals f gs) ≤ 1 = once (f g) in
              absurd (omega arith)
          past false p = k z
  held_renamed g h (choice i o bs gs) once e =
      on (same_name g i) refl e (λ q. held_renamed g h gs (λ m. let w : one_if (same_name m (f i)) + (times m (renamed f bs) + times_inside m (renamed_goals f gs)) ≤ 1 = once m in omega arith) q)
    where
      on : (t : Bool) → same_name g i ≡ t → (if t then Some (a_choice o bs) else held_in g gs) ≡ Some h → (held_in g gs ≡ Some h → held_in (f g) (renamed_goals f gs) ≡ Some (renamed_held h))
          → (if same_name (f g) (f i) then Some (a_choice (renamed_operator f o) (renamed f bs)) else held_in (f g) (renamed_goals f gs)) ≡ Some (renamed_held h)
      on true q z k =
          let t : same_name (f g) (f i) ≡ true = subst (λ (m : Name). same_name (f g) (f m) ≡ true) (same_name-equal g i q) (same_name-refl (f g)) in
          ap (λ (v : Bool). if v then Some (a_choice (renamed_operator f o) (renamed f bs)) else held_in (f g) (renamed_goals f gs)) t ∙ ap (option_map renamed_held) z
      on false q z k = past (same_name (f g) (f i)) refl
        where
          past : (v : Bool) → same_name (f g) (f i) ≡ v → (if v then Some (a_choice (renamed_operator f o) (renamed f bs)) else held_in (f g) (renamed_goals f gs)) ≡ Some (renamed_held h)
          past true p =
              let x : one_if (same_name (f g) (f i)) ≡ 1 = ap one_if p in
              let y : 1 ≤ times_inside (f g) (renamed_goals f gs) = held_counted (f g) (renamed_held h) (renamed_goals f gs) (k z) in
              let w : one_if (same_name (f g) (f i)) + (times (f g) (renamed f bs) + times_inside (f g) (renamed_goals f gs)) ≤ 1 = once (f g) in
              absurd (omega arith)
          past false p = k z

  -- where names stand once, before and afterwards
  module _ (bs : Boxes) (once : (m : Name) → times m bs ≤ 1) (still : (m : Name) → times m (renamed f bs) ≤ 1) where
    pub found_renamed : (m : Name) (e : Found) → box_at m bs ≡ Some e → box_at (f m) (renamed f bs) ≡ Some (renamed_found e)
    found_renamed m e i = named_found (renamed f bs) still (f m) (renamed_found e) (renamed_in e.around e.content e.goals bs (found_in m bs e i)) (ap f (box-itself m bs e i))

    pub found_was : (m : Name) (k : Found) → box_at m (renamed f bs) ≡ Some k → (e : Found) × (box_at e.content.name bs ≡ Some e) × (k ≡ renamed_found e) × (m ≡ f e.content.name)
    found_was m k i =
        let w : _ = in_renamed k.around k.content k.goals bs (found_in m (renamed f bs) k i) in
        let e : Found = record { around = w.0; content = w.1; goals = w.2 } in
        (e, named_found bs once w.1.name e w.3 refl, (λ z. record { around = w.4 z; content = w.5 z; goals = w.6 z }), box-itself m (renamed f bs) k i ∙ ap (λ (b : Content). b.name) w.5)

    home_renamed : (g : Name) (e : Found) (h : Held) → home_of g bs ≡ Some e → held_in g e.goals ≡ Some h → (home_of (f g) (renamed f bs) ≡ Some (renamed_found e)) × (held_in (f g) (renamed_goals f e.goals) ≡ Some (renamed_held h))
    home_renamed g e h i j =
        let x : BoxIn (map (renamed_content f) e.around) (renamed_content f e.content) (renamed_goals f e.goals) (renamed f bs) = renamed_in e.around e.content e.goals bs (home_in g bs e i).0 in
        let k : held_in (f g) (renamed_goals f e.goals) ≡ Some (renamed_held h) = held_renamed g h e.goals (goals_once (renamed f bs) still (renamed_found e) x) j in
        (in_home (f g) (renamed_held h) (renamed f bs) (renamed_found e) still x k, k)

    -- the choice that holds a box
    pub holder_renamed : (m : Name) (e : Found) → box_at m bs ≡ Some e → holder_in (f m) (renamed f bs) ≡ option_map f (holder_in m bs)
    holder_renamed m e i = on (held_or bs once m e i)
      where
        on : ((e.around ≡ []) × (holder_in m bs ≡ None)) ⊎ ((g : Name) × (holder_in m bs ≡ Some g) × IsHeldBy m g e bs) → holder_in (f m) (renamed f bs) ≡ option_map f (holder_in m bs)
        on (inl x) = (root_box (renamed f bs) still (f m) (root_named (renamed f bs) still (f m) (renamed_found e) (found_renamed m e i) (ap (map (renamed_content f)) x.0))).holder ∙ sym (ap (option_map f) x.1)
        on (inr (g, x, y)) =
            let w : (home_of (f g) (renamed f bs) ≡ Some (renamed_found y.home)) × (held_in (f g) (renamed_goals f y.home.goals) ≡ Some (a_choice (renamed_operator f y.op) (renamed f y.alternatives))) =
            home_renamed g y.home (a_choice y.op y.alternatives) y.is_home y.held in
            (alternative_at (renamed f bs) still (f m) (f g) (renamed_found y.home) (renamed_operator f y.op) (renamed f y.alternatives) w.0 w.1
            (subst (IsIn (f m)) (sym (names_renamed y.alternatives)) (in_map m (box_names y.alternatives) y.among))).holder ∙ sym (ap (option_map f) x)
