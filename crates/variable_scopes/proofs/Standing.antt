-- The state that stands where some variables are known, one more of them, and on the way in and out of a collecting goal.
use Rattle.std.proofs.Common.{◌≡◌, ◌≢◌, ℕ, suc, ◌<◌, ◌≤◌, Bool, true, false, ◌||◌, cond, List, [], ◌∷◌, ◌++◌, length, map, Option, Some, None, get_or, refl, sym, ap, subst, ◌∙◌, arith}
use Rattle.std.specs.Prelude.{◌==◌, slice_set, unwrap_or}
use Rattle.std.proofs.lemmas.Bool.Decides.{nat_tests}
use Rattle.std.proofs.lemmas.List.{get_or-set_same, get_or-set_other, length-set, length-map, map_push}
use Rattle.variable_scopes.specs.Numbering.{State, number, with_next, unless_numbered, after_one, cleared, entered, named, restored, after_inside, AreBelow}
use Rattle.variable_scopes.specs.Scoped.{same, place_of, added}
use Rattle.variable_scopes.specs.Variables.{Variable, Collecting, has, binder, variable_at}
use Rattle.variable_scopes.proofs.Places.{other_goal, other_spelling, place_grows, place_new, place_other, added_known, added_new}

-- m spellings, these collecting goals around and these variables known
pub record Stands (m : ℕ) (around : List Collecting) (known : List Variable) (s : State) : Type 0 where
  pub size : length s.current ≡ m
  pub found : s.found ≡ map (λ v. v.spelling) known
  pub current : (n : ℕ) → n < m → get_or s.current n None ≡ place_of (variable_at around n) known

-- every collecting goal so far has a number below the next
pub record Below (next : ℕ) (around : List Collecting) (known : List Variable) : Type 0 where
  pub binders : (n : ℕ) → binder around n < next
  pub locals : (v : Variable) (m : ℕ) → place_of v known ≡ Some m → v.local_to < next

abbrev pub Extends : List Variable → List Variable → Type 0
Extends ks ls = (v : Variable) (m : ℕ) → place_of v ks ≡ Some m → place_of v ls ≡ Some m

-- behind known variables come only such as are named here or are local to later collecting goals
pub record Keeps (next : ℕ) (around : List Collecting) (ks ls : List Variable) : Type 0 where
  pub grows : Extends ks ls
  pub others : (v : Variable) → v.local_to < next → (v.local_to ≡ binder around v.spelling → ⊥) → place_of v ls ≡ place_of v ks

abbrev pub number_in : List Variable → Variable → ℕ
number_in known v = unwrap_or (place_of v known) 0

-- ---- one more
pub record OneMore (m next : ℕ) (around : List Collecting) (known : List Variable) (s : State) (n : ℕ) (more : List Variable) (t : State) : Type 0 where
  pub stands : Stands m around more t
  pub below : Below next around more
  pub keeps : Keeps next around known more
  pub placed : place_of (variable_at around n) more ≡ Some (number s n)

pub keeps_all : (next : ℕ) (around : List Collecting) (ks : List Variable) → Keeps next around ks ks
keeps_all next around ks = record { grows = λ v m e. e; others = λ v l d. refl }

one_known : {m next : ℕ} {around : List Collecting} {known : List Variable} {s : State} (n k : ℕ) → Stands m around known s → Below next around known → n < m → place_of (variable_at around n) known ≡ Some k → OneMore m next around known s n (added known (variable_at around n)) (after_one s n)
one_known {m} {next} {around} {known} {s} n k st be l e =
    let at : get_or s.current n None ≡ Some k = st.current n l ∙ e in
    let same_state : after_one s n ≡ s = ap (λ (z : Option ℕ). unless_numbered z s (with_next s n)) at in
    let same_known : added known (variable_at around n) ≡ known = added_known known (variable_at around n) k e in
    let given : number s n ≡ k = ap (λ (z : Option ℕ). unwrap_or z (length s.found)) at in
    rw (same_known, same_state) (record { stands = st; below = be; keeps = keeps_all next around known; placed = e ∙ ap Some (sym given) })

one_new : {m next : ℕ} {around : List Collecting} {known : List Variable} {s : State} (n : ℕ) → Stands m around known s → Below next around known → n < m → place_of (variable_at around n) known ≡ None → OneMore m next around known s n (added known (variable_at around n)) (after_one s n)
one_new {m} {next} {around} {known} {s} n st be l e =
    let v : Variable = variable_at around n in
    let at : get_or s.current n None ≡ None = st.current n l ∙ e in
    let next_state : after_one s n ≡ with_next s n = ap (λ (z : Option ℕ). unless_numbered z s (with_next s n)) at in
    let more : added known v ≡ known ++ v ∷ [] = added_new known v e in
    let count : length s.found ≡ length known = ap length st.found ∙ length-map known (λ w. w.spelling) in
    let given : number s n ≡ length s.found = ap (λ (z : Option ℕ). unwrap_or z (length s.found)) at in
    rw (more, next_state) (record {
      stands = record {
        size = length-set s.current n (Some (length s.found)) ∙ st.size;
        found = ap (λ (z : List ℕ). z ++ n ∷ []) st.found ∙ sym (map_push (λ w. w.spelling) known v);
        current = λ k b. by_test k b (n == k) refl;
      };
      below = record { binders = be.binders; locals = λ w k f. was_below w (same v w) refl k f };
      keeps = record {
        grows = λ w k f. place_grows w known (v ∷ []) k f;
        others = λ w b d. place_other w v known (not_this w d);
      };
      placed = place_new v known e ∙ ap Some (sym (given ∙ count));
    })
  where
    by_test : (k : ℕ) → k < m → (b : Bool) → (n == k) ≡ b → get_or (slice_set s.current n (Some (length s.found))) k None ≡ place_of (variable_at around k) (known ++ variable_at around n ∷ [])
    by_test k h true f =
        let eq : n ≡ k = grind (arith, nat_tests, f) in
        let room : n < length s.current = omega (arith, st.size, l) in
        let count : length s.found ≡ length known = ap length st.found ∙ length-map known (λ w. w.spelling) in
        subst (λ (z : ℕ). get_or (slice_set s.current n (Some (length s.found))) z None ≡ place_of (variable_at around z) (known ++ variable_at around n ∷ [])) eq
        (get_or-set_same s.current n (Some (length s.found)) None room ∙ ap Some count ∙ sym (place_new (variable_at around n) known e))
    by_test k h false f =
        let apart : k ≢ n = λ g. absurd (let y : (n == k) ≡ true = grind (arith, nat_tests, g) in cc) in
        get_or-set_other s.current n k (Some (length s.found)) None apart ∙ st.current k h ∙ sym (place_other (variable_at around k) (variable_at around n) known (other_spelling (variable_at around n) (variable_at around k) (λ g. apart (sym g))))

    not_this : (w : Variable) → (w.local_to ≡ binder around w.spelling → ⊥) → same (variable_at around n) w ≡ false
    not_this w d = by_spelling (n == w.spelling) refl
      where
        by_spelling : (b : Bool) → (n == w.spelling) ≡ b → same (variable_at around n) w ≡ false
        by_spelling true f = let eq : n ≡ w.spelling = grind (arith, nat_tests, f) in other_goal (variable_at around n) w (λ g. d (sym g ∙ ap (binder around) eq))
        by_spelling false f = other_spelling (variable_at around n) w (λ g. absurd (let y : (n == w.spelling) ≡ true = grind (arith, nat_tests, g) in cc))

    was_below : (w : Variable) (b : Bool) → same (variable_at around n) w ≡ b → (k : ℕ) → place_of w (known ++ variable_at around n ∷ []) ≡ Some k → w.local_to < next
    was_below w true f k g = let eq : binder around n ≡ w.local_to = grind (arith, nat_tests, f) in omega (arith, eq, be.binders n)
    was_below w false f k g = be.locals w k (sym (place_other w (variable_at around n) known f) ∙ g)

pub one_more : {m next : ℕ} {around : List Collecting} {known : List Variable} {s : State} (n : ℕ) → Stands m around known s → Below next around known → n < m → OneMore m next around known s n (added known (variable_at around n)) (after_one s n)
one_more {m} {next} {around} {known} {s} n st be l = by_place (place_of (variable_at around n) known) refl
  where
    by_place : (o : Option ℕ) → place_of (variable_at around n) known ≡ o → OneMore m next around known s n (added known (variable_at around n)) (after_one s n)
    by_place (Some k) e = one_known n k st be l e
    by_place None e = one_new n st be l e

-- ---- into a collecting goal
pub length-cleared : (current : List (Option ℕ)) (ns : List ℕ) → length (cleared current ns) ≡ length current
length-cleared current [] = refl
length-cleared current (n ∷ ns) = length-cleared (slice_set current n None) ns ∙ length-set current n None

apart : (k n : ℕ) → (k == n) ≡ false → n ≢ k
apart k n e f = absurd (let g : (k == n) ≡ true = grind (arith, nat_tests, f) in cc)

cleared_none : (current : List (Option ℕ)) (ns : List ℕ) (n : ℕ) → AreBelow (length current) ns → get_or current n None ≡ None → get_or (cleared current ns) n None ≡ None
cleared_none current [] n b e = e
cleared_none current (k ∷ ns) n b e = cleared_none (slice_set current k None) ns n (subst (λ (z : ℕ). AreBelow z ns) (sym (length-set current k None)) b.1) (by_test (k == n) refl)
  where
    by_test : (c : Bool) → (k == n) ≡ c → get_or (slice_set current k None) n None ≡ None
    by_test true f = let eq : k ≡ n = grind (arith, nat_tests, f) in subst (λ (z : ℕ). get_or (slice_set current k None) z None ≡ None) eq (get_or-set_same current k None None b.0)
    by_test false f = get_or-set_other current k n None None (apart k n f) ∙ e

cleared_has : (current : List (Option ℕ)) (ns : List ℕ) (n : ℕ) → AreBelow (length current) ns → has n ns ≡ true → get_or (cleared current ns) n None ≡ None
cleared_has current [] n b h = absurd cc
cleared_has current (k ∷ ns) n b h =
    let rest_below : AreBelow (length (slice_set current k None)) ns = subst (λ (z : ℕ). AreBelow z ns) (sym (length-set current k None)) b.1 in
    by_test rest_below (cleared_has (slice_set current k None) ns n rest_below) (k == n) refl h
  where
    by_test : AreBelow (length (slice_set current k None)) ns → (has n ns ≡ true → get_or (cleared (slice_set current k None) ns) n None ≡ None) → (c : Bool) → (k == n) ≡ c → (c || has n ns) ≡ true → get_or (cleared (slice_set current k None) ns) n None ≡ None
    by_test below again true f g =
        let eq : k ≡ n = grind (arith, nat_tests, f) in
        cleared_none (slice_set current k None) ns n below (subst (λ (z : ℕ). get_or (slice_set current k None) z None ≡ None) eq (get_or-set_same current k None None b.0))
    by_test below again false f g = again g

cleared_other : (current : List (Option ℕ)) (ns : List ℕ) (n : ℕ) → has n ns ≡ false → get_or (cleared current ns) n None ≡ get_or current n None
cleared_other current [] n h = refl
cleared_other current (k ∷ ns) n h = by_test (cleared_other (slice_set current k None) ns n) (k == n) refl h
  where
    by_test : (has n ns ≡ false → get_or (cleared (slice_set current k None) ns) n None ≡ get_or (slice_set current k None) n None) → (c : Bool) → (k == n) ≡ c → (c || has n ns) ≡ false → get_or (cleared (slice_set current k None) ns) n None ≡ get_or current n None
    by_test again true f g = absurd cc
    by_test again false f g = again g ∙ get_or-set_other current k n None None (apart k n f)

abbrev pub inside : ℕ → List ℕ → List Collecting → List Collecting
inside next ns around = record { number = next; spellings = ns } ∷ around

here : (next n : ℕ) (ns : List ℕ) (around : List Collecting) → has n ns ≡ true → binder (inside next ns around) n ≡ next
here next n ns around e = ap (λ (z : Bool). cond z next (binder around n)) e

outer : (next n : ℕ) (ns : List ℕ) (around : List Collecting) → has n ns ≡ false → binder (inside next ns around) n ≡ binder around n
outer next n ns around e = ap (λ (z : Bool). cond z next (binder around n)) e

unknown : (next : ℕ) (around : List Collecting) (known : List Variable) → Below next around known → (v : Variable) → v.local_to ≡ next → place_of v known ≡ None
unknown next around known be v e = by_place (place_of v known) refl
  where
    by_place : (o : Option ℕ) → place_of v known ≡ o → place_of v known ≡ None
    by_place None f = f
    by_place (Some k) f = absurd (omega (arith, be.locals v k f, e))

pub stands_inside : {m next : ℕ} {around : List Collecting} {known : List Variable} {s : State} (ns : List ℕ) → Stands m around known s → Below next around known → AreBelow m ns → Stands m (inside next ns around) known (entered s ns)
stands_inside {m} {next} {around} {known} {s} ns st be b = record {
  size = length-cleared s.current ns ∙ st.size;
  found = st.found;
  current = λ n l. by_test n l (has n ns) refl;
}
  where
    by_test : (n : ℕ) → n < m → (c : Bool) → has n ns ≡ c → get_or (cleared s.current ns) n None ≡ place_of (variable_at (inside next ns around) n) known
    by_test n l true e = cleared_has s.current ns n (subst (λ (z : ℕ). AreBelow z ns) (sym st.size) b) e ∙ sym (unknown next around known be (variable_at (inside next ns around) n) (here next n ns around e))
    by_test n l false e = cleared_other s.current ns n e ∙ st.current n l ∙ sym (ap (λ (z : ℕ). place_of (record { local_to = z; spelling = n }) known) (outer next n ns around e))

pub below_inside : {next : ℕ} {around : List Collecting} {known : List Variable} (ns : List ℕ) → Below next around known → Below (suc next) (inside next ns around) known
below_inside {next} {around} ns be = record {
  binders = λ n. by_test n (has n ns) refl;
  locals = λ v k e. omega (arith, be.locals v k e);
}
  where
    by_test : (n : ℕ) (c : Bool) → has n ns ≡ c → binder (inside next ns around) n < suc next
    by_test n true e = omega (arith, here next n ns around e)
    by_test n false e = omega (arith, outer next n ns around e, be.binders n)

-- ---- and out of it
pub length-restored : (current : List (Option ℕ)) (s : State) (ns : List ℕ) → length (restored current (named s ns)) ≡ length current
length-restored current s [] = refl
length-restored current s (n ∷ ns) = length-restored (slice_set current n (get_or s.current n None)) s ns ∙ length-set current n (get_or s.current n None)

restored_other : (current : List (Option ℕ)) (s : State) (ns : List ℕ) (n : ℕ) → has n ns ≡ false → get_or (restored current (named s ns)) n None ≡ get_or current n None
restored_other current s [] n h = refl
restored_other current s (k ∷ ns) n h = by_test (restored_other (slice_set current k (get_or s.current k None)) s ns n) (k == n) refl h
  where
    by_test : (has n ns ≡ false → get_or (restored (slice_set current k (get_or s.current k None)) (named s ns)) n None ≡ get_or (slice_set current k (get_or s.current k None)) n None) → (c : Bool) → (k == n) ≡ c → (c || has n ns) ≡ false → get_or (restored (slice_set current k (get_or s.current k None)) (named s ns)) n None ≡ get_or current n None
    by_test again true f g = absurd cc
    by_test again false f g = again g ∙ get_or-set_other current k n (get_or s.current k None) None (apart k n f)

restored_has : (current : List (Option ℕ)) (s : State) (ns : List ℕ) (n : ℕ) → AreBelow (length current) ns → has n ns ≡ true → get_or (restored current (named s ns)) n None ≡ get_or s.current n None
restored_has current s [] n b h = absurd cc
restored_has current s (k ∷ ns) n b h =
    by_rest (restored_has (slice_set current k (get_or s.current k None)) s ns n (subst (λ (z : ℕ). AreBelow z ns) (sym (length-set current k (get_or s.current k None))) b.1)) (has n ns) refl h
  where
    by_rest : (has n ns ≡ true → get_or (restored (slice_set current k (get_or s.current k None)) (named s ns)) n None ≡ get_or s.current n None) → (c : Bool) → has n ns ≡ c → ((k == n) || c) ≡ true → get_or (restored (slice_set current k (get_or s.current k None)) (named s ns)) n None ≡ get_or s.current n None
    by_rest again true f g = again f
    by_rest again false f g = restored_other (slice_set current k (get_or s.current k None)) s ns n f ∙ this_one (k == n) refl g
      where
        this_one : (c : Bool) → (k == n) ≡ c → (c || false) ≡ true → get_or (slice_set current k (get_or s.current k None)) n None ≡ get_or s.current n None
        this_one true e h' = let eq : k ≡ n = grind (arith, nat_tests, e) in subst (λ (z : ℕ). get_or (slice_set current k (get_or s.current k None)) z None ≡ get_or s.current z None) eq (get_or-set_same current k (get_or s.current k None) None b.0)
        this_one false e h' = absurd cc

-- what was named before the goal is named again behind it
pub stands_outside : {m next : ℕ} {around : List Collecting} {known more : List Variable} {s t : State} (ns : List ℕ) → Stands m around known s → Below next around known → AreBelow m ns
    → Stands m (inside next ns around) more t → Keeps (suc next) (inside next ns around) known more → Stands m around more (after_inside s ns t)
stands_outside {m} {next} {around} {known} {more} {s} {t} ns st be b in_ keeps = record {
  size = length-restored t.current s ns ∙ in_.size;
  found = in_.found;
  current = λ n l. by_test n l (has n ns) refl;
}
  where
    by_test : (n : ℕ) → n < m → (c : Bool) → has n ns ≡ c → get_or (restored t.current (named s ns)) n None ≡ place_of (variable_at around n) more
    by_test n l true e =
        let before : binder around n < next = be.binders n in
        let not_local : (binder around n ≡ binder (inside next ns around) n) → ⊥ = λ f. absurd (omega (arith, f, here next n ns around e, before)) in
        restored_has t.current s ns n (subst (λ (z : ℕ). AreBelow z ns) (sym in_.size) b) e ∙ st.current n l ∙ sym (keeps.others (variable_at around n) (omega (arith, before)) not_local)
    by_test n l false e = restored_other t.current s ns n e ∙ in_.current n l ∙ ap (λ (z : ℕ). place_of (record { local_to = z; spelling = n }) more) (outer next n ns around e)

pub keeps_outside : {next : ℕ} {around : List Collecting} {known more : List Variable} (ns : List ℕ) → Keeps (suc next) (inside next ns around) known more → Keeps next around known more
keeps_outside {next} {around} {known} {more} ns k = record { grows = k.grows; others = λ v l d. k.others v (omega (arith, l)) (λ e. by_test v l d (has v.spelling ns) refl e) }
  where
    by_test : (v : Variable) → v.local_to < next → (v.local_to ≡ binder around v.spelling → ⊥) → (c : Bool) → has v.spelling ns ≡ c → v.local_to ≡ binder (inside next ns around) v.spelling → ⊥
    by_test v l d true f e = absurd (omega (arith, here next v.spelling ns around f, e, l))
    by_test v l d false f e = d (e ∙ outer next v.spelling ns around f)

pub keeps_both : {next later : ℕ} {around : List Collecting} {ks ls ms : List Variable} → next ≤ later → Keeps next around ks ls → Keeps later around ls ms → Keeps next around ks ms
keeps_both h k l = record {
  grows = λ v m e. l.grows v m (k.grows v m e);
  others = λ v b d. l.others v (omega (arith, b, h)) d ∙ k.others v b d;
}
