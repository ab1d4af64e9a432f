-- One more turn of each loop that makes a copy.
use Rattle.std.proofs.Common.{◌≡◌, ℕ, ◌+◌, ◌<◌, ◌≤◌, List, [], ◌∷◌, ◌++◌, length, map, take, drop, set, get_or, Bool, true, false, refl, sym, ap, ◌∙◌, subst, append_assoc, arith}
use Rattle.std.proofs.lemmas.List.{take_more, append-nil, take_all, drop_all, drop_more, take_more_set, drop-set-lt}
use Rattle.std.specs.Prelude.{if◌then◌else◌, not}
use Rattle.akl_terms.specs.declared.name.Name.{Name}
use Rattle.std.specs.List.{AllByRecursion}
use Rattle.akl_terms.specs.declared.term.Term.{Term}
use Rattle.akl_terms.specs.Names.{same_name}
use Rattle.local_store.specs.Stored.{Stored, with_frame, with_port}
use Rattle.box_tree.specs.declared.entries.Held.{Held}
use Rattle.box_tree.specs.declared.inside.InnerGoal.{InnerGoal}
use Rattle.box_tree.specs.declared.inside.InnerBox.{InnerBox}
use Rattle.box_tree.specs.declared.step.BoxCopy.{BoxCopy}
use Rattle.box_copies.specs.declared.names.NewNames.{NewNames}
use Rattle.box_copies.specs.Renamer.{port_by, with_frames, with_ports}
use Rattle.box_copies.specs.Made.{own_names, kept, kept_names, without, IsHeldAs, AreGoalsAs, IsBoxBy, AreBoxesBy}
use Rattle.box_copies.proofs.Stored.{frames_more, ports_more}

pub map_more : {A B : Type 0} (f : A → B) (xs : List A) (x : A) → map f (xs ++ x ∷ []) ≡ map f xs ++ f x ∷ []
map_more f [] x = refl
map_more f (y ∷ xs) x = ap (λ (l : List _). f y ∷ l) (map_more f xs x)

pub taken : {A B : Type 0} (f : A → B) (xs : List A) (i : ℕ) (d : A) → i < length xs → map f (take (i + 1) xs) ≡ map f (take i xs) ++ f (get_or xs i d) ∷ []
taken f xs i d h = ap (map f) (take_more xs i d h) ∙ map_more f (take i xs) (get_or xs i d)

-- elements that are changed in their places
pub changed_next : {A : Type 0} (f : A → A) (all xs : List A) (i : ℕ) (d y : A) → i < length xs → y ≡ f (get_or xs i d) → all ≡ take i xs ++ map f (drop i xs) → all ≡ take (i + 1) (set xs i y) ++ map f (drop (i + 1) (set xs i y))
changed_next f all xs i d y h q a =
    let onward : i < i + 1 = omega arith in
    a ∙ ap (λ (l : List _). take i xs ++ map f l) (drop_more xs i d h) ∙ ap (λ (z : _). take i xs ++ z ∷ map f (drop (i + 1) xs)) (sym q) ∙ sym (append_assoc (take i xs) (y ∷ []) (map f (drop (i + 1) xs)))
    ∙ (λ j. sym (take_more_set xs i y h) j ++ map f (sym (drop-set-lt (i + 1) xs i y onward) j))

pub changed_all : {A : Type 0} (f : A → A) (all xs : List A) (i : ℕ) → length xs ≤ i → all ≡ take i xs ++ map f (drop i xs) → xs ≡ all
changed_all f all xs i h a = sym (a ∙ (λ j. take_all i xs h j ++ map f (drop_all i xs h j)) ∙ append-nil xs)

-- stores

pub frames_next : (s t u : Stored) (xs : List Name) (i : ℕ) (d : Name) → i < length xs → t ≡ with_frames s (take i xs) → u ≡ with_frame t (get_or xs i d) → u ≡ with_frames s (take (i + 1) xs)
frames_next s t u xs i d h e r = r ∙ ap (λ (x : Stored). with_frame x (get_or xs i d)) e ∙ sym (frames_more s (take i xs) (get_or xs i d)) ∙ ap (with_frames s) (sym (take_more xs i d h))

pub ports_next : (f : Name → Name) (s t u : Stored) (xs : List (Name × Term)) (i : ℕ) (d y : Name × Term) → i < length xs → t ≡ with_ports s (map (port_by f) (take i xs)) → y ≡ port_by f (get_or xs i d)
    → u ≡ with_port t y.0 y.1 → u ≡ with_ports s (map (port_by f) (take (i + 1) xs))
ports_next f s t u xs i d y h e q r =
    r ∙ ap (λ (x : Stored). with_port x y.0 y.1) e ∙ ap (λ (p : Name × Term). with_port (with_ports s (map (port_by f) (take i xs))) p.0 p.1) q
    ∙ sym (ports_more s (map (port_by f) (take i xs)) (port_by f (get_or xs i d))) ∙ ap (with_ports s) (sym (taken (port_by f) xs i d h))

-- names but one

without_append : (a : Name) (ns ms : List Name) → without a (ns ++ ms) ≡ without a ns ++ without a ms
without_append a [] ms = refl
without_append a (n ∷ ns) ms = on (same_name n a) (without_append a ns ms)
  where
    on : (t : Bool) → without a (ns ++ ms) ≡ without a ns ++ without a ms → (if t then without a (ns ++ ms) else n ∷ without a (ns ++ ms)) ≡ (if t then without a ns else n ∷ without a ns) ++ without a ms
    on true e = e
    on false e = ap (λ (l : List Name). n ∷ l) e

pub without_more : (f : Name → Name) (a : Name) (ns : List Name) (n : Name) → same_name n a ≡ false → map f (without a (ns ++ n ∷ [])) ≡ map f (without a ns) ++ f n ∷ []
without_more f a ns n e = ap (map f) (without_append a ns (n ∷ []) ∙ ap (λ (t : Bool). without a ns ++ (if t then [] else n ∷ [])) e) ∙ map_more f (without a ns) n

pub without_same : (f : Name → Name) (a : Name) (ns : List Name) (n : Name) → same_name n a ≡ true → map f (without a (ns ++ n ∷ [])) ≡ map f (without a ns)
without_same f a ns n e = ap (map f) (without_append a ns (n ∷ []) ∙ ap (λ (t : Bool). without a ns ++ (if t then [] else n ∷ [])) e ∙ nil (without a ns))
  where
    nil : (xs : List Name) → xs ++ [] ≡ xs
    nil [] = refl
    nil (x ∷ xs) = ap (λ (l : List Name). x ∷ l) (nil xs)

-- goals

pub goals_more : (f : Name → Name) (a : Name) (gs : List InnerGoal) (xs : List (Name × Held)) (g : InnerGoal) (x : Name × Held) → AreGoalsAs f a gs xs → x.0 ≡ f g.name → IsHeldAs f a g.held x.1 → AreGoalsAs f a (gs ++ g ∷ []) (xs ++ x ∷ [])
goals_more f a [] [] g x r n h = (n, h, tt)
goals_more f a [] (y ∷ xs) g x r n h = absurd r
goals_more f a (k ∷ gs) [] g x r n h = absurd r
goals_more f a (k ∷ gs) (y ∷ xs) g x r n h = (r.0, r.1, goals_more f a gs xs g x r.2 n h)

-- boxes

pub kept_more : (a : Name) (bs : List InnerBox) (b : InnerBox) → same_name b.name a ≡ false → kept a (bs ++ b ∷ []) ≡ kept a bs ++ b ∷ []
kept_more a [] b e = ap (λ (t : Bool). if t then [] else b ∷ []) e
kept_more a (c ∷ bs) b e = on (same_name c.name a) (kept_more a bs b e)
  where
    on : (s : Bool) → kept a (bs ++ b ∷ []) ≡ kept a bs ++ b ∷ [] → (if s then kept a (bs ++ b ∷ []) else c ∷ kept a (bs ++ b ∷ [])) ≡ (if s then kept a bs else c ∷ kept a bs) ++ b ∷ []
    on true q = q
    on false q = ap (λ (l : List InnerBox). c ∷ l) q

pub kept_same : (a : Name) (bs : List InnerBox) (b : InnerBox) → same_name b.name a ≡ true → kept a (bs ++ b ∷ []) ≡ kept a bs
kept_same a [] b e = ap (λ (t : Bool). if t then [] else b ∷ []) e
kept_same a (c ∷ bs) b e = on (same_name c.name a) (kept_same a bs b e)
  where
    on : (s : Bool) → kept a (bs ++ b ∷ []) ≡ kept a bs → (if s then kept a (bs ++ b ∷ []) else c ∷ kept a (bs ++ b ∷ [])) ≡ (if s then kept a bs else c ∷ kept a bs)
    on true q = q
    on false q = ap (λ (l : List InnerBox). c ∷ l) q

-- and their names

nothing_more : (xs : List Name) → xs ++ [] ≡ xs
nothing_more [] = refl
nothing_more (x ∷ xs) = ap (λ (l : List Name). x ∷ l) (nothing_more xs)

pub names_more : (a : Name) (bs : List InnerBox) (b : InnerBox) → same_name b.name a ≡ false → kept_names a (bs ++ b ∷ []) ≡ kept_names a bs ++ own_names b
names_more a [] b e = ap (λ (t : Bool). if t then [] else own_names b ++ []) e ∙ nothing_more (own_names b)
names_more a (c ∷ bs) b e = on (same_name c.name a) (names_more a bs b e)
  where
    on : (s : Bool) → kept_names a (bs ++ b ∷ []) ≡ kept_names a bs ++ own_names b
        → (if s then kept_names a (bs ++ b ∷ []) else own_names c ++ kept_names a (bs ++ b ∷ [])) ≡ (if s then kept_names a bs else own_names c ++ kept_names a bs) ++ own_names b
    on true q = q
    on false q = ap (λ (l : List Name). own_names c ++ l) q ∙ sym (append_assoc (own_names c) (kept_names a bs) (own_names b))

pub names_same : (a : Name) (bs : List InnerBox) (b : InnerBox) → same_name b.name a ≡ true → kept_names a (bs ++ b ∷ []) ≡ kept_names a bs
names_same a [] b e = ap (λ (t : Bool). if t then [] else own_names b ++ []) e
names_same a (c ∷ bs) b e = on (same_name c.name a) (names_same a bs b e)
  where
    on : (s : Bool) → kept_names a (bs ++ b ∷ []) ≡ kept_names a bs → (if s then kept_names a (bs ++ b ∷ []) else own_names c ++ kept_names a (bs ++ b ∷ [])) ≡ (if s then kept_names a bs else own_names c ++ kept_names a bs)
    on true q = q
    on false q = ap (λ (l : List Name). own_names c ++ l) q

pub boxes_more : (s : NewNames) (older : Bool) (top a : Name) (bs : List InnerBox) (ks : List BoxCopy) (b : InnerBox) (k : BoxCopy) → AreBoxesBy s older top a bs ks → IsBoxBy s older top a b k → AreBoxesBy s older top a (bs ++ b ∷ []) (ks ++ k ∷ [])
boxes_more s older top a [] [] b k r h = (h, tt)
boxes_more s older top a [] (x ∷ ks) b k r h = absurd r
boxes_more s older top a (c ∷ bs) [] b k r h = absurd r
boxes_more s older top a (c ∷ bs) (x ∷ ks) b k r h = (r.0, boxes_more s older top a bs ks b k r.1 h)

-- tests of names

pub is_other : (b : Bool) → true ≡ not b → b ≡ false
is_other true e = cc
is_other false e = refl

pub is_one : (b : Bool) → false ≡ not b → b ≡ true
is_one true e = refl
is_one false e = cc

-- with one more that was tested

pub others_next : (f : Name → Name) (a : Name) (xs ys zs : List Name) (i : ℕ) (d y : Name) → i < length xs → same_name (get_or xs i d) a ≡ false → ys ≡ map f (without a (take i xs)) → y ≡ f (get_or xs i d)
    → zs ≡ ys ++ y ∷ [] → zs ≡ map f (without a (take (i + 1) xs))
others_next f a xs ys zs i d y h n e q r =
    r ∙ (λ j. e j ++ q j ∷ []) ∙ sym (without_more f a (take i xs) (get_or xs i d) n) ∙ ap (λ (l : List Name). map f (without a l)) (sym (take_more xs i d h))

pub others_same : (f : Name → Name) (a : Name) (xs ys : List Name) (i : ℕ) (d : Name) → i < length xs → same_name (get_or xs i d) a ≡ true → ys ≡ map f (without a (take i xs)) → ys ≡ map f (without a (take (i + 1) xs))
others_same f a xs ys i d h n e = e ∙ sym (without_same f a (take i xs) (get_or xs i d) n) ∙ ap (λ (l : List Name). map f (without a l)) (sym (take_more xs i d h))

pub goals_next : (f : Name → Name) (a : Name) (gs : List InnerGoal) (i : ℕ) (g : InnerGoal) (xs ys : List (Name × Held)) (x : Name × Held) → i < length gs → g ≡ get_or gs i g → AreGoalsAs f a (take i gs) xs → x.0 ≡ f g.name
    → IsHeldAs f a g.held x.1 → ys ≡ xs ++ x ∷ [] → AreGoalsAs f a (take (i + 1) gs) ys
goals_next f a gs i g xs ys x h e r n k q =
    let more : take (i + 1) gs ≡ take i gs ++ g ∷ [] = take_more gs i g h ∙ ap (λ (y : InnerGoal). take i gs ++ y ∷ []) (sym e) in
    subst (AreGoalsAs f a (take (i + 1) gs)) (sym q) (subst (λ (l : List InnerGoal). AreGoalsAs f a l (xs ++ x ∷ [])) (sym more) (goals_more f a (take i gs) xs g x r n k))

pub boxes_next : (s : NewNames) (older : Bool) (top a : Name) (bs : List InnerBox) (i : ℕ) (b : InnerBox) (ks ls : List BoxCopy) (k : BoxCopy) → i < length bs → b ≡ get_or bs i b → same_name b.name a ≡ false → AreBoxesBy s older top a (kept a (take i bs)) ks
    → IsBoxBy s older top a b k → ls ≡ ks ++ k ∷ [] → AreBoxesBy s older top a (kept a (take (i + 1) bs)) ls
boxes_next s older top a bs i b ks ls k h e n r is q =
    let more : kept a (take (i + 1) bs) ≡ kept a (take i bs) ++ b ∷ [] = ap (kept a) (take_more bs i b h ∙ ap (λ (y : InnerBox). take i bs ++ y ∷ []) (sym e)) ∙ kept_more a (take i bs) b n in
    subst (AreBoxesBy s older top a (kept a (take (i + 1) bs))) (sym q) (subst (λ (l : List InnerBox). AreBoxesBy s older top a l (ks ++ k ∷ [])) (sym more) (boxes_more s older top a (kept a (take i bs)) ks b k r is))

pub boxes_same : (s : NewNames) (older : Bool) (top a : Name) (bs : List InnerBox) (i : ℕ) (b : InnerBox) (ks : List BoxCopy) → i < length bs → b ≡ get_or bs i b → same_name b.name a ≡ true → AreBoxesBy s older top a (kept a (take i bs)) ks
    → AreBoxesBy s older top a (kept a (take (i + 1) bs)) ks
boxes_same s older top a bs i b ks h e n r =
    let more : kept a (take (i + 1) bs) ≡ kept a (take i bs) = ap (kept a) (take_more bs i b h ∙ ap (λ (y : InnerBox). take i bs ++ y ∷ []) (sym e)) ∙ kept_same a (take i bs) b n in
    subst (λ (l : List InnerBox). AreBoxesBy s older top a l ks) (sym more) r

pub kept_next : (a : Name) (bs : List InnerBox) (i : ℕ) (b : InnerBox) → i < length bs → b ≡ get_or bs i b → same_name b.name a ≡ false → kept_names a (take (i + 1) bs) ≡ kept_names a (take i bs) ++ own_names b
kept_next a bs i b h e n = ap (kept_names a) (take_more bs i b h ∙ ap (λ (y : InnerBox). take i bs ++ y ∷ []) (sym e)) ∙ names_more a (take i bs) b n

pub kept_stays : (a : Name) (bs : List InnerBox) (i : ℕ) (b : InnerBox) → i < length bs → b ≡ get_or bs i b → same_name b.name a ≡ true → kept_names a (take (i + 1) bs) ≡ kept_names a (take i bs)
kept_stays a bs i b h e n = ap (kept_names a) (take_more bs i b h ∙ ap (λ (y : InnerBox). take i bs ++ y ∷ []) (sym e)) ∙ names_same a (take i bs) b n

-- bindings that lead to older variables under other names

pub all_more : {A : Type 0} (P : A → Type 0) (xs : List A) (x : A) → AllByRecursion P xs → P x → AllByRecursion P (xs ++ x ∷ [])
all_more P [] x h p = (p, tt)
all_more P (y ∷ xs) x h p = (h.0, all_more P xs x h.1 p)

pub all_next : (P : InnerBox → Type 0) (a : Name) (bs : List InnerBox) (i : ℕ) (b : InnerBox) → i < length bs → b ≡ get_or bs i b → same_name b.name a ≡ false → AllByRecursion P (kept a (take i bs)) → P b
    → AllByRecursion P (kept a (take (i + 1) bs))
all_next P a bs i b h e n r p =
    subst (AllByRecursion P) (sym (ap (kept a) (take_more bs i b h ∙ ap (λ (y : InnerBox). take i bs ++ y ∷ []) (sym e)) ∙ kept_more a (take i bs) b n)) (all_more P (kept a (take i bs)) b r p)

pub all_same : (P : InnerBox → Type 0) (a : Name) (bs : List InnerBox) (i : ℕ) (b : InnerBox) → i < length bs → b ≡ get_or bs i b → same_name b.name a ≡ true → AllByRecursion P (kept a (take i bs)) → AllByRecursion P (kept a (take (i + 1) bs))
all_same P a bs i b h e n r = subst (AllByRecursion P) (sym (ap (kept a) (take_more bs i b h ∙ ap (λ (y : InnerBox). take i bs ++ y ∷ []) (sym e)) ∙ kept_same a (take i bs) b n)) r
