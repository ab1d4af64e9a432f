-- Lists of boxes and of their copies.
use Rattle.std.proofs.Common.{◌≡◌, ◌+◌, ◌≤◌, List, [], ◌∷◌, ◌++◌, map, Bool, true, false, Option, Some, None, refl, sym, ap, ◌∙◌, subst, ◌⊎◌, inl, inr, arith}
use Rattle.std.specs.Prelude.{if◌then◌else◌, option_map}
use Rattle.std.specs.List.{AllByRecursion}
use Rattle.akl_terms.specs.declared.name.Name.{Name}
use Rattle.akl_terms.specs.declared.term.Node.{Node}
use Rattle.akl_terms.specs.Names.{same_name}
use Rattle.akl_terms.proofs.SameNames.{same_name-equal, same_name-refl}
use Rattle.akl_model.specs.Config.{Operator, IsIn}
use Rattle.akl_model.specs.Names.{one_if, times_in}
use Rattle.akl_model.specs.Changes.{Shape, of_atom, of_choice}
use Rattle.akl_model.proofs.Options.{some_value}
use Rattle.akl_model.proofs.Finds.{zero_or, times_in-append}
use Rattle.akl_model.proofs.Scoped.{IsIn-left, IsIn-right, IsIn-either}
use Rattle.table_laws.specs.Rows.{GoalRow, Table}
use Rattle.table_laws.specs.Steps as laws
use Rattle.table_laws.specs.Writes.{less_name}
use Rattle.table_laws.specs.Walks.{alternatives_in, alternatives_of, alternatives_among}
use Rattle.table_laws.specs.Copying.{copied_shape, copied_goal, copied_goals}
use Rattle.table_laws.proofs.Copies as copies
use Rattle.table_laws.proofs.Insides.{named_counted}
use Rattle.box_tree.specs.declared.entries.Held.{Held}
use Rattle.box_tree.specs.declared.inside.InnerGoal.{InnerGoal}
use Rattle.box_tree.specs.declared.inside.InnerBox.{InnerBox}
use Rattle.box_tree.specs.declared.step.BoxCopy.{BoxCopy}
use Rattle.box_tree.specs.Tables.{op_held, goal_atom, shape_held, box_copy}
use Rattle.box_copies.specs.declared.names.NewNames.{NewNames}
use Rattle.box_copies.specs.Renamer.{swapped_name}
use Rattle.box_copies.specs.Made.{own_names, kept, kept_names, without, IsHeldAs, AreGoalsAs, IsBoxBy, AreBoxesBy}
use Rattle.box_copies.proofs.Terms.{op_by_names, goal_atom_by}

abbrev pub Among : InnerBox → List InnerBox → Type 0
Among b [] = ⊥
Among b (c ∷ cs) = (b ≡ c) ⊎ Among b cs

pub all_among : (P : InnerBox → Type 0) (bs : List InnerBox) (b : InnerBox) → AllByRecursion P bs → Among b bs → P b
all_among P [] b h i = absurd i
all_among P (c ∷ bs) b h (inl e) = subst P (sym e) h.0
all_among P (c ∷ bs) b h (inr i) = all_among P bs b h.1 i

pub named_among : (m : Name) (bs : List InnerBox) → IsIn m (map (λ (b : InnerBox). b.name) bs) → (b : InnerBox) × Among b bs × (m ≡ b.name)
named_among m [] i = absurd i
named_among m (b ∷ bs) (inl e) = (b, inl refl, e)
named_among m (b ∷ bs) (inr i) = let w : (c : InnerBox) × Among c bs × (m ≡ c.name) = named_among m bs i in (w.0, inr w.1, w.2)

pub among_named : (b : InnerBox) (bs : List InnerBox) → Among b bs → IsIn b.name (map (λ (b : InnerBox). b.name) bs)
among_named b [] i = absurd i
among_named b (c ∷ bs) (inl e) = inl (ap (λ (x : InnerBox). x.name) e)
among_named b (c ∷ bs) (inr i) = inr (among_named b bs i)

-- boxes but one

pub among_kept : (a : Name) (b : InnerBox) (bs : List InnerBox) → Among b (kept a bs) → Among b bs × (b.name ≡ a → ⊥)
among_kept a b [] i = absurd i
among_kept a b (c ∷ bs) i = on (same_name c.name a) refl i (among_kept a b bs)
  where
    on : (t : Bool) → same_name c.name a ≡ t → Among b (if t then kept a bs else c ∷ kept a bs) → (Among b (kept a bs) → Among b bs × (b.name ≡ a → ⊥)) → ((b ≡ c) ⊎ Among b bs) × (b.name ≡ a → ⊥)
    on true q j f = let w : Among b bs × (b.name ≡ a → ⊥) = f j in (inr w.0, w.1)
    on false q (inl e) f = (inl e, λ r. let u : same_name c.name a ≡ true = subst (λ (k : Name). same_name c.name k ≡ true) (ap (λ (x : InnerBox). x.name) (sym e) ∙ r) (same_name-refl c.name) in cc)
    on false q (inr j) f = let w : Among b bs × (b.name ≡ a → ⊥) = f j in (inr w.0, w.1)

pub kept_among : (a : Name) (b : InnerBox) (bs : List InnerBox) → Among b bs → (b.name ≡ a → ⊥) → Among b (kept a bs)
kept_among a b [] i away = absurd i
kept_among a b (c ∷ bs) i away = on (same_name c.name a) refl i (λ j. kept_among a b bs j away)
  where
    on : (t : Bool) → same_name c.name a ≡ t → (b ≡ c) ⊎ Among b bs → (Among b bs → Among b (kept a bs)) → Among b (if t then kept a bs else c ∷ kept a bs)
    on true q (inl e) f = absurd (away (ap (λ (x : InnerBox). x.name) e ∙ same_name-equal c.name a q))
    on true q (inr j) f = f j
    on false q (inl e) f = inl e
    on false q (inr j) f = inr (f j)

pub kept_fewer : (a m : Name) (bs : List InnerBox) → times_in m (map (λ (b : InnerBox). b.name) (kept a bs)) ≤ times_in m (map (λ (b : InnerBox). b.name) bs)
kept_fewer a m [] = omega arith
kept_fewer a m (c ∷ bs) = on (same_name c.name a) (kept_fewer a m bs)
  where
    on : (t : Bool) → times_in m (map (λ (b : InnerBox). b.name) (kept a bs)) ≤ times_in m (map (λ (b : InnerBox). b.name) bs)
        → times_in m (map (λ (b : InnerBox). b.name) (if t then kept a bs else c ∷ kept a bs)) ≤ one_if (same_name m c.name) + times_in m (map (λ (b : InnerBox). b.name) bs)
    on true h = omega arith
    on false h = omega arith

pub kept_owner : (a m : Name) (bs : List InnerBox) → IsIn m (kept_names a bs) → (b : InnerBox) × Among b (kept a bs) × IsIn m (own_names b)
kept_owner a m [] i = absurd i
kept_owner a m (c ∷ bs) i = on (same_name c.name a) i (kept_owner a m bs)
  where
    on : (t : Bool) → IsIn m (if t then kept_names a bs else own_names c ++ kept_names a bs) → (IsIn m (kept_names a bs) → (b : InnerBox) × Among b (kept a bs) × IsIn m (own_names b))
        → (b : InnerBox) × Among b (if t then kept a bs else c ∷ kept a bs) × IsIn m (own_names b)
    on true j f = f j
    on false j f = elim (IsIn-either m (own_names c) (kept_names a bs) j) [
      | inl k ↦ (c, inl refl, k)
      | inr k ↦ (let w : (b : InnerBox) × Among b (kept a bs) × IsIn m (own_names b) = f k in (w.0, inr w.1, w.2))
    ]

pub kept_owned : (a m : Name) (bs : List InnerBox) (b : InnerBox) → Among b (kept a bs) → IsIn m (own_names b) → IsIn m (kept_names a bs)
kept_owned a m [] b i j = absurd i
kept_owned a m (c ∷ bs) b i j = on (same_name c.name a) i (λ k. kept_owned a m bs b k j)
  where
    on : (t : Bool) → Among b (if t then kept a bs else c ∷ kept a bs) → (Among b (kept a bs) → IsIn m (kept_names a bs)) → IsIn m (if t then kept_names a bs else own_names c ++ kept_names a bs)
    on true k f = f k
    on false (inl e) f = IsIn-left m (own_names c) (kept_names a bs) (subst (λ (x : InnerBox). IsIn m (own_names x)) e j)
    on false (inr k) f = IsIn-right m (own_names c) (kept_names a bs) (f k)

-- names under a renaming that makes no two one
pub once_mapped : (f : Name → Name) → ((x y : Name) → f x ≡ f y → x ≡ y) → (xs : List Name) → ((m : Name) → times_in m xs ≤ 1) → (m : Name) → times_in m (map f xs) ≤ 1
once_mapped f inj [] once m = omega arith
once_mapped f inj (x ∷ xs) once m = on (same_name m (f x)) refl (once_mapped f inj xs (λ k. let o : one_if (same_name k x) + times_in k xs ≤ 1 = once k in omega arith) m)
  where
    source : (k : Name) (ys : List Name) → IsIn k (map f ys) → (y : Name) × IsIn y ys × (k ≡ f y)
    source k [] i = absurd i
    source k (y ∷ ys) (inl e) = (y, inl refl, e)
    source k (y ∷ ys) (inr i) = let w : (z : Name) × IsIn z ys × (k ≡ f z) = source k ys i in (w.0, inr w.1, w.2)

    counted : (k : Name) (ys : List Name) → IsIn k ys → 1 ≤ times_in k ys
    counted k [] i = absurd i
    counted k (y ∷ ys) (inl e) = let u : one_if (same_name k y) ≡ 1 = ap one_if (subst (λ (z : Name). same_name k z ≡ true) e (same_name-refl k)) in omega arith
    counted k (y ∷ ys) (inr i) = let h : 1 ≤ times_in k ys = counted k ys i in omega arith

    none : same_name m (f x) ≡ true → IsIn m (map f xs) → ⊥
    none q i =
        let w : (y : Name) × IsIn y xs × (m ≡ f y) = source m xs i in
        let e : x ≡ w.0 = inj x w.0 (sym (same_name-equal m (f x) q) ∙ w.2) in
        let u : one_if (same_name x x) ≡ 1 = ap one_if (same_name-refl x) in
        let h : 1 ≤ times_in x xs = counted x xs (subst (λ (z : Name). IsIn z xs) (sym e) w.1) in
        let o : one_if (same_name x x) + times_in x xs ≤ 1 = once x in
        omega arith

    on : (t : Bool) → same_name m (f x) ≡ t → times_in m (map f xs) ≤ 1 → one_if t + times_in m (map f xs) ≤ 1
    on false q h = omega arith
    on true q h = elim (zero_or (times_in m (map f xs))) [ inl z ↦ omega arith | inr z ↦ absurd (none q (named_counted m (map f xs) z)) ]

-- names but one, which stands once

without_none : (a : Name) (ns : List Name) → times_in a ns ≡ 0 → without a ns ≡ ns
without_none a [] z = refl
without_none a (n ∷ ns) z = on (same_name n a) refl (without_none a ns (omega arith))
  where
    on : (t : Bool) → same_name n a ≡ t → without a ns ≡ ns → (if t then without a ns else n ∷ without a ns) ≡ n ∷ ns
    on true e r = let u : one_if (same_name a n) ≡ 1 = ap one_if (subst (λ (k : Name). same_name k n ≡ true) (same_name-equal n a e) (same_name-refl n)) in absurd (omega arith)
    on false e r = ap (λ (l : List Name). n ∷ l) r

pub without_less : (a : Name) (ns : List Name) → times_in a ns ≤ 1 → without a ns ≡ less_name a ns
without_less a [] once = refl
without_less a (n ∷ ns) once = on (same_name a n) refl (same_name n a) refl (without_less a ns (omega arith))
  where
    on : (s : Bool) → same_name a n ≡ s → (t : Bool) → same_name n a ≡ t → without a ns ≡ less_name a ns → (if t then without a ns else n ∷ without a ns) ≡ (if s then ns else n ∷ less_name a ns)
    on true p true q r = let u : one_if (same_name a n) ≡ 1 = ap one_if p in without_none a ns (omega arith)
    on true p false q r = let u : same_name n a ≡ true = subst (λ (k : Name). same_name n k ≡ true) (sym (same_name-equal a n p)) (same_name-refl n) in absurd cc
    on false p true q r = let u : same_name a n ≡ true = subst (λ (k : Name). same_name a k ≡ true) (sym (same_name-equal n a q)) (same_name-refl a) in absurd cc
    on false p false q r = ap (λ (l : List Name). n ∷ l) r

-- goals

module _ (f : Name → Name) (nodes : List Node) (a : Name) where
  held_copied : (x y : Held) → times_in a (alternatives_in (shape_held nodes x)) ≤ 1 → IsHeldAs f a x y → shape_held nodes y ≡ copied_shape a f (shape_held nodes x)
  held_copied (Held.Atom g) (Held.Atom h) once r = ap of_atom (ap (goal_atom nodes) r ∙ goal_atom_by f nodes g)
  held_copied (Held.Choice o v s) (Held.Choice p w k) once r = let e : w.items ≡ map f (less_name a v.items) = r.1 ∙ ap (map f) (without_less a v.items once) in (λ i. of_choice (op_held nodes (r.0 i)) (e i)) ∙ ap (λ (z : Operator). of_choice z (map f (less_name a v.items))) (op_by_names f nodes o)
  held_copied (Held.Atom g) (Held.Choice p w k) once r = absurd r
  held_copied (Held.Choice o v s) (Held.Atom h) once r = absurd r

  row_copied : (o : Option GoalRow) (n : Name) (s z : Shape) → option_map (λ (r : GoalRow). r.shape) o ≡ Some s → z ≡ copied_shape a f s → copied_goal a f n o ≡ (f n, z) ∷ []
  row_copied None n s z e q = cc
  row_copied (Some r) n s z e q = let t : r.shape ≡ s = some_value e in λ i. (f n, (ap (copied_shape a f) t ∙ sym q) i) ∷ []

  fewer : (o : Option GoalRow) (s : Shape) → option_map (λ (r : GoalRow). r.shape) o ≡ Some s → alternatives_in s ≡ alternatives_of o
  fewer None s e = cc
  fewer (Some r) s e = ap alternatives_in (sym (some_value e))

  pub goals_copied : (T : Table) (gs : List InnerGoal) (xs : List (Name × Held)) → AllByRecursion (λ (g : InnerGoal). option_map (λ (r : GoalRow). r.shape) (T.goal_of g.name) ≡ Some (shape_held nodes g.held)) gs
      → times_in a (alternatives_among T (map (λ (g : InnerGoal). g.name) gs)) ≤ 1 → AreGoalsAs f a gs xs → map (λ (x : Name × Held). (x.0, shape_held nodes x.1)) xs ≡ copied_goals T a f (map (λ (g : InnerGoal). g.name) gs)
  goals_copied T [] [] h once r = refl
  goals_copied T [] (x ∷ xs) h once r = absurd r
  goals_copied T (g ∷ gs) [] h once r = absurd r
  goals_copied T (g ∷ gs) (x ∷ xs) h once r =
      let join : times_in a (alternatives_of (T.goal_of g.name) ++ alternatives_among T (map (λ (g : InnerGoal). g.name) gs)) ≡ times_in a (alternatives_of (T.goal_of g.name)) + times_in a (alternatives_among T (map (λ (g : InnerGoal). g.name) gs)) =
      times_in-append a (alternatives_of (T.goal_of g.name)) (alternatives_among T (map (λ (g : InnerGoal). g.name) gs)) in
      let own : times_in a (alternatives_in (shape_held nodes g.held)) ≡ times_in a (alternatives_of (T.goal_of g.name)) = ap (times_in a) (fewer (T.goal_of g.name) (shape_held nodes g.held) h.0) in
      let first : copied_goal a f g.name (T.goal_of g.name) ≡ (f g.name, shape_held nodes x.1) ∷ [] = row_copied (T.goal_of g.name) g.name (shape_held nodes g.held) (shape_held nodes x.1) h.0 (held_copied g.held x.1 (omega arith) r.1) in
      let rest : map (λ (x : Name × Held). (x.0, shape_held nodes x.1)) xs ≡ copied_goals T a f (map (λ (g : InnerGoal). g.name) gs) = goals_copied T gs xs h.1 (omega arith) r.2 in
      (λ i. (r.0 i, shape_held nodes x.1) ∷ rest i) ∙ ap (λ (l : List (Name × Shape)). l ++ copied_goals T a f (map (λ (g : InnerGoal). g.name) gs)) (sym first)

-- copies

module _ (nodes : List Node) (s : NewNames) (older : Bool) (top a : Name) where
  pub copy_names : (bs : List InnerBox) (ks : List BoxCopy) → AreBoxesBy s older top a bs ks → copies.copy_names (map (box_copy nodes) ks) ≡ map (swapped_name s) (map (λ (b : InnerBox). b.name) bs)
  copy_names [] [] r = refl
  copy_names [] (k ∷ ks) r = absurd r
  copy_names (b ∷ bs) [] r = absurd r
  copy_names (b ∷ bs) (k ∷ ks) r = λ i. r.0.name i ∷ copy_names bs ks r.1 i

  pub copy_for : (b : InnerBox) (bs : List InnerBox) (ks : List BoxCopy) → AreBoxesBy s older top a bs ks → Among b bs → (k : BoxCopy) × IsBoxBy s older top a b k × copies.IsAmong (box_copy nodes k) (map (box_copy nodes) ks)
  copy_for b [] ks r i = absurd i
  copy_for b (c ∷ bs) [] r i = absurd r
  copy_for b (c ∷ bs) (k ∷ ks) r (inl e) = (k, subst (λ (x : InnerBox). IsBoxBy s older top a x k) (sym e) r.0, inl refl)
  copy_for b (c ∷ bs) (k ∷ ks) r (inr i) = let w : (k : BoxCopy) × IsBoxBy s older top a b k × copies.IsAmong (box_copy nodes k) (map (box_copy nodes) ks) = copy_for b bs ks r.1 i in (w.0, w.1, inr w.2)

  pub box_for : (x : laws.BoxCopy) (bs : List InnerBox) (ks : List BoxCopy) → AreBoxesBy s older top a bs ks → copies.IsAmong x (map (box_copy nodes) ks) → (b : InnerBox) × (k : BoxCopy) × Among b bs × IsBoxBy s older top a b k × (x ≡ box_copy nodes k)
  box_for x [] [] r i = absurd i
  box_for x [] (k ∷ ks) r i = absurd r
  box_for x (b ∷ bs) [] r i = absurd r
  box_for x (b ∷ bs) (k ∷ ks) r (inl e) = (b, k, inl refl, r.0, e)
  box_for x (b ∷ bs) (k ∷ ks) r (inr i) = let w : (b : InnerBox) × (k : BoxCopy) × Among b bs × IsBoxBy s older top a b k × (x ≡ box_copy nodes k) = box_for x bs ks r.1 i in (w.0, w.1, inr w.2, w.3, w.4)

-- a goal of a copy is one of the box, under its new name
pub goal_named : (f : Name → Name) (nodes : List Node) (a g : Name) (gs : List InnerGoal) (xs : List (Name × Held)) → AreGoalsAs f a gs xs → IsIn g (map (λ (x : Name × Shape). x.0) (map (λ (x : Name × Held). (x.0, shape_held nodes x.1)) xs))
    → (m : Name) × IsIn m (map (λ (h : InnerGoal). h.name) gs) × (g ≡ f m)
goal_named f nodes a g [] [] r i = absurd i
goal_named f nodes a g [] (x ∷ xs) r i = absurd r
goal_named f nodes a g (h ∷ gs) [] r i = absurd r
goal_named f nodes a g (h ∷ gs) (x ∷ xs) r (inl e) = (h.name, inl refl, e ∙ r.0)
goal_named f nodes a g (h ∷ gs) (x ∷ xs) r (inr i) = let w : (m : Name) × IsIn m (map (λ (h : InnerGoal). h.name) gs) × (g ≡ f m) = goal_named f nodes a g gs xs r.2 i in (w.0, inr w.1, w.2)
