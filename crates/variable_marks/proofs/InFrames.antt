-- The marks of all variables, as those of one frame change.
use Rattle.std.proofs.Common.{◌≡◌, ℕ, ◌+◌, ◌<◌, ◌≤◌, Bool, true, false, List, [], ◌∷◌, length, take, get_or, Option, Some, None, refl, sym, ap, subst, ◌∙◌, ◌⊎◌, inl, inr, arith}
use Rattle.std.proofs.lemmas.Bool.Decides.{nat_tests}
use Rattle.std.proofs.lemmas.List.{take_more, take_all}
use Rattle.std.specs.Prelude.{cond, if◌then◌else◌, ◌==◌, IsSome}
use Rattle.std.specs.Map.{lookup}
use Rattle.std.specs.BTreeMap.{BTreeMap, is_at}
use Rattle.std.specs.BTreeMap as map
use Rattle.std.specs.declared.cmp.Ordering.{Ordering}
use Rattle.std.specs.declared.cmp.Reverse.{Reverse}
use Rattle.akl_terms.specs.declared.name.Name.{Name}
use Rattle.akl_terms.specs.declared.name.Var.{Var}
use Rattle.akl_terms.specs.contracts.name.NameOrd.TheImpl as names
use Rattle.akl_terms.specs.Names.{same_name}
use Rattle.akl_terms.proofs.SameNames.{same_name-equal, same_name-refl}
use Rattle.constraint_laws.specs.Touched.{IsAmong}
use Rattle.name_map.proofs.NameOrder.{name_is, name_back}
use Rattle.local_store.proofs.Among.{among-either}
use Rattle.variable_marks.specs.declared.frame.FrameMarks.{FrameMarks}
use Rattle.variable_marks.specs.Marks.{MarksValue, frames_of, mark_within, mark_or, mark_in, MarksEach}

-- a key in a map in which the greater ones stand first
abbrev pub key : Name → Reverse Name
key n = record { 0 = n }

abbrev pub names_back : Reverse Name → Reverse Name → Ordering
names_back k l = names.cmp-value.it l.0 k.0

key_is : (k l : Reverse Name) → is_at (names_back k) l ≡ same_name k.0 l.0
key_is k l = name_is l.0 k.0 ∙ name_back l.0 k.0

frames_are : (es : List (Reverse Name × FrameMarks)) (f : Name) → lookup (same_name f) (frames_of es) ≡ lookup (λ (k : Reverse Name). same_name f k.0) es
frames_are [] f = refl
frames_are (e ∷ es) f = ap (cond (same_name f e.0.0) (Some e.1)) (frames_are es f)

pub frame_is : (t : BTreeMap (Reverse Name) FrameMarks) (f : Name) → lookup (same_name f) (frames_of t.entries) ≡ map.get names_back t (key f)
frame_is t f = frames_are t.entries f ∙ (λ i. lookup (λ k. (sym (key_is (key f) k)) i) t.entries)

abbrev pub as_value : BTreeMap (Reverse Name) FrameMarks → ℕ → MarksValue
as_value t others = record { frames = frames_of t.entries; others = others }

-- the marks of a frame as they are found
pub mark_is : (t : BTreeMap (Reverse Name) FrameMarks) (others : ℕ) (o : Option FrameMarks) (x : Var) → map.get names_back t (key x.frame) ≡ o → mark_in (as_value t others) x ≡ mark_or others o x.index
mark_is t others o x e = ap (λ (p : Option FrameMarks). mark_or others p x.index) (frame_is t x.frame ∙ e)

-- one variable gets a number, where its frame has these marks
module _ (x : Var) (n others : ℕ) (t u : BTreeMap (Reverse Name) FrameMarks) (o : Option FrameMarks) (new : FrameMarks) (was : map.get names_back t (key x.frame) ≡ o)
    (puts : (q : Reverse Name) → map.get names_back u q ≡ cond (is_at (names_back (key x.frame)) q) (Some new) (map.get names_back t q))
    (within : (i : ℕ) → (mark_within new i ≡ n) ⊎ (((i == x.index) ≡ false) × (mark_within new i ≡ mark_or others o i))) where
  found : (y : Var) (b : Bool) → same_name x.frame y.frame ≡ b → map.get names_back u (key y.frame) ≡ cond b (Some new) (map.get names_back t (key y.frame))
  found y b e = puts (key y.frame) ∙ ap (λ (c : Bool). cond c (Some new) (map.get names_back t (key y.frame))) (key_is (key x.frame) (key y.frame) ∙ e)

  pub marked_one : (m : MarksValue) → as_value t others ≡ m → MarksEach (x ∷ []) n m (as_value u others)
  marked_one m is = subst (λ (l : MarksValue). MarksEach (x ∷ []) n l (as_value u others)) is (record { each = λ y. on y (same_name x.frame y.frame) refl })
    where
      Marked : Var → Type 0
      Marked y = (mark_in (as_value u others) y ≡ n) ⊎ ((IsAmong y (x ∷ []) → ⊥) × (mark_in (as_value u others) y ≡ mark_in (as_value t others) y))

      here : (y : Var) → same_name x.frame y.frame ≡ true → (mark_within new y.index ≡ n) ⊎ (((y.index == x.index) ≡ false) × (mark_within new y.index ≡ mark_or others o y.index)) → Marked y
      here y e (inl f) = inl (mark_is u others (Some new) y (found y true e) ∙ f)
      here y e (inr f) =
          let there : x.frame ≡ y.frame = same_name-equal x.frame y.frame e in
          inr (not_it, mark_is u others (Some new) y (found y true e) ∙ f.1 ∙ sym (mark_is t others o y (ap (λ (m : Name). map.get names_back t (key m)) (sym there) ∙ was)))
        where
          not_it : IsAmong y (x ∷ []) → ⊥
          not_it (inl same) = let h = ap (λ (z : Var). z.index) same in let g = f.0 in absurd (grind (arith, nat_tests))
          not_it (inr none) = none

      on : (y : Var) (b : Bool) → same_name x.frame y.frame ≡ b → Marked y
      on y true e = here y e (within y.index)
      on y false e = inr (not_it, mark_is u others (map.get names_back t (key y.frame)) y (found y false e) ∙ sym (mark_is t others (map.get names_back t (key y.frame)) y refl))
        where
          not_it : IsAmong y (x ∷ []) → ⊥
          not_it (inl same) = let h = ap (λ (z : Var). same_name x.frame z.frame) same ∙ same_name-refl x.frame in absurd (cc)
          not_it (inr none) = none

over : (new all others i n j : ℕ) → (all ≡ n) ⊎ (all ≡ others) → new ≡ (if j == i then n else all) → (new ≡ n) ⊎ (((j == i) ≡ false) × (new ≡ others))
over new all others i n j e f = on (j == i) refl f e
  where
    on : (b : Bool) → (j == i) ≡ b → new ≡ (if b then n else all) → (all ≡ n) ⊎ (all ≡ others) → (new ≡ n) ⊎ (((j == i) ≡ false) × (new ≡ others))
    on true g h e = inl h
    on false g h (inl e) = inl (h ∙ e)
    on false g h (inr e) = inr (g, h ∙ e)

-- one variable of a frame has a number, and all others have one mark
pub over_all : (new : FrameMarks) (all others i n : ℕ) → (all ≡ n) ⊎ (all ≡ others) → ((j : ℕ) → mark_within new j ≡ (if j == i then n else all)) → (j : ℕ) → (mark_within new j ≡ n) ⊎ (((j == i) ≡ false) × (mark_within new j ≡ others))
over_all new all others i n e f j = over (mark_within new j) all others i n j e (f j)

-- or what they had
pub over_old : (new old : FrameMarks) (i n : ℕ) → ((j : ℕ) → mark_within new j ≡ (if j == i then n else mark_within old j)) → (j : ℕ) → (mark_within new j ≡ n) ⊎ (((j == i) ≡ false) × (mark_within new j ≡ mark_within old j))
over_old new old i n f j = over (mark_within new j) (mark_within old j) (mark_within old j) i n j (inr refl) (f j)

module _ (xs : List Var) (n : ℕ) (m : MarksValue) where
  pub none_marked : MarksEach [] n m m
  none_marked = record { each = λ x. inr ((λ z. z), refl) }

  -- one variable more is marked
  pub one_more : (l k : MarksValue) (i : ℕ) (d : Var) → i < length xs → MarksEach (take i xs) n m l → MarksEach (get_or xs i d ∷ []) n l k → MarksEach (take (i + 1) xs) n m k
  one_more l k i d h some one = record { each = λ x. both x (some.each x) (one.each x) }
    where
      Marked : Var → Type 0
      Marked x = (mark_in k x ≡ n) ⊎ ((IsAmong x (take (i + 1) xs) → ⊥) × (mark_in k x ≡ mark_in m x))

      both : (x : Var) → (mark_in l x ≡ n) ⊎ ((IsAmong x (take i xs) → ⊥) × (mark_in l x ≡ mark_in m x)) → (mark_in k x ≡ n) ⊎ ((IsAmong x (get_or xs i d ∷ []) → ⊥) × (mark_in k x ≡ mark_in l x)) → Marked x
      both x b (inl e) = inl e
      both x (inl f) (inr e) = inl (e.1 ∙ f)
      both x (inr f) (inr e) = inr ((λ z. neither (among-either (take i xs) (get_or xs i d ∷ []) x (subst (IsAmong x) (take_more xs i d h) z))), e.1 ∙ f.1)
        where
          neither : IsAmong x (take i xs) ⊎ IsAmong x (get_or xs i d ∷ []) → ⊥
          neither (inl z) = f.0 z
          neither (inr z) = e.0 z

  pub all_marked : (l : MarksValue) (i : ℕ) → length xs ≤ i → MarksEach (take i xs) n m l → MarksEach xs n m l
  all_marked l i h e = subst (λ (ys : List Var). MarksEach ys n m l) (take_all i xs h) e

pub is_some_if : {A : Type 0} (o : Option A) (x : A) → o ≡ Some x → IsSome o
is_some_if None x e = cc
is_some_if (Some y) x e = refl
