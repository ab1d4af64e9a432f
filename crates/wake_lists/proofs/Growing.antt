-- A relation that grows or shrinks at one place, over a list.
use Rattle.std.proofs.Common.{◌≡◌, ℕ, zero, suc, ◌+◌, ◌<◌, ◌≤◌, length, take, get_or, Bool, true, false, List, [], ◌∷◌, refl, sym, ap, ◌∙◌, subst}
use Rattle.std.specs.Prelude.{◌||◌, ◌&&◌, not}
use Rattle.std.specs.List.{list_any}
use Rattle.std.proofs.lemmas.List.{take_more, take_all}
use Rattle.std.proofs.lemmas.List.Folds.{list_any-append}

module _ {P X : Type 0} (here : P → Bool) (same : X → X → Bool) (xs : List X) (old : P → X → Bool) where
  abbrev pub JoinedBy : (P → X → Bool) → List X → Type 0
  JoinedBy r ys = (p : P) (x : X) → r p x ≡ (old p x || (here p && list_any (same x) ys))

  abbrev pub PartedBy : (P → X → Bool) → List X → Type 0
  PartedBy r ys = (p : P) (x : X) → r p x ≡ (old p x && not (here p && list_any (same x) ys))

  next : (x : X) (i : ℕ) (d : X) → i < length xs → list_any (same x) (take (i + 1) xs) ≡ (list_any (same x) (take i xs) || (same x (get_or xs i d) || false))
  next x i d h = ap (list_any (same x)) (take_more xs i d h) ∙ list_any-append (same x) (take i xs) (get_or xs i d ∷ [])

  before : (x : X) (ys : List X) (i : ℕ) → list_any (same x) ys ≡ false → list_any (same x) (take i ys) ≡ false
  before x ys zero e = refl
  before x [] (suc i) e = refl
  before x (y ∷ ys) (suc i) e = on (same x y) e (before x ys i)
    where
      on : (s : Bool) → (s || list_any (same x) ys) ≡ false → (list_any (same x) ys ≡ false → list_any (same x) (take i ys) ≡ false) → (s || list_any (same x) (take i ys)) ≡ false
      on true e r = absurd (cc)
      on false e r = r e

  pub joined_none : JoinedBy old []
  joined_none p x = on (old p x) (here p)
    where
      on : (b a : Bool) → b ≡ (b || (a && false))
      on true a = refl
      on false true = refl
      on false false = refl

  pub parted_none : PartedBy old []
  parted_none p x = on (old p x) (here p)
    where
      on : (b a : Bool) → b ≡ (b && not (a && false))
      on true true = refl
      on true false = refl
      on false a = refl

  pub joined_next : (r new : P → X → Bool) (i : ℕ) (d : X) → i < length xs → JoinedBy r (take i xs)
      → ((p : P) (x : X) → new p x ≡ (r p x || (here p && same x (get_or xs i d)))) → JoinedBy new (take (i + 1) xs)
  joined_next r new i d h k e p x =
      e p x ∙ ap (λ (b : Bool). b || (here p && same x (get_or xs i d))) (k p x)
      ∙ on (old p x) (here p) (list_any (same x) (take i xs)) (same x (get_or xs i d))
      ∙ ap (λ (b : Bool). old p x || (here p && b)) (sym (next x i d h))
    where
      or_false : (m s : Bool) → (m || s) ≡ (m || (s || false))
      or_false true s = refl
      or_false false true = refl
      or_false false false = refl

      on : (w a m s : Bool) → ((w || (a && m)) || (a && s)) ≡ (w || (a && (m || (s || false))))
      on true a m s = refl
      on false true m s = or_false m s
      on false false m s = refl

  pub parted_next : (r new : P → X → Bool) (i : ℕ) (d : X) → i < length xs → PartedBy r (take i xs)
      → ((p : P) (x : X) → new p x ≡ (r p x && not (here p && same x (get_or xs i d)))) → PartedBy new (take (i + 1) xs)
  parted_next r new i d h k e p x =
      e p x ∙ ap (λ (b : Bool). b && not (here p && same x (get_or xs i d))) (k p x)
      ∙ on (old p x) (here p) (list_any (same x) (take i xs)) (same x (get_or xs i d))
      ∙ ap (λ (b : Bool). old p x && not (here p && b)) (sym (next x i d h))
    where
      both : (m s : Bool) → (not m && not s) ≡ not (m || (s || false))
      both true s = refl
      both false true = refl
      both false false = refl

      on : (w a m s : Bool) → ((w && not (a && m)) && not (a && s)) ≡ (w && not (a && (m || (s || false))))
      on true true m s = both m s
      on true false m s = refl
      on false a m s = refl

  pub joined_all : (r : P → X → Bool) (i : ℕ) → length xs ≤ i → JoinedBy r (take i xs) → JoinedBy r xs
  joined_all r i h k = subst (JoinedBy r) (take_all i xs h) k

  pub parted_all : (r : P → X → Bool) (i : ℕ) → length xs ≤ i → PartedBy r (take i xs) → PartedBy r xs
  parted_all r i h k = subst (PartedBy r) (take_all i xs h) k

  -- elsewhere it is as it was after some
  pub joined_others : (r : P → X → Bool) (i : ℕ) → JoinedBy r (take i xs) → (p : P) (x : X) → (here p && list_any (same x) xs) ≡ false → r p x ≡ old p x
  joined_others r i k p x e = k p x ∙ on (old p x) (here p) e
    where
      nothing : (w : Bool) (m : Bool) → m ≡ false → (w || m) ≡ w
      nothing true m e = refl
      nothing false m e = e

      on : (w a : Bool) → (a && list_any (same x) xs) ≡ false → (w || (a && list_any (same x) (take i xs))) ≡ w
      on w true e = nothing w (list_any (same x) (take i xs)) (before x xs i e)
      on w false e = nothing w false refl

  -- what was joined and then parted is as it was, where nothing was there before
  pub undone : (ws new : P → X → Bool) → ((p : P) (x : X) → here p ≡ true → old p x ≡ false) → ((p : P) (x : X) → (here p && list_any (same x) xs) ≡ false → ws p x ≡ old p x)
      → ((p : P) (x : X) → new p x ≡ (ws p x && not (here p && list_any (same x) xs))) → (p : P) (x : X) → new p x ≡ old p x
  undone ws new bare others parted p x = parted p x ∙ by (here p) refl (list_any (same x) xs) refl
    where
      less : (b : Bool) → (b && true) ≡ b
      less true = refl
      less false = refl

      gone : (b : Bool) → (b && false) ≡ false
      gone true = refl
      gone false = refl

      by : (s : Bool) → here p ≡ s → (m : Bool) → list_any (same x) xs ≡ m → (ws p x && not (s && m)) ≡ old p x
      by true e true f = gone (ws p x) ∙ sym (bare p x e)
      by true e false f = less (ws p x) ∙ others p x (λ i. e i && f i)
      by false e m f = less (ws p x) ∙ others p x (λ i. e i && f i)
