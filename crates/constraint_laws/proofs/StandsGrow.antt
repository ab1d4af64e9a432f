-- What stands for equations stands for them with more equations on both sides.
use Rattle.std.proofs.Common.{◌≡◌, ℕ, zero, suc, ◌++◌, Some, sym, ◌∙◌, ap, subst, ◌⊎◌, inl, inr}
use Rattle.std.specs.Prelude.{slice_get}
use Rattle.akl_terms.specs.Tree.{Tree, Head, head_of, arguments}
use Rattle.akl_terms.specs.Equal.{Equations, IsTold, EqualBy, told, same, turned, joined, inside, IsConsistentBy}
use Rattle.akl_terms.specs.Solved.{IsUnstructured, SameIn, SameTree}
use Rattle.akl_terms.specs.Standing.{StandFor}
use Rattle.akl_terms.proofs.Arguments.{same_value, partner}
use Rattle.akl_terms.proofs.EqualLaws.{EqualBy-follows, IsTold-left, IsTold-right, IsTold-either}
use Rattle.akl_terms.proofs.StandingLaws.{IsConsistentBy-follows, StandFor-follows, StandFor-back, StandFor-on}
use Rattle.constraint_laws.specs.StandingGrows.{AreToldIn}
use Rattle.constraint_laws.proofs.SameTrees.{equal_same}

-- what a term has under a relation another one has, down to a depth: it is equal to it where it isn't structured, and else to a term with its head and such arguments
abbrev Carries : (Tree → Tree → Type 0) → ℕ → Tree → Tree → Type 0
Carries V zero s t = Unit {0}
Carries V (suc n) s t = (IsUnstructured V s → EqualBy V s t)
    × ((u : Tree) (h : Head) → EqualBy V s u → head_of u ≡ Some h → (v : Tree) × EqualBy V t v × (head_of v ≡ Some h)
    × ((k : ℕ) (a b : Tree) → slice_get (arguments u) k ≡ Some a → slice_get (arguments v) k ≡ Some b → Carries V n a b))

module _ (V : Tree → Tree → Type 0) where
  carries_equal : (n : ℕ) (s t : Tree) → EqualBy V s t → Carries V n s t
  carries_equal zero s t e = tt
  carries_equal (suc n) s t e = on (λ a b p. carries_equal n a b p)
    where
      on : ((a b : Tree) → EqualBy V a b → Carries V n a b) → Carries V (suc n) s t
      on low = (λ f. e, λ u h d i. (u, joined (turned e) d, i, λ k a b p q. low a b (subst (λ (z : Tree). EqualBy V a z) (same_value p q) same)))

  carries_joined : (n : ℕ) (s t r : Tree) → Carries V n s t → Carries V n t r → Carries V n s r
  carries_joined zero s t r m o = tt
  carries_joined (suc n) s t r m o = on (λ a b c p q. carries_joined n a b c p q)
    where
      first : IsUnstructured V s → EqualBy V s r
      first f = let e : EqualBy V s t = m.0 f in joined e (o.0 (λ u h d i. f u h (joined e d) i))

      on : ((a b c : Tree) → Carries V n a b → Carries V n b c → Carries V n a c) → Carries V (suc n) s r
      on low = (
        first,
        λ u h d i.
            let v : (v : Tree) × EqualBy V t v × (head_of v ≡ Some h) × ((k : ℕ) (a b : Tree) → slice_get (arguments u) k ≡ Some a → slice_get (arguments v) k ≡ Some b → Carries V n a b) = m.1 u h d i in
            let w : (w : Tree) × EqualBy V r w × (head_of w ≡ Some h) × ((k : ℕ) (a b : Tree) → slice_get (arguments v.0) k ≡ Some a → slice_get (arguments w) k ≡ Some b → Carries V n a b) = o.1 v.0 h v.1 v.2 in (
              w.0,
              w.1,
              w.2,
              λ k a b p q.
                  let c : (c : Tree) × (slice_get (arguments v.0) k ≡ Some c) = partner u v.0 h k a i v.2 p in
                  low a c.0 b (v.3 k a c.0 p c.1) (w.3 k c.0 b c.1 q),
            ),
      )

  carries_inside : (n : ℕ) (s t a b : Tree) (h : Head) (k : ℕ) → Carries V (suc n) s t → head_of s ≡ Some h → head_of t ≡ Some h
      → slice_get (arguments s) k ≡ Some a → slice_get (arguments t) k ≡ Some b → Carries V n a b
  carries_inside n s t a b h k m x y i j =
      let v : (v : Tree) × EqualBy V t v × (head_of v ≡ Some h) × ((k : ℕ) (a b : Tree) → slice_get (arguments s) k ≡ Some a → slice_get (arguments v) k ≡ Some b → Carries V n a b) = m.1 s h same x in
      let c : (c : Tree) × (slice_get (arguments v.0) k ≡ Some c) = partner t v.0 h k b y v.2 j in
      carries_joined n a c.0 b (v.3 k a c.0 i c.1) (carries_equal n c.0 b (inside k (turned v.1) v.2 y c.1 j))

  -- what is the same tree under fewer equations
  carries_same : (S : Tree → Tree → Type 0) → ((s t : Tree) → S s t → EqualBy V s t) → IsConsistentBy V → (n : ℕ) (s t : Tree) → SameIn S n s t → Carries V n s t × Carries V n t s
  carries_same S f c zero s t m = (tt, tt)
  carries_same S f c (suc n) s t m = on m (λ a b p. carries_same S f c n a b p)
    where
      on : SameIn S (suc n) s t → ((a b : Tree) → SameIn S n a b → Carries V n a b × Carries V n b a) → Carries V (suc n) s t × Carries V (suc n) t s
      on (inl w) low = let e : EqualBy V s t = EqualBy-follows f w.0 in (carries_equal (suc n) s t e, carries_equal (suc n) t s (turned e))
      on (inr w) low = (
        side s w.0 t w.1 w.2 (EqualBy-follows f w.3) (EqualBy-follows f w.4) w.5 w.6 (λ k a b p q. (low a b (w.7 k a b p q)).0),
        side t w.1 s w.0 w.2 (EqualBy-follows f w.4) (EqualBy-follows f w.3) w.6 w.5 (λ k a b p q. (low b a (w.7 k b a q p)).1),
      )
        where
          side : (x u y v : Tree) (h : Head) → EqualBy V x u → EqualBy V y v → head_of u ≡ Some h → head_of v ≡ Some h
              → ((k : ℕ) (a b : Tree) → slice_get (arguments u) k ≡ Some a → slice_get (arguments v) k ≡ Some b → Carries V n a b) → Carries V (suc n) x y
          side x u y v h e d i j args = (
            λ g. absurd (g u h e i),
            λ z g l r.
                let q : g ≡ h = c.heads (joined (turned l) e) r i in
                let ru : head_of z ≡ Some h = r ∙ ap Some q in (
                  v,
                  d,
                  j ∙ ap Some (sym q),
                  λ k a b p o.
                      let m : (m : Tree) × (slice_get (arguments u) k ≡ Some m) = partner z u h k a ru i p in
                      carries_joined n a m.0 b (carries_equal n a m.0 (inside k (joined (turned l) e) ru i p m.1)) (args k m.0 b m.1 o),
                ),
          )

  -- what has all that two terms have which are the same tree
  same_carried : (n : ℕ) (a b c d : Tree) → Carries V n b a → SameIn V n b c → Carries V n c d → SameIn V n a d
  same_carried zero a b c d m o r = tt
  same_carried (suc n) a b c d m o r = on o (λ x y z w p q l. same_carried n x y z w p q l)
    where
      on : SameIn V (suc n) b c → ((x y z w : Tree) → Carries V n y x → SameIn V n y z → Carries V n z w → SameIn V n x w) → SameIn V (suc n) a d
      on (inl w) low =
          let ba : EqualBy V b a = m.0 w.1 in
          let cd : EqualBy V c d = r.0 (λ u h e i. w.1 u h (joined w.0 e) i) in
          inl (joined (turned ba) (joined w.0 cd), λ u h e i. w.1 u h (joined ba e) i)
      on (inr w) low =
          let u : (u : Tree) × EqualBy V a u × (head_of u ≡ Some w.2) × ((k : ℕ) (x y : Tree) → slice_get (arguments w.0) k ≡ Some x → slice_get (arguments u) k ≡ Some y → Carries V n x y) = m.1 w.0 w.2 w.3 w.5 in
          let v : (v : Tree) × EqualBy V d v × (head_of v ≡ Some w.2) × ((k : ℕ) (x y : Tree) → slice_get (arguments w.1) k ≡ Some x → slice_get (arguments v) k ≡ Some y → Carries V n x y) = r.1 w.1 w.2 w.4 w.6 in
          inr (
            u.0,
            v.0,
            w.2,
            u.1,
            v.1,
            u.2,
            v.2,
            λ k x y p q.
                let i : (i : Tree) × (slice_get (arguments w.0) k ≡ Some i) = partner u.0 w.0 w.2 k x u.2 w.5 p in
                let j : (j : Tree) × (slice_get (arguments w.1) k ≡ Some j) = partner v.0 w.1 w.2 k y v.2 w.6 q in
                low x i.0 j.0 y (u.3 k i.0 x i.1 p) (w.7 k i.0 j.0 i.1 j.1) (v.3 k j.0 y j.1 q),
          )

-- where what is told by U carries over under V, so does what follows from U
module _ (U V : Tree → Tree → Type 0) (tells : (s t : Tree) → U s t → (n : ℕ) → Carries V n s t × Carries V n t s) where
  equal_carries : {s t : Tree} → EqualBy U s t → (n : ℕ) → Carries V n s t × Carries V n t s
  equal_carries (told {s = s} {t = t} m) = tells s t m
  equal_carries (same {t = t}) = λ n. (carries_equal V n t t same, carries_equal V n t t same)
  equal_carries (turned {s = s} {t = t} e) = let m : (n : ℕ) → Carries V n s t × Carries V n t s = equal_carries e in λ n. ((m n).1, (m n).0)
  equal_carries (joined {s = s} {t = t} {u = u} e f) =
      let m : (n : ℕ) → Carries V n s t × Carries V n t s = equal_carries e in
      let o : (n : ℕ) → Carries V n t u × Carries V n u t = equal_carries f in
      λ n. (carries_joined V n s t u (m n).0 (o n).0, carries_joined V n u t s (o n).1 (m n).1)
  equal_carries (inside {s = s} {t = t} {a = a} {b = b} {h = h} k e x y i j) =
      let m : (n : ℕ) → Carries V n s t × Carries V n t s = equal_carries e in
      λ n. (carries_inside V n s t a b h k (m (suc n)).0 x y i j, carries_inside V n t s b a h k (m (suc n)).1 y x j i)

  -- a term equal to one with a head is so under V
  headed_carries : (s u : Tree) (h : Head) → EqualBy U s u → head_of u ≡ Some h → (v : Tree) × EqualBy V s v × (head_of v ≡ Some h)
  headed_carries s u h e i = let w : _ = (equal_carries e 1).1.1 u h same i in (w.0, w.1, w.2)

  told_consistent : IsConsistentBy V → IsConsistentBy U
  told_consistent c = record { heads = λ {s} {t} {g} {h} e x y. let w : (v : Tree) × EqualBy V s v × (head_of v ≡ Some h) = headed_carries s t h e y in c.heads w.1 x w.2 }

  same_carries : ((s : Tree) → IsUnstructured U s → IsUnstructured V s) → (n : ℕ) (s t : Tree) → SameIn U n s t → SameIn V n s t
  same_carries f zero s t m = tt
  same_carries f (suc n) s t m = on m (λ a b p. same_carries f n a b p)
    where
      on : SameIn U (suc n) s t → ((a b : Tree) → SameIn U n a b → SameIn V n a b) → SameIn V (suc n) s t
      on (inl w) low = let g : IsUnstructured V s = f s w.1 in inl ((equal_carries w.0 1).0.0 g, g)
      on (inr w) low = same_carried V (suc n) s w.0 w.1 t (equal_carries w.3 (suc n)).1
          (inr (w.0, w.1, w.2, same, same, w.5, w.6, λ k a b p q. low a b (w.7 k a b p q))) (equal_carries w.4 (suc n)).1

-- with any further relation on both sides
module _ (T : Tree → Tree → Type 0) where
  abbrev With : Equations → Tree → Tree → Type 0
  With E s t = IsTold E s t ⊎ T s t

  tells_with : (E F : Equations) → StandFor (IsTold E) (IsTold F) → IsConsistentBy (With F) → (s t : Tree) → With E s t → (n : ℕ) → Carries (With F) n s t × Carries (With F) n t s
  tells_with E F w c s t (inl m) =
      let f : SameTree (IsTold F) s t = w.same_to (w.back (IsConsistentBy-follows (λ a b x. told (inl x)) c)) s t (λ k. equal_same E k s t (told m)) in
      λ n. carries_same (With F) (IsTold F) (λ a b x. told (inl x)) c n s t (f n)
  tells_with E F w c s t (inr m) = λ n. (carries_equal (With F) n s t (told (inr m)), carries_equal (With F) n t s (turned (told (inr m))))

  consistent_with : (E F : Equations) → StandFor (IsTold E) (IsTold F) → IsConsistentBy (With F) → IsConsistentBy (With E)
  consistent_with E F w c = told_consistent (With E) (With F) (tells_with E F w c) c

  same_with : (E F : Equations) → StandFor (IsTold E) (IsTold F) → IsConsistentBy (With E) → IsConsistentBy (With F) → (s t : Tree) → SameTree (With E) s t → SameTree (With F) s t
  same_with E F w ce cf s t m n = same_carries (With E) (With F) (tells_with E F w cf)
      (λ r f u h e i. let v : (v : Tree) × EqualBy (With E) r v × (head_of v ≡ Some h) = headed_carries (With F) (With E) (tells_with F E (StandFor-back w) ce) r u h e i in f v.0 h v.1 v.2) n s t (m n)

  pub stands_with_any : (E F : Equations) → StandFor (IsTold E) (IsTold F) → StandFor (λ s t. IsTold E s t ⊎ T s t) (λ s t. IsTold F s t ⊎ T s t)
  stands_with_any E F w = record {
    to = consistent_with F E (StandFor-back w);
    back = consistent_with E F w;
    same_to = λ c. same_with E F w c (consistent_with F E (StandFor-back w) c);
    same_back = λ c. same_with F E (StandFor-back w) (consistent_with F E (StandFor-back w) c) c;
  }

-- one list after another tells what both tell
pub both_stand : (E G : Equations) → StandFor (λ s t. IsTold E s t ⊎ IsTold G s t) (IsTold (E ++ G))
both_stand E G = StandFor-follows (λ s t m. elim m [ inl x ↦ told (IsTold-left E G s t x) | inr x ↦ told (IsTold-right E G s t x) ]) (λ s t m. told (IsTold-either E G s t m))

pub stands_with_more : (E F G : Equations) → StandFor (IsTold E) (IsTold F) → StandFor (IsTold (E ++ G)) (IsTold (F ++ G))
stands_with_more E F G w = StandFor-on (StandFor-back (both_stand E G)) (StandFor-on (stands_with_any (IsTold G) E F w) (both_stand F G))

-- lists with the same members
pub same_told_stands : (E F : Equations) → AreToldIn E F → AreToldIn F E → StandFor (IsTold E) (IsTold F)
same_told_stands E F f g = StandFor-follows (λ s t m. told (f.each s t m)) (λ s t m. told (g.each s t m))

told_swap : (E F : Equations) → AreToldIn (E ++ F) (F ++ E)
told_swap E F = record { each = λ s t m. elim (IsTold-either E F s t m) [ inl x ↦ IsTold-right F E s t x | inr x ↦ IsTold-left F E s t x ] }

swap_stands : (E F : Equations) → StandFor (IsTold (E ++ F)) (IsTold (F ++ E))
swap_stands E F = same_told_stands (E ++ F) (F ++ E) (told_swap E F) (told_swap F E)

pub stands_after_more : (E F G : Equations) → StandFor (IsTold E) (IsTold F) → StandFor (IsTold (G ++ E)) (IsTold (G ++ F))
stands_after_more E F G w = StandFor-on (swap_stands G E) (StandFor-on (stands_with_more E F G w) (swap_stands F G))

pub stands_over : (D E B F : Equations) → StandFor (IsTold D) (IsTold E) → StandFor (IsTold (E ++ B)) (IsTold (E ++ F)) → StandFor (IsTold (D ++ B)) (IsTold (E ++ F))
stands_over D E B F d w = StandFor-on (stands_with_more D E B d) w

-- equations that are told again add nothing
told_again : (E B G : Equations) → AreToldIn E G → StandFor (IsTold (G ++ B)) (IsTold (G ++ (E ++ B)))
told_again E B G f = same_told_stands (G ++ B) (G ++ (E ++ B))
    (record { each = λ s t m. elim (IsTold-either G B s t m) [ inl x ↦ IsTold-left G (E ++ B) s t x | inr x ↦ IsTold-right G (E ++ B) s t (IsTold-right E B s t x) ] })
    (record {
      each = λ s t m. elim (IsTold-either G (E ++ B) s t m) [
        | inl x ↦ IsTold-left G B s t x
        | inr x ↦ elim (IsTold-either E B s t x) [ inl y ↦ IsTold-left G B s t (f.each s t y) | inr y ↦ IsTold-right G B s t y ]
      ];
    })

pub stands_within : (E B F G : Equations) → AreToldIn E G → StandFor (IsTold (E ++ B)) (IsTold (E ++ F)) → StandFor (IsTold (G ++ B)) (IsTold (G ++ F))
stands_within E B F G f w = StandFor-on (told_again E B G f) (StandFor-on (stands_after_more (E ++ B) (E ++ F) G w) (StandFor-back (told_again E F G f)))
