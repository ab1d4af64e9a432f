-- Tokens in no order: the least, another one, and what is there once one comes or goes.
use Rattle.std.proofs.Common.{◌≡◌, ℕ, suc, ◌+◌, ◌<◌, ◌≤◌, min, Bool, true, false, List, [], ◌∷◌, ◌++◌, length, get_or, Option, Some, None, refl, sym, ap, ◌∙◌, subst, arith, ◌⊎◌, inl, inr}
use Rattle.std.proofs.lemmas.Bool.Decides.{nat_tests}
use Rattle.std.proofs.lemmas.List.Folds.{list_any-append}
use Rattle.std.proofs.lemmas.List.Quantifiers.{position-Some}
use Rattle.std.proofs.lemmas.List.Sorted.{IsPermutation-swap_remove, list_any-IsPermutation}
use Rattle.std.specs.Prelude.{◌||◌, ◌&&◌, ◌==◌, not, cond, nat_lt, option_copied, IsTrue, IsSome, ◌↔◌}
use Rattle.std.specs.Borrow.{Bor}
use Rattle.std.specs.Option.{IfSome}
use Rattle.std.specs.List.{list_any, find, position, prefix_len, reduce, fold, swap_remove}
use Rattle.std.specs.BTreeMap.{is_at}
use Rattle.std.specs.BTreeSet.{BTreeSet, contains, IsLowerBound, IsUpperBound}
use Rattle.std.specs.Ordering.{nat_cmp, is_gt, is_lt}
use Rattle.wake_lists.specs.TokenSets.{is_token_in, IsLeastIn, IsOtherIn, Adds, Drops}
use Rattle.wake_lists.proofs.Keys.{token_is, token_equal, token_here}
use lib.Dec.{eqb}

flips : (s t : ℕ) → eqb s t ≡ (t == s)
flips s t = grind (arith, nat_tests)

either : (a b : Bool) → (a || b) ≡ true → (a ≡ true) ⊎ (b ≡ true)
either true b e = inl refl
either false b e = inr e

or_true : (b : Bool) → (b || true) ≡ true
or_true true = refl
or_true false = refl

in_first : (s : ℕ) (xs ys : List ℕ) → is_token_in s xs ≡ true → is_token_in s (xs ++ ys) ≡ true
in_first s xs ys e = list_any-append (eqb s) xs ys ∙ ap (λ (b : Bool). b || is_token_in s ys) e

in_second : (s : ℕ) (xs ys : List ℕ) → is_token_in s ys ≡ true → is_token_in s (xs ++ ys) ≡ true
in_second s xs ys e = list_any-append (eqb s) xs ys ∙ ap (λ (b : Bool). is_token_in s xs || b) e ∙ or_true (is_token_in s xs)

in_either : (s : ℕ) (xs ys : List ℕ) → is_token_in s (xs ++ ys) ≡ true → (is_token_in s xs ≡ true) ⊎ (is_token_in s ys ≡ true)
in_either s xs ys e = either (is_token_in s xs) (is_token_in s ys) (sym (list_any-append (eqb s) xs ys) ∙ e)

-- the token of a list of one is that one
alone : (s x : ℕ) → is_token_in s (x ∷ []) ≡ true → s ≡ x
alone s x e = on (either (eqb s x) false e)
  where
    on : (eqb s x ≡ true) ⊎ (false ≡ true) → s ≡ x
    on (inl f) = token_equal s x f
    on (inr f) = absurd (cc)

append_none : (xs : List ℕ) → xs ++ [] ≡ xs
append_none [] = refl
append_none (x ∷ xs) = ap (λ (l : List ℕ). x ∷ l) (append_none xs)

pub none_in_empty : (xs : List ℕ) → xs ≡ [] → (t s : ℕ) → is_token_in s xs ≡ true → s ≡ t
none_in_empty xs e t s f = let no : false ≡ true = sym (ap (is_token_in s) e) ∙ f in absurd (cc)

-- the least of two lists, by the least of each
pub least_of_both : (xs ys : List ℕ) (x y : ℕ) → IsLeastIn xs (Some x) → IsLeastIn ys (Some y) → (z : ℕ) → (z ≡ x) ⊎ (z ≡ y) → z ≤ x → z ≤ y → IsLeastIn (xs ++ ys) (Some z)
least_of_both xs ys x y a b z is h k = (there is, λ s e. below s (in_either s xs ys e))
  where
    there : (z ≡ x) ⊎ (z ≡ y) → is_token_in z (xs ++ ys) ≡ true
    there (inl f) = in_first z xs ys (ap (λ (s : ℕ). is_token_in s xs) f ∙ a.0)
    there (inr f) = in_second z xs ys (ap (λ (s : ℕ). is_token_in s ys) f ∙ b.0)

    below : (s : ℕ) → (is_token_in s xs ≡ true) ⊎ (is_token_in s ys ≡ true) → z ≤ s
    below s (inl f) = let l = a.1 s f in omega arith
    below s (inr f) = let l = b.1 s f in omega arith

least_alone : (x : ℕ) → IsLeastIn (x ∷ []) (Some x)
least_alone x = (ap (λ (b : Bool). b || false) (token_here x), λ s e. let same : s ≡ x = alone s x e in omega arith)

-- the least of a list
pub least_is : (xs : List ℕ) → IsLeastIn xs (reduce min xs)
least_is [] = refl
least_is (x ∷ xs) = along x xs (x ∷ []) (least_alone x)
  where
    along : (m : ℕ) (ys zs : List ℕ) → IsLeastIn zs (Some m) → IsLeastIn (zs ++ ys) (Some (fold min m ys))
    along m [] zs a = subst (λ (l : List ℕ). IsLeastIn l (Some m)) (sym (append_none zs)) a
    along m (y ∷ ys) zs a =
        subst (λ (l : List ℕ). IsLeastIn l (Some (fold min (min m y) ys))) (append_one zs)
        (along (min m y) ys (zs ++ y ∷ []) (least_of_both zs (y ∷ []) m y a (least_alone y) (min m y) one_of (omega arith) (omega arith)))
      where
        append_one : (zs : List ℕ) → (zs ++ y ∷ []) ++ ys ≡ zs ++ y ∷ ys
        append_one [] = refl
        append_one (z ∷ zs) = ap (λ (l : List ℕ). z ∷ l) (append_one zs)

        one_of : (min m y ≡ m) ⊎ (min m y ≡ y)
        one_of = grind arith

-- one of a list that isn't this token
pub other_is : (xs : List ℕ) (t : ℕ) → IsOtherIn xs t (find (λ x. not (x == t)) xs)
other_is [] t = λ s e. absurd (cc)
other_is (x ∷ xs) t = on (x == t) refl (find (λ x. not (x == t)) xs) (other_is xs t)
  where
    on : (b : Bool) → (x == t) ≡ b → (o : Option ℕ) → IsOtherIn xs t o → IsOtherIn (x ∷ xs) t (cond (not b) (Some x) o)
    on true e None h = λ s f. by s (in_either s (x ∷ []) xs f)
      where
        by : (s : ℕ) → (is_token_in s (x ∷ []) ≡ true) ⊎ (is_token_in s xs ≡ true) → s ≡ t
        by s (inl g) = alone s x g ∙ token_equal x t e
        by s (inr g) = h s g
    on true e (Some s) h = (in_second s (x ∷ []) xs h.0, h.1)
    on false e o h = (ap (λ (b : Bool). b || is_token_in x xs) (token_here x), λ same. let no : true ≡ false = sym (token_here x) ∙ ap (eqb x) same ∙ e in absurd (cc))

pub other_in_first : (xs ys : List ℕ) (t s : ℕ) → IsOtherIn xs t (Some s) → IsOtherIn (xs ++ ys) t (Some s)
other_in_first xs ys t s h = (in_first s xs ys h.0, h.1)

pub no_other : (xs ys : List ℕ) (t : ℕ) → IsOtherIn xs t None → ((s : ℕ) → is_token_in s ys ≡ true → s ≡ t) → IsOtherIn (xs ++ ys) t None
no_other xs ys t h k = λ s e. on s (in_either s xs ys e)
  where
    on : (s : ℕ) → (is_token_in s xs ≡ true) ⊎ (is_token_in s ys ≡ true) → s ≡ t
    on s (inl f) = h s f
    on s (inr f) = k s f

pub least_in_first : (xs ys : List ℕ) (o : Option ℕ) → ys ≡ [] → IsLeastIn xs o → IsLeastIn (xs ++ ys) o
least_in_first xs ys o e a = subst (λ (l : List ℕ). IsLeastIn l o) (sym (ap (λ (l : List ℕ). xs ++ l) e ∙ append_none xs)) a

pub least_in_second : (xs ys : List ℕ) (o : Option ℕ) → xs ≡ [] → IsLeastIn ys o → IsLeastIn (xs ++ ys) o
least_in_second xs ys o e a = subst (λ (l : List ℕ). IsLeastIn (l ++ ys) o) (sym e) a

-- The tokens of a set that keeps them in order
module _ (s : BTreeSet ℕ) where
  token_in_set : (t : ℕ) → contains nat_cmp s t ≡ is_token_in t s.keys
  token_in_set t = λ i. list_any (λ k. token_is t k i) s.keys

  pub set_is_empty : (r : Option (Bor ℕ)) → IsSome r ↔ (0 < length s.keys) → option_copied r ≡ None → s.keys ≡ []
  set_is_empty None h e = on s.keys h.1
    where
      on : (ks : List ℕ) → (0 < length ks → IsSome {T = Bor ℕ} None) → ks ≡ []
      on [] f = refl
      on (k ∷ ks) f = let no = f (omega arith) in absurd (cc)
  set_is_empty (Some k) h e = absurd (cc)

  pub first_of_set : (r : Option (Bor ℕ)) → IfSome r (λ k. IsTrue (contains nat_cmp s k.now)) → IfSome r (λ k. IsLowerBound nat_cmp s k.now) → (x : ℕ) → option_copied r ≡ Some x → IsLeastIn s.keys (Some x)
  first_of_set None h l x e = absurd (cc)
  first_of_set (Some k) h l x e = subst (λ (y : ℕ). IsLeastIn s.keys (Some y)) (ap (λ (o : Option ℕ). or_zero o) e) (sym (token_in_set k.now) ∙ h, λ t f. not_above k.now t (l t (token_in_set t ∙ f)))
    where
      or_zero : Option ℕ → ℕ
      or_zero None = 0
      or_zero (Some y) = y

      not_above : (a b : ℕ) → is_gt (nat_cmp a b) ≡ false → a ≤ b
      not_above a b g = grind (arith, nat_tests)

  pub last_of_set : (r : Option (Bor ℕ)) → IfSome r (λ k. IsUpperBound nat_cmp s k.now) → (x : ℕ) → option_copied r ≡ Some x → (t : ℕ) → is_token_in t s.keys ≡ true → t ≤ x
  last_of_set None l x e t f = absurd (cc)
  last_of_set (Some k) l x e t f = let same : k.now ≡ x = cc in let at : t ≤ k.now = not_below k.now t (l t (token_in_set t ∙ f)) in omega arith
    where
      not_below : (a b : ℕ) → is_lt (nat_cmp a b) ≡ false → b ≤ a
      not_below a b g = grind (arith, nat_tests)

module _ (s u : BTreeSet ℕ) (t : ℕ) where
  abbrev Puts : Bool → Type 0
  Puts w = (q : ℕ) → contains nat_cmp u q ≡ cond (is_at (nat_cmp t) q) w (contains nat_cmp s q)

  now : (w : Bool) → Puts w → (q : ℕ) → is_token_in q u.keys ≡ cond (q == t) w (is_token_in q s.keys)
  now w h q = sym (token_in_set u q) ∙ h q ∙ (λ i. cond (token_is t q i) w (token_in_set s q i)) ∙ ap (λ (b : Bool). cond b w (is_token_in q s.keys)) (flips t q)

  pub set_added : Puts true → Adds s.keys u.keys t
  set_added h q = now true h q ∙ on (q == t) (is_token_in q s.keys)
    where
      on : (a b : Bool) → cond a true b ≡ (b || a)
      on true true = refl
      on true false = refl
      on false true = refl
      on false false = refl

  pub set_dropped : Puts false → Drops s.keys u.keys t
  set_dropped h q = now false h q ∙ on (q == t) (is_token_in q s.keys)
    where
      on : (a b : Bool) → cond a false b ≡ (b && not a)
      on true true = refl
      on true false = refl
      on false true = refl
      on false false = refl

-- one more in the second list
pub added_second : (xs ys zs : List ℕ) (t : ℕ) → Adds ys zs t → Adds (xs ++ ys) (xs ++ zs) t
added_second xs ys zs t h s =
    list_any-append (eqb s) xs zs ∙ ap (λ (b : Bool). is_token_in s xs || b) (h s) ∙ on (is_token_in s xs) (is_token_in s ys) (s == t)
    ∙ ap (λ (b : Bool). b || (s == t)) (sym (list_any-append (eqb s) xs ys))
  where
    on : (a b c : Bool) → (a || (b || c)) ≡ ((a || b) || c)
    on true b c = refl
    on false b c = refl

-- one less in both
pub dropped_both : (xs ys us vs : List ℕ) (t : ℕ) → Drops xs us t → Drops ys vs t → Drops (xs ++ ys) (us ++ vs) t
dropped_both xs ys us vs t h k s =
    list_any-append (eqb s) us vs ∙ (λ i. h s i || k s i) ∙ on (is_token_in s xs) (is_token_in s ys) (not (s == t))
    ∙ ap (λ (b : Bool). b && not (s == t)) (sym (list_any-append (eqb s) xs ys))
  where
    on : (a b c : Bool) → ((a && c) || (b && c)) ≡ ((a || b) && c)
    on true true true = refl
    on true false true = refl
    on true true false = refl
    on true false false = refl
    on false b c = refl

above_zero : {X : Type 0} (n : ℕ) → nat_lt 0 (suc n) ≡ false → X
above_zero n e = let no : nat_lt 0 (suc n) ≡ true = grind (arith, nat_tests) in let both : true ≡ false = sym no ∙ e in absurd (cc)

less_one : (a b : ℕ) → nat_lt (1 + a) (suc b) ≡ false → nat_lt a b ≡ false
less_one a b h = grind (arith, nat_tests)

-- A list from which one token goes wherever it stands: the others stay
module _ (t : ℕ) (old : List ℕ) where
  abbrev pub StillHas : List ℕ → Type 0
  StillHas xs = (s : ℕ) → (s == t) ≡ false → is_token_in s xs ≡ is_token_in s old

  pub still_next : (xs : List ℕ) (i : ℕ) → position (λ x. x == t) xs ≡ Some i → (x : ℕ) → x ≡ get_or xs i x → StillHas xs → StillHas (swap_remove xs i x)
  still_next xs i at x is h s e =
      let found = position-Some (λ x. x == t) xs i x at in
      let one : x ≡ t = is ∙ token_equal (get_or xs i x) t found.1 in
      ap (λ (b : Bool). b || is_token_in s (swap_remove xs i x)) (sym (ap (eqb s) one ∙ e))
      ∙ sym (list_any-IsPermutation (eqb s) xs (x ∷ swap_remove xs i x) (IsPermutation-swap_remove xs i x found.0 is)) ∙ h s e

  pub still_last : (xs : List ℕ) → position (λ x. x == t) xs ≡ None → StillHas xs → Drops old xs t
  still_last xs none h s = on (s == t) refl
    where
      passes : (xs : List ℕ) → nat_lt (prefix_len (λ x. not (x == t)) xs) (length xs) ≡ false → is_token_in t xs ≡ false
      passes [] e = refl
      passes (x ∷ xs) e = by (x == t) refl e (passes xs)
        where
          by : (b : Bool) → (x == t) ≡ b → nat_lt (cond (not b) (1 + prefix_len (λ y. not (y == t)) xs) 0) (length (x ∷ xs)) ≡ false
              → (nat_lt (prefix_len (λ y. not (y == t)) xs) (length xs) ≡ false → is_token_in t xs ≡ false) → is_token_in t (x ∷ xs) ≡ false
          by true f g rest = above_zero (length xs) g
          by false f g rest = ap (λ (b : Bool). b || is_token_in t xs) (flips t x ∙ f) ∙ rest (less_one (prefix_len (λ y. not (y == t)) xs) (length xs) g)

      gone : (xs : List ℕ) → position (λ x. x == t) xs ≡ None → is_token_in t xs ≡ false
      gone xs e = passes xs (by (nat_lt (prefix_len (λ x. not (x == t)) xs) (length xs)) (prefix_len (λ x. not (x == t)) xs) e)
        where
          by : (b : Bool) (n : ℕ) → cond b (Some n) None ≡ None → b ≡ false
          by true n f = absurd (cc)
          by false n f = refl

      less : (b : Bool) → b ≡ (b && true)
      less true = refl
      less false = refl

      nothing : (b : Bool) → false ≡ (b && false)
      nothing true = refl
      nothing false = refl

      on : (b : Bool) → (s == t) ≡ b → is_token_in s xs ≡ (is_token_in s old && not b)
      on true e = ap (λ (k : ℕ). is_token_in k xs) (token_equal s t e) ∙ gone xs none ∙ nothing (is_token_in s old)
      on false e = h s e ∙ less (is_token_in s old)
