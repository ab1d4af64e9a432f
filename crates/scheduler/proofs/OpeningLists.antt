-- What is open under a token, when one comes, is closed, or boxes leave.
use Rattle.std.proofs.Common.{◌≡◌, ℕ, suc, length, Bool, true, false, List, [], ◌∷◌, ◌++◌, Option, Some, None, refl, sym, ap, ◌∙◌, inl, inr}
use Rattle.std.specs.Prelude.{cond, if◌then◌else◌, ◌||◌, option_map}
use Rattle.std.specs.Map.{remove_entry}
use Rattle.std.specs.BTreeMap.{insert_entry}
use Rattle.std.specs.Ordering.{nat_cmp, is_eq, match_ordering}
use Rattle.std.specs.declared.cmp.Ordering.{Ordering}
use Rattle.std.specs.declared.cmp.Ordering.TheVariants.{Less, Equal, Greater}
use Rattle.akl_terms.specs.declared.name.Name.{Name}
use Rattle.akl_terms.specs.declared.name.Place.{Place}
use Rattle.akl_model.specs.Config.{IsIn}
use Rattle.wake_lists.specs.Open.{Opening, Openings, opening_at, closed, without, after_one, after_leave}
use Rattle.wake_lists.specs.Standing.{is_in}
use Rattle.wake_lists.specs.Waits.{same_place}
use Rattle.wake_lists.proofs.Keys.{token_is, token_equal, token_here}
use Rattle.scheduler.specs.Openings.{AreApart}
use Rattle.scheduler.specs.Opening.{closed_back}
use lib.Dec.{eqb}

pub some_none : {A : Type 0} {x : A} {o : Option A} → o ≡ Some x → o ≡ None → ⊥
some_none e f = let no : Some _ ≡ None = sym e ∙ f in cc

-- a search that finds nothing
none_here : (b : Bool) (v : Opening) (rest : Option Opening) → cond b (Some v) rest ≡ None → (b ≡ false) × (rest ≡ None)
none_here true v rest e = absurd (some_none refl e)
none_here false v rest e = (refl, e)

not_token : (s t : ℕ) → eqb s t ≡ false → (s ≡ t → ⊥)
not_token s t e f = let here : eqb s s ≡ true = token_here s in let there : eqb s s ≡ false = ap (eqb s) f ∙ e in cc

differs : (s t u : ℕ) → eqb t u ≡ false → eqb s u ≡ true → eqb s t ≡ false
differs s t u e f = on (eqb s t) refl
  where
    on : (b : Bool) → eqb s t ≡ b → b ≡ false
    on true g = absurd (not_token t u e (sym (token_equal s t g) ∙ token_equal s u f))
    on false g = refl

-- a new one comes
module _ (t : ℕ) (o : Opening) where
  equal_none : (x : ℕ × Opening) (xs : Openings) → nat_cmp t x.0 ≡ Equal → opening_at t (x ∷ xs) ≡ None → ⊥
  equal_none x xs f e = let here : eqb t x.0 ≡ true = sym (token_is t x.0) ∙ ap is_eq f in let not : eqb t x.0 ≡ false = (none_here (eqb t x.0) x.1 (opening_at t xs) e).0 in cc

  pub put_at : (os : Openings) (s : ℕ) → opening_at s (insert_entry nat_cmp os t o) ≡ cond (eqb s t) (Some o) (opening_at s os)
  put_at [] s = refl
  put_at (x ∷ xs) s = on (nat_cmp t x.0) refl (put_at xs s)
    where
      another : nat_cmp t x.0 ≡ Greater → eqb t x.0 ≡ false
      another f = sym (token_is t x.0) ∙ ap is_eq f

      replaced : (b : Bool) → cond b (Some o) (opening_at s xs) ≡ cond b (Some o) (cond b (Some x.1) (opening_at s xs))
      replaced true = refl
      replaced false = refl

      found : nat_cmp t x.0 ≡ Greater → (b : Bool) → eqb s x.0 ≡ b → opening_at s (insert_entry nat_cmp xs t o) ≡ cond (eqb s t) (Some o) (opening_at s xs)
          → cond b (Some x.1) (opening_at s (insert_entry nat_cmp xs t o)) ≡ cond (eqb s t) (Some o) (cond b (Some x.1) (opening_at s xs))
      found f true g r = ap (λ (c : Bool). cond c (Some o) (Some x.1)) (sym (differs s t x.0 (another f) g))
      found f false g r = r

      on : (c : Ordering) → nat_cmp t x.0 ≡ c → opening_at s (insert_entry nat_cmp xs t o) ≡ cond (eqb s t) (Some o) (opening_at s xs)
          → opening_at s (match_ordering c ((t, o) ∷ x ∷ xs) ((x.0, o) ∷ xs) (x ∷ insert_entry nat_cmp xs t o)) ≡ cond (eqb s t) (Some o) (opening_at s (x ∷ xs))
      on Less f r = refl
      on Equal f r = replaced (eqb s x.0) ∙ ap (λ (k : ℕ). cond (eqb s k) (Some o) (opening_at s (x ∷ xs))) (sym (token_equal t x.0 (sym (token_is t x.0) ∙ ap is_eq f)))
      on Greater f r = found f (eqb s x.0) refl r

  pub put_out : (os : Openings) → opening_at t os ≡ None → closed t (insert_entry nat_cmp os t o) ≡ os
  put_out [] e = ap (λ (b : Bool). cond b [] ((t, o) ∷ [])) (token_here t)
  put_out (x ∷ xs) e = on (nat_cmp t x.0) refl (put_out xs rest.1)
    where
      rest : (eqb t x.0 ≡ false) × (opening_at t xs ≡ None)
      rest = none_here (eqb t x.0) x.1 (opening_at t xs) e

      on : (c : Ordering) → nat_cmp t x.0 ≡ c → closed t (insert_entry nat_cmp xs t o) ≡ xs
          → remove_entry (eqb t) (match_ordering c ((t, o) ∷ x ∷ xs) ((x.0, o) ∷ xs) (x ∷ insert_entry nat_cmp xs t o)) ≡ x ∷ xs
      on Less f r = ap (λ (b : Bool). cond b (x ∷ xs) ((t, o) ∷ remove_entry (eqb t) (x ∷ xs))) (token_here t)
      on Equal f r = absurd (equal_none x xs f e)
      on Greater f r = ap (λ (b : Bool). cond b (insert_entry nat_cmp xs t o) (x ∷ remove_entry (eqb t) (insert_entry nat_cmp xs t o))) rest.0 ∙ ap (λ (l : Openings). x ∷ l) r

  pub put_length : (os : Openings) → opening_at t os ≡ None → length (insert_entry nat_cmp os t o) ≡ suc (length os)
  put_length [] e = refl
  put_length (x ∷ xs) e = on (nat_cmp t x.0) refl (put_length xs (none_here (eqb t x.0) x.1 (opening_at t xs) e).1)
    where
      on : (c : Ordering) → nat_cmp t x.0 ≡ c → length (insert_entry nat_cmp xs t o) ≡ suc (length xs) → length (match_ordering c ((t, o) ∷ x ∷ xs) ((x.0, o) ∷ xs) (x ∷ insert_entry nat_cmp xs t o)) ≡ suc (length (x ∷ xs))
      on Less f r = refl
      on Equal f r = absurd (equal_none x xs f e)
      on Greater f r = ap suc r

  pub put_apart : (os : Openings) → opening_at t os ≡ None → AreApart os → AreApart (insert_entry nat_cmp os t o)
  put_apart [] e a = (refl, tt)
  put_apart (x ∷ xs) e a = on (nat_cmp t x.0) refl (put_apart xs rest.1 a.1)
    where
      rest : (eqb t x.0 ≡ false) × (opening_at t xs ≡ None)
      rest = none_here (eqb t x.0) x.1 (opening_at t xs) e

      other : (b : Bool) → eqb x.0 t ≡ b → b ≡ false
      other true g = absurd (not_token t x.0 rest.0 (sym (token_equal x.0 t g)))
      other false g = refl

      free : opening_at x.0 (insert_entry nat_cmp xs t o) ≡ None
      free = put_at xs x.0 ∙ ap (λ (b : Bool). cond b (Some o) (opening_at x.0 xs)) (other (eqb x.0 t) refl) ∙ a.0

      on : (c : Ordering) → nat_cmp t x.0 ≡ c → AreApart (insert_entry nat_cmp xs t o) → AreApart (match_ordering c ((t, o) ∷ x ∷ xs) ((x.0, o) ∷ xs) (x ∷ insert_entry nat_cmp xs t o))
      on Less f r = (e, a)
      on Equal f r = absurd (equal_none x xs f e)
      on Greater f r = (free, r)

-- one is closed
module _ (t : ℕ) where
  pub out_at : (os : Openings) → AreApart os → (s : ℕ) → opening_at s (closed t os) ≡ cond (eqb s t) None (opening_at s os)
  out_at [] a s = none (eqb s t)
    where
      none : (b : Bool) → opening_at s [] ≡ cond b None (opening_at s [])
      none true = refl
      none false = refl
  out_at (x ∷ xs) a s = on (eqb t x.0) refl (out_at xs a.1 s)
    where
      gone : (b : Bool) → eqb t x.0 ≡ true → eqb s t ≡ b → opening_at s xs ≡ cond b None (cond (eqb s x.0) (Some x.1) (opening_at s xs))
      gone true f g = ap (λ (k : ℕ). opening_at k xs) (token_equal s t g ∙ token_equal t x.0 f) ∙ a.0
      gone false f g = ap (λ (b : Bool). cond b (Some x.1) (opening_at s xs)) (sym (ap (eqb s) (sym (token_equal t x.0 f)) ∙ g))

      stays : (b : Bool) → eqb t x.0 ≡ false → eqb s x.0 ≡ b → opening_at s (closed t xs) ≡ cond (eqb s t) None (opening_at s xs)
          → cond b (Some x.1) (opening_at s (closed t xs)) ≡ cond (eqb s t) None (cond b (Some x.1) (opening_at s xs))
      stays true f g r = ap (λ (c : Bool). cond c None (Some x.1)) (sym (differs s t x.0 f g))
      stays false f g r = r

      on : (b : Bool) → eqb t x.0 ≡ b → opening_at s (closed t xs) ≡ cond (eqb s t) None (opening_at s xs)
          → opening_at s (cond b xs (x ∷ remove_entry (eqb t) xs)) ≡ cond (eqb s t) None (opening_at s (x ∷ xs))
      on true f r = gone (eqb s t) f refl
      on false f r = stays (eqb s x.0) f refl r

  pub out_apart : (os : Openings) → AreApart os → AreApart (closed t os)
  out_apart [] a = tt
  out_apart (x ∷ xs) a = on (eqb t x.0) (out_apart xs a.1)
    where
      either : (b : Bool) (r : Option Opening) → r ≡ None → cond b None r ≡ None
      either true r e = refl
      either false r e = e

      on : (b : Bool) → AreApart (closed t xs) → AreApart (cond b xs (x ∷ remove_entry (eqb t) xs))
      on true r = a.1
      on false r = (out_at xs a.1 x.0 ∙ either (eqb x.0 t) (opening_at x.0 xs) a.0, r)

-- those of a list are closed one after another
pub back_end : (ts : List ℕ) (t : ℕ) (os : Openings) → closed_back (ts ++ t ∷ []) os ≡ closed_back ts (closed t os)
back_end [] t os = refl
back_end (s ∷ ss) t os = ap (closed s) (back_end ss t os)

-- boxes leave
abbrev pub without_all : List Name → Opening → Opening
without_all [] o = o
without_all (n ∷ ns) o = without_all ns (without n o)

one_at : (n : Name) (os : Openings) (t : ℕ) → opening_at t (after_one n os) ≡ option_map (without n) (opening_at t os)
one_at n [] t = refl
one_at n (x ∷ xs) t = on (eqb t x.0) (one_at n xs t)
  where
    on : (b : Bool) → opening_at t (after_one n xs) ≡ option_map (without n) (opening_at t xs) → cond b (Some (without n x.1)) (opening_at t (after_one n xs)) ≡ option_map (without n) (cond b (Some x.1) (opening_at t xs))
    on true r = refl
    on false r = r

one_apart : (n : Name) (os : Openings) → AreApart os → AreApart (after_one n os)
one_apart n [] a = tt
one_apart n (x ∷ xs) a = (one_at n xs x.0 ∙ ap (option_map (without n)) a.0, one_apart n xs a.1)

pub leave_at : (ns : List Name) (os : Openings) (t : ℕ) → opening_at t (after_leave ns os) ≡ option_map (without_all ns) (opening_at t os)
leave_at [] os t = itself (opening_at t os)
  where
    itself : (o : Option Opening) → o ≡ option_map (λ (q : Opening). q) o
    itself None = refl
    itself (Some q) = refl
leave_at (n ∷ ns) os t = leave_at ns (after_one n os) t ∙ ap (option_map (without_all ns)) (one_at n os t) ∙ both (opening_at t os)
  where
    both : (o : Option Opening) → option_map (without_all ns) (option_map (without n) o) ≡ option_map (without_all (n ∷ ns)) o
    both None = refl
    both (Some q) = refl

pub leave_apart : (ns : List Name) (os : Openings) → AreApart os → AreApart (after_leave ns os)
leave_apart [] os a = a
leave_apart (n ∷ ns) os a = leave_apart ns (after_one n os) (one_apart n os a)

pub same_after : (ns : List Name) (o : Opening) → (without_all ns o).place ≡ o.place
same_after [] o = refl
same_after (n ∷ ns) o = same_after ns (without n o)

-- a box that leaves is the place, or holds it
abbrev pub leaves_from : Name → Opening → Bool
leaves_from n o = same_place (Place.Box n) o.place || is_in n o.boxes

stays_whole : (n : Name) (o : Opening) → leaves_from n o ≡ false → without n o ≡ o
stays_whole n o e = ap (λ (b : Bool). record o { boxes = if b then [] else o.boxes }) e

pub without_none : (ns : List Name) (o : Opening) → ((n : Name) → IsIn n ns → leaves_from n o ≡ false) → without_all ns o ≡ o
without_none [] o h = refl
without_none (n ∷ ns) o h = ap (without_all ns) (stays_whole n o (h n (inl refl))) ∙ without_none ns o (λ m i. h m (inr i))

empty_stays : (ns : List Name) (o : Opening) → o.boxes ≡ [] → (without_all ns o).boxes ≡ []
empty_stays [] o e = e
empty_stays (n ∷ ns) o e = empty_stays ns (without n o) (on (leaves_from n o))
  where
    on : (b : Bool) → (if b then [] else o.boxes) ≡ []
    on true = refl
    on false = e

pub without_some : (ns : List Name) (o : Opening) (n : Name) → IsIn n ns → leaves_from n o ≡ true → (without_all ns o).boxes ≡ []
without_some [] o n i e = absurd i
without_some (m ∷ ms) o n i e = on (leaves_from m o) refl i (λ j. without_some ms o n j e)
  where
    on : (b : Bool) → leaves_from m o ≡ b → IsIn n (m ∷ ms) → (IsIn n ms → (without_all ms o).boxes ≡ []) → (without_all ms (without m o)).boxes ≡ []
    on true f i r = empty_stays ms (without m o) (ap (λ (b : Bool). if b then [] else o.boxes) f)
    on false f (inl same) r = absurd (let no : true ≡ false = sym e ∙ ap (λ (k : Name). leaves_from k o) same ∙ f in cc)
    on false f (inr i) r = ap (λ (q : Opening). (without_all ms q).boxes) (stays_whole m o f) ∙ r i

without_fewer : (n : Name) (o : Opening) (k : Name) → is_in k (without n o).boxes ≡ true → is_in k o.boxes ≡ true
without_fewer n o k = on (leaves_from n o)
  where
    on : (b : Bool) → is_in k (if b then [] else o.boxes) ≡ true → is_in k o.boxes ≡ true
    on true e = cc
    on false e = e

pub without_less : (ns : List Name) (o : Opening) (k : Name) → is_in k (without_all ns o).boxes ≡ true → is_in k o.boxes ≡ true
without_less [] o k e = e
without_less (n ∷ ns) o k e = without_fewer n o k (without_less ns (without n o) k e)
