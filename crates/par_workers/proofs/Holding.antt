-- The tokens of all open places, as places open and close, and as tokens are dealt out.
use Rattle.std.proofs.Common.{◌≡◌, ℕ, ◌<◌, ◌==◌, Bool, true, false, List, [], ◌∷◌, length, Option, Some, None, is_some, Result, Ok, Err, refl, sym, ap, subst, ◌∙◌, inl, inr, arith}
use Rattle.std.proofs.lemmas.Bool.Decides.{nat_tests}
use Rattle.std.specs.Prelude.{◌||◌, ◌&&◌, not, cond, is_err, OnOk}
use Rattle.std.specs.Map.{remove_entry}
use Rattle.wake_lists.specs.Open.{Opening, Openings, opening_at, closed, untimed}
use Rattle.wake_lists.specs.TokenSets.{is_token_in, Drops}
use Rattle.scheduler.specs.Openings.{IsNumberIn, KeepsTokens}
use Rattle.scheduler.specs.Schedulers.{SchedulerValue, AllOpen}
use Rattle.scheduler.proofs.KeptTokens.{same_keeps}
use Rattle.scheduler.proofs.Untimed.{untimed_keeps}
use Rattle.par_workers.specs.Tokens.{AreHeld, KeepsHeld, IsShut}
use lib.Dec.{eqb}

-- all are held at first
pub first_held : (s : SchedulerValue) (held : List ℕ) (n : ℕ) → AllOpen s → n ≡ length s.openings → ((token : ℕ) → token < n → is_token_in token held ≡ true) → AreHeld s.openings held
first_held s held n all is has t o e = has t (subst (λ (k : ℕ). t < k) (sym is) ((all.tokens t).0 (ap (λ (x : Option Opening). is_some x) e)))

-- those that are open now were so, or were given
pub given_held : (before now : Openings) (given held after : List ℕ) → KeepsTokens before now given → KeepsHeld now held after → ((token : ℕ) → IsNumberIn token given → is_token_in token after ≡ true)
    → AreHeld before held → AreHeld now after
given_held before now given held after keeps kept has all t o e = elim (keeps.only t o e) [
  | inl w ↦ kept t o e (all t w.0 w.1)
  | inr n ↦ has t n
]

-- whenever they come
pub untimed_held : (before now : Openings) (held : List ℕ) → untimed now ≡ untimed before → AreHeld before held → AreHeld now held
untimed_held before now held same = given_held before now [] held held (untimed_keeps before before now [] same (same_keeps before)) (λ t o e h. h) (λ t n. absurd n)

-- one token leads nowhere, and is let go
pub shut_held : (before now : Openings) (held after : List ℕ) (n : ℕ) → IsShut n before now → Drops held after n → AreHeld before held → AreHeld now after
shut_held before now held after n shut drops all t o e = on (t == n) refl
  where
    on : (b : Bool) → (t == n) ≡ b → is_token_in t after ≡ true
    on true f =
        let same : t ≡ n = grind (arith, nat_tests) in
        let no : None ≡ Some o = sym shut.shut ∙ ap (λ (k : ℕ). opening_at k now) (sym same) ∙ e in absurd cc
    on false f = drops t ∙ ap (λ (b : Bool). b && not (t == n)) (all t o (shut.others t o e)) ∙ ap not f

apart : (t n k : ℕ) → (t == n) ≡ false → eqb n k ≡ true → eqb t k ≡ false
apart t n k f g = grind (arith, nat_tests)

-- the others lead where they led
others_same : (n t : ℕ) → (t == n) ≡ false → (os : Openings) → opening_at t (closed n os) ≡ opening_at t os
others_same n t f [] = refl
others_same n t f (x ∷ xs) = on (eqb n x.0) refl (others_same n t f xs)
  where
    on : (b : Bool) → eqb n x.0 ≡ b → opening_at t (closed n xs) ≡ opening_at t xs → opening_at t (cond b xs (x ∷ remove_entry (eqb n) xs)) ≡ opening_at t (x ∷ xs)
    on true g r = ap (λ (b : Bool). cond b (Some x.1) (opening_at t xs)) (sym (apart t n x.0 f g))
    on false g r = ap (cond (eqb t x.0) (Some x.1)) r

-- one that was closed leads nowhere
pub closed_shut : (n : ℕ) (before now : Openings) → now ≡ closed n before → opening_at n now ≡ None → IsShut n before now
closed_shut n before now is none = record { shut = none; others = λ t o e. on t o e (t == n) refl }
  where
    on : (t : ℕ) (o : Opening) → opening_at t now ≡ Some o → (b : Bool) → (t == n) ≡ b → opening_at t before ≡ Some o
    on t o e true f =
        let same : t ≡ n = grind (arith, nat_tests) in
        let no : None ≡ Some o = sym none ∙ ap (λ (k : ℕ). opening_at k now) (sym same) ∙ e in absurd cc
    on t o e false f = sym (others_same n t f before) ∙ sym (ap (opening_at t) is) ∙ e

-- memory sufficed where no worker is to stop that wasn't
module _ {E : Type 0} (r : Result (Unit {0}) E) (before now : Bool) (is : now ≡ (before || is_err r)) (going : now ≡ false) where
  pub going_before : before ≡ false
  going_before = on before (sym is ∙ going)
    where
      on : (b : Bool) → (b || is_err r) ≡ false → b ≡ false
      on true e = e
      on false e = refl

  pub had_memory : {P : Type 0} → OnOk r P → P
  had_memory p = on r p (sym (ap (λ (b : Bool). b || is_err r) going_before) ∙ sym is ∙ going)
    where
      on : {P : Type 0} (x : Result (Unit {0}) E) → OnOk x P → is_err x ≡ false → P
      on (Ok u) p e = p
      on (Err u) p e = absurd (let no : true ≡ false = e in cc)
