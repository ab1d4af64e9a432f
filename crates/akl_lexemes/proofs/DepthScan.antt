-- How the scan for too many open brackets goes on.
use Rattle.std.proofs.Common.{◌≡◌, ℕ, suc, ◌+◌, ◌-◌, ◌<◌, ◌≤◌, Bool, true, false, List, [], ◌∷◌, ◌++◌, length, Some, refl, sym, ap, ◌∙◌, arith, append_assoc}
use Rattle.std.specs.Prelude.{if◌then◌else◌}
use Rattle.std.proofs.lemmas.Bool.Decides.{nat_tests}
use Rattle.akl_text.specs.declared.token.Kind.{Kind}
use Rattle.akl_text.specs.declared.token.Kind.TheVariants as kinds
use Rattle.akl_text.specs.declared.token.Token.{Token}
use Rattle.akl_lexemes.specs.Limits.{opens, closes, how_many, is_too_deep, too_deep_behind, first_too_deep}

counted : (b : Bool) (m n : ℕ) → m ≡ suc n → (if b then suc m else m) ≡ suc (if b then suc n else n)
counted true m n e = ap suc e
counted false m n e = e

counted_same : (b : Bool) (m n : ℕ) → m ≡ n → (if b then suc m else m) ≡ (if b then suc n else n)
counted_same true m n e = ap suc e
counted_same false m n e = e

how_many_some : (p : Kind → Bool) (xs : List Token) (t : Token) → p t.kind ≡ true → how_many p (xs ++ t ∷ []) ≡ suc (how_many p xs)
how_many_some p [] t e = rw e refl
how_many_some p (x ∷ xs) t e = counted (p x.kind) (how_many p (xs ++ t ∷ [])) (how_many p xs) (how_many_some p xs t e)

how_many_none : (p : Kind → Bool) (xs : List Token) (t : Token) → p t.kind ≡ false → how_many p (xs ++ t ∷ []) ≡ how_many p xs
how_many_none p [] t e = rw e refl
how_many_none p (x ∷ xs) t e = counted_same (p x.kind) (how_many p (xs ++ t ∷ [])) (how_many p xs) (how_many_none p xs t e)

opener_closes_not : (k : Kind) → opens k ≡ true → closes k ≡ false
opener_closes_not k e = (elim k as (λ x. opens x ≡ true → closes x ≡ false) [ kinds.Open ↦ λ h. refl | kinds.OpenCall ↦ λ h. refl | kinds.OpenList ↦ λ h. refl | _ ↦ λ h. absurd cc ]) e

pub record DepthSoFar (start : List Token) (opened closed : ℕ) (rest : List Token) : Type 0 where
  pub passed : List Token
  pub whole : start ≡ passed ++ rest
  pub opens_so_far : opened ≡ how_many opens passed
  pub closes_so_far : closed ≡ how_many closes passed
  pub shallow : opened ≤ closed + 200
  pub opened_within : opened + length rest ≤ length start
  pub closed_within : closed + length rest ≤ length start
  pub same : first_too_deep start ≡ too_deep_behind passed rest

pub depth_start : (ts : List Token) → DepthSoFar ts 0 0 ts
depth_start ts = record { passed = []; whole = refl; opens_so_far = refl; closes_so_far = refl; shallow = omega arith; opened_within = omega arith; closed_within = omega arith; same = refl }

not_deep : (before : List Token) (t : Token) (ts : List Token) → how_many opens (before ++ t ∷ []) ≤ how_many closes before + 200 → too_deep_behind before (t ∷ ts) ≡ too_deep_behind (before ++ t ∷ []) ts
not_deep before t ts h =
    let e : is_too_deep before t ≡ false = grind (arith, nat_tests) in rw e refl

pub is_deep : {start : List Token} {opened closed : ℕ} {t : Token} {ts : List Token} → DepthSoFar start opened closed (t ∷ ts) → opens t.kind ≡ true → 200 ≤ opened - closed → first_too_deep start ≡ Some t
is_deep {t = t} {ts = ts} h o g =
    let more : how_many opens (h.passed ++ t ∷ []) ≡ suc (how_many opens h.passed) = how_many_some opens h.passed t o in
    let lt : how_many closes h.passed + 200 < how_many opens (h.passed ++ t ∷ []) = omega (arith, more, h.opens_so_far, h.closes_so_far, g) in
    let e : is_too_deep h.passed t ≡ true = grind (arith, nat_tests, lt) in
    h.same ∙ rw e refl

append_one : (xs : List Token) (t : Token) (ts : List Token) → xs ++ t ∷ ts ≡ (xs ++ t ∷ []) ++ ts
append_one xs t ts = rw append_assoc refl

pub depth_opened : {start : List Token} {opened closed : ℕ} {t : Token} {ts : List Token} → DepthSoFar start opened closed (t ∷ ts) → opens t.kind ≡ true → opened - closed < 200 → DepthSoFar start (opened + 1) closed ts
depth_opened {t = t} {ts = ts} h o g =
    let more : how_many opens (h.passed ++ t ∷ []) ≡ suc (how_many opens h.passed) = how_many_some opens h.passed t o in
    record {
      passed = h.passed ++ t ∷ [];
      whole = h.whole ∙ append_one h.passed t ts;
      opens_so_far = omega (arith, more, h.opens_so_far);
      closes_so_far = h.closes_so_far ∙ sym (how_many_none closes h.passed t (opener_closes_not t.kind o));
      shallow = omega (arith, g);
      opened_within = omega (arith, h.opened_within);
      closed_within = omega (arith, h.closed_within);
      same = h.same ∙ not_deep h.passed t ts (omega (arith, more, g, h.opens_so_far, h.closes_so_far));
    }

pub depth_closed : {start : List Token} {opened closed : ℕ} {t : Token} {ts : List Token} → DepthSoFar start opened closed (t ∷ ts) → opens t.kind ≡ false → closes t.kind ≡ true → DepthSoFar start opened (closed + 1) ts
depth_closed {t = t} {ts = ts} h o g =
    let none : how_many opens (h.passed ++ t ∷ []) ≡ how_many opens h.passed = how_many_none opens h.passed t o in
    let more : how_many closes (h.passed ++ t ∷ []) ≡ suc (how_many closes h.passed) = how_many_some closes h.passed t g in
    record {
      passed = h.passed ++ t ∷ [];
      whole = h.whole ∙ append_one h.passed t ts;
      opens_so_far = h.opens_so_far ∙ sym none;
      closes_so_far = omega (arith, more, h.closes_so_far);
      shallow = omega (arith, h.shallow);
      opened_within = omega (arith, h.opened_within);
      closed_within = omega (arith, h.closed_within);
      same = h.same ∙ not_deep h.passed t ts (omega (arith, none, h.shallow, h.opens_so_far, h.closes_so_far));
    }

pub depth_stayed : {start : List Token} {opened closed : ℕ} {t : Token} {ts : List Token} → DepthSoFar start opened closed (t ∷ ts) → opens t.kind ≡ false → closes t.kind ≡ false → DepthSoFar start opened closed ts
depth_stayed {t = t} {ts = ts} h o g =
    let none : how_many opens (h.passed ++ t ∷ []) ≡ how_many opens h.passed = how_many_none opens h.passed t o in
    record {
      passed = h.passed ++ t ∷ [];
      whole = h.whole ∙ append_one h.passed t ts;
      opens_so_far = h.opens_so_far ∙ sym none;
      closes_so_far = h.closes_so_far ∙ sym (how_many_none closes h.passed t g);
      shallow = h.shallow;
      opened_within = omega (arith, h.opened_within);
      closed_within = omega (arith, h.closed_within);
      same = h.same ∙ not_deep h.passed t ts (omega (arith, none, h.shallow, h.opens_so_far, h.closes_so_far));
    }
