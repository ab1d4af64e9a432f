-- Quoted text as bytes: the scan, which looks at bytes, finds what `Quotes` says of characters.
use Rattle.std.proofs.Common.{◌≡◌, ℕ, suc, ◌+◌, ◌<◌, ◌≤◌, Bool, true, false, List, [], ◌∷◌, ◌++◌, length, drop, take, Option, Some, None, refl, sym, ap, subst, ◌∙◌, ◌⊎◌, inl, inr, arith}
use Rattle.std.specs.Prelude.{option_map, slice_index, ◌==◌, ◌||◌, nat_le, encode_utf8, encode_utf8_all}
use Rattle.std.specs.Char.{IsScalar}
use Rattle.std.specs.Str.{IsUtf8, is_utf8}
use lib.Utf8.{scalars}
use Rattle.akl_text.specs.Front.{begins_with}
use Rattle.std.proofs.lemmas.Bool.{eqb-true, ne_eqb, and_parts, and_from, le-leb, cases_lt, cases_eq}
use Rattle.std.proofs.lemmas.Bool.Decides.{nat_tests}
use Rattle.std.proofs.lemmas.Str.{encode_ascii, char_from_byte, inside_one, is_utf8-from_IsUtf8, IsUtf8-from_is_utf8}
use Rattle.std.proofs.lemmas.List.{append-nil, take_at}
use Rattle.akl_text.specs.Quotes.{IsPlain, IsEscape, twice, quote, backslash, newline, tab, Quotes, nothing, plain, escape}
use Rattle.akl_text.specs.Computed.{is_escape, is_plain, quoted_end, if_utf8, quoted_at}
use Rattle.akl_text.proofs.Cases.{by_cond}
use Rattle.akl_text.proofs.QuotedEnds.{quoted_cons}

-- bytes between quotes, one or an escape at a time
pub data Inner : List ℕ → Type 0 where
  none : Inner []
  one : {b : ℕ} {w : List ℕ} → is_plain b ≡ true → Inner w → Inner (b ∷ w)
  two : {a b : ℕ} {w : List ℕ} → is_escape a b ≡ true → Inner w → Inner (a ∷ b ∷ w)

-- ---- the scan against these bytes
pub record Closed (t : List ℕ) (n : ℕ) : Type 0 where
  pub w : List ℕ
  pub rest : List ℕ
  pub inner : Inner w
  pub parts : t ≡ w ++ 39 ∷ rest
  pub single : (slice_index rest 0 == 39) ≡ false
  pub count : n ≡ length w

abbrev pub IfClosed : List ℕ → Option ℕ → Type 0
IfClosed t None = Unit {0}
IfClosed t (Some n) = Closed t n

after_one : (a : ℕ) (t : List ℕ) (o : Option ℕ) → is_plain a ≡ true → IfClosed t o → IfClosed (a ∷ t) (option_map suc o)
after_one a t None e h = tt
after_one a t (Some n) e h = record { w = a ∷ h.w; rest = h.rest; inner = one e h.inner; parts = ap (λ (z : List ℕ). a ∷ z) h.parts; single = h.single; count = ap suc h.count }

after_two : (a b : ℕ) (t : List ℕ) (o : Option ℕ) → is_escape a b ≡ true → IfClosed t o → IfClosed (a ∷ b ∷ t) (option_map (λ n. 2 + n) o)
after_two a b t None e h = tt
after_two a b t (Some n) e h =
    record { w = a ∷ b ∷ h.w; rest = h.rest; inner = two e h.inner; parts = ap (λ (z : List ℕ). a ∷ b ∷ z) h.parts; single = h.single; count = omega (arith, h.count) }

closes : (a : ℕ) (t : List ℕ) → is_escape a (slice_index t 0) ≡ false → (a == 39) ≡ true → Closed (a ∷ t) 0
closes a t alone e =
    record { w = []; rest = t; inner = none; parts = ap (λ (z : ℕ). z ∷ t) (eqb-true a 39 e); single = rw (eqb-true a 39 e) at alone; count = refl }

pub scan_closed : (t : List ℕ) → IfClosed t (quoted_end t)
scan_closed [] = tt
scan_closed (a ∷ []) =
    by_cond (λ x. IfClosed (a ∷ []) x) (is_plain a) _ _ (λ _. tt) (λ _.
    by_cond (λ x. IfClosed (a ∷ []) x) (a == 39) _ _ (λ e. closes a [] (rw e refl) e) (λ _. tt))
scan_closed (a ∷ b ∷ t) =
    by_cond (λ x. IfClosed (a ∷ b ∷ t) x) (is_escape a b) _ _ (λ e. after_two a b t (quoted_end t) e (scan_closed t)) (λ alone.
    by_cond (λ x. IfClosed (a ∷ b ∷ t) x) (is_plain a) _ _ (λ e. after_one a (b ∷ t) (quoted_end (b ∷ t)) e (scan_closed (b ∷ t))) (λ _.
    by_cond (λ x. IfClosed (a ∷ b ∷ t) x) (a == 39) _ _ (λ e. closes a (b ∷ t) alone e) (λ _. tt)))

-- a plain byte begins no escape
plain_not_escape : (a b : ℕ) → is_plain a ≡ true → is_escape a b ≡ false
plain_not_escape a b e = grind (arith, nat_tests)

pub inner_scanned : {w : List ℕ} (rest : List ℕ) → Inner w → (slice_index rest 0 == 39) ≡ false → quoted_end (w ++ 39 ∷ rest) ≡ Some (length w)
inner_scanned rest none e = quoted_cons 39 rest ∙ rw e refl
inner_scanned rest (one {b = b} {w = w} p q) e =
    quoted_cons b (w ++ 39 ∷ rest) ∙ rw (plain_not_escape b (slice_index (w ++ 39 ∷ rest) 0) p, p, inner_scanned rest q e) refl
inner_scanned rest (two {a = a} {b = b} {w = w} p q) e =
    quoted_cons a (b ∷ w ++ 39 ∷ rest) ∙ rw (p, inner_scanned rest q e) (let z : 2 + length w ≡ suc (suc (length w)) = omega arith in ap Some z)

-- ---- bytes against characters
-- bytes of characters beyond ASCII
abbrev High : List ℕ → Type 0
High [] = Unit {0}
High (b ∷ t) = (128 ≤ b) × High t

high_from : (x : List ℕ) → ((k : ℕ) → k < length x → 128 ≤ slice_index x k) → High x
high_from [] h = tt
high_from (b ∷ x) h = (h 0 (omega arith), high_from x (λ k l. h (suc k) (omega (arith, l))))

encode_high : (c : ℕ) → 128 ≤ c → High (encode_utf8 c)
encode_high c h = high_from (encode_utf8 c) (λ k l. go k l (cases_lt (slice_index (encode_utf8 c) k) 128))
  where
    go : (k : ℕ) → k < length (encode_utf8 c) → (slice_index (encode_utf8 c) k < 128) ⊎ (128 ≤ slice_index (encode_utf8 c) k) → 128 ≤ slice_index (encode_utf8 c) k
    go k l (inl e) = absurd (omega (arith, inside_one c [] (encode_utf8 c) k (sym (append-nil (encode_utf8 c))) l e))
    go k l (inr e) = e

high_plain : (b : ℕ) → 128 ≤ b → is_plain b ≡ true
high_plain b h = grind (arith, nat_tests)

high_then : (x : List ℕ) {w : List ℕ} → High x → Inner w → Inner (x ++ w)
high_then [] h q = q
high_then (b ∷ x) h q = one (high_plain b h.0) (high_then x h.1 q)

-- an escape begins below 128
escape_low : (a b : ℕ) → is_escape a b ≡ true → (a < 128) × (b < 128)
escape_low a b e = (grind (arith, nat_tests), grind (arith, nat_tests))

high_off : (x v : List ℕ) {u : List ℕ} → High x → Inner u → u ≡ x ++ v → Inner v
high_off [] v h q e = subst Inner e q
high_off (b ∷ x) v h none e = absurd cc
high_off (b ∷ x) v h (one p q) e = high_off x v h.1 q (ap (drop 1) e)
high_off (b ∷ x) v h (two {a = a} {b = d} p q) e = absurd (let f : a ≡ b = ap (λ (z : List ℕ). slice_index z 0) e in omega (arith, h.0, f, (escape_low a d p).0))

-- the five escapes
escape_of : (a b : ℕ) → is_escape a b ≡ true → (c : ℕ) × IsEscape a b c
escape_of a b e =
    elim (cases_eq a 39) as (λ _. (c : ℕ) × IsEscape a b c) [
      | inl q ↦ rw (q, eqb-true b 39 (rw q at e)) (39, twice)
      | inr n ↦ slash (cases_eq a 92) n
    ]
  where
    marked : (x y z w : Bool) → (b == 39) ≡ x → (b == 92) ≡ y → (b == 110) ≡ z → (b == 116) ≡ w → (x || y || z || w) ≡ true → (c : ℕ) × IsEscape 92 b c
    marked true y z w ex ey ez ew h = rw (eqb-true b 39 ex) (39, quote)
    marked false true z w ex ey ez ew h = rw (eqb-true b 92 ey) (92, backslash)
    marked false false true w ex ey ez ew h = rw (eqb-true b 110 ez) (10, newline)
    marked false false false true ex ey ez ew h = rw (eqb-true b 116 ew) (9, tab)
    marked false false false false ex ey ez ew h = absurd cc

    slash : (a ≡ 92) ⊎ (a ≡ 92 → ⊥) → (a ≡ 39 → ⊥) → (c : ℕ) × IsEscape a b c
    slash (inl q) n = rw q (marked _ _ _ _ refl refl refl refl (rw q at e))
    slash (inr m) n = absurd (let f = rw (ne_eqb a 39 n, ne_eqb a 92 m) at e in cc)

escape_is : {a b c : ℕ} → IsEscape a b c → is_escape a b ≡ true
escape_is twice = refl
escape_is quote = refl
escape_is backslash = refl
escape_is newline = refl
escape_is tab = refl

plain_below : (c : ℕ) → IsScalar c → is_plain c ≡ true → IsPlain c
plain_below c s e = record {
  scalar = s;
  printable = grind (arith, nat_tests);
  not_quote = λ q. absurd (let f = rw q at e in cc);
  not_backslash = λ q. absurd (let f = rw q at e in cc);
  not_delete = λ q. absurd (let f = rw q at e in cc);
}

plain_is : (c : ℕ) → IsPlain c → is_plain c ≡ true
plain_is c p = rw (lt-leb' c p.printable, ne_eqb c 39 p.not_quote, ne_eqb c 92 p.not_backslash, ne_eqb c 127 p.not_delete) refl
  where
    lt-leb' : (c : ℕ) → 32 ≤ c → nat_le 32 c ≡ true
    lt-leb' c h = le-leb 32 c h

plain_inner : (c : ℕ) {w : List ℕ} → (c < 128) ⊎ (128 ≤ c) → IsPlain c → Inner w → Inner (encode_utf8 c ++ w)
plain_inner c (inl low) p q = rw (encode_ascii c low) (one (plain_is c p) q)
plain_inner c (inr high) p q = high_then (encode_utf8 c) (encode_high c high) q

-- what `Quotes` says of characters is so of their bytes
pub quotes_inner : {cs text : List ℕ} → Quotes cs text → Inner (encode_utf8_all cs)
quotes_inner nothing = none
quotes_inner (plain {c = c} p q) = plain_inner c (cases_lt c 128) p (quotes_inner q)
quotes_inner (escape {a = a} {b = b} e q) =
    let low = escape_low a b (escape_is e) in
    rw (encode_ascii a low.0, encode_ascii b low.1) (two (escape_is e) (quotes_inner q))

pub quotes_scalar : {cs text : List ℕ} → Quotes cs text → scalars cs ≡ true
quotes_scalar nothing = refl
quotes_scalar (plain p q) = and_from _ _ p.scalar (quotes_scalar q)
quotes_scalar (escape twice q) = quotes_scalar q
quotes_scalar (escape quote q) = quotes_scalar q
quotes_scalar (escape backslash q) = quotes_scalar q
quotes_scalar (escape newline q) = quotes_scalar q
quotes_scalar (escape tab q) = quotes_scalar q

-- and the other way round
abbrev Quotable : List ℕ → Type 0
Quotable cs = (text : List ℕ) × Quotes cs text

abbrev Ready : List ℕ → Type 0
Ready cs = (u : List ℕ) → Inner u → u ≡ encode_utf8_all cs → Quotable cs

abbrev ReadyTail : List ℕ → Type 0
ReadyTail [] = Unit {0}
ReadyTail (d ∷ ds) = Ready ds

high_quotes : (c : ℕ) (cs : List ℕ) → IsScalar c → 128 ≤ c → Ready cs → Ready (c ∷ cs)
high_quotes c cs s h ready u q e =
    let more = ready (encode_utf8_all cs) (high_off (encode_utf8 c) (encode_utf8_all cs) (encode_high c h) q e) refl in
    (c ∷ more.0, plain (plain_below c s (high_plain c h)) more.1)

head_is : {x y : ℕ} {xs ys : List ℕ} → x ∷ xs ≡ y ∷ ys → x ≡ y
head_is e = ap (λ (z : List ℕ). slice_index z 0) e

tail_is : {x y : ℕ} {xs ys : List ℕ} → x ∷ xs ≡ y ∷ ys → xs ≡ ys
tail_is e = ap (λ (z : List ℕ). drop 1 z) e

two_quotes : (c a b : ℕ) (cs w : List ℕ) → is_escape a b ≡ true → Inner w → a ≡ c → b ∷ w ≡ encode_utf8_all cs → ReadyTail cs → Quotable (c ∷ cs)
two_quotes c a b [] w p q i e ready = absurd cc
two_quotes c a b (d ∷ ds) w p q i e ready =
    let low = escape_low a b p in
    let j : d ≡ b = char_from_byte (b ∷ w) (encode_utf8_all ds) d e low.1 (omega arith) in
    let f : b ∷ w ≡ d ∷ encode_utf8_all ds = e ∙ ap (λ (z : List ℕ). z ++ encode_utf8_all ds) (encode_ascii d (omega (arith, j, low.1))) in
    let more = ready w q (tail_is f) in
    let found = escape_of c d (ap (λ (x : ℕ). is_escape x d) (sym i) ∙ ap (is_escape a) j ∙ p) in
    (found.0 ∷ more.0, escape found.1 more.1)

low_quotes : (c : ℕ) (cs : List ℕ) → IsScalar c → Ready cs → ReadyTail cs → (u : List ℕ) → Inner u → u ≡ c ∷ encode_utf8_all cs → Quotable (c ∷ cs)
low_quotes c cs s ready tails u none e = absurd cc
low_quotes c cs s ready tails u (one {b = b} {w = w} p q) e =
    let more = ready w q (tail_is e) in
    (c ∷ more.0, plain (plain_below c s (ap is_plain (sym (head_is e)) ∙ p)) more.1)
low_quotes c cs s ready tails u (two {a = a} {b = b} {w = w} p q) e = two_quotes c a b cs w p q (head_is e) (tail_is e) tails

step : (c : ℕ) (cs : List ℕ) → IsScalar c → Ready cs → ReadyTail cs → Ready (c ∷ cs)
step c cs s ready tails u q e =
    elim (cases_lt c 128) as (λ _. Quotable (c ∷ cs)) [
      | inl low ↦ low_quotes c cs s ready tails u q (e ∙ ap (λ (z : List ℕ). z ++ encode_utf8_all cs) (encode_ascii c low))
      | inr high ↦ high_quotes c cs s high ready u q e
    ]

pub inner_quotes : (cs : List ℕ) → scalars cs ≡ true → Ready cs
inner_quotes [] s = λ u q e. ([], nothing)
inner_quotes (c ∷ []) s = step c [] (and_parts _ true s).0 (λ u q e. ([], nothing)) tt
inner_quotes (c ∷ d ∷ ds) s =
    let first = and_parts _ (scalars (d ∷ ds)) s in
    let second = and_parts _ (scalars ds) first.1 in
    step c (d ∷ ds) first.0 (inner_quotes (d ∷ ds) first.1) (inner_quotes ds second.1)

-- ---- quoted text
single_is : (rest : List ℕ) → (slice_index rest 0 == 39) ≡ begins_with 39 rest
single_is [] = refl
single_is (b ∷ rest) = refl

-- the scan found quoted text of n bytes
pub record IsQuoted (t : List ℕ) (n : ℕ) : Type 0 where
  pub cs : List ℕ
  pub text : List ℕ
  pub rest : List ℕ
  pub quotes : Quotes cs text
  pub parts : t ≡ encode_utf8_all cs ++ 39 ∷ rest
  pub single : begins_with 39 rest ≡ false
  pub count : n ≡ length (encode_utf8_all cs)

pub quoted_found : (t : List ℕ) (n : ℕ) → IfClosed t (Some n) → is_utf8 (take n t) ≡ true → IsQuoted t n
quoted_found t n h e =
    let front-is : take n t ≡ h.w = ap (take n) h.parts ∙ take_at h.w (39 ∷ h.rest) n (sym h.count) in
    let utf8 = IsUtf8-from_is_utf8 (take n t) e in
    let bytes-are : h.w ≡ encode_utf8_all utf8.0 = sym (utf8.1.1 ∙ front-is) in
    let found = inner_quotes utf8.0 utf8.1.0 h.w h.inner bytes-are in
    record {
      cs = utf8.0;
      text = found.0;
      rest = h.rest;
      quotes = found.1;
      parts = h.parts ∙ ap (λ (z : List ℕ). z ++ 39 ∷ h.rest) bytes-are;
      single = sym (single_is h.rest) ∙ h.single;
      count = h.count ∙ ap length bytes-are;
    }

utf8_is : (t w : List ℕ) (n : ℕ) → take n t ≡ w → IsUtf8 w → if_utf8 t (Some n) ≡ Some n
utf8_is t w n e u = rw (e, is_utf8-from_IsUtf8 w u) refl

pub quoted_is : {cs text : List ℕ} (rest : List ℕ) → Quotes cs text → begins_with 39 rest ≡ false → quoted_at (encode_utf8_all cs ++ 39 ∷ rest) ≡ Some (length (encode_utf8_all cs))
quoted_is {cs} rest q e =
    rw (inner_scanned rest (quotes_inner q) (single_is rest ∙ e))
    (utf8_is (encode_utf8_all cs ++ 39 ∷ rest) (encode_utf8_all cs) (length (encode_utf8_all cs)) (take_at (encode_utf8_all cs) (39 ∷ rest) (length (encode_utf8_all cs)) refl) (cs, (quotes_scalar q, refl)))
