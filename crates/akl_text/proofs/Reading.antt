-- A text is read in one way, and its tokens are tokens of it.
use Rattle.std.proofs.Common.{◌≡◌, ◌≢◌, ℕ, zero, suc, ◌+◌, ◌-◌, ◌<◌, ◌≤◌, true, List, [], ◌∷◌, ◌++◌, length, drop, take, Option, Some, refl, sym, ap, subst, ◌∙◌, arith}
use Rattle.std.specs.Prelude.{slice_index}
use Rattle.std.specs.List.{All}
use Rattle.std.proofs.lemmas.List.{take_at, drop_at, drop-drop, get_or_append_left, length-append, length-drop}
use Rattle.akl_text.specs.Layout.{IsLayout, blank, line_comment, block_comment}
use Rattle.akl_text.specs.Bytes.{is_blank}
use Rattle.akl_terms.specs.Words.{is_lower, is_upper, is_digit}
use Rattle.std.proofs.lemmas.Bool.Decides.{nat_tests}
use Rattle.akl_text.specs.Spelling.{Spells, name, variable, natural, negative, quoted, call_bracket, bracket, close, open_list, close_list, comma, bar, semicolon, neck, arrow, question, equal, less, greater, at_most, at_least, same, differs, plus, minus, star, div, word_is, word_mod, end, spelling, IsTokenOf}
use Rattle.akl_text.specs.Front.{IsLongest}
use Rattle.akl_text.specs.Tokens.{token_at, Outcome, tokens, nothing_at, with_token, Reads, ended, layout, token, last, stuck}
use Rattle.akl_text.specs.Computed.{layout_at, front_at}
use Rattle.akl_text.specs.declared.token.Kind.{Kind}
use Rattle.akl_text.specs.declared.token.Kind.TheVariants.{End}
use Rattle.akl_text.specs.declared.token.Token.{Token}
use Rattle.akl_text.proofs.Names.{name_parts}
use Rattle.akl_text.proofs.FrontLongest.{longest_is}
use Rattle.akl_text.proofs.LayoutFound.{layout_is, layout_not_empty}

-- ---- two pieces at the front of one text
pub front_same : (v w more rest : List ℕ) → v ++ more ≡ w ++ rest → length v ≡ length w → (v ≡ w) × (more ≡ rest)
front_same v w more rest e l =
    (sym (take_at v more (length v) refl) ∙ ap (take (length v)) e ∙ take_at w rest (length v) (sym l), sym (drop_at v more (length v) refl) ∙ ap (drop (length v)) e ∙ drop_at w rest (length v) (sym l))

some_same : {A : Type 0} {x y : A} → Some x ≡ Some y → x ≡ y
some_same e = cc

pub layouts_same : {v more w rest : List ℕ} → v ++ more ≡ w ++ rest → IsLayout v more → IsLayout w rest → length v ≡ length w
layouts_same e l m = some_same (sym (layout_is l) ∙ ap layout_at e ∙ layout_is m)

-- ---- no token begins as layout does
pub record Starts (w : List ℕ) : Type 0 where
  pub some : 0 < length w
  visible : 33 ≤ slice_index w 0
  no_comment : slice_index w 0 ≢ 37
  no_block : slice_index w 0 ≡ 47 → (1 < length w) × (slice_index w 1 ≢ 42)

begun : (b : ℕ) (w : List ℕ) → 33 ≤ b → b ≢ 37 → b ≢ 47 → Starts (b ∷ w)
begun b w h f g = record { some = omega arith; visible = h; no_comment = f; no_block = λ e. absurd (g e) }

lower_begun : (b : ℕ) (w : List ℕ) → is_lower b ≡ true → Starts (b ∷ w)
lower_begun b w e = begun b w (grind (arith, nat_tests)) (λ f. absurd (let g = rw f at e in cc)) (λ f. absurd (let g = rw f at e in cc))

upper_begun : (b : ℕ) (w : List ℕ) → is_upper b ≡ true → Starts (b ∷ w)
upper_begun b w e = begun b w (grind (arith, nat_tests)) (λ f. absurd (let g = rw f at e in cc)) (λ f. absurd (let g = rw f at e in cc))

digit_begun : (b : ℕ) (w : List ℕ) → is_digit b ≡ true → Starts (b ∷ w)
digit_begun b w e = begun b w (grind (arith, nat_tests)) (λ f. absurd (let g = rw f at e in cc)) (λ f. absurd (let g = rw f at e in cc))

pub starts : {k : Kind} {w : List ℕ} → Spells k w → Starts w
starts (name {w = w} e) = let p = name_parts w e in subst Starts (sym p.is) (lower_begun p.first p.more p.lower)
starts (variable e f) = upper_begun _ _ e
starts (natural e f) = digit_begun _ _ e
starts (negative e f) = begun 45 _ (omega arith) (λ x. absurd (omega arith)) (λ x. absurd (omega arith))
starts (quoted q) = begun 39 _ (omega arith) (λ x. absurd (omega arith)) (λ x. absurd (omega arith))
starts call_bracket = begun 40 _ (omega arith) (λ x. absurd (omega arith)) (λ x. absurd (omega arith))
starts bracket = begun 40 _ (omega arith) (λ x. absurd (omega arith)) (λ x. absurd (omega arith))
starts close = begun 41 _ (omega arith) (λ x. absurd (omega arith)) (λ x. absurd (omega arith))
starts open_list = begun 91 _ (omega arith) (λ x. absurd (omega arith)) (λ x. absurd (omega arith))
starts close_list = begun 93 _ (omega arith) (λ x. absurd (omega arith)) (λ x. absurd (omega arith))
starts comma = begun 44 _ (omega arith) (λ x. absurd (omega arith)) (λ x. absurd (omega arith))
starts bar = begun 124 _ (omega arith) (λ x. absurd (omega arith)) (λ x. absurd (omega arith))
starts semicolon = begun 59 _ (omega arith) (λ x. absurd (omega arith)) (λ x. absurd (omega arith))
starts neck = begun 58 _ (omega arith) (λ x. absurd (omega arith)) (λ x. absurd (omega arith))
starts arrow = begun 45 _ (omega arith) (λ x. absurd (omega arith)) (λ x. absurd (omega arith))
starts question = begun 63 _ (omega arith) (λ x. absurd (omega arith)) (λ x. absurd (omega arith))
starts equal = begun 61 _ (omega arith) (λ x. absurd (omega arith)) (λ x. absurd (omega arith))
starts less = begun 60 _ (omega arith) (λ x. absurd (omega arith)) (λ x. absurd (omega arith))
starts greater = begun 62 _ (omega arith) (λ x. absurd (omega arith)) (λ x. absurd (omega arith))
starts at_most = begun 61 _ (omega arith) (λ x. absurd (omega arith)) (λ x. absurd (omega arith))
starts at_least = begun 62 _ (omega arith) (λ x. absurd (omega arith)) (λ x. absurd (omega arith))
starts same = begun 61 _ (omega arith) (λ x. absurd (omega arith)) (λ x. absurd (omega arith))
starts differs = begun 61 _ (omega arith) (λ x. absurd (omega arith)) (λ x. absurd (omega arith))
starts plus = begun 43 _ (omega arith) (λ x. absurd (omega arith)) (λ x. absurd (omega arith))
starts minus = begun 45 _ (omega arith) (λ x. absurd (omega arith)) (λ x. absurd (omega arith))
starts star = begun 42 _ (omega arith) (λ x. absurd (omega arith)) (λ x. absurd (omega arith))
starts div = record { some = omega arith; visible = omega arith; no_comment = λ x. absurd (omega arith); no_block = λ x. (omega arith, λ y. absurd (omega arith)) }
starts word_is = begun 105 _ (omega arith) (λ x. absurd (omega arith)) (λ x. absurd (omega arith))
starts word_mod = begun 109 _ (omega arith) (λ x. absurd (omega arith)) (λ x. absurd (omega arith))
starts end = begun 46 _ (omega arith) (λ x. absurd (omega arith)) (λ x. absurd (omega arith))

blank_low : (b : ℕ) → is_blank b ≡ true → b < 33
blank_low b e = grind (arith, nat_tests)

-- a byte of a text that is parted is that of its front part
byte_of : (w rest : List ℕ) (i : ℕ) → i < length w → slice_index (w ++ rest) i ≡ slice_index w i
byte_of w rest i h = get_or_append_left w rest 0 i h

apart : {v more : List ℕ} (w rest : List ℕ) {k : Kind} → v ++ more ≡ w ++ rest → IsLayout v more → Spells k w → ⊥
apart w rest e (blank {b = b} f) s =
    let t = starts s in
    let first : b ≡ slice_index w 0 = ap (λ (z : List ℕ). slice_index z 0) e ∙ byte_of w rest 0 t.some in
    absurd (omega (arith, first, t.visible, blank_low b f))
apart w rest e (line_comment f g) s =
    let t = starts s in
    t.no_comment (sym (ap (λ (z : List ℕ). slice_index z 0) e ∙ byte_of w rest 0 t.some))
apart w rest e (block_comment f) s =
    let t = starts s in
    let first : 47 ≡ slice_index w 0 = ap (λ (z : List ℕ). slice_index z 0) e ∙ byte_of w rest 0 t.some in
    let second = t.no_block (sym first) in
    second.1 (sym (ap (λ (z : List ℕ). slice_index z 1) e ∙ byte_of w rest 1 second.0))

-- ---- one reading
pair_same : {A B : Type 0} (x y : A × B) → Some x ≡ Some y → (x.0 ≡ y.0) × (x.1 ≡ y.1)
pair_same {A} {B} x y e = let f : x ≡ y = some_same e in (ap (λ (z : A × B). z.0) f, ap (λ (z : A × B). z.1) f)

record Alike (k j : Kind) (w v rest more : List ℕ) : Type 0 where
  kinds : k ≡ j
  words : w ≡ v
  rests : rest ≡ more

tokens_same : (before : Option Token) (at : ℕ) {k j : Kind} {w v rest more : List ℕ} → w ++ rest ≡ v ++ more → IsLongest before at k w rest → IsLongest before at j v more → Alike k j w v rest more
tokens_same before at {k} {j} {w} {v} {rest} {more} e t u =
    let same-front = pair_same (k, length w) (j, length v) (sym (longest_is before at k w rest (starts t.begins.spelled).some t) ∙ ap (front_at before at) e ∙ longest_is before at j v more (starts u.begins.spelled).some u) in
    let parts = front_same w v rest more e same-front.1 in
    record { kinds = same-front.0; words = parts.0; rests = parts.1 }

no_front : (w rest : List ℕ) → 0 < length w → [] ≡ w ++ rest → ⊥
no_front w rest h e = absurd (omega (arith, h, ap length e, length-append w rest))

carried_layout : (before : Option Token) (at : ℕ) {w v rest more : List ℕ} {o : Outcome} → w ≡ v → rest ≡ more → Reads before (at + length v) more o → Reads before (at + length w) rest o
carried_layout before at e f r = rw (e, f) r

carried_token : (at : ℕ) {k j : Kind} {w v rest more : List ℕ} {o : Outcome} → Alike k j w v rest more → Reads (Some (token_at at j v)) (at + length v) more o → Reads (Some (token_at at k w)) (at + length w) rest o
carried_token at a r = rw (a.kinds, a.words, a.rests) r

pub one_reading : {before : Option Token} {at : ℕ} {text : List ℕ} {o p : Outcome} → Reads before at text o → Reads before at text p → o ≡ p
one_reading ended ended = refl
one_reading ended (layout {w = w} {rest = rest} e l r) = absurd (no_front w rest (layout_not_empty l) e)
one_reading ended (token {w = w} {rest = rest} e t not_end r) = absurd (no_front w rest (starts t.begins.spelled).some e)
one_reading ended (last {w = w} {rest = rest} e t) = absurd (no_front w rest (starts t.begins.spelled).some e)
one_reading ended (stuck n) = absurd (n.goes_on refl)
one_reading (layout {w = w} {rest = rest} e l r) ended = absurd (no_front w rest (layout_not_empty l) e)
one_reading {before} {at} (layout {w = w} {rest = rest} e l r) (layout {w = v} {rest = more} f m s) =
    let parts = front_same w v rest more (sym e ∙ f) (layouts_same (sym e ∙ f) l m) in
    one_reading r (carried_layout before at parts.0 parts.1 s)
one_reading (layout e l r) (token {w = v} {rest = more} f t not_end s) = absurd (apart v more (sym e ∙ f) l t.begins.spelled)
one_reading (layout e l r) (last {w = v} {rest = more} f t) = absurd (apart v more (sym e ∙ f) l t.begins.spelled)
one_reading (layout {w = w} {rest = rest} e l r) (stuck n) = absurd (n.no_layout w rest e l)
one_reading (token {w = w} {rest = rest} e t not_end r) ended = absurd (no_front w rest (starts t.begins.spelled).some e)
one_reading (token {w = w} {rest = rest} e t not_end r) (layout f l s) = absurd (apart w rest (sym f ∙ e) l t.begins.spelled)
one_reading {before} {at} (token {kind = k} {w = w} {rest = rest} {o = o} e t not_end r) (token {kind = j} {w = v} {rest = more} {o = p} f u not_end' s) =
    let a = tokens_same before at (sym e ∙ f) t u in
    ap (with_token (token_at at k w)) (one_reading r (carried_token at a s)) ∙ ap (λ (z : Token). with_token z p) (tokens_are at a.kinds a.words)
  where
    tokens_are : (at : ℕ) {k j : Kind} {w v : List ℕ} → k ≡ j → w ≡ v → token_at at k w ≡ token_at at j v
    tokens_are at e f = rw (e, f) refl
one_reading {before} {at} (token e t not_end r) (last f u) = absurd (not_end (tokens_same before at (sym e ∙ f) t u).kinds)
one_reading (token {kind = k} {w = w} {rest = rest} e t not_end r) (stuck n) = absurd (n.no_token k w rest e t.begins)
one_reading (last {w = w} {rest = rest} e t) ended = absurd (no_front w rest (starts t.begins.spelled).some e)
one_reading (last {w = w} {rest = rest} e t) (layout f l s) = absurd (apart w rest (sym f ∙ e) l t.begins.spelled)
one_reading {before} {at} (last e t) (token f u not_end s) = absurd (not_end (sym (tokens_same before at (sym e ∙ f) t u).kinds))
one_reading {before} {at} (last e t) (last f u) =
    let a = tokens_same before at (sym e ∙ f) t u in
    ap (λ (z : List ℕ). tokens (token_at at End z ∷ [])) a.words
one_reading (last {w = w} {rest = rest} e t) (stuck n) = absurd (n.no_token End w rest e t.begins)
one_reading (stuck n) ended = absurd (n.goes_on refl)
one_reading (stuck n) (layout {w = w} {rest = rest} e l r) = absurd (n.no_layout w rest e l)
one_reading (stuck n) (token {kind = k} {w = w} {rest = rest} e t not_end r) = absurd (n.no_token k w rest e t.begins)
one_reading (stuck n) (last {w = w} {rest = rest} e t) = absurd (n.no_token End w rest e t.begins)
one_reading (stuck n) (stuck m) = refl

-- ---- tokens of the bytes
abbrev pub IfTokens : (List Token → Type 0) → Outcome → Type 0
IfTokens P (tokens ts) = P ts
IfTokens P (nothing_at at) = Unit {0}

all_cons : {X : Type 0} (P : X → Type 0) (x : X) (xs : List X) → P x → All P xs → All P (x ∷ xs)
all_cons P x xs p q zero d h = p
all_cons P x xs p q (suc k) d h = q k d (omega (arith, h))

with_all : (bytes : List ℕ) (t : Token) (o : Outcome) → IsTokenOf bytes t → IfTokens (All (IsTokenOf bytes)) o → IfTokens (All (IsTokenOf bytes)) (with_token t o)
with_all bytes t (tokens ts) p q = all_cons (IsTokenOf bytes) t ts p q
with_all bytes t (nothing_at at) p q = tt

module _ (bytes : List ℕ) where
  rest_is : (at : ℕ) (text w rest : List ℕ) → drop at bytes ≡ text → text ≡ w ++ rest → drop (at + length w) bytes ≡ rest
  rest_is at text w rest e f = sym (drop-drop (length w) at bytes) ∙ ap (drop (length w)) (e ∙ f) ∙ drop_at w rest (length w) refl

  still_within : (at : ℕ) (text w rest : List ℕ) → at ≤ length bytes → drop at bytes ≡ text → text ≡ w ++ rest → at + length w ≤ length bytes
  still_within at text w rest h e f = omega (arith, h, length-drop at bytes, ap length (e ∙ f), length-append w rest)

  token_of : (before : Option Token) (at : ℕ) (k : Kind) (text w rest : List ℕ) → at ≤ length bytes → drop at bytes ≡ text → text ≡ w ++ rest → Spells k w → IsTokenOf bytes (token_at at k w)
  token_of before at k text w rest h e f s =
      let size : at + length w - at ≡ length w = omega arith in
      let is : spelling bytes (token_at at k w) ≡ w = ap (λ (n : ℕ). take n (drop at bytes)) size ∙ ap (take (length w)) (e ∙ f) ∙ take_at w rest (length w) refl in
      record { ordered = omega arith; within = still_within at text w rest h e f; spelled = subst (Spells k) (sym is) s }

  pub read_tokens : {before : Option Token} {at : ℕ} {text : List ℕ} {o : Outcome} → Reads before at text o → at ≤ length bytes → drop at bytes ≡ text → IfTokens (All (IsTokenOf bytes)) o
  read_tokens ended h e = λ k d l. absurd (omega (arith, l))
  read_tokens {at = at} {text = text} (layout {w = w} {rest = rest} f l r) h e = read_tokens r (still_within at text w rest h e f) (rest_is at text w rest e f)
  read_tokens {before} {at} {text} (token {kind = k} {w = w} {rest = rest} {o = o} f t not_end r) h e =
      with_all bytes (token_at at k w) o (token_of before at k text w rest h e f t.begins.spelled) (read_tokens r (still_within at text w rest h e f) (rest_is at text w rest e f))
  read_tokens {before} {at} {text} (last {w = w} {rest = rest} f t) h e = all_cons (IsTokenOf bytes) (token_at at End w) [] (token_of before at End text w rest h e f t.begins.spelled) (λ k d l. absurd (omega (arith, l)))
  read_tokens (stuck n) h e = tt
