-- What a token stands for, and in which way alone.
use Rattle.std.proofs.Common.{◌≡◌, ◌≢◌, ℕ, suc, ◌+◌, ◌<◌, ◌≤◌, Bool, true, false, List, [], ◌∷◌, ◌++◌, length, Option, Some, None, refl, sym, ap, subst, ◌∙◌, arith, append_assoc}
use Rattle.std.specs.Prelude.{if◌then◌else◌}
use Rattle.std.specs.List.{All}
use Rattle.std.proofs.lemmas.List.{append-nil, length-append}
use Rattle.akl_text.specs.declared.token.Kind.{Kind}
use Rattle.akl_text.specs.declared.token.Kind.TheVariants as kinds
use Rattle.akl_text.specs.declared.token.Token.{Token}
use Rattle.akl_text.specs.Kinds.{is_symbol, has_text}
use Rattle.akl_text.specs.Spelling.{Denotes, name_itself, variable_itself, between_quotes, spelling, integer_value, IsTokenOf}
use Rattle.akl_terms.specs.Arithmetic.{in_range}
use Rattle.akl_text.proofs.TextFound.{one_text}
use Rattle.akl_lexemes.specs.declared.lexeme.Lexeme.{Lexeme}
use Rattle.akl_lexemes.specs.declared.lexeme.Lexeme.TheVariants.{Symbol, Variable}
use Rattle.akl_lexemes.specs.declared.error.SyntaxError.{SyntaxError}
use Rattle.akl_lexemes.specs.declared.error.SyntaxError.TheVariants.{Syntax, TooDeep, IntRange, TooLong, Memory}
use Rattle.akl_lexemes.specs.Lexemes.{is_mark, IsLexeme, Lexemes, symbol, known_variable, new_variable, integer, mark, nothing, next}
use Rattle.akl_lexemes.specs.Limits.{is_integer, is_out_of_range, first_out_of_range}
use Rattle.akl_lexemes.specs.Named.{Numbers, known, appended}
use Rattle.akl_lexemes.specs.Faults.{IsRangeFault, IsFirstRangeFault}

-- ---- kinds
pub symbol_text : (k : Kind) → is_symbol k ≡ true → has_text k ≡ true
symbol_text k e = (elim k as (λ x. is_symbol x ≡ true → has_text x ≡ true) [ kinds.Name ↦ λ h. refl | kinds.Quoted ↦ λ h. refl | _ ↦ λ h. absurd cc ]) e

pub mark_kind : (k : Kind) → is_symbol k ≡ false → k ≢ kinds.Variable → k ≢ kinds.Integer → is_mark k ≡ true
mark_kind k e f g = (elim k as (λ x. is_symbol x ≡ false → x ≢ kinds.Variable → x ≢ kinds.Integer → is_mark x ≡ true) [
  | kinds.Name ↦ λ h i j. absurd cc
  | kinds.Quoted ↦ λ h i j. absurd cc
  | kinds.Variable ↦ λ h i j. absurd (i refl)
  | kinds.Integer ↦ λ h i j. absurd (j refl)
  | _ ↦ λ h i j. refl
]) e f g

pub integer_kind : (k : Kind) → is_integer k ≡ true → k ≡ kinds.Integer
integer_kind k e = (elim k as (λ x. is_integer x ≡ true → x ≡ kinds.Integer) [ kinds.Integer ↦ λ h. refl | _ ↦ λ h. absurd cc ]) e

no_integer : (x : Bool) (y : Bool) → x ≡ false → (if x then y else false) ≡ false
no_integer x y e = rw e refl

pub symbol_no_integer : (k : Kind) → is_symbol k ≡ true → is_integer k ≡ false
symbol_no_integer k e = (elim k as (λ x. is_symbol x ≡ true → is_integer x ≡ false) [ kinds.Name ↦ λ h. refl | kinds.Quoted ↦ λ h. refl | _ ↦ λ h. absurd cc ]) e

pub other_no_integer : (k : Kind) → k ≢ kinds.Integer → is_integer k ≡ false
other_no_integer k f = (elim k as (λ x. (x ≡ kinds.Integer → ⊥) → is_integer x ≡ false) [ kinds.Integer ↦ λ h. absurd (h refl) | _ ↦ λ h. refl ]) f

pub not_integer : (bytes : List ℕ) (t : Token) → is_integer t.kind ≡ false → is_out_of_range bytes t ≡ false
not_integer bytes t e = rw e refl

pub range_of : (bytes : List ℕ) (t : Token) → t.kind ≡ kinds.Integer → in_range (integer_value (spelling bytes t)) ≡ true → is_out_of_range bytes t ≡ false
range_of bytes t k e = rw (k, e) refl

pub out_of_range : (bytes : List ℕ) (t : Token) → t.kind ≡ kinds.Integer → in_range (integer_value (spelling bytes t)) ≡ false → is_out_of_range bytes t ≡ true
out_of_range bytes t k e = rw (k, e) refl

pub variable_text : {k : Kind} {w text : List ℕ} → k ≡ kinds.Variable → Denotes k w text → text ≡ w
variable_text e name_itself = refl
variable_text e variable_itself = refl
variable_text e (between_quotes q) = absurd cc

pub variable_lexeme : (bytes : List ℕ) (names more : List (List ℕ)) (t : Token) (text : List ℕ) (n : ℕ) → t.kind ≡ kinds.Variable → text ≡ spelling bytes t → Numbers names text n more → IsLexeme bytes names t (Variable n) more
variable_lexeme bytes names _ t text n k e (known h) = known_variable k (rw e at h)
variable_lexeme bytes names _ t text _ k e (appended h) =
    subst (λ (z : List ℕ). IsLexeme bytes names t (Variable (length names)) (names ++ z ∷ [])) (sym e) (new_variable k (rw e at h))

pub one_more : {names more : List (List ℕ)} {text : List ℕ} {n : ℕ} → Numbers names text n more → length more ≤ length names + 1
one_more (known h) = omega arith
one_more {names} {text = text} (appended h) = omega (arith, length-append names (text ∷ []))

-- ---- the tokens that were passed
pub record LexedSoFar (bytes : List ℕ) (start : List Token) (found : List Lexeme) (names : List (List ℕ)) (rest : List Token) : Type 0 where
  pub onward : (ls : List Lexeme) (all : List (List ℕ)) → Lexemes bytes names rest ls all → Lexemes bytes [] start (found ++ ls) all
  pub range : first_out_of_range bytes start ≡ first_out_of_range bytes rest
  pub tokens : All (IsTokenOf bytes) rest
  pub few : length names + length rest < 4294967295

pub lexed_start : (bytes : List ℕ) (ts : List Token) → All (IsTokenOf bytes) ts → length ts < 4294967295 → LexedSoFar bytes ts [] [] ts
lexed_start bytes ts h l = record { onward = λ ls all s. s; range = refl; tokens = h; few = omega (arith, l) }

pub first_token : (bytes : List ℕ) (t : Token) (ts : List Token) → All (IsTokenOf bytes) (t ∷ ts) → IsTokenOf bytes t
first_token bytes t ts h = h 0 t (omega arith)

other_tokens : (bytes : List ℕ) (t : Token) (ts : List Token) → All (IsTokenOf bytes) (t ∷ ts) → All (IsTokenOf bytes) ts
other_tokens bytes t ts h = λ i d l. h (suc i) d (omega (arith, l))

pub lexed_step : {bytes : List ℕ} {start ts : List Token} {found : List Lexeme} {names more : List (List ℕ)} {t : Token} {l : Lexeme} → LexedSoFar bytes start found names (t ∷ ts)
    → IsLexeme bytes names t l more → is_out_of_range bytes t ≡ false → length more ≤ length names + 1 → LexedSoFar bytes start (found ++ l ∷ []) more ts
lexed_step {bytes} {ts = ts} {names = names} {t = t} {l = l} h s e k = record {
  onward = λ ls all r. rw append_assoc (h.onward (l ∷ ls) all (next s r));
  range = h.range ∙ rw e refl;
  tokens = other_tokens bytes t ts h.tokens;
  few = omega (arith, h.few, k);
}

pub lexed_all : {bytes : List ℕ} {start : List Token} {found : List Lexeme} {names : List (List ℕ)} {rest : List Token} → LexedSoFar bytes start found names rest → rest ≡ [] → Lexemes bytes [] start found names
lexed_all {bytes} {start} {found} {names} h e =
    subst (λ (z : List Lexeme). Lexemes bytes [] start z names) (append-nil found) (h.onward [] names (rw e nothing))

pub range_all : {bytes : List ℕ} {start : List Token} {found : List Lexeme} {names : List (List ℕ)} {rest : List Token} → LexedSoFar bytes start found names rest → rest ≡ [] → first_out_of_range bytes start ≡ None
range_all h e = h.range ∙ rw e refl

pub first_fault : {bytes : List ℕ} {start ts : List Token} {found : List Lexeme} {names : List (List ℕ)} {t : Token} (e : SyntaxError) → LexedSoFar bytes start found names (t ∷ ts) → IsRangeFault bytes t e → IsFirstRangeFault bytes start e
first_fault {bytes} {t = t} (IntRange at) h f = (t, h.range ∙ rw f.0 refl, f.1)
first_fault (Memory e) h f = tt
first_fault (Syntax at) h f = f
first_fault (TooDeep at) h f = f
first_fault (TooLong n) h f = f

-- ---- one way
symbol_is_not : {k : Kind} → is_symbol k ≡ true → k ≡ kinds.Variable → ⊥
symbol_is_not e f = absurd (let g = rw f at e in cc)

symbol_is_no : {k : Kind} → is_symbol k ≡ true → k ≡ kinds.Integer → ⊥
symbol_is_no e f = absurd (let g = rw f at e in cc)

mark_is_no : {k j : Kind} → is_mark k ≡ true → k ≡ j → is_mark j ≡ false → ⊥
mark_is_no e f g = (let h : true ≡ false = sym e ∙ ap is_mark f ∙ g in cc)

symbol_no_mark : (k : Kind) → is_symbol k ≡ true → is_mark k ≡ false
symbol_no_mark k e = (elim k as (λ x. is_symbol x ≡ true → is_mark x ≡ false) [ kinds.Name ↦ λ h. refl | kinds.Quoted ↦ λ h. refl | _ ↦ λ h. absurd cc ]) e

kinds_apart : {k : Kind} → k ≡ kinds.Variable → k ≡ kinds.Integer → ⊥
kinds_apart e f = absurd (let g = sym e ∙ f in cc)

some_is : {x : Option ℕ} {m n : ℕ} → x ≡ Some m → x ≡ Some n → m ≡ n
some_is e f = cc

none_is : {x : Option ℕ} {m : ℕ} → x ≡ Some m → x ≡ None → ⊥
none_is e f = (let g = sym e ∙ f in absurd cc)

pub lexeme_one : {bytes : List ℕ} {t : Token} {names n n' : List (List ℕ)} {l l' : Lexeme} → IsLexeme bytes names t l n → IsLexeme bytes names t l' n' → (l ≡ l') × (n ≡ n')
lexeme_one (symbol e s) (symbol f r) = (ap Symbol (one_text s r), refl)
lexeme_one (symbol e s) (known_variable f r) = absurd (symbol_is_not e f)
lexeme_one (symbol e s) (new_variable f r) = absurd (symbol_is_not e f)
lexeme_one (symbol e s) (integer f) = absurd (symbol_is_no e f)
lexeme_one {t = t} (symbol e s) (mark f) = absurd (mark_is_no f refl (symbol_no_mark t.kind e))
lexeme_one (known_variable f r) (symbol e s) = absurd (symbol_is_not e f)
lexeme_one (known_variable e s) (known_variable f r) = (ap Variable (some_is s r), refl)
lexeme_one (known_variable e s) (new_variable f r) = absurd (none_is s r)
lexeme_one (known_variable e s) (integer f) = absurd (kinds_apart e f)
lexeme_one (known_variable e s) (mark f) = absurd (mark_is_no f e refl)
lexeme_one (new_variable f r) (symbol e s) = absurd (symbol_is_not e f)
lexeme_one (new_variable e s) (known_variable f r) = absurd (none_is r s)
lexeme_one (new_variable e s) (new_variable f r) = (refl, refl)
lexeme_one (new_variable e s) (integer f) = absurd (kinds_apart e f)
lexeme_one (new_variable e s) (mark f) = absurd (mark_is_no f e refl)
lexeme_one (integer f) (symbol e s) = absurd (symbol_is_no e f)
lexeme_one (integer f) (known_variable e s) = absurd (kinds_apart e f)
lexeme_one (integer f) (new_variable e s) = absurd (kinds_apart e f)
lexeme_one (integer e) (integer f) = (refl, refl)
lexeme_one (integer e) (mark f) = absurd (mark_is_no f e refl)
lexeme_one {t = t} (mark f) (symbol e s) = absurd (mark_is_no f refl (symbol_no_mark t.kind e))
lexeme_one (mark f) (known_variable e s) = absurd (mark_is_no f e refl)
lexeme_one (mark f) (new_variable e s) = absurd (mark_is_no f e refl)
lexeme_one (mark f) (integer e) = absurd (mark_is_no f e refl)
lexeme_one (mark e) (mark f) = (refl, refl)

pub lexemes_one : {bytes : List ℕ} {names names' all all' : List (List ℕ)} {ts : List Token} {ls ls' : List Lexeme} → Lexemes bytes names ts ls all → Lexemes bytes names' ts ls' all' → names ≡ names' → (ls ≡ ls') × (all ≡ all')
lexemes_one nothing nothing e = (refl, e)
lexemes_one {bytes} {ts = ts} (next {t = t} {l = l} {ls = ls} s r) (next {more = more'} {l = l'} {ls = ls'} s' r') e =
    let h = lexeme_one s (subst (λ (z : List (List ℕ)). IsLexeme bytes z t l' more') (sym e) s') in
    let k = lexemes_one r r' h.1 in
    let x : l ≡ l' = h.0 in
    let y : ls ≡ ls' = k.0 in
    (cc, k.1)
