-- How many tokens a text has, and where they end.
use Rattle.std.proofs.Common.{ℕ, ◌+◌, ◌<◌, ◌≤◌, List, [], ◌∷◌, ◌++◌, length, Option, ap, arith}
use Rattle.std.proofs.lemmas.List.{length-append}
use Rattle.akl_text.specs.Tokens.{token_at, Outcome, tokens, nothing_at, with_token, Reads, ended, layout, token, last, stuck}
use Rattle.akl_text.specs.declared.token.Token.{Token}
use Rattle.akl_text.proofs.Reading.{IfTokens, starts}

-- each token ends behind the one before it, and the first behind a place
abbrev pub EndBehind : ℕ → List Token → Type 0
EndBehind at [] = Unit {0}
EndBehind at (t ∷ ts) = (at < t.end) × EndBehind t.end ts

pub record AreBound (at most : ℕ) (ts : List Token) : Type 0 where
  pub count : length ts ≤ most
  pub ends : EndBehind at ts

ends_from : (at before : ℕ) (ts : List Token) → before ≤ at → EndBehind at ts → EndBehind before ts
ends_from at before [] h e = tt
ends_from at before (t ∷ ts) h e = (omega (arith, h, e.0), e.1)

bound_from : (at before most more : ℕ) (o : Outcome) → before ≤ at → most ≤ more → IfTokens (AreBound at most) o → IfTokens (AreBound before more) o
bound_from at before most more (tokens ts) h l b = record { count = omega (arith, b.count, l); ends = ends_from at before ts h b.ends }
bound_from at before most more (nothing_at n) h l b = tt

bound_with : (before most more : ℕ) (t : Token) (o : Outcome) → before < t.end → most < more → IfTokens (AreBound t.end most) o → IfTokens (AreBound before more) (with_token t o)
bound_with before most more t (tokens ts) e l b = record { count = omega (arith, b.count, l); ends = (e, b.ends) }
bound_with before most more t (nothing_at n) e l b = tt

pub are_bound : {before : Option Token} {at : ℕ} {text : List ℕ} {o : Outcome} → Reads before at text o → IfTokens (AreBound at (length text)) o
are_bound ended = record { count = omega arith; ends = tt }
are_bound {at = at} {text = text} {o = o} (layout {w = w} {rest = rest} e l r) =
    bound_from (at + length w) at (length rest) (length text) o (omega arith) (omega (arith, ap length e, length-append w rest)) (are_bound r)
are_bound {at = at} {text = text} (token {kind = k} {w = w} {rest = rest} {o = o} e t not_end r) =
    let some = (starts t.begins.spelled).some in
    bound_with at (length rest) (length text) (token_at at k w) o (omega (arith, some)) (omega (arith, some, ap length e, length-append w rest)) (are_bound r)
are_bound {at = at} {text = text} (last {w = w} {rest = rest} e t) =
    let some = (starts t.begins.spelled).some in
    record { count = omega (arith, some, ap length e, length-append w rest); ends = (omega (arith, some), tt) }
are_bound (stuck n) = tt

-- behind a place there are at least as many bytes as tokens
pub last_behind_all : (at : ℕ) (ts : List Token) (t : Token) → EndBehind at (ts ++ t ∷ []) → at + length ts < t.end
last_behind_all at [] t h = omega (arith, h.0)
last_behind_all at (s ∷ ts) t h = omega (arith, h.0, last_behind_all s.end ts t h.1)

pub last_behind : (at : ℕ) (ts : List Token) (t : Token) → EndBehind at (ts ++ t ∷ []) → at < t.end
last_behind at ts t h = omega (arith, last_behind_all at ts t h)
