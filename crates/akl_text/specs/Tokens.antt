-- The tokens of a text, up to the first end token or the end of the text.
use Rattle.std.specs.Prelude.{◌≡◌, ◌≢◌, ℕ, ◌+◌, List, [], ◌∷◌, ◌++◌, length, drop, Option, Some, None, Result, Ok, Err, ⊤}
use Rattle.std.proofs.Common.{Vec, Global}
use Rattle.akl_text.specs.Front.{IsLongest, NothingBegins}
use Rattle.akl_text.specs.Layout.{IsLayout}
use Rattle.akl_text.specs.declared.token.Kind.{Kind}
use Rattle.akl_text.specs.declared.token.Kind.TheVariants.{End}
use Rattle.akl_text.specs.declared.token.Token.{Token}
use Rattle.akl_text.specs.declared.scan.TextError.{TextError}
use Rattle.akl_text.specs.declared.scan.TextError.TheVariants.{NoToken, Memory}

-- the token of a kind that is spelled w at a place
abbrev pub token_at : ℕ → Kind → List ℕ → Token
token_at at k w = record { kind = k; start = at; end = at + length w }

-- the tokens that were read, or the place where nothing begins
pub data Outcome : Type 0 where
  tokens : List Token → Outcome
  nothing_at : ℕ → Outcome

-- the outcome with a token in front
abbrev pub with_token : Token → Outcome → Outcome
with_token t (tokens ts) = tokens (t ∷ ts)
with_token t (nothing_at at) = nothing_at at

-- What is read of the text that goes on at a place, after the token `before` of the same clause: layout is
-- passed over, the longest token is taken, and the end token is the last.
pub data Reads : Option Token → ℕ → List ℕ → Outcome → Type 0 where
  ended : {before : Option Token} {at : ℕ} → Reads before at [] (tokens [])
  layout : {before : Option Token} {at : ℕ} {text w rest : List ℕ} {o : Outcome} → text ≡ w ++ rest → IsLayout w rest → Reads before (at + length w) rest o → Reads before at text o
  token : {before : Option Token} {at : ℕ} {kind : Kind} {text w rest : List ℕ} {o : Outcome} → text ≡ w ++ rest → IsLongest before at kind w rest → kind ≢ End
      → Reads (Some (token_at at kind w)) (at + length w) rest o → Reads before at text (with_token (token_at at kind w) o)
  last : {before : Option Token} {at : ℕ} {text w rest : List ℕ} → text ≡ w ++ rest → IsLongest before at End w rest → Reads before at text (tokens (token_at at End w ∷ []))
  stuck : {before : Option Token} {at : ℕ} {text : List ℕ} → NothingBegins before at text → Reads before at text (nothing_at at)

-- what is read of a clause that begins at a place of the bytes
abbrev pub ReadsFrom : List ℕ → ℕ → Outcome → Type 0
ReadsFrom bytes from o = Reads None from (drop from bytes) o

-- the error that says that memory was refused
abbrev pub IsMemory : TextError → Type 0
IsMemory (NoToken at) = ⊥
IsMemory (Memory e) = ⊤

-- P holds of the outcome that was returned, unless memory was refused
abbrev pub IfScanned : (Outcome → Type 0) → Result (Vec Token Global) TextError → Type 0
IfScanned P (Ok v) = P (tokens v.items)
IfScanned P (Err (NoToken at)) = P (nothing_at at)
IfScanned P (Err (Memory e)) = ⊤
