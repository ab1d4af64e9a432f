use Rattle.std.proofs.Common.{◌≡◌, ℕ, List, sym, ap, subst, ◌∙◌, Result, Ok, Err}
use Rattle.std.specs.Prelude.{IfOk, encode_utf8_all, false}
use Rattle.std.specs.Str.{IsUtf8, chars}
use Rattle.akl_text.specs.Spelling.{Denotes, spelling}
use Rattle.akl_text.specs.Computed.{decode}
use Rattle.akl_text.proofs.TextFound.{own_text, text_quoted, decoded}
use Rattle.akl_text.proofs.decode.text_of.Goals as goal

if_ok : {A E : Type 0} (P Q : A → Type 0) (r : Result A E) → IfOk r P → ((a : A) → P a → Q a) → IfOk r Q
if_ok P Q (Ok a) h f = f a h
if_ok P Q (Err e) h f = tt

pub between-requires : goal.between-requires
between-requires c = (text_quoted _ _ c.in-Quoted.is c.requires.of_bytes.spelled).long

pub as_text-inner-requires : goal.as_text-inner-requires
as_text-inner-requires c = subst IsUtf8 (sym c.between.ensures) (text_quoted _ _ c.in-Quoted.is c.requires.of_bytes.spelled).utf8

pub returns-in-Quoted : goal.returns-in-Quoted
returns-in-Quoted c =
    let inner-is = c.as_text-inner.ensures ∙ c.between.ensures in
    let is : c.new.result ≡ decoded (spelling c.args.bytes.now c.args.token.now) = c.new.ensures ∙ c.in_ok-decoded.ensures ∙ ap (λ (z : List ℕ). encode_utf8_all (decode false (chars z))) inner-is in
    subst (λ (z : List ℕ). Denotes c.args.token.now.kind (spelling c.args.bytes.now c.args.token.now) z) (sym is) (text_quoted _ _ c.in-Quoted.is c.requires.of_bytes.spelled).stands

pub as_text-requires : goal.as_text-requires
as_text-requires c = (own_text _ _ c.in_default.not-Quoted c.requires.has_text c.requires.of_bytes.spelled).utf8

pub returns : goal.returns
returns c =
    let w : List ℕ = spelling c.args.bytes.now c.args.token.now in
    let own = own_text c.args.token.now.kind w c.in_default.not-Quoted c.requires.has_text c.requires.of_bytes.spelled in
    if_ok _ (Denotes c.args.token.now.kind w) c.from_str.result c.from_str.ensures (λ t e. subst (λ (z : List ℕ). Denotes c.args.token.now.kind w z) (sym (e ∙ c.as_text.ensures)) own.stands)
