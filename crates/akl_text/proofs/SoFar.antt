-- The scan of a whole text.
use Rattle.std.proofs.Common.{◌≡◌, ◌≢◌, ℕ, ◌+◌, ◌<◌, ◌≤◌, List, [], ◌∷◌, ◌++◌, length, drop, take, Option, Some, None, refl, sym, ap, subst, ◌∙◌, arith, append_assoc}
use Rattle.std.specs.Prelude.{IfSome, IfNone}
use Rattle.std.proofs.lemmas.List.{length-take, take-append-drop, append-nil}
use Rattle.akl_text.specs.declared.token.Kind.{Kind}
use Rattle.akl_text.specs.declared.token.Kind.TheVariants.{End}
use Rattle.akl_text.specs.declared.token.Token.{Token}
use Rattle.akl_text.specs.Computed.{front_at}
use Rattle.akl_text.specs.Front.{BeginsText, IsLongest}
use Rattle.akl_text.specs.Layout.{IsLayout}
use Rattle.akl_text.specs.Tokens.{token_at, Outcome, tokens, nothing_at, with_token, Reads, ended, layout, token, last, stuck}
use Rattle.akl_text.proofs.FrontLongest.{front_longest, no_token}

abbrev pub ahead : List Token → Outcome → Outcome
ahead ts (tokens us) = tokens (ts ++ us)
ahead ts (nothing_at n) = nothing_at n

-- What is read of the rest, after the tokens found, is read of the whole.
pub record SoFar (from : ℕ) (text : List ℕ) (found : List Token) (before : Option Token) (at : ℕ) (rest : List ℕ) : Type 0 where
  pub onward : (o : Outcome) → Reads before at rest o → Reads None from text (ahead found o)

pub so_far_start : (from : ℕ) (text : List ℕ) → SoFar from text [] None from text
so_far_start from text = record { onward = λ o. go o }
  where
    go : (o : Outcome) → Reads None from text o → Reads None from text (ahead [] o)
    go (tokens ts) s = s
    go (nothing_at n) s = s

ahead_with : (found : List Token) (t : Token) (o : Outcome) → ahead found (with_token t o) ≡ ahead (found ++ t ∷ []) o
ahead_with found t (tokens ts) = ap tokens (sym (append_assoc found (t ∷ []) ts))
ahead_with found t (nothing_at n) = refl

module _ {from : ℕ} {text : List ℕ} {found : List Token} {before : Option Token} {at : ℕ} {rest : List ℕ} (so_far : SoFar from text found before at rest) where
  pub so_far_layout : (n : ℕ) → IsLayout (take n rest) (drop n rest) → n ≤ length rest → SoFar from text found before (at + n) (drop n rest)
  so_far_layout n l le =
      let len : length (take n rest) ≡ n = omega (arith, length-take n rest) in
      record { onward = λ o s. so_far.onward o (layout (sym (take-append-drop n rest)) l (rw len s)) }

  pub so_far_token : (k : Kind) (n : ℕ) → IsLongest before at k (take n rest) (drop n rest) → n ≤ length rest → k ≢ End
      → SoFar from text (found ++ record { kind = k; start = at; end = at + n } ∷ []) (Some (record { kind = k; start = at; end = at + n })) (at + n) (drop n rest)
  so_far_token k n t le not_end =
      let len : length (take n rest) ≡ n = omega (arith, length-take n rest) in
      record {
        onward = λ o s. (
            let token-is : token_at at k (take n rest) ≡ record { kind = k; start = at; end = at + n } = rw len refl in
            let s' : Reads (Some (token_at at k (take n rest))) (at + length (take n rest)) (drop n rest) o = rw (token-is, len) s in
            let one = so_far.onward (with_token (token_at at k (take n rest)) o) (token (sym (take-append-drop n rest)) t not_end s') in
            subst (λ (x : Outcome). Reads None from text x) (ap (λ (x : Token). ahead found (with_token x o)) token-is ∙ ahead_with found (record { kind = k; start = at; end = at + n }) o) one);
      }

  pub so_far_last : (k : Kind) (n : ℕ) → IsLongest before at k (take n rest) (drop n rest) → n ≤ length rest → k ≡ End
      → Reads None from text (tokens (found ++ record { kind = k; start = at; end = at + n } ∷ []))
  so_far_last k n t le e =
      let len : length (take n rest) ≡ n = omega (arith, length-take n rest) in
      let t' : IsLongest before at End (take n rest) (drop n rest) = subst (λ (x : Kind). IsLongest before at x (take n rest) (drop n rest)) e t in
      let one = so_far.onward (tokens (token_at at End (take n rest) ∷ [])) (last (sym (take-append-drop n rest)) t') in
      rw e (subst (λ (m : ℕ). Reads None from text (tokens (found ++ record { kind = End; start = at; end = at + m } ∷ []))) len one)

  pub so_far_stuck : 0 < length rest → ((w more : List ℕ) → rest ≡ w ++ more → IsLayout w more → ⊥) → ((k : Kind) (w more : List ℕ) → rest ≡ w ++ more → BeginsText before at k w more → ⊥)
      → Reads None from text (nothing_at at)
  so_far_stuck h unlaid none =
      so_far.onward (nothing_at at) (stuck (record { goes_on = λ x. absurd (let z : length rest ≡ 0 = ap length x in omega (arith, z, h)); no_layout = unlaid; no_token = none }))

  pub so_far_at : {other : List ℕ} → rest ≡ other → SoFar from text found before at other
  so_far_at e = subst (λ (z : List ℕ). SoFar from text found before at z) e so_far

pub so_far_end : {from : ℕ} {text : List ℕ} {found : List Token} {before : Option Token} {at : ℕ} {rest : List ℕ} → SoFar from text found before at rest → length rest ≡ 0 → Reads None from text (tokens found)
so_far_end {from} {text} {found} {rest = []} h e = subst (λ (ts : List Token). Reads None from text (tokens ts)) (append-nil found) (h.onward (tokens []) ended)
so_far_end {rest = b ∷ rest} h e = absurd (omega (arith, e))

-- what `longest` answers
pub longest_found : (before : Option Token) (at : ℕ) (text : List ℕ) (o : Option (Kind × ℕ)) → 0 < length text → o ≡ front_at before at text → IfSome o (λ x. IsLongest before at x.0 (take x.1 text) (drop x.1 text))
longest_found before at text None h e = tt
longest_found before at text (Some x) h e = (front_longest before at text x.0 x.1 h (sym e)).0

pub longest_within : (before : Option Token) (at : ℕ) (text : List ℕ) (o : Option (Kind × ℕ)) → 0 < length text → o ≡ front_at before at text → IfSome o (λ x. (0 < x.1) × (x.1 ≤ length text))
longest_within before at text None h e = tt
longest_within before at text (Some x) h e = (front_longest before at text x.0 x.1 h (sym e)).1

pub longest_none : (before : Option Token) (at : ℕ) (text : List ℕ) (o : Option (Kind × ℕ)) → o ≡ front_at before at text → IfNone o ((k : Kind) (w rest : List ℕ) → text ≡ w ++ rest → BeginsText before at k w rest → ⊥)
longest_none before at text None e = no_token before at text (sym e)
longest_none before at text (Some x) e = tt
