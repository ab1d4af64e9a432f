-- One character of a quoted text.
use Rattle.std.proofs.Common.{◌≡◌, ℕ, ◌+◌, ◌<◌, Bool, true, false, List, [], ◌∷◌, ◌++◌, length, get_or, drop, refl, sym, ap, ◌∙◌, append_assoc, arith}
use Rattle.std.specs.Prelude.{encode_utf8, encode_utf8_all}
use Rattle.std.proofs.lemmas.List.{at_drop_more, at_drop_all, append-nil}
use Rattle.akl_text.specs.Computed.{decode, meaning, is_mark}

bytes_from : Bool → List ℕ → List ℕ
bytes_from s cs = encode_utf8_all (decode s cs)

pub says : List ℕ → Bool → ℕ → List ℕ → Type 0
says found s n cs = found ++ encode_utf8_all (decode s (drop n cs)) ≡ encode_utf8_all (decode false cs)

module _ (found cs : List ℕ) (n c : ℕ) (lt : n < length cs) (is : c ≡ get_or cs n c) where
  pub one_more : (s : Bool) → encode_utf8_all (decode s (drop n cs)) ≡ encode_utf8_all (decode s (c ∷ drop (n + 1) cs))
  one_more s = at_drop_more (λ xs. encode_utf8_all (decode s xs)) cs n c lt ∙ ap (λ x. encode_utf8_all (decode s (x ∷ drop (n + 1) cs))) (sym is)

  pub after_escape : found ++ encode_utf8_all (decode true (drop n cs)) ≡ encode_utf8_all (decode false cs) → (found ++ encode_utf8 (meaning c)) ++ encode_utf8_all (decode false (drop (n + 1) cs)) ≡ encode_utf8_all (decode false cs)
  after_escape h = append_assoc found (encode_utf8 (meaning c)) _ ∙ ap (λ x. found ++ x) (sym (one_more true)) ∙ h

  pub after_mark : is_mark c ≡ true → found ++ encode_utf8_all (decode false (drop n cs)) ≡ encode_utf8_all (decode false cs) → found ++ encode_utf8_all (decode true (drop (n + 1) cs)) ≡ encode_utf8_all (decode false cs)
  after_mark e h = ap (λ x. found ++ x) (sym (one_more false ∙ rw e refl)) ∙ h

  pub after_plain : is_mark c ≡ false → found ++ encode_utf8_all (decode false (drop n cs)) ≡ encode_utf8_all (decode false cs) → (found ++ encode_utf8 c) ++ encode_utf8_all (decode false (drop (n + 1) cs)) ≡ encode_utf8_all (decode false cs)
  after_plain e h = append_assoc found (encode_utf8 c) _ ∙ ap (λ x. found ++ x) (sym (one_more false ∙ rw e refl)) ∙ h

decode_nil : (s : Bool) → decode s [] ≡ []
decode_nil s = refl

pub at_end : (found cs : List ℕ) (s : Bool) → found ++ encode_utf8_all (decode s (drop (length cs) cs)) ≡ encode_utf8_all (decode false cs) → found ≡ encode_utf8_all (decode false cs)
at_end found cs s h = sym (append-nil found) ∙ ap (λ x. found ++ x) (sym (at_drop_all (λ xs. encode_utf8_all (decode s xs)) cs (length cs) (omega arith))) ∙ h
