-- The text of a batch, as it is made.
use Rattle.std.proofs.Common.{◌≡◌, ℕ, suc, ◌+◌, List, [], ◌∷◌, ◌++◌, length, map, refl, sym, ap, ◌∙◌, append_assoc, append-nil, arith}
use Rattle.std.proofs.lemmas.List.{map-append, length-map}
use Rattle.akl_batch.specs.declared.reply.Answer.{Answer}
use Rattle.akl_batch.specs.declared.reply.Reply.{Reply}
use Rattle.akl_batch.specs.Text.{numbered, texts_from, last_line}
use Rattle.akl_batch.specs.Steps.{AreGathered}

-- one more text
texts_more : (number at : ℕ) (texts : List (List ℕ)) (text : List ℕ) → at ≡ number + length texts → texts_from number (texts ++ text ∷ []) ≡ texts_from number texts ++ numbered at text
texts_more number at [] text is = let e : at ≡ number = omega (arith, is) in append-nil (numbered number text) ∙ ap (λ (n : ℕ). numbered n text) (sym e)
texts_more number at (t ∷ texts) text is =
    ap (λ (xs : List ℕ). numbered number t ++ xs) (texts_more (suc number) at texts text (omega (arith, is))) ∙ sym (append_assoc (numbered number t) (texts_from (suc number) texts) (numbered at text))

-- the replies and the text of the answers so far
pub record HasGathered (answers : List Answer) (rs : List Reply) (text : List ℕ) : Type 0 where
  pub replies : rs ≡ map (λ a. a.reply) answers
  pub is_text : text ≡ texts_from 1 (map (λ a. a.text.items) answers)

pub gathered_none : HasGathered [] [] []
gathered_none = record { replies = refl; is_text = refl }

pub gathered_more : (answers : List Answer) (replies : List Reply) (text : List ℕ) (a : Answer) (number : ℕ) (bytes : List ℕ) → HasGathered answers replies text → number ≡ length replies + 1 → bytes ≡ a.text.items
    → HasGathered (answers ++ a ∷ []) (replies ++ a.reply ∷ []) (text ++ numbered number bytes)
gathered_more answers replies text a number bytes h n b =
    let texts : List (List ℕ) = map (λ x. x.text.items) answers in
    let count : length texts ≡ length answers = length-map answers (λ x. x.text.items) in
    let same : length replies ≡ length answers = ap length h.replies ∙ length-map answers (λ x. x.reply) in
    record {
      replies = ap (λ (rs : List Reply). rs ++ a.reply ∷ []) h.replies ∙ sym (map-append (λ x. x.reply) answers (a ∷ []));
      is_text = ap (λ (xs : List ℕ). xs ++ numbered number bytes) h.is_text ∙ ap (λ (bs : List ℕ). texts_from 1 texts ++ numbered number bs) b
          ∙ sym (texts_more 1 number texts a.text.items (omega (arith, count, same, n))) ∙ ap (texts_from 1) (sym (map-append (λ x. x.text.items) answers (a ∷ [])));
    }

-- the last line ends the text
pub gathered_all : (answers : List Answer) (replies : List Reply) (text line : List ℕ) → HasGathered answers replies text → line ≡ last_line (length replies) → AreGathered answers replies (text ++ line)
gathered_all answers replies text line h l =
    let texts : List (List ℕ) = map (λ x. x.text.items) answers in
    let same : length replies ≡ length texts = ap length h.replies ∙ length-map answers (λ x. x.reply) ∙ sym (length-map answers (λ x. x.text.items)) in
    record {
      replies = h.replies;
      is_text = ap (λ (xs : List ℕ). xs ++ line) h.is_text ∙ ap (λ (xs : List ℕ). texts_from 1 texts ++ xs) (l ∙ ap last_line same);
    }
