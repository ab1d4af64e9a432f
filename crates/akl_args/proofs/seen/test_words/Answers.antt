use Rattle.std.proofs.Common.{rules, ◌≡◌, ℕ, ◌+◌, ◌<◌, List, length, map, drop, get_or, add-one, drop-cons, ◌∙◌, Ok, string_bytes}
use Rattle.akl_args.specs.Seen.{refusal_from, seen_word}
use Rattle.akl_args.specs.declared.seen.Seen.{Seen}
use Rattle.akl_args.proofs.seen.test_words.Goals as goal

-- a word taken, the rest is tested after it
one_more : {A : Type 0} (text : A → List ℕ) (words : List A) (at : ℕ) (word : A) (s t : Seen)
    → at < length words → word ≡ get_or words at word → seen_word at (text word) s ≡ Ok t
    → refusal_from at (map text (drop at words)) s ≡ refusal_from (at + 1) (map text (drop (at + 1) words)) t
one_more text words at word s t inside is taken = rw (add-one, drop-cons words at word, ← is, taken)

pub loop-at-preserved : goal.loop-at-preserved
loop-at-preserved c =
    let taken : seen_word c.loop-at.at (string_bytes c.index-words-at.result) c.loop-at.seen ≡ Ok c.in_ok-seen.seen = search (rules, c.word.ensures, c.as_str.ensures.value) in
    c.loop-at.invariant
    ∙ one_more string_bytes c.args.words.now c.loop-at.at c.index-words-at.result c.loop-at.seen c.in_ok-seen.seen (search rules) c.index-words-at.is taken
