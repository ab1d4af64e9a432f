use Rattle.std.proofs.Common.{rules, arith, ◌≡◌, ◌∙◌, ap, sym, ℕ, suc, ◌+◌, ◌<◌, Bool, true, false, if◌then◌else◌, List, [], ◌∷◌, length, take, map, Option, Some, None, Result, Ok, Err, IfErr, string_bytes, add-one}
use Rattle.std.proofs.lemmas.Result.{IfErr-weaker}
use Rattle.std.proofs.lemmas.List.{length-map, take-map}
use Rattle.akl_args.specs.Batches.{word_for_query, has_too_many, first_crowded, reading_to, batch_reading}
use Rattle.akl_args.specs.Table.{reading, and_then, IsRefusalOf}
use Rattle.akl_args.specs.declared.options.Options.{Options}
use Rattle.akl_args.specs.declared.options.WordsError.{WordsError}
use Rattle.akl_args.specs.declared.options.WordsError.TheVariants.{Missing, Unknown, Value, Repeated, Memory}
use Rattle.akl_args.proofs.batch.read_batch_words.Goals as goal

some_same : {X : Type 0} {x y : X} → Some x ≡ Some y → x ≡ y
some_same e = cc

none_some : {X : Type 0} {x : X} → None ≡ Some x → ⊥
none_some e = cc

crowded_within : (at : ℕ) (words : List (List ℕ)) (n : ℕ) → first_crowded at words ≡ Some n → n < at + length words
crowded_within at [] n h = absurd (none_some h)
crowded_within at (word ∷ words) n h = on (has_too_many word) h (λ k. crowded_within (suc at) words n k)
  where
    on : (b : Bool) → (if b then Some at else first_crowded (suc at) words) ≡ Some n → (first_crowded (suc at) words ≡ Some n → n < suc at + length words) → n < at + length (word ∷ words)
    on true k more = let e : at ≡ n = some_same k in omega (arith, e)
    on false k more = let l : n < suc at + length words = more k in omega (arith, l)

crowded_inside : {A : Type 0} (text : A → List ℕ) (words : List A) (n : ℕ) → first_crowded 0 (map text words) ≡ Some n → n < length words
crowded_inside text words n h = let l : n < 0 + length (map text words) = crowded_within 0 (map text words) n h in let e : length (map text words) ≡ length words = length-map words text in omega (arith, l, e)

module _ {A : Type 0} (text : A → List ℕ) (words : List A) (at : ℕ) (first : first_crowded 0 (map text words) ≡ Some at) where
  -- the words up to the crowded one decide
  decided : batch_reading (map text words) ≡ and_then (reading (map word_for_query (map text (take (at + 1) words)))) (λ o. Err (Value at))
  decided =
      ap (λ (o : Option ℕ). reading_to o (map text words)) first
      ∙ ap (λ (ws : List (List ℕ)). and_then (reading (map word_for_query ws)) (λ o. Err (Value at))) (take-map text (suc at) words ∙ ap (λ (n : ℕ). map text (take n words)) (sym (add-one at)))

  refused_so : (e : WordsError) → reading (map word_for_query (map text (take (at + 1) words))) ≡ Err e → batch_reading (map text words) ≡ Err e
  refused_so e h = decided ∙ ap (λ (r : Result Options WordsError). and_then r (λ o. Err (Value at))) h

  crowded_so : (o : Options) → reading (map word_for_query (map text (take (at + 1) words))) ≡ Ok o → batch_reading (map text words) ≡ Err (Value at)
  crowded_so o h = decided ∙ ap (λ (r : Result Options WordsError). and_then r (λ o. Err (Value at))) h

  is_refusal : (e : WordsError) → IsRefusalOf (reading (map word_for_query (map text (take (at + 1) words)))) e → IsRefusalOf (batch_reading (map text words)) e
  is_refusal (Missing n) h = refused_so (Missing n) h
  is_refusal (Unknown n) h = refused_so (Unknown n) h
  is_refusal (Value n) h = refused_so (Value n) h
  is_refusal (Repeated n) h = refused_so (Repeated n) h
  is_refusal (Memory e) h = tt

pub overflow_add-at : goal.overflow_add-at
overflow_add-at c =
    let first : first_crowded 0 (map string_bytes c.args.words.now) ≡ Some c.in-Some.at = search rules in
    let within : c.in-Some.at < length c.args.words.now = crowded_inside string_bytes c.args.words.now c.in-Some.at first in
    search rules

pub slice_bounds-read_as_query-end : goal.slice_bounds-read_as_query-end
slice_bounds-read_as_query-end c =
    let first : first_crowded 0 (map string_bytes c.args.words.now) ≡ Some c.in-Some.at = search rules in
    let within : c.in-Some.at < length c.args.words.now = crowded_inside string_bytes c.args.words.now c.in-Some.at first in
    search rules

pub returns-in_err-read_as_query-in-Some-clause-refusal : goal.returns-in_err-read_as_query-in-Some-clause-refusal
returns-in_err-read_as_query-in-Some-clause-refusal c =
    let first : first_crowded 0 (map string_bytes c.args.words.now) ≡ Some c.in-Some.at = search rules in
    let is : IfErr c.read_as_query.result (λ (e : WordsError). IsRefusalOf (batch_reading (map string_bytes c.args.words.now)) e) =
    IfErr-weaker c.read_as_query.result _ _ (is_refusal string_bytes c.args.words.now c.in-Some.at first) c.read_as_query.ensures.refusal in
    search (rules, is)

pub returns-in_ok-read_as_query-in-Some-clause-refusal : goal.returns-in_ok-read_as_query-in-Some-clause-refusal
returns-in_ok-read_as_query-in-Some-clause-refusal c =
    let first : first_crowded 0 (map string_bytes c.args.words.now) ≡ Some c.in-Some.at = search rules in
    crowded_so string_bytes c.args.words.now c.in-Some.at first c.in_ok-read_as_query-in-Some.field-0 c.in_ok-read_as_query-in-Some.ensures.options
