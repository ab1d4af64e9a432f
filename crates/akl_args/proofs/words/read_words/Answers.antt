use Rattle.std.proofs.Common.{rules, ◌≡◌, ◌∙◌, ap, ap₂, sym, refl, subst, ℕ, suc, List, [], ◌∷◌, length, map, None, Ok, Err, IfOk, IfErr, Result, string_bytes}
use Rattle.std.proofs.lemmas.Result.{IfOk-weaker, IfErr-weaker}
use Rattle.clap.specs.Simple.{matches_of}
use Rattle.clap.specs.Words.{Row, found_of, rows_of}
use Rattle.akl_args.proofs.LimitLaws.{reading_within}
use Rattle.akl_args.proofs.SeenLaws.{refused}
use Rattle.akl_args.proofs.SplitLaws.{simple, split}
use Rattle.akl_args.specs.Asked.{SaysFlags, asked_in}
use Rattle.akl_args.specs.Command.{table}
use Rattle.akl_args.specs.Limits.{IsWithinLimits}
use Rattle.akl_args.specs.Seen.{refusal_of}
use Rattle.akl_args.specs.Table.{reading, IsRefusalOf}
use Rattle.akl_args.specs.declared.options.Options.{Options}
use Rattle.akl_args.specs.declared.options.WordsError.{WordsError}
use Rattle.akl_args.specs.declared.options.WordsError.TheVariants.{Missing, Unknown, Value, Repeated, Memory}
use Rattle.akl_args.proofs.words.read_words.Goals as goal

is_refusal : {A : Type 0} (wanted : Result A WordsError) (e : WordsError) → wanted ≡ Err e → IsRefusalOf wanted e
is_refusal wanted (Missing at) h = h
is_refusal wanted (Unknown at) h = h
is_refusal wanted (Value at) h = h
is_refusal wanted (Repeated at) h = h
is_refusal wanted (Memory e) h = tt

same_length : {A B : Type 0} (f : A → B) (xs : List A) → length xs ≡ length (map f xs)
same_length f [] = refl
same_length f (x ∷ xs) = ap suc (same_length f xs)

asked : (words : List (List ℕ)) (rows : List Row) (count : ℕ) → refusal_of words ≡ None → rows ≡ matches_of table words → count ≡ length words → asked_in rows count ≡ reading words
asked words rows count accepted is long = ap₂ asked_in is long ∙ (split words accepted).asked

flagged : (words : List (List ℕ)) (rows : List Row) → refusal_of words ≡ None → rows ≡ matches_of table words → SaysFlags rows
flagged words rows accepted is = subst SaysFlags (sym is) (split words accepted).flags

-- the options of a reading are within the limits
within : (wanted : Result Options WordsError) (options : Options) → wanted ≡ Ok options → IfOk wanted IsWithinLimits → IsWithinLimits options
within wanted options is h = rw is at h

pub returns-in_err-test_words-clause-refusal : goal.returns-in_err-test_words-clause-refusal
returns-in_err-test_words-clause-refusal c =
    let words = map string_bytes c.args.words.now in
    let is : IfErr c.test_words.result (λ (e : WordsError). IsRefusalOf (reading words) e) =
    IfErr-weaker c.test_words.result _ _ (λ e h. is_refusal (reading words) e (refused words e h)) c.test_words.ensures.refuses in
    search (rules, is)

pub split-requires : goal.split-requires
split-requires c = (split (map string_bytes c.args.words.now) c.in_ok-test_words.ensures.passes).takes

pub options_of-requires : goal.options_of-requires
options_of-requires c =
    flagged (map string_bytes c.args.words.now) (rows_of (found_of c.in-Ok.matches)) c.in_ok-test_words.ensures.passes (c.in-Ok.ensures.rows simple).0

pub returns-in-Ok-clause-options : goal.returns-in-Ok-clause-options
returns-in-Ok-clause-options c =
    let words = map string_bytes c.args.words.now in
    let is = asked words (rows_of (found_of c.in-Ok.matches)) (length c.args.words.now) c.in_ok-test_words.ensures.passes (c.in-Ok.ensures.rows simple).0 (same_length string_bytes c.args.words.now) in
    IfOk-weaker c.options_of.result _ _ (λ options h. sym is ∙ h) c.options_of.ensures.options

pub returns-in-Ok-clause-limits : goal.returns-in-Ok-clause-limits
returns-in-Ok-clause-limits c =
    let words = map string_bytes c.args.words.now in
    let is = asked words (rows_of (found_of c.in-Ok.matches)) (length c.args.words.now) c.in_ok-test_words.ensures.passes (c.in-Ok.ensures.rows simple).0 (same_length string_bytes c.args.words.now) in
    IfOk-weaker c.options_of.result _ _ (λ options h. within (reading words) options (sym is ∙ h) (reading_within words)) c.options_of.ensures.options

pub returns-in-Ok-clause-refusal : goal.returns-in-Ok-clause-refusal
returns-in-Ok-clause-refusal c =
    let words = map string_bytes c.args.words.now in
    let is = asked words (rows_of (found_of c.in-Ok.matches)) (length c.args.words.now) c.in_ok-test_words.ensures.passes (c.in-Ok.ensures.rows simple).0 (same_length string_bytes c.args.words.now) in
    IfErr-weaker c.options_of.result _ _ (λ e h. subst (λ (wanted : Result Options WordsError). IsRefusalOf wanted e) is h) c.options_of.ensures.refusal
