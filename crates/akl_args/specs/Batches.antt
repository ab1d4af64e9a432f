-- What the words of a batch ask for.
--
-- The options are `--batch`, `--workers` and `--budget`, each with a value. They are read as the words of one query are, in which
-- `--query` stands in the place of `--batch`, and each option that a batch doesn't have is none.
use Rattle.std.specs.Prelude.{ℕ, suc, Bool, ◌||◌, List, [], ◌∷◌, ◌++◌, length, take, map, nat_lt, Option, Some, None, is_some, Result, Ok, Err, if◌then◌else◌, bytes_eq, codes, ◌<◌, ◌≤◌}
use Rattle.std.specs.List.{position_or_len, before_first, after_first}
use Rattle.akl_args.specs.Flags.{flag_named}
use Rattle.akl_args.specs.Queries.{queries_in}
use Rattle.akl_args.specs.Table.{reading, and_then, is_equals}
use Rattle.akl_args.specs.declared.batch.BatchOptions.{BatchOptions}
use Rattle.akl_args.specs.declared.options.Job.{Job}
use Rattle.akl_args.specs.declared.options.Job.TheVariants as jobs
use Rattle.akl_args.specs.declared.options.Options.{Options}
use Rattle.akl_args.specs.declared.options.WordsError.{WordsError}
use Rattle.akl_args.specs.declared.options.WordsError.TheVariants.{Missing, Value}

-- the name of an option of one query that stands for a batch's; `--` names none
abbrev pub name_for_query : List ℕ → List ℕ
name_for_query name =
    if bytes_eq name (codes "--batch") then codes "--query"
    else if bytes_eq name (codes "--query") || (bytes_eq name (codes "--generate") || is_some (flag_named name)) then codes "--"
    else name

-- the word of one query that stands for a batch's: its name before the first `=` is changed alone
abbrev pub word_for_query : List ℕ → List ℕ
word_for_query word =
    if nat_lt (position_or_len is_equals word) (length word)
    then name_for_query (before_first is_equals word) ++ 61 ∷ after_first is_equals word
    else name_for_query word

-- a word has more lines than a batch may have queries
abbrev pub has_too_many : List ℕ → Bool
has_too_many word = nat_lt 32 (length (queries_in word))

-- the first of these words that has, where they are numbered from `at`
abbrev pub first_crowded : ℕ → List (List ℕ) → Option ℕ
first_crowded at [] = None
first_crowded at (word ∷ words) = if has_too_many word then Some at else first_crowded (suc at) words

abbrev pub batch_of_job : Job → ℕ → Options → Result BatchOptions WordsError
batch_of_job (jobs.Query text) count o = Ok (record { text = text; workers = o.workers; budget = o.budget })
batch_of_job (jobs.Generate number) count o = Err (Missing count)

-- the batch for which so many words ask
abbrev pub batch_of : ℕ → Options → Result BatchOptions WordsError
batch_of count o = batch_of_job o.job count o

-- a word with too many lines is no option and no number: where the words up to it are read, it holds the text
abbrev pub reading_to : Option ℕ → List (List ℕ) → Result BatchOptions WordsError
reading_to None words = and_then (reading (map word_for_query words)) (λ o. batch_of (length words) o)
reading_to (Some at) words = and_then (reading (map word_for_query (take (suc at) words))) (λ o. Err (Value at))

-- What words ask for, or the refusal of the first that breaks the table.
abbrev pub batch_reading : List (List ℕ) → Result BatchOptions WordsError
batch_reading words = reading_to (first_crowded 0 words) words

-- the limits of what is asked for
pub record IsBatchWithinLimits (options : BatchOptions) : Type 0 where
  pub text : 0 < length options.text
  pub some_worker : 1 ≤ options.workers
  pub workers : options.workers ≤ 16
  pub some_budget : 1 ≤ options.budget
  pub budget : options.budget ≤ 4000000
