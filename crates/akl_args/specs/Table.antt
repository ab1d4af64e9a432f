-- What the words of a command line ask for.
--
-- The options are `--query`, `--generate`, `--workers` and `--budget`, each with a value, and `--trace`, `--why` and
-- `--model` without one. They come in any order. A value is the next word, which doesn't begin with `-`, or stands behind `=` in the option's word.
use Rattle.std.specs.Prelude.{◌≡◌, ℕ, suc, ◌==◌, Bool, ◌||◌, List, [], ◌∷◌, length, nat_lt, Option, Some, None, is_some, unwrap_or, option_map, ok_or, Result, Ok, Err, if◌then◌else◌, ⊤}
use Rattle.std.specs.List.{position_or_len, before_first, after_first}
use Rattle.std.specs.Str.Parse.{starts_with_minus}
use Rattle.akl_args.specs.Flags.{no_flags, has_flag, flags_with, flag_named}
use Rattle.akl_args.specs.Numbers.{number_in}
use Rattle.akl_args.specs.Settings.{setting_named}
use Rattle.akl_args.specs.declared.flag.Flag.{Flag}
use Rattle.akl_args.specs.declared.flag.Flags.{Flags}
use Rattle.akl_args.specs.declared.options.Job.{Job}
use Rattle.akl_args.specs.declared.options.Job.TheVariants as jobs
use Rattle.akl_args.specs.declared.options.Options.{Options}
use Rattle.akl_args.specs.declared.options.WordsError.{WordsError}
use Rattle.akl_args.specs.declared.options.WordsError.TheVariants.{Missing, Unknown, Value, Repeated, Memory}
use Rattle.akl_args.specs.declared.seen.Pending.{Pending}
use Rattle.akl_args.specs.declared.setting.Setting.{Setting}
use Rattle.akl_args.specs.declared.setting.Setting.TheVariants.{Query, Generate, Workers, Budget}

-- what comes of a value, unless there is a refusal instead
abbrev pub and_then : {A B : Type 0} → Result A WordsError → (A → Result B WordsError) → Result B WordsError
and_then (Ok x) go = go x
and_then (Err e) go = Err e

-- what words say so far: what each option asks for, and the option whose value must be the next word
pub record Said : Type 0 where
  pub query : Option (List ℕ)
  pub generate : Option ℕ
  pub workers : Option ℕ
  pub budget : Option ℕ
  pub flags : Flags
  pub pending : Option Pending

-- what no words say
abbrev pub nothing_said : Said
nothing_said = record { query = None; generate = None; workers = None; budget = None; flags = no_flags; pending = None }

-- an option with a value came before, or it is the second of `--query` and `--generate`
abbrev pub is_given : Setting → Said → Bool
is_given Query r = is_some r.query || is_some r.generate
is_given Generate r = is_some r.query || is_some r.generate
is_given Workers r = is_some r.workers
is_given Budget r = is_some r.budget

-- with the value of an option, where it is one: a text that isn't empty, or a number in its range
abbrev pub with_value : Setting → List ℕ → Said → Option Said
with_value Query [] r = None
with_value Query (b ∷ bs) r = Some (record r { query = Some (b ∷ bs) })
with_value Generate text r = option_map (λ n. record r { generate = Some n }) (number_in 0 4294967295 text)
with_value Workers text r = option_map (λ n. record r { workers = Some n }) (number_in 1 16 text)
with_value Budget text r = option_map (λ n. record r { budget = Some n }) (number_in 1 4000000 text)

-- after an option gets its value, which stands in word `at`
abbrev pub after_set : Setting → ℕ → List ℕ → Said → Result Said WordsError
after_set setting at text r = ok_or (with_value setting text r) (Value at)

-- after word `at`, which must be the value of the option before it
abbrev pub after_value : Pending → ℕ → List ℕ → Said → Result Said WordsError
after_value p at word r =
    if starts_with_minus word then Err (Missing p.at)
    else after_set p.setting at word (record r { pending = None })

abbrev pub is_equals : ℕ → Bool
is_equals b = b == 61

abbrev pub once : Option Setting → ℕ → Said → Result Setting WordsError
once None at r = Err (Unknown at)
once (Some setting) at r = if is_given setting r then Err (Repeated at) else Ok setting

-- the option with a value that word `at` names
abbrev pub new_setting : ℕ → List ℕ → Said → Result Setting WordsError
new_setting at name r = once (setting_named name) at r

-- after word `at`, a name with a value behind `=`
abbrev pub after_joined : ℕ → List ℕ → List ℕ → Said → Result Said WordsError
after_joined at name value r = and_then (new_setting at name r) (λ setting. after_set setting at value r)

-- after an option without a value in word `at`
abbrev pub after_flag : ℕ → Flag → Said → Result Said WordsError
after_flag at flag r = if has_flag flag r.flags then Err (Repeated at) else Ok (record r { flags = flags_with flag r.flags })

abbrev pub after_name : Option Flag → ℕ → List ℕ → Said → Result Said WordsError
after_name (Some flag) at name r = after_flag at flag r
after_name None at name r = and_then (new_setting at name r) (λ setting. Ok (record r { pending = Some (record { setting = setting; at = at }) }))

-- after word `at`, a name alone
abbrev pub after_alone : ℕ → List ℕ → Said → Result Said WordsError
after_alone at name r = after_name (flag_named name) at name r

-- after word `at`, which must be an option
abbrev pub after_option : ℕ → List ℕ → Said → Result Said WordsError
after_option at word r =
    if nat_lt (position_or_len is_equals word) (length word)
    then after_joined at (before_first is_equals word) (after_first is_equals word) r
    else after_alone at word r

abbrev pub after_expected : Option Pending → ℕ → List ℕ → Said → Result Said WordsError
after_expected None at word r = after_option at word r
after_expected (Some p) at word r = after_value p at word r

-- after word `at`
abbrev pub after_word : ℕ → List ℕ → Said → Result Said WordsError
after_word at word r = after_expected r.pending at word r

-- what is to be run: `--query` or `--generate` is there
abbrev pub job_of : Option (List ℕ) → Option ℕ → Option Job
job_of (Some text) generate = Some (jobs.Query text)
job_of None generate = option_map jobs.Generate generate

-- all that was said, where no value is missing
abbrev pub options_of : Said → Job → Options
options_of r job = record { job = job; workers = unwrap_or r.workers 1; budget = unwrap_or r.budget 100000; flags = r.flags }

abbrev pub completed_behind : Option Pending → ℕ → Said → Result Options WordsError
completed_behind (Some p) count r = Err (Missing p.at)
completed_behind None count r = ok_or (option_map (options_of r) (job_of r.query r.generate)) (Missing count)

-- after the last of so many words
abbrev pub completed : ℕ → Said → Result Options WordsError
completed count r = completed_behind r.pending count r

-- what the words from number `at` on ask for, read from left to right, after what those before say
abbrev pub reading_from : ℕ → List (List ℕ) → Said → Result Options WordsError
reading_from at [] r = completed at r
reading_from at (word ∷ words) r = and_then (after_word at word r) (λ s. reading_from (suc at) words s)

-- What words ask for, or the refusal of the first that breaks the table.
abbrev pub reading : List (List ℕ) → Result Options WordsError
reading words = reading_from 0 words nothing_said

-- this refusal is the one wanted, or memory was wanting
abbrev pub IsRefusalOf : {A : Type 0} → Result A WordsError → WordsError → Type 0
IsRefusalOf wanted (Memory e) = ⊤
IsRefusalOf wanted e = wanted ≡ Err e
