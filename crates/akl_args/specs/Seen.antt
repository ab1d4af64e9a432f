-- The test of the words, which keeps which options came and not their values. It refuses them as `Table.antt` does, but that
-- nothing is to be run isn't tested. `proofs/SeenLaws.antt` shows it.
use Rattle.std.specs.Prelude.{ℕ, suc, Bool, false, true, ◌||◌, List, [], ◌∷◌, length, nat_lt, Option, Some, None, option_map, Result, Ok, Err, if◌then◌else◌}
use Rattle.std.specs.List.{position_or_len, before_first, after_first}
use Rattle.std.specs.Str.Parse.{starts_with_minus}
use Rattle.akl_args.specs.Flags.{no_flags, has_flag, flags_with, flag_named}
use Rattle.akl_args.specs.Settings.{setting_named, is_value}
use Rattle.akl_args.specs.Table.{and_then, is_equals}
use Rattle.akl_args.specs.declared.flag.Flag.{Flag}
use Rattle.akl_args.specs.declared.options.WordsError.{WordsError}
use Rattle.akl_args.specs.declared.options.WordsError.TheVariants.{Missing, Unknown, Value, Repeated}
use Rattle.akl_args.specs.declared.seen.Pending.{Pending}
use Rattle.akl_args.specs.declared.seen.Seen.{Seen}
use Rattle.akl_args.specs.declared.setting.Setting.{Setting}
use Rattle.akl_args.specs.declared.setting.Setting.TheVariants.{Query, Generate, Workers, Budget}

abbrev pub nothing_seen : Seen
nothing_seen = record { query = false; generate = false; workers = false; budget = false; flags = no_flags; pending = None }

-- an option can't come any more
abbrev pub is_seen : Setting → Seen → Bool
is_seen Query s = s.query || s.generate
is_seen Generate s = s.query || s.generate
is_seen Workers s = s.workers
is_seen Budget s = s.budget

abbrev pub with_seen : Setting → Seen → Seen
with_seen Query s = record s { query = true }
with_seen Generate s = record s { generate = true }
with_seen Workers s = record s { workers = true }
with_seen Budget s = record s { budget = true }

abbrev pub seen_set : Setting → ℕ → List ℕ → Seen → Result Seen WordsError
seen_set setting at text s = if is_value setting text then Ok (with_seen setting s) else Err (Value at)

abbrev pub seen_value : Pending → ℕ → List ℕ → Seen → Result Seen WordsError
seen_value p at word s =
    if starts_with_minus word then Err (Missing p.at)
    else seen_set p.setting at word (record s { pending = None })

abbrev pub unseen : Option Setting → ℕ → Seen → Result Setting WordsError
unseen None at s = Err (Unknown at)
unseen (Some setting) at s = if is_seen setting s then Err (Repeated at) else Ok setting

abbrev pub seen_setting : ℕ → List ℕ → Seen → Result Setting WordsError
seen_setting at name s = unseen (setting_named name) at s

abbrev pub seen_joined : ℕ → List ℕ → List ℕ → Seen → Result Seen WordsError
seen_joined at name value s = and_then (seen_setting at name s) (λ setting. seen_set setting at value s)

abbrev pub seen_flag : ℕ → Flag → Seen → Result Seen WordsError
seen_flag at flag s = if has_flag flag s.flags then Err (Repeated at) else Ok (record s { flags = flags_with flag s.flags })

abbrev pub seen_name : Option Flag → ℕ → List ℕ → Seen → Result Seen WordsError
seen_name (Some flag) at name s = seen_flag at flag s
seen_name None at name s = and_then (seen_setting at name s) (λ setting. Ok (record s { pending = Some (record { setting = setting; at = at }) }))

abbrev pub seen_alone : ℕ → List ℕ → Seen → Result Seen WordsError
seen_alone at name s = seen_name (flag_named name) at name s

abbrev pub seen_option : ℕ → List ℕ → Seen → Result Seen WordsError
seen_option at word s =
    if nat_lt (position_or_len is_equals word) (length word)
    then seen_joined at (before_first is_equals word) (after_first is_equals word) s
    else seen_alone at word s

abbrev pub seen_expected : Option Pending → ℕ → List ℕ → Seen → Result Seen WordsError
seen_expected None at word s = seen_option at word s
seen_expected (Some p) at word s = seen_value p at word s

-- what came with word `at`
abbrev pub seen_word : ℕ → List ℕ → Seen → Result Seen WordsError
seen_word at word s = seen_expected s.pending at word s

abbrev pub or_refusal : Result Seen WordsError → (Seen → Option WordsError) → Option WordsError
or_refusal (Ok s) go = go s
or_refusal (Err e) go = Some e

abbrev pub refusal_from : ℕ → List (List ℕ) → Seen → Option WordsError
refusal_from at [] s = option_map (λ p. Missing p.at) s.pending
refusal_from at (word ∷ words) s = or_refusal (seen_word at word s) (λ t. refusal_from (suc at) words t)

-- the refusal of words, if any
abbrev pub refusal_of : List (List ℕ) → Option WordsError
refusal_of words = refusal_from 0 words nothing_seen
