-- What the rows of the matches ask for.
use Rattle.std.specs.Prelude.{◌≡◌, List, ℕ, Bool, Option, Some, option_and_then, option_map, unwrap_or, Result, ok_or, codes, bytes_eq, false}
use Rattle.std.specs.Option.{option_map_or}
use Rattle.clap.specs.Values.{bool_text}
use Rattle.clap.specs.Words.{Row, first_of, found_of, one_of, rows_of}
use Rattle.clap.specs.declared.parser.matches.ArgMatches.{ArgMatches}
use Rattle.akl_args.specs.Flags.{flag_id}
use Rattle.akl_args.specs.Settings.{id_of, number_as}
use Rattle.akl_args.specs.Table.{job_of}
use Rattle.akl_args.specs.declared.flag.Flag.{Flag}
use Rattle.akl_args.specs.declared.flag.Flag.TheVariants.{Trace, Why, Model}
use Rattle.akl_args.specs.declared.flag.Flags.{Flags}
use Rattle.akl_args.specs.declared.options.Job.{Job}
use Rattle.akl_args.specs.declared.options.Options.{Options}
use Rattle.akl_args.specs.declared.options.WordsError.{WordsError}
use Rattle.akl_args.specs.declared.options.WordsError.TheVariants.{Missing}
use Rattle.akl_args.specs.declared.setting.Setting.{Setting}
use Rattle.akl_args.specs.declared.setting.Setting.TheVariants.{Query, Generate, Workers, Budget}

abbrev pub rows_in : ArgMatches → List Row
rows_in matches = rows_of (found_of matches)

-- the value of an option, as text and as a number
abbrev pub text_in : Setting → List Row → Option (List ℕ)
text_in setting rows = first_of (id_of setting) rows

abbrev pub number_of : Setting → List Row → Option ℕ
number_of setting rows = option_and_then (number_as setting) (text_in setting rows)

-- what is to be run
abbrev pub job_in : List Row → Option Job
job_in rows = job_of (text_in Query rows) (number_of Generate rows)

-- an option without a value was given
abbrev pub flag_in : Flag → List Row → Bool
flag_in flag rows = option_map_or (λ text. bytes_eq text (codes "true")) (one_of (flag_id flag) rows) false

-- the row of each says one or the other
abbrev pub SaysFlags : List Row → Type 0
SaysFlags rows = (flag : Flag) → one_of (flag_id flag) rows ≡ Some (bool_text (flag_in flag rows))

abbrev pub flags_in : List Row → Flags
flags_in rows = record { trace = flag_in Trace rows; why = flag_in Why rows; model = flag_in Model rows }

abbrev pub options_in : List Row → Job → Options
options_in rows job = record {
  job = job;
  workers = unwrap_or (number_of Workers rows) 1;
  budget = unwrap_or (number_of Budget rows) 100000;
  flags = flags_in rows;
}

-- what the rows of so many words ask for
abbrev pub asked_in : List Row → ℕ → Result Options WordsError
asked_in rows count = ok_or (option_map (options_in rows) (job_in rows)) (Missing count)
