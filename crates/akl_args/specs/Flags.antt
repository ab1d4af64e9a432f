-- The options that have no value.
use Rattle.std.specs.Prelude.{List, ℕ, Bool, true, false, Option, Some, None, if◌then◌else◌, bytes_eq, codes}
use Rattle.akl_args.specs.declared.flag.Flag.{Flag}
use Rattle.akl_args.specs.declared.flag.Flag.TheVariants.{Trace, Why, Model}
use Rattle.akl_args.specs.declared.flag.Flags.{Flags}

-- the option without a value that has this name
abbrev pub flag_named : List ℕ → Option Flag
flag_named name =
    if bytes_eq name (codes "--trace") then Some Trace
    else if bytes_eq name (codes "--why") then Some Why
    else if bytes_eq name (codes "--model") then Some Model
    else None

-- its name without the two hyphens
abbrev pub flag_id : Flag → List ℕ
flag_id Trace = codes "trace"
flag_id Why = codes "why"
flag_id Model = codes "model"

-- no option is given
abbrev pub no_flags : Flags
no_flags = record { trace = false; why = false; model = false }

-- the option is given
abbrev pub has_flag : Flag → Flags → Bool
has_flag Trace flags = flags.trace
has_flag Why flags = flags.why
has_flag Model flags = flags.model

-- with the option
abbrev pub flags_with : Flag → Flags → Flags
flags_with Trace flags = record flags { trace = true }
flags_with Why flags = record flags { why = true }
flags_with Model flags = record flags { model = true }
