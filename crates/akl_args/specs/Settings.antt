-- The options that have a value.
use Rattle.std.specs.Prelude.{List, ℕ, Bool, Option, Some, None, is_some, nat_lt, length, if◌then◌else◌, bytes_eq, codes}
use Rattle.akl_args.specs.Numbers.{number_in}
use Rattle.akl_args.specs.declared.setting.Setting.{Setting}
use Rattle.akl_args.specs.declared.setting.Setting.TheVariants.{Query, Generate, Workers, Budget}

-- the option with a value that has this name
abbrev pub setting_named : List ℕ → Option Setting
setting_named name =
    if bytes_eq name (codes "--query") then Some Query
    else if bytes_eq name (codes "--generate") then Some Generate
    else if bytes_eq name (codes "--workers") then Some Workers
    else if bytes_eq name (codes "--budget") then Some Budget
    else None

-- its name without the two hyphens
abbrev pub id_of : Setting → List ℕ
id_of Query = codes "query"
id_of Generate = codes "generate"
id_of Workers = codes "workers"
id_of Budget = codes "budget"

-- the number that a text is as its value, where it is one of its range
abbrev pub number_as : Setting → List ℕ → Option ℕ
number_as Query text = None
number_as Generate text = number_in 0 4294967295 text
number_as Workers text = number_in 1 16 text
number_as Budget text = number_in 1 4000000 text

abbrev pub most : Setting → ℕ
most Query = 0
most Generate = 4294967295
most Workers = 16
most Budget = 4000000

-- a text is a value of it
abbrev pub is_value : Setting → List ℕ → Bool
is_value Query text = nat_lt 0 (length text)
is_value Generate text = is_some (number_as Generate text)
is_value Workers text = is_some (number_as Workers text)
is_value Budget text = is_some (number_as Budget text)
