-- The command by which `clap` splits the words: the options with a value, and those without one.
use Rattle.std.specs.Prelude.{List, ℕ, Some, true, codes}
use Rattle.clap.specs.Simple.{on_top}
use Rattle.clap.specs.Words.{App, Rule, new_rule, new_app, with_rule}
use Rattle.clap.specs.declared.builder.action.ArgAction.{ArgAction}
use Rattle.clap.specs.declared.builder.action.ArgAction.TheVariants.{Set, SetTrue}
use Rattle.akl_args.specs.Flags.{flag_id}
use Rattle.akl_args.specs.Settings.{id_of}
use Rattle.akl_args.specs.declared.flag.Flag.{Flag}
use Rattle.akl_args.specs.declared.flag.Flag.TheVariants.{Trace, Why, Model}
use Rattle.akl_args.specs.declared.setting.Setting.{Setting}
use Rattle.akl_args.specs.declared.setting.Setting.TheVariants.{Query, Generate, Workers, Budget}

-- an option `--NAME`
abbrev pub option : List ℕ → ArgAction → Rule
option name action = record (new_rule name) { long = Some name; action = Some action }

-- no option, and no word that is the program's name or asks for help
abbrev pub plain : App
plain = on_top (λ s. record s { no_binary_name = true; disable_help_flag = true }) (new_app (codes "akl"))

abbrev pub with_setting : App → Setting → App
with_setting app setting = with_rule app (option (id_of setting) Set)

abbrev pub with_flag : App → Flag → App
with_flag app flag = with_rule app (option (flag_id flag) SetTrue)

abbrev pub with_settings : App → App
with_settings app = with_setting (with_setting (with_setting (with_setting app Query) Generate) Workers) Budget

abbrev pub with_flags : App → App
with_flags app = with_flag (with_flag (with_flag app Trace) Why) Model

abbrev pub table : App
table = with_flags (with_settings plain)
