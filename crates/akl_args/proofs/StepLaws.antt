-- What `clap` makes of a word that the table takes.
use Rattle.std.proofs.Common.{◌≡◌, ap, refl, Bool, true, false, not, ◌&&◌, ◌||◌, List, [], ◌∷◌, ◌++◌, Some, None, bytes_eq, codes}
use Rattle.std.specs.Str.Parse.{starts_with_minus}
use Rattle.clap.specs.Lexer.{long_of, short_of}
use Rattle.clap.specs.Simple.{Shape, built}
use Rattle.clap.specs.Takes.{turn_passes, settle_passes}
use Rattle.clap.specs.Walk.{Held, Row, Rule, Text, Walk, has_row, option, settled, walk_from, walked}
use Rattle.clap.specs.declared.parser.matches.ValueSource.TheVariants.{CommandLine}
use Rattle.clap.specs.declared.builder.value_parser.Reading.TheVariants.{AsWritten}
use Rattle.akl_args.proofs.RowLaws.{first_use}
use Rattle.akl_args.proofs.HeldLaws.{setting_row, flag_row}
use Rattle.akl_args.proofs.NameLaws.{name_of, flag_name}
use Rattle.akl_args.specs.Command.{table}
use Rattle.akl_args.specs.Flags.{flag_id}
use Rattle.akl_args.specs.Settings.{id_of}
use Rattle.akl_args.specs.declared.flag.Flag.{Flag}
use Rattle.akl_args.specs.declared.flag.Flag.TheVariants.{Trace, Why, Model}
use Rattle.akl_args.specs.declared.setting.Setting.{Setting}
use Rattle.akl_args.specs.declared.setting.Setting.TheVariants.{Query, Generate, Workers, Budget}

-- the command as it is built
abbrev pub shape : Shape
shape = (built table).top

abbrev pub rules : List Rule
rules = shape.rules

-- between two words: an option waits for its value
abbrev pub expecting : Setting → Held → Walk
expecting setting h = record (walk_from (record h { pending = Some (id_of setting, []) })) { waiting = option (id_of setting) }

abbrev pub passes : Walk → Text → Type 0
passes w word = turn_passes shape [] w word ≡ true

also : (b : Bool) → b ≡ true → (b && true) ≡ true
also b h = ap (λ (c : Bool). c && true) h

pub alone_passes : (setting : Setting) (h : Held) → settle_passes rules false h ≡ true → passes (walk_from h) (name_of setting)
alone_passes Query h settles = also _ settles
alone_passes Generate h settles = also _ settles
alone_passes Workers h settles = also _ settles
alone_passes Budget h settles = also _ settles

pub alone_walked : (setting : Setting) (h : Held) → walked rules [] (walk_from h) (name_of setting) ≡ expecting setting (settled rules h)
unfolding walked
alone_walked Query h = refl
alone_walked Generate h = refl
alone_walked Workers h = refl
alone_walked Budget h = refl

used_once : (a b : Bool) → a ≡ true → b ≡ false → ((a && ((not b || false) && true)) && true) ≡ true
used_once a b h k = rw (h, k) refl

pub joined_passes : (setting : Setting) (value : Text) (h : Held) → settle_passes rules false h ≡ true → has_row (id_of setting) (settled rules h).rows ≡ false
    → passes (walk_from h) (name_of setting ++ 61 ∷ value)
joined_passes Query value h s n = used_once _ _ s n
joined_passes Generate value h s n = used_once _ _ s n
joined_passes Workers value h s n = used_once _ _ s n
joined_passes Budget value h s n = used_once _ _ s n

-- the held after a use
abbrev pub with_row : Row → Held → Held
with_row row h = record h { rows = (settled rules h).rows ++ row ∷ []; pending = None }

rows_walked : (h : Held) (rows more : List Row) → rows ≡ more → walk_from (record h { rows = rows; pending = None }) ≡ walk_from (record h { rows = more; pending = None })
rows_walked h rows more e = ap (λ (x : List Row). walk_from (record h { rows = x; pending = None })) e

pub joined_walked : (setting : Setting) (value : Text) (h : Held) → has_row (id_of setting) (settled rules h).rows ≡ false
    → walked rules [] (walk_from h) (name_of setting ++ 61 ∷ value) ≡ walk_from (with_row (setting_row setting value) h)
unfolding walked
joined_walked Query value h n = rows_walked h _ _ (first_use (codes "query") AsWritten CommandLine (value ∷ []) (settled rules h).rows n)
joined_walked Generate value h n = rows_walked h _ _ (first_use (codes "generate") AsWritten CommandLine (value ∷ []) (settled rules h).rows n)
joined_walked Workers value h n = rows_walked h _ _ (first_use (codes "workers") AsWritten CommandLine (value ∷ []) (settled rules h).rows n)
joined_walked Budget value h n = rows_walked h _ _ (first_use (codes "budget") AsWritten CommandLine (value ∷ []) (settled rules h).rows n)

pub flag_passes : (flag : Flag) (h : Held) → settle_passes rules false h ≡ true → has_row (flag_id flag) (settled rules h).rows ≡ false
    → passes (walk_from h) (flag_name flag)
flag_passes Trace h s n = used_once _ _ s n
flag_passes Why h s n = used_once _ _ s n
flag_passes Model h s n = used_once _ _ s n

pub flag_walked : (flag : Flag) (h : Held) → has_row (flag_id flag) (settled rules h).rows ≡ false
    → walked rules [] (walk_from h) (flag_name flag) ≡ walk_from (with_row (flag_row flag) h)
unfolding walked
flag_walked Trace h n = rows_walked h _ _ (first_use (codes "trace") AsWritten CommandLine (codes "true" ∷ []) (settled rules h).rows n)
flag_walked Why h n = rows_walked h _ _ (first_use (codes "why") AsWritten CommandLine (codes "true" ∷ []) (settled rules h).rows n)
flag_walked Model h n = rows_walked h _ _ (first_use (codes "model") AsWritten CommandLine (codes "true" ∷ []) (settled rules h).rows n)

no_dashes : (word : Text) → starts_with_minus word ≡ false → bytes_eq word (45 ∷ 45 ∷ []) ≡ false
no_dashes [] h = refl
no_dashes (b ∷ bs) h = ap (λ (c : Bool). c && bytes_eq bs (45 ∷ [])) h

no_long : (word : Text) → starts_with_minus word ≡ false → long_of word ≡ None
no_long [] h = refl
no_long (b ∷ bs) h = rw h refl

no_short : (word : Text) → starts_with_minus word ≡ false → short_of word ≡ None
no_short [] h = refl
no_short (b ∷ bs) h = rw h refl

pub value_passes : (setting : Setting) (word : Text) (h : Held) → starts_with_minus word ≡ false → passes (expecting setting h) word
value_passes Query word h m = rw (no_dashes word m, no_long word m, no_short word m) refl
value_passes Generate word h m = rw (no_dashes word m, no_long word m, no_short word m) refl
value_passes Workers word h m = rw (no_dashes word m, no_long word m, no_short word m) refl
value_passes Budget word h m = rw (no_dashes word m, no_long word m, no_short word m) refl

-- the held after a value in its own word
abbrev pub with_value_of : Setting → Text → Held → Held
with_value_of setting word h = record h { pending = Some (id_of setting, word ∷ []) }

pub value_walked : (setting : Setting) (word : Text) (h : Held) → starts_with_minus word ≡ false
    → walked rules [] (expecting setting h) word ≡ walk_from (with_value_of setting word h)
unfolding walked
value_walked Query word h m = rw (no_dashes word m, no_long word m, no_short word m) refl
value_walked Generate word h m = rw (no_dashes word m, no_long word m, no_short word m) refl
value_walked Workers word h m = rw (no_dashes word m, no_long word m, no_short word m) refl
value_walked Budget word h m = rw (no_dashes word m, no_long word m, no_short word m) refl

once_more : (b : Bool) → b ≡ false → ((not b || false) && true) ≡ true
once_more b h = rw h refl

pub value_settles : (setting : Setting) (word : Text) (h : Held) → has_row (id_of setting) h.rows ≡ false → settle_passes rules false (with_value_of setting word h) ≡ true
value_settles Query word h n = once_more _ n
value_settles Generate word h n = once_more _ n
value_settles Workers word h n = once_more _ n
value_settles Budget word h n = once_more _ n

pub value_settled : (setting : Setting) (word : Text) (h : Held) → has_row (id_of setting) h.rows ≡ false
    → (settled rules (with_value_of setting word h)).rows ≡ h.rows ++ setting_row setting word ∷ []
value_settled Query word h n = first_use (codes "query") AsWritten CommandLine (word ∷ []) h.rows n
value_settled Generate word h n = first_use (codes "generate") AsWritten CommandLine (word ∷ []) h.rows n
value_settled Workers word h n = first_use (codes "workers") AsWritten CommandLine (word ∷ []) h.rows n
value_settled Budget word h n = first_use (codes "budget") AsWritten CommandLine (word ∷ []) h.rows n
