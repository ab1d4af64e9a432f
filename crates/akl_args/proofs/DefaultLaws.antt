-- What the rows hold in the end, when each option without a value that wasn't given has its default.
use Rattle.std.proofs.Common.{◌≡◌, ◌∙◌, ap, refl, Bool, true, false, List, [], ◌∷◌, ◌++◌, Option, Some, None, is_some, if◌then◌else◌, bytes_eq, codes}
use Rattle.clap.specs.Values.{bool_text}
use Rattle.clap.specs.Walk.{Held, Row, Text, finished, has_row, one_of, settled, with_values}
use Rattle.clap.specs.declared.parser.matches.ValueSource.TheVariants.{DefaultValue}
use Rattle.clap.specs.declared.builder.value_parser.Reading.TheVariants.{AsWritten}
use Rattle.akl_args.proofs.HeldLaws.{flag_row}
use Rattle.akl_args.proofs.NameLaws.{equal_self}
use Rattle.akl_args.proofs.RowLaws.{row_in, use_row, has_is_found, first_value, found_new, found_other}
use Rattle.akl_args.proofs.StepLaws.{rules}
use Rattle.akl_args.specs.Flags.{flag_id}
use Rattle.akl_args.specs.declared.flag.Flag.{Flag}
use Rattle.akl_args.specs.declared.flag.Flag.TheVariants.{Trace, Why, Model}

abbrev kept : Text → List Row → List Row
kept id rows = if has_row id rows then rows else rows

is_kept : (id : Text) (rows : List Row) → kept id rows ≡ rows
is_kept id rows = go (has_row id rows)
  where
    go : (b : Bool) → (if b then rows else rows) ≡ rows
    go true = refl
    go false = refl

abbrev default_row : Flag → Row
default_row flag = use_row (flag_id flag) AsWritten DefaultValue (codes "false" ∷ [])

abbrev default_or : Flag → Bool → List Row → List Row
default_or flag given rows = if given then rows else with_values (flag_id flag) AsWritten DefaultValue (codes "false" ∷ []) rows

abbrev with_default : Flag → List Row → List Row
with_default flag rows = default_or flag (has_row (flag_id flag) rows) rows

-- an option with a value has no default
pub finished_is : (h : Held) → finished rules h ≡ with_default Model (with_default Why (with_default Trace (settled rules h).rows))
finished_is h =
    let rows = (settled rules h).rows in
    ap (λ (x : List Row). with_default Model (with_default Why (with_default Trace x)))
    (is_kept (codes "budget") (kept (codes "workers") (kept (codes "generate") (kept (codes "query") rows)))
    ∙ is_kept (codes "workers") (kept (codes "generate") (kept (codes "query") rows)) ∙ is_kept (codes "generate") (kept (codes "query") rows) ∙ is_kept (codes "query") rows)

default_added : (flag : Flag) (rows : List Row) → has_row (flag_id flag) rows ≡ false → default_or flag false rows ≡ rows ++ default_row flag ∷ []
default_added flag rows h = first_value (flag_id flag) AsWritten DefaultValue (codes "false" ∷ []) rows h

-- a default changes no other row
default_elsewhere : (flag : Flag) (id : Text) (rows : List Row) → bytes_eq (flag_id flag) id ≡ false → row_in id (with_default flag rows) ≡ row_in id rows
default_elsewhere flag id rows other = go (has_row (flag_id flag) rows) refl
  where
    go : (b : Bool) → has_row (flag_id flag) rows ≡ b → row_in id (default_or flag b rows) ≡ row_in id rows
    go true h = refl
    go false h = ap (row_in id) (default_added flag rows h) ∙ found_other id (default_row flag) rows other

-- no default changes the row of an option with a value
pub no_default : (id : Text) (rows : List Row) → ((flag : Flag) → bytes_eq (flag_id flag) id ≡ false)
    → row_in id (with_default Model (with_default Why (with_default Trace rows))) ≡ row_in id rows
no_default id rows other =
    default_elsewhere Model id (with_default Why (with_default Trace rows)) (other Model)
    ∙ default_elsewhere Why id (with_default Trace rows) (other Why) ∙ default_elsewhere Trace id rows (other Trace)

abbrev said_row : Flag → Bool → Option Row
said_row flag given = if given then Some (flag_row flag) else None

abbrev end_row : Flag → Bool → Row
end_row flag given = if given then flag_row flag else default_row flag

default_here : (flag : Flag) (given : Bool) (rows : List Row) → row_in (flag_id flag) rows ≡ said_row flag given
    → row_in (flag_id flag) (with_default flag rows) ≡ Some (end_row flag given)
default_here flag true rows h =
    let has : has_row (flag_id flag) rows ≡ true = has_is_found (flag_id flag) rows ∙ ap is_some h in
    ap (λ (b : Bool). row_in (flag_id flag) (default_or flag b rows)) has ∙ h
default_here flag false rows h =
    let has : has_row (flag_id flag) rows ≡ false = has_is_found (flag_id flag) rows ∙ ap is_some h in
    ap (λ (b : Bool). row_in (flag_id flag) (default_or flag b rows)) has
    ∙ ap (row_in (flag_id flag)) (default_added flag rows has) ∙ found_new (flag_id flag) (default_row flag) rows has (equal_self flag)

end_found : (flag : Flag) (given : Bool) (rows : List Row) → row_in (flag_id flag) rows ≡ said_row flag given
    → row_in (flag_id flag) (with_default Model (with_default Why (with_default Trace rows))) ≡ Some (end_row flag given)
end_found Trace given rows h =
    default_elsewhere Model (codes "trace") (with_default Why (with_default Trace rows)) refl
    ∙ default_elsewhere Why (codes "trace") (with_default Trace rows) refl ∙ default_here Trace given rows h
end_found Why given rows h =
    default_elsewhere Model (codes "why") (with_default Why (with_default Trace rows)) refl
    ∙ default_here Why given (with_default Trace rows) (default_elsewhere Trace (codes "why") rows refl ∙ h)
end_found Model given rows h =
    default_here Model given (with_default Why (with_default Trace rows))
    (default_elsewhere Why (codes "model") (with_default Trace rows) refl ∙ default_elsewhere Trace (codes "model") rows refl ∙ h)

-- the row in the end says whether the option was given
pub flag_found : (flag : Flag) (given : Bool) (rows : List Row) → row_in (flag_id flag) rows ≡ (if given then Some (flag_row flag) else None)
    → one_of (flag_id flag) (with_default Model (with_default Why (with_default Trace rows))) ≡ Some (bool_text given)
flag_found flag true rows h = rw (end_found flag true rows h) refl
flag_found flag false rows h = rw (end_found flag false rows h) refl
