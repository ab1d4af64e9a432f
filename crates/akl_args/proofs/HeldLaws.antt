-- What was said, as the rows of the matches hold it.
use Rattle.std.proofs.Common.{◌≡◌, ◌∙◌, ap, refl, sym, subst, Bool, true, false, ℕ, List, [], ◌∷◌, ◌++◌, Option, Some, None, is_some, slice_get, option_map, option_and_then, if◌then◌else◌, bytes_eq, codes}
use Rattle.clap.specs.Walk.{Row, Text, has_row}
use Rattle.clap.specs.declared.parser.matches.ValueSource.TheVariants.{CommandLine}
use Rattle.clap.specs.declared.builder.value_parser.Reading.TheVariants.{AsWritten}
use Rattle.akl_args.proofs.NameLaws.{same_setting, same_flag, flag_is_not, setting_is_not, equal_self}
use Rattle.akl_args.proofs.RowLaws.{row_in, use_row, neither, has_is_found, found_new, found_other}
use Rattle.akl_args.specs.Flags.{no_flags, has_flag, flags_with, flag_id}
use Rattle.akl_args.specs.Numbers.{number_in}
use Rattle.akl_args.specs.Settings.{id_of, number_as}
use Rattle.akl_args.specs.Table.{Said, nothing_said, is_given, with_value}
use Rattle.akl_args.specs.declared.flag.Flag.{Flag}
use Rattle.akl_args.specs.declared.flag.Flag.TheVariants.{Trace, Why, Model}
use Rattle.akl_args.specs.declared.flag.Flags.{Flags}
use Rattle.akl_args.specs.declared.seen.Pending.{Pending}
use Rattle.akl_args.specs.declared.setting.Setting.{Setting}
use Rattle.akl_args.specs.declared.setting.Setting.TheVariants.{Query, Generate, Workers, Budget}

-- the value of an option: a query's text, or a number
pub data Value : Type 0 where
  written : List ℕ → Value
  counted : ℕ → Value

abbrev pub field : Setting → Said → Option Value
field Query r = option_map written r.query
field Generate r = option_map counted r.generate
field Workers r = option_map counted r.workers
field Budget r = option_map counted r.budget

-- what a text is read as
abbrev pub value_as : Setting → List ℕ → Option Value
value_as Query text = Some (written text)
value_as Generate text = option_map counted (number_as Generate text)
value_as Workers text = option_map counted (number_as Workers text)
value_as Budget text = option_map counted (number_as Budget text)

abbrev pub text_of : Option Row → Option Text
text_of row = option_and_then (λ r. slice_get r.values 0) row

-- a row has the value of an option
pub record Fits (setting : Setting) (row : Option Row) (value : Option Value) : Type 0 where
  pub reads : option_and_then (value_as setting) (text_of row) ≡ value
  pub some : is_some row ≡ is_some value

abbrev pub setting_row : Setting → List ℕ → Row
setting_row setting text = use_row (id_of setting) AsWritten CommandLine (text ∷ [])

abbrev pub flag_row : Flag → Row
flag_row flag = use_row (flag_id flag) AsWritten CommandLine (codes "true" ∷ [])

-- the rows hold what was said
pub record Holds (r : Said) (rows : List Row) : Type 0 where
  pub fits : (x : Setting) → Fits x (row_in (id_of x) rows) (field x r)
  pub flags : (x : Flag) → row_in (flag_id x) rows ≡ (if has_flag x r.flags then Some (flag_row x) else None)

pub nothing_holds : Holds nothing_said []
nothing_holds = record { fits = fits; flags = flags }
  where
    flags : (x : Flag) → row_in (flag_id x) [] ≡ (if has_flag x no_flags then Some (flag_row x) else None)
    flags Trace = refl
    flags Why = refl
    flags Model = refl

    fits : (x : Setting) → Fits x (row_in (id_of x) []) (field x nothing_said)
    fits Query = record { reads = refl; some = refl }
    fits Generate = record { reads = refl; some = refl }
    fits Workers = record { reads = refl; some = refl }
    fits Budget = record { reads = refl; some = refl }

-- what is expected doesn't count
pub holds_expecting : (r : Said) (o : Option Pending) (rows : List Row) → Holds r rows → Holds (record r { pending = o }) rows
holds_expecting r o rows h = record { fits = fits; flags = h.flags }
  where
    fits : (x : Setting) → Fits x (row_in (id_of x) rows) (field x (record r { pending = o }))
    fits Query = h.fits Query
    fits Generate = h.fits Generate
    fits Workers = h.fits Workers
    fits Budget = h.fits Budget

-- after an option gets its value
record Changed (setting : Setting) (value : Option Value) (r s : Said) : Type 0 where
  some : is_some value ≡ true
  fields : (x : Setting) → field x s ≡ (if bytes_eq (id_of setting) (id_of x) then value else field x r)
  flags : s.flags ≡ r.flags
  pending : s.pending ≡ r.pending

inside : {A : Type 0} (x y : A) → Some x ≡ Some y → x ≡ y
inside x y h = cc

query_changed : (text : List ℕ) (r : Said) → Changed Query (Some (written text)) r (record r { query = Some text })
query_changed text r = record { some = refl; fields = fields; flags = refl; pending = refl }
  where
    fields : (x : Setting) → field x (record r { query = Some text }) ≡ (if bytes_eq (codes "query") (id_of x) then Some (written text) else field x r)
    fields Query = refl
    fields Generate = refl
    fields Workers = refl
    fields Budget = refl

generate_changed : (n : ℕ) (r : Said) → Changed Generate (Some (counted n)) r (record r { generate = Some n })
generate_changed n r = record { some = refl; fields = fields; flags = refl; pending = refl }
  where
    fields : (x : Setting) → field x (record r { generate = Some n }) ≡ (if bytes_eq (codes "generate") (id_of x) then Some (counted n) else field x r)
    fields Query = refl
    fields Generate = refl
    fields Workers = refl
    fields Budget = refl

workers_changed : (n : ℕ) (r : Said) → Changed Workers (Some (counted n)) r (record r { workers = Some n })
workers_changed n r = record { some = refl; fields = fields; flags = refl; pending = refl }
  where
    fields : (x : Setting) → field x (record r { workers = Some n }) ≡ (if bytes_eq (codes "workers") (id_of x) then Some (counted n) else field x r)
    fields Query = refl
    fields Generate = refl
    fields Workers = refl
    fields Budget = refl

budget_changed : (n : ℕ) (r : Said) → Changed Budget (Some (counted n)) r (record r { budget = Some n })
budget_changed n r = record { some = refl; fields = fields; flags = refl; pending = refl }
  where
    fields : (x : Setting) → field x (record r { budget = Some n }) ≡ (if bytes_eq (codes "budget") (id_of x) then Some (counted n) else field x r)
    fields Query = refl
    fields Generate = refl
    fields Workers = refl
    fields Budget = refl

number_changed : (setting : Setting) (o : Option ℕ) (r s : Said) (f : ℕ → Said) → option_map f o ≡ Some s
    → ((n : ℕ) → Changed setting (Some (counted n)) r (f n)) → Changed setting (option_map counted o) r s
number_changed setting None r s f h k = cc
number_changed setting (Some n) r s f h k = subst (λ (t : Said). Changed setting (Some (counted n)) r t) (inside _ _ h) (k n)

changed : (setting : Setting) (text : List ℕ) (r s : Said) → with_value setting text r ≡ Some s → Changed setting (value_as setting text) r s
changed Query [] r s h = cc
changed Query (b ∷ bs) r s h = subst (λ (t : Said). Changed Query (Some (written (b ∷ bs))) r t) (inside _ _ h) (query_changed (b ∷ bs) r)
changed Generate text r s h = number_changed Generate (number_in 0 4294967295 text) r s _ h (λ n. generate_changed n r)
changed Workers text r s h = number_changed Workers (number_in 1 16 text) r s _ h (λ n. workers_changed n r)
changed Budget text r s h = number_changed Budget (number_in 1 4000000 text) r s _ h (λ n. budget_changed n r)

pub pending_kept : (setting : Setting) (text : List ℕ) (r s : Said) → with_value setting text r ≡ Some s → s.pending ≡ r.pending
pending_kept setting text r s h = (changed setting text r s h).pending

no_value : {A : Type 0} (f : A → Value) (o : Option A) → is_some o ≡ false → is_some (option_map f o) ≡ false
no_value f None h = refl
no_value f (Some x) h = h

not_given : (setting : Setting) (r : Said) → is_given setting r ≡ false → is_some (field setting r) ≡ false
not_given Query r h = no_value written r.query (neither _ _ h).0
not_given Generate r h = no_value counted r.generate (neither _ _ h).1
not_given Workers r h = no_value counted r.workers h
not_given Budget r h = no_value counted r.budget h

-- an option that may still come has no row
pub no_row : (setting : Setting) (r : Said) (rows : List Row) → Holds r rows → is_given setting r ≡ false → has_row (id_of setting) rows ≡ false
no_row setting r rows h fresh = has_is_found (id_of setting) rows ∙ (h.fits setting).some ∙ not_given setting r fresh

pub no_flag_row : (flag : Flag) (r : Said) (rows : List Row) → Holds r rows → has_flag flag r.flags ≡ false → has_row (flag_id flag) rows ≡ false
no_flag_row flag r rows h fresh =
    has_is_found (flag_id flag) rows ∙ ap is_some (h.flags flag ∙ ap (λ (b : Bool). if b then Some (flag_row flag) else None) fresh)

own_fits : (x : Setting) (text : List ℕ) → is_some (value_as x text) ≡ true → Fits x (Some (setting_row x text)) (value_as x text)
own_fits x text some = record { reads = refl; some = sym some }

-- an option's first row, with its value
pub holds_more : (setting : Setting) (text : List ℕ) (r s : Said) (rows : List Row) → Holds r rows → is_given setting r ≡ false
    → with_value setting text r ≡ Some s → Holds s (rows ++ setting_row setting text ∷ [])
holds_more setting text r s rows h fresh is =
    let new = changed setting text r s is in record {
      fits = λ x. fits x (bytes_eq (id_of setting) (id_of x)) refl (new.fields x) new.some;
      flags = λ x. found_other (flag_id x) (setting_row setting text) rows (setting_is_not setting x) ∙ h.flags x
          ∙ ap (λ (flags : Flags). if has_flag x flags then Some (flag_row x) else None) (sym new.flags);
    }
  where
    fits : (x : Setting) (b : Bool) → bytes_eq (id_of setting) (id_of x) ≡ b → field x s ≡ (if b then value_as setting text else field x r)
        → is_some (value_as setting text) ≡ true → Fits x (row_in (id_of x) (rows ++ setting_row setting text ∷ [])) (field x s)
    fits x true same e some =
        let is : setting ≡ x = same_setting setting x same in
        let empty : has_row (id_of x) rows ≡ false = subst (λ (y : Setting). has_row (id_of y) rows ≡ false) is (no_row setting r rows h fresh) in
        let own : Fits x (Some (setting_row setting text)) (value_as setting text) =
        subst (λ (y : Setting). Fits y (Some (setting_row setting text)) (value_as setting text)) is (own_fits setting text some) in
        rw (found_new (id_of x) (setting_row setting text) rows empty same, e) own
    fits x false other e some = rw (found_other (id_of x) (setting_row setting text) rows other, e) (h.fits x)

field_flagged : (x : Setting) (flag : Flag) (r : Said) → field x (record r { flags = flags_with flag r.flags }) ≡ field x r
field_flagged Query flag r = refl
field_flagged Generate flag r = refl
field_flagged Workers flag r = refl
field_flagged Budget flag r = refl

given_with : (x y : Flag) (flags : Flags) → has_flag y (flags_with x flags) ≡ (if bytes_eq (flag_id x) (flag_id y) then true else has_flag y flags)
given_with Trace Trace flags = refl
given_with Trace Why flags = refl
given_with Trace Model flags = refl
given_with Why Trace flags = refl
given_with Why Why flags = refl
given_with Why Model flags = refl
given_with Model Trace flags = refl
given_with Model Why flags = refl
given_with Model Model flags = refl

-- and the row of an option without a value
pub holds_flagged : (flag : Flag) (r : Said) (rows : List Row) → Holds r rows → has_flag flag r.flags ≡ false
    → Holds (record r { flags = flags_with flag r.flags }) (rows ++ flag_row flag ∷ [])
holds_flagged flag r rows h fresh = record {
  fits = λ x. rw (found_other (id_of x) (flag_row flag) rows (flag_is_not flag x), field_flagged x flag r) (h.fits x);
  flags = λ x. found x (bytes_eq (flag_id flag) (flag_id x)) refl ∙ ap (λ (b : Bool). if b then Some (flag_row x) else None) (sym (given_with flag x r.flags));
}
  where
    found : (x : Flag) (b : Bool) → bytes_eq (flag_id flag) (flag_id x) ≡ b
        → row_in (flag_id x) (rows ++ flag_row flag ∷ []) ≡ (if (if b then true else has_flag x r.flags) then Some (flag_row x) else None)
    found x true same =
        let is : flag ≡ x = same_flag flag x same in
        subst (λ (y : Flag). row_in (flag_id y) (rows ++ flag_row flag ∷ []) ≡ Some (flag_row y)) is
        (found_new (flag_id flag) (flag_row flag) rows (no_flag_row flag r rows h fresh) (equal_self flag))
    found x false other = found_other (flag_id x) (flag_row flag) rows other ∙ h.flags x
