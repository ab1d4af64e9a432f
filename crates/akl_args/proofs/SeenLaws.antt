-- The test of the words refuses them as the table says.
use Rattle.std.proofs.Common.{◌≡◌, ◌∙◌, ap, sym, refl, ℕ, suc, Bool, true, false, List, [], ◌∷◌, length, Option, Some, None, is_some, option_map, Result, Ok, Err, ok_or, nat_lt, if◌then◌else◌, arith}
use Rattle.std.proofs.lemmas.Bool.Decides.{nat_tests}
use Rattle.std.specs.List.{position_or_len, before_first, after_first}
use Rattle.std.specs.Str.Parse.{starts_with_minus}
use Rattle.akl_args.specs.Flags.{has_flag, flags_with, flag_named}
use Rattle.akl_args.specs.Numbers.{number_in}
use Rattle.akl_args.specs.Seen.{is_seen, with_seen, seen_set, seen_value, unseen, seen_joined, seen_flag, seen_name, seen_alone, seen_option, seen_expected, seen_word, or_refusal, refusal_from, refusal_of}
use Rattle.akl_args.specs.Settings.{setting_named}
use Rattle.akl_args.specs.Table.{Said, nothing_said, is_given, is_equals, after_set, after_value, once, new_setting, after_joined, after_flag, after_name, after_alone, after_option, after_expected, after_word, and_then, completed_behind, reading_from, reading}
use Rattle.akl_args.specs.declared.flag.Flag.{Flag}
use Rattle.akl_args.specs.declared.options.Options.{Options}
use Rattle.akl_args.specs.declared.options.WordsError.{WordsError}
use Rattle.akl_args.specs.declared.options.WordsError.TheVariants.{Missing, Value, Repeated}
use Rattle.akl_args.specs.declared.seen.Pending.{Pending}
use Rattle.akl_args.specs.declared.seen.Seen.{Seen}
use Rattle.akl_args.specs.declared.setting.Setting.{Setting}
use Rattle.akl_args.specs.declared.setting.Setting.TheVariants.{Query, Generate, Workers, Budget}

-- which options came, of what was said
abbrev pub seen_of : Said → Seen
seen_of r = record {
  query = is_some r.query;
  generate = is_some r.generate;
  workers = is_some r.workers;
  budget = is_some r.budget;
  flags = r.flags;
  pending = r.pending;
}

abbrev pub seen_in : Result Said WordsError → Result Seen WordsError
seen_in (Ok r) = Ok (seen_of r)
seen_in (Err e) = Err e

either_same : (b : Bool) (x y : Result Said WordsError) (s t : Result Seen WordsError) → s ≡ seen_in x → t ≡ seen_in y
    → (if b then s else t) ≡ seen_in (if b then x else y)
either_same true x y s t h k = h
either_same false x y s t h k = k

number_same : (at : ℕ) (o : Option ℕ) (s : Seen) (f : ℕ → Said) → ((n : ℕ) → s ≡ seen_of (f n))
    → (if is_some o then Ok s else Err (Value at)) ≡ seen_in (ok_or (option_map f o) (Value at))
number_same at (Some n) s f h = ap Ok (h n)
number_same at None s f h = refl

filled : (b : ℕ) (bs : List ℕ) → nat_lt 0 (length (b ∷ bs)) ≡ true
filled b bs = grind (arith, nat_tests)

set_same : (setting : Setting) (at : ℕ) (text : List ℕ) (r : Said) → seen_set setting at text (seen_of r) ≡ seen_in (after_set setting at text r)
set_same Query at [] r = refl
set_same Query at (b ∷ bs) r = ap (λ (t : Bool). if t then Ok (with_seen Query (seen_of r)) else Err (Value at)) (filled b bs)
set_same Generate at text r = number_same at (number_in 0 4294967295 text) _ (λ n. record r { generate = Some n }) (λ n. refl)
set_same Workers at text r = number_same at (number_in 1 16 text) _ (λ n. record r { workers = Some n }) (λ n. refl)
set_same Budget at text r = number_same at (number_in 1 4000000 text) _ (λ n. record r { budget = Some n }) (λ n. refl)

value_same : (p : Pending) (at : ℕ) (word : List ℕ) (r : Said) → seen_value p at word (seen_of r) ≡ seen_in (after_value p at word r)
value_same p at word r = either_same (starts_with_minus word) (Err (Missing p.at)) _ _ _ refl (set_same p.setting at word (record r { pending = None }))

given_same : (setting : Setting) (r : Said) → is_seen setting (seen_of r) ≡ is_given setting r
given_same Query r = refl
given_same Generate r = refl
given_same Workers r = refl
given_same Budget r = refl

once_same : (o : Option Setting) (at : ℕ) (r : Said) → unseen o at (seen_of r) ≡ once o at r
once_same None at r = refl
once_same (Some setting) at r = ap (λ (b : Bool). if b then Err (Repeated at) else Ok setting) (given_same setting r)

then_same : (x : Result Setting WordsError) (f : Setting → Result Said WordsError) (g : Setting → Result Seen WordsError) → ((setting : Setting) → g setting ≡ seen_in (f setting))
    → and_then x g ≡ seen_in (and_then x f)
then_same (Ok setting) f g h = h setting
then_same (Err e) f g h = refl

named_same : (at : ℕ) (name : List ℕ) (r : Said) (f : Setting → Result Said WordsError) (g : Setting → Result Seen WordsError) → ((setting : Setting) → g setting ≡ seen_in (f setting))
    → and_then (unseen (setting_named name) at (seen_of r)) g ≡ seen_in (and_then (new_setting at name r) f)
named_same at name r f g h =
    ap (λ (x : Result Setting WordsError). and_then x g) (once_same (setting_named name) at r) ∙ then_same (new_setting at name r) f g h

joined_same : (at : ℕ) (name value : List ℕ) (r : Said) → seen_joined at name value (seen_of r) ≡ seen_in (after_joined at name value r)
joined_same at name value r =
    named_same at name r (λ setting. after_set setting at value r) (λ setting. seen_set setting at value (seen_of r)) (λ setting. set_same setting at value r)

flag_same : (at : ℕ) (flag : Flag) (r : Said) → seen_flag at flag (seen_of r) ≡ seen_in (after_flag at flag r)
flag_same at flag r = either_same (has_flag flag r.flags) (Err (Repeated at)) (Ok (record r { flags = flags_with flag r.flags })) _ _ refl refl

name_same : (o : Option Flag) (at : ℕ) (name : List ℕ) (r : Said) → seen_name o at name (seen_of r) ≡ seen_in (after_name o at name r)
name_same (Some flag) at name r = flag_same at flag r
name_same None at name r =
    named_same at name r (λ setting. Ok (record r { pending = Some (record { setting = setting; at = at }) })) (λ setting. Ok (record (seen_of r) { pending = Some (record { setting = setting; at = at }) })) (λ setting. refl)

alone_same : (at : ℕ) (name : List ℕ) (r : Said) → seen_alone at name (seen_of r) ≡ seen_in (after_alone at name r)
alone_same at name r = name_same (flag_named name) at name r

option_same : (at : ℕ) (word : List ℕ) (r : Said) → seen_option at word (seen_of r) ≡ seen_in (after_option at word r)
option_same at word r =
    either_same (nat_lt (position_or_len is_equals word) (length word)) _ _ _ _
    (joined_same at (before_first is_equals word) (after_first is_equals word) r) (alone_same at word r)

expected_same : (o : Option Pending) (at : ℕ) (word : List ℕ) (r : Said) → seen_expected o at word (seen_of r) ≡ seen_in (after_expected o at word r)
expected_same None at word r = option_same at word r
expected_same (Some p) at word r = value_same p at word r

-- what came is what came of what was said
pub word_same : (at : ℕ) (word : List ℕ) (r : Said) → seen_word at word (seen_of r) ≡ seen_in (after_word at word r)
word_same at word r = expected_same r.pending at word r

inside : {A : Type 0} (x y : A) → Some x ≡ Some y → x ≡ y
inside x y h = cc

none_missing : (o : Option Pending) (at : ℕ) (r : Said) (e : WordsError) → option_map (λ p. Missing p.at) o ≡ Some e → completed_behind o at r ≡ Err e
none_missing None at r e h = cc
none_missing (Some p) at r e h = ap Err (inside _ _ h)

refused_word : (x : Result Said WordsError) (go : Seen → Option WordsError) (rest : Said → Result Options WordsError) (e : WordsError)
    → ((s : Said) → go (seen_of s) ≡ Some e → rest s ≡ Err e) → or_refusal (seen_in x) go ≡ Some e → and_then x rest ≡ Err e
refused_word (Ok s) go rest e k h = k s h
refused_word (Err f) go rest e k h = ap Err (inside _ _ h)

refused_from : (at : ℕ) (words : List (List ℕ)) (r : Said) (e : WordsError) → refusal_from at words (seen_of r) ≡ Some e → reading_from at words r ≡ Err e
refused_from at [] r e h = none_missing r.pending at r e h
refused_from at (word ∷ words) r e h =
    refused_word (after_word at word r) (λ t. refusal_from (suc at) words t) (λ s. reading_from (suc at) words s) e (λ s k. refused_from (suc at) words s e k)
    (ap (λ (x : Result Seen WordsError). or_refusal x (λ t. refusal_from (suc at) words t)) (sym (word_same at word r)) ∙ h)

-- what the test refuses is refused by the table, for the same reason
pub refused : (words : List (List ℕ)) (e : WordsError) → refusal_of words ≡ Some e → reading words ≡ Err e
refused words e h = refused_from 0 words nothing_said e h
