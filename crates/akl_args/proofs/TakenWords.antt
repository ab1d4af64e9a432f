-- What a word is that the table takes.
use Rattle.std.proofs.Common.{arith, ◌≡◌, ◌∙◌, ap, ap₂, sym, refl, cond, not, true≢false, eqb-true, ℕ, suc, ◌+◌, ◌==◌, Bool, true, false, List, [], ◌∷◌, ◌++◌, take, drop, length, Option, Some, None, Result, Ok, Err, ok_or, nat_lt, if◌then◌else◌}
use Rattle.std.proofs.lemmas.Bool.Decides.{nat_tests}
use Rattle.std.specs.List.{position_or_len, before_first, after_first}
use Rattle.std.specs.Str.Parse.{starts_with_minus}
use Rattle.akl_args.proofs.NameLaws.{name_of, flag_name, named, flag_has_name}
use Rattle.akl_args.specs.Flags.{has_flag, flags_with, flag_named}
use Rattle.akl_args.specs.Settings.{setting_named}
use Rattle.akl_args.specs.Table.{Said, is_given, with_value, is_equals, after_set, after_value, once, new_setting, after_joined, after_flag, after_name, after_alone, after_option, after_expected, after_word, and_then}
use Rattle.akl_args.specs.declared.flag.Flag.{Flag}
use Rattle.akl_args.specs.declared.options.WordsError.{WordsError}
use Rattle.akl_args.specs.declared.options.WordsError.TheVariants.{Missing, Value, Repeated}
use Rattle.akl_args.specs.declared.seen.Pending.{Pending}
use Rattle.akl_args.specs.declared.setting.Setting.{Setting}

-- word `at` is taken behind what is said: an option alone or with its value, one without a value, or a value
pub data Taken (at : ℕ) (word : List ℕ) (r s : Said) : Type 0 where
  alone : (setting : Setting) → r.pending ≡ None → is_given setting r ≡ false → word ≡ name_of setting
      → s ≡ record r { pending = Some (record { setting = setting; at = at }) } → Taken at word r s
  joined : (setting : Setting) (value : List ℕ) → r.pending ≡ None → is_given setting r ≡ false → word ≡ name_of setting ++ 61 ∷ value
      → with_value setting value r ≡ Some s → Taken at word r s
  flagged : (flag : Flag) → r.pending ≡ None → has_flag flag r.flags ≡ false → word ≡ flag_name flag
      → s ≡ record r { flags = flags_with flag r.flags } → Taken at word r s
  valued : (p : Pending) → r.pending ≡ Some p → starts_with_minus word ≡ false
      → with_value p.setting word (record r { pending = None }) ≡ Some s → Taken at word r s

shifted : (p b : ℕ) (bs : List ℕ) → b ∷ (take p bs ++ 61 ∷ drop (p + 1) bs) ≡ take (1 + p) (b ∷ bs) ++ 61 ∷ drop (1 + p + 1) (b ∷ bs)
shifted p b bs =
    let low : p + 1 ≡ suc p = omega arith in
    let one : suc p ≡ 1 + p = omega arith in
    let two : suc (suc p) ≡ 1 + p + 1 = omega arith in
    ap (λ (n : ℕ). b ∷ (take p bs ++ 61 ∷ drop n bs)) low ∙ ap₂ (λ (m n : ℕ). take m (b ∷ bs) ++ 61 ∷ drop n (b ∷ bs)) one two

cut_at : (b : ℕ) (bs : List ℕ) (t : Bool) → (b == 61) ≡ t → nat_lt (cond (not t) (1 + position_or_len is_equals bs) 0) (suc (length bs)) ≡ true
    → (nat_lt (position_or_len is_equals bs) (length bs) ≡ true → bs ≡ before_first is_equals bs ++ 61 ∷ after_first is_equals bs)
    → b ∷ bs ≡ take (cond (not t) (1 + position_or_len is_equals bs) 0) (b ∷ bs) ++ 61 ∷ drop (cond (not t) (1 + position_or_len is_equals bs) 0 + 1) (b ∷ bs)
cut_at b bs true is h rest = ap (λ (c : ℕ). c ∷ bs) (eqb-true b 61 is)
cut_at b bs false is h rest =
    let inner : nat_lt (position_or_len is_equals bs) (length bs) ≡ true = grind (arith, nat_tests) in
    ap (λ (cs : List ℕ). b ∷ cs) (rest inner) ∙ shifted (position_or_len is_equals bs) b bs

cut : (word : List ℕ) → nat_lt (position_or_len is_equals word) (length word) ≡ true → word ≡ before_first is_equals word ++ 61 ∷ after_first is_equals word
cut [] h = absurd (true≢false (sym h))
cut (b ∷ bs) h = cut_at b bs (b == 61) refl h (cut bs)

set_taken : (setting : Setting) (at : ℕ) (text : List ℕ) (r s : Said) → after_set setting at text r ≡ Ok s → with_value setting text r ≡ Some s
set_taken setting at text r s h = go (with_value setting text r) h
  where
    go : (o : Option Said) → ok_or o (Value at) ≡ Ok s → o ≡ Some s
    go (Some t) k = cc
    go None k = cc

-- an option's name that is taken, with what comes of it
record NamesNew (at : ℕ) (name : List ℕ) (r s : Said) (go : Setting → Result Said WordsError) : Type 0 where
  setting : Setting
  fresh : is_given setting r ≡ false
  name_is : name ≡ name_of setting
  goes : go setting ≡ Ok s

new_named : (at : ℕ) (name : List ℕ) (r s : Said) (go : Setting → Result Said WordsError) → and_then (new_setting at name r) go ≡ Ok s → NamesNew at name r s go
new_named at name r s go h = pick (setting_named name) refl h
  where
    fresh : (setting : Setting) (b : Bool) → setting_named name ≡ Some setting → is_given setting r ≡ b → and_then (if b then Err (Repeated at) else Ok setting) go ≡ Ok s → NamesNew at name r s go
    fresh setting true is given k = cc
    fresh setting false is given k = record { setting = setting; fresh = given; name_is = named name setting is; goes = k }

    pick : (o : Option Setting) → setting_named name ≡ o → and_then (once o at r) go ≡ Ok s → NamesNew at name r s go
    pick None is k = cc
    pick (Some setting) is k = fresh setting (is_given setting r) is refl k

joined_taken : (at : ℕ) (word : List ℕ) (r s : Said) → r.pending ≡ None → nat_lt (position_or_len is_equals word) (length word) ≡ true
    → after_joined at (before_first is_equals word) (after_first is_equals word) r ≡ Ok s → Taken at word r s
joined_taken at word r s rests has h =
    let new = new_named at (before_first is_equals word) r s (λ setting. after_set setting at (after_first is_equals word) r) h in
    joined new.setting (after_first is_equals word) rests new.fresh
    (cut word has ∙ ap (λ (name : List ℕ). name ++ 61 ∷ after_first is_equals word) new.name_is)
    (set_taken new.setting at (after_first is_equals word) r s new.goes)

flag_taken : (flag : Flag) (at : ℕ) (word : List ℕ) (r s : Said) → r.pending ≡ None → flag_named word ≡ Some flag → after_flag at flag r ≡ Ok s → Taken at word r s
flag_taken flag at word r s rests is h = go (has_flag flag r.flags) refl h
  where
    go : (b : Bool) → has_flag flag r.flags ≡ b → (if b then Err (Repeated at) else Ok (record r { flags = flags_with flag r.flags })) ≡ Ok s → Taken at word r s
    go true given k = cc
    go false given k = flagged flag rests given (flag_has_name word flag is) cc

alone_taken : (at : ℕ) (word : List ℕ) (r s : Said) → r.pending ≡ None → after_alone at word r ≡ Ok s → Taken at word r s
alone_taken at word r s rests h = go (flag_named word) refl h
  where
    go : (o : Option Flag) → flag_named word ≡ o → after_name o at word r ≡ Ok s → Taken at word r s
    go (Some flag) is k = flag_taken flag at word r s rests is k
    go None is k =
        let new = new_named at word r s (λ setting. Ok (record r { pending = Some (record { setting = setting; at = at }) })) k in
        let same : Ok (record r { pending = Some (record { setting = new.setting; at = at }) }) ≡ Ok s = new.goes in
        alone new.setting rests new.fresh new.name_is cc

option_taken : (at : ℕ) (word : List ℕ) (r s : Said) → r.pending ≡ None → after_option at word r ≡ Ok s → Taken at word r s
option_taken at word r s rests h = go (nat_lt (position_or_len is_equals word) (length word)) refl h
  where
    go : (b : Bool) → nat_lt (position_or_len is_equals word) (length word) ≡ b
        → (if b then after_joined at (before_first is_equals word) (after_first is_equals word) r else after_alone at word r) ≡ Ok s → Taken at word r s
    go true has k = joined_taken at word r s rests has k
    go false has k = alone_taken at word r s rests k

value_taken : (p : Pending) (at : ℕ) (word : List ℕ) (r s : Said) → r.pending ≡ Some p → after_value p at word r ≡ Ok s → Taken at word r s
value_taken p at word r s waits h = go (starts_with_minus word) refl h
  where
    go : (b : Bool) → starts_with_minus word ≡ b → (if b then Err (Missing p.at) else after_set p.setting at word (record r { pending = None })) ≡ Ok s → Taken at word r s
    go true minus k = cc
    go false minus k = valued p waits minus (set_taken p.setting at word (record r { pending = None }) s k)

-- what the table takes is one of these
pub word_taken : (at : ℕ) (word : List ℕ) (r s : Said) → after_word at word r ≡ Ok s → Taken at word r s
word_taken at word r s h = go r.pending refl h
  where
    go : (o : Option Pending) → r.pending ≡ o → after_expected o at word r ≡ Ok s → Taken at word r s
    go None rests k = option_taken at word r s rests k
    go (Some p) waits k = value_taken p at word r s waits k
