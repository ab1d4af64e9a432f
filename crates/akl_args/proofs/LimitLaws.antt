-- What words ask for is within the limits.
use Rattle.std.proofs.Common.{arith, ◌≡◌, ℕ, suc, ◌<◌, ◌≤◌, ◌&&◌, Bool, true, false, List, [], ◌∷◌, length, refl, nat_le, nat_lt, Option, Some, None, IfSome, IfOk, Result, Ok, Err, ok_or, option_map, option_and_then, if◌then◌else◌, unwrap_or}
use Rattle.std.proofs.lemmas.Bool.Decides.{nat_tests}
use Rattle.std.specs.List.{position_or_len, before_first, after_first}
use Rattle.std.specs.Str.Parse.{starts_with_minus}
use Rattle.akl_args.specs.declared.flag.Flag.{Flag}
use Rattle.akl_args.specs.declared.options.Job.TheVariants as jobs
use Rattle.akl_args.specs.declared.options.Options.{Options}
use Rattle.akl_args.specs.declared.options.WordsError.{WordsError}
use Rattle.akl_args.specs.declared.options.WordsError.TheVariants.{Missing, Value, Repeated}
use Rattle.akl_args.specs.declared.seen.Pending.{Pending}
use Rattle.akl_args.specs.declared.setting.Setting.{Setting}
use Rattle.akl_args.specs.declared.setting.Setting.TheVariants.{Query, Generate, Workers, Budget}
use Rattle.akl_args.specs.Flags.{has_flag, flags_with, flag_named}
use Rattle.akl_args.specs.Limits.{IsWithinLimits, IsJobWithinLimits}
use Rattle.akl_args.specs.Numbers.{value_of, within, number_in}
use Rattle.akl_args.specs.Table.{Said, nothing_said, new_setting, is_equals, after_set, after_joined, after_flag, after_name, after_alone, after_expected, after_word, completed_behind, job_of, options_of, and_then, reading_from, reading}

-- what was said so far is within the limits
record SaysWithin (r : Said) : Type 0 where
  query : IfSome r.query (λ text. 0 < length text)
  generate : IfSome r.generate (λ n. n ≤ 4294967295)
  workers : IfSome r.workers (λ n. (1 ≤ n) × (n ≤ 16))
  budget : IfSome r.budget (λ n. (1 ≤ n) × (n ≤ 4000000))

picked : {A E : Type 0} (P : A → Type 0) (o : Option A) (e : E) → IfSome o P → IfOk (ok_or o e) P
picked P None e h = tt
picked P (Some x) e h = h

mapped : {A B : Type 0} (P : A → Type 0) (Q : B → Type 0) (f : A → B) (o : Option A) → IfSome o P → ((x : A) → P x → Q (f x)) → IfSome (option_map f o) Q
mapped P Q f None h go = tt
mapped P Q f (Some x) h go = go x h

chosen : {A E : Type 0} (P : A → Type 0) (b : Bool) (x y : Result A E) → IfOk x P → IfOk y P → IfOk (if b then x else y) P
chosen P true x y h k = h
chosen P false x y h k = k

if_so : (P : ℕ → Type 0) (b : Bool) (n : ℕ) → (b ≡ true → P n) → IfSome (if b then Some n else None) P
if_so P true n h = h refl
if_so P false n h = tt

between : (low high n : ℕ) → (nat_le low n && nat_le n high) ≡ true → (low ≤ n) × (n ≤ high)
between low high n h = (grind (arith, nat_tests), grind (arith, nat_tests))

number_between : (low high : ℕ) (o : Option ℕ) → IfSome (option_and_then (within low high) o) (λ n. (low ≤ n) × (n ≤ high))
number_between low high None = tt
number_between low high (Some n) = if_so (λ m. (low ≤ m) × (m ≤ high)) _ n (between low high n)

set_within : (setting : Setting) (at : ℕ) (text : List ℕ) (r : Said) → SaysWithin r → IfOk (after_set setting at text r) SaysWithin
set_within Query at [] r h = tt
set_within Query at (b ∷ bs) r h = record { query = omega arith; generate = h.generate; workers = h.workers; budget = h.budget }
set_within Generate at text r h =
    picked SaysWithin _ (Value at) (mapped _ SaysWithin _ (number_in 0 4294967295 text) (number_between 0 4294967295 (value_of text))
    (λ n k. record { query = h.query; generate = k.1; workers = h.workers; budget = h.budget }))
set_within Workers at text r h =
    picked SaysWithin _ (Value at) (mapped _ SaysWithin _ (number_in 1 16 text) (number_between 1 16 (value_of text))
    (λ n k. record { query = h.query; generate = h.generate; workers = k; budget = h.budget }))
set_within Budget at text r h =
    picked SaysWithin _ (Value at) (mapped _ SaysWithin _ (number_in 1 4000000 text) (number_between 1 4000000 (value_of text))
    (λ n k. record { query = h.query; generate = h.generate; workers = h.workers; budget = k }))

always : {A : Type 0} (x : Result A WordsError) (go : A → Result Said WordsError) → ((a : A) → IfOk (go a) SaysWithin) → IfOk (and_then x go) SaysWithin
always (Ok a) go h = h a
always (Err e) go h = tt

-- fields that no limit speaks of may change
same_limits : (r s : Said) → r.query ≡ s.query → r.generate ≡ s.generate → r.workers ≡ s.workers → r.budget ≡ s.budget → SaysWithin r → SaysWithin s
same_limits r s q g w b h = record { query = rw (← q) h.query; generate = rw (← g) h.generate; workers = rw (← w) h.workers; budget = rw (← b) h.budget }

flag_within : (at : ℕ) (flag : Flag) (r : Said) → SaysWithin r → IfOk (after_flag at flag r) SaysWithin
flag_within at flag r h =
    chosen SaysWithin (has_flag flag r.flags) (Err (Repeated at)) (Ok (record r { flags = flags_with flag r.flags })) tt (same_limits r _ refl refl refl refl h)

joined_within : (at : ℕ) (name value : List ℕ) (r : Said) → SaysWithin r → IfOk (after_joined at name value r) SaysWithin
joined_within at name value r h = always (new_setting at name r) (λ setting. after_set setting at value r) (λ setting. set_within setting at value r h)

name_within : (o : Option Flag) (at : ℕ) (name : List ℕ) (r : Said) → SaysWithin r → IfOk (after_name o at name r) SaysWithin
name_within (Some flag) at name r h = flag_within at flag r h
name_within None at name r h = always (new_setting at name r) _ (λ setting. same_limits r _ refl refl refl refl h)

word_within : (o : Option Pending) (at : ℕ) (word : List ℕ) (r : Said) → SaysWithin r → IfOk (after_expected o at word r) SaysWithin
word_within None at word r h =
    chosen SaysWithin (nat_lt (position_or_len is_equals word) (length word)) (after_joined at (before_first is_equals word) (after_first is_equals word) r) (after_alone at word r)
    (joined_within at (before_first is_equals word) (after_first is_equals word) r h) (name_within (flag_named word) at word r h)
word_within (Some p) at word r h =
    chosen SaysWithin (starts_with_minus word) (Err (Missing p.at)) _ tt
    (set_within p.setting at word (record r { pending = None }) (same_limits r _ refl refl refl refl h))

job_within : (query : Option (List ℕ)) (generate : Option ℕ) → IfSome query (λ text. 0 < length text) → IfSome generate (λ n. n ≤ 4294967295)
    → IfSome (job_of query generate) IsJobWithinLimits
job_within (Some text) generate h k = h
job_within None generate h k = mapped _ IsJobWithinLimits jobs.Generate generate k (λ n m. m)

default_within : (o : Option ℕ) (default most : ℕ) → 1 ≤ default → default ≤ most → IfSome o (λ n. (1 ≤ n) × (n ≤ most)) → (1 ≤ unwrap_or o default) × (unwrap_or o default ≤ most)
default_within None default most low high h = (low, high)
default_within (Some n) default most low high h = h

completed_within : (o : Option Pending) (count : ℕ) (r : Said) → SaysWithin r → IfOk (completed_behind o count r) IsWithinLimits
completed_within (Some p) count r h = tt
completed_within None count r h =
    let workers = default_within r.workers 1 16 (omega arith) (omega arith) h.workers in
    let budget = default_within r.budget 100000 4000000 (omega arith) (omega arith) h.budget in
    picked IsWithinLimits _ (Missing count) (mapped IsJobWithinLimits IsWithinLimits (options_of r) (job_of r.query r.generate) (job_within r.query r.generate h.query h.generate)
    (λ job k. record { job = k; some_worker = workers.0; workers = workers.1; some_budget = budget.0; budget = budget.1 }))

after_within : (x : Result Said WordsError) (go : Said → Result Options WordsError) → IfOk x SaysWithin
    → ((s : Said) → SaysWithin s → IfOk (go s) IsWithinLimits) → IfOk (and_then x go) IsWithinLimits
after_within (Ok s) go h k = k s h
after_within (Err e) go h k = tt

rest_within : (at : ℕ) (words : List (List ℕ)) (r : Said) → SaysWithin r → IfOk (reading_from at words r) IsWithinLimits
rest_within at [] r h = completed_within r.pending at r h
rest_within at (word ∷ words) r h =
    after_within (after_word at word r) _ (word_within r.pending at word r h) (λ s k. rest_within (suc at) words s k)

-- what words ask for is within the limits
pub reading_within : (words : List (List ℕ)) → IfOk (reading words) IsWithinLimits
reading_within words = rest_within 0 words nothing_said (record { query = tt; generate = tt; workers = tt; budget = tt })
