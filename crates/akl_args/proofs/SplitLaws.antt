-- `clap` splits the words that the test accepts as the table reads them.
use Rattle.std.proofs.Common.{arith, ◌≡◌, ◌∙◌, ap, ap₂, refl, sym, subst, Bool, true, false, ◌&&◌, ◌+◌, ℕ, suc, List, [], ◌∷◌, length, fold, Option, Some, None, option_map, option_and_then, unwrap_or, Result, Ok, Err, ok_or, bytes_eq, codes}
use Rattle.std.specs.Option.{option_map_or}
use Rattle.clap.specs.Simple.{built, is_simple, matches_of}
use Rattle.clap.specs.Takes.{takes, built_takes, level_passes, turn_passes, walk_passes, settle_passes}
use Rattle.clap.specs.Values.{bool_text}
use Rattle.clap.specs.Walk.{Held, Row, Text, Walk, finished, nothing_held, one_of, settled, walk, walk_from, walked}
use Rattle.clap.proofs.OnLiterals.{clap_on_literals}
use Rattle.clap.proofs.TakesLemmas.{leaf_takes}
use Rattle.akl_args.proofs.DefaultLaws.{finished_is, no_default, flag_found}
use Rattle.akl_args.proofs.HeldLaws.{Holds, written, counted, value_as, text_of, flag_row, nothing_holds, holds_expecting, holds_more, holds_flagged, no_row, no_flag_row, pending_kept}
use Rattle.akl_args.proofs.NameLaws.{flag_is_not}
use Rattle.akl_args.proofs.RowLaws.{row_in}
use Rattle.akl_args.proofs.SeenLaws.{seen_of, seen_in, word_same}
use Rattle.akl_args.proofs.StepLaws.{shape, rules, expecting, with_row, with_value_of, alone_passes, alone_walked, joined_passes, joined_walked, flag_passes, flag_walked, value_passes, value_walked, value_settles, value_settled}
use Rattle.akl_args.proofs.TakenWords.{Taken, alone, joined, flagged, valued, word_taken}
use Rattle.akl_args.specs.Asked.{text_in, number_of, flag_in, flags_in, SaysFlags, asked_in}
use Rattle.akl_args.specs.Command.{table}
use Rattle.akl_args.specs.Flags.{has_flag, flag_id}
use Rattle.akl_args.specs.Seen.{or_refusal, refusal_from, refusal_of}
use Rattle.akl_args.specs.Settings.{id_of, number_as}
use Rattle.akl_args.specs.Table.{Said, nothing_said, is_given, with_value, after_word, completed_behind, job_of, reading_from, reading}
use Rattle.akl_args.specs.declared.flag.Flag.{Flag}
use Rattle.akl_args.specs.declared.flag.Flag.TheVariants.{Trace, Why, Model}
use Rattle.akl_args.specs.declared.flag.Flags.{Flags}
use Rattle.akl_args.specs.declared.options.Options.{Options}
use Rattle.akl_args.specs.declared.options.WordsError.{WordsError}
use Rattle.akl_args.specs.declared.options.WordsError.TheVariants.{Missing}
use Rattle.akl_args.specs.declared.seen.Pending.{Pending}
use Rattle.akl_args.specs.declared.seen.Seen.{Seen}
use Rattle.akl_args.specs.declared.setting.Setting.{Setting}
use Rattle.akl_args.specs.declared.setting.Setting.TheVariants.{Query, Generate, Workers, Budget}

-- between two words `clap` holds what was said, with nothing or a last value to be settled, or it waits for a value
data Agrees (r : Said) (w : Walk) : Type 0 where
  rests : (h : Held) → r.pending ≡ None → w ≡ walk_from h → settle_passes rules false h ≡ true → Holds r (settled rules h).rows → Agrees r w
  waits : (p : Pending) (h : Held) → r.pending ≡ Some p → w ≡ expecting p.setting h → is_given p.setting r ≡ false → Holds r h.rows → Agrees r w

-- the next word is taken, and leads to agreement again
record Steps (word : Text) (s : Said) (w : Walk) : Type 0 where
  passes : turn_passes shape [] w word ≡ true
  agrees : Agrees s (walked rules [] w word)

started : (at : ℕ) (setting : Setting) (r : Said) → Said
started at setting r = record r { pending = Some (record { setting = setting; at = at }) }

same_given : (setting : Setting) (r : Said) (o : Option Pending) → is_given setting (record r { pending = o }) ≡ is_given setting r
same_given Query r o = refl
same_given Generate r o = refl
same_given Workers r o = refl
same_given Budget r o = refl

rest_steps : (at : ℕ) (word : Text) (r s : Said) (h : Held) → Taken at word r s → r.pending ≡ None → settle_passes rules false h ≡ true → Holds r (settled rules h).rows → Steps word s (walk_from h)
rest_steps at word r s h (alone setting none fresh is next) rest settles holds =
    let next_holds = holds_expecting r (Some (record { setting = setting; at = at })) (settled rules h).rows holds in
    let free = same_given setting r (Some (record { setting = setting; at = at })) ∙ fresh in
    rw (is, next) (record {
      passes = alone_passes setting h settles;
      agrees = waits (record { setting = setting; at = at }) (settled rules h) refl (alone_walked setting h) free next_holds;
    })
rest_steps at word r s h (joined setting value none fresh is next) rest settles holds =
    let free = no_row setting r (settled rules h).rows holds fresh in
    let more = holds_more setting value r s (settled rules h).rows holds fresh next in
    let done = pending_kept setting value r s next ∙ none in
    rw is (record {
      passes = joined_passes setting value h settles free;
      agrees = rests (with_row _ h) done (joined_walked setting value h free) refl more;
    })
rest_steps at word r s h (flagged flag none fresh is next) rest settles holds =
    let free = no_flag_row flag r (settled rules h).rows holds fresh in
    rw (is, next) (record {
      passes = flag_passes flag h settles free;
      agrees = rests (with_row (flag_row flag) h) none (flag_walked flag h free) refl (holds_flagged flag r (settled rules h).rows holds fresh);
    })
rest_steps at word r s h (valued p some minus next) rest settles holds = cc

wait_steps : (at : ℕ) (word : Text) (r s : Said) (p : Pending) (h : Held) → Taken at word r s → r.pending ≡ Some p → is_given p.setting r ≡ false → Holds r h.rows → Steps word s (expecting p.setting h)
wait_steps at word r s p h (alone setting none fresh is next) some given holds = cc
wait_steps at word r s p h (joined setting value none fresh is next) some given holds = cc
wait_steps at word r s p h (flagged flag none fresh is next) some given holds = cc
wait_steps at word r s p h (valued q also minus next) some given holds =
    let same : q ≡ p = cc in
    let is : with_value p.setting word (record r { pending = None }) ≡ Some s = subst (λ (x : Pending). with_value x.setting word (record r { pending = None }) ≡ Some s) same next in
    let free = no_row p.setting r h.rows holds given in
    let more = holds_more p.setting word (record r { pending = None }) s h.rows (holds_expecting r None h.rows holds) (same_given p.setting r None ∙ given) is in
    record {
      passes = value_passes p.setting word h minus;
      agrees = rests (with_value_of p.setting word h) (pending_kept p.setting word (record r { pending = None }) s is) (value_walked p.setting word h minus)
          (value_settles p.setting word h free) (subst (Holds s) (sym (value_settled p.setting word h free)) more);
    }

step : (at : ℕ) (word : Text) (r s : Said) (w : Walk) → Agrees r w → after_word at word r ≡ Ok s → Steps word s w
step at word r s w (rests h none is settles holds) next =
    subst (Steps word s) (sym is) (rest_steps at word r s h (word_taken at word r s next) none settles holds)
step at word r s w (waits p h some is given holds) next =
    subst (Steps word s) (sym is) (wait_steps at word r s p h (word_taken at word r s next) some given holds)

-- the rest of the words is taken, and is read as what is held in the end says
record Splits (at : ℕ) (words : List Text) (r : Said) (w : Walk) : Type 0 where
  said : Said
  held : Held
  reads : reading_from at words r ≡ completed_behind None (at + length words) said
  passes : walk_passes shape [] w words ≡ true
  ends : fold (walked rules []) w words ≡ walk_from held
  settles : settle_passes rules false held ≡ true
  holds : Holds said (settled rules held).rows

end_splits : (at : ℕ) (r : Said) (w : Walk) → Agrees r w → refusal_from at [] (seen_of r) ≡ None → Splits at [] r w
unfolding walk_passes
end_splits at r w (rests h none is settles holds) accepted = record {
  said = r;
  held = h;
  reads = ap (λ (o : Option Pending). completed_behind o at r) none ∙ ap (λ (n : ℕ). completed_behind None n r) (omega arith);
  passes = refl;
  ends = is;
  settles = settles;
  holds = holds;
}
end_splits at r w (waits p h some is given holds) accepted =
    let missing : option_map (λ (q : Pending). Missing q.at) (Some p) ≡ None = rw some at accepted in
    cc

one_more : (at : ℕ) (word : Text) (words : List Text) (r s : Said) (w : Walk) → after_word at word r ≡ Ok s → Steps word s w
    → Splits (suc at) words s (walked rules [] w word) → Splits at (word ∷ words) r w
unfolding walk_passes
one_more at word words r s w taken steps rest = record {
  said = rest.said;
  held = rest.held;
  reads = rw taken (rest.reads ∙ ap (λ (n : ℕ). completed_behind None n rest.said) (omega arith));
  passes = ap₂ (λ (a b : Bool). a && b) steps.passes rest.passes;
  ends = rest.ends;
  settles = rest.settles;
  holds = rest.holds;
}

splits : (at : ℕ) (words : List Text) (r : Said) (w : Walk) → Agrees r w → refusal_from at words (seen_of r) ≡ None → Splits at words r w
splits at [] r w agrees accepted = end_splits at r w agrees accepted
splits at (word ∷ words) r w agrees accepted =
    go (after_word at word r) refl (ap (λ (x : Result Seen WordsError). or_refusal x (λ t. refusal_from (suc at) words t)) (sym (word_same at word r)) ∙ accepted)
    (λ s v agrees accepted. splits (suc at) words s v agrees accepted)
  where
    go : (x : Result Said WordsError) → after_word at word r ≡ x → or_refusal (seen_in x) (λ t. refusal_from (suc at) words t) ≡ None
        → ((s : Said) (v : Walk) → Agrees s v → refusal_from (suc at) words (seen_of s) ≡ None → Splits (suc at) words s v) → Splits at (word ∷ words) r w
    go (Err e) taken k rec = cc
    go (Ok s) taken k rec =
        let steps = step at word r s w agrees taken in
        one_more at word words r s w taken steps (rec s (walked rules [] w word) steps.agrees k)

whole : (words : List Text) → refusal_of words ≡ None → Splits 0 words nothing_said (walk_from nothing_held)
whole words accepted =
    splits 0 words nothing_said (walk_from nothing_held) (rests nothing_held refl refl refl nothing_holds) accepted

-- ---- the matches

flag_read : (b : Bool) (o : Option Text) → o ≡ Some (bool_text b) → option_map_or (λ (text : Text). bytes_eq text (codes "true")) o false ≡ b
flag_read true o h = rw h refl
flag_read false o h = rw h refl

-- each option without a value was given where its row says so
flags_same : (rows : List Row) (flags : Flags) → ((flag : Flag) → one_of (flag_id flag) rows ≡ Some (bool_text (has_flag flag flags))) → flags_in rows ≡ flags
flags_same rows flags says =
    let read : (flag : Flag) → flag_in flag rows ≡ has_flag flag flags = λ flag. flag_read (has_flag flag flags) _ (says flag) in
    λ i. record { trace = read Trace i; why = read Why i; model = read Model i }

text_same : (o p : Option Text) → option_and_then (value_as Query) o ≡ option_map written p → o ≡ p
text_same None None h = refl
text_same None (Some t) h = cc
text_same (Some t) None h = cc
text_same (Some t) (Some u) h = cc

number_same : (o p : Option ℕ) → option_map counted o ≡ option_map counted p → o ≡ p
number_same None None h = refl
number_same None (Some n) h = cc
number_same (Some n) None h = cc
number_same (Some n) (Some m) h = cc

through : {A B C : Type 0} (f : B → C) (g : A → Option B) (o : Option A) → option_and_then (λ x. option_map f (g x)) o ≡ option_map f (option_and_then g o)
through f g None = refl
through f g (Some x) = refl

number_found : (number : List ℕ → Option ℕ) (text : Option Text) (p : Option ℕ) → option_and_then (λ t. option_map counted (number t)) text ≡ option_map counted p
    → option_and_then number text ≡ p
number_found number text p h = number_same _ p (sym (through counted number text) ∙ h)

abbrev asked_by : Option Text → Option ℕ → Option ℕ → Option ℕ → Flags → ℕ → Result Options WordsError
asked_by query generate workers budget flags count = ok_or (option_map (λ job. record {
  job = job;
  workers = unwrap_or workers 1;
  budget = unwrap_or budget 100000;
  flags = flags;
}) (job_of query generate)) (Missing count)

asked_same : (rows : List Row) (said : Said) (count : ℕ) → text_in Query rows ≡ said.query → number_of Generate rows ≡ said.generate
    → number_of Workers rows ≡ said.workers → number_of Budget rows ≡ said.budget → flags_in rows ≡ said.flags
    → asked_in rows count ≡ completed_behind None count said
asked_same rows said count query generate workers budget flags = λ i. asked_by (query i) (generate i) (workers i) (budget i) (flags i) count

-- the rows in the end say what was said
ended : (said : Said) (h : Held) (count : ℕ) → Holds said (settled rules h).rows
    → ((flag : Flag) → one_of (flag_id flag) (finished rules h) ≡ Some (bool_text (has_flag flag said.flags))) × (asked_in (finished rules h) count ≡ completed_behind None count said)
ended said h count holds =
    let rows = (settled rules h).rows in
    let same = finished_is h in
    let flags : (flag : Flag) → one_of (flag_id flag) (finished rules h) ≡ Some (bool_text (has_flag flag said.flags)) =
    λ flag. ap (one_of (flag_id flag)) same ∙ flag_found flag (has_flag flag said.flags) rows (holds.flags flag) in
    let found : (x : Setting) → text_in x (finished rules h) ≡ text_of (row_in (id_of x) rows) =
    λ x. ap (λ (y : List Row). text_of (row_in (id_of x) y)) same ∙ ap text_of (no_default (id_of x) rows (λ flag. flag_is_not flag x)) in (
      flags,
      asked_same (finished rules h) said count
          (found Query ∙ text_same _ said.query (holds.fits Query).reads)
          (ap (option_and_then (number_as Generate)) (found Generate) ∙ number_found (number_as Generate) (text_of (row_in (id_of Generate) rows)) said.generate (holds.fits Generate).reads)
          (ap (option_and_then (number_as Workers)) (found Workers) ∙ number_found (number_as Workers) (text_of (row_in (id_of Workers) rows)) said.workers (holds.fits Workers).reads)
          (ap (option_and_then (number_as Budget)) (found Budget) ∙ number_found (number_as Budget) (text_of (row_in (id_of Budget) rows)) said.budget (holds.fits Budget).reads)
          (flags_same (finished rules h) said.flags flags),
    )

-- ---- the words

-- `clap` takes the words, and its matches hold what the table reads
pub record IsSplit (words : List Text) : Type 0 where
  pub takes : takes table words ≡ true
  pub flags : SaysFlags (matches_of table words)
  pub asked : asked_in (matches_of table words) (length words) ≡ reading words

pub simple : is_simple table ≡ true
unfolding clap_on_literals
simple = refl

level : (words : List Text) (h : Held) → walk_passes shape [] (walk_from nothing_held) words ≡ true → walk rules [] nothing_held words ≡ walk_from h → settle_passes rules false h ≡ true
    → level_passes shape [] nothing_held words false ≡ true
level words h passes ends settles =
    let settles_so : settle_passes rules false (walk rules [] nothing_held words).held ≡ true = ap (λ (w : Walk). settle_passes rules false w.held) ends ∙ settles in
    ap₂ (λ (a b : Bool). a && (b && true)) passes settles_so

taken : (words : List Text) → built_takes (built table) nothing_held words ≡ true → takes table words ≡ true
taken words h = ap₂ (λ (a b : Bool). a && b) simple h

-- words that the test accepts
pub split : (words : List Text) → refusal_of words ≡ None → IsSplit words
split words accepted =
    let all = whole words accepted in
    let rows_are : matches_of table words ≡ finished rules all.held = ap (λ (w : Walk). finished rules w.held) all.ends in
    let last = ended all.said all.held (length words) all.holds in
    let says : (flag : Flag) → one_of (flag_id flag) (matches_of table words) ≡ Some (bool_text (has_flag flag all.said.flags)) =
    λ flag. ap (one_of (flag_id flag)) rows_are ∙ last.0 flag in
    record {
      takes = taken words (leaf_takes (built table) nothing_held words refl (level words all.held all.passes all.ends all.settles));
      flags = λ flag. says flag ∙ ap (λ (b : Bool). Some (bool_text b)) (sym (flag_read (has_flag flag all.said.flags) _ (says flag)));
      asked = ap (λ (rows : List Row). asked_in rows (length words)) rows_are ∙ last.1 ∙ ap (λ (n : ℕ). completed_behind None n all.said) (omega arith) ∙ sym all.reads;
    }
