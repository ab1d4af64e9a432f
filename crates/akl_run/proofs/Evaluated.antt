-- From a loaded query to what is written of its run.
use Rattle.std.proofs.Common.{◌≡◌, ℕ, zero, suc, ◌+◌, ◌-◌, ◌≤◌, ◌<◌, List, [], ◌++◌, length, map, take, drop, Bool, true, false, cond, refl, sym, ◌∙◌, ap, subst, append_assoc, append-nil, arith}
use Rattle.std.specs.Prelude.{◌==◌, nat_lt, Result, Ok, Err, IfOk, IfErr}
use Rattle.std.proofs.lemmas.Bool.Decides.{nat_tests}
use Rattle.std.proofs.lemmas.List.{length-map, take-append-drop}
use Rattle.std.proofs.Math.Seq.{take-length}
use Rattle.akl_terms.specs.declared.name.Name.{Name}
use Rattle.akl_terms.specs.declared.program.Query.{Query}
use Rattle.akl_model.specs.declared.label.Label.{Label}
use Rattle.akl_model.specs.Config.{Content, Boxes, no_boxes, box, Found}
use Rattle.akl_model.specs.Changes.{box_names}
use Rattle.akl_model.specs.Rules.{count_of}
use Rattle.akl_model.specs.Derivations.{IsQuietEnd, AreAnswers, Outcome, done, failed, suspended, out_of_budget, HasOutcome, is_out_of_budget, is_suspended, is_failed, is_done}
use Rattle.akl_model.specs.Derivations as derivations
use Rattle.clause_store.specs.Loaded.{IsQueryOf}
use Rattle.akl_lift.specs.Lifting.{query_without, made_of_query}
use Rattle.box_tree.specs.Tables.{all_rules, HasShownVariables, AreBelow}
use Rattle.step_commit.specs.Cores.{CoreValue, IsCore, TableIn}
use Rattle.seq_engine.specs.declared.run.End.{End}
use Rattle.seq_engine.specs.Runs.{EndsAs, IsQuiet}
use Rattle.par_workers.specs.Crews.{lists}
use Rattle.akl_args.specs.declared.flag.Flags.{Flags}
use Rattle.akl_run.specs.declared.loaded.Loaded.{Loaded}
use Rattle.akl_run.specs.declared.evaluate.Evaluated.{Evaluated}
use Rattle.akl_run.specs.declared.ending.Ending.{Ending}
use Rattle.akl_run.specs.declared.output.Unwritten.{Unwritten}
use Rattle.akl_run.specs.declared.report.Status.{Status}
use Rattle.akl_run.specs.Loads.{first_asked, IsLoadedFrom}
use Rattle.akl_run.specs.Traces.{trace_text}
use Rattle.akl_run.specs.Text.{AreOthers, AreWaits, says_waits, IsWaitsText, unsaid, said, outcome_line, IsRunText, in_answers, in_waits, of_begun, of_whole}
use Rattle.akl_run.specs.Endings.{ending_by, status_by, outcome_by}
use Rattle.akl_run.specs.Runs.{Run, IsRun}
use Rattle.akl_run.specs.Evaluations.{HasEnded, IsEvaluated}
use Rattle.akl_run.specs.Outputs.{Outlet, HasAppended, IsCause, HasBrokenOff, PartsOf, ShortOf}
use Rattle.akl_run.specs.Written.{named, AreAllTexts, AreFirstTexts, HasWrittenAnswers, ArePartsOfAnswers, AreFirstWaits, HasWrittenWaits, wrote_nothing, wrote_waits, ArePartsOfWaits, run_in, HasRun, HasWritten, BreaksOff}
use Rattle.akl_run.specs.Steps.{EndsWriting, whole, fault, memory, status_by_writing}
use Rattle.akl_run.specs.Reports.{IsStatusOf, AreOfWorkers, IsRunOf}
use Rattle.akl_run.proofs.ShownTerms.{shown-below}
use Rattle.akl_run.proofs.Appended.{nothing_appended, appended_both, cause_later}
use Rattle.akl_run.proofs.RootBoxes.{others_roots}
use Rattle.akl_run.proofs.AllAnswers.{passed_none, passed_first}

pub loaded_shown : (program query : List ℕ) (l : Loaded) → IsLoadedFrom program query l → HasShownVariables l.query
loaded_shown program query l is =
    let stands : IsQueryOf is.base (made_of_query first_asked is.is_query.asked) (query_without first_asked is.is_query.asked) l.program l.query = is.is_query.stands in
    let names : List (List ℕ) = (query_without first_asked is.is_query.asked).names in
    let count : l.query.variables ≡ length names = stands.variables in
    subst (AreBelow l.query.variables) (sym stands.shown) (shown-below 0 names l.query.variables (omega (arith, count)))

pub status_of : (e : Ending) → IsStatusOf (status_by e) (outcome_by e)
status_of Ending.Done = refl
status_of Ending.Failed = refl
status_of (Ending.Suspended left) = (left, refl)
status_of Ending.Budget = refl

-- ---- the outcome of a run

count_names : (bs : Boxes) → length (box_names bs) ≡ count_of bs
count_names no_boxes = refl
count_names (box b gs bs) = let h : length (box_names bs) ≡ count_of bs = count_names bs in omega (arith, h)

few_answers : {bs : Boxes} {answers : List Content} → AreAnswers bs answers → length answers ≤ count_of bs
few_answers derivations.none = omega arith
few_answers (derivations.one_more a x) = let h = few_answers x in omega (arith, h)
few_answers (derivations.another n x) = let h = few_answers x in omega (arith, h)

module _ (c : CoreValue) (t : TableIn c) (answers : List Content) (a : AreAnswers t.config.roots answers) where
  quiet_outcome : (roots : ℕ) → count_of t.config.roots ≡ roots → length answers ≤ roots → IsQuietEnd all_rules c.table.program t.config → HasOutcome all_rules c.table.program c.budget (length c.journal) t.config answers (outcome_by (ending_by End.Quiet roots (length answers)))
  quiet_outcome roots e few q = on (nat_lt (length answers) roots) refl
    where
      left : (k : ℕ) → roots - length answers ≡ k → length answers < roots → HasOutcome all_rules c.table.program c.budget (length c.journal) t.config answers (suspended k)
      left zero i h = absurd (omega (arith, i, h))
      left (suc k) i h = is_suspended q a (let g : count_of t.config.roots ≡ length answers + suc k = omega (arith, e, i, h) in g)

      each : (n : ℕ) → roots ≡ n → length answers ≡ n → HasOutcome all_rules c.table.program c.budget (length c.journal) t.config answers (outcome_by (cond (n == 0) Ending.Failed Ending.Done))
      each zero i j = is_failed q a (e ∙ i)
      each (suc n) i j = subst (λ (b : Bool). HasOutcome all_rules c.table.program c.budget (length c.journal) t.config answers (outcome_by (cond b Ending.Failed Ending.Done))) (sym (not_zero n)) (is_done {k = n} q a (e ∙ i) j)
        where
          not_zero : (n : ℕ) → (suc n == 0) ≡ false
          not_zero n = grind (arith, nat_tests)

      on : (b : Bool) → nat_lt (length answers) roots ≡ b
          → HasOutcome all_rules c.table.program c.budget (length c.journal) t.config answers (outcome_by (cond b (Ending.Suspended (roots - length answers)) (cond (roots == 0) Ending.Failed Ending.Done)))
      on true i = left (roots - length answers) refl (below i)
        where
          below : nat_lt (length answers) roots ≡ true → length answers < roots
          below i = grind (arith, nat_tests)
      on false i = each roots refl (let h : roots ≤ length answers = not_below i in omega (arith, h, few))
        where
          not_below : nat_lt (length answers) roots ≡ false → roots ≤ length answers
          not_below i = grind (arith, nat_tests)

  pub has_outcome : (end : End) → EndsAs c end → HasOutcome all_rules c.table.program c.budget (length c.journal) t.config answers (outcome_by (ending_by end (length c.table.roots) (length answers)))
  has_outcome End.Spent s = let w = s.1 t in is_out_of_budget w.0 s.0 a w.1
  has_outcome End.Quiet s =
      let roots : count_of t.config.roots ≡ length c.table.roots = sym (ap length t.unfolds.roots ∙ count_names t.config.roots) in
      let few : length answers ≤ count_of t.config.roots = few_answers a in
      quiet_outcome (length c.table.roots) roots (omega (arith, roots, few)) (s t)

-- ---- what was written of a run

-- where it is said what waits, no place is ready
pub says_quiet : (c : CoreValue) (flags : Flags) (end : End) (roots count : ℕ) (ending : Ending) → EndsAs c end → ending ≡ ending_by end roots count → says_waits flags (outcome_by ending) ≡ true → IsQuiet c
says_quiet c flags End.Quiet roots count ending ends is says = ends
says_quiet c flags End.Spent roots count ending ends is says = let e : false ≡ true = subst (λ (k : Ending). says_waits flags (outcome_by k) ≡ true) is says in absurd cc

-- and it is asked why
says_why : (flags : Flags) (o : Outcome) → says_waits flags o ≡ true → flags.why ≡ true
says_why flags done e = absurd cc
says_why flags failed e = absurd cc
says_why flags (suspended k) e = e
says_why flags out_of_budget e = absurd cc

names_of : (why : Bool) (others : List Found) → why ≡ true → named why others ≡ map (λ (f : Found). f.content.name) others
names_of true others e = refl
names_of false others e = absurd cc

module _ (e : Evaluated) (h : HasEnded e) (i : IsCore e.core) where
  abbrev traced : List ℕ
  traced = trace_text e.flags.trace e.core.journal

  abbrev ended_by : ℕ → Ending
  ended_by count = ending_by e.end (length e.core.table.roots) count

  abbrev run_with : List Content → Run
  run_with answers = run_in e i.table.config answers (outcome_by (ended_by (length answers)))

  own_run : (answers : List Content) → AreAnswers i.table.config.roots answers → HasRun e (run_with answers)
  own_run answers a = record {
    program = refl;
    journal = refl;
    models = refl;
    is_run = record { replays = i.table.replays; ends = has_outcome e.core i.table answers a e.end h.ends; within = i.within; are_models = h.models i.table answers a };
  }

  -- a front of the trace and of the texts of the first answers was written
  broke_in_answers : {before after : Outlet} {cause : Unwritten} (front rest answered : List ℕ) → AreFirstTexts e answered i.table → front ++ rest ≡ traced ++ answered → HasAppended before after front
      → IsCause before after cause → BreaksOff e before after cause
  broke_in_answers front rest answered f p x k = record {
    run = run_with (f.first ++ f.left);
    has_run = own_run (f.first ++ f.left) f.are_answers;
    front = front;
    is_front = of_begun rest (in_answers f.first f.left refl f.are_texts) p;
    appended = x;
    is_cause = k;
  }

  pub trace_broke : {before after : Outlet} {cause : Unwritten} (journal : List Label) → journal ≡ e.core.journal → HasBrokenOff (PartsOf (trace_text e.flags.trace journal)) before after cause → BreaksOff e before after cause
  trace_broke journal j b =
      broke_in_answers b.front b.rest [] (passed_first e 0 0 [] [] (passed_none e) i.table) (b.are_parts ∙ ap (trace_text e.flags.trace) j ∙ sym (append-nil traced)) b.appended b.is_cause

  as_traced : {before after : Outlet} (journal : List Label) → journal ≡ e.core.journal → HasAppended before after (trace_text e.flags.trace journal) → HasAppended before after traced
  as_traced {before} {after} journal j x = subst (λ (ls : List Label). HasAppended before after (trace_text e.flags.trace ls)) j x

  pub answers_broke : {before middle after : Outlet} {cause : Unwritten} (journal : List Label) → journal ≡ e.core.journal → HasAppended before middle (trace_text e.flags.trace journal)
      → HasBrokenOff (ArePartsOfAnswers e) middle after cause → BreaksOff e before after cause
  answers_broke {before} {middle} {after} {cause} journal j y b =
      let x : HasAppended before middle traced = as_traced journal j y in
      broke_in_answers (traced ++ b.front) b.rest (b.front ++ b.rest) (b.are_parts.are_texts i.table) (append_assoc traced b.front b.rest) (appended_both traced b.front x b.appended) (cause_later before middle after cause x.faults b.is_cause)

  -- the trace and all answers were written, so many of them, and the other root boxes have these names
  module _ {before middle further : Outlet} (journal : List Label) (j : journal ≡ e.core.journal) (count : ℕ) (names : List Name) (ending : Ending) (k : ending ≡ ended_by count)
      (y : HasAppended before middle (trace_text e.flags.trace journal)) (w : HasWrittenAnswers e names middle further count) where
    all : AreAllTexts e count names w.text i.table
    all = w.are_texts i.table

    abbrev run : Run
    run = run_with all.answers

    answers_run : HasRun e run
    answers_run = own_run all.answers all.are_answers

    is_outcome : outcome_by ending ≡ run.outcome
    is_outcome = ap outcome_by (k ∙ ap ended_by all.counted)

    abbrev says : Bool
    says = says_waits e.flags (outcome_by ending)

    says_same : says ≡ says_waits e.flags run.outcome
    says_same = ap (says_waits e.flags) is_outcome

    answers_appended : HasAppended before further (traced ++ w.text)
    answers_appended = appended_both traced w.text (as_traced journal j y) w.appended

    names_are : says ≡ true → map (λ (f : Found). f.content.name) all.others ≡ names
    names_are s = sym (all.are_named ∙ names_of e.flags.why all.others (says_why e.flags (outcome_by ending) s))

    -- the first of the others
    first_waits : (n : ℕ) (text : List ℕ) → says ≡ true → AreFirstWaits e.core names n text → AreWaits e.core.table.program 0 (take n all.others) text
    first_waits n text s f = f i.table all.others (others_roots e.core i.table all.others all.are_others) (names_are s)

    pub waits_broke : {after : Outlet} {cause : Unwritten} → HasBrokenOff (ArePartsOfWaits e.core names says) further after cause → BreaksOff e before after cause
    waits_broke {after} {cause} b =
        let s : says ≡ true = b.are_parts.is_said in
        let parts : take b.are_parts.count all.others ++ drop b.are_parts.count all.others ≡ all.others = take-append-drop b.are_parts.count all.others in
        record {
          run = run;
          has_run = answers_run;
          front = (traced ++ w.text) ++ b.front;
          is_front = of_begun b.rest (in_waits (take b.are_parts.count all.others) (drop b.are_parts.count all.others) all.are_texts (sym says_same ∙ s)
              (subst (AreOthers i.table.config.roots) (sym parts) all.are_others) (first_waits b.are_parts.count (b.front ++ b.rest) s b.are_parts.are_waits))
              (append_assoc (traced ++ w.text) b.front b.rest);
          appended = appended_both (traced ++ w.text) b.front answers_appended b.appended;
          is_cause = cause_later before further after cause answers_appended.faults b.is_cause;
        }

    -- what was written of the others
    record WroteWaits (after : Outlet) : Type 0 where
      pub text : List ℕ
      pub appended : HasAppended further after text
      pub is_text : IsWaitsText run (says_waits e.flags run.outcome) text

    all_taken : (names : List Name) → map (λ (f : Found). f.content.name) all.others ≡ names → take (length names) all.others ≡ all.others
    all_taken names n =
        ap (λ (m : ℕ). take m all.others) (sym (sym (length-map all.others (λ (f : Found). f.content.name)) ∙ ap length n)) ∙ take-length all.others

    wrote_waits_so : {after : Outlet} (said : Bool) → said ≡ says → HasWrittenWaits e.core names further after said → WroteWaits after
    wrote_waits_so _ s (wrote_nothing e') = record {
      text = [];
      appended = subst (λ (o : Outlet). HasAppended further o []) (sym e') (nothing_appended further);
      is_text = subst (λ (b : Bool). IsWaitsText run b []) (s ∙ says_same) unsaid;
    }
    wrote_waits_so _ s (wrote_waits text x f) = record {
      text = text;
      appended = x;
      is_text = subst (λ (b : Bool). IsWaitsText run b text) (s ∙ says_same)
          (said all.are_others (subst (λ (fs : List Found). AreWaits e.core.table.program 0 fs text) (all_taken names (names_are (sym s))) (first_waits (length names) text (sym s) f)));
    }

    -- the text of the run, with its last line
    abbrev last_line : List ℕ
    last_line = outcome_line (outcome_by ending)

    module _ {later : Outlet} (v : HasWrittenWaits e.core names further later says) where
      waits : WroteWaits later
      waits = wrote_waits_so says refl v

      whole_text : IsRunText e.flags run (traced ++ w.text ++ waits.text ++ last_line)
      whole_text = record { answered = w.text; are_answers = all.are_texts; waiting = waits.text; are_waits = waits.is_text; whole = ap (λ (o : Outcome). traced ++ w.text ++ waits.text ++ outcome_line o) is_outcome }

      waits_appended : HasAppended before later (traced ++ w.text ++ waits.text)
      waits_appended = appended_both (traced ++ w.text) waits.text answers_appended waits.appended

      pub ending_broke : {after : Outlet} {cause : Unwritten} → HasBrokenOff (ShortOf last_line) later after cause → BreaksOff e before after cause
      ending_broke {after} {cause} b = record {
        run = run;
        has_run = answers_run;
        front = (traced ++ w.text ++ waits.text) ++ b.front;
        is_front = of_whole b.rest whole_text
            (append_assoc (traced ++ w.text ++ waits.text) b.front b.rest ∙ ap (λ (xs : List ℕ). (traced ++ w.text ++ waits.text) ++ xs) b.are_parts.whole) b.are_parts.more;
        appended = appended_both (traced ++ w.text ++ waits.text) b.front waits_appended b.appended;
        is_cause = cause_later before later after cause waits_appended.faults b.is_cause;
      }

      pub wrote_whole : {after : Outlet} → HasAppended later after last_line → HasWritten e before after (status_by ending)
      wrote_whole x = record {
        run = run;
        has_run = answers_run;
        is_status = subst (IsStatusOf (status_by ending)) is_outcome (status_of ending);
        text = traced ++ w.text ++ waits.text ++ last_line;
        is_text = whole_text;
        appended = appended_both (traced ++ w.text ++ waits.text) last_line waits_appended x;
      }

-- the last line isn't empty
pub some_line : (e : Ending) → 0 < length (outcome_line (outcome_by e))
some_line Ending.Done = omega arith
some_line Ending.Failed = omega arith
some_line (Ending.Suspended left) = omega arith
some_line Ending.Budget = omega arith

-- ---- a run of a loaded query
module _ (l : Loaded) (workers budget : ℕ) (flags : Flags) (e : Evaluated) (i : IsEvaluated l workers budget flags e) (r : Run) (h : HasRun e r) where
  pub run_of : (program query : List ℕ) → IsLoadedFrom program query l → IsRunOf program query workers budget flags.model r (lists e.receipts.items)
  run_of program query is = record {
    loaded = l;
    is_loaded = is;
    is_program = h.program ∙ i.program;
    run = subst (λ (f : Flags). IsRun l.query budget f.model r) i.same_flags
        (subst (λ (b : ℕ). IsRun l.query b e.flags.model r) i.same_budget (subst (λ (q : Query). IsRun q e.core.budget e.flags.model r) i.query h.is_run));
    of_workers = subst (λ (ls : List Label). AreOfWorkers workers ls (lists e.receipts.items)) (sym h.journal) i.of_workers;
  }

-- how the writing ended, by its result
pub writing_ended : (e : Evaluated) (before after : Outlet) (r : Result Status Unwritten) → IfOk r (HasWritten e before after) → IfErr r (BreaksOff e before after) → EndsWriting e before after (status_by_writing r)
writing_ended e before after (Ok s) w b = whole w
writing_ended e before after (Err Unwritten.Fault) w b = fault b
writing_ended e before after (Err Unwritten.Memory) w b = memory b

-- and by what is known of the output before and after it, and of its sink
pub report_written : {K : Type 0} (seen : K → Outlet) (e : Evaluated) (before begun : Outlet) (left last : K) → last ≡ left → (written : ℕ) (r : Result Status Unwritten) (s : Status) (n : ℕ) → s ≡ status_by_writing r
    → begun ≡ before → n ≡ written → IfOk r (HasWritten e begun (record (seen left) { written = written })) → IfErr r (BreaksOff e begun (record (seen left) { written = written }))
    → EndsWriting e before (record (seen last) { written = n }) s
report_written seen e before begun left last l written r s n i j k w b =
    subst (λ (x : _). EndsWriting e before (record (seen x) { written = n }) s) (sym l)
    (subst (λ (x : ℕ). EndsWriting e before (record (seen left) { written = x }) s) (sym k)
    (subst (λ (x : Outlet). EndsWriting e x (record (seen left) { written = written }) s) j
    (subst (EndsWriting e begun (record (seen left) { written = written })) (sym i) (writing_ended e begun (record (seen left) { written = written }) r w b))))
