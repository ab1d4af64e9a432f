-- Labels of one worker, one after another, with its receipts.
use Rattle.std.proofs.Common.{◌≡◌, ℕ, suc, ◌+◌, ◌<◌, ◌==◌, List, [], ◌∷◌, ◌++◌, length, map, Bool, true, false, cond, refl, sym, ◌∙◌, ap, subst, inl, arith, append_assoc, append-nil}
use Rattle.std.proofs.lemmas.List.{length-append, map-append}
use Rattle.akl_model.specs.declared.label.Label.{Label}
use Rattle.akl_model.specs.declared.label.Receipt.{Receipt}
use Rattle.step_commit.specs.Cores.{CoreValue, KeepsFixed}
use Rattle.std.specs.List.{AllByRecursion}
use Rattle.step_commit.specs.Receipts.{labels_of, receipts_from, ArePlannedBefore, ArePlannedOn, ArePlannedLast, AreReceipts, AreBy}
use Rattle.seq_engine.specs.declared.run.Finished.{Finished}
use Rattle.seq_engine.specs.declared.run.End.{End}
use Rattle.seq_engine.specs.declared.steps.Stepped.{Stepped}
use Rattle.seq_engine.proofs.OneWorker.{by-append}
use Rattle.seq_engine.proofs.ReceiptsFrom.{labels_from, planned_from, together}
use Rattle.seq_engine.specs.Runs.{IsQuiet, IsSpent, EndsAs, Follows, HasStepped, GoesOn, HasRun, HasRunOn}

-- what holds of the receipts of both lists
pub each-append : (P : Receipt → Type 0) (rs ss : List Receipt) → AllByRecursion P rs → AllByRecursion P ss → AllByRecursion P (rs ++ ss)
each-append P [] ss all more = more
each-append P (r ∷ rs) ss all more = (all.0, each-append P rs ss all.1 more)

-- the labels of one worker with further ones
pub labels_of-append : (worker before : ℕ) (xs ys : List Label) → labels_of worker before (xs ++ ys) ≡ labels_of worker before xs ++ labels_of worker (before + length xs) ys
labels_of-append worker before [] ys = ap (λ (n : ℕ). labels_of worker n ys) (omega arith)
labels_of-append worker before (x ∷ xs) ys =
    let number : suc before + length xs ≡ before + suc (length xs) = omega arith in
    on (x.worker == worker) (labels_of-append worker (suc before) xs ys ∙ ap (λ (n : ℕ). labels_of worker (suc before) xs ++ labels_of worker n ys) number)
  where
    on : (b : Bool) → labels_of worker (suc before) (xs ++ ys) ≡ labels_of worker (suc before) xs ++ labels_of worker (before + suc (length xs)) ys
        → cond b ((suc before, x) ∷ labels_of worker (suc before) (xs ++ ys)) (labels_of worker (suc before) (xs ++ ys))
        ≡ cond b ((suc before, x) ∷ labels_of worker (suc before) xs) (labels_of worker (suc before) xs) ++ labels_of worker (before + suc (length xs)) ys
    on true h = ap (λ (ls : List (ℕ × Label)). (suc before, x) ∷ ls) h
    on false h = h

-- further labels are kept
kept_on : (c d : CoreValue) (rs ss : List Receipt) → Follows c rs d ss → AreReceipts 1 c.journal (rs ∷ []) → AreReceipts 1 d.journal (ss ∷ [])
kept_on c d rs ss f k = (
  record {
    labels = ap (map number_of) f.receipts ∙ map-append number_of rs (receipts_from (length c.journal + 1) (length c.journal) (f.label ∷ f.more))
        ∙ (λ i. (k.0.labels i) ++ (news i)) ∙ sym (labels_of-append 1 0 c.journal (f.label ∷ f.more)) ∙ ap (labels_of 1 0) (sym f.journal);
    planned = subst ArePlannedBefore (sym f.receipts)
        (each-append (λ (r : Receipt). r.seen < r.at) rs (receipts_from (length c.journal + 1) (length c.journal) (f.label ∷ f.more)) k.0.planned (planned_from (length c.journal + 1) (length c.journal) (f.label ∷ f.more) before));
  },
  tt,
)
  where
    number_of : Receipt → ℕ × Label
    number_of = λ (r : Receipt). (r.at, r.label)

    before : length c.journal < length c.journal + 1
    before = omega arith

    from : suc (0 + length c.journal) ≡ length c.journal + 1
    from = omega arith

    news : map (λ (r : Receipt). (r.at, r.label)) (receipts_from (length c.journal + 1) (length c.journal) (f.label ∷ f.more)) ≡ labels_of 1 (0 + length c.journal) (f.label ∷ f.more)
    news = ap (λ (n : ℕ). map (λ (r : Receipt). (r.at, r.label)) (receipts_from n (length c.journal) (f.label ∷ f.more))) (sym from) ∙ labels_from 1 (0 + length c.journal) (length c.journal) (f.label ∷ f.more) f.by_one

-- planned by all labels before them, or together with the label before each
planned_on : (c d : CoreValue) (rs ss : List Receipt) → Follows c rs d ss → ArePlannedLast rs → ArePlannedLast ss
planned_on c d rs ss f k = subst ArePlannedLast (sym f.receipts) (last-append 0 0 rs k)
  where
    last-append : (at seen : ℕ) (xs : List Receipt) → ArePlannedOn at seen xs → ArePlannedOn at seen (xs ++ receipts_from (length c.journal + 1) (length c.journal) (f.label ∷ f.more))
    last-append at seen [] h = (inl refl, together (length c.journal + 1) (length c.journal) f.more)
    last-append at seen (x ∷ xs) h = (h.0, last-append x.at x.seen xs h.1)

fixed_on : (c d e : CoreValue) → KeepsFixed c d → KeepsFixed d e → KeepsFixed c e
fixed_on c d e x y = record { program = y.program ∙ x.program; query = y.query ∙ x.query; workers = y.workers ∙ x.workers; budget = y.budget ∙ x.budget }

pub goes_none : (c : CoreValue) (rs : List Receipt) → GoesOn c rs c rs
goes_none c rs = record { fixed = record { program = refl; query = refl; workers = refl; budget = refl }; further = []; journal = sym (append-nil c.journal); by_one = tt; receipts = λ k. k; planned = λ k. k }

pub goes_more : (c d e : CoreValue) (rs ss ts : List Receipt) → GoesOn c rs d ss → Follows d ss e ts → GoesOn c rs e ts
goes_more c d e rs ss ts g f = record {
  fixed = fixed_on c d e g.fixed f.fixed;
  further = g.further ++ f.label ∷ f.more;
  journal = f.journal ∙ ap (λ (ls : List Label). ls ++ f.label ∷ f.more) g.journal ∙ append_assoc c.journal g.further (f.label ∷ f.more);
  by_one = by-append 1 g.further (f.label ∷ f.more) g.by_one f.by_one;
  receipts = λ k. kept_on d e ss ts f (g.receipts k);
  planned = λ k. planned_on d e ss ts f (g.planned k);
}

-- labels more are nearer to the budget
pub nearer : (c d : CoreValue) (rs ss : List Receipt) → Follows c rs d ss → (length c.journal < length d.journal) × (length c.journal < d.budget)
nearer c d rs ss f =
    let e : length d.journal ≡ length c.journal + length (f.label ∷ f.more) = ap length f.journal ∙ length-append c.journal (f.label ∷ f.more) in
    let n : length (f.label ∷ f.more) ≡ suc (length f.more) = refl in
    let u : length f.more + length c.journal < c.budget = f.unspent in
    let b : d.budget ≡ c.budget = f.fixed.budget in
    (omega (arith, e, n), omega (arith, u, b))

-- of a run from no label on the receipts are those of all labels
pub whole_run : (c : CoreValue) (rs : List Receipt) (f : Finished) → c.journal ≡ [] → rs ≡ [] → HasRunOn c rs f → HasRun c f
whole_run c rs f e r x = record {
  fixed = x.goes.fixed;
  kept = record {
    receipts = x.goes.receipts (record { labels = ap (map (λ (z : Receipt). (z.at, z.label))) r ∙ ap (labels_of 1 0) (sym e); planned = subst ArePlannedBefore (sym r) tt }, tt);
    planned = x.goes.planned (subst ArePlannedLast (sym r) tt);
    by_one = subst (AreBy 1) (sym (x.goes.journal ∙ ap (λ (ls : List Label). ls ++ x.goes.further) e)) x.goes.by_one;
  };
  ends = x.ends;
}

-- a step that makes no label ends the run
module _ (c d k : CoreValue) (rs ss ts : List Receipt) (f : Finished) (g : GoesOn c rs d ss) where
  goes_so : k ≡ d → ts ≡ ss → f.core ≡ k → f.receipts.items ≡ ts → GoesOn c rs f.core f.receipts.items
  goes_so e h i j = subst (λ (x : CoreValue). GoesOn c rs x f.receipts.items) (sym (i ∙ e)) (subst (λ (xs : List Receipt). GoesOn c rs d xs) (sym (j ∙ h)) g)

  pub ends_quiet : HasStepped d ss k ts Stepped.Quiet → f.core ≡ k → f.receipts.items ≡ ts → f.end ≡ End.Quiet → HasRunOn c rs f
  ends_quiet x i j e = record { goes = goes_so x.0 x.1 i j; ends = subst (EndsAs f.core) (sym e) (subst IsQuiet (sym (i ∙ x.0)) x.2) }

  pub ends_spent : HasStepped d ss k ts Stepped.Spent → f.core ≡ k → f.receipts.items ≡ ts → f.end ≡ End.Spent → HasRunOn c rs f
  ends_spent x i j e = record { goes = goes_so x.0 x.1 i j; ends = subst (EndsAs f.core) (sym e) (subst IsSpent (sym (i ∙ x.0)) x.2) }
