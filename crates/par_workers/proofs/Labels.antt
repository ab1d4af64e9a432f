-- The labels of one worker in a run that goes on.
use Rattle.std.proofs.Common.{◌≡◌, ◌≢◌, ℕ, suc, ◌+◌, ◌<◌, ◌≤◌, List, [], ◌∷◌, ◌++◌, All, length, map, sym, refl, ap, ◌∙◌, subst, arith, append_assoc, append-nil, ne_eqb}
use Rattle.std.proofs.lemmas.List.{map-append}
use Rattle.std.proofs.lemmas.List.Elements.{All-nil, All-cons, All-head, All-tail}
use Rattle.turn_lock.specs.Histories.{GoesOnWithout}
use Rattle.akl_model.specs.declared.label.Label.{Label}
use Rattle.akl_model.specs.declared.label.Receipt.{Receipt}
use Rattle.seq_engine.proofs.Labels.{labels_of-append, each-append}
use Rattle.seq_engine.proofs.ReceiptsFrom.{labels_from, planned_from}
use Rattle.step_commit.specs.Receipts.{labels_of, receipts_from, AreBy}
use Rattle.par_workers.specs.declared.made.Made.{Made}
use Rattle.par_workers.specs.Shared.{labels_made, maker, labels_in, AreByWorkers, AreReceiptsOf}

pub labels_in-append : (ms ns : List Made) → labels_in (ms ++ ns) ≡ labels_in ms ++ labels_in ns
labels_in-append [] ns = refl
labels_in-append (m ∷ ms) ns = ap (λ (ls : List Label). labels_made m ++ ls) (labels_in-append ms ns) ∙ sym (append_assoc (labels_made m) (labels_in ms) (labels_in ns))

pub labels_in-more : (ms : List Made) (m : Made) → labels_in (ms ++ m ∷ []) ≡ labels_in ms ++ labels_made m
labels_in-more ms m = labels_in-append ms (m ∷ []) ∙ ap (λ (ls : List Label). labels_in ms ++ ls) (append-nil (labels_made m))

-- the labels of a plan are by its maker
pub all_by : (worker : ℕ) (ls : List Label) → AreBy worker ls → All (λ (l : Label). l.worker ≡ worker) ls
all_by worker [] are = All-nil (λ (l : Label). l.worker ≡ worker)
all_by worker (l ∷ ls) are = All-cons (λ (k : Label). k.worker ≡ worker) l ls are.0 (all_by worker ls are.1)

by_all : (worker : ℕ) (ls : List Label) → All (λ (l : Label). l.worker ≡ worker) ls → AreBy worker ls
by_all worker [] all = tt
by_all worker (l ∷ ls) all = (All-head (λ (k : Label). k.worker ≡ worker) l ls all, by_all worker ls (All-tail (λ (k : Label). k.worker ≡ worker) l ls all))

pub made_by : (m : Made) → AreBy (maker m) (labels_made m)
made_by m = (refl, by_all (maker m) m.plan.value.more m.by_one)

-- one worker's labels are no labels of another
labels_of-other : (worker by before : ℕ) (ls : List Label) → by ≢ worker → AreBy by ls → labels_of worker before ls ≡ []
labels_of-other worker by before [] differs are = refl
labels_of-other worker by before (l ∷ ls) differs are =
    let other : l.worker ≢ worker = λ same. differs (sym are.0 ∙ same) in
    rw (ne_eqb _ _ other) (labels_of-other worker by (suc before) ls differs are.1)

labels_of-without : (worker before : ℕ) (ms : List Made) → All (λ m. maker m ≢ worker) ms → labels_of worker before (labels_in ms) ≡ []
labels_of-without worker before [] all = refl
labels_of-without worker before (m ∷ ms) all =
    labels_of-append worker before (labels_made m) (labels_in ms)
    ∙ ap (λ (ls : List (ℕ × Label)). ls ++ labels_of worker (before + length (labels_made m)) (labels_in ms)) (labels_of-other worker (maker m) before (labels_made m) (All-head (λ m. maker m ≢ worker) m ms all) (made_by m))
    ∙ labels_of-without worker (before + length (labels_made m)) ms (All-tail (λ m. maker m ≢ worker) m ms all)

pub labels_of-kept : (worker by : ℕ) (journal further : List Label) → by < worker → AreBy by further → labels_of worker 0 (journal ++ further) ≡ labels_of worker 0 journal
labels_of-kept worker by journal further less are =
    labels_of-append worker 0 journal further ∙ ap (λ l. labels_of worker 0 journal ++ l) (labels_of-other worker by (0 + length journal) further (λ same. omega (arith, less, same)) are) ∙ append-nil (labels_of worker 0 journal)

-- others' labels follow
pub receipts_kept : (worker : ℕ) (seen past : List Made) (rs : List Receipt) → GoesOnWithout maker worker seen past → AreReceiptsOf worker seen rs → AreReceiptsOf worker past rs
receipts_kept worker seen past rs g are = record { labels = labels; planned = are.planned }
  where
    labels : map (λ (r : Receipt). (r.at, r.label)) rs ≡ labels_of worker 0 (labels_in past)
    labels = are.labels ∙ sym (append-nil (labels_of worker 0 (labels_in seen)))
        ∙ ap (λ l. labels_of worker 0 (labels_in seen) ++ l) (sym (labels_of-without worker (0 + length (labels_in seen)) g.0 g.2))
        ∙ sym (labels_of-append worker 0 (labels_in seen) (labels_in g.0))
        ∙ ap (labels_of worker 0) (sym (labels_in-append seen g.0) ∙ ap labels_in (sym g.1))

abbrev shown : List Receipt → List (ℕ × Label)
shown = map (λ (k : Receipt). (k.at, k.label))

-- labels of the worker's own follow, with their receipts
pub receipts_more : (worker : ℕ) (past : List Made) (m : Made) (rs : List Receipt) (at seen : ℕ) → maker m ≡ worker → at ≡ length (labels_in past) + 1 → seen < at
    → AreReceiptsOf worker past rs → AreReceiptsOf worker (past ++ m ∷ []) (rs ++ receipts_from at seen (labels_made m))
receipts_more worker past m rs at seen by number before are = record {
  labels = labels;
  planned = each-append (λ (k : Receipt). k.seen < k.at) rs (receipts_from at seen (labels_made m)) are.planned (planned_from at seen (labels_made m) before);
}
  where
    journal : List Label
    journal = labels_in past

    next : at ≡ suc (0 + length journal)
    next = omega (arith, number)

    own : shown (receipts_from at seen (labels_made m)) ≡ labels_of worker (0 + length journal) (labels_made m)
    own = ap (λ (n : ℕ). shown (receipts_from n seen (labels_made m))) next
        ∙ labels_from worker (0 + length journal) seen (labels_made m) (subst (λ (w : ℕ). AreBy w (labels_made m)) by (made_by m))

    labels : shown (rs ++ receipts_from at seen (labels_made m)) ≡ labels_of worker 0 (labels_in (past ++ m ∷ []))
    labels = map-append (λ (k : Receipt). (k.at, k.label)) rs (receipts_from at seen (labels_made m))
        ∙ ap (λ (x : List (ℕ × Label)). x ++ shown (receipts_from at seen (labels_made m))) are.labels
        ∙ ap (λ (x : List (ℕ × Label)). labels_of worker 0 journal ++ x) own
        ∙ sym (labels_of-append worker 0 journal (labels_made m))
        ∙ ap (labels_of worker 0) (sym (labels_in-more past m))

by_workers-append : (workers : ℕ) (xs ys : List Label) → AreByWorkers workers xs → AreByWorkers workers ys → AreByWorkers workers (xs ++ ys)
by_workers-append workers [] ys first rest = rest
by_workers-append workers (x ∷ xs) ys first rest = (first.0, first.1, by_workers-append workers xs ys first.2 rest)

by_workers-one : (workers worker : ℕ) (ls : List Label) → 1 ≤ worker → worker ≤ workers → AreBy worker ls → AreByWorkers workers ls
by_workers-one workers worker [] least most are = tt
by_workers-one workers worker (l ∷ ls) least most are =
    (subst (λ (n : ℕ). 1 ≤ n) (sym are.0) least, subst (λ (n : ℕ). n ≤ workers) (sym are.0) most, by_workers-one workers worker ls least most are.1)

pub by_workers-more : (workers : ℕ) (past : List Made) (m : Made) → AreByWorkers workers (labels_in past) → 1 ≤ maker m → maker m ≤ workers → AreByWorkers workers (labels_in (past ++ m ∷ []))
by_workers-more workers past m are least most =
    subst (AreByWorkers workers) (sym (labels_in-more past m)) (by_workers-append workers (labels_in past) (labels_made m) are (by_workers-one workers (maker m) (labels_made m) least most (made_by m)))

pub by_workers-first : (workers : ℕ) (journal further : List Label) → 1 ≤ workers → AreByWorkers workers journal → AreBy 1 further → AreByWorkers workers (journal ++ further)
by_workers-first workers journal further some are by = by_workers-append workers journal further are (by_workers-one workers 1 further (omega arith) some by)
