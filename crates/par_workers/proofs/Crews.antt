-- Workers by their numbers, and their lists.
use Rattle.std.proofs.Common.{◌≡◌, ℕ, suc, ◌+◌, ◌<◌, List, [], ◌∷◌, ◌++◌, All, length, slice_index_or, get_or, set, Vec, sym, ◌∙◌, subst, arith}
use Rattle.std.proofs.lemmas.List.Elements.{All-head, All-tail}
use Rattle.std.specs.Global.{Global}
use Rattle.turn_lock.specs.Histories.{GoesOnWithout}
use Rattle.turn_lock.specs.declared.view.Joined.{Joined}
use Rattle.akl_model.specs.declared.label.Label.{Label}
use Rattle.akl_model.specs.declared.label.Receipt.{Receipt}
use Rattle.step_commit.specs.Receipts.{AreReceipts, AreBy}
use Rattle.par_workers.specs.declared.made.Made.{Made}
use Rattle.par_workers.specs.declared.worker.Worker.{Worker}
use Rattle.par_workers.specs.Shared.{maker, labels_in, AreReceiptsOf}
use Rattle.par_workers.specs.Crews.{AreNumbered, AreOfJoined, lists}
use Rattle.par_workers.proofs.Labels.{labels_of-kept, receipts_kept}

pub numbered-push : (number : ℕ) (ws : List Worker) (w : Worker) → AreNumbered number ws → w.number ≡ number + length ws → AreNumbered number (ws ++ w ∷ [])
numbered-push number [] w are is = (let e : w.number ≡ number = omega arith in e, tt)
numbered-push number (v ∷ ws) w are is = (are.0, numbered-push (suc number) ws w are.1 (omega arith))

pub numbered-changed : (number : ℕ) (xs ys : List Worker) → length ys ≡ length xs
    → ((k : ℕ) (d : Worker) → k < length xs → (slice_index_or ys k d).number ≡ (slice_index_or xs k d).number) → AreNumbered number xs → AreNumbered number ys
numbered-changed number [] [] len same are = tt
numbered-changed number (x ∷ xs) (y ∷ ys) len same are =
    (same 0 x (omega arith) ∙ are.0, numbered-changed (suc number) xs ys (omega arith) (λ k d l. same (suc k) d (omega arith)) are.1)
numbered-changed number [] (y ∷ ys) len same are = absurd (omega arith)
numbered-changed number (x ∷ xs) [] len same are = absurd (omega arith)

pub numbered-split : (number : ℕ) (xs : List Worker) (w : Worker) (ys zs : List Worker) → xs ++ w ∷ ys ≡ zs → AreNumbered number zs → w.number ≡ number + length xs
numbered-split number xs w ys zs e are = go number xs (subst (AreNumbered number) (sym e) are)
  where
    go : (n : ℕ) (us : List Worker) → AreNumbered n (us ++ w ∷ ys) → w.number ≡ n + length us
    go n [] a = let h : w.number ≡ n = a.0 in omega arith
    go n (u ∷ us) a = let h = go (suc n) us a.1 in omega arith

-- one more pass was joined
pub joined_more : (number : ℕ) (js : List (Joined Made)) (rss : List (List Receipt)) (j : Joined Made) (rs : List Receipt)
    → AreOfJoined number js rss → j.number ≡ number + length rss → AreReceiptsOf j.number j.seen rs → AreOfJoined number (js ++ j ∷ []) (rss ++ rs ∷ [])
joined_more number [] [] j rs a is are = let e : j.number ≡ number = omega arith in (e, subst (λ n. AreReceiptsOf n j.seen rs) e are, tt)
joined_more number (k ∷ js) (ks ∷ rss) j rs a is are = (a.0, a.1, joined_more (suc number) js rss j rs a.2 (omega arith) are)
joined_more number [] (ks ∷ rss) j rs a is are = absurd a
joined_more number (k ∷ js) [] j rs a is are = absurd a

-- what the passes had seen goes on without labels of theirs
pub receipts_joined : (number : ℕ) (js : List (Joined Made)) (past : List Made) (rss : List (List Receipt))
    → AreOfJoined number js rss → All (λ j. GoesOnWithout maker j.number j.seen past) js → AreReceipts number (labels_in past) rss
receipts_joined number [] past [] a all = tt
receipts_joined number (j ∷ js) past (rs ∷ rss) a all = (
  receipts_kept number j.seen past rs (subst (λ n. GoesOnWithout maker n j.seen past) a.0 (All-head (λ (k : Joined Made). GoesOnWithout maker k.number k.seen past) j js all)) a.1,
  receipts_joined (suc number) js past rss a.2 (All-tail (λ (k : Joined Made). GoesOnWithout maker k.number k.seen past) j js all),
)
receipts_joined number [] past (rs ∷ rss) a all = absurd a
receipts_joined number (j ∷ js) past [] a all = absurd a

-- those of later workers are the same where an earlier one goes on alone
receipts_others : (number by : ℕ) (journal further : List Label) (rss : List (List Receipt)) → by < number → AreBy by further → AreReceipts number journal rss → AreReceipts number (journal ++ further) rss
receipts_others number by journal further [] less are rest = tt
receipts_others number by journal further (rs ∷ rss) less are rest =
    (record { labels = rest.0.labels ∙ sym (labels_of-kept number by journal further less are); planned = rest.0.planned }, receipts_others (suc number) by journal further rss (omega arith) are rest.1)

-- worker 1 goes on alone, from the first list to another
pub receipts_on : (journal further after : List Label) (vs : List (Vec Receipt Global)) (v : Vec Receipt Global) (d : Vec Receipt Global) → after ≡ journal ++ further → AreBy 1 further
    → (AreReceipts 1 journal ((get_or vs 0 d).items ∷ []) → AreReceipts 1 after (v.items ∷ [])) → AreReceipts 1 journal (lists vs) → AreReceipts 1 after (lists (set vs 0 v))
receipts_on journal further after [] v d e by on are = tt
receipts_on journal further after (u ∷ us) v d e by on are =
    ((on (are.0, tt)).0, subst (λ (ls : List Label). AreReceipts 2 ls (lists us)) (sym e) (receipts_others 2 1 journal further (lists us) (omega arith) by are.1))
