-- What the workers leave, and how worker 1 goes on from it.
use Rattle.std.proofs.Common.{◌≡◌, ◌≤◌, List, [], ◌∷◌, All, length, set, get_or, Vec, refl, sym, ap, ◌∙◌, subst}
use Rattle.std.proofs.lemmas.List.{length-set}
use Rattle.std.specs.Global.{Global}
use Rattle.turn_lock.specs.Histories.{GoesOnWithout}
use Rattle.turn_lock.specs.declared.view.Joined.{Joined}
use Rattle.akl_model.specs.declared.label.Label.{Label}
use Rattle.akl_model.specs.declared.label.Receipt.{Receipt}
use Rattle.step_commit.specs.Cores.{CoreValue, KeepsFixed}
use Rattle.step_commit.specs.Receipts.{AreReceipts}
use Rattle.seq_engine.specs.declared.run.Finished.{Finished}
use Rattle.seq_engine.specs.declared.run.End.{End}
use Rattle.seq_engine.specs.Runs.{HasRunOn, EndsAs}
use Rattle.par_workers.specs.declared.run.Finished as many
use Rattle.par_workers.specs.declared.made.Made.{Made}
use Rattle.par_workers.specs.Shared.{SharedValue, maker, labels_in, AreByWorkers, IsShared}
use Rattle.par_workers.specs.Crews.{AreOfJoined, lists}
use Rattle.par_workers.specs.Runs.{AreShared, HasRunMany}
use Rattle.par_workers.proofs.Cores.{fixed_on}
use Rattle.par_workers.proofs.Crews.{receipts_joined, receipts_on}
use Rattle.par_workers.proofs.Labels.{by_workers-first}

-- all workers were dismissed
pub are_shared : (s : SharedValue) (c d : CoreValue) (js : List (Joined Made)) (receipts : List (Vec Receipt Global)) → s.begun ≡ c → IsShared s d → length receipts ≡ c.workers
    → AreOfJoined 1 js (lists receipts) → All (λ j. GoesOnWithout maker j.number j.seen s.past) js → AreShared c d receipts
are_shared s c d js receipts begun is count lists_are joined =
    let journal : d.journal ≡ labels_in s.past = ap (λ (e : CoreValue). e.journal) is.core in record {
      fixed = subst (λ (b : CoreValue). KeepsFixed b d) begun is.fixed;
      labels = subst (λ (b : CoreValue). AreByWorkers b.workers d.journal) begun (subst (AreByWorkers s.begun.workers) (sym journal) is.workers);
      count = count;
      kept = subst (λ (ls : List Label). AreReceipts 1 ls (lists receipts)) (sym journal) (receipts_joined 1 js s.past (lists receipts) lists_are joined);
    }

same_lists : (vs : List (Vec Receipt Global)) (u v : Vec Receipt Global) → lists (set (set vs 0 u) 0 v) ≡ lists (set vs 0 v)
same_lists [] u v = refl
same_lists (x ∷ xs) u v = refl

-- worker 1 has gone on from its list, which was taken out and is put back
pub has_gone_on : (c b : CoreValue) (vs : List (Vec Receipt Global)) (d v u : Vec Receipt Global) (f : Finished) → 1 ≤ length vs → v ≡ get_or vs 0 d → HasRunOn c v.items f → AreShared b c vs
    → (m : many.Finished) → m.core ≡ f.core → m.receipts.items ≡ set (set vs 0 u) 0 f.receipts → m.end ≡ f.end → HasRunMany b m
has_gone_on c b vs d v u f some first run was m core receipts end =
    let goes = (subst (λ (w : Vec Receipt Global). HasRunOn c w.items f) first run).goes in
    let many : 1 ≤ b.workers = subst (λ n. 1 ≤ n) was.count some in
    let by = by_workers-first b.workers c.journal goes.further many was.labels goes.by_one in
    let kept = receipts_on c.journal goes.further f.core.journal vs f.receipts d goes.journal goes.by_one goes.receipts was.kept in
    let count : length (set (set vs 0 u) 0 f.receipts) ≡ b.workers = length-set (set vs 0 u) 0 f.receipts ∙ length-set vs 0 u ∙ was.count in
    let at_end : AreShared b f.core (set (set vs 0 u) 0 f.receipts) = record {
      fixed = fixed_on b c f.core was.fixed goes.fixed;
      labels = subst (AreByWorkers b.workers) (sym goes.journal) by;
      count = count;
      kept = subst (AreReceipts 1 f.core.journal) (sym (same_lists vs u f.receipts)) kept;
    } in record {
      shared = subst (λ (k : CoreValue). AreShared b k m.receipts.items) (sym core) (subst (AreShared b f.core) (sym receipts) at_end);
      ends = subst (λ (e : End). EndsAs m.core e) (sym end) (subst (λ (k : CoreValue). EndsAs k f.end) (sym core) run.ends);
    }
