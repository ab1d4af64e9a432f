-- The run of worker 1 alone.
use Rattle.std.proofs.Common.{◌≡◌, ◌≤◌, ℕ, List, [], ◌∷◌, sym, subst, arith}
use Rattle.akl_model.specs.declared.label.Label.{Label}
use Rattle.step_commit.specs.Cores.{CoreValue}
use Rattle.step_commit.specs.Receipts.{AreBy}
use Rattle.seq_engine.specs.declared.run.End.{End}
use Rattle.seq_engine.specs.declared.run.Finished as one
use Rattle.seq_engine.specs.Runs.{HasRun, EndsAs}
use Rattle.par_workers.specs.declared.run.Finished.{Finished}
use Rattle.par_workers.specs.Shared.{AreByWorkers}
use Rattle.par_workers.specs.Runs.{AreShared, HasRunMany}

by_one : (journal : List Label) → AreBy 1 journal → AreByWorkers 1 journal
by_one [] are = tt
by_one (l ∷ ls) are =
    let is : l.worker ≡ 1 = are.0 in
    (let least : 1 ≤ l.worker = omega (arith, is) in least, let most : l.worker ≤ 1 = omega (arith, is) in most, by_one ls are.1)

-- it is a run of one worker
pub has_run_alone : (c : CoreValue) (f : one.Finished) → c.workers ≡ 1 → HasRun c f → (m : Finished) → m.core ≡ f.core → m.receipts.items ≡ f.receipts ∷ [] → m.end ≡ f.end → HasRunMany c m
has_run_alone c f alone run m core receipts end =
    let at_end : AreShared c f.core (f.receipts ∷ []) = record {
      fixed = run.fixed;
      labels = subst (λ (n : ℕ). AreByWorkers n f.core.journal) (sym alone) (by_one f.core.journal run.kept.by_one);
      count = sym alone;
      kept = run.kept.receipts;
    } in record {
      shared = subst (λ (k : CoreValue). AreShared c k m.receipts.items) (sym core) (subst (AreShared c f.core) (sym receipts) at_end);
      ends = subst (λ (e : End). EndsAs m.core e) (sym end) (subst (λ (k : CoreValue). EndsAs k f.end) (sym core) run.ends);
    }
