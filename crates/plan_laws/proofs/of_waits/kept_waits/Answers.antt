use Rattle.plan_laws.proofs.KeptByCommit.{kept_by_commit}
use Rattle.plan_laws.proofs.KeptBySettle.{kept_by_settle, kept_by_forget, no_waits}
use Rattle.plan_laws.proofs.of_waits.kept_waits.Goals as goal

pub returns : goal.returns
returns c = record {
  at_start = no_waits;
  commit = kept_by_commit;
  settle = λ rules p q journal c r before waits still now waits_now h own kept in_scope oldest less shut opens left. kept_by_settle rules p q journal c r before waits still now waits_now h own kept in_scope oldest less shut opens left;
  forget = kept_by_forget;
}
