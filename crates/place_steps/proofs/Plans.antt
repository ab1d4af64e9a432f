-- A plan that was made of the core as it is may be committed.
use Rattle.std.proofs.Common.{◌≡◌, [], sym, ◌∙◌, ap, append-nil}
use Rattle.table_laws.specs.Rows.{store_in}
use Rattle.box_tree.specs.Tables.{TableValue, table_of}
use Rattle.box_tree.specs.Plans.{PlanValue}
use Rattle.step_commit.specs.Cores.{CoreValue, MayCommit}

pub may_commit_now : (c : CoreValue) (p : PlanValue) → p.table ≡ c.table → p.journal ≡ c.journal → MayCommit c p
may_commit_now c p table journal = record {
  program = ap (λ (t : TableValue). t.program) table;
  query = ap (λ (t : TableValue). t.query) table;
  further = [];
  front = sym journal ∙ sym (append-nil p.journal);
  none_by = tt;
  same_stores = λ n row e old. ap (λ (t : TableValue). store_in ((table_of t).box_of n)) table ∙ ap store_in e;
}
