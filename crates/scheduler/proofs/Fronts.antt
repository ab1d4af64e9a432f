-- What was made of a front of the journal may be committed, or settled.
use Rattle.std.proofs.Common.{◌≡◌, List, [], ◌++◌, length, sym, ◌∙◌, ap, append-nil}
use Rattle.akl_model.specs.declared.label.Label.{Label}
use Rattle.plan_laws.specs.Right.{NoneBy}
use Rattle.table_laws.specs.Rows.{store_in}
use Rattle.table_laws.specs.Kept.{SharesStores}
use Rattle.box_tree.specs.Tables.{TableValue, table_of}
use Rattle.box_tree.specs.Plans.{PlanValue}
use Rattle.idle_places.specs.Idling.{IdleValue}
use Rattle.step_commit.specs.Cores.{CoreValue, MayCommit}
use Rattle.scheduler.specs.Settled.{MaySettle}

-- the journal and the table of a core, before it went on by further labels
pub record IsFront (c : CoreValue) (table : TableValue) (journal further : List Label) : Type 0 where
  pub program : table.program ≡ c.table.program
  pub query : table.query ≡ c.table.query
  pub front : c.journal ≡ journal ++ further
  pub same_stores : SharesStores (table_of table) (table_of c.table) (length journal)

-- those that it has now
pub front_now : (c : CoreValue) (table : TableValue) (journal : List Label) → table ≡ c.table → journal ≡ c.journal → IsFront c table journal []
front_now c table journal of_table of_journal = record {
  program = ap (λ (t : TableValue). t.program) of_table;
  query = ap (λ (t : TableValue). t.query) of_table;
  front = sym of_journal ∙ sym (append-nil journal);
  same_stores = λ n row e old. ap (λ (t : TableValue). store_in ((table_of t).box_of n)) of_table ∙ ap store_in e;
}

-- by a plan that was made of it
pub may_commit : (c : CoreValue) (p : PlanValue) (further : List Label) → IsFront c p.table p.journal further → NoneBy p.label further → MayCommit c p
may_commit c p further f none = record { program = f.program; query = f.query; further = further; front = f.front; none_by = none; same_stores = f.same_stores }

-- and where a place was found idle by it
pub may_settle : (c : CoreValue) (i : IdleValue) (further : List Label) → IsFront c i.table i.journal further → MaySettle c i
may_settle c i further f = record { program = f.program; query = f.query; further = further; front = f.front }
