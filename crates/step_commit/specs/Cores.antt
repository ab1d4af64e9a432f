-- The state of a run, and when a plan is committed to it.
use Rattle.std.specs.Prelude.{◌≡◌, ℕ, ◌+◌, ◌≤◌, ◌<◌, nat_le, Bool, true, false, List, ◌∷◌, ◌++◌, length, Option, Some, None}
use Rattle.std.specs.Map.{lookup}
use Rattle.akl_terms.specs.Names.{same_name}
use Rattle.akl_terms.specs.declared.name.Name.{Name}
use Rattle.akl_terms.specs.declared.name.Var.{Var}
use Rattle.akl_model.specs.declared.item.Item.{Item}
use Rattle.akl_model.specs.declared.label.Label.{Label}
use Rattle.akl_model.specs.declared.label.Receipt.{Receipt}
use Rattle.plan_laws.specs.Right.{NoneBy}
use Rattle.table_laws.specs.Rows.{BoxRow}
use Rattle.table_laws.specs.Kept.{SharesStores}
use Rattle.table_laws.specs.Stamped.{Run, IsTableOf, AreMarked, LastChange}
use Rattle.box_tree.specs.Tables.{all_rules, TableValue, table_of, stamp_of}
use Rattle.box_tree.specs.Applied.{Applied}
use Rattle.box_tree.specs.Lefts.{told_in}
use Rattle.box_tree.specs.StoreMarks.{stores_of, store_mark}
use Rattle.box_tree.specs.declared.store_marks.StoreMark.{StoreMark}
use Rattle.table_laws.specs.StoreMarks.{AreStoresMarked}
use Rattle.box_tree.specs.Views.{run_of}
use Rattle.box_tree.specs.Plans.{PlanValue, IsRead}
use Rattle.step_commit.specs.declared.commit.CommitError.{CommitError}
use Rattle.step_commit.specs.Solving.{solved_at}

pub record CoreValue : Type 0 where
  pub table : TableValue
  pub journal : List Label
  pub workers : ℕ
  pub budget : ℕ

abbrev pub run_by : CoreValue → Run
run_by c = run_of c.table c.journal

-- its table unfolds to the replay of its journal
abbrev pub TableIn : CoreValue → Type 0
TableIn c = IsTableOf all_rules (run_by c) (table_of c.table)

-- a number behind which no label changed the store of a box, where bindings are told apart
abbrev pub mark_of_store : TableValue → Name → ℕ
mark_of_store t n = store_mark t.marks n (told_in ((table_of t).box_of n))

-- marks of stores are numbers of labels that were made
abbrev pub AreEarly : TableValue → Type 0
AreEarly t = (n : Name) (m : StoreMark) → lookup (same_name n) (stores_of t.marks) ≡ Some m → (m.told ≤ t.steps) × (m.number ≤ t.steps)

-- the table unfolds to the replay of the journal, which has at most as many labels as the budget, and keeps the number of the last change of
-- each item, and a mark of each variable and of each store
pub record IsCore (c : CoreValue) : Type 0 where
  pub table : TableIn c
  pub marks : AreMarked all_rules (run_by c) (table_of c.table)
  pub early : (x : Var) → (table_of c.table).mark_of x ≤ length c.journal
  pub stores : AreStoresMarked all_rules (run_by c) (table_of c.table) (mark_of_store c.table)
  pub stores_early : AreEarly c.table
  pub within : length c.journal ≤ c.budget

-- what no call changes
pub record KeepsFixed (c d : CoreValue) : Type 0 where
  pub program : d.table.program ≡ c.table.program
  pub query : d.table.query ≡ c.table.query
  pub workers : d.workers ≡ c.workers
  pub budget : d.budget ≡ c.budget

-- a plan was made for a front of the journal, behind which its worker has made no label, over the stores that no label behind it has changed
pub record MayCommit (c : CoreValue) (p : PlanValue) : Type 0 where
  pub program : p.table.program ≡ c.table.program
  pub query : p.table.query ≡ c.table.query
  pub further : List Label
  pub front : c.journal ≡ p.journal ++ further
  pub none_by : NoneBy p.label further
  pub same_stores : SharesStores (table_of p.table) (table_of c.table) (length p.journal)

-- the number of the label that last changed a store: of a box that is there the core's mark
abbrev pub last_of_store : CoreValue → Name → Option BoxRow → ℕ → Type 0
last_of_store c n None k = LastChange all_rules (run_by c) (Item.Store n) k
last_of_store c n (Some row) k = store_mark c.table.marks n row.changed ≡ k

-- the number of the label that last changed an item; of a binding the core's mark of the variable
abbrev pub LastIn : CoreValue → Item → ℕ → Type 0
LastIn c (Item.Binding x) k = (table_of c.table).mark_of x ≡ k
LastIn c Item.Roots k = LastChange all_rules (run_by c) Item.Roots k
LastIn c (Item.Store n) k = last_of_store c n ((table_of c.table).box_of n) k
LastIn c (Item.Goals n) k = LastChange all_rules (run_by c) (Item.Goals n) k
LastIn c (Item.Goal g) k = LastChange all_rules (run_by c) (Item.Goal g) k

-- no label behind a front of the journal changed the item
abbrev pub IsUnchanged : CoreValue → List Label → Item → Type 0
IsUnchanged c seen i = (k : ℕ) → LastIn c i k → k ≤ length seen

-- one did, and the item is the first such of those that were read
pub record IsStale (c : CoreValue) (seen : List Label) (reads : List Item) (item : Item) (stamp : Option ℕ) : Type 0 where
  pub earlier : List Item
  pub later : List Item
  pub is_read : reads ≡ earlier ++ item ∷ later
  pub first : (i : Item) → IsRead earlier i → IsUnchanged c seen i
  pub number : ℕ
  pub last : LastIn c item number
  pub within : number ≤ length c.journal
  pub unseen : length seen < number
  pub is_stamp : stamp ≡ stamp_of c.table item
  pub as_kept : (k : ℕ) → stamp ≡ Some k → k ≡ number

-- a plan isn't refused: the budget has room for its labels, and no label that the plan didn't see changed an item that it read
pub record IsFresh (c : CoreValue) (p : PlanValue) : Type 0 where
  pub unspent : length p.more + length c.journal < c.budget
  pub unchanged : (i : Item) → IsRead p.reads i → IsUnchanged c p.journal i

-- after how many labels the stores of a plan's step were solved, where it is known
abbrev pub solved_in : CoreValue → PlanValue → Option ℕ
solved_in c p = solved_at (table_of c.table) (length c.journal) (length p.journal) p.label.place p.step

-- the plan's labels are the next ones of the journal, and its step made the table; the receipt is that of the first one
pub record Commits (c : CoreValue) (p : PlanValue) (d : CoreValue) (r : Receipt) : Type 0 where
  pub fixed : KeepsFixed c d
  pub journal : d.journal ≡ c.journal ++ p.label ∷ p.more
  pub made : Applied c.table p.label (length p.more) (solved_in c p) p.names p.step p.binds d.table
  pub receipt : r ≡ record { at = length c.journal + 1; seen = length p.journal; label = p.label }
  pub fresh : IsFresh c p

-- why a plan isn't committed: no label has room in the budget, or some have and not all, or what was read has changed; want of memory is free
abbrev pub IsRefused : CoreValue → PlanValue → CommitError → Type 0
IsRefused c p (CommitError.Spent budget) = (budget ≡ c.budget) × (length c.journal ≡ c.budget)
IsRefused c p (CommitError.Short left) = (length c.journal + left ≡ c.budget) × (0 < left) × (left ≤ length p.more)
IsRefused c p (CommitError.Stale item stamp) = (length p.more + length c.journal < c.budget) × IsStale c p.journal p.reads item stamp
IsRefused c p (CommitError.Memory error) = Unit {0}

-- the item is there, and was last changed by one of the first labels, so many as are given
abbrev pub is_within : Option ℕ → ℕ → Bool
is_within None seen = false
is_within (Some k) seen = nat_le k seen

abbrev pub AllWithin : TableValue → List Item → ℕ → Type 0
AllWithin t reads seen = (i : Item) → IsRead reads i → is_within (stamp_of t i) seen ≡ true

-- the first item of a list that isn't, with its stamp
pub record IsFirstUnseen (t : TableValue) (reads : List Item) (seen : ℕ) (item : Item) (stamp : Option ℕ) : Type 0 where
  pub earlier : List Item
  pub later : List Item
  pub is_read : reads ≡ earlier ++ item ∷ later
  pub first : AllWithin t earlier seen
  pub is_stamp : stamp ≡ stamp_of t item
  pub unseen : is_within stamp seen ≡ false

abbrev pub IsFirstStale : TableValue → List Item → ℕ → Option (Item × Option ℕ) → Type 0
IsFirstStale t reads seen None = AllWithin t reads seen
IsFirstStale t reads seen (Some found) = IsFirstUnseen t reads seen found.0 found.1
