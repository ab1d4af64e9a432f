-- The alternatives of a choice, parted one after another.
use Rattle.std.proofs.Common.{◌≡◌, refl, ℕ, Bool, true, false, List, [], ◌++◌, drop}
use Rattle.akl_terms.specs.declared.name.Name.{Name}
use Rattle.akl_terms.specs.declared.term.Node.{Node}
use Rattle.box_tree.specs.declared.entries.HeldOp.{HeldOp}
use Rattle.box_tree.specs.Tables.{op_held}
use Rattle.table_laws.specs.Writes.{names_kept, names_cut}

-- those that are kept, and those that go, of what is left, where the solved one was passed or not
abbrev kept_of : HeldOp → Bool → Name → List Name → List Name
kept_of op false n ms = names_kept (op_held [] op) n ms
kept_of HeldOp.Condition true n ms = []
kept_of HeldOp.Commit true n ms = []
kept_of HeldOp.Choice true n ms = ms
kept_of (HeldOp.Collect t) true n ms = ms

abbrev cut_of : HeldOp → Bool → Name → List Name → List Name
cut_of op false n ms = names_cut (op_held [] op) n ms
cut_of HeldOp.Condition true n ms = ms
cut_of HeldOp.Commit true n ms = ms
cut_of HeldOp.Choice true n ms = []
cut_of (HeldOp.Collect t) true n ms = []

-- those so far, before those of what is left, are all
pub record IsParted (op : HeldOp) (n : Name) (names : List Name) (passed : Bool) (at : ℕ) (kept gone : List Name) : Type 0 where
  pub keeps_all : kept ++ kept_of op passed n (drop at names) ≡ names_kept (op_held [] op) n names
  pub cuts_all : gone ++ cut_of op passed n (drop at names) ≡ names_cut (op_held [] op) n names

-- by an operator, whatever the templates are
pub kept_by_any : (nodes : List Node) (op : HeldOp) (n : Name) (ms : List Name) → names_kept (op_held [] op) n ms ≡ names_kept (op_held nodes op) n ms
kept_by_any nodes HeldOp.Condition n ms = refl
kept_by_any nodes HeldOp.Commit n ms = refl
kept_by_any nodes HeldOp.Choice n ms = refl
kept_by_any nodes (HeldOp.Collect t) n ms = refl

pub cut_by_any : (nodes : List Node) (op : HeldOp) (n : Name) (ms : List Name) → names_cut (op_held [] op) n ms ≡ names_cut (op_held nodes op) n ms
cut_by_any nodes HeldOp.Condition n ms = refl
cut_by_any nodes HeldOp.Commit n ms = refl
cut_by_any nodes HeldOp.Choice n ms = refl
cut_by_any nodes (HeldOp.Collect t) n ms = refl
