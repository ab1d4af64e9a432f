-- A plan that nothing made stale leads the run on.
use Rattle.std.proofs.Common.{◌≡◌, ℕ, ◌+◌, ◌≤◌, List, [], ◌++◌, true, Option, Some, None, refl, sym, ap, subst, ◌∙◌, arith}
use Rattle.std.specs.Prelude.{nat_le}
use Rattle.std.proofs.lemmas.Bool.Decides.{nat_tests}
use Rattle.akl_terms.specs.declared.name.Var.{Var}
use Rattle.akl_terms.specs.declared.program.Program.{Program}
use Rattle.akl_terms.specs.declared.program.Query.{Query}
use Rattle.akl_model.specs.declared.item.Item.{Item}
use Rattle.akl_model.specs.declared.label.Rule.{Rule}
use Rattle.akl_model.specs.declared.label.Label.{Label}
use Rattle.akl_model.specs.Config.{Config}
use Rattle.akl_model.specs.Instances.{start}
use Rattle.akl_model.specs.Derivations.{Derives}
use Rattle.akl_model.proofs.Results.{Derives-prefix, Derives-one}
use Rattle.table_laws.specs.Rows.{BoxRow, GoalRow, Table}
use Rattle.table_laws.specs.Stamped.{Run, LastChange, IsStamped, IsTableOf, store_stamp, goals_stamp, goal_stamp, stamp_in}
use Rattle.table_laws.specs.Writes.{IsTable}
use Rattle.table_laws.specs.Laws.{started}
use Rattle.table_laws.proofs.Started.{start_law}
use Rattle.table_laws.proofs.MarksKept.{marks_start}
use Rattle.box_tree.specs.Tables.{all_rules, TableValue, table_of}
use Rattle.box_tree.specs.Plans.{PlanValue, IsRight, of_label, of_call}
use Rattle.box_tree.specs.Views.{run_of}
use Rattle.std.specs.Map.{lookup}
use Rattle.akl_terms.specs.Names.{same_name}
use Rattle.table_laws.proofs.StoreMarks.{store_marks_start}
use Rattle.table_laws.proofs.LastChanges.{IsPart}
use Rattle.box_tree.specs.StoreMarks.{stores_of}
use Rattle.step_commit.specs.Cores.{CoreValue, IsCore, MayCommit, mark_of_store}

pub some_of : {A : Type 0} {a b : A} → Some a ≡ Some b → a ≡ b
some_of e = cc

pub at_most : (k n : ℕ) → nat_le k n ≡ true → k ≤ n
at_most k n e = grind (arith, nat_tests)

-- what a table keeps of an item other than a binding is its last change
module _ (rules : List Rule) (r : Run) (T : Table) (s : IsStamped rules r T) where
  of_store : (n : _) (k : ℕ) (o : Option BoxRow) → T.box_of n ≡ o → store_stamp o ≡ Some k → LastChange rules r (Item.Store n) k
  of_store n k None e i = absurd cc
  of_store n k (Some row) e i = subst (LastChange rules r (Item.Store n)) (some_of i) (s.store n row e)

  of_goals : (n : _) (k : ℕ) (o : Option BoxRow) → T.box_of n ≡ o → goals_stamp o ≡ Some k → LastChange rules r (Item.Goals n) k
  of_goals n k None e i = absurd cc
  of_goals n k (Some row) e i = subst (LastChange rules r (Item.Goals n)) (some_of i) (s.goals n row e)

  of_goal : (g : _) (k : ℕ) (o : Option GoalRow) → T.goal_of g ≡ o → goal_stamp o ≡ Some k → LastChange rules r (Item.Goal g) k
  of_goal g k None e i = absurd cc
  of_goal g k (Some row) e i = subst (LastChange rules r (Item.Goal g)) (some_of i) (s.goal g row e)

  pub stamp_last : (i : Item) (k : ℕ) → IsPart i → stamp_in T i ≡ Some k → LastChange rules r i k
  stamp_last Item.Roots k part e = subst (LastChange rules r Item.Roots) (some_of e) s.roots
  stamp_last (Item.Store n) k part e = of_store n k (T.box_of n) refl e
  stamp_last (Item.Goals n) k part e = of_goals n k (T.box_of n) refl e
  stamp_last (Item.Goal g) k part e = of_goal g k (T.goal_of g) refl e
  stamp_last (Item.Binding x) k part e = absurd part

-- a plan's table is one of the core's program and query
pub table_before : (c : CoreValue) (p : PlanValue) → IsRight p → MayCommit c p → IsTableOf all_rules (run_of c.table p.journal) (table_of p.table)
table_before c p r m = subst (λ (x : Program). IsTableOf all_rules (record { program = x; query = c.table.query; journal = p.journal }) (table_of p.table)) m.program
    (subst (λ (y : Query). IsTableOf all_rules (record { program = p.table.program; query = y; journal = p.journal }) (table_of p.table)) m.query (own r))
  where
    own : IsRight p → IsTableOf all_rules (run_of p.table p.journal) (table_of p.table)
    own (of_label alone none x) = x.table
    own (of_call x) = x.table

-- the labels that come after those of an earlier table lead from its configuration
module _ (p : Program) (q : Query) (journal further : List Label) (S T : Table) (x : IsTableOf all_rules (record { program = p; query = q; journal = journal }) S)
    (t : IsTableOf all_rules (record { program = p; query = q; journal = journal ++ further }) T) where
  pub goes : Derives all_rules p x.config further t.config
  goes =
      let d : (m : Config) × Derives all_rules p (start p q) journal m × Derives all_rules p m further t.config = Derives-prefix all_rules p (start p q) t.config journal further t.replays.derives in
      subst (λ (m : Config). Derives all_rules p m further t.config) (Derives-one all_rules p (start p q) d.0 x.config journal d.1 x.replays.derives) d.2

-- a core of a table that was started
pub new_core : (t : TableValue) (p : Program) (q : Query) (workers budget : ℕ) (journal : List Label) → t.program ≡ p → t.query ≡ q → IsTable (table_of t) (started p q) → ((x : Var) → (table_of t).mark_of x ≡ 0) → stores_of t.marks ≡ [] → journal ≡ []
    → IsCore (record { table = t; journal = journal; workers = workers; budget = budget })
new_core t p q workers budget journal e f s marks stores n = subst (λ (j : List Label). IsCore (record { table = t; journal = j; workers = workers; budget = budget })) (sym n) (record {
  table = start_law all_rules t.program t.query (table_of t) (subst (λ (x : Program). IsTable (table_of t) (started x t.query)) (sym e) (subst (λ (x : Query). IsTable (table_of t) (started p x)) (sym f) s));
  marks = marks_start all_rules t.program t.query (table_of t) marks;
  early = λ x. let e : (table_of t).mark_of x ≡ 0 = marks x in omega (arith, e);
  stores = store_marks_start all_rules t.program t.query (table_of t) (mark_of_store t);
  stores_early = λ n m i. absurd (let z : None ≡ Some m = sym (ap (lookup (same_name n)) stores) ∙ i in cc);
  within = omega arith;
})
