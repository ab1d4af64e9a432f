-- Marks stay right where the variables that a plan lists are marked as it is committed.
use Rattle.std.proofs.Common.{◌≡◌, ℕ, ◌+◌, List, [], ◌∷◌, ◌++◌, length, arith}
use Rattle.std.proofs.lemmas.List.{length-append}
use Rattle.akl_terms.specs.declared.name.Var.{Var}
use Rattle.akl_terms.specs.declared.program.Program.{Program}
use Rattle.akl_terms.specs.declared.program.Query.{Query}
use Rattle.akl_model.specs.declared.item.Item.{Item}
use Rattle.akl_model.specs.declared.label.Label.{Label}
use Rattle.table_laws.specs.Marks.{Marks}
use Rattle.table_laws.specs.Rows.{Table}
use Rattle.table_laws.specs.Stamped.{Run, IsTableOf, AreMarked}
use Rattle.box_tree.specs.declared.step.Step.{Step}
use Rattle.table_laws.proofs.MarksKept.{marks_step}
use Rattle.box_tree.specs.Tables.{all_rules}
use Rattle.step_commit.proofs.LabelNow.{IsPlannedLabel, LeadsNow}

module _ (p : Program) (q : Query) (journal further : List Label) (S T U : Table) (l : Label) (more : List Label) (reads : List Item) (names : ℕ) (binds : List Var)
    (t : IsTableOf all_rules (record { program = p; query = q; journal = journal ++ further }) T)
    (marks : Marks binds T U) (old : AreMarked all_rules (record { program = p; query = q; journal = journal ++ further }) T) where
  abbrev now : List Label → Run
  now ls = record { program = p; query = q; journal = (journal ++ further) ++ ls }

  pub marked_label : (step : Step) (x : IsPlannedLabel p q journal S l reads names step binds) (w : LeadsNow p q journal further S T l reads names step binds x t) → U.steps ≡ length ((journal ++ further) ++ l ∷ [])
      → AreMarked all_rules (now (l ∷ [])) U
  marked_label step x w steps = marks_step all_rules (record { program = p; query = q; journal = journal ++ further }) T U l w.leads.result t w.leads.applies next binds w.leads.binds marks old
    where
      next : U.steps ≡ T.steps + 1
      next = let e : T.steps ≡ length (journal ++ further) = t.stamped.steps in let h : length ((journal ++ further) ++ l ∷ []) ≡ length (journal ++ further) + 1 = length-append (journal ++ further) (l ∷ []) in omega (arith, steps, e, h)
