-- What a plan read is seen in the core's journal, where its stamps are among those of the labels that the plan had seen.
use Rattle.std.proofs.Common.{◌≡◌, ◌≤◌, ap, ℕ, List, ◌++◌, length, true, false, Option, Some, None, refl, subst, arith}
use Rattle.std.specs.Prelude.{option_map}
use Rattle.akl_terms.specs.declared.program.Program.{Program}
use Rattle.akl_terms.specs.declared.program.Query.{Query}
use Rattle.akl_model.specs.declared.item.Item.{Item}
use Rattle.akl_model.specs.declared.label.Label.{Label}
use Rattle.akl_terms.specs.declared.name.Name.{Name}
use Rattle.table_laws.specs.Rows.{BoxRow, Table}
use Rattle.table_laws.specs.Stamped.{Run, IsTableOf, AreMarked, stamp_in}
use Rattle.table_laws.specs.Planned.{Seen}
use Rattle.table_laws.proofs.SeenStamps.{seen_item}
use Rattle.reading_laws.specs.Seen.{IsSeen}
use Rattle.table_laws.specs.StoreMarks.{AreStoresMarked}
use Rattle.table_laws.proofs.LastChanges.{IsPart}
use Rattle.box_tree.specs.Lefts.{told_in}
use Rattle.box_tree.specs.StoreMarks.{store_mark}
use Rattle.box_tree.specs.Tables.{all_rules, TableValue, table_of, stamp_of}
use Rattle.box_tree.specs.Views.{run_of}
use Rattle.box_tree.specs.Plans.{PlanValue, IsRead}
use Rattle.step_commit.specs.Cores.{CoreValue, IsCore, MayCommit, is_within, AllWithin, mark_of_store}
use Rattle.step_commit.proofs.Committed.{at_most, stamp_last}

module _ (p : Program) (q : Query) (journal further : List Label) (v : TableValue) (t : IsTableOf all_rules (record { program = p; query = q; journal = journal ++ further }) (table_of v))
    (marks : AreMarked all_rules (record { program = p; query = q; journal = journal ++ further }) (table_of v)) (stores : AreStoresMarked all_rules (record { program = p; query = q; journal = journal ++ further }) (table_of v) (mark_of_store v)) where
  abbrev T : Table
  T = table_of v

  abbrev run : Run
  run = record { program = p; query = q; journal = journal ++ further }

  of_part : (i : Item) (o : Option ℕ) → IsPart i → stamp_in T i ≡ o → is_within o (length journal) ≡ true → Seen all_rules p q journal further i
  of_part i None part e w = absurd cc
  of_part i (Some k) part e w = seen_item all_rules p q (journal ++ further) t.config t.replays (length journal) k i part (stamp_last all_rules run T t.stamped i k part e) (at_most k (length journal) w)

  of_store : (n : Name) (o : Option BoxRow) → T.box_of n ≡ o → is_within (option_map (λ (r : BoxRow). store_mark v.marks n r.changed) o) (length journal) ≡ true → Seen all_rules p q journal further (Item.Store n)
  of_store n None e w = absurd (let z : false ≡ true = w in cc)
  of_store n (Some row) e w =
      let s : IsSeen all_rules p q (journal ++ further) (mark_of_store v n) (Item.Store n) = stores.each n row e in
      let same : mark_of_store v n ≡ store_mark v.marks n row.changed = ap (λ (o : Option BoxRow). store_mark v.marks n (told_in o)) e in
      let h : store_mark v.marks n row.changed ≤ length journal = at_most (store_mark v.marks n row.changed) (length journal) w in
      record { number = s.number; last = s.last; early = let i : s.number ≤ mark_of_store v n = s.early in omega (arith, i, same, h) }

  pub seen_stamp : (i : Item) → is_within (stamp_of v i) (length journal) ≡ true → Seen all_rules p q journal further i
  seen_stamp (Item.Binding x) w = record { number = T.mark_of x; last = marks.each x; early = at_most (T.mark_of x) (length journal) w }
  seen_stamp Item.Roots w = of_part Item.Roots (stamp_in T Item.Roots) tt refl w
  seen_stamp (Item.Store n) w = of_store n (T.box_of n) refl w
  seen_stamp (Item.Goals n) w = of_part (Item.Goals n) (stamp_in T (Item.Goals n)) tt refl w
  seen_stamp (Item.Goal g) w = of_part (Item.Goal g) (stamp_in T (Item.Goal g)) tt refl w

pub seen_now : (c : CoreValue) → IsCore c → (p : PlanValue) (m : MayCommit c p) → AllWithin c.table p.reads (length p.journal) → (i : Item) → IsRead p.reads i
    → Seen all_rules c.table.program c.table.query p.journal m.further i
seen_now c k p m within i read = seen_stamp c.table.program c.table.query p.journal m.further c.table
    (subst (λ (j : List Label). IsTableOf all_rules (run_of c.table j) (table_of c.table)) m.front k.table)
    (subst (λ (j : List Label). AreMarked all_rules (run_of c.table j) (table_of c.table)) m.front k.marks)
    (subst (λ (j : List Label). AreStoresMarked all_rules (run_of c.table j) (table_of c.table) (mark_of_store c.table)) m.front k.stores) i (within i read)
