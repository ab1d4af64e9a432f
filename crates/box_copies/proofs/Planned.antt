-- The copies that are made of what stands in the box that was looked at are those of a split.
use Rattle.std.proofs.Common.{◌≡◌, ℕ, List, [], length, map, Bool, true, sym, ap, ◌∙◌, subst}
use Rattle.std.specs.List.{AllByRecursion}
use Rattle.akl_terms.specs.declared.name.Name.{Name}
use Rattle.akl_terms.specs.declared.name.Place.{Place}
use Rattle.akl_model.specs.Ordered.{IsIncreasing}
use Rattle.local_store.specs.Stored.{Stored}
use Rattle.table_laws.specs.Copying.{AreNamesCopied, swapping, AreMade}
use Rattle.box_tree.specs.declared.inside.InnerBox.{InnerBox}
use Rattle.box_tree.specs.Tables.{table_of, box_copy}
use Rattle.box_tree.specs.Views.{ViewValue, IsViewOf}
use Rattle.box_tree.specs.Insides.{AreBoxesInside}
use Rattle.box_tree.proofs.StoresAround.{stores_around}
use Rattle.box_copies.specs.declared.names.NewNames.{NewNames}
use Rattle.box_copies.specs.declared.copying.Copied.{Copied}
use Rattle.box_copies.specs.Copies.{AreSolvedOver, IsSplitInto}
use Rattle.box_copies.specs.Renamer.{swapped_name}
use Rattle.box_copies.specs.Made.{Adds, kept, kept_names, LeadsOlderBy, AreBoxesBy}
use Rattle.box_copies.proofs.Making.{names_copied, all_made}
use Rattle.box_copies.proofs.DownTo.{solved_over}

module _ (v : ViewValue) (seen : IsViewOf v) (boxes : List InnerBox) (n a : Name) (inside : AreBoxesInside v.table n boxes) (place : v.place ≡ Place.Box n) (old : List Name) (sorted : IsIncreasing old)
    (gathered : Adds [] (kept_names a boxes) old) (s : NewNames) (same_old : s.old.items ≡ old) (same_worker : s.worker ≡ v.worker) (same_next : s.next ≡ v.next) (c : Copied)
    (older : Bool) (lead : older ≡ true → AllByRecursion (LeadsOlderBy (swapped_name s) v.table.program.templates.nodes) (kept a boxes))
    (are : AreBoxesBy s older n a (kept a boxes) c.copies.items) (count : c.names ≡ length old) (copy : c.copy ≡ swapped_name s n) where
  olds : AreNamesCopied (table_of v.table) n a s.old.items
  olds = subst (AreNamesCopied (table_of v.table) n a) (sym same_old) (names_copied v seen boxes n a inside old sorted gathered)

  made_by : AreMade (table_of v.table) n a (swapping s.old.items s.worker s.next) (map (box_copy v.table.program.templates.nodes) c.copies.items)
  made_by = all_made v seen boxes n a inside s olds older c.copies.items are

  pub is_split : IsSplitInto v a c
  is_split = record {
    name = n;
    place = place;
    old = s.old.items;
    are_old = olds;
    names = count ∙ ap length (sym same_old);
    solved = subst (λ (ss : List Stored). AreSolvedOver v.table.program.templates.nodes ss (map (box_copy v.table.program.templates.nodes) c.copies.items)) (sym (stores_around v seen))
        (solved_over v seen boxes n a inside place s olds older c.copies.items are lead same_worker same_next);
    copy = copy ∙ (λ k. swapping s.old.items (same_worker k) (same_next k) n);
    made = subst (λ (w : ℕ). AreMade (table_of v.table) n a (swapping s.old.items w v.next) (map (box_copy v.table.program.templates.nodes) c.copies.items)) same_worker
        (subst (λ (k : ℕ). AreMade (table_of v.table) n a (swapping s.old.items s.worker k) (map (box_copy v.table.program.templates.nodes) c.copies.items)) same_next made_by);
  }
