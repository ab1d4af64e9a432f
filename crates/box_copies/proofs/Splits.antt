-- The copies are what a label of Split makes, where it applies.
use Rattle.std.proofs.Common.{◌≡◌, ℕ, List, map, Some, sym, ◌∙◌, ap, subst}
use Rattle.std.specs.Prelude.{slice_index}
use Rattle.akl_terms.specs.declared.name.Name.{Name}
use Rattle.akl_terms.specs.declared.name.Place.{Place}
use Rattle.akl_model.specs.declared.label.Rule.{Rule}
use Rattle.akl_model.specs.declared.label.Label.{Label}
use Rattle.akl_model.specs.Config.{Config, Found, site_of}
use Rattle.akl_model.specs.Derivations.{Applies}
use Rattle.akl_model.specs.Wakes.{names_around}
use Rattle.akl_model.proofs.Options.{some_value}
use Rattle.local_store.specs.Stored.{Stored}
use Rattle.local_store.specs.Chained.{around}
use Rattle.table_laws.specs.Rows.{stores_along}
use Rattle.table_laws.specs.Steps.{splits, Makes, IsSolvedIn}
use Rattle.table_laws.specs.Copying.{swapping, AreMade}
use Rattle.table_laws.proofs.CopiesMade.{copies_law, names_drawn}
use Rattle.box_tree.specs.Tables.{all_rules, table_of, box_copy}
use Rattle.box_tree.specs.Views.{ViewValue, IsViewOf, run_of}
use Rattle.box_tree.proofs.StoresAround.{stores_around}
use Rattle.box_copies.specs.declared.copying.Copied.{Copied}
use Rattle.box_copies.specs.Copies.{AreSolvedOver, IsSplitInto}

module _ (v : ViewValue) (seen : IsViewOf v) (a : Name) (c : Copied) (x : IsSplitInto v a c) (l : Label) (d : Config) (applies : Applies all_rules v.table.program seen.table.config l d) (rule : l.rule ≡ Rule.Split)
    (place : l.place ≡ v.place) (alternative : l.alternative ≡ Some a) (worker : l.worker ≡ v.worker) where
  next : v.next ≡ slice_index seen.table.config.next l.worker
  next = seen.next ∙ ap (slice_index seen.table.config.next) (sym worker)

  pub split_made : Makes v.table.program l (slice_index seen.table.config.next l.worker) applies.site (splits c.copy (map (box_copy v.table.program.templates.nodes) c.copies.items))
  split_made = subst (λ (copy : Name). Makes v.table.program l (slice_index seen.table.config.next l.worker) applies.site (splits copy (map (box_copy v.table.program.templates.nodes) c.copies.items)))
      (sym (x.copy ∙ (λ i. swapping x.old (sym worker i) (next i) x.name)))
      (copies_law all_rules (run_of v.table v.journal) (table_of v.table) l d seen.table applies x.name a x.old (map (box_copy v.table.program.templates.nodes) c.copies.items) rule (place ∙ x.place) alternative x.are_old
      (subst (λ (w : ℕ). AreMade (table_of v.table) x.name a (swapping x.old w (slice_index seen.table.config.next l.worker)) (map (box_copy v.table.program.templates.nodes) c.copies.items)) (sym worker)
      (subst (λ (k : ℕ). AreMade (table_of v.table) x.name a (swapping x.old v.worker k) (map (box_copy v.table.program.templates.nodes) c.copies.items)) next x.made)))

  pub split_draws : c.names ≡ applies.change.drawn
  split_draws = x.names ∙ names_drawn all_rules (run_of v.table v.journal) (table_of v.table) l d seen.table applies x.name a x.old rule (place ∙ x.place) alternative x.are_old

  pub split_solved : IsSolvedIn (table_of v.table) applies.site (splits c.copy (map (box_copy v.table.program.templates.nodes) c.copies.items))
  split_solved = subst (λ (ss : List Stored). AreSolvedOver v.table.program.templates.nodes ss (map (box_copy v.table.program.templates.nodes) c.copies.items)) outer x.solved
    where
      site : seen.site ≡ applies.site
      site = some_value (sym seen.is_site ∙ ap (λ (z : Place). site_of z seen.table.config.roots) (sym place) ∙ applies.is_site)

      outer : around v.stores ≡ stores_along (table_of v.table) (names_around applies.site)
      outer = stores_around v seen ∙ ap (λ (f : Found). stores_along (table_of v.table) (names_around f)) site
