-- What a core's table says of its configuration.
use Rattle.std.proofs.Common.{◌≡◌, true, false, Option, Some, None, refl, sym, ap, subst, ◌∙◌}
use Rattle.std.specs.Prelude.{is_some, option_map, option_and_then}
use Rattle.akl_terms.specs.declared.name.Name.{Name}
use Rattle.akl_terms.specs.declared.name.Place.{Place}
use Rattle.akl_model.specs.declared.label.Label.{Label}
use Rattle.akl_model.specs.Config.{Held, Found, held_in, box_at, site_of}
use Rattle.akl_model.specs.Changes.{shape_of}
use Rattle.akl_model.specs.Instances.{start}
use Rattle.akl_model.specs.Wakes.{IsThere}
use Rattle.akl_model.proofs.NamesKept.{replay-stands}
use Rattle.akl_model.proofs.Results.{Derives-one}
use Rattle.akl_model.proofs.Options.{some_value}
use Rattle.step_laws.proofs.There.{site_there, there_site}
use Rattle.step_laws.proofs.Whereabouts.{home_in}
use Rattle.local_store.specs.Stored.{Stored}
use Rattle.table_laws.specs.Rows.{BoxRow, GoalRow, Table, store_in}
use Rattle.table_laws.specs.Writes as writes
use Rattle.table_laws.specs.Unfolds.{IsBoxRow}
use Rattle.table_laws.specs.Stamped.{Run, IsTableOf}
use Rattle.table_laws.proofs.Frame.{both_there}
use Rattle.table_laws.proofs.Insides as insides
use Rattle.box_tree.specs.Tables.{all_rules, TableValue, table_of, store_at}
use Rattle.box_tree.specs.Views.{is_there}
use Rattle.box_tree.specs.declared.view.Sight.{Sight}
use Rattle.box_tree.specs.Drops.{IsOfRun}
use Rattle.box_tree.specs.Paths.{sight_in}
use Rattle.box_tree.proofs.Viewed.{StandsAt, seen}
use Rattle.opened_places.specs.declared.around.Around.{Around}
use Rattle.opened_places.specs.Exact.{IsAround, site_in}
use Rattle.opened_places.proofs.RunRows.{sight_site, no_sight}
use Rattle.step_commit.specs.Cores.{CoreValue, TableIn, run_by, IsCore}

-- a run has one configuration
pub one_config : (c : CoreValue) (t u : TableIn c) → t.config ≡ u.config
one_config c t u = Derives-one all_rules c.table.program (start c.table.program c.table.query) t.config u.config c.journal t.replays.derives u.replays.derives

-- a place that is there has a row
module _ (v : TableValue) (run : Run) (t : IsTableOf all_rules run (table_of v)) where
  on_site : (place : Place) (f : Found) → site_of place t.config.roots ≡ Some f → is_there (table_of v) place ≡ true
  on_site (Place.Box n) f e =
      let w : (r : BoxRow) × ((table_of v).box_of n ≡ Some r) × IsBoxRow (table_of v) t.config.roots f r = both_there (IsBoxRow (table_of v) t.config.roots) (box_at n t.config.roots) ((table_of v).box_of n) f (t.unfolds.boxes n) e in
      ap is_some w.1
  on_site (Place.Goal g) f e =
      let h : (h : Held) × (held_in g f.goals ≡ Some h) = (home_in g t.config.roots f e).1 in
      let w : (r : GoalRow) × ((table_of v).goal_of g ≡ Some r) × (r.home ≡ f.content.name) × (r.shape ≡ shape_of h.0) =
      insides.goal_row (table_of v) t.config t.unfolds (replay-stands all_rules run.program run.query run.journal t.config t.replays).once g f h.0 e h.1 in
      ap is_some w.1

  pub row_there : (place : Place) → IsThere place t.config.roots → is_there (table_of v) place ≡ true
  row_there place h = let w : (f : Found) × (site_of place t.config.roots ≡ Some f) = there_site place t.config.roots h in on_site place w.0 w.1

-- the box of a place that is there is there
pub home_there : (v : TableValue) (run : Run) (t : IsTableOf all_rules run (table_of v)) (l : Label) (x : Around) → IsAround (table_of v) l x → is_there (table_of v) l.place ≡ true → is_there (table_of v) (Place.Box x.home) ≡ true
home_there v run t l x k e = on (sight_in v l.place) refl
  where
    on : (o : Option (Name × Sight)) → sight_in v l.place ≡ o → is_there (table_of v) (Place.Box x.home) ≡ true
    on None q = let z : false ≡ true = sym (no_sight v l.place q) ∙ e in absurd cc
    on (Some w) q =
        let s : StandsAt v t.config l.place w.0 w.1 = seen v t.config t.unfolds (replay-stands all_rules run.program run.query run.journal t.config t.replays).once l.place w.0 w.1 q in
        let same : w.0 ≡ x.home = some_value (sym (sight_site v l.place w.0 w.1 q).0 ∙ k.home) in
        row_there v run t (Place.Box x.home) (site_there (Place.Box x.home) t.config.roots s.found (ap (λ (n : Name). box_at n t.config.roots) (sym same) ∙ s.is_box))

-- and its store is that of the place
pub home_store : (T : Table) (l : Label) (x : Around) (store : Stored) → IsAround T l x → option_map (λ (r : BoxRow). r.store) (T.box_of x.home) ≡ Some store → store_at T l.place ≡ store
home_store T l x store k e = on l.place k.home
  where
    stored : (o : Option BoxRow) → option_map (λ (r : BoxRow). r.store) o ≡ Some store → store_in o ≡ store
    stored None q = absurd cc
    stored (Some r) q = some_value q

    at_home : (o : Option Name) → o ≡ Some x.home → store_in (option_and_then T.box_of o) ≡ store
    at_home o q = ap (λ (p : Option Name). store_in (option_and_then T.box_of p)) q ∙ stored (T.box_of x.home) e

    on : (place : Place) → site_in T place ≡ Some x.home → store_at T place ≡ store
    on (Place.Goal g) q = at_home (writes.home_in (T.goal_of g)) q
    on (Place.Box n) q = ap (λ (m : Name). store_in (T.box_of m)) (some_value q) ∙ stored (T.box_of x.home) e

-- the table of a core is one to which a run has led
pub of_run : (c : CoreValue) → IsCore c → (t : TableValue) → t ≡ c.table → IsOfRun t
of_run c k t e = subst IsOfRun (sym e) (run_by c, k.table)
