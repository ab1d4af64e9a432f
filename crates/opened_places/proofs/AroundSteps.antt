-- What is listed for a step is what changes, each place with the boxes around it afterwards.
use Rattle.std.proofs.Common.{◌≡◌, ◌≤◌, List, map, Some, sym, ◌∙◌, ap, subst}
use Rattle.std.specs.Prelude.{slice_index}
use Rattle.std.specs.List.{AllByRecursion}
use Rattle.akl_terms.specs.declared.name.Name.{Name}
use Rattle.akl_terms.specs.declared.name.Place.{Place}
use Rattle.akl_terms.specs.declared.term.Node.{Node}
use Rattle.akl_model.specs.declared.label.Rule.{Rule}
use Rattle.akl_model.specs.declared.label.Label.{Label}
use Rattle.akl_model.specs.Config.{Atom, Config, Found, box_at, home_of, site_of}
use Rattle.akl_model.specs.Derivations.{Applies}
use Rattle.akl_model.specs.Wakes.{names_down_to, IsOneOf, IsThere}
use Rattle.akl_model.proofs.Finds.{times}
use Rattle.akl_model.proofs.NamesKept.{Stand, replay-stands}
use Rattle.akl_model.proofs.Options.{some_value}
use Rattle.step_laws.proofs.Steps.{Later}
use Rattle.table_laws.specs.Rows.{Table}
use Rattle.table_laws.specs.Stamped.{Run, IsTableOf}
use Rattle.table_laws.specs.Steps.{Step, tells, forks, fails, cuts, joins, refutes, confirms, splits, Makes}
use Rattle.local_store.specs.Stored.{Stored}
use Rattle.box_tree.specs.declared.step.Step as declared
use Rattle.box_tree.specs.Tables.{all_rules, TableValue, table_of, step_of, step_in, store_at}
use Rattle.box_tree.specs.Views.{run_of}
use Rattle.box_tree.specs.Paths.{IsPath}
use Rattle.opened_places.specs.declared.around.Around.{Around}
use Rattle.opened_places.specs.Placed.{PlacedValue, places_of, StandsSo, all_but_last, goals_placed}
use Rattle.opened_places.specs.Copies.{AddsCopies}
use Rattle.opened_places.specs.Leading.{by_label, by_call}
use Rattle.opened_places.specs.Exact.{IsAround, AreExactly, AreChangedTo, AreChanged}
use Rattle.opened_places.specs.Listed.{holder_both, new_placed, law_part, goal_turns, goal_goes, box_parts, AreListed}
use Rattle.opened_places.proofs.ListedPlaces.{copy_places}
use Rattle.opened_places.proofs.Members.{one_left}
use Rattle.opened_places.proofs.PlacesListed.{listed_places, copies_are}
use Rattle.opened_places.proofs.RunRows.{around_of_path, path_is}
use Rattle.opened_places.proofs.AtSite as site
use Rattle.opened_places.proofs.AtRows as rows
use Rattle.opened_places.proofs.StillAround as still
use Rattle.opened_places.proofs.OldAround as old
use Rattle.opened_places.proofs.NewAround as new
use Rattle.opened_places.proofs.CopyAround as copied
use Rattle.opened_places.proofs.SplitSteps as split
use Rattle.opened_places.proofs.ExactSteps.{exact}
use Rattle.opened_places.proofs.Leading.{call_site}
use Rattle.opened_places.proofs.CallAround.{call_around}

module _ (rules : List Rule) (r : Run) (T : Table) (l : Label) (d : Config) (t : IsTableOf rules r T) (a : Applies rules r.program t.config l d) (x : Around) (k : IsAround T l x) where
  abbrev path : List Name
  path = names_down_to a.site

  was : Stand t.config
  was = site.before rules r.program r.query r.journal t.config l d t.replays a

  now : Stand d
  now = site.afterwards rules r.program r.query r.journal t.config l d t.replays a

  further : Later t.config d
  further = site.further rules r.program r.query r.journal t.config l d t.replays a

  is_exact : (step : Step) → Makes r.program l (slice_index t.config.next l.worker) a.site step → (ps : List PlacedValue) → AreListed l.place x path step ps → AreExactly t.config d (places_of ps)
  is_exact step makes ps list = subst (AreExactly t.config d) (sym (listed_places l.place x path step ps list)) (exact rules r T l d t a x k step makes)

  -- all that is listed stood before
  whole : (step : Step) → Makes r.program l (slice_index t.config.next l.worker) a.site step → (ps : List PlacedValue) → AreListed l.place x path step ps → (qs : List PlacedValue) → ps ≡ qs
      → AllByRecursion (StandsSo t.config.roots) qs → AreChangedTo t.config d ps
  whole step makes ps list = still.still_whole t.config d was now further ps (is_exact step makes ps list)

  goes_stand : AllByRecursion (StandsSo t.config.roots) (goal_goes x path)
  goes_stand = old.goes_stand T t.config t.unfolds was.once l a.site a.is_site x k

  turns_stand : (g : Name) → l.place ≡ Place.Goal g → AllByRecursion (StandsSo t.config.roots) (goal_turns l.place x path)
  turns_stand = old.turns_stand T t.config t.unfolds was.once l a.site a.is_site x k

  pub all_around : (step : Step) → Makes r.program l (slice_index t.config.next l.worker) a.site step → (ps : List PlacedValue) → AreListed l.place x path step ps → AreChangedTo t.config d ps
  all_around (tells s b) makes ps e = whole (tells s b) makes ps e (goal_goes x path) e goes_stand
  all_around (forks op news) makes ps e = still.still_and_new t.config d was now further ps (is_exact (forks op news) makes ps e) (goal_turns l.place x path) (new_placed path news) e (turns_stand makes.1.0 makes.1.1) (new.forked_all rules r T l d t a op news makes)
  all_around fails makes ps e = whole fails makes ps e (holder_both (all_but_last path) x.holder) e (old.both_stand T t.config t.unfolds was.once l a.site a.is_site x k)
  all_around cuts makes ps e = whole cuts makes ps e (goal_turns l.place x path) e (turns_stand makes.1.0 makes.1.2)
  all_around (joins s b goals) makes ps e = still.still_and_new t.config d was now further ps (is_exact (joins s b goals) makes ps e) (goal_goes x path) (goals_placed path (map (λ (y : Name × Atom). y.0) goals)) e goes_stand (new.promoted_all rules r T l d t a s b goals makes)
  all_around refutes makes ps e = whole refutes makes ps e (goal_turns l.place x path) e (turns_stand makes.1.0 makes.1.1)
  all_around confirms makes ps e = whole confirms makes ps e (goal_goes x path) e goes_stand
  all_around (splits copy copies) makes ps e = record {
    exactly = is_exact (splits copy copies) makes ps e;
    around = copied.split_all rules r T l d t a copy copies makes (box_parts x path) ps
        (subst (λ (ns : List Name). AddsCopies ns (map law_part copies) (map law_part copies) (box_parts x path) ps) (around_of_path a.site) e)
        (still.still_all t.config d was now further (box_parts x path) (old.parts_stand T t.config t.unfolds was.once l a.site a.is_site x k choice) before);
  }
    where
      choice : (g : Name) → x.choice ≡ Some g → home_of g t.config.roots ≡ Some a.site
      choice g q = ap (λ (m : Name). home_of m t.config.roots) (some_value (sym q ∙ split.choice_is rules r T l d t a copy copies makes x k)) ∙ split.home_was rules r T l d t a copy copies makes

      before : (p : Place) → IsOneOf p (places_of (box_parts x path)) → IsThere p d.roots
      before p i = still.exact_there t.config d was now further ps (is_exact (splits copy copies) makes ps e) p (subst (IsOneOf p) (sym (copies_are (all_but_last path) (map law_part copies) copies (box_parts x path) ps e)) (one_left p (places_of (box_parts x path)) (copy_places copies) i))

-- in a table, by the boxes down to the box of the place
pub changed_where : (v : TableValue) (l : Label) (step : declared.Step) (x : Around) (path : List Name) (ps : List PlacedValue) → IsAround (table_of v) l x → IsPath (table_of v) x.home path
    → ((nodes : List Node) (s : Stored) → AreListed l.place x path (step_of nodes s step) ps) → AreChanged v l step ps
changed_where v l step x path ps k p list = λ journal t more d leads.
    let T = table_of v in
    let r : Run = run_of v journal in
    let made : Step = step_in v l step in
    let once : (m : Name) → times m t.config.roots ≤ 1 = (replay-stands all_rules v.program v.query journal t.config t.replays).once in
    let at : (site : Found) → site_of l.place t.config.roots ≡ Some site → AreListed l.place x (names_down_to site) made ps =
    λ site is_site.
    let there : box_at x.home t.config.roots ≡ Some site = ap (λ (n : Name). box_at n t.config.roots) (rows.home_is T t.config t.unfolds once l site is_site x k) ∙ rows.site_there T t.config t.unfolds once l site is_site x k in
    subst (λ (ns : List Name). AreListed l.place x ns made ps) (path_is v r t x.home site path there p) (list v.program.templates.nodes (store_at (table_of v) l.place))
    in
    elim leads [
      | by_label a makes alone ↦ all_around all_rules r T l d t a x k made makes ps (at a.site a.is_site)
      | by_call w ↦ call_around r T t l more made d w x k ps (at w.site (call_site r.program t.config l more made d w))
    ]
