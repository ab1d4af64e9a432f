-- What is listed for a call at once is what it changes, each place with the boxes around it afterwards.
use Rattle.std.proofs.Common.{◌≡◌, List, Some, sym, subst}
use Rattle.akl_terms.specs.declared.name.Name.{Name}
use Rattle.akl_model.specs.declared.label.Label.{Label}
use Rattle.akl_model.specs.Config.{Config, site_of}
use Rattle.akl_model.specs.Wakes.{names_down_to}
use Rattle.plan_laws.specs.AtOnce.{at_once}
use Rattle.table_laws.specs.Rows.{Table}
use Rattle.table_laws.specs.Stamped.{Run, IsTableOf}
use Rattle.table_laws.specs.Steps.{Step, joins}
use Rattle.box_tree.specs.Tables.{all_rules}
use Rattle.opened_places.specs.declared.around.Around.{Around}
use Rattle.opened_places.specs.Placed.{PlacedValue, places_of, goals_placed}
use Rattle.opened_places.specs.Exact.{IsAround, AreExactly, AreChangedTo}
use Rattle.opened_places.specs.Leading.{CallsTo}
use Rattle.opened_places.specs.Listed.{goal_goes, AreListed}
use Rattle.opened_places.proofs.CallPlaces as call
use Rattle.opened_places.proofs.Leading.{call_site}
use Rattle.opened_places.proofs.Members.{firsts}
use Rattle.opened_places.proofs.OldAround.{goes_stand}
use Rattle.opened_places.proofs.PlacesListed.{listed_places}
use Rattle.opened_places.proofs.StillAround.{still_and_new}

module _ (r : Run) (T : Table) (t : IsTableOf all_rules r T) (l : Label) (more : List Label) (step : Step) (d : Config) (w : CallsTo r.program t.config l more step d) (x : Around) (k : IsAround T l x) where
  abbrev net : Config
  net = at_once w.calls

  abbrev path : List Name
  path = names_down_to w.site

  is_site : site_of l.place t.config.roots ≡ Some w.site
  is_site = call_site r.program t.config l more step d w

  module _ (ps : List PlacedValue) (list : AreListed l.place x path step ps) where
    are_listed : AreListed l.place x path (joins w.new w.is_solved w.goals) ps
    are_listed = subst (λ (s : Step). AreListed l.place x path s ps) w.step_is list

    exact : AreExactly t.config net (places_of ps)
    exact = subst (AreExactly t.config net) (sym (listed_places l.place x path (joins w.new w.is_solved w.goals) ps are_listed))
        (call.call_exact r T t l.worker w.goal w.site w.is_home w.calls w.alternative w.new w.is_solved w.goals w.makes l is_site x k)

    pub call_around : AreChangedTo t.config d ps
    call_around = subst (λ (e : Config). AreChangedTo t.config e ps) w.result
        (still_and_new t.config net (call.was r T t l.worker w.goal w.site w.is_home w.calls w.alternative w.new w.is_solved w.goals w.makes)
        (call.now r T t l.worker w.goal w.site w.is_home w.calls w.alternative w.new w.is_solved w.goals w.makes) (call.further r T t l.worker w.goal w.site w.is_home w.calls w.alternative w.new w.is_solved w.goals w.makes)
        ps exact (goal_goes x path) (goals_placed path (firsts w.goals)) are_listed
        (goes_stand T t.config t.unfolds (call.was r T t l.worker w.goal w.site w.is_home w.calls w.alternative w.new w.is_solved w.goals w.makes).once l w.site is_site x k)
        (call.call_new r T t l.worker w.goal w.site w.is_home w.calls w.alternative w.new w.is_solved w.goals w.makes))
